pub mod SelectLaws
pub mod ChainLaws
pub mod DecideLaws
pub mod ListLaws
pub mod RoomLaws
