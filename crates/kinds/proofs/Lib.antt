pub mod KindLaws
pub mod SetLaws
pub mod MsiLaws
pub mod GrantLaws
