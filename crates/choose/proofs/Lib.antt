pub mod PlaceLaws
pub mod HitLaws
pub mod SharingLaws
