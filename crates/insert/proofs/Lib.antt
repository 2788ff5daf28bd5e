pub mod FirstLaws
pub mod OpenLaws
pub mod TellLaws
pub mod InsertLaws
pub mod HoldLaws
pub mod PairLaws
pub mod AdmitLaws
