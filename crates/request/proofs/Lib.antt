pub mod GoodLaws
pub mod NarrowLaws
