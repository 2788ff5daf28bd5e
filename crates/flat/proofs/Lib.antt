pub mod ReadLaws
pub mod PinLaws
pub mod NarrowLaws
pub mod ChoiceLaws
pub mod BackLaws
pub mod FlatLaws
pub mod StoreLaws
pub mod NumbersLaws
