pub mod PinLaws
