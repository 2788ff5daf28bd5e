pub mod SofarLaws
pub mod StepLaws
pub mod LoopLaws
pub mod GotLaws
pub mod OutputLaws
