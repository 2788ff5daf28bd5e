pub mod LineLaws
pub mod WalkLaws
pub mod EndLaws
pub mod PinnedLaws
pub mod WriteLaws
