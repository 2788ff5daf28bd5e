pub mod Tests
pub mod InputRule
