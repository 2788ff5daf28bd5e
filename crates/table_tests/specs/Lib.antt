pub mod Rows
pub mod Tests
pub mod PoolRule
pub mod RangeRule
pub mod InputTable
