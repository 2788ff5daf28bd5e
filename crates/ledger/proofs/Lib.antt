pub mod AlongLaws
pub mod EntryLaws
pub mod MeansLaws
pub mod LedgerLaws
pub mod LedgerExample
