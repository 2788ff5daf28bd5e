pub mod ServeLaws
pub mod RecordLaws
