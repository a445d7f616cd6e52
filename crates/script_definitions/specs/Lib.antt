pub mod DraftWords
pub mod RecordName
