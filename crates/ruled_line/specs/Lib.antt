pub mod LineRule
pub mod InboxRule
pub mod Ends
