pub mod Sent
pub mod Put
pub mod Taken
pub mod Dues
pub mod Feeds
pub mod Helped
pub mod Workers
