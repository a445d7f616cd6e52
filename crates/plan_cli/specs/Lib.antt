pub mod Words
pub mod Outside
pub mod FaultLines
pub mod Opened
pub mod Headline
pub mod Stopped
pub mod Ends
