mod Words
pub mod Keeping
pub mod Created
pub mod Opened
pub mod RedefinedLaws
pub mod Redefinable
pub mod ReadyLaws
pub mod NotReady
pub mod Asked
pub mod Untold
