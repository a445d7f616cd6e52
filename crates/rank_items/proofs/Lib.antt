mod Words
pub mod OwnLaws
pub mod OwnBytes
