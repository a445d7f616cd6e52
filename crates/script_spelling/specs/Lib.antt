pub mod SpelledValues
pub mod SpelledCalls
pub mod Statements
pub mod Described
pub mod Spelling
