pub mod BitForms
pub mod Lends
pub mod NumberForms
pub mod Values
