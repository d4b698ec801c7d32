pub mod Parts
pub mod Values
pub mod Statements
pub mod Documents
