-- Worked examples of changes at a path.
pub mod Calls
pub mod Lines
