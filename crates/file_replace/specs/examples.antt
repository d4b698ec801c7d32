-- Worked examples: nothing cites them.
pub mod Crash
pub mod Replacing
