pub mod Diff
pub mod Steps
