-- Cited by public contracts.
pub mod Words
pub mod Edits
pub mod Written
pub mod Mistakes
pub mod Run
pub mod Steps
-- Cited inside this crate alone.
pub mod Forms
