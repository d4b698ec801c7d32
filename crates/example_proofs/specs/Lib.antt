-- Cited by public contracts.
pub mod Dependencies
pub mod Edits
pub mod Faults
pub mod Formatted
pub mod Misspelled
pub mod Packages
pub mod Projects
pub mod Searching
pub mod Values
