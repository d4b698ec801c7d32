-- Cited by public contracts.
pub mod Spelled
