-- Cited by public contracts.
pub mod Report
pub mod Fault
pub mod Sameness
pub mod SamenessLaws
-- Cited inside this crate alone.
pub mod Place
