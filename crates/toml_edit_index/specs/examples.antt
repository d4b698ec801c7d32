-- Worked entries and nodes of an index.
pub mod Indexed
