-- Lemmas on calls.
pub mod Outcomes
pub mod Splitting
pub mod Ending
pub mod Items
pub mod Indexing
