-- Lemmas on runs.
pub mod Reading
pub mod Spelled
pub mod Local
pub mod Ends
