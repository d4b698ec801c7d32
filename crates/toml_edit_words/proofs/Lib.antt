-- Lemmas on words.
pub mod Keys
pub mod Read
