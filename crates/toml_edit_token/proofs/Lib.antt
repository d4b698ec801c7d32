-- Lemmas of this crate.
pub mod ClassLaws
pub mod TableLaws
pub mod LaneLaws
pub mod BlockLoop
pub mod BasicLoop
pub mod NumberLoop
pub mod Decoding
pub mod Escaping
pub mod LoneLaws
pub mod Ends
pub mod WordReading
