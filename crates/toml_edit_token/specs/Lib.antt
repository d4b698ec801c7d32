-- Cited by public contracts.
pub mod Classes
pub mod Decoded
-- Cited inside this crate alone.
pub mod Lanes
pub mod BlockPieces
