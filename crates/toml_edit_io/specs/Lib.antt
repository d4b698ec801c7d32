-- Cited by public contracts.
pub mod Watch
pub mod Streams
pub mod Sinks
