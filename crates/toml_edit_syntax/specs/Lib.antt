-- Cited by public contracts.
pub mod ValueEvents
pub mod Events
pub mod Faults
pub mod LoneEvents
pub mod LonePath
pub mod LateSpellings
pub mod LateTrivia
pub mod LateEvents
pub mod Grammar
pub mod Batches
-- Cited inside this crate alone.
pub mod Scanning
pub mod ValueReading
pub mod Reading
pub mod EventReading
pub mod Gives
pub mod StatementReading
