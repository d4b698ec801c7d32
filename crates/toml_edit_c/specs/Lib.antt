-- Cited by public contracts.
pub mod Asks
pub mod Statuses
pub mod Answers
pub mod Made
pub mod Checks
pub mod Formats
pub mod Split
pub mod Scripts
pub mod Runs
pub mod Items
pub mod Indexes
pub mod Spelled
