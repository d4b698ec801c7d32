-- Cited by public contracts.
pub mod Calls
pub mod Changes
pub mod Elements
pub mod Faults
pub mod Lines
pub mod Tables
-- Cited by private contracts.
pub mod Items
pub mod Setting
-- Worked examples: nothing cites them.
pub mod examples
