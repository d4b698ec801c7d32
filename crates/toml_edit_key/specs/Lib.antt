-- Cited by public contracts.
pub mod Kept
pub mod Keys
pub mod LendingParts
pub mod KeyMutView
pub mod KeyLending
