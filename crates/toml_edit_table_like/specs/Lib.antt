-- Cited by public contracts.
pub mod Shown
pub mod Kinds
pub mod Lending
pub mod SlotParts
pub mod Putting
pub mod Refs
pub mod InItems
pub mod MutRefs
pub mod Entries
