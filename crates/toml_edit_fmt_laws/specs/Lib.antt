-- Cited by the laws.
pub mod Rules
pub mod Laying
pub mod Formatted
pub mod Aligned
pub mod Sorted
pub mod SortedPromises
pub mod Remarks
pub mod Promises
pub mod Places
-- Worked examples: nothing cites them.
pub mod examples
