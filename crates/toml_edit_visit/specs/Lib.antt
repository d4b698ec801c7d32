-- Cited by public contracts.
pub mod Below
pub mod Steps
-- Worked examples: nothing cites them.
pub mod examples
