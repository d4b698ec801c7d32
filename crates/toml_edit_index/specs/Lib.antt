pub mod Indexed
pub mod Lines
pub mod IndexSteps
-- Worked examples: nothing cites them.
pub mod examples
