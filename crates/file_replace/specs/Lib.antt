pub mod Events
pub mod Replacing
pub mod Crash
-- Worked examples: nothing cites them.
pub mod examples
