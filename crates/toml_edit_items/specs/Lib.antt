pub mod Kinds
pub mod Texts
pub mod Shapes
pub mod Below
-- Worked examples: nothing cites them.
pub mod examples
