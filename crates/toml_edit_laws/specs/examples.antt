-- Worked examples of edits of trees.
pub mod Edits
pub mod Orders
