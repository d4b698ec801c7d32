-- Worked examples of walks.
pub mod Below
