-- Worked examples.
pub mod Elements
pub mod Means
pub mod OthersStay
pub mod Said
pub mod Sections
