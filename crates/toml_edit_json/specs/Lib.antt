pub mod Texts
pub mod Escapes
pub mod Values
pub mod Parts
