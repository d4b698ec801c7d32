pub mod Names
pub mod Along
pub mod Blocks
pub mod Printing
pub mod Others
pub mod Facts
pub mod Meaning
pub mod Lines
