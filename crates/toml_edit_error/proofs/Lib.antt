pub mod Characters
pub mod Lines
pub mod Cuts
pub mod Excerpts
