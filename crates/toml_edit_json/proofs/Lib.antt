pub mod Escaping
pub mod Numbers
pub mod Printing
pub mod Turns
pub mod Writing
