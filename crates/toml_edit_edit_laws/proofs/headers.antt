pub mod Seats
pub mod Shown
pub mod Adding
pub mod Setting
