pub mod Facts
pub mod Lines
pub mod Values
pub mod HeaderSlots
pub mod HeaderPrints
