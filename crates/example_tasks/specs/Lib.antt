pub mod Findings
pub mod Headed
pub mod Misfit
pub mod Moves
pub mod Placed
pub mod Sorted
