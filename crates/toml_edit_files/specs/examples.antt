-- Worked examples of what commands write.
pub mod Edited
pub mod Outcomes
pub mod Refusals
pub mod Requests
pub mod Walks
