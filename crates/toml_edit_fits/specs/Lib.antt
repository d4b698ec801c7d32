-- Cited by public contracts.
pub mod Misfits
pub mod MisfitViews
pub mod BrokenRules
-- Cited inside this crate alone.
pub mod TriviaTests
pub mod FitTests
pub mod LinePlaces
pub mod OrderTests
pub mod EarlyTests
