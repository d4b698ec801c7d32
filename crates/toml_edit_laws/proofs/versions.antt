-- The laws of the versions of the grammar.
pub mod LatePlaces
pub mod LateValues
pub mod Accepting
pub mod Faulty
pub mod EarlyNormal
pub mod EarlyPrints
pub mod VersionFaults
