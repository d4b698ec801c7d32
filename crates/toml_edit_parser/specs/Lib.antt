-- Cited by public contracts.
pub mod ValueRead
pub mod PairRead
pub mod Options
pub mod Faults
pub mod Listed
pub mod LoneValue
pub mod ReadKeys
pub mod PathRead
pub mod StatementParts
pub mod TableRead
pub mod BlockRead
pub mod StatementRead
pub mod DocumentRead
-- Cited inside this crate alone.
pub mod ScalarRead
pub mod Near
