-- Cited by public contracts.
pub mod DateView
pub mod TimeView
pub mod OffsetView
pub mod DatetimeView
pub mod ReadsDatetime
-- Cited inside this crate alone.
pub mod HeldText
pub mod PartsView
pub mod FractionText
