-- Lemmas of this crate.
pub mod WalkLaws
pub mod BelowLaws
pub mod PathLaws
