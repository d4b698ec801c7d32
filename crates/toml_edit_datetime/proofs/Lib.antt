-- Lemmas of this crate.
pub mod Fractions
pub mod RangeLaws
pub mod FloatLoop
