pub mod Together
pub mod FirstFaulty
