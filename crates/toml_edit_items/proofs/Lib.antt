pub mod ShapeLaws
pub mod BelowLaws
