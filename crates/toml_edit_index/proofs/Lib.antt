pub mod LineLaws
pub mod IndexLaws
