-- Lemmas of this crate.
pub mod NumberLaws
pub mod ElementLaws
pub mod SlotLaws
pub mod ChangeLaws
pub mod ViewLaws
pub mod SetLaws
pub mod AlterLaws
pub mod ElementViews
pub mod StepLaws
pub mod LineLaws
pub mod KeyLaws
pub mod SeenLaws
