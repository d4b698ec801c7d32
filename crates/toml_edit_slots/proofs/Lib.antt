-- Lemmas of this crate.
pub mod HashedLaws
pub mod IndexLaws
pub mod PlacesLaws
pub mod NewLaws
pub mod SlotLaws
pub mod KeptLaws
pub mod ClosureLaws
pub mod SeenLaws
pub mod OrderLaws
pub mod MoveLaws
pub mod RenameLaws
