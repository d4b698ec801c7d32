pub mod ShownLaws
pub mod FoundLaws
pub mod MadeLaws
pub mod SlotLaws
pub mod PutLaws
pub mod InItemLaws
pub mod MutLaws
pub mod EntryLaws
