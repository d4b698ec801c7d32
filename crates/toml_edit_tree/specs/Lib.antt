-- Cited by public contracts.
pub mod View
pub mod Held
pub mod Printing
pub mod Casts
pub mod Containers
pub mod ContainerParts
pub mod TableLending
pub mod Elements
pub mod ArrayLines
pub mod LineComments
pub mod LinesRetained
pub mod ElementHolds
pub mod ElementLending
pub mod ItemParts
pub mod ItemPlaces
pub mod ElementClosures
pub mod ElementSorts
pub mod ElementParts
pub mod SlotsOf
pub mod InlineSlots
pub mod InlineParts
pub mod InlineValues
pub mod InlineLending
pub mod LineValues
pub mod Visits
pub mod TableEntries
pub mod InlineEntries
pub mod InlineSlotParts
pub mod Sorts
pub mod Indexed
pub mod Faults
-- Cited inside this crate alone.
pub mod Converting
pub mod Emptied
-- Worked examples: nothing cites them.
pub mod examples
