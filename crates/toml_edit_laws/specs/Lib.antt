-- Cited by the laws.
pub mod FlatTree
pub mod InlineTree
pub mod DefaultSpellings
pub mod TableTree
pub mod TableClash
pub mod OneByOne
pub mod InOrder
pub mod Offsets
pub mod FaultMessages
pub mod Extents
pub mod KeptKeys
pub mod Building
pub mod OneCut
pub mod AcceptedPrints
pub mod Reparse
pub mod PrintOfRead
pub mod OpenEnds
pub mod Locality
pub mod EditLists
pub mod NormalTexts
pub mod Versions
pub mod TextsFit
pub mod ReadTrees
pub mod PrintByVisits
-- Cited by contracts of other crates, and by the proofs of these laws.
pub mod Standing
pub mod AddPath
pub mod PlaceOrder
pub mod InPlace
pub mod reading
-- Worked examples: nothing cites them.
pub mod examples
