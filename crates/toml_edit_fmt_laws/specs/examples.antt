-- Worked layouts of places, of documents with their comments, of what rules leave, and of groups.
pub mod Places
pub mod Documents
pub mod PlacedTexts
pub mod Groups
