-- Worked kinds, texts, keys and paths of items.
pub mod Items
pub mod Below
