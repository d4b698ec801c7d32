-- What containers do to their lists of slots.
pub mod Places
pub mod Views
pub mod Lists
pub mod Retains
pub mod Sorts
pub mod OneSort
pub mod DeepSorts
pub mod Those
