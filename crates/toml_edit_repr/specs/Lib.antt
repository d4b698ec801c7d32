-- Cited by public contracts.
pub mod Views
pub mod Modes
pub mod Sameness
pub mod SamenessLaws
pub mod Shown
pub mod LendingParts
pub mod Comments
pub mod CommentsLeft
pub mod CommentPlaces
