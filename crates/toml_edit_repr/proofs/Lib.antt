-- Lemmas of this crate.
pub mod ReturnLaws
pub mod TrueSpellings
pub mod Integers
pub mod CommentLines
pub mod CommentsSuit
pub mod CommentCalls
pub mod CommentBodies
pub mod CommentsInside
