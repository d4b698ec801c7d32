-- Worked renamings, places, places of paths, changes of comments, calls by paths, and edits and calls that keep a tree fit.
pub mod Renames
pub mod HeaderDecors
pub mod Places
pub mod PathPlaces
pub mod Calls
pub mod Commands
pub mod KeyCalls
pub mod Headed
pub mod Fitting
pub mod CallsFit
pub mod Means
