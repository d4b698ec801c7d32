-- Cited by the laws, and by contracts of calls by paths.
pub mod Commands
pub mod KeyCalls
pub mod Headed
pub mod CommandLaws
pub mod Renaming
pub mod Comments
pub mod Placing
pub mod DottedAdds
pub mod Staying
pub mod Places
pub mod PathEdits
pub mod HeaderAdds
pub mod Fitting
pub mod FittingInside
pub mod CallsFit
pub mod Means
-- Worked examples: nothing cites them.
pub mod examples
