-- Worked examples of the lines of an array, and of items without what they hold.
pub mod ArrayLines
pub mod Emptied
pub mod LineComments
