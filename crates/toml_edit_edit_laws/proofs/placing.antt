pub mod Lists
pub mod Along
pub mod InBlock
pub mod Inserting
pub mod Moving
pub mod MovingLines
pub mod Meaning
pub mod Inside
