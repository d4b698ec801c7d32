pub mod Limits
pub mod Parts
pub mod NoWorse
pub mod Below
pub mod Held
pub mod NewKeys
pub mod Calls
