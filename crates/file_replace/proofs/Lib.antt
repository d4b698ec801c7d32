pub mod Asked
pub mod Crashes
