-- How the parts of a text are read, from left to right: functions on lists of bytes, which the
-- contracts of the code cite.
pub mod Runs
pub mod Tokens
pub mod BlockReading
pub mod DatetimeReading
pub mod FloatReading
pub mod ScalarReading
