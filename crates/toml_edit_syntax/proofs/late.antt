-- What TOML 1.0 lacks, found in events.
pub mod EscapeSteps
pub mod Edges
pub mod Places
pub mod SpellingLaws
pub mod TriviaLaws
pub mod ScalarLaws
pub mod EventLaws
pub mod ShortenedLaws
pub mod StatementLaws
