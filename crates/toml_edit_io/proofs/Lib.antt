-- Lemmas on streams.
pub mod Known
pub mod Puts
pub mod SinkLaws
