-- Lemmas on words.
pub mod Numbers
pub mod RuleLaws
-- On patterns and on files of settings.
mod RowLaws
mod SaidLaws
