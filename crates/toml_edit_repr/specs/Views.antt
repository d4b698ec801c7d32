-- What a contract sees of texts and scalars.
use Rattle.std.specs.Prelude.{Option}
use Rattle.toml_edit_model.specs.Tree.{Raw, Decor}
pub use Rattle.toml_edit_text.specs.RawText.{text_of, range_of}

-- a scalar with its spelling and its decor
pub record FormattedView (X : Type 0) : Type 0 where
  pub value : X
  pub repr : Option Raw
  pub decor : Decor
