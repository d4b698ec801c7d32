-- A document that is formatted by its print.
use Rattle.std.specs.Prelude.{◌≡◌}
use Rattle.toml_edit_model.specs.Fits.{FitsIn}
use Rattle.toml_edit_model.specs.Text.{Text}
use Rattle.toml_edit_model.specs.Version.{v1_1}
use Rattle.toml_edit.specs.DocumentView.{mode_owned, open_owned, print_of, tree_owned}
use Rattle.toml_edit.specs.Documents.{IsOwnedReadingIn}
use Rattle.toml_edit.specs.declared.document.DocumentMut.{DocumentMut}
use Rattle.toml_edit_fmt_laws.specs.Rules.{Rules}
use Rattle.toml_edit_fmt.specs.TextView.{IsFormatted}

-- The old document fits, and the new one is read, in its mode, of the formatted text of its print.
pub record IsFormattedDocument (r : Rules) (old new : DocumentMut) : Type 0 where
  pub fits : FitsIn (mode_owned old) (tree_owned old)
  pub text : Text
  pub formatted : IsFormatted r (print_of old) text
  pub read : IsOwnedReadingIn (mode_owned old) v1_1 text (tree_owned new) (open_owned new)
  pub mode : mode_owned new ≡ mode_owned old
