-- The law of cuts: a text has at most one.
use Rattle.std.specs.Prelude.{◌≡◌}
use Rattle.toml_edit_model.specs.Text.{Text}
use Rattle.toml_edit_model.specs.Syntax.{Document, IsCut}

-- A text has at most one cut.
abbrev pub OneCut : Type 0
OneCut = (t : Text) (d e : Document) → IsCut d t → IsCut e t → d ≡ e
