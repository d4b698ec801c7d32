-- A text in its normal form, and a document that is read from its print.
use Rattle.std.specs.Prelude.{◌≡◌}
use Rattle.toml_edit.specs.Documents.{IsOwnedReading}
use Rattle.toml_edit.specs.laws.NormalTexts.{IsNormalForm}
use Rattle.toml_edit.specs.model.Accepted.{AcceptedAs}
use Rattle.toml_edit.specs.model.Meaning.{SameFacts}
use Rattle.toml_edit.specs.model.Mode.{plain}
use Rattle.toml_edit.specs.model.Normal.{normal_text_in}
use Rattle.toml_edit.specs.model.Shown.{shown_meaning}
use Rattle.toml_edit.specs.model.Syntax.{Document}
use Rattle.toml_edit.specs.model.Text.{Text}
use Rattle.toml_edit.specs.model.Tree.{Tree}

-- What was written is the normal text of the text: it is accepted, means the same and is settled,
-- and a settled text stays (`form`). However
-- it is read, its own normal text is what was written.
pub record IsNormalized (text out : Text) : Type 0 where
  pub document : Document
  pub accepted : AcceptedAs text document
  pub is : out ≡ normal_text_in plain document
  pub form : IsNormalForm plain text document
  pub again : (other : Document) → AcceptedAs out other → normal_text_in plain other ≡ out

-- The second tree is that of the text, and shows the same as the first.
pub record IsReloaded (text : Text) (t u : Tree) : Type 0 where
  pub reading : IsOwnedReading text u
  pub meaning : SameFacts (shown_meaning u) (shown_meaning t)
