-- What formatting a text promises.
use Rattle.std.specs.Prelude.{◌≡◌}
use Rattle.toml_edit_model.specs.Accepted.{AcceptedAs}
use Rattle.toml_edit_model.specs.Syntax.{Document, document_text}
use Rattle.toml_edit_model.specs.Text.{Text}
use Rattle.toml_edit_fmt_laws.specs.Aligned.{formatted}
use Rattle.toml_edit_fmt_laws.specs.Places.{KeepsPlaces}
use Rattle.toml_edit_fmt_laws.specs.Promises.{IsFormattedText}
use Rattle.toml_edit_fmt_laws.specs.Remarks.{remarks}
use Rattle.toml_edit_fmt_laws.specs.Rules.{Rules}

-- The second text is the first one, formatted. It is accepted, means the same, and formatted again it
-- stays. It has the same comments, each with what it belongs to, and the same texts at places that no
-- rule asked for is about.
pub record FormatsText (r : Rules) (text out : Text) : Type 0 where
  pub document : Document
  pub accepted : AcceptedAs text document
  pub made : out ≡ document_text (formatted r document)
  pub stays : IsFormattedText r document (formatted r document)
  pub comments : remarks (formatted r document) ≡ remarks document
  pub places : KeepsPlaces r document (formatted r document)
