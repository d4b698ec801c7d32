-- Open ends: a document whose last statement has no newline.
use Rattle.std.specs.Prelude.{◌≡◌, true, false, List, [], ◌∷◌, ◌++◌}
use Rattle.toml_edit_model.specs.Text.{Text}
use Rattle.toml_edit_model.specs.Mode.{Mode}
use Rattle.toml_edit_model.specs.Syntax.{Statement, Document, IsDocument, newline_after, open_statements}
use Rattle.toml_edit_model.specs.Accepted.{is_accepted}
use Rattle.toml_edit_model.specs.Meaning.{meaning}
use Rattle.toml_edit_model.specs.Tree.{Tree}
use Rattle.toml_edit_model.specs.Print.{print_in, leaves_open, statements_of}

-- the document with its end open
abbrev pub opened : Document → Document
opened d = record d { statements = open_statements d.statements }

-- it is in the grammar, accepted where the document is, and means the same
pub record IsAsBefore (d : Document) : Type 0 where
  pub is_document : IsDocument (opened d)
  pub accepted : is_accepted (opened d) ≡ is_accepted d
  pub means : meaning (opened d) ≡ meaning d

-- Where nothing follows the statements, the end may be open.
abbrev pub OpenEnds : Type 0
OpenEnds = (d : Document) → IsDocument d → d.final ≡ [] → IsAsBefore d

-- the newline of the last statement
abbrev pub last_newline : List Statement → Text
last_newline [] = []
last_newline (s ∷ []) = newline_after s
last_newline (s ∷ r ∷ rest) = last_newline (r ∷ rest)

-- A print with an open end leaves out the last newline, where nothing follows the statements, and
-- nothing else.
abbrev pub OpenPrints : Type 0
OpenPrints =
    (mode : Mode) (t : Tree)
    → (leaves_open mode true t ≡ true
    → print_in mode true t ++ last_newline (statements_of mode t) ≡ print_in mode false t)
    × (leaves_open mode true t ≡ false → print_in mode true t ≡ print_in mode false t)
