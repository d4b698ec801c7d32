-- The laws of the versions of the grammar.
use Rattle.std.specs.Prelude.{◌≡◌, ℕ, false, not, List, Contains}
use Rattle.toml_edit_model.specs.Text.{Text, is_empty}
use Rattle.toml_edit_model.specs.Mode.{Mode}
use Rattle.toml_edit_model.specs.Syntax.{Statement, Document}
use Rattle.toml_edit_model.specs.Version.{Version, is_late_statement, late_places}
use Rattle.toml_edit_model.specs.Paths.{Placed}
use Rattle.toml_edit_model.specs.Accepted.{is_accepted_in, AcceptedIn, AcceptedAs, IsFirstFaultyIn}
use Rattle.toml_edit_model.specs.Faults.{Fault, faults_of, IsFirstFaultIn}
use Rattle.toml_edit_model.specs.Normal.{has_open_end, normal_in, normal_text_in}
use Rattle.toml_edit_model.specs.Tree.{Tree}
use Rattle.toml_edit_model.specs.TreeOf.{owned_in, IsTreeOf}
use Rattle.toml_edit_model.specs.Print.{print_in, document_in}

-- What a version accepts, TOML 1.1 accepts by the same cut; so its trees are those of the text
-- under 1.1.
abbrev pub LaterAccepts : Type 0
LaterAccepts =
    (version : Version) (t : Text) (d : Document) → AcceptedIn version t d → AcceptedAs t d

-- A statement has a late part exactly where it is late.
abbrev pub LateHavePlaces : Type 0
LateHavePlaces = (i : ℕ) (s : Statement) → is_empty (late_places i s) ≡ not (is_late_statement s)

-- What a version refuses has a fault in its first faulty statement.
abbrev pub FaultsInVersions : Type 0
FaultsInVersions =
    (version : Version) (d : Document) (earlier : List Placed) (s : Placed)
    → IsFirstFaultyIn version d earlier s
    → (f : Fault) × Contains (faults_of version earlier s) f

-- The version refuses the document, and this is one of the faults of its first faulty statement.
pub record IsRefusedIn (version : Version) (d : Document) (f : Fault) : Type 0 where
  pub names : IsFirstFaultIn version d f
  pub refused : is_accepted_in version d ≡ false

module _ (mode : Mode) where
  -- The normal text of a text that a version accepts is accepted by it.
  abbrev pub NormalTextsStay : Type 0
  NormalTextsStay =
      (version : Version) (t : Text) (d : Document) → AcceptedIn version t d
      → AcceptedIn version (normal_text_in mode d) (normal_in mode d)

  -- So is the print of its tree.
  abbrev pub PrintsStay : Type 0
  PrintsStay =
      (version : Version) (t : Text) (d : Document) → AcceptedIn version t d → (tree : Tree)
      → IsTreeOf (owned_in mode) d tree
      → AcceptedIn version (print_in mode (has_open_end d.statements) tree)
      (document_in mode (has_open_end d.statements) tree)
