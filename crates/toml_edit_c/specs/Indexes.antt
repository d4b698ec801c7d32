-- The index that is given of a text.
use Rattle.std.specs.Prelude.{◌≡◌, ◌⊎◌, ℕ, ◌<◌, Bool, List, length, Some}
use Rattle.toml_edit_model.specs.Mode.{Mode}
use Rattle.toml_edit_model.specs.Text.{Text}
use Rattle.toml_edit_model.specs.Tree.{Tree}
use Rattle.toml_edit_model.specs.Version.{Version}
use Rattle.toml_edit.specs.Documents.{IsReadingIn}
use Rattle.toml_edit_index.specs.Indexed.{IsIndexOf}
use Rattle.toml_edit_index.specs.declared.node.Node.{Node}
use Rattle.toml_edit_c.specs.Answers.{IsAtFront}
use Rattle.toml_edit_c.specs.Asks.{options_by}
use Rattle.toml_edit_c.specs.declared.answer.Answer.{Answer}

-- they are the index of the tree that the text is read as
abbrev pub IsIndexedBy : ℕ → Text → List Node → Text → Type 0
IsIndexedBy flags text nodes names =
    (how : Mode × Version) × (options_by flags ≡ Some how) × (t : Tree) × (is_open : Bool)
    × IsReadingIn how.0 how.1 text t is_open × IsIndexOf text t nodes names

-- The nodes and the names are at the fronts of their rooms, or those or these are too long, and the
-- rooms are as they were. The answer says which of these it is, and how many nodes there are.
module _ (answer : Answer) (nodes_old nodes_new : List Node) (names_old names_new : List ℕ) where
  abbrev pub HoldsIndex : List Node → Text → Type 0
  HoldsIndex nodes names =
      (answer.needed ≡ length nodes)
      × (((answer.status ≡ 0) × IsAtFront nodes nodes_old nodes_new
      × IsAtFront names names_old names_new)
      ⊎ ((answer.status ≡ 1)
      × ((length nodes_old < length nodes) ⊎ (length names_old < length names))
      × (nodes_new ≡ nodes_old) × (names_new ≡ names_old)))

  abbrev pub GivesIndex : ℕ → Text → Type 0
  GivesIndex flags text =
      (nodes : List Node) × (names : Text) × IsIndexedBy flags text nodes names
      × HoldsIndex nodes names
