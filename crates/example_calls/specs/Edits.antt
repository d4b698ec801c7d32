-- What is left of a text whose tree is edited.
use Rattle.std.specs.Prelude.{◌≡◌, false, List, [], ◌∷◌, ◌++◌, None}
use Rattle.toml_edit.specs.model.Conversions.{with_decor}
use Rattle.toml_edit.specs.model.Mode.{plain}
use Rattle.toml_edit.specs.model.Print.{line_statement, print_in, value_of}
use Rattle.toml_edit.specs.model.Scalars.{string}
use Rattle.toml_edit.specs.model.Syntax.{Document, Frame, key_line}
use Rattle.toml_edit.specs.model.Text.{Text}
use Rattle.toml_edit.specs.model.Tree.{Key, Node, leaf, Tree, node_decor, unset}
use Rattle.toml_edit.specs.laws.EditLists.{Edit, replace, after_all, AllApply, AllLeave, StaysBut}
use Rattle.toml_edit.specs.laws.Locality.{into_table, value_line}
use Rattle.toml_edit.specs.Documents.{IsOwnedTreeOf, MeansWhatIsShown}

-- the value under a key of a table of the root is replaced, and both keys stay
abbrev pub setting : Text → Text → Node → List Edit
setting name key n = replace (into_table name ∷ []) key (λ k. k) n ∷ []

-- a string in the decor of the old value
abbrev pub string_like : Node → Text → Node
string_like old value = with_decor (node_decor old) (leaf (string value) None unset)

-- under these keys two values are lines that differ in the values alone: what is before and after
-- them, a comment too, is the same
abbrev pub KeepsAround : List Key → Node → Node → Type 0
KeepsAround ks old new =
    (frame : Frame) × (end : Text)
    × (line_statement plain (value_line plain ks old) ≡ key_line frame (value_of plain old) end)
    × (line_statement plain (value_line plain ks new) ≡ key_line frame (value_of plain new) end)

-- What was written is the print of the text's tree with this string under the key of the table
-- under the name, in the decor of the old one:
-- the normal text of the text, but for the value of one statement. It is accepted, and means what
-- the tree shows.
pub record HasValueSet (text name key value out : Text) : Type 0 where
  pub document : Document
  pub tree : Tree
  pub read : IsOwnedTreeOf text document tree
  pub old : Node
  pub applies : AllApply plain (setting name key (string_like old value)) tree
  pub was : applies.0.2 ≡ old
  pub leaves : AllLeave plain (setting name key (string_like old value)) tree applies
  pub around : KeepsAround (leaves.0.keys ++ (applies.0.1 ∷ [])) old (string_like old value)
  pub stays : StaysBut plain (setting name key (string_like old value)) tree
      (after_all (setting name key (string_like old value)) tree) applies
  pub print : out ≡ print_in plain false (after_all (setting name key (string_like old value)) tree)
  pub back : MeansWhatIsShown plain false (after_all (setting name key (string_like old value)) tree)
