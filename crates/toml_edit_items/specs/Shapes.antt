-- What an item is written as.
use Rattle.std.specs.Prelude.{◌≡◌, Bool, false, if◌then◌else◌, List, [], ◌∷◌, ◌++◌, Option, Some, None, option_map, option_and_then, pos}
use Rattle.toml_edit_model.specs.Accepted.{AcceptedAs}
use Rattle.toml_edit_model.specs.Fits.{Fits}
use Rattle.toml_edit_model.specs.Iterating.{values}
use Rattle.toml_edit_model.specs.Lists.{item_list}
use Rattle.toml_edit_model.specs.Meaning.{SameFacts, meaning}
use Rattle.toml_edit_model.specs.Mode.{plain}
use Rattle.toml_edit_model.specs.Print.{print_in}
use Rattle.toml_edit_model.specs.Scalars.{string}
use Rattle.toml_edit_model.specs.Shown.{node_facts}
use Rattle.toml_edit_model.specs.Syntax.{Document}
use Rattle.toml_edit_model.specs.Text.{Text, has_byte, line_feed, newline}
use Rattle.toml_edit_model.specs.Tree.{owned, unset, Node, leaf, table, Slots, TableFields, Tree}
use Rattle.toml_edit_edit_laws.specs.Commands.{shown_item}
use Rattle.toml_edit_tree.specs.Casts.{array_in}
use Rattle.toml_edit_tree.specs.Containers.{TableView}
use Rattle.toml_edit_items.specs.declared.shape.Shape.{Shape}
use Rattle.toml_edit_items.specs.declared.shape.Shape.TheVariants.{Spelled, Raw, Lines}

-- ---- as it is spelled

-- a table as the root of a document, without the comments around its header
abbrev pub as_root : TableFields → Slots → Tree
as_root f ss =
    record {
      root = record f {
        decor = unset;
        is_implicit = false;
        is_dotted = false;
        position = Some (pos 0);
      };
      slots = ss;
      trailing = owned [];
    }

abbrev pub without_decor : TableView → TableView
without_decor t = record t { fields = record t.fields { decor = unset } }

-- The text is accepted as a document, and means what the item shows: its facts, with it as the root.
pub record Means (n : Node) (s : Text) : Type 0 where
  pub document : Document
  pub accepted : AcceptedAs s document
  pub facts : SameFacts (meaning document) (node_facts n [])

-- A table is the document that means it, with the tables below it. Any other item is on a line.
abbrev pub IsSpelled : Node → Text → Type 0
IsSpelled (table f ss) s =
    ∥ Means (table f ss) s ∥₁ × (s ≡ print_in plain false (as_root f ss))
IsSpelled n s = s ≡ shown_item n

-- ---- raw

-- a line of the characters of a string, or of the spelling of another scalar
abbrev pub raw_line : Node → Option Text
raw_line (leaf (string t) r d) = Some (t ++ newline)
raw_line (leaf s r d) = Some (shown_item (leaf s r d))
raw_line _ = None

-- a string of several lines has no line of its own
abbrev pub has_newline : Node → Bool
has_newline (leaf (string t) r d) = has_byte line_feed t
has_newline _ = false

abbrev pub element_line : Node → Option Text
element_line n = if has_newline n then None else raw_line n

abbrev pub element_lines : List Node → Option Text
element_lines [] = Some []
element_lines (n ∷ ns) =
    option_and_then (λ l. option_map (λ ls. l ++ ls) (element_lines ns)) (element_line n)

-- the lines of the elements of an array
abbrev pub array_lines : Node → Option Text
array_lines n = option_and_then (λ a. element_lines (values (item_list a.items))) (array_in n)

-- ---- in a shape

abbrev pub IsShaped : Shape → Node → Text → Type 0
IsShaped Spelled n s = IsSpelled n s
IsShaped Raw n s = raw_line n ≡ Some s
IsShaped Lines n s = array_lines n ≡ Some s

-- a table that is spelled has to fit
abbrev pub HasNoSpelling : Node → Type 0
HasNoSpelling (table f ss) = ¬ (Fits (as_root f ss))
HasNoSpelling _ = ⊥

abbrev pub HasNoShape : Shape → Node → Type 0
HasNoShape Spelled n = HasNoSpelling n
HasNoShape Raw n = raw_line n ≡ None
HasNoShape Lines n = array_lines n ≡ None
