-- What a walk over the lines of a table visits, and how it leaves its visitor.
use Rattle.std.specs.Prelude.{◌≡◌, Bool, true, false, List, [], ◌∷◌, map, if◌then◌else◌}
use Rattle.std.specs.Borrow.{MutBor}
use Rattle.std.specs.Fmt.{WritesInCalls}
use Rattle.toml_edit_model.specs.Iterating.{line_value}
use Rattle.toml_edit_model.specs.Mode.{Mode, plain}
use Rattle.toml_edit_model.specs.Print.{inside_lines, line_statement, table_lines, value_of}
use Rattle.toml_edit_model.specs.Syntax.{statement_text}
use Rattle.toml_edit_model.specs.Text.{Text}
use Rattle.toml_edit_model.specs.Tree.{Key, Node, Slots}
use Rattle.toml_edit_tree.specs.Printing.{lines_in_table, lines_of_item}

-- the keys and the values of the lines of an inline table, or else of a table
abbrev pub shown_lines : Bool → Slots → List Key → List (List Key × Node)
shown_lines is_inside ss ks =
    map line_value (if is_inside then inside_lines plain ss ks else table_lines plain ss ks)

-- those of an item in it, with these keys
abbrev pub shown_item : Bool → Node → List Key → List (List Key × Node)
shown_item is_inside n ks =
    map line_value (if is_inside then lines_of_item plain n ks else lines_in_table plain n ks)

-- Each of a list is visited in order, up to a visit that ends the walk: the visitor before, whether
-- no visit did, and the visitor after.
pub data VisitsInOrder {V A : Type 0} (visits : V → A → Bool → V → Type 0) : List A → V → Bool → V → Type 0 where
  visits_none : {v : V} → VisitsInOrder visits [] v true v
  visits_last : {x : A} {xs : List A} {v w : V} → visits v x false w
      → VisitsInOrder visits (x ∷ xs) v false w
  visits_next : {x : A} {xs : List A} {u w : V} {goes : Bool} (v : V) → visits u x true v
      → VisitsInOrder visits xs v goes w → VisitsInOrder visits (x ∷ xs) u goes w

-- the text of a line
abbrev pub line_text : Mode → List Key × Node → Text
line_text mode l =
    statement_text (line_statement mode (record { keys = l.0; item = l.1; value = value_of mode l.1 }))

-- a visit puts the line into the sink, in this mode
pub record PutsLine {S : Type 0} (puts : S → Text → S → Type 0) (mode : Mode) (out : MutBor S)
    (line : List Key × Node) (goes : Bool) (after : Mode) (left : MutBor S) : Type 0 where
  pub goes_on : goes ≡ true
  pub same_mode : after ≡ mode
  pub same_reference : left.ghost_name ≡ out.ghost_name
  pub wrote : WritesInCalls puts out.now (line_text mode line) left.now
