-- The last of a print's statements, by the decor of its value or of its table: what it ends in.
use Rattle.std.specs.Prelude.{true, false, if◌then◌else◌, List, [], ◌∷◌, Option, None, Some}
use Rattle.toml_edit_model.specs.Text.{Text}
use Rattle.toml_edit_model.specs.Mode.{Mode, line_newline}
use Rattle.toml_edit_model.specs.Tree.{Decor, Node, nothing, leaf, list, inline, table, tables, TableFields, Slots, no_slots, slot}
use Rattle.toml_edit_model.specs.Tree.{node_decor, shown_suffix}
use Rattle.toml_edit_model.specs.Order.{sorted_by}
use Rattle.toml_edit_model.specs.Print.{is_line_node}
use Rattle.toml_edit_laws.specs.PrintByVisits.{Headed, by_place, headed_tables, last_pair}

-- the last line of a table, or this one before it where the table has none
abbrev mutual
  pub last_line : Slots → Option Decor → Option Decor
  last_line no_slots before = before
  last_line (slot k n ss) before =
      last_line ss (elim (is_line_node n) [
        | true ↦ Some (node_decor n)
        | false ↦ last_dotted n before
      ])

  pub last_dotted : Node → Option Decor → Option Decor
  last_dotted (table f ss) before = if f.is_dotted then last_line ss before else before
  last_dotted (inline f ss) before = last_pair ss before
  last_dotted (leaf s spelling d) before = before
  last_dotted (list f xs) before = before
  last_dotted (tables e xs) before = before
  last_dotted nothing before = before

-- the last line of a root; a dotted root has none
abbrev pub last_of_root : TableFields → Slots → Option Decor
last_of_root f ss = if f.is_dotted then None else last_line ss None

-- the last statement of these tables with headers, or this one before them where there are none
abbrev pub last_headed : List Headed → Option Decor → Option Decor
last_headed [] before = before
last_headed (h ∷ hs) before = last_headed hs (last_line h.slots (Some h.fields.decor))

-- the last statement of a print
abbrev pub last_statement : TableFields → Slots → Option Decor
last_statement f ss = last_headed (sorted_by by_place (headed_tables f ss)) (last_of_root f ss)

-- the newline that it is printed with
abbrev pub newline_of : Mode → Option Decor → Text
newline_of mode None = []
newline_of mode (Some d) = line_newline mode (shown_suffix mode [] d)
