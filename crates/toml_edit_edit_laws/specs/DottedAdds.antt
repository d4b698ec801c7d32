-- A value added under a new key of a table that has lines, as a dotted table has: one statement more.
use Rattle.std.specs.Prelude.{◌≡◌, true, false, List, [], ◌∷◌, ◌++◌, map, None}
use Rattle.toml_edit_model.specs.Mode.{Mode}
use Rattle.toml_edit_model.specs.Text.{is_empty}
use Rattle.toml_edit_model.specs.Syntax.{statement_text}
use Rattle.toml_edit_model.specs.Paths.{Path, to_key}
use Rattle.toml_edit_model.specs.Tree.{Key, Node, SlotsAreWellMade, Tree}
use Rattle.toml_edit_model.specs.HeaderOrder.{Visit}
use Rattle.toml_edit_model.specs.Print.{table_lines, lines_of, line_statement, Printed, printed, printed_line, print_in}
use Rattle.toml_edit_model.specs.Fits.{is_steady_in}
use Rattle.toml_edit_model.specs.Slots.{keyed, lookup_slot}
use Rattle.toml_edit_model.specs.Lists.{slot_list}
use Rattle.toml_edit_laws.specs.Locality.{Turn, Leads, root_visit, edited, is_plain_value, AreOutside, texts, StaysSteady, value_line, framed}

module _ (mode : Mode) where
  -- the lines of a table in the block of a table above it, by the keys from there
  abbrev pub lines_in : Path → List Key → Visit → List Printed
  lines_in block keys v = map (printed_line mode block) (table_lines mode v.slots keys)

  -- The second tree prints the statements of the first, and one more after the lines of the table.
  pub record OneLineMore (t u : Tree) (v : Visit) (k : Key) (n : Node) : Type 0 where
    pub before : List Printed
    pub after : List Printed
    pub block : Path
    pub keys : List Key
    pub first : printed mode t ≡ before ++ (lines_in block keys v ++ after)
    pub second : printed mode u
        ≡ before ++ (lines_in block keys v
        ++ (printed_line mode block (value_line mode (keys ++ (k ∷ [])) n) ∷ after))
    pub path : (printed_line mode block (value_line mode (keys ++ (k ∷ [])) n)).path
        ≡ to_key v.path k.name
    pub others_before : AreOutside (to_key v.path k.name) before
    pub others_in : AreOutside (to_key v.path k.name) (lines_in block keys v)
    pub others_after : AreOutside (to_key v.path k.name) after
    pub text : print_in mode false t
        ≡ framed mode t (texts before ++ (texts (lines_in block keys v) ++ texts after))
    pub other_text : print_in mode false u
        ≡ framed mode t (texts before
        ++ (texts (lines_in block keys v)
        ++ (statement_text (line_statement mode (value_line mode (keys ++ (k ∷ [])) n))
        ++ texts after)))

  abbrev pub AddedAfterLines : Type 0
  AddedAfterLines =
      (t : Tree) (way : List Turn) (v : Visit) (k : Key) (n : Node)
      → SlotsAreWellMade t.slots → is_steady_in mode t ≡ true → Leads way (root_visit t) v
      → lookup_slot k.name (slot_list v.slots) ≡ None → is_plain_value n ≡ true
      → is_empty (lines_of mode v) ≡ false
      → let u = edited way (λ ss. ss ++ (keyed k n ∷ [])) t in
      OneLineMore t u v k n × StaysSteady mode t u
