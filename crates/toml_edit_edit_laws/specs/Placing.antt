-- A value inserted at a place of a table, and a slot moved to one: what changes in the print.
use Rattle.std.specs.Prelude.{◌≡◌, ℕ, ◌≤◌, true, false, List, [], ◌∷◌, ◌++◌, length, take, drop, map, filter, Some, None}
use Rattle.toml_edit_model.specs.Mode.{Mode}
use Rattle.toml_edit_model.specs.Text.{Text}
use Rattle.toml_edit_model.specs.Syntax.{statement_text}
use Rattle.toml_edit_model.specs.Paths.{Path, to_key}
use Rattle.toml_edit_model.specs.Meaning.{SameFacts}
use Rattle.toml_edit_model.specs.Tree.{Key, Node, Slots, SlotsAreWellMade, Tree, is_value_node}
use Rattle.toml_edit_model.specs.HeaderOrder.{Visit}
use Rattle.toml_edit_model.specs.Print.{lines_of, line_statement, Printed, printed, printed_line, printed_table, print_in}
use Rattle.toml_edit_model.specs.Fits.{is_steady_in}
use Rattle.toml_edit_model.specs.Shown.{inside_facts, shown_meaning}
use Rattle.toml_edit_model.specs.Slots.{Slot, keyed, place, lookup_slot, without}
use Rattle.toml_edit_model.specs.Lists.{slot_list, slots_from}
use Rattle.toml_edit_model.specs.Rearranging.{inserted_slot, moved_slot}
use Rattle.toml_edit_laws.specs.Locality.{Turn, Leads, root_visit, edited, is_plain_value, is_at_or_below, AreOutside, texts, StaysSteady}
use Rattle.toml_edit_laws.specs.Locality.{value_line, framed, has_block, outside, IsWellMadeSlot}

-- ---- a table and a place in it

-- a table with other slots
abbrev pub on_list : (List (Slot Node) → List (Slot Node)) → Visit → Visit
on_list g v = record v { slots = slots_from (g (slot_list v.slots)) }

-- a table with the slots before a place alone, and with those at it and after it
abbrev pub slots_before : ℕ → Visit → Visit
slots_before i v = on_list (take i) v

abbrev pub slots_after : ℕ → Visit → Visit
slots_after i v = on_list (drop i) v

module _ (mode : Mode) where
  -- the header of a table with the lines of the slots before a place, and the lines of the others
  abbrev pub front_of : ℕ → Visit → List Printed
  front_of i v = printed_table mode true (slots_before i v)

  abbrev pub back_of : ℕ → Visit → List Printed
  back_of i v = map (printed_line mode v.path) (lines_of mode (slots_after i v))

  -- the statement of a value of a table, and its text
  abbrev pub statement_in : Visit → Key → Node → Printed
  statement_in v k n = printed_line mode v.path (value_line mode (k ∷ []) n)

  abbrev pub line_text : Key → Node → Text
  line_text k n = statement_text (line_statement mode (value_line mode (k ∷ []) n))

  -- ---- a value inserted

  -- The second tree prints the statements of the first, and one more at its place in the table's
  -- block.
  pub record OneInserted (t u : Tree) (v : Visit) (i : ℕ) (k : Key) (n : Node) : Type 0 where
    pub before : List Printed
    pub after : List Printed
    pub block : printed_table mode true v ≡ front_of i v ++ back_of i v
    pub first : printed mode t ≡ before ++ ((front_of i v ++ back_of i v) ++ after)
    pub second : printed mode u
        ≡ before ++ (front_of i v ++ (statement_in v k n ∷ (back_of i v ++ after)))
    pub others_before : AreOutside (to_key v.path k.name) before
    pub others_front : AreOutside (to_key v.path k.name) (front_of i v)
    pub others_back : AreOutside (to_key v.path k.name) (back_of i v)
    pub others_after : AreOutside (to_key v.path k.name) after
    pub text : print_in mode false t
        ≡ framed mode t (texts before
        ++ ((texts (front_of i v) ++ texts (back_of i v)) ++ texts after))
    pub other_text : print_in mode false u
        ≡ framed mode t (texts before
        ++ (texts (front_of i v) ++ (line_text k n ++ (texts (back_of i v) ++ texts after))))

  -- A value under a new key, at a place of the root or of a table that has a header: one statement
  -- more, between those of the slots before that place and those of the others.
  abbrev pub InsertedAt : Type 0
  InsertedAt =
      (t : Tree) (way : List Turn) (v : Visit) (i : ℕ) (k : Key) (n : Node)
      → SlotsAreWellMade t.slots → is_steady_in mode t ≡ true → Leads way (root_visit t) v
      → lookup_slot k.name (slot_list v.slots) ≡ None → is_plain_value n ≡ true
      → has_block mode v ≡ true
      → let u = edited way (inserted_slot i (keyed k n)) t in
      OneInserted t u v i k n × StaysSteady mode t u

  -- It adds its own facts to the meaning, and no others.
  abbrev pub InsertedMeans : Type 0
  InsertedMeans =
      (t : Tree) (way : List Turn) (v : Visit) (i : ℕ) (k : Key) (n : Node)
      → SlotsAreWellMade t.slots → is_steady_in mode t ≡ true → Leads way (root_visit t) v
      → lookup_slot k.name (slot_list v.slots) ≡ None → is_plain_value n ≡ true
      → has_block mode v ≡ true
      → SameFacts (shown_meaning (edited way (inserted_slot i (keyed k n)) t))
      (shown_meaning t ++ inside_facts n (to_key v.path k.name))

  -- ---- a slot moved

  -- the statements that are of the path, or of one below it
  abbrev pub inside : Path → Tree → List Printed
  inside p t = filter (λ s. is_at_or_below p s.path) (printed mode t)

  -- A slot of a table that the walk enters moves to a place among the others: the statements of all
  -- others stay as they were, in their order.
  abbrev pub MovedOthers : Type 0
  MovedOthers =
      (t : Tree) (way : List Turn) (v : Visit) (k : Text) (i : ℕ) (s : Slot Node)
      → SlotsAreWellMade t.slots → is_steady_in mode t ≡ true → Leads way (root_visit t) v
      → lookup_slot k (slot_list v.slots) ≡ Some s
      → let u = edited way (moved_slot k i) t in
      (outside mode (to_key v.path s.key.name) u ≡ outside mode (to_key v.path s.key.name) t)
      × (print_in mode false u ≡ framed mode t (texts (printed mode u)))
      × StaysSteady mode t u

  -- So do its own, and those of all below it.
  abbrev pub MovedInside : Type 0
  MovedInside =
      (t : Tree) (way : List Turn) (v : Visit) (k : Text) (i : ℕ) (s : Slot Node)
      → SlotsAreWellMade t.slots → is_steady_in mode t ≡ true → Leads way (root_visit t) v
      → lookup_slot k (slot_list v.slots) ≡ Some s
      → let u = edited way (moved_slot k i) t in
      inside (to_key v.path s.key.name) u ≡ inside (to_key v.path s.key.name) t

  -- Both trees print one statement among those of the table without its slot, each at a place, and
  -- else the same.
  pub record OneMoves (t u : Tree) (v : Visit) (j i : ℕ) (k : Key) (n : Node) : Type 0 where
    pub before : List Printed
    pub after : List Printed
    pub block : front_of j v ++ back_of j v ≡ front_of i v ++ back_of i v
    pub first : printed mode t
        ≡ before ++ (front_of j v ++ (statement_in v k n ∷ (back_of j v ++ after)))
    pub second : printed mode u
        ≡ before ++ (front_of i v ++ (statement_in v k n ∷ (back_of i v ++ after)))
    pub others_before : AreOutside (to_key v.path k.name) before
    pub others_front : AreOutside (to_key v.path k.name) (front_of i v)
    pub others_back : AreOutside (to_key v.path k.name) (back_of i v)
    pub others_after : AreOutside (to_key v.path k.name) after
    pub text : print_in mode false t
        ≡ framed mode t (texts before
        ++ (texts (front_of j v) ++ (line_text k n ++ (texts (back_of j v) ++ texts after))))
    pub other_text : print_in mode false u
        ≡ framed mode t (texts before
        ++ (texts (front_of i v) ++ (line_text k n ++ (texts (back_of i v) ++ texts after))))

  -- A value of the root or of a table that has a header moves with its one statement.
  abbrev pub MovedLine : Type 0
  MovedLine =
      (t : Tree) (way : List Turn) (v : Visit) (k : Text) (j i : ℕ) (s : Slot Node)
      → SlotsAreWellMade t.slots → is_steady_in mode t ≡ true → Leads way (root_visit t) v
      → lookup_slot k (slot_list v.slots) ≡ Some s → place k (slot_list v.slots) ≡ Some j
      → is_value_node s.item ≡ true → has_block mode v ≡ true
      → OneMoves t (edited way (moved_slot k i) t) (on_list (without k) v) j i s.key s.item

-- ---- what stays

abbrev pub InsertedStaysMade : Type 0
InsertedStaysMade =
    (t : Tree) (way : List Turn) (v : Visit) (i : ℕ) (k : Key) (n : Node)
    → SlotsAreWellMade t.slots → Leads way (root_visit t) v
    → lookup_slot k.name (slot_list v.slots) ≡ None → IsWellMadeSlot k n
    → SlotsAreWellMade (edited way (inserted_slot i (keyed k n)) t).slots

abbrev pub MovedStaysMade : Type 0
MovedStaysMade =
    (t : Tree) (way : List Turn) (v : Visit) (k : Text) (i : ℕ) (s : Slot Node)
    → SlotsAreWellMade t.slots → Leads way (root_visit t) v
    → lookup_slot k (slot_list v.slots) ≡ Some s
    → SlotsAreWellMade (edited way (moved_slot k i) t).slots

-- a tree with a moved slot means the same
abbrev pub MovedMeans : Type 0
MovedMeans =
    (t : Tree) (way : List Turn) (v : Visit) (k : Text) (i : ℕ) (s : Slot Node)
    → SlotsAreWellMade t.slots → Leads way (root_visit t) v
    → lookup_slot k (slot_list v.slots) ≡ Some s
    → SameFacts (shown_meaning (edited way (moved_slot k i) t)) (shown_meaning t)

-- ---- the place of a slot

-- An inserted slot is at its place, and without it the slots are as they were.
abbrev pub InsertedStands : Type 0
InsertedStands =
    (i : ℕ) (s : Slot Node) (es : List (Slot Node)) → i ≤ length es
    → lookup_slot s.key.name es ≡ None
    → (place s.key.name (inserted_slot i s es) ≡ Some i)
    × (lookup_slot s.key.name (inserted_slot i s es) ≡ Some s)
    × (without s.key.name (inserted_slot i s es) ≡ es)

-- So is a moved slot, and the others keep their order.
abbrev pub MovedStands : Type 0
MovedStands =
    (k : Text) (i : ℕ) (s : Slot Node) (es : List (Slot Node)) → i ≤ length (without k es)
    → lookup_slot k es ≡ Some s
    → (place k (moved_slot k i es) ≡ Some i)
    × (lookup_slot k (moved_slot k i es) ≡ Some s)
    × (without k (moved_slot k i es) ≡ without k es)

-- Nothing changes where no slot has the name, or where the slot is at that place.
abbrev pub AbsentStays : Type 0
AbsentStays =
    (k : Text) (i : ℕ) (es : List (Slot Node)) → lookup_slot k es ≡ None → moved_slot k i es ≡ es

abbrev pub PlacedStays : Type 0
PlacedStays =
    (k : Text) (i : ℕ) (ss : Slots) → SlotsAreWellMade ss → place k (slot_list ss) ≡ Some i
    → moved_slot k i (slot_list ss) ≡ slot_list ss
