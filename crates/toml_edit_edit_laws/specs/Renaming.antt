-- What the renaming of a key changes in a steady tree: its print, its meaning, and what its types see
-- to.
use Rattle.std.specs.Prelude.{◌≡◌, false, true, ◌&&◌, if◌then◌else◌, List, [], ◌∷◌, ◌++◌, map, Some}
use Rattle.toml_edit_model.specs.Mode.{Mode, line_newline}
use Rattle.toml_edit_model.specs.Text.{Text}
use Rattle.toml_edit_model.specs.DefaultSpelling.{key_spelling}
use Rattle.toml_edit_model.specs.Syntax.{Segment, key_line, statement_text}
use Rattle.toml_edit_model.specs.Paths.{at_key, Path, same_step, to_key}
use Rattle.toml_edit_model.specs.Meaning.{Fact, fact}
use Rattle.toml_edit_model.specs.Tree.{Key, Node, SlotsAreWellMade, Tree, is_value_node}
use Rattle.toml_edit_model.specs.HeaderOrder.{Visit}
use Rattle.toml_edit_model.specs.Shown.{shown_meaning}
use Rattle.toml_edit_model.specs.Print.{value_of, segments, frame_of, line_frame, line_statement, Printed, printed, printed_line, print_in}
use Rattle.toml_edit_model.specs.Fits.{is_steady_in}
use Rattle.toml_edit_model.specs.Slots.{Slot, keyed, has_slot, lookup_slot}
use Rattle.toml_edit_model.specs.Lists.{slot_list}
use Rattle.toml_edit_model.specs.Rearranging.{renamed_key, is_free, renamed_slot}
use Rattle.toml_edit_laws.specs.Locality.{Turn, Leads, root_visit, edited, value_line, AreOutside, texts, framed, outside, StaysSteady}

-- ---- paths and facts under the new name

-- a path at or below the first, with this key for the last step of that; another stays
abbrev pub renamed_path : Path → Text → Path → Path
renamed_path [] u q = q
renamed_path (s ∷ p) u [] = []
renamed_path (s ∷ []) u (r ∷ q) = if same_step s r then at_key u ∷ q else r ∷ q
renamed_path (s ∷ t ∷ p) u (r ∷ q) =
    if same_step s r then r ∷ renamed_path (t ∷ p) u q else r ∷ q

abbrev pub renamed_fact : Path → Text → Fact → Fact
renamed_fact p u f = fact (renamed_path p u f.path) f.kind

-- ---- what renaming changes in the print

module _ (mode : Mode) where
  -- The second tree prints the statements of the first, one of which is changed: the line of a
  -- value under keys that end in `l` has `m` for `l`. It is the only statement of its path in the
  -- first tree, and of its new path in the second.
  pub record KeyChanges (t u : Tree) (p q : Path) (l m : Key) (n : Node) : Type 0 where
    pub before : List Printed
    pub after : List Printed
    pub block : Path
    pub keys : List Key
    pub first : printed mode t
        ≡ before ++ (printed_line mode block (value_line mode (keys ++ (l ∷ [])) n) ∷ after)
    pub second : printed mode u
        ≡ before ++ (printed_line mode block (value_line mode (keys ++ (m ∷ [])) n) ∷ after)
    pub path : (printed_line mode block (value_line mode (keys ++ (l ∷ [])) n)).path ≡ p
    pub other_path : (printed_line mode block (value_line mode (keys ++ (m ∷ [])) n)).path ≡ q
    pub others_before : AreOutside p before × AreOutside q before
    pub others_after : AreOutside p after × AreOutside q after
    pub text : print_in mode false t
        ≡ framed mode t (texts before
        ++ (statement_text (line_statement mode (value_line mode (keys ++ (l ∷ [])) n))
        ++ texts after))
    pub other_text : print_in mode false u
        ≡ framed mode t (texts before
        ++ (statement_text (line_statement mode (value_line mode (keys ++ (m ∷ [])) n))
        ++ texts after))

  -- A value of a table that the walk enters gets another name, which is free: one statement
  -- changes.
  abbrev pub Renamed : Type 0
  Renamed =
      (t : Tree) (way : List Turn) (v : Visit) (k u : Text) (l : Key) (n : Node)
      → SlotsAreWellMade t.slots → is_steady_in mode t ≡ true → Leads way (root_visit t) v
      → lookup_slot k (slot_list v.slots) ≡ Some (keyed l n)
      → is_free k u (slot_list v.slots) ≡ true → is_value_node n ≡ true
      → let r = edited way (renamed_slot k u) t in
      KeyChanges t r (to_key v.path l.name) (to_key v.path u) l (renamed_key u l) n
      × StaysSteady mode t r

  -- In the statement of a line the last key gets another name: it is spelled anew, and nothing else
  -- changes.
  pub record LastKeyChanges (ks : List Key) (l : Key) (u : Text) (n : Node) : Type 0 where
    pub front : List Segment
    pub last : Segment
    pub first : segments mode (ks ++ (l ∷ [])) ≡ front ++ (last ∷ [])
    pub second : segments mode (ks ++ (renamed_key u l ∷ []))
        ≡ front ++ (record last { key = u; spelled = key_spelling u } ∷ [])
    pub statement : line_statement mode (value_line mode (ks ++ (renamed_key u l ∷ [])) n)
        ≡ key_line
        (record (line_frame mode (value_line mode (ks ++ (l ∷ [])) n)) {
          path = segments mode (ks ++ (renamed_key u l ∷ []));
        })
        (value_of mode n)
        (line_newline mode (frame_of mode [] [] (value_line mode (ks ++ (l ∷ [])) n)).trailing)

  abbrev pub RenamedLine : Type 0
  RenamedLine = (ks : List Key) (l : Key) (u : Text) (n : Node) → LastKeyChanges ks l u n

  -- Where any slot gets another name, the statements elsewhere stay, in their order.
  abbrev pub RenamedOthers : Type 0
  RenamedOthers =
      (t : Tree) (way : List Turn) (v : Visit) (k u : Text) (s : Slot Node)
      → SlotsAreWellMade t.slots → is_steady_in mode t ≡ true → Leads way (root_visit t) v
      → lookup_slot k (slot_list v.slots) ≡ Some s → is_free k u (slot_list v.slots) ≡ true
      → let r = edited way (renamed_slot k u) t in
      (outside mode (to_key v.path s.key.name) t ≡ outside mode (to_key v.path u) r)
      × StaysSteady mode t r

-- ---- what it means, and what its types see to

-- What was at the path of the slot or below it is at the new path, and all else stays.
abbrev pub RenamedMeans : Type 0
RenamedMeans =
    (t : Tree) (way : List Turn) (v : Visit) (k u : Text) (s : Slot Node)
    → SlotsAreWellMade t.slots → Leads way (root_visit t) v
    → lookup_slot k (slot_list v.slots) ≡ Some s → is_free k u (slot_list v.slots) ≡ true
    → shown_meaning (edited way (renamed_slot k u) t)
    ≡ map (renamed_fact (to_key v.path s.key.name) u) (shown_meaning t)

abbrev pub RenamedStaysMade : Type 0
RenamedStaysMade =
    (t : Tree) (way : List Turn) (v : Visit) (k u : Text) (s : Slot Node)
    → SlotsAreWellMade t.slots → Leads way (root_visit t) v
    → lookup_slot k (slot_list v.slots) ≡ Some s → is_free k u (slot_list v.slots) ≡ true
    → SlotsAreWellMade (edited way (renamed_slot k u) t).slots

-- Where no slot has the old name, or another one has the new name, nothing changes.
abbrev pub RenameRefused : Type 0
RenameRefused =
    (t : Tree) (way : List Turn) (v : Visit) (k u : Text)
    → SlotsAreWellMade t.slots → Leads way (root_visit t) v
    → (has_slot k (slot_list v.slots) && is_free k u (slot_list v.slots)) ≡ false
    → edited way (renamed_slot k u) t ≡ t
