-- What a change of comments leaves: comments are in decors, and a decor has no meaning.
use Rattle.std.specs.Prelude.{◌≡◌, Option, true, false, not, ◌||◌, List, [], ◌∷◌, ◌++◌, Some}
use Rattle.toml_edit_model.specs.Mode.{Mode, line_end, line_newline}
use Rattle.toml_edit_model.specs.Text.{Text}
use Rattle.toml_edit_model.specs.Syntax.{key_line, header, statement_text}
use Rattle.toml_edit_model.specs.Paths.{to_key}
use Rattle.toml_edit_model.specs.Tree.{Raw, Key, Decor, TableFields, Node, table, SlotsAreWellMade, Tree, shown_prefix, shown_suffix}
use Rattle.toml_edit_model.specs.Tree.{shown_side, node_decor, is_value_node}
use Rattle.toml_edit_model.specs.HeaderOrder.{Visit, visit_of}
use Rattle.toml_edit_model.specs.Shown.{shown_meaning}
use Rattle.toml_edit_model.specs.Print.{frame_of, line_frame, line_statement, header_default, lifted_prefix, has_header, header_of}
use Rattle.toml_edit_model.specs.Print.{header_statement, Printed, printed, print_in}
use Rattle.toml_edit_model.specs.Fits.{has_own_prefix, is_steady_in}
use Rattle.toml_edit_model.specs.Slots.{Slot, on_item, changed_at, lookup_slot, changed}
use Rattle.toml_edit_model.specs.Lists.{slot_list, on_items}
use Rattle.toml_edit_model.specs.Conversions.{with_decor}
use Rattle.toml_edit_laws.specs.Locality.{Turn, into_table, into_element, Leads, root_visit, edited, value_line, OneChanges, texts, framed}
use Rattle.toml_edit_laws.specs.Locality.{StaysSteady}

-- ---- beside a key or a value

-- A slot of a table that the walk enters is changed in its key, which keeps its name, and in the
-- decor of its value; an item that is no value stays. The tree means the same.
abbrev pub RecommentedMeans : Type 0
RecommentedMeans =
    (t : Tree) (way : List Turn) (v : Visit) (k : Text) (h : Slot Node → Slot Node) (s : Slot Node)
    (d : Decor)
    → SlotsAreWellMade t.slots → Leads way (root_visit t) v
    → lookup_slot k (slot_list v.slots) ≡ Some s
    → (h s).key.name ≡ s.key.name → (h s).item ≡ with_decor d s.item
    → shown_meaning (edited way (changed k h) t) ≡ shown_meaning t

-- With the spelling too, the tree stays as its types see to.
abbrev pub RecommentedStaysMade : Type 0
RecommentedStaysMade =
    (t : Tree) (way : List Turn) (v : Visit) (k : Text) (h : Slot Node → Slot Node) (s : Slot Node)
    (d : Decor)
    → SlotsAreWellMade t.slots → Leads way (root_visit t) v
    → lookup_slot k (slot_list v.slots) ≡ Some s
    → (h s).key.name ≡ s.key.name → (h s).key.spelling ≡ s.key.spelling
    → (h s).item ≡ with_decor d s.item
    → SlotsAreWellMade (edited way (changed k h) t).slots

module _ (mode : Mode) where
  -- Of a value one statement changes, the line.
  abbrev pub LineRecommented : Type 0
  LineRecommented =
      (t : Tree) (way : List Turn) (v : Visit) (k : Text) (h : Slot Node → Slot Node)
      (s : Slot Node) (d : Decor)
      → SlotsAreWellMade t.slots → is_steady_in mode t ≡ true → Leads way (root_visit t) v
      → lookup_slot k (slot_list v.slots) ≡ Some s → is_value_node s.item ≡ true
      → (h s).key.name ≡ s.key.name → (h s).item ≡ with_decor d s.item
      → let u = edited way (changed k h) t in
      OneChanges mode t u (to_key v.path s.key.name) s.key (h s).key s.item (h s).item
      × StaysSteady mode t u

  -- Where the last key of a line gets another prefix, what is before the line changes, and nothing
  -- else in the statement.
  abbrev pub BeforeLine : Type 0
  BeforeLine =
      (ks : List Key) (l : Key) (n : Node) (p : Option Raw)
      → let m = record l { leaf = record l.leaf { prefix = p } } in
      let old = value_line mode (ks ++ (l ∷ [])) n in
      line_statement mode (value_line mode (ks ++ (m ∷ [])) n)
      ≡ key_line (record (line_frame mode old) { leading = shown_side mode [] p }) old.value
      (line_newline mode (frame_of mode [] [] old).trailing)

  -- Where its value gets another suffix, what is after the value changes.
  abbrev pub AfterLine : Type 0
  AfterLine =
      (ks : List Key) (n : Node) (p : Option Raw) → is_value_node n ≡ true
      → let old = value_line mode ks n in
      line_statement mode
      (value_line mode ks (with_decor (record (node_decor n) { suffix = p }) n))
      ≡ key_line (record (line_frame mode old) { trailing = line_end mode (shown_side mode [] p) })
      old.value (line_newline mode (shown_side mode [] p))

-- ---- beside a header

abbrev pub recommented : Decor → TableFields → TableFields
recommented d f = record f { decor = d }

-- a table with another decor
abbrev pub with_header_decor : Decor → Node → Node
with_header_decor d (table f ss) = table (recommented d f) ss
with_header_decor d n = n

-- the table that the turn leads to, with another decor
abbrev pub header_edited : Turn → Decor → List (Slot Node) → List (Slot Node)
header_edited (into_table k) d = changed k (on_item (with_header_decor d))
header_edited (into_element k i) d =
    changed k (on_item (on_items (changed_at i (with_header_decor d))))

abbrev pub visit_with : Decor → Visit → Visit
visit_with d v = visit_of v.path v.keys v.is_element (recommented d v.fields) v.slots

module _ (mode : Mode) where
  -- the header of a table
  abbrev pub header_line : Visit → Printed
  header_line v = record {
    block = v.path;
    path = v.path;
    statement = header_statement mode true v;
  }

  -- The second tree prints the statements of the first, one of which is changed: the header of a
  -- table becomes that of the other.
  pub record HeaderChanges (t u : Tree) (v w : Visit) : Type 0 where
    pub before : List Printed
    pub after : List Printed
    pub first : printed mode t ≡ before ++ (header_line v ∷ after)
    pub second : printed mode u ≡ before ++ (header_line w ∷ after)
    pub text : print_in mode false t
        ≡ framed mode t (texts before
        ++ (statement_text (header_statement mode true v) ++ texts after))
    pub other_text : print_in mode false u
        ≡ framed mode t (texts before
        ++ (statement_text (header_statement mode true w) ++ texts after))

  -- A header that is printed gets another decor, with a prefix of its own: one statement changes.
  abbrev pub HeaderRecommented : Type 0
  HeaderRecommented =
      (t : Tree) (way : List Turn) (s v : Visit) (x : Turn) (d : Decor)
      → SlotsAreWellMade t.slots → is_steady_in mode t ≡ true
      → Leads way (root_visit t) s → Leads (x ∷ []) s v
      → v.fields.is_dotted ≡ false → has_header mode v ≡ true → has_own_prefix d.prefix ≡ true
      → let u = edited way (header_edited x d) t in
      HeaderChanges t u v (visit_with d v) × StaysSteady mode t u

  -- One that isn't printed, as of a dotted table, may have any decor: the print stays.
  abbrev pub HiddenRecommented : Type 0
  HiddenRecommented =
      (t : Tree) (way : List Turn) (s v : Visit) (x : Turn) (d : Decor)
      → SlotsAreWellMade t.slots → is_steady_in mode t ≡ true
      → Leads way (root_visit t) s → Leads (x ∷ []) s v
      → (v.fields.is_dotted || not (has_header mode v)) ≡ true
      → let u = edited way (header_edited x d) t in
      (printed mode u ≡ printed mode t) × (print_in mode false u ≡ print_in mode false t)
      × StaysSteady mode t u

  -- The decor of the root is printed around the statements, and they stay.
  abbrev pub RootRecommented : Type 0
  RootRecommented =
      (t : Tree) (d : Decor) → is_steady_in mode t ≡ true
      → let u = record t { root = recommented d t.root } in
      (printed mode u ≡ printed mode t)
      × (print_in mode false u ≡ framed mode u (texts (printed mode t)))
      × (is_steady_in mode u ≡ true) × (shown_meaning u ≡ shown_meaning t)

  -- In the statement of a header its decor is what is before it and what is after it.
  abbrev pub KeepsHeader : Type 0
  KeepsHeader =
      (v : Visit) (d : Decor)
      → let h = header_of mode true v in
      header_statement mode true (visit_with d v)
      ≡ header (record h {
        leading = lifted_prefix mode v ++ shown_prefix mode (header_default true) d;
        trailing = line_end mode (shown_suffix mode [] d);
      }) (line_newline mode (shown_suffix mode [] d))

abbrev pub HeaderRecommentedMeans : Type 0
HeaderRecommentedMeans =
    (t : Tree) (way : List Turn) (s v : Visit) (x : Turn) (d : Decor)
    → SlotsAreWellMade t.slots → Leads way (root_visit t) s → Leads (x ∷ []) s v
    → shown_meaning (edited way (header_edited x d) t) ≡ shown_meaning t

abbrev pub HeaderRecommentedStaysMade : Type 0
HeaderRecommentedStaysMade =
    (t : Tree) (way : List Turn) (s v : Visit) (x : Turn) (d : Decor)
    → SlotsAreWellMade t.slots → Leads way (root_visit t) s → Leads (x ∷ []) s v
    → SlotsAreWellMade (edited way (header_edited x d) t).slots
