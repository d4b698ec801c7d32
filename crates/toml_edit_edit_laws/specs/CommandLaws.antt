-- The laws of `get`, `set` and `remove` on the tree of what was read.
use Rattle.std.specs.Prelude.{◌≡◌, ◌⊎◌, ℕ, ◌^◌, ◌<◌, Bool, true, false, if◌then◌else◌, List, [], ◌∷◌, ◌++◌, length, map, Some, None}
use Rattle.std.specs.Fmt.{decimal}
use Rattle.std.specs.List.{AllByRecursion}
use Rattle.toml_edit_model.specs.Mode.{Mode, plain}
use Rattle.toml_edit_model.specs.Text.{Text, newline, one, same_text}
use Rattle.toml_edit_model.specs.Syntax.{Frame, Statement, key_line, Document, IsDocument, IsCut, value_text, document_text}
use Rattle.toml_edit_model.specs.Paths.{Path, to_key}
use Rattle.toml_edit_model.specs.Spelling.{SpellsKey}
use Rattle.toml_edit_model.specs.Accepted.{is_accepted}
use Rattle.toml_edit_model.specs.Normal.{has_open_end, normal_last, normal_in}
use Rattle.toml_edit_model.specs.Meaning.{SameFacts, meaning}
use Rattle.toml_edit_model.specs.Shown.{shown_meaning}
use Rattle.toml_edit_model.specs.Fits.{FitsIn}
use Rattle.toml_edit_model.specs.Tree.{Key, TableFields, Node, nothing, leaf, list, inline, table, tables, Items, Slots, no_slots, slot}
use Rattle.toml_edit_model.specs.Tree.{Tree, HasTrueSpelling, IsWellMade, SlotsAreWellMade, is_value_node}
use Rattle.toml_edit_model.specs.TreeOf.{owned_in, IsTreeOf}
use Rattle.toml_edit_model.specs.HeaderOrder.{Visit}
use Rattle.toml_edit_model.specs.Print.{value_of, line_statement, Printed, printed, printed_table, printed_line, print_in, document_in}
use Rattle.toml_edit_model.specs.Conversions.{new_inline}
use Rattle.toml_edit_model.specs.Keys.{cleared_key, names, new_key}
use Rattle.toml_edit_model.specs.Slots.{Slot, keyed, lookup_slot}
use Rattle.toml_edit_model.specs.Lists.{slot_list, item_list, is_item}
use Rattle.toml_edit_laws.specs.Locality.{Turn, into_table, into_element, Leads, root_visit, StaysSteady, value_line, AreOutside}
use Rattle.toml_edit_laws.specs.Locality.{statements, is_plain_value, has_block, outside}
use Rattle.toml_edit_model.specs.Indexing.{text, item_under, index_or_inserted, with_indexed}
use Rattle.toml_edit_edit_laws.specs.Commands.{Refusal, no_such_path, wrong_kind, taken, done, refused, mapped, number_of, child, item_below, item_at}
use Rattle.toml_edit_edit_laws.specs.Commands.{get_text, root_item, set_below, set_here, set_at, remove_below, remove_at}

-- ---- paths

-- the path goes the way
abbrev pub Goes : List Turn → List Text → Type 0
Goes [] [] = Unit {0}
Goes (into_table k ∷ way) (j ∷ path) = (j ≡ k) × Goes way path
Goes (into_element k i ∷ way) (j ∷ x ∷ path) = (j ≡ k) × (number_of x ≡ Some i) × Goes way path
Goes _ _ = ⊥

-- the path names this table, which the walk enters
pub record NamesTable (t : Tree) (path : List Text) (v : Visit) : Type 0 where
  pub way : List Turn
  pub goes : Goes way path
  pub leads : Leads way (root_visit t) v

-- each key has its default spelling, or one that spells its name
abbrev pub AreSpelled : List Key → Type 0
AreSpelled path = AllByRecursion (λ k. HasTrueSpelling (SpellsKey k.name) k.spelling) path

-- ---- the rest of the tree

-- a value below new keys: inline tables down to it
abbrev pub made_below : List Key → Node → Node
made_below [] v = v
made_below (k ∷ more) v = inline new_inline (slot (cleared_key k) (made_below more v) no_slots)

-- one slot's item is another, and related to it: the key, and all before and after, stay
pub record OneSlotChanges (R : Node → Node → Type 0) (k : Text)
    (xs ys : List (Slot Node)) : Type 0 where
  pub before : List (Slot Node)
  pub key : Key
  pub old : Node
  pub new : Node
  pub after : List (Slot Node)
  pub named : k ≡ key.name
  pub first : xs ≡ before ++ (keyed key old ∷ after)
  pub second : ys ≡ before ++ (keyed key new ∷ after)
  pub related : R old new

-- a slot more at the end, for a key that had none
pub record OneSlotMore (R : Node → Node → Type 0) (k : Key)
    (xs ys : List (Slot Node)) : Type 0 where
  pub new : Node
  pub is_new : lookup_slot k.name xs ≡ None
  pub second : ys ≡ xs ++ one (keyed (cleared_key k) new)
  pub related : R nothing new

abbrev pub OneSlot : (Node → Node → Type 0) → Key → List (Slot Node) → List (Slot Node) → Type 0
OneSlot R k xs ys = OneSlotChanges R k.name xs ys ⊎ OneSlotMore R k xs ys

-- one element is another, at the place that the text names
pub record OneItem (R : Node → Node → Type 0) (k : Text) (xs ys : List Node) : Type 0 where
  pub before : List Node
  pub old : Node
  pub new : Node
  pub after : List Node
  pub place : number_of k ≡ Some (length before)
  pub first : xs ≡ before ++ (old ∷ after)
  pub second : ys ≡ before ++ (new ∷ after)
  pub related : R old new

-- The second item is the first but for what a segment leads to, and that is so related; a missing
-- key may be made.
abbrev pub OnlyChild : (Node → Node → Type 0) → Key → Node → Node → Type 0
OnlyChild R k (table f ss) m =
    (xs : Slots) × (m ≡ table f xs) × OneSlot R k (slot_list ss) (slot_list xs)
OnlyChild R k (inline f ss) m =
    (xs : Slots) × (m ≡ inline f xs) × OneSlot R k (slot_list ss) (slot_list xs)
OnlyChild R k (list f xs) m =
    (ys : Items) × (m ≡ list f ys) × OneItem R k.name (item_list xs) (item_list ys)
OnlyChild R k (tables e xs) m =
    (ys : Items) × (m ≡ tables e ys) × OneItem R k.name (item_list xs) (item_list ys)
OnlyChild R k nothing m =
    (n : Node) × (m ≡ inline new_inline (slot (cleared_key k) n no_slots)) × R nothing n
OnlyChild R k (leaf s r d) m = ⊥

-- The second item is the first but at the path.
abbrev pub OnlyAt : (Node → Node → Type 0) → List Key → Node → Node → Type 0
OnlyAt R [] n m = R n m
OnlyAt R (k ∷ path) n m = OnlyChild (OnlyAt R path) k n m

-- so it is with two trees
pub record OnlyTreeAt (R : Node → Node → Type 0) (path : List Key) (t u : Tree) : Type 0 where
  pub root : u.root ≡ t.root
  pub trailing : u.trailing ≡ t.trailing
  pub at : OnlyAt R path (root_item t) (root_item u)
  pub made : SlotsAreWellMade u.slots

-- `set` changes the item at the path alone, and the tree stays as its types see to.
abbrev pub SetKeepsTheRest : Type 0
SetKeepsTheRest =
    (t u : Tree) (path : List Key) (v : Node) → SlotsAreWellMade t.slots → IsWellMade v
    → AreSpelled path → set_at path v t ≡ done u
    → OnlyTreeAt (λ old new. set_here v old ≡ done new) path t u

-- Below a table, an inline table or a placeholder, `set` goes down a key of default spelling as
-- `index_or_insert` does: it makes the place, sets what is there by the rest of the path, and writes it back.
abbrev pub SetSteps : Type 0
SetSteps =
    (v : Node) (k : Text) (path : List Key) (n m x : Node) → index_or_inserted k n ≡ Some m
    → item_under k m ≡ Some x
    → set_below v (new_key k ∷ path) n ≡ mapped (λ y. with_indexed (text k) y m) (set_below v path x)

-- a slot, or an element, that is there no more
pub record OneSlotLess (k : Text) (xs ys : List (Slot Node)) : Type 0 where
  pub before : List (Slot Node)
  pub gone : Slot Node
  pub after : List (Slot Node)
  pub named : k ≡ gone.key.name
  pub first : xs ≡ before ++ (gone ∷ after)
  pub second : ys ≡ before ++ after

pub record OneItemLess (k : Text) (xs ys : List Node) : Type 0 where
  pub before : List Node
  pub gone : Node
  pub after : List Node
  pub place : number_of k ≡ Some (length before)
  pub first : xs ≡ before ++ (gone ∷ after)
  pub second : ys ≡ before ++ after

abbrev pub IsWithout : Text → Node → Node → Type 0
IsWithout k (table f ss) m =
    (xs : Slots) × (m ≡ table f xs) × OneSlotLess k (slot_list ss) (slot_list xs)
IsWithout k (inline f ss) m =
    (xs : Slots) × (m ≡ inline f xs) × OneSlotLess k (slot_list ss) (slot_list xs)
IsWithout k (list f xs) m =
    (ys : Items) × (m ≡ list f ys) × OneItemLess k (item_list xs) (item_list ys)
IsWithout k (tables e xs) m =
    (ys : Items) × (m ≡ tables e ys) × OneItemLess k (item_list xs) (item_list ys)
IsWithout k (leaf s r d) m = ⊥
IsWithout k nothing m = ⊥

-- `remove` takes the slot or the element from what holds it, and leaves all the rest.
abbrev pub RemoveKeepsTheRest : Type 0
RemoveKeepsTheRest =
    (t u : Tree) (path : List Text) (k : Text) → SlotsAreWellMade t.slots
    → remove_at (path ++ (k ∷ [])) t ≡ done u
    → OnlyTreeAt (IsWithout k) (map new_key path) t u

-- ---- other paths

-- neither path goes on from the other
abbrev pub are_apart : List Text → List Text → Bool
are_apart (j ∷ q) (k ∷ p) = if same_text j k then are_apart q p else true
are_apart _ _ = false

-- `set` changes nothing at a path that is neither above, at nor below its own.
abbrev pub SetKeepsItems : Type 0
SetKeepsItems =
    (t u : Tree) (path : List Key) (v : Node) → set_at path v t ≡ done u
    → (q : List Text) → are_apart q (names path) ≡ true → item_at q u ≡ item_at q t

-- `remove` changes nothing at a path that is neither above, at nor below that of what holds the
-- slot or the element.
abbrev pub RemoveKeepsItems : Type 0
RemoveKeepsItems =
    (t u : Tree) (path : List Text) (k : Text) → remove_at (path ++ (k ∷ [])) t ≡ done u
    → (q : List Text) → are_apart q path ≡ true → item_at q u ≡ item_at q t

-- ---- numbers

-- A number is named by its decimal, and by no other text.
abbrev pub OneTextNames : Type 0
OneTextNames = (x : Text) (i : ℕ) → number_of x ≡ Some i → x ≡ decimal i

abbrev pub DecimalsName : Type 0
DecimalsName = (i : ℕ) → i < 2 ^ 64 → number_of (decimal i) ≡ Some i

-- ---- what is found

-- What `set` left is what `get` finds.
abbrev pub GetAfterSet : Type 0
GetAfterSet =
    (t u : Tree) (path : List Key) (v : Node) → is_value_node v ≡ true → set_at path v t ≡ done u
    → get_text (names path) u ≡ done (value_text (value_of plain v) ++ newline)

-- `remove` finds what `get` finds, and returns no other refusal.
abbrev pub RemoveFinds : Type 0
RemoveFinds =
    (t : Tree) (k : Text) (path : List Text) (n : Node) → item_at (k ∷ path) t ≡ Some n
    → (u : Tree) × (remove_at (k ∷ path) t ≡ done u)

abbrev pub RemovedWasThere : Type 0
RemovedWasThere =
    (t u : Tree) (path : List Text) → remove_at path t ≡ done u
    → (n : Node) × (item_at path t ≡ Some n)

abbrev pub RemoveRefuses : Type 0
RemoveRefuses =
    (t : Tree) (path : List Text) (r : Refusal) → remove_at path t ≡ refused r → r ≡ no_such_path

-- the path that goes a way, each place by its decimal
abbrev pub path_of : List Turn → List Text
path_of [] = []
path_of (into_table k ∷ way) = k ∷ path_of way
path_of (into_element k i ∷ way) = k ∷ decimal i ∷ path_of way

abbrev pub HasSmallNumbers : List Turn → Type 0
HasSmallNumbers [] = Unit {0}
HasSmallNumbers (into_table k ∷ way) = HasSmallNumbers way
HasSmallNumbers (into_element k i ∷ way) = (i < 2 ^ 64) × HasSmallNumbers way

-- So each table that the walk enters is named by a path.
abbrev pub WaysHavePaths : Type 0
WaysHavePaths = (way : List Turn) → HasSmallNumbers way → Goes way (path_of way)

-- ---- the print, in each mode

module _ (mode : Mode) where
  -- ---- what was read

  -- an accepted document, and its tree with owned texts
  pub record IsRead (d : Document) (t : Tree) : Type 0 where
    pub is_document : IsDocument d
    pub accepted : is_accepted d ≡ true
    pub tree : IsTreeOf (owned_in mode) d t
    pub made : SlotsAreWellMade t.slots

  -- the normal text with other statements; its end is open where that of the document is
  abbrev pub text_with : Document → List Statement → Text
  text_with d ss = document_text (record (normal_in mode d) { statements = normal_last mode d ss })

  -- the print, its end open where that of the document is
  abbrev pub print_as : Document → Tree → Text
  print_as d u = print_in mode (has_open_end d.statements) u

  -- ---- set

  -- The tree prints the statements of the normal text, but one: its line has another value, in the
  -- same frame. It is the only statement of its path.
  pub record ChangesStatement (d : Document) (t u : Tree) (p : Path) (old n : Node) : Type 0 where
    pub before : List Printed
    pub after : List Printed
    pub block : Path
    pub frame : Frame
    pub end : Text
    pub first : printed mode t
        ≡ before ++ (record {
          block = block;
          path = p;
          statement = key_line frame (value_of mode old) end;
        } ∷ after)
    pub second : printed mode u
        ≡ before ++ (record {
          block = block;
          path = p;
          statement = key_line frame (value_of mode n) end;
        } ∷ after)
    pub others_before : AreOutside p before
    pub others_after : AreOutside p after
    pub read : (normal_in mode d).statements
        ≡ normal_last mode d
        (statements before ++ (key_line frame (value_of mode old) end ∷ statements after))
    pub text : print_as d u
        ≡ text_with d (statements before
        ++ (key_line frame (value_of mode n) end ∷ statements after))

  -- `set` at a value of a table that the walk enters, or inside it: that value's statement changes,
  -- in its frame.
  abbrev pub SetChanges : Type 0
  SetChanges =
      (d : Document) (t : Tree) (path : List Key) (v : Visit) (k l : Key) (old : Node)
      (inner : List Key) (value n : Node)
      → IsRead d t → NamesTable t (names path) v
      → lookup_slot k.name (slot_list v.slots) ≡ Some (keyed l old) → is_value_node old ≡ true
      → is_plain_value value ≡ true → set_below value inner old ≡ done n
      → (u : Tree) × (set_at (path ++ (k ∷ inner)) value t ≡ done u)
      × ChangesStatement d t u (to_key v.path l.name) old n × StaysSteady mode t u

  -- The tree prints the statements of the normal text, and one more after the others of the table's
  -- block.
  pub record AddsStatement (d : Document) (t u : Tree) (v : Visit) (k : Key)
      (n : Node) : Type 0 where
    pub before : List Printed
    pub after : List Printed
    pub first : printed mode t ≡ before ++ (printed_table mode true v ++ after)
    pub second : printed mode u
        ≡ before ++ (printed_table mode true v
        ++ (printed_line mode v.path (value_line mode (k ∷ []) n) ∷ after))
    pub others_before : AreOutside (to_key v.path k.name) before
    pub others_in : AreOutside (to_key v.path k.name) (printed_table mode true v)
    pub others_after : AreOutside (to_key v.path k.name) after
    pub read : (normal_in mode d).statements
        ≡ normal_last mode d
        (statements before ++ (statements (printed_table mode true v) ++ statements after))
    pub text : print_as d u
        ≡ text_with d (statements before
        ++ (statements (printed_table mode true v)
        ++ (line_statement mode (value_line mode (k ∷ []) n) ∷ statements after)))

  -- `set` of a new key, or below one, in the root or in a table that has a header.
  abbrev pub SetAdds : Type 0
  SetAdds =
      (d : Document) (t : Tree) (path : List Key) (v : Visit) (k : Key) (more : List Key)
      (value : Node)
      → IsRead d t → NamesTable t (names path) v → lookup_slot k.name (slot_list v.slots) ≡ None
      → is_plain_value value ≡ true → has_block mode v ≡ true
      → (u : Tree) × (set_at (path ++ (k ∷ more)) value t ≡ done u)
      × AddsStatement d t u v (cleared_key k) (made_below more value) × StaysSteady mode t u

  -- ---- remove

  -- The tree prints the statements of the normal text that are neither of the path nor of one below
  -- it.
  pub record DropsStatements (d : Document) (t u : Tree) (p : Path) : Type 0 where
    pub read : (normal_in mode d).statements ≡ normal_last mode d (statements (printed mode t))
    pub left : statements (printed mode u) ≡ statements (outside mode p t)
    pub text : print_as d u ≡ text_with d (statements (outside mode p t))

  -- `remove` of a slot of a table that the walk enters.
  abbrev pub RemoveDrops : Type 0
  RemoveDrops =
      (d : Document) (t : Tree) (path : List Text) (v : Visit) (k : Text) (s : Slot Node)
      → IsRead d t → NamesTable t path v → lookup_slot k (slot_list v.slots) ≡ Some s
      → is_item s.item ≡ true
      → (u : Tree) × (remove_at (path ++ (k ∷ [])) t ≡ done u)
      × (printed mode u ≡ outside mode (to_key v.path s.key.name) t)
      × DropsStatements d t u (to_key v.path s.key.name) × StaysSteady mode t u

  -- `remove` of an element of an array of tables that is such a slot.
  abbrev pub RemoveElementDrops : Type 0
  RemoveElementDrops =
      (d : Document) (t : Tree) (path : List Text) (v w : Visit) (k x : Text) (i : ℕ)
      → IsRead d t → NamesTable t path v → number_of x ≡ Some i → Leads (into_element k i ∷ []) v w
      → (u : Tree) × (remove_at (path ++ (k ∷ x ∷ [])) t ≡ done u) × DropsStatements d t u w.path
      × StaysSteady mode t u

  -- ---- what is written reads back

  -- the print is cut into its statements, which are accepted, and mean what the tree shows
  pub record ReadsBack (u : Tree) (is_open : Bool) : Type 0 where
    pub cut : IsCut (document_in mode is_open u) (print_in mode is_open u)
    pub accepted : is_accepted (document_in mode is_open u) ≡ true
    pub means : SameFacts (meaning (document_in mode is_open u)) (shown_meaning u)

  -- After `set`, or `remove`, the tree reads back where it fits.
  abbrev pub SetReadsBack : Type 0
  SetReadsBack =
      (t u : Tree) (path : List Key) (v : Node) → SlotsAreWellMade t.slots → IsWellMade v
      → AreSpelled path → set_at path v t ≡ done u → FitsIn mode u
      → (is_open : Bool) → ReadsBack u is_open

  abbrev pub RemoveReadsBack : Type 0
  RemoveReadsBack =
      (t u : Tree) (path : List Text) (k : Text) → SlotsAreWellMade t.slots
      → remove_at (path ++ (k ∷ [])) t ≡ done u → FitsIn mode u
      → (is_open : Bool) → ReadsBack u is_open

  -- ---- inside values, and placeholders

  -- `remove` of something inside a value of a table that the walk enters: that value's statement
  -- changes, in its frame.
  abbrev pub RemoveChanges : Type 0
  RemoveChanges =
      (d : Document) (t : Tree) (path : List Text) (v : Visit) (k : Text) (l : Key) (old : Node)
      (x : Text) (inner : List Text) (n : Node)
      → IsRead d t → NamesTable t path v → lookup_slot k (slot_list v.slots) ≡ Some (keyed l old)
      → is_value_node old ≡ true
      → remove_below (x ∷ inner) old ≡ done n
      → (u : Tree) × (remove_at (path ++ (k ∷ x ∷ inner)) t ≡ done u)
      × ChangesStatement d t u (to_key v.path l.name) old n × StaysSteady mode t u

  -- No slot of a table of what was read is a placeholder.
  abbrev pub ReadHasNoPlaceholders : Type 0
  ReadHasNoPlaceholders =
      (d : Document) (t : Tree) (path : List Text) (v : Visit) (k : Text) (s : Slot Node)
      → IsTreeOf (owned_in mode) d t → NamesTable t path v
      → lookup_slot k (slot_list v.slots) ≡ Some s → is_item s.item ≡ true

  -- In what was read, each path that leads to a table names it as the walk enters it.
  abbrev pub PathsHaveWays : Type 0
  PathsHaveWays =
      (d : Document) (t : Tree) (path : List Text) (f : TableFields) (ss : Slots)
      → IsTreeOf (owned_in mode) d t → item_at path t ≡ Some (table f ss)
      → (v : Visit) × NamesTable t path v × (v.fields ≡ f) × (v.slots ≡ ss)

-- ---- why `set` refuses

abbrev pub holds_tables : Node → Bool
holds_tables (table f ss) = true
holds_tables (tables e xs) = true
holds_tables _ = false

abbrev pub is_scalar : Node → Bool
is_scalar (leaf s r d) = true
is_scalar _ = false

abbrev pub is_listing : Node → Bool
is_listing (list f xs) = true
is_listing (tables e xs) = true
is_listing _ = false

-- on the path there are an item, and a segment after it, that are such
pub record Stops (P : Text → Node → Type 0) (path : List Text) (n : Node) : Type 0 where
  pub front : List Text
  pub segment : Text
  pub rest : List Text
  pub item : Node
  pub is : path ≡ front ++ (segment ∷ rest)
  pub there : item_below front n ≡ Some item
  pub such : P segment item

-- the wrong kind: a table or an array of tables at the end, or a scalar before it; no such path: a
-- segment that names no element; never a name that is taken
abbrev pub IsWhy : Refusal → List Text → Node → Type 0
IsWhy wrong_kind path n =
    ((x : Node) × (item_below path n ≡ Some x) × (holds_tables x ≡ true))
    ⊎ Stops (λ k x. is_scalar x ≡ true) path n
IsWhy no_such_path path n = Stops (λ k x. (is_listing x ≡ true) × (child k x ≡ None)) path n
IsWhy taken path n = ⊥

abbrev pub SetRefuses : Type 0
SetRefuses =
    (t : Tree) (path : List Key) (v : Node) (r : Refusal) → set_at path v t ≡ refused r
    → IsWhy r (names path) (root_item t)
