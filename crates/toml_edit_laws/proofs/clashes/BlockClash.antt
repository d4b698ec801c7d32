-- A key line can be added to the slots of the root exactly where it agrees with the statements before it: its block's table is there.
use Rattle.std.proofs.Common.{◌≡◌, ◌<◌, refl, sym, ◌∙◌, ap, subst, ℕ, zero, suc, ◌+◌, arith, Bool, true, false, List, [], ◌∷◌, length}
use Rattle.std.proofs.Common.{Option, Some, None}
use Rattle.std.specs.Prelude.{is_some, option_map, option_and_then}
use Rattle.toml_edit_model.specs.Mode.{Mode}
use Rattle.toml_edit_model.specs.Text.{Text, is_empty}
use Rattle.toml_edit_model.specs.Syntax.{Frame, Value, key_line}
use Rattle.toml_edit_model.specs.Paths.{at_key, at_element, Path, Mention, Source, Context, source_of, mentions_of, path_start}
use Rattle.toml_edit_model.specs.Accepted.{agree}
use Rattle.toml_edit_model.specs.Tree.{TableFields, Node, nothing, leaf, list, inline, table, tables, Items, no_items, item, Slots}
use Rattle.toml_edit_model.specs.TreeOf.{spanned_in, AreElementsOf, AreSlotsOf}
use Rattle.toml_edit_laws.specs.InlineTree.{node_at, with_node}
use Rattle.toml_edit_laws.specs.TableTree.{change_last, change_item, change_under, change_below_node, change_at, add_line, own_mentions}
use Rattle.toml_edit_laws.specs.TableTree.{add_statement}
use Rattle.toml_edit_laws.specs.Building.{keys_in, last_slots, block_slots, slots_along, change_in, change_along}
use Rattle.toml_edit_laws.proofs.common.Tests.{true-false}
use Rattle.toml_edit_laws.proofs.mentions.GatherLaws.{first_of_key, first_of_key-is}
use Rattle.toml_edit_laws.proofs.clashes.ClashMentions.{is_table_role, AreOfStatements, statements-under, statements-under_path}
use Rattle.toml_edit_laws.proofs.clashes.ClashKept.{kept-free}
use Rattle.toml_edit_laws.proofs.clashes.ClashRoles.{IsSlotNode, IsFound, node-found, AreRolesOf, standing}
use Rattle.toml_edit_laws.proofs.clashes.ClashCounts.{count_at, count-none, count-under, count-own}
use Rattle.toml_edit_laws.proofs.clashes.LineClash.{line_goes}
use Rattle.toml_edit_laws.proofs.building.Descent.{along_goes}
use Rattle.toml_edit_laws.proofs.clashes.ClashFaults.{agree-below}
use Rattle.toml_edit_laws.proofs.mentions.SomeAt.{any-test}
use Rattle.toml_edit_laws.proofs.common.OptionSteps.{map-twice}
use Rattle.toml_edit_laws.specs.KeptKeys.{under_path}
use Rattle.toml_edit_model.specs.Roles.{Role, may_meet, is_array_role}
use Rattle.toml_edit_model.specs.TableMentions.{under, kept, some_at, array_headers}
use Rattle.toml_edit_model.specs.Lists.{is_tables_node}
use Rattle.toml_edit_model.specs.Shown.{is_table_node}

-- ---- the table of a block

-- A table, or an element of an array of tables, stands at each step of the path.
abbrev pub IsBlockOf : Path → List (Mention Source) → Type 0
IsBlockOf [] ms = Unit {0}
IsBlockOf (at_key k ∷ at_element i ∷ p) ms = (i < count_at is_array_role (at_key k ∷ []) ms)
    × IsBlockOf p (under (at_element i) (under (at_key k) ms))
IsBlockOf (at_key k ∷ []) ms = some_at is_table_role (at_key k ∷ []) ms ≡ true
IsBlockOf (at_key k ∷ at_key l ∷ p) ms = (some_at is_table_role (at_key k ∷ []) ms ≡ true) × IsBlockOf (at_key l ∷ p) (under (at_key k) ms)
IsBlockOf (at_element i ∷ p) ms = ⊥

-- The element is the last of its array.
abbrev pub IsLastBlock : Path → List (Mention Source) → Type 0
IsLastBlock [] ms = Unit {0}
IsLastBlock (at_key k ∷ at_element i ∷ p) ms = (suc i ≡ count_at is_array_role (at_key k ∷ []) ms)
    × IsLastBlock p (under (at_element i) (under (at_key k) ms))
IsLastBlock (at_key k ∷ []) ms = some_at is_table_role (at_key k ∷ []) ms ≡ true
IsLastBlock (at_key k ∷ at_key l ∷ p) ms = (some_at is_table_role (at_key k ∷ []) ms ≡ true)
    × IsLastBlock (at_key l ∷ p) (under (at_key k) ms)
IsLastBlock (at_element i ∷ p) ms = ⊥

last-less : (i n : ℕ) → suc i ≡ n → i < n
last-less i n h = omega arith

pub last_is : (p : Path) (ms : List (Mention Source)) → IsLastBlock p ms → IsBlockOf p ms
last_is [] ms h = tt
last_is (at_key k ∷ []) ms h = h
last_is (at_key k ∷ at_key l ∷ p) ms h = (h.0, last_is (at_key l ∷ p) (under (at_key k) ms) h.1)
last_is (at_key k ∷ at_element i ∷ p) ms h =
    (last-less i (count_at is_array_role (at_key k ∷ []) ms) h.0, last_is p (under (at_element i) (under (at_key k) ms)) h.1)
last_is (at_element i ∷ p) ms h = absurd h

-- a change below a table is one of its slots
table-change : (p : Path) (change : Slots → Option Slots) (f : TableFields) (inner : Slots)
    → change_below_node p change (table f inner) ≡ option_map (table f) (change_at p change inner)
table-change [] change f inner = refl
table-change (at_key k ∷ p) change f inner = refl
table-change (at_element i ∷ p) change f inner = refl

-- two changes of the item of a key that is there
abbrev change_found : Text → (Node → Option Node) → Slots → Option Node → Option Slots
change_found k change ss o = option_and_then (λ n. option_map (λ changed. with_node k changed ss) (change n)) o

under-change : (k : Text) (one other : Node → Option Node) (ss : Slots) (n : Node) → node_at k ss ≡ Some n → one n ≡ other n
    → change_under k one ss ≡ change_under k other ss
under-change k one other ss n e h =
    ap (change_found k one ss) e ∙ ap (option_map (λ (changed : Node). with_node k changed ss)) h ∙ sym (ap (change_found k other ss) e)

found-down : (k : Text) (ks : List Text) (ss inner last : Slots) (n : Node) → node_at k ss ≡ Some n → block_slots n ≡ Some inner
    → slots_along ks inner ≡ Some last
    → slots_along (k ∷ ks) ss ≡ Some last
found-down k ks ss inner last n e g h =
    ap (λ (o : Option Node). option_and_then (slots_along ks) (option_and_then block_slots o)) e ∙ ap (option_and_then (slots_along ks)) g
    ∙ h

module _ (mode : Mode) where
  -- the last element that is there is a table
  pub record IsLastOf (ns : List (Mention Source)) (at i : ℕ) (xs : Items) : Type 0 where
    pub fields : TableFields
    pub inner : Slots
    pub slots : AreSlotsOf (spanned_in mode) (under (at_element at) ns) (kept (under (at_element at) ns)) inner
    pub last : last_slots xs ≡ Some inner
    pub goes : (one : Node → Option Node) (other : Slots → Option Slots) → one (table fields inner)
        ≡ option_map (table fields) (other inner)
        → change_item i one xs ≡ change_last other xs

  last-found : (ns : List (Mention Source)) (from i : ℕ) (hs : List (Mention Source)) (xs : Items) → suc i ≡ length hs
      → AreElementsOf (spanned_in mode) ns from hs xs
      → IsLastOf ns (from + i) i xs
  last-found ns from i [] xs e h = absurd (omega arith)
  last-found ns from i (a ∷ more) no_items e h = absurd h
  last-found ns from zero (a ∷ []) (item (table f inner) no_items) e h =
      let same : from ≡ from + 0 = omega arith in
      record {
        fields = f;
        inner = inner;
        slots = subst (λ j. AreSlotsOf (spanned_in mode) (under (at_element j) ns) (kept (under (at_element j) ns)) inner) same h.1;
        last = refl;
        goes = λ one other e.
            ap (option_map (λ (changed : Node). item changed no_items)) e
            ∙ map-twice (table f) (λ (changed : Node). item changed no_items) (other inner);
      }
  last-found ns from (suc i) (a ∷ []) (item (table f inner) no_items) e h = absurd (omega arith)
  last-found ns from i (a ∷ []) (item (table f inner) (item y ys)) e h = absurd h.2
  last-found ns from i (a ∷ b ∷ more) (item (table f inner) no_items) e h = absurd h.2
  last-found ns from zero (a ∷ b ∷ more) (item (table f us) (item y ys)) e h = absurd (omega arith)
  last-found ns from (suc i) (a ∷ b ∷ more) (item (table f us) (item y ys)) e h =
      let fewer : suc i ≡ length (b ∷ more) = omega arith in
      let found = last-found ns (suc from) i (b ∷ more) (item y ys) fewer h.2 in
      let same : suc from + i ≡ from + suc i = omega arith in
      record {
        fields = found.fields;
        inner = found.inner;
        slots = subst (λ j. AreSlotsOf (spanned_in mode) (under (at_element j) ns) (kept (under (at_element j) ns)) found.inner) same
            found.slots;
        last = found.last;
        goes = λ one other e. ap (option_map (item (table f us))) (found.goes one other e);
      }
  last-found ns from i (a ∷ more) (item n xs) e h = absurd h

  -- the item of a key with such a role
  abbrev HasItem : (Role → Bool) → Text → List (Mention Source) → Slots → Type 0
  HasItem test k ms ss =
      (n : Node) × (node_at k ss ≡ Some n) × AreRolesOf ms (at_key k ∷ []) n
      × ((j : Mention Source) × (k ≡ j.segment.key) × IsSlotNode mode ms j n)

  item-at : (test : Role → Bool) (k : Text) (ms : List (Mention Source)) (ss : Slots) → AreOfStatements ms
      → AreSlotsOf (spanned_in mode) ms (kept ms) ss
      → some_at test (at_key k ∷ []) ms ≡ true → HasItem test k ms ss
  item-at test k ms ss are h stands = by_node (node_at k ss) refl (first_of_key k (kept ms)) refl (node-found mode ms (kept ms) k ss h)
    where
      by_node : (o : Option Node) → node_at k ss ≡ o → (first : Option (Mention Source)) → first_of_key k (kept ms) ≡ first
          → IsFound mode ms first o → HasItem test k ms ss
      by_node None g None e found =
          true-false (some_at test (at_key k ∷ []) ms) stands (any-test test (at_key k ∷ []) ms (kept-free k ms are.named e))
      by_node None g (Some j) e found = absurd found
      by_node (Some n) g None e found = absurd found
      by_node (Some n) g (Some j) e found =
          (n, g, (standing (spanned_in mode) k ms j n are e found).roles, (j, first_of_key-is k (kept ms) j e, found))

  -- The table of a block: its slots, and a change of them by the keys of its header alone.
  pub record HasBlock (p : Path) (ms : List (Mention Source)) (ss : Slots) : Type 0 where
    pub inner : Slots
    pub slots : AreSlotsOf (spanned_in mode) (under_path p ms) (kept (under_path p ms)) inner
    pub found : slots_along (keys_in p) ss ≡ Some inner
    pub goes : (change : Slots → Option Slots) → change_at p change ss ≡ change_along (keys_in p) change ss

  -- one key down, in a table
  table-down : (k : Text) (p : Path) (ms : List (Mention Source)) (ss : Slots) → AreOfStatements ms
      → AreSlotsOf (spanned_in mode) ms (kept ms) ss
      → some_at is_table_role (at_key k ∷ []) ms ≡ true
      → ((inner : Slots) → AreSlotsOf (spanned_in mode) (under (at_key k) ms) (kept (under (at_key k) ms)) inner
      → HasBlock p (under (at_key k) ms) inner)
      → HasBlock (at_key k ∷ p) ms ss
  table-down k p ms ss are h stands further =
      let (n, found, roles, (j, key, is)) = item-at is_table_role k ms ss are h stands in
      by_item n found (sym roles.table ∙ stands) j key is
    where
      by_item : (n : Node) → node_at k ss ≡ Some n → is_table_node n ≡ true → (j : Mention Source) → k ≡ j.segment.key
          → IsSlotNode mode ms j n → HasBlock (at_key k ∷ p) ms ss
      by_item (table f inner) g t j key is =
          let block = further inner (subst (λ l. AreSlotsOf (spanned_in mode) (under (at_key l) ms) (kept (under (at_key l) ms)) inner)
          (sym key) is.2) in
          record {
            inner = block.inner;
            slots = block.slots;
            found = found-down k (keys_in p) ss inner block.inner (table f inner) g refl block.found;
            goes = λ change.
                under-change k (change_below_node p change) (change_in (change_along (keys_in p) change)) ss (table f inner) g
                (table-change p change f inner ∙ ap (option_map (table f)) (block.goes change));
          }
      by_item nothing g t j key is = absurd cc
      by_item (leaf s x d) g t j key is = absurd cc
      by_item (list f xs) g t j key is = absurd cc
      by_item (inline f us) g t j key is = absurd cc
      by_item (tables x xs) g t j key is = absurd cc

  -- one element down
  element-down : (k : Text) (i : ℕ) (p : Path) (ms : List (Mention Source)) (ss : Slots) → AreOfStatements ms
      → AreSlotsOf (spanned_in mode) ms (kept ms) ss
      → suc i ≡ count_at is_array_role (at_key k ∷ []) ms
      → ((inner : Slots) → AreSlotsOf (spanned_in mode) (under (at_element i) (under (at_key k) ms))
      (kept (under (at_element i) (under (at_key k) ms))) inner
      → HasBlock p (under (at_element i) (under (at_key k) ms)) inner)
      → HasBlock (at_key k ∷ at_element i ∷ p) ms ss
  element-down k i p ms ss are h last further =
      let (n, found, roles, (j, key, is)) = item-at is_array_role k ms ss are h (stands (some_at is_array_role (at_key k ∷ []) ms) refl) in
      by_item n found (sym roles.array ∙ stands (some_at is_array_role (at_key k ∷ []) ms) refl) j key is
    where
      none-last : (a b : ℕ) → suc a ≡ b → b ≡ 0 → ⊥
      none-last a b l e = omega arith

      stands : (b : Bool) → some_at is_array_role (at_key k ∷ []) ms ≡ b → some_at is_array_role (at_key k ∷ []) ms ≡ true
      stands true e = e
      stands false e =
          absurd (none-last i (count_at is_array_role (at_key k ∷ []) ms) last (count-none is_array_role (at_key k ∷ []) ms e))

      within : suc i ≡ length (array_headers (under (at_key k) ms))
      within = last ∙ sym (count-own (under (at_key k) ms) ∙ count-under is_array_role (at_key k) [] ms)

      by_item : (n : Node) → node_at k ss ≡ Some n → is_tables_node n ≡ true → (j : Mention Source) → k ≡ j.segment.key
          → IsSlotNode mode ms j n
          → HasBlock (at_key k ∷ at_element i ∷ p) ms ss
      by_item (tables x xs) g t j key is =
          let elements = subst (λ l. AreElementsOf (spanned_in mode) (under (at_key l) ms) 0 (array_headers (under (at_key l) ms)) xs)
          (sym key) is.2 in
          let element = last-found (under (at_key k) ms) 0 i (array_headers (under (at_key k) ms)) xs within elements in
          let same : 0 + i ≡ i = omega arith in
          let block =
          further element.inner
          (subst (λ o. AreSlotsOf (spanned_in mode) (under (at_element o) (under (at_key k) ms))
          (kept (under (at_element o) (under (at_key k) ms))) element.inner) same element.slots) in
          record {
            inner = block.inner;
            slots = block.slots;
            found = found-down k (keys_in p) ss element.inner block.inner (tables x xs) g element.last block.found;
            goes = λ change.
                under-change k (change_below_node (at_element i ∷ p) change) (change_in (change_along (keys_in p) change)) ss (tables x xs)
                g
                (ap (option_map (tables x))
                (element.goes (change_below_node p change) (change_along (keys_in p) change)
                (table-change p change element.fields element.inner ∙ ap (option_map (table element.fields)) (block.goes change))));
          }
      by_item nothing g t j key is = absurd cc
      by_item (leaf s x d) g t j key is = absurd cc
      by_item (list f xs) g t j key is = absurd cc
      by_item (inline f us) g t j key is = absurd cc
      by_item (table f us) g t j key is = absurd cc

  -- the root is its own block
  root-block : (ms : List (Mention Source)) (ss : Slots) → AreSlotsOf (spanned_in mode) ms (kept ms) ss → HasBlock [] ms ss
  root-block ms ss h = record { inner = ss; slots = h; found = refl; goes = λ change. refl }

  -- A block's table is there, with the slots of what is mentioned below its path.
  pub block_found : (p : Path) (ms : List (Mention Source)) (ss : Slots) → AreOfStatements ms → AreSlotsOf (spanned_in mode) ms (kept ms) ss
      → IsLastBlock p ms → HasBlock p ms ss
  block_found [] ms ss are h block = root-block ms ss h
  block_found (at_key k ∷ []) ms ss are h block =
      table-down k [] ms ss are h block (λ inner slots. root-block (under (at_key k) ms) inner slots)
  block_found (at_key k ∷ at_key l ∷ p) ms ss are h block =
      table-down k (at_key l ∷ p) ms ss are h block.0
      (λ inner slots. block_found (at_key l ∷ p) (under (at_key k) ms) inner (statements-under (at_key k) ms are) slots block.1)
  block_found (at_key k ∷ at_element i ∷ p) ms ss are h block =
      element-down k i p ms ss are h block.0
      (λ inner slots.
      block_found p (under (at_element i) (under (at_key k) ms)) inner
      (statements-under (at_element i) (under (at_key k) ms) (statements-under (at_key k) ms are)) slots block.1)
  block_found (at_element i ∷ p) ms ss are h block = absurd block

  -- A key line can be added exactly where it agrees with the statements before it.
  pub key_line_goes : (c : Context) (f : Frame) (v : Value) (end : Text) (ms : List (Mention Source)) (n : Node) (ss : Slots)
      → is_empty f.path ≡ false
      → AreOfStatements ms → IsLastBlock c.block ms → AreSlotsOf (spanned_in mode) ms (kept ms) ss
      → is_some (add_statement mode c (key_line f v end) n ss) ≡ agree may_meet ms (mentions_of c (key_line f v end))
  key_line_goes c f v end ms n ss keyed are block h =
      let source = source_of c (key_line f v end) in
      let start = c.start + path_start (key_line f v end) in
      let own = add_line mode (own_mentions c (key_line f v end)) n in
      let table = block_found c.block ms ss are h block in
      ap is_some (table.goes own)
      ∙ along_goes (keys_in c.block) own ss table.inner table.found
      ∙ line_goes mode source start f.path (under_path c.block ms) n table.inner keyed (statements-under_path c.block ms are) table.slots
      ∙ sym (agree-below c.block source start f.path ms)
