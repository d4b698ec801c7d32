-- What is left at paths where another item is put at one.
use Rattle.std.proofs.Common.{◌≡◌, ◌∙◌, refl, sym, ap, subst, ℕ, zero, suc, Bool, true, false, List, [], ◌∷◌, Option, Some, None}
use Rattle.std.specs.Prelude.{slice_get, if◌then◌else◌}
use Rattle.std.specs.List.{AllByRecursion, IsDistinct}
use Rattle.toml_edit_model.specs.ArrayCalls.{written_at}
use Rattle.toml_edit_model.specs.Keys.{new_key}
use Rattle.toml_edit_model.specs.Lists.{slot_list, slots_from, slots_in, item_list, items_from, is_item, only}
use Rattle.toml_edit_model.specs.Shown.{is_table_node}
use Rattle.toml_edit_model.specs.Slots.{Slot, AreApart, with_item, lookup_slot, changed, names}
use Rattle.toml_edit_model.specs.Text.{Text, same_text}
use Rattle.toml_edit_model.specs.Tree.{Key, Node, nothing, leaf, list, inline, table, tables, Tree, is_value_node}
use Rattle.toml_edit_edit_laws.specs.Commands.{Answer, done, mapped, element_of, present, second, child, and_then, item_below, change_slot}
use Rattle.toml_edit_edit_laws.specs.Commands.{change_element, child_changed, root_item, with_slots, item_at}
use Rattle.toml_edit_paths.specs.Calls.{item_inside, replaced_at, replaced_below}
use Rattle.toml_edit_slots.specs.Seen.{seen}
use Rattle.toml_edit_slots.specs.declared.slots.Slot as held_slot
use Rattle.toml_edit_tree.specs.Indexed.{shown_slots}
use Rattle.toml_edit_tree.specs.declared.item.Item.{Item}
use Rattle.toml_edit_edits.specs.Along.{AreApartAlong}
use Rattle.toml_edit_edits.proofs.ViewedSlots.{shown-apart}
use Rattle.toml_edit_laws.proofs.common.OptionSteps.{some-is}
use Rattle.toml_edit_laws.proofs.common.Tests.{if-false, same_text-is}
use Rattle.toml_edit_laws.proofs.locality.Slots.{slot_list-from, item_list-from, slots_from-list, items_from-list}
use Rattle.toml_edit_edit_laws.proofs.commands.Apart.{apart-same, named, names as element-names, place-same, slot-same}
use Rattle.toml_edit_edit_laws.proofs.commands.Removing.{item-present}
use Rattle.toml_edit_edit_laws.proofs.commands.Setting.{done-is, was-mapped}

-- ---- what is found

pub found-then : (f : Node → Option Node) (o : Option Node) (y : Node) → and_then f o ≡ Some y → (x : Node) × (o ≡ Some x) × (f x ≡ Some y)
found-then f None y h = absurd cc
found-then f (Some x) y h = (x, refl, h)

only-is : (n c : Node) → only is_item n ≡ Some c → (n ≡ c) × (is_item c ≡ true)
only-is n c h = by_test (is_item n) refl h
  where
    by_test : (b : Bool) → is_item n ≡ b → (if b then Some n else None) ≡ Some c → (n ≡ c) × (is_item c ≡ true)
    by_test true e h = (some-is n c h, subst (λ x. is_item x ≡ true) (some-is n c h) e)
    by_test false e h = absurd cc

-- a slot that holds the item
pub record Held (k : Text) (ss : List (Slot Node)) (c : Node) : Type 0 where
  pub slot : Slot Node
  pub there : lookup_slot k ss ≡ Some slot
  pub holds : slot.item ≡ c
  pub filled : is_item c ≡ true

pub held : (k : Text) (ss : List (Slot Node)) (c : Node) → present (lookup_slot k ss) ≡ Some c → Held k ss c
held k ss c h = by_slot (lookup_slot k ss) refl h
  where
    by_slot : (o : Option (Slot Node)) → lookup_slot k ss ≡ o → present o ≡ Some c → Held k ss c
    by_slot None e h = absurd cc
    by_slot (Some s) e h =
        let p = only-is s.item c h in
        record { slot = s; there = e; holds = p.0; filled = p.1 }

-- an element that is it
pub record Element (is : Node → Bool) (k : Text) (ns : List Node) (c : Node) : Type 0 where
  pub at : ℕ
  pub there : element_of is k ns ≡ Some (at, c)

pub element : (is : Node → Bool) (k : Text) (ns : List Node) (c : Node) → second (element_of is k ns) ≡ Some c → Element is k ns c
element is k ns c h = by_element (element_of is k ns) refl h
  where
    by_element : (o : Option (ℕ × Node)) → element_of is k ns ≡ o → second o ≡ Some c → Element is k ns c
    by_element None e h = absurd cc
    by_element (Some x) e h =
        record { at = x.0; there = e ∙ ap (λ y. Some (x.0, y)) (some-is x.1 c h) }

-- ---- the same item put back

untouched : (k : Text) (f : Slot Node → Slot Node) (ss : List (Slot Node)) → AllByRecursion (λ y. same_text k y ≡ false) (names ss)
    → changed k f ss ≡ ss
untouched k f [] h = refl
untouched k f (s ∷ ss) h =
    ap (λ (r : List (Slot Node)). (if same_text k s.key.name then f s else s) ∷ r) (untouched k f ss h.1)
    ∙ ap (λ (r : Slot Node). r ∷ ss) (if-false (same_text k s.key.name) (f s) s h.0)

pub same-slots : (k : Text) (ss : List (Slot Node)) (s : Slot Node) → lookup_slot k ss ≡ Some s → AreApart ss
    → changed k (with_item s.item) ss ≡ ss
unfolding IsDistinct
same-slots k [] s h apart = absurd cc
same-slots k (x ∷ ss) s h apart = by_test (same_text k x.key.name) refl h (λ g. same-slots k ss s g apart.1)
  where
    by_test : (b : Bool) → same_text k x.key.name ≡ b → (if b then Some x else lookup_slot k ss) ≡ Some s
        → (lookup_slot k ss ≡ Some s → changed k (with_item s.item) ss ≡ ss)
        → (if b then with_item s.item x else x) ∷ changed k (with_item s.item) ss ≡ x ∷ ss
    by_test true e h ih =
        let is : x ≡ s = some-is x s h in
        let name : k ≡ x.key.name = same_text-is k x.key.name e in
        ap (λ (y : Slot Node). with_item y.item x ∷ changed k (with_item s.item) ss) (sym is)
        ∙ ap (λ (r : List (Slot Node)). x ∷ r) (untouched k (with_item s.item) ss
        (subst (λ y. AllByRecursion (λ z. same_text y z ≡ false) (names ss)) (sym name) apart.0))
    by_test false e h ih = ap (λ (r : List (Slot Node)). x ∷ r) (ih h)

same-items : (i : ℕ) (ns : List Node) (n : Node) → slice_get ns i ≡ Some n → written_at i n ns ≡ ns
same-items i [] n h = refl
same-items zero (x ∷ ns) n h = ap (λ y. y ∷ ns) (sym (some-is x n h))
same-items (suc i) (x ∷ ns) n h = ap (λ r. x ∷ r) (same-items i ns n h)

module _ (k : Text) (go : Node → Answer Node) (c : Node) (same : go c ≡ done c) where
  slots-kept : (ss : List (Slot Node)) → present (lookup_slot k ss) ≡ Some c → AreApart ss
      → change_slot false (new_key k) go ss (lookup_slot k ss) ≡ done ss
  slots-kept ss h apart =
      let s = held k ss c h in
      ap (change_slot false (new_key k) go ss) s.there
      ∙ ap (λ x. mapped (λ m. changed k (with_item m) ss) (go x)) s.holds
      ∙ ap (mapped (λ m. changed k (with_item m) ss)) same
      ∙ ap (λ x. done (changed k (with_item x) ss)) (sym s.holds)
      ∙ ap (λ (r : List (Slot Node)). done r) (same-slots k ss s.slot s.there apart)

  items-kept : (is : Node → Bool) (ns : List Node) → second (element_of is k ns) ≡ Some c
      → change_element go ns (element_of is k ns) ≡ done ns
  items-kept is ns h =
      let x = element is k ns c h in
      ap (change_element go ns) x.there
      ∙ ap (mapped (λ m. written_at x.at m ns)) same
      ∙ ap (λ (r : List Node). done r) (same-items x.at ns c (named is k ns (x.at, c) x.there).item)

  child-kept : (n : Node) → child k n ≡ Some c → ((es : List (Slot Node)) → slots_in n ≡ Some es → AreApart es)
      → child_changed false (new_key k) go n ≡ done n
  child-kept (table f ss) h apart =
      ap (mapped (λ xs. table f (slots_from xs))) (slots-kept (slot_list ss) h (apart (slot_list ss) refl)) ∙ ap (λ x. done (table f x)) (slots_from-list ss)
  child-kept (inline f ss) h apart =
      ap (mapped (λ xs. inline f (slots_from xs))) (slots-kept (slot_list ss) h (apart (slot_list ss) refl)) ∙ ap (λ x. done (inline f x)) (slots_from-list ss)
  child-kept (list f xs) h apart =
      ap (mapped (λ ns. list f (items_from ns))) (items-kept is_value_node (item_list xs) h) ∙ ap (λ x. done (list f x)) (items_from-list xs)
  child-kept (tables e xs) h apart =
      ap (mapped (λ ns. tables e (items_from ns))) (items-kept is_table_node (item_list xs) h) ∙ ap (λ x. done (tables e x)) (items_from-list xs)
  child-kept (leaf s r d) h apart = absurd cc
  child-kept nothing h apart = absurd cc

-- an item that is put back where it was leaves all as it was
pub put-back : (path : List Text) (n m : Node) → AreApartAlong path n → item_below path n ≡ Some m → replaced_below path m n ≡ done n
put-back [] n m apart h = ap done (sym (some-is n m h))
put-back (k ∷ path) n m apart h =
    let c = found-then (item_below path) (child k n) m h in
    child-kept k (replaced_below path m) c.0 (put-back path c.0 m (apart.1 c.0 c.1) c.2) n c.1 apart.0

pub inside-below : (path : List Text) (n m : Node) → item_inside path n ≡ Some m → item_below path n ≡ Some m
inside-below [] n m h = absurd cc
inside-below (k ∷ path) n m h = h

pub put-back-in : (path : List Text) (t : Tree) (m : Node) → AreApartAlong path (root_item t) → item_at path t ≡ Some m
    → replaced_at path m t ≡ done t
put-back-in path t m apart h = ap (mapped (with_slots t)) (put-back path (root_item t) m apart h)

-- ---- what another item leaves

-- the items are of one kind, as a path sees it
pub record OneKind (n m : Node) : Type 0 where
  pub item : is_item m ≡ is_item n
  pub value : is_value_node m ≡ is_value_node n
  pub table : is_table_node m ≡ is_table_node n

pub one-kind : (n : Node) → OneKind n n
one-kind n = record { item = refl; value = refl; table = refl }

kind-stays : (k : Key) (go : Node → Answer Node) (n m : Node) → child_changed false k go n ≡ done m → OneKind n m
kind-stays k go (table f ss) m h =
    let w = was-mapped (λ xs. table f (slots_from xs)) (change_slot false k go (slot_list ss) (lookup_slot k.name (slot_list ss))) m h in
    subst (OneKind (table f ss)) (sym w.gives) (record { item = refl; value = refl; table = refl })
kind-stays k go (inline f ss) m h =
    let w = was-mapped (λ xs. inline f (slots_from xs)) (change_slot false k go (slot_list ss) (lookup_slot k.name (slot_list ss))) m h in
    subst (OneKind (inline f ss)) (sym w.gives) (record { item = refl; value = refl; table = refl })
kind-stays k go (list f xs) m h =
    let w = was-mapped (λ ns. list f (items_from ns)) (change_element go (item_list xs) (element_of is_value_node k.name (item_list xs))) m h in
    subst (OneKind (list f xs)) (sym w.gives) (record { item = refl; value = refl; table = refl })
kind-stays k go (tables e xs) m h =
    let w = was-mapped (λ ns. tables e (items_from ns)) (change_element go (item_list xs) (element_of is_table_node k.name (item_list xs))) m h in
    subst (OneKind (tables e xs)) (sym w.gives) (record { item = refl; value = refl; table = refl })
kind-stays k go (leaf s r d) m h = absurd cc
kind-stays k go nothing m h = absurd cc

-- the item that a segment leads to, before a change and after it
record Stepped (k : Text) (go : Node → Answer Node) (c n : Node) : Type 0 where
  left : Node
  went : go c ≡ done left
  there : OneKind c left → child k n ≡ Some left

module _ (k : Text) (go : Node → Answer Node) (c : Node) where
  slots-stepped : (ss xs : List (Slot Node)) → present (lookup_slot k ss) ≡ Some c
      → change_slot false (new_key k) go ss (lookup_slot k ss) ≡ done xs
      → (m : Node) × (go c ≡ done m) × (OneKind c m → present (lookup_slot k xs) ≡ Some m)
  slots-stepped ss xs h g =
      let s = held k ss c h in
      let put = λ (m : Node). changed k (with_item m) ss in
      let w = was-mapped put (go s.slot.item) xs (sym (ap (change_slot false (new_key k) go ss) s.there) ∙ g) in (
        w.from,
        subst (λ x. go x ≡ done w.from) s.holds w.is,
        λ kind. ap (λ ys. present (lookup_slot k ys)) w.gives ∙ ap present (slot-same k w.from ss s.slot s.there)
            ∙ item-present s.slot.key w.from (kind.item ∙ s.filled),
      )

  items-stepped : (is : Node → Bool) (ns xs : List Node) → second (element_of is k ns) ≡ Some c
      → change_element go ns (element_of is k ns) ≡ done xs
      → (m : Node) × (go c ≡ done m) × (is m ≡ is c → second (element_of is k xs) ≡ Some m)
  items-stepped is ns xs h g =
      let x = element is k ns c h in
      let put = λ (m : Node). written_at x.at m ns in
      let w = was-mapped put (go c) xs (sym (ap (change_element go ns) x.there) ∙ g) in
      let r = named is k ns (x.at, c) x.there in (
        w.from,
        w.is,
        λ kind. ap (λ ys. second (element_of is k ys)) w.gives
            ∙ ap second (element-names is k (put w.from) x.at w.from r.number (place-same x.at (λ old. w.from) ns c r.item) (kind ∙ r.kind)),
      )

  stepped : (n n' : Node) → child k n ≡ Some c → child_changed false (new_key k) go n ≡ done n' → Stepped k go c n'
  stepped (table f ss) n' h g =
      let w = was-mapped (λ xs. table f (slots_from xs)) (change_slot false (new_key k) go (slot_list ss) (lookup_slot k (slot_list ss))) n' g in
      let s = slots-stepped (slot_list ss) w.from h w.is in
      record {
        left = s.0;
        went = s.1;
        there = λ kind. ap (child k) w.gives ∙ ap (λ ys. present (lookup_slot k ys)) (slot_list-from w.from) ∙ s.2 kind;
      }
  stepped (inline f ss) n' h g =
      let w = was-mapped (λ xs. inline f (slots_from xs)) (change_slot false (new_key k) go (slot_list ss) (lookup_slot k (slot_list ss))) n' g in
      let s = slots-stepped (slot_list ss) w.from h w.is in
      record {
        left = s.0;
        went = s.1;
        there = λ kind. ap (child k) w.gives ∙ ap (λ ys. present (lookup_slot k ys)) (slot_list-from w.from) ∙ s.2 kind;
      }
  stepped (list f xs) n' h g =
      let w = was-mapped (λ ns. list f (items_from ns)) (change_element go (item_list xs) (element_of is_value_node k (item_list xs))) n' g in
      let s = items-stepped is_value_node (item_list xs) w.from h w.is in
      record {
        left = s.0;
        went = s.1;
        there = λ kind. ap (child k) w.gives ∙ ap (λ ys. second (element_of is_value_node k ys)) (item_list-from w.from) ∙ s.2 kind.value;
      }
  stepped (tables e xs) n' h g =
      let w = was-mapped (λ ns. tables e (items_from ns)) (change_element go (item_list xs) (element_of is_table_node k (item_list xs))) n' g in
      let s = items-stepped is_table_node (item_list xs) w.from h w.is in
      record {
        left = s.0;
        went = s.1;
        there = λ kind. ap (child k) w.gives ∙ ap (λ ys. second (element_of is_table_node k ys)) (item_list-from w.from) ∙ s.2 kind.table;
      }
  stepped (leaf s r d) n' h g = absurd cc
  stepped nothing n' h g = absurd cc

-- what other segments lead to
child-other : (j k : Text) (go : Node → Answer Node) (n n' : Node) → same_text j k ≡ false → child_changed false (new_key k) go n ≡ done n'
    → child j n' ≡ child j n
child-other j k go n n' d h = ends (child j n') (child j n) (apart-same new_key false run (λ l path m. refl) (k ∷ []) (j ∷ []) n n' (if-false (same_text j k) false true d) h)
  where
    run : List Text → Node → Answer Node
    run [] m = go m
    run (l ∷ path) m = child_changed false (new_key l) (run path) m

    ends : (a b : Option Node) → and_then (item_below []) a ≡ and_then (item_below []) b → a ≡ b
    ends None None e = refl
    ends (Some x) (Some y) e = e
    ends None (Some y) e = absurd cc
    ends (Some x) None e = absurd cc

-- the item has what the first has below it
abbrev pub HasAllOf : Node → Node → Type 0
HasAllOf y m =
    (k : Text) (path : List Text) (x : Node) → item_below (k ∷ path) y ≡ Some x → (z : Node) × (item_below (k ∷ path) m ≡ Some z)

-- the second path goes on from the first, or is the same
abbrev pub begins : List Text → List Text → Bool
begins [] q = true
begins (j ∷ p) [] = false
begins (j ∷ p) (k ∷ q) = if same_text j k then begins p q else false

pub kind-below : (path : List Text) (m n n' y : Node) → OneKind y m → item_below path n ≡ Some y → replaced_below path m n ≡ done n' → OneKind n n'
kind-below [] m n n' y kind h g =
    subst (λ x. OneKind x n') (sym (some-is n y h)) (subst (OneKind y) (done-is m n' g) kind)
kind-below (k ∷ path) m n n' y kind h g = kind-stays (new_key k) (replaced_below path m) n n' g

-- What is at a path is still there after another item of the same kind, which has all of the old
-- one below it, is put at a path that does not begin with the first.
pub still-there : (from path : List Text) (m n n' y x : Node) → begins from path ≡ false → OneKind y m → HasAllOf y m
    → item_below path n ≡ Some y → replaced_below path m n ≡ done n' → item_below from n ≡ Some x
    → (z : Node) × (item_below from n' ≡ Some z)
still-there [] path m n n' y x b kind has at put h = absurd cc
still-there (j ∷ from) [] m n n' y x b kind has at put h =
    subst (λ r. (z : Node) × (item_below (j ∷ from) r ≡ Some z)) (done-is m n' put)
    (has j from x (subst (λ r. item_below (j ∷ from) r ≡ Some x) (some-is n y at) h))
still-there (j ∷ from) (k ∷ path) m n n' y x b kind has at put h =
    by_test (same_text j k) refl b (λ a a' d. still-there from path m a a' y x d kind has)
  where
    by_test : (s : Bool) → same_text j k ≡ s → (if s then begins from path else false) ≡ false
        → ((a a' : Node) → begins from path ≡ false → item_below path a ≡ Some y → replaced_below path m a ≡ done a' → item_below from a ≡ Some x
        → (z : Node) × (item_below from a' ≡ Some z))
        → (z : Node) × (item_below (j ∷ from) n' ≡ Some z)
    by_test true e d ih =
        let is : j ≡ k = same_text-is j k e in
        let c = found-then (item_below path) (child k n) y at in
        let a = stepped k (replaced_below path m) c.0 n n' c.1 put in
        let there : child k n' ≡ Some a.left = a.there (kind-below path m c.0 a.left y kind c.2 a.went) in
        let old : item_below from c.0 ≡ Some x = sym (ap (and_then (item_below from)) c.1) ∙ subst (λ l. item_below (l ∷ from) n ≡ Some x) is h in
        let r = ih c.0 a.left d c.2 a.went old in
        subst (λ l. (z : Node) × (item_below (l ∷ from) n' ≡ Some z)) (sym is)
        (r.0, ap (and_then (item_below from)) there ∙ r.1)
    by_test false e d ih = (x, ap (and_then (item_below from)) (child-other j k (replaced_below path m) n n' e put) ∙ h)

-- ---- the tables on a path

pub opened : (n : Node) (slots : List (held_slot.Slot Item)) → slots_in n ≡ Some (shown_slots slots) → AreApart (seen slots)
    → (es : List (Slot Node)) → slots_in n ≡ Some es → AreApart es
opened n slots is apart es h = subst (λ x. AreApart x) (some-is (shown_slots slots) es (sym is ∙ h)) (shown-apart slots apart)

pub unopened : (n : Node) → slots_in n ≡ None → (es : List (Slot Node)) → slots_in n ≡ Some es → AreApart es
unopened n none es h = absurd (clash (sym none ∙ h))
  where
    clash : ◌≡◌ {A = Option (List (Slot Node))} None (Some es) → ⊥
    clash e = cc

pub one-child : (k : Text) (n m : Node) → item_below (k ∷ []) n ≡ Some m → child k n ≡ Some m
one-child k n m h = let x = found-then (item_below []) (child k n) m h in x.1 ∙ x.2

pub along-below : (k : Text) (path : List Text) (n m : Node) → ((es : List (Slot Node)) → slots_in n ≡ Some es → AreApart es)
    → child k n ≡ Some m → AreApartAlong path m → AreApartAlong (k ∷ path) n
along-below k path n m apart is below = (apart, λ x h. subst (AreApartAlong path) (some-is m x (sym is ∙ h)) below)

pub along-none : (k : Text) (path : List Text) (n : Node) → ((es : List (Slot Node)) → slots_in n ≡ Some es → AreApart es)
    → child k n ≡ None → AreApartAlong (k ∷ path) n
along-none k path n apart none = (apart, λ x h. absurd (clash x (sym none ∙ h)))
  where
    clash : (x : Node) → ◌≡◌ {A = Option Node} None (Some x) → ⊥
    clash x e = cc

pub no-child : (k : Text) (n : Node) → item_below (k ∷ []) n ≡ None → child k n ≡ None
no-child k n h = by_child (child k n) h
  where
    by_child : (o : Option Node) → and_then (item_below []) o ≡ None → o ≡ None
    by_child None e = refl
    by_child (Some x) e = absurd cc
