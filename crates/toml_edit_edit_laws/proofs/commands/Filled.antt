-- The tree of a text has no placeholders in its tables.
use Rattle.std.proofs.Common.{◌≡◌, refl, subst, ℕ, suc, Bool, true, false, List, [], ◌∷◌, ◌++◌, length, Some}
use Rattle.std.specs.Prelude.{◌+◌, if◌then◌else◌}
use Rattle.toml_edit_model.specs.Mode.{Mode, with_return}
use Rattle.toml_edit_model.specs.Syntax.{Value, scalar, array, inline_table, Elements, no_elements, element, Statement, key_line, header}
use Rattle.toml_edit_model.specs.Syntax.{value_text}
use Rattle.toml_edit_model.specs.Text.{Text, same_text}
use Rattle.toml_edit_model.specs.Paths.{at_key, at_element, Mention, Source, all_mentions, to_key, to_element}
use Rattle.toml_edit_model.specs.Tree.{Key, Extent, TableFields, Node, nothing, leaf, list, inline, table, tables, Items, no_items, item}
use Rattle.toml_edit_model.specs.Tree.{Slots, no_slots, slot, is_value_node}
use Rattle.toml_edit_model.specs.TreeOf.{owned_in, Entry, value_start, entries, IsValueNode, AreElementNodes, AreEntrySlots, IsLineNode}
use Rattle.toml_edit_model.specs.TreeOf.{IsNodeOf, AreElementsOf, AreSlotsOf}
use Rattle.toml_edit_model.specs.HeaderOrder.{Visit, visit_of}
use Rattle.toml_edit_laws.specs.Locality.{Turn, into_table, into_element, Leads, root_visit, element_count}
use Rattle.toml_edit_edit_laws.specs.Commands.{element_of, present, second, child, item_below}
use Rattle.toml_edit_edit_laws.specs.CommandLaws.{Goes, ReadHasNoPlaceholders, PathsHaveWays}
use Rattle.toml_edit_edit_laws.proofs.commands.Keeping.{present-is, item-parts}
use Rattle.toml_edit_edit_laws.proofs.commands.Apart.{Named, named}
use Rattle.toml_edit_edit_laws.proofs.commands.Finding.{some-and, some-second}
use Rattle.toml_edit_laws.proofs.common.OptionSteps.{some-is}
use Rattle.toml_edit_laws.proofs.common.Tests.{either}
use Rattle.toml_edit_model.specs.TableMentions.{under, kept, array_headers}
use Rattle.toml_edit_model.specs.Roles.{ends_path}
use Rattle.toml_edit_model.specs.Slots.{Slot, keyed, lookup_slot}
use Rattle.toml_edit_model.specs.Lists.{slot_list, item_list, is_item}
use Rattle.toml_edit_model.specs.Shown.{is_table_node}

-- values inside a value, and no tables
abbrev mutual
  pub IsInside : Node → Type 0
  IsInside (leaf s r d) = Unit {0}
  IsInside (list f xs) = ItemsAreInside xs
  IsInside (inline f ss) = SlotsAreInside ss
  IsInside (table f ss) = ⊥
  IsInside (tables e xs) = ⊥
  IsInside nothing = ⊥

  pub ItemsAreInside : Items → Type 0
  ItemsAreInside no_items = Unit {0}
  ItemsAreInside (item n xs) = IsInside n × ItemsAreInside xs

  pub SlotsAreInside : Slots → Type 0
  SlotsAreInside no_slots = Unit {0}
  SlotsAreInside (slot k n ss) = IsInside n × SlotsAreInside ss

abbrev mutual
  IsFilled : Node → Type 0
  IsFilled nothing = ⊥
  IsFilled (table f ss) = SlotsAreFilled ss
  IsFilled (tables e xs) = ItemsAreFilled xs
  IsFilled (leaf s r d) = Unit {0}
  IsFilled (list f xs) = ItemsAreInside xs
  IsFilled (inline f ss) = SlotsAreInside ss

  ItemsAreFilled : Items → Type 0
  ItemsAreFilled no_items = Unit {0}
  ItemsAreFilled (item n xs) = IsFilled n × ItemsAreFilled xs

  SlotsAreFilled : Slots → Type 0
  SlotsAreFilled no_slots = Unit {0}
  SlotsAreFilled (slot k n ss) = IsFilled n × SlotsAreFilled ss

-- what holds of each node of such slots, or of such items, holds of one that is found there
slot-holds : (P : Node → Type 0) (All : Slots → Type 0) → ((k : Key) (n : Node) (ss : Slots) → All (slot k n ss) → P n × All ss)
    → (k : Text) (ss : Slots) (s : Slot Node) → All ss → lookup_slot k (slot_list ss) ≡ Some s → P s.item
slot-holds P All parts k no_slots s w h = absurd cc
slot-holds P All parts k (slot l n ss) s w h = by_test (same_text k l.name) h (slot-holds P All parts k ss s (parts l n ss w).1)
  where
    by_test : (b : Bool) → (if b then Some (keyed l n) else lookup_slot k (slot_list ss)) ≡ Some s
        → (lookup_slot k (slot_list ss) ≡ Some s → P s.item) → P s.item
    by_test true h ih = subst (λ (x : Slot Node). P x.item) (some-is (keyed l n) s h) (parts l n ss w).0
    by_test false h ih = ih h

item-holds : (P : Node → Type 0) (All : Items → Type 0) → ((n : Node) (xs : Items) → All (item n xs) → P n × All xs)
    → (xs : Items) (before : List Node) (n : Node) (after : List Node) → All xs → item_list xs ≡ before ++ (n ∷ after) → P n
item-holds P All parts no_items [] n after w h = absurd cc
item-holds P All parts no_items (x ∷ before) n after w h = absurd cc
item-holds P All parts (item m xs) [] n after w h = subst P (let e : m ≡ n = cc in e) (parts m xs w).0
item-holds P All parts (item m xs) (x ∷ before) n after w h =
    item-holds P All parts xs before n after (parts m xs w).1 (let e : item_list xs ≡ before ++ (n ∷ after) = cc in e)

filled-slot : (k : Text) (ss : Slots) (s : Slot Node) → SlotsAreFilled ss → lookup_slot k (slot_list ss) ≡ Some s → IsFilled s.item
filled-slot = slot-holds IsFilled SlotsAreFilled (λ k n ss w. w)

filled-item : (xs : Items) (before : List Node) (n : Node) (after : List Node) → ItemsAreFilled xs → item_list xs ≡ before ++ (n ∷ after)
    → IsFilled n
filled-item = item-holds IsFilled ItemsAreFilled (λ n xs w. w)

leads-filled : (way : List Turn) (s v : Visit) → SlotsAreFilled s.slots → Leads way s v → SlotsAreFilled v.slots
leads-filled [] s v w e = subst (λ (x : Visit). SlotsAreFilled x.slots) e w
leads-filled (into_table k ∷ way) s v w (l, f, ss, eq, rest) =
    leads-filled way (visit_of (to_key s.path l.name) (s.keys ++ (l ∷ [])) false f ss) v (filled-slot k s.slots (keyed l (table f ss)) w eq)
    rest
leads-filled (into_element k i ∷ way) s v w (l, e, xs, before, f, ss, after, eq, items, place, rest) =
    leads-filled way (visit_of (to_element (to_key s.path l.name) (element_count before)) (s.keys ++ (l ∷ [])) true f ss) v
    (filled-item xs before (table f ss) after (filled-slot k s.slots (keyed l (tables e xs)) w eq) items) rest

filled-is : (n : Node) → IsFilled n → is_item n ≡ true
filled-is nothing h = absurd h
filled-is (leaf s r d) h = refl
filled-is (list f xs) h = refl
filled-is (inline f ss) h = refl
filled-is (table f ss) h = refl
filled-is (tables e xs) h = refl

inside-slot : (k : Text) (ss : Slots) (s : Slot Node) → SlotsAreInside ss → lookup_slot k (slot_list ss) ≡ Some s → IsInside s.item
inside-slot = slot-holds IsInside SlotsAreInside (λ k n ss w. w)

inside-item : (xs : Items) (before : List Node) (n : Node) (after : List Node) → ItemsAreInside xs → item_list xs ≡ before ++ (n ∷ after)
    → IsInside n
inside-item = item-holds IsInside ItemsAreInside (λ n xs w. w)

inside-child : (k : Text) (n a : Node) → IsInside n → child k n ≡ Some a → IsInside a
inside-child k (inline f ss) a w h = let p = present-is (lookup_slot k (slot_list ss)) a h in inside-slot k ss (keyed p.key a) w p.is
inside-child k (list f xs) a w h =
    let y = some-second (element_of is_value_node k (item_list xs)) a h in
    let r = named is_value_node k (item_list xs) (y.0, a) y.1 in
    let p = item-parts y.0 (item_list xs) a r.item in
    inside-item xs p.before a p.after w p.is
inside-child k (leaf s r d) a w h = absurd cc
inside-child k (table f ss) a w h = absurd w
inside-child k (tables e xs) a w h = absurd w
inside-child k nothing a w h = absurd w

no-table-inside : (path : List Text) (n : Node) (f : TableFields) (ss : Slots) → IsInside n → item_below path n ≡ Some (table f ss) → ⊥
no-table-inside [] n f ss w h = subst IsInside (some-is n (table f ss) h) w
no-table-inside (k ∷ path) n f ss w h =
    let a = some-and (item_below path) (child k n) (table f ss) h in
    no-table-inside path a.0 f ss (inside-child k n a.0 w a.1) a.2

record HasWay (s : Visit) (path : List Text) (f : TableFields) (ss : Slots) : Type 0 where
  way : List Turn
  visit : Visit
  goes : Goes way path
  leads : Leads way s visit
  fields : visit.fields ≡ f
  slots : visit.slots ≡ ss

table-parts : (f g : TableFields) (ss xs : Slots) → table f ss ≡ table g xs → (f ≡ g) × (ss ≡ xs)
table-parts f g ss xs h = (let e : f ≡ g = cc in e, let e : ss ≡ xs = cc in e)

abbrev Below : TableFields → Slots → List Text → Type 0
Below f ss path = (v : Visit) → SlotsAreFilled v.slots → item_below path (table v.fields v.slots) ≡ Some (table f ss) → HasWay v path f ss

-- the same one segment later
abbrev Later : TableFields → Slots → List Text → Type 0
Later f ss [] = Unit {0}
Later f ss (x ∷ path) = Below f ss path

module _ (f : TableFields) (ss : Slots) (k : Text) (s : Visit) where
  by_element : (l : Key) (e : Extent) (xs : Items) (x : Text) (path : List Text) (i : ℕ) (b : Node) → lookup_slot k (slot_list s.slots)
      ≡ Some (keyed l (tables e xs))
      → ItemsAreFilled xs → (r : Named is_table_node x (item_list xs) (i, b)) → item_below path b ≡ Some (table f ss) → Below f ss path
      → HasWay s (k ∷ x ∷ path) f ss
  by_element l e xs x path i (table g ys) is w r h go =
      let p = item-parts i (item_list xs) (table g ys) r.item in
      let v : Visit = visit_of (to_element (to_key s.path l.name) (element_count p.before)) (s.keys ++ (l ∷ [])) true g ys in
      let z = go v (filled-item xs p.before (table g ys) p.after w p.is) h in
      record {
        way = into_element k i ∷ z.way;
        visit = z.visit;
        goes = (refl, r.number, z.goes);
        leads = (l, e, xs, p.before, g, ys, p.after, is, p.is, p.place, z.leads);
        fields = z.fields;
        slots = z.slots;
      }
  by_element l e xs x path i (tables g ys) is w r h go = absurd (let c : false ≡ true = r.kind in cc)
  by_element l e xs x path i (leaf g ys d) is w r h go = absurd (let c : false ≡ true = r.kind in cc)
  by_element l e xs x path i (list g ys) is w r h go = absurd (let c : false ≡ true = r.kind in cc)
  by_element l e xs x path i (inline g ys) is w r h go = absurd (let c : false ≡ true = r.kind in cc)
  by_element l e xs x path i nothing is w r h go = absurd (let c : false ≡ true = r.kind in cc)

  by_kind : (l : Key) (a : Node) (path : List Text) → lookup_slot k (slot_list s.slots) ≡ Some (keyed l a) → IsFilled a → item_below path a
      ≡ Some (table f ss) → Below f ss path → Later f ss path
      → HasWay s (k ∷ path) f ss
  by_kind l (table g ys) path is w h go later =
      let z = go (visit_of (to_key s.path l.name) (s.keys ++ (l ∷ [])) false g ys) w h in
      record {
        way = into_table k ∷ z.way;
        visit = z.visit;
        goes = (refl, z.goes);
        leads = (l, g, ys, is, z.leads);
        fields =
            z.fields;
        slots = z.slots;
      }
  by_kind l (tables e xs) [] is w h go later = absurd cc
  by_kind l (tables e xs) (x ∷ path) is w h go later =
      let b = some-and (item_below path) (second (element_of is_table_node x (item_list xs))) (table f ss) h in
      let y = some-second (element_of is_table_node x (item_list xs)) b.0 b.1 in
      by_element l e xs x path y.0 b.0 is w (named is_table_node x (item_list xs) (y.0, b.0) y.1) b.2 later
  by_kind l (leaf g ys d) path is w h go later = absurd (no-table-inside path (leaf g ys d) f ss w h)
  by_kind l (list g ys) path is w h go later = absurd (no-table-inside path (list g ys) f ss w h)
  by_kind l (inline g ys) path is w h go later = absurd (no-table-inside path (inline g ys) f ss w h)
  by_kind l nothing path is w h go later = absurd w

has-way : (path : List Text) (s : Visit) (f : TableFields) (ss : Slots) → SlotsAreFilled s.slots → item_below path (table s.fields s.slots)
    ≡ Some (table f ss) → HasWay s path f ss
has-way [] s f ss w h =
    let e = table-parts s.fields f s.slots ss (some-is (table s.fields s.slots) (table f ss) h) in
    record { way = []; visit = s; goes = tt; leads = refl; fields = e.0; slots = e.1 }
has-way (k ∷ []) s f ss w h =
    let a = some-and (item_below []) (present (lookup_slot k (slot_list s.slots))) (table f ss) h in
    let p = present-is (lookup_slot k (slot_list s.slots)) a.0 a.1 in
    by_kind f ss k s p.key a.0 [] p.is (filled-slot k s.slots (keyed p.key a.0) w p.is) a.2 (λ v wv g. has-way [] v f ss wv g) tt
has-way (k ∷ x ∷ path) s f ss w h =
    let a = some-and (item_below (x ∷ path)) (present (lookup_slot k (slot_list s.slots))) (table f ss) h in
    let p = present-is (lookup_slot k (slot_list s.slots)) a.0 a.1 in
    by_kind f ss k s p.key a.0 (x ∷ path) p.is (filled-slot k s.slots (keyed p.key a.0) w p.is) a.2 (λ v wv g. has-way (x
    ∷ path) v f ss wv g)
    (λ v wv g. has-way path v f ss wv g)

module _ (mode : Mode) where
  mutual
    value-inside : (n : Node) (v : Value) (i : ℕ) (before after : Text) → IsValueNode (owned_in mode) v i before after n → IsInside n
    value-inside (leaf s r d) v i before after h = tt
    value-inside (list f xs) (array es comma t) i before after h = elements-inside xs es (i + length before + 1) h.1
    value-inside (list f xs) (scalar s t) i before after h = absurd h
    value-inside (list f xs) (inline_table ps comma t) i before after h = absurd h
    value-inside (inline f ss) (inline_table ps comma t) i before after h =
        entries-inside ss (entries (owned_in mode) ps (i + length before + 1)) (kept (entries (owned_in mode) ps (i + length before + 1)))
        h.1
    value-inside (inline f ss) (scalar s t) i before after h = absurd h
    value-inside (inline f ss) (array es comma t) i before after h = absurd h
    value-inside (table f ss) (scalar s t) i before after h = h
    value-inside (table f ss) (array es comma t) i before after h = h
    value-inside (table f ss) (inline_table ps comma t) i before after h = h
    value-inside (tables e xs) (scalar s t) i before after h = h
    value-inside (tables e xs) (array es comma t) i before after h = h
    value-inside (tables e xs) (inline_table ps comma t) i before after h = h
    value-inside nothing (scalar s t) i before after h = h
    value-inside nothing (array es comma t) i before after h = h
    value-inside nothing (inline_table ps comma t) i before after h = h

    elements-inside : (xs : Items) (es : Elements) (i : ℕ) → AreElementNodes (owned_in mode) es i xs → ItemsAreInside xs
    elements-inside no_items es i h = tt
    elements-inside (item n xs) no_elements i h = absurd h
    elements-inside (item n xs) (element a v es) i h = (
      value-inside n v i a.before a.after h.0,
      elements-inside xs es (i + length a.before + length (value_text v) + length a.after
          + 1) h.1,
    )

    entries-inside : (ss : Slots) (ms ks : List (Mention Entry)) → AreEntrySlots (owned_in mode) ms ks ss → SlotsAreInside ss
    entries-inside no_slots ms ks h = tt
    entries-inside (slot k n ss) ms [] h = absurd h
    entries-inside (slot k (inline f xs) ss) ms (m ∷ rest) h = (
      either (ends_path m.role) _ _ (IsInside (inline f xs))
          (λ g. value-inside (inline f xs) m.source.value m.source.start m.source.before m.source.after g)
          (λ g. entries-inside xs (under (at_key m.segment.key) ms) (kept (under (at_key m.segment.key) ms)) g.1) h.1,
      entries-inside ss ms rest h.2,
    )
    entries-inside (slot k (leaf s r d) ss) ms (m ∷ rest) h = (
      either (ends_path m.role) _ _ (IsInside (leaf s r d))
          (λ g. value-inside (leaf s r d) m.source.value m.source.start m.source.before m.source.after g)
          (λ g. absurd g) h.1,
      entries-inside ss ms rest h.2,
    )
    entries-inside (slot k (list f xs) ss) ms (m ∷ rest) h = (
      either (ends_path m.role) _ _ (IsInside (list f xs))
          (λ g. value-inside (list f xs) m.source.value m.source.start m.source.before m.source.after g)
          (λ g. absurd g) h.1,
      entries-inside ss ms rest h.2,
    )
    entries-inside (slot k (table f xs) ss) ms (m ∷ rest) h = (
      either (ends_path m.role) _ _ (IsInside (table f xs))
          (λ g. value-inside (table f xs) m.source.value m.source.start m.source.before m.source.after g)
          (λ g. absurd g) h.1,
      entries-inside ss ms rest h.2,
    )
    entries-inside (slot k (tables e xs) ss) ms (m ∷ rest) h = (
      either (ends_path m.role) _ _ (IsInside (tables e xs))
          (λ g. value-inside (tables e xs) m.source.value m.source.start m.source.before m.source.after g)
          (λ g. absurd g) h.1,
      entries-inside ss ms rest h.2,
    )
    entries-inside (slot k nothing ss) ms (m ∷ rest) h = (
      either (ends_path m.role) _ _ (IsInside nothing) (λ g. value-inside nothing m.source.value m.source.start m.source.before
          m.source.after g)
          (λ g. absurd g) h.1,
      entries-inside ss ms rest h.2,
    )

  line-inside : (n : Node) (s : Source) (x : Statement) → IsLineNode (owned_in mode) s x n → IsInside n
  line-inside n s (key_line f v end) h =
      value-inside n v (s.start + value_start (owned_in mode) f) f.after_equals (with_return mode f.trailing end) h
  line-inside n s (header x end) h = absurd h

  mutual
    node-filled : (n : Node) (ns : List (Mention Source)) (m : Mention Source) → IsNodeOf (owned_in mode) ns m n → IsFilled n
    node-filled (table f ss) ns m h = slots-filled ss ns (kept ns) h.2
    node-filled (tables e xs) ns m h = items-filled xs ns 0 (array_headers ns) h.2
    node-filled nothing ns m h = h
    node-filled (leaf s r d) ns m h = tt
    node-filled (list f xs) ns m h = line-inside (list f xs) m.source m.source.statement h.1
    node-filled (inline f ss) ns m h = line-inside (inline f ss) m.source m.source.statement h.1

    items-filled : (xs : Items) (ns : List (Mention Source)) (i : ℕ) (more : List (Mention Source))
        → AreElementsOf (owned_in mode) ns i more xs → ItemsAreFilled xs
    items-filled no_items ns i more h = tt
    items-filled (item n xs) ns i [] h = absurd h
    items-filled (item (table f ss) xs) ns i (a ∷ more) h =
        (slots-filled ss (under (at_element i) ns) (kept (under (at_element i) ns)) h.1, items-filled xs ns (suc i) more h.2)
    items-filled (item (tables e ys) xs) ns i (a ∷ more) h = absurd h
    items-filled (item (leaf s r d) xs) ns i (a ∷ more) h = absurd h
    items-filled (item (list f ys) xs) ns i (a ∷ more) h = absurd h
    items-filled (item (inline f ss) xs) ns i (a ∷ more) h = absurd h
    items-filled (item nothing xs) ns i (a ∷ more) h = absurd h

    slots-filled : (ss : Slots) (ms rest : List (Mention Source)) → AreSlotsOf (owned_in mode) ms rest ss → SlotsAreFilled ss
    slots-filled no_slots ms rest h = tt
    slots-filled (slot k n ss) ms [] h = absurd h
    slots-filled (slot k n ss) ms (m ∷ more) h = (node-filled n (under (at_key m.segment.key) ms) m h.1, slots-filled ss ms more h.2)

  pub read_has_no_placeholders : ReadHasNoPlaceholders mode
  read_has_no_placeholders d t path v k s of names is_there =
      filled-is s.item
      (filled-slot k v.slots s (leads-filled names.way (root_visit t) v
      (slots-filled t.slots (all_mentions d) (kept (all_mentions d)) of.slots) names.leads) is_there)

  -- ---- the way of a path

  pub paths_have_ways : PathsHaveWays mode
  paths_have_ways d t path f ss of h =
      let w = has-way path (root_visit t) f ss (slots-filled t.slots (all_mentions d) (kept (all_mentions d)) of.slots) h in
      (w.visit, record { way = w.way; goes = w.goes; leads = w.leads }, w.fields, w.slots)
