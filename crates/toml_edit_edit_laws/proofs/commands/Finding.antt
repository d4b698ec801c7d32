-- What `get` finds after `set`, and what `remove` finds.
use Rattle.std.proofs.Common.{◌≡◌, refl, sym, ◌∙◌, ap, ℕ, Bool, true, false, List, [], ◌∷◌, ◌++◌, Option, Some, None}
use Rattle.std.specs.Prelude.{if◌then◌else◌}
use Rattle.std.specs.Fmt.{decimal}
use Rattle.std.specs.Str.Parse.{digits_value}
use Rattle.std.proofs.lemmas.Fmt.{decimal_is_IsNumeral}
use Rattle.toml_edit_model.specs.Mode.{plain}
use Rattle.toml_edit_model.specs.Text.{Text, newline, same_text}
use Rattle.toml_edit_model.specs.Syntax.{value_text}
use Rattle.toml_edit_model.specs.Tree.{Decor, Key, Node, nothing, leaf, list, inline, table, tables, Items, Slots, no_slots, slot, is_value_node, node_decor}
use Rattle.toml_edit_model.specs.Print.{value_of}
use Rattle.toml_edit_model.specs.Conversions.{new_inline, with_decor}
use Rattle.toml_edit_model.specs.Keys.{cleared_key, names as names_of, new_key}
use Rattle.toml_edit_model.specs.Slots.{Slot, keyed, with_item, lookup_slot, changed}
use Rattle.toml_edit_model.specs.Lists.{slot_list, slots_from, item_list, items_from, is_item, only}
use Rattle.toml_edit_model.specs.ArrayCalls.{written_at}
use Rattle.toml_edit_model.specs.Shown.{is_table_node}
use Rattle.toml_edit_laws.specs.Locality.{into_table, into_element}
use Rattle.toml_edit_edit_laws.specs.Commands.{Refusal, no_such_path, Answer, done, refused, mapped, element_of, present, second, child}
use Rattle.toml_edit_edit_laws.specs.Commands.{and_then, item_below, missing, change_slot, change_element, child_changed, set_here, set_below}
use Rattle.toml_edit_edit_laws.specs.Commands.{drop_slot, drop_element, remove_child, remove_below, root_item, with_slots, shown_item, shown_or}
use Rattle.toml_edit_edit_laws.specs.Commands.{item_at}
use Rattle.toml_edit_edit_laws.specs.CommandLaws.{OneTextNames, DecimalsName, WaysHavePaths, GetAfterSet, RemoveFinds, RemovedWasThere}
use Rattle.toml_edit_edit_laws.specs.CommandLaws.{RemoveRefuses}
use Rattle.toml_edit_edit_laws.specs.Means.{in_place_of, ItemAfterSet}
use Rattle.toml_edit_laws.proofs.common.Tests.{if-true, same_text-refl}
use Rattle.toml_edit_laws.proofs.locality.Slots.{slot_list-from, item_list-from}
use Rattle.toml_edit_edit_laws.proofs.commands.Setting.{was-mapped, done-is}
use Rattle.toml_edit_edit_laws.proofs.commands.Removing.{item-present}
use Rattle.toml_edit_edit_laws.proofs.commands.Keeping.{present-is}
use Rattle.toml_edit_edit_laws.proofs.commands.Apart.{number-text, slot-last, slot-same, place-same, named, names, skip, value-stays}
use Rattle.toml_edit_edit_laws.proofs.commands.Apart.{table-stays, root-down}
use Rattle.toml_edit_laws.proofs.common.OptionSteps.{some-is}

-- ---- numbers

pub one_text_names : OneTextNames
one_text_names x i h = sym (number-text x i h)

pub decimals_name : DecimalsName
decimals_name i h =
    let value : digits_value 10 (decimal i) ≡ i = (decimal_is_IsNumeral i h).1 in
    ap (λ n. if same_text (decimal n) (decimal i) then Some n else None) value
    ∙ if-true (same_text (decimal i) (decimal i)) (Some i) None (same_text-refl (decimal i))

pub ways_have_paths : WaysHavePaths
ways_have_paths [] h = tt
ways_have_paths (into_table k ∷ way) h = (refl, ways_have_paths way h)
ways_have_paths (into_element k i ∷ way) h = (refl, decimals_name i h.0, ways_have_paths way h.1)

-- ---- get after set

value-item : (n : Node) → is_value_node n ≡ true → is_item n ≡ true
value-item (leaf s r d) h = refl
value-item (list f xs) h = refl
value-item (inline f ss) h = refl
value-item (table f ss) h = refl
value-item (tables e xs) h = refl
value-item nothing h = absurd cc

table-item : (n : Node) → is_table_node n ≡ true → is_item n ≡ true
table-item (table f ss) h = refl
table-item (leaf s r d) h = absurd cc
table-item (list f xs) h = absurd cc
table-item (inline f ss) h = absurd cc
table-item (tables e xs) h = absurd cc
table-item nothing h = absurd cc

module _ (makes : Bool) (k : Key) (go : Node → Answer Node)
    (fills : (a b : Node) → go a ≡ done b → is_item b ≡ true)
    (keeps_value : (a b : Node) → go a ≡ done b → is_value_node a ≡ true → is_value_node b ≡ true)
    (keeps_table : (a b : Node) → go a ≡ done b → is_table_node a ≡ true → is_table_node b ≡ true) where
  -- what a segment leads to was changed
  record WentTo (o was : Option Node) : Type 0 where
    old : Node
    new : Node
    is : go old ≡ done new
    there : o ≡ Some new
    held : was ≡ only is_item old

  slot-went : (ss : Slots) (o : Option (Slot Node)) (xs : List (Slot Node)) → lookup_slot k.name (slot_list ss) ≡ o
      → change_slot makes k go (slot_list ss) o ≡ done xs
      → WentTo (present (lookup_slot k.name xs)) (present o)
  slot-went ss None xs e h = by_makes makes h
    where
      by_makes : (b : Bool) → mapped (λ m. slot_list ss ++ (keyed (cleared_key k) m ∷ [])) (missing b (go nothing)) ≡ done xs
          → WentTo (present (lookup_slot k.name xs)) None
      by_makes false h = absurd cc
      by_makes true h =
          let m = was-mapped (λ m. slot_list ss ++ (keyed (cleared_key k) m ∷ [])) (go nothing) xs h in
          record {
            old = nothing;
            new = m.from;
            is = m.is;
            there = ap (λ ys. present (lookup_slot k.name ys)) m.gives ∙ ap present (slot-last k m.from (slot_list ss) e)
                ∙ item-present (cleared_key k) m.from (fills nothing m.from m.is);
            held = refl;
          }
  slot-went ss (Some s) xs e h =
      let m = was-mapped (λ m. changed k.name (with_item m) (slot_list ss)) (go s.item) xs h in
      record {
        old = s.item;
        new = m.from;
        is = m.is;
        there = ap (λ ys. present (lookup_slot k.name ys)) m.gives ∙ ap present (slot-same k.name m.from (slot_list ss) s e)
            ∙ item-present s.key m.from (fills s.item m.from m.is);
        held = refl;
      }

  item-went : (is : Node → Bool) → ((a b : Node) → go a ≡ done b → is a ≡ true → is b ≡ true)
      → ((a : Node) → is a ≡ true → is_item a ≡ true)
      → (xs : Items) (o : Option (ℕ × Node)) (ys : List Node)
      → element_of is k.name (item_list xs) ≡ o → change_element go (item_list xs) o ≡ done ys → WentTo (second (element_of is k.name ys)) (second o)
  item-went is keeps some xs None ys e h = absurd cc
  item-went is keeps some xs (Some y) ys e h =
      let m = was-mapped (λ m. written_at y.0 m (item_list xs)) (go y.1) ys h in
      let r = named is k.name (item_list xs) y e in
      record {
        old = y.1;
        new = m.from;
        is = m.is;
        there = ap (λ zs. second (element_of is k.name zs)) m.gives
            ∙ ap second (names is k.name (written_at y.0 m.from (item_list xs)) y.0 m.from r.number
            (place-same y.0 (λ old. m.from) (item_list xs) y.1 r.item) (keeps y.1 m.from m.is r.kind));
        held = sym (if-true (is_item y.1) (Some y.1) None (some y.1 r.kind));
      }

  went : (n m : Node) → child_changed makes k go n ≡ done m → WentTo (child k.name m) (child k.name n)
  went (table f ss) m h =
      let b = was-mapped (λ xs. table f (slots_from xs)) (change_slot makes k go (slot_list ss) (lookup_slot k.name (slot_list ss))) m h in
      let w = slot-went ss (lookup_slot k.name (slot_list ss)) b.from refl b.is in
      record {
        old = w.old;
        new = w.new;
        is = w.is;
        there = ap (child k.name) b.gives
            ∙ ap (λ xs. present (lookup_slot k.name xs)) (slot_list-from b.from) ∙ w.there;
        held = w.held;
      }
  went (inline f ss) m h =
      let b = was-mapped (λ xs. inline f (slots_from xs)) (change_slot makes k go (slot_list ss) (lookup_slot k.name (slot_list ss))) m h in
      let w = slot-went ss (lookup_slot k.name (slot_list ss)) b.from refl b.is in
      record {
        old = w.old;
        new = w.new;
        is = w.is;
        there = ap (child k.name) b.gives
            ∙ ap (λ xs. present (lookup_slot k.name xs)) (slot_list-from b.from) ∙ w.there;
        held = w.held;
      }
  went (list f xs) m h =
      let b = was-mapped (λ ns. list f (items_from ns)) (change_element go (item_list xs) (element_of is_value_node k.name (item_list xs))) m
      h in
      let w = item-went is_value_node keeps_value value-item xs (element_of is_value_node k.name (item_list xs)) b.from refl b.is in
      record {
        old = w.old;
        new = w.new;
        is = w.is;
        there = ap (child k.name) b.gives
            ∙ ap (λ ys. second (element_of is_value_node k.name ys)) (item_list-from b.from) ∙ w.there;
        held = w.held;
      }
  went (tables e xs) m h =
      let b = was-mapped (λ ns. tables e (items_from ns)) (change_element go (item_list xs) (element_of is_table_node k.name (item_list xs))) m
      h in
      let w = item-went is_table_node keeps_table table-item xs (element_of is_table_node k.name (item_list xs)) b.from refl b.is in
      record {
        old = w.old;
        new = w.new;
        is = w.is;
        there = ap (child k.name) b.gives
            ∙ ap (λ ys. second (element_of is_table_node k.name ys)) (item_list-from b.from) ∙ w.there;
        held = w.held;
      }
  went (leaf s r d) m h = absurd cc
  went nothing m h = by_makes makes h
    where
      by_makes : (b : Bool) → mapped (λ x. inline new_inline (slot (cleared_key k) x no_slots)) (missing b (go nothing)) ≡ done m
          → WentTo (child k.name m) None
      by_makes false h = absurd cc
      by_makes true h =
          let b = was-mapped (λ x. inline new_inline (slot (cleared_key k) x no_slots)) (go nothing) m h in
          record {
            old = nothing;
            new = b.from;
            is = b.is;
            there = ap (child k.name) b.gives ∙ ap present (if-true (same_text k.name k.name) (Some (keyed (cleared_key k) b.from)) None (same_text-refl k.name))
                ∙ item-present (cleared_key k) b.from (fills nothing b.from b.is);
            held = refl;
          }

-- the item after `set` is a value where one was set, and never a placeholder
decor-value : (d : Decor) (v : Node) → is_value_node v ≡ true → is_value_node (with_decor d v) ≡ true
decor-value d (leaf s r e) h = refl
decor-value d (list f xs) h = refl
decor-value d (inline f ss) h = refl
decor-value d (table f ss) h = absurd cc
decor-value d (tables e xs) h = absurd cc
decor-value d nothing h = absurd cc

-- a value in the place of what was there is a value, and is shown as before
placed-value : (o : Option Node) (v : Node) → is_value_node v ≡ true → is_value_node (in_place_of o v) ≡ true
placed-value None v h = h
placed-value (Some n) v h = decor-value (node_decor n) v h

placed-shown : (o : Option Node) (v : Node) → is_value_node v ≡ true → shown_item (in_place_of o v) ≡ value_text (value_of plain v) ++ newline
placed-shown None (leaf s r e) h = refl
placed-shown None (list f xs) h = refl
placed-shown None (inline f ss) h = refl
placed-shown (Some n) (leaf s r e) h = refl
placed-shown (Some n) (list f xs) h = refl
placed-shown (Some n) (inline f ss) h = refl
placed-shown o (table f ss) h = absurd cc
placed-shown o (tables e xs) h = absurd cc
placed-shown o nothing h = absurd cc

-- what stands where the path ends
here-is : (v n m : Node) → set_here v n ≡ done m → m ≡ in_place_of (only is_item n) v
here-is v nothing m h = sym (done-is v m h)
here-is v (table f ss) m h = absurd cc
here-is v (tables e xs) m h = absurd cc
here-is v (leaf s r d) m h = sym (done-is (with_decor d v) m h)
here-is v (list f xs) m h = sym (done-is (with_decor f.decor v) m h)
here-is v (inline f ss) m h = sym (done-is (with_decor f.decor v) m h)

here-value : (v n m : Node) → is_value_node v ≡ true → set_here v n ≡ done m → is_value_node m ≡ true
here-value v n m is h = ap is_value_node (here-is v n m h) ∙ placed-value (only is_item n) v is

here-no-table : (v n m : Node) → set_here v n ≡ done m → is_table_node n ≡ true → is_table_node m ≡ true
here-no-table v nothing m h t = absurd cc
here-no-table v (table f ss) m h t = absurd cc
here-no-table v (tables e xs) m h t = absurd cc
here-no-table v (leaf s r d) m h t = absurd cc
here-no-table v (list f xs) m h t = absurd cc
here-no-table v (inline f ss) m h t = absurd cc

below-fills : (makes : Bool) (k : Key) (go : Node → Answer Node) (n m : Node) → child_changed makes k go n ≡ done m → is_item m ≡ true
below-fills makes k go (table f ss) m h =
    ap is_item (was-mapped (λ xs. table f (slots_from xs)) (change_slot makes k go (slot_list ss) (lookup_slot k.name (slot_list ss))) m h).gives
below-fills makes k go (inline f ss) m h =
    ap is_item (was-mapped (λ xs. inline f (slots_from xs)) (change_slot makes k go (slot_list ss) (lookup_slot k.name (slot_list ss))) m
    h).gives
below-fills makes k go (list f xs) m h =
    ap is_item (was-mapped (λ ns. list f (items_from ns)) (change_element go (item_list xs) (element_of is_value_node k.name (item_list xs))) m
    h).gives
below-fills makes k go (tables e xs) m h =
    ap is_item (was-mapped (λ ns. tables e (items_from ns)) (change_element go (item_list xs) (element_of is_table_node k.name (item_list xs))) m
    h).gives
below-fills makes k go (leaf s r d) m h = absurd cc
below-fills makes k go nothing m h =
    ap is_item (was-mapped (λ x. inline new_inline (slot (cleared_key k) x no_slots)) (missing makes (go nothing)) m h).gives

set-fills : (v : Node) → is_value_node v ≡ true → (path : List Key) (n m : Node) → set_below v path n ≡ done m → is_item m ≡ true
set-fills v is [] n m h = value-item m (here-value v n m is h)
set-fills v is (k ∷ path) n m h = below-fills true k (set_below v path) n m h

set-value : (v : Node) → is_value_node v ≡ true → (path : List Key) (n m : Node) → set_below v path n ≡ done m → is_value_node n ≡ true
    → is_value_node m ≡ true
set-value v is [] n m h x = here-value v n m is h
set-value v is (k ∷ path) n m h x = value-stays true k (set_below v path) n m h x

set-table : (v : Node) (path : List Key) (n m : Node) → set_below v path n ≡ done m → is_table_node n ≡ true → is_table_node m ≡ true
set-table v [] n m h x = here-no-table v n m h x
set-table v (k ∷ path) n m h x = table-stays true k (set_below v path) n m h x

-- what a path leads to, where it is no placeholder
abbrev found_at : List Text → Node → Option Node
found_at [] n = only is_item n
found_at (k ∷ path) n = item_below (k ∷ path) n

found-below : (path : List Text) (n : Node) → and_then (item_below path) (only is_item n) ≡ found_at path n
found-below [] nothing = refl
found-below (k ∷ path) nothing = refl
found-below [] (leaf s r d) = refl
found-below (k ∷ path) (leaf s r d) = refl
found-below [] (list f xs) = refl
found-below (k ∷ path) (list f xs) = refl
found-below [] (inline f ss) = refl
found-below (k ∷ path) (inline f ss) = refl
found-below [] (table f ss) = refl
found-below (k ∷ path) (table f ss) = refl
found-below [] (tables e xs) = refl
found-below (k ∷ path) (tables e xs) = refl

set-item : (v : Node) → is_value_node v ≡ true → (path : List Key) (n m : Node) → set_below v path n ≡ done m
    → item_below (names_of path) m ≡ Some (in_place_of (found_at (names_of path) n) v)
set-item v is [] n m h = ap Some (here-is v n m h)
set-item v is (k ∷ path) n m h =
    let w = went true k (set_below v path) (set-fills v is path) (set-value v is path) (set-table v path) n m h in
    ap (and_then (item_below (names_of path))) w.there ∙ set-item v is path w.old w.new w.is
    ∙ ap (λ o. Some (in_place_of o v)) (sym (ap (and_then (item_below (names_of path))) w.held ∙ found-below (names_of path) w.old))

pub item_after_set : ItemAfterSet
item_after_set t u [] v is h = absurd cc
item_after_set t u (k ∷ path) v is h =
    let m = was-mapped (with_slots t) (set_below v (k ∷ path) (root_item t)) u h in
    ap (item_at (names_of (k ∷ path))) m.gives
    ∙ ap (item_below (names_of (k ∷ path))) (sym (root-down true k (set_below v path) t m.from m.is))
    ∙ set-item v is (k ∷ path) (root_item t) m.from m.is

pub get_after_set : GetAfterSet
get_after_set t u path v is h =
    ap shown_or (item_after_set t u path v is h) ∙ ap done (placed-shown (item_at (names_of path) t) v is)

-- ---- what remove finds

pub some-and : (f : Node → Option Node) (o : Option Node) (x : Node) → and_then f o ≡ Some x → (a : Node) × (o ≡ Some a) × (f a ≡ Some x)
some-and f None x h = absurd cc
some-and f (Some a) x h = (a, refl, h)

pub some-second : (o : Option (ℕ × Node)) (a : Node) → second o ≡ Some a → (i : ℕ) × (o ≡ Some (i, a))
some-second None a h = absurd cc
some-second (Some y) a h = (y.0, ap (λ b. Some (y.0, b)) (some-is y.1 a h))

child-goes : (k : Text) (n a : Node) → child k n ≡ Some a → (m : Node) × (remove_child k n ≡ done m)
child-goes k (table f ss) a h = (_, ap (λ o. mapped (λ xs. table f (slots_from xs)) (drop_slot k (slot_list ss) o)) h)
child-goes k (inline f ss) a h = (_, ap (λ o. mapped (λ xs. inline f (slots_from xs)) (drop_slot k (slot_list ss) o)) h)
child-goes k (list f xs) a h =
    let y = some-second (element_of is_value_node k (item_list xs)) a h in
    (_, ap (λ o. mapped (λ ns. list f (items_from ns)) (drop_element (item_list xs) o)) y.1)
child-goes k (tables e xs) a h =
    let y = some-second (element_of is_table_node k (item_list xs)) a h in
    (_, ap (λ o. mapped (λ ns. tables e (items_from ns)) (drop_element (item_list xs) o)) y.1)
child-goes k (leaf s r d) a h = absurd cc
child-goes k nothing a h = absurd cc

below-goes : (k : Text) (go : Node → Answer Node) (n a b : Node) → child k n ≡ Some a → go a ≡ done b → (m : Node)
    × (child_changed false (new_key k) go n ≡ done m)
below-goes k go (table f ss) a b h g =
    let p = present-is (lookup_slot k (slot_list ss)) a h in (
      _,
      ap (λ o. mapped (λ xs. table f (slots_from xs)) (change_slot false (new_key k) go (slot_list ss) o)) p.is
          ∙ ap (λ x. mapped (λ xs. table f (slots_from xs)) (mapped (λ m. changed k (with_item m) (slot_list ss)) x)) g,
    )
below-goes k go (inline f ss) a b h g =
    let p = present-is (lookup_slot k (slot_list ss)) a h in (
      _,
      ap (λ o. mapped (λ xs. inline f (slots_from xs)) (change_slot false (new_key k) go (slot_list ss) o)) p.is
          ∙ ap (λ x. mapped (λ xs. inline f (slots_from xs)) (mapped (λ m. changed k (with_item m) (slot_list ss)) x)) g,
    )
below-goes k go (list f xs) a b h g =
    let y = some-second (element_of is_value_node k (item_list xs)) a h in (
      _,
      ap (λ o. mapped (λ ns. list f (items_from ns)) (change_element go (item_list xs) o)) y.1
          ∙ ap (λ x. mapped (λ ns. list f (items_from ns)) (mapped (λ m. written_at y.0 m (item_list xs)) x)) g,
    )
below-goes k go (tables e xs) a b h g =
    let y = some-second (element_of is_table_node k (item_list xs)) a h in (
      _,
      ap (λ o. mapped (λ ns. tables e (items_from ns)) (change_element go (item_list xs) o)) y.1
          ∙ ap (λ x. mapped (λ ns. tables e (items_from ns)) (mapped (λ m. written_at y.0 m (item_list xs)) x)) g,
    )
below-goes k go (leaf s r d) a b h g = absurd cc
below-goes k go nothing a b h g = absurd cc

goes-there : (k : Text) (path : List Text) (n x : Node) → item_below (k ∷ path) n ≡ Some x → (m : Node)
    × (remove_below (k ∷ path) n ≡ done m)
goes-there k [] n x h =
    let a = some-and (item_below []) (child k n) x h in
    child-goes k n a.0 a.1
goes-there k (j ∷ path) n x h =
    let a = some-and (item_below (j ∷ path)) (child k n) x h in
    let r = goes-there j path a.0 x a.2 in
    below-goes k (remove_below (j ∷ path)) n a.0 r.0 a.1 r.1

pub remove_finds : RemoveFinds
remove_finds t k path n h =
    let r = goes-there k path (root_item t) n h in
    (with_slots t r.0, ap (mapped (with_slots t)) r.1)

-- what was removed was there
dropped-slot : (k : Text) (xs : List (Slot Node)) (o : Option Node) (ys : List (Slot Node)) → drop_slot k xs o ≡ done ys → (n : Node)
    × (o ≡ Some n)
dropped-slot k xs None ys h = absurd cc
dropped-slot k xs (Some n) ys h = (n, refl)

dropped-item : (xs : List Node) (o : Option (ℕ × Node)) (ys : List Node) → drop_element xs o ≡ done ys → (n : Node) × (second o ≡ Some n)
dropped-item xs None ys h = absurd cc
dropped-item xs (Some y) ys h = (y.1, refl)

child-was : (k : Text) (n m : Node) → remove_child k n ≡ done m → (x : Node) × (child k n ≡ Some x)
child-was k (table f ss) m h =
    let w = was-mapped (λ xs. table f (slots_from xs)) (drop_slot k (slot_list ss) (present (lookup_slot k (slot_list ss)))) m h in
    dropped-slot k (slot_list ss) (present (lookup_slot k (slot_list ss))) w.from w.is
child-was k (inline f ss) m h =
    let w = was-mapped (λ xs. inline f (slots_from xs)) (drop_slot k (slot_list ss) (present (lookup_slot k (slot_list ss)))) m h in
    dropped-slot k (slot_list ss) (present (lookup_slot k (slot_list ss))) w.from w.is
child-was k (list f xs) m h =
    let w = was-mapped (λ ns. list f (items_from ns)) (drop_element (item_list xs) (element_of is_value_node k (item_list xs))) m h in
    dropped-item (item_list xs) (element_of is_value_node k (item_list xs)) w.from w.is
child-was k (tables e xs) m h =
    let w = was-mapped (λ ns. tables e (items_from ns)) (drop_element (item_list xs) (element_of is_table_node k (item_list xs))) m h in
    dropped-item (item_list xs) (element_of is_table_node k (item_list xs)) w.from w.is
child-was k (leaf s r d) m h = absurd cc
child-was k nothing m h = absurd cc

module _ (k : Text) (go : Node → Answer Node) (l : Text) (path : List Text)
    (each : (a b : Node) → go a ≡ done b → (x : Node) × (item_below (l ∷ path) a ≡ Some x)) where
  slot-was : (xs : List (Slot Node)) (o : Option (Slot Node)) (ys : List (Slot Node)) → change_slot false (new_key k) go xs o ≡ done ys → (x : Node)
      × (and_then (item_below (l ∷ path)) (present o) ≡ Some x)
  slot-was xs None ys h = absurd cc
  slot-was xs (Some s) ys h =
      let w = was-mapped (λ m. changed k (with_item m) xs) (go s.item) ys h in
      let r = each s.item w.from w.is in
      (r.0, skip l path s.key s.item ∙ r.1)

  item-was : (xs : List Node) (o : Option (ℕ × Node)) (ys : List Node) → change_element go xs o ≡ done ys → (x : Node)
      × (and_then (item_below (l ∷ path)) (second o) ≡ Some x)
  item-was xs None ys h = absurd cc
  item-was xs (Some y) ys h = let w = was-mapped (λ m. written_at y.0 m xs) (go y.1) ys h in each y.1 w.from w.is

  pub below-was : (n m : Node) → child_changed false (new_key k) go n ≡ done m → (x : Node) × (and_then (item_below (l ∷ path)) (child k n) ≡ Some x)
  below-was (table f ss) m h =
      let w = was-mapped (λ xs. table f (slots_from xs)) (change_slot false (new_key k) go (slot_list ss) (lookup_slot k (slot_list ss))) m h in
      slot-was (slot_list ss) (lookup_slot k (slot_list ss)) w.from w.is
  below-was (inline f ss) m h =
      let w = was-mapped (λ xs. inline f (slots_from xs)) (change_slot false (new_key k) go (slot_list ss) (lookup_slot k (slot_list ss))) m h in
      slot-was (slot_list ss) (lookup_slot k (slot_list ss)) w.from w.is
  below-was (list f xs) m h =
      let w = was-mapped (λ ns. list f (items_from ns)) (change_element go (item_list xs) (element_of is_value_node k (item_list xs))) m
      h in
      item-was (item_list xs) (element_of is_value_node k (item_list xs)) w.from w.is
  below-was (tables e xs) m h =
      let w = was-mapped (λ ns. tables e (items_from ns)) (change_element go (item_list xs) (element_of is_table_node k (item_list xs))) m
      h in
      item-was (item_list xs) (element_of is_table_node k (item_list xs)) w.from w.is
  below-was (leaf s r d) m h = absurd cc
  below-was nothing m h = absurd cc

pub was-there : (path : List Text) (n m : Node) → remove_below path n ≡ done m → (x : Node) × (item_below path n ≡ Some x)
was-there [] n m h = absurd cc
was-there (k ∷ []) n m h = let r = child-was k n m h in (r.0, ap (and_then (item_below [])) r.1)
was-there (k ∷ l ∷ path) n m h = below-was k (remove_below (l ∷ path)) l path (λ a b g. was-there (l ∷ path) a b g) n m h

pub removed_was_there : RemovedWasThere
removed_was_there t u path h =
    let m = was-mapped (with_slots t) (remove_below path (root_item t)) u h in
    was-there path (root_item t) m.from m.is

-- ---- what remove refuses

pub was-refused : {A B : Type 0} (f : A → B) (a : Answer A) (r : Refusal) → mapped f a ≡ refused r → a ≡ refused r
was-refused f (done x) r h = absurd cc
was-refused f (refused s) r h = ap (λ z. refused z) (let e : s ≡ r = cc in e)

abbrev RefusesPath : {A : Type 0} → Answer A → Type 0
RefusesPath a = (r : Refusal) → a ≡ refused r → r ≡ no_such_path

slot-refuses : (k : Text) (xs : List (Slot Node)) (o : Option Node) → RefusesPath (drop_slot k xs o)
slot-refuses k xs None r h = cc
slot-refuses k xs (Some n) r h = absurd cc

item-refuses : (xs : List Node) (o : Option (ℕ × Node)) → RefusesPath (drop_element xs o)
item-refuses xs None r h = cc
item-refuses xs (Some y) r h = absurd cc

child-refuses : (k : Text) (n : Node) → RefusesPath (remove_child k n)
child-refuses k (table f ss) r h =
    slot-refuses k (slot_list ss) (present (lookup_slot k (slot_list ss))) r (was-refused (λ xs. table f (slots_from xs)) _ r h)
child-refuses k (inline f ss) r h =
    slot-refuses k (slot_list ss) (present (lookup_slot k (slot_list ss))) r (was-refused (λ xs. inline f (slots_from xs)) _ r h)
child-refuses k (list f xs) r h =
    item-refuses (item_list xs) (element_of is_value_node k (item_list xs)) r (was-refused (λ ns. list f (items_from ns)) _ r h)
child-refuses k (tables e xs) r h =
    item-refuses (item_list xs) (element_of is_table_node k (item_list xs)) r (was-refused (λ ns. tables e (items_from ns)) _ r h)
child-refuses k (leaf s x d) r h = cc
child-refuses k nothing r h = cc

module _ (k : Text) (go : Node → Answer Node) (each : (a : Node) → RefusesPath (go a)) where
  change-refuses : (xs : List (Slot Node)) (o : Option (Slot Node)) → RefusesPath (change_slot false (new_key k) go xs o)
  change-refuses xs None r h = cc
  change-refuses xs (Some s) r h = each s.item r (was-refused (λ m. changed k (with_item m) xs) (go s.item) r h)

  element-refuses : (xs : List Node) (o : Option (ℕ × Node)) → RefusesPath (change_element go xs o)
  element-refuses xs None r h = cc
  element-refuses xs (Some y) r h = each y.1 r (was-refused (λ m. written_at y.0 m xs) (go y.1) r h)

  below-refuses : (n : Node) → RefusesPath (child_changed false (new_key k) go n)
  below-refuses (table f ss) r h =
      change-refuses (slot_list ss) (lookup_slot k (slot_list ss)) r (was-refused (λ xs. table f (slots_from xs)) _ r h)
  below-refuses (inline f ss) r h =
      change-refuses (slot_list ss) (lookup_slot k (slot_list ss)) r (was-refused (λ xs. inline f (slots_from xs)) _ r h)
  below-refuses (list f xs) r h =
      element-refuses (item_list xs) (element_of is_value_node k (item_list xs)) r (was-refused (λ ns. list f (items_from ns)) _ r h)
  below-refuses (tables e xs) r h =
      element-refuses (item_list xs) (element_of is_table_node k (item_list xs)) r (was-refused (λ ns. tables e (items_from ns)) _ r h)
  below-refuses (leaf s x d) r h = cc
  below-refuses nothing r h = cc

path-refuses : (path : List Text) (n : Node) → RefusesPath (remove_below path n)
path-refuses [] n r h = cc
path-refuses (k ∷ []) n r h = child-refuses k n r h
path-refuses (k ∷ l ∷ path) n r h = below-refuses k (remove_below (l ∷ path)) (λ a. path-refuses (l ∷ path) a) n r h

pub remove_refuses : RemoveRefuses
remove_refuses t path r h = path-refuses path (root_item t) r (was-refused (with_slots t) (remove_below path (root_item t)) r h)
