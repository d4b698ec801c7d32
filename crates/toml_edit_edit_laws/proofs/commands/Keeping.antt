-- `set` and `remove` leave all but the item at the path as it was, and the tree as its types see to.
use Rattle.std.proofs.Common.{◌≡◌, refl, sym, ◌∙◌, ap, subst, ℕ, zero, suc, Bool, true, false, List, [], ◌∷◌, ◌++◌, length, map, Option, Some}
use Rattle.std.proofs.Common.{None, inl, inr}
use Rattle.std.specs.Prelude.{slice_get, if◌then◌else◌}
use Rattle.toml_edit_model.specs.Text.{Text}
use Rattle.toml_edit_model.specs.Tree.{Decor, Key, Node, nothing, leaf, list, inline, table, tables, Items, Slots, no_slots, slot, Tree}
use Rattle.toml_edit_model.specs.Tree.{is_value_node, HasTrueSpelling, IsWellMade, ItemsAreWellMade, SlotsAreWellMade}
use Rattle.toml_edit_model.specs.Conversions.{new_inline, with_decor}
use Rattle.toml_edit_model.specs.Keys.{cleared_key, new_key}
use Rattle.toml_edit_model.specs.Spelling.{SpellsKey}
use Rattle.toml_edit_model.specs.Slots.{Slot, keyed, with_item, lookup_slot, changed, without}
use Rattle.toml_edit_model.specs.Lists.{slot_list, slots_from, item_list, items_from, only, is_item}
use Rattle.toml_edit_model.specs.ArrayCalls.{written_at, removed_at}
use Rattle.toml_edit_model.specs.Shown.{is_table_node}
use Rattle.toml_edit_edit_laws.specs.Commands.{Answer, done, mapped, number_of, kept_item, at_number, element_of, present, missing, change_slot}
use Rattle.toml_edit_edit_laws.specs.Commands.{change_element, child_changed, set_here, set_below, drop_slot, drop_element, remove_child}
use Rattle.toml_edit_edit_laws.specs.Commands.{remove_below, root_item, root_slots, with_slots}
use Rattle.toml_edit_edit_laws.specs.CommandLaws.{AreSpelled, OneSlot, OneItem, OnlyChild, OnlyAt, OnlyTreeAt, SetKeepsTheRest, OneSlotLess, OneItemLess}
use Rattle.toml_edit_edit_laws.specs.CommandLaws.{IsWithout, RemoveKeepsTheRest}
use Rattle.toml_edit_laws.proofs.locality.Slots.{Found, found, none-there, slots_from-list, slot_list-from, items_from-list, item_list-from}
use Rattle.toml_edit_laws.proofs.locality.Slots.{change-item, remove-item}
use Rattle.toml_edit_laws.proofs.locality.Elements.{item-made}
use Rattle.toml_edit_laws.proofs.locality.Made.{made-node, made-drop, made-last, items-swap, items-drop, split-made}
use Rattle.toml_edit_edit_laws.proofs.commands.Setting.{was-mapped, done-is}
use Rattle.toml_edit_edit_laws.proofs.commands.Removing.{remove-goes-down}
use Rattle.toml_edit_laws.proofs.common.OptionSteps.{guard_read, some-is}

-- ---- the element that a text names

pub record ItemParts (i : ℕ) (ns : List Node) (n : Node) : Type 0 where
  pub before : List Node
  pub after : List Node
  pub is : ns ≡ before ++ (n ∷ after)
  pub place : length before ≡ i

pub item-parts : (i : ℕ) (ns : List Node) (n : Node) → slice_get ns i ≡ Some n → ItemParts i ns n
item-parts i [] n h = absurd cc
item-parts zero (m ∷ ns) n h = record { before = []; after = ns; is = ap (λ x. x ∷ ns) (some-is m n h); place = refl }
item-parts (suc i) (m ∷ ns) n h =
    let r = item-parts i ns n h in
    record { before = m ∷ r.before; after = r.after; is = ap (λ xs. m ∷ xs) r.is; place = ap suc r.place }

record Element (k : Text) (ns : List Node) (x : ℕ × Node) : Type 0 where
  number : number_of k ≡ Some x.0
  parts : ItemParts x.0 ns x.1

element-is : (is : Node → Bool) (k : Text) (ns : List Node) (x : ℕ × Node) → element_of is k ns ≡ Some x → Element k ns x
element-is is k ns x h = by_number (number_of k) refl h
  where
    by_kind : (i : ℕ) (n : Node) (b : Bool) → number_of k ≡ Some i → slice_get ns i ≡ Some n → (if b then Some (i, n) else None) ≡ Some x
        → Element k ns x
    by_kind i n true e g h =
        subst (λ (y : ℕ × Node). Element k ns y) (some-is (i, n) x h) (record { number = e; parts = item-parts i ns n g })
    by_kind i n false e g h = absurd cc

    by_item : (i : ℕ) (o : Option Node) → number_of k ≡ Some i → slice_get ns i ≡ o → kept_item is i o ≡ Some x → Element k ns x
    by_item i None e g h = absurd cc
    by_item i (Some n) e g h = by_kind i n (is n) e g h

    by_number : (o : Option ℕ) → number_of k ≡ o → at_number is ns o ≡ Some x → Element k ns x
    by_number None e h = absurd cc
    by_number (Some i) e h = by_item i (slice_get ns i) e refl h

-- the elements, of which one is that
items-parted : (i : ℕ) (xs : Items) (n : Node) → (r : ItemParts i (item_list xs) n) → ItemsAreWellMade xs
    → ItemsAreWellMade (items_from (r.before ++ (n ∷ r.after)))
items-parted i xs n r w = subst ItemsAreWellMade (sym (items_from-list xs) ∙ ap items_from r.is) w

-- ---- below a segment

module _ (makes : Bool) (k : Key) (spelled : HasTrueSpelling (SpellsKey k.name) k.spelling) (go : Node → Answer Node)
    (R : Node → Node → Type 0)
    (each : (a b : Node) → IsWellMade a → go a ≡ done b → R a b × IsWellMade b) where
  slot-only : (ss : Slots) (o : Option (Slot Node)) (xs : List (Slot Node)) → SlotsAreWellMade ss → lookup_slot k.name (slot_list ss) ≡ o
      → change_slot makes k go (slot_list ss) o ≡ done xs → OneSlot R k (slot_list ss) xs × SlotsAreWellMade (slots_from xs)
  slot-only ss None xs w e h = by_makes makes h
    where
      by_makes : (b : Bool) → mapped (λ m. slot_list ss ++ (keyed (cleared_key k) m ∷ [])) (missing b (go nothing)) ≡ done xs
          → OneSlot R k (slot_list ss) xs × SlotsAreWellMade (slots_from xs)
      by_makes false h = absurd cc
      by_makes true h =
          let m = was-mapped (λ m. slot_list ss ++ (keyed (cleared_key k) m ∷ [])) (go nothing) xs h in
          let r = each nothing m.from tt m.is in (
            inr (record { new = m.from; is_new = e; second = m.gives; related = r.0 }),
            subst (λ ys. SlotsAreWellMade (slots_from ys)) (sym m.gives)
                (made-last (slot_list ss) (keyed (cleared_key k) m.from) (none-there k.name (slot_list ss) e) spelled r.1
                (subst SlotsAreWellMade (sym (slots_from-list ss)) w)),
          )
  slot-only ss (Some s) xs w e h =
      let m = was-mapped (λ m. changed k.name (with_item m) (slot_list ss)) (go s.item) xs h in
      let fd : Found k.name s (slot_list ss) = found k.name ss s w e in
      let r = each s.item m.from fd.made m.is in
      let is : xs ≡ fd.front ++ (keyed s.key m.from ∷ fd.back) = m.gives ∙ fd.change (with_item m.from) in (
        inl (record {
          before = fd.front;
          key = s.key;
          old = s.item;
          new = m.from;
          after = fd.back;
          named = fd.named;
          first = fd.is;
          second =
              is;
          related = r.0;
        }),
        subst (λ ys. SlotsAreWellMade (slots_from ys)) (sym is)
            (made-node fd.front fd.back s.key s.item m.from r.1 (split-made k.name s ss fd w)),
      )

  item-only : (is : Node → Bool) (xs : Items) (o : Option (ℕ × Node)) (ys : List Node) → ItemsAreWellMade xs
      → element_of is k.name (item_list xs) ≡ o
      → change_element go (item_list xs) o ≡ done ys → OneItem R k.name (item_list xs) ys × ItemsAreWellMade (items_from ys)
  item-only is xs None ys w e h = absurd cc
  item-only is xs (Some x) ys w e h =
      let m = was-mapped (λ m. written_at x.0 m (item_list xs)) (go x.1) ys h in
      let el = element-is is k.name (item_list xs) x e in
      let p = el.parts in
      let all = items-parted x.0 xs x.1 p w in
      let r = each x.1 m.from (item-made p.before x.1 p.after all) m.is in
      let second : ys ≡ p.before ++ (m.from ∷ p.after) =
      m.gives ∙ ap (written_at x.0 m.from) p.is ∙ change-item p.before x.1 p.after x.0 (λ old. m.from) p.place in (
        record {
          before = p.before;
          old = x.1;
          new = m.from;
          after = p.after;
          place = el.number ∙ ap (λ i. Some i) (sym p.place);
          first = p.is;
          second = second;
          related = r.0;
        },
        subst (λ zs. ItemsAreWellMade (items_from zs)) (sym second) (items-swap p.before p.after x.1 m.from r.1 all),
      )

  pub child-only : (n m : Node) → IsWellMade n → child_changed makes k go n ≡ done m → OnlyChild R k n m × IsWellMade m
  child-only (table f ss) m w h =
      let b = was-mapped (λ xs. table f (slots_from xs)) (change_slot makes k go (slot_list ss) (lookup_slot k.name (slot_list ss))) m h in
      let r = slot-only ss (lookup_slot k.name (slot_list ss)) b.from w refl b.is in (
        (slots_from b.from, b.gives, subst (OneSlot R k (slot_list ss)) (sym (slot_list-from b.from)) r.0),
        subst IsWellMade (sym b.gives) r.1,
      )
  child-only (inline f ss) m w h =
      let b = was-mapped (λ xs. inline f (slots_from xs)) (change_slot makes k go (slot_list ss) (lookup_slot k.name (slot_list ss))) m h in
      let r = slot-only ss (lookup_slot k.name (slot_list ss)) b.from w refl b.is in (
        (slots_from b.from, b.gives, subst (OneSlot R k (slot_list ss)) (sym (slot_list-from b.from)) r.0),
        subst IsWellMade (sym b.gives) r.1,
      )
  child-only (list f xs) m w h =
      let b = was-mapped (λ ns. list f (items_from ns)) (change_element go (item_list xs) (element_of is_value_node k.name (item_list xs))) m
      h in
      let r = item-only is_value_node xs (element_of is_value_node k.name (item_list xs)) b.from w refl b.is in (
        (items_from b.from, b.gives, subst (OneItem R k.name (item_list xs)) (sym (item_list-from b.from)) r.0),
        subst IsWellMade (sym b.gives) r.1,
      )
  child-only (tables e xs) m w h =
      let b = was-mapped (λ ns. tables e (items_from ns)) (change_element go (item_list xs) (element_of is_table_node k.name (item_list xs))) m
      h in
      let r = item-only is_table_node xs (element_of is_table_node k.name (item_list xs)) b.from w refl b.is in (
        (items_from b.from, b.gives, subst (OneItem R k.name (item_list xs)) (sym (item_list-from b.from)) r.0),
        subst IsWellMade (sym b.gives) r.1,
      )
  child-only (leaf s r d) m w h = absurd cc
  child-only nothing m w h = by_makes makes h
    where
      by_makes : (b : Bool) → mapped (λ x. inline new_inline (slot (cleared_key k) x no_slots)) (missing b (go nothing)) ≡ done m
          → OnlyChild R k nothing m × IsWellMade m
      by_makes false h = absurd cc
      by_makes true h =
          let b = was-mapped (λ x. inline new_inline (slot (cleared_key k) x no_slots)) (go nothing) m h in
          let r = each nothing b.from tt b.is in
          ((b.from, b.gives, r.0), subst IsWellMade (sym b.gives) (refl, spelled, r.1, tt))

-- ---- set

pub decor-made : (d : Decor) (v : Node) → IsWellMade v → IsWellMade (with_decor d v)
decor-made d (leaf s r e) w = w
decor-made d (list f xs) w = w
decor-made d (inline f ss) w = w
decor-made d (table f ss) w = w
decor-made d (tables e xs) w = w
decor-made d nothing w = w

here-made : (v n m : Node) → IsWellMade v → set_here v n ≡ done m → IsWellMade m
here-made v nothing m w h = subst IsWellMade (done-is v m h) w
here-made v (table f ss) m w h = absurd cc
here-made v (tables e xs) m w h = absurd cc
here-made v (leaf s r d) m w h = subst IsWellMade (done-is (with_decor d v) m h) (decor-made d v w)
here-made v (list f xs) m w h = subst IsWellMade (done-is (with_decor f.decor v) m h) (decor-made f.decor v w)
here-made v (inline f ss) m w h = subst IsWellMade (done-is (with_decor f.decor v) m h) (decor-made f.decor v w)

set-only : (v : Node) (path : List Key) (n m : Node) → IsWellMade v → AreSpelled path → IsWellMade n → set_below v path n ≡ done m
    → OnlyAt (λ old new. set_here v old ≡ done new) path n m × IsWellMade m
set-only v [] n m wv sp w h = (h, here-made v n m wv h)
set-only v (k ∷ path) n m wv sp w h =
    child-only true k sp.0 (set_below v path) (OnlyAt (λ old new. set_here v old ≡ done new) path)
    (λ a b wa g. set-only v path a b wv sp.1 wa g) n m w h

-- a root that stays a table of the same fields
with-root : (t : Tree) (n : Node) (xs : Slots) → n ≡ table t.root xs → n ≡ root_item (with_slots t n)
with-root t n xs e = e ∙ ap (λ (x : Node). table t.root (root_slots x)) (sym e)

slots-made : (n : Node) → IsWellMade n → SlotsAreWellMade (root_slots n)
slots-made (table f ss) w = w
slots-made (inline f ss) w = tt
slots-made (list f xs) w = tt
slots-made (tables e xs) w = tt
slots-made (leaf s r d) w = tt
slots-made nothing w = tt

only-tree : (R : Node → Node → Type 0) (path : List Key) (t : Tree) (n : Node) → n ≡ root_item (with_slots t n)
    → OnlyAt R path (root_item t) n → IsWellMade n
    → OnlyTreeAt R path t (with_slots t n)
only-tree R path t n root only w =
    record { root = refl; trailing = refl; at = subst (OnlyAt R path (root_item t)) root only; made = slots-made n w }

pub set_keeps_the_rest : SetKeepsTheRest
set_keeps_the_rest t u path v made wv sp h =
    let m = was-mapped (with_slots t) (set_below v path (root_item t)) u h in
    let r = set-only v path (root_item t) m.from wv sp made m.is in
    subst (λ (x : Tree). OnlyTreeAt (λ old new. set_here v old ≡ done new) path t x) (sym m.gives)
    (only-tree (λ old new. set_here v old ≡ done new) path t m.from (root-kept path m.from r.0) r.0 r.1)
  where
    root-kept : (path : List Key) (n : Node) → OnlyAt (λ old new. set_here v old ≡ done new) path (root_item t) n → n
        ≡ root_item (with_slots t n)
    root-kept [] n only = absurd cc
    root-kept (k ∷ path) n only = with-root t n only.0 only.1

-- ---- remove

pub record Present (o : Option (Slot Node)) (n : Node) : Type 0 where
  pub key : Key
  pub is : o ≡ Some (keyed key n)

pub present-is : (o : Option (Slot Node)) (n : Node) → present o ≡ Some n → Present o n
present-is None n h = absurd cc
present-is (Some s) n h =
    record { key = s.key; is = ap (λ x. Some (keyed s.key x)) (some-is s.item n (guard_read (is_item s.item) (Some s.item) n h).1) }

slot-less : (k : Text) (ss : Slots) (o : Option Node) (xs : List (Slot Node)) → SlotsAreWellMade ss → present (lookup_slot k (slot_list ss))
    ≡ o
    → drop_slot k (slot_list ss) o ≡ done xs → OneSlotLess k (slot_list ss) xs × SlotsAreWellMade (slots_from xs)
slot-less k ss None xs w e h = absurd cc
slot-less k ss (Some n) xs w e h =
    let p = present-is (lookup_slot k (slot_list ss)) n e in
    let fd : Found k (keyed p.key n) (slot_list ss) = found k ss (keyed p.key n) w p.is in
    let is : xs ≡ fd.front ++ fd.back = sym (done-is (without k (slot_list ss)) xs h) ∙ fd.remove in (
      record { before = fd.front; gone = (keyed p.key n); after = fd.back; named = fd.named; first = fd.is; second = is },
      subst (λ ys. SlotsAreWellMade (slots_from ys)) (sym is)
          (made-drop fd.front fd.back (keyed p.key n) (split-made k (keyed p.key n) ss fd w)),
    )

item-less : (is : Node → Bool) (k : Text) (xs : Items) (o : Option (ℕ × Node)) (ys : List Node) → ItemsAreWellMade xs
    → element_of is k (item_list xs) ≡ o
    → drop_element (item_list xs) o ≡ done ys → OneItemLess k (item_list xs) ys × ItemsAreWellMade (items_from ys)
item-less is k xs None ys w e h = absurd cc
item-less is k xs (Some x) ys w e h =
    let el = element-is is k (item_list xs) x e in
    let p = el.parts in
    let second : ys ≡ p.before ++ p.after =
    sym (done-is (removed_at x.0 (item_list xs)) ys h) ∙ ap (removed_at x.0) p.is ∙ remove-item p.before x.1 p.after x.0 p.place in (
      record {
        before = p.before;
        gone = x.1;
        after = p.after;
        place = el.number ∙ ap (λ i. Some i) (sym p.place);
        first = p.is;
        second =
            second;
      },
      subst (λ zs. ItemsAreWellMade (items_from zs)) (sym second) (items-drop p.before p.after x.1 (items-parted x.0 xs x.1 p w)),
    )

child-less : (k : Text) (n m : Node) → IsWellMade n → remove_child k n ≡ done m → IsWithout k n m × IsWellMade m
child-less k (table f ss) m w h =
    let b = was-mapped (λ xs. table f (slots_from xs)) (drop_slot k (slot_list ss) (present (lookup_slot k (slot_list ss)))) m h in
    let r = slot-less k ss (present (lookup_slot k (slot_list ss))) b.from w refl b.is in (
      (slots_from b.from, b.gives, subst (OneSlotLess k (slot_list ss)) (sym (slot_list-from b.from)) r.0),
      subst IsWellMade (sym b.gives) r.1,
    )
child-less k (inline f ss) m w h =
    let b = was-mapped (λ xs. inline f (slots_from xs)) (drop_slot k (slot_list ss) (present (lookup_slot k (slot_list ss)))) m h in
    let r = slot-less k ss (present (lookup_slot k (slot_list ss))) b.from w refl b.is in (
      (slots_from b.from, b.gives, subst (OneSlotLess k (slot_list ss)) (sym (slot_list-from b.from)) r.0),
      subst IsWellMade (sym b.gives) r.1,
    )
child-less k (list f xs) m w h =
    let b = was-mapped (λ ns. list f (items_from ns)) (drop_element (item_list xs) (element_of is_value_node k (item_list xs))) m h in
    let r = item-less is_value_node k xs (element_of is_value_node k (item_list xs)) b.from w refl b.is in (
      (items_from b.from, b.gives, subst (OneItemLess k (item_list xs)) (sym (item_list-from b.from)) r.0),
      subst IsWellMade (sym b.gives) r.1,
    )
child-less k (tables e xs) m w h =
    let b = was-mapped (λ ns. tables e (items_from ns)) (drop_element (item_list xs) (element_of is_table_node k (item_list xs))) m h in
    let r = item-less is_table_node k xs (element_of is_table_node k (item_list xs)) b.from w refl b.is in (
      (items_from b.from, b.gives, subst (OneItemLess k (item_list xs)) (sym (item_list-from b.from)) r.0),
      subst IsWellMade (sym b.gives) r.1,
    )
child-less k (leaf s r d) m w h = absurd cc
child-less k nothing m w h = absurd cc

remove-only : (path : List Text) (k : Text) (n m : Node) → IsWellMade n → remove_below (path ++ (k ∷ [])) n ≡ done m
    → OnlyAt (IsWithout k) (map new_key path) n m × IsWellMade m
remove-only [] k n m w h = child-less k n m w h
remove-only (j ∷ path) k n m w h =
    child-only false (new_key j) tt (remove_below (path ++ (k ∷ []))) (OnlyAt (IsWithout k) (map new_key path)) (λ a b wa g. remove-only path k a b wa g) n m w
    (sym (remove-goes-down k [] j path n) ∙ h)

pub remove_keeps_the_rest : RemoveKeepsTheRest
remove_keeps_the_rest t u path k made h =
    let m = was-mapped (with_slots t) (remove_below (path ++ (k ∷ [])) (root_item t)) u h in
    let r = remove-only path k (root_item t) m.from made m.is in
    subst (λ (x : Tree). OnlyTreeAt (IsWithout k) (map new_key path) t x) (sym m.gives)
    (only-tree (IsWithout k) (map new_key path) t m.from (root-kept path m.from r.0) r.0 r.1)
  where
    root-kept : (path : List Text) (n : Node) → OnlyAt (IsWithout k) (map new_key path) (root_item t) n → n ≡ root_item (with_slots t n)
    root-kept [] n only = with-root t n only.0 only.1
    root-kept (j ∷ path) n only = with-root t n only.0 only.1
