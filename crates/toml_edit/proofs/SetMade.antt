-- A value that was put into a tree is well made where the tree is so before and after.
use Rattle.std.proofs.Common.{◌≡◌, refl, sym, ◌∙◌, ap, subst, ℕ, true, List, [], ◌∷◌, ◌++◌, Bool, Option, Some, None}
use Rattle.toml_edit_model.specs.ArrayCalls.{written_at}
use Rattle.toml_edit_model.specs.Conversions.{new_inline, with_decor}
use Rattle.toml_edit_model.specs.Keys.{cleared_key}
use Rattle.toml_edit_model.specs.Lists.{slot_list, slots_from, item_list, items_from}
use Rattle.toml_edit_model.specs.Shown.{is_table_node}
use Rattle.toml_edit_model.specs.Slots.{Slot, keyed, with_item, lookup_slot, changed}
use Rattle.toml_edit_model.specs.Tree.{Decor, Key, Node, nothing, leaf, list, inline, table, tables, Items, Slots, no_slots, slot, Tree}
use Rattle.toml_edit_model.specs.Tree.{is_value_node, IsWellMade, ItemsAreWellMade, SlotsAreWellMade}
use Rattle.toml_edit_laws.proofs.locality.Elements.{item-made}
use Rattle.toml_edit_laws.proofs.locality.Slots.{change-item, found, items_from-list}
use Rattle.toml_edit_edit_laws.specs.Commands.{Answer, done, missing, element_of, change_element, change_slot, child_changed}
use Rattle.toml_edit_edit_laws.specs.Commands.{root_item, set_at, set_below, with_slots}
use Rattle.toml_edit_edit_laws.proofs.commands.Apart.{named}
use Rattle.toml_edit_edit_laws.proofs.commands.Keeping.{item-parts}
use Rattle.toml_edit_edit_laws.proofs.commands.Setting.{done-is, was-mapped}

slot-made : (before : List (Slot Node)) (s : Slot Node) (after : List (Slot Node))
    → SlotsAreWellMade (slots_from (before ++ (s ∷ after))) → IsWellMade s.item
slot-made [] s after h = h.2
slot-made (x ∷ before) s after h = slot-made before s after h.3

-- what a segment led to, before and after
module _ (k : Key) (go : Node → Answer Node) where
  record Went : Type 0 where
    old : Node
    new : Node
    is : go old ≡ done new
    was_made : IsWellMade old
    made : IsWellMade new

  slot-went : (ss : Slots) (o : Option (Slot Node)) (xs : List (Slot Node)) → SlotsAreWellMade ss → lookup_slot k.name (slot_list ss) ≡ o
      → change_slot true k go (slot_list ss) o ≡ done xs → SlotsAreWellMade (slots_from xs) → Went
  slot-went ss None xs w e h made =
      let m = was-mapped (λ m. slot_list ss ++ (keyed (cleared_key k) m ∷ [])) (go nothing) xs h in
      record {
        old = nothing;
        new = m.from;
        is = m.is;
        was_made = tt;
        made = slot-made (slot_list ss) (keyed (cleared_key k) m.from) []
            (subst (λ ys. SlotsAreWellMade (slots_from ys)) m.gives made);
      }
  slot-went ss (Some s) xs w e h made =
      let m = was-mapped (λ m. changed k.name (with_item m) (slot_list ss)) (go s.item) xs h in
      let fd = found k.name ss s w e in
      record {
        old = s.item;
        new = m.from;
        is = m.is;
        was_made = fd.made;
        made = slot-made fd.front (keyed s.key m.from) fd.back
            (subst (λ ys. SlotsAreWellMade (slots_from ys)) (m.gives ∙ fd.change (with_item m.from)) made);
      }

  item-went : (is : Node → Bool) (xs : Items) (o : Option (ℕ × Node)) (ys : List Node) → ItemsAreWellMade xs
      → element_of is k.name (item_list xs) ≡ o → change_element go (item_list xs) o ≡ done ys → ItemsAreWellMade (items_from ys)
      → Went
  item-went is xs None ys w e h made = absurd cc
  item-went is xs (Some x) ys w e h made =
      let m = was-mapped (λ m. written_at x.0 m (item_list xs)) (go x.1) ys h in
      let p = item-parts x.0 (item_list xs) x.1 (named is k.name (item_list xs) x e).item in
      record {
        old = x.1;
        new = m.from;
        is = m.is;
        was_made = item-made p.before x.1 p.after (subst ItemsAreWellMade (sym (items_from-list xs) ∙ ap items_from p.is) w);
        made = item-made p.before m.from p.after
            (subst (λ zs. ItemsAreWellMade (items_from zs))
            (m.gives ∙ ap (written_at x.0 m.from) p.is ∙ change-item p.before x.1 p.after x.0 (λ old. m.from) p.place) made);
      }

  went : (n m : Node) → IsWellMade n → child_changed true k go n ≡ done m → IsWellMade m → Went
  went (table f ss) m w h made =
      let b = was-mapped (λ xs. table f (slots_from xs)) (change_slot true k go (slot_list ss) (lookup_slot k.name (slot_list ss))) m h in
      slot-went ss (lookup_slot k.name (slot_list ss)) b.from w refl b.is (subst IsWellMade b.gives made)
  went (inline f ss) m w h made =
      let b = was-mapped (λ xs. inline f (slots_from xs)) (change_slot true k go (slot_list ss) (lookup_slot k.name (slot_list ss))) m h in
      slot-went ss (lookup_slot k.name (slot_list ss)) b.from w refl b.is (subst IsWellMade b.gives made)
  went (list f xs) m w h made =
      let b = was-mapped (λ ns. list f (items_from ns)) (change_element go (item_list xs) (element_of is_value_node k.name (item_list xs))) m
      h in
      item-went is_value_node xs (element_of is_value_node k.name (item_list xs)) b.from w refl b.is (subst IsWellMade b.gives made)
  went (tables e xs) m w h made =
      let b = was-mapped (λ ns. tables e (items_from ns)) (change_element go (item_list xs) (element_of is_table_node k.name (item_list xs))) m
      h in
      item-went is_table_node xs (element_of is_table_node k.name (item_list xs)) b.from w refl b.is (subst IsWellMade b.gives made)
  went (leaf s r d) m w h made = absurd cc
  went nothing m w h made =
      let b = was-mapped (λ x. inline new_inline (slot (cleared_key k) x no_slots)) (missing true (go nothing)) m h in
      record { old = nothing; new = b.from; is = b.is; was_made = tt; made = (subst IsWellMade b.gives made).2 }

decor-was-made : (d : Decor) (v : Node) → IsWellMade (with_decor d v) → IsWellMade v
decor-was-made d (leaf s r e) w = w
decor-was-made d (list f xs) w = w
decor-was-made d (inline f ss) w = w
decor-was-made d (table f ss) w = w
decor-was-made d (tables e xs) w = w
decor-was-made d nothing w = w

made-below : (v : Node) (path : List Key) (n m : Node) → IsWellMade n → set_below v path n ≡ done m → IsWellMade m → IsWellMade v
made-below v [] nothing m w h made = subst IsWellMade (sym (done-is v m h)) made
made-below v [] (table f ss) m w h made = absurd cc
made-below v [] (tables e xs) m w h made = absurd cc
made-below v [] (leaf s r d) m w h made = decor-was-made d v (subst IsWellMade (sym (done-is (with_decor d v) m h)) made)
made-below v [] (list f xs) m w h made = decor-was-made f.decor v (subst IsWellMade (sym (done-is (with_decor f.decor v) m h)) made)
made-below v [] (inline f ss) m w h made = decor-was-made f.decor v (subst IsWellMade (sym (done-is (with_decor f.decor v) m h)) made)
made-below v (k ∷ path) n m w h made =
    let g = went k (set_below v path) n m w h made in made-below v path g.old g.new g.was_made g.is g.made

-- a root that was changed is a table, whose slots are the tree's
root-made : (k : Key) (go : Node → Answer Node) (t : Tree) (n : Node) → child_changed true k go (root_item t) ≡ done n
    → SlotsAreWellMade (with_slots t n).slots → IsWellMade n
root-made k go t n h made =
    let b = was-mapped (λ xs. table t.root (slots_from xs)) (change_slot true k go (slot_list t.slots) (lookup_slot k.name (slot_list t.slots))) n
    h in
    subst IsWellMade (sym b.gives) (subst (λ (x : Node). SlotsAreWellMade (with_slots t x).slots) b.gives made)

pub value-made : (path : List Key) (v : Node) (t u : Tree) → SlotsAreWellMade t.slots → set_at path v t ≡ done u → SlotsAreWellMade u.slots
    → IsWellMade v
value-made [] v t u w h made = absurd cc
value-made (k ∷ path) v t u w h made =
    let m = was-mapped (with_slots t) (set_below v (k ∷ path) (root_item t)) u h in
    made-below v (k ∷ path) (root_item t) m.from w m.is
    (root-made k (set_below v path) t m.from m.is (subst (λ (x : Tree). SlotsAreWellMade x.slots) m.gives made))
