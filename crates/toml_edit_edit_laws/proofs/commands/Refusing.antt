-- Why `set` refuses.
use Rattle.std.proofs.Common.{◌≡◌, refl, sym, ◌∙◌, ap, subst, ℕ, true, List, [], ◌∷◌, ◌++◌, Option, Some, None, inl, inr}
use Rattle.toml_edit_model.specs.Text.{Text}
use Rattle.toml_edit_model.specs.Tree.{Key, Node, nothing, leaf, list, inline, table, tables, no_slots, slot, is_value_node}
use Rattle.toml_edit_model.specs.Conversions.{new_inline}
use Rattle.toml_edit_model.specs.Keys.{cleared_key, names}
use Rattle.toml_edit_model.specs.Slots.{Slot, keyed, with_item, lookup_slot, changed}
use Rattle.toml_edit_model.specs.Lists.{slot_list, slots_from, item_list, items_from, is_item}
use Rattle.toml_edit_model.specs.ArrayCalls.{written_at}
use Rattle.toml_edit_model.specs.Shown.{is_table_node}
use Rattle.toml_edit_edit_laws.specs.Commands.{Refusal, no_such_path, wrong_kind, taken, Answer, done, refused, element_of, present, second, child}
use Rattle.toml_edit_edit_laws.specs.Commands.{and_then, item_below, change_slot, change_element, set_here, set_below, root_item, with_slots}
use Rattle.toml_edit_edit_laws.specs.CommandLaws.{made_below, is_listing, Stops, IsWhy, SetRefuses}
use Rattle.toml_edit_edit_laws.proofs.commands.Setting.{made-below-is}
use Rattle.toml_edit_edit_laws.proofs.commands.Removing.{item-present}
use Rattle.toml_edit_edit_laws.proofs.commands.Finding.{was-refused}

stops-further : (P : Text → Node → Type 0) (k : Text) (path : List Text) (n a : Node) → child k n ≡ Some a → Stops P path a
    → Stops P (k ∷ path) n
stops-further P k path n a e s =
    record {
      front = k ∷ s.front;
      segment = s.segment;
      rest = s.rest;
      item = s.item;
      is = ap (λ p. k ∷ p) s.is;
      there = ap (and_then (item_below s.front)) e ∙ s.there;
      such = s.such;
    }

further : (r : Refusal) (k : Text) (path : List Text) (n a : Node) → child k n ≡ Some a → IsWhy r path a → IsWhy r (k ∷ path) n
further no_such_path k path n a e w = stops-further _ k path n a e w
further wrong_kind k path n a e (inl (x, there, is)) = inl (x, ap (and_then (item_below path)) e ∙ there, is)
further wrong_kind k path n a e (inr s) = inr (stops-further _ k path n a e s)
further taken k path n a e w = w

-- below a placeholder nothing is refused
never : {X : Type 0} (v : Node) (path : List Key) (r : Refusal) → set_below v path nothing ≡ refused r → X
never v path r h = absurd (let e : done (made_below path v) ≡ refused r = sym (made-below-is v path) ∙ h in cc)

refused-item : (v : Node) (path : List Key) (r : Refusal) (a : Node) → set_below v path a ≡ refused r → is_item a ≡ true
refused-item v path r nothing h = never v path r h
refused-item v path r (leaf s x d) h = refl
refused-item v path r (list f xs) h = refl
refused-item v path r (inline f ss) h = refl
refused-item v path r (table f ss) h = refl
refused-item v path r (tables e xs) h = refl

same-refusal : {A : Type 0} (r s : Refusal) (a b : Answer A) → a ≡ refused r → b ≡ refused s → a ≡ b → r ≡ s
same-refusal r s a b g h e = cc

here-why : (v n : Node) (r : Refusal) → set_here v n ≡ refused r → IsWhy r [] n
here-why v nothing r h = absurd cc
here-why v (leaf s x d) r h = absurd cc
here-why v (list f xs) r h = absurd cc
here-why v (inline f ss) r h = absurd cc
here-why v (table f ss) r h =
    subst (λ q. IsWhy q [] (table f ss)) (same-refusal wrong_kind r (set_here v (table f ss)) (set_here v (table f ss)) refl h refl)
    (inl (table f ss, refl, refl))
here-why v (tables e xs) r h =
    subst (λ q. IsWhy q [] (tables e xs)) (same-refusal wrong_kind r (set_here v (tables e xs)) (set_here v (tables e xs)) refl h refl)
    (inl (tables e xs, refl, refl))

module _ (v : Node) (k : Key) (path : List Key)
    (each : (a : Node) (r : Refusal) → set_below v path a ≡ refused r → IsWhy r (names path) a) where
  slot-why : (n : Node) (xs : List (Slot Node)) (o : Option (Slot Node)) (r : Refusal) → child k.name n ≡ present o
      → change_slot true k (set_below v path) xs o ≡ refused r → IsWhy r (k.name ∷ names path) n
  slot-why n xs None r e h = never v path r (was-refused (λ m. xs ++ (keyed (cleared_key k) m ∷ [])) (set_below v path nothing) r h)
  slot-why n xs (Some s) r e h =
      let g = was-refused (λ m. changed k.name (with_item m) xs) (set_below v path s.item) r h in
      further r k.name (names path) n s.item (e ∙ item-present s.key s.item (refused-item v path r s.item g)) (each s.item r g)

  item-why : (n : Node) (xs : List Node) (o : Option (ℕ × Node)) (r : Refusal) → child k.name n ≡ second o
      → is_listing n ≡ true → change_element (set_below v path) xs o ≡ refused r → IsWhy r (k.name ∷ names path) n
  item-why n xs None r e none h =
      subst (λ q. IsWhy q (k.name ∷ names path) n) (same-refusal no_such_path r (change_element (set_below v path) xs None)
      (change_element (set_below v path) xs None) refl h refl) (record {
        front = [];
        segment = k.name;
        rest = names path;
        item = n;
        is =
            refl;
        there = refl;
        such = (none, e);
      })
  item-why n xs (Some y) r e none h =
      let g = was-refused (λ m. written_at y.0 m xs) (set_below v path y.1) r h in
      further r k.name (names path) n y.1 e (each y.1 r g)

  below-why : (n : Node) (r : Refusal) → set_below v (k ∷ path) n ≡ refused r → IsWhy r (k.name ∷ names path) n
  below-why (table f ss) r h =
      slot-why (table f ss) (slot_list ss) (lookup_slot k.name (slot_list ss)) r refl (was-refused (λ xs. table f (slots_from xs)) _ r h)
  below-why (inline f ss) r h =
      slot-why (inline f ss) (slot_list ss) (lookup_slot k.name (slot_list ss)) r refl (was-refused (λ xs. inline f (slots_from xs)) _ r h)
  below-why (list f xs) r h =
      item-why (list f xs) (item_list xs) (element_of is_value_node k.name (item_list xs)) r refl refl
      (was-refused (λ ns. list f (items_from ns)) _ r h)
  below-why (tables e xs) r h =
      item-why (tables e xs) (item_list xs) (element_of is_table_node k.name (item_list xs)) r refl refl
      (was-refused (λ ns. tables e (items_from ns)) _ r h)
  below-why (leaf s x d) r h =
      subst (λ q. IsWhy q (k.name ∷ names path) (leaf s x d))
      (same-refusal wrong_kind r (set_below v (k ∷ path) (leaf s x d)) (set_below v (k ∷ path) (leaf s x d)) refl h refl)
      (inr (record { front = []; segment = k.name; rest = names path; item = leaf s x d; is = refl; there = refl; such = refl }))
  below-why nothing r h = never v path r (was-refused (λ m. inline new_inline (slot (cleared_key k) m no_slots)) (set_below v path nothing) r h)

why : (v : Node) (path : List Key) (n : Node) (r : Refusal) → set_below v path n ≡ refused r → IsWhy r (names path) n
why v [] n r h = here-why v n r h
why v (k ∷ path) n r h = below-why v k path (λ a q g. why v path a q g) n r h

pub set_refuses : SetRefuses
set_refuses t path v r h = why v path (root_item t) r (was-refused (with_slots t) (set_below v path (root_item t)) r h)
