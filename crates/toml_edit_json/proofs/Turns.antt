-- One more item or slot is written: what was written, and what is written for those that are left, stay
-- the whole text.
use Rattle.std.proofs.Common.{◌≡◌, ℕ, ◌+◌, ◌<◌, ◌≤◌, Bool, true, false, List, ◌++◌, codes, length, get_or, drop, refl, sym, ap, ◌∙◌, append_assoc}
use Rattle.std.proofs.lemmas.List.{at_drop_all, drop_more}
use Rattle.json.specs.Tree.{items_tokens, members_tokens}
use Rattle.toml_edit_model.specs.Lists.{is_item}
use Rattle.toml_edit_model.specs.Text.{Text}
use Rattle.toml_edit_model.specs.Tree.{Items, Slots, item, slot}
use Rattle.toml_edit_slots.specs.declared.slots.Slot.{Slot}
use Rattle.toml_edit_tree.specs.declared.item.Item.{Item}
use Rattle.toml_edit_tree.specs.View.{item_view, items_view, slots_view}
use Rattle.toml_edit_json.specs.Parts.{comma_after, items_text, pair_text, slots_text}
use Rattle.toml_edit_json.specs.Values.{json_items, json_members, json_text, json_value}
use Rattle.toml_edit_json.proofs.Printing.{text-end_array, text-end_object, text-member, text-value}

module _ (c : Bool) (xs : List Item) (i : ℕ) (x : Item) (h : i < length xs) (is : x ≡ get_or xs i x) (done all : Text)
    (more : done ++ items_text c (items_view (drop i xs)) ≡ all) where
  abbrev rest : Items
  rest = items_view (drop (i + 1) xs)

  opened : items_text c (items_view (drop i xs)) ≡ items_text c (item (item_view x) rest)
  opened =
      ap (λ ys. items_text c (items_view ys)) (drop_more xs i x h) ∙ ap (λ (y : Item). items_text c (item (item_view y) rest)) (sym is)

  -- an item is written
  pub item_turn : is_item (item_view x) ≡ true → (done ++ (comma_after c ++ json_text (item_view x))) ++ items_text true rest ≡ all
  item_turn e =
      let here : items_text c (item (item_view x) rest) ≡ (comma_after c ++ json_text (item_view x)) ++ items_text true rest =
      rw e (text-value c (json_value (item_view x)) (items_tokens (json_items rest))) in
      append_assoc done (comma_after c ++ json_text (item_view x)) (items_text true rest)
      ∙ ap (λ (t : Text). done ++ t) (sym (opened ∙ here)) ∙ more

  -- a placeholder is left out
  pub gap_turn : is_item (item_view x) ≡ false → done ++ items_text c rest ≡ all
  gap_turn e =
      let here : items_text c (item (item_view x) rest) ≡ items_text c rest = rw e refl in
      ap (λ (t : Text). done ++ t) (sym (opened ∙ here)) ∙ more

-- none are left
pub items_end : (c : Bool) (xs : List Item) (i : ℕ) → length xs ≤ i → (done all : Text)
    → done ++ items_text c (items_view (drop i xs)) ≡ all → done ++ codes "]" ≡ all
items_end c xs i h done all more =
    ap (λ (t : Text). done ++ t) (sym (at_drop_all (λ ys. items_text c (items_view ys)) xs i h ∙ text-end_array c)) ∙ more

module _ (c : Bool) (es : List (Slot Item)) (i : ℕ) (s : Slot Item) (h : i < length es) (is : s ≡ get_or es i s) (done all : Text)
    (more : done ++ slots_text c (slots_view (drop i es)) ≡ all) where
  abbrev others : Slots
  others = slots_view (drop (i + 1) es)

  opened_slot : slots_text c (slots_view (drop i es)) ≡ slots_text c (slot s.key (item_view s.item) others)
  opened_slot =
      ap (λ ys. slots_text c (slots_view ys)) (drop_more es i s h)
      ∙ ap (λ (e : Slot Item). slots_text c (slot e.key (item_view e.item) others)) (sym is)

  pub slot_turn : is_item (item_view s.item) ≡ true
      → (done ++ (comma_after c ++ pair_text s.key (item_view s.item))) ++ slots_text true others ≡ all
  slot_turn e =
      let here : slots_text c (slot s.key (item_view s.item) others) ≡ (comma_after c ++ pair_text s.key (item_view s.item)) ++ slots_text true others =
      rw e (text-member c s.key.name (json_value (item_view s.item)) (members_tokens (json_members others))) in
      append_assoc done (comma_after c ++ pair_text s.key (item_view s.item)) (slots_text true others)
      ∙ ap (λ (t : Text). done ++ t) (sym (opened_slot ∙ here)) ∙ more

  pub placeholder_turn : is_item (item_view s.item) ≡ false → done ++ slots_text c others ≡ all
  placeholder_turn e =
      let here : slots_text c (slot s.key (item_view s.item) others) ≡ slots_text c others = rw e refl in
      ap (λ (t : Text). done ++ t) (sym (opened_slot ∙ here)) ∙ more

pub slots_end : (c : Bool) (es : List (Slot Item)) (i : ℕ) → length es ≤ i → (done all : Text)
    → done ++ slots_text c (slots_view (drop i es)) ≡ all → done ++ codes "}" ≡ all
slots_end c es i h done all more =
    ap (λ (t : Text). done ++ t) (sym (at_drop_all (λ ys. slots_text c (slots_view ys)) es i h ∙ text-end_object c)) ∙ more
