-- `set` goes down as `index_or_insert` does.
use Rattle.std.proofs.Common.{◌≡◌, refl, sym, ◌∙◌, ap, true, List, [], ◌++◌, Option, Some, None}
use Rattle.std.specs.Prelude.{option_map}
use Rattle.toml_edit_model.specs.Text.{Text, one}
use Rattle.toml_edit_model.specs.Tree.{Node, nothing, leaf, list, inline, table, tables, Slots}
use Rattle.toml_edit_model.specs.Conversions.{new_inline}
use Rattle.toml_edit_model.specs.Keys.{new_key}
use Rattle.toml_edit_model.specs.Slots.{Slot, keyed, with_item, lookup_slot, lookup, changed}
use Rattle.toml_edit_model.specs.Lists.{slot_list, slots_from}
use Rattle.toml_edit_model.specs.TableCalls.{with_place}
use Rattle.toml_edit_model.specs.Indexing.{text, item_under, with_indexed}
use Rattle.toml_edit_edit_laws.specs.Commands.{Answer, done, refused, mapped, change_slot, set_below}
use Rattle.toml_edit_edit_laws.specs.CommandLaws.{SetSteps}
use Rattle.toml_edit_laws.proofs.common.OptionSteps.{some-is}
use Rattle.toml_edit_laws.proofs.locality.Slots.{slot_list-from}
use Rattle.toml_edit_laws.proofs.locality.Calls.{there, not-there, place-there, place-new, write-last}
use Rattle.toml_edit_edit_laws.proofs.commands.Apart.{slot-last}

mapped-twice : {A B C : Type 0} (f : B → C) (g : A → B) (a : Answer A) → mapped f (mapped g a) ≡ mapped (λ x. f (g x)) a
mapped-twice f g (done x) = refl
mapped-twice f g (refused r) = refl

mapped-same : {A B : Type 0} (f g : A → B) (a : Answer A) → ((x : A) → f x ≡ g x) → mapped f a ≡ mapped g a
mapped-same f g (done x) h = ap done (h x)
mapped-same f g (refused r) h = refl

module _ (k : Text) (go : Node → Answer Node) (F : Slots → Node) (ss : Slots) where
  -- the slots with a place for the key, what is there, and what is written there
  slots-step : (o : Option (Slot Node)) (x : Node) → lookup_slot k (slot_list ss) ≡ o → lookup k (with_place k (slot_list ss)) ≡ Some x
      → mapped (λ xs. F (slots_from xs)) (change_slot true (new_key k) go (slot_list ss) o)
      ≡ mapped (λ y. F (slots_from (changed k (with_item y) (slot_list (slots_from (with_place k (slot_list ss))))))) (go x)
  slots-step (Some s) x e h =
      let is : with_place k (slot_list ss) ≡ slot_list ss = place-there k (slot_list ss) (there k (slot_list ss) s e).0 in
      let same : s.item ≡ x = some-is s.item x (sym (ap (λ o. option_map (λ (r : Slot Node). r.item) o) e) ∙ sym (ap (lookup k) is) ∙ h) in
      mapped-twice (λ xs. F (slots_from xs)) (λ m. changed k (with_item m) (slot_list ss)) (go s.item)
      ∙ mapped-same _ _ (go s.item) (λ y. ap (λ es. F (slots_from (changed k (with_item y) es)))
      (sym (slot_list-from (with_place k (slot_list ss)) ∙ is)))
      ∙ ap (mapped (λ y. F (slots_from (changed k (with_item y) (slot_list (slots_from (with_place k (slot_list ss)))))))) (ap go same)
  slots-step None x e h =
      let new = not-there k (slot_list ss) e in
      let is : with_place k (slot_list ss) ≡ slot_list ss ++ one (keyed (new_key k) nothing) = place-new k (slot_list ss) new in
      let same : nothing ≡ x =
      some-is nothing x (sym (ap (λ o. option_map (λ (r : Slot Node). r.item) o) (slot-last (new_key k) nothing (slot_list ss) e))
      ∙ sym (ap (lookup k) is) ∙ h) in
      mapped-twice (λ xs. F (slots_from xs)) (λ m. slot_list ss ++ one (keyed (new_key k) m)) (go nothing)
      ∙ mapped-same _ _ (go nothing)
      (λ y. ap (λ es. F (slots_from es))
      (sym (ap (changed k (with_item y)) (slot_list-from (with_place k (slot_list ss)) ∙ is)
      ∙ write-last (new_key k) nothing y (slot_list ss) new)))
      ∙ ap (mapped (λ y. F (slots_from (changed k (with_item y) (slot_list (slots_from (with_place k (slot_list ss)))))))) (ap go same)

found-in : (k : Text) (es : List (Slot Node)) (x : Node) → lookup k (slot_list (slots_from es)) ≡ Some x → lookup k es ≡ Some x
found-in k es x h = ap (lookup k) (sym (slot_list-from es)) ∙ h

pub set_steps : SetSteps
set_steps v k path (table f ss) m x made under =
    let is : table f (slots_from (with_place k (slot_list ss))) ≡ m = some-is _ m made in
    let found = found-in k (with_place k (slot_list ss)) x (ap (item_under k) is ∙ under) in
    slots-step k (set_below v path) (table f) ss (lookup_slot k (slot_list ss)) x refl found
    ∙ ap (λ n. mapped (λ y. with_indexed (text k) y n) (set_below v path x)) is
set_steps v k path (inline f ss) m x made under =
    let is : inline f (slots_from (with_place k (slot_list ss))) ≡ m = some-is _ m made in
    let found = found-in k (with_place k (slot_list ss)) x (ap (item_under k) is ∙ under) in
    slots-step k (set_below v path) (inline f) ss (lookup_slot k (slot_list ss)) x refl found
    ∙ ap (λ n. mapped (λ y. with_indexed (text k) y n) (set_below v path x)) is
set_steps v k path nothing m x made under =
    let is : inline new_inline (slots_from (with_place k [])) ≡ m = some-is _ m made in
    let same : nothing ≡ x =
    some-is nothing x (sym (ap (λ o. option_map (λ (r : Slot Node). r.item) o) (slot-last (new_key k) nothing [] refl)) ∙ ap (item_under k) is
    ∙ under) in
    mapped-same _ _ (set_below v path nothing) (λ y. ap (λ es. inline new_inline (slots_from es))
    (sym (write-last (new_key k) nothing y [] refl)))
    ∙ ap (mapped (λ y. with_indexed (text k) y (inline new_inline (slots_from (with_place k []))))) (ap (set_below v path) same)
    ∙ ap (λ n. mapped (λ y. with_indexed (text k) y n) (set_below v path x)) is
set_steps v k path (leaf s r d) m x made under = absurd cc
set_steps v k path (list f xs) m x made under = absurd cc
set_steps v k path (tables e xs) m x made under = absurd cc
