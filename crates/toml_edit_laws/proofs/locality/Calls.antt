-- The calls that replace or add are the edits of the laws.
use Rattle.std.proofs.Common.{◌≡◌, refl, ◌∙◌, ap, Bool, true, false, List, [], ◌∷◌, ◌++◌, Some, None}
use Rattle.std.specs.Prelude.{◌||◌, if◌then◌else◌}
use Rattle.toml_edit_model.specs.Text.{Text, one, same_text}
use Rattle.toml_edit_model.specs.Tree.{Key, Node, nothing, table}
use Rattle.toml_edit_model.specs.Keys.{reset_key, new_key}
use Rattle.toml_edit_model.specs.Slots.{Slot, keyed, with_item, has_slot, lookup_slot, changed, put}
use Rattle.toml_edit_laws.specs.Locality.{CallsOnPresent, CallsOnAbsent, IndexWrites}
use Rattle.toml_edit_laws.proofs.locality.Slots.{slot_list-from}
use Rattle.toml_edit_model.specs.Lists.{slot_list, slots_from}
use Rattle.toml_edit_model.specs.TableCalls.{with_place}
use Rattle.toml_edit_laws.proofs.common.Tests.{if-true, if-false, same_text-refl, same_text-is}
use Rattle.toml_edit_laws.proofs.common.OptionSteps.{some-is}

pub there : (k : Text) (ss : List (Slot Node)) (s : Slot Node) → lookup_slot k ss ≡ Some s → (has_slot k ss ≡ true) × (k ≡ s.key.name)
there k [] s h = absurd cc
there k (x ∷ ss) s h = by_test (same_text k x.key.name) refl h (there k ss s)
  where
    by_test : (b : Bool) → same_text k x.key.name ≡ b → (if b then Some x else lookup_slot k ss) ≡ Some s
        → (lookup_slot k ss ≡ Some s → (has_slot k ss ≡ true) × (k ≡ s.key.name)) → ((b || has_slot k ss) ≡ true) × (k ≡ s.key.name)
    by_test true e g ih = (refl, same_text-is k x.key.name e ∙ ap (λ (y : Slot Node). y.key.name) (some-is x s g))
    by_test false e g ih = ih g

pub not-there : (k : Text) (ss : List (Slot Node)) → lookup_slot k ss ≡ None → has_slot k ss ≡ false
not-there k [] h = refl
not-there k (x ∷ ss) h = by_test (same_text k x.key.name) h (not-there k ss)
  where
    by_test : (b : Bool) → (if b then Some x else lookup_slot k ss) ≡ None → (lookup_slot k ss ≡ None → has_slot k ss ≡ false)
        → (b || has_slot k ss) ≡ false
    by_test true g ih = absurd cc
    by_test false g ih = ih g

put-there : (f : Slot Node → Slot Node) (s : Slot Node) (ss : List (Slot Node)) → has_slot s.key.name ss ≡ true → put f s ss
    ≡ changed s.key.name f ss
put-there f s ss h = if-true (has_slot s.key.name ss) (changed s.key.name f ss) (ss ++ one s) h

put-new : (f : Slot Node → Slot Node) (s : Slot Node) (ss : List (Slot Node)) → has_slot s.key.name ss ≡ false → put f s ss ≡ ss ++ one s
put-new f s ss h = if-false (has_slot s.key.name ss) (changed s.key.name f ss) (ss ++ one s) h

pub write-last : (k : Key) (m n : Node) (ss : List (Slot Node)) → has_slot k.name ss ≡ false
    → changed k.name (with_item n) (ss ++ one (keyed k m)) ≡ ss ++ one (keyed k n)
write-last k m n [] h = ap one (if-true (same_text k.name k.name) (keyed k n) (keyed k m) (same_text-refl k.name))
write-last k m n (x ∷ ss) h = by_test (same_text k.name x.key.name) h (write-last k m n ss)
  where
    by_test : (b : Bool) → (b || has_slot k.name ss) ≡ false
        → (has_slot k.name ss ≡ false → changed k.name (with_item n) (ss ++ one (keyed k m)) ≡ ss ++ one (keyed k n))
        → (if b then with_item n x else x) ∷ changed k.name (with_item n) (ss ++ one (keyed k m)) ≡ x ∷ (ss ++ one (keyed k n))
    by_test true g ih = absurd cc
    by_test false g ih = ap (λ z. x ∷ z) (ih g)

nothing-put : (k : Text) (ss : List (Slot Node)) → changed k (λ s. s) ss ≡ ss
nothing-put k [] = refl
nothing-put k (x ∷ ss) = by_test (same_text k x.key.name) ∙ ap (λ z. x ∷ z) (nothing-put k ss)
  where
    by_test : (b : Bool) → (if b then x else x) ∷ changed k (λ s. s) ss ≡ x ∷ changed k (λ s. s) ss
    by_test true = refl
    by_test false = refl

pub place-there : (k : Text) (ss : List (Slot Node)) → has_slot k ss ≡ true → with_place k ss ≡ ss
place-there k ss h = put-there (λ s. s) (keyed (new_key k) nothing) ss h ∙ nothing-put k ss

pub place-new : (k : Text) (ss : List (Slot Node)) → has_slot k ss ≡ false → with_place k ss ≡ ss ++ one (keyed (new_key k) nothing)
place-new k ss h = put-new (λ s. s) (keyed (new_key k) nothing) ss h

pub calls_on_present : CallsOnPresent
calls_on_present k l old n ss h =
    let e = there k.name ss (keyed l old) h in
    record {
      name = e.1;
      insert = put-there (λ s. keyed (reset_key s.key) n) (keyed (new_key k.name) n) ss e.0;
      insert_formatted = put-there (λ s. keyed k n) (keyed k n) ss e.0;
      entry = put-there (with_item n) (keyed k n) ss e.0;
      or_insert = put-there (λ s. s) (keyed k n) ss e.0 ∙ nothing-put k.name ss;
      indexed = ap (changed k.name (with_item n)) (place-there k.name ss e.0);
    }

pub calls_on_absent : CallsOnAbsent
calls_on_absent k n ss h =
    let e = not-there k.name ss h in
    record {
      insert = put-new (λ s. keyed (reset_key s.key) n) (keyed (new_key k.name) n) ss e;
      insert_formatted = put-new (λ s. keyed k n) (keyed k n) ss e;
      entry = put-new (with_item n) (keyed k n) ss e;
      or_insert = put-new (λ s. s) (keyed k n) ss e;
      indexed = ap (changed k.name (with_item n)) (place-new k.name ss e) ∙ write-last (new_key k.name) nothing n ss e;
    }

pub index_writes : IndexWrites
index_writes k n f ss = ap (λ es. Some (table f (slots_from (changed k (with_item n) es)))) (slot_list-from (with_place k (slot_list ss)))
