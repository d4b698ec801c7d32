-- What is found in slots: a value, and the item of a key that is no placeholder.
use Rattle.std.proofs.Common.{◌≡◌, ℕ, Bool, false, List, [], Option, Some, None, is_some, option_and_then, option_map}
use Rattle.std.proofs.Common.{slice_get, refl, sym, ap, ◌∙◌}
use Rattle.std.proofs.lemmas.Option.{slice_get-map}
use Rattle.std.specs.Borrow.{Bor}
use Rattle.std.specs.Option.{option_map_or}
use Rattle.toml_edit_laws.proofs.slots.Places.{changed-at, changed-none, none_at}
use Rattle.toml_edit_laws.proofs.slots.Those.{passing, found-those, has_slot-found}
use Rattle.toml_edit_model.specs.Keys.{new_key}
use Rattle.toml_edit_model.specs.Lists.{is_item}
use Rattle.toml_edit_model.specs.Slots as model
use Rattle.toml_edit_model.specs.TableCalls.{get_slot, contains_value}
use Rattle.toml_edit_model.specs.Text.{Text}
use Rattle.toml_edit_model.specs.Tree.{Key, Node, nothing, leaf, list, inline, table, tables, is_value_node}
use Rattle.toml_edit_slots.specs.Seen.{pair_read, seen}
use Rattle.toml_edit_slots.specs.declared.slots.Slot.{Slot}
use Rattle.toml_edit_slots.specs.Slots.{lookup_slot, place, with_item}
use Rattle.toml_edit_table_like.specs.Shown.{shown}
use Rattle.toml_edit_table_like.proofs.ShownLaws.{lookup_slot-of, place-shown, set-shown, shown-seen}
use Rattle.toml_edit_tree.specs.SlotsOf.{slot_read}
use Rattle.toml_edit_tree.specs.View.{item_view}
use Rattle.toml_edit_tree.specs.declared.item.Item.{Item}

-- ---- a value is held where the slot that is no placeholder holds one

abbrev pub holds_value : Option (model.Slot Node) → Bool
holds_value None = false
holds_value (Some s) = is_value_node s.item

value-item : (k : Text) (s : model.Slot Node) (n : Node) → s.item ≡ n → holds_value (passing is_item k s)
    ≡ is_some (passing is_value_node k s)
value-item k s nothing e = rw e refl
value-item k s (leaf scalar spelling d) e = rw e refl
value-item k s (list f xs) e = rw e refl
value-item k s (inline f ss) e = rw e refl
value-item k s (table f ss) e = rw e refl
value-item k s (tables d xs) e = rw e refl

value-slot : (k : Text) (o : Option (model.Slot Node)) → holds_value (option_and_then (passing is_item k) o)
    ≡ is_some (option_and_then (passing is_value_node k) o)
value-slot k None = refl
value-slot k (Some s) = value-item k s s.item refl

pub value-filled : (k : Text) (es : List (model.Slot Node)) (o : Option (model.Slot Node)) → model.AreApart es → o ≡ get_slot k es
    → contains_value k es ≡ holds_value o
value-filled k es o apart is =
    has_slot-found k (model.those is_value_node es) ∙ ap is_some (found-those is_value_node k es apart)
    ∙ sym (ap holds_value (is ∙ found-those is_item k es apart) ∙ value-slot k (model.lookup_slot k es))

-- ---- the item of a key that is no placeholder

no_seen : model.Slot Node
no_seen = record { key = new_key []; item = nothing }

module _ (k : Text) (w : Item) (es : List (Slot Item)) (apart : model.AreApart (shown es)) where
  written : (o : Option ℕ) → place k es ≡ o → shown (option_map_or (λ at. with_item at w es) o es)
      ≡ model.changed k (model.with_item (item_view w)) (shown es)
  written None e = sym (changed-none k (model.with_item (item_view w)) (shown es) (none_at k (shown es) (place-shown k es ∙ e)))
  written (Some i) e =
      set-shown es i no_seen w ∙ sym (changed-at k (model.with_item (item_view w)) (shown es) i no_seen apart (place-shown k es ∙ e))

  -- the slots with another item in the slot of the key
  pub item-written : shown (option_map_or (λ at. with_item at w es) (place k es) es)
      ≡ model.changed k (model.with_item (item_view w)) (shown es)
  item-written = written (place k es) refl

-- ---- a slot behind two references

read : (o : Option (Bor Key × Bor Item)) → option_map slot_read o ≡ option_map (model.on_item item_view) (option_map pair_read o)
read None = refl
read (Some p) = refl

pub slot-read : (es : List (Slot Item)) (i : ℕ) (o : Option (Bor Key × Bor Item)) → option_map pair_read o ≡ slice_get (seen es) i
    → option_map slot_read o ≡ slice_get (shown es) i
slot-read es i o is =
    read o ∙ ap (option_map (model.on_item item_view)) is
    ∙ sym (ap (λ l. slice_get l i) (shown-seen es) ∙ slice_get-map (model.on_item item_view) (seen es) i)

pub key-read : (k : Text) (es : List (Slot Item)) (o : Option (Bor Key × Bor Item)) → option_map pair_read o ≡ model.lookup_slot k (seen es)
    → option_map (λ p. p.0.now) o ≡ model.lookup_key k (shown es)
key-read k es o is = part o ∙ ap (λ f. option_map (λ (s : model.Slot Node). s.key) (option_map (model.on_item item_view) f)) is
    ∙ sym (ap (option_map (λ (s : model.Slot Node). s.key)) (lookup_slot-of k es))
  where
    part : (o : Option (Bor Key × Bor Item)) → option_map (λ p. p.0.now) o
        ≡ option_map (λ (s : model.Slot Node). s.key) (option_map (model.on_item item_view) (option_map pair_read o))
    part None = refl
    part (Some p) = refl
