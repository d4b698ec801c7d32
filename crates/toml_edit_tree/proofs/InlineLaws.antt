-- What an inline table has once its slots changed.
use Rattle.std.proofs.Common.{◌≡◌, Bool, true, false, MatchBool, cond, List, [], ◌∷◌, ◌++◌, map, refl, sym, ap, subst, ◌∙◌, rules}
use Rattle.toml_edit_model.specs.Conversions.{formatted}
use Rattle.toml_edit_model.specs.Iterating.{valued}
use Rattle.toml_edit_model.specs.Lists.{slot_list}
use Rattle.toml_edit_model.specs.Retaining.{RetainsBy}
use Rattle.toml_edit_model.specs.Slots as model
use Rattle.toml_edit_model.specs.Tree.{Key, Node, is_value_node}
use Rattle.toml_edit_laws.proofs.slots.Lists.{slot_list-from}
use Rattle.toml_edit_slots.specs.declared.slots.Slot.{Slot}
use Rattle.toml_edit_tree.specs.Converting.{formatted_slots}
use Rattle.toml_edit_tree.specs.InlineSlots.{inline_fields, value_taken}
use Rattle.toml_edit_tree.specs.declared.inline_table.InlineTable.{InlineTable, out-InlineTable}
use Rattle.toml_edit_tree.specs.declared.item.Item.{Item, the_lemmas}
use Rattle.toml_edit_tree.specs.declared.item.Item.TheViews.{roll-InlineTable}
use Rattle.toml_edit_tree.specs.declared.value.Value.{Value}
use Rattle.toml_edit_tree.specs.View.{slots_view, value_view}
use Rattle.toml_edit_tree.specs.Indexed.{shown_slots}

-- other slots, and the fields that it had
pub made_inline_fields : (t : InlineTable) (es : List (Slot Item))
    → inline_fields (roll-InlineTable (record (out-InlineTable t) { items = es })) ≡ inline_fields t
made_inline_fields t es = search (rules, the_lemmas)

pub formatted-shown : (es fs : List (Slot Item)) → slots_view fs ≡ formatted_slots (slots_view es) → shown_slots fs
    ≡ formatted (shown_slots es)
formatted-shown es fs e = ap slot_list e ∙ slot_list-from (formatted (shown_slots es))

-- ---- extend

pub extended_last : (es : List (model.Slot Node)) (ps : List (Key × Value)) (p : Key × Value)
    → model.extended (map value_taken (ps ++ p ∷ [])) es
    ≡ model.put (model.with_item (value_view p.1)) (value_taken p) (model.extended (map value_taken ps) es)
extended_last es [] p = refl
extended_last es (q ∷ ps) p = extended_last (model.put (model.with_item (value_view q.1)) (value_taken q) es) ps p

-- ---- retain

-- where a slot without a value is never kept, the closure decides of the others
retains-one : (says : model.Slot Node → Bool → Type 0) (b : Bool) (s : model.Slot Node) (keeps : Bool)
    (rest passed after : List (model.Slot Node))
    → MatchBool b (says s keeps) (keeps ≡ false) → RetainsBy says passed rest → after ≡ cond keeps (s ∷ rest) rest
    → RetainsBy says (cond b (s ∷ passed) passed) after
retains-one says true s keeps rest passed after m r e = (keeps, rest, m, r, e)
retains-one says false s keeps rest passed after m r e = subst (RetainsBy says passed) (sym (e ∙ ap (λ b. cond b (s ∷ rest) rest) m)) r

pub retains-valued : (says : model.Slot Node → Bool → Type 0) (before after : List (model.Slot Node))
    → RetainsBy (λ s b. MatchBool (is_value_node s.item) (says s b) (b ≡ false)) before after → RetainsBy says (valued before) after
retains-valued says [] after r = r
retains-valued says (s ∷ before) after r =
    retains-one says (is_value_node s.item) s r.0 r.1 (valued before) after r.2 (retains-valued says before r.1 r.3) r.4
