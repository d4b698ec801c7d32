-- The slot that is found, or why there is none.
use Rattle.std.proofs.Common.{◌≡◌, ◌∙◌, ap, sym, inr, rules, Some, None}
use Rattle.std.specs.Prelude.{option_map}
use Rattle.toml_edit_model.specs.Keys.{names}
use Rattle.toml_edit_model.specs.Slots.{keyed, lookup_slot, on_item}
use Rattle.toml_edit_model.specs.Tree.{nothing}
use Rattle.toml_edit_slots.specs.Seen.{seen}
use Rattle.toml_edit_tree.specs.Indexed.{shown_slots}
use Rattle.toml_edit_tree.specs.View.{item_view}
use Rattle.toml_edit.specs.DocumentView.{tree_owned}
use Rattle.toml_edit_edits.proofs.MoveLaws.{absent-held, empty-held, filled-held, slot-is, slot-missing}
use Rattle.toml_edit_edits.proofs.ViewedSlots.{shown-seen, viewed-found}
use Rattle.toml_edit_edits.proofs.moves.slot_at.Goals as goal
use Rattle.toml_edit_edits.proofs.moves.slot_at.Goals.{in_default-get_key_value-via-in-Some-get_key_value+else-not-is_none, in_default-get_key_value-via-in_default-get_key_value}

pub returns-in_ok-carried-in-Some-get_key_value : goal.returns-in_ok-carried-in-Some-get_key_value
returns-in_ok-carried-in-Some-get_key_value c =
    let t = tree_owned c.args.document.now in
    let k = c.args.key.now in
    let es = c.in-Some-as_slots.slots.now in
    let x = c.in-Some-get_key_value.item.now in
    let found = keyed c.in-Some-get_key_value.key.now (item_view x) in
    let there : lookup_slot k (shown_slots es) ≡ Some found =
    ap (lookup_slot k) (shown-seen es) ∙ viewed-found item_view k (seen es)
    ∙ ap (option_map (on_item item_view)) (sym c.in-Some-get_key_value.ensures.slot) in
    let full : item_view x ≡ nothing → ⊥ = search rules in (
      found,
      slot-is (names c.args.path.now) k t (item_view c.in-Some.item.now) (shown_slots es) found (sym c.in-Some.ensures)
          (sym c.in-Some-as_slots.ensures) (filled-held k (shown_slots es) found there full),
      c.in_ok-carried-in-Some-get_key_value.ensures,
    )

pub returns-in_default-get_key_value : goal.returns-in_default-get_key_value
returns-in_default-get_key_value c =
    let t = tree_owned c.args.document.now in
    let k = c.args.key.now in
    let es = c.in-Some-as_slots.slots.now in
    elim c.in_default-get_key_value.branch [
      | in_default-get_key_value-via-in-Some-get_key_value+else-not-is_none w ↦
          let x = w.in-Some-get_key_value.item.now in
          let found = keyed w.in-Some-get_key_value.key.now (item_view x) in
          let there : lookup_slot k (shown_slots es) ≡ Some found =
          ap (lookup_slot k) (shown-seen es) ∙ viewed-found item_view k (seen es)
          ∙ ap (option_map (on_item item_view)) (sym w.in-Some-get_key_value.ensures.slot) in
          let empty : item_view x ≡ nothing = search rules in
          inr (slot-missing (names c.args.path.now) k t (item_view c.in-Some.item.now) (shown_slots es) (sym c.in-Some.ensures)
          (sym c.in-Some-as_slots.ensures) (empty-held k (shown_slots es) found there empty))
      | in_default-get_key_value-via-in_default-get_key_value w ↦
          let there : lookup_slot k (shown_slots es) ≡ None =
          ap (lookup_slot k) (shown-seen es) ∙ viewed-found item_view k (seen es)
          ∙ ap (option_map (on_item item_view)) (sym w.in_default-get_key_value.ensures.slot) in
          inr (slot-missing (names c.args.path.now) k t (item_view c.in-Some.item.now) (shown_slots es) (sym c.in-Some.ensures)
          (sym c.in-Some-as_slots.ensures) (absent-held k (shown_slots es) there))
    ]
