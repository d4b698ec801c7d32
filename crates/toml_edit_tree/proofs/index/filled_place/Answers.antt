-- The place of a key's slot, unless it is a placeholder.
use Rattle.std.proofs.Common.{◌≡◌, true, Some, None, get_or, not, option_and_then, option_map, slice_get, sym, ap, ◌∙◌}
use Rattle.std.proofs.lemmas.Option.{slice_get-get_or}
use Rattle.toml_edit_model.specs.Lists.{is_item, only}
use Rattle.toml_edit_slots.specs.declared.slots.Slot.{Slot}
use Rattle.toml_edit_slots.specs.Slots.{items_of}
use Rattle.toml_edit_tree.specs.View.{item_view}
use Rattle.toml_edit_tree.proofs.HeldLaws.{item-at}
use Rattle.toml_edit_tree.proofs.IndexedLaws.{get-found, held_in-full}
use Rattle.toml_edit_tree.proofs.TableEntryLaws.{apart-first}
use Rattle.toml_edit_tree.proofs.index.filled_place.Goals as goal
use Rattle.toml_edit_laws.proofs.slots.Those.{is_item-not}

pub returns-in_err-at : goal.returns-in_err-at
returns-in_err-at c =
    let k = c.args.key.now in
    let es = c.args.slots.now in
    record {
      held = ap (λ o. option_map item_view (option_and_then (slice_get (items_of es)) o)) c.from_residual.ensures
          ∙ sym (get-found k es None (apart-first es c.as_slice-entries.ensures.apart)
          (sym (ap (option_and_then (slice_get es)) c.in_err-at.was) ∙ c.find.ensures.slot));
      place = rw c.from_residual.ensures tt;
      within = rw c.from_residual.ensures tt;
      apart = apart-first es c.as_slice-entries.ensures.apart;
    }

pub returns-then-is_none : goal.returns-then-is_none
returns-then-is_none c =
    let k = c.args.key.now in
    let es = c.args.slots.now in
    let at = c.in_ok-at.at in
    let s = c.index-entries-at.result in
    let there : s ≡ get_or es at s = c.index-entries-at.is ∙ ap (λ l. get_or l at s) c.as_slice-entries.ensures.slots in
    let got : slice_get es at ≡ Some s = slice_get-get_or es at s c.in_ok-at.ensures.within ∙ ap Some (sym there) in
    record {
      held = sym (get-found k es (Some s) (apart-first es c.as_slice-entries.ensures.apart) (sym got
          ∙ sym (ap (option_and_then (slice_get es)) c.in_ok-at.was) ∙ c.find.ensures.slot)
          ∙ ap (λ (x : Slot _). only is_item (item_view x.item)) c.index-entries-at.is
          ∙ ap (only is_item) (c.is_none.ensures.0 c.if-is_none.true));
      place = tt;
      within = tt;
      apart = apart-first es c.as_slice-entries.ensures.apart;
    }

pub returns-else-is_none : goal.returns-else-is_none
returns-else-is_none c =
    let k = c.args.key.now in
    let es = c.args.slots.now in
    let at = c.in_ok-at.at in
    let s = c.index-entries-at.result in
    let there : s ≡ get_or es at s = c.index-entries-at.is ∙ ap (λ l. get_or l at s) c.as_slice-entries.ensures.slots in
    let got : slice_get es at ≡ Some s = slice_get-get_or es at s c.in_ok-at.ensures.within ∙ ap Some (sym there) in
    let full : is_item (item_view s.item) ≡ true =
    ap (λ (x : Slot _). is_item (item_view x.item)) c.index-entries-at.is ∙ sym (is_item-not _ _ c.is_none.ensures)
    ∙ ap not c.if-is_none.false in
    record {
      held = ap (option_map item_view) (item-at es at s got)
          ∙ sym (get-found k es (Some s) (apart-first es c.as_slice-entries.ensures.apart) (sym got
          ∙ sym (ap (option_and_then (slice_get es)) c.in_ok-at.was) ∙ c.find.ensures.slot) ∙ held_in-full s full);
      place = sym c.find.ensures.place ∙ c.in_ok-at.was;
      within = c.in_ok-at.ensures.within;
      apart = apart-first es c.as_slice-entries.ensures.apart;
    }
