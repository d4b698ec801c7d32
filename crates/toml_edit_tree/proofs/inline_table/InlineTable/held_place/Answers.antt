-- The place of a key's slot, unless it is a placeholder.
use Rattle.std.proofs.Common.{◌≡◌, true, Some, None, get_or, not, option_and_then, option_map, slice_get, sym, ap, ◌∙◌}
use Rattle.std.proofs.lemmas.Option.{slice_get-get_or}
use Rattle.toml_edit_model.specs.Lists.{is_item, only}
use Rattle.toml_edit_model.specs.TableCalls.{get}
use Rattle.toml_edit_slots.specs.declared.slots.Slot.{Slot}
use Rattle.toml_edit_slots.specs.Slots.{items_of}
use Rattle.toml_edit_tree.specs.View.{item_view}
use Rattle.toml_edit_tree.specs.declared.inline_table.InlineTable.{out-InlineTable}
use Rattle.toml_edit_tree.proofs.HeldLaws.{item-at}
use Rattle.toml_edit_tree.proofs.IndexedLaws.{get-found, held_in-full}
use Rattle.toml_edit_tree.proofs.SlotsLaws.{inline-shown}
use Rattle.toml_edit_tree.proofs.TableEntryLaws.{apart-first}
use Rattle.toml_edit_tree.proofs.inline_table.InlineTable.held_place.Goals as goal
use Rattle.toml_edit_laws.proofs.slots.Those.{is_item-not}

pub returns-in_err-at-clause-held : goal.returns-in_err-at-clause-held
returns-in_err-at-clause-held c =
    let k = c.args.key.now in
    let t = c.args.self.now in
    let es = (out-InlineTable t).items in
    ap (λ o. option_map item_view (option_and_then (slice_get (items_of es)) o)) c.from_residual.ensures
    ∙ sym (ap (get k) (inline-shown t) ∙ get-found k es None (apart-first es c.as_slice-entries.ensures.apart)
    (sym (ap (option_and_then (slice_get es)) c.in_err-at.was) ∙ c.find.ensures.slot))

pub returns-then-is_none-clause-held : goal.returns-then-is_none-clause-held
returns-then-is_none-clause-held c =
    let k = c.args.key.now in
    let t = c.args.self.now in
    let es = (out-InlineTable t).items in
    let at = c.in_ok-at.at in
    let s = c.index-entries-at.result in
    let there : s ≡ get_or es at s = c.index-entries-at.is ∙ ap (λ l. get_or l at s) c.as_slice-entries.ensures.slots in
    let got : slice_get es at ≡ Some s = slice_get-get_or es at s c.in_ok-at.ensures.within ∙ ap Some (sym there) in
    sym (ap (get k) (inline-shown t) ∙ get-found k es (Some s) (apart-first es c.as_slice-entries.ensures.apart) (sym got
    ∙ sym (ap (option_and_then (slice_get es)) c.in_ok-at.was) ∙ c.find.ensures.slot)
    ∙ ap (λ (x : Slot _). only is_item (item_view x.item)) c.index-entries-at.is
    ∙ ap (only is_item) (c.is_none.ensures.0 c.if-is_none.true))

pub returns-else-is_none-clause-held : goal.returns-else-is_none-clause-held
returns-else-is_none-clause-held c =
    let k = c.args.key.now in
    let t = c.args.self.now in
    let es = (out-InlineTable t).items in
    let at = c.in_ok-at.at in
    let s = c.index-entries-at.result in
    let there : s ≡ get_or es at s = c.index-entries-at.is ∙ ap (λ l. get_or l at s) c.as_slice-entries.ensures.slots in
    let got : slice_get es at ≡ Some s = slice_get-get_or es at s c.in_ok-at.ensures.within ∙ ap Some (sym there) in
    let full : is_item (item_view s.item) ≡ true =
    ap (λ (x : Slot _). is_item (item_view x.item)) c.index-entries-at.is ∙ sym (is_item-not _ _ c.is_none.ensures)
    ∙ ap not c.if-is_none.false in
    ap (option_map item_view) (item-at es at s got)
    ∙ sym (ap (get k) (inline-shown t) ∙ get-found k es (Some s) (apart-first es c.as_slice-entries.ensures.apart) (sym got
    ∙ sym (ap (option_and_then (slice_get es)) c.in_ok-at.was) ∙ c.find.ensures.slot)
    ∙ held_in-full s full)
