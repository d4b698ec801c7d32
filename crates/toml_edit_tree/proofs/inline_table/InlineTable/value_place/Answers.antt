-- The place of a key's slot that holds a value, and the keys of an inline table, apart.
use Rattle.std.proofs.Common.{◌≡◌, Some, None, get_or, is_some, option_and_then, option_map, slice_get, sym, ap, subst, ◌∙◌}
use Rattle.std.proofs.lemmas.Option.{slice_get-get_or}
use Rattle.toml_edit_model.specs.Slots.{AreApart}
use Rattle.toml_edit_slots.specs.declared.slots.Slot.{Slot}
use Rattle.toml_edit_tree.specs.ElementHolds.{value_held}
use Rattle.toml_edit_tree.specs.InlineValues.{value_at}
use Rattle.toml_edit_tree.specs.View.{value_view}
use Rattle.toml_edit_tree.specs.declared.inline_table.InlineTable.{out-InlineTable}
use Rattle.toml_edit_tree.proofs.HeldLaws.{item-at}
use Rattle.toml_edit_tree.proofs.InlineEntryLaws.{held-some, none-of, value-found}
use Rattle.toml_edit_tree.proofs.SlotsLaws.{inline-shown}
use Rattle.toml_edit_tree.proofs.TableEntryLaws.{apart-first}
use Rattle.toml_edit_tree.proofs.inline_table.InlineTable.value_place.Goals as goal

pub returns-in_err-at-clause-value : goal.returns-in_err-at-clause-value
returns-in_err-at-clause-value c =
    let t = c.args.self.now in
    let es = (out-InlineTable t).items in
    ap (λ o. option_map value_view (option_and_then (λ at. value_at at es) o)) c.from_residual.ensures
    ∙ sym (value-found c.args.key.now t None (apart-first es c.as_slice-entries.ensures.apart)
    (sym (ap (option_and_then (slice_get es)) c.in_err-at.was) ∙ c.find.ensures.slot))

pub returns-then-is_value-clause-value : goal.returns-then-is_value-clause-value
returns-then-is_value-clause-value c =
    let t = c.args.self.now in
    let es = (out-InlineTable t).items in
    let at = c.in_ok-at.at in
    let s = c.index-entries-at.result in
    let there : s ≡ get_or es at s = c.index-entries-at.is ∙ ap (λ l. get_or l at s) c.as_slice-entries.ensures.slots in
    let got : slice_get es at ≡ Some s = slice_get-get_or es at s c.in_ok-at.ensures.within ∙ ap Some (sym there) in
    ap (λ o. option_map value_view (option_and_then value_held o)) (item-at es at s got)
    ∙ sym (value-found c.args.key.now t (Some s) (apart-first es c.as_slice-entries.ensures.apart) (sym got
    ∙ sym (ap (option_and_then (slice_get es)) c.in_ok-at.was) ∙ c.find.ensures.slot))

pub returns-then-is_value-clause-held : goal.returns-then-is_value-clause-held
returns-then-is_value-clause-held c =
    let es = (out-InlineTable c.args.self.now).items in
    let at = c.in_ok-at.at in
    let s = c.index-entries-at.result in
    let there : s ≡ get_or es at s = c.index-entries-at.is ∙ ap (λ l. get_or l at s) c.as_slice-entries.ensures.slots in
    let got : slice_get es at ≡ Some s = slice_get-get_or es at s c.in_ok-at.ensures.within ∙ ap Some (sym there) in
    ap (λ o. is_some (option_and_then value_held o)) (item-at es at s got)
    ∙ ap (λ (x : Slot _). is_some (value_held x.item)) c.index-entries-at.is ∙ held-some _ ∙ sym c.is_value.ensures ∙ c.if-is_value.true

pub returns-else-is_value-clause-value : goal.returns-else-is_value-clause-value
returns-else-is_value-clause-value c =
    let t = c.args.self.now in
    let es = (out-InlineTable t).items in
    let at = c.in_ok-at.at in
    let s = c.index-entries-at.result in
    let there : s ≡ get_or es at s = c.index-entries-at.is ∙ ap (λ l. get_or l at s) c.as_slice-entries.ensures.slots in
    let got : slice_get es at ≡ Some s = slice_get-get_or es at s c.in_ok-at.ensures.within ∙ ap Some (sym there) in
    none-of value_view (value_held s.item) (ap (λ (x : Slot _). is_some (value_held x.item)) c.index-entries-at.is ∙ held-some _
    ∙ sym c.is_value.ensures ∙ c.if-is_value.false)
    ∙ sym (value-found c.args.key.now t (Some s) (apart-first es c.as_slice-entries.ensures.apart) (sym got
    ∙ sym (ap (option_and_then (slice_get es)) c.in_ok-at.was) ∙ c.find.ensures.slot))

pub returns-in_err-at-clause-apart : goal.returns-in_err-at-clause-apart
returns-in_err-at-clause-apart c =
    let t = c.args.self.now in
    subst AreApart (sym (inline-shown t)) (apart-first (out-InlineTable t).items c.as_slice-entries.ensures.apart)

pub returns-then-is_value-clause-apart : goal.returns-then-is_value-clause-apart
returns-then-is_value-clause-apart c =
    let t = c.args.self.now in
    subst AreApart (sym (inline-shown t)) (apart-first (out-InlineTable t).items c.as_slice-entries.ensures.apart)

pub returns-else-is_value-clause-apart : goal.returns-else-is_value-clause-apart
returns-else-is_value-clause-apart c =
    let t = c.args.self.now in
    subst AreApart (sym (inline-shown t)) (apart-first (out-InlineTable t).items c.as_slice-entries.ensures.apart)
