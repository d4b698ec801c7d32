-- The key of a slot.
use Rattle.std.proofs.Common.{◌≡◌, Some, get_or, option_and_then, option_map, slice_get, sym, ap, ◌∙◌}
use Rattle.std.proofs.lemmas.Option.{slice_get-get_or}
use Rattle.std.specs.Option.{option_copied}
use Rattle.toml_edit_model.specs.Slots.{lookup_key}
use Rattle.toml_edit_slots.specs.declared.slots.Slot.{Slot}
use Rattle.toml_edit_tree.specs.declared.inline_table.InlineTable.{out-InlineTable}
use Rattle.toml_edit_tree.proofs.SlotsLaws.{inline-shown, lookup_key-shown}
use Rattle.toml_edit_tree.proofs.inline_table.InlineTable.key.Goals as goal

pub returns-in_err-at : goal.returns-in_err-at
returns-in_err-at c =
    let es = (out-InlineTable c.args.self.now).items in
    ap option_copied c.from_residual.ensures
    ∙ sym (ap (lookup_key c.args.key.now) (inline-shown c.args.self.now) ∙ lookup_key-shown c.args.key.now es
    ∙ ap (option_map (λ (s : Slot _). s.key)) (sym c.find.ensures.slot ∙ ap (option_and_then (slice_get es)) c.in_err-at.was))

pub returns : goal.returns
returns c =
    let es = (out-InlineTable c.args.self.now).items in
    let at = c.in_ok-at.at in
    let s = c.index-as_slice-at.result in
    let there : s ≡ get_or es at s = c.index-as_slice-at.is ∙ ap (λ l. get_or l at s) c.as_slice.ensures.slots in
    sym (ap (lookup_key c.args.key.now) (inline-shown c.args.self.now) ∙ lookup_key-shown c.args.key.now es
    ∙ ap (option_map (λ (x : Slot _). x.key)) (sym c.find.ensures.slot ∙ ap (option_and_then (slice_get es)) c.in_ok-at.was
    ∙ slice_get-get_or es at s c.in_ok-at.ensures.within)
    ∙ ap (λ (x : Slot _). Some x.key) (sym there ∙ c.index-as_slice-at.is))
