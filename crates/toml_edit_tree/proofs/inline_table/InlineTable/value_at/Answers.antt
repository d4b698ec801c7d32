-- The value at a place.
use Rattle.std.proofs.Common.{◌≡◌, Some, get_or, option_and_then, slice_get, sym, ap, ◌∙◌}
use Rattle.std.proofs.lemmas.Option.{slice_get-get_or}
use Rattle.toml_edit_slots.specs.declared.slots.Slot.{Slot}
use Rattle.toml_edit_tree.specs.ElementHolds.{value_held}
use Rattle.toml_edit_tree.specs.InlineValues.{held-Value}
use Rattle.toml_edit_tree.specs.declared.inline_table.InlineTable.{out-InlineTable}
use Rattle.toml_edit_tree.proofs.HeldLaws.{item-at}
use Rattle.toml_edit_tree.proofs.InlineEntryLaws.{low}
use Rattle.toml_edit_tree.proofs.inline_table.InlineTable.value_at.Goals as goal

pub returns : goal.returns
returns c =
    let es = (out-InlineTable c.args.self.now).items in
    let at = c.args.at in
    let s = c.index-as_slice-at.result in
    let there : s ≡ get_or es at s = c.index-as_slice-at.is ∙ ap (λ l. get_or l at s) c.as_slice.ensures.slots in
    let got : slice_get es at ≡ Some s = slice_get-get_or es at s (low es at c.requires) ∙ ap Some (sym there) in
    sym (ap (option_and_then value_held) (item-at es at s got) ∙ ap (λ (x : Slot _). value_held x.item) c.index-as_slice-at.is
    ∙ ap value_held c.in-Value.is ∙ held-Value c.in-Value.value)
