-- Whether a place has a value.
use Rattle.std.proofs.Common.{Some, is_some, option_and_then, slice_get, ap, sym, ◌∙◌}
use Rattle.std.proofs.lemmas.Option.{slice_get-get_or, slice_get_past}
use Rattle.toml_edit_tree.specs.ElementHolds.{value_held}
use Rattle.toml_edit_tree.proofs.InlineEntryLaws.{held-some}
use Rattle.toml_edit_tree.proofs.array.Array.holds_value.Goals as goal

pub returns-in-Some : goal.returns-in-Some
returns-in-Some c =
    let x = c.in-Some.item.now in
    let xs = c.deref.result.now in
    let there = ap Some (c.in-Some.ensures.lookup.3.1 x) ∙ sym (slice_get-get_or xs c.args.at x c.in-Some.ensures.lookup.3.0)
    ∙ ap (λ l. slice_get l c.args.at) c.deref.ensures.value in
    c.is_value.ensures ∙ sym (held-some x) ∙ ap (λ o. is_some (option_and_then value_held o)) there

pub returns-in-None : goal.returns-in-None
returns-in-None c =
    let xs = c.deref.result.now in
    let absent = sym (slice_get_past xs c.args.at c.in-None.ensures.lookup.3) ∙ ap (λ l. slice_get l c.args.at) c.deref.ensures.value in
    ap (λ o. is_some (option_and_then value_held o)) absent
