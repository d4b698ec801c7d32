-- What stands under a key.
use Rattle.std.proofs.Common.{sym, ap, ◌∙◌}
use Rattle.std.proofs.lemmas.Bool.{false≢true}
use Rattle.std.specs.Prelude.{option_map}
use Rattle.toml_edit_tree.specs.View.{item_view}
use Rattle.toml_edit_paths.proofs.SlotLaws.{absent, filled, unfilled}
use Rattle.toml_edit_paths.proofs.find.filled_item.Goals as goal

pub returns-in_err-found : goal.returns-in_err-found
returns-in_err-found c =
    ap (option_map (λ x. item_view x.now)) c.from_residual.ensures ∙ sym (absent c.args.key.now c.args.slots.now c.in_err-found.ensures)

pub returns-then-is_none : goal.returns-then-is_none
returns-then-is_none c =
    sym (unfilled c.args.key.now c.args.slots.now c.in_ok-found.found.now c.in_ok-found.ensures (c.is_none.ensures.0 c.if-is_none.true))

pub returns-else-is_none : goal.returns-else-is_none
returns-else-is_none c =
    sym (filled c.args.key.now c.args.slots.now c.in_ok-found.found.now c.in_ok-found.ensures (λ h. false≢true (c.if-is_none.ensures.1 h)))
