-- What the `retain` of slots leaves.
use Rattle.std.proofs.Common.{◌≡◌, false, MatchBool, rules, subst}
use Rattle.toml_edit_model.specs.Tree.{is_value_node}
use Rattle.toml_edit_tree.specs.ElementClosures.{KeepsOnly}
use Rattle.toml_edit_tree.specs.InlineParts.{SaysOfNamed, SaysOfPair}
use Rattle.toml_edit_tree.specs.View.{item_view}
use Rattle.toml_edit_tree.proofs.InlineLaws.{retains-valued}
use Rattle.toml_edit_tree.proofs.SlotsLaws.{retains-shown}
use Rattle.toml_edit_tree.proofs.inline_table.retain_values.Goals as goal

pub returns : goal.returns
returns g c =
    retains-valued (SaysOfPair g.F.Fn c.args.keep) _ _
    (retains-shown _ (λ s b. MatchBool (is_value_node s.item) (SaysOfPair g.F.Fn c.args.keep s b) (b ≡ false))
    (λ s b k. subst (λ t. KeepsOnly is_value_node (SaysOfNamed g.F.Fn c.args.keep t) (item_view s.item) b) k.shows.0
    (subst (λ x. KeepsOnly is_value_node (SaysOfNamed g.F.Fn c.args.keep k.first.now) (item_view x) b) k.shows.1 (search rules)))
    c.args.slots.now c.retain.new.self c.retain.ensures)
