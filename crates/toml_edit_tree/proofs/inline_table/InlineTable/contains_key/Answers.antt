-- Whether a value stands under a key.
use Rattle.std.proofs.Common.{is_some, ap, sym, ◌∙◌}
use Rattle.toml_edit_model.specs.Iterating.{valued}
use Rattle.toml_edit_tree.specs.SlotsOf.{inline_slots_of}
use Rattle.toml_edit_tree.specs.View.{value_view}
use Rattle.toml_edit_tree.proofs.InlineEntryLaws.{is_some-map}
use Rattle.toml_edit_tree.proofs.SlotsLaws.{has-lookup}
use Rattle.toml_edit_tree.proofs.inline_table.InlineTable.contains_key.Goals as goal

pub returns : goal.returns
returns c =
    let got = c.is_some.ensures ∙ sym (is_some-map (λ v. value_view v.now) c.get.result) ∙ ap is_some c.get.ensures in
    record { found = got ∙ has-lookup c.args.key.now (valued (inline_slots_of c.args.self.now)); there = λ yes. sym got ∙ yes }
