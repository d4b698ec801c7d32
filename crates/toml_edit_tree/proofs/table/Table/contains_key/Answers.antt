-- An item that is no placeholder.
use Rattle.std.proofs.Common.{sym, ◌∙◌}
use Rattle.toml_edit_model.specs.Iterating.{filled}
use Rattle.toml_edit_model.specs.Lists.{is_item}
use Rattle.toml_edit_tree.specs.SlotsOf.{slots_of}
use Rattle.toml_edit_tree.proofs.SlotsLaws.{has-lookup}
use Rattle.toml_edit_tree.proofs.table.Table.contains_key.Goals as goal
use Rattle.toml_edit_laws.proofs.slots.Those.{is_item-not}

pub returns-in-Some : goal.returns-in-Some
returns-in-Some c =
    let found = is_item-not c.is_none.result _ c.is_none.ensures ∙ c.in-Some.ensures is_item in
    record { found = found; there = λ yes. has-lookup c.args.key.now (filled (slots_of c.args.self.now)) ∙ sym found ∙ yes }

pub returns-in-None : goal.returns-in-None
returns-in-None c =
    let found = c.in-None.ensures is_item in
    record { found = found; there = λ yes. has-lookup c.args.key.now (filled (slots_of c.args.self.now)) ∙ sym found ∙ yes }
