-- The first mistake up to here, and what is left, give the first of all.
use Rattle.std.proofs.Common.{◌≡◌, drop, map}
use Rattle.std.specs.Prelude.{fold}
use Rattle.toml_edit_settings.specs.Said.{earlier, first_mistake}
use Rattle.toml_edit_settings.specs.SaidView.{saying}
use Rattle.toml_edit_settings.proofs.keys.first_mistake.Given as goal

abbrev pub invariant-said : goal.invariant-said
invariant-said l = fold earlier l.first (map saying (drop l.said-index l.all)) ≡ first_mistake (map saying l.all)
