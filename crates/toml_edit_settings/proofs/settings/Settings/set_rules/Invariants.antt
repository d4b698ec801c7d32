-- The rules up to here, and what is left, give those in the end.
use Rattle.std.proofs.Common.{◌≡◌, drop, map}
use Rattle.std.specs.Prelude.{fold}
use Rattle.toml_edit_fmt.specs.RulesView.{rules_of}
use Rattle.toml_edit_settings.specs.Said.{rules_at, set_where}
use Rattle.toml_edit_settings.specs.SaidView.{saying}
use Rattle.toml_edit_settings.specs.SettingsView.{said_by}
use Rattle.toml_edit_settings.proofs.settings.Settings.set_rules.Given as goal

abbrev pub invariant-said : goal.invariant-said
invariant-said l =
    fold (set_where l.path) (rules_of l.next) (map saying (drop l.said-index l.self.said.items)) ≡ rules_at (said_by l.self) l.path (rules_of l.fn.rules)
