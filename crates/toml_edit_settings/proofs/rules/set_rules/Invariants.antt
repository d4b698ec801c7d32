-- The settings to come change the rules that those before them leave.
use Rattle.std.proofs.Common.{◌≡◌, drop, map}
use Rattle.toml_edit_fmt.specs.RulesView.{rules_of}
use Rattle.toml_edit_settings.specs.RuleWords.{rules_by}
use Rattle.toml_edit_settings.proofs.rules.set_rules.Given as goal

abbrev pub invariant-settings : goal.invariant-settings
invariant-settings l =
    rules_by (map (λ s. (s.0.now, s.1.now)) l.settings) (rules_of l.initial.rules)
    ≡ rules_by (map (λ s. (s.0.now, s.1.now)) (drop l.setting-index l.settings)) (rules_of l.rules)
