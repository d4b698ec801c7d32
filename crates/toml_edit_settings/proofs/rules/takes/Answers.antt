-- What the usual rules take, all take.
use Rattle.std.proofs.lemmas.Result.{IfErr-weaker, on_ok_weaker}
use Rattle.std.specs.Prelude.{◌≡◌, Err}
use Rattle.toml_edit_fmt.specs.RulesView.{rules_of}
use Rattle.toml_edit_settings.specs.RuleWords.{IsRefusedByAll, rule_named, rule_set}
use Rattle.toml_edit_settings.proofs.RuleLaws.{refused, taken}
use Rattle.toml_edit_settings.proofs.rules.takes.Goals as goal

pub returns-clause-taken : goal.returns-clause-taken
returns-clause-taken c =
    let w = c.args.value.now in let r = rules_of c.default-rules.result in
    on_ok_weaker c.set_rule.result (λ h s. taken (rule_named c.args.name.now) w r s (rules_of c.set_rule.new.rules) h) c.set_rule.ensures.set

pub returns-clause-fault : goal.returns-clause-fault
returns-clause-fault c =
    let name = c.args.name.now in let w = c.args.value.now in let r = rules_of c.default-rules.result in
    IfErr-weaker c.set_rule.result (λ e. rule_set name w r ≡ Err e) (IsRefusedByAll name w)
    (λ e h s. refused (rule_named name) w r s e h) c.set_rule.ensures.fault
