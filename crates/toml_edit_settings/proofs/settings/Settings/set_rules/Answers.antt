-- One more is set.
use Rattle.std.proofs.Common.{◌∙◌, ap, arith, get_or}
use Rattle.toml_edit_fmt.specs.RulesView.{rules_of}
use Rattle.toml_edit_settings.specs.Said.{set_where}
use Rattle.toml_edit_settings.specs.SaidView.{saying}
use Rattle.toml_edit_settings.proofs.SaidLaws.{fold_turn}
use Rattle.toml_edit_settings.proofs.settings.Settings.set_rules.Goals as goal

pub said-preserved : goal.said-preserved
said-preserved c =
    fold_turn (set_where c.args.path.now) saying c.args.self.now.said.items c.said.said-index c.said-item.result (omega arith) (c.said-item.is ∙ ap (λ xs. get_or xs c.said.said-index c.said-item.result) c.deref-said-items.ensures.value) (rules_of c.said.next) _ _ c.in_ok-set_where.ensures c.said.invariant
