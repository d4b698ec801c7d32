-- So many units are there.
use Rattle.toml_edit_fmt_laws.specs.Rules.{units}
use Rattle.toml_edit_fmt.specs.PageView.{Gains}
use Rattle.toml_edit_fmt.specs.RulesView.{rules_of}
use Rattle.toml_edit_fmt.proofs.page.Page.put_indent.Given as goal

abbrev pub invariant-loop-at : goal.invariant-loop-at
invariant-loop-at l = Gains (units (rules_of l.initial.self.rules) l.at) l.initial.self l.self
