-- The first that leaves the file out answers, and one that does not is passed.
use Rattle.std.proofs.Common.{◌∙◌, ap, arith, get_or, sym}
use Rattle.toml_edit_settings.specs.Said.{leaves_out_at}
use Rattle.toml_edit_settings.specs.SaidView.{saying}
use Rattle.toml_edit_settings.proofs.SaidLaws.{any_here, any_turn}
use Rattle.toml_edit_settings.proofs.settings.Settings.excludes.Goals as goal

pub returns-then-branch : goal.returns-then-branch
returns-then-branch c =
    any_here (leaves_out_at c.args.path.now) saying c.args.self.now.said.items c.said.said-index c.said-item.result (omega arith) (c.said-item.is ∙ ap (λ xs. get_or xs c.said.said-index c.said-item.result) c.deref-said-items.ensures.value) _ (sym c.in_ok-leaves_out.ensures ∙ c.if-branch.true) c.said.invariant

pub said-preserved : goal.said-preserved
said-preserved c =
    any_turn (leaves_out_at c.args.path.now) saying c.args.self.now.said.items c.said.said-index c.said-item.result (omega arith) (c.said-item.is ∙ ap (λ xs. get_or xs c.said.said-index c.said-item.result) c.deref-said-items.ensures.value) _ (sym c.in_ok-leaves_out.ensures ∙ c.if-branch.false) c.said.invariant
