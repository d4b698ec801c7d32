-- One more unit.
use Rattle.toml_edit_fmt.proofs.PageLaws.{gains-unit}
use Rattle.toml_edit_fmt.proofs.page.Page.put_indent.Goals as goal

pub loop-at-preserved : goal.loop-at-preserved
loop-at-preserved c =
    gains-unit c.args.self.now c.loop-at.self c.put_spaces.new.self c.loop-at.at c.loop-at.invariant c.in_ok-put_spaces.ensures
