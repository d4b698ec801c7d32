-- The last two bytes tell.
use Rattle.std.proofs.Common.{◌-◌, length, get_or, ap, ◌∙◌}
use Rattle.toml_edit.specs.Tails.{tail_step}
use Rattle.toml_edit.proofs.TailLaws.{last-two}
use Rattle.toml_edit.proofs.tail.tail_after.Goals as goal

pub returns-then-count-ge2 : goal.returns-then-count-ge2
returns-then-count-ge2 c =
    let last = get_or c.args.bytes.now (length c.args.bytes.now - 1) 0 in
    c.step-then-count-ge2.ensures ∙ ap (λ t. tail_step t last) c.step.ensures ∙ last-two c.args.tail c.args.bytes.now c.if-count-ge2.true
