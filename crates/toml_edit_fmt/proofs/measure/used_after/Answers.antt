-- The row begins with so much, or one column is before the element.
use Rattle.std.proofs.Common.{◌≡◌, sym, ap, ◌∙◌, ◌+◌}
use Rattle.std.specs.Prelude.{if◌then◌else◌}
use Rattle.toml_edit_fmt.specs.ValueBits.{counted}
use Rattle.toml_edit_fmt.proofs.measure.used_after.Goals as goal
use Rattle.toml_edit_fmt.proofs.measure.used_after.Goals.{then-is_new, else-is_new}

pub returns : goal.returns
returns c = λ i u indent used.
    let start : c.if-is_new.start ≡ counted (if c.args.is_new then i else u + 1) = elim c.if-is_new.branch [
      | then-is_new w ↦ w.start-is ∙ indent ∙ sym (ap (λ p. counted (if p then i else u + 1)) w.if-is_new.true)
      | else-is_new w ↦ w.start-is ∙ w.plus-start.ensures u used ∙ sym (ap (λ p. counted (if p then i else u + 1)) w.if-is_new.false)
    ] in
    c.plus-2.ensures _ (c.plus.ensures _ start) ∙ ap (λ k. counted ((if c.args.is_new then i else u + 1) + k + 1)) c.columns.ensures
