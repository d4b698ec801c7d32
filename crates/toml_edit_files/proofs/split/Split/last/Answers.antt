-- The next option has the name, or another.
use Rattle.std.proofs.Common.{◌≤◌, ◌<◌, ◌∙◌, ap, arith, length, map, sym, None}
use Rattle.std.specs.Option.{option_copied}
use Rattle.toml_edit_files.specs.Split.{last_from, last_of, split_of}
use Rattle.toml_edit_files.proofs.SplitLaws.{last-passed, last-turn, none-of, option_of}
use Rattle.toml_edit_files.proofs.split.Split.last.Goals as goal
use Rattle.toml_edit_files.proofs.split.Split.last.Goals.{then-eq, else-eq}

pub options-init : goal.options-init
options-init c = ap (λ xs. last_from None c.args.name.now (map option_of xs)) (sym c.as_slice-option-items.ensures.value)

pub options-preserved : goal.options-preserved
options-preserved c =
    let xs = c.as_slice-option-items.result.now in let i = c.options.option-index in let name = c.args.name.now in
    let all = last_of name (split_of c.args.self.now).options in let last = option_copied c.options.last in
    let below : i < length xs = omega arith in
    elim c.if-eq.branch [
      | then-eq w ↦ rw w.last-is (last-turn all name xs i _ below last c.options.invariant (sym c.eq.ensures ∙ w.if-eq.true))
      | else-eq w ↦ rw w.last-is (last-passed all name xs i _ below last c.options.invariant (sym c.eq.ensures ∙ w.if-eq.false))
    ]

pub returns : goal.returns
returns c =
    let xs = c.as_slice-option-items.result.now in
    let past : length xs ≤ c.options.option-index = omega arith in
    sym (c.options.invariant ∙ ap (last_from (option_copied c.options.last) c.args.name.now) (none-of option_of xs c.options.option-index past))
