-- The next option says how an item is written, or does not.
use Rattle.std.proofs.Common.{◌≤◌, ◌<◌, ◌∙◌, ap, arith, length, map, sym}
use Rattle.toml_edit_files.specs.Requests.{shape_in}
use Rattle.toml_edit_files.specs.Split.{split_of}
use Rattle.toml_edit_items.specs.declared.shape.Shape.TheVariants.{Spelled}
use Rattle.toml_edit_files.proofs.OperandLaws.{lines-turn, raw-turn, shape-passed}
use Rattle.toml_edit_files.proofs.SplitLaws.{none-of, option_of}
use Rattle.toml_edit_files.proofs.request.shape_of.Goals as goal
use Rattle.toml_edit_files.proofs.request.shape_of.Goals.{then-eq, else-eq+then-eq-2, else-eq+else-eq-2}

pub options-init : goal.options-init
options-init c = ap (λ xs. shape_in Spelled (map option_of xs)) (sym c.as_slice-option-items.ensures.value)

pub options-preserved : goal.options-preserved
options-preserved c =
    let xs = c.as_slice-option-items.result.now in let i = c.options.option-index in
    let all = shape_in Spelled (split_of c.args.words.now).options in
    let below : i < length xs = omega arith in
    elim c.if-eq.branch [
      | then-eq w ↦ rw w.shape-is (raw-turn all xs i _ below c.options.shape c.options.invariant (sym c.eq.ensures ∙ w.if-eq.true))
      | else-eq+then-eq-2 w ↦
          rw w.shape-is
          (lines-turn all xs i _ below c.options.shape c.options.invariant (sym c.eq.ensures ∙ w.if-eq.false) (sym w.eq-else-eq.ensures ∙ w.if-eq-2.true))
      | else-eq+else-eq-2 w ↦
          rw w.shape-is
          (shape-passed all xs i _ below c.options.shape c.options.invariant (sym c.eq.ensures ∙ w.if-eq.false)
          (sym w.eq-else-eq.ensures ∙ w.if-eq-2.false))
    ]

pub returns : goal.returns
returns c =
    let xs = c.as_slice-option-items.result.now in
    let past : length xs ≤ c.options.option-index = omega arith in
    sym (c.options.invariant ∙ ap (shape_in c.options.shape) (none-of option_of xs c.options.option-index past))
