-- The next option is a sort, or another.
use Rattle.std.proofs.Common.{◌≡◌, ◌≤◌, ◌<◌, ◌∙◌, List, ap, arith, length, map, subst, sym}
use Rattle.toml_edit_edits.specs.Said.{IsNoKeys}
use Rattle.toml_edit_edits.specs.declared.edit.Edit.{Edit}
use Rattle.toml_edit_files.specs.Requests.{AreSorts}
use Rattle.toml_edit_files.specs.Split.{split_of}
use Rattle.toml_edit_files.specs.Stops.{IsMistaken, reason_of}
use Rattle.toml_edit_files.proofs.OperandLaws.{all-of, sort-passed, sort-turn, sort-wrong}
use Rattle.toml_edit_files.proofs.SplitLaws.{mistaken-for, option_of}
use Rattle.toml_edit_files.proofs.StopLaws.{passed}
use Rattle.toml_edit_files.proofs.request.sorts_of.Goals as goal
use Rattle.toml_edit_files.proofs.request.sorts_of.Goals.{then-eq+in_ok-sort_path_of+in_ok-push, else-eq}

pub options-preserved : goal.options-preserved
options-preserved c =
    let xs = c.as_slice-option-items.result.now in let i = c.options.option-index in let es = c.options.sorts.items in
    let below : i < length xs = omega arith in
    elim c.if-eq.branch [
      | then-eq+in_ok-sort_path_of+in_ok-push w ↦
          rw (w.sorts-is, w.in_ok-push.ensures.items)
          (sort-turn xs i _ below es _ (sym c.eq.ensures ∙ w.if-eq.true) w.in_ok-sort_path_of.ensures.spelled c.options.invariant)
      | else-eq w ↦ rw w.sorts-is (sort-passed xs i _ below es (sym c.eq.ensures ∙ w.if-eq.false) c.options.invariant)
    ]

pub returns-clause-sorts : goal.returns-clause-sorts
returns-clause-sorts c =
    let xs = c.as_slice-option-items.result.now in let i = c.options.option-index in let past : length xs ≤ i = omega arith in
    subst (λ os. AreSorts os c.options.sorts.items) (all-of option_of xs i past ∙ ap (map option_of) c.as_slice-option-items.ensures.value)
    c.options.invariant

pub returns-in_err-sort_path_of-clause-stops : goal.returns-in_err-sort_path_of-clause-stops
returns-in_err-sort_path_of-clause-stops c =
    let xs = c.as_slice-option-items.result.now in let i = c.options.option-index in let below : i < length xs = omega arith in
    let stop = c.in_err-sort_path_of.field-0.0 in let os = (split_of c.args.words.now).options in
    passed c.from_residual.result stop (λ s. IsMistaken ((sorts : List Edit) → AreSorts os sorts → ⊥) (reason_of s)) c.from_residual.ensures.1
    (mistaken-for _ ((sorts : List Edit) → AreSorts os sorts → ⊥) (reason_of stop)
    (λ none es are. sort-wrong xs i _ below (sym c.eq.ensures ∙ c.if-eq.true) none es
    (subst (λ l. AreSorts l es) (ap (map option_of) (sym c.as_slice-option-items.ensures.value)) are))
    c.in_err-sort_path_of.ensures.stops)
