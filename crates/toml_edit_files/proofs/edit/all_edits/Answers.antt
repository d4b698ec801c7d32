-- There is no script, or it is read first.
use Rattle.std.proofs.Common.{Some, inl, inr, string_bytes, subst}
use Rattle.file_replace.specs.Events.{Text}
use Rattle.toml_edit_edits.specs.declared.edit.Edit.{Edit}
use Rattle.std.specs.Prelude.{List}
use Rattle.toml_edit_files.specs.EditFiles.{HasNoScript}
use Rattle.toml_edit_files.specs.Edited.{version_by}
use Rattle.toml_edit_files.specs.Lines.{SaysScript}
use Rattle.toml_edit_files.specs.Stops.{IsMistaken, reason_of}
use Rattle.toml_edit_files.proofs.StopLaws.{passed}
use Rattle.toml_edit_files.proofs.edit.all_edits.Goals as goal

pub returns-in_err-text-clause-stops : goal.returns-in_err-text-clause-stops
returns-in_err-text-clause-stops g c =
    let reading = c.args.reading in let script = c.in-Some.script.now in
    let old = g.F.Folder.history c.args.folder.now in let new = g.F.Folder.history c.text_of.new.folder in
    let left = g.I.Input.remaining c.args.input.now in
    rw c.in-Some.is
    (passed c.from_residual.result c.in_err-text.field-0.0 (HasNoScript reading (Some script) old new left) c.from_residual.ensures.1
    (inl c.in_err-text.ensures.stops))

pub returns-in_err-all-clause-stops : goal.returns-in_err-all-clause-stops
returns-in_err-all-clause-stops g c =
    let reading = c.args.reading in let script = c.in-Some.script.now in
    let old = g.F.Folder.history c.args.folder.now in let new = g.F.Folder.history c.text_of.new.folder in
    let left = g.I.Input.remaining c.args.input.now in
    let stop = c.in_err-all.field-0.0 in
    rw c.in-Some.is
    (passed c.from_residual-in_err-all.result stop (HasNoScript reading (Some script) old new left) c.from_residual-in_err-all.ensures.1
    (inr (
      string_bytes c.in_ok-text.text,
      c.in_ok-text.ensures.text,
      subst (λ (t : Text). IsMistaken ((es : List Edit) → SaysScript (version_by reading) t es → ⊥) (reason_of stop)) c.as_str.ensures.value
          c.in_err-all.ensures.stops,
    )))
