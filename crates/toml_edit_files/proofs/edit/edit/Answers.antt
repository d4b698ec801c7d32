-- The script is read first.
use Rattle.std.proofs.Common.{◌≡◌, ◌∙◌, List, inl, inr, false, true, string_bytes, subst, sym}
use Rattle.std.proofs.lemmas.Result.{IfErr-weaker, IfOk-weaker}
use Rattle.std.specs.Prelude.{Option}
use Rattle.file_replace.specs.Events.{Text}
use Rattle.toml_edit_edits.specs.declared.edit.Edit.{Edit}
use Rattle.toml_edit_files.specs.EditFiles.{EditsElsewhere, EditsFile, EditsInPlace, HasNoEdits, IsUnmade, is_in_place, target_of}
use Rattle.toml_edit_files.specs.Folders.{Stops}
use Rattle.toml_edit_files.specs.Stops.{reason_of}
use Rattle.toml_edit_files.proofs.FolderLaws.{stops_then}
use Rattle.toml_edit_files.proofs.RunLaws.{chosen, chosen_not, target_in_place}
use Rattle.toml_edit_files.proofs.StopLaws.{passed}
use Rattle.toml_edit_files.proofs.edit.edit.Goals as goal

pub returns-then-is_in_place-clause-edits : goal.returns-then-is_in_place-clause-edits
returns-then-is_in_place-clause-edits g c =
    let command = c.args.command.now in
    let all = c.in_ok-edits.edits.items in
    let scripted = g.F.Folder.history c.all_edits.new.folder in
    let rest = g.I.Input.remaining c.all_edits.new.input in
    let new = g.F.Folder.history c.edit_in_place.new.folder in
    let is : is_in_place command ≡ true = sym c.is_in_place.ensures ∙ c.if-is_in_place.true in
    IfOk-weaker c.edit_in_place.result
    (λ d. EditsInPlace c.args.reading command c.as_slice-edits.result.now scripted new (string_bytes d.output))
    (λ d. EditsFile c.args.reading command c.args.edits.items (g.F.Folder.history c.args.folder.now) new (g.I.Input.remaining c.args.input.now) (string_bytes d.output))
    (λ d h. (
      all,
      scripted,
      rest,
      c.in_ok-edits.ensures.looks,
      c.in_ok-edits.ensures.edits,
      chosen _ _ (is_in_place command) is
          (subst (λ (es : List Edit). EditsInPlace c.args.reading command es scripted new (string_bytes d.output)) c.as_slice-edits.ensures.value h),
    ))
    c.edit_in_place.ensures.edits

pub returns-then-is_in_place-clause-stops : goal.returns-then-is_in_place-clause-stops
returns-then-is_in_place-clause-stops g c =
    let command = c.args.command.now in
    let old = g.F.Folder.history c.args.folder.now in
    let scripted = g.F.Folder.history c.all_edits.new.folder in
    let rest = g.I.Input.remaining c.all_edits.new.input in
    let new = g.F.Folder.history c.edit_in_place.new.folder in
    let is : is_in_place command ≡ true = sym c.is_in_place.ensures ∙ c.if-is_in_place.true in
    IfErr-weaker c.edit_in_place.result (λ s. Stops command.file.now scripted new (reason_of s)) (λ s. Stops (target_of command) old new (reason_of s))
    (λ s h. stops_then (target_of command) old scripted new (reason_of s) c.in_ok-edits.ensures.looks
    (subst (λ (n : Text). Stops n scripted new (reason_of s)) (sym (target_in_place command is)) h))
    c.edit_in_place.ensures.stops

pub returns-clause-edits : goal.returns-clause-edits
returns-clause-edits g c =
    let command = c.args.command.now in
    let scripted = g.F.Folder.history c.all_edits.new.folder in
    let rest = g.I.Input.remaining c.all_edits.new.input in
    let new = g.F.Folder.history c.edit_elsewhere.new.folder in
    let is : is_in_place command ≡ false = sym c.is_in_place.ensures ∙ c.if-is_in_place.false in
    IfOk-weaker c.edit_elsewhere.result
    (λ d. EditsElsewhere c.args.reading command c.as_slice-edits.result.now scripted new rest (string_bytes d.output))
    (λ d. EditsFile c.args.reading command c.args.edits.items (g.F.Folder.history c.args.folder.now) new (g.I.Input.remaining c.args.input.now) (string_bytes d.output))
    (λ d h. (
      c.in_ok-edits.edits.items,
      scripted,
      rest,
      c.in_ok-edits.ensures.looks,
      c.in_ok-edits.ensures.edits,
      chosen_not _ _ (is_in_place command) is
          (subst (λ (es : List Edit). EditsElsewhere c.args.reading command es scripted new rest (string_bytes d.output)) c.as_slice-edits.ensures.value h),
    ))
    c.edit_elsewhere.ensures.edits

pub returns-clause-stops : goal.returns-clause-stops
returns-clause-stops g c =
    let target = target_of c.args.command.now in
    let old = g.F.Folder.history c.args.folder.now in
    let scripted = g.F.Folder.history c.all_edits.new.folder in
    let rest = g.I.Input.remaining c.all_edits.new.input in
    let new = g.F.Folder.history c.edit_elsewhere.new.folder in
    IfErr-weaker c.edit_elsewhere.result (λ s. Stops target scripted new (reason_of s)) (λ s. Stops target old new (reason_of s))
    (λ s h. stops_then target old scripted new (reason_of s) c.in_ok-edits.ensures.looks h) c.edit_elsewhere.ensures.stops

pub returns-in_err-edits-clause-unmade : goal.returns-in_err-edits-clause-unmade
returns-in_err-edits-clause-unmade g c =
    let old = g.F.Folder.history c.args.folder.now in
    let new = g.F.Folder.history c.all_edits.new.folder in
    passed c.from_residual.result c.in_err-edits.field-0.0
    (HasNoEdits c.args.reading c.args.command.now c.args.edits.items old new (g.I.Input.remaining c.args.input.now)) c.from_residual.ensures.1
    (inl c.in_err-edits.ensures.stops)

pub returns-then-is_in_place-clause-unmade : goal.returns-then-is_in_place-clause-unmade
returns-then-is_in_place-clause-unmade g c =
    let command = c.args.command.now in
    let old = g.F.Folder.history c.args.folder.now in
    let scripted = g.F.Folder.history c.all_edits.new.folder in
    let rest = g.I.Input.remaining c.all_edits.new.input in
    let new = g.F.Folder.history c.edit_in_place.new.folder in
    IfErr-weaker c.edit_in_place.result (λ s. (left : Option Text) → IsUnmade c.args.reading command c.as_slice-edits.result.now scripted new left s)
    (HasNoEdits c.args.reading command c.args.edits.items old new (g.I.Input.remaining c.args.input.now))
    (λ s h. inr (
      c.in_ok-edits.edits.items,
      scripted,
      rest,
      c.in_ok-edits.ensures.looks,
      c.in_ok-edits.ensures.edits,
      subst (λ (es : List Edit). IsUnmade c.args.reading command es scripted new rest s) c.as_slice-edits.ensures.value (h rest),
    ))
    c.edit_in_place.ensures.unmade

pub returns-clause-unmade : goal.returns-clause-unmade
returns-clause-unmade g c =
    let command = c.args.command.now in
    let old = g.F.Folder.history c.args.folder.now in
    let scripted = g.F.Folder.history c.all_edits.new.folder in
    let rest = g.I.Input.remaining c.all_edits.new.input in
    let new = g.F.Folder.history c.edit_elsewhere.new.folder in
    IfErr-weaker c.edit_elsewhere.result (λ s. IsUnmade c.args.reading command c.as_slice-edits.result.now scripted new rest s)
    (HasNoEdits c.args.reading command c.args.edits.items old new (g.I.Input.remaining c.args.input.now))
    (λ s h. inr (
      c.in_ok-edits.edits.items,
      scripted,
      rest,
      c.in_ok-edits.ensures.looks,
      c.in_ok-edits.ensures.edits,
      subst (λ (es : List Edit). IsUnmade c.args.reading command es scripted new rest s) c.as_slice-edits.ensures.value h,
    ))
    c.edit_elsewhere.ensures.unmade
