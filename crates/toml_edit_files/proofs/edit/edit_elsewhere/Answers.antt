-- A replacement of the other file may have been begun.
use Rattle.std.proofs.Common.{◌≡◌, ◌∙◌, inl, inr, refl, string_bytes, subst, sym, true}
use Rattle.std.specs.Prelude.{IsTrue}
use Rattle.file_replace.specs.Events.{Text}
use Rattle.toml_edit_files.specs.EditFiles.{IsShownAs, IsUnmade, is_shown, target_of}
use Rattle.toml_edit_files.specs.Edited.{IsEdited, IsInForm, version_by}
use Rattle.toml_edit_files.specs.Folders.{IsTextOf, MayBegin, Stops}
use Rattle.toml_edit_files.specs.Stops.{IsFailed, reason_of}
use Rattle.toml_edit_files.proofs.FolderLaws.{begins_then, stops_beginning}
use Rattle.toml_edit_files.proofs.RunLaws.{chosen}
use Rattle.toml_edit_files.proofs.StopLaws.{passed, unread_text}
use Rattle.toml_edit_files.proofs.UnmadeLaws.{unedited}
use Rattle.toml_edit_files.proofs.edit.edit_elsewhere.Goals as goal

pub returns-then-is_shown-clause-edits : goal.returns-then-is_shown-clause-edits
returns-then-is_shown-clause-edits g c =
    let command = c.args.command.now in
    let text = string_bytes c.in_ok-edited.edited.output in
    let output = string_bytes c.in_ok-output.output in
    let shown : is_shown command ≡ true = sym c.is_shown.ensures ∙ c.if-is_shown.true in
    record {
      before = string_bytes c.in_ok-text.text;
      text = text;
      read = g.F.Folder.history c.text_of.new.folder;
      file = c.in_ok-text.ensures.text;
      locked = subst (λ (t : Text). IsTrue command.locked → IsInForm c.args.reading t) c.as_str.ensures.value c.in_ok-edited.ensures.locked;
      edited =
          subst (λ (t : Text). IsEdited c.args.reading c.args.edits.now t text) c.as_str.ensures.value c.in_ok-edited.ensures.text;
      puts =
          chosen _ _ (is_shown command) shown
          (subst (λ (t : Text). IsShownAs command t text output) c.as_str-then-is_shown.ensures.value c.in_ok-output.ensures, refl);
    }

pub returns-in_err-put_at-clause-stops : goal.returns-in_err-put_at-clause-stops
returns-in_err-put_at-clause-stops g c =
    let target = target_of c.args.command.now in
    let old = g.F.Folder.history c.args.folder.now in
    let read = g.F.Folder.history c.text_of.new.folder in
    let new = g.F.Folder.history c.put_at.new.folder in
    passed c.from_residual-in_err-put_at.result c.in_err-put_at.field-0.0 (λ s. Stops target old new (reason_of s))
    c.from_residual-in_err-put_at.ensures.1
    (stops_beginning target old new c.target_of.result.now c.in_err-put_at.field-0.0 c.in_err-put_at.ensures.reason
    (begins_then target old read new c.in_ok-text.ensures.looks
    (subst (λ (n : Text). MayBegin n read new) c.target_of.ensures c.in_err-put_at.ensures.stops)))

pub returns-in_err-text-clause-unmade : goal.returns-in_err-text-clause-unmade
returns-in_err-text-clause-unmade g c =
    let old = g.F.Folder.history c.args.folder.now in
    let new = g.F.Folder.history c.text_of.new.folder in
    let left = g.I.Input.remaining c.args.input.now in
    passed c.from_residual.result c.in_err-text.field-0.0 (IsUnmade c.args.reading c.args.command.now c.args.edits.now old new left)
    c.from_residual.ensures.1
    (inl (unread_text (version_by c.args.reading) c.args.command.now.file.now old new left c.in_err-text.field-0.0 c.in_err-text.ensures.stops))

pub returns-in_err-edited-clause-unmade : goal.returns-in_err-edited-clause-unmade
returns-in_err-edited-clause-unmade g c =
    let old = g.F.Folder.history c.args.folder.now in
    let new = g.F.Folder.history c.text_of.new.folder in
    let left = g.I.Input.remaining c.args.input.now in
    passed c.from_residual-in_err-edited.result c.in_err-edited.field-0.0
    (IsUnmade c.args.reading c.args.command.now c.args.edits.now old new left) c.from_residual-in_err-edited.ensures.1
    (unedited c.args.reading c.args.command.now c.args.edits.now old new left c.in_err-edited.field-0.0 c.as_str.result.now
    (inl (subst (λ (t : Text). IsTextOf c.args.command.now.file.now old new left t) (sym c.as_str.ensures.value) c.in_ok-text.ensures.text))
    c.in_err-edited.ensures.stops)

pub returns-in_err-put_at-clause-unmade : goal.returns-in_err-put_at-clause-unmade
returns-in_err-put_at-clause-unmade g c =
    let old = g.F.Folder.history c.args.folder.now in
    let new = g.F.Folder.history c.put_at.new.folder in
    let left = g.I.Input.remaining c.args.input.now in
    passed c.from_residual-in_err-put_at.result c.in_err-put_at.field-0.0
    (IsUnmade c.args.reading c.args.command.now c.args.edits.now old new left) c.from_residual-in_err-put_at.ensures.1
    (inr (inl (subst (λ (n : Text). IsFailed n c.in_err-put_at.field-0.0) c.target_of.ensures c.in_err-put_at.ensures.reason)))
