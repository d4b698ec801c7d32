-- A replacement of the file may have been begun.
use Rattle.std.proofs.Common.{inl, inr, string_bytes, subst, sym}
use Rattle.toml_edit_files.specs.Edited.{version_by}
use Rattle.toml_edit_files.specs.Folders.{IsHeld, Stops}
use Rattle.std.specs.Prelude.{Option}
use Rattle.file_replace.specs.Events.{Text}
use Rattle.toml_edit_files.specs.Stops.{reason_of}
use Rattle.toml_edit_files.proofs.FolderLaws.{held_begins, stops_beginning}
use Rattle.toml_edit_files.proofs.StopLaws.{passed, unread_held}
use Rattle.toml_edit_files.proofs.UnmadeLaws.{unedited}
use Rattle.toml_edit_files.specs.EditFiles.{IsUnmade}
use Rattle.toml_edit_files.proofs.edit.edit_in_place.Goals as goal

pub returns-in_err-put-clause-stops : goal.returns-in_err-put-clause-stops
returns-in_err-put-clause-stops g c =
    let file = c.args.command.now.file.now in
    let old = g.F.Folder.history c.args.folder.now in
    let new = g.F.Folder.history c.put.new.folder in
    passed c.from_residual-in_err-put.result c.in_err-put.field-0.0 (λ s. Stops file old new (reason_of s)) c.from_residual-in_err-put.ensures.1
    (stops_beginning file old new file c.in_err-put.field-0.0 c.in_err-put.ensures.reason
    (held_begins file (string_bytes c.in_ok-held.held.name) old _ new (string_bytes c.in_ok-held.held.text) c.in_ok-held.ensures.held
    c.in_err-put.ensures.stops))

pub returns-in_err-held-clause-unmade : goal.returns-in_err-held-clause-unmade
returns-in_err-held-clause-unmade g c =
    let old = g.F.Folder.history c.args.folder.now in
    let new = g.F.Folder.history c.held_of.new.folder in
    passed c.from_residual.result c.in_err-held.field-0.0 (λ s. (left : Option Text) → IsUnmade c.args.reading c.args.command.now c.args.edits.now old new left s)
    c.from_residual.ensures.1
    (λ left. inl (unread_held (version_by c.args.reading) c.args.command.now.file.now old new left c.in_err-held.field-0.0 c.in_err-held.ensures.stops))

pub returns-in_err-edited-clause-unmade : goal.returns-in_err-edited-clause-unmade
returns-in_err-edited-clause-unmade g c =
    let old = g.F.Folder.history c.args.folder.now in
    let new = g.F.Folder.history c.held_of.new.folder in
    let held = c.in_ok-held.held in
    passed c.from_residual-in_err-edited.result c.in_err-edited.field-0.0
    (λ s. (left : Option Text) → IsUnmade c.args.reading c.args.command.now c.args.edits.now old new left s) c.from_residual-in_err-edited.ensures.1
    (λ left. unedited c.args.reading c.args.command.now c.args.edits.now old new left c.in_err-edited.field-0.0 c.as_str.result.now
    (inr (
      string_bytes held.name,
      subst (λ (t : Text). IsHeld c.args.command.now.file.now (string_bytes held.name) old new t) (sym c.as_str.ensures.value)
          c.in_ok-held.ensures.held,
    ))
    c.in_err-edited.ensures.stops)

pub returns-in_err-put-clause-unmade : goal.returns-in_err-put-clause-unmade
returns-in_err-put-clause-unmade g c =
    let old = g.F.Folder.history c.args.folder.now in
    let new = g.F.Folder.history c.put.new.folder in
    passed c.from_residual-in_err-put.result c.in_err-put.field-0.0
    (λ s. (left : Option Text) → IsUnmade c.args.reading c.args.command.now c.args.edits.now old new left s) c.from_residual-in_err-put.ensures.1
    (λ left. inl (inl c.in_err-put.ensures.reason))
