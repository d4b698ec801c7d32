-- The text is refused, or a replacement of the file may have been begun.
use Rattle.std.proofs.Common.{inl, inr, string_bytes, subst, sym}
use Rattle.std.specs.Prelude.{Option}
use Rattle.file_replace.specs.Events.{Text}
use Rattle.toml_edit_files.specs.Edited.{version_by}
use Rattle.toml_edit_files.specs.Folders.{IsHeld, Stops}
use Rattle.toml_edit_files.specs.FormatFiles.{IsUnformatted}
use Rattle.toml_edit_files.specs.Stops.{reason_of}
use Rattle.toml_edit_files.proofs.FolderLaws.{held_begins, stops_beginning}
use Rattle.toml_edit_files.proofs.FormatLaws.{none-formatted}
use Rattle.toml_edit_files.proofs.StopLaws.{passed, unread_held}
use Rattle.toml_edit_files.proofs.fmt.in_place.Goals as goal

pub returns-in_err-put-clause-stops : goal.returns-in_err-put-clause-stops
returns-in_err-put-clause-stops g c =
    let file = c.args.file.now in
    let old = g.F.Folder.history c.args.folder.now in
    let new = g.F.Folder.history c.put.new.folder in
    passed c.from_residual-in_err-put.result c.in_err-put.field-0.0 (λ s. Stops file old new (reason_of s)) c.from_residual-in_err-put.ensures.1
    (stops_beginning file old new file c.in_err-put.field-0.0 c.in_err-put.ensures.reason
    (held_begins file (string_bytes c.in_ok-held.held.name) old _ new (string_bytes c.in_ok-held.held.text) c.in_ok-held.ensures.held
    c.in_err-put.ensures.stops))

pub returns-in_err-held-clause-unmade : goal.returns-in_err-held-clause-unmade
returns-in_err-held-clause-unmade g c =
    let style = c.args.command.now.style in let file = c.args.file.now in
    let old = g.F.Folder.history c.args.folder.now in
    let new = g.F.Folder.history c.held_of.new.folder in
    passed c.from_residual.result c.in_err-held.field-0.0 (λ s. (left : Option Text) → IsUnformatted c.args.reading style file old new left s)
    c.from_residual.ensures.1
    (λ left. inl (unread_held (version_by c.args.reading) file old new left c.in_err-held.field-0.0 c.in_err-held.ensures.stops))

pub returns-in_err-text-clause-unmade : goal.returns-in_err-text-clause-unmade
returns-in_err-text-clause-unmade g c =
    let style = c.args.command.now.style in let file = c.args.file.now in
    let old = g.F.Folder.history c.args.folder.now in
    let new = g.F.Folder.history c.held_of.new.folder in
    let held = c.in_ok-held.held in
    passed c.from_residual-in_err-text.result c.in_err-text.field-0.0 (λ s. (left : Option Text) → IsUnformatted c.args.reading style file old new left s)
    c.from_residual-in_err-text.ensures.1
    (λ left. none-formatted c.args.reading style file old new left c.in_err-text.field-0.0 c.as_str.result.now
    (inr (
      string_bytes held.name,
      subst (λ (t : Text). IsHeld file (string_bytes held.name) old new t) (sym c.as_str.ensures.value) c.in_ok-held.ensures.held,
    ))
    c.in_err-text.ensures.stops)

pub returns-in_err-put-clause-unmade : goal.returns-in_err-put-clause-unmade
returns-in_err-put-clause-unmade g c =
    let style = c.args.command.now.style in let file = c.args.file.now in
    let old = g.F.Folder.history c.args.folder.now in
    let new = g.F.Folder.history c.put.new.folder in
    passed c.from_residual-in_err-put.result c.in_err-put.field-0.0 (λ s. (left : Option Text) → IsUnformatted c.args.reading style file old new left s)
    c.from_residual-in_err-put.ensures.1 (λ left. inl (inl c.in_err-put.ensures.reason))
