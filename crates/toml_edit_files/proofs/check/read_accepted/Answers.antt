-- The text of the file is not UTF-8, or is refused.
use Rattle.std.proofs.Common.{inl, subst, sym}
use Rattle.std.proofs.lemmas.Result.{IfErr-weaker}
use Rattle.file_replace.specs.Events.{Text}
use Rattle.toml_edit_files.specs.Checks.{IsReadAsRefused}
use Rattle.toml_edit_files.specs.Edited.{IsNotRead, version_by}
use Rattle.toml_edit_files.specs.Folders.{IsTextOf}
use Rattle.toml_edit_files.specs.Stops.{IsUnread}
use Rattle.toml_edit_files.proofs.StopLaws.{passed, unread_here, unread_text}
use Rattle.toml_edit_files.specs.Stops.{IsFor, Reads, reason_of}
use Rattle.toml_edit_files.specs.declared.stop.Reason.TheVariants.{Failed}
use Rattle.toml_edit_files.proofs.StopLaws.{leaves_if, reads_passed}
use Rattle.toml_edit_files.proofs.check.read_accepted.Goals as goal

pub returns-in_err-text-clause-refused : goal.returns-in_err-text-clause-refused
returns-in_err-text-clause-refused g c =
    let v = version_by c.args.reading in let file = c.args.file.now in
    let old = g.F.Folder.history c.args.folder.now in let new = g.F.Folder.history c.text_of.new.folder in
    let left = g.I.Input.remaining c.args.input.now in
    passed c.from_residual.result c.in_err-text.field-0.0 (IsUnread file (IsReadAsRefused v file old new left)) c.from_residual.ensures.1
    (unread_text v file old new left c.in_err-text.field-0.0 c.in_err-text.ensures.stops)

pub returns-clause-refused : goal.returns-clause-refused
returns-clause-refused g c =
    let v = version_by c.args.reading in let file = c.args.file.now in
    let old = g.F.Folder.history c.args.folder.now in let new = g.F.Folder.history c.text_of.new.folder in
    let left = g.I.Input.remaining c.args.input.now in
    let t = c.as_str.result.now in
    let read : IsTextOf file old new left t = subst (λ (u : Text). IsTextOf file old new left u) (sym c.as_str.ensures.value) c.in_ok-text.ensures.text in
    IfErr-weaker c.accept.result (IsNotRead v file t) (IsUnread file (IsReadAsRefused v file old new left))
    (λ s h. unread_here v file old new left s t (inl read) h) c.accept.ensures.stops

pub returns-in_err-text-clause-rest : goal.returns-in_err-text-clause-rest
returns-in_err-text-clause-rest g c =
    leaves_if (IsFor Failed (reason_of c.in_err-text.field-0.0) → ⊥) (Reads c.from_residual.result) c.args.file.now _ _
    (reads_passed c.from_residual.result c.in_err-text.field-0.0 c.from_residual.ensures.1) c.in_err-text.ensures.rest

pub returns-clause-rest : goal.returns-clause-rest
returns-clause-rest g c = leaves_if (Unit {0}) (Reads c.accept.result) c.args.file.now _ _ (λ reads. tt) c.in_ok-text.ensures.rest
