-- Where the name leads is asked, and the file is locked and read.
use Rattle.std.proofs.Common.{inr, rules, string_bytes}
use Rattle.toml_edit_files.specs.Folders.{IsHeld, IsNoHeldText}
use Rattle.toml_edit_files.specs.Refusals.{IsNotUtf8}
use Rattle.toml_edit_files.specs.Stops.{IsUnread}
use Rattle.toml_edit_files.specs.declared.stop.Reason.TheVariants.{Refused}
use Rattle.toml_edit_files.proofs.FolderLaws.{looks_locked, looks_then}
use Rattle.toml_edit_files.proofs.StopLaws.{passed, saying}
use Rattle.toml_edit_files.proofs.put.held_of.Goals as goal

pub returns-in_err-text_from-in-Ok-clause-stops : goal.returns-in_err-text_from-in-Ok-clause-stops
returns-in_err-text_from-in-Ok-clause-stops g c =
    let file = c.args.file.now in let name = string_bytes c.in_ok-name.name in let bytes = c.in-Ok.bytes.items in
    let old = g.F.Folder.history c.args.folder.now in let new = g.F.Folder.history c.read_locked.new.folder in
    let stop = c.in_err-text_from-in-Ok.field-0.0 in
    let held : IsHeld file name old new bytes = search rules in
    passed c.from_residual-in_err-text_from-in-Ok.result stop (IsUnread file (IsNoHeldText file old new)) c.from_residual-in_err-text_from-in-Ok.ensures.1
    (inr (saying (IsNotUtf8 file bytes) (IsNoHeldText file old new) Refused stop (λ said bad. (bytes, (name, held), bad))
    c.in_err-text_from-in-Ok.ensures.stops))

pub returns-in_err-text_from-in-Ok-clause-looks : goal.returns-in_err-text_from-in-Ok-clause-looks
returns-in_err-text_from-in-Ok-clause-looks g c = looks_then _ _ _ c.in_ok-name.ensures.looks (looks_locked _ _ _ _ c.read_locked.result c.read_locked.ensures)

pub returns-in_ok-text_from-in-Ok-clause-looks : goal.returns-in_ok-text_from-in-Ok-clause-looks
returns-in_ok-text_from-in-Ok-clause-looks g c = looks_then _ _ _ c.in_ok-name.ensures.looks (looks_locked _ _ _ _ c.read_locked.result c.read_locked.ensures)

pub returns-in-Err-clause-looks : goal.returns-in-Err-clause-looks
returns-in-Err-clause-looks g c = looks_then _ _ _ c.in_ok-name.ensures.looks (looks_locked _ _ _ _ c.read_locked.result c.read_locked.ensures)
