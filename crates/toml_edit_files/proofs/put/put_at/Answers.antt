-- A replacement of the file that the name leads to may have been begun.
use Rattle.std.proofs.Common.{string_bytes, subst}
use Rattle.file_replace.specs.Events.{Text}
use Rattle.toml_edit_files.specs.Folders.{StopsPutting}
use Rattle.toml_edit_files.proofs.FolderLaws.{named_begins}
use Rattle.toml_edit_files.proofs.StopLaws.{on_err}
use Rattle.toml_edit_files.proofs.put.put_at.Goals as goal

pub returns-clause-stops : goal.returns-clause-stops
returns-clause-stops g c =
    let led = g.F.Folder.history c.name_of.new.folder in
    let new = g.F.Folder.history c.put_named.new.folder in
    on_err _ _ c.put_named.result
    (λ n. named_begins c.args.file.now (string_bytes c.in_ok-name.name) _ led new c.in_ok-name.ensures.leads
    (subst (λ (s : Text). StopsPutting s led new) c.as_str.ensures.value n)) c.put_named.ensures.stops
