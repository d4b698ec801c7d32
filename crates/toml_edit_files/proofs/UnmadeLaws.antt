-- Why a file is not edited.
use Rattle.std.proofs.Common.{inl, inr}
use Rattle.std.specs.Prelude.{◌⊎◌, List, Option}
use Rattle.file_replace.specs.Events.{Text, Event}
use Rattle.toml_edit_edits.specs.declared.edit.Edit.{Edit}
use Rattle.toml_edit_files.proofs.StopLaws.{unread_here}
use Rattle.toml_edit_files.specs.EditFiles.{IsUnmade}
use Rattle.toml_edit_files.specs.Edited.{IsNotEdited, IsNotRead, version_by}
use Rattle.toml_edit_files.specs.Folders.{IsReadOf}
use Rattle.toml_edit_files.specs.Stops.{reason_of}
use Rattle.toml_edit_files.specs.declared.stop.Stop.{Stop}
use Rattle.toml_edit_files.specs.declared.words.EditCommand.{EditCommand}
use Rattle.toml_edit_files.specs.declared.words.Reading.{Reading}

pub unedited : (reading : Reading) (c : EditCommand) (all : List Edit) (old new : Option (List Event)) (left : Option Text) (stop : Stop) (t : Text)
    → IsReadOf c.file.now old new left t
    → IsNotRead (version_by reading) c.file.now t stop ⊎ IsNotEdited reading c.locked all t (reason_of stop)
    → IsUnmade reading c all old new left stop
unedited reading c all old new left stop t read (inl h) = inl (unread_here (version_by reading) c.file.now old new left stop t read h)
unedited reading c all old new left stop t read (inr h) = inr (inr (t, read, h))
