-- What `check` finds of a file.
use Rattle.std.specs.Prelude.{◌⊎◌, [], List, Option}
use Rattle.toml_edit_model.specs.Version.{Version}
use Rattle.file_replace.specs.Events.{Text, Event}
use Rattle.toml_edit_files.specs.Edited.{IsAccepted}
use Rattle.toml_edit_files.specs.Folders.{IsReadOf, IsTextOf, OnlyLooks}
use Rattle.toml_edit_files.specs.Outcomes.{TellsAlone, TellsRefused, TellsStop}
use Rattle.toml_edit_files.specs.Refusals.{SaysRefused}
use Rattle.toml_edit_files.specs.Stops.{IsFailed}
use Rattle.toml_edit_files.specs.declared.told.Told.{Told}
use Rattle.toml_edit_files.specs.declared.stop.Stop.{Stop}

-- the text that is read of a file is accepted
abbrev pub IsReadAsAccepted : Version → Text → Option (List Event) → Option (List Event) → Option Text
    → Type 0
IsReadAsAccepted version name old new left =
    (t : Text) × IsTextOf name old new left t × IsAccepted version t

-- what is read of it is refused, and this is said of that
abbrev pub IsReadAsRefused : Version → Text → Option (List Event) → Option (List Event) → Option Text
    → Text → Type 0
IsReadAsRefused version file old new left said =
    (bytes : Text) × IsReadOf file old new left bytes × SaysRefused version file bytes said

-- It is accepted, and nothing is written of it; it is refused, which is written; or it is not read.
abbrev pub ChecksFile : Version → Text → Told → Option (List Event) → Option (List Event) → Option Text
    → Type 0
ChecksFile version name told old new left =
    (TellsAlone 0 [] told × IsReadAsAccepted version name old new left)
    ⊎ TellsRefused (IsReadAsRefused version name old new left) told
    ⊎ ((stop : Stop) × IsFailed name stop × TellsStop stop told × OnlyLooks old new)
