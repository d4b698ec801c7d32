-- The numbers of the reasons why there is no text.
use Rattle.std.specs.Prelude.{◌≡◌, ℕ}
use Rattle.toml_edit_command.specs.declared.error.CommandError.TheVariants as mistakes
use Rattle.toml_edit_command.specs.declared.error.RunError.{RunError}
use Rattle.toml_edit_command.specs.declared.error.RunError.TheVariants as errors
use Rattle.toml_edit_c.specs.declared.answer.EditStop.{EditStop}
use Rattle.toml_edit_c.specs.declared.answer.Stop.{Stop}
use Rattle.toml_edit_c.specs.declared.answer.Stop.TheVariants.{Refused, NotUtf8, Path, Value, NoSuchPath, WrongKind, Unfit, Memory, Flags, Script, NoSuchElement, Taken, Comment}

abbrev pub status_of : Stop → ℕ
status_of Refused = 2
status_of NotUtf8 = 3
status_of Path = 4
status_of Value = 5
status_of NoSuchPath = 6
status_of WrongKind = 7
status_of Unfit = 8
status_of Memory = 9
status_of Flags = 10
status_of Script = 11
status_of NoSuchElement = 12
status_of Taken = 13
status_of Comment = 14

-- the status is that of a reason of this property
abbrev pub IsStatusOf : (Stop → Type 0) → ℕ → Type 0
IsStatusOf Stops status = (stop : Stop) × (status ≡ status_of stop) × Stops stop

-- what ends a command stops a call so
abbrev pub stop_for : RunError → Stop
stop_for errors.NotUtf8 = NotUtf8
stop_for (errors.Refused e) = Refused
stop_for (errors.Mistaken mistakes.Words) = Script
stop_for (errors.Mistaken mistakes.Path) = Path
stop_for (errors.Mistaken mistakes.Value) = Value
stop_for (errors.Mistaken mistakes.NoSuchPath) = NoSuchPath
stop_for (errors.Mistaken mistakes.WrongKind) = WrongKind
stop_for (errors.Mistaken mistakes.Unfit) = Unfit
stop_for errors.Memory = Memory
stop_for errors.ReadFailed = Memory
stop_for errors.WriteFailed = Memory

-- the reason is about no edit
abbrev pub of_none : Stop → EditStop
of_none stop = record { stop = stop; number = 0 }

-- it is about the edit of this number; memory runs out at none
abbrev pub of_edit : Stop → ℕ → EditStop
of_edit Memory number = of_none Memory
of_edit stop number = record { stop = stop; number = number }
