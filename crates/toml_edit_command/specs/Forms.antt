-- What is asked for by options and words, a command's words by its name, and how PATH and VALUE
-- stop it.
use Rattle.std.specs.Prelude.{◌≡◌, ◌⊎◌, List, Option, Some, None, map, String, string_bytes}
use Rattle.std.specs.Global.{Global}
use Rattle.toml_edit_model.specs.Text.{Text}
use Rattle.toml_edit_model.specs.Version.{Version}
use Rattle.toml_edit_command.specs.Words.{Request, IsPrint, IsGet, IsSet, IsRemove, IsCommand}
use Rattle.toml_edit_words.specs.Spelled.{IsNoPath, IsNoValue}
use Rattle.toml_edit_parser.specs.Options.{mode_of, version_of}
use Rattle.toml_edit_parser.specs.declared.options.ParseOptions.{ParseOptions}
use Rattle.toml_edit_command.specs.declared.words.CommandForm.{CommandForm}
use Rattle.toml_edit_command.specs.declared.words.CommandForm.TheVariants.{Print, Get, Set, Remove}
use Rattle.toml_edit_command.specs.declared.error.CommandError.TheVariants as mistakes
use Rattle.toml_edit_command.specs.declared.error.RunError.{RunError}
use Rattle.toml_edit_command.specs.declared.error.RunError.TheVariants.{Mistaken, Memory}

-- words are a command, in the mode and the version of the options
abbrev pub request_by : ParseOptions → List (String Global) → Request
request_by options words = record {
  mode = mode_of options;
  version = version_of options;
  command = map string_bytes words;
}

abbrev pub IsForm : List Text → Option CommandForm → Type 0
IsForm ws None = ¬ (IsCommand ws)
IsForm ws (Some Print) = IsPrint ws
IsForm ws (Some (Get path)) = IsGet ws path.now
IsForm ws (Some (Set path value)) = IsSet ws path.now value.now
IsForm ws (Some (Remove path)) = IsRemove ws path.now

-- PATH, or VALUE, is none; or memory ran out
abbrev pub MayStopPath : Text → RunError → Type 0
MayStopPath t stop = (stop ≡ Memory) ⊎ ((stop ≡ Mistaken mistakes.Path) × IsNoPath t)

abbrev pub MayStopValue : Version → Text → RunError → Type 0
MayStopValue version t stop =
    (stop ≡ Memory) ⊎ ((stop ≡ Mistaken mistakes.Value) × IsNoValue version t)
