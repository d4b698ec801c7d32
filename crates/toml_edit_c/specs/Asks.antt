-- What a call asks for, in the words of a command.
use Rattle.std.specs.Prelude.{ℕ, ◌==◌, if◌then◌else◌, List, [], ◌∷◌, Option, None, Some, codes, option_map}
use Rattle.toml_edit_model.specs.Text.{Text}
use Rattle.toml_edit_model.specs.Mode.{Mode, plain, exact}
use Rattle.toml_edit_model.specs.Version.{Version, v1_0, v1_1}
use Rattle.toml_edit_command.specs.Words.{Request}
use Rattle.toml_edit_parser.specs.Options.{mode_of, version_of}
use Rattle.toml_edit_parser.specs.declared.options.ParseOptions.{ParseOptions}
use Rattle.toml_edit_c.specs.declared.calls.Call.{Call}
use Rattle.toml_edit_c.specs.declared.calls.Call.TheVariants.{Print, Get, Set, Remove}

-- the mode and the version that the flags stand for; other flags are none
abbrev pub options_by : ℕ → Option (Mode × Version)
options_by flags =
    if flags == 0 then Some (plain, v1_1)
    else if flags == 1 then Some (exact, v1_1)
    else if flags == 2 then Some (plain, v1_0)
    else if flags == 3 then Some (exact, v1_0) else None

-- the command of these words, by the flags
abbrev pub request_in : List Text → Mode × Version → Request
request_in words how = record { mode = how.0; version = how.1; command = words }

abbrev pub ask : ℕ → List Text → Option Request
ask flags words = option_map (request_in words) (options_by flags)

-- the same by options
abbrev pub asked_by : ParseOptions → List Text → Request
asked_by options words = request_in words (mode_of options, version_of options)

-- ---- the words

abbrev pub print_words : List Text
print_words = codes "print" ∷ []

abbrev pub get_words : Text → List Text
get_words path = codes "get" ∷ path ∷ []

abbrev pub set_words : Text → Text → List Text
set_words path value = codes "set" ∷ path ∷ value ∷ []

abbrev pub remove_words : Text → List Text
remove_words path = codes "remove" ∷ path ∷ []

-- those of a call
abbrev pub words_of : Call → List Text
words_of Print = print_words
words_of (Get path) = get_words path.now
words_of (Set path value) = set_words path.now value.now
words_of (Remove path) = remove_words path.now
