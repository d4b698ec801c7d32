-- What a read is asked for.
use Rattle.toml_edit_model.specs.Mode.{Mode}
use Rattle.toml_edit_model.specs.Version.{Version}
use Rattle.toml_edit_parser.specs.declared.options.ParseOptions.{ParseOptions}
use Rattle.toml_edit_repr.specs.Modes as modes
use Rattle.toml_edit_syntax.specs.Grammar.{grammar}

-- the version of the grammar that is read
abbrev pub version_of : ParseOptions → Version
version_of options = grammar options.version

-- and the mode that it is read in
abbrev pub mode_of : ParseOptions → Mode
mode_of options = modes.mode_of options.mode
