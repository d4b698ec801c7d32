-- The names of commands, and what is written about them.
use Rattle.std.specs.Prelude.{if◌then◌else◌, Option, Some, None, bytes_eq, codes}
use Rattle.toml_edit_model.specs.Text.{Text}
use Rattle.toml_edit_files.specs.declared.help.TheConstants.{PROGRAM_HELP, GET_HELP, HAS_HELP, EDIT_HELP, KEYS_HELP, JSON_HELP, CHECK_HELP, FMT_HELP}
use Rattle.toml_edit_files.specs.declared.help.Topic.{Topic}
use Rattle.toml_edit_files.specs.declared.help.Topic.TheVariants.{Program, Get, Has, Edit, Keys, Json, Check, Fmt}

abbrev pub topic_of : Text → Option Topic
topic_of w =
    if bytes_eq w (codes "get") then Some Get
    else (if bytes_eq w (codes "has") then Some Has
    else (if bytes_eq w (codes "edit") then Some Edit
    else (if bytes_eq w (codes "keys") then Some Keys
    else (if bytes_eq w (codes "json") then Some Json
    else (if bytes_eq w (codes "check") then Some Check
    else (if bytes_eq w (codes "fmt") then Some Fmt
    else None))))))

-- the help on a command
abbrev pub help_on : Topic → Text
help_on Program = PROGRAM_HELP.now
help_on Get = GET_HELP.now
help_on Has = HAS_HELP.now
help_on Edit = EDIT_HELP.now
help_on Keys = KEYS_HELP.now
help_on Json = JSON_HELP.now
help_on Check = CHECK_HELP.now
help_on Fmt = FMT_HELP.now
