-- A document that was read and made to own its texts.
use Rattle.std.proofs.Common.{string_bytes}
use Rattle.toml_edit.specs.DocumentView.{mode_read, open_read, source, tree_read}
use Rattle.toml_edit_parser.specs.Options.{mode_of, version_of}
use Rattle.toml_edit_command.specs.Written.{held}
use Rattle.toml_edit_command.proofs.Reading.{read-as}
use Rattle.toml_edit_command.proofs.read.parse.Goals as goal

pub returns-clause-ok : goal.returns-clause-ok
returns-clause-ok c =
    read-as (mode_of c.args.options) (version_of c.args.options) (string_bytes c.args.text) (source c.in_ok-document.document)
    (tree_read c.in_ok-document.document) (mode_read c.in_ok-document.document) (open_read c.in_ok-document.document)
    (held c.in_ok-into_mut.field-0)
    c.in_ok-document.ensures.source c.in_ok-document.ensures.accepted c.in_ok-document.ensures.mode
    c.in_ok-into_mut.ensures.kept c.in_ok-into_mut.ensures.normal
