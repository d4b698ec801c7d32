-- The version refuses the text, and that is said.
use Rattle.std.proofs.Common.{rules}
use Rattle.toml_edit.specs.Documents.{IsRefusalIn}
use Rattle.toml_edit_parser.specs.Options.{version_of}
use Rattle.toml_edit_files.specs.Edited.{version_by}
use Rattle.toml_edit_files.proofs.StopLaws.{refused_so}
use Rattle.toml_edit_files.proofs.check.accept.Goals as goal

pub returns-in-Err-Toml-clause-stops : goal.returns-in-Err-Toml-clause-stops
returns-in-Err-Toml-clause-stops c =
    let v = version_of c.options.result in let t = c.args.text.now in let r = c.in-Err-Toml.error in
    let why : IsRefusalIn v t r = search rules in
    refused_so (version_by c.args.reading) v c.args.file.now t r c.refused.result c.options.ensures.version why c.refused.ensures
