-- A text that is refused is one of characters.
use Rattle.std.proofs.Common.{inr, rules}
use Rattle.std.specs.Prelude.{IsUtf8}
use Rattle.toml_edit_command.specs.Run.{IsRefused}
use Rattle.toml_edit_parser.specs.Options.{mode_of, version_of}
use Rattle.toml_edit_c.proofs.index.find.Goals as goal

pub returns-in-Err-Toml-clause-stops : goal.returns-in-Err-Toml-clause-stops
returns-in-Err-Toml-clause-stops c =
    let options = c.in_ok-options.options in
    let utf8 : IsUtf8 c.args.text.now = search rules in
    let refused : IsRefused (version_of options) c.args.text.now = search rules in
    inr ((mode_of options, version_of options), c.in_ok-options.ensures.valid, (utf8, refused))
