-- What is read is what the word spells.
use Rattle.std.proofs.lemmas.Result.{IfOk-weaker}
use Rattle.toml_edit_parser.specs.LoneValue.{IsLoneReadingIn}
use Rattle.toml_edit_parser.specs.Options.{version_of}
use Rattle.toml_edit_tree.specs.View.{value_view}
use Rattle.toml_edit_words.specs.Spelled.{SpellsValue}
use Rattle.toml_edit_words.proofs.Read.{value-refused}
use Rattle.toml_edit_words.proofs.value_in.Goals as goal

pub returns-clause-spelled : goal.returns-clause-spelled
returns-clause-spelled c =
    let version = version_of c.args.options in let t = c.args.word.now in
    IfOk-weaker c.from_str_with.result (λ v. IsLoneReadingIn version t (value_view v)) (λ v. SpellsValue version t (value_view v))
    (λ v read. (read.value, read.lone, read.accepted, read.item)) c.from_str_with.ensures.read

pub returns-clause-refused : goal.returns-clause-refused
returns-clause-refused c =
    value-refused (version_of c.args.options) c.args.word.now c.from_str_with.result c.from_str_with.ensures.every
