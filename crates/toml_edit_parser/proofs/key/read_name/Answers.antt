-- A bare key is its own name.
use Rattle.std.proofs.Common.{◌≡◌, IfSome, string_bytes, subst}
use Rattle.toml_edit_model.specs.Text.{Text}
use Rattle.toml_edit_model.specs.Spelling.{SpellsKey}
use Rattle.toml_edit_model.specs.OwnedForm.{cut_out}
use Rattle.toml_edit_parser.proofs.key.read_name.Goals as goal

pub returns-in-Some-clause-name : goal.returns-in-Some-clause-name
returns-in-Some-clause-name c =
    subst (λ o. IfSome o (λ name. (k : Text) → SpellsKey k (cut_out c.args.reader.now.source.now c.args.span.start c.args.span.end) → string_bytes name ≡ k))
    c.in-Some.is c.in_ok-name.ensures
