-- A text that is not a value is not one of characters.
use Rattle.std.proofs.Common.{inr, refl, subst}
use Rattle.toml_edit_error.specs.Fault.{IfToml}
use Rattle.toml_edit_parser.specs.Options.{version_of}
use Rattle.toml_edit_words.specs.Spelled.{IsNoValue}
use Rattle.toml_edit_c.proofs.given.value_of.Goals as goal

pub returns-in-Err-Toml-clause-stops : goal.returns-in-Err-Toml-clause-stops
returns-in-Err-Toml-clause-stops c =
    let v = version_of c.args.options in
    let none = subst (λ e. IfToml e (λ _. IsNoValue v c.in-Ok.text.now)) c.in-Err-Toml.field-0-is c.in-Err-Toml.ensures.refused in
    inr (refl, (λ utf8. subst (IsNoValue v) c.in-Ok.ensures.cases.0 none))
