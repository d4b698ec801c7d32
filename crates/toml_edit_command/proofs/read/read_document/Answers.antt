-- What stops the text stops the document, in the version that is read.
use Rattle.std.proofs.Common.{◌≡◌, Option, Some, None, IfSome, string_bytes, subst, IsUtf8}
use Rattle.std.proofs.lemmas.Result.{err_from_is_err_and}
use Rattle.std.proofs.lemmas.Str.{IsUtf8-string_bytes}
use Rattle.toml_edit_model.specs.Text.{Text}
use Rattle.toml_edit_error.specs.Fault.{IfToml}
use Rattle.toml_edit.specs.Documents.{IsRefusalIn}
use Rattle.toml_edit_command.specs.Run.{IsRefused, IsExcerptOf}
use Rattle.toml_edit_parser.specs.Options.{version_of}
use Rattle.toml_edit_command.proofs.read.read_document.Goals as goal

pub returns-in_err-text-clause-err : goal.returns-in_err-text-clause-err
returns-in_err-text-clause-err g c =
    let q = err_from_is_err_and c.from_residual.result c.from_residual.ensures.1 in
    rw (q.1, q.2) (c.in_err-text.ensures.err (version_of c.args.options))

pub returns-in_err-text-clause-err_end : goal.returns-in_err-text-clause-err_end
returns-in_err-text-clause-err_end g c =
    let q = err_from_is_err_and c.from_residual.result c.from_residual.ensures.1 in
    rw (q.1, q.2) c.in_err-text.ensures.err_end

some-with : (o : Option Text) (P Q : Text → Type 0) → ((t : Text) → P t → Q t) → IfSome o P → IfSome o Q
some-with None P Q f h = h
some-with (Some t) P Q f h = f t h

pub returns-in-Ok-to_string-clause-err : goal.returns-in-Ok-to_string-clause-err
returns-in-Ok-to_string-clause-err g c =
    let v = version_of c.args.options in
    let text = c.in_ok-text.text in
    let shown = string_bytes c.in-Ok-to_string.excerpt in
    let refused = subst (λ e. IfToml e (λ r. IsRefused v (string_bytes text) × IsRefusalIn v (string_bytes text) r)) c.in-Err-Toml.field-0-is c.in-Err-Toml.ensures.refused in
    let Stops = λ (t : Text). IsUtf8 t × IsRefused v t × IsExcerptOf v t shown in (
      some-with (g.I.Input.remaining c.args.input.now) (λ t. string_bytes text ≡ t) Stops
          (λ t same. subst Stops same (IsUtf8-string_bytes text, refused.0, (c.in-Err-Toml.error, refused.1, c.in-Ok-to_string.ensures.ok)))
          c.in_ok-text.ensures.text,
      c.in_ok-text.ensures.ok,
    )
