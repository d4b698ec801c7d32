-- What was read as an integer is what the text spells.
use Rattle.std.proofs.Common.{◌≡◌, subst}
use Rattle.toml_edit_model.specs.Text.{Text}
use Rattle.toml_edit_laws.specs.reading.Tokens.{fitting, integer_of}
use Rattle.toml_edit_token.proofs.Decoding.{integer_found, integer_only}
use Rattle.toml_edit_token.proofs.decode.decode_integer.Goals as goal

pub returns-clause-found : goal.returns-clause-found
returns-clause-found c =
    integer_found c.args.text.now c.decode_integer.result
    (subst (λ (t : Text). c.decode_integer.result ≡ fitting (integer_of t)) c.as_bytes.ensures.value c.decode_integer.ensures)

pub returns-clause-only : goal.returns-clause-only
returns-clause-only c =
    integer_only c.args.text.now c.decode_integer.result
    (subst (λ (t : Text). c.decode_integer.result ≡ fitting (integer_of t)) c.as_bytes.ensures.value c.decode_integer.ensures)
