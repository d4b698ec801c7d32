-- A text that begins as a word is read whole as one.
use Rattle.std.proofs.Common.{◌≡◌, sym, ap, subst, ◌∙◌, Option}
use Rattle.std.specs.Prelude.{option_map, IfOk}
use Rattle.toml_edit_model.specs.Scalars as scalars
use Rattle.toml_edit_laws.specs.reading.Runs.{is_word_byte}
use Rattle.toml_edit_laws.specs.reading.Tokens.{ranged}
use Rattle.toml_edit_token.specs.Decoded.{scalar_view}
use Rattle.toml_edit_token.proofs.WordReading.{word_whole}
use Rattle.toml_edit_token.proofs.decode.read_other.Goals as goal

pub returns-then-is_word : goal.returns-then-is_word
returns-then-is_word c =
    let t = c.args.text.now in
    let begins = sym (c.is_word.ensures ∙ ap is_word_byte c.first_byte.ensures) ∙ c.if-is_word.true in
    subst (λ (o : Option scalars.Scalar). IfOk c.read_word.result (λ r. option_map scalar_view r ≡ ranged t o)) (sym (word_whole t begins))
    c.read_word.ensures
