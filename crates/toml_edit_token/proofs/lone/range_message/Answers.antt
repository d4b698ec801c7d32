-- The message of a scalar out of range.
use Rattle.std.proofs.Common.{sym, ap, ◌∙◌, is_some, refl, lit<}
use Rattle.toml_edit_laws.specs.reading.Tokens.{integer_of}
use Rattle.toml_edit_token.proofs.LoneLaws.{integer_message, date_message}
use Rattle.toml_edit_token.proofs.lone.range_message.Goals as goal

pub returns-then-is_integer-clause-message : goal.returns-then-is_integer-clause-message
returns-then-is_integer-clause-message c = λ s spells out.
    integer_message s c.args.text.now spells out
    (sym (ap (λ x. is_some (integer_of x)) c.as_bytes.ensures.value) ∙ sym c.is_integer.ensures ∙ c.if-is_integer.true)

pub returns-else-is_integer-clause-message : goal.returns-else-is_integer-clause-message
returns-else-is_integer-clause-message c = λ s spells out.
    date_message s c.args.text.now spells out
    (sym (ap (λ x. is_some (integer_of x)) c.as_bytes.ensures.value) ∙ sym c.is_integer.ensures ∙ c.if-is_integer.false)

pub returns-then-is_integer-clause-listed : goal.returns-then-is_integer-clause-listed
returns-then-is_integer-clause-listed c = (1, lit< tt, refl)

pub returns-else-is_integer-clause-listed : goal.returns-else-is_integer-clause-listed
returns-else-is_integer-clause-listed c = (2, lit< tt, refl)
