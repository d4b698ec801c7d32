-- A text without padding is parsed as its digits.
use Rattle.std.proofs.Common.{◌∙◌, ap, sym, Some}
use Rattle.toml_edit_settings.specs.RuleWords.{is_padded}
use Rattle.toml_edit_settings.proofs.Numbers.{number-none, number-ok}
use Rattle.toml_edit_settings.proofs.values.number.Goals as goal

pub returns-in-Ok : goal.returns-in-Ok
returns-in-Ok c =
    ap (λ n. Some n) c.from.ensures
    ∙ number-ok c.args.value.now c.in-Ok.number (ap is_padded (sym c.as_bytes.ensures.value) ∙ sym c.is_padded.ensures ∙ c.if-is_padded.false)
    c.in-Ok.ensures.value.0

pub returns-in-Err : goal.returns-in-Err
returns-in-Err c =
    number-none _ c.args.value.now c.in-Err.field-0
    (ap is_padded (sym c.as_bytes.ensures.value) ∙ sym c.is_padded.ensures ∙ c.if-is_padded.false) c.in-Err.ensures.value.0
