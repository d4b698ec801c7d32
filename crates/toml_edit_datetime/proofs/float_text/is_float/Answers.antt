-- What passes the test is a float, and a float passes it.
use Rattle.std.proofs.Common.{◌≡◌, rules, sym, ◌∙◌}
use Rattle.toml_edit_laws.specs.reading.FloatReading.{is_float_text}
use Rattle.toml_edit_laws.proofs.reading.FloatLaws.{float_takes, float_again}
use Rattle.toml_edit_datetime.proofs.float_text.is_float.Goals as goal

pub returns-clause-float : goal.returns-clause-float
unfolding is_float_text
returns-clause-float c =
    let same : c.is_unsigned_float.result ≡ is_float_text c.args.text.now = search rules in
    (λ passed. float_takes c.args.text.now (sym same ∙ passed), λ float. same ∙ float_again c.args.text.now float)
