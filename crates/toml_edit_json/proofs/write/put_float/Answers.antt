use Rattle.std.proofs.Common.{sym, ◌∙◌}
use Rattle.toml_edit_io.proofs.Puts.{put_same}
use Rattle.toml_edit_json.proofs.Printing.{value_text-decimal, value_text-special}
use Rattle.toml_edit_json.proofs.write.put_float.Goals as goal

pub returns-then-is_special : goal.returns-then-is_special
returns-then-is_special g c =
    put_same _ _ _ _ c.put_special.ensures (value_text-special c.args.text.now (sym c.is_special.ensures ∙ c.if-is_special.true))

pub returns-else-is_special : goal.returns-else-is_special
returns-else-is_special g c =
    put_same _ _ _ _ c.put_text.ensures (value_text-decimal c.args.text.now (sym c.is_special.ensures ∙ c.if-is_special.false))
