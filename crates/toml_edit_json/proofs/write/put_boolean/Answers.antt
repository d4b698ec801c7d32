use Rattle.std.proofs.Common.{sym}
use Rattle.toml_edit_io.proofs.Puts.{put_same}
use Rattle.toml_edit_json.proofs.Printing.{value_text-boolean}
use Rattle.toml_edit_json.proofs.write.put_boolean.Goals as goal

pub returns : goal.returns
returns g c = put_same _ _ _ _ c.put_default.ensures (sym (value_text-boolean c.args.value))
