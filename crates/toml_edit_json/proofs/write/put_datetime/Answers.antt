use Rattle.std.proofs.Common.{sym}
use Rattle.toml_edit_io.proofs.Puts.{put_three}
use Rattle.toml_edit_json.proofs.Printing.{value_text-string}
use Rattle.toml_edit_json.proofs.write.put_datetime.Goals as goal

pub returns : goal.returns
returns g c = put_three _ _ _ _ _ _ _ _ c.put.ensures c.put_escaped_datetime.ensures c.put-2.ensures (sym (value_text-string _))
