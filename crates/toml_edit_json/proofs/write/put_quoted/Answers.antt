use Rattle.toml_edit_io.proofs.Puts.{put_three}
use Rattle.toml_edit_json.proofs.Printing.{written-quoted}
use Rattle.toml_edit_json.proofs.write.put_quoted.Goals as goal

pub returns : goal.returns
returns g c = put_three _ _ _ _ _ _ _ _ c.put.ensures c.put_text.ensures c.put-2.ensures (written-quoted c.args.text.now)
