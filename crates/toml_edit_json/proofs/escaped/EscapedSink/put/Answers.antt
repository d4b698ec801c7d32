use Rattle.std.proofs.Common.{refl}
use Rattle.toml_edit_io.proofs.Puts.{put_once, put_same}
use Rattle.toml_edit_json.proofs.Printing.{written-escape}
use Rattle.toml_edit_json.proofs.escaped.EscapedSink.put.Goals as goal

pub returns : goal.returns
returns g c =
    put_once _ _ _ (record { same_reference = refl; wrote = put_same _ _ _ _ c.put_text.ensures (written-escape c.args.text.now) })
