use Rattle.std.proofs.Common.{refl}
use Rattle.json.specs.Print.{print_from}
use Rattle.toml_edit_io.proofs.Puts.{put_same}
use Rattle.toml_edit_json.proofs.write.put_null.Goals as goal

pub returns : goal.returns
unfolding print_from
returns g c = put_same _ _ _ _ c.put.ensures refl
