-- The keys before the last, what stands before it, and it.
use Rattle.std.proofs.Common.{sym}
use Rattle.toml_edit_repr.specs.Modes.{mode_of}
use Rattle.toml_edit_io.proofs.Puts.{put_three}
use Rattle.toml_edit_tree.specs.Printing.{keys_on}
use Rattle.toml_edit_laws.proofs.print_by_visits.KeyTexts.{path-is}
use Rattle.toml_edit_tree.proofs.encode.put_path.Goals as goal

pub returns : goal.returns
returns g c =
    put_three _ _ _ _ _ _ _ _ c.put_dotted_keys.ensures c.put_before_key.ensures c.put_key_text.ensures
    (sym (path-is (mode_of c.args.mode) (keys_on c.args.path.now) c.args.key.now))
