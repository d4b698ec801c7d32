-- The line is put.
use Rattle.std.proofs.Common.{refl, sym, rules}
use Rattle.toml_edit_io.proofs.Puts.{put_same}
use Rattle.toml_edit_repr.specs.Modes.{mode_of}
use Rattle.toml_edit_tree.specs.Printing.{keys_on}
use Rattle.toml_edit_tree.specs.View.{value_view}
use Rattle.toml_edit_tree.proofs.PairTextLaws.{line-parts}
use Rattle.toml_edit_tree.proofs.encode.PutLinesLineVisitor.visit.Goals as goal

pub returns : goal.returns
returns g c =
    let text = line-parts (mode_of c.args.self.now.mode) (keys_on c.args.path.now) c.args.key.now (value_view c.args.value.now) in
    record {
      goes_on = refl;
      same_mode = search rules;
      same_reference = search rules;
      wrote = put_same _ _ _ _ c.put_line.ensures (sym text);
    }
