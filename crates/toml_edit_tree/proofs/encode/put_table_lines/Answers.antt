-- The lines that are visited are put.
use Rattle.std.proofs.Common.{[], false, refl, rules}
use Rattle.toml_edit_io.proofs.Puts.{put_same}
use Rattle.toml_edit_repr.specs.Modes.{mode_of}
use Rattle.toml_edit_tree.specs.View.{table_slots}
use Rattle.toml_edit_tree.specs.Visits.{shown_lines}
use Rattle.toml_edit_tree.proofs.VisitLaws.{lines-put, lines-shown, same-sink}
use Rattle.toml_edit_tree.proofs.encode.put_table_lines.Goals as goal

pub returns : goal.returns
returns g c =
    let mode = mode_of c.args.mode in
    let ss = table_slots c.args.table.now in
    let same = same-sink g.S.Sink.puts (λ v. mode_of v.mode) (λ v. v.out) (shown_lines false ss []) _ _ _ c.visit_lines.ensures in
    let fact = put_same _ _ _ _ (lines-put g.S.Sink.puts (λ v. mode_of v.mode) (λ v. v.out) mode (shown_lines false ss []) _ _ _ refl
    c.visit_lines.ensures) (lines-shown mode ss) in
    search rules
