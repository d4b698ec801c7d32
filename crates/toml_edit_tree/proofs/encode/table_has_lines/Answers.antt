-- A walk ends at the first line, if there is one.
use Rattle.std.proofs.Common.{[], false}
use Rattle.toml_edit_tree.specs.View.{table_slots}
use Rattle.toml_edit_tree.specs.Visits.{shown_lines}
use Rattle.toml_edit_tree.proofs.VisitLaws.{first-ends, some-lines}
use Rattle.toml_edit_tree.proofs.encode.table_has_lines.Goals as goal

pub returns : goal.returns
returns c =
    let ss = table_slots c.args.table.now in
    some-lines ss c.visit_lines.result (first-ends (shown_lines false ss []) _ _ _ c.visit_lines.ensures)
