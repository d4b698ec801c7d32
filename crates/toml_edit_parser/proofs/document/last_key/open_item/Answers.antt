use Rattle.std.proofs.Common.{ap, ◌∙◌}
use Rattle.toml_edit_tree.specs.View.{item_view}
use Rattle.toml_edit_parser.proofs.document.last_key.open_item.Goals as goal
use Rattle.toml_edit_parser.proofs.ViewLaws.{view-Table}

pub returns-in-Table-clause-opened : goal.returns-in-Table-clause-opened
returns-in-Table-clause-opened c =
    λ mode g s m k head is.
    let seen = ap item_view c.in-Table.is ∙ view-Table c.in-Table.table in
    let told = c.open_table.ensures.opened mode g s m k head is in
    rw (seen, ← c.in-Table.table-is) told
