-- The table is the root of a document that fits.
use Rattle.std.proofs.Common.{◌∙◌}
use Rattle.toml_edit_tree.specs.View.{fields_view, table_slots}
use Rattle.toml_edit_items.proofs.ShapeLaws.{spelled_table}
use Rattle.toml_edit_items.proofs.shape.whole.Goals as goal

pub returns-then-branch : goal.returns-then-branch
returns-then-branch c =
    spelled_table c.from-document.result (fields_view c.args.table.now) (table_slots c.args.table.now)
    (c.from-document.ensures.0 ∙ c.in_ok-root_of.ensures) c.from-document.ensures.1 _ c.in_ok-print.ensures
    (c.in_ok-fits.ensures.reparse c.if-branch.true)
