-- The array is put together of what it has beside its values, and those; the value is a copy.
use Rattle.std.proofs.Common.{◌∙◌, ap}
use Rattle.toml_edit_tree.specs.View.{array_view}
use Rattle.toml_edit_edits.specs.Effects.{with_line}
use Rattle.toml_edit_edits.proofs.OutcomeLaws.{array-holds}
use Rattle.toml_edit_edits.proofs.arrays.with_line.Goals as goal

pub returns-in-Ok-insert_line : goal.returns-in-Ok-insert_line
returns-in-Ok-insert_line c =
    array-holds (array_view c.insert_line.new.self) _ _ c.in-Ok-insert_line.ensures.fields c.in-Ok-insert_line.ensures.items
    ∙ ap (λ v. with_line c.args.at v (array_view c.args.array)) c.in-Ok.ensures
