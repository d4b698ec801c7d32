-- The document's tree is what `remove_line` makes of it.
use Rattle.toml_edit.proofs.AtLaws.{remove-line-root}
use Rattle.toml_edit.proofs.document.DocumentMut.remove_line_at.Goals as goal
use Rattle.toml_edit_model.specs.Keys.{names}

pub returns-clause-changes : goal.returns-clause-changes
returns-clause-changes c =
    remove-line-root c.args.self.now c.as_table_mut.result.now c.remove_line.new.root c.as_table_mut.ensures.fields
    c.as_table_mut.ensures.slots (names c.args.path.now) c.remove_line.result c.remove_line.ensures
