-- The document's tree is what the closure makes of it.
use Rattle.toml_edit.proofs.AtLaws.{change-root, change-takes}
use Rattle.toml_edit.proofs.document.DocumentMut.change_at.Goals as goal
use Rattle.toml_edit_model.specs.Keys.{names}

pub returns-clause-changes : goal.returns-clause-changes
returns-clause-changes g c =
    change-root c.args.self.now c.as_table_mut.result.now c.change.new.root c.as_table_mut.ensures.fields c.as_table_mut.ensures.slots
    g.F.FnOnce c.args.change
    (names c.args.path.now) c.change.result c.change.ensures

pub change-requires : goal.change-requires
change-requires g c =
    let root = c.as_table_mut.result.now in
    change-takes c.args.self.now root root c.as_table_mut.ensures.fields c.as_table_mut.ensures.slots g.F.FnOnce c.args.change
    (names c.args.path.now) c.requires
