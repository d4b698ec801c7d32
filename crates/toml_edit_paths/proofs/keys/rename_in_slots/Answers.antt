-- What is there under the key gets the name.
use Rattle.std.proofs.Common.{sym}
use Rattle.toml_edit_tree.specs.View.{item_view}
use Rattle.toml_edit_paths.proofs.KeyLaws.{slots-rename}
use Rattle.toml_edit_paths.proofs.keys.rename_in_slots.Goals as goal

pub returns-in-Some : goal.returns-in-Some
returns-in-Some c =
    slots-rename c.args.key.now.name c.args.name.now c.get.result.now c.get-in-Some.result.now c.args.slots.now c.rename.new.self
    (item_view c.in-Some.field-0.now) c.get.ensures.name c.get-in-Some.ensures.name (sym c.in-Some.ensures) c.rename.result
    c.rename.ensures.told c.rename.ensures.slots c.rename.ensures.err
