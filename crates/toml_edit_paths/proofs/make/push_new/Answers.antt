-- A new key comes after the others.
use Rattle.std.proofs.Common.{◌++◌, [], ◌∷◌, ap, ◌∙◌}
use Rattle.toml_edit_model.specs.Keys.{cleared_key}
use Rattle.toml_edit_model.specs.Slots.{keyed}
use Rattle.toml_edit_model.specs.Tree.{Key}
use Rattle.toml_edit_tree.specs.declared.item.Item.{Item}
use Rattle.toml_edit_tree.specs.Indexed.{shown_slots}
use Rattle.toml_edit_tree.specs.View.{item_view}
use Rattle.toml_edit_paths.proofs.SlotLaws.{pairs-last}
use Rattle.toml_edit_paths.proofs.make.push_new.Goals as goal

pub returns-in-Ok-clause-made : goal.returns-in-Ok-clause-made
returns-in-Ok-clause-made c =
    let es = c.args.slots.now in
    ap shown_slots c.in-Ok.ensures.slots
    ∙ pairs-last es (record { key = c.in_ok-key.key; item = c.replace-item.result })
    ∙ ap (λ (k : Key). shown_slots es ++ (keyed k (item_view c.replace-item.result) ∷ [])) c.in_ok-key.ensures
    ∙ ap (λ (x : Item). shown_slots es ++ (keyed (cleared_key c.args.key.now) (item_view x) ∷ [])) c.replace-item.ensures.value
