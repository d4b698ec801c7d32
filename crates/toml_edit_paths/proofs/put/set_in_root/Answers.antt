-- The slots of the root are those of an item.
use Rattle.std.proofs.Common.{ap, sym, ◌∙◌, refl, true}
use Rattle.toml_edit_tree.specs.Containers.{table_node}
use Rattle.toml_edit_tree.specs.Indexed.{shown_slots}
use Rattle.toml_edit_tree.specs.View.{item_view, table_view}
use Rattle.toml_edit_paths.specs.Setting.{set_by}
use Rattle.toml_edit_paths.proofs.ChangeLaws.{renamed}
use Rattle.toml_edit_paths.proofs.SetLaws.{set-step}
use Rattle.toml_edit_paths.proofs.StepLaws.{root-left, root-slots, slots-change, slots-go}
use Rattle.toml_edit_paths.proofs.put.set_in_root.Goals as goal

pub returns-in-Some : goal.returns-in-Some
returns-in-Some c =
    let held = table_view c.args.root.now in
    let v = item_view c.args.value.now in
    let k = c.in-Some.key.now in
    let rest = c.in-Some.rest.now in
    let go = set_by c.args.headers v rest in
    let es = c.slots_mut.result.now in
    let new = c.set_in_slots.new.slots in
    let is = root-slots held es c.slots_mut.ensures.slots in
    renamed _ _ _ _ _ _ _
    (slots-go true k go (table_node held) (shown_slots es) is ∙ set-step c.args.headers v k rest (table_node held) (λ none. absurd cc)
    ∙ ap (λ path. set_by c.args.headers v path (table_node held)) (sym c.in-Some.ensures.cases.0))
    refl (root-left held _ new (c.slots_mut.ensures.others new))
    (slots-change _ (table_node held) (shown_slots es) (shown_slots new) _ is c.set_in_slots.ensures)
