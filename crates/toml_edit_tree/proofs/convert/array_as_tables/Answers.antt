-- Whether the array's items may be tables decides.
use Rattle.std.proofs.Common.{◌≡◌, None, Some, true, false, map, refl, ap, sym, ◌∙◌}
use Rattle.toml_edit_model.specs.Conversions.{may_be_tables}
use Rattle.toml_edit_model.specs.Lists.{item_list}
use Rattle.toml_edit_model.specs.Tree.{tables}
use Rattle.toml_edit_tree.specs.Containers.{tables_node}
use Rattle.toml_edit_tree.specs.Converting.{tables_made}
use Rattle.toml_edit_tree.specs.declared.array.Array.{out-Array}
use Rattle.toml_edit_tree.specs.View.{array_view, item_view, items_view}
use Rattle.toml_edit_tree.proofs.ConvertLaws.{may-become, may-not}
use Rattle.toml_edit_tree.proofs.ElementLaws.{listed-map}
use Rattle.toml_edit_tree.proofs.ViewLaws.{array_items}
use Rattle.toml_edit_tree.proofs.convert.array_as_tables.Goals as goal

pub returns-then-can_be_tables-clause-ok : goal.returns-then-can_be_tables-clause-ok
returns-then-can_be_tables-clause-ok c =
    let a = c.args.array in
    let may : may_be_tables (item_list (array_view a).items) ≡ true =
    ap (λ l. may_be_tables (item_list l)) (array_items a) ∙ ap may_be_tables (listed-map (out-Array a).values.items)
    ∙ ap (λ l. may_be_tables (map item_view l)) (sym c.as_slice.ensures.value) ∙ sym c.can_be_tables.ensures ∙ c.if-can_be_tables.true in
    may-become (array_view a).fields (array_view a).items may ∙ ap (λ l. Some (tables None (tables_made l))) (array_items a)
    ∙ ap (λ v. Some (tables None (tables_made (items_view v.items)))) (sym c.into_values.ensures)
    ∙ sym (ap (λ v. Some (tables_node v)) c.tables_of_items.ensures)

pub returns-else-can_be_tables-clause-err : goal.returns-else-can_be_tables-clause-err
returns-else-can_be_tables-clause-err c =
    let a = c.args.array in
    let may : may_be_tables (item_list (array_view a).items) ≡ false =
    ap (λ l. may_be_tables (item_list l)) (array_items a) ∙ ap may_be_tables (listed-map (out-Array a).values.items)
    ∙ ap (λ l. may_be_tables (map item_view l)) (sym c.as_slice.ensures.value) ∙ sym c.can_be_tables.ensures ∙ c.if-can_be_tables.false in
    (may-not (array_view a).fields (array_view a).items may, refl)
