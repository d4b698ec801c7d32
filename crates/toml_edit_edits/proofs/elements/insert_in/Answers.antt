-- A table more.
use Rattle.std.proofs.Common.{◌∙◌, ap, sym}
use Rattle.std.specs.Option.{option_copied}
use Rattle.toml_edit_tree.specs.Containers.{table_node}
use Rattle.toml_edit_tree.specs.View.{table_view, tables_view, value_view}
use Rattle.toml_edit_edits.specs.Elements.{place_in}
use Rattle.toml_edit_edits.proofs.ElementLaws.{inserted-made}
use Rattle.toml_edit_edits.proofs.elements.insert_in.Goals as goal

pub returns : goal.returns
returns c =
    let k = option_copied c.args.number in
    inserted-made (tables_view c.args.tables.now) (tables_view c.put_before.new.tables) c.in_ok-put_before.ensures.extent k (value_view c.args.value.now)
    (table_node (table_view c.in_ok-table.table)) c.in-Some.at (ap (λ n. place_in n k) (sym c.len.ensures) ∙ sym c.in-Some.ensures.place)
    c.in_ok-table.ensures c.in_ok-put_before.ensures.items
