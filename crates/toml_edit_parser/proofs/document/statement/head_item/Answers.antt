-- The table of a header, put in the item's place.
use Rattle.std.proofs.Common.{rules, w64, to_z, of_z, ◌≡◌, ap, ◌∙◌}
use Rattle.toml_edit_tree.specs.View.{item_view}
use Rattle.toml_edit_parser.proofs.document.statement.head_item.Goals as goal

pub returns : goal.returns
returns c =
    λ mode b h end are same.
    let own : to_z w64 (of_z w64 c.args.position) ≡ c.args.position = search rules in
    ap item_view c.put.ensures ∙ c.headed_item.ensures mode b h end are (own ∙ same)
