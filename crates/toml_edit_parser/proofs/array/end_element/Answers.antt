use Rattle.std.proofs.Common.{List, sym, subst, ◌∙◌}
use Rattle.toml_edit_model.specs.Tree.{Node}
use Rattle.toml_edit_tree.specs.declared.item.Item.{Item}
use Rattle.toml_edit_tree.specs.View.{items_view, value_view}
use Rattle.toml_edit_parser.proofs.ReadFits.{fits-item, fits-with_decor}
use Rattle.toml_edit_parser.proofs.SplitLaws.{first_in}
use Rattle.toml_edit_parser.proofs.ViewLaws.{view-Value}
use Rattle.toml_edit_parser.proofs.NearLaws.{near}
use Rattle.toml_edit_parser.proofs.array.end_element.Goals as goal
use Rattle.toml_edit_model.specs.OwnedForm.{ItemsFit, NodeFits}

pub returns-clause-fits : goal.returns-clause-fits
returns-clause-fits c =
    λ value items.
    let t = c.args.reader.now.source.now in
    let after = (first_in t c.args.events.now c.in-Some.after c.in-Some.rest.now c.in-Some.ensures c.requires.spans).0 in
    let put = fits-with_decor t (value_view c.args.value) _ value (c.raw.ensures.fits t c.requires.before, c.raw-2.ensures.fits t after) in
    let P : Node → Type 0 = λ n. NodeFits t n in
    let Q : List Item → Type 0 = λ xs. ItemsFit t (items_view xs) in
    subst Q (sym c.in_ok-put_value.ensures) (fits-item t c.args.values.now.items _ items
    (subst P (sym (view-Value c.decorated.result ∙ c.decorated.ensures)) put))

pub raw-requires : goal.raw-requires
raw-requires c = near c.args.reader.now.source.now c.args.before c.args.reader.now.short c.requires.before

pub raw-requires-2 : goal.raw-requires-2
raw-requires-2 c =
    let t = c.args.reader.now.source.now in
    near t c.in-Some.after.span c.args.reader.now.short
    (first_in t c.args.events.now c.in-Some.after c.in-Some.rest.now c.in-Some.ensures c.requires.spans).0
