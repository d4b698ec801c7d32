-- The gaps are those around the value.
use Rattle.std.proofs.Common.{◌≡◌, ap, suc, ◌∙◌}
use Rattle.std.proofs.lemmas.Result.{on_ok_weaker}
use Rattle.toml_edit_model.specs.ArrayCalls.{inserted_at}
use Rattle.toml_edit_model.specs.Tree.{node_decor, owned}
use Rattle.toml_edit_tree.specs.Elements.{array_fields, items_of}
use Rattle.toml_edit_tree.specs.View.{value_view}
use Rattle.toml_edit_tree.specs.ArrayLines.{fields_with_gap, followed, gaps_around, placed, with_gap}
use Rattle.toml_edit_tree.proofs.array.Array.insert_line.Goals as goal

pub returns-in-Ok-clause-items : goal.returns-in-Ok-clause-items
returns-in-Ok-clause-items c =
    let f = array_fields c.args.self.now in
    let xs = items_of c.args.self.now in
    let at = c.args.at in
    let v = value_view c.args.value in
    let before : c.in-Ok.before ≡ owned (gaps_around at (node_decor v) f xs).0 =
    c.in-Ok.ensures.before ∙ ap (λ d. owned (gaps_around at d f xs).0) c.decor.ensures in
    let after : c.in-Ok.after ≡ owned (gaps_around at (node_decor v) f xs).1 =
    c.in-Ok.ensures.after ∙ ap (λ d. owned (gaps_around at d f xs).1) c.decor.ensures in
    on_ok_weaker c.insert_between.result
    (λ is. is ∙ (λ i. with_gap (suc at) (after i) f (inserted_at at (placed (before i) v) (followed at f xs))))
    c.insert_between.ensures.items

pub returns-in-Ok-clause-fields : goal.returns-in-Ok-clause-fields
returns-in-Ok-clause-fields c =
    let f = array_fields c.args.self.now in
    let xs = items_of c.args.self.now in
    let at = c.args.at in
    let v = value_view c.args.value in
    let before : c.in-Ok.before ≡ owned (gaps_around at (node_decor v) f xs).0 =
    c.in-Ok.ensures.before ∙ ap (λ d. owned (gaps_around at d f xs).0) c.decor.ensures in
    let after : c.in-Ok.after ≡ owned (gaps_around at (node_decor v) f xs).1 =
    c.in-Ok.ensures.after ∙ ap (λ d. owned (gaps_around at d f xs).1) c.decor.ensures in
    on_ok_weaker c.insert_between.result
    (λ is. is ∙ (λ i. fields_with_gap (suc at) (after i) f (inserted_at at (placed (before i) v) (followed at f xs))))
    c.insert_between.ensures.fields
