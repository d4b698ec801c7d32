-- The value at the place has another decor.
use Rattle.std.proofs.Common.{◌≡◌, Some, None, ap, sym, ◌∙◌, rules}
use Rattle.toml_edit_model.specs.ArrayCalls.{written_at}
use Rattle.toml_edit_model.specs.Conversions.{with_decor}
use Rattle.toml_edit_model.specs.Tree.{Decor}
use Rattle.toml_edit_tree.specs.Casts.{decorated}
use Rattle.toml_edit_tree.specs.Elements.{items_of}
use Rattle.toml_edit_tree.specs.View.{value_view}
use Rattle.toml_edit_tree.proofs.ArrayLineLaws.{decor-none, decor-written}
use Rattle.toml_edit_tree.proofs.ViewLaws.{decorated-view}
use Rattle.toml_edit_tree.proofs.array.lines.set_prefix_only.Goals as goal

pub returns-in-Some-clause-items : goal.returns-in-Some-clause-items
returns-in-Some-clause-items c =
    let xs = items_of c.args.array.now in
    let v = c.in-Some.value.now in
    let d = c.set_prefix.new.self in
    let is : d ≡ record { prefix = Some c.args.prefix; suffix = None } =
    c.set_prefix.ensures ∙ ap (λ (e : Decor). record e { prefix = Some c.args.prefix }) c.default-decor.ensures in
    c.in-Some.ensures.leaves (decorated d v)
    ∙ ap (λ n. written_at c.args.at n xs) (decorated-view d v ∙ ap (λ (d : Decor). with_decor d (value_view v)) is)
    ∙ decor-written (λ _. record { prefix = Some c.args.prefix; suffix = None }) xs c.args.at (value_view v) (sym c.in-Some.ensures.value)

pub returns-in_default-clause-items : goal.returns-in_default-clause-items
returns-in_default-clause-items c =
    decor-none (λ _. record { prefix = Some c.args.prefix; suffix = None }) (items_of c.args.array.now) c.args.at (search rules)
