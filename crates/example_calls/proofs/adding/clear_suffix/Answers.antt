-- The value at the place has its decor with another suffix.
use Rattle.std.proofs.Common.{◌≡◌, [], Some, ap, sym, ◌∙◌, rules}
use Rattle.toml_edit.specs.model.ArrayCalls.{written_at}
use Rattle.toml_edit.specs.model.Conversions.{with_decor}
use Rattle.toml_edit.specs.model.Tree.{Decor, node_decor, owned}
use Rattle.toml_edit.specs.tree.Casts.{decorated}
use Rattle.toml_edit.specs.tree.Elements.{items_of}
use Rattle.toml_edit.specs.tree.View.{value_view}
use Rattle.example_calls.proofs.LineLaws.{suffix-none, suffix-written}
use Rattle.example_calls.proofs.adding.clear_suffix.Goals as goal
use Rattle.example_calls.proofs.ViewLaws.{decorated-view}

pub returns-in-Some-clause-items : goal.returns-in-Some-clause-items
returns-in-Some-clause-items c =
    let xs = items_of c.args.array.now in
    let v = c.in-Some.value.now in
    let d = c.set_suffix.new.self in
    let is : d ≡ record (node_decor (value_view v)) { suffix = Some (owned []) } = search rules in
    c.in-Some.ensures.leaves (decorated d v)
    ∙ ap (λ n. written_at c.args.at n xs) (decorated-view d v ∙ ap (λ (d : Decor). with_decor d (value_view v)) is)
    ∙ suffix-written xs c.args.at (value_view v) (sym c.in-Some.ensures.value)

pub returns-in_default-clause-items : goal.returns-in_default-clause-items
returns-in_default-clause-items c = suffix-none (items_of c.args.array.now) c.args.at (search rules)
