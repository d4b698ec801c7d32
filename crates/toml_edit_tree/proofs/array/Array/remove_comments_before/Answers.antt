-- The lines above the value lose their comments, or there are none.
use Rattle.std.proofs.Common.{◌≡◌, None, ap, rules, sym, ◌∙◌}
use Rattle.toml_edit_model.specs.Comments.{side_text}
use Rattle.toml_edit_model.specs.Slots.{changed_at}
use Rattle.toml_edit_model.specs.Tree.{owned}
use Rattle.toml_edit_tree.specs.ArrayLines.{is_broken, prefix_at, with_prefix}
use Rattle.toml_edit_tree.specs.Elements.{items_of}
use Rattle.toml_edit_tree.specs.LineComments.{uncommented}
use Rattle.toml_edit_tree.proofs.LineCommentLaws.{none-prefix, some-prefix, uncommented-none, uncommented-there}
use Rattle.toml_edit_tree.proofs.array.Array.remove_comments_before.Goals as goal

pub returns-in-Some-clause-items : goal.returns-in-Some-clause-items
returns-in-Some-clause-items c =
    let xs = items_of c.args.self.now in
    let t = side_text (prefix_at c.args.at xs) in
    let found = some-prefix (is_broken t) c.in-Some.prefix (owned (uncommented t)) (sym c.in-Some.is ∙ c.in_ok-prefix.ensures) in
    c.set_prefix.ensures.items ∙ ap (λ r. changed_at c.args.at (with_prefix r) xs) found.1 ∙ uncommented-there xs c.args.at found.0

pub returns-in_default-clause-items : goal.returns-in_default-clause-items
returns-in_default-clause-items c =
    let xs = items_of c.args.self.now in
    let t = side_text (prefix_at c.args.at xs) in
    let none : c.in_ok-prefix.field-0 ≡ None = search rules in
    uncommented-none xs c.args.at (none-prefix (is_broken t) (owned (uncommented t)) (sym none ∙ c.in_ok-prefix.ensures))
