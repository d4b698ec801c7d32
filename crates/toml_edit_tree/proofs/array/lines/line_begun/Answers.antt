-- Neither side before the place has a newline.
use Rattle.std.proofs.Common.{◌≡◌, ◌-◌, None, ap, sym, rules, ◌∙◌}
use Rattle.std.specs.Option.{option_copied}
use Rattle.toml_edit_model.specs.Comments.{side_text}
use Rattle.toml_edit_tree.specs.ArrayLines.{after_newline, prefix_at, suffix_at}
use Rattle.toml_edit_tree.specs.Elements.{items_of}
use Rattle.toml_edit_tree.proofs.ArrayLineLaws.{line-before}
use Rattle.toml_edit_tree.proofs.array.lines.line_begun.Goals as goal

pub places-preserved : goal.places-preserved
places-preserved c =
    let xs = items_of c.args.array.now in
    let place = c.places.place in
    let none : c.after_newline.result ≡ None = search rules in
    let none_after : c.after_newline-in-places.result ≡ None = search rules in
    let before : after_newline (side_text (prefix_at place xs)) ≡ None =
    sym (ap after_newline (c.text_of.ensures ∙ ap side_text c.prefix_at.ensures)) ∙ (sym c.after_newline.ensures ∙ ap option_copied none) in
    let after : after_newline (side_text (suffix_at (place - 1) xs)) ≡ None =
    sym (ap after_newline (c.text_of-in-places.ensures ∙ ap side_text c.suffix_at.ensures))
    ∙ (sym c.after_newline-in-places.ensures ∙ ap option_copied none_after) in
    c.places.invariant ∙ line-before xs place c.places-test.true before after
