-- The value takes its decor with it.
use Rattle.std.proofs.Common.{Some, ap, ◌∙◌, option_map}
use Rattle.toml_edit_tree.specs.Elements.{array_fields, items_of}
use Rattle.toml_edit_tree.specs.View.{value_view}
use Rattle.toml_edit_tree.specs.ArrayLines.{line_taken, redecorated}
use Rattle.toml_edit_tree.proofs.array.Array.remove_line.Goals as goal

pub returns-clause-value : goal.returns-clause-value
returns-clause-value c =
    let f = array_fields c.args.self.now in
    let xs = items_of c.args.self.now in
    let v = value_view c.take_between-value.result in
    ap Some (c.with_decor_taken.ensures ∙ ap (λ d. redecorated d v) c.in_ok-left.ensures.decor)
    ∙ ap (option_map (line_taken c.args.at f xs)) c.take_between-value.ensures.value
