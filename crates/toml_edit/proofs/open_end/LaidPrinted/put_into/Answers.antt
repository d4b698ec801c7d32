-- The newline of the last statement is held back where the end is left open.
use Rattle.std.proofs.Common.{map, length, sym, ap, ◌∙◌}
use Rattle.toml_edit_model.specs.Mode.{exact}
use Rattle.toml_edit_model.specs.Print.{print_in}
use Rattle.toml_edit_repr.specs.Modes.{mode_of}
use Rattle.toml_edit_io.proofs.Puts.{put_same}
use Rattle.toml_edit_tree.specs.View.{fields_view, table_slots, tree_view}
use Rattle.toml_edit.specs.HeadersView.{header_view}
use Rattle.toml_edit.specs.LastLines.{last_headed, last_of_root, last_statement, newline_of}
use Rattle.toml_edit.proofs.OpenEndLaws.{closed-print, open-print}
use Rattle.toml_edit.proofs.open_end.LaidPrinted.put_into.Goals as goal

pub returns-then-is_left_open : goal.returns-then-is_left_open
returns-then-is_left_open g c =
    let l = c.args.self.now in
    let t = tree_view l.root.now l.trailing.now in
    let m = mode_of l.mode in
    let before = last_of_root (fields_view l.root.now) (table_slots l.root.now) in
    c.put_but_newline.ensures (last_statement t.root t.slots) (print_in m l.open_end t)
    (c.last_newline_length-length.ensures
    ∙ ap (λ hs. length (newline_of exact (last_headed (map header_view hs) before))) c.as_slice.ensures.value ∙ ap length l.last)
    (open-print m l.open_end t (sym c.is_left_open.ensures ∙ c.if-is_left_open.true))

pub returns-else-is_left_open : goal.returns-else-is_left_open
returns-else-is_left_open g c =
    let l = c.args.self.now in
    put_same _ _ _ _ c.put_closed.ensures
    (sym (closed-print (mode_of l.mode) l.open_end (tree_view l.root.now l.trailing.now) (sym c.is_left_open.ensures
    ∙ c.if-is_left_open.false)))
