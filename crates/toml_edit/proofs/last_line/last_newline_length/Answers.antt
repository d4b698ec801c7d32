-- The last of the headers gives the last statement.
use Rattle.std.proofs.Common.{Option, Some, length, sym, ap, ◌∙◌}
use Rattle.std.specs.Option.{option_copied}
use Rattle.toml_edit_model.specs.Mode.{exact}
use Rattle.toml_edit_model.specs.Tree.{Decor}
use Rattle.toml_edit_tree.specs.View.{fields_view, table_slots}
use Rattle.toml_edit.specs.HeadersView.{header_view}
use Rattle.toml_edit.specs.LastLines.{last_of_root, newline_of}
use Rattle.toml_edit.proofs.FoundLastLaws.{last-header}
use Rattle.toml_edit.proofs.last_line.last_newline_length.Goals as goal

pub returns-in-Some : goal.returns-in-Some
returns-in-Some c =
    let h = c.in-Some.header.now in
    let root = c.args.root.now in
    c.length_in_table.ensures (Some (fields_view h.table.now).decor)
    (c.newline_length.ensures ∙ ap (λ (d : Decor). length (newline_of exact (Some d))) c.decor.ensures)
    ∙ ap (λ (d : Option Decor). length (newline_of exact d))
    (sym (last-header header_view c.args.headers.now h (last_of_root (fields_view root) (table_slots root)) (sym c.last.ensures.value
    ∙ ap option_copied c.in-Some.is)))
