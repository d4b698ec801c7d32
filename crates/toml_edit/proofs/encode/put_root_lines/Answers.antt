-- The lines are those of the root.
use Rattle.std.proofs.Common.{[], ◌∙◌, ap, sym, if◌then◌else◌}
use Rattle.toml_edit_laws.specs.PrintByVisits.{written_lines}
use Rattle.toml_edit_laws.proofs.print_by_visits.ValueTexts.{lines-are}
use Rattle.toml_edit_repr.specs.Modes.{mode_of}
use Rattle.toml_edit_io.proofs.Puts.{put_same}
use Rattle.toml_edit_tree.specs.View.{table_slots}
use Rattle.toml_edit.proofs.encode.put_root_lines.Goals as goal

pub returns : goal.returns
returns g c =
    let ss = table_slots c.args.root.now in
    put_same _ _ _ _ c.put_table_lines.ensures
    (lines-are (mode_of c.args.mode) ss [] ∙ sym (ap (λ b. if b then []
    else written_lines (mode_of c.args.mode) ss []) (sym c.is_dotted.ensures ∙ c.if-is_dotted.false)))
