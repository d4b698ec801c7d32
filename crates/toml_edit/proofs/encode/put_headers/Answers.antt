-- Each turn puts a header and its table's lines.
use Rattle.std.proofs.Common.{◌<◌, [], ◌++◌, length, refl, arith}
use Rattle.toml_edit_model.specs.Print.{table_lines}
use Rattle.toml_edit_laws.specs.PrintByVisits.{header_text, lines_text}
use Rattle.toml_edit_laws.proofs.print_by_visits.Turns.{headers-turn-lines}
use Rattle.toml_edit_repr.specs.Modes.{mode_of}
use Rattle.toml_edit_io.proofs.Puts.{put_none, put_two}
use Rattle.toml_edit_tree.specs.View.{table_slots}
use Rattle.toml_edit.specs.HeadersView.{header_view}
use Rattle.toml_edit.proofs.encode.put_headers.Goals as goal

pub headers-init : goal.headers-init
headers-init g c = ([], put_none _ _ refl, refl)

pub headers-preserved : goal.headers-preserved
headers-preserved g c =
    let (done, wrote, more) = c.headers.invariant in
    let hs = c.args.headers.now in
    let i = c.headers.header-index in
    let x = c.header-item.result in
    let below : i < length hs = omega arith in (
      (done ++ header_text (mode_of c.args.mode) c.headers.is_first (header_view x))
          ++ lines_text (mode_of c.args.mode) (table_lines (mode_of c.args.mode) (table_slots x.table.now) []),
      put_two _ _ _ _ _ _ (put_two _ _ _ _ _ _ wrote c.put_header.ensures refl) c.put_table_lines.ensures refl,
      headers-turn-lines (mode_of c.args.mode) header_view hs i x below c.header-item.is c.headers.is_first done _ more,
    )
