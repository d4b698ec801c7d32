-- The last line begins behind the last line feed, if there is one.
use Rattle.std.proofs.Common.{sym, ◌∙◌}
use Rattle.toml_edit_fmt.proofs.ColumnLaws.{last-boundary, last-found, last-none}
use Rattle.toml_edit_fmt.proofs.columns.last_line.Goals as goal

pub split_at-requires : goal.split_at-requires
split_at-requires c =
    last-boundary c.args.text.now c.as_bytes.result.now c.in-Some.at c.as_bytes.ensures.value c.utf8.text c.in-Some.ensures

pub returns-in-Some : goal.returns-in-Some
returns-in-Some c =
    c.split_at.ensures.back
    ∙ sym (last-found c.args.text.now c.as_bytes.result.now c.in-Some.at c.as_bytes.ensures.value c.in-Some.ensures)

pub returns-in-None : goal.returns-in-None
returns-in-None c = sym (last-none c.args.text.now c.as_bytes.result.now c.as_bytes.ensures.value c.in-None.ensures)
