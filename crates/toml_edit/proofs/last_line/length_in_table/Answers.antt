-- The walk keeps what belongs to the last line.
use Rattle.toml_edit_tree.specs.View.{table_slots}
use Rattle.toml_edit.specs.declared.last_line.LastNewline.{LastNewline}
use Rattle.toml_edit.proofs.LastLineLaws.{walk-last}
use Rattle.toml_edit.proofs.last_line.length_in_table.Goals as goal

pub returns : goal.returns
returns c decor is = walk-last (λ (v : LastNewline). v.length) (table_slots c.args.table.now) decor _ _ _ is c.visit_lines.ensures
