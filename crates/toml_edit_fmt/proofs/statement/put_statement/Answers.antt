-- A header or a line.
use Rattle.std.proofs.Common.{refl, sym, ◌∙◌}
use Rattle.toml_edit_model.specs.Syntax.{key_line, header}
use Rattle.toml_edit_fmt.proofs.statement.put_statement.Goals as goal

pub returns-then-is_header-clause-laid : goal.returns-then-is_header-clause-laid
returns-then-is_header-clause-laid c (header h end) start is there same = c.put_header.ensures.laid h end start is there same
returns-then-is_header-clause-laid c (key_line f v end) start is there same =
    let told = c.is_header.ensures (key_line f v end) start same in let yes = c.if-is_header.true in absurd cc

pub returns-else-is_header-clause-laid : goal.returns-else-is_header-clause-laid
returns-else-is_header-clause-laid c (key_line f v end) start is there same = c.put_key_line.ensures.laid f v end start is there same
returns-else-is_header-clause-laid c (header h end) start is there same =
    let told = c.is_header.ensures (header h end) start same in let no = c.if-is_header.false in absurd cc
