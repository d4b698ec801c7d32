use Rattle.std.proofs.Common.{arith}
use Rattle.std.proofs.lemmas.Grind.{common_steps}
use Rattle.std.proofs.lemmas.Bool.Decides.{nat_tests}
use Rattle.toml_edit_laws.proofs.reading.Marks.{bom_boundary}
use Rattle.toml_edit_syntax.proofs.lexer.after_mark.Goals as goal

pub range_from-requires : goal.range_from-requires
range_from-requires c _ = bom_boundary c.args.s.now c.utf8.s (grind (arith, nat_tests, common_steps))
