-- A byte more has room.
use Rattle.std.proofs.Common.{arith}
use Rattle.toml_edit_index.proofs.LineLaws.{room}
use Rattle.toml_edit_index.proofs.lines.Position.after.Goals as goal

pub after_byte-here-requires-clause-line : goal.after_byte-here-requires-clause-line
after_byte-here-requires-clause-line c =
    (room c.args.self c.bytes.here c.args.bytes.now c.bytes.byte-index _ (omega arith) c.bytes.invariant c.requires.line c.requires.column).0

pub after_byte-here-requires-clause-column : goal.after_byte-here-requires-clause-column
after_byte-here-requires-clause-column c =
    (room c.args.self c.bytes.here c.args.bytes.now c.bytes.byte-index _ (omega arith) c.bytes.invariant c.requires.line c.requires.column).1
