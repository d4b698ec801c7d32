-- Where the bytes up to here end.
use Rattle.std.proofs.Common.{◌≡◌, take}
use Rattle.toml_edit_index.specs.Lines.{after_bytes}
use Rattle.toml_edit_index.proofs.lines.Position.after.Given as goal

abbrev pub invariant-bytes : goal.invariant-bytes
invariant-bytes l = l.here ≡ after_bytes l.fn.self (take l.byte-index l.bytes)
