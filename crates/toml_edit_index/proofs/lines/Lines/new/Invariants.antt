-- The marks of the bytes up to here, and where this one is.
use Rattle.std.proofs.Common.{◌≡◌, ◌+◌, ◌*◌, ◌<◌, ◌≤◌, length}
use Rattle.toml_edit_index.specs.Lines.{AreMarks, position_at}
use Rattle.toml_edit_index.proofs.lines.Lines.new.Given as goal

abbrev pub invariant-bytes : goal.invariant-bytes
invariant-bytes l = record {
  here : l.here ≡ position_at l.bytes l.at;
  low : l.at ≤ 64 * length l.marks.items;
  high : 64 * length l.marks.items < l.at + 64;
  marks : AreMarks l.bytes l.marks.items;
}
