use Rattle.std.proofs.Common.{replicate}
use Rattle.std.specs.List.{slice_index}
use Rattle.std.specs.Fmt.{HasWritten, IsPlainFormatter}
use Rattle.toml_edit_error.proofs.excerpt.write_repeated.Given as goal

abbrev pub invariant-loop-i : goal.invariant-loop-i
invariant-loop-i g l =
    IsPlainFormatter l.initial.f → HasWritten g.W.Write.write_str_gives l.initial.f (replicate l._i (slice_index l.character 0)) l.f
