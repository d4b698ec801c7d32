-- The report has the keys up to here.
use Rattle.std.proofs.Common.{◌≡◌, ◌++◌, codes, flat_map, string_bytes, take}
use Rattle.example_tasks.proofs.lint.misfit.Given as goal

abbrev pub invariant-loop-key : goal.invariant-loop-key
invariant-loop-key l = string_bytes l.report ≡ flat_map (λ k. k.name ++ codes ": ") (take l.key-index l.key-items)
