use Rattle.std.proofs.Common.{◌≡◌, ◌++◌, ◌+◌, ◌<◌, ◌≤◌, ℕ, ◌⊎◌, List, length, take, string_bytes}
use Rattle.std.specs.List.{flat_map}
use Rattle.line_diff.specs.Diff.{line_text}
use Rattle.line_diff.specs.Steps.{lines_of}
use Rattle.line_diff.proofs.hunks.write_hunk.Given as goal

abbrev pub invariant-steps : goal.invariant-steps
invariant-steps l = string_bytes l.out ≡ string_bytes l.initial.out ++ flat_map line_text (lines_of (take l.step-index l.hunk))
