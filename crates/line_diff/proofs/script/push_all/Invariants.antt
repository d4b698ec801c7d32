use Rattle.std.proofs.Common.{◌≡◌, ◌++◌, ◌+◌, ◌<◌, ◌≤◌, ℕ, ◌⊎◌, List, length, take, string_bytes}
use Rattle.line_diff.specs.Steps.{lines_of, marked, texts}
use Rattle.line_diff.proofs.script.push_all.Given as goal

abbrev pub invariant-lines : goal.invariant-lines
invariant-lines l = lines_of l.steps.items ≡ lines_of l.initial.steps.items ++ marked l.kind (texts (take l.line-index l.lines))
