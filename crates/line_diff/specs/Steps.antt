-- The script that is built, as lines with what becomes of them.
use Rattle.std.specs.Prelude.{◌≡◌, List, map, ℕ, take}
use Rattle.line_diff.specs.Diff.{Line, Text}
use Rattle.line_diff.specs.declared.script.Step.{Step}
use Rattle.line_diff.specs.declared.script.Kind.{Kind}
use denote.Ref.{Bor}

abbrev pub line_of : Step → Line
line_of step = (step.kind, step.line.now)

abbrev pub lines_of : List Step → List Line
lines_of steps = map line_of steps

abbrev pub texts : List (Bor Text) → List Text
texts lines = map (λ line. line.now) lines

abbrev pub marked : Kind → List Text → List Line
marked kind lines = map (λ line. (kind, line)) lines
