-- Where no trivia stands.
use Rattle.std.proofs.Common.{◌≡◌, ℕ, false, None, subst, sym}
use Rattle.std.proofs.lemmas.Str.{IsCharBoundary-start}
use Rattle.toml_edit_syntax.specs.Scanning.{turn}
use Rattle.toml_edit_syntax.proofs.TriviaLaws.{solid_scan}
use Rattle.toml_edit_syntax.proofs.line.trivia.Goals as goal

pub returns-then-is_solid-clause-value : goal.returns-then-is_solid-clause-value
returns-then-is_solid-clause-value c =
    let is_none = λ (next : ℕ). subst (λ b. turn false b next ≡ None) c.first_byte.ensures (c.is_solid.ensures next c.if-is_solid.true) in
    sym (solid_scan c.args.s.now is_none)

pub returns-then-is_solid-clause-boundary : goal.returns-then-is_solid-clause-boundary
returns-then-is_solid-clause-boundary c = IsCharBoundary-start c.args.s.now c.utf8.s
