-- Where no trivia stands, or one space.
use Rattle.std.proofs.Common.{◌≡◌, ℕ, false, None, sym, subst, ◌∙◌, arith}
use Rattle.std.proofs.lemmas.Str.{IsCharBoundary-start, IsCharBoundary-after_ascii}
use Rattle.toml_edit_laws.proofs.reading.RunLaws.{within_from_byte}
use Rattle.toml_edit_syntax.specs.Scanning.{turn}
use Rattle.toml_edit_syntax.proofs.TriviaLaws.{solid_trivia, spaced_trivia}
use Rattle.toml_edit_syntax.proofs.value.whole_trivia.Goals as goal

pub split_at-requires : goal.split_at-requires
split_at-requires c = IsCharBoundary-start c.args.s.now c.utf8.s

pub returns-then-is_solid-clause-value : goal.returns-then-is_solid-clause-value
returns-then-is_solid-clause-value c =
    let is_none = λ (next : ℕ). subst (λ b. turn false b next ≡ None) c.first_byte.ensures (c.is_solid.ensures next c.if-is_solid.true) in
    rw (c.split_at.ensures.front, c.split_at.ensures.back) (solid_trivia c.args.s.now is_none)

pub split_at-requires-then-is_solid-2 : goal.split_at-requires-then-is_solid-2
split_at-requires-then-is_solid-2 c =
    let s = c.args.s.now in
    let space = sym c.first_byte-2.ensures ∙ c.if-first_byte-eq32.true in
    IsCharBoundary-after_ascii s 0 c.utf8.s (within_from_byte s 0 (omega (arith, space))) (omega (arith, space))

pub returns-then-is_solid-2-clause-value : goal.returns-then-is_solid-2-clause-value
returns-then-is_solid-2-clause-value c =
    let is_none = λ (next : ℕ). subst (λ b. turn false b next
    ≡ None) c.byte_at.ensures (c.is_solid-then-first_byte-eq32.ensures next c.if-is_solid-2.true) in
    let parts = c.split_at-then-is_solid-2.ensures in
    rw (parts.front, parts.back) (spaced_trivia c.args.s.now (sym c.first_byte-2.ensures ∙ c.if-first_byte-eq32.true) is_none)
