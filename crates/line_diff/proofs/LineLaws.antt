-- The pieces of a text that end at its line feeds are its lines.
use Rattle.std.proofs.Common.{◌≡◌, ◌≢◌, ◌∙◌, ap, sym, subst, ℕ, ◌+◌, ◌-◌, ◌<◌, List, map, length, take, get_or, true, Bor, arith, length-take}
use Rattle.std.specs.Prelude.{IfSome, None, Option, Some, slice_get, slice_index}
use Rattle.std.specs.Option.{option_map}
use Rattle.std.specs.List.{concat}
use Rattle.std.specs.Iterator.Runs.{Run, YieldsRun}
use Rattle.std.specs.Str.Iter.{EndsAtEveryByte, LacksByte}
use Rattle.std.proofs.lemmas.List.{get_or-take, length-map}
use Rattle.std.proofs.lemmas.Option.{slice_get-map}
use Rattle.line_diff.specs.Diff.{AreLines, IsLine, Text}
use Rattle.line_diff.specs.Steps.{texts}

at-is : {S : Type 0} {steps : S → Option (Bor Text) → S → Type 0} (p : Run steps) (k : ℕ) → p.at k ≡ slice_get p.items k
unfolding YieldsRun
at-is p k = p.gave.1 k

to-line : (line : Text) → (0 < length line) × LacksByte 10 (take (length line - 1) line) → IsLine line
to-line line (some, none) = (some, λ k lt e. none k (omega (arith, length-take (length line - 1) line)) (before k lt ∙ e))
  where
    before : (k : ℕ) → k + 1 < length line → get_or (take (length line - 1) line) k 0 ≡ get_or line k 0
    before k lt = get_or-take (length line - 1) line k 0 (omega arith)

of-text : (P Q : Text → Type 0) → ((line : Text) → P line → Q line) → (o : Option (Bor Text)) → IfSome o (λ x. P x.now) → IfSome (option_map (λ x. x.now) o) Q
of-text P Q f None h = h
of-text P Q f (Some x) h = f x.now h

pub are-lines : {S : Type 0} {steps : S → Option (Bor Text) → S → Type 0} (p : Run steps) (text : Text) → text ≡ concat (map (λ x. x.now) p.items)
    → EndsAtEveryByte p text 10 → AreLines text (texts p.items)
are-lines p text all (each, ended, more) =
    record {
      joined = sym all;
      each = λ k. subst (λ o. IfSome o IsLine) (at k) (of-text (λ l. (0 < length l) × LacksByte 10 (take (length l - 1) l)) IsLine to-line (p.at k) (each k));
      ended = λ k lt. subst (λ o. IfSome o (λ l. slice_index l (length l - 1) ≡ 10)) (at k)
          (of-text (λ l. slice_index l (length l - 1) ≡ 10) (λ l. slice_index l (length l - 1) ≡ 10) (λ l h. h) (p.at k) (ended k (long k lt)));
    }
  where
    at : (k : ℕ) → option_map (λ (x : Bor Text). x.now) (p.at k) ≡ slice_get (texts p.items) k
    at k = ap (option_map (λ (x : Bor Text). x.now)) (at-is p k) ∙ sym (slice_get-map (λ (x : Bor Text). x.now) p.items k)

    long : (k : ℕ) → k + 1 < length (texts p.items) → k + 1 < p.len
    long k lt = omega (arith, lt, length-map p.items (λ x. x.now), p.long)
