-- The values of an array that gets a line.
use Rattle.std.proofs.Common.{◌≡◌, ℕ, zero, suc, ◌-◌, ◌<◌, ◌==◌, ◌++◌, Bor, codes, drop, get_or, subst, MatchOption, List, [], ◌∷◌, Option}
use Rattle.std.proofs.Common.{Some, None, ap, sym, refl, ◌∙◌, inl, inr, arith, length, if◌then◌else◌}
use Rattle.std.proofs.lemmas.Bool.{cases_Bool, eqb-true}
use Rattle.std.proofs.lemmas.Option.{none-some, same_Some}
use Rattle.std.proofs.lemmas.Str.{len_utf8_ascii}
use Rattle.std.proofs.lemmas.Str.Pattern.{NoCharPasses-char}
use Rattle.std.specs.Option.{option_map_or}
use Rattle.std.specs.Str.{NoCharPasses}
use Rattle.std.specs.Str.Pattern.{RFindsChar, SplitsAroundMatch}
use Rattle.toml_edit.specs.model.ArrayCalls.{pushed, value_at, written_at}
use Rattle.toml_edit.specs.model.Slots.{changed_at}
use Rattle.toml_edit.specs.model.Text.{Text, one}
use Rattle.toml_edit.specs.model.Tree.{Node, nothing, leaf, list, inline, table, tables, is_value_node}
use Rattle.example_calls.specs.Lines.{after_newline, indent_of, without_suffix}

value-is : (x n : Node) → (if is_value_node x then Some x else None) ≡ Some n → x ≡ n
value-is x n e =
    elim (cases_Bool (is_value_node x)) [
      | inl is ↦ same_Some x n (rw is at e)
      | inr other ↦ absurd (none-some n (rw other at e))
    ]

-- the value at the place without its suffix
pub suffix-written : (xs : List Node) (i : ℕ) (n : Node) → value_at i xs ≡ Some n → written_at i (without_suffix n) xs
    ≡ changed_at i without_suffix xs
suffix-written [] i n e = refl
suffix-written (x ∷ xs) zero n e = ap (λ y. without_suffix y ∷ xs) (sym (value-is x n e))
suffix-written (x ∷ xs) (suc i) n e = ap (λ l. x ∷ l) (suffix-written xs i n e)

no-suffix : (x : Node) → (if is_value_node x then Some x else None) ≡ None → x ≡ without_suffix x
no-suffix (leaf s spelling d) e = absurd (none-some (leaf s spelling d) (sym e))
no-suffix (list f xs) e = absurd (none-some (list f xs) (sym e))
no-suffix (inline f ss) e = absurd (none-some (inline f ss) (sym e))
no-suffix (table f ss) e = refl
no-suffix (tables f xs) e = refl
no-suffix nothing e = refl

-- where there is no value nothing changes
pub suffix-none : (xs : List Node) (i : ℕ) → value_at i xs ≡ None → xs ≡ changed_at i without_suffix xs
suffix-none [] i e = refl
suffix-none (x ∷ xs) zero e = ap (λ y. y ∷ xs) (no-suffix x e)
suffix-none (x ∷ xs) (suc i) e = ap (λ l. x ∷ l) (suffix-none xs i e)

changed-front : (f : Node → Node) (xs ys : List Node) (i : ℕ) → i < length xs → changed_at i f (xs ++ ys) ≡ changed_at i f xs ++ ys
changed-front f [] ys i l = absurd (omega arith)
changed-front f (x ∷ xs) ys zero l = refl
changed-front f (x ∷ xs) ys (suc i) l = ap (λ l. x ∷ l) (changed-front f xs ys i (omega arith))

-- the last value loses its suffix before or after another one comes
pub suffix-pushed : (v : Node) (xs : List Node) → without_suffix v ≡ v
    → changed_at (length xs - 1) without_suffix (pushed v xs) ≡ pushed v (changed_at (length xs - 1) without_suffix xs)
suffix-pushed v [] e = ap (λ y. one y) e
suffix-pushed v (x ∷ xs) e = changed-front without_suffix (x ∷ xs) (one v) (length (x ∷ xs) - 1) (omega arith)

-- ---- the indentation

none-after : (t : Text) → ((k : ℕ) → k < length t → get_or t k 0 ≡ 10 → ⊥) → after_newline t ≡ None
none-after [] h = refl
none-after (b ∷ t) h =
    rw (none-after t (λ k l e. h (suc k) (omega arith) e)) (elim (cases_Bool (b == 10)) [
      | inl is ↦ absurd (h 0 (omega arith) (eqb-true b 10 is))
      | inr other ↦ rw other refl
    ])

some-after : (t : Text) (i : ℕ) → i < length t → get_or t i 0 ≡ 10
    → ((k : ℕ) → k < length (drop (suc i) t) → get_or (drop (suc i) t) k 0 ≡ 10 → ⊥)
    → after_newline t ≡ Some (drop (suc i) t)
some-after [] i l e h = absurd (omega arith)
some-after (b ∷ t) zero l e h = rw (none-after t h, e) refl
some-after (b ∷ t) (suc i) l e h = rw (some-after t i (omega arith) e h) refl

pub indent-is : (t : Text) (r : Option (Bor Text × Bor Text))
    → MatchOption r (RFindsChar 10 t None) (λ x. SplitsAroundMatch (RFindsChar 10) t x.0.now x.1.now)
    → option_map_or (λ x. x.1.now) r (codes "    ") ≡ indent_of t
indent-is t None h = rw (none-after t (λ k l e. NoCharPasses-char 10 t k h (omega arith) l e)) refl
indent-is t (Some x) (i, j, found, front, back, le, at, long) =
    let next : j ≡ suc i = omega (arith, found.1.ends, len_utf8_ascii 10 (omega arith)) in
    let after = some-after t i (omega arith) (found.1.byte (omega arith))
    (λ k l e. NoCharPasses-char 10 (drop (suc i) t) k (subst (λ n. NoCharPasses (λ d. d == 10) (drop n t)) next found.0) (omega arith) l
    e) in
    rw after (back ∙ ap (λ n. drop n t) next)
