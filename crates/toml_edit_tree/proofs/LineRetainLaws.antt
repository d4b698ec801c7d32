-- The values of an array that are left where others are removed with their lines.
use Rattle.std.proofs.Common.{◌≡◌, ℕ, zero, suc, ◌-◌, ◌<◌, Bool, true, false, drop, length, List, [], ◌∷◌, Option, Some, None, ap, sym, refl}
use Rattle.std.proofs.Common.{subst, MatchBool, MatchOption, ◌∙◌, arith, if◌then◌else◌}
use Rattle.std.specs.Prelude.{is_some, nat_lt}
use Rattle.toml_edit_model.specs.ArrayCalls.{removed_at, value_at}
use Rattle.toml_edit_model.specs.Conversions.{with_decor}
use Rattle.toml_edit_model.specs.Slots.{changed_at}
use Rattle.toml_edit_model.specs.Tree.{ArrayFields, Decor, Node, Raw, node_decor, owned, leaf, list, inline, table, tables, nothing, is_value_node}
use Rattle.toml_edit_tree.specs.ArrayLines.{gap_left, is_closed, with_gap, with_prefix, with_suffix}
use Rattle.toml_edit_tree.specs.LinesRetained.{AreAnswers, line_kept, lines_kept}

-- what is left where the answers are about the slots from a place on
abbrev pub RetainsFrom : (Node → Bool → Type 0) → ℕ → ArrayFields × List Node → ArrayFields × List Node → Type 0
RetainsFrom says i before after =
    (answers : List Bool) × AreAnswers says (drop i before.1) answers × (after ≡ lines_kept i answers before)

-- ---- answers

module _ (says : Node → Bool → Type 0) where
  one-answer : (v : Bool) (x : Node) (b : Bool) → MatchOption (if v then Some x else None) (b ≡ true) (λ n. says n b)
      → MatchBool v (says x b) (b ≡ true)
  one-answer true x b m = m
  one-answer false x b m = m

  answers-next : (xs : List Node) (i : ℕ) (b : Bool) (bs : List Bool) → i < length xs
      → MatchOption (value_at i xs) (b ≡ true) (λ n. says n b) → AreAnswers says (drop (suc i) xs) bs
      → AreAnswers says (drop i xs) (b ∷ bs)
  answers-next [] i b bs l m r = absurd (omega (arith, l))
  answers-next (x ∷ xs) zero b bs l m r = (b, bs, one-answer (is_value_node x) x b m, r, refl)
  answers-next (x ∷ xs) (suc i) b bs l m r = answers-next xs i b bs (omega (arith, l)) m r

  none-left : (xs : List Node) (i : ℕ) → i ≡ length xs → AreAnswers says (drop i xs) []
  none-left [] zero e = refl
  none-left [] (suc i) e = refl
  none-left (x ∷ xs) zero e = absurd (omega (arith, e))
  none-left (x ∷ xs) (suc i) e = none-left xs i (omega (arith, e))

  pub retains-none : (a : ArrayFields × List Node) (i : ℕ) → i ≡ length a.1 → RetainsFrom says i a a
  retains-none a i e = ([], none-left a.1 i e, refl)

  pub retains-next : (a : ArrayFields × List Node) (i j : ℕ) (b : Bool) (left : ArrayFields × List Node) → suc i ≡ j → i < length a.1
      → MatchOption (value_at i a.1) (b ≡ true) (λ n. says n b) → RetainsFrom says j a left
      → RetainsFrom says i a (line_kept i b left)
  retains-next a i j b left e l m r =
      let rest = subst (λ k. RetainsFrom says k a left) (sym e) r in
      (b ∷ rest.0, answers-next a.1 i b rest.0 l m rest.1, ap (line_kept i b) rest.2)

-- ---- values before a place stay values

decor-value : (d : Decor) (n : Node) → is_value_node (with_decor d n) ≡ is_value_node n
decor-value d (leaf s spelling e) = refl
decor-value d (list f xs) = refl
decor-value d (inline f ss) = refl
decor-value d (table f ss) = refl
decor-value d (tables f xs) = refl
decor-value d nothing = refl

some-value : (b : Bool) (x y : Node) → is_some (if b then Some x else None) ≡ is_some (if b then Some y else None)
some-value true x y = refl
some-value false x y = refl

value-changed : (h : Node → Node) → ((n : Node) → is_value_node (h n) ≡ is_value_node n) → (xs : List Node) (i j : ℕ)
    → is_some (value_at i (changed_at j h xs)) ≡ is_some (value_at i xs)
value-changed h same [] i j = refl
value-changed h same (x ∷ xs) zero zero =
    ap (λ b. is_some (if b then Some (h x) else None)) (same x) ∙ some-value (is_value_node x) (h x) x
value-changed h same (x ∷ xs) zero (suc j) = refl
value-changed h same (x ∷ xs) (suc i) zero = refl
value-changed h same (x ∷ xs) (suc i) (suc j) = value-changed h same xs i j

value-removed : (xs : List Node) (i j : ℕ) → i < j → value_at i (removed_at j xs) ≡ value_at i xs
value-removed [] i zero l = refl
value-removed [] i (suc j) l = refl
value-removed (x ∷ xs) i zero l = absurd (omega (arith, l))
value-removed (x ∷ xs) zero (suc j) l = refl
value-removed (x ∷ xs) (suc i) (suc j) l = value-removed xs i j (omega (arith, l))

gap-put : (inside closed : Bool) (r : Raw) (xs : List Node) (i j k : ℕ)
    → is_some (value_at i (if inside then changed_at j (with_prefix r) xs else if closed then xs else changed_at k (with_suffix r) xs))
    ≡ is_some (value_at i xs)
gap-put true closed r xs i j k = value-changed (with_prefix r) (λ n. decor-value (record (node_decor n) { prefix = Some r }) n) xs i j
gap-put false true r xs i j k = refl
gap-put false false r xs i j k = value-changed (with_suffix r) (λ n. decor-value (record (node_decor n) { suffix = Some r }) n) xs i k

value-gap : (r : Raw) (f : ArrayFields) (xs : List Node) (i j : ℕ) → is_some (value_at i (with_gap j r f xs)) ≡ is_some (value_at i xs)
value-gap r f xs i j = gap-put (nat_lt j (length xs)) (is_closed f xs) r xs i j (length xs - 1)

value-kept : (b : Bool) (a : ArrayFields × List Node) (i j : ℕ) → i < j
    → is_some (value_at i (line_kept j b a).1) ≡ is_some (value_at i a.1)
value-kept true a i j l = refl
value-kept false a i j l =
    value-gap (owned (gap_left j a.0 a.1)) a.0 (removed_at j a.1) i j ∙ ap is_some (value-removed a.1 i j l)

values-kept : (bs : List Bool) (a : ArrayFields × List Node) (i j : ℕ) → i < j
    → is_some (value_at i (lines_kept j bs a).1) ≡ is_some (value_at i a.1)
values-kept [] a i j l = refl
values-kept (b ∷ bs) a i j l = value-kept b (lines_kept (suc j) bs a) i j l ∙ values-kept bs a i (suc j) (omega (arith, l))

pub value-left : (says : Node → Bool → Type 0) (a left : ArrayFields × List Node) (i j : ℕ) → i < j
    → RetainsFrom says j a left → is_some (value_at i left.1) ≡ is_some (value_at i a.1)
value-left says a left i j l r = ap (λ p. is_some (value_at i p.1)) r.2 ∙ values-kept r.0 a i j l

-- a value that is not kept is there
pub value-answered : (says : Node → Bool → Type 0) (o : Option Node) → MatchOption o (false ≡ true) (λ n. says n false)
    → is_some o ≡ true
value-answered says None m = absurd cc
value-answered says (Some n) m = refl
