-- The limits of a value, by those of its elements and of its lines.
use Rattle.std.proofs.Common.{◌≡◌, refl, ap, ℕ, suc, ◌≤◌, arith, Bool, true, false, List, [], ◌∷◌}
use Rattle.std.specs.Prelude.{◌&&◌, max, nat_le}
use Rattle.std.specs.List.{AllByRecursion}
use Rattle.std.proofs.lemmas.Bool.{leb-true, le-leb}
use Rattle.toml_edit_model.specs.Mode.{Mode}
use Rattle.toml_edit_model.specs.Text.{Text}
use Rattle.toml_edit_model.specs.Syntax.{Value, Elements, no_elements, element, Pairs, no_pairs, pair, depth, elements_depth, pairs_depth}
use Rattle.toml_edit_model.specs.Syntax.{nesting_limit, is_short, has_short_keys, elements_have_short_keys, pairs_have_short_keys}
use Rattle.toml_edit_model.specs.Print.{Line, segments, pairs_of_lines, add_after, close_array, add_after_pairs, close_inline}
use Rattle.toml_edit_laws.proofs.common.Tests.{and_left, and_right, and_both}

-- no deeper, and with short keys
abbrev pub Within : ℕ → Value → Type 0
Within d v = (depth v ≤ d) × (has_short_keys v ≡ true)

abbrev pub ElementsWithin : ℕ → Elements → Type 0
ElementsWithin d es = (elements_depth es ≤ d) × (elements_have_short_keys es ≡ true)

abbrev pub PairsWithin : ℕ → Pairs → Type 0
PairsWithin d ps = (pairs_depth ps ≤ d) × (pairs_have_short_keys ps ≡ true)

pub limits-within : (v : Value) → (nat_le (depth v) nesting_limit && has_short_keys v) ≡ true → Within nesting_limit v
limits-within v h =
    let room : Bool = nat_le (depth v) nesting_limit in
    (leb-true _ _ (and_left room (has_short_keys v) h), and_right room (has_short_keys v) h)

pub within-limits : (v : Value) → Within nesting_limit v → (nat_le (depth v) nesting_limit && has_short_keys v) ≡ true
within-limits v h = and_both (nat_le (depth v) nesting_limit) (has_short_keys v) (le-leb _ _ h.0) h.1

-- ---- the last text of an array or an inline table makes no difference

after-elements : (t : Text) (es : Elements) → (elements_depth (add_after t es) ≡ elements_depth es)
    × (elements_have_short_keys (add_after t es) ≡ elements_have_short_keys es)
after-elements t no_elements = (refl, refl)
after-elements t (element a v no_elements) = (refl, refl)
after-elements t (element a v (element b w es)) =
    let rest = after-elements t (element b w es) in
    (ap (max (depth v)) rest.0, ap (λ c. has_short_keys v && c) rest.1)

pub array-closed : (c : Bool) (t : Text) (es : Elements) → (depth (close_array c t es) ≡ suc (elements_depth es))
    × (has_short_keys (close_array c t es) ≡ elements_have_short_keys es)
array-closed c t no_elements = (refl, refl)
array-closed true t (element a v es) = (refl, refl)
array-closed false t (element a v es) = (let rest = after-elements t (element a v es) in (ap suc rest.0, rest.1))

after-pairs : (t : Text) (ps : Pairs) → (pairs_depth (add_after_pairs t ps) ≡ pairs_depth ps)
    × (pairs_have_short_keys (add_after_pairs t ps) ≡ pairs_have_short_keys ps)
after-pairs t no_pairs = (refl, refl)
after-pairs t (pair f v no_pairs) = (refl, refl)
after-pairs t (pair f v (pair g w ps)) =
    let rest = after-pairs t (pair g w ps) in
    (ap (max (depth v)) rest.0, ap (λ c. is_short f.path && (has_short_keys v && c)) rest.1)

pub inline-closed : (c : Bool) (t : Text) (ps : Pairs) → (depth (close_inline c t ps) ≡ suc (pairs_depth ps))
    × (has_short_keys (close_inline c t ps) ≡ pairs_have_short_keys ps)
inline-closed c t no_pairs = (refl, refl)
inline-closed true t (pair f v ps) = (refl, refl)
inline-closed false t (pair f v ps) = (let rest = after-pairs t (pair f v ps) in (ap suc rest.0, rest.1))

-- ---- elements

pub first-element : (d : ℕ) (v : Value) (es : Elements) → (max (depth v) (elements_depth es) ≤ d)
    → (has_short_keys v && elements_have_short_keys es) ≡ true
    → Within d v × ElementsWithin d es
first-element d v es h k = (
  (omega (arith, h), and_left (has_short_keys v) (elements_have_short_keys es) k),
  (omega (arith, h), and_right (has_short_keys v) (elements_have_short_keys es) k),
)

pub more-elements : (d : ℕ) (v : Value) (es : Elements) → Within d v → ElementsWithin d es
    → (max (depth v) (elements_depth es) ≤ d) × ((has_short_keys v && elements_have_short_keys es) ≡ true)
more-elements d v es h g =
    let a = h.0 in
    let b = g.0 in
    (omega (arith, a, b), and_both (has_short_keys v) (elements_have_short_keys es) h.1 g.1)

-- ---- lines

module _ (mode : Mode) where
  abbrev pub LineWithin : ℕ → Line → Type 0
  LineWithin d l = (is_short (segments mode l.keys) ≡ true) × Within d l.value

  -- the first of some pairs, and the others
  first-pair : (d : ℕ) (l : Line) (ps : Pairs) → max (depth l.value) (pairs_depth ps) ≤ d
      → (is_short (segments mode l.keys) && (has_short_keys l.value && pairs_have_short_keys ps)) ≡ true
      → LineWithin d l × PairsWithin d ps
  first-pair d l ps deep h =
      let short : Bool = is_short (segments mode l.keys) in
      let more = and_right short (has_short_keys l.value && pairs_have_short_keys ps) h in (
        (
          and_left short (has_short_keys l.value && pairs_have_short_keys ps) h,
          (omega (arith, deep), and_left (has_short_keys l.value) (pairs_have_short_keys ps) more),
        ),
        (omega (arith, deep), and_right (has_short_keys l.value) (pairs_have_short_keys ps) more),
      )

  pub pairs-lines : (d : ℕ) (ls : List Line) → PairsWithin d (pairs_of_lines mode ls) → AllByRecursion (LineWithin d) ls
  pairs-lines d [] h = tt
  pairs-lines d (l ∷ []) h = ((first-pair d l no_pairs h.0 h.1).0, tt)
  pairs-lines d (l ∷ m ∷ ls) h =
      let r = first-pair d l (pairs_of_lines mode (m ∷ ls)) h.0 h.1 in
      (r.0, pairs-lines d (m ∷ ls) r.1)

  more-pairs : (d : ℕ) (l : Line) (ps : Pairs) → LineWithin d l → PairsWithin d ps → (max (depth l.value) (pairs_depth ps) ≤ d)
      × ((is_short (segments mode l.keys) && (has_short_keys l.value && pairs_have_short_keys ps)) ≡ true)
  more-pairs d l ps h g =
      let a = h.1.0 in
      let b = g.0 in (
        omega (arith, a, b),
        and_both (is_short (segments mode l.keys)) (has_short_keys l.value && pairs_have_short_keys ps) h.0
            (and_both (has_short_keys l.value) (pairs_have_short_keys ps) h.1.1 g.1),
      )

  pub lines-pairs : (d : ℕ) (ls : List Line) → AllByRecursion (LineWithin d) ls → PairsWithin d (pairs_of_lines mode ls)
  lines-pairs d [] h = (omega arith, refl)
  lines-pairs d (l ∷ []) h = more-pairs d l no_pairs h.0 (omega arith, refl)
  lines-pairs d (l ∷ m ∷ ls) h = more-pairs d l (pairs_of_lines mode (m ∷ ls)) h.0 (lines-pairs d (m ∷ ls) h.1)
