-- Edits one after another.
use Rattle.std.proofs.Common.{◌≡◌, ◌∙◌, refl, sym, ap, arith, ℕ, suc, ◌+◌, ◌<◌, zero, ◌-◌, ◌≤◌, List, [], ◌∷◌, ◌++◌, length, length-drop, take, take-add, drop, get_or, slice_get}
use Rattle.std.specs.Prelude.{Result, Ok, Err}
use Rattle.std.proofs.Math.Seq.{take-suc}
use Rattle.std.proofs.lemmas.List.{take_all}
use Rattle.toml_edit_model.specs.Tree.{Tree}
use Rattle.toml_edit_edits.specs.Lists.{applied, effect}
use Rattle.toml_edit_edits.specs.Outcomes.{and_then}
use Rattle.toml_edit_edits.specs.declared.edit.Edit.{Edit}
use Rattle.toml_edit_edits.specs.declared.fault.EditFault.{EditFault}

then-ok : (r : Result Tree EditFault) → and_then (λ t. Ok t) r ≡ r
then-ok (Ok t) = refl
then-ok (Err f) = refl

pub applied-last : (es : List Edit) (e : Edit) (t : Tree) → applied (es ++ (e ∷ [])) t ≡ and_then (effect e) (applied es t)
applied-last [] e t = then-ok (effect e t)
applied-last (d ∷ es) e t = by_effect (effect d t) (applied-last es e)
  where
    by_effect : (r : Result Tree EditFault) → ((u : Tree) → applied (es ++ (e ∷ [])) u ≡ and_then (effect e) (applied es u))
        → and_then (applied (es ++ (e ∷ []))) r ≡ and_then (effect e) (and_then (applied es) r)
    by_effect (Ok u) ih = ih u
    by_effect (Err f) ih = refl

pub one-applied : (es : List Edit) (i : ℕ) (e : Edit) (t u w : Tree) → take (i + 1) es ≡ take i es ++ (e ∷ []) → applied (take i es) t ≡ Ok u
    → effect e u ≡ Ok w → applied (take (i + 1) es) t ≡ Ok w
one-applied es i e t u w more before here =
    ap (λ xs. applied xs t) more ∙ applied-last (take i es) e t ∙ ap (and_then (effect e)) before ∙ here

pub take-more : (es : List Edit) (i : ℕ) (e : Edit) → i < length es → e ≡ get_or es i e → take (i + 1) es ≡ take i es ++ (e ∷ [])
take-more es i e within is =
    ap (λ n. take n es) next ∙ take-suc es i e within ∙ ap (λ (x : Edit). take i es ++ (x ∷ [])) (sym is)
  where
    next : i + 1 ≡ suc i
    next = omega arith

applied-append : (xs ys : List Edit) (t : Tree) → applied (xs ++ ys) t ≡ and_then (applied ys) (applied xs t)
applied-append [] ys t = refl
applied-append (d ∷ xs) ys t = by_effect (effect d t) (applied-append xs ys)
  where
    by_effect : (r : Result Tree EditFault) → ((u : Tree) → applied (xs ++ ys) u ≡ and_then (applied ys) (applied xs u)) → and_then (applied (xs ++ ys)) r ≡ and_then (applied ys) (and_then (applied xs) r)
    by_effect (Ok u) more = more u
    by_effect (Err f) more = refl

-- some edits more are made
pub more-applied : (es : List Edit) (i n : ℕ) (t u w : Tree) → applied (take i es) t ≡ Ok u → applied (take n (drop i es)) u ≡ Ok w
    → applied (take (i + n) es) t ≡ Ok w
more-applied es i n t u w before here =
    ap (λ xs. applied xs t) (take-add i n es) ∙ applied-append (take i es) (take n (drop i es)) t
    ∙ ap (and_then (applied (take n (drop i es)))) before ∙ here

-- the edits from a place to the end
pub all-after : (es : List Edit) (i : ℕ) → take (length es - i) (drop i es) ≡ drop i es
all-after es i = take_all (length es - i) (drop i es) (omega (arith, length-drop i es))

pub get-after : (es : List Edit) (i : ℕ) → slice_get (drop i es) 0 ≡ slice_get es i
get-after [] zero = refl
get-after [] (suc i) = refl
get-after (e ∷ es) zero = refl
get-after (e ∷ es) (suc i) = get-after es i

pub ok-is : (t u : Tree) → ◌≡◌ {A = Result Tree EditFault} (Ok t) (Ok u) → t ≡ u
ok-is t u h = cc

pub take-none : (es : List Edit) → take 0 es ≡ []
take-none [] = refl
take-none (e ∷ es) = refl

pub none-made : (es : List Edit) (t : Tree) → applied (take 0 es) t ≡ Ok t
none-made es t = ap (λ xs. applied xs t) (take-none es)

-- no edit leaves the tree
pub none-applied : (es : List Edit) (n : ℕ) (t u : Tree) → n ≤ 0 → applied (take n es) t ≡ Ok u → u ≡ t
none-applied es n t u h made =
    let none : n ≡ 0 = omega arith in
    sym (ok-is t u (sym (ap (λ k. applied (take k es) t) none ∙ ap (λ xs. applied xs t) (take-none es)) ∙ made))

-- the first edit is made
pub first-applied : (es : List Edit) (e : Edit) (t u w : Tree) → 0 < length es → e ≡ get_or es 0 e → u ≡ t → effect e u ≡ Ok w
    → applied (take 1 es) t ≡ Ok w
first-applied es e t u w within is same here =
    one-applied es 0 e t u w (take-more es 0 e within is) (none-made es t ∙ ap (λ x. Ok x) (sym same)) here
