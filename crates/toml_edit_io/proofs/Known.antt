-- Lemmas on what an output holds after one more piece of a text.
use Rattle.std.proofs.Common.{◌≡◌, ℕ, ◌+◌, ◌-◌, ◌≤◌, List, length, take, drop, Option, sym, subst, length-drop, arith}
use Rattle.std.proofs.Math.Seq.{take-add}
use Rattle.std.proofs.lemmas.List.{take_all}
use Rattle.std.specs.Io.KnownBytes.{Appends}
use Rattle.std.proofs.KnownBytes.{Appends-trans}

-- all from a place on
all_from : (at : ℕ) (text : List ℕ) → take (length text - at) (drop at text) ≡ drop at text
all_from at text = take_all (length text - at) (drop at text) (omega (arith, length-drop at text))

-- a piece written after a beginning
pub more_Appends : (a b c : Option (List ℕ)) (at n : ℕ) (text : List ℕ) → Appends a b (take at text)
    → Appends b c (take n (take (length text - at) (drop at text)))
    → Appends a c (take (at + n) text)
more_Appends a b c at n text p q =
    let last = subst (λ l. Appends b c (take n l)) (all_from at text) q in
    subst (Appends a c) (sym (take-add at n text)) (Appends-trans a b c _ _ p last)

-- the piece is within the text
pub more_within : (at n : ℕ) (text : List ℕ) → at ≤ length text → n ≤ length (take (length text - at) (drop at text)) → at + n ≤ length text
more_within at n text h k =
    let last : n ≤ length (drop at text) = subst (λ l. n ≤ length l) (all_from at text) k in
    omega (arith, length-drop at text)
