-- Fourteen bytes that are copied in three steps.
use Rattle.std.proofs.Common.{◌≡◌, ◌+◌, ◌≤◌, ◌++◌, ◌∷◌, [], ℕ, List, length, take, drop, arith, sym, ap, ◌∙◌, take-add}
use Rattle.std.proofs.lemmas.List.{length-append, length-drop, length-take-le, take_all, take_at}
use Rattle.std.proofs.lemmas.Slice.{take-put_mid}
use borrow.Rule.Slice.PartMut.{mid_of, put_mid, same_len_mid}

abbrev zeros : List ℕ
zeros = 0 ∷ 0 ∷ 0 ∷ 0 ∷ 0 ∷ 0 ∷ []

module _ (from : List ℕ) (long : length from ≡ 14) where
  abbrev second : List ℕ
  second = take 4 (drop 8 from)

  abbrev third : List ℕ
  third = take 2 (drop 12 from)

  abbrev once : List ℕ
  once = take 8 from ++ zeros

  abbrev twice : List ℕ
  twice = put_mid 8 4 once second

  abbrev pub filled : List ℕ
  filled = put_mid 12 2 twice third

  length-once : length once ≡ 14
  length-once = omega (arith, length-append (take 8 from) zeros, length-take-le 8 from (omega (arith, long)))

  length-second : length second ≡ 4
  length-second = length-take-le 4 (drop 8 from) (omega (arith, long, length-drop 8 from))

  length-third : length third ≡ 2
  length-third = length-take-le 2 (drop 12 from) (omega (arith, long, length-drop 12 from))

  length-mid : (a k : ℕ) (xs : List ℕ) → a + k ≤ length xs → length (mid_of a k xs) ≡ k
  length-mid a k xs fits = length-take-le k (drop a xs) (omega (arith, fits, length-drop a xs))

  length-twice : length twice ≡ 14
  length-twice = same_len_mid 8 4 once second (length-second ∙ sym (length-mid 8 4 once (omega (arith, length-once)))) ∙ length-once

  pub length-filled : length filled ≡ 14
  length-filled = same_len_mid 12 2 twice third (length-third ∙ sym (length-mid 12 2 twice (omega (arith, length-twice)))) ∙ length-twice

  front : take 8 once ≡ take 8 from
  front = take_at (take 8 from) zeros 8 (length-take-le 8 from (omega (arith, long)))

  middle : take 12 twice ≡ take 12 from
  middle = take-put_mid 8 4 once second 12 (omega (arith, length-second)) (omega (arith, length-once))
      ∙ ap (λ l. l ++ second) front ∙ sym (take-add 8 4 from)

  pub filled-is : filled ≡ from
  filled-is = sym (take_all 14 filled (omega (arith, length-filled)))
      ∙ take-put_mid 12 2 twice third 14 (omega (arith, length-third)) (omega (arith, length-twice))
      ∙ ap (λ l. l ++ third) middle ∙ sym (take-add 12 2 from) ∙ take_all 14 from (omega (arith, long))
