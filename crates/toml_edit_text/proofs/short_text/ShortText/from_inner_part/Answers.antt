-- The bytes are the first fourteen of the text from the start on; the first of them are the part between two boundaries of characters.
use Rattle.std.proofs.Common.{◌≡◌, ◌+◌, ◌-◌, ◌≤◌, ◌++◌, ◌∷◌, [], ℕ, List, length, take, drop, arith, sym, ap, subst, ◌∙◌, IsUtf8}
use Rattle.std.proofs.lemmas.List.{length-drop, length-take-le, take-take}
use Rattle.std.proofs.lemmas.Str.{IsUtf8-between}
use Rattle.toml_edit_text.proofs.FilledLaws.{filled, filled-is}
use borrow.Rule.Slice.PartMut.{put_mid}
use Rattle.toml_edit_text.proofs.short_text.ShortText.from_inner_part.Goals as goal

module _ (c : goal.After-bytes-6-1) where
  abbrev text : List ℕ
  text = c.args.text.now

  abbrev start : ℕ
  start = c.args.start

  abbrev from : List ℕ
  from = take (start + 14 - start) (drop start c.as_bytes.result.now)

  short : c.args.end - start ≤ 14
  short = omega (arith, c.if-len-gt-MOST.false)

  from-is : from ≡ take 14 (drop start text)
  from-is =
      let fourteen : start + 14 - start ≡ 14 = omega arith in
      ap (λ n. take n (drop start c.as_bytes.result.now)) fourteen ∙ ap (λ b. take 14 (drop start b)) c.as_bytes.ensures.value

  long : length from ≡ 14
  long = ap length from-is ∙ length-take-le 14 (drop start text) (omega (arith, c.if-text-start-lt-MOST.false, length-drop start text))

  abbrev bytes : List ℕ
  bytes = put_mid 12 2 (put_mid 8 4 (c.copy_from_slice.new.self ++ 0 ∷ 0 ∷ 0 ∷ 0 ∷ 0 ∷ 0 ∷ []) c.copy_from_slice-2.new.self) c.copy_from_slice-3.new.self

  bytes-are : bytes ≡ take 14 (drop start text)
  bytes-are =
      let third = c.copy_from_slice-3.ensures.after ∙ ap (λ n. take (n - 12) (drop 12 from)) long in
      let copied : bytes ≡ filled from long =
      λ i. put_mid 12 2 (put_mid 8 4 (c.copy_from_slice.ensures.after i ++ 0 ∷ 0 ∷ 0 ∷ 0 ∷ 0 ∷ 0 ∷ []) (c.copy_from_slice-2.ensures.after i)) (third i) in
      copied ∙ filled-is from long ∙ from-is

  part-is : take (c.args.end - start) bytes ≡ take (c.args.end - start) (drop start text)
  part-is = ap (take (c.args.end - start)) bytes-are ∙ take-take (c.args.end - start) 14 (drop start text) short

pub invariant_of-result : goal.invariant_of-result
invariant_of-result c =
    let between = IsUtf8-between (text c) (start c) c.args.end c.utf8.text c.requires.order c.requires.start c.requires.end in (
      short c,
      ap length (bytes-are c) ∙ sym (ap length (from-is c)) ∙ long c,
      ∣ subst IsUtf8 (sym (part-is c)) between ∣₁,
    )

pub returns : goal.returns
returns c = part-is c
