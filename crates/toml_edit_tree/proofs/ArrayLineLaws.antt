-- The values of an array that a line is added to or removed from.
use Rattle.std.proofs.Common.{◌≡◌, ℕ, zero, suc, ◌+◌, ◌-◌, ◌<◌, ◌≤◌, ◌==◌, Bor, Bool, true, false, drop, get_or}
use Rattle.std.proofs.Common.{subst, MatchOption, List, [], ◌∷◌, Option, Some, None, ap, sym, refl, ◌∙◌, inl, inr, arith, length, leb}
use Rattle.std.proofs.Common.{if◌then◌else◌}
use Rattle.std.specs.Prelude.{nat_lt, not, option_and_then, option_map, ◌++◌, ◌||◌}
use Rattle.std.proofs.lemmas.Bool.{cases_Bool, eqb-true}
use Rattle.std.proofs.lemmas.Bool.Decides.{nat_tests}
use Rattle.std.proofs.lemmas.List.Edits.{length-insert}
use Rattle.std.proofs.lemmas.Option.{none-some, same_Some}
use Rattle.std.proofs.lemmas.Str.{len_utf8_ascii}
use Rattle.std.proofs.lemmas.Str.Pattern.{NoCharPasses-char}
use Rattle.std.specs.Option.{option_or}
use Rattle.toml_edit_model.specs.Comments.{after_first_line, first_line, side_text}
use Rattle.std.specs.Str.{NoCharPasses}
use Rattle.std.specs.Str.Pattern.{RFindsChar, SplitsAroundMatch}
use Rattle.toml_edit_model.specs.ArrayCalls.{inserted_at, value_at, written_at}
use Rattle.toml_edit_model.specs.Conversions.{with_decor}
use Rattle.toml_edit_model.specs.Slots.{changed_at}
use Rattle.toml_edit_model.specs.Text.{Text, one}
use Rattle.toml_edit_model.specs.Tree.{ArrayFields, Decor, Node, Raw, owned, nothing, leaf, list, inline, table, tables, is_value_node}
use Rattle.toml_edit_model.specs.Tree.{node_decor}
use Rattle.toml_edit_tree.specs.ArrayLines.{after_newline, broken_gap, first_newline, followed, gap, gaps_around, gaps_on_line, indent_at}
use Rattle.toml_edit_tree.specs.ArrayLines.{is_broken, is_last, line_begun, newline_at, newline_in, placed, prefix_at, prefixes, suffix_at}
use Rattle.toml_edit_tree.specs.ArrayLines.{takes_lines, text_above, text_after, with_suffix}

abbrev without_suffix : Node → Node
without_suffix = with_suffix (owned [])

-- ---- a change of a decor

value-is : (x n : Node) → (if is_value_node x then Some x else None) ≡ Some n → x ≡ n
value-is x n e =
    elim (cases_Bool (is_value_node x)) [
      | inl is ↦ same_Some x n (rw is at e)
      | inr other ↦ absurd (none-some n (rw other at e))
    ]

-- the item with another decor, where it is a value
abbrev pub redone : (Decor → Decor) → Node → Node
redone h n = with_decor (h (node_decor n)) n

module _ (h : Decor → Decor) where
  -- a write of the value with another decor
  pub decor-written : (xs : List Node) (i : ℕ) (n : Node) → value_at i xs ≡ Some n → written_at i (redone h n) xs
      ≡ changed_at i (redone h) xs
  decor-written [] i n e = refl
  decor-written (x ∷ xs) zero n e = ap (λ y. redone h y ∷ xs) (sym (value-is x n e))
  decor-written (x ∷ xs) (suc i) n e = ap (λ l. x ∷ l) (decor-written xs i n e)

  other-redone : (x : Node) → (if is_value_node x then Some x else None) ≡ None → x ≡ redone h x
  other-redone (leaf s spelling d) e = absurd (none-some (leaf s spelling d) (sym e))
  other-redone (list f xs) e = absurd (none-some (list f xs) (sym e))
  other-redone (inline f ss) e = absurd (none-some (inline f ss) (sym e))
  other-redone (table f ss) e = refl
  other-redone (tables f xs) e = refl
  other-redone nothing e = refl

  -- where there is no value nothing changes
  pub decor-none : (xs : List Node) (i : ℕ) → value_at i xs ≡ None → xs ≡ changed_at i (redone h) xs
  decor-none [] i e = refl
  decor-none (x ∷ xs) zero e = ap (λ y. y ∷ xs) (other-redone x e)
  decor-none (x ∷ xs) (suc i) e = ap (λ l. x ∷ l) (decor-none xs i e)

-- ---- places

suc-below : (i n : ℕ) → nat_lt (suc i) (n + 1) ≡ nat_lt i n
suc-below i n = grind (arith, nat_tests)

-- a change of what was inserted
pub changed-inserted : (h : Node → Node) (xs : List Node) (i : ℕ) (v : Node) → i ≤ length xs → changed_at i h (inserted_at i v xs)
    ≡ inserted_at i (h v) xs
changed-inserted h [] zero v l = refl
changed-inserted h [] (suc i) v l = absurd (omega arith)
changed-inserted h (x ∷ xs) zero v l = refl
changed-inserted h (x ∷ xs) (suc i) v l = ap (λ l. x ∷ l) (changed-inserted h xs i v (omega arith))

-- the decor of a value is replaced
placed-bare : (r : Raw) (n : Node) → placed r (without_suffix n) ≡ placed r n
placed-bare r (leaf s spelling d) = refl
placed-bare r (list f xs) = refl
placed-bare r (inline f ss) = refl
placed-bare r (table f ss) = refl
placed-bare r (tables f xs) = refl
placed-bare r nothing = refl

-- the value that was the last loses its suffix
followed-at : (r : Raw) (v : Node) (xs : List Node) (j : ℕ) → suc j ≡ length xs
    → changed_at (suc j) (placed r) (changed_at j without_suffix (inserted_at (suc j) v xs))
    ≡ inserted_at (suc j) (placed r v) (changed_at j without_suffix xs)
followed-at r v [] j e = absurd (omega (arith, e))
followed-at r v (x ∷ []) zero e = refl
followed-at r v (x ∷ []) (suc j) e = absurd (omega (arith, e))
followed-at r v (x ∷ y ∷ xs) zero e = absurd (omega (arith, e))
followed-at r v (x ∷ y ∷ xs) (suc j) e = ap (λ l. x ∷ l) (followed-at r v (y ∷ xs) j (omega (arith, e)))

pub followed-placed : (r : Raw) (v : Node) (xs : List Node) (i : ℕ) → i ≡ length xs
    → changed_at i (placed r) (changed_at (i - 1) without_suffix (inserted_at i v xs))
    ≡ inserted_at i (placed r v) (changed_at (length xs - 1) without_suffix xs)
followed-placed r v [] zero e = ap one (placed-bare r v)
followed-placed r v [] (suc i) e = absurd (omega (arith, e))
followed-placed r v (x ∷ xs) zero e = absurd (omega (arith, e))
followed-placed r v (x ∷ xs) (suc j) e =
    let before : suc j - 1 ≡ j = omega arith in
    let last : length (x ∷ xs) - 1 ≡ j = omega (arith, e) in
    ap (λ k. changed_at (suc j) (placed r) (changed_at k without_suffix (inserted_at (suc j) v (x ∷ xs)))) before
    ∙ followed-at r v (x ∷ xs) j e ∙ ap (λ k. inserted_at (suc j) (placed r v) (changed_at k without_suffix (x ∷ xs))) (sym last)

length-changed : (h : Node → Node) (xs : List Node) (i : ℕ) → length (changed_at i h xs) ≡ length xs
length-changed h [] i = refl
length-changed h (x ∷ xs) zero = refl
length-changed h (x ∷ xs) (suc i) = ap suc (length-changed h xs i)

pub length-followed : (h : Node → Node) (comma : Bool) (xs : List Node) (i : ℕ) → length (if comma then xs else changed_at i h xs)
    ≡ length xs
length-followed h true xs i = refl
length-followed h false xs i = length-changed h xs i

-- the test of the last place
pub last-tested : (i n : ℕ) → leb n (i + 1) ≡ not (nat_lt (suc i) n)
last-tested i n = grind (arith, nat_tests)

-- the place of a value that is inserted is the last one where it is put at the end
pub last-inserted : (xs : List Node) (i : ℕ) (v : Node) → i ≤ length xs → is_last i (inserted_at i v xs) ≡ not (nat_lt i (length xs))
last-inserted xs i v l =
    ap (λ n. not (nat_lt (suc i) n)) (length-insert xs i v l) ∙ ap not (suc-below i (length xs))

-- a value between two gaps, where a comma follows the one before it
pub inserted-between : (comma : Bool) (before : Raw) (v : Node) (xs : List Node) (i : ℕ) → i ≤ length xs
    → changed_at i (placed before)
    (if comma || not (is_last i (inserted_at i v xs)) then inserted_at i v xs else changed_at (i - 1) without_suffix (inserted_at i v xs))
    ≡ inserted_at i (placed before v) (if comma || nat_lt i (length xs) then xs else changed_at (length xs - 1) without_suffix xs)
inserted-between comma before v xs i l =
    ap (λ b. changed_at i (placed before) (if comma || not b then inserted_at i v xs
    else changed_at (i - 1) without_suffix (inserted_at i v xs))) (last-inserted xs i v l)
    ∙ elim (cases_Bool comma) [
      | inl on ↦ rw on (changed-inserted (placed before) xs i v l)
      | inr off ↦
          elim (cases_Bool (nat_lt i (length xs))) [
            | inl inside ↦ rw (off, inside) (changed-inserted (placed before) xs i v l)
            | inr end ↦ rw (off, end) (followed-placed before v xs i (grind (arith, nat_tests, end, l)))
          ]
    ]

-- the value that is inserted is there
pub placed-within : (before : Raw) (v : Node) (f : ArrayFields) (xs : List Node) (i : ℕ) → i ≤ length xs
    → i < length (inserted_at i (placed before v) (followed i f xs))
placed-within before v f xs i l =
    let long : length (followed i f xs) ≡ length xs =
    length-followed (with_suffix (owned [])) (f.comma || nat_lt i (length xs)) xs (length xs - 1) in
    let more = length-insert (followed i f xs) i (placed before v) (subst (λ n. i ≤ n) (sym long) l) in
    omega (arith, long, more, l)

-- ---- the gaps of a value with lines of its own

pub around-lines : (i : ℕ) (d : Decor) (f : ArrayFields) (xs : List Node)
    → takes_lines (gap i f xs) (text_above (newline_at (gap i f xs) f xs) (indent_at i xs) d)
    (text_after (newline_at (gap i f xs) f xs) (indent_at i xs) d) ≡ true
    → gaps_around i d f xs
    ≡ (
      first_line (broken_gap (gap i f xs) (newline_at (gap i f xs) f xs) (indent_at i xs) (not (nat_lt i (length xs))))
          ++ (text_above (newline_at (gap i f xs) f xs) (indent_at i xs) d ++ (newline_at (gap i f xs) f xs ++ indent_at i xs)),
      text_after (newline_at (gap i f xs) f xs) (indent_at i xs) d
          ++ after_first_line (broken_gap (gap i f xs) (newline_at (gap i f xs) f xs) (indent_at i xs) (not (nat_lt i (length xs)))),
    )
around-lines i d f xs is =
    let g = gap i f xs in
    let end = newline_at g f xs in
    let indent = indent_at i xs in
    let above = text_above end indent d in
    let after = text_after end indent d in
    let h = broken_gap g end indent (not (nat_lt i (length xs))) in
    ap (λ (b : Bool). if b then (first_line h ++ (above ++ (end ++ indent)), after ++ after_first_line h)
    else gaps_on_line i g (end ++ indent) xs) is

-- ---- the last newline

none-after : (t : Text) → ((k : ℕ) → k < length t → get_or t k 0 ≡ 10 → ⊥) → after_newline t ≡ None
none-after [] h = refl
none-after (b ∷ t) h =
    rw (none-after t (λ k l e. h (suc k) (omega arith) e)) (elim (cases_Bool (b == 10)) [
      | inl is ↦ absurd (h 0 (omega arith) (eqb-true b 10 is))
      | inr other ↦ rw other refl
    ])

some-after : (t : Text) (i : ℕ) → i < length t → get_or t i 0 ≡ 10
    → ((k : ℕ) → k < length (drop (suc i) t) → get_or (drop (suc i) t) k 0 ≡ 10 → ⊥)
    → after_newline t ≡ Some (drop (suc i) t)
some-after [] i l e h = absurd (omega arith)
some-after (b ∷ t) zero l e h = rw (none-after t h, e) refl
some-after (b ∷ t) (suc i) l e h = rw (some-after t i (omega arith) e h) refl

pub after-is : (t : Text) (r : Option (Bor Text × Bor Text))
    → MatchOption r (RFindsChar 10 t None) (λ x. SplitsAroundMatch (RFindsChar 10) t x.0.now x.1.now)
    → option_map (λ x. x.1.now) r ≡ after_newline t
after-is t None h = rw (none-after t (λ k l e. NoCharPasses-char 10 t k h (omega arith) l e)) refl
after-is t (Some x) (i, j, found, front, back, le, at, long) =
    let next : j ≡ suc i = omega (arith, found.1.ends, len_utf8_ascii 10 (omega arith)) in
    let after = some-after t i (omega arith) (found.1.byte (omega arith))
    (λ k l e. NoCharPasses-char 10 (drop (suc i) t) k (subst (λ n. NoCharPasses (λ d. d == 10) (drop n t)) next found.0) (omega arith) l
    e) in
    rw after (ap Some (back ∙ ap (λ n. drop n t) next))

-- ---- the first newline

pub prefix-is : (n : Node) → side_text (option_and_then (λ n. (node_decor n).prefix) (if is_value_node n then Some n else None))
    ≡ side_text (node_decor n).prefix
prefix-is (leaf s spelling d) = refl
prefix-is (list f xs) = refl
prefix-is (inline f ss) = refl
prefix-is (table f ss) = refl
prefix-is (tables f xs) = refl
prefix-is nothing = refl

pub newline-next : (xs : List Node) (ts : List Text) (i : ℕ) → i < length xs
    → newline_in (drop i (prefixes xs) ++ ts)
    ≡ (if is_broken (side_text (prefix_at i xs)) then first_newline (side_text (prefix_at i xs))
    else newline_in (drop (i + 1) (prefixes xs) ++ ts))
newline-next [] ts i l = absurd (omega (arith, l))
newline-next (x ∷ xs) ts zero l =
    ap (λ t. if is_broken t then first_newline t else newline_in (prefixes xs ++ ts)) (sym (prefix-is x))
newline-next (x ∷ xs) ts (suc i) l =
    let next : suc (i + 1) ≡ suc i + 1 = omega arith in
    newline-next xs ts i (omega (arith, l))
    ∙ ap (λ k. if is_broken (side_text (prefix_at i xs)) then first_newline (side_text (prefix_at i xs))
    else newline_in (drop k (prefixes (x ∷ xs)) ++ ts)) next

-- ---- the line of a value

pub line-before : (xs : List Node) (i : ℕ) → 0 < i → after_newline (side_text (prefix_at i xs)) ≡ None
    → after_newline (side_text (suffix_at (i - 1) xs)) ≡ None
    → line_begun i xs ≡ line_begun (i - 1) xs
line-before xs zero l h g = absurd (omega (arith, l))
line-before xs (suc i) l h g =
    let back : suc i - 1 ≡ i = omega arith in
    let after : after_newline (side_text (suffix_at i xs)) ≡ None = ap (λ k. after_newline (side_text (suffix_at k xs))) (sym back) ∙ g in
    ap (λ o. option_or o (option_or (after_newline (side_text (suffix_at i xs))) (line_begun i xs))) h
    ∙ ap (λ o. option_or o (line_begun i xs)) after ∙ ap (λ k. line_begun k xs) (sym back)
