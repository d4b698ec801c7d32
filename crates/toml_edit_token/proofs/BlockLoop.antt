-- Walking through a string of several lines: each piece, and where it ends.
use Rattle.std.proofs.Common.{◌≡◌, ◌≢◌, ℕ, zero, suc, ◌+◌, ◌-◌, ◌<◌, ◌≤◌, min, Bool, true, false, cond, ◌==◌, ◌&&◌, [], ◌∷◌, ◌++◌, length}
use Rattle.std.proofs.Common.{drop, take, get_or, Some, None, refl, sym, ap, subst, ◌∙◌, inl, inr, arith, eqb-true, add-one, IsUtf8, Bor}
use Rattle.std.specs.Prelude.{option_and_then}
use Rattle.std.specs.List.{prefix_len}
use Rattle.std.specs.Str.{IsCharBoundary}
use Rattle.std.proofs.lemmas.Bool.{cases_Bool, cases_lt, and_parts, ne_eqb, eq-eqb, false≢true, lt-ltb, lt-leb, le-leb}
use Rattle.std.proofs.lemmas.Bool.Decides.{nat_tests}
use Rattle.std.proofs.lemmas.List.{length-drop, length-take, take-append-drop}
use Rattle.std.proofs.Math.Seq.{take-append-add, drop-append-add}
use Rattle.std.proofs.lemmas.List.Sums.{prefix_len_passes, prefix_len-le-length}
use Rattle.std.proofs.lemmas.Str.{IsCharBoundary-start, IsCharBoundary-after_ascii, IsCharBoundary-from_rest}
use Rattle.toml_edit_model.specs.Text.{Text, has_byte}
use Rattle.toml_edit_model.specs.Spelling.{is_plain}
use Rattle.toml_edit_laws.specs.reading.Runs.{first, split_while, Read}
use Rattle.toml_edit_token.specs.Classes.{class_test}
use Rattle.toml_edit_laws.specs.reading.Tokens.{prepend}
use Rattle.toml_edit_laws.specs.reading.BlockReading.{run_of, has_three, newline_len, is_gap_byte, gap_len, literal_part_at, escaped_at}
use Rattle.toml_edit_laws.specs.reading.BlockReading.{basic_part_at, parts_at, inside, block_at}
use Rattle.toml_edit_token.specs.declared.block_string.Form.{Form}
use Rattle.toml_edit_token.specs.declared.block_string.Form.TheVariants.{Basic, Literal}
use Rattle.toml_edit_token.specs.declared.block_string.Piece.{Piece}
use Rattle.toml_edit_token.specs.declared.block_string.Piece.TheVariants.{Own, Escaped, Last}
use Rattle.toml_edit_token.specs.declared.run.Class.{Class}
use Rattle.toml_edit_token.specs.BlockPieces.{delimiter_of, class_of, part_of, form_at, opening_at, escaped_text, GoesOn, ReadsPiece}
use Rattle.toml_edit_laws.proofs.reading.Steps.{chosen, guard_some, same_parts}
use Rattle.toml_edit_laws.proofs.reading.RunLaws.{within_from_byte}
use Rattle.toml_edit_token.proofs.BasicLoop.{prepend-nil, prepend-prepend}
use Rattle.toml_edit_laws.proofs.reading.BlockSteps.{step_part, no_newline}
use Rattle.toml_edit_laws.proofs.reading.BlockForms.{plain_apart, literal_apart}

-- ---- newlines and gaps

-- a newline ends with a line feed
pub newline_last : (t : Text) → 0 < newline_len t → get_or t (newline_len t - 1) 0 ≡ 10
unfolding newline_len
newline_last t some =
    elim (cases_Bool (first t == 10)) [
      | inl feed ↦ rw feed (eqb-true (first t) 10 feed)
      | inr other ↦ elim (cases_Bool (first t == 13 && get_or t 1 0 == 10)) [
        | inl both ↦ rw (other, both) (eqb-true (get_or t 1 0) 10 (and_parts (first t == 13) (get_or t 1 0 == 10) both).1)
        | inr neither ↦
            let none : newline_len t ≡ 0 = rw (other, neither) refl in
            absurd (omega (arith, none))
      ]
    ]

-- how far the gap goes from here
pub gap_at : (xs : Text) (i : ℕ) → i < length xs → gap_len (drop i xs)
    ≡ cond (is_gap_byte (get_or xs i 0) (get_or xs (suc i) 0)) (suc (gap_len (drop (suc i) xs))) 0
unfolding gap_len
gap_at [] i h = absurd (omega arith)
gap_at (x ∷ xs) zero h = refl
gap_at (x ∷ xs) (suc i) h = gap_at xs i (omega arith)

-- at the end is no gap
pub gap_end : (xs : Text) (i : ℕ) → length xs ≤ i → gap_len (drop i xs) ≡ 0
unfolding gap_len
gap_end [] zero h = refl
gap_end [] (suc i) h = refl
gap_end (x ∷ xs) zero h = absurd (omega arith)
gap_end (x ∷ xs) (suc i) h = gap_end xs i (omega arith)

-- a byte of a gap is ASCII
gap_byte_ascii : (x y : ℕ) → is_gap_byte x y ≡ true → (0 < x) × (x < 128)
gap_byte_ascii x y h = (grind (arith, nat_tests), grind (arith, nat_tests))

-- each byte of a gap is ASCII
pub gap_ascii : (t : Text) (i : ℕ) → i < gap_len t → (0 < get_or t i 0) × (get_or t i 0 < 128)
unfolding gap_len
gap_ascii [] i h = absurd (omega arith)
gap_ascii (x ∷ t) zero h =
    elim (cases_Bool (is_gap_byte x (first t))) [
      | inl on ↦ gap_byte_ascii x (first t) on
      | inr off ↦ absurd (omega (arith, rw off at h))
    ]
gap_ascii (x ∷ t) (suc i) h =
    elim (cases_Bool (is_gap_byte x (first t))) [
      | inl on ↦ gap_ascii t i (omega (arith, rw on at h))
      | inr off ↦ absurd (omega (arith, rw off at h))
    ]

-- one turn in a gap
pub gap_goes : (xs : Text) (n i : ℕ) → i < length xs → n ≡ i + gap_len (drop i xs) → is_gap_byte (get_or xs i 0) (get_or xs (i + 1) 0)
    ≡ true → n ≡ (i + 1) + gap_len (drop (i + 1) xs)
gap_goes xs n i room so_far on =
    let here : gap_len (drop i xs) ≡ suc (gap_len (drop (suc i) xs)) = gap_at xs i room
    ∙ ap (λ (b : Bool). cond b (suc (gap_len (drop (suc i) xs))) 0) (rw add-one at on) in
    rw add-one (omega (arith, here))

-- the turn that ends it
pub gap_stops : (xs : Text) (n i : ℕ) → i < length xs → n ≡ i + gap_len (drop i xs) → is_gap_byte (get_or xs i 0) (get_or xs (i + 1) 0)
    ≡ false → i ≡ n
gap_stops xs n i room so_far off =
    let here : gap_len (drop i xs) ≡ 0 = gap_at xs i room
    ∙ ap (λ (b : Bool). cond b (suc (gap_len (drop (suc i) xs))) 0) (rw add-one at off) in
    omega (arith, here)

-- a gap with a line feed is not empty
pub gap_some : (t : Text) → has_byte 10 (take (gap_len t) t) ≡ true → 0 < gap_len t
gap_some t feed =
    elim (cases_lt 0 (gap_len t)) [
      | inl some ↦ some
      | inr none ↦
          let empty : gap_len t ≡ 0 = omega arith in
          absurd (false≢true (sym (ap (λ (n : ℕ). has_byte 10 (take n t)) empty) ∙ feed))
    ]

-- ---- where pieces end

-- a byte of a run
pub run_byte : (c : ℕ) (t : Text) (i : ℕ) → i < run_of c t → get_or t i 0 ≡ c
run_byte c t i h = eqb-true (get_or t i 0) c (prefix_len_passes (λ x. x == c) t i 0 h)

-- a character ends behind an ASCII byte
pub boundary_behind : (t : Text) (n : ℕ) → IsUtf8 t → 0 < n → 0 < get_or t (n - 1) 0 → get_or t (n - 1) 0 < 128 → IsCharBoundary t n
boundary_behind t n utf8 some there ascii =
    let more : (n - 1) + 1 ≡ n = omega arith in
    subst (IsCharBoundary t) more (IsCharBoundary-after_ascii t (n - 1) utf8 (within_from_byte t (n - 1) there) ascii)

-- quotes end where characters do
pub boundary_in_run : (c : ℕ) (t : Text) (n : ℕ) → IsUtf8 t → 0 < c → c < 128 → n ≤ run_of c t → IsCharBoundary t n
boundary_in_run c t zero utf8 some ascii within = IsCharBoundary-start t utf8
boundary_in_run c t (suc n) utf8 some ascii within =
    let last : get_or t (suc n - 1) 0 ≡ c = run_byte c t (suc n - 1) (omega arith) in
    boundary_behind t (suc n) utf8 (omega arith) (omega (arith, last)) (omega (arith, last))

-- a newline ends where a character does
pub boundary_of_newline : (t : Text) → IsUtf8 t → 0 < newline_len t → IsCharBoundary t (newline_len t)
boundary_of_newline t utf8 some =
    boundary_behind t (newline_len t) utf8 some (omega (arith, newline_last t some)) (omega (arith, newline_last t some))

-- ---- one piece

-- what a backslash begins is no byte for itself
basic_slash : (t : Text) → first t ≡ 92 → basic_part_at t ≡ escaped_at (drop 1 t)
unfolding basic_part_at
basic_slash t slash =
    let other : is_plain (first t) ≡ false = ap is_plain slash in
    rw (other, eq-eqb (first t) 92 slash) refl

module _ (part_at : Text → Read Text) (c n : ℕ) (t : Text) where
  -- quotes that close the string
  piece_closes : 3 ≤ run_of c t → parts_at part_at c (suc n) t ≡ Some (take (min (run_of c t) 5 - 3) t, drop (min (run_of c t) 5) t)
  unfolding parts_at
  piece_closes many = rw (le-leb 3 (run_of c t) many) refl

  -- quotes of the string
  piece_quotes : 0 < run_of c t → run_of c t < 3 → parts_at part_at c (suc n) t
      ≡ prepend (take (run_of c t) t) (parts_at part_at c n (drop (run_of c t) t))
  unfolding parts_at
  piece_quotes some few = rw (lt-leb 3 (run_of c t) few, lt-ltb 0 (run_of c t) some) refl

  -- a newline
  piece_line : run_of c t ≡ 0 → 0 < newline_len t → parts_at part_at c (suc n) t
      ≡ prepend (take (newline_len t) t) (parts_at part_at c n (drop (newline_len t) t))
  unfolding parts_at
  piece_line none some = rw (none, lt-ltb 0 (newline_len t) some) refl

  -- a part of a line
  piece_part : run_of c t ≡ 0 → newline_len t ≡ 0 → parts_at part_at c (suc n) t
      ≡ option_and_then (λ p. prepend p.0 (parts_at part_at c n p.1)) (part_at t)
  unfolding parts_at
  piece_part none no_line = rw (none, no_line) refl

-- a byte that stands for itself
own_byte : (f : Form) (n x : ℕ) (t : Text) → class_test (class_of f) x ≡ true → form_at f (suc n) (x ∷ t) ≡ prepend (x ∷ []) (form_at f n t)
own_byte Basic n x t itself =
    let (quote, feed, return) = plain_apart x itself in
    step_part basic_part_at 34 n (x ∷ t) (x ∷ []) t quote (no_newline x t feed return) (unfold basic_part_at in rw itself refl)
own_byte Literal n x t itself =
    let (quote, feed, return) = literal_apart x itself in
    step_part literal_part_at 39 n (x ∷ t) (x ∷ []) t quote (no_newline x t feed return) (unfold literal_part_at in rw itself refl)

-- bytes that stand for themselves
pub own_piece : (f : Form) (t : Text) (n : ℕ) → length t < n
    → GoesOn f (form_at f n t) (split_while (class_test (class_of f)) t).0 (split_while (class_test (class_of f)) t).1
own_piece f t zero h = absurd (omega arith)
own_piece f [] (suc n) h = (suc n, h, sym (prepend-nil _))
own_piece f (x ∷ t) (suc n) h =
    elim (cases_Bool (class_test (class_of f) x)) [
      | inl itself ↦
          let (m, room, more) = own_piece f t n (omega arith) in
          let k = prefix_len (class_test (class_of f)) t in
          let next : 1 + k ≡ suc k = omega arith in
          rw (itself, next) (m, room, own_byte f n x t itself ∙ ap (prepend (x ∷ [])) more ∙ prepend-prepend (x ∷ []) _ _)
      | inr other ↦ rw other (suc n, h, sym (prepend-nil _))
    ]

-- the first byte does not stand for itself
pub own_none : (f : Form) (t : Text) → length (split_while (class_test (class_of f)) t).0 ≡ 0 → class_test (class_of f) (first t) ≡ false
own_none Basic [] e = refl
own_none Literal [] e = refl
own_none f (x ∷ t) e =
    elim (cases_Bool (class_test (class_of f) x)) [
      | inl itself ↦
          let some : 0 < prefix_len (class_test (class_of f)) (x ∷ t) = rw itself (omega arith) in
          absurd (omega (arith, e, length-take (prefix_len (class_test (class_of f)) (x ∷ t)) (x ∷ t)))
      | inr other ↦ other
    ]

-- the closing quotes
pub last_piece : (f : Form) (t : Text) (n : ℕ) → length t < n → 3 ≤ run_of (delimiter_of f) t
    → form_at f n t ≡ Some (take (min (run_of (delimiter_of f) t) 5 - 3) t, drop (min (run_of (delimiter_of f) t) 5) t)
last_piece f t zero room many = absurd (omega arith)
last_piece f t (suc n) room many = piece_closes (part_of f) (delimiter_of f) n t many

-- quotes that close nothing
pub quotes_piece : (f : Form) (t : Text) (n : ℕ) → length t < n → 0 < run_of (delimiter_of f) t → run_of (delimiter_of f) t < 3
    → GoesOn f (form_at f n t) (take (run_of (delimiter_of f) t) t) (drop (run_of (delimiter_of f) t) t)
quotes_piece f t zero room some few = absurd (omega arith)
quotes_piece f t (suc n) room some few =
    let k = run_of (delimiter_of f) t in (
      n,
      omega (arith, length-drop k t, prefix_len-le-length (λ x. x == delimiter_of f) t),
      piece_quotes (part_of f) (delimiter_of f) n t some few,
    )

-- a newline is no longer than the text
pub newline_within : (t : Text) → 0 < newline_len t → newline_len t ≤ length t
newline_within t some = omega (arith, within_from_byte t (newline_len t - 1) (omega (arith, newline_last t some)))

-- a newline
pub line_piece : (f : Form) (t : Text) (n : ℕ) → length t < n → run_of (delimiter_of f) t ≡ 0 → 0 < newline_len t
    → GoesOn f (form_at f n t) (take (newline_len t) t) (drop (newline_len t) t)
line_piece f t zero room none some = absurd (omega arith)
line_piece f t (suc n) room none some =
    (n, omega (arith, length-drop (newline_len t) t, newline_within t some), piece_line (part_of f) (delimiter_of f) n t none some)

-- what a backslash begins
pub escaped_piece : (f : Form) (t : Text) (n : ℕ) (v rest : Text) → f ≡ Basic → length t < n → run_of (delimiter_of f) t ≡ 0 → newline_len t
    ≡ 0 → first t ≡ 92
    → escaped_at (drop 1 t) ≡ Some (v, rest) → length rest < length t → GoesOn f (form_at f n t) v rest
escaped_piece Literal t n v rest basic room none no_line slash found shorter = absurd cc
escaped_piece Basic t zero v rest basic room none no_line slash found shorter = absurd (omega arith)
escaped_piece Basic t (suc n) v rest basic room none no_line slash found shorter = (
  n,
  omega arith,
  piece_part basic_part_at 34 n t none no_line
      ∙ ap (option_and_then (λ p. prepend p.0 (parts_at basic_part_at 34 n p.1))) (basic_slash t slash ∙ found),
)

-- what goes on by no piece
pub no_piece : (f : Form) (t : Text) (n : ℕ) → length t < n → run_of (delimiter_of f) t ≡ 0 → newline_len t ≡ 0 → part_of f t ≡ None
    → form_at f n t ≡ None
no_piece f t zero room none no_line nothing = absurd (omega arith)
no_piece f t (suc n) room none no_line nothing =
    piece_part (part_of f) (delimiter_of f) n t none no_line ∙ ap (option_and_then (λ p. prepend p.0 (form_at f n p.1))) nothing

-- no part of a line begins with another byte
pub part_none : (f : Form) (t : Text) → class_test (class_of f) (first t) ≡ false → first t ≢ 92 → part_of f t ≡ None
unfolding basic_part_at literal_part_at
part_none Basic t other slash = rw (other, ne_eqb (first t) 92 slash) refl
part_none Literal t other slash = rw other refl

-- a backslash with neither a gap nor an escape behind it
pub slash_none : (f : Form) (t : Text) → f ≡ Basic → first t ≡ 92 → escaped_at (drop 1 t) ≡ None → part_of f t ≡ None
slash_none Basic t basic slash nothing = basic_slash t slash ∙ nothing
slash_none Literal t basic slash nothing = absurd cc

-- ---- the same of what the code has

-- a run of bytes and what follows, by other names
pub own_is : (f : Form) (t : Text) (n : ℕ) (k : Class) (own rest : Text) → length t < n → k ≡ class_of f → (own, rest)
    ≡ split_while (class_test k) t → GoesOn f (form_at f n t) own rest
own_is f t n k own rest room same parts =
    subst (λ (p : Text × Text). GoesOn f (form_at f n t) p.0 p.1) (sym (parts ∙ ap (λ (k : Class). split_while (class_test k) t) same))
    (own_piece f t n room)

-- the closing quotes, by other names
pub last_is : (f : Form) (t : Text) (n run end : ℕ) (own rest : Text) → length t < n → run ≡ run_of (delimiter_of f) t → 3 ≤ run → end
    ≡ min run 5
    → own ≡ take (end - 3) t → rest ≡ drop end t → form_at f n t ≡ Some (own, rest)
last_is f t n run end own rest room same many least front back =
    let e : min (run_of (delimiter_of f) t) 5 ≡ end = ap (λ (k : ℕ). min k 5) (sym same) ∙ sym least in
    last_piece f t n room (omega arith) ∙ ap (λ (k : ℕ). Some (take (k - 3) t, drop k t)) e
    ∙ ap (λ (x : Text). Some (x, drop end t)) (sym front) ∙ ap (λ (x : Text). Some (own, x)) (sym back)

-- quotes that close nothing, by other names
pub quotes_is : (f : Form) (t : Text) (n run : ℕ) (own rest : Text) → length t < n → run ≡ run_of (delimiter_of f) t → 0 < run → run < 3
    → own ≡ take run t → rest ≡ drop run t
    → GoesOn f (form_at f n t) own rest
quotes_is f t n run own rest room same some few front back = rw (front, back, same) (quotes_piece f t n room (omega arith) (omega arith))

-- a newline, by other names
pub line_is : (f : Form) (t : Text) (n len : ℕ) (own rest : Text) → length t < n → run_of (delimiter_of f) t ≡ 0 → len ≡ newline_len t
    → 0 < len → own ≡ take len t → rest ≡ drop len t
    → GoesOn f (form_at f n t) own rest
line_is f t n len own rest room none same some front back = rw (front, back, same) (line_piece f t n room none (omega arith))

-- no byte that stands for itself, by other names
pub own_none_is : (f : Form) (t : Text) (k : Class) (own rest : Text) → k ≡ class_of f → (own, rest) ≡ split_while (class_test k) t
    → length own ≡ 0 → class_test (class_of f) (first t) ≡ false
own_none_is f t k own rest same parts none =
    own_none f t (sym (ap (λ (p : Text × Text). length p.0) (parts ∙ ap (λ (k : Class). split_while (class_test k) t) same)) ∙ none)

-- ---- either form

-- a delimiter is ASCII
pub delimiter_ascii : (f : Form) → (0 < delimiter_of f) × (delimiter_of f < 128)
delimiter_ascii Basic = (omega arith, omega arith)
delimiter_ascii Literal = (omega arith, omega arith)

-- a byte that ends a run
pub run_last : (f : Form) (t : Text) (i : ℕ) → 0 < i → i ≤ run_of (delimiter_of f) t → (0 < get_or t (i - 1) 0) × (get_or t (i - 1) 0 < 128)
run_last f t i some within =
    let same : get_or t (i - 1) 0 ≡ delimiter_of f = run_byte (delimiter_of f) t (i - 1) (omega arith) in
    (omega (arith, same, delimiter_ascii f), omega (arith, same, delimiter_ascii f))

-- ---- the loops

-- the whole is read by its opening
pub opened : (t : Text) (f : Form) (rest : Text) → Some (f, rest) ≡ opening_at t → length rest < length t → GoesOn f (block_at t) [] rest
unfolding opening_at block_at
opened t f rest e shorter =
    elim (chosen (has_three 34 t) (Some (Basic, inside t)) _ (Some (f, rest)) (sym e)) [
      | inl (basic, h) ↦
          let both : ◌≡◌ {A = Form × Text} (Basic, inside t) (f, rest) = cc in
          let (form, after) = same_parts Basic f (inside t) rest both in
          (length t, shorter, rw basic refl ∙ ap (λ (p : Form × Text). form_at p.0 (length t) p.1) both ∙ sym (prepend-nil _))
      | inr (other, h) ↦
          let (literal, g) = guard_some (has_three 39 t) (Literal, inside t) (f, rest) h in
          (length t, shorter, rw (other, literal) refl ∙ ap (λ (p : Form × Text). form_at p.0 (length t) p.1) g ∙ sym (prepend-nil _))
    ]

-- and is none where none opens
pub unopened : (t : Text) → None ≡ opening_at t → block_at t ≡ None
unfolding opening_at block_at
unopened t e =
    elim (cases_Bool (has_three 34 t)) [
      | inl basic ↦ let has : opening_at t ≡ Some (Basic, inside t) = rw basic refl in absurd cc
      | inr other ↦ elim (cases_Bool (has_three 39 t)) [
        | inl literal ↦ let has : opening_at t ≡ Some (Literal, inside t) = rw (other, literal) refl in absurd cc
        | inr neither ↦ rw (other, neither) refl
      ]
    ]

-- one piece more
goes_more : (f : Form) (r : Read Text) (out bytes rest next : Text) (m : ℕ) → r ≡ prepend out (form_at f m rest)
    → GoesOn f (form_at f m rest) bytes next → GoesOn f r (out ++ bytes) next
goes_more f r out bytes rest next m e (k, room, more) = (k, room, e ∙ ap (prepend out) more ∙ prepend-prepend out bytes _)

-- what stands next, at any depth that suffices
abbrev pub Next : Form → Text → Piece → Text → Type 0
Next f rest piece next = (n : ℕ) → length rest < n → ReadsPiece f (form_at f n rest) piece next

module _ (f : Form) (r : Read Text) (out rest next : Text) (h : GoesOn f r out rest) where
  -- the reading goes on behind bytes
  pub own_goes : (own : Text) → ((n : ℕ) → length rest < n → GoesOn f (form_at f n rest) own next) → GoesOn f r (out ++ own) next
  own_goes own reads = let (m, room, e) = h in goes_more f r out own rest next m e (reads m room)

  -- the reading goes on behind a piece that is not the last
  pub piece_goes : (piece : Piece) → Next f rest piece next → ((own : Bor Text) → piece ≡ Last own → ⊥) → (more : Text)
      × GoesOn f r more next
  piece_goes (Own own) reads other = (out ++ own.now, own_goes own.now reads)
  piece_goes (Escaped c) reads other = (out ++ escaped_text c, own_goes (escaped_text c) reads)
  piece_goes (Last own) reads other = absurd (other own refl)

-- ---- a run, and what stands behind it

module _ (f : Form) (s own rest : Text) (k : Class) (same : k ≡ class_of f) (parts : (own, rest) ≡ split_while (class_test k) s) where
  -- the run and the rest are the text
  joined : own ++ rest ≡ s
  joined = ap (λ (p : Text × Text). p.0 ++ p.1) parts ∙ take-append-drop (prefix_len (class_test k) s) s

  front_behind : (i : ℕ) → take (length own + i) s ≡ own ++ take i rest
  front_behind i = ap (take (length own + i)) (sym joined) ∙ take-append-add own rest i

  back_behind : (i : ℕ) → drop (length own + i) s ≡ drop i rest
  back_behind i = ap (drop (length own + i)) (sym joined) ∙ drop-append-add own rest i

  -- with no run, the rest is the text
  pub unmoved : length own ≡ 0 → rest ≡ s
  unmoved none = sym (back_behind 0) ∙ ap (λ (n : ℕ). drop (n + 0) s) none

  -- a place behind the run is one of the text
  pub boundary_after : (i : ℕ) → length own ≤ length s → IsCharBoundary rest i → IsCharBoundary s (length own + i)
  boundary_after i within b =
      let after : drop (length own) s ≡ rest = ap (λ (n : ℕ). drop n s) (omega arith) ∙ back_behind 0 in
      IsCharBoundary-from_rest s (length own) i within (subst (λ (t : Text). IsCharBoundary t i) (sym after) b)

  -- bytes behind the run
  bytes_behind : (n i : ℕ) (x y : Text) → length s < n → x ≡ take (length own + i) s → y ≡ drop (length own + i) s
      → ((m : ℕ) → length rest < m → GoesOn f (form_at f m rest) (take i rest) (drop i rest)) → GoesOn f (form_at f n s) x y
  bytes_behind n i x y room front back reads =
      let both = own_goes f (form_at f n s) own rest (drop i rest) (own_is f s n k own rest room same parts) (take i rest) reads in
      subst (λ (p : Text × Text). GoesOn f (form_at f n s) p.0 p.1) (λ j. (sym (front ∙ front_behind i) j, sym (back ∙ back_behind i) j))
      both

  -- quotes behind it that close nothing
  pub quotes_behind : (n run : ℕ) (x y : Text) → length s < n → run ≡ run_of (delimiter_of f) rest → 0 < run → run < 3
      → x ≡ take (length own + run) s → y ≡ drop (length own + run) s → GoesOn f (form_at f n s) x y
  quotes_behind n run x y room is some few front back =
      bytes_behind n run x y room front back (λ m room. quotes_is f rest m run (take run rest) (drop run rest) room is some few refl refl)

  -- a newline behind it
  pub line_behind : (n len : ℕ) (x y : Text) → length s < n → run_of (delimiter_of f) rest ≡ 0 → len ≡ newline_len rest → 0 < len
      → x ≡ take (length own + len) s → y ≡ drop (length own + len) s → GoesOn f (form_at f n s) x y
  line_behind n len x y room none is some front back =
      bytes_behind n len x y room front back (λ m room. line_is f rest m len (take len rest) (drop len rest) room none is some refl refl)

  -- the closing quotes behind it
  pub last_behind : (n run end : ℕ) (x y : Text) → length s < n → run ≡ run_of (delimiter_of f) rest → 3 ≤ run → end ≡ min run 5
      → x ≡ take ((length own + end) - 3) s → y ≡ drop end rest → form_at f n s ≡ Some (x, y)
  last_behind n run end x y room is many least front back =
      let (m, roomy, e) = own_is f s n k own rest room same parts in
      let last = last_is f rest m run end (take (end - 3) rest) (drop end rest) roomy is many least refl refl in
      let shift : (length own + end) - 3 ≡ length own + (end - 3) = omega arith in
      let front' : x ≡ own ++ take (end - 3) rest = front ∙ ap (λ (i : ℕ). take i s) shift ∙ front_behind (end - 3) in
      e ∙ ap (prepend own) last ∙ (λ j. Some (sym front' j, sym back j))
