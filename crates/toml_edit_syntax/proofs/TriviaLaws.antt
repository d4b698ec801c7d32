-- Trivia: what is scanned is trivia, and trivia is scanned.
use Rattle.std.proofs.Common.{◌≡◌, ℕ, suc, ◌+◌, ◌<◌, ◌≤◌, Bool, true, false, ◌&&◌, ◌||◌, ◌==◌, List, [], ◌∷◌, ◌++◌, ◌⊎◌, length, get_or}
use Rattle.std.proofs.Common.{take, drop, Option, Some, None, refl, sym, ap, ◌∙◌, subst, inl, inr, arith, add-zero, one-add, get_or-drop}
use Rattle.std.proofs.Common.{append_assoc, append-nil, eqb-true}
use Rattle.std.proofs.lemmas.Bool.{and_parts, and_from, or_cases, cases_eq, false≢true}
use Rattle.std.proofs.lemmas.Bool.Decides.{nat_tests}
use Rattle.std.proofs.lemmas.List.{drop_more, drop_all, drop-drop, length-append, take-append-drop}
use Rattle.std.proofs.lemmas.List.Folds.{length-prefix_len}
use Rattle.std.specs.List.{flat_map, AllByRecursion, list_all, prefix_len}
use Rattle.std.specs.Prelude.{if◌then◌else◌, slice_index}
use Rattle.std.specs.Str.{IsCharBoundary}
use Rattle.toml_edit_laws.specs.reading.Runs.{first}
use Rattle.toml_edit_model.specs.Text.{Text}
use Rattle.toml_edit_model.specs.Trivia.{is_blank, is_visible, Each, Newline, lf, crlf, newline_text, comment, Piece, blank, break, remark}
use Rattle.toml_edit_model.specs.Trivia.{piece_text, IsPiece, IsWholeTrivia}
use Rattle.toml_edit_syntax.specs.Scanning.{turn, scan}
use Rattle.toml_edit_syntax.specs.ValueReading.{got, trivia_at}
use Rattle.toml_edit_laws.proofs.reading.RunLaws.{Each-run}
use Rattle.toml_edit_laws.proofs.reading.Steps.{chosen}

-- ---- the loop, a turn at a time

-- n more, and the same state
abbrev pub further : ℕ → ℕ × Bool → ℕ × Bool
further n r = (n + r.0, r.1)

pub scan_more : (inside : Bool) (c : ℕ) (cs : Text) (state : Bool) → turn inside c (first cs) ≡ Some state → scan inside (c ∷ cs)
    ≡ further 1 (scan state cs)
unfolding scan
scan_more inside c cs state e = rw (e, one-add)

pub scan_stop : (inside : Bool) (c : ℕ) (cs : Text) → turn inside c (first cs) ≡ None → scan inside (c ∷ cs) ≡ (0, inside)
unfolding scan
scan_stop inside c cs e = rw e

pub scan_nil : (inside : Bool) → scan inside [] ≡ (0, inside)
unfolding scan
scan_nil inside = refl

module _ (start : ℕ × Bool) (inside : Bool) where
  at_drop : (xs : Text) (i : ℕ) (r : Option Bool) → turn inside (get_or xs i 0) (get_or xs (i + 1) 0) ≡ r
      → turn inside (get_or xs i 0) (first (drop (i + 1) xs)) ≡ r
  at_drop xs i r e = rw (get_or-drop (i + 1) xs 0 0, add-zero) e

  pub scan_stops : (xs : Text) (i : ℕ) → i < length xs → turn inside (get_or xs i 0) (get_or xs (i + 1) 0) ≡ None
      → start ≡ further i (scan inside (drop i xs)) → start ≡ (i, inside)
  scan_stops xs i h e loop = loop ∙ ap (λ l. further i (scan inside l)) (drop_more xs i 0 h)
      ∙ ap (further i) (scan_stop inside _ _ (at_drop xs i None e)) ∙ rw add-zero refl

  pub scan_goes : (state : Bool) (xs : Text) (i : ℕ) → i < length xs → turn inside (get_or xs i 0) (get_or xs (i + 1) 0) ≡ Some state
      → start ≡ further i (scan inside (drop i xs)) → start ≡ further (i + 1) (scan state (drop (i + 1) xs))
  scan_goes state xs i h e loop =
      let r = scan state (drop (i + 1) xs) in
      let more : i + (1 + r.0) ≡ i + 1 + r.0 = omega arith in
      loop ∙ ap (λ l. further i (scan inside l)) (drop_more xs i 0 h)
      ∙ ap (further i) (scan_more inside _ _ state (at_drop xs i (Some state) e)) ∙ rw more refl

  pub scan_ends : (xs : Text) (i : ℕ) → length xs ≤ i → start ≡ further i (scan inside (drop i xs)) → start ≡ (i, inside)
  scan_ends xs i h loop = loop ∙ ap (λ l. further i (scan inside l)) (drop_all i xs h) ∙ ap (further i) (scan_nil inside) ∙ rw add-zero refl

-- ---- little trivia

-- none, where none begins with the first byte
pub solid_trivia : (t : Text) → ((next : ℕ) → turn false (first t) next ≡ None) → trivia_at t ≡ got (take 0 t) (drop 0 t)
unfolding trivia_at
solid_trivia [] h = rw (scan_nil false) refl
solid_trivia (c ∷ cs) h = rw (scan_stop false c cs (h (first cs))) refl

-- and so it goes no further
pub solid_scan : (t : Text) → ((next : ℕ) → turn false (first t) next ≡ None) → scan false t ≡ (0, false)
solid_scan [] h = scan_nil false
solid_scan (c ∷ cs) h = scan_stop false c cs (h (first cs))

spaced_turn : (c next : ℕ) → c ≡ 32 → turn false c next ≡ Some false
spaced_turn c next e = rw e refl

-- one space, where none begins with the byte behind it
pub spaced_trivia : (t : Text) → first t ≡ 32 → ((next : ℕ) → turn false (slice_index t 1) next ≡ None) → trivia_at t
    ≡ got (take 1 t) (drop 1 t)
unfolding trivia_at
spaced_trivia [] e h = absurd cc
spaced_trivia (c ∷ []) e h = rw (scan_more false c [] false (spaced_turn c 0 e), scan_nil false) refl
spaced_trivia (c ∷ d ∷ ds) e h =
    rw (scan_more false c (d ∷ ds) false (spaced_turn c d e), scan_stop false d ds (h (first ds))) refl

-- ---- trivia is scanned

-- the body of a comment and its newline
scan-newline : (inside : Bool) (n : Newline) (rest : Text) → scan inside (newline_text n ++ rest)
    ≡ further (length (newline_text n)) (scan false rest)
scan-newline inside lf rest = scan_more inside 10 rest false refl
scan-newline inside crlf rest =
    let r = scan false rest in
    let two : 1 + (1 + r.0) ≡ 2 + r.0 = omega arith in
    scan_more inside 13 (10 ∷ rest) false refl ∙ ap (further 1) (scan_more false 10 rest false refl) ∙ rw two refl

scan-body : (body rest : Text) → Each is_visible body → scan true (body ++ rest) ≡ further (length body) (scan true rest)
scan-body [] rest h = sym (ap (λ n. (n, (scan true rest).1)) (omega arith))
scan-body (c ∷ cs) rest h =
    let (here, more) = and_parts (is_visible c) (list_all is_visible cs) h in
    let r = scan true rest in
    let next : 1 + (length cs + r.0) ≡ suc (length cs) + r.0 = omega arith in
    scan_more true c (cs ++ rest) true (grind (arith, nat_tests)) ∙ ap (further 1) (scan-body cs rest more) ∙ rw next refl

-- a comment goes on as far as its bytes are visible
scan-run : (t : Text) → scan true t ≡ further (prefix_len is_visible t) (scan true (drop (prefix_len is_visible t) t))
scan-run t =
    let n = prefix_len is_visible t in
    ap (λ (x : Text). scan true x) (sym (take-append-drop n t)) ∙ scan-body (take n t) (drop n t) (Each-run is_visible t)
    ∙ ap (λ k. further k (scan true (drop n t))) (length-prefix_len is_visible t)

pub scan-skips : (start : ℕ × Bool) (xs : Text) (i n : ℕ) → n ≡ prefix_len is_visible (drop i xs) → start
    ≡ further i (scan true (drop i xs))
    → start ≡ further (i + n) (scan true (drop (i + n) xs))
scan-skips start xs i n run loop =
    let rest = scan true (drop n (drop i xs)) in
    let more : i + (n + rest.0) ≡ i + n + rest.0 = omega arith in
    loop ∙ ap (further i) (scan-run (drop i xs) ∙ ap (λ k. further k (scan true (drop k (drop i xs)))) (sym run))
    ∙ ap (λ k. (k, rest.1)) more ∙ ap (λ (l : Text). further (i + n) (scan true l)) (drop-drop n i xs)

-- what is passed over in one step: the visible bytes of a comment, and none elsewhere
abbrev pub passed : Bool → Text → ℕ
passed inside t = if inside then prefix_len is_visible t else 0

pub skipped : (inside : Bool) (start : ℕ × Bool) (xs : Text) (i n : ℕ) → n ≡ passed inside (drop i xs) → start
    ≡ further i (scan inside (drop i xs))
    → start ≡ further (i + n) (scan inside (drop (i + n) xs))
skipped true start xs i n run loop = scan-skips start xs i n run loop
skipped false start xs i n run loop = rw (run, add-zero) loop

pub skipped_at : (inside : Bool) (xs : Text) (i n : ℕ) → n ≡ passed inside (drop i xs) → inside ≡ false → IsCharBoundary xs i
    → IsCharBoundary xs (i + n)
skipped_at true xs i n run outside h = absurd cc
skipped_at false xs i n run outside h = rw (run, add-zero) h

scan-piece : (p : Piece) (rest : Text) → IsPiece p → scan false (piece_text p ++ rest) ≡ further (length (piece_text p)) (scan false rest)
scan-piece (blank c) rest h = scan_more false c rest false (grind (arith, nat_tests))
scan-piece (break n) rest h = scan-newline false n rest
scan-piece (remark body n) rest h =
    let r = scan false rest in
    let all : 1 + (length body + (length (newline_text n) + r.0)) ≡ suc (length (body ++ newline_text n)) + r.0 =
    omega (arith, length-append body (newline_text n)) in
    ap (λ l. scan false (35 ∷ l)) (append_assoc body (newline_text n) rest)
    ∙ scan_more false 35 (body ++ (newline_text n ++ rest)) true refl
    ∙ ap (further 1) (scan-body body (newline_text n ++ rest) h ∙ ap (further (length body)) (scan-newline true n rest))
    ∙ rw all refl

pub scan-pieces : (ps : List Piece) (rest : Text) → AllByRecursion IsPiece ps → scan false (flat_map piece_text ps ++ rest)
    ≡ further (length (flat_map piece_text ps)) (scan false rest)
scan-pieces [] rest h = sym (ap (λ n. (n, (scan false rest).1)) (omega arith))
scan-pieces (p ∷ ps) rest h =
    let r = scan false rest in
    let all : length (piece_text p) + (length (flat_map piece_text ps) + r.0) ≡ length (piece_text p ++ flat_map piece_text ps) + r.0 =
    omega (arith, length-append (piece_text p) (flat_map piece_text ps)) in
    ap (scan false) (append_assoc (piece_text p) (flat_map piece_text ps) rest) ∙ scan-piece p (flat_map piece_text ps ++ rest) h.0
    ∙ ap (further (length (piece_text p))) (scan-pieces ps rest h.1) ∙ rw all refl

pub scan-comment : (body : Text) → Each is_visible body → (scan false (comment body)).0 ≡ length (comment body)
scan-comment body h =
    let all : scan false (35 ∷ (body ++ [])) ≡ further 1 (further (length body) (scan true [])) = scan_more false 35 (body ++ []) true refl
    ∙ ap (further 1) (scan-body body [] h) in
    let e : scan false (comment body) ≡ (1 + (length body + 0), true) = ap (λ (x : Text). scan false (35 ∷ x)) (sym (append-nil body)) ∙ all
    ∙ ap (λ r. further 1 (further (length body) r)) (scan_nil true) in
    ap (λ (r : ℕ × Bool). r.0) e ∙ omega arith

-- ---- what is scanned is trivia

-- what a scan takes that begins outside a comment, and inside one; e says whether it ends inside one
abbrev pub Outside : Bool → Text → Type 0
Outside false t = IsWholeTrivia t
Outside true t = (w body : Text) × IsWholeTrivia w × Each is_visible body × (t ≡ w ++ comment body)

abbrev Closed : Bool → Text → Type 0
Closed e t = (body : Text) × (n : Newline) × (u : Text) × Each is_visible body × Outside e u × (t ≡ body ++ (newline_text n ++ u))

abbrev Took : Bool → Bool → Text → Type 0
Took false e t = Outside e t
Took true e t = Closed e t ⊎ ((e ≡ true) × Each is_visible t)

took_nil : (inside : Bool) → Took inside inside []
took_nil false = ([], tt, refl)
took_nil true = inr (refl, refl)

outside_piece : (e : Bool) (p : Piece) (u : Text) → IsPiece p → Outside e u → Outside e (piece_text p ++ u)
outside_piece false p u h (ps, each, parts) = (p ∷ ps, (h, each), ap (λ (x : Text). piece_text p ++ x) parts)
outside_piece true p u h (w, body, (ps, each, parts), text, whole) = (
  piece_text p ++ w,
  body,
  (p ∷ ps, (h, each), ap (λ (x : Text). piece_text p ++ x) parts),
  text,
  ap (λ (x : Text). piece_text p ++ x) whole ∙ sym (append_assoc (piece_text p) w (comment body)),
)

outside_comment : (e : Bool) (t : Text) → Took true e t → Outside e (35 ∷ t)
outside_comment e t (inl (body, n, u, text, more, parts)) =
    let whole : comment body ++ newline_text n ++ u ≡ 35 ∷ t =
    ap (λ (x : Text). 35 ∷ x) (append_assoc body (newline_text n) u ∙ sym parts) in
    subst (Outside e) whole (outside_piece e (remark body n) u text more)
outside_comment false t (inr (ends, text)) = absurd (false≢true ends)
outside_comment true t (inr (ends, text)) = ([], t, ([], tt, refl), text, refl)

took_newline : (inside e : Bool) (n : Newline) (u : Text) → Outside e u → Took inside e (newline_text n ++ u)
took_newline false e n u h = outside_piece e (break n) u tt h
took_newline true e n u h = inl ([], n, u, refl, h, refl)

inside_text : (e : Bool) (c : ℕ) (t : Text) → is_visible c ≡ true → Took true e t → Took true e (c ∷ t)
inside_text e c t h (inl (body, n, u, text, more, parts)) =
    inl (c ∷ body, n, u, and_from (is_visible c) (list_all is_visible body) h text, more, ap (λ (x : Text). c ∷ x) parts)
inside_text e c t h (inr (ends, text)) = inr (ends, and_from (is_visible c) (list_all is_visible t) h text)

-- the cases of a turn that goes on
abbrev Goes : Bool → ℕ → ℕ → Bool → Type 0
Goes inside c next state =
    ((c ≡ 10) × (state ≡ false)) ⊎ (((c ≡ 13) × (next ≡ 10) × (state ≡ false)) ⊎ (((inside ≡ false) × (is_blank c ≡ true) × (state ≡ false))
    ⊎ (((inside ≡ true) × (is_visible c ≡ true) × (state ≡ true)) ⊎ ((inside ≡ false) × (c ≡ 35) × (state ≡ true)))))

goes_newline : (inside : Bool) (c next : ℕ) (state : Bool) → (c == 10 || (c == 13 && next == 10)) ≡ true → false ≡ state
    → Goes inside c next state
goes_newline inside c next state b e =
    elim (or_cases (c == 10) (c == 13 && next == 10) b) [
      | inl is_lf ↦ inl (eqb-true c 10 is_lf, sym e)
      | inr both ↦ let (is_cr, is_lf) = and_parts (c == 13) (next == 10) both in
          inr (inl (eqb-true c 13 is_cr, eqb-true next 10 is_lf, sym e))
    ]

turn_cases : (inside : Bool) (c next : ℕ) (state : Bool) → turn inside c next ≡ Some state → Goes inside c next state
turn_cases false c next state e =
    elim (chosen (c == 10 || (c == 13 && next == 10)) (Some false) _ (Some state) e) [
      | inl (b, x) ↦ goes_newline false c next state b cc
      | inr (b, x) ↦ elim (chosen (is_blank c) (Some false) _ (Some state) x) [
        | inl (white, y) ↦ inr (inr (inl (refl, white, cc)))
        | inr (other, y) ↦ elim (chosen (c == 35) (Some true) None (Some state) y) [
          | inl (hash, z) ↦ inr (inr (inr (inr (refl, eqb-true c 35 hash, cc))))
          | inr (none, z) ↦ absurd cc
        ]
      ]
    ]
turn_cases true c next state e =
    elim (chosen (c == 10 || (c == 13 && next == 10)) (Some false) _ (Some state) e) [
      | inl (b, x) ↦ goes_newline true c next state b cc
      | inr (b, x) ↦ elim (chosen (is_visible c) (Some true) None (Some state) x) [
        | inl (text, y) ↦ inr (inr (inr (inl (refl, text, cc))))
        | inr (other, y) ↦ absurd cc
      ]
    ]

-- what ends a comment or goes on outside one is an ASCII byte, and so is what stops a comment
pub turn_ascii : (inside : Bool) (c next : ℕ) (state : Bool) → turn inside c next ≡ Some state → state ≡ false → c < 128
turn_ascii inside c next state e out = grind (arith, nat_tests)

pub turn_stops : (c next : ℕ) → turn true c next ≡ None → c < 128
turn_stops c next e = grind (arith, nat_tests)

-- what a scan takes, from what it takes behind the first byte, and behind the second
abbrev Takes : Bool → Text → ℕ × Bool → Type 0
Takes inside text r = Took inside r.1 (take r.0 text)

took_more : (inside : Bool) (c next : ℕ) (state : Bool) (e : Bool) (t : Text) → Goes inside c next state → ((c ≡ 13) × (next ≡ 10) → ⊥)
    → Took state e t → Took inside e (c ∷ t)
took_more inside c next state e t (inl (is_lf, st)) other h = rw is_lf (took_newline inside e lf t (rw st at h))
took_more inside c next state e t (inr (inl (is_cr, is_lf, st))) other h = absurd (other (is_cr, is_lf))
took_more inside c next state e t (inr (inr (inl (out, white, st)))) other h = rw out (outside_piece e (blank c) t white (rw st at h))
took_more inside c next state e t (inr (inr (inr (inl (within, text, st))))) other h = rw within (inside_text e c t text (rw st at h))
took_more inside c next state e t (inr (inr (inr (inr (out, hash, st))))) other h = rw (out, hash) (outside_comment e t (rw st at h))

cases_turn : (o : Option Bool) → (o ≡ None) ⊎ ((state : Bool) × (o ≡ Some state))
cases_turn None = inl refl
cases_turn (Some state) = inr (state, refl)

took_step : (inside : Bool) (c : ℕ) (cs : Text) → ((c ≡ 13) × (first cs ≡ 10) → ⊥) → ((state : Bool) → Takes state cs (scan state cs))
    → Takes inside (c ∷ cs) (scan inside (c ∷ cs))
took_step inside c cs other later =
    elim (cases_turn (turn inside c (first cs))) [
      | inl e ↦ subst (Takes inside (c ∷ cs)) (sym (scan_stop inside c cs e)) (took_nil inside)
      | inr (state, e) ↦
          let r = scan state cs in
          let one : 1 + r.0 ≡ suc r.0 = omega arith in
          subst (Takes inside (c ∷ cs)) (sym (scan_more inside c cs state e))
          (rw one (took_more inside c (first cs) state r.1 (take r.0 cs) (turn_cases inside c (first cs) state e) other (later state)))
    ]

pub scan_took : (inside : Bool) (text : Text) → Takes inside text (scan inside text)
scan_took inside [] = subst (Takes inside []) (sym (scan_nil inside)) (took_nil inside)
scan_took inside (c ∷ []) = took_step inside c [] (λ (is_cr, is_lf). omega arith) (λ state. scan_took state [])
scan_took inside (c ∷ d ∷ ds) =
    elim (cases_eq c 13) [
      | inl is_cr ↦ elim (cases_eq d 10) [
        | inl is_lf ↦
            let r = scan false ds in
            let two : 1 + (1 + r.0) ≡ suc (suc r.0) = omega arith in
            let scanned : scan inside (13 ∷ 10 ∷ ds) ≡ further 1 (further 1 r) = scan_more inside 13 (10 ∷ ds) false refl
            ∙ ap (further 1) (scan_more false 10 ds false refl) in
            rw (is_cr, is_lf) (subst (Takes inside (13 ∷ 10 ∷ ds)) (sym scanned)
            (rw two (took_newline inside r.1 crlf (take r.0 ds) (scan_took false ds))))
        | inr apart ↦ took_step inside c (d ∷ ds) (λ (a, is_lf). apart is_lf) (λ state. scan_took state (d ∷ ds))
      ]
      | inr apart ↦ took_step inside c (d ∷ ds) (λ (is_cr, b). apart is_cr) (λ state. scan_took state (d ∷ ds))
    ]
