-- What is counted from the beginning of a text is the position of its end, and the marks say it.
use Rattle.std.proofs.Common.{◌≡◌, refl, sym, ap, subst, ◌∙◌, ℕ, min, suc, ◌+◌, ◌-◌, ◌*◌, ◌/◌, ◌%◌, ◌<◌, ◌≤◌, Bool, true, false, not, ◌==◌, cond, List, [], ◌∷◌, ◌++◌, length, take, drop, inl, inr, arith, append_assoc, append-nil}
use Rattle.std.specs.Prelude.{count_by}
use Rattle.std.specs.List.{prefix_len}
use Rattle.std.proofs.lemmas.Bool.{cases_lt}
use Rattle.std.proofs.lemmas.List.{drop_all, drop-append-le, drop-take, get_or_append_left, get_or_push, length-append, length-take, length-take-le, length_push, reverse-append, take_all, take-append-drop, take_min, take-take}
use Rattle.std.proofs.lemmas.List.Sums.{count_by-le-length, fold-append, sum_by_push}
use Rattle.toml_edit_model.specs.Excerpt.{characters, is_continuation, last_line_size}
use Rattle.toml_edit_model.specs.Text.{Text, line_feed}
use Rattle.toml_edit_index.specs.Indexed.{place_in}
use Rattle.toml_edit_index.specs.Lines.{AreMarks, after_byte, after_bytes, first, position_at}
use Rattle.toml_edit_index.specs.declared.lines.Position.{Position}

-- ---- where a text ends

abbrev newlines : Text → ℕ
newlines t = count_by (λ c. c == line_feed) t

abbrev last_line : Text → Text
last_line t = drop (length t - last_line_size t) t

abbrev end_of : Text → Position
end_of t = record { line = suc (newlines t); column = suc (characters (last_line t)) }

line_more : (t : Text) (c : ℕ) (b : Bool) → (c == line_feed) ≡ b → last_line (t ++ c ∷ []) ≡ cond b [] (last_line t ++ c ∷ [])
line_more t c true e =
    let size : last_line_size (t ++ c ∷ []) ≡ 0 =
    ap (prefix_len (λ d. not (d == line_feed))) (reverse-append t (c ∷ [])) ∙ ap (λ (b : Bool). cond {A = ℕ} (not b) (1 + last_line_size t) 0) e in
    drop_all (length (t ++ c ∷ []) - last_line_size (t ++ c ∷ [])) (t ++ c ∷ []) (omega (arith, size))
line_more t c false e =
    let size : last_line_size (t ++ c ∷ []) ≡ 1 + last_line_size t =
    ap (prefix_len (λ d. not (d == line_feed))) (reverse-append t (c ∷ [])) ∙ ap (λ (b : Bool). cond {A = ℕ} (not b) (1 + last_line_size t) 0) e in
    let at : length (t ++ c ∷ []) - last_line_size (t ++ c ∷ []) ≡ length t - last_line_size t = omega (arith, size, length-append t (c ∷ [])) in
    ap (λ n. drop n (t ++ c ∷ [])) at ∙ drop-append-le (length t - last_line_size t) t (c ∷ []) (omega arith)

end_more : (t : Text) (c : ℕ) (b : Bool) → (c == line_feed) ≡ b → after_byte (end_of t) c ≡ end_of (t ++ c ∷ [])
end_more t c true e =
    let lines : newlines (t ++ c ∷ []) ≡ newlines t + 1 =
    sum_by_push (λ d. cond {A = ℕ} (d == line_feed) 1 0) t c ∙ ap (λ (b : Bool). newlines t + cond {A = ℕ} b 1 0) e in
    let line : suc (newlines t) + 1 ≡ suc (newlines (t ++ c ∷ [])) = omega (arith, lines) in
    let column : 1 ≡ suc (characters (last_line (t ++ c ∷ []))) = ap (λ (u : Text). suc (characters u)) (sym (line_more t c true e)) in
    rw e (cc)
end_more t c false e =
    let lines : newlines (t ++ c ∷ []) ≡ newlines t + 0 =
    sum_by_push (λ d. cond {A = ℕ} (d == line_feed) 1 0) t c ∙ ap (λ (b : Bool). newlines t + cond {A = ℕ} b 1 0) e in
    let line : suc (newlines t) ≡ suc (newlines (t ++ c ∷ [])) = omega (arith, lines) in
    let one : characters (c ∷ []) ≡ cond {A = ℕ} (not (is_continuation c)) 1 0 = omega arith in
    let size : characters (last_line (t ++ c ∷ [])) ≡ characters (last_line t) + cond {A = ℕ} (not (is_continuation c)) 1 0 =
    ap characters (line_more t c false e) ∙ sum_by_push (λ d. cond {A = ℕ} (not (is_continuation d)) 1 0) (last_line t) c in
    let column : suc (characters (last_line t)) + characters (c ∷ []) ≡ suc (characters (last_line (t ++ c ∷ []))) = omega (arith, one, size) in
    rw e (cc)

counted_from : (s t : Text) → after_bytes (end_of s) t ≡ end_of (s ++ t)
counted_from s [] = ap end_of (sym (append-nil s))
counted_from s (c ∷ t) =
    ap (λ p. after_bytes p t) (end_more s c (c == line_feed) refl) ∙ counted_from (s ++ c ∷ []) t ∙ ap end_of (append_assoc s (c ∷ []) t)

pub position_at-is : (t : Text) (byte : ℕ) → position_at t byte ≡ (let p = place_in t byte in record { line = suc p.line; column = suc p.column })
position_at-is t byte =
    let above = take byte t in
    counted_from [] above
    ∙ ap (λ (u : Text). record { line = suc (newlines u); column = suc (characters (drop (length above - last_line_size u) u)) }) (sym (take_all (length above) above (omega arith)))

-- ---- positions are small

step_within : (p : Position) (c : ℕ) (b : Bool) → (c == line_feed) ≡ b → ((after_byte p c).line ≤ p.line + 1) × ((after_byte p c).column ≤ p.column + 1)
step_within p c true e = rw e (omega arith, omega arith)
step_within p c false e =
    let one : characters (c ∷ []) ≤ 1 = count_by-le-length (λ d. not (is_continuation d)) (c ∷ []) in rw e (omega arith, omega (arith, one))

pub within : (p : Position) (t : Text) → ((after_bytes p t).line ≤ p.line + length t) × ((after_bytes p t).column ≤ p.column + length t)
within p [] = (omega arith, omega arith)
within p (c ∷ t) =
    let here = step_within p c (c == line_feed) refl in
    let rest = within (after_byte p c) t in (omega (arith, here, rest), omega (arith, here, rest))

-- a byte more has room
pub room : (p here : Position) (t : Text) (i n : ℕ) → i < length t → here ≡ after_bytes p (take i t)
    → p.line + length t < n → p.column + length t < n → (here.line + 1 < n) × (here.column + 1 < n)
room p here t i n h is line column =
    let w = within p (take i t) in
    let size : length (take i t) ≡ i = length-take-le i t (omega arith) in
    let l : here.line ≡ (after_bytes p (take i t)).line = ap (λ (q : Position). q.line) is in
    let k : here.column ≡ (after_bytes p (take i t)).column = ap (λ (q : Position). q.column) is in
    (omega (arith, w, size, l), omega (arith, w, size, k))

-- ---- marks

pub marks_more : (t : Text) (ms : List Position) (p : Position) → AreMarks t ms → p ≡ position_at t (64 * length ms) → AreMarks t (ms ++ p ∷ [])
marks_more t ms p all at =
    λ i h. elim (cases_lt i (length ms)) [
      | inl l ↦ get_or_append_left ms (p ∷ []) first i l ∙ all i l
      | inr g ↦
          let e : length ms ≡ i = omega (arith, length_push ms p) in
          get_or_push ms p first i e ∙ at ∙ ap (λ n. position_at t (64 * n)) e
    ]

-- a mark at every 64th byte
pub mark_turn : (t : Text) (old new : List Position) (here : Position) (at : ℕ) → AreMarks t old → here ≡ position_at t at → at ≤ 64 * length old
    → 64 * length old < at + 64 → at % 64 ≡ 0 → new ≡ old ++ here ∷ []
    → (at + 1 ≤ 64 * length new) × (64 * length new < at + 1 + 64) × AreMarks t new
mark_turn t old new here at all is low high even grown =
    let place : at ≡ 64 * length old = omega arith in
    let size : length new ≡ length old + 1 = ap length grown ∙ length_push old here in (
      omega (arith, place, size),
      omega (arith, place, size),
      subst (AreMarks t) (sym grown) (marks_more t old here all (is ∙ ap (position_at t) place)),
    )

-- ---- from a mark on

pub from_mark : (t : Text) (b n : ℕ) (p : Position) → b ≤ length t → p ≡ position_at t (64 * (b / 64)) → 1 + length t < n
    → (p.line + length (take (b - b / 64 * 64) (drop (b / 64 * 64) t)) < n) × (p.column + length (take (b - b / 64 * 64) (drop (b / 64 * 64) t)) < n)
from_mark t b n p low is small =
    let w = within first (take (64 * (b / 64)) t) in
    let size : length (take (64 * (b / 64)) t) ≡ 64 * (b / 64) = length-take-le (64 * (b / 64)) t (omega arith) in
    let rest = length-take (b - b / 64 * 64) (drop (b / 64 * 64) t) in
    let l : p.line ≡ (position_at t (64 * (b / 64))).line = ap (λ (q : Position). q.line) is in
    let k : p.column ≡ (position_at t (64 * (b / 64))).column = ap (λ (q : Position). q.column) is in
    (omega (arith, w, size, rest, l), omega (arith, w, size, rest, k))

pub to_byte : (t : Text) (byte b : ℕ) (p r : Position) → b ≡ min byte (length t) → p ≡ position_at t (64 * (b / 64))
    → r ≡ after_bytes p (take (b - b / 64 * 64) (drop (b / 64 * 64) t)) → r ≡ position_at t byte
to_byte t byte b p r least is ends =
    let m = b / 64 * 64 in
    let place : 64 * (b / 64) ≡ m = omega arith in
    let under : m ≤ b = omega arith in
    let whole : m + (b - m) ≡ b = omega arith in
    let cut : take m t ++ take (b - m) (drop m t) ≡ take b t =
    ap (λ (u : Text). u ++ take (b - m) (drop m t)) (sym (take-take m b t under))
    ∙ ap (λ (u : Text). take m (take b t) ++ u) (sym (drop-take m (b - m) t) ∙ ap (λ n. drop m (take n t)) whole)
    ∙ take-append-drop m (take b t) in
    ends ∙ ap (λ q. after_bytes q (take (b - m) (drop m t))) (is ∙ ap (position_at t) place)
    ∙ sym (fold-append after_byte first (take m t) (take (b - m) (drop m t)))
    ∙ ap (after_bytes first) cut ∙ ap (λ n. after_bytes first (take n t)) least ∙ ap (after_bytes first) (take_min byte t)
