-- Texts that suit their places do so after changes of their comments.
use Rattle.std.proofs.Common.{◌≡◌, refl, sym, ap, subst, ◌∙◌, ℕ, zero, suc, ◌-◌, ◌<◌, ◌≤◌, ◌==◌, ◌⊎◌, inl, inr, arith, Bool, true, false}
use Rattle.std.proofs.Common.{not, List, [], ◌∷◌, ◌++◌, length, take, drop, get_or, reverse, append_assoc, append-nil}
use Rattle.std.specs.Prelude.{if◌then◌else◌, take_while, filter, is_some, is_none, ◌&&◌}
use Rattle.std.specs.List.{before_first, flat_map, list_all, AllByRecursion, suffix_len}
use Rattle.std.proofs.lemmas.Bool.Decides.{Decides-eqb}
use Rattle.std.proofs.lemmas.Grind.{flat_map-append}
use Rattle.std.proofs.lemmas.List.{get_or-reverse, take-append-drop}
use Rattle.std.proofs.lemmas.List.Folds.{list_all-append}
use Rattle.std.proofs.lemmas.List.Sums.{take_while-cons, prefix_len_passes, suffix_len-le-length}
use Rattle.std.proofs.Math.Seq.{drop-append_seam}
use Rattle.toml_edit_model.specs.Text.{Text, line_feed, carriage_return, space, newline, one, joined, without_returns}
use Rattle.toml_edit_model.specs.Mode.{Mode, plain, exact, shown_text, ends_in_return, but_last, line_end}
use Rattle.toml_edit_model.specs.Trivia.{is_blank, is_visible, Each, IsWhiteSpace, lf, crlf, newline_text, IsNewline, comment, Piece, blank}
use Rattle.toml_edit_model.specs.Trivia.{break, remark, piece_text, IsPiece, IsWholeTrivia, IsLineEnd}
use Rattle.toml_edit_model.specs.Fits.{EndsLine}
use Rattle.toml_edit_model.specs.Comments.{begun_with, lines, first_line, after_first_line, before_last_feed, last_newline, end_of_words}
use Rattle.toml_edit_model.specs.Comments.{body_in, first_comment, without_comments, with_comment_line, before_comment, with_first_comment}
use Rattle.toml_edit_model.specs.Comments.{without_first_comment}
use Rattle.toml_edit_laws.proofs.common.Each.{all-append, all-filter, each-append}
use Rattle.toml_edit_laws.proofs.common.LineEnds.{ended, newline-is}
use Rattle.toml_edit_laws.proofs.common.Tests.{and_left, and_right, true-false}
use Rattle.toml_edit_laws.proofs.common.Trivia.{empty-trivia, no-byte, visible-returns, shown-append, empty-end}
use Rattle.toml_edit_laws.proofs.common.WhiteSpace.{white-shown, shown-none}
use Rattle.toml_edit_laws.proofs.normal_texts.Lean.{lean-trivia}
use Rattle.toml_edit_repr.proofs.CommentLines.{lines-other, lines-feed}

-- ---- texts without line feeds

abbrev pub not_feed : ℕ → Bool
not_feed c = not (c == line_feed)

abbrev pub NoFeed : Text → Type 0
NoFeed t = Each not_feed t

no-feed : (p : ℕ → Bool) → (p line_feed ≡ true → ⊥) → (t : Text) → Each p t → NoFeed t
no-feed p fails [] h = refl
no-feed p fails (c ∷ t) h =
    ap (λ b. not b && list_all not_feed t) (no-byte p line_feed fails c (and_left (p c) _ h))
    ∙ no-feed p fails t (and_right (p c) _ h)

white-feed : (t : Text) → IsWhiteSpace t → NoFeed t
white-feed t h = no-feed is_blank (λ e. let clash : is_blank line_feed ≡ true = e in cc) t h

pub visible-feed : (t : Text) → Each is_visible t → NoFeed t
visible-feed t h = no-feed is_visible (λ e. let clash : is_visible line_feed ≡ true = e in cc) t h

end-feed : (t : Text) → IsLineEnd t → NoFeed t
end-feed t (white, rest, h, inl none, e) =
    subst NoFeed (sym (e ∙ ap (λ u. white ++ u) none)) (each-append not_feed white [] (white-feed white h) refl)
end-feed t (white, rest, h, inr (body, g, is), e) =
    subst NoFeed (sym (e ∙ ap (λ u. white ++ u) is)) (each-append not_feed white (comment body) (white-feed white h) (visible-feed body g))

-- ---- white space and whole trivia

pub white-whole : (t : Text) → IsWhiteSpace t → IsWholeTrivia t
white-whole [] h = empty-trivia
white-whole (c ∷ t) h =
    let (ps, each, e) = white-whole t (and_right (is_blank c) _ h) in
    (blank c ∷ ps, (and_left (is_blank c) _ h, each), ap (λ u. c ∷ u) e)

pub whole-append : (s t : Text) → IsWholeTrivia s → IsWholeTrivia t → IsWholeTrivia (s ++ t)
whole-append s t (ps, h, e) (qs, g, f) = (
  ps ++ qs,
  all-append IsPiece ps qs h g,
  ap (λ u. u ++ t) e ∙ ap (λ u. flat_map piece_text ps ++ u) f ∙ sym (flat_map-append piece_text ps qs),
)

line-whole : (body end w : Text) → Each is_visible body → IsNewline end → IsWhiteSpace w → IsWholeTrivia (comment body ++ (end ++ w))
line-whole body end w h (n, is) g =
    let (ps, each, e) = white-whole w g in (
      remark body n ∷ ps,
      (h, each),
      ap (λ u. comment body ++ (u ++ w)) is ∙ ap (λ u. comment body ++ (newline_text n ++ u)) e
          ∙ sym (append_assoc (comment body) (newline_text n) (flat_map piece_text ps)),
    )

-- ---- one more line

each-from : (p : ℕ → Bool) (n : ℕ) (t : Text) → ((k : ℕ) → n ≤ k → k < length t → p (get_or t k 0) ≡ true) → Each p (drop n t)
each-from p n [] h = ap (list_all p) (drop-nil n)
  where
    drop-nil : (n : ℕ) → drop {A = ℕ} n [] ≡ []
    drop-nil zero = refl
    drop-nil (suc n) = refl
each-from p zero (c ∷ t) h = ap (λ b. b && list_all p t) (h 0 (omega arith) (omega arith))
    ∙ each-from p zero t (λ k low high. h (suc k) (omega arith) (omega arith))
each-from p (suc n) (c ∷ t) h = each-from p n t (λ k low high. h (suc k) (omega arith) (omega arith))

-- the white space that a text ends in is some
end-white : (t : Text) → IsWhiteSpace (drop (end_of_words t) t)
end-white t = each-from is_blank (end_of_words t) t passes
  where
    passes : (k : ℕ) → end_of_words t ≤ k → k < length t → is_blank (get_or t k 0) ≡ true
    passes k low high =
        let short : suffix_len is_blank t ≤ length t = suffix_len-le-length is_blank t in
        let from_end : length t - 1 - k < suffix_len is_blank t = omega arith in
        let same : length t - 1 - (length t - 1 - k) ≡ k = omega arith in
        let within : length t - 1 - k < length t = omega arith in
        ap (λ j. is_blank (get_or t j 0)) (sym same)
        ∙ ap is_blank (sym (get_or-reverse t (length t - 1 - k) 0 within))
        ∙ prefix_len_passes is_blank (reverse t) (length t - 1 - k) 0 from_end

pub with_line-suits : (mode : Mode) (body t : Text) → Each is_visible body → IsWholeTrivia (shown_text mode t)
    → IsWholeTrivia (shown_text mode (with_comment_line body t))
with_line-suits mode body t h whole =
    let w = drop (end_of_words t) t in
    let end = last_newline t in
    subst IsWholeTrivia (sym (shown-append mode t (comment body ++ (end ++ w))))
    (whole-append _ _ whole (lean-trivia mode _ (line-whole body end w h (newline-is exact (before_last_feed t)) (end-white t))))

-- ---- fewer lines

pub lines-run : (u t : Text) → NoFeed u → lines (u ++ (line_feed ∷ t)) ≡ (u ++ newline) ∷ lines t
lines-run [] t h = refl
lines-run (c ∷ u) t h =
    lines-other c (u ++ (line_feed ∷ t)) (is-false (c == line_feed) (and_left (not_feed c) _ h))
    ∙ ap (begun_with c) (lines-run u t (and_right (not_feed c) _ h))
  where
    is-false : (b : Bool) → not b ≡ true → b ≡ false
    is-false true e = sym e
    is-false false e = refl

begun-whole : (c : ℕ) (ls : List Text) → is_blank c ≡ true → AllByRecursion IsWholeTrivia ls
    → AllByRecursion IsWholeTrivia (begun_with c ls)
begun-whole c [] h g = ((blank c ∷ [], (h, tt), refl), tt)
begun-whole c (l ∷ ls) h g = (whole-append (one c) l (blank c ∷ [], (h, tt), refl) g.0, g.1)

-- each line of whole trivia is some
lines-whole : (ps : List Piece) → AllByRecursion IsPiece ps → AllByRecursion IsWholeTrivia (lines (flat_map piece_text ps))
lines-whole [] h = tt
lines-whole (blank c ∷ ps) h =
    subst (AllByRecursion IsWholeTrivia)
    (sym (lines-other c (flat_map piece_text ps) (no-byte is_blank line_feed (λ e. let clash : is_blank line_feed ≡ true = e in cc) c h.0)))
    (begun-whole c (lines (flat_map piece_text ps)) h.0 (lines-whole ps h.1))
lines-whole (break lf ∷ ps) h = ((break lf ∷ [], (tt, tt), refl), lines-whole ps h.1)
lines-whole (break crlf ∷ ps) h = ((break crlf ∷ [], (tt, tt), refl), lines-whole ps h.1)
lines-whole (remark body lf ∷ ps) h =
    let rest = flat_map piece_text ps in
    subst (AllByRecursion IsWholeTrivia)
    (sym (ap lines (append_assoc (comment body) newline rest) ∙ lines-run (comment body) rest (visible-feed body h.0)))
    ((remark body lf ∷ [], (h.0, tt), sym (append-nil (comment body ++ newline))), lines-whole ps h.1)
lines-whole (remark body crlf ∷ ps) h =
    let rest = flat_map piece_text ps in
    let run = comment body ++ (carriage_return ∷ []) in
    subst (AllByRecursion IsWholeTrivia)
    (sym (ap lines (append_assoc (comment body) (carriage_return ∷ newline) rest
    ∙ sym (append_assoc (comment body) (carriage_return ∷ []) (line_feed ∷ rest)))
    ∙ lines-run run rest (each-append not_feed (comment body) (carriage_return ∷ []) (visible-feed body h.0) refl))) (
      (
        remark body crlf ∷ [],
        (h.0, tt),
        append_assoc (comment body) (carriage_return ∷ []) newline
            ∙ sym (append-nil (comment body ++ (carriage_return ∷ newline))),
      ),
      lines-whole ps h.1,
    )

-- what holds of the first line, or of nothing, and of each line after it
abbrev Headed : (Text → Type 0) → (Text → Type 0) → List Text → Type 0
Headed H P [] = H []
Headed H P (l ∷ ls) = H l × AllByRecursion P ls

headed : (P : Text → Type 0) (ls : List Text) → P [] → AllByRecursion P ls → Headed P P ls
headed P [] none h = none
headed P (l ∷ ls) none h = h

unheaded : (P : Text → Type 0) (ls : List Text) → Headed P P ls → AllByRecursion P ls
unheaded P [] h = tt
unheaded P (l ∷ ls) h = h

headed-begun : (H P : Text → Type 0) (c : ℕ) (ls : List Text) → Headed H P (begun_with c ls) → Headed (λ l. H (c ∷ l)) P ls
headed-begun H P c [] h = h.0
headed-begun H P c (l ∷ ls) h = h

pub lean-return : (c : ℕ) (t : Text) → (c == carriage_return) ≡ true → without_returns (c ∷ t) ≡ without_returns t
lean-return c t e = ap (λ b. if not b then c ∷ without_returns t else without_returns t) e

pub lean-other : (c : ℕ) (t : Text) → (c == carriage_return) ≡ false → without_returns (c ∷ t) ≡ c ∷ without_returns t
lean-other c t e = ap (λ b. if not b then c ∷ without_returns t else without_returns t) e

abbrev Lean : (Text → Type 0) → Text → Type 0
Lean P l = P (without_returns l)

return-headed : (H P : Text → Type 0) (c : ℕ) (ls : List Text) → (c == carriage_return) ≡ true → Headed (Lean H) P ls
    → Headed (Lean H) P (begun_with c ls)
return-headed H P c [] e h = (subst H (sym (lean-return c [] e)) h, tt)
return-headed H P c (l ∷ ls) e h = (subst H (sym (lean-return c l e)) h.0, h.1)

other-headed : (H P : Text → Type 0) (c : ℕ) (ls : List Text) → (c == carriage_return) ≡ false → Headed (Lean (λ l. H (c ∷ l))) P ls
    → Headed (Lean H) P (begun_with c ls)
other-headed H P c [] e h = (subst H (sym (lean-other c [] e)) h, tt)
other-headed H P c (l ∷ ls) e h = (subst H (sym (lean-other c l e)) h.0, h.1)

-- the lines of a text without its carriage returns, and the lines of the text, each without them
lean-lines : (P : Text → Type 0) → P [] → (t : Text) (H : Text → Type 0) → Headed H P (lines (without_returns t))
    → Headed (Lean H) (Lean P) (lines t)
lean-lines P none [] H h = h
lean-lines P none (c ∷ t) H h = by_tests (λ K k. lean-lines P none t K k) (c == carriage_return) refl (c == line_feed) refl
  where
    by_tests : ((K : Text → Type 0) → Headed K P (lines (without_returns t)) → Headed (Lean K) (Lean P) (lines t))
        → (r : Bool) → (c == carriage_return) ≡ r → (f : Bool) → (c == line_feed) ≡ f → Headed (Lean H) (Lean P) (lines (c ∷ t))
    by_tests ih true e true g = true-false (c == line_feed) g (ap (λ x. x == line_feed) ((Decides-eqb c carriage_return).0 e))
    by_tests ih true e false g =
        subst (Headed (Lean H) (Lean P)) (sym (lines-other c t g))
        (return-headed H (Lean P) c (lines t) e (ih H (subst (λ u. Headed H P (lines u)) (lean-return c t e) h)))
    by_tests ih false e true g =
        let first = subst (Headed H P) (ap lines (lean-other c t e) ∙ lines-feed c (without_returns t) g) h in
        subst (Headed (Lean H) (Lean P)) (sym (lines-feed c t g)) (
          subst H (sym (lean-other c [] e)) first.0,
          unheaded (Lean P) (lines t) (ih P (headed P (lines (without_returns t)) none first.1)),
        )
    by_tests ih false e false g =
        let begun = subst (Headed H P) (ap lines (lean-other c t e) ∙ lines-other c (without_returns t) g) h in
        subst (Headed (Lean H) (Lean P)) (sym (lines-other c t g))
        (other-headed H (Lean P) c (lines t) e (ih (λ l. H (c ∷ l)) (headed-begun H P c (lines (without_returns t)) begun)))

pub lines-suit : (mode : Mode) (t : Text) → IsWholeTrivia (shown_text mode t)
    → AllByRecursion (λ l. IsWholeTrivia (shown_text mode l)) (lines t)
lines-suit exact t (ps, h, e) = subst (λ u. AllByRecursion IsWholeTrivia (lines u)) (sym e) (lines-whole ps h)
lines-suit plain t (ps, h, e) =
    unheaded (Lean IsWholeTrivia) (lines t)
    (lean-lines IsWholeTrivia empty-trivia t IsWholeTrivia
    (headed IsWholeTrivia (lines (without_returns t)) empty-trivia
    (subst (λ u. AllByRecursion IsWholeTrivia (lines u)) (sym e) (lines-whole ps h))))

pub joined-suits : (mode : Mode) (ls : List Text) → AllByRecursion (λ l. IsWholeTrivia (shown_text mode l)) ls
    → IsWholeTrivia (shown_text mode (joined ls))
joined-suits mode [] h = lean-trivia mode [] empty-trivia
joined-suits mode (l ∷ ls) h = subst IsWholeTrivia (sym (shown-append mode l (joined ls))) (whole-append _ _ h.0 (joined-suits mode ls h.1))

pub without_lines-suits : (mode : Mode) (t : Text) → IsWholeTrivia (shown_text mode t)
    → IsWholeTrivia (shown_text mode (without_comments t))
without_lines-suits mode t h =
    joined-suits mode (filter (λ l. is_none (first_comment l)) (lines t))
    (all-filter (λ l. IsWholeTrivia (shown_text mode l)) (λ l. is_none (first_comment l)) (lines t) (lines-suit mode t h))

-- ---- the end of a line

-- what is left behind the end of a line: nothing, or the CR of its newline
abbrev IsRest : Text → Type 0
IsRest r = (r ≡ []) ⊎ (r ≡ carriage_return ∷ [])

-- the parts of a text that suits the end of a line
record Ends (mode : Mode) (t : Text) : Type 0 where
  line : IsLineEnd (shown_text mode (first_line t))
  rest : IsRest (after_first_line t)
  whole : t ≡ first_line t ++ after_first_line t

pub last-kept : (t : Text) → ends_in_return t ≡ true → but_last t ++ (carriage_return ∷ []) ≡ t
last-kept [] h = absurd cc
last-kept (c ∷ []) h = ap (λ d. d ∷ []) (sym ((Decides-eqb c carriage_return).0 h))
last-kept (c ∷ d ∷ t) h = ap (λ u. c ∷ u) (last-kept (d ∷ t) h)

line-rest : (t : Text) → (r : Text) × IsRest r × (t ≡ line_end exact t ++ r)
line-rest t = by_test (ends_in_return t) refl
  where
    by_test : (b : Bool) → ends_in_return t ≡ b → (r : Text) × IsRest r × (t ≡ (if b then but_last t else t) ++ r)
    by_test true e = (carriage_return ∷ [], inr refl, sym (last-kept t e))
    by_test false e = ([], inl refl, sym (append-nil t))

rest-feed : (r : Text) → IsRest r → NoFeed r
rest-feed r (inl e) = subst NoFeed (sym e) refl
rest-feed r (inr e) = subst NoFeed (sym e) refl

lean-rest : (r : Text) → IsRest r → without_returns r ≡ []
lean-rest r (inl e) = ap without_returns e
lean-rest r (inr e) = ap without_returns e

lean-feed : (t : Text) → NoFeed (without_returns t) → NoFeed t
lean-feed [] h = refl
lean-feed (c ∷ t) h = by_test (c == carriage_return) refl (lean-feed t)
  where
    by_test : (b : Bool) → (c == carriage_return) ≡ b → (NoFeed (without_returns t) → NoFeed t) → NoFeed (c ∷ t)
    by_test true e ih =
        let same : c ≡ carriage_return = (Decides-eqb c carriage_return).0 e in
        ap (λ x. not_feed x && list_all not_feed t) same ∙ ih (subst NoFeed (lean-return c t e) h)
    by_test false e ih =
        let both = subst NoFeed (lean-other c t e) h in
        ap (λ b. b && list_all not_feed t) (and_left (not_feed c) (list_all not_feed (without_returns t)) both)
        ∙ ih (and_right (not_feed c) (list_all not_feed (without_returns t)) both)

suited-feed : (mode : Mode) (t : Text) → EndsLine mode (shown_text mode t) → NoFeed t
suited-feed plain t h = lean-feed t (end-feed (without_returns t) h)
suited-feed exact t h =
    let (r, rest, e) = line-rest t in
    subst NoFeed (sym e) (each-append not_feed (line_end exact t) r (end-feed (line_end exact t) h) (rest-feed r rest))

-- what is before the first line feed, and a text without any
pub before-feed : (u t : Text) → NoFeed u → before_first (λ x. x == line_feed) (u ++ (line_feed ∷ t)) ≡ u
before-feed [] t h = take_while-cons not_feed line_feed t
before-feed (c ∷ u) t h =
    take_while-cons not_feed c (u ++ (line_feed ∷ t))
    ∙ ap (λ b. if b then c ∷ take_while not_feed (u ++ (line_feed ∷ t)) else []) (and_left (not_feed c) _ h)
    ∙ ap (λ x. c ∷ x) (before-feed u t (and_right (not_feed c) _ h))

before-all : (t : Text) → NoFeed t → before_first (λ c. c == line_feed) t ≡ t
before-all [] h = refl
before-all (c ∷ t) h =
    take_while-cons not_feed c t
    ∙ ap (λ b. if b then c ∷ take_while not_feed t else []) (and_left (not_feed c) _ h)
    ∙ ap (λ u. c ∷ u) (before-all t (and_right (not_feed c) _ h))

ends : (mode : Mode) (t : Text) → EndsLine mode (shown_text mode t) → Ends mode t
ends mode t h =
    let (r, rest, e) = line-rest t in
    let line : first_line t ≡ line_end exact t = ap (line_end exact) (before-all t (suited-feed mode t h)) in
    let whole : t ≡ first_line t ++ r = e ∙ ap (λ u. u ++ r) (sym line) in
    let after : after_first_line t ≡ r = ap (drop (length (first_line t))) whole ∙ drop-append_seam (first_line t) r in
    record {
      line = by_mode mode h r rest line whole;
      rest = subst IsRest (sym after) rest;
      whole = whole ∙ ap (λ u. first_line t ++ u) (sym after);
    }
  where
    by_mode : (m : Mode) → EndsLine m (shown_text m t) → (r : Text) → IsRest r → first_line t ≡ line_end exact t → t ≡ first_line t ++ r
        → IsLineEnd (shown_text m (first_line t))
    by_mode exact g r rest line whole = subst IsLineEnd (sym line) g
    by_mode plain g r rest line whole =
        subst IsLineEnd
        (ap without_returns whole ∙ shown-append plain (first_line t) r
        ∙ ap (λ u. without_returns (first_line t) ++ u) (lean-rest r rest) ∙ append-nil (without_returns (first_line t)))
        g

-- a line, with such a rest behind it
close : (mode : Mode) (l r : Text) → IsRest r → IsLineEnd (shown_text mode l) → EndsLine mode (shown_text mode (l ++ r))
close plain l r (inl e) h = subst IsLineEnd (sym (ap (λ u. without_returns (l ++ u)) e ∙ ap without_returns (append-nil l))) h
close plain l r (inr e) h =
    subst IsLineEnd
    (sym (ap (λ u. without_returns (l ++ u)) e ∙ shown-append plain l (carriage_return ∷ []) ∙ append-nil (without_returns l))) h
close exact l r (inl e) h = subst IsLineEnd (sym (ap (λ u. line_end exact (l ++ u)) e ∙ (ended exact l [] h (inr refl)).trailing)) h
close exact l r (inr e) h =
    subst IsLineEnd (sym (ap (λ u. line_end exact (l ++ u)) e ∙ (ended exact l (carriage_return ∷ newline) h (inl (crlf, refl))).trailing))
    h

-- ---- another comment at the end of a line

-- the front of a line end is one
front-end : (s t : Text) → IsLineEnd (s ++ t) → IsLineEnd s
front-end [] t h = empty-end
front-end (c ∷ s) t (w ∷ white, rest, h, g, e) =
    let blank_c : is_blank c ≡ true = (let same : c ≡ w = cc in ap is_blank same ∙ and_left (is_blank w) _ h) in
    let tail : s ++ t ≡ white ++ rest = cc in
    let (v, q, hv, gq, f) = front-end s t (white, rest, and_right (is_blank w) _ h, g, tail) in
    (c ∷ v, q, ap (λ b. b && list_all is_blank v) blank_c ∙ hv, gq, ap (λ u. c ∷ u) f)
front-end (c ∷ s) t ([], rest, h, inl none, e) = absurd (let clash : c ∷ (s ++ t) ≡ [] = e ∙ none in cc)
front-end (c ∷ s) t ([], rest, h, inr (body, g, is), e) =
    let same : c ∷ (s ++ t) ≡ comment body = e ∙ is in
    let hash_c : c ≡ 35 = cc in
    let tail : s ++ t ≡ body = cc in
    let visible : Each is_visible s = and_left _ _ (sym (list_all-append is_visible s t) ∙ ap (list_all is_visible) tail ∙ g) in
    ([], c ∷ s, refl, inr (s, visible, ap (λ x. x ∷ s) hash_c), refl)

-- a comment behind white space, and one behind a space at the end of a line
white-comment : (w body : Text) → IsWhiteSpace w → Each is_visible body → IsLineEnd (w ++ comment body)
white-comment w body h g = (w, comment body, h, inr (body, g, refl), refl)

more-comment : (s body : Text) → IsLineEnd s → Each is_visible body → IsLineEnd ((s ++ one space) ++ comment body)
more-comment s body (white, rest, h, inl none, e) g =
    let same : s ≡ white = e ∙ ap (λ u. white ++ u) none ∙ append-nil white in
    subst (λ u. IsLineEnd ((u ++ one space) ++ comment body)) (sym same)
    (white-comment (white ++ one space) body (each-append is_blank white (one space) h refl) g)
more-comment s body (white, rest, h, inr (old, v, is), e) g =
    let same : s ≡ white ++ comment old = e ∙ ap (λ u. white ++ u) is in
    subst (λ u. IsLineEnd ((u ++ one space) ++ comment body)) (sym same)
    (subst IsLineEnd
    (sym (ap (λ u. u ++ comment body) (append_assoc white (comment old) (one space))
    ∙ append_assoc white (comment old ++ one space) (comment body)
    ∙ ap (λ u. white ++ u) (append_assoc (comment old) (one space) (comment body))))
    (white-comment white (old ++ (space ∷ comment body)) h (each-append is_visible old (space ∷ comment body) v g)))

shown-comment : (mode : Mode) (body : Text) → Each is_visible body → shown_text mode (comment body) ≡ comment body
shown-comment plain body h = ap (λ u. 35 ∷ u) (visible-returns body h)
shown-comment exact body h = refl

take_while-white : (t : Text) → IsWhiteSpace (take_while is_blank t)
take_while-white [] = refl
take_while-white (c ∷ t) = by_test (is_blank c) refl (take_while-white t)
  where
    by_test : (b : Bool) → is_blank c ≡ b → IsWhiteSpace (take_while is_blank t) → IsWhiteSpace (take_while is_blank (c ∷ t))
    by_test true e ih =
        ap (list_all is_blank) (take_while-cons is_blank c t ∙ ap (λ b. if b then c ∷ take_while is_blank t else []) e)
        ∙ ap (λ b. b && list_all is_blank (take_while is_blank t)) e ∙ ih
    by_test false e ih = ap (list_all is_blank) (take_while-cons is_blank c t ∙ ap (λ b. if b then c ∷ take_while is_blank t else []) e)

pub put-line : (mode : Mode) (body l : Text) → Each is_visible body → IsLineEnd (shown_text mode l)
    → IsLineEnd (shown_text mode (before_comment l ++ comment body))
put-line mode body l h g = by_test (is_some (body_in l))
  where
    parts : (s : Text) → IsLineEnd (shown_text mode s ++ comment body) → IsLineEnd (shown_text mode (s ++ comment body))
    parts s k = subst IsLineEnd (sym (shown-append mode s (comment body) ∙ ap (λ u. shown_text mode s ++ u) (shown-comment mode body h))) k

    by_test : (b : Bool) → IsLineEnd (shown_text mode ((if b then take_while is_blank l else take (end_of_words l) l ++ one space)
        ++ comment body))
    by_test true =
        let white = take_while-white l in
        parts (take_while is_blank l)
        (subst (λ u. IsLineEnd (u ++ comment body)) (sym (white-shown mode (take_while is_blank l) white))
        (white-comment (take_while is_blank l) body white h))
    by_test false =
        let n = end_of_words l in
        let front : IsLineEnd (shown_text mode (take n l)) =
        front-end (shown_text mode (take n l)) (shown_text mode (drop n l))
        (subst IsLineEnd (ap (shown_text mode) (sym (take-append-drop n l)) ∙ shown-append mode (take n l) (drop n l)) g) in
        parts (take n l ++ one space)
        (subst (λ u. IsLineEnd (u ++ comment body))
        (sym (shown-append mode (take n l) (one space) ∙ ap (λ u. shown_text mode (take n l) ++ u) (white-shown mode (one space) refl)))
        (more-comment (shown_text mode (take n l)) body front h))

pub with_comment-suits : (mode : Mode) (body t : Text) → Each is_visible body → EndsLine mode (shown_text mode t)
    → EndsLine mode (shown_text mode (with_first_comment body t))
with_comment-suits mode body t h g =
    let parts = ends mode t g in
    let l = first_line t in
    let r = after_first_line t in
    subst (λ u. EndsLine mode (shown_text mode u)) (append_assoc (before_comment l) (comment body) r)
    (close mode (before_comment l ++ comment body) r parts.rest (put-line mode body l h parts.line))

pub without_comment-suits : (mode : Mode) (t : Text) → EndsLine mode (shown_text mode t)
    → EndsLine mode (shown_text mode (without_first_comment t))
without_comment-suits mode t g = by_test (is_some (first_comment t))
  where
    by_test : (b : Bool) → EndsLine mode (shown_text mode (if b then after_first_line t else t))
    by_test true = close mode [] (after_first_line t) (ends mode t g).rest (subst IsLineEnd (sym (shown-none mode)) empty-end)
    by_test false = g
