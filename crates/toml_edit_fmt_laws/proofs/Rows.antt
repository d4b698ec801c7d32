-- Whole trivia as rows: each has white space, perhaps a comment, and a newline; and white space after the last.
use Rattle.std.proofs.Common.{◌≡◌, refl, sym, ap, subst, ◌∙◌, ℕ, suc, ◌+◌, ◌==◌, arith, inl, inr, Bool, true, false, not, List, [], ◌∷◌, ◌++◌, length, drop}
use Rattle.std.proofs.Common.{Option, Some, None, append_assoc, append-nil}
use Rattle.std.specs.Prelude.{◌&&◌, ◌||◌, if◌then◌else◌, map, take_while, cond, is_none}
use Rattle.std.specs.List.{AllByRecursion, before_first, flat_map, list_all, prefix_len, filter_map, cons_option}
use Rattle.std.proofs.lemmas.Bool.{cases_Bool}
use Rattle.std.proofs.lemmas.List.Elements.{filter_map-append}
use Rattle.std.proofs.lemmas.List.Sums.{take_while-cons}
use Rattle.toml_edit_model.specs.Comments.{begun_with, lines, first_line, words, body_in, first_comment, comments}
use Rattle.toml_edit_model.specs.Mode.{exact, but_last, line_end, line_newline}
use Rattle.toml_edit_model.specs.Normal.{normal_end}
use Rattle.toml_edit_model.specs.Text.{Text, line_feed, hash, newline, one, has_byte, is_empty, joined}
use Rattle.toml_edit_model.specs.Trivia.{is_blank, is_visible, Each, IsWhiteSpace, Newline, lf, crlf, newline_text, comment, Piece, blank}
use Rattle.toml_edit_model.specs.Trivia.{break, remark, piece_text, IsPiece, IsWholeTrivia, IsLineEnd, IsOpenComment}
use Rattle.toml_edit_laws.proofs.accepted_prints.PrintedValues.{whole-append}
use Rattle.toml_edit_laws.proofs.common.Each.{each-append}
use Rattle.toml_edit_laws.proofs.common.LineEnds.{ended}
use Rattle.toml_edit_laws.proofs.common.Tests.{and_left, and_right, not-true, or-true}
use Rattle.toml_edit_laws.proofs.common.Trivia.{no-byte}
use Rattle.toml_edit_fmt_laws.specs.Laying.{is_broken, line_words, is_empty_line, is_whole_line, whole_lines, indented}

pub record Row : Type 0 where
  pub white : Text
  pub body : Option Text
  pub end : Newline

abbrev pub body_text : Option Text → Text
body_text (Some b) = comment b
body_text None = []

abbrev pub ended_body : Option Text → Newline → Text
ended_body o n = body_text o ++ newline_text n

abbrev pub row_text : Row → Text
row_text r = r.white ++ ended_body r.body r.end

-- a row up to its newline
abbrev pub line_part : Row → Text
line_part r = r.white ++ body_text r.body

abbrev pub IsBody : Option Text → Type 0
IsBody (Some b) = Each is_visible b
IsBody None = Unit {0}

abbrev pub IsRow : Row → Type 0
IsRow r = IsWhiteSpace r.white × IsBody r.body

abbrev pub rows_text : List Row → Text → Text
rows_text rs l = flat_map row_text rs ++ l

pub record Rows (t : Text) : Type 0 where
  pub rows : List Row
  pub last : Text
  pub all : AllByRecursion IsRow rows
  pub white : IsWhiteSpace last
  pub is : t ≡ rows_text rows last

-- ---- from pieces and back

assoc : (a b c d : Text) → ((a ++ b) ++ c) ++ d ≡ a ++ (b ++ (c ++ d))
assoc a b c d = append_assoc (a ++ b) c d ∙ append_assoc a b (c ++ d)

one-row : (w : Text) (o : Option Text) (n : Newline) (u rest l : Text) → u ≡ rest ++ l
    → w ++ (ended_body o n ++ u) ≡ ((w ++ ended_body o n) ++ rest) ++ l
one-row w o n u rest l e = ap (λ v. w ++ (ended_body o n ++ v)) e ∙ sym (assoc w (ended_body o n) rest l)

view-pieces : (w : Text) → IsWhiteSpace w → (ps : List Piece) → AllByRecursion IsPiece ps → Rows (w ++ flat_map piece_text ps)
view-pieces w h [] g = record { rows = []; last = w; all = tt; white = h; is = append-nil w }
view-pieces w h (blank c ∷ ps) g =
    subst Rows (append_assoc w (one c) (flat_map piece_text ps))
    (view-pieces (w ++ one c) (each-append is_blank w (one c) h (ap (λ b. b && true) g.0)) ps g.1)
view-pieces w h (break n ∷ ps) g =
    let v = view-pieces [] refl ps g.1 in
    record {
      rows = record { white = w; body = None; end = n } ∷ v.rows;
      last = v.last;
      all = ((h, tt), v.all);
      white = v.white;
      is = one-row w None n (flat_map piece_text ps) (flat_map row_text v.rows) v.last v.is;
    }
view-pieces w h (remark b n ∷ ps) g =
    let v = view-pieces [] refl ps g.1 in
    record {
      rows = record { white = w; body = Some b; end = n } ∷ v.rows;
      last = v.last;
      all = ((h, g.0), v.all);
      white = v.white;
      is = one-row w (Some b) n (flat_map piece_text ps) (flat_map row_text v.rows) v.last v.is;
    }

pub view : (t : Text) → IsWholeTrivia t → Rows t
view t (ps, each, e) = subst Rows (sym e) (view-pieces [] refl ps each)

pub white-whole : (t : Text) → IsWhiteSpace t → IsWholeTrivia t
white-whole [] h = ([], tt, refl)
white-whole (c ∷ t) h =
    let (ps, each, e) = white-whole t (and_right (is_blank c) _ h) in
    (blank c ∷ ps, (and_left (is_blank c) _ h, each), ap (λ u. c ∷ u) e)

row-whole : (r : Row) → IsRow r → IsWholeTrivia (row_text r)
row-whole r h = whole-append r.white _ (white-whole r.white h.0) (end-whole r.body h.1)
  where
    end-whole : (o : Option Text) → IsBody o → IsWholeTrivia (ended_body o r.end)
    end-whole (Some b) g = (remark b r.end ∷ [], (g, tt), sym (append-nil (comment b ++ newline_text r.end)))
    end-whole None g = (break r.end ∷ [], (tt, tt), sym (append-nil (newline_text r.end)))

pub rows-whole : (rs : List Row) (l : Text) → AllByRecursion IsRow rs → IsWhiteSpace l → IsWholeTrivia (rows_text rs l)
rows-whole [] l h g = white-whole l g
rows-whole (r ∷ rs) l h g =
    subst IsWholeTrivia (sym (append_assoc (row_text r) (flat_map row_text rs) l))
    (whole-append (row_text r) (rows_text rs l) (row-whole r h.0) (rows-whole rs l h.1 g))

-- ---- no line feed in a line

abbrev pub not_feed : ℕ → Bool
not_feed c = not (c == line_feed)

abbrev pub NoFeed : Text → Type 0
NoFeed t = Each not_feed t

no-byte-feed : (t : Text) → NoFeed t → is_broken t ≡ false
no-byte-feed [] h = refl
no-byte-feed (c ∷ t) h =
    ap (λ b. b || has_byte line_feed t) (not-true (c == line_feed) (and_left (not_feed c) _ h))
    ∙ no-byte-feed t (and_right (not_feed c) _ h)

no-feed : (p : ℕ → Bool) → (p line_feed ≡ true → ⊥) → (t : Text) → Each p t → NoFeed t
no-feed p fails [] h = refl
no-feed p fails (c ∷ t) h =
    ap (λ b. not b && list_all not_feed t) (no-byte p line_feed fails c (and_left (p c) _ h))
    ∙ no-feed p fails t (and_right (p c) _ h)

pub white-feed : (t : Text) → IsWhiteSpace t → NoFeed t
white-feed t h = no-feed is_blank (λ e. let clash : is_blank line_feed ≡ true = e in cc) t h

visible-feed : (t : Text) → Each is_visible t → NoFeed t
visible-feed t h = no-feed is_visible (λ e. let clash : is_visible line_feed ≡ true = e in cc) t h

body-feed : (o : Option Text) → IsBody o → NoFeed (body_text o)
body-feed (Some b) h = visible-feed b h
body-feed None h = refl

-- a row up to its line feed
abbrev front : Row → Text
front r = line_part r ++ but_last (newline_text r.end)

pub part-feed : (r : Row) → IsRow r → NoFeed (line_part r)
part-feed r h = each-append not_feed r.white (body_text r.body) (white-feed r.white h.0) (body-feed r.body h.1)

front-feed : (r : Row) → IsRow r → NoFeed (front r)
front-feed r h =
    each-append not_feed (line_part r) (but_last (newline_text r.end)) (part-feed r h) (by_end r.end)
  where
    by_end : (n : Newline) → NoFeed (but_last (newline_text n))
    by_end lf = refl
    by_end crlf = refl

row-front : (r : Row) (t : Text) → row_text r ++ t ≡ front r ++ (line_feed ∷ t)
row-front r t =
    ap (λ u. u ++ t) (sym (append_assoc r.white (body_text r.body) (newline_text r.end)))
    ∙ append_assoc (line_part r) (newline_text r.end) t
    ∙ ap (λ u. line_part r ++ u) (by_end r.end)
    ∙ sym (append_assoc (line_part r) (but_last (newline_text r.end)) (line_feed ∷ t))
  where
    by_end : (n : Newline) → newline_text n ++ t ≡ but_last (newline_text n) ++ (line_feed ∷ t)
    by_end lf = refl
    by_end crlf = refl

-- ---- lines

lines-other : (c : ℕ) (t : Text) → (c == line_feed) ≡ false → lines (c ∷ t) ≡ begun_with c (lines t)
lines-other c t e = ap (λ b. if b then one c ∷ lines t else begun_with c (lines t)) e

lines-run : (u t : Text) → NoFeed u → lines (u ++ (line_feed ∷ t)) ≡ (u ++ newline) ∷ lines t
lines-run [] t h = refl
lines-run (c ∷ u) t h =
    lines-other c (u ++ (line_feed ∷ t)) (not-true (c == line_feed) (and_left (not_feed c) _ h))
    ∙ ap (begun_with c) (lines-run u t (and_right (not_feed c) _ h))

pub lines-row : (r : Row) (t : Text) → IsRow r → lines (row_text r ++ t) ≡ row_text r ∷ lines t
lines-row r t h =
    ap lines (row-front r t) ∙ lines-run (front r) t (front-feed r h)
    ∙ ap (λ u. u ∷ lines t) (sym (sym (append-nil (row_text r)) ∙ row-front r []))

-- white space is no line, or one
abbrev pub last_lines : Text → List Text
last_lines [] = []
last_lines (c ∷ t) = one (c ∷ t)

pub lines-unbroken : (t : Text) → NoFeed t → lines t ≡ last_lines t
lines-unbroken [] h = refl
lines-unbroken (c ∷ []) h = lines-other c [] (not-true (c == line_feed) (and_left (not_feed c) _ h))
lines-unbroken (c ∷ d ∷ t) h =
    lines-other c (d ∷ t) (not-true (c == line_feed) (and_left (not_feed c) _ h))
    ∙ ap (begun_with c) (lines-unbroken (d ∷ t) (and_right (not_feed c) _ h))

pub lines-rows : (rs : List Row) (l : Text) → AllByRecursion IsRow rs → IsWhiteSpace l → lines (rows_text rs l) ≡ map row_text rs ++ last_lines l
lines-rows [] l h g = lines-unbroken l (white-feed l g)
lines-rows (r ∷ rs) l h g =
    ap lines (append_assoc (row_text r) (flat_map row_text rs) l) ∙ lines-row r (rows_text rs l) h.0
    ∙ ap (λ ls. row_text r ∷ ls) (lines-rows rs l h.1 g)

-- an open line after rows
pub lines-any : (rs : List Row) (y : Text) → AllByRecursion IsRow rs → NoFeed y → is_empty y ≡ false
    → lines (rows_text rs y) ≡ map row_text rs ++ one y
lines-any [] y h g some = lines-unbroken y g ∙ by_text y some
  where
    by_text : (t : Text) → is_empty t ≡ false → last_lines t ≡ one t
    by_text [] k = absurd (let clash : true ≡ false = k in cc)
    by_text (c ∷ t) k = refl
lines-any (r ∷ rs) y h g some =
    ap lines (append_assoc (row_text r) (flat_map row_text rs) y) ∙ lines-row r (rows_text rs y) h.0
    ∙ ap (λ ls. row_text r ∷ ls) (lines-any rs y h.1 g some)

-- the lines of a text are the text
begun-joined : (c : ℕ) (ls : List Text) → joined (begun_with c ls) ≡ c ∷ joined ls
begun-joined c [] = refl
begun-joined c (l ∷ ls) = refl

pub joined-lines : (t : Text) → joined (lines t) ≡ t
joined-lines [] = refl
joined-lines (c ∷ t) =
    elim (cases_Bool (c == line_feed)) [
      | inl e ↦ ap (λ b. joined (if b then one c ∷ lines t else begun_with c (lines t))) e ∙ ap (λ u. c ∷ u) (joined-lines t)
      | inr e ↦ ap (λ b. joined (if b then one c ∷ lines t else begun_with c (lines t))) e ∙ begun-joined c (lines t)
          ∙ ap (λ u. c ∷ u) (joined-lines t)
    ]

-- ---- the first line

before-cons : (c : ℕ) (t : Text) → (c == line_feed) ≡ false
    → before_first (λ x. x == line_feed) (c ∷ t) ≡ c ∷ before_first (λ x. x == line_feed) t
before-cons c t h = take_while-cons not_feed c t ∙ ap (λ b. if not b then c ∷ take_while not_feed t else []) h

before-feed : (u t : Text) → NoFeed u → before_first (λ x. x == line_feed) (u ++ (line_feed ∷ t)) ≡ u
before-feed [] t h = take_while-cons not_feed line_feed t
before-feed (c ∷ u) t h =
    before-cons c (u ++ (line_feed ∷ t)) (not-true (c == line_feed) (and_left (not_feed c) _ h))
    ∙ ap (λ v. c ∷ v) (before-feed u t (and_right (not_feed c) _ h))

pub before-all : (u : Text) → NoFeed u → before_first (λ x. x == line_feed) u ≡ u
before-all [] h = refl
before-all (c ∷ u) h =
    before-cons c u (not-true (c == line_feed) (and_left (not_feed c) _ h))
    ∙ ap (λ v. c ∷ v) (before-all u (and_right (not_feed c) _ h))

pub part-end : (r : Row) → IsRow r → IsLineEnd (line_part r)
part-end r h = (r.white, body_text r.body, h.0, by_body r.body h.1, refl)
  where
    by_body : (o : Option Text) → IsBody o → IsOpenComment (body_text o)
    by_body (Some b) g = inr (b, g, refl)
    by_body None g = inl refl

pub first_line-row : (r : Row) (t : Text) → IsRow r → first_line (row_text r ++ t) ≡ line_part r
first_line-row r t h =
    ap (λ u. line_end exact (before_first (λ x. x == line_feed) u)) (row-front r t)
    ∙ ap (line_end exact) (before-feed (front r) t (front-feed r h))
    ∙ (ended exact (line_part r) (newline_text r.end) (part-end r h) (inl (r.end, refl))).trailing

pub newline-row : (r : Row) (t : Text) → IsRow r
    → line_newline exact (before_first (λ x. x == line_feed) (row_text r ++ t)) ≡ newline_text r.end
newline-row r t h =
    ap (λ u. line_newline exact (before_first (λ x. x == line_feed) u)) (row-front r t)
    ∙ ap (line_newline exact) (before-feed (front r) t (front-feed r h))
    ∙ (ended exact (line_part r) (newline_text r.end) (part-end r h) (inl (r.end, refl))).newline
    ∙ by_end r.end
  where
    by_end : (n : Newline) → normal_end exact (newline_text n) ≡ newline_text n
    by_end lf = refl
    by_end crlf = refl

-- a line without a newline is its own first line
pub first_line-part : (r : Row) → IsRow r → first_line (line_part r) ≡ line_part r
first_line-part r h =
    ap (line_end exact) (before-all (line_part r) (part-feed r h) ∙ sym (append-nil (line_part r)))
    ∙ (ended exact (line_part r) [] (part-end r h) (inr refl)).trailing

white-part : (l : Text) → IsWhiteSpace l → first_line l ≡ l
white-part l h =
    ap (line_end exact) (before-all l (white-feed l h) ∙ sym (append-nil l))
    ∙ (ended exact l [] (l, [], h, inl refl, sym (append-nil l)) (inr refl)).trailing

-- ---- words

-- the text is empty or begins with no white space
abbrev pub is_dark : Text → Bool
is_dark [] = true
is_dark (c ∷ t) = not (is_blank c)

white-length : (w u : Text) → IsWhiteSpace w → is_dark u ≡ true → prefix_len is_blank (w ++ u) ≡ length w
white-length [] [] h g = refl
white-length [] (c ∷ u) h g = ap (λ b. cond b (1 + prefix_len is_blank u) 0) (not-true (is_blank c) g)
white-length (c ∷ w) u h g =
    let ih : prefix_len is_blank (w ++ u) ≡ length w = white-length w u (and_right (is_blank c) _ h) g in
    let next : 1 + prefix_len is_blank (w ++ u) ≡ suc (length w) = omega (arith, ih) in
    ap (λ b. cond b (1 + prefix_len is_blank (w ++ u)) 0) (and_left (is_blank c) _ h) ∙ next

drop-front : (w u : Text) → drop (length w) (w ++ u) ≡ u
drop-front [] u = refl
drop-front (c ∷ w) u = drop-front w u

pub words-white : (w u : Text) → IsWhiteSpace w → is_dark u ≡ true → words (w ++ u) ≡ u
words-white w u h g = ap (λ n. drop n (w ++ u)) (white-length w u h g) ∙ drop-front w u

body-dark : (o : Option Text) → is_dark (body_text o) ≡ true
body-dark (Some b) = refl
body-dark None = refl

ended-dark : (o : Option Text) (n : Newline) → is_dark (ended_body o n) ≡ true
ended-dark (Some b) n = refl
ended-dark None lf = refl
ended-dark None crlf = refl

pub words-row : (r : Row) → IsRow r → words (row_text r) ≡ ended_body r.body r.end
words-row r h = words-white r.white (ended_body r.body r.end) h.0 (ended-dark r.body r.end)

pub words-part : (r : Row) → IsRow r → words (line_part r) ≡ body_text r.body
words-part r h = words-white r.white (body_text r.body) h.0 (body-dark r.body)

-- of a line without a newline
pub line_words-part : (r : Row) → IsRow r → line_words (line_part r) ≡ body_text r.body
line_words-part r h = ap words (first_line-part r h) ∙ words-part r h

pub unbroken-part : (r : Row) → IsRow r → is_broken (line_part r) ≡ false
unbroken-part r h = no-byte-feed (line_part r) (part-feed r h)

line_words-row : (r : Row) → IsRow r → line_words (row_text r) ≡ body_text r.body
line_words-row r h =
    ap words (ap first_line (sym (append-nil (row_text r))) ∙ first_line-row r [] h) ∙ words-part r h

-- ---- what a row is

abbrev pub is_none_body : Row → Bool
is_none_body r = is_none r.body

broken-behind : (u t : Text) → is_broken (u ++ (line_feed ∷ t)) ≡ true
broken-behind [] t = refl
broken-behind (c ∷ u) t = ap (λ b. (c == line_feed) || b) (broken-behind u t) ∙ or-true (c == line_feed)

pub broken-row : (r : Row) (t : Text) → is_broken (row_text r ++ t) ≡ true
broken-row r t = ap is_broken (row-front r t) ∙ broken-behind (front r) t

broken-alone : (r : Row) → is_broken (row_text r) ≡ true
broken-alone r = ap is_broken (sym (append-nil (row_text r))) ∙ broken-row r []

pub white-unbroken : (l : Text) → IsWhiteSpace l → is_broken l ≡ false
white-unbroken l h = no-byte-feed l (white-feed l h)

pub white-no-line : (l : Text) → IsWhiteSpace l → is_empty_line l ≡ false
white-no-line l h = ap (λ b. b && is_empty (line_words l)) (white-unbroken l h)

pub empty-row : (r : Row) → IsRow r → is_empty_line (row_text r) ≡ is_none_body r
empty-row r h =
    ap (λ b. b && is_empty (line_words (row_text r))) (broken-alone r)
    ∙ ap is_empty (line_words-row r h) ∙ by_body r.body
  where
    by_body : (o : Option Text) → is_empty (body_text o) ≡ is_none o
    by_body (Some b) = refl
    by_body None = refl

whole-row : (r : Row) → is_whole_line (row_text r) ≡ true
whole-row r = ap (λ b. b || not (is_empty (line_words (row_text r)))) (broken-alone r)

white-words : (l : Text) → IsWhiteSpace l → line_words l ≡ []
white-words l h = ap words (white-part l h ∙ sym (append-nil l)) ∙ words-white l [] h refl

last-whole : (l : Text) → IsWhiteSpace l → is_whole_line l ≡ false
last-whole l h =
    ap (λ b. b || not (is_empty (line_words l))) (white-unbroken l h) ∙ ap (λ w. not (is_empty w)) (white-words l h)

-- the lines of rows are all whole
pub whole-rows : (rs : List Row) (l : Text) → IsWhiteSpace l → whole_lines (map row_text rs ++ last_lines l) ≡ map row_text rs
whole-rows [] [] h = refl
whole-rows [] (c ∷ l) h = ap (λ b. if b then one (c ∷ l) else []) (last-whole (c ∷ l) h)
whole-rows (r ∷ rs) l h =
    ap (λ b. if b then row_text r ∷ whole_lines (map row_text rs ++ last_lines l) else whole_lines (map row_text rs ++ last_lines l))
    (whole-row r)
    ∙ ap (λ ls. row_text r ∷ ls) (whole-rows rs l h)

pub whole-lines : (rs : List Row) (l : Text) → AllByRecursion IsRow rs → IsWhiteSpace l → whole_lines (lines (rows_text rs l)) ≡ map row_text rs
whole-lines rs l h g = ap whole_lines (lines-rows rs l h g) ∙ whole-rows rs l g

-- ---- comments

body_in-white : (w u : Text) → IsWhiteSpace w → body_in (w ++ u) ≡ body_in u
body_in-white [] u h = refl
body_in-white (c ∷ w) u h =
    ap (λ b. if b then body_in (w ++ u) else (if c == hash then Some (w ++ u) else None)) (and_left (is_blank c) _ h)
    ∙ body_in-white w u (and_right (is_blank c) _ h)

body-text : (o : Option Text) → body_in (body_text o) ≡ o
body-text (Some b) = refl
body-text None = refl

pub first_comment-row : (r : Row) (t : Text) → IsRow r → first_comment (row_text r ++ t) ≡ r.body
first_comment-row r t h =
    ap body_in (first_line-row r t h) ∙ body_in-white r.white (body_text r.body) h.0 ∙ body-text r.body

pub first_comment-alone : (r : Row) → IsRow r → first_comment (row_text r) ≡ r.body
first_comment-alone r h = ap first_comment (sym (append-nil (row_text r))) ∙ first_comment-row r [] h

pub first_comment-part : (r : Row) → IsRow r → first_comment (line_part r) ≡ r.body
first_comment-part r h =
    ap body_in (first_line-part r h) ∙ body_in-white r.white (body_text r.body) h.0 ∙ body-text r.body

pub first_comment-white : (l : Text) → IsWhiteSpace l → first_comment l ≡ None
first_comment-white l h = ap body_in (white-part l h ∙ sym (append-nil l)) ∙ body_in-white l [] h

-- the comments of rows
abbrev pub row_bodies : List Row → List Text
row_bodies rs = filter_map (λ r. r.body) rs

pub bodies-rows : (rs : List Row) → AllByRecursion IsRow rs → filter_map first_comment (map row_text rs) ≡ row_bodies rs
bodies-rows [] h = refl
bodies-rows (r ∷ rs) h =
    ap (λ o. cons_option o (filter_map first_comment (map row_text rs))) (first_comment-alone r h.0)
    ∙ ap (λ bs. cons_option r.body bs) (bodies-rows rs h.1)

found-last : (l : Text) → IsWhiteSpace l → filter_map first_comment (last_lines l) ≡ []
found-last [] h = refl
found-last (c ∷ l) h = ap (λ o. cons_option o []) (first_comment-white (c ∷ l) h)

pub bodies-lines : (rs : List Row) (l : Text) → AllByRecursion IsRow rs → IsWhiteSpace l
    → filter_map first_comment (map row_text rs ++ last_lines l) ≡ row_bodies rs
bodies-lines rs l h g =
    filter_map-append first_comment (map row_text rs) (last_lines l)
    ∙ ap (λ bs. filter_map first_comment (map row_text rs) ++ bs) (found-last l g)
    ∙ append-nil (filter_map first_comment (map row_text rs)) ∙ bodies-rows rs h

pub comments-rows : (rs : List Row) (l : Text) → AllByRecursion IsRow rs → IsWhiteSpace l → comments (rows_text rs l) ≡ row_bodies rs
comments-rows rs l h g = ap (filter_map first_comment) (lines-rows rs l h g) ∙ bodies-lines rs l h g

-- a line without a newline has its own comment alone
pub comments-part : (r : Row) → IsRow r → comments (line_part r) ≡ cons_option r.body []
comments-part r h =
    ap (filter_map first_comment) (lines-unbroken (line_part r) (part-feed r h))
    ∙ by_text (line_part r) ∙ ap (λ o. cons_option o []) (first_comment-part r h)
  where
    by_text : (t : Text) → filter_map first_comment (last_lines t) ≡ cons_option (first_comment t) []
    by_text [] = refl
    by_text (c ∷ t) = refl

-- ---- rows moved in

abbrev pub white_before : Option Text → Text → Text
white_before (Some b) indent = indent
white_before None indent = []

abbrev pub moved : Text → Row → Row
moved indent r = record r { white = white_before r.body indent }

indented-row : (indent : Text) (r : Row) → IsRow r → indented indent (row_text r) ≡ row_text (moved indent r)
indented-row indent r h =
    ap (λ w. (if is_empty w then [] else indent) ++ words (row_text r)) (line_words-row r h)
    ∙ ap (λ w. (if is_empty (body_text r.body) then [] else indent) ++ w) (words-row r h)
    ∙ ap (λ w. w ++ ended_body r.body r.end) (by_body r.body)
  where
    by_body : (o : Option Text) → (if is_empty (body_text o) then [] else indent) ≡ white_before o indent
    by_body (Some b) = refl
    by_body None = refl

pub indented-rows : (indent : Text) (rs : List Row) → AllByRecursion IsRow rs
    → flat_map (indented indent) (map row_text rs) ≡ flat_map row_text (map (moved indent) rs)
indented-rows indent [] h = refl
indented-rows indent (r ∷ rs) h =
    ap (λ u. u ++ flat_map (indented indent) (map row_text rs)) (indented-row indent r h.0)
    ∙ ap (λ u. row_text (moved indent r) ++ u) (indented-rows indent rs h.1)

pub all-moved : (indent : Text) (rs : List Row) → IsWhiteSpace indent → AllByRecursion IsRow rs → AllByRecursion IsRow (map (moved indent) rs)
all-moved indent [] w h = tt
all-moved indent (r ∷ rs) w h = ((by_body r.body, h.0.1), all-moved indent rs w h.1)
  where
    by_body : (o : Option Text) → IsWhiteSpace (white_before o indent)
    by_body (Some b) = w
    by_body None = refl

pub moved-again : (indent : Text) (rs : List Row) → map (moved indent) (map (moved indent) rs) ≡ map (moved indent) rs
moved-again indent [] = refl
moved-again indent (r ∷ rs) = ap (λ xs. moved indent r ∷ xs) (moved-again indent rs)

pub bodies-moved : (indent : Text) (rs : List Row) → row_bodies (map (moved indent) rs) ≡ row_bodies rs
bodies-moved indent [] = refl
bodies-moved indent (r ∷ rs) = ap (λ bs. cons_option r.body bs) (bodies-moved indent rs)
