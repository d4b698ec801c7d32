-- What is before lines of groups, by rows: its lines, whether it begins a group, and what its comments say.
use Rattle.std.proofs.Common.{◌≡◌, refl, sym, ap, subst, ◌∙◌, ℕ, zero, suc, ◌-◌, ◌==◌, arith, Bool, true, false, not, List, [], ◌∷◌, ◌++◌, length, append_assoc}
use Rattle.std.proofs.Common.{Option, Some, None}
use Rattle.std.specs.Prelude.{◌&&◌, ◌||◌, if◌then◌else◌, map, take, codes}
use Rattle.std.specs.List.{AllByRecursion, flat_map, list_any}
use Rattle.std.proofs.lemmas.List.{length-append}
use Rattle.std.proofs.lemmas.List.Folds.{list_any-append}
use Rattle.std.proofs.lemmas.List.Elements.{filter_map-append}
use Rattle.toml_edit_model.specs.Comments.{comments}
use Rattle.toml_edit_model.specs.Text.{Text, line_feed, has_byte}
use Rattle.toml_edit_model.specs.Trivia.{is_blank, IsWhiteSpace, IsWholeTrivia, Newline, lf, crlf, newline_text}
use Rattle.toml_edit_laws.proofs.common.Each.{all-append}
use Rattle.toml_edit_laws.proofs.common.Tests.{and_left, and_right, or-left, or-right, or-true, or-false, append-nil}
use Rattle.toml_edit_laws.proofs.common.Trivia.{no-byte, white-feed}
use Rattle.toml_edit_fmt_laws.specs.Rules.{Rules, units}
use Rattle.toml_edit_fmt_laws.specs.Laying.{last_line, has_empty_line, is_empty_line, squeezed, spaced_by, leading}
use Rattle.toml_edit_fmt_laws.specs.Formatted.{State, reached, turned, off_after, has_part}
use Rattle.toml_edit_fmt_laws.specs.Sorted.{allows_empty, turns, say_generated, begins_group, lines_before}
use Rattle.toml_edit_fmt_laws.proofs.Rows.{Row, row_text, body_text, IsRow, rows_text, Rows, view, rows-whole, white-whole, last_lines, lines-rows, white-no-line, empty-row, is_none_body, row_bodies, comments-rows, moved}
use Rattle.toml_edit_fmt_laws.proofs.LeadingLaws.{lead_depth, lead_last, lead_rows, lead-form, white-lead}
use Rattle.toml_edit_fmt_laws.proofs.SpacedRows.{spaced_rows, laid_rows, all-laid, bodies-laid}

-- ---- the last line

has-feed : (u t : Text) → has_byte line_feed (u ++ (line_feed ∷ t)) ≡ true
has-feed [] t = refl
has-feed (c ∷ u) t = ap (λ b. (c == line_feed) || b) (has-feed u t) ∙ or-true (c == line_feed)

last-feed : (u t : Text) → last_line (u ++ (line_feed ∷ t)) ≡ last_line t
last-feed [] t = refl
last-feed (c ∷ u) t =
    let rest = u ++ (line_feed ∷ t) in
    ap (λ b. if c == line_feed then last_line rest else if b then last_line rest else c ∷ rest) (has-feed u t)
    ∙ either (c == line_feed) (last_line rest) ∙ last-feed u t
  where
    either : (b : Bool) (x : Text) → (if b then x else x) ≡ x
    either true x = refl
    either false x = refl

last-white : (t : Text) → IsWhiteSpace t → last_line t ≡ t
last-white [] h = refl
last-white (c ∷ t) h =
    ap (λ b. if b then last_line t else if has_byte line_feed t then last_line t else c ∷ t)
    (no-byte is_blank line_feed (λ e. let clash : is_blank line_feed ≡ true = e in cc) c (and_left (is_blank c) _ h))
    ∙ ap (λ b. if b then last_line t else c ∷ t) (white-feed t (and_right (is_blank c) _ h))

row-feed : (x : Row) (t : Text) → (u : Text) × (row_text x ++ t ≡ u ++ (line_feed ∷ t))
row-feed x t = by_end x.end
  where
    by_end : (n : Newline) → (u : Text) × ((x.white ++ (body_text x.body ++ newline_text n)) ++ t ≡ u ++ (line_feed ∷ t))
    by_end lf = (x.white ++ body_text x.body, simp append_assoc)
    by_end crlf = (x.white ++ (body_text x.body ++ (13 ∷ [])), simp append_assoc)

pub last-rows : (rs : List Row) (l : Text) → IsWhiteSpace l → last_line (rows_text rs l) ≡ l
last-rows [] l g = last-white l g
last-rows (x ∷ xs) l g =
    let feed = row-feed x (rows_text xs l) in
    ap last_line (append_assoc (row_text x) (flat_map row_text xs) l ∙ feed.1) ∙ last-feed feed.0 (rows_text xs l) ∙ last-rows xs l g

take-front : (s t : Text) → take (length s) (s ++ t) ≡ s
take-front [] [] = refl
take-front [] (c ∷ t) = refl
take-front (c ∷ s) t = ap (λ u. c ∷ u) (take-front s t)

pub before-rows : (rs : List Row) (l : Text) → IsWhiteSpace l → lines_before (rows_text rs l) ≡ flat_map row_text rs
before-rows rs l g =
    let front = flat_map row_text rs in
    let e : length (front ++ l) - length l ≡ length front = omega (arith, length-append front l) in
    ap (λ u. take (length (front ++ l) - length u) (front ++ l)) (last-rows rs l g)
    ∙ ap (λ n. take n (front ++ l)) e ∙ take-front front l

-- ---- what comments say

off-append : (b : Bool) (xs ys : List Text) → off_after b (xs ++ ys) ≡ off_after (off_after b xs) ys
off-append b [] ys = refl
off-append b (x ∷ xs) ys = off-append (turned b x) xs ys

-- they turn nothing on or off
quiet-off : (xs : List Text) → turns xs ≡ false → (b : Bool) → off_after b xs ≡ b
quiet-off xs h false = or-left (off_after false xs) (not (off_after true xs)) h
quiet-off xs h true = not-false (off_after true xs) (or-right (off_after false xs) (not (off_after true xs)) h)
  where
    not-false : (b : Bool) → not b ≡ false → b ≡ true
    not-false true e = refl
    not-false false e = cc

turns-front : (xs ys : List Text) → turns ys ≡ false → turns (xs ++ ys) ≡ turns xs
turns-front xs ys h =
    ap (λ b. b || not (off_after true (xs ++ ys))) (off-append false xs ys ∙ quiet-off ys h (off_after false xs))
    ∙ ap (λ b. off_after false xs || not b) (off-append true xs ys ∙ quiet-off ys h (off_after true xs))

module _ (r : Rules) where
  abbrev pub say_more : List Text → Bool
  say_more cs = r.left_alone && (turns cs || say_generated cs)

  -- the state by comments
  abbrev pub told : State → List Text → State
  told st cs =
      if not r.left_alone then st
      else record st {
        is_off = off_after st.is_off cs;
        is_generated = st.is_generated || (st.is_start && say_generated cs);
      }

  pub told-quiet : (st : State) (cs : List Text) → say_more cs ≡ false → told st cs ≡ st
  told-quiet st cs h = by_test r.left_alone h
    where
      none : (b c : Bool) → (b || (c && false)) ≡ b
      none true c = refl
      none false true = refl
      none false false = refl

      by_test : (a : Bool) → (a && (turns cs || say_generated cs)) ≡ false
          → (if not a then st else record st {
            is_off = off_after st.is_off cs;
            is_generated = st.is_generated || (st.is_start && say_generated cs);
          }) ≡ st
      by_test false e = refl
      by_test true e =
          ap (λ b. record st { is_off = b; is_generated = st.is_generated || (st.is_start && say_generated cs) })
          (quiet-off cs (or-left (turns cs) (say_generated cs) e) st.is_off)
          ∙ ap (λ b. record st { is_generated = st.is_generated || (st.is_start && b) }) (or-right (turns cs) (say_generated cs) e)
          ∙ ap (λ b. record st { is_generated = b }) (none st.is_generated st.is_start)

  pub told-front : (st : State) (xs ys : List Text) → say_more ys ≡ false → told st (xs ++ ys) ≡ told st xs
  told-front st xs ys h = by_test r.left_alone h
    where
      by_test : (a : Bool) → (a && (turns ys || say_generated ys)) ≡ false
          → (if not a then st else record st {
            is_off = off_after st.is_off (xs ++ ys);
            is_generated = st.is_generated || (st.is_start && say_generated (xs ++ ys));
          }) ≡ (if not a then st else record st {
            is_off = off_after st.is_off xs;
            is_generated = st.is_generated || (st.is_start && say_generated xs);
          })
      by_test false e = refl
      by_test true e =
          ap (λ b. record st { is_off = b; is_generated = st.is_generated || (st.is_start && say_generated (xs ++ ys)) })
          (off-append st.is_off xs ys ∙ quiet-off ys (or-left (turns ys) (say_generated ys) e) (off_after st.is_off xs))
          ∙ ap (λ b. record st { is_off = off_after st.is_off xs; is_generated = st.is_generated || (st.is_start && b) })
          (list_any-append (has_part (codes "@generated")) xs ys
          ∙ ap (λ b. say_generated xs || b) (or-right (turns ys) (say_generated ys) e) ∙ or-false (say_generated xs))

  -- ---- groups

  abbrev pub rows_begin : List Row → Bool
  rows_begin rs = (allows_empty r.blank_lines && list_any is_none_body rs) || say_more (row_bodies rs)

  empty-lines : (rs : List Row) (l : Text) → AllByRecursion IsRow rs → IsWhiteSpace l
      → list_any is_empty_line (map row_text rs ++ last_lines l) ≡ list_any is_none_body rs
  empty-lines [] [] h g = refl
  empty-lines [] (c ∷ l) h g = ap (λ b. b || false) (white-no-line (c ∷ l) g)
  empty-lines (x ∷ xs) l h g =
      ap (λ b. b || list_any is_empty_line (map row_text xs ++ last_lines l)) (empty-row x h.0)
      ∙ ap (λ b. is_none_body x || b) (empty-lines xs l h.1 g)

  pub begins-rows : (rs : List Row) (l : Text) → AllByRecursion IsRow rs → IsWhiteSpace l → begins_group r (rows_text rs l) ≡ rows_begin rs
  begins-rows rs l h g =
      ap (λ ls. (allows_empty r.blank_lines && list_any is_empty_line ls) || say_more (comments (rows_text rs l))) (lines-rows rs l h g)
      ∙ ap (λ b. (allows_empty r.blank_lines && b) || say_more (comments (rows_text rs l))) (empty-lines rs l h g)
      ∙ ap (λ cs. (allows_empty r.blank_lines && list_any is_none_body rs) || say_more cs) (comments-rows rs l h g)

  front-and : (a b c : Bool) → (a && c) ≡ false → (a && (b || c)) ≡ (a && b)
  front-and true b c h = ap (λ d. b || d) h ∙ or-false b
  front-and false b c h = refl

  say-front : (xs ys : List Text) → say_more ys ≡ false → say_more (xs ++ ys) ≡ say_more xs
  say-front xs ys h = by_test r.left_alone h
    where
      by_test : (a : Bool) → (a && (turns ys || say_generated ys)) ≡ false
          → (a && (turns (xs ++ ys) || say_generated (xs ++ ys))) ≡ (a && (turns xs || say_generated xs))
      by_test false e = refl
      by_test true e =
          ap (λ b. b || say_generated (xs ++ ys)) (turns-front xs ys (or-left (turns ys) (say_generated ys) e))
          ∙ ap (λ b. turns xs || b)
          (list_any-append (has_part (codes "@generated")) xs ys
          ∙ ap (λ b. say_generated xs || b) (or-right (turns ys) (say_generated ys) e) ∙ or-false (say_generated xs))

  -- rows that begin no group add nothing
  begin-front : (xs ys : List Row) → rows_begin ys ≡ false → rows_begin (xs ++ ys) ≡ rows_begin xs
  begin-front xs ys h =
      let lines : (allows_empty r.blank_lines && list_any is_none_body ys) ≡ false = or-left _ (say_more (row_bodies ys)) h in
      let quiet : say_more (row_bodies ys) ≡ false = or-right (allows_empty r.blank_lines && list_any is_none_body ys) _ h in
      ap (λ b. (allows_empty r.blank_lines && b) || say_more (row_bodies (xs ++ ys))) (list_any-append is_none_body xs ys)
      ∙ ap (λ b. b || say_more (row_bodies (xs ++ ys))) (front-and (allows_empty r.blank_lines) (list_any is_none_body xs) _ lines)
      ∙ ap (λ cs. (allows_empty r.blank_lines && list_any is_none_body xs) || say_more cs) (filter_map-append (λ (x : Row). x.body) xs ys)
      ∙ ap (λ b. (allows_empty r.blank_lines && list_any is_none_body xs) || b) (say-front (row_bodies xs) (row_bodies ys) quiet)

  -- ---- texts

  -- whole trivia in two: its lines, and what is after the last newline
  pub record Parts (t : Text) : Type 0 where
    pub is : lines_before t ++ last_line t ≡ t
    pub lines : IsWholeTrivia (lines_before t)
    pub white : IsWholeTrivia (last_line t)
    -- what is after the last newline begins no group, and has no comment
    pub begins : begins_group r (last_line t) ≡ false
    pub silent : comments (last_line t) ≡ []
    -- In place of it may be what begins none.
    pub after : (u : Text) → IsWholeTrivia u → begins_group r u ≡ false
        → (IsWholeTrivia (lines_before t ++ u)) × (begins_group r (lines_before t ++ u) ≡ begins_group r t)
        × ((st : State) → reached r st (lines_before t ++ u) ≡ reached r st t)
        × (comments (lines_before t ++ u) ≡ comments t ++ comments u)

  pub parts : (t : Text) → IsWholeTrivia t → Parts t
  parts t whole =
      let v = view t whole in
      let front : lines_before t ≡ flat_map row_text v.rows = ap lines_before v.is ∙ before-rows v.rows v.last v.white in
      let last : last_line t ≡ v.last = ap last_line v.is ∙ last-rows v.rows v.last v.white in
      record {
        is = ap (λ u. u ++ last_line t) front ∙ ap (λ u. flat_map row_text v.rows ++ u) last ∙ sym v.is;
        lines = subst IsWholeTrivia (sym (front ∙ sym (append-nil (flat_map row_text v.rows)))) (rows-whole v.rows [] v.all refl);
        white = subst IsWholeTrivia (sym last) (white-whole v.last v.white);
        begins = ap (begins_group r) last ∙ begins-rows [] v.last tt v.white ∙ none (allows_empty r.blank_lines) r.left_alone;
        silent = ap comments last ∙ comments-rows [] v.last tt v.white;
        after = λ u h g. with_rows v front u (view u h) g;
      }
    where
      none : (a b : Bool) → ((a && false) || (b && false)) ≡ false
      none true true = refl
      none true false = refl
      none false true = refl
      none false false = refl

      with_rows : (v : Rows t) → lines_before t ≡ flat_map row_text v.rows → (u : Text) (w : Rows u) → begins_group r u ≡ false
          → (IsWholeTrivia (lines_before t ++ u)) × (begins_group r (lines_before t ++ u) ≡ begins_group r t)
          × ((st : State) → reached r st (lines_before t ++ u) ≡ reached r st t)
          × (comments (lines_before t ++ u) ≡ comments t ++ comments u)
      with_rows v front u w g =
          let rs = v.rows ++ w.rows in
          let all = all-append IsRow v.rows w.rows v.all w.all in
          let is : lines_before t ++ u ≡ rows_text rs w.last =
          ap (λ x. x ++ u) front ∙ ap (λ x. flat_map row_text v.rows ++ x) w.is
          ∙ sym (append_assoc (flat_map row_text v.rows) (flat_map row_text w.rows) w.last)
          ∙ ap (λ x. x ++ w.last) (sym (flat-append v.rows w.rows)) in
          let none : rows_begin w.rows ≡ false = sym (ap (begins_group r) w.is ∙ begins-rows w.rows w.last w.all w.white) ∙ g in
          let quiet : say_more (row_bodies w.rows) ≡ false =
          or-right (allows_empty r.blank_lines && list_any is_none_body w.rows) _ none in
          let said : comments (lines_before t ++ u) ≡ row_bodies v.rows ++ row_bodies w.rows =
          ap comments is ∙ comments-rows rs w.last all w.white ∙ filter_map-append (λ (x : Row). x.body) v.rows w.rows in
          let own : comments t ≡ row_bodies v.rows = ap comments v.is ∙ comments-rows v.rows v.last v.all v.white in (
            subst IsWholeTrivia (sym is) (rows-whole rs w.last all w.white),
            ap (begins_group r) is ∙ begins-rows rs w.last all w.white ∙ begin-front v.rows w.rows none
                ∙ sym (ap (begins_group r) v.is ∙ begins-rows v.rows v.last v.all v.white),
            (λ st. ap (told st) said ∙ told-front st (row_bodies v.rows) (row_bodies w.rows) quiet ∙ ap (told st) (sym own)),
            said ∙ ap (λ cs. cs ++ row_bodies w.rows) (sym own)
                ∙ ap (λ cs. comments t ++ cs) (sym (ap comments w.is ∙ comments-rows w.rows w.last w.all w.white)),
          )
        where
          flat-append : (xs ys : List Row) → flat_map row_text (xs ++ ys) ≡ flat_map row_text xs ++ flat_map row_text ys
          flat-append [] ys = refl
          flat-append (x ∷ xs) ys =
              ap (λ z. row_text x ++ z) (flat-append xs ys) ∙ sym (append_assoc (row_text x) (flat_map row_text xs) (flat_map row_text ys))

  -- what begins no group leaves the state
  pub reached-quiet : (st : State) (t : Text) → begins_group r t ≡ false → reached r st t ≡ st
  reached-quiet st t h = told-quiet st (comments t) (or-right (allows_empty r.blank_lines && has_empty_line t) _ h)

  -- ---- laid out, the same lines begin a group

  some-left : (most : ℕ) (rs : List Row) → list_any is_none_body (squeezed is_none_body (suc most) (suc most) rs) ≡ list_any is_none_body rs
  some-left most [] = refl
  some-left most (x ∷ xs) = by_test (is_none_body x) (some-left most xs) refl
    where
      by_test : (b : Bool) → list_any is_none_body (squeezed is_none_body (suc most) (suc most) xs) ≡ list_any is_none_body xs
          → is_none_body x ≡ b
          → list_any is_none_body (if b then x ∷ squeezed is_none_body (suc most) most xs else x ∷ squeezed is_none_body (suc most) (suc most) xs)
          ≡ (b || list_any is_none_body xs)
      by_test true ih e = ap (λ c. c || list_any is_none_body (squeezed is_none_body (suc most) most xs)) e
      by_test false ih e = ap (λ c. c || list_any is_none_body (squeezed is_none_body (suc most) (suc most) xs)) e ∙ ih

  some-spaced : (o : Option ℕ) (rs : List Row)
      → (allows_empty o && list_any is_none_body (spaced_by is_none_body o false false rs)) ≡ (allows_empty o && list_any is_none_body rs)
  some-spaced None rs = refl
  some-spaced (Some zero) rs = refl
  some-spaced (Some (suc most)) rs = some-left most rs

  some-moved : (indent : Text) (rs : List Row) → list_any is_none_body (map (moved indent) rs) ≡ list_any is_none_body rs
  some-moved indent [] = refl
  some-moved indent (x ∷ xs) = ap (λ b. is_none_body x || b) (some-moved indent xs)

  some-laid : (o : Option ℕ) (rs : List Row) → (allows_empty r.blank_lines && list_any is_none_body (laid_rows r false false o rs))
      ≡ (allows_empty r.blank_lines && list_any is_none_body rs)
  some-laid None rs = some-spaced r.blank_lines rs
  some-laid (Some depth) rs =
      ap (λ b. allows_empty r.blank_lines && b) (some-moved (units r depth) (spaced_rows r false false rs)) ∙ some-spaced r.blank_lines rs

  pub begins-laid : (depth : ℕ) (t : Text) → IsWholeTrivia t → begins_group r (leading r false depth t) ≡ begins_group r t
  begins-laid depth t h =
      let v = view t h in
      let k = r.indentation in
      let rs = lead_rows r k false depth v.rows in
      ap (begins_group r) (ap (leading r false depth) v.is ∙ lead-form r k false depth v.rows v.last v.all v.white)
      ∙ begins-rows rs (lead_last r k depth v.last) (all-laid r false false (lead_depth k depth) v.rows v.all) (white-lead r k depth v.last v.white)
      ∙ ap (λ b. b || say_more (row_bodies rs)) (some-laid (lead_depth k depth) v.rows)
      ∙ ap (λ cs. (allows_empty r.blank_lines && list_any is_none_body v.rows) || say_more cs) (bodies-laid r false false (lead_depth k depth) v.rows)
      ∙ sym (ap (begins_group r) v.is ∙ begins-rows v.rows v.last v.all v.white)
