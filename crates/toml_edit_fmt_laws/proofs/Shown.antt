-- What is laid out has carriage returns only where the text has some, or where newlines are made with them.
use Rattle.std.proofs.Common.{◌≡◌, refl, sym, ap, subst, ◌∙◌, ℕ, zero, suc, ◌==◌, Bool, true, false, List, [], ◌∷◌, ◌++◌, drop, take}
use Rattle.std.proofs.Common.{Option, Some, None}
use Rattle.std.specs.Prelude.{◌&&◌, ◌||◌, not, if◌then◌else◌, is_some}
use Rattle.std.specs.List.{AllByRecursion, before_first, flat_map, prefix_len}
use Rattle.std.proofs.lemmas.List.Folds.{list_any-append}
use Rattle.toml_edit_model.specs.Comments.{begun_with, comments, first_comment, first_line, lines, words}
use Rattle.toml_edit_model.specs.Mode.{exact, ends_in_return, but_last, line_newline}
use Rattle.toml_edit_model.specs.Text.{Text, carriage_return, line_feed, newline, one, has_byte, is_empty, joined}
use Rattle.toml_edit_model.specs.Paths.{Path}
use Rattle.toml_edit_model.specs.Print.{one_space}
use Rattle.toml_edit_model.specs.Trivia.{is_blank}
use Rattle.toml_edit_laws.proofs.common.Each.{all-filter}
use Rattle.toml_edit_laws.proofs.common.Tests.{or-left, or-right}
use Rattle.toml_edit_fmt_laws.specs.Rules.{Indentation, as_it_is, flush, by_depth, Comments, as_they_are, apart, aligned, Rules, spaces, units, made_newline}
use Rattle.toml_edit_fmt_laws.specs.Laying.{is_empty_line, is_whole_line, line_words, whole_lines, indented, spaced, laid_lines, is_broken, leading_as, leading}
use Rattle.toml_edit_fmt_laws.specs.Laying.{may_be_empty, header_leading, rest_as, line_rest, usual_pad, line_break, beside, gap, before_comma}
use Rattle.toml_edit_fmt_laws.specs.Laying.{final_as, final_text}
use Rattle.toml_edit_fmt_laws.specs.Formatted.{Layout, untouched, on_one_line, line_by_line, in_rows, before_part, after_part, before_bracket, last_text, close_text, Inside, inside}
use Rattle.toml_edit_fmt_laws.proofs.Spacing.{all-spaced}

abbrev pub NoReturn : Text → Type 0
NoReturn t = has_byte carriage_return t ≡ false

pub none-append : (s t : Text) → NoReturn s → NoReturn t → NoReturn (s ++ t)
none-append s t h g = list_any-append (λ c. c == carriage_return) s t ∙ ap (λ b. b || has_byte carriage_return t) h ∙ g

drop-none : (n : ℕ) (t : Text) → NoReturn t → NoReturn (drop n t)
drop-none zero t h = h
drop-none (suc n) [] h = refl
drop-none (suc n) (c ∷ t) h = drop-none n t (or-right (c == carriage_return) _ h)

take-none : (n : ℕ) (t : Text) → NoReturn t → NoReturn (take n t)
take-none zero t h = refl
take-none (suc n) [] h = refl
take-none (suc n) (c ∷ t) h =
    ap (λ b. b || has_byte carriage_return (take n t)) (or-left (c == carriage_return) _ h)
    ∙ take-none n t (or-right (c == carriage_return) _ h)

ends-none : (t : Text) → NoReturn t → ends_in_return t ≡ false
ends-none [] h = refl
ends-none (c ∷ []) h = or-left (c == carriage_return) false h
ends-none (c ∷ d ∷ t) h = ends-none (d ∷ t) (or-right (c == carriage_return) _ h)

first-none : (t : Text) → NoReturn t → NoReturn (first_line t)
first-none t h =
    let u = before_first (λ c. c == line_feed) t in
    let g : NoReturn u = take-none _ t h in
    subst NoReturn (sym (ap (λ b. if b then but_last u else u) (ends-none u g))) g

newline-none : (t : Text) → NoReturn t → line_newline exact (before_first (λ c. c == line_feed) t) ≡ newline
newline-none t h =
    ap (λ b. if b then carriage_return ∷ newline else newline) (ends-none (before_first (λ c. c == line_feed) t) (take-none _ t h))

words-none : (l : Text) → NoReturn l → NoReturn (words l)
words-none l h = drop-none (prefix_len is_blank l) l h

begun-none : (c : ℕ) (ls : List Text) → (c == carriage_return) ≡ false → AllByRecursion NoReturn ls → AllByRecursion NoReturn (begun_with c ls)
begun-none c [] h g = (ap (λ b. b || false) h, tt)
begun-none c (l ∷ ls) h g = (ap (λ b. b || has_byte carriage_return l) h ∙ g.0, g.1)

lines-none : (t : Text) → NoReturn t → AllByRecursion NoReturn (lines t)
lines-none [] h = tt
lines-none (c ∷ t) h = by_test (c == line_feed) (lines-none t (or-right (c == carriage_return) _ h))
  where
    by_test : (b : Bool) → AllByRecursion NoReturn (lines t) → AllByRecursion NoReturn (if b then one c ∷ lines t else begun_with c (lines t))
    by_test true ih = (ap (λ x. x || false) (or-left (c == carriage_return) _ h), ih)
    by_test false ih = begun-none c (lines t) (or-left (c == carriage_return) _ h) ih

joined-none : (ls : List Text) → AllByRecursion NoReturn ls → NoReturn (joined ls)
joined-none [] h = refl
joined-none (l ∷ ls) h = none-append l (joined ls) h.0 (joined-none ls h.1)

indented-none : (i : Text) (ls : List Text) → NoReturn i → AllByRecursion NoReturn ls → NoReturn (flat_map (indented i) ls)
indented-none i [] h g = refl
indented-none i (l ∷ ls) h g =
    none-append (indented i l) (flat_map (indented i) ls)
    (none-append (if is_empty (line_words l) then [] else i) (words l) (by_test (is_empty (line_words l))) (words-none l g.0))
    (indented-none i ls h g.1)
  where
    by_test : (b : Bool) → NoReturn (if b then [] else i)
    by_test true = refl
    by_test false = h

drop-all : (ls : List Text) → AllByRecursion NoReturn ls → AllByRecursion NoReturn (drop 1 ls)
drop-all [] h = tt
drop-all (l ∷ ls) h = h.1

pub spaces-none : (n : ℕ) → NoReturn (spaces n)
spaces-none zero = refl
spaces-none (suc n) = spaces-none n

pub if-none : (b : Bool) (s t : Text) → NoReturn s → NoReturn t → NoReturn (if b then s else t)
if-none true s t h g = h
if-none false s t h g = g

spaced-none : (n : ℕ) (t : Text) → NoReturn t → NoReturn ((if is_some (first_comment t) then spaces n else []) ++ words t)
spaced-none n t h =
    none-append (if is_some (first_comment t) then spaces n else []) (words t)
    (if-none (is_some (first_comment t)) (spaces n) [] (spaces-none n) refl) (words-none t h)

rest-none : (c : Comments) (pad : ℕ) (t : Text) → NoReturn t → NoReturn (rest_as c pad t)
rest-none as_they_are pad t h = h
rest-none (apart n) pad t h = spaced-none n t h
rest-none (aligned n) pad t h = spaced-none pad t h

module _ (r : Rules) where
  units-none : (n : ℕ) → NoReturn (units r n)
  units-none zero = refl
  units-none (suc n) = none-append (spaces r.unit) (units r n) (spaces-none r.unit) (units-none n)

  laid-none : (s e : Bool) (o : Option ℕ) (t : Text) → NoReturn t → NoReturn (laid_lines r s e o t)
  laid-none s e None t h =
      joined-none (spaced r.blank_lines s e (lines t)) (all-spaced is_empty_line NoReturn r.blank_lines s e (lines t) (lines-none t h))
  laid-none s e (Some depth) t h =
      indented-none (units r depth) (spaced r.blank_lines s e (whole_lines (lines t))) (units-none depth)
      (all-spaced is_empty_line NoReturn r.blank_lines s e (whole_lines (lines t)) (all-filter NoReturn is_whole_line (lines t) (lines-none t h)))

  pub leading-none : (s : Bool) (depth : ℕ) (t : Text) → NoReturn t → NoReturn (leading r s depth t)
  leading-none s depth t h = by_kind r.indentation
    where
      by_kind : (k : Indentation) → NoReturn (leading_as k r s depth t)
      by_kind as_it_is = laid-none s false None t h
      by_kind flush = none-append (laid_lines r s false (Some depth) t) (units r depth) (laid-none s false (Some depth) t h) (units-none depth)
      by_kind by_depth = none-append (laid_lines r s false (Some depth) t) (units r depth) (laid-none s false (Some depth) t h) (units-none depth)

  pub final-none-return : (s : Bool) (t : Text) → NoReturn t → NoReturn (final_text r s t)
  final-none-return s t h = by_kind r.indentation
    where
      by_kind : (k : Indentation) → NoReturn (final_as k r s t)
      by_kind as_it_is = laid-none s true None t h
      by_kind flush = laid-none s true (Some 0) t h
      by_kind by_depth = laid-none s true (Some 0) t h

  pub line-rest-none : (pad : ℕ) (t : Text) → NoReturn t → NoReturn (line_rest r pad t)
  line-rest-none pad t h = rest-none r.comments pad t h

module _ (r : Rules) (plain_newlines : r.returns ≡ false) where
  made-none : NoReturn (made_newline r)
  made-none = ap (λ b. has_byte carriage_return (if b then carriage_return ∷ newline else newline)) plain_newlines

  pub header-none : (s : Bool) (depth : ℕ) (t : Text) → NoReturn t → NoReturn (header_leading r s depth t)
  header-none s depth t h =
      none-append (if may_be_empty r.blank_lines && not (s || is_broken t) then made_newline r else []) (leading r s depth t)
      (if-none (may_be_empty r.blank_lines && not (s || is_broken t)) (made_newline r) [] made-none refl) (leading-none r s depth t h)

  gap-none-return : (pad : ℕ) (s e : Bool) (depth last : ℕ) (t : Text) → NoReturn t → NoReturn (gap r pad s e depth last t)
  gap-none-return pad s e depth last t h =
      none-append (beside r pad t) _ (if-none (is_some (first_comment t)) _ [] (line-rest-none r pad (first_line t) (first-none t h)) refl)
      (none-append (line_break r t) _
      (if-none (is_broken t) _ (made_newline r) (ap (has_byte carriage_return) (newline-none t h)) made-none)
      (none-append (laid_lines r s e (Some depth) (joined (drop 1 (lines t)))) (units r last)
      (laid-none r s e (Some depth) (joined (drop 1 (lines t))) (joined-none (drop 1 (lines t)) (drop-all (lines t) (lines-none t h))))
      (units-none r last)))

  comma-none-return : (depth : ℕ) (t : Text) → NoReturn t → NoReturn (before_comma r depth t)
  comma-none-return depth t h =
      if-none (is_empty (comments t)) [] _ refl (gap-none-return (usual_pad r.comments) false false depth depth t h)

  pub before-none : (l : Layout) (n : ℕ) (first : Bool) (depth : ℕ) (edge t : Text) → NoReturn edge → NoReturn t
      → NoReturn (before_part r l n first depth edge t)
  before-none untouched n first depth edge t w h = h
  before-none on_one_line n first depth edge t w h = if-none first edge one_space w refl
  before-none line_by_line n first depth edge t w h = gap-none-return n first false (suc depth) (suc depth) t h
  before-none in_rows n first depth edge t w h =
      if-none (first || is_broken t) _ one_space (gap-none-return n first false (suc depth) (suc depth) t h) refl

  pub after-none-return : (l : Layout) (comma : Bool) (depth : ℕ) (t : Text) → NoReturn t → NoReturn (after_part r l comma depth t)
  after-none-return untouched comma depth t h = h
  after-none-return on_one_line comma depth t h = refl
  after-none-return line_by_line comma depth t h = if-none comma _ [] (comma-none-return (suc depth) t h) refl
  after-none-return in_rows comma depth t h = if-none comma _ [] (comma-none-return (suc depth) t h) refl

  pub record InsideNone (x : Inside) : Type 0 where
    pub last : NoReturn x.last
    pub close : NoReturn x.close

  bracket-none : (l : Layout) (n : ℕ) (has : Bool) (depth : ℕ) (edge : Text) (comma : Bool) (last t : Text) → NoReturn edge → NoReturn last
      → NoReturn t → NoReturn (before_bracket r l n has depth edge comma last t)
  bracket-none untouched n has depth edge comma last t w v h = h
  bracket-none on_one_line n has depth edge comma last t w v h = w
  bracket-none line_by_line n has depth edge comma last t w v h =
      gap-none-return n (not has) true (suc depth) depth (if comma then t else last ++ t) (if-none comma t (last ++ t) h (none-append last t v h))
  bracket-none in_rows n has depth edge comma last t w v h =
      gap-none-return n (not has) true (suc depth) depth (if comma then t else last ++ t) (if-none comma t (last ++ t) h (none-append last t v h))

  pub edge-none-return : (has space : Bool) → NoReturn (if has && space then one_space else [])
  edge-none-return has space = if-none (has && space) one_space [] refl refl

  pub inside-none : (l : Layout) (p : Path) (depth : ℕ) (has space : Bool) (n : ℕ) (comma : Bool) (last t : Text) → NoReturn last → NoReturn t
      → InsideNone (inside r l p depth has space n comma last t)
  inside-none l p depth has space n comma last t v h = record { last = of_last l _ _ whole; close = of_close l _ _ whole }
    where
      whole : NoReturn (before_bracket r l n has depth (if has && space then one_space else []) (comma || not has) last t)
      whole = bracket-none l n has depth _ (comma || not has) last t (edge-none-return has space) v h

      of_last : (m : Layout) (b : Bool) (u : Text) → NoReturn u → NoReturn (last_text m b u)
      of_last untouched b u k = refl
      of_last on_one_line b u k = if-none b [] u refl k
      of_last line_by_line b u k = if-none b [] u refl k
      of_last in_rows b u k = if-none b [] u refl k

      of_close : (m : Layout) (b : Bool) (u : Text) → NoReturn u → NoReturn (close_text m b u)
      of_close untouched b u k = k
      of_close on_one_line b u k = if-none b u [] k refl
      of_close line_by_line b u k = if-none b u [] k refl
      of_close in_rows b u k = if-none b u [] k refl
