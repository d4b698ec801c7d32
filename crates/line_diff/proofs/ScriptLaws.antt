-- The lines of a script, of each text.
use Rattle.std.proofs.Common.{◌≡◌, ◌∙◌, ap, sym, refl, ℕ, ◌+◌, ◌-◌, ◌<◌, ◌≤◌, List, [], ◌∷◌, ◌++◌, Bool, map, length, take, drop, get_or, append_assoc, take-add, arith, cond, true, false, zero, suc, subst, length-append, length-take, length-drop, Bor}
use Rattle.std.specs.List.{filter, slice_range, slice_get, count_by}
use Rattle.std.proofs.lemmas.List.{append-nil, map-append, length-map, take-map, take_more, take-append-drop, drop-map, drop_more, take_rest}
use Rattle.std.proofs.lemmas.List.Elements.{filter-append}
use Rattle.std.proofs.lemmas.List.Sums.{length-filter}
use Rattle.std.proofs.lemmas.Option.{slice_get-get_or}
use Rattle.std.specs.Prelude.{Some}
use Rattle.line_diff.specs.Diff.{Line, Text, is_new, is_old, new_lines, old_lines}
use Rattle.line_diff.specs.Steps.{line_of, lines_of, marked, texts}
use Rattle.line_diff.specs.declared.script.Kind.{Kind}
use Rattle.line_diff.specs.declared.script.Kind.TheVariants.{Kept, Removed, Added}
use Rattle.line_diff.specs.declared.script.Step.{Step}

pub old-append : (xs ys : List Line) → old_lines (xs ++ ys) ≡ old_lines xs ++ old_lines ys
old-append xs ys = ap (map (λ line. line.1)) (filter-append is_old xs ys) ∙ map-append (λ line. line.1) (filter is_old xs) (filter is_old ys)

pub new-append : (xs ys : List Line) → new_lines (xs ++ ys) ≡ new_lines xs ++ new_lines ys
new-append xs ys = ap (map (λ line. line.1)) (filter-append is_new xs ys) ∙ map-append (λ line. line.1) (filter is_new xs) (filter is_new ys)

pub old-kept : (ls : List Text) → old_lines (marked Kept ls) ≡ ls
old-kept [] = refl
old-kept (l ∷ ls) = ap (λ xs. l ∷ xs) (old-kept ls)

pub new-kept : (ls : List Text) → new_lines (marked Kept ls) ≡ ls
new-kept [] = refl
new-kept (l ∷ ls) = ap (λ xs. l ∷ xs) (new-kept ls)

pub old-removed : (ls : List Text) → old_lines (marked Removed ls) ≡ ls
old-removed [] = refl
old-removed (l ∷ ls) = ap (λ xs. l ∷ xs) (old-removed ls)

pub new-removed : (ls : List Text) → new_lines (marked Removed ls) ≡ []
new-removed [] = refl
new-removed (l ∷ ls) = new-removed ls

pub old-added : (ls : List Text) → old_lines (marked Added ls) ≡ []
old-added [] = refl
old-added (l ∷ ls) = old-added ls

pub new-added : (ls : List Text) → new_lines (marked Added ls) ≡ ls
new-added [] = refl
new-added (l ∷ ls) = ap (λ xs. l ∷ xs) (new-added ls)

-- a change has these old and new lines
pub old-change : (olds news : List Text) → old_lines (marked Removed olds ++ marked Added news) ≡ olds
old-change olds news =
    old-append (marked Removed olds) (marked Added news)
    ∙ (ap (λ xs. xs ++ old_lines (marked Added news)) (old-removed olds) ∙ (ap (λ xs. olds ++ xs) (old-added news) ∙ append-nil olds))

pub new-change : (olds news : List Text) → new_lines (marked Removed olds ++ marked Added news) ≡ news
new-change olds news =
    new-append (marked Removed olds) (marked Added news)
    ∙ (ap (λ xs. xs ++ new_lines (marked Added news)) (new-removed olds) ∙ new-added news)

-- one more line is pushed
pub pushed : (steps after : List Step) (before : List Line) (kind : Kind) (lines : List (Bor Text)) (i : ℕ) (line : Bor Text) (s : Step)
    → i < length lines → lines_of steps ≡ before ++ marked kind (texts (take i lines)) → line ≡ get_or lines i line
    → line_of s ≡ (kind, line.now) → after ≡ steps ++ s ∷ [] → lines_of after ≡ before ++ marked kind (texts (take (i + 1) lines))
pushed steps after before kind lines i line s lt at read is all =
    ap lines_of all ∙ (map-append line_of steps (s ∷ []) ∙ (ap (λ xs. xs ++ (line_of s ∷ [])) at
    ∙ (ap (λ x. (before ++ marked kind (texts (take i lines))) ++ (x ∷ [])) is
    ∙ (append_assoc before (marked kind (texts (take i lines))) ((kind, line.now) ∷ []) ∙ ap (λ xs. before ++ xs) (sym more)))))
  where
    one : take (i + 1) lines ≡ take i lines ++ line ∷ []
    one = take_more lines i line lt ∙ ap (λ x. take i lines ++ x ∷ []) (sym read)

    more : marked kind (texts (take (i + 1) lines)) ≡ marked kind (texts (take i lines)) ++ ((kind, line.now) ∷ [])
    more = ap (λ xs. marked kind (texts xs)) one
        ∙ (ap (marked kind) (map-append (λ l. l.now) (take i lines) (line ∷ [])) ∙ map-append (λ l. (kind, l)) (texts (take i lines)) (line.now ∷ []))

-- the front of a list up to `b` is that up to `a` with what stands between
pub take-range : {X : Type 0} (xs : List X) (a b : ℕ) → a ≤ b → take b xs ≡ take a xs ++ slice_range xs a b
take-range xs a b h = let e : b ≡ a + (b - a) = omega arith in ap (λ n. take n xs) e ∙ take-add a (b - a) xs

pub range-map : {X Y : Type 0} (f : X → Y) (xs : List X) (a b : ℕ) → map f (slice_range xs a b) ≡ slice_range (map f xs) a b
range-map f xs a b = sym (take-map f (b - a) (drop a xs)) ∙ ap (take (b - a)) (sym (drop-map f a xs))

pub one-range : {X : Type 0} (xs : List X) (a : ℕ) (d : X) → a < length xs → slice_range xs a (a + 1) ≡ get_or xs a d ∷ []
one-range xs a d lt = let e : (a + 1) - a ≡ 1 = omega arith in ap (λ n. take n (drop a xs)) e ∙ ap (take 1) (drop_more xs a d lt)

-- what a kept line does to the lines so far
pub kept-olds : (steps mid after : List Step) (olds news : List (Bor Text)) (at to : ℕ) (others : List Text) → at ≤ to → to < length olds
    → old_lines (lines_of steps) ≡ take at (texts olds) → lines_of mid ≡ lines_of steps ++ (marked Removed (texts (slice_range olds at to)) ++ marked Added others)
    → lines_of after ≡ lines_of mid ++ marked Kept (texts (slice_range olds to (to + 1))) → old_lines (lines_of after) ≡ take (to + 1) (texts olds)
kept-olds steps mid after olds news at to others le lt is change keep =
    ap old_lines keep ∙ (old-append (lines_of mid) (marked Kept (texts (slice_range olds to (to + 1))))
    ∙ (ap (λ xs. xs ++ old_lines (marked Kept (texts (slice_range olds to (to + 1))))) (ap old_lines change)
    ∙ (ap (λ xs. old_lines (lines_of steps ++ (marked Removed (texts (slice_range olds at to)) ++ marked Added others)) ++ xs) (old-kept (texts (slice_range olds to (to + 1))))
    ∙ (ap (λ xs. xs ++ texts (slice_range olds to (to + 1)))
    (old-append (lines_of steps) (marked Removed (texts (slice_range olds at to)) ++ marked Added others)
    ∙ (ap (λ xs. xs ++ old_lines (marked Removed (texts (slice_range olds at to)) ++ marked Added others)) is
    ∙ ap (λ xs. take at (texts olds) ++ xs) (old-change (texts (slice_range olds at to)) others ∙ range-map (λ l. l.now) olds at to)))
    ∙ (ap (λ xs. xs ++ texts (slice_range olds to (to + 1))) (sym (take-range (texts olds) at to le))
    ∙ (ap (λ xs. take to (texts olds) ++ xs) (range-map (λ l. l.now) olds to (to + 1))
    ∙ sym (take-range (texts olds) to (to + 1) (omega arith))))))))

pub kept-news : (steps mid after : List Step) (olds news : List (Bor Text)) (from at to : ℕ) (others : List Text) → at ≤ to → to < length news
    → from < length olds → slice_get (texts olds) from ≡ slice_get (texts news) to
    → new_lines (lines_of steps) ≡ take at (texts news) → lines_of mid ≡ lines_of steps ++ (marked Removed others ++ marked Added (texts (slice_range news at to)))
    → lines_of after ≡ lines_of mid ++ marked Kept (texts (slice_range olds from (from + 1))) → new_lines (lines_of after) ≡ take (to + 1) (texts news)
kept-news steps mid after olds news from at to others le lt within same is change keep =
    ap new_lines (keep ∙ ap (λ xs. lines_of mid ++ marked Kept xs) (line-is))
    ∙ (new-append (lines_of mid) (marked Kept (slice_range (texts news) to (to + 1)))
    ∙ (ap (λ xs. xs ++ new_lines (marked Kept (slice_range (texts news) to (to + 1)))) (ap new_lines change)
    ∙ (ap (λ xs. new_lines (lines_of steps ++ (marked Removed others ++ marked Added (texts (slice_range news at to)))) ++ xs) (new-kept (slice_range (texts news) to (to + 1)))
    ∙ (ap (λ xs. xs ++ slice_range (texts news) to (to + 1))
    (new-append (lines_of steps) (marked Removed others ++ marked Added (texts (slice_range news at to)))
    ∙ (ap (λ xs. xs ++ new_lines (marked Removed others ++ marked Added (texts (slice_range news at to)))) is
    ∙ ap (λ xs. take at (texts news) ++ xs) (new-change others (texts (slice_range news at to)) ∙ range-map (λ l. l.now) news at to)))
    ∙ (ap (λ xs. xs ++ slice_range (texts news) to (to + 1)) (sym (take-range (texts news) at to le))
    ∙ sym (take-range (texts news) to (to + 1) (omega arith)))))))
  where
    some-same : {X : Type 0} (x y : X) → Some x ≡ Some y → x ≡ y
    some-same x y e = cc

    in-olds : from < length (texts olds)
    in-olds = subst (λ n. from < n) (sym (length-map olds (λ l. l.now))) within

    in-news : to < length (texts news)
    in-news = subst (λ n. to < n) (sym (length-map news (λ l. l.now))) lt

    line : get_or (texts olds) from [] ≡ get_or (texts news) to []
    line = some-same (get_or (texts olds) from []) (get_or (texts news) to [])
        (sym (slice_get-get_or (texts olds) from [] in-olds) ∙ (same ∙ slice_get-get_or (texts news) to [] in-news))

    line-is : texts (slice_range olds from (from + 1)) ≡ slice_range (texts news) to (to + 1)
    line-is = range-map (λ l. l.now) olds from (from + 1) ∙ (one-range (texts olds) from [] in-olds ∙ (ap (λ x. x ∷ []) line ∙ sym (one-range (texts news) to [] in-news)))

-- the rest is removed and added
pub last-olds : (steps after : List Step) (olds : List (Bor Text)) (at : ℕ) (others : List Text) → old_lines (lines_of steps) ≡ take at (texts olds)
    → lines_of after ≡ lines_of steps ++ (marked Removed (texts (drop at olds)) ++ marked Added others) → old_lines (lines_of after) ≡ texts olds
last-olds steps after olds at others is change =
    ap old_lines change ∙ (old-append (lines_of steps) (marked Removed (texts (drop at olds)) ++ marked Added others)
    ∙ (ap (λ xs. xs ++ old_lines (marked Removed (texts (drop at olds)) ++ marked Added others)) is
    ∙ (ap (λ xs. take at (texts olds) ++ xs) (old-change (texts (drop at olds)) others)
    ∙ (ap (λ xs. xs ++ texts (drop at olds)) (take-map (λ l. l.now) at olds)
    ∙ (sym (map-append (λ l. l.now) (take at olds) (drop at olds)) ∙ ap texts (take-append-drop at olds))))))

pub last-news : (steps after : List Step) (news : List (Bor Text)) (at : ℕ) (others : List Text) → new_lines (lines_of steps) ≡ take at (texts news)
    → lines_of after ≡ lines_of steps ++ (marked Removed others ++ marked Added (texts (drop at news))) → new_lines (lines_of after) ≡ texts news
last-news steps after news at others is change =
    ap new_lines change ∙ (new-append (lines_of steps) (marked Removed others ++ marked Added (texts (drop at news)))
    ∙ (ap (λ xs. xs ++ new_lines (marked Removed others ++ marked Added (texts (drop at news)))) is
    ∙ (ap (λ xs. take at (texts news) ++ xs) (new-change others (texts (drop at news)))
    ∙ (ap (λ xs. xs ++ texts (drop at news)) (take-map (λ l. l.now) at news)
    ∙ (sym (map-append (λ l. l.now) (take at news) (drop at news)) ∙ ap texts (take-append-drop at news))))))

-- how many lines there are of each text
pub old-count : (steps : List Step) → length (old_lines (lines_of steps)) ≡ count_by (λ s. is_old (line_of s)) steps
old-count steps = filtered steps ∙ length-filter (λ s. is_old (line_of s)) steps
  where
    by_test : (b : Bool) (l : Line) (ls : List Line) (s : Step) (ss : List Step) → length (map (λ (line : Line). line.1) ls) ≡ length ss
        → length (map (λ (line : Line). line.1) (cond b (l ∷ ls) ls)) ≡ length (cond b (s ∷ ss) ss)
    by_test true l ls s ss e = ap suc e
    by_test false l ls s ss e = e

    filtered : (steps : List Step) → length (old_lines (lines_of steps)) ≡ length (filter (λ s. is_old (line_of s)) steps)
    filtered [] = refl
    filtered (s ∷ steps) = by_test (is_old (line_of s)) (line_of s) (filter is_old (lines_of steps)) s (filter (λ s. is_old (line_of s)) steps) (filtered steps)

pub new-count : (steps : List Step) → length (new_lines (lines_of steps)) ≡ count_by (λ s. is_new (line_of s)) steps
new-count steps = filtered steps ∙ length-filter (λ s. is_new (line_of s)) steps
  where
    by_test : (b : Bool) (l : Line) (ls : List Line) (s : Step) (ss : List Step) → length (map (λ (line : Line). line.1) ls) ≡ length ss
        → length (map (λ (line : Line). line.1) (cond b (l ∷ ls) ls)) ≡ length (cond b (s ∷ ss) ss)
    by_test true l ls s ss e = ap suc e
    by_test false l ls s ss e = e

    filtered : (steps : List Step) → length (new_lines (lines_of steps)) ≡ length (filter (λ s. is_new (line_of s)) steps)
    filtered [] = refl
    filtered (s ∷ steps) = by_test (is_new (line_of s)) (line_of s) (filter is_new (lines_of steps)) s (filter (λ s. is_new (line_of s)) steps) (filtered steps)

-- the steps have the lines up to these places
pub record Built (steps : List Step) (olds news : List (Bor Text)) (old new : ℕ) : Type 0 where
  pub within_olds : old ≤ length olds
  pub within_news : new ≤ length news
  pub olds_are : old_lines (lines_of steps) ≡ take old (texts olds)
  pub news_are : new_lines (lines_of steps) ≡ take new (texts news)

pub built-more : (steps mid after : List Step) (olds news : List (Bor Text)) (old new to_old to_new : ℕ) → Built steps olds news old new
    → old ≤ to_old → new ≤ to_new → to_old < length olds → to_new < length news → slice_get (texts olds) to_old ≡ slice_get (texts news) to_new
    → lines_of mid ≡ lines_of steps ++ (marked Removed (texts (slice_range olds old to_old)) ++ marked Added (texts (slice_range news new to_new)))
    → lines_of after ≡ lines_of mid ++ marked Kept (texts (slice_range olds to_old (to_old + 1))) → Built after olds news (to_old + 1) (to_new + 1)
built-more steps mid after olds news old new to_old to_new b le_old le_new lt_old lt_new same change keep =
    record {
      within_olds = omega arith;
      within_news = omega arith;
      olds_are = kept-olds steps mid after olds news old to_old (texts (slice_range news new to_new)) le_old lt_old b.olds_are change keep;
      news_are = kept-news steps mid after olds news to_old new to_new (texts (slice_range olds old to_old)) le_new lt_new lt_old same b.news_are change keep;
    }

pub built-all : (steps after : List Step) (olds news : List (Bor Text)) (old new : ℕ) → Built steps olds news old new
    → lines_of after ≡ lines_of steps ++ (marked Removed (texts (slice_range olds old (length olds))) ++ marked Added (texts (slice_range news new (length news))))
    → (old_lines (lines_of after) ≡ texts olds) × (new_lines (lines_of after) ≡ texts news)
built-all steps after olds news old new b change = (
  last-olds steps after olds old (texts (slice_range news new (length news))) b.olds_are
      (change ∙ ap (λ xs. lines_of steps ++ (marked Removed (texts xs) ++ marked Added (texts (slice_range news new (length news))))) (take_rest olds old)),
  last-news steps after news new (texts (slice_range olds old (length olds))) b.news_are
      (change ∙ ap (λ xs. lines_of steps ++ (marked Removed (texts (slice_range olds old (length olds))) ++ marked Added (texts xs))) (take_rest news new)),
)
