-- The lines of the other values of an array stay where one is inserted or removed with its line.
use Rattle.std.proofs.Common.{◌≡◌, ◌∙◌, refl, sym, ap, subst, ℕ, zero, suc, ◌-◌, ◌<◌, ◌≤◌, Bool, true, false, List, [], ◌∷◌, ◌++◌, length, Option, Some, None, arith, inl, inr}
use Rattle.std.specs.Prelude.{◌||◌, ◌==◌, not, nat_lt, if◌then◌else◌, codes, flat_map, is_none}
use Rattle.std.proofs.lemmas.Bool.{cases_Bool, lt-ltb, ltb-false, ltb-true}
use Rattle.std.proofs.lemmas.List.Edits.{length-insert, length-remove}
use Rattle.toml_edit_model.specs.ArrayCalls.{inserted_at, removed_at, value_at}
use Rattle.toml_edit_model.specs.Comments.{after_first_line, first_line, lines, side_text}
use Rattle.toml_edit_model.specs.Lists.{items_from}
use Rattle.toml_edit_model.specs.Mode.{Mode, exact, shown_text}
use Rattle.toml_edit_model.specs.Print.{element_default}
use Rattle.toml_edit_model.specs.Slots.{changed_at}
use Rattle.toml_edit_model.specs.Text.{Text, carriage_return, is_empty, newline}
use Rattle.toml_edit_model.specs.Tree.{ArrayFields, Node, Raw, owned, span, is_value_node, list, node_decor, shown_raw, shown_side}
use Rattle.toml_edit_laws.proofs.common.Tests.{if-true, if-false}
use Rattle.toml_edit_tree.specs.ArrayLines.{begun_newline, broken_gap, comma_kept, fields_inserted, fields_removed, fields_with_gap, first_newline, followed, gap, gap_left, gaps_around, gaps_on_line}
use Rattle.toml_edit_tree.specs.ArrayLines.{indent_at, is_broken, is_closed, last_gap, last_suffix, left_of, line_inserted, line_removed, lines_above, moved, newline_at, newline_in, placed, prefixes, prefix_at, takes_lines, text_above, text_after, with_gap, with_line, with_prefix, with_suffix}
use Rattle.toml_edit_edits.specs.LinesStay.{BeginsLine, HasLinesMore, InsertedLines, RemovedLines, text_of}
use Rattle.toml_edit_edits.proofs.LineTexts.{begins-more}
use Rattle.toml_edit_edits.proofs.LineLaws.{array-text, body, longer-back, longer-front}
use Rattle.toml_edit_edits.proofs.LineEdits.{AreValues, cut, less-at-end, less-within, more-at-end, more-within, values-changed, values-inserted, values-removed}

-- ---- numbers

is-below : (i n : ℕ) → i < n → nat_lt i n ≡ true
is-below i n h = lt-ltb i n h

not-below : (i n : ℕ) → nat_lt i n ≡ false → n ≤ i
not-below i n h = ltb-false i n h

at-most-not : (i n : ℕ) → n ≤ i → nat_lt i n ≡ false
at-most-not i n h = by_test (nat_lt i n) refl
  where
    by_test : (b : Bool) → nat_lt i n ≡ b → b ≡ false
    by_test true e = let l = ltb-true i n e in absurd (omega (arith, h, l))
    by_test false e = refl

-- ---- gaps that have a newline

record Owned (p : Option Raw) (t : Text) : Type 0 where
  text : Text
  is : p ≡ Some (owned text)
  same : t ≡ text
  broken : is_broken text ≡ true

default-whole : (b : Bool) → is_broken (element_default b) ≡ false
default-whole true = refl
default-whole false = refl

side-owned : (b : Bool) (p : Option Raw) → is_broken (shown_side exact (element_default b) p) ≡ true → Owned p (shown_side exact (element_default b) p)
side-owned b None h = let d = default-whole b in absurd cc
side-owned b (Some (owned t)) h = record { text = t; is = refl; same = refl; broken = h }
side-owned b (Some (span i j)) h = let d = default-whole b in absurd cc

text-owned : (r : Raw) → is_broken (side_text (Some r)) ≡ true → Owned (Some r) (side_text (Some r))
text-owned (owned t) h = record { text = t; is = refl; same = refl; broken = h }
text-owned (span i j) h = absurd cc

module _ (f : ArrayFields) (xs : List Node) where
  gap-within : (i : ℕ) → nat_lt i (length xs) ≡ true → is_broken (gap i f xs) ≡ true → Owned (prefix_at i xs) (gap i f xs)
  gap-within i below h =
      let e : gap i f xs ≡ shown_side exact (element_default (i == 0)) (prefix_at i xs) =
      if-true (nat_lt i (length xs)) (shown_side exact (element_default (i == 0)) (prefix_at i xs)) (last_gap f xs) below in
      subst (Owned (prefix_at i xs)) (sym e) (side-owned (i == 0) (prefix_at i xs) (subst (λ t. is_broken t ≡ true) e h))

  no-suffix : (ns : List Node) → f.comma ≡ true → last_suffix f ns ≡ []
  no-suffix ns c = rw c refl

  gap-at-end : (i : ℕ) → nat_lt i (length xs) ≡ false → f.comma ≡ true → is_broken (gap i f xs) ≡ true → Owned (Some f.trailing) (gap i f xs)
  gap-at-end i past c h =
      let e : gap i f xs ≡ side_text (Some f.trailing) =
      if-false (nat_lt i (length xs)) (shown_side exact (element_default (i == 0)) (prefix_at i xs)) (last_gap f xs) past
      ∙ ap (λ t. t ++ side_text (Some f.trailing)) (no-suffix xs c) in
      subst (Owned (Some f.trailing)) (sym e) (text-owned f.trailing (subst (λ t. is_broken t ≡ true) e h))

raw-is : (r : Raw) (t : Text) → Some r ≡ Some (owned t) → r ≡ owned t
raw-is r t h = cc

left-cut : (g h : Text) (a b : Bool) → is_broken g ≡ true → is_broken h ≡ true → left_of g h a b ≡ cut g h
left-cut g h a b x y = rw (x, y) refl

kept-fields : (ys : List Node) (f : ArrayFields) → is_empty ys ≡ false → comma_kept ys f ≡ f
kept-fields [] f h = absurd cc
kept-fields (y ∷ ys) f h = refl

kept-trailing : (ys : List Node) (f : ArrayFields) → (comma_kept ys f).trailing ≡ f.trailing
kept-trailing [] f = refl
kept-trailing (y ∷ ys) f = refl

filled-after : (r : Raw) (i : ℕ) (xs : List Node) → suc i < length xs → is_empty (changed_at i (with_prefix r) (removed_at i xs)) ≡ false
filled-after r i [] h = absurd (omega (arith, h))
filled-after r zero (n ∷ []) h = absurd (omega (arith, h))
filled-after r zero (n ∷ m ∷ ns) h = refl
filled-after r (suc i) (n ∷ ns) h = refl

either-right : (a b : Bool) → b ≡ true → (a || b) ≡ true
either-right true b h = refl
either-right false b h = h

-- ---- the texts around a new value

newline-begins : (t : Text) → BeginsLine (begun_newline t)
newline-begins [] = ([], inl refl)
newline-begins (c ∷ t) = by_test (c == carriage_return)
  where
    by_test : (b : Bool) → BeginsLine (if b then carriage_return ∷ newline else newline)
    by_test true = ([], inr refl)
    by_test false = ([], inl refl)

newlines-begin : (ts : List Text) → BeginsLine (newline_in ts)
newlines-begin [] = ([], inl refl)
newlines-begin (t ∷ ts) = by_test (is_broken t) (newlines-begin ts)
  where
    by_test : (b : Bool) → BeginsLine (newline_in ts) → BeginsLine (if b then first_newline t else newline_in ts)
    by_test true ih = newline-begins (after_first_line t)
    by_test false ih = ih

lines-begin : (end indent : Text) (ls : List Text) → BeginsLine end → BeginsLine (flat_map (moved end indent) ls ++ (end ++ indent))
lines-begin end indent [] h = begins-more end indent h
lines-begin end indent (l ∷ ls) h =
    begins-more (moved end indent l ++ flat_map (moved end indent) ls) (end ++ indent)
    (begins-more (moved end indent l) (flat_map (moved end indent) ls) (begins-more end _ h))

record Around (i : ℕ) (v : Node) (f : ArrayFields) (xs : List Node) (g : Text) : Type 0 where
  above : Text
  after : Text
  begins : BeginsLine above
  before_is : (gaps_around i (node_decor v) f xs).0 ≡ first_line g ++ above
  after_is : (gaps_around i (node_decor v) f xs).1 ≡ after ++ after_first_line g

-- a gap that has a newline is as it is
lines-around : (i : ℕ) (v : Node) (f : ArrayFields) (xs : List Node) → is_broken (gap i f xs) ≡ true → (g : Text) → gap i f xs ≡ g → Around i v f xs g
lines-around i v f xs broken g same =
    let t = gap i f xs in
    let end = newline_at t f xs in
    let indent = indent_at i xs in
    let above = text_above end indent (node_decor v) in
    let after = text_after end indent (node_decor v) in
    let h = broken_gap t end indent (not (nat_lt i (length xs))) in
    let h-is : h ≡ g = if-true (is_broken t) t (end ++ (if not (nat_lt i (length xs)) then [] else indent)) broken ∙ same in
    let takes : takes_lines t above after ≡ true = ap (λ b. b || (not (is_empty above) || not (is_empty after))) broken in
    let pair : gaps_around i (node_decor v) f xs ≡ (first_line h ++ (above ++ (end ++ indent)), after ++ after_first_line h) =
    if-true (takes_lines t above after) (first_line h ++ (above ++ (end ++ indent)), after ++ after_first_line h) (gaps_on_line i t (end ++ indent) xs) takes in
    record {
      above = above ++ (end ++ indent);
      after = after;
      begins = lines-begin end indent (lines_above (lines (side_text (node_decor v).prefix))) (newlines-begin (t ∷ (prefixes xs ++ (last_suffix f xs ∷ side_text (Some f.trailing) ∷ []))));
      before_is = ap (λ (p : Text × Text). p.0) pair ∙ ap (λ x. first_line x ++ (above ++ (end ++ indent))) h-is;
      after_is = ap (λ (p : Text × Text). p.1) pair ∙ ap (λ x. after ++ after_first_line x) h-is;
    }

module _ (mode : Mode) where
  bracketed : (v : Text) (f g : ArrayFields) (xs ys : List Node) → AreValues xs → AreValues ys
      → HasLinesMore v (body mode f.comma (shown_raw mode f.trailing) xs true) (body mode g.comma (shown_raw mode g.trailing) ys true)
      → HasLinesMore v (text_of mode (list f (items_from xs))) (text_of mode (list g (items_from ys)))
  bracketed v f g xs ys are also h =
      subst (λ t. HasLinesMore v t (text_of mode (list g (items_from ys)))) (sym (array-text mode f xs are))
      (subst (λ t. HasLinesMore v (codes "[" ++ (body mode f.comma (shown_raw mode f.trailing) xs true ++ codes "]")) t) (sym (array-text mode g ys also))
      (longer-front v _ _ (codes "[") (longer-back v _ _ (codes "]") h)))

  kept-body : (ys : List Node) (f : ArrayFields) (t : Text) → f.comma ≡ true
      → body mode (comma_kept ys f).comma t ys true ≡ body mode true t ys true
  kept-body [] f t c = refl
  kept-body (y ∷ ys) f t c = ap (λ b. body mode b t (y ∷ ys) true) c

  -- ---- removal

  removed-within : (f : ArrayFields) (xs : List Node) (i : ℕ) → AreValues xs → suc i < length xs
      → is_broken (gap i f xs) ≡ true → is_broken (gap (suc i) f xs) ≡ true
      → (v : Text) × HasLinesMore v (text_of mode (list (fields_removed i f xs) (items_from (line_removed i f xs)))) (text_of mode (list f (items_from xs)))
  removed-within f xs i are inside before after =
      let here = is-below i (length xs) (omega (arith, inside)) in
      let next = is-below (suc i) (length xs) inside in
      let a = gap-within f xs i here before in
      let b = gap-within f xs (suc i) next after in
      let r = owned (cut a.text b.text) in
      let left : gap_left i f xs ≡ cut a.text b.text =
      ap (λ l. (if l then last_suffix f (removed_at i xs) else []) ++ left_of (gap i f xs) (gap (suc i) f xs) (i == 0) l) (ap not next)
      ∙ ap (λ t. left_of t (gap (suc i) f xs) (i == 0) false) a.same ∙ ap (λ t. left_of a.text t (i == 0) false) b.same
      ∙ left-cut a.text b.text (i == 0) false a.broken b.broken in
      let shorter = length-remove xs i (omega (arith, inside)) in
      let there = is-below i (length (removed_at i xs)) (omega (arith, inside, shorter)) in
      let ys = changed_at i (with_prefix r) (removed_at i xs) in
      let shown : line_removed i f xs ≡ ys =
      ap (λ t. with_gap i (owned t) f (removed_at i xs)) left
      ∙ if-true (nat_lt i (length (removed_at i xs))) ys (if is_closed f (removed_at i xs) then removed_at i xs else changed_at (length (removed_at i xs) - 1) (with_suffix r) (removed_at i xs)) there in
      let fields : fields_removed i f xs ≡ f =
      ap (λ zs. comma_kept zs (fields_with_gap i (owned (gap_left i f xs)) f (removed_at i xs))) shown
      ∙ ap (comma_kept ys) (if-true (nat_lt i (length (removed_at i xs))) f (record f { trailing = if is_closed f (removed_at i xs) then owned (gap_left i f xs) else owned [] }) there)
      ∙ kept-fields ys f (filled-after r i xs inside) in
      let less = less-within mode f.comma (shown_raw mode f.trailing) xs i true a.text b.text are a.is b.is a.broken b.broken in (
        less.0,
        subst (λ g. HasLinesMore less.0 (text_of mode (list g (items_from (line_removed i f xs)))) (text_of mode (list f (items_from xs)))) (sym fields)
            (subst (λ zs. HasLinesMore less.0 (text_of mode (list f (items_from zs))) (text_of mode (list f (items_from xs)))) (sym shown)
            (bracketed less.0 f f ys xs (values-changed r i (removed_at i xs) (values-removed i xs are)) are less.1)),
      )

  removed-at-end : (f : ArrayFields) (xs : List Node) (i : ℕ) → AreValues xs → suc i ≡ length xs → f.comma ≡ true
      → is_broken (gap i f xs) ≡ true → is_broken (gap (suc i) f xs) ≡ true
      → (v : Text) × HasLinesMore v (text_of mode (list (fields_removed i f xs) (items_from (line_removed i f xs)))) (text_of mode (list f (items_from xs)))
  removed-at-end f xs i are last comma before after =
      let here = is-below i (length xs) (omega (arith, last)) in
      let past = at-most-not (suc i) (length xs) (omega (arith, last)) in
      let a = gap-within f xs i here before in
      let b = gap-at-end f xs (suc i) past comma after in
      let r = owned (cut a.text b.text) in
      let less-one = removed_at i xs in
      let left : gap_left i f xs ≡ cut a.text b.text =
      ap (λ l. (if l then last_suffix f less-one else []) ++ left_of (gap i f xs) (gap (suc i) f xs) (i == 0) l) (ap not past)
      ∙ ap (λ t. t ++ left_of (gap i f xs) (gap (suc i) f xs) (i == 0) true) (no-suffix f xs less-one comma)
      ∙ ap (λ t. left_of t (gap (suc i) f xs) (i == 0) true) a.same ∙ ap (λ t. left_of a.text t (i == 0) true) b.same
      ∙ left-cut a.text b.text (i == 0) true a.broken b.broken in
      let shorter = length-remove xs i (omega (arith, last)) in
      let there = at-most-not i (length less-one) (omega (arith, last, shorter)) in
      let closed : is_closed f less-one ≡ true = ap (λ c. c || is_none (value_at (length less-one - 1) less-one)) comma in
      let shown : line_removed i f xs ≡ less-one =
      if-false (nat_lt i (length less-one)) (changed_at i (with_prefix (owned (gap_left i f xs))) less-one) (if is_closed f less-one then less-one else changed_at (length less-one - 1) (with_suffix (owned (gap_left i f xs))) less-one) there
      ∙ if-true (is_closed f less-one) less-one (changed_at (length less-one - 1) (with_suffix (owned (gap_left i f xs))) less-one) closed in
      let g : ArrayFields = record f { trailing = r } in
      let fields : fields_removed i f xs ≡ comma_kept less-one g =
      ap (λ zs. comma_kept zs (fields_with_gap i (owned (gap_left i f xs)) f less-one)) shown
      ∙ ap (comma_kept less-one) (if-false (nat_lt i (length less-one)) f (record f { trailing = if is_closed f less-one then owned (gap_left i f xs) else owned [] }) there
      ∙ ap (λ c. record f { trailing = if c then owned (gap_left i f xs) else owned [] }) closed ∙ ap (λ t. record f { trailing = owned t }) left) in
      let less = less-at-end mode xs i true a.text b.text are a.is last a.broken b.broken in
      let new : body mode (comma_kept less-one g).comma (shown_raw mode (comma_kept less-one g).trailing) less-one true
      ≡ body mode true (shown_text mode (cut a.text b.text)) less-one true =
      ap (λ t. body mode (comma_kept less-one g).comma (shown_raw mode t) less-one true) (kept-trailing less-one g)
      ∙ kept-body less-one g (shown_raw mode r) comma in
      let old : body mode f.comma (shown_raw mode f.trailing) xs true ≡ body mode true (shown_text mode b.text) xs true =
      ap (λ c. body mode c (shown_raw mode f.trailing) xs true) comma
      ∙ ap (λ t. body mode true (shown_raw mode t) xs true) (raw-is f.trailing b.text b.is) in (
        less.0,
        subst (λ h. HasLinesMore less.0 (text_of mode (list h (items_from (line_removed i f xs)))) (text_of mode (list f (items_from xs)))) (sym fields)
            (subst (λ zs. HasLinesMore less.0 (text_of mode (list (comma_kept less-one g) (items_from zs))) (text_of mode (list f (items_from xs)))) (sym shown)
            (bracketed less.0 (comma_kept less-one g) f less-one xs (values-removed i xs are) are
            (subst (λ t. HasLinesMore less.0 t (body mode f.comma (shown_raw mode f.trailing) xs true)) (sym new)
            (subst (λ t. HasLinesMore less.0 (body mode true (shown_text mode (cut a.text b.text)) less-one true) t) (sym old) less.1)))),
      )

  either : (a b : Bool) → (a || b) ≡ true → b ≡ false → a ≡ true
  either true b h e = refl
  either false b h e = absurd cc

  pub removed-lines : RemovedLines mode
  removed-lines f xs i are inside comma before after =
      elim (cases_Bool (nat_lt (suc i) (length xs))) [
        | inl more ↦ removed-within f xs i are (ltb-true (suc i) (length xs) more) before after
        | inr last ↦
            let past = not-below (suc i) (length xs) last in
            removed-at-end f xs i are (omega (arith, inside, past)) (either f.comma (nat_lt (suc i) (length xs)) comma last) before after
      ]

  -- ---- insertion

  inserted-within : (f : ArrayFields) (xs : List Node) (v : Node) (i : ℕ) → AreValues xs → is_value_node v ≡ true → i < length xs
      → is_broken (gap i f xs) ≡ true
      → HasLinesMore (text_of mode v) (text_of mode (list f (items_from xs)))
      (text_of mode (list (fields_inserted i v f xs) (items_from (line_inserted i v f xs))))
  inserted-within f xs v i are value inside broken =
      let here = is-below i (length xs) inside in
      let a = gap-within f xs i here broken in
      let e = lines-around i v f xs broken a.text a.same in
      let p = placed (owned (first_line a.text ++ e.above)) v in
      let r = owned (e.after ++ after_first_line a.text) in
      let with = inserted_at i p xs in
      let placed-there : with_line i v f xs ≡ with =
      ap (λ t. inserted_at i (placed (owned t) v) (followed i f xs)) e.before_is
      ∙ ap (λ zs. inserted_at i p zs) (if-true (f.comma || nat_lt i (length xs)) xs (changed_at (length xs - 1) (with_suffix (owned [])) xs) (either-right f.comma (nat_lt i (length xs)) here)) in
      let longer = length-insert xs i p (omega (arith, inside)) in
      let there = is-below (suc i) (length with) (omega (arith, inside, longer)) in
      let ys = changed_at (suc i) (with_prefix r) with in
      let shown : line_inserted i v f xs ≡ ys =
      ap (λ t. with_gap (suc i) (owned t) f (with_line i v f xs)) e.after_is
      ∙ ap (with_gap (suc i) r f) placed-there
      ∙ if-true (nat_lt (suc i) (length with)) ys (if is_closed f with then with else changed_at (length with - 1) (with_suffix r) with) there in
      let fields : fields_inserted i v f xs ≡ f =
      ap (λ t. fields_with_gap (suc i) (owned t) f (with_line i v f xs)) e.after_is
      ∙ ap (fields_with_gap (suc i) r f) placed-there
      ∙ if-true (nat_lt (suc i) (length with)) f (record f { trailing = if is_closed f with then r else owned [] }) there in
      let more = more-within mode v value a.text e.above e.after a.broken e.begins f.comma (shown_raw mode f.trailing) xs i true are a.is in
      subst (λ g. HasLinesMore (text_of mode v) (text_of mode (list f (items_from xs))) (text_of mode (list g (items_from (line_inserted i v f xs))))) (sym fields)
      (subst (λ zs. HasLinesMore (text_of mode v) (text_of mode (list f (items_from xs))) (text_of mode (list f (items_from zs)))) (sym shown)
      (bracketed (text_of mode v) f f xs ys are (values-changed r (suc i) with (values-inserted (owned (first_line a.text ++ e.above)) v i xs are value)) more))

  inserted-at-end : (f : ArrayFields) (xs : List Node) (v : Node) (i : ℕ) → AreValues xs → is_value_node v ≡ true → i ≡ length xs → f.comma ≡ true
      → is_broken (gap i f xs) ≡ true
      → HasLinesMore (text_of mode v) (text_of mode (list f (items_from xs)))
      (text_of mode (list (fields_inserted i v f xs) (items_from (line_inserted i v f xs))))
  inserted-at-end f xs v i are value last comma broken =
      let past = at-most-not i (length xs) (omega (arith, last)) in
      let a = gap-at-end f xs i past comma broken in
      let e = lines-around i v f xs broken a.text a.same in
      let p = placed (owned (first_line a.text ++ e.above)) v in
      let r = owned (e.after ++ after_first_line a.text) in
      let with = inserted_at i p xs in
      let placed-there : with_line i v f xs ≡ with =
      ap (λ t. inserted_at i (placed (owned t) v) (followed i f xs)) e.before_is
      ∙ ap (λ zs. inserted_at i p zs) (if-true (f.comma || nat_lt i (length xs)) xs (changed_at (length xs - 1) (with_suffix (owned [])) xs) (ap (λ c. c || nat_lt i (length xs)) comma)) in
      let longer = length-insert xs i p (omega (arith, last)) in
      let there = at-most-not (suc i) (length with) (omega (arith, last, longer)) in
      let closed : is_closed f with ≡ true = ap (λ c. c || is_none (value_at (length with - 1) with)) comma in
      let shown : line_inserted i v f xs ≡ with =
      ap (λ t. with_gap (suc i) (owned t) f (with_line i v f xs)) e.after_is
      ∙ ap (with_gap (suc i) r f) placed-there
      ∙ if-false (nat_lt (suc i) (length with)) (changed_at (suc i) (with_prefix r) with) (if is_closed f with then with else changed_at (length with - 1) (with_suffix r) with) there
      ∙ if-true (is_closed f with) with (changed_at (length with - 1) (with_suffix r) with) closed in
      let g : ArrayFields = record f { trailing = r } in
      let fields : fields_inserted i v f xs ≡ g =
      ap (λ t. fields_with_gap (suc i) (owned t) f (with_line i v f xs)) e.after_is
      ∙ ap (fields_with_gap (suc i) r f) placed-there
      ∙ if-false (nat_lt (suc i) (length with)) f (record f { trailing = if is_closed f with then r else owned [] }) there
      ∙ ap (λ c. record f { trailing = if c then r else owned [] }) closed in
      let old : body mode f.comma (shown_raw mode f.trailing) xs true ≡ body mode true (shown_text mode a.text) xs true =
      ap (λ c. body mode c (shown_raw mode f.trailing) xs true) comma
      ∙ ap (λ t. body mode true (shown_raw mode t) xs true) (raw-is f.trailing a.text a.is) in
      let new : body mode g.comma (shown_raw mode g.trailing) with true ≡ body mode true (shown_raw mode r) (inserted_at (length xs) p xs) true =
      ap (λ c. body mode c (shown_raw mode r) with true) comma
      ∙ ap (λ n. body mode true (shown_raw mode r) (inserted_at n p xs) true) last in
      let more = more-at-end mode v value a.text e.above e.after a.broken e.begins xs true in
      subst (λ h. HasLinesMore (text_of mode v) (text_of mode (list f (items_from xs))) (text_of mode (list h (items_from (line_inserted i v f xs))))) (sym fields)
      (subst (λ zs. HasLinesMore (text_of mode v) (text_of mode (list f (items_from xs))) (text_of mode (list g (items_from zs)))) (sym shown)
      (bracketed (text_of mode v) f g xs with are (values-inserted (owned (first_line a.text ++ e.above)) v i xs are value)
      (subst (λ t. HasLinesMore (text_of mode v) t (body mode g.comma (shown_raw mode g.trailing) with true)) (sym old)
      (subst (λ t. HasLinesMore (text_of mode v) (body mode true (shown_text mode a.text) xs true) t) (sym new) more))))

  pub inserted-lines : InsertedLines mode
  inserted-lines f xs v i are value within comma broken =
      elim (cases_Bool (nat_lt i (length xs))) [
        | inl more ↦ inserted-within f xs v i are value (ltb-true i (length xs) more) broken
        | inr last ↦
            let past = not-below i (length xs) last in
            inserted-at-end f xs v i are value (omega (arith, within, past)) (either f.comma (nat_lt i (length xs)) comma last) broken
      ]
