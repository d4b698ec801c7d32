-- The first line of a text, and what follows it.
use Rattle.std.proofs.Common.{◌≡◌, ◌∙◌, refl, sym, ap, subst, ℕ, suc, Bool, true, false, [], ◌∷◌, ◌++◌, length, drop, take, inl, inr, arith, ◌+◌}
use Rattle.std.specs.Prelude.{◌||◌, ◌==◌, not, if◌then◌else◌}
use Rattle.std.specs.List.{before_first, prefix_len}
use Rattle.std.proofs.lemmas.Bool.{eqb-true}
use Rattle.std.proofs.Math.Seq.{drop-append_seam}
use Rattle.toml_edit_model.specs.Comments.{after_first_line, first_line}
use Rattle.toml_edit_model.specs.Mode.{Mode, plain, exact, but_last, ends_in_return, line_end, shown_text}
use Rattle.toml_edit_model.specs.Text.{Text, carriage_return, line_feed}
use Rattle.toml_edit_tree.specs.ArrayLines.{is_broken}
use Rattle.toml_edit_edits.specs.LinesStay.{BeginsLine}
use Rattle.std.proofs.lemmas.List.Elements.{filter-append}

pub begins-more : (t u : Text) → BeginsLine t → BeginsLine (t ++ u)
begins-more t u (r, inl e) = (r ++ u, inl (ap (λ x. x ++ u) e))
begins-more t u (r, inr e) = (r ++ u, inr (ap (λ x. x ++ u) e))

pub begins-shown : (mode : Mode) (t : Text) → BeginsLine t → BeginsLine (shown_text mode t)
begins-shown exact t h = h
begins-shown plain t (r, inl e) = (shown_text plain r, inl (ap (shown_text plain) e))
begins-shown plain t (r, inr e) = (shown_text plain r, inl (ap (shown_text plain) e))

pub shown-append : (mode : Mode) (t u : Text) → shown_text mode (t ++ u) ≡ shown_text mode t ++ shown_text mode u
shown-append exact t u = refl
shown-append plain t u = filter-append (λ c. not (c == carriage_return)) t u

-- a text taken apart after its first line
record Split (t : Text) : Type 0 where
  line : Text
  rest : Text
  is : t ≡ line ++ rest
  first : first_line t ≡ line
  begins : BeginsLine rest

abbrev up_to_feed : Text → Text
up_to_feed t = before_first (λ c. c == line_feed) t

at-feed : (c : ℕ) (t : Text) → (c == line_feed) ≡ true → up_to_feed (c ∷ t) ≡ []
at-feed c t e = rw e refl

past-feed : (c : ℕ) (t : Text) → (c == line_feed) ≡ false → up_to_feed (c ∷ t) ≡ c ∷ up_to_feed t
past-feed c t e = rw e (ap (λ k. take k (c ∷ t)) (one-more (prefix_len (λ x. not (x == line_feed)) t)))
  where
    one-more : (n : ℕ) → 1 + n ≡ suc n
    one-more n = omega arith

split : (t : Text) → is_broken t ≡ true → Split t
split [] h = absurd cc
split (c ∷ []) h = by_test (c == line_feed) refl h
  where
    by_test : (b : Bool) → (c == line_feed) ≡ b → (b || false) ≡ true → Split (c ∷ [])
    by_test true e h =
        record {
          line = [];
          rest = c ∷ [];
          is = refl;
          first = ap (line_end exact) (at-feed c [] e);
          begins = ([], inl (ap (λ x. x ∷ []) (eqb-true c line_feed e)));
        }
    by_test false e h = absurd cc
split (c ∷ d ∷ t) h = by_test (c == line_feed) refl h (split (d ∷ t))
  where
    by_return : (b : Bool) → (c == carriage_return) ≡ b → (c == line_feed) ≡ false → (d == line_feed) ≡ true → Split (c ∷ d ∷ t)
    by_return true r e g =
        record {
          line = [];
          rest = c ∷ d ∷ t;
          is = refl;
          first = ap (line_end exact) (past-feed c (d ∷ t) e ∙ ap (λ x. c ∷ x) (at-feed d t g)) ∙ rw r refl;
          begins = (t, inr (ap (λ x. x ∷ d ∷ t) (eqb-true c carriage_return r) ∙ ap (λ x. carriage_return ∷ x ∷ t) (eqb-true d line_feed g)));
        }
    by_return false r e g =
        record {
          line = c ∷ [];
          rest = d ∷ t;
          is = refl;
          first = ap (line_end exact) (past-feed c (d ∷ t) e ∙ ap (λ x. c ∷ x) (at-feed d t g)) ∙ rw r refl;
          begins = (t, inl (ap (λ x. x ∷ t) (eqb-true d line_feed g)));
        }

    longer : (b : Bool) (w : Text) → (if b then but_last (c ∷ d ∷ w) else c ∷ d ∷ w) ≡ c ∷ (if b then but_last (d ∷ w) else d ∷ w)
    longer true w = refl
    longer false w = refl

    by_next : (b : Bool) → (d == line_feed) ≡ b → (c == line_feed) ≡ false → Split (d ∷ t) → Split (c ∷ d ∷ t)
    by_next true g e s = by_return (c == carriage_return) refl e g
    by_next false g e s =
        record {
          line = c ∷ s.line;
          rest = s.rest;
          is = ap (λ x. c ∷ x) s.is;
          first = ap (line_end exact) (past-feed c (d ∷ t) e ∙ ap (λ x. c ∷ x) (past-feed d t g))
              ∙ longer (ends_in_return (d ∷ up_to_feed t)) (up_to_feed t)
              ∙ ap (λ x. c ∷ x) (sym (ap (line_end exact) (past-feed d t g)) ∙ s.first);
          begins = s.begins;
        }

    by_test : (b : Bool) → (c == line_feed) ≡ b → (b || is_broken (d ∷ t)) ≡ true → (is_broken (d ∷ t) ≡ true → Split (d ∷ t)) → Split (c ∷ d ∷ t)
    by_test true e h ih =
        record {
          line = [];
          rest = c ∷ d ∷ t;
          is = refl;
          first = ap (line_end exact) (at-feed c (d ∷ t) e);
          begins = (d ∷ t, inl (ap (λ x. x ∷ d ∷ t) (eqb-true c line_feed e)));
        }
    by_test false e h ih = by_next (d == line_feed) refl e (ih h)

rest-is : (t : Text) (s : Split t) → after_first_line t ≡ s.rest
rest-is t s =
    ap (λ x. drop (length x) t) s.first ∙ ap (drop (length s.line)) s.is ∙ drop-append_seam s.line s.rest

pub cut-line : (t : Text) → is_broken t ≡ true → first_line t ++ after_first_line t ≡ t
cut-line t h =
    let s = split t h in
    ap (λ x. x ++ after_first_line t) s.first ∙ ap (λ x. s.line ++ x) (rest-is t s) ∙ sym s.is

pub rest-begins : (t : Text) → is_broken t ≡ true → BeginsLine (after_first_line t)
rest-begins t h = let s = split t h in subst BeginsLine (sym (rest-is t s)) s.begins
