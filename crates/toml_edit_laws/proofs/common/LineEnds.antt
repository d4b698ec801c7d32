-- Where a statement ends: its suffix as it is read and shown, the end of its line, and its newline.
use Rattle.std.proofs.Common.{◌≡◌, refl, sym, ◌∙◌, ap, subst, ℕ, Bool, true, false, [], ◌∷◌, ◌++◌, append_assoc, ◌⊎◌, inl, inr}
use Rattle.std.specs.Prelude.{◌&&◌, not, ◌==◌, if◌then◌else◌}
use Rattle.std.specs.List.{list_all}
use Rattle.std.proofs.lemmas.Bool.Decides.{Decides-eqb}
use Rattle.toml_edit_model.specs.Text.{Text, newline, carriage_return}
use Rattle.toml_edit_model.specs.Mode.{Mode, plain, exact, shown_text, ends_in_return, but_last, line_end, line_newline, with_return}
use Rattle.toml_edit_model.specs.Trivia.{is_blank, is_visible, IsLineEnd, IsOpenComment, IsNewline, lf, crlf}
use Rattle.toml_edit_model.specs.Normal.{normal_end}
use Rattle.toml_edit_laws.proofs.common.Tests.{append-nil, and_left, and_right}

-- ---- no CR ends the end of a line

abbrev no_return : Text → Bool
no_return t = list_all (λ c. not (c == carriage_return)) t

no-return-end : (t : Text) → no_return t ≡ true → ends_in_return t ≡ false
no-return-end [] h = refl
no-return-end (c ∷ []) h = by_test (c == carriage_return) (and_left (not (c == carriage_return)) true h)
  where
    by_test : (b : Bool) → not b ≡ true → b ≡ false
    by_test true h = sym h
    by_test false h = refl
no-return-end (c ∷ d ∷ t) h = no-return-end (d ∷ t) (and_right (not (c == carriage_return)) (no_return (d ∷ t)) h)

no-return-append : (t u : Text) → no_return t ≡ true → no_return u ≡ true → no_return (t ++ u) ≡ true
no-return-append [] u h g = g
no-return-append (c ∷ t) u h g =
    ap (λ b. b && no_return (t ++ u)) (and_left (not (c == carriage_return)) (no_return t) h)
    ∙ no-return-append t u (and_right (not (c == carriage_return)) (no_return t) h) g

each-no-return : (p : ℕ → Bool) → p carriage_return ≡ false → (t : Text) → list_all p t ≡ true → no_return t ≡ true
each-no-return p none [] h = refl
each-no-return p none (c ∷ t) h =
    ap (λ b. not b && no_return t) (apart (c == carriage_return) refl)
    ∙ each-no-return p none t (and_right (p c) (list_all p t) h)
  where
    apart : (b : Bool) → (c == carriage_return) ≡ b → b ≡ false
    apart false e = refl
    apart true e =
        let clash : true ≡ false = sym (and_left (p c) (list_all p t) h) ∙ ap p ((Decides-eqb c carriage_return).0 e) ∙ none in
        cc

comment-no-return : (t : Text) → IsOpenComment t → no_return t ≡ true
comment-no-return t (inl e) = ap no_return e
comment-no-return t (inr (body, h, e)) = ap no_return e ∙ each-no-return is_visible refl body h

line-end-closed : (t : Text) → IsLineEnd t → ends_in_return t ≡ false
line-end-closed t (white, rest, w, r, e) =
    ap ends_in_return e
    ∙ no-return-end (white ++ rest) (no-return-append white rest (each-no-return is_blank refl white w) (comment-no-return rest r))

-- ---- a suffix as it is read, shown and ended

but-last-snoc : (t : Text) (c : ℕ) → but_last (t ++ (c ∷ [])) ≡ t
but-last-snoc [] c = refl
but-last-snoc (d ∷ []) c = refl
but-last-snoc (d ∷ e ∷ t) c = ap (λ u. d ∷ u) (but-last-snoc (e ∷ t) c)

ends-snoc : (t : Text) → ends_in_return (t ++ (carriage_return ∷ [])) ≡ true
ends-snoc [] = refl
ends-snoc (d ∷ []) = refl
ends-snoc (d ∷ e ∷ t) = ends-snoc (e ∷ t)

abbrev pub IsEnd : Text → Type 0
IsEnd end = IsNewline end ⊎ (end ≡ [])

-- the end of the line and the newline that a read suffix is printed as
pub record IsEndedAs (mode : Mode) (t end : Text) : Type 0 where
  pub trailing : line_end mode (shown_text mode (with_return mode t end)) ≡ shown_text mode t
  pub newline : line_newline mode (shown_text mode (with_return mode t end)) ≡ normal_end mode end

exact-open : (t end : Text) → ends_in_return t ≡ false → but_last end ≡ [] → normal_end exact end ≡ newline → IsEndedAs exact t end
exact-open t end closed none ends =
    let same : t ++ but_last end ≡ t = ap (λ u. t ++ u) none ∙ append-nil t in
    record {
      trailing = ap (line_end exact) same ∙ ap (λ b. if b then but_last t else t) closed;
      newline = ap (line_newline exact) same ∙ ap (λ b. if b then carriage_return ∷ newline else newline) closed ∙ sym ends;
    }

pub ended : (mode : Mode) (t end : Text) → IsLineEnd t → IsEnd end → IsEndedAs mode t end
ended plain t end h g = record { trailing = refl; newline = refl }
ended exact t end h (inl (lf, e)) = subst (IsEndedAs exact t) (sym e) (exact-open t newline (line-end-closed t h) refl refl)
ended exact t end h (inl (crlf, e)) =
    subst (IsEndedAs exact t) (sym e)
    (record {
      trailing = ap (λ b. if b then but_last (t ++ (carriage_return ∷ [])) else t ++ (carriage_return ∷ [])) (ends-snoc t)
          ∙ but-last-snoc t carriage_return;
      newline = ap (λ b. if b then carriage_return ∷ newline else newline) (ends-snoc t);
    })
ended exact t end h (inr e) = subst (IsEndedAs exact t) (sym e) (exact-open t [] (line-end-closed t h) refl refl)

-- ---- the suffix and the newline, as they are printed

last-kept : (t : Text) → ends_in_return t ≡ true → but_last t ++ (carriage_return ∷ []) ≡ t
last-kept [] h = absurd cc
last-kept (c ∷ []) h = ap (λ d. d ∷ []) (sym ((Decides-eqb c carriage_return).0 h))
last-kept (c ∷ d ∷ t) h = ap (λ u. c ∷ u) (last-kept (d ∷ t) h)

-- they are the suffix and LF
pub end-and-newline : (mode : Mode) (t : Text) → line_end mode t ++ line_newline mode t ≡ t ++ newline
end-and-newline plain t = refl
end-and-newline exact t = by_test (ends_in_return t) refl
  where
    by_test : (b : Bool) → ends_in_return t ≡ b
        → (if b then but_last t else t) ++ (if b then carriage_return ∷ newline else newline) ≡ t ++ newline
    by_test true e = sym (append_assoc (but_last t) (carriage_return ∷ []) newline) ∙ ap (λ u. u ++ newline) (last-kept t e)
    by_test false e = refl

-- the newline is one
pub newline-is : (mode : Mode) (t : Text) → IsNewline (line_newline mode t)
newline-is plain t = (lf, refl)
newline-is exact t = by_test (ends_in_return t)
  where
    by_test : (b : Bool) → IsNewline (if b then carriage_return ∷ newline else newline)
    by_test true = (crlf, refl)
    by_test false = (lf, refl)
