-- Brackets laid out again: commas, and what is after the last member and before the bracket.
use Rattle.std.proofs.Common.{◌≡◌, refl, sym, ap, ◌∙◌, ℕ, suc, Bool, true, false, [], ◌∷◌, ◌++◌, append-nil, inl, inr}
use Rattle.std.specs.Prelude.{◌⊎◌, ◌&&◌, ◌||◌, ◌==◌, not, if◌then◌else◌}
use Rattle.std.specs.List.{before_first}
use Rattle.std.proofs.lemmas.Bool.{cases_Bool}
use Rattle.std.proofs.lemmas.List.Folds.{list_any-append}
use Rattle.toml_edit_model.specs.Comments.{comments}
use Rattle.toml_edit_model.specs.Mode.{exact, holds_return}
use Rattle.toml_edit_model.specs.Paths.{Path}
use Rattle.toml_edit_model.specs.Print.{one_space}
use Rattle.toml_edit_model.specs.Syntax.{IsClose}
use Rattle.toml_edit_model.specs.Text.{Text, is_empty, line_feed, carriage_return, newline}
use Rattle.toml_edit_model.specs.Trivia.{IsWholeTrivia}
use Rattle.toml_edit_laws.proofs.accepted_prints.PrintedValues.{whole-append}
use Rattle.toml_edit_laws.proofs.common.Tests.{and_left, and_right, or-true, or-false, or-left}
use Rattle.toml_edit_laws.proofs.common.Trivia.{close-trivia}
use Rattle.toml_edit_fmt_laws.specs.Rules.{Rules, Commas, commas_stay, always, never}
use Rattle.toml_edit_fmt_laws.specs.Laying.{is_broken, gap, beside, line_break, before_comma, usual_pad}
use Rattle.toml_edit_fmt_laws.specs.Formatted.{Layout, untouched, on_one_line, line_by_line, in_rows, has_comments, open_comma, before_part, after_part, inside}
use Rattle.toml_edit_fmt_laws.proofs.GapLaws.{gap-again, gap-comments, comma-again, comma-comments}
use Rattle.toml_edit_fmt_laws.proofs.Remarked.{comma-none, no-comments}

comma-twice : (c : Commas) (has comma : Bool) (s u : Text) → ((comma && has_comments s) ≡ true → has_comments u ≡ has_comments s)
    → open_comma c has (open_comma c has comma s) u ≡ open_comma c has comma s
comma-twice commas_stay has comma s u f = refl
comma-twice always has comma s u f = refl
comma-twice never has comma s u f =
    elim (cases_Bool (comma && has_comments s)) [
      | inl e ↦ ap (λ b. b && has_comments u) e ∙ f e ∙ and_right comma _ e ∙ sym e
      | inr e ↦ ap (λ b. b && has_comments u) e ∙ sym e
    ]

module _ (r : Rules) where
  -- ---- a gap has a newline

  break-broken : (t : Text) → is_broken (line_break r t) ≡ true
  break-broken t = by_test (is_broken t) r.returns (holds_return exact (before_first (λ c. c == line_feed) t))
    where
      by_test : (b m n : Bool) → is_broken (if b then (if n then carriage_return ∷ newline else newline)
          else (if m then carriage_return ∷ newline else newline)) ≡ true
      by_test true m true = refl
      by_test true m false = refl
      by_test false true n = refl
      by_test false false n = refl

  broken-between : (a b c : Text) → is_broken b ≡ true → is_broken (a ++ (b ++ c)) ≡ true
  broken-between a b c h =
      list_any-append (λ x. x == line_feed) a (b ++ c)
      ∙ ap (λ x. is_broken a || x) (list_any-append (λ x. x == line_feed) b c ∙ ap (λ x. x || is_broken c) h)
      ∙ or-true (is_broken a)

  pub gap-broken : (k : ℕ) (s e : Bool) (depth last : ℕ) (t : Text) → is_broken (gap r k s e depth last t) ≡ true
  gap-broken k s e depth last t = broken-between (beside r k t) (line_break r t) _ (break-broken t)

  pub gap-has : (k : ℕ) (s e : Bool) (depth last : ℕ) (t : Text) → IsWholeTrivia t → has_comments (gap r k s e depth last t) ≡ has_comments t
  gap-has k s e depth last t h = ap (λ cs. not (is_empty cs)) (gap-comments r k s e depth last t h)

  -- ---- members

  pub before-again : (l : Layout) (k j : ℕ) (first : Bool) (depth : ℕ) (edge t : Text) → IsWholeTrivia t
      → before_part r l k first depth edge (before_part r l j first depth edge t) ≡ before_part r l k first depth edge t
  before-again untouched k j first depth edge t h = refl
  before-again on_one_line k j first depth edge t h = refl
  before-again line_by_line k j first depth edge t h = gap-again r k j first false (suc depth) (suc depth) t h
  before-again in_rows k j first depth edge t h = by_test (first || is_broken t) refl
    where
      laid : ℕ → Text → Text
      laid n u = gap r n first false (suc depth) (suc depth) u

      by_test : (b : Bool) → (first || is_broken t) ≡ b
          → (if first || is_broken (if b then laid j t else one_space) then laid k (if b then laid j t else one_space) else one_space)
          ≡ (if b then laid k t else one_space)
      by_test true e =
          ap (λ b. if first || b then laid k (laid j t) else one_space) (gap-broken j first false (suc depth) (suc depth) t)
          ∙ ap (λ b. if b then laid k (laid j t) else one_space) (or-true first)
          ∙ gap-again r k j first false (suc depth) (suc depth) t h
      by_test false e = ap (λ b. if b || false then laid k one_space else one_space) (or-left first (is_broken t) e)

  -- where a comma follows
  pub after-again : (l : Layout) (depth : ℕ) (t : Text) → IsWholeTrivia t
      → after_part r l true depth (after_part r l true depth t) ≡ after_part r l true depth t
  after-again untouched depth t h = refl
  after-again on_one_line depth t h = refl
  after-again line_by_line depth t h = comma-again r (suc depth) t h
  after-again in_rows depth t h = comma-again r (suc depth) t h

  -- before a comma there is nothing where no comment is
  pub nothing-before : (depth : ℕ) (s : Text) → comments s ≡ [] → before_comma r depth s ≡ []
  nothing-before depth s e = ap (λ cs. if is_empty cs then [] else gap r (usual_pad r.comments) false false depth depth s) e

  -- ---- the end of several lines, where a comma was or not, and is or not

  -- after the last member, before the bracket, and what is made of both again
  abbrev closes : ℕ → ℕ → Bool → Text → Text → Text
  closes k depth c s t = gap r k false true (suc depth) depth (if c || false then t else s ++ t)

  abbrev afters : ℕ → ℕ → Bool → Bool → Text → Text → Text
  afters k depth c d s t = (if c || false then before_comma r (suc depth) s else []) ++ (if d || false then [] else closes k depth c s t)

  abbrev ends : ℕ → ℕ → Bool → Bool → Text → Text → Text
  ends k depth c d s t = if d || false then closes k depth c s t else []

  record OpenAgain (k j depth : ℕ) (c d : Bool) (s t : Text) : Type 0 where
    close : ends k depth d d (afters j depth c d s t) (ends j depth c d s t) ≡ ends k depth c d s t
    after : afters k depth d d (afters j depth c d s t) (ends j depth c d s t) ≡ afters k depth c d s t
    both : (has_comments (afters j depth c d s t) || has_comments (ends j depth c d s t)) ≡ (has_comments s || has_comments t)
    last : c ≡ true → d ≡ true → has_comments (afters j depth c d s t) ≡ has_comments s

  open-again : (k j depth : ℕ) (c d : Bool) (s t : Text) → IsWholeTrivia s → IsWholeTrivia t → (c ≡ false → t ≡ [])
      → (c ≡ true → d ≡ false → comments s ≡ []) → OpenAgain k j depth c d s t
  open-again k j depth true true s t h g none f =
      let said : has_comments (before_comma r (suc depth) s ++ []) ≡ has_comments s =
      ap has_comments (append-nil (before_comma r (suc depth) s)) ∙ ap (λ cs. not (is_empty cs)) (comma-comments r (suc depth) s h) in
      record {
        close = gap-again r k j false true (suc depth) depth t g;
        after = ap (λ u. before_comma r (suc depth) u ++ []) (append-nil (before_comma r (suc depth) s))
            ∙ ap (λ u. u ++ []) (comma-again r (suc depth) s h);
        both = ap (λ b. b || has_comments (closes j depth true s t)) said
            ∙ ap (λ b. has_comments s || b) (gap-has j false true (suc depth) depth t g);
        last = λ p q. said;
      }
  open-again k j depth true false s t h g none f =
      let empty = nothing-before (suc depth) s (f refl refl) in
      record {
        close = refl;
        after = ap (λ u. gap r k false true (suc depth) depth ((u ++ closes j depth true s t) ++ [])) empty
            ∙ ap (gap r k false true (suc depth) depth) (append-nil (closes j depth true s t))
            ∙ gap-again r k j false true (suc depth) depth t g
            ∙ sym (ap (λ u. u ++ closes k depth true s t) empty);
        both = ap (λ u. has_comments (u ++ closes j depth true s t) || false) empty
            ∙ or-false (has_comments (closes j depth true s t))
            ∙ gap-has j false true (suc depth) depth t g
            ∙ sym (ap (λ cs. not (is_empty cs) || has_comments t) (f refl refl));
        last = λ p q. absurd (let clash : false ≡ true = q in cc);
      }
  open-again k j depth false true s t h g none f =
      record {
        close = gap-again r k j false true (suc depth) depth (s ++ t) (whole-append s t h g);
        after = refl;
        both = gap-has j false true (suc depth) depth (s ++ t) (whole-append s t h g) ∙ joined-has;
        last = λ p q. absurd (let clash : false ≡ true = p in cc);
      }
    where
      joined-has : has_comments (s ++ t) ≡ (has_comments s || has_comments t)
      joined-has =
          ap (λ u. has_comments (s ++ u)) (none refl) ∙ ap has_comments (append-nil s)
          ∙ sym (ap (λ u. has_comments s || has_comments u) (none refl) ∙ or-false (has_comments s))
  open-again k j depth false false s t h g none f =
      record {
        close = refl;
        after = ap (gap r k false true (suc depth) depth) (append-nil (closes j depth false s t))
            ∙ gap-again r k j false true (suc depth) depth (s ++ t) (whole-append s t h g);
        both = or-false (has_comments (closes j depth false s t))
            ∙ gap-has j false true (suc depth) depth (s ++ t) (whole-append s t h g) ∙ joined-has;
        last = λ p q. absurd (let clash : false ≡ true = p in cc);
      }
    where
      joined-has : has_comments (s ++ t) ≡ (has_comments s || has_comments t)
      joined-has =
          ap (λ u. has_comments (s ++ u)) (none refl) ∙ ap has_comments (append-nil s)
          ∙ sym (ap (λ u. has_comments s || has_comments u) (none refl) ∙ or-false (has_comments s))

  -- ---- the end of any list that has members

  -- what is after the last member, laid out
  abbrev pub after_last : Layout → Path → ℕ → Bool → ℕ → Bool → Text → Text → Text
  after_last l o depth space j comma s t = after_part r l (comma || false) depth s ++ (inside r l o depth true space j comma s t).last

  -- laid out with this pad after the other one it is as laid out with this one
  pub record EndsAgain (l : Layout) (o : Path) (depth : ℕ) (space : Bool) (k j : ℕ) (comma : Bool) (s t : Text) : Type 0 where
    pub comma_is :
        let x = inside r l o depth true space j comma s t in
        (inside r l o depth true space k x.comma (after_last l o depth space j comma s t) x.close).comma
        ≡ (inside r l o depth true space k comma s t).comma
    pub close :
        let x = inside r l o depth true space j comma s t in
        (inside r l o depth true space k x.comma (after_last l o depth space j comma s t) x.close).close
        ≡ (inside r l o depth true space k comma s t).close
    pub after :
        let x = inside r l o depth true space j comma s t in
        after_last l o depth space k x.comma (after_last l o depth space j comma s t) x.close ≡ after_last l o depth space k comma s t

  empty-close : (comma : Bool) (t : Text) → IsClose true comma t → comma ≡ false → t ≡ []
  empty-close true t h e = absurd (let clash : true ≡ false = e in cc)
  empty-close false t (w, inl i) e = absurd (let clash : true ≡ false = i in cc)
  empty-close false t (w, inr i) e = i

  open-ends : (k j depth : ℕ) (comma : Bool) (s t : Text) → IsWholeTrivia s → IsClose true comma t
      → OpenAgain k j depth comma (open_comma r.commas true comma s) s t
  open-ends k j depth comma s t h g =
      open-again k j depth comma (open_comma r.commas true comma s) s t h (close-trivia true comma t g) (empty-close comma t g)
      (λ e i. no-comments s (comma-none r.commas s (sym (ap (λ c. open_comma r.commas true c s) e) ∙ i)))

  open-comma-again : (j depth : ℕ) (comma : Bool) (s t : Text) → IsWholeTrivia s → IsClose true comma t
      → let d = open_comma r.commas true comma s in
      open_comma r.commas true d (afters j depth comma d s t) ≡ d
  open-comma-again j depth comma s t h g = by_kind r.commas refl
    where
      by_kind : (c : Commas) → r.commas ≡ c
          → open_comma c true (open_comma c true comma s) (afters j depth comma (open_comma r.commas true comma s) s t) ≡ open_comma c true comma s
      by_kind commas_stay e = refl
      by_kind always e = refl
      by_kind never e =
          comma-twice never true comma s (afters j depth comma (open_comma r.commas true comma s) s t)
          (λ q. (open-ends j j depth comma s t h g).last (and_left comma _ q) (ap (λ c. open_comma c true comma s) e ∙ q))

  pub ends-again : (l : Layout) (o : Path) (depth : ℕ) (space : Bool) (k j : ℕ) (comma : Bool) (s t : Text) → IsWholeTrivia s
      → IsClose true comma t → EndsAgain l o depth space k j comma s t
  ends-again untouched o depth space k j comma s t h g = record { comma_is = refl; close = refl; after = append-nil (s ++ []) }
  ends-again on_one_line o depth space k j comma s t h g = record { comma_is = refl; close = refl; after = refl }
  ends-again line_by_line o depth space k j comma s t h g =
      let d = open_comma r.commas true comma s in
      let a = afters j depth comma d s t in
      let u = ends j depth comma d s t in
      let same = open-comma-again j depth comma s t h g in
      let opened = open-ends k j depth comma s t h g in
      record {
        comma_is = same;
        close = ap (λ b. if b || false then closes k depth d a u else []) same ∙ opened.close;
        after = ap (λ b. (if d || false then before_comma r (suc depth) a else []) ++ (if b || false then [] else closes k depth d a u)) same
            ∙ opened.after;
      }
  ends-again in_rows o depth space k j comma s t h g =
      let d = open_comma r.commas true comma s in
      let a = afters j depth comma d s t in
      let u = ends j depth comma d s t in
      let same = open-comma-again j depth comma s t h g in
      let opened = open-ends k j depth comma s t h g in
      record {
        comma_is = same;
        close = ap (λ b. if b || false then closes k depth d a u else []) same ∙ opened.close;
        after = ap (λ b. (if d || false then before_comma r (suc depth) a else []) ++ (if b || false then [] else closes k depth d a u)) same
            ∙ opened.after;
      }

  -- the comments of both ends are those that were there
  pub ends-has : (l : Layout) (o : Path) (depth : ℕ) (space : Bool) (j : ℕ) (comma : Bool) (s t : Text) → (l ≡ line_by_line) ⊎ (l ≡ in_rows)
      → IsWholeTrivia s → IsClose true comma t
      → (has_comments (after_last l o depth space j comma s t) || has_comments (inside r l o depth true space j comma s t).close)
      ≡ (has_comments s || has_comments t)
  ends-has untouched o depth space j comma s t (inl e) h g = absurd (let clash : untouched ≡ line_by_line = e in cc)
  ends-has untouched o depth space j comma s t (inr e) h g = absurd (let clash : untouched ≡ in_rows = e in cc)
  ends-has on_one_line o depth space j comma s t (inl e) h g = absurd (let clash : on_one_line ≡ line_by_line = e in cc)
  ends-has on_one_line o depth space j comma s t (inr e) h g = absurd (let clash : on_one_line ≡ in_rows = e in cc)
  ends-has line_by_line o depth space j comma s t e h g = (open-ends j j depth comma s t h g).both
  ends-has in_rows o depth space j comma s t e h g = (open-ends j j depth comma s t h g).both

  -- ---- brackets without members

  pub record NoneAgain (l : Layout) (o : Path) (depth : ℕ) (space : Bool) (k j : ℕ) (comma : Bool) (t : Text) : Type 0 where
    pub comma_is :
        let x = inside r l o depth false space j comma [] t in
        (inside r l o depth false space k x.comma [] x.close).comma ≡ (inside r l o depth false space k comma [] t).comma
    pub close :
        let x = inside r l o depth false space j comma [] t in
        (inside r l o depth false space k x.comma [] x.close).close ≡ (inside r l o depth false space k comma [] t).close

  pub none-close : (depth j : ℕ) (c d : Bool) (t : Text)
      → (if d || true then gap r j true true (suc depth) depth (if c || true then t else t) else []) ≡ gap r j true true (suc depth) depth t
  none-close depth j c d t =
      ap (λ b. if b then gap r j true true (suc depth) depth (if c || true then t else t) else []) (or-true d)
      ∙ ap (λ b. gap r j true true (suc depth) depth (if b then t else t)) (or-true c)

  open-none : (depth k j : ℕ) (c d e : Bool) (t : Text) → IsWholeTrivia t
      → let u = if d || true then gap r j true true (suc depth) depth (if c || true then t else t) else [] in
      (if e || true then gap r k true true (suc depth) depth (if d || true then u else u) else [])
      ≡ (if d || true then gap r k true true (suc depth) depth (if c || true then t else t) else [])
  open-none depth k j c d e t h =
      none-close depth k d e _ ∙ ap (gap r k true true (suc depth) depth) (none-close depth j c d t)
      ∙ gap-again r k j true true (suc depth) depth t h ∙ sym (none-close depth k c d t)

  pub none-again : (l : Layout) (o : Path) (depth : ℕ) (space : Bool) (k j : ℕ) (comma : Bool) (t : Text) → IsClose false comma t
      → NoneAgain l o depth space k j comma t
  none-again untouched o depth space k j comma t h = record { comma_is = refl; close = refl }
  none-again on_one_line o depth space k j comma t h = record { comma_is = refl; close = refl }
  none-again line_by_line o depth space k j comma t h =
      record {
        comma_is = comma-twice r.commas false comma [] [] (λ e. refl);
        close = open-none depth k j comma (open_comma r.commas false comma []) _ t (close-trivia false comma t h);
      }
  none-again in_rows o depth space k j comma t h =
      record {
        comma_is = comma-twice r.commas false comma [] [] (λ e. refl);
        close = open-none depth k j comma (open_comma r.commas false comma []) _ t (close-trivia false comma t h);
      }
