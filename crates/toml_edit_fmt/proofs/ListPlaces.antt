-- The places of comments between brackets: before members, after them and before the bracket.
use Rattle.std.proofs.Common.{◌≡◌, refl, sym, ap, subst, ◌∙◌, ◌⊎◌, inl, inr, ℕ, suc, ◌+◌, ◌≤◌, ◌<◌, ◌==◌, arith, Bool, true, false, List, [], ◌∷◌, ◌++◌, length, drop, Some, None, append-nil, append_assoc, length-append}
use Rattle.std.specs.Prelude.{◌&&◌, ◌||◌, not, if◌then◌else◌, is_some}
use Rattle.std.specs.List.{before_first}
use Rattle.std.proofs.lemmas.Bool.{eqb-true}
use Rattle.std.proofs.lemmas.List.Sums.{take_while-cons}
use Rattle.toml_edit_model.specs.Comments.{body_in, comments, first_comment, first_line, lines, words}
use Rattle.toml_edit_model.specs.Mode.{exact, ends_in_return, line_end, line_newline}
use Rattle.toml_edit_model.specs.Paths.{Path, at_element, to_element}
use Rattle.toml_edit_model.specs.Print.{one_space}
use Rattle.toml_edit_model.specs.Syntax.{comma_text}
use Rattle.toml_edit_model.specs.Text.{Text, carriage_return, is_empty, joined, line_feed, newline, one}
use Rattle.toml_edit_laws.proofs.common.Tests.{false-by, or-true}
use Rattle.toml_edit_fmt_laws.specs.Rules.{Comments, as_they_are, apart, aligned, Rules, spaces, units, Commas, commas_stay, always, never, made_newline}
use Rattle.toml_edit_fmt_laws.specs.Laying.{before_comma, beside, laid_lines, gap, is_broken, line_break, rest_as, usual_pad}
use Rattle.toml_edit_fmt_laws.specs.Formatted.{Layout, untouched, on_one_line, line_by_line, in_rows, after_part, before_part, laid_comma, before_bracket, close_text, has_comments, inner_depth, last_text, open_comma}
use Rattle.toml_edit_fmt_laws.specs.Aligned as pieces
use Rattle.toml_edit_fmt_laws.specs.Aligned.{Piece, after_pieces, gap_pieces, newlines}
use Rattle.toml_edit_fmt.specs.PageView.{Bit, letters}
use Rattle.toml_edit_fmt.specs.LinesView.{gap_bits, rest_bits}
use Rattle.toml_edit_fmt.specs.ValueBits.{Listed, ahead_of_comma, before_bits_as, before_last, inner_text, close_bits, comma_as, comma_bits}
use Rattle.toml_edit_fmt.specs.declared.lines.Gap.TheVariants.{First, Next, Comma, Last, Only}
use Rattle.toml_edit_fmt.proofs.FirstLaws.{newlines-append}
use Rattle.toml_edit_fmt.proofs.GapPlaces.{IsAway, IsBefore, IsBeside, IsDeep, Latest, Between, Ready, after-same, away-before, gap-part, latest-as, latest-far, latest-more}
use Rattle.toml_edit_fmt.proofs.PageLaws.{HasNoPlace, all_letters, letters-append, no-place-append}
use Rattle.toml_edit_fmt.proofs.PieceLaws.{run_of, run-after}
use Rattle.toml_edit_fmt.proofs.SpotLaws.{Spot, Pads, Reached, AllSpots, all-both, all-spots, Part, both, cut, plain, turned, word}

-- ---- bits that are one text

pub record Plain (bs : List Bit) (t : Text) : Type 0 where
  pub none : HasNoPlace bs
  pub is : all_letters bs ≡ t

pub plain-one : (t : Text) → Plain (one (letters t)) t
plain-one t = record { none = tt; is = append-nil t }

pub plain-both : (xs ys : List Bit) (s t : Text) → Plain xs s → Plain ys t → Plain (xs ++ ys) (s ++ t)
plain-both xs ys s t h g =
    record {
      none = no-place-append xs ys h.none g.none;
      is = letters-append xs ys ∙ ap (λ u. u ++ all_letters ys) h.is ∙ ap (λ u. s ++ u) g.is;
    }

plain-words : (k : ℕ) (t : Text) (b : Bool)
    → Plain (if b then one (letters (spaces k ++ words t)) else one (letters (words t))) ((if b then spaces k else []) ++ words t)
plain-words k t true = plain-one (spaces k ++ words t)
plain-words k t false = plain-one (words t)

pub plain-rest : (c : Comments) (t : Text) → Plain (rest_bits c None t) (rest_as c (usual_pad c) t)
plain-rest as_they_are t = plain-one t
plain-rest (apart k) t = plain-words k t (is_some (first_comment t))
plain-rest (aligned k) t = plain-words k t (is_some (first_comment t))

plain-gap : (c : Comments) (t rest : Text)
    → Plain ((if is_some (first_comment t) then rest_bits c None (first_line t) else []) ++ one (letters rest))
    ((if is_some (first_comment t) then rest_as c (usual_pad c) (first_line t) else []) ++ rest)
plain-gap c t rest = by_test (is_some (first_comment t))
  where
    by_test : (b : Bool) → Plain ((if b then rest_bits c None (first_line t) else []) ++ one (letters rest))
        ((if b then rest_as c (usual_pad c) (first_line t) else []) ++ rest)
    by_test true = plain-both _ _ _ _ (plain-rest c (first_line t)) (plain-one rest)
    by_test false = plain-one rest

-- ---- the newline of a gap

break-is : (r : Rules) (t : Text) → (line_break r t ≡ newline) ⊎ (line_break r t ≡ carriage_return ∷ newline)
break-is r t = by_test (is_broken t)
  where
    by_return : (b : Bool) → ((if b then carriage_return ∷ newline else newline) ≡ newline) ⊎ ((if b then carriage_return ∷ newline else newline) ≡ carriage_return ∷ newline)
    by_return true = inr refl
    by_return false = inl refl

    end : Text
    end = before_first (λ x. x == line_feed) t

    by_test : (b : Bool) → ((if b then line_newline exact end else made_newline r) ≡ newline)
        ⊎ ((if b then line_newline exact end else made_newline r) ≡ carriage_return ∷ newline)
    by_test true = by_return (ends_in_return end)
    by_test false = by_return r.returns

break-count : (r : Rules) (t z : Text) → 1 ≤ newlines (line_break r t ++ z)
break-count r t z =
    let front : 1 ≤ newlines (line_break r t) =
    elim (break-is r t) [
      | inl e ↦ rw e (omega arith)
      | inr e ↦ rw e (omega arith)
    ] in
    omega (arith, newlines-append (line_break r t) z)

break-bare : (r : Rules) (t z : Text) → first_comment (line_break r t ++ z) ≡ None
break-bare r t z =
    elim (break-is r t) [
      | inl e ↦ ap (λ u. first_comment (u ++ z)) e
          ∙ ap (λ x. body_in (line_end exact x)) (take_while-cons (λ c. not (c == line_feed)) line_feed z)
      | inr e ↦ ap (λ u. first_comment (u ++ z)) e
          ∙ ap (λ x. body_in (line_end exact x)) (take_while-cons (λ c. not (c == line_feed)) carriage_return (line_feed ∷ z)
          ∙ ap (λ x. carriage_return ∷ x) (take_while-cons (λ c. not (c == line_feed)) line_feed z))
    ]

-- ---- lists that are laid out, and lists that stay

abbrev pub is_laid : Layout → Bool
is_laid untouched = false
is_laid on_one_line = true
is_laid line_by_line = true
is_laid in_rows = true

-- what is known of the last place, if that is on the line above
abbrev pub roof : Layout → (Spot → Type 0) → Path → ℕ → Spot → Type 0
roof untouched R p d = R
roof on_one_line R p d = R
roof line_by_line R p d = IsBeside p (suc d)
roof in_rows R p d = IsBeside p (suc d)

-- each place of a longer path that is further in
abbrev pub IsFar : (Spot → Type 0) → Path → ℕ → Type 0
IsFar R p d = (s : Spot) → length p < length s.path → d < s.depth → R s

-- after a value
pub record Kept (W R : Spot → Type 0) (at : Reached) : Type 0 where
  pub kept : AllSpots W at.seen
  pub latest : Latest R at.seen at.count

length-element : (p : Path) (j : ℕ) → length (to_element p j) ≡ suc (length p)
length-element p j = omega (arith, length-append p (one (at_element j)))

beside-far : (R : Spot → Type 0) (p : Path) (d : ℕ) → IsFar R p d → (s : Spot) → IsBeside p (suc d) s → R s
beside-far R p d far s (inl h) =
    far s (omega (arith, length-element p h.0, ap length h.1)) (omega (arith, h.2))
beside-far R p d far s (inr h) = far s (omega (arith, h.0)) (omega (arith, h.1))

module _ (r : Rules) (n : ℕ) (p : Path) (d : ℕ) (W R : Spot → Type 0) (deep : IsDeep W n p d) (far : IsFar R p d) where
  abbrev c : Comments
  c = r.comments

  abbrev RowsAt : Layout → ℕ → Reached → Type 0
  RowsAt l i = Between W (roof l R p d) n p i

  abbrev ReadyAt : Layout → ℕ → Reached → Type 0
  ReadyAt l i = Ready W (roof l R p d) n p i

  all-before : (i : ℕ) (ss : List Spot) → AllSpots (IsAway n p i) ss → AllSpots (IsBefore n p i) ss
  all-before i ss h = all-spots (IsAway n p i) (IsBefore n p i) (away-before n p i) ss h

  -- ---- before a member

  same-ready : (i : ℕ) (S : Spot → Type 0) (t : Text) (at : Reached) → Between W S n p i at
      → Ready W S n p i (record { seen = at.seen; count = at.count + newlines t })
  same-ready i S t at h =
      record { kept = h.kept; before = all-before i at.seen h.away; latest = latest-more S at.seen at.count (newlines t) h.latest }

  far-ready : (i : ℕ) (S T : Spot → Type 0) (t : Text) → 1 ≤ newlines t → (at : Reached) → Between W S n p i at
      → Ready W T n p i (record { seen = at.seen; count = at.count + newlines t })
  far-ready i S T t breaks at h =
      record { kept = h.kept; before = all-before i at.seen h.away; latest = latest-far S T at.seen at.count (newlines t) breaks h.latest }

  gap-count : (pad : ℕ) (is_start is_end : Bool) (depth last : ℕ) (t : Text) → 1 ≤ newlines (gap r pad is_start is_end depth last t)
  gap-count pad is_start is_end depth last t =
      let rest = laid_lines r is_start is_end (Some depth) (joined (drop 1 (lines t))) ++ units r last in
      let front = beside r pad t in
      omega (arith, newlines-append front (line_break r t ++ rest), break-count r t rest)

  gap-plain : (t : Text) → Plain (gap_bits r d First t) (gap r (usual_pad c) true false (suc d) (suc d) t)
  gap-plain t = plain-gap c t _

  pub before-first : (l : Layout) (b : Bool) (edge : Text) (has : Bool) (t : Text)
      → Part c (Between W R n p 0) (ReadyAt l 0) (before_bits_as l r (record { layout = l; depth = d; edge = edge; has_any = has }) true t)
      (λ f. gap_pieces r n b p 0 (before_part r l (usual_pad c) true d edge t))
  before-first untouched b edge has t = word c _ _ t (same-ready 0 R t)
  before-first on_one_line b edge has t = word c _ _ edge (same-ready 0 R edge)
  before-first line_by_line b edge has t =
      plain c _ _ _ _ (gap-plain t).none (gap-plain t).is (far-ready 0 R (IsBeside p (suc d)) (gap r (usual_pad c) true false (suc d) (suc d) t) (gap-count (usual_pad c) true false (suc d) (suc d) t))
  before-first in_rows b edge has t =
      plain c _ _ _ _ (gap-plain t).none (gap-plain t).is (far-ready 0 R (IsBeside p (suc d)) (gap r (usual_pad c) true false (suc d) (suc d) t) (gap-count (usual_pad c) true false (suc d) (suc d) t))

  next-gap : (i : ℕ) (t : Text)
      → Part c (RowsAt line_by_line (suc i)) (ReadyAt line_by_line (suc i)) (gap_bits r d Next t)
      (λ f. gap_pieces r n true p (suc i) (gap r (f n (to_element p i)) false false (suc d) (suc d) t))
  next-gap i t = gap-part r n p i d W deep t _ (break-count r t _) (break-bare r t _) c

  -- a text of the list that has no comment
  bare-word : (b : Bool) (i : ℕ) (P Q : Reached → Type 0) (t : Text) → (b && is_some (first_comment t)) ≡ false
      → ((at : Reached) → P at → Q (record { seen = at.seen; count = at.count + newlines t }))
      → Part c P Q (one (letters t)) (λ f. gap_pieces r n b p (suc i) t)
  bare-word b i P Q t bare go =
      cut c P Q (one (letters t)) _ (λ f. one (pieces.words t)) _ refl
      (λ f more. ap (λ x. run_of c ((if x then pieces.place n (to_element p i) ∷ pieces.words t ∷ [] else one (pieces.words t)) ++ more)) bare)
      (word c P Q t go)

  before-later : (l : Layout) (i : ℕ) (edge : Text) (has : Bool) (t : Text)
      → Part c (RowsAt l (suc i)) (ReadyAt l (suc i)) (before_bits_as l r (record { layout = l; depth = d; edge = edge; has_any = has }) false t)
      (λ f. gap_pieces r n (is_laid l) p (suc i) (before_part r l (f n (to_element p i)) false d edge t))
  before-later untouched i edge has t = bare-word false i _ _ t refl (same-ready (suc i) R t)
  before-later on_one_line i edge has t = bare-word true i _ _ one_space refl (same-ready (suc i) R one_space)
  before-later line_by_line i edge has t = next-gap i t
  before-later in_rows i edge has t = by_test (is_broken t)
    where
      by_test : (k : Bool) → Part c (RowsAt in_rows (suc i)) (ReadyAt in_rows (suc i)) (if k then gap_bits r d Next t else one (letters one_space))
          (λ f. gap_pieces r n true p (suc i) (if k then gap r (f n (to_element p i)) false false (suc d) (suc d) t else one_space))
      by_test true = next-gap i t
      by_test false = bare-word true i _ _ one_space refl (same-ready (suc i) (IsBeside p (suc d)) one_space)

  not-first : (i : ℕ) → (suc i == 0) ≡ false
  not-first i = false-by (suc i == 0) (λ e. absurd (omega (arith, eqb-true (suc i) 0 e)))

  pub before-next : (l : Layout) (b : Bool) → b ≡ is_laid l → (i : ℕ) (edge : Text) (has : Bool) (t : Text)
      → Part c (RowsAt l (suc i)) (ReadyAt l (suc i)) (before_bits_as l r (record { layout = l; depth = d; edge = edge; has_any = has }) false t)
      (λ f. gap_pieces r n b p (suc i) (before_part r l (f n (to_element p i)) (suc i == 0) d edge t))
  before-next l b laid i edge has t =
      cut c _ _ _ _ _ _ refl
      (λ f more. ap (λ k. run_of c (gap_pieces r n b p (suc i) (before_part r l (f n (to_element p i)) k d edge t) ++ more)) (not-first i)
      ∙ ap (λ k. run_of c (gap_pieces r n k p (suc i) (before_part r l (f n (to_element p i)) false d edge t) ++ more)) laid)
      (before-later l i edge has t)

  -- ---- a member

  element-path : (i j : ℕ) (more : Path) → to_element p i ++ (at_element j ∷ more) ≡ p ++ (at_element i ∷ (at_element j ∷ more))
  element-path i j more = append_assoc p (one (at_element i)) (at_element j ∷ more)

  in-member : (i : ℕ) (s : Spot) → IsBefore n p i s → IsBefore n (to_element p i) 0 s
  in-member i s h e j more le same = h e i (at_element j ∷ more) (omega arith) (same ∙ element-path i j more)

  past-member : (i : ℕ) (s : Spot) → IsBefore n p i s → IsAway n p (suc i) s
  past-member i s h =
      ((λ e j more le same. h e j more (omega arith) same), (λ e same. h e i [] (omega arith) same))

  deep-away : (i j : ℕ) (more : Path) (e : ℕ)
      → IsAway n p (suc i) (record { statement = n; path = to_element p i ++ (at_element j ∷ more); depth = e })
  deep-away i j more e = (
    (λ same k rest le eq. let steps : at_element i ∷ (at_element j ∷ more) ≡ at_element k ∷ rest = after-same p _ _ (sym (element-path i j more) ∙ eq) in
        let number : i ≡ k = cc in
        omega arith),
    (λ same eq. let steps : at_element i ∷ (at_element j ∷ more) ≡ one (at_element i) = after-same p _ _ (sym (element-path i j more) ∙ eq) in
        absurd cc),
  )

  inner-deep : (l : Layout) (e : ℕ) → inner_depth l d < e → d < e
  inner-deep untouched e h = h
  inner-deep on_one_line e h = h
  inner-deep line_by_line e h = omega arith
  inner-deep in_rows e h = omega arith

  member-far : (l : Layout) (i : ℕ) → IsFar (roof l R p d) (to_element p i) (inner_depth l d)
  member-far untouched i s h g = far s (omega (arith, length-element p i)) g
  member-far on_one_line i s h g = far s (omega (arith, length-element p i)) g
  member-far line_by_line i s h g = inr (omega (arith, length-element p i), g)
  member-far in_rows i s h g = inr (omega (arith, length-element p i), g)

  -- a value at this path, so far in
  abbrev pub ValueAt : Path → ℕ → List Bit → (Pads → List Piece) → Type 1
  ValueAt q e bs ps =
      (V S : Spot → Type 0) → IsDeep V n q e → IsFar S q e → Part c (Ready V S n q 0) (Kept V S) bs ps

  pub member : (l : Layout) (i : ℕ) (bs : List Bit) (ps : Pads → List Piece)
      → ValueAt (to_element p i) (inner_depth l d) bs ps → Part c (ReadyAt l i) (RowsAt l (suc i)) bs ps
  member l i bs ps value =
      turned c (ReadyAt l i) (Ready V (roof l R p d) n (to_element p i) 0) (Kept V (roof l R p d)) (RowsAt l (suc i)) bs ps
      (λ at h. record {
        kept = all-both W (IsAway n p (suc i)) at.seen h.kept (all-spots (IsBefore n p i) (IsAway n p (suc i)) (past-member i) at.seen h.before);
        before = all-spots (IsBefore n p i) (IsBefore n (to_element p i) 0) (in-member i) at.seen h.before;
        latest = h.latest;
      })
      (λ at h. record {
        kept = all-spots V W (λ s g. g.0) at.seen h.kept;
        away = all-spots V (IsAway n p (suc i)) (λ s g. g.1) at.seen h.kept;
        latest = h.latest;
      })
      (value V (roof l R p d)
      (λ j more e h. (
        subst (λ q. W (record { statement = n; path = q; depth = e })) (sym (element-path i j more)) (deep i (at_element j ∷ more) e (inner-deep l e h)),
        deep-away i j more e,
      ))
      (member-far l i))
    where
      V : Spot → Type 0
      V s = W s × IsAway n p (suc i) s

  -- ---- after a member

  abbrev listed : Layout → Text → Bool → Listed
  listed l edge has = record { layout = l; depth = d; edge = edge; has_any = has }

  comma-gap : (t : Text) → Plain (if has_comments t then gap_bits r d Comma t else []) (before_comma r (suc d) t)
  comma-gap t = by_test (is_empty (comments t))
    where
      by_test : (b : Bool) → Plain (if not b then gap_bits r d Comma t else []) (if b then [] else gap r (usual_pad c) false false (suc d) (suc d) t)
      by_test true = record { none = tt; is = refl }
      by_test false = plain-gap c t _

  ahead-plain : (l : Layout) (edge : Text) (has : Bool) (t : Text) → Plain (ahead_of_comma l r (listed l edge has) t) (after_part r l true d t)
  ahead-plain untouched edge has t = plain-one t
  ahead-plain on_one_line edge has t = record { none = tt; is = refl }
  ahead-plain line_by_line edge has t = comma-gap t
  ahead-plain in_rows edge has t = comma-gap t

  more-between : (i : ℕ) (S : Spot → Type 0) (t : Text) (at : Reached) → Between W S n p i at
      → Between W S n p i (record { seen = at.seen; count = at.count + newlines t })
  more-between i S t at h =
      record { kept = h.kept; away = h.away; latest = latest-more S at.seen at.count (newlines t) h.latest }

  pub after-next : (l : Layout) (b : Bool) (i : ℕ) (edge : Text) (has had comma : Bool) (t : Text)
      → Part c (RowsAt l (suc i)) (RowsAt l (suc i)) (comma_bits r (listed l edge has) t true)
      (λ f. after_pieces r n b p i true comma (after_part r l (had || true) d t ++ []))
  after-next l b i edge has had comma t =
      let all = plain-both _ _ _ _ (ahead-plain l edge has t) (plain-one (comma_text true)) in
      plain c (RowsAt l (suc i)) (RowsAt l (suc i)) (comma_bits r (listed l edge has) t true) ((after_part r l (had || true) d t ++ []) ++ comma_text true)
      all.none
      (all.is ∙ ap (λ k. after_part r l k d t ++ comma_text true) (sym (or-true had))
      ∙ ap (λ u. u ++ comma_text true) (sym (append-nil (after_part r l (had || true) d t))))
      (more-between (suc i) (roof l R p d) ((after_part r l (had || true) d t ++ []) ++ comma_text true))

  -- ---- before the bracket

  abbrev close_pieces : Layout → Bool → ℕ → Text → Bool → Text → Text → List Piece
  close_pieces l b i ahead ends close bracket =
      after_pieces r n b p i false ends (ahead ++ last_text l (ends || false) close)
      ++ (pieces.words (comma_text ends) ∷ gap_pieces r n b p (suc i) (close_text l (ends || false) close) ++ one (pieces.words bracket))

  last-gap : (i : ℕ) (t : Text)
      → Part c (RowsAt line_by_line (suc i)) (ReadyAt line_by_line (suc i)) (gap_bits r d Last t)
      (λ f. gap_pieces r n true p (suc i) (gap r (f n (to_element p i)) false true (suc d) d t))
  last-gap i t = gap-part r n p i d W deep t _ (break-count r t _) (break-bare r t _) c

  end-gap : (i : ℕ) (t bracket : Text)
      → Part c (RowsAt line_by_line (suc i)) (Kept W R) (gap_bits r d Last t ++ one (letters bracket))
      (λ f. gap_pieces r n true p (suc i) (gap r (f n (to_element p i)) false true (suc d) d t) ++ one (pieces.words bracket))
  end-gap i t bracket =
      both c _ (ReadyAt line_by_line (suc i)) _ _ _ _ _ (last-gap i t)
      (word c (ReadyAt line_by_line (suc i)) (Kept W R) bracket (λ at h. record {
        kept = h.kept;
        latest = latest-more R at.seen at.count (newlines bracket) (latest-as (IsBeside p (suc d)) R (beside-far R p d far) at.seen at.count h.latest);
      }))

  -- the bits before it are a text, where there is a comma or nothing
  rows-close : (i : ℕ) (bs : List Bit) (ahead t : Text) (ends : Bool) (bracket : Text) → Plain bs ahead → (ends ≡ false → ahead ≡ [])
      → Part c (RowsAt line_by_line (suc i)) (Kept W R)
      ((bs ++ one (letters (comma_text ends))) ++ (gap_bits r d Last t ++ one (letters bracket)))
      (λ f. close_pieces line_by_line true i ahead ends (gap r (f n (to_element p i)) false true (suc d) d t) bracket)
  rows-close i bs ahead t true bracket h none =
      let front = plain-both _ _ _ _ h (plain-one (comma_text true)) in
      cut c _ _ _ _ _ _ refl
      (λ f more. let tail = run_of c ((gap_pieces r n true p (suc i) (gap r (f n (to_element p i)) false true (suc d) d t) ++ one (pieces.words bracket)) ++ more) in
      ap (λ u. record { text = u ++ (comma_text true ++ tail.text); more = tail.more }) (append-nil (ahead ++ []) ∙ append-nil ahead)
      ∙ ap (λ u. record { text = u; more = tail.more }) (sym (append_assoc ahead (comma_text true) tail.text)))
      (both c _ _ _ _ _ _ _
      (plain c (RowsAt line_by_line (suc i)) (RowsAt line_by_line (suc i)) (bs ++ one (letters (comma_text true))) (ahead ++ comma_text true) front.none front.is
      (more-between (suc i) (IsBeside p (suc d)) (ahead ++ comma_text true)))
      (end-gap i t bracket))
  rows-close i bs ahead t false bracket h none =
      let front = plain-both _ _ _ _ h (plain-one []) in
      let nothing : ahead ++ [] ≡ [] = ap (λ u. u ++ []) (none refl) in
      cut c _ _ _ _ _ _ refl
      (λ f more. let C = gap r (f n (to_element p i)) false true (suc d) d t in
      ap (λ u. run_of c ((gap_pieces r n true p (suc i) (u ++ C) ++ (pieces.words [] ∷ pieces.words [] ∷ pieces.words bracket ∷ [])) ++ more)) (none refl)
      ∙ ap (run_of c) (append_assoc (gap_pieces r n true p (suc i) C) (pieces.words [] ∷ pieces.words [] ∷ pieces.words bracket ∷ []) more)
      ∙ run-after c (gap_pieces r n true p (suc i) C) (pieces.words [] ∷ pieces.words [] ∷ pieces.words bracket ∷ more) (pieces.words bracket ∷ more) refl
      ∙ sym (ap (run_of c) (append_assoc (gap_pieces r n true p (suc i) C) (one (pieces.words bracket)) more)))
      (both c _ _ _ _ _ _ _
      (plain c (RowsAt line_by_line (suc i)) (RowsAt line_by_line (suc i)) (bs ++ one (letters [])) [] front.none (front.is ∙ nothing)
      (more-between (suc i) (IsBeside p (suc d)) []))
      (end-gap i t bracket))

  commas-same : (k : Commas) (comma : Bool) (t : Text)
      → comma_as k true comma (before_last (Some t) comma) ≡ open_comma k true comma t
  commas-same commas_stay comma t = refl
  commas-same always comma t = refl
  commas-same never true t = refl
  commas-same never false t = refl

  nothing-ahead : (k : Commas) (t : Text) → open_comma k true true t ≡ false → before_comma r (suc d) t ≡ []
  nothing-ahead commas_stay t e = absurd cc
  nothing-ahead always t e = absurd cc
  nothing-ahead never t e = by_test (is_empty (comments t)) e
    where
      by_test : (b : Bool) → not b ≡ false → (if b then [] else gap r (usual_pad c) false false (suc d) (suc d) t) ≡ []
      by_test true e = refl
      by_test false e = absurd cc

  open-close : (i : ℕ) (s t : Text) (comma : Bool) (bracket : Text)
      → Part c (RowsAt line_by_line (suc i)) (Kept W R)
      (((if has_comments (before_last (Some s) comma) then gap_bits r d Comma (before_last (Some s) comma) else [])
      ++ one (letters (comma_text (comma_as r.commas true comma (before_last (Some s) comma)))))
      ++ (gap_bits r d Last (inner_text (Some s) comma t) ++ one (letters bracket)))
      (λ f. close_pieces line_by_line true i (after_part r line_by_line (comma || false) d s) (open_comma r.commas true comma s)
      (gap r (f n (to_element p i)) false true (suc d) d (if comma || false then t else s ++ t)) bracket)
  open-close i s t true bracket =
      cut c _ _ _ _ _ _
      (ap (λ k. ((if has_comments s then gap_bits r d Comma s else []) ++ one (letters (comma_text k))) ++ (gap_bits r d Last t ++ one (letters bracket)))
      (sym (commas-same r.commas true s)))
      (λ f more. refl)
      (rows-close i (if has_comments s then gap_bits r d Comma s else []) (before_comma r (suc d) s) t (open_comma r.commas true true s) bracket (comma-gap s) (nothing-ahead r.commas s))
  open-close i s t false bracket =
      cut c _ _ _ _ _ _
      (ap (λ k. one (letters (comma_text k)) ++ (gap_bits r d Last (s ++ t) ++ one (letters bracket))) (sym (commas-same r.commas false s)))
      (λ f more. refl)
      (rows-close i [] [] (s ++ t) (open_comma r.commas true false s) bracket (record { none = tt; is = refl }) (λ e. refl))

  -- where no comment is a place
  text-close : (i : ℕ) (bs : List Bit) (u : Text) (ps : Pads → List Piece) → Plain bs u
      → ((f : Pads) (more : List Piece) → run_of c (ps f ++ more) ≡ run_of c (pieces.words u ∷ more))
      → Part c (Between W R n p i) (Kept W R) bs ps
  text-close i bs u ps h same =
      cut c _ _ bs bs (λ f. one (pieces.words u)) ps refl same
      (plain c (Between W R n p i) (Kept W R) bs u h.none h.is
      (λ at g. record { kept = g.kept; latest = latest-more R at.seen at.count (newlines u) g.latest }))

  untouched-close : (i : ℕ) (s t : Text) (comma : Bool) (edge bracket : Text)
      → Part c (Between W R n p (suc i)) (Kept W R) (close_bits r (listed untouched edge true) (Some s) comma t bracket)
      (λ f. close_pieces untouched false i s comma t bracket)
  untouched-close i s t true edge bracket =
      text-close (suc i) _ (s ++ (comma_text true ++ (t ++ bracket))) _
      (record { none = tt; is = ap (λ u. s ++ (comma_text true ++ (t ++ u))) (append-nil bracket) })
      (λ f more. ap (λ u. record { text = u; more = (run_of c more).more }) (simp (append_assoc, append-nil)))
  untouched-close i s t false edge bracket =
      text-close (suc i) _ ((s ++ t) ++ bracket) _
      (record { none = tt; is = ap (λ u. (s ++ t) ++ u) (append-nil bracket) })
      (λ f more. ap (λ u. record { text = u; more = (run_of c more).more }) (simp (append_assoc, append-nil)))

  line-close : (i : ℕ) (s t : Text) (comma space : Bool) (bracket : Text)
      → Part c (Between W R n p (suc i)) (Kept W R) (close_bits r (listed on_one_line (if space then one_space else []) true) (Some s) comma t bracket)
      (λ f. close_pieces on_one_line true i [] false (if space then one_space else []) bracket)
  line-close i s t comma true bracket =
      text-close (suc i) _ (one_space ++ bracket) _
      (record { none = tt; is = ap (λ u. one_space ++ u) (append-nil bracket) }) (λ f more. refl)
  line-close i s t comma false bracket =
      text-close (suc i) _ bracket _ (record { none = tt; is = append-nil bracket }) (λ f more. refl)

  abbrev closed : Layout → Bool → ℕ → Text → Text → Bool → Bool → Text → Pads → List Piece
  closed l b i s t comma space bracket f =
      close_pieces l b i (after_part r l (comma || false) d s) (laid_comma r l true comma s)
      (before_bracket r l (f n (to_element p i)) true d (if space then one_space else []) (comma || false) s t) bracket

  laid-close : (l : Layout) (i : ℕ) (s t : Text) (comma space : Bool) (bracket : Text)
      → Part c (RowsAt l (suc i)) (Kept W R) (close_bits r (listed l (if space then one_space else []) true) (Some s) comma t bracket)
      (closed l (is_laid l) i s t comma space bracket)
  laid-close untouched i s t comma space bracket = untouched-close i s t comma (if space then one_space else []) bracket
  laid-close on_one_line i s t comma space bracket = line-close i s t comma space bracket
  laid-close line_by_line i s t comma space bracket = open-close i s t comma bracket
  laid-close in_rows i s t comma space bracket = open-close i s t comma bracket

  pub close-part : (l : Layout) (b : Bool) → b ≡ is_laid l → (i : ℕ) (s t : Text) (comma space : Bool) (bracket : Text)
      → Part c (RowsAt l (suc i)) (Kept W R) (close_bits r (listed l (if space then one_space else []) true) (Some s) comma t bracket)
      (closed l b i s t comma space bracket)
  close-part l b laid i s t comma space bracket =
      cut c _ _ _ _ _ _ refl (λ f more. ap (λ k. run_of c (closed l k i s t comma space bracket f ++ more)) laid)
      (laid-close l i s t comma space bracket)

  -- ---- nothing in the brackets

  no-commas : (k : Commas) (comma : Bool) → comma_as k false comma [] ≡ open_comma k false comma []
  no-commas commas_stay comma = refl
  no-commas always comma = refl
  no-commas never true = refl
  no-commas never false = refl

  rows-empty : (comma : Bool) (t bracket : Text)
      → Part c (Between W R n p 0) (Kept W R)
      (one (letters (comma_text (comma_as r.commas false comma []))) ++ (gap_bits r d Only t ++ one (letters bracket)))
      (λ f. pieces.words (comma_text (open_comma r.commas false comma []))
      ∷ pieces.words (if open_comma r.commas false comma [] || true then gap r (usual_pad c) true true (suc d) d (if comma || true then t else t) else [])
      ∷ one (pieces.words bracket))
  rows-empty comma t bracket =
      let all = plain-both _ _ _ _ (plain-one (comma_text (comma_as r.commas false comma []))) (plain-both _ _ _ _ (plain-gap c t _) (plain-one bracket)) in
      text-close 0 _ (comma_text (comma_as r.commas false comma []) ++ (gap r (usual_pad c) true true (suc d) d t ++ bracket)) _ all
      (λ f more. let G = gap r (usual_pad c) true true (suc d) d t in
      ap (λ k. run_of c (pieces.words (comma_text k) ∷ pieces.words (if k || true then gap r (usual_pad c) true true (suc d) d (if comma || true then t else t) else []) ∷ pieces.words bracket ∷ more)) (sym (no-commas r.commas comma))
      ∙ ap (λ k. run_of c (pieces.words (comma_text (comma_as r.commas false comma [])) ∷ pieces.words (if k then gap r (usual_pad c) true true (suc d) d (if comma || true then t else t) else []) ∷ pieces.words bracket ∷ more)) (or-true (comma_as r.commas false comma []))
      ∙ ap (λ k. run_of c (pieces.words (comma_text (comma_as r.commas false comma [])) ∷ pieces.words (gap r (usual_pad c) true true (suc d) d (if k then t else t)) ∷ pieces.words bracket ∷ more)) (or-true comma)
      ∙ ap (λ u. record { text = u; more = (run_of c more).more })
      (sym (append_assoc (comma_text (comma_as r.commas false comma [])) (G ++ bracket) (run_of c more).text
      ∙ ap (λ u. comma_text (comma_as r.commas false comma []) ++ u) (append_assoc G bracket (run_of c more).text))))

  pub empty-close : (l : Layout) (b : Bool) (comma : Bool) (t bracket : Text)
      → Part c (Between W R n p 0) (Kept W R) (close_bits r (listed l [] false) None comma t bracket)
      (λ f. pieces.words (comma_text (laid_comma r l false comma []))
      ∷ gap_pieces r n b p 0 (close_text l (laid_comma r l false comma [] || true) (before_bracket r l (usual_pad c) false d [] (comma || true) [] t))
      ++ one (pieces.words bracket))
  empty-close untouched b comma t bracket =
      text-close 0 _ (comma_text comma ++ (t ++ bracket)) _
      (record { none = tt; is = ap (λ u. comma_text comma ++ (t ++ u)) (append-nil bracket) })
      (λ f more. ap (λ u. record { text = u; more = (run_of c more).more }) (simp append_assoc))
  empty-close on_one_line b comma t bracket =
      text-close 0 _ bracket _ (record { none = tt; is = append-nil bracket }) (λ f more. refl)
  empty-close line_by_line b comma t bracket = rows-empty comma t bracket
  empty-close in_rows b comma t bracket = rows-empty comma t bracket
