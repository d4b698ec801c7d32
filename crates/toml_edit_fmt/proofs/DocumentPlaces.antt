-- The places of comments in statements, one statement after another.
use Rattle.std.proofs.Common.{◌≡◌, refl, sym, ap, subst, ◌∙◌, inl, inr, ◌⊎◌, ℕ, suc, ◌+◌, ◌≤◌, ◌<◌, ◌==◌, arith, Bool, true, false, List, [], ◌∷◌, ◌++◌, length, Some, append_assoc}
use Rattle.std.specs.Prelude.{◌&&◌, ◌||◌, not, if◌then◌else◌, codes, is_some}
use Rattle.std.specs.List.{list_any}
use Rattle.std.proofs.lemmas.Bool.{eq-eqb, eqb-true}
use Rattle.std.proofs.lemmas.List.{length-map}
use Rattle.toml_edit_model.specs.Comments.{comments, first_comment, words}
use Rattle.toml_edit_model.specs.Paths.{Path, same_path}
use Rattle.toml_edit_model.specs.Syntax.{Frame, Value, Header, Statement, key_line, header, IsStatement, AreStatements, brackets_text, frame_text, newline_after, statement_text, value_text}
use Rattle.toml_edit_model.specs.Text.{Text, one}
use Rattle.toml_edit_model.specs.Trivia.{lf, crlf, IsNewline, IsWholeTrivia}
use Rattle.toml_edit_laws.proofs.common.PathLaws.{same_path-is}
use Rattle.toml_edit_laws.proofs.common.Tests.{and_left, and_right, false-by}
use Rattle.toml_edit_fmt_laws.specs.Promises.{PlacesAreLaid}
use Rattle.toml_edit_fmt_laws.specs.Rules.{Rules, aligned, spaces, header_depth, line_depth}
use Rattle.toml_edit_fmt_laws.specs.Laying.{header_leading, leading, rest_as, usual_pad}
use Rattle.toml_edit_fmt_laws.specs.Formatted.{State, after, keys_below, laid_frame, laid_segment, laid_statement, laid_statements, lay, leading_of, off_after, has_part, reached, stays, used_before}
use Rattle.toml_edit_fmt_laws.specs.Aligned as pieces
use Rattle.toml_edit_fmt_laws.specs.Aligned.{Piece, are_beside, laid_pieces, newlines, statement_pieces, statements_pieces}
use Rattle.toml_edit_fmt.specs.PageView.{letters}
use Rattle.toml_edit_fmt.specs.LayoutView.{lay_bits, statements_bits}
use Rattle.toml_edit_fmt.specs.LinesView.{rest_bits}
use Rattle.toml_edit_fmt.specs.ValueBits.{head_text, header_text, statement_bits, value_bits}
use Rattle.toml_edit_fmt.proofs.FirstLaws.{newlines-append, spaces-first, words-first}
use Rattle.toml_edit_fmt.proofs.GapPlaces.{IsDeep, Latest, MayGo, MayPut, Ready, comment-part, latest-as, latest-far, latest-more}
use Rattle.toml_edit_fmt.proofs.ListPlaces.{IsFar, Kept, plain-both, plain-one, plain-rest}
use Rattle.toml_edit_fmt.proofs.PieceLaws.{run_of}
use Rattle.toml_edit_fmt.proofs.SpotLaws.{Spot, Reached, AllSpots, all-spots, is_spot, Follows, Part, both, cut, none, plain, turned, word}
use Rattle.toml_edit_fmt.proofs.ValuePlaces.{value-part}

-- between statements, of which the next has this number and is so far in
pub record AtLine (n d : ℕ) (at : Reached) : Type 0 where
  pub older : AllSpots (λ s. s.statement < n) at.seen
  pub latest : Latest (λ s. (s.path ≡ []) × (s.depth ≡ d)) at.seen at.count

-- after a statement that ends in this text
abbrev pub AfterLine : ℕ → ℕ → Text → Reached → Type 0
AfterLine n d end at = 1 ≤ newlines end → AtLine (suc n) d at

far-line : (n d e : ℕ) (end t : Text) → newlines end ≤ newlines t → (at : Reached) → AtLine n d at
    → AfterLine n e end (record { seen = at.seen; count = at.count + newlines t })
far-line n d e end t more at h breaks =
    record {
      older = all-spots (λ s. s.statement < n) (λ s. s.statement < suc n) (λ s g. omega arith) at.seen h.older;
      latest = latest-far _ _ at.seen at.count (newlines t) (omega arith) h.latest;
    }

newline-count : (end : Text) → IsNewline end → 1 ≤ newlines end
newline-count end (lf, e) = rw e (omega arith)
newline-count end (crlf, e) = rw e (omega arith)

module _ (r : Rules) (n : ℕ) where
  -- ---- a key and its value

  module _ (d : ℕ) (t end : Text) where
    abbrev own : Spot
    own = record { statement = n; path = []; depth = d }

    abbrev Older : Spot → Type 0
    Older s = (s.statement ≤ n) × (s.statement ≡ n → s.path ≡ [] → ⊥)

    abbrev Near : Spot → Type 0
    Near s = ((s.path ≡ []) × (s.depth ≡ d)) ⊎ ((0 < length s.path) × (d < s.depth))

    older-deep : IsDeep Older n [] d
    older-deep j more e h = (omega arith, λ same eq. absurd cc)

    near-far : IsFar Near [] d
    near-far s h g = inr (omega arith, g)

    begin : (at : Reached) (k : ℕ) → AtLine n d at → Ready Older Near n [] 0 (record { seen = at.seen; count = at.count + k })
    begin at k h =
        record {
          kept = all-spots (λ s. s.statement < n) Older (λ s g. (omega arith, λ same eq. absurd (omega arith))) at.seen h.older;
          before = all-spots (λ s. s.statement < n) _ (λ s g same j more le eq. absurd (omega arith)) at.seen h.older;
          latest = latest-more Near at.seen at.count k (latest-as _ Near (λ s g. inl g) at.seen at.count h.latest);
        }

    beside-none : (q : Path) → 0 < length q → are_beside q [] ≡ false
    beside-none [] h = absurd (omega arith)
    beside-none (s ∷ q) h = refl

    near-own : (q : Spot) → Near q → (q.depth == d) ≡ are_beside q.path []
    near-own q (inl h) = eq-eqb q.depth d h.1 ∙ sym (ap (λ p. are_beside p []) h.0)
    near-own q (inr h) =
        false-by (q.depth == d) (λ e. absurd (omega (arith, h.1, eqb-true q.depth d e))) ∙ sym (beside-none q.path h.0)

    follows : (ss : List Spot) (k : ℕ) → Latest Near ss k → Follows own ss k
    follows [] k h = tt
    follows (q ∷ ss) k h = (h.0, λ e. near-own q (h.1 e))

    is-new : (q : Spot) → Older q → is_spot own q ≡ false
    is-new q h =
        false-by (is_spot own q) (λ e. h.1 (eqb-true q.statement n (and_left (q.statement == n) (same_path q.path []) e))
        (same_path-is q.path [] (and_right (q.statement == n) (same_path q.path []) e)))

    past : (q : Spot) → Older q → q.statement < suc n
    past q h = omega (arith, h.0)

    may-put : MayPut (Kept Older Near) (AfterLine n d end) own t end
    may-put at h = (
      all-spots Older (λ q. is_spot own q ≡ false) is-new at.seen h.kept,
      follows at.seen at.count h.latest,
      λ k more breaks. record {
        older = (omega arith, all-spots Older (λ s. s.statement < suc n) past at.seen h.kept);
        latest = (omega arith, λ e. (refl, refl));
      },
    )

    may-go : MayGo (Kept Older Near) (AfterLine n d end) own t end
    may-go at h k more breaks =
        record {
          older = all-spots Older (λ s. s.statement < suc n) past at.seen h.kept;
          latest = latest-far Near _ at.seen at.count k (omega arith) h.latest;
        }

    rest-first : (k pad : ℕ) → is_some (first_comment (rest_as (aligned k) pad t)) ≡ is_some (first_comment t)
    rest-first k pad = by_test (is_some (first_comment t))
      where
        by_test : (b : Bool) → is_some (first_comment ((if b then spaces pad else []) ++ words t)) ≡ is_some (first_comment t)
        by_test true = ap is_some (spaces-first pad (words t) ∙ words-first t)
        by_test false = ap is_some (words-first t)

    rest-part : Part r.comments (Kept Older Near) (AfterLine n d end) (rest_bits r.comments (Some d) t ++ one (letters end))
        (λ f. if is_some (first_comment (rest_as r.comments (f n []) t)) then pieces.place n [] ∷ pieces.words (rest_as r.comments (f n []) t ++ end) ∷ []
        else one (pieces.words (rest_as r.comments (f n []) t ++ end)))
    rest-part =
        comment-part (Kept Older Near) (AfterLine n d end) own t end r.comments may-put may-go
        (λ f. is_some (first_comment (rest_as r.comments (f n []) t)))
        (λ k is f. ap (λ x. is_some (first_comment (rest_as x (f n []) t))) is ∙ rest-first k (f n []))

  key-part : (st : State) (f : Frame) (v : Value) (end : Text)
      → Part r.comments (AtLine n (line_depth r st.keys)) (AfterLine n (line_depth r st.keys) end)
      (statement_bits r st (key_line f v end) ++ one (letters end))
      (λ pad. laid_pieces r n (laid_statement r (pad n) st (key_line f v end)))
  key-part st f v end =
      let d = line_depth r st.keys in
      let lead = leading r st.is_start d f.leading in
      let room = Some (used_before (laid_frame r lead [] f)) in
      cut r.comments _ _ _ _ _ _
      (ap (λ bs. letters (lead ++ head_text r f) ∷ bs) (sym (append_assoc (value_bits r d room v) (rest_bits r.comments (Some d) f.trailing) (one (letters end)))))
      (λ pad more. refl)
      (both r.comments _ (Ready (Older d f.trailing end) (Near d f.trailing end) n [] 0) _ _ _ _ _
      (word r.comments (AtLine n d) _ (lead ++ head_text r f) (λ at h. begin d f.trailing end at (newlines (lead ++ head_text r f)) h))
      (both r.comments _ (Kept (Older d f.trailing end) (Near d f.trailing end)) _ _ _ _ _
      (value-part r n v [] d room (Older d f.trailing end) (Near d f.trailing end) (older-deep d f.trailing end) (near-far d f.trailing end))
      (rest-part d f.trailing end)))

  -- ---- headers, and statements that stay

  header-part : (st : State) (h : Header) (end : Text) (d e : ℕ)
      → Part r.comments (AtLine n d) (AfterLine n e end) (statement_bits r st (header h end) ++ one (letters end))
      (λ pad. laid_pieces r n (laid_statement r (pad n) st (header h end)))
  header-part st h end d e =
      let lead = header_leading r st.is_start (header_depth r (length h.path)) h.leading in
      let rest = rest_as r.comments (usual_pad r.comments) h.trailing in
      let all = plain-both _ _ _ _ (plain-one (lead ++ header_text r h)) (plain-both _ _ _ _ (plain-rest r.comments h.trailing) (plain-one end)) in
      let u = lead ++ (header_text r h ++ (rest ++ end)) in
      plain r.comments (AtLine n d) (AfterLine n e end) _ u all.none (all.is ∙ append_assoc lead (header_text r h) (rest ++ end))
      (far-line n d e end u
      (omega (arith, newlines-append lead (header_text r h ++ (rest ++ end)), newlines-append (header_text r h) (rest ++ end), newlines-append rest end)))

  ends-count : (s : Statement) → newlines (newline_after s) ≤ newlines (statement_text s)
  ends-count (key_line f v end) = omega (arith, newlines-append (frame_text f (value_text v)) end)
  ends-count (header h end) =
      omega (arith, newlines-append h.leading (brackets_text h ++ (h.trailing ++ end)), newlines-append (brackets_text h) (h.trailing ++ end), newlines-append h.trailing end)

  -- ---- what is known between statements

  module _ (laws : PlacesAreLaid) (pad : Path → ℕ) (st : State) where
    said : (s : Statement) → IsWholeTrivia (leading_of s) → comments (leading_of (laid_statement r pad st s)) ≡ comments (leading_of s)
    said (key_line f v end) h = ((laws r (line_depth r st.keys) f.leading h).line st.is_start).same
    said (header x end) h = ((laws r (header_depth r (length x.path)) x.leading h).header st.is_start).same

    abbrev reached_by : List Text → State
    reached_by cs =
        if not r.left_alone then st
        else record st {
          is_off = off_after st.is_off cs;
          is_generated = st.is_generated || (st.is_start && list_any (has_part (codes "@generated")) cs);
        }

    laid-reached : (s : Statement) → IsWholeTrivia (leading_of s)
        → reached r st (leading_of (laid_statement r pad st s)) ≡ reached r st (leading_of s)
    laid-reached s h = ap reached_by (said s h)

    laid-keys : (s : Statement) → keys_below st.keys (laid_statement r pad st s) ≡ keys_below st.keys s
    laid-keys (key_line f v end) = refl
    laid-keys (header x end) = length-map x.path (laid_segment r)

    abbrev passed : State → ℕ → State
    passed q keys = record q { is_start = false; keys = keys }

    after-laid : (s : Statement) → IsWholeTrivia (leading_of s) → after r st (lay r pad st s) ≡ after r st s
    after-laid s h = by_test (stays (reached r st (leading_of s)))
      where
        by_test : (b : Bool) → after r st (if b then s else laid_statement r pad st s) ≡ after r st s
        by_test true = refl
        by_test false =
            ap (λ q. passed q (keys_below st.keys (laid_statement r pad st s))) (laid-reached s h)
            ∙ ap (passed (reached r st (leading_of s))) (laid-keys s)

  -- ---- any statement

  laid-part : (st : State) (s : Statement) (e : ℕ) → e ≡ line_depth r (keys_below st.keys s)
      → Part r.comments (AtLine n (line_depth r st.keys)) (AfterLine n e (newline_after s))
      (statement_bits r st s ++ one (letters (newline_after s)))
      (λ pad. laid_pieces r n (laid_statement r (pad n) st s))
  laid-part st (key_line f v end) e is =
      subst (λ e. Part r.comments (AtLine n (line_depth r st.keys)) (AfterLine n e end) (statement_bits r st (key_line f v end) ++ one (letters end))
      (λ pad. laid_pieces r n (laid_statement r (pad n) st (key_line f v end)))) (sym is) (key-part st f v end)
  laid-part st (header h end) e is = header-part st h end (line_depth r st.keys) e

  reached-bits : (st : State) (t : Text) (s : Statement) → statement_bits r (reached r st t) s ≡ statement_bits r st s
  reached-bits st t s = by_test (not r.left_alone) s
    where
      known : State
      known =
          record st {
            is_off = off_after st.is_off (comments t);
            is_generated = st.is_generated || (st.is_start && list_any (has_part (codes "@generated")) (comments t));
          }

      by_test : (b : Bool) (s : Statement) → statement_bits r (if b then st else known) s ≡ statement_bits r st s
      by_test true s = refl
      by_test false (key_line f v end) = refl
      by_test false (header h end) = refl

  statement-part : PlacesAreLaid → (st : State) (s : Statement) → IsWholeTrivia (leading_of s)
      → Part r.comments (AtLine n (line_depth r st.keys)) (AfterLine n (line_depth r (after r st s).keys) (newline_after s))
      (lay_bits r st s) (λ pad. statement_pieces r n st (lay r (pad n) st s))
  statement-part laws st s h = by_test (stays (reached r st (leading_of s))) refl
    where
      e : ℕ
      e = line_depth r (keys_below st.keys s)

      by_test : (b : Bool) → stays (reached r st (leading_of s)) ≡ b
          → Part r.comments (AtLine n (line_depth r st.keys)) (AfterLine n e (newline_after s))
          (if b then one (letters (statement_text s)) else statement_bits r (reached r st (leading_of s)) s ++ one (letters (newline_after s)))
          (λ pad. statement_pieces r n st (if b then s else laid_statement r (pad n) st s))
      by_test true is =
          cut r.comments _ _ _ _ (λ pad. one (pieces.words (statement_text s))) _ refl
          (λ pad more. ap (λ b. run_of r.comments ((if b then one (pieces.words (statement_text s)) else laid_pieces r n s) ++ more)) is)
          (word r.comments (AtLine n (line_depth r st.keys)) (AfterLine n e (newline_after s)) (statement_text s)
          (far-line n (line_depth r st.keys) e (newline_after s) (statement_text s) (ends-count s)))
      by_test false is =
          cut r.comments _ _ _ _ (λ pad. laid_pieces r n (laid_statement r (pad n) st s)) _
          (ap (λ bs. bs ++ one (letters (newline_after s))) (sym (reached-bits st (leading_of s) s)))
          (λ pad more. let new = laid_statement r (pad n) st s in
          ap (λ q. run_of r.comments ((if stays q then one (pieces.words (statement_text new)) else laid_pieces r n new) ++ more)) (laid-reached laws (pad n) st s h)
          ∙ ap (λ b. run_of r.comments ((if b then one (pieces.words (statement_text new)) else laid_pieces r n new) ++ more)) is)
          (laid-part st s e refl)

leads : (End : Text → Type 0) (s : Statement) → IsStatement End s → IsWholeTrivia (leading_of s)
leads End (key_line f v end) h = h.0.0.leading
leads End (header x end) h = h.0.0.leading

breaks : (s : Statement) → IsStatement IsNewline s → 1 ≤ newlines (newline_after s)
breaks (key_line f v end) h = newline-count end h.2
breaks (header x end) h = newline-count end h.1

-- all statements
pub statements-part : (r : Rules) → PlacesAreLaid → (final : Text) (ss : List Statement) → AreStatements final ss → (n : ℕ) (st : State)
    → Part r.comments (AtLine n (line_depth r st.keys)) (λ at. Unit {0}) (statements_bits r st ss)
    (λ f. statements_pieces r n st (laid_statements r f n st ss))
statements-part r laws final [] h n st = none r.comments _ _ (λ at g. tt)
statements-part r laws final (s ∷ []) h n st =
    both r.comments _ _ _ _ _ _ _
    (turned r.comments (AtLine n (line_depth r st.keys)) (AtLine n (line_depth r st.keys)) (AfterLine n (line_depth r (after r st s).keys) (newline_after s)) (λ at. Unit {0}) _ _ (λ at g. g) (λ at g. tt)
    (statement-part r n laws st s (leads _ s h)))
    (none r.comments (λ at. Unit {0}) (λ at. Unit {0}) (λ at g. tt))
statements-part r laws final (s ∷ next ∷ rest) h n st =
    let d = line_depth r (after r st s).keys in
    both r.comments _ (AtLine (suc n) d) _ _ _ _ _
    (turned r.comments _ (AtLine n (line_depth r st.keys)) (AfterLine n d (newline_after s)) (AtLine (suc n) d) _ _ (λ at g. g) (λ at g. g (breaks s h.0))
    (statement-part r n laws st s (leads IsNewline s h.0)))
    (cut r.comments _ _ _ _ (λ f. statements_pieces r (suc n) (after r st s) (laid_statements r f (suc n) (after r st s) (next ∷ rest))) _ refl
    (λ f more. ap (λ q. run_of r.comments (statements_pieces r (suc n) q (laid_statements r f (suc n) (after r st s) (next ∷ rest)) ++ more))
    (after-laid r n laws (f n) st s (leads IsNewline s h.0)))
    (statements-part r laws final (next ∷ rest) h.1 (suc n) (after r st s)))
