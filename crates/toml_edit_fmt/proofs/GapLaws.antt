-- A gap: the newline that ends its first line, and the lines below.
use Rattle.std.proofs.Common.{◌≡◌, refl, sym, ap, ◌∙◌, ℕ, suc, ◌==◌, Bool, true, false, List, [], ◌∷◌, ◌++◌, length, drop, Option, Some, None, append_assoc, Bor}
use Rattle.std.specs.Prelude.{◌||◌, if◌then◌else◌, not, IsTrue, MatchOption}
use Rattle.std.specs.List.{before_first}
use Rattle.std.proofs.Math.Seq.{drop-append_seam}
use Rattle.std.proofs.lemmas.Bool.Decides.{Decides-eqb}
use Rattle.std.proofs.lemmas.List.Sums.{take_while-cons}
use Rattle.toml_edit_model.specs.Comments.{after_first_line, begun_with, first_line, lines}
use Rattle.toml_edit_model.specs.Mode.{exact, ends_in_return, line_end, line_newline}
use Rattle.toml_edit_model.specs.Text.{Text, carriage_return, joined, line_feed, newline, one}
use Rattle.toml_edit_laws.proofs.common.LineEnds.{end-and-newline}
use Rattle.toml_edit_laws.proofs.common.Tests.{or-left, or-right}
use Rattle.toml_edit_fmt_laws.specs.Laying.{is_broken, laid_lines, line_break}
use Rattle.toml_edit_fmt_laws.specs.Rules.{units}
use Rattle.toml_edit_fmt.specs.LinesView.{below_text, beside_bits, gap_bits, is_at_end, is_at_start, list_before}
use Rattle.toml_edit_fmt.specs.PageView.{Gains, Grows, letters}
use Rattle.toml_edit_fmt.specs.RulesView.{comments_of, rules_of}
use Rattle.toml_edit_fmt.specs.declared.lines.Gap as code
use Rattle.toml_edit_fmt.specs.declared.page.Page.{Page}
use Rattle.toml_edit_fmt.proofs.PageLaws.{gains-as, gains-both, grows-both, grows-by}

abbrev front : Text → Text
front t = before_first (λ c. c == line_feed) t

-- ---- the lines of a text

lines-step : (c : ℕ) (t : Text) (b : Bool) → (c == line_feed) ≡ b → lines (c ∷ t) ≡ (if b then one c ∷ lines t else begun_with c (lines t))
lines-step c t b e = ap (λ b. if b then one c ∷ lines t else begun_with c (lines t)) e

joined-begun : (c : ℕ) (ls : List Text) → joined (begun_with c ls) ≡ c ∷ joined ls
joined-begun c [] = refl
joined-begun c (l ∷ ls) = refl

joined-lines : (t : Text) → joined (lines t) ≡ t
joined-lines [] = refl
joined-lines (c ∷ t) = by_test (c == line_feed) ∙ ap (λ u. c ∷ u) (joined-lines t)
  where
    by_test : (b : Bool) → joined (if b then one c ∷ lines t else begun_with c (lines t)) ≡ c ∷ joined (lines t)
    by_test true = refl
    by_test false = joined-begun c (lines t)

below-begun : (c : ℕ) (ls : List Text) → drop 1 (begun_with c ls) ≡ drop 1 ls
below-begun c [] = refl
below-begun c (l ∷ ls) = refl

none-below : (t : Text) → is_broken t ≡ false → drop 1 (lines t) ≡ []
none-below [] h = refl
none-below (c ∷ t) h =
    ap (drop 1) (lines-step c t false (or-left _ _ h)) ∙ below-begun c (lines t) ∙ none-below t (or-right _ _ h)

pub below-none : (t : Text) → is_broken t ≡ false → joined (drop 1 (lines t)) ≡ []
below-none t none = ap joined (none-below t none)

-- a text with a newline, and what is after it
record Cut (t v : Text) : Type 0 where
  whole : t ≡ front t ++ (line_feed ∷ v)
  first : lines t ≡ (front t ++ newline) ∷ lines v

cut : (t : Text) → is_broken t ≡ true → (v : Text) × Cut t v
cut [] h = absurd cc
cut (c ∷ t) h = by_test (c == line_feed) refl (cut t)
  where
    front-is : (b : Bool) → (c == line_feed) ≡ b → front (c ∷ t) ≡ (if not b then c ∷ front t else [])
    front-is b e = take_while-cons (λ c. not (c == line_feed)) c t ∙ ap (λ b. if not b then c ∷ front t else []) e

    by_test : (b : Bool) → (c == line_feed) ≡ b → (is_broken t ≡ true → (v : Text) × Cut t v) → (v : Text) × Cut (c ∷ t) v
    by_test true e next =
        let is : c ≡ line_feed = (Decides-eqb _ _).0 e in (
          t,
          record {
            whole = ap (λ c. c ∷ t) is ∙ ap (λ u. u ++ (line_feed ∷ t)) (sym (front-is true e));
            first = lines-step c t true e ∙ ap (λ c. one c ∷ lines t) is ∙ ap (λ u. (u ++ newline) ∷ lines t) (sym (front-is true e));
          },
        )
    by_test false e next =
        let (v, k) = next (ap (λ b. b || is_broken t) (sym e) ∙ h) in (
          v,
          record {
            whole = ap (λ u. c ∷ u) k.whole ∙ ap (λ u. u ++ (line_feed ∷ v)) (sym (front-is false e));
            first = lines-step c t false e ∙ ap (begun_with c) k.first ∙ ap (λ u. (u ++ newline) ∷ lines v) (sym (front-is false e));
          },
        )

lines-newline : (u v : Text) → lines (line_newline exact u ++ v) ≡ line_newline exact u ∷ lines v
lines-newline u v = by_test (ends_in_return u)
  where
    by_test : (b : Bool) → lines ((if b then carriage_return ∷ newline else newline) ++ v) ≡ (if b then carriage_return ∷ newline else newline) ∷ lines v
    by_test true = refl
    by_test false = refl

lines-after : (t v : Text) → Cut t v → lines (after_first_line t) ≡ line_newline exact (front t) ∷ lines v
lines-after t v k =
    let u = front t in
    ap (λ s. lines (drop (length (first_line t)) s))
    (k.whole ∙ sym (append_assoc u newline v) ∙ ap (λ s. s ++ v) (sym (end-and-newline exact u))
    ∙ append_assoc (line_end exact u) (line_newline exact u) v)
    ∙ ap lines (drop-append_seam (line_end exact u) (line_newline exact u ++ v))
    ∙ lines-newline u v

-- what is after the first line, split into lines
module _ (t after : Text) (o : Option (Bor Text × Bor Text)) (broken : is_broken t ≡ true) (same : after ≡ after_first_line t) (parts : MatchOption o (lines after ≡ []) (λ p. lines after ≡ p.0.now ∷ lines p.1.now)) where
  pub is-newline : MatchOption o (is_broken t ≡ false) (λ p. IsTrue (is_broken t) × (p.0.now ≡ line_newline exact (front t)))
  is-newline = by_result o parts
    where
      by_result : (o : Option (Bor Text × Bor Text)) → MatchOption o (lines after ≡ []) (λ p. lines after ≡ p.0.now ∷ lines p.1.now)
          → MatchOption o (is_broken t ≡ false) (λ p. IsTrue (is_broken t) × (p.0.now ≡ line_newline exact (front t)))
      by_result None h = let (v, k) = cut t broken in let is = sym h ∙ ap lines same ∙ lines-after t v k in absurd cc
      by_result (Some p) h = let (v, k) = cut t broken in let is = sym h ∙ ap lines same ∙ lines-after t v k in (broken, cc)

  pub is-below : MatchOption o (joined (drop 1 (lines t)) ≡ []) (λ p. joined (drop 1 (lines t)) ≡ p.1.now)
  is-below = by_result o parts
    where
      by_result : (o : Option (Bor Text × Bor Text)) → MatchOption o (lines after ≡ []) (λ p. lines after ≡ p.0.now ∷ lines p.1.now)
          → MatchOption o (joined (drop 1 (lines t)) ≡ []) (λ p. joined (drop 1 (lines t)) ≡ p.1.now)
      by_result None h = let (v, k) = cut t broken in let is = sym h ∙ ap lines same ∙ lines-after t v k in absurd cc
      by_result (Some p) h =
          let (v, k) = cut t broken in
          let is = sym h ∙ ap lines same ∙ lines-after t v k in
          let rest : lines v ≡ lines p.1.now = cc in
          ap (λ (ls : List Text). joined (drop 1 ls)) k.first ∙ ap joined rest ∙ joined-lines p.1.now

-- ---- pages

pub gap-grows : (a b c d : Page) (depth inner last : ℕ) (g : code.Gap) (t : Text) → inner ≡ suc depth → last ≡ (if is_at_end g then depth else suc depth)
    → Grows (beside_bits (comments_of a.rules.comments) (list_before depth g) t) a b
    → Gains (below_text (rules_of b.rules) (is_at_start g) (is_at_end g) inner t) b c
    → Gains (units (rules_of c.rules) last) c d
    → Grows (gap_bits (rules_of a.rules) depth g t) a d
gap-grows a b c d depth inner last g t in_is last_is beside below units_are =
    let r = rules_of a.rules in
    let head = line_break r t in
    let inside = laid_lines r (is_at_start g) (is_at_end g) (Some (suc depth)) (joined (drop 1 (lines t))) in
    let end = units r (if is_at_end g then depth else suc depth) in
    grows-both (beside_bits r.comments (list_before depth g) t) (one (letters (head ++ (inside ++ end)))) a b d beside
    (grows-by (head ++ (inside ++ end)) b d
    (gains-as ((head ++ inside) ++ end) (head ++ (inside ++ end)) b d (append_assoc head inside end)
    (gains-both (head ++ inside) end b c d
    (gains-as _ (head ++ inside) b c (ap (λ q. below_text (rules_of q) (is_at_start g) (is_at_end g) inner t) beside.rules
    ∙ ap (λ n. below_text r (is_at_start g) (is_at_end g) n t) in_is) below)
    (gains-as _ end c d (ap (λ q. units (rules_of q) last) (below.rules ∙ beside.rules) ∙ ap (units r) last_is) units_are))))
