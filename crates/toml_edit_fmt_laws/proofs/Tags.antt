-- The kept keys of a formatted document are laid out as the keys are: what mentions say, but for places in the text.
use Rattle.std.proofs.Common.{◌≡◌, refl, sym, ap, ◌∙◌, ℕ, Bool, true, false, List, [], ◌∷◌, Option, Some, None}
use Rattle.std.specs.Prelude.{◌&&◌, if◌then◌else◌, find, map, option_map, unwrap_or}
use Rattle.std.specs.Option.{option_or}
use Rattle.toml_edit_model.specs.Kept.{kept_mention, kept_segment, kept_path, unspaced_end, unspaced_ends}
use Rattle.toml_edit_model.specs.Paths.{Path, to_key, Mention, next_start, line_mentions, header_mentions, in_last, elements_at}
use Rattle.toml_edit_model.specs.Paths.{passing_role}
use Rattle.toml_edit_model.specs.Roles.{Role, dotted_role}
use Rattle.toml_edit_model.specs.Settled.{same_segment, same_segments, own_path, is_kept}
use Rattle.toml_edit_model.specs.Syntax.{Segment}
use Rattle.toml_edit_model.specs.Text.{same_text}
use Rattle.toml_edit_laws.proofs.common.Cores.{Core, core}
use Rattle.toml_edit_laws.proofs.common.OptionSteps.{map-or, map-twice}
use Rattle.toml_edit_laws.proofs.common.Searches.{find-map}
use Rattle.toml_edit_laws.proofs.common.Tests.{same_text-refl}
use Rattle.toml_edit_laws.proofs.normal_texts.KeptAnew.{headed, kept-found}
use Rattle.toml_edit_laws.proofs.normal_texts.SettledStays.{same_segments-is}
use Rattle.toml_edit_laws.proofs.normal_texts.TaggedMentions.{at}
use Rattle.toml_edit_fmt_laws.specs.Rules.{Rules}
use Rattle.toml_edit_fmt_laws.specs.Formatted.{laid_spelling, laid_segment, laid_path}

-- ---- what is kept, by tags

abbrev pub Tag : Type 0 → Type 0
Tag X = Core × X

abbrev pub tag : {S X : Type 0} → (Mention S → X) → Mention S → Tag X
tag g m = (core m, g m)

abbrev pub tags : {S X : Type 0} → (Mention S → X) → List (Mention S) → List (Tag X)
tags g ms = map (tag g) ms

abbrev pub on_tag : {X : Type 0} → (X → X) → Tag X → Tag X
on_tag h t = (t.0, h t.1)

abbrev pub found : {X : Type 0} → (Core → Bool) → List (Tag X) → Option X
found test ts = option_map (λ t. t.1) (find (λ t. test t.0) ts)

abbrev pub kept_at : {X : Type 0} → List (Tag X) → Path → Option X
kept_at ts p = option_or (found (headed p) ts) (found (at p) ts)

found-tags : {S X : Type 0} (g : Mention S → X) (test : Core → Bool) (ms : List (Mention S))
    → option_map g (find (λ m. test (core m)) ms) ≡ found test (tags g ms)
found-tags g test ms =
    sym (map-twice (tag g) (λ t. t.1) (find (λ m. test (core m)) ms))
    ∙ ap (option_map (λ t. t.1)) (sym (find-map (λ t. test t.0) (tag g) ms))

pub kept-tags : {S X : Type 0} (g : Mention S → X) (ms : List (Mention S)) (p : Path)
    → option_map g (kept_mention ms p) ≡ kept_at (tags g ms) p
kept-tags {S = S} g ms p =
    ap (option_map g) (kept-found ms p)
    ∙ map-or g (find (λ m. headed p (core m)) ms) (find (λ m. at p (core m)) ms)
    ∙ ap (λ o. option_or o (option_map g (find (λ m. at p (core m)) ms))) (found-tags g (headed p) ms)
    ∙ ap (option_or (found (headed p) (tags g ms))) (found-tags g (at p) ms)

found-on : {X : Type 0} (h : X → X) (test : Core → Bool) (ts : List (Tag X)) → found test (map (on_tag h) ts) ≡ option_map h (found test ts)
found-on h test ts =
    ap (option_map (λ t. t.1)) (find-map (λ t. test t.0) (on_tag h) ts)
    ∙ map-twice (on_tag h) (λ t. t.1) (find (λ t. test t.0) ts)
    ∙ sym (map-twice (λ t. t.1) h (find (λ t. test t.0) ts))

pub kept-on : {X : Type 0} (h : X → X) (ts : List (Tag X)) (p : Path) → kept_at (map (on_tag h) ts) p ≡ option_map h (kept_at ts p)
kept-on h ts p =
    ap (λ o. option_or o (found (at p) (map (on_tag h) ts))) (found-on h (headed p) ts)
    ∙ ap (option_or (option_map h (found (headed p) ts))) (found-on h (at p) ts)
    ∙ sym (map-or h (found (headed p) ts) (found (at p) ts))

pub unwrap-on : {X : Type 0} (h : X → X) (o : Option X) (x : X) → unwrap_or (option_map h o) (h x) ≡ h (unwrap_or o x)
unwrap-on h None x = refl
unwrap-on h (Some y) x = refl

-- ---- kept segments

abbrev pub segs : {S : Type 0} → List (Mention S) → List (Tag Segment)
segs ms = tags (λ m. m.segment) ms

abbrev seg_at : List (Tag Segment) → Tag Segment → Segment
seg_at ts t = unwrap_or (kept_at ts t.0.0) t.1

segment-at : {S : Type 0} (ms : List (Mention S)) (own : List (Mention S))
    → map (kept_segment ms) own ≡ map (seg_at (segs ms)) (segs own)
segment-at ms [] = refl
segment-at ms (m ∷ own) =
    ap (λ o. unwrap_or o m.segment ∷ map (kept_segment ms) own) (kept-tags (λ k. k.segment) ms m.path)
    ∙ ap (λ xs. seg_at (segs ms) (tag (λ k. k.segment) m) ∷ xs) (segment-at ms own)

own-segs : {S : Type 0} (own : List (Mention S)) → own_path own ≡ map (λ t. t.1) (segs own)
own-segs [] = refl
own-segs (m ∷ own) = ap (λ xs. m.segment ∷ xs) (own-segs own)

segment-same : (s : Segment) → same_segment s s ≡ true
segment-same s =
    ap (λ b. (b && same_text s.after s.after) && (same_text s.key s.key && same_text s.spelled s.spelled)) (same_text-refl s.before)
    ∙ ap (λ b. b && (same_text s.key s.key && same_text s.spelled s.spelled)) (same_text-refl s.after)
    ∙ ap (λ b. b && same_text s.spelled s.spelled) (same_text-refl s.key)
    ∙ same_text-refl s.spelled

segments-same : (p : List Segment) → same_segments p p ≡ true
segments-same [] = refl
segments-same (s ∷ p) = ap (λ b. b && same_segments p p) (segment-same s) ∙ segments-same p

module _ (r : Rules) where
  abbrev laid : Bool → Segment → Segment
  laid b s =
      record { before = if b then [] else s.before; key = s.key; spelled = laid_spelling r s; after = if b then [] else s.after }

  end-laid : (b : Bool) (p : List Segment) → map (laid b) (unspaced_end p) ≡ unspaced_end (map (laid b) p)
  end-laid b [] = refl
  end-laid true (s ∷ []) = refl
  end-laid false (s ∷ []) = refl
  end-laid b (s ∷ t ∷ p) = ap (λ q. laid b s ∷ q) (end-laid b (t ∷ p))

  ends-laid : (b : Bool) (p : List Segment) → map (laid b) (unspaced_ends p) ≡ unspaced_ends (map (laid b) p)
  ends-laid b [] = refl
  ends-laid true (s ∷ p) = end-laid true (record s { before = [] } ∷ p)
  ends-laid false (s ∷ p) = end-laid false (record s { before = [] } ∷ p)

  seg-on : (ts us : List (Tag Segment))
      → map (seg_at (map (on_tag (laid_segment r)) ts)) (map (on_tag (laid_segment r)) us) ≡ map (laid_segment r) (map (seg_at ts) us)
  seg-on ts [] = refl
  seg-on ts (u ∷ us) =
      ap (λ o. unwrap_or o (laid_segment r u.1) ∷ map (seg_at (map (on_tag (laid_segment r)) ts)) (map (on_tag (laid_segment r)) us))
      (kept-on (laid_segment r) ts u.0.0)
      ∙ ap (λ x. x ∷ map (seg_at (map (on_tag (laid_segment r)) ts)) (map (on_tag (laid_segment r)) us))
      (unwrap-on (laid_segment r) (kept_at ts u.0.0) u.1)
      ∙ ap (λ xs. laid_segment r (seg_at ts u) ∷ xs) (seg-on ts us)

  own-on : (us : List (Tag Segment)) → map (λ t. t.1) (map (on_tag (laid_segment r)) us) ≡ map (laid_segment r) (map (λ t. t.1) us)
  own-on [] = refl
  own-on (u ∷ us) = ap (λ xs. laid_segment r u.1 ∷ xs) (own-on us)

  -- keys that are kept are so when they are laid out
  pub kept-laid : {S T : Type 0} (ms own : List (Mention S)) (ns new : List (Mention T))
      → segs ns ≡ map (on_tag (laid_segment r)) (segs ms) → segs new ≡ map (on_tag (laid_segment r)) (segs own)
      → is_kept ms own ≡ true → is_kept ns new ≡ true
  kept-laid ms own ns new e g h =
      let old : own_path own ≡ kept_path ms own = same_segments-is (own_path own) (kept_path ms own) h in
      let path : own_path new ≡ map (laid_segment r) (own_path own) =
      own-segs new ∙ ap (map (λ t. t.1)) g ∙ own-on (segs own) ∙ ap (map (laid_segment r)) (sym (own-segs own)) in
      let kept : map (kept_segment ns) new ≡ map (laid_segment r) (map (kept_segment ms) own) =
      segment-at ns new ∙ ap (λ ts. map (seg_at ts) (segs new)) e
      ∙ ap (map (seg_at (map (on_tag (laid_segment r)) (segs ms)))) g
      ∙ seg-on (segs ms) (segs own) ∙ ap (map (laid_segment r)) (sym (segment-at ms own)) in
      let same : own_path new ≡ kept_path ns new =
      path ∙ ap (map (laid_segment r)) old ∙ ends-laid r.dots (map (kept_segment ms) own) ∙ ap unspaced_ends (sym kept) in
      ap (same_segments (own_path new)) (sym same) ∙ segments-same (own_path new)

  -- ---- the tags of a path that is laid out

  pub line-segs : {S T : Type 0} (source : S) (other : T) (i j : ℕ) (p : Path) (ss : List Segment)
      → segs (line_mentions other j p (laid_path r ss)) ≡ map (on_tag (laid_segment r)) (segs (line_mentions source i p ss))
  line-segs source other i j p [] = refl
  line-segs source other i j p (s ∷ []) = refl
  line-segs source other i j p (s ∷ t ∷ rest) =
      ap (λ xs. ((to_key p s.key, dotted_role), laid_segment r s) ∷ xs)
      (line-segs source other (next_start i s) (next_start j (laid_segment r s)) (to_key p s.key) (t ∷ rest))

  pub header-segs : {S T : Type 0} (source : S) (other : T) (arrays : List Path) (role : Role) (i j : ℕ) (p : Path) (ss : List Segment)
      → segs (header_mentions other arrays role j p (laid_path r ss))
      ≡ map (on_tag (laid_segment r)) (segs (header_mentions source arrays role i p ss))
  header-segs source other arrays role i j p [] = refl
  header-segs source other arrays role i j p (s ∷ []) = refl
  header-segs source other arrays role i j p (s ∷ t ∷ rest) =
      ap (λ xs. ((to_key p s.key, passing_role (elements_at arrays (to_key p s.key))), laid_segment r s) ∷ xs)
      (header-segs source other arrays role (next_start i s) (next_start j (laid_segment r s))
      (in_last (elements_at arrays (to_key p s.key)) (to_key p s.key)) (t ∷ rest))
