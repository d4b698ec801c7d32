-- The decors and limits of a line, by those of another line of the same table.
use Rattle.std.proofs.Common.{◌≡◌, refl, sym, ◌∙◌, ap, subst, inl, inr, ◌+◌, ◌≤◌, arith, Bool, true, false, List, [], ◌∷◌, ◌++◌, length}
use Rattle.std.proofs.Common.{Option, Some, None}
use Rattle.std.specs.Prelude.{◌&&◌, nat_le, if◌then◌else◌}
use Rattle.std.specs.List.{AllByRecursion, list_all}
use Rattle.std.proofs.lemmas.Bool.{leb-true, le-leb}
use Rattle.std.proofs.lemmas.List.{length-append}
use Rattle.toml_edit_model.specs.Mode.{Mode, line_end, holds_return, but_last}
use Rattle.toml_edit_model.specs.Text.{Text}
use Rattle.toml_edit_model.specs.Trivia.{blank, is_blank, IsWhiteSpace, IsWholeTrivia}
use Rattle.toml_edit_model.specs.Syntax.{IsSpacedSegment, is_short, nesting_limit, keeps_limits, depth, has_short_keys}
use Rattle.toml_edit_model.specs.Tree.{Raw, owned, span, Decor, Key, Node}
use Rattle.toml_edit_model.specs.Tree.{node_decor, shown_side, shown_prefix, shown_suffix}
use Rattle.toml_edit_model.specs.Print.{one_space, segments, segments_after, dot_prefix, last_leaf, value_of}
use Rattle.toml_edit_model.specs.Print.{line_statement}
use Rattle.toml_edit_model.specs.Fits.{EndsLine, PrintedLineSuits}
use Rattle.toml_edit_laws.specs.Locality.{value_line}
use Rattle.toml_edit_laws.proofs.common.Tests.{and_left, and_right, and_both, append-nil}
use Rattle.toml_edit_laws.proofs.normal_texts.LinesInModes.{segments-length}
use Rattle.toml_edit_edit_laws.specs.Fitting.{IsSpaced, IsKeptOrSpaced, FitsAnywhere, IsHarmlessSlot}
use Rattle.toml_edit_edit_laws.proofs.renaming.Lines.{last-leaf}

-- ---- white space

pub white-trivia : (t : Text) → IsWhiteSpace t → IsWholeTrivia t
white-trivia [] h = ([], tt, refl)
white-trivia (c ∷ t) h =
    let (ps, each, e) = white-trivia t (and_right (is_blank c) (list_all is_blank t) h) in
    (blank c ∷ ps, (and_left (is_blank c) (list_all is_blank t) h, each), ap (λ u. c ∷ u) e)

white-but-last : (t : Text) → IsWhiteSpace t → IsWhiteSpace (but_last t)
white-but-last [] h = refl
white-but-last (c ∷ []) h = refl
white-but-last (c ∷ d ∷ t) h =
    and_both (is_blank c) (list_all is_blank (but_last (d ∷ t))) (and_left (is_blank c) (list_all is_blank (d ∷ t)) h)
    (white-but-last (d ∷ t) (and_right (is_blank c) (list_all is_blank (d ∷ t)) h))

white-end : (mode : Mode) (t : Text) → IsWhiteSpace t → EndsLine mode t
white-end mode t h = (line_end mode t, [], by_test (holds_return mode t), inl refl, sym (append-nil (line_end mode t)))
  where
    by_test : (b : Bool) → IsWhiteSpace (if b then but_last t else t)
    by_test true = white-but-last t h
    by_test false = h

module _ (mode : Mode) where
  pub white-side : (r : Option Raw) → IsWhiteSpace (shown_side mode [] r) → IsWhiteSpace (shown_side mode one_space r)
  white-side None h = refl
  white-side (Some (owned t)) h = h
  white-side (Some (span i j)) h = refl

  -- ---- decors beside the equals sign

  abbrev KeySuits : Decor → Type 0
  KeySuits d = IsWholeTrivia (shown_prefix mode [] d) × IsWhiteSpace (shown_suffix mode one_space d)

  abbrev ValueSuits : Decor → Type 0
  ValueSuits d = IsWhiteSpace (shown_prefix mode one_space d) × EndsLine mode (shown_suffix mode [] d)

  spaced-key : (d : Decor) → IsSpaced mode d → KeySuits d
  spaced-key d h = (white-trivia (shown_prefix mode [] d) h.0, white-side d.suffix h.1)

  spaced-value : (d : Decor) → IsSpaced mode d → ValueSuits d
  spaced-value d h = (white-side d.prefix h.0, white-end mode (shown_suffix mode [] d) h.1)

  kept-or-spaced : (P : Decor → Type 0) (old d : Decor) → (IsSpaced mode d → P d) → IsKeptOrSpaced mode old d → P old → P d
  kept-or-spaced P old d f (inl e) h = subst P (sym e) h
  kept-or-spaced P old d f (inr s) h = f s

  -- ---- the keys before it

  after-spaced : (ks : List Key) (x : Key) (xs : List Key) (k : Key)
      → (IsWhiteSpace (dot_prefix mode x) → IsWhiteSpace (dot_prefix mode k))
      → AllByRecursion IsSpacedSegment (segments_after mode (ks ++ (x ∷ xs)))
      → AllByRecursion IsSpacedSegment (segments_after mode (ks ++ (k ∷ [])))
  after-spaced [] x [] k f h = ((f h.0.0, refl), tt)
  after-spaced [] x (y ∷ xs) k f h = ((f h.0.0, refl), tt)
  after-spaced (j ∷ []) x xs k f h = (h.0, after-spaced [] x xs k f h.1)
  after-spaced (j ∷ i ∷ ks) x xs k f h = (h.0, after-spaced (i ∷ ks) x xs k f h.1)

  pub keys-spaced : (ks : List Key) (x : Key) (xs : List Key) (k : Key)
      → (IsWhiteSpace (dot_prefix mode x) → IsWhiteSpace (dot_prefix mode k))
      → AllByRecursion IsSpacedSegment (segments mode (ks ++ (x ∷ xs)))
      → AllByRecursion IsSpacedSegment (segments mode (ks ++ (k ∷ [])))
  keys-spaced [] x xs k f h = ((refl, refl), tt)
  keys-spaced (j ∷ []) x xs k f h = (h.0, after-spaced [] x xs k f h.1)
  keys-spaced (j ∷ i ∷ ks) x xs k f h = (h.0, after-spaced (i ∷ ks) x xs k f h.1)

  pub keys-short : (ks : List Key) (x : Key) (xs : List Key) (k : Key) → is_short (segments mode (ks ++ (x ∷ xs))) ≡ true
      → is_short (segments mode (ks ++ (k ∷ []))) ≡ true
  keys-short ks x xs k h =
      let old : length (segments mode (ks ++ (x ∷ xs))) ≡ length ks + length (x ∷ xs) =
      segments-length mode (ks ++ (x ∷ xs)) ∙ length-append ks (x ∷ xs) in
      let new : length (segments mode (ks ++ (k ∷ []))) ≡ length ks + 1 =
      segments-length mode (ks ++ (k ∷ [])) ∙ length-append ks (k ∷ []) in
      let room : length (segments mode (ks ++ (x ∷ xs))) ≤ nesting_limit = leb-true _ _ h in
      le-leb _ _ (omega (arith, old, new, room))

  -- ---- lines

  pub replaced-suits : (ks : List Key) (l m : Key) (old n : Node) → IsKeptOrSpaced mode l.leaf m.leaf
      → IsKeptOrSpaced mode l.dotted m.dotted
      → IsKeptOrSpaced mode (node_decor old) (node_decor n) → FitsAnywhere mode n
      → PrintedLineSuits mode (value_line mode (ks ++ (l ∷ [])) old) → PrintedLineSuits mode (value_line mode (ks ++ (m ∷ [])) n)
  replaced-suits ks l m old n on_leaf on_dots on_value fits h =
      let f = h.0 in
      let key : KeySuits m.leaf =
      kept-or-spaced KeySuits l.leaf m.leaf (spaced-key m.leaf) on_leaf
      (subst KeySuits (last-leaf ks l) (f.leading, f.before_equals)) in
      let there : KeySuits (last_leaf (ks ++ (m ∷ []))) = subst KeySuits (sym (last-leaf ks m)) key in
      let value : ValueSuits (node_decor n) =
      kept-or-spaced ValueSuits (node_decor old) (node_decor n) (spaced-value (node_decor n)) on_value (f.after_equals, f.trailing) in
      let dots : IsWhiteSpace (dot_prefix mode l) → IsWhiteSpace (dot_prefix mode m) =
      kept-or-spaced (λ d. IsWhiteSpace (shown_prefix mode [] d)) l.dotted m.dotted (λ s. s.0) on_dots in (
        record {
          leading = there.0;
          segments = keys-spaced ks l [] m dots f.segments;
          before_equals = there.1;
          after_equals = value.0;
          trailing = value.1;
        },
        fits.0,
      )

  -- a line after another that goes on from the same keys
  pub added-suits : (ks : List Key) (k : Key) (n : Node) → IsHarmlessSlot mode k n
      → AllByRecursion IsSpacedSegment (segments mode (ks ++ (k ∷ [])))
      → PrintedLineSuits mode (value_line mode (ks ++ (k ∷ [])) n)
  added-suits ks k n harmless spaced =
      let key : KeySuits (last_leaf (ks ++ (k ∷ []))) = subst KeySuits (sym (last-leaf ks k)) (spaced-key k.leaf harmless.0) in
      let value : ValueSuits (node_decor n) = spaced-value (node_decor n) harmless.2 in (
        record { leading = key.0; segments = spaced; before_equals = key.1; after_equals = value.0; trailing = value.1 },
        harmless.3.0,
      )

  pub value-limits : (ks : List Key) (n : Node) → FitsAnywhere mode n → is_short (segments mode ks) ≡ true
      → keeps_limits (line_statement mode (value_line mode ks n)) ≡ true
  value-limits ks n fits short =
      and_both (is_short (segments mode ks))
      (nat_le (depth (value_of mode n)) nesting_limit && has_short_keys (value_of mode n)) short fits.1
