-- The print of an array, value by value, after one is inserted or removed with its line.
use Rattle.std.proofs.Common.{◌≡◌, ◌∙◌, refl, sym, ap, subst, ℕ, zero, suc, Bool, true, false, List, [], ◌∷◌, ◌++◌, length, Some, None, append_assoc, append-nil, arith}
use Rattle.std.specs.Prelude.{◌||◌, not, codes}
use Rattle.std.specs.List.{list_all}
use Rattle.toml_edit_model.specs.ArrayCalls.{inserted_at, removed_at}
use Rattle.toml_edit_model.specs.Comments.{after_first_line, first_line}
use Rattle.toml_edit_model.specs.Conversions.{with_decor}
use Rattle.toml_edit_model.specs.Mode.{Mode, shown_text}
use Rattle.toml_edit_model.specs.Slots.{changed_at}
use Rattle.toml_edit_model.specs.Syntax.{comma_text}
use Rattle.toml_edit_model.specs.Text.{Text, is_empty}
use Rattle.toml_edit_model.specs.Tree.{Decor, Node, Raw, owned, leaf, list, inline, table, tables, nothing, is_value_node, node_decor, shown_suffix}
use Rattle.toml_edit_laws.proofs.common.Tests.{and_left, and_right, and_both, or-true}
use Rattle.toml_edit_tree.specs.ArrayLines.{is_broken, placed, prefix_at, with_prefix}
use Rattle.toml_edit_edits.specs.LinesStay.{BeginsLine, HasLinesMore, text_of}
use Rattle.toml_edit_edits.proofs.LineLaws.{body, chunk, chunk-owned, chunk-placed, chunk-prefixed, gap-less, gap-more, longer-front}

prefix-here : (n : Node) (ns : List Node) → is_value_node n ≡ true → prefix_at 0 (n ∷ ns) ≡ (node_decor n).prefix
prefix-here (leaf s r d) ns h = refl
prefix-here (list f xs) ns h = refl
prefix-here (inline f ss) ns h = refl
prefix-here (table f ss) ns h = absurd cc
prefix-here (tables e xs) ns h = absurd cc
prefix-here nothing ns h = absurd cc

-- ---- lists of values

decorated-value : (d : Decor) (n : Node) → is_value_node n ≡ true → is_value_node (with_decor d n) ≡ true
decorated-value d (leaf s r e) h = refl
decorated-value d (list f xs) h = refl
decorated-value d (inline f ss) h = refl
decorated-value d (table f ss) h = absurd cc
decorated-value d (tables e xs) h = absurd cc
decorated-value d nothing h = absurd cc

abbrev pub AreValues : List Node → Type 0
AreValues ns = list_all is_value_node ns ≡ true

pub values-changed : (r : Raw) (i : ℕ) (ns : List Node) → AreValues ns → AreValues (changed_at i (with_prefix r) ns)
values-changed r i [] h = refl
values-changed r zero (n ∷ ns) h =
    and_both (is_value_node (with_prefix r n)) (list_all is_value_node ns)
    (decorated-value (record (node_decor n) { prefix = Some r }) n (and_left (is_value_node n) (list_all is_value_node ns) h))
    (and_right (is_value_node n) (list_all is_value_node ns) h)
values-changed r (suc i) (n ∷ ns) h =
    and_both (is_value_node n) (list_all is_value_node (changed_at i (with_prefix r) ns))
    (and_left (is_value_node n) (list_all is_value_node ns) h)
    (values-changed r i ns (and_right (is_value_node n) (list_all is_value_node ns) h))

pub values-removed : (i : ℕ) (ns : List Node) → AreValues ns → AreValues (removed_at i ns)
values-removed zero [] h = refl
values-removed (suc i) [] h = refl
values-removed zero (n ∷ ns) h = and_right (is_value_node n) (list_all is_value_node ns) h
values-removed (suc i) (n ∷ ns) h =
    and_both (is_value_node n) (list_all is_value_node (removed_at i ns))
    (and_left (is_value_node n) (list_all is_value_node ns) h)
    (values-removed i ns (and_right (is_value_node n) (list_all is_value_node ns) h))

pub values-inserted : (r : Raw) (v : Node) (i : ℕ) (ns : List Node) → AreValues ns → is_value_node v ≡ true → AreValues (inserted_at i (placed r v) ns)
values-inserted r v zero ns h value =
    and_both (is_value_node (placed r v)) (list_all is_value_node ns) (decorated-value (record { prefix = Some r; suffix = None }) v value) h
values-inserted r v (suc i) [] h value =
    and_both (is_value_node (placed r v)) true (decorated-value (record { prefix = Some r; suffix = None }) v value) refl
values-inserted r v (suc i) (n ∷ ns) h value =
    and_both (is_value_node n) (list_all is_value_node (inserted_at i (placed r v) ns))
    (and_left (is_value_node n) (list_all is_value_node ns) h)
    (values-inserted r v i ns (and_right (is_value_node n) (list_all is_value_node ns) h) value)

-- a list stays filled
filled-removed : (r : Raw) (p : Raw) (ns : List Node) (i : ℕ) → prefix_at (suc i) ns ≡ Some p
    → is_empty (changed_at i (with_prefix r) (removed_at i ns)) ≡ is_empty ns
filled-removed r p [] i h = absurd cc
filled-removed r p (n ∷ []) zero h = absurd cc
filled-removed r p (n ∷ m ∷ ns) zero h = refl
filled-removed r p (n ∷ ns) (suc i) h = refl

filled-inserted : (r : Raw) (v : Node) (p : Raw) (ns : List Node) (i : ℕ) → prefix_at i ns ≡ Some p
    → is_empty (changed_at (suc i) (with_prefix r) (inserted_at i v ns)) ≡ is_empty ns
filled-inserted r v p [] i h = absurd cc
filled-inserted r v p (n ∷ ns) zero h = refl
filled-inserted r v p (n ∷ ns) (suc i) h = refl

-- the gap that is left of two
abbrev pub cut : Text → Text → Text
cut g h = first_line g ++ after_first_line h

module _ (mode : Mode) where
  abbrev sh : Text → Text
  sh t = shown_text mode t

  longer-chunk : (v a b : Text) (is_first : Bool) (n : Node) → HasLinesMore v a b → HasLinesMore v (chunk mode is_first n a) (chunk mode is_first n b)
  longer-chunk v a b is_first n h =
      longer-front v _ _ _ (longer-front v _ _ _ (longer-front v a b (shown_suffix mode [] (node_decor n)) h))

  longer-list : (v : Text) (comma : Bool) (t u : Text) (xs ys : List Node) (is_first : Bool) (n : Node) → (comma || not (is_empty xs)) ≡ (comma || not (is_empty ys))
      → HasLinesMore v (body mode comma t xs false) (body mode comma u ys false)
      → HasLinesMore v (body mode comma t (n ∷ xs) is_first) (body mode comma u (n ∷ ys) is_first)
  longer-list v comma t u xs ys is_first n e h =
      subst (λ b. HasLinesMore v (chunk mode is_first n (comma_text b ++ body mode comma t xs false)) (body mode comma u (n ∷ ys) is_first)) (sym e)
      (longer-chunk v _ _ is_first n (longer-front v _ _ (comma_text (comma || not (is_empty ys))) h))

  -- ---- removal

  pub less-within : (comma : Bool) (t : Text) (xs : List Node) (i : ℕ) (is_first : Bool) (g h : Text) → AreValues xs
      → prefix_at i xs ≡ Some (owned g) → prefix_at (suc i) xs ≡ Some (owned h) → is_broken g ≡ true → is_broken h ≡ true
      → (v : Text) × HasLinesMore v (body mode comma t (changed_at i (with_prefix (owned (cut g h))) (removed_at i xs)) is_first) (body mode comma t xs is_first)
  less-within comma t [] i is_first g h are before after broken also = absurd cc
  less-within comma t (n ∷ []) zero is_first g h are before after broken also = absurd cc
  less-within comma t (n ∷ m ∷ ns) zero is_first g h are before after broken also =
      let n-value = and_left (is_value_node n) (list_all is_value_node (m ∷ ns)) are in
      let m-value = and_left (is_value_node m) (list_all is_value_node ns) (and_right (is_value_node n) (list_all is_value_node (m ∷ ns)) are) in
      let s = shown_suffix mode [] (node_decor n) in
      let rest = comma_text (comma || not (is_empty ns)) ++ body mode comma t ns false in
      let tail = text_of mode m ++ (shown_suffix mode [] (node_decor m) ++ rest) in
      let new : body mode comma t (with_prefix (owned (cut g h)) m ∷ ns) is_first ≡ sh (cut g h) ++ tail =
      chunk-prefixed mode is_first m (cut g h) rest m-value in
      let old : body mode comma t (n ∷ m ∷ ns) is_first ≡ sh g ++ (text_of mode n ++ ((s ++ codes ",") ++ (sh h ++ tail))) =
      chunk-owned mode is_first n g (comma_text (comma || true) ++ body mode comma t (m ∷ ns) false) (sym (prefix-here n (m ∷ ns) n-value) ∙ before)
      ∙ ap (λ b. sh g ++ (text_of mode n ++ (s ++ (comma_text b ++ body mode comma t (m ∷ ns) false)))) (or-true comma)
      ∙ ap (λ x. sh g ++ (text_of mode n ++ (s ++ (codes "," ++ x)))) (chunk-owned mode false m h rest (sym (prefix-here m ns m-value) ∙ after))
      ∙ ap (λ x. sh g ++ (text_of mode n ++ x)) (sym (append_assoc s (codes ",") (sh h ++ tail))) in (
        text_of mode n,
        subst (λ x. HasLinesMore (text_of mode n) x (body mode comma t (n ∷ m ∷ ns) is_first)) (sym new)
            (subst (λ x. HasLinesMore (text_of mode n) (sh (cut g h) ++ tail) x) (sym old)
            (gap-less mode g h (text_of mode n) (s ++ codes ",") tail broken also)),
      )
  less-within comma t (n ∷ ns) (suc i) is_first g h are before after broken also =
      let below = less-within comma t ns i false g h (and_right (is_value_node n) (list_all is_value_node ns) are) before after broken also in
      let filled = filled-removed (owned (cut g h)) (owned h) ns i after in
      (below.0, longer-list below.0 comma t t _ ns is_first n (ap (λ b. comma || not b) filled) below.1)

  pub less-at-end : (xs : List Node) (i : ℕ) (is_first : Bool) (g h : Text) → AreValues xs
      → prefix_at i xs ≡ Some (owned g) → suc i ≡ length xs → is_broken g ≡ true → is_broken h ≡ true
      → (v : Text) × HasLinesMore v (body mode true (sh (cut g h)) (removed_at i xs) is_first) (body mode true (sh h) xs is_first)
  less-at-end [] i is_first g h are before last broken also = absurd cc
  less-at-end (n ∷ []) zero is_first g h are before last broken also =
      let n-value = and_left (is_value_node n) true are in
      let s = shown_suffix mode [] (node_decor n) in
      let old : body mode true (sh h) (n ∷ []) is_first ≡ sh g ++ (text_of mode n ++ ((s ++ codes ",") ++ (sh h ++ []))) =
      chunk-owned mode is_first n g (codes "," ++ sh h) (sym (prefix-here n [] n-value) ∙ before)
      ∙ ap (λ x. sh g ++ (text_of mode n ++ (s ++ (codes "," ++ x)))) (sym (append-nil (sh h)))
      ∙ ap (λ x. sh g ++ (text_of mode n ++ x)) (sym (append_assoc s (codes ",") (sh h ++ []))) in (
        text_of mode n,
        subst (λ x. HasLinesMore (text_of mode n) x (body mode true (sh h) (n ∷ []) is_first)) (append-nil (sh (cut g h)))
            (subst (λ x. HasLinesMore (text_of mode n) (sh (cut g h) ++ []) x) (sym old)
            (gap-less mode g h (text_of mode n) (s ++ codes ",") [] broken also)),
      )
  less-at-end (n ∷ m ∷ ns) zero is_first g h are before last broken also = absurd (omega (arith, last))
  less-at-end (n ∷ ns) (suc i) is_first g h are before last broken also =
      let below = less-at-end ns i false g h (and_right (is_value_node n) (list_all is_value_node ns) are) before (omega (arith, last)) broken also in
      (below.0, longer-list below.0 true (sh (cut g h)) (sh h) (removed_at i ns) ns is_first n refl below.1)

  -- ---- insertion

  module _ (v : Node) (value : is_value_node v ≡ true) (g above after : Text) (broken : is_broken g ≡ true) (begun : BeginsLine above) where
    abbrev new_value : Node
    new_value = placed (owned (first_line g ++ above)) v

    abbrev next : Text
    next = after ++ after_first_line g

    pub more-within : (comma : Bool) (t : Text) (xs : List Node) (i : ℕ) (is_first : Bool) → AreValues xs → prefix_at i xs ≡ Some (owned g)
        → HasLinesMore (text_of mode v) (body mode comma t xs is_first)
        (body mode comma t (changed_at (suc i) (with_prefix (owned next)) (inserted_at i new_value xs)) is_first)
    more-within comma t [] i is_first are here = absurd cc
    more-within comma t (n ∷ ns) zero is_first are here =
        let n-value = and_left (is_value_node n) (list_all is_value_node ns) are in
        let rest = comma_text (comma || not (is_empty ns)) ++ body mode comma t ns false in
        let tail = text_of mode n ++ (shown_suffix mode [] (node_decor n) ++ rest) in
        let old : body mode comma t (n ∷ ns) is_first ≡ sh g ++ tail = chunk-owned mode is_first n g rest (sym (prefix-here n ns n-value) ∙ here) in
        let new : body mode comma t (new_value ∷ with_prefix (owned next) n ∷ ns) is_first
        ≡ sh (first_line g ++ above) ++ (text_of mode v ++ (codes "," ++ (sh next ++ tail))) =
        chunk-placed mode is_first v (first_line g ++ above) (comma_text (comma || true) ++ body mode comma t (with_prefix (owned next) n ∷ ns) false) value
        ∙ ap (λ b. sh (first_line g ++ above) ++ (text_of mode v ++ (comma_text b ++ body mode comma t (with_prefix (owned next) n ∷ ns) false))) (or-true comma)
        ∙ ap (λ x. sh (first_line g ++ above) ++ (text_of mode v ++ (codes "," ++ x))) (chunk-prefixed mode false n next rest n-value) in
        subst (λ x. HasLinesMore (text_of mode v) x (body mode comma t (new_value ∷ with_prefix (owned next) n ∷ ns) is_first)) (sym old)
        (subst (λ x. HasLinesMore (text_of mode v) (sh g ++ tail) x) (sym new) (gap-more mode g above after (text_of mode v) (codes ",") tail broken begun))
    more-within comma t (n ∷ ns) (suc i) is_first are here =
        longer-list (text_of mode v) comma t t ns _ is_first n
        (ap (λ b. comma || not b) (sym (filled-inserted (owned next) new_value (owned g) ns i here)))
        (more-within comma t ns i false (and_right (is_value_node n) (list_all is_value_node ns) are) here)

    pub more-at-end : (xs : List Node) (is_first : Bool)
        → HasLinesMore (text_of mode v) (body mode true (sh g) xs is_first) (body mode true (sh next) (inserted_at (length xs) new_value xs) is_first)
    more-at-end [] is_first =
        let new : body mode true (sh next) (new_value ∷ []) is_first ≡ sh (first_line g ++ above) ++ (text_of mode v ++ (codes "," ++ (sh next ++ []))) =
        chunk-placed mode is_first v (first_line g ++ above) (codes "," ++ sh next) value
        ∙ ap (λ x. sh (first_line g ++ above) ++ (text_of mode v ++ (codes "," ++ x))) (sym (append-nil (sh next))) in
        subst (λ x. HasLinesMore (text_of mode v) x (body mode true (sh next) (new_value ∷ []) is_first)) (append-nil (sh g))
        (subst (λ x. HasLinesMore (text_of mode v) (sh g ++ []) x) (sym new) (gap-more mode g above after (text_of mode v) (codes ",") [] broken begun))
    more-at-end (n ∷ ns) is_first =
        longer-list (text_of mode v) true (sh g) (sh next) ns (inserted_at (length ns) new_value ns) is_first n refl (more-at-end ns false)
