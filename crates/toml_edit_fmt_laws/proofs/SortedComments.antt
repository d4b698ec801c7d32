-- The comments before statements are all there after a sort.
use Rattle.std.proofs.Common.{◌≡◌, refl, sym, ap, subst, ◌∙◌, suc, Bool, true, false, List, [], ◌∷◌, ◌++◌, length, append_assoc}
use Rattle.std.specs.Prelude.{if◌then◌else◌, map, flat_map}
use Rattle.std.specs.List.{AllByRecursion, list_any}
use Rattle.std.specs.List.Sorted.{IsPermutation}
use Rattle.std.proofs.lemmas.Grind.{flat_map-append}
use Rattle.std.proofs.lemmas.List.Sorted.{IsPermutation-refl, IsPermutation-trans, IsPermutation-append_left, IsPermutation-append_right, IsPermutation-append_comm}
use Rattle.toml_edit_model.specs.Comments.{comments}
use Rattle.toml_edit_model.specs.Order.{insert_by, sorted_by}
use Rattle.toml_edit_model.specs.Syntax.{Statement, newline_after}
use Rattle.toml_edit_model.specs.Text.{Text}
use Rattle.toml_edit_model.specs.Trivia.{IsWholeTrivia}
use Rattle.toml_edit_laws.proofs.common.Each.{all-append}
use Rattle.toml_edit_laws.proofs.common.OrderLaws.{all-sorted}
use Rattle.toml_edit_laws.proofs.common.Tests.{append-nil}
use Rattle.toml_edit_fmt_laws.specs.Rules.{Rules}
use Rattle.toml_edit_fmt_laws.specs.Laying.{last_line}
use Rattle.toml_edit_fmt_laws.specs.Formatted.{State, start, leading_of}
use Rattle.toml_edit_fmt_laws.specs.Sorted.{Names, same_names, begins_group, lines_before, with_leading, with_head, with_newlines, goes_first, in_order, sorted_group, is_key_line, sorted_statements}
use Rattle.toml_edit_fmt_laws.specs.SortedPromises.{SortedKeepsComments}
use Rattle.toml_edit_fmt_laws.proofs.LeadingRows.{parts}
use Rattle.toml_edit_fmt_laws.proofs.SortedGroups.{order-length, joined-line, by_groups}
use Rattle.toml_edit_fmt_laws.proofs.SortedAgain.{Whole, Member, whole-statements, leading-set, leading-kept, kind-led}

-- ---- lists of lists

module _ {A B : Type 0} (f : A → List B) (before : A → A → Bool) where
  flat-insert : (a : A) (xs : List A) → IsPermutation (f a ++ flat_map f xs) (flat_map f (insert_by before a xs))
  flat-insert a [] = IsPermutation-refl (f a ++ [])
  flat-insert a (x ∷ xs) = by_test (before a x) (flat-insert a xs)
    where
      by_test : (b : Bool) → IsPermutation (f a ++ flat_map f xs) (flat_map f (insert_by before a xs))
          → IsPermutation (f a ++ (f x ++ flat_map f xs)) (flat_map f (if b then a ∷ x ∷ xs else x ∷ insert_by before a xs))
      by_test true ih = IsPermutation-refl (f a ++ (f x ++ flat_map f xs))
      by_test false ih =
          let rest = flat_map f xs in
          let crossed : IsPermutation (f a ++ (f x ++ rest)) (f x ++ (f a ++ rest)) =
          subst (λ ys. IsPermutation ys (f x ++ (f a ++ rest))) (append_assoc (f a) (f x) rest)
          (subst (IsPermutation ((f a ++ f x) ++ rest)) (append_assoc (f x) (f a) rest)
          (IsPermutation-append_left rest (f a ++ f x) (f x ++ f a) (IsPermutation-append_comm (f a) (f x)))) in
          IsPermutation-trans (f a ++ (f x ++ rest)) (f x ++ (f a ++ rest)) (f x ++ flat_map f (insert_by before a xs)) crossed
          (IsPermutation-append_right (f x) (f a ++ rest) (flat_map f (insert_by before a xs)) ih)

  flat-sorted : (xs : List A) → IsPermutation (flat_map f xs) (flat_map f (sorted_by before xs))
  flat-sorted [] = IsPermutation-refl []
  flat-sorted (x ∷ xs) =
      IsPermutation-trans (f x ++ flat_map f xs) (f x ++ flat_map f (sorted_by before xs)) (flat_map f (insert_by before x (sorted_by before xs)))
      (IsPermutation-append_right (f x) (flat_map f xs) (flat_map f (sorted_by before xs)) (flat-sorted xs))
      (flat-insert x (sorted_by before xs))

-- ---- groups

abbrev above : Statement → List Text
above s = comments (leading_of s)

above-newlines : (ts : List Text) (ss : List Statement) → flat_map above (with_newlines ts ss) ≡ flat_map above ss
above-newlines [] ss = refl
above-newlines (t ∷ ts) [] = refl
above-newlines (t ∷ ts) (s ∷ ss) =
    ap (λ u. comments u ++ flat_map above (with_newlines ts ss)) (leading-kept t s) ∙ ap (λ us. above s ++ us) (above-newlines ts ss)

module _ (r : Rules) (tables : List Names) where
  abbrev AreOfGroup : List Statement → Type 0
  AreOfGroup [] = Unit {0}
  AreOfGroup (s ∷ ss) = (Whole s × (is_key_line s ≡ true)) × AllByRecursion (Member r tables) ss

  -- the head before another line
  above-head : (t : Text) (ys : List Statement) → IsWholeTrivia t → AllByRecursion (Member r tables) ys → (length ys ≡ 0 → ⊥)
      → flat_map above (with_head (lines_before t) ys) ≡ comments t ++ flat_map above ys
  above-head t [] h m some = absurd (some refl)
  above-head t (y ∷ ys) h m some =
      ap (λ u. comments u ++ flat_map above ys) (leading-set (lines_before t ++ leading_of y) y)
      ∙ ap (λ cs. cs ++ flat_map above ys) ((parts r t h).after (leading_of y) m.0.whole m.0.within).3
      ∙ append_assoc (comments t) (above y) (flat_map above ys)

  group-comments : (ss : List Statement) → AreOfGroup ss → IsPermutation (flat_map above ss) (flat_map above (sorted_group ss))
  group-comments [] h = IsPermutation-refl []
  group-comments (s ∷ ss) h =
      let t = leading_of s in
      let bare = with_leading (last_line t) s in
      let p = parts r t h.0.0 in
      let lead = leading-set (last_line t) s in
      let ys = in_order (bare ∷ ss) in
      let first : Member r tables bare = record {
        line = kind-led (last_line t) s ∙ h.0.1;
        within = ap (begins_group r) lead ∙ p.begins;
        whole = subst IsWholeTrivia (sym lead) p.white;
      } in
      let is : flat_map above (sorted_group (s ∷ ss)) ≡ comments t ++ flat_map above ys =
      above-newlines (map newline_after (s ∷ ss)) (with_head (lines_before t) ys)
      ∙ above-head t ys h.0.0 (all-sorted (Member r tables) goes_first (bare ∷ ss) (first, h.1))
      (λ e. let clash : suc (length ss) ≡ 0 = sym (order-length (bare ∷ ss)) ∙ e in cc) in
      let kept : IsPermutation (flat_map above ss) (flat_map above ys) =
      subst (λ cs. IsPermutation (cs ++ flat_map above ss) (flat_map above ys)) (ap comments lead ∙ p.silent)
      (flat-sorted above goes_first (bare ∷ ss)) in
      subst (IsPermutation (flat_map above (s ∷ ss))) (sym is)
      (IsPermutation-append_right (comments t) (flat_map above ss) (flat_map above ys) kept)

  abbrev KeepsAbove : List Statement → List Statement → List Statement → Type 0
  KeepsAbove group ss new = IsPermutation (flat_map above group ++ flat_map above ss) (flat_map above new)

  -- a group, and what follows it
  group-kept : (group rest new : List Statement) → AreOfGroup group → IsPermutation (flat_map above rest) (flat_map above new)
      → KeepsAbove group rest (sorted_group group ++ new)
  group-kept group rest new h k =
      let before = flat_map above group in
      let after = flat_map above (sorted_group group) in
      subst (IsPermutation (before ++ flat_map above rest)) (sym (flat_map-append above (sorted_group group) new))
      (IsPermutation-trans (before ++ flat_map above rest) (after ++ flat_map above rest) (after ++ flat_map above new)
      (IsPermutation-append_left (flat_map above rest) before after (group-comments group h))
      (IsPermutation-append_right after (flat_map above rest) (flat_map above new) k))

  longer : (group : List Statement) (s : Statement) → AreOfGroup group → Member r tables s → AreOfGroup (group ++ (s ∷ []))
  longer [] s h m = ((m.whole, m.line), tt)
  longer (x ∷ xs) s h m = (h.0, all-append (Member r tables) xs (s ∷ []) h.1 (m, tt))

  above-kept : (group : List Statement) (now : Bool) (st : State) (ss : List Statement) → AreOfGroup group → AllByRecursion Whole ss
      → KeepsAbove group ss (sorted_statements r tables group now st ss)
  above-kept =
      by_groups r tables (λ group now st ss new. AreOfGroup group → AllByRecursion Whole ss → KeepsAbove group ss new)
      (λ group now st h w. subst (KeepsAbove group []) (append-nil (sorted_group group)) (group-kept group [] [] h (IsPermutation-refl [])))
      (λ group now st s rest new e f ih h w. group-kept group (s ∷ rest) new h
      (subst (λ xs. IsPermutation xs (flat_map above new)) (ap (λ cs. cs ++ flat_map above rest) (append-nil (above s)))
      (ih ((w.0, joined-line r now st s e), tt) w.1)))
      (λ group now st s rest new e f ih h w.
      let m : Member r tables s = record { line = joined-line r now st s e; within = f; whole = w.0 } in
      subst (λ xs. IsPermutation xs (flat_map above new))
      (ap (λ xs. xs ++ flat_map above rest) (flat_map-append above group (s ∷ []) ∙ ap (λ cs. flat_map above group ++ cs) (append-nil (above s)))
      ∙ append_assoc (flat_map above group) (above s) (flat_map above rest))
      (ih (longer group s h m) w.1))
      (λ group now st s rest new e ih h w. group-kept group (s ∷ rest) (s ∷ new) h
      (IsPermutation-append_right (above s) (flat_map above rest) (flat_map above new) (ih tt w.1)))

pub sorted_keeps_comments : SortedKeepsComments
sorted_keeps_comments r tables d h =
    above-kept r tables [] (list_any (same_names []) tables) start d.statements tt (whole-statements d.final d.statements h.0)
