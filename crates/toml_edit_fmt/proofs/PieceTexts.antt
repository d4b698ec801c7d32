-- The pieces of a document are its text.
use Rattle.std.proofs.Common.{◌≡◌, refl, sym, ap, ◌∙◌, ℕ, zero, suc, Bool, true, false, List, [], ◌∷◌, ◌++◌, append-nil, append_assoc}
use Rattle.std.specs.Prelude.{◌&&◌, if◌then◌else◌, codes, is_some, map}
use Rattle.toml_edit_model.specs.Comments.{first_comment}
use Rattle.toml_edit_model.specs.Paths.{Path, to_element}
use Rattle.toml_edit_model.specs.Syntax.{Frame, Value, scalar, array, inline_table, Elements, no_elements, element, Pairs, no_pairs, pair, Statement, key_line, header, comma_text, elements_text, frame_text, pairs_text, path_text, statement_text, value_text}
use Rattle.toml_edit_model.specs.Text.{Text, joined, one}
use Rattle.toml_edit_fmt_laws.specs.Rules.{Rules}
use Rattle.toml_edit_fmt_laws.specs.Formatted.{State, after, leading_of, reached, stays}
use Rattle.toml_edit_fmt_laws.specs.Aligned.{Piece, words, place, lays_arrays, after_pieces, gap_pieces, value_pieces, elements_pieces, pairs_pieces, laid_pieces, statement_pieces, statements_pieces}
use Rattle.toml_edit_fmt.proofs.PieceLaws.{pieces_text, pieces_text-append}

record Says (ps : List Piece) (t : Text) : Type 0 where
  is : pieces_text ps ≡ t

-- four parts one after another
in-four : {g v a e : List Piece} {s t u w : Text} → Says g s → Says v t → Says a u → Says e w
    → pieces_text (g ++ (v ++ (a ++ e))) ≡ s ++ (t ++ (u ++ w))
in-four {g} {v} {a} {e} {s} {t} {u} {w} h1 h2 h3 h4 =
    pieces_text-append g (v ++ (a ++ e)) ∙ ap (λ x. x ++ pieces_text (v ++ (a ++ e))) h1.is
    ∙ ap (λ x. s ++ x) (pieces_text-append v (a ++ e) ∙ ap (λ x. x ++ pieces_text (a ++ e)) h2.is
    ∙ ap (λ x. t ++ x) (pieces_text-append a e ∙ ap (λ x. x ++ pieces_text e) h3.is ∙ ap (λ x. u ++ x) h4.is))

abbrev head : Frame → Text
head f = path_text f.path ++ (f.before_equals ++ (codes "=" ++ f.after_equals))

regroup : (b v a c e x : Text) → b ++ (v ++ ((a ++ c) ++ (e ++ x))) ≡ (b ++ (v ++ (a ++ (c ++ e)))) ++ x
regroup b v a c e x = simp append_assoc

frame-last : (f : Frame) (v x : Text) → f.leading ++ ((head f ++ v) ++ ((f.trailing ++ []) ++ x)) ≡ frame_text f v ++ x
frame-last f v x = simp (append_assoc, append-nil)

frame-next : (f : Frame) (v c e x : Text) → f.leading ++ ((head f ++ v) ++ ((f.trailing ++ c) ++ (e ++ x))) ≡ (frame_text f v ++ (c ++ e)) ++ x
frame-next f v c e x = simp append_assoc

frame-end : (f : Frame) (v end : Text) → (f.leading ++ head f) ++ (v ++ (f.trailing ++ end)) ≡ frame_text f v ++ end
frame-end f v end = simp append_assoc

module _ (r : Rules) (n : ℕ) where
  may-place : (b : Bool) (p : Path) (t : Text) → pieces_text (if b then place n p ∷ words t ∷ [] else one (words t)) ≡ t
  may-place true p t = append-nil t
  may-place false p t = append-nil t

  gap-text : (b : Bool) (p : Path) (i : ℕ) (t : Text) → Says (gap_pieces r n b p i t) t
  gap-text b p zero t = record { is = append-nil t }
  gap-text b p (suc i) t = record { is = may-place (b && is_some (first_comment t)) (to_element p i) t }

  after-text : (b : Bool) (p : Path) (i : ℕ) (more comma : Bool) (t : Text) → Says (after_pieces r n b p i more comma t) (t ++ comma_text more)
  after-text b p i true comma t = record { is = append-nil (t ++ comma_text true) }
  after-text b p i false true t = record { is = append-nil (t ++ []) }
  after-text b p i false false t = record { is = (gap-text b p (suc i) t).is ∙ sym (append-nil t) }

  end-text : (b : Bool) (p : Path) (i : ℕ) (comma : Bool) (t bracket : Text)
      → Says (words (comma_text comma) ∷ gap_pieces r n b p i t ++ one (words bracket)) (comma_text comma ++ (t ++ bracket))
  end-text b p i comma t bracket =
      record {
        is = ap (λ u. comma_text comma ++ u) (pieces_text-append (gap_pieces r n b p i t) (one (words bracket))
            ∙ ap (λ u. u ++ (bracket ++ [])) (gap-text b p i t).is ∙ ap (λ u. t ++ u) (append-nil bracket));
      }

  mutual
    value-words : (v : Value) (p : Path) → pieces_text (value_pieces r n p v) ≡ value_text v
    value-words (scalar s t) p = append-nil t
    value-words (array es comma t) p = ap (λ u. codes "[" ++ u) (elements-words es p 0 comma t)
    value-words (inline_table ps comma t) p = ap (λ u. codes "{" ++ u) (pairs-words ps p 0 comma t)

    elements-words : (es : Elements) (p : Path) (i : ℕ) (comma : Bool) (t : Text)
        → pieces_text (elements_pieces r n p i comma t es) ≡ elements_text es ++ (comma_text comma ++ (t ++ codes "]"))
    elements-words no_elements p i comma t = (end-text (lays_arrays r.arrays) p i comma t (codes "]")).is
    elements-words (element a v no_elements) p i comma t =
        in-four {v = value_pieces r n (to_element p i) v} (gap-text (lays_arrays r.arrays) p i a.before)
        (record { is = value-words v (to_element p i) })
        (after-text (lays_arrays r.arrays) p i false comma a.after) (end-text (lays_arrays r.arrays) p (suc i) comma t (codes "]"))
        ∙ simp (append_assoc, append-nil)
    elements-words (element a v (element b w es)) p i comma t =
        in-four {v = value_pieces r n (to_element p i) v} {e = elements_pieces r n p (suc i) comma t (element b w es)} (gap-text (lays_arrays r.arrays) p i a.before)
        (record { is = value-words v (to_element p i) })
        (after-text (lays_arrays r.arrays) p i true comma a.after) (record { is = elements-words (element b w es) p (suc i) comma t })
        ∙ regroup a.before (value_text v) a.after (codes ",") (elements_text (element b w es)) _

    pairs-words : (ps : Pairs) (p : Path) (i : ℕ) (comma : Bool) (t : Text)
        → pieces_text (pairs_pieces r n p i comma t ps) ≡ pairs_text ps ++ (comma_text comma ++ (t ++ codes "}"))
    pairs-words no_pairs p i comma t = (end-text r.inline_tables p i comma t (codes "}")).is
    pairs-words (pair f v no_pairs) p i comma t =
        in-four {v = words (head f) ∷ value_pieces r n (to_element p i) v} (gap-text r.inline_tables p i f.leading)
        (record { is = ap (λ u. head f ++ u) (value-words v (to_element p i)) })
        (after-text r.inline_tables p i false comma f.trailing) (end-text r.inline_tables p (suc i) comma t (codes "}"))
        ∙ frame-last f (value_text v) _
    pairs-words (pair f v (pair g w ps)) p i comma t =
        in-four {v = words (head f) ∷ value_pieces r n (to_element p i) v} {e = pairs_pieces r n p (suc i) comma t (pair g w ps)} (gap-text r.inline_tables p i f.leading)
        (record { is = ap (λ u. head f ++ u) (value-words v (to_element p i)) })
        (after-text r.inline_tables p i true comma f.trailing) (record { is = pairs-words (pair g w ps) p (suc i) comma t })
        ∙ frame-next f (value_text v) (codes ",") (pairs_text (pair g w ps)) _

  statement-words : (st : State) (s : Statement) → pieces_text (statement_pieces r n st s) ≡ statement_text s
  statement-words st s = by_test (stays (reached r st (leading_of s))) s
    where
      by_test : (b : Bool) (s : Statement) → pieces_text (if b then one (words (statement_text s)) else laid_pieces r n s) ≡ statement_text s
      by_test true s = append-nil (statement_text s)
      by_test false (key_line f v end) =
          let tail = if is_some (first_comment f.trailing) then place n [] ∷ words (f.trailing ++ end) ∷ [] else one (words (f.trailing ++ end)) in
          ap (λ u. (f.leading ++ head f) ++ u)
          (pieces_text-append (value_pieces r n [] v) tail ∙ ap (λ u. u ++ pieces_text tail) (value-words v [])
          ∙ ap (λ u. value_text v ++ u) (may-place (is_some (first_comment f.trailing)) [] (f.trailing ++ end)))
          ∙ frame-end f (value_text v) end
      by_test false (header h end) = append-nil (statement_text (header h end))

pub statements-words : (r : Rules) (n : ℕ) (st : State) (ss : List Statement)
    → pieces_text (statements_pieces r n st ss) ≡ joined (map statement_text ss)
statements-words r n st [] = refl
statements-words r n st (s ∷ rest) =
    pieces_text-append (statement_pieces r n st s) (statements_pieces r (suc n) (after r st s) rest)
    ∙ ap (λ u. u ++ pieces_text (statements_pieces r (suc n) (after r st s) rest)) (statement-words r n st s)
    ∙ ap (λ u. statement_text s ++ u) (statements-words r (suc n) (after r st s) rest)
