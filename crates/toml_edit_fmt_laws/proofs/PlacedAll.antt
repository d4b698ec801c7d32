-- The placed texts of a document are its text.
use Rattle.std.proofs.Common.{◌≡◌, refl, ap, ◌∙◌, List, [], ◌∷◌, ◌++◌, append-nil}
use Rattle.std.specs.Prelude.{codes, flat_map, map}
use Rattle.std.proofs.lemmas.Grind.{flat_map-append}
use Rattle.std.proofs.lemmas.List.{map-append}
use Rattle.toml_edit_model.specs.Syntax.{Segment, Frame, Value, scalar, array, inline_table, Elements, no_elements, element, Pairs}
use Rattle.toml_edit_model.specs.Syntax.{no_pairs, pair, Statement, key_line, header}
use Rattle.toml_edit_model.specs.Syntax.{opening_brackets, closing_brackets, mark_text, segment_text, path_text, frame_text, value_text, elements_text, pairs_text, statement_text}
use Rattle.toml_edit_model.specs.Text.{Text, joined}
use Rattle.toml_edit_fmt_laws.specs.Places.{Place, punctuation, before_statements, PlacedText, placed, segment_texts, path_texts, frame_texts, value_texts, elements_texts}
use Rattle.toml_edit_fmt_laws.specs.Places.{pairs_texts, statement_texts, PlacedTextsAreAll}

-- These are this text.
record Makes (xs : List PlacedText) (t : Text) : Type 0 where
  is : joined (map (λ p. p.text) xs) ≡ t

both : {xs ys : List PlacedText} {t u : Text} → Makes xs t → Makes ys u → Makes (xs ++ ys) (t ++ u)
both {xs} {ys} {t} {u} p q =
    record {
      is = ap joined (map-append (λ (x : PlacedText). x.text) xs ys)
          ∙ flat_map-append (λ (v : Text). v) (map (λ (x : PlacedText). x.text) xs) (map (λ (x : PlacedText). x.text) ys)
          ∙ ap (λ v. v ++ joined (map (λ (x : PlacedText). x.text) ys)) p.is
          ∙ ap (λ v. t ++ v) q.is;
    }

alone : (p : Place) (t : Text) → Makes (placed p t) t
alone p t = record { is = append-nil t }

-- nothing is after the last
then-nothing : {xs : List PlacedText} {t : Text} → Makes xs (t ++ []) → Makes xs t
then-nothing {xs} {t} p = record { is = p.is ∙ append-nil t }

of-segment : (s : Segment) → Makes (segment_texts s) (segment_text s)
of-segment s = both (alone _ s.before) (both (alone _ s.spelled) (alone _ s.after))

of-path : (p : List Segment) → Makes (path_texts p) (path_text p)
of-path [] = record { is = refl }
of-path (s ∷ []) = of-segment s
of-path (s ∷ q ∷ rest) = both (of-segment s) (both (alone _ (codes ".")) (of-path (q ∷ rest)))

of-frame : (before after : Place) (f : Frame) {xs : List PlacedText} {t : Text} → Makes xs t → Makes (frame_texts before after f xs) (frame_text f t)
of-frame before after f v =
    both (alone before f.leading)
    (both (of-path f.path)
    (both (alone _ f.before_equals)
    (both (alone _ (codes "=")) (both (alone _ f.after_equals) (both v (alone after f.trailing))))))

mutual
  of-value : (v : Value) → Makes (value_texts v) (value_text v)
  of-value (scalar s t) = alone _ t
  of-value (array es comma t) =
      both (alone _ (codes "[")) (both (of-elements es) (both (alone _ _) (both (alone _ t) (alone _ (codes "]")))))
  of-value (inline_table ps comma t) =
      both (alone _ (codes "{")) (both (of-pairs ps) (both (alone _ _) (both (alone _ t) (alone _ (codes "}")))))

  of-elements : (es : Elements) → Makes (elements_texts es) (elements_text es)
  of-elements no_elements = record { is = refl }
  of-elements (element a v no_elements) =
      both (alone _ a.before) (both (of-value v) (then-nothing (both (alone _ a.after) (record { is = refl }))))
  of-elements (element a v (element b w es)) =
      both (alone _ a.before)
      (both (of-value v) (both (alone _ a.after) (both (alone _ (codes ",")) (of-elements (element b w es)))))

  of-pairs : (ps : Pairs) → Makes (pairs_texts ps) (pairs_text ps)
  of-pairs no_pairs = record { is = refl }
  of-pairs (pair f v no_pairs) = then-nothing (both (of-frame _ _ f (of-value v)) (record { is = refl }))
  of-pairs (pair f v (pair g w ps)) =
      both (of-frame _ _ f (of-value v)) (both (alone _ (codes ",")) (of-pairs (pair g w ps)))

of-statement : (s : Statement) → Makes (statement_texts s) (statement_text s)
of-statement (key_line f v end) = both (of-frame _ _ f (of-value v)) (alone _ end)
of-statement (header h end) =
    both (alone _ h.leading)
    (both (both (alone _ (opening_brackets h.is_array))
    (both (alone _ h.opening)
    (both (of-path h.path) (both (alone _ h.closing) (alone _ (closing_brackets h.is_array))))))
    (both (alone _ h.trailing) (alone _ end)))

of-statements : (ss : List Statement) → Makes (flat_map statement_texts ss) (joined (map statement_text ss))
of-statements [] = record { is = refl }
of-statements (s ∷ ss) = both (of-statement s) (of-statements ss)

pub placed_texts_are_all : PlacedTextsAreAll
placed_texts_are_all d = (both (alone punctuation (mark_text d.has_mark)) (both (of-statements d.statements) (alone before_statements d.final))).is
