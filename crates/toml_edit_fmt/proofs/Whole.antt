-- What the bits of a document give is the text of the formatted document.
use Rattle.std.proofs.Common.{◌≡◌, refl, sym, ap, subst, ◌∙◌, None, List, [], ◌∷◌, ◌++◌, append-nil, append_assoc}
use Rattle.std.specs.Prelude.{flat_map, map}
use Rattle.toml_edit_model.specs.Syntax.{Document, IsDocument, document_text, mark_text, statement_text}
use Rattle.toml_edit_model.specs.Text.{Text, joined, one}
use Rattle.toml_edit_fmt_laws.specs.Promises.{PlacesAreLaid}
use Rattle.toml_edit_fmt_laws.specs.Rules.{Comments, as_they_are, apart, aligned, Rules, line_depth}
use Rattle.toml_edit_fmt_laws.specs.Formatted.{laid_final, laid_statements, start, state_after}
use Rattle.toml_edit_fmt_laws.specs.Aligned.{formatted, pad_in, pads, pads_as, Piece, statements_pieces}
use Rattle.toml_edit_fmt.specs.PageView.{Bit, letters, Written, grown, padded, most_columns, run_ended, spaces_apart}
use Rattle.toml_edit_fmt.specs.LayoutView.{document_bits, statements_bits}
use Rattle.toml_edit_fmt.proofs.DocumentPlaces.{AtLine, statements-part}
use Rattle.toml_edit_fmt.proofs.PageLaws.{grown-append}
use Rattle.toml_edit_fmt.proofs.PieceLaws.{pieces_text, run_of, same-marks, same-text}
use Rattle.toml_edit_fmt.proofs.PieceTexts.{statements-words}
use Rattle.toml_edit_fmt.proofs.RunLaws.{unbegun}
use Rattle.toml_edit_fmt.proofs.SpotLaws.{Item, text, spot, Fits, HasNoSpot, Pads, Part, Reached, bits_of, pieces_of}

abbrev nothing : Written
nothing = record { run = []; text = [] }

abbrev ended_after : Comments → List Bit → Text
ended_after c bs = let v = grown c bs nothing in run_ended c v.run v.text

no-spots : (c : Comments) (f : Pads) (xs : List Item) (t : Text) → HasNoSpot xs
    → (let v = grown c (bits_of xs) (record { run = []; text = t }) in run_ended c v.run v.text) ≡ t ++ pieces_text (pieces_of f xs)
no-spots c f [] t h = sym (append-nil t)
no-spots c f (text u ∷ xs) t h = no-spots c f xs (t ++ u) h ∙ append_assoc t u (pieces_text (pieces_of f xs))
no-spots c f (spot s ∷ xs) t h = absurd h

module _ (r : Rules) (d : Document) where
  abbrev PartOf : Comments → Type 0
  PartOf c =
      Part c (AtLine 0 (line_depth r start.keys)) (λ at. Unit {0}) (statements_bits r start d.statements)
      (λ f. statements_pieces r 0 start (laid_statements r f 0 start d.statements))

  statements-ended : (c : Comments) (p : PartOf c)
      → ended_after c (bits_of p.items) ≡ pieces_text (pieces_of (pads_as c r d) p.items)
  statements-ended as_they_are p = no-spots as_they_are (pads_as as_they_are r d) p.items [] p.spots
  statements-ended (apart k) p = no-spots (apart k) (pads_as (apart k) r d) p.items [] p.spots
  statements-ended (aligned k) p =
      unbegun k (pads_as (aligned k) r d) p.items [] [] [] 0 refl
      (subst (Fits at) (append-nil p.items) (p.fits at (record { older = tt; latest = tt }) [] (λ to q. tt)))
      (λ s new. ap (λ ms. pad_in (pads k None 0 ms) s.statement s.path) (same-marks k laid (pieces_of zeros p.items)
      (sym (ap (run_of (aligned k)) (append-nil laid)) ∙ p.pieces zeros [] ∙ ap (run_of (aligned k)) (append-nil (pieces_of zeros p.items)))))
    where
      at : Reached
      at = record { seen = []; count = 0 }

      zeros : Pads
      zeros = λ n q. 0

      laid : List Piece
      laid = statements_pieces r 0 start (laid_statements r zeros 0 start d.statements)

  statements-text : (c : Comments) (f : Pads) (p : PartOf c)
      → pieces_text (pieces_of f p.items) ≡ joined (map statement_text (laid_statements r f 0 start d.statements))
  statements-text c f p =
      let laid = statements_pieces r 0 start (laid_statements r f 0 start d.statements) in
      same-text c (pieces_of f p.items) laid
      (sym (ap (run_of c) (append-nil (pieces_of f p.items))) ∙ sym (p.pieces f []) ∙ ap (run_of c) (append-nil laid))
      ∙ statements-words r 0 start (laid_statements r f 0 start d.statements)

  final-ended : (c : Comments) (bs : List Bit) (t : Text) → ended_after c (bs ++ one (letters t)) ≡ ended_after c bs ++ t
  final-ended c bs t =
      let v = grown c bs nothing in
      ap (λ (w : Written). run_ended c w.run w.text) (grown-append c bs (one (letters t)) nothing)
      ∙ sym (append_assoc (flat_map (padded (most_columns v.run) (spaces_apart c)) v.run) v.text t)

  pub whole : PlacesAreLaid → IsDocument d → mark_text d.has_mark ++ ended_after r.comments (document_bits r d) ≡ document_text (formatted r d)
  whole laws h =
      let c = r.comments in
      let f = pads_as c r d in
      let p = statements-part r laws d.final d.statements h.0 0 start in
      let end = laid_final r (state_after r start d.statements) d.final in
      ap (λ t. mark_text d.has_mark ++ t)
      (final-ended c (statements_bits r start d.statements) end
      ∙ ap (λ bs. ended_after c bs ++ end) (sym p.bits)
      ∙ ap (λ t. t ++ end) (statements-ended c p ∙ statements-text c f p))
