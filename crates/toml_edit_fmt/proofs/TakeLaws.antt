-- What taking one statement does to a layout.
use Rattle.std.proofs.Common.{◌≡◌, ◌≤◌, ℕ, suc, ◌+◌, ◌-◌, true, false, List, [], ◌∷◌, ◌++◌, length, get_or, refl, sym, ap, subst, ◌∙◌, arith}
use Rattle.std.proofs.lemmas.List.{length-append}
use Rattle.toml_edit_model.specs.OwnedForm.{cut_out}
use Rattle.toml_edit_model.specs.Text.{Text}
use Rattle.toml_edit_model.specs.Syntax.{Statement, key_line, header, newline_after, statement_text, brackets_text, frame_text, value_text}
use Rattle.toml_edit_laws.specs.Standing.{Stands}
use Rattle.toml_edit_laws.proofs.common.StandingLaws.{cut_out-is, stands-left}
use Rattle.toml_edit_syntax.specs.declared.event.Event.{Event}
use Rattle.toml_edit_syntax.specs.declared.event.EventKind.TheVariants.{Leading}
use Rattle.toml_edit_syntax.specs.Events.{statement_events}
use Rattle.toml_edit_syntax.specs.ValueEvents.{event}
use Rattle.toml_edit_fmt_laws.specs.Formatted.{leading_of}
use Rattle.toml_edit_fmt.proofs.StatementEvents.{before-newline, parts-of}
use Rattle.toml_edit_fmt.proofs.StatementLaws.{text-is}

last-in : (front : List Event) (x d : Event) → get_or (front ++ (x ∷ [])) (length (front ++ (x ∷ [])) - 1) d ≡ x
last-in [] x d = refl
last-in (y ∷ front) x d =
    let at : length (y ∷ (front ++ (x ∷ []))) - 1 ≡ suc (length (front ++ (x ∷ [])) - 1) = omega (arith, length-append front (x ∷ [])) in
    ap (λ i. get_or (y ∷ (front ++ (x ∷ []))) i d) at ∙ last-in front x d

leading-first : (s : Statement) (source : Text) (start : ℕ) → Stands source start (statement_text s) → Stands source start (leading_of s)
leading-first (key_line f v end) source start h = stands-left source start f.leading _ (stands-left source start (frame_text f (value_text v)) end h)
leading-first (header h end) source start there = stands-left source start h.leading _ there

module _ (s : Statement) (source : Text) (start : ℕ) (es : List Event) (there : Stands source start (statement_text s))
    (same : es ≡ statement_events start s) where
  pub first-text : (d : Event) → cut_out source (get_or es 0 d).span.start (get_or es 0 d).span.end ≡ leading_of s
  first-text d =
      text-is source (get_or es 0 d) Leading start (leading_of s)
      (ap (λ (x : List Event). get_or x 0 d) (same ∙ (parts-of start s).parts)) (leading-first s source start there)

  pub first-start : (d : Event) → (get_or es 0 d).span.start ≡ start
  first-start d = ap (λ (x : List Event). (get_or x 0 d).span.start) (same ∙ (parts-of start s).parts)

  pub last-end : (d : Event) → (get_or es (length es - 1) d).span.end ≡ start + (length (statement_text s) - length (newline_after s))
  last-end d =
      let p = parts-of start s in
      ap (λ (x : List Event). (get_or x (length x - 1) d).span.end) (same ∙ p.parts)
      ∙ ap (λ (e : Event). e.span.end) (last-in (event Leading start (leading_of s) ∷ p.inner) p.last d) ∙ p.end

  pub in-order : (d e : Event) → (get_or es 0 d).span.start ≤ (get_or es (length es - 1) e).span.end
  in-order d e = let a = first-start d in let b = last-end e in omega (arith, a, b)

  -- between both is all but the newline
  pub body-text : (d e : Event)
      → statement_text s ≡ cut_out source (get_or es 0 d).span.start (get_or es (length es - 1) e).span.end ++ newline_after s
  body-text d e =
      let (body, whole) = before-newline s in
      let size = ap (λ (x : Text). length x) whole ∙ length-append body (newline_after s) in
      let end : (get_or es (length es - 1) e).span.end ≡ start + length body = let l = last-end e in omega (arith, l, size) in
      let b = cut_out-is source start body (stands-left source start body (newline_after s) (subst (λ (x : Text). Stands source start x) whole there)) in
      whole ∙ ap (λ (x : Text). x ++ newline_after s) (sym b ∙ ap (λ n. cut_out source start n) (sym end)
      ∙ ap (λ n. cut_out source n (get_or es (length es - 1) e).span.end) (sym (first-start d)))
