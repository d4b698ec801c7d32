-- A text with a zero or a sign in front names no place, and what is read of another is what it names.
use Rattle.std.proofs.Common.{◌≡◌, ◌<◌, ◌≤◌, length, get_or, sym, ap, ◌∙◌, subst, arith}
use Rattle.std.proofs.lemmas.Bool.{eqb-true}
use Rattle.toml_edit_model.specs.Text.{Text}
use Rattle.toml_edit_paths.specs.Elements.{IsNumberOf}
use Rattle.toml_edit_paths.proofs.NumberLaws.{led, no-bytes, parsed, signed}
use Rattle.toml_edit_paths.proofs.element.number_of.Goals as goal
use Rattle.toml_edit_paths.proofs.element.number_of.Goals.{else-bytes-gt1-via-then-bytes-gt1+else-bytes-eq48}
use Rattle.toml_edit_paths.proofs.element.number_of.Goals.{else-bytes-gt1-via-else-bytes-gt1}
use Rattle.toml_edit_paths.proofs.element.number_of.Goals.{else-not-is_empty-via-then-not-is_empty+else-bytes-eq43}
use Rattle.toml_edit_paths.proofs.element.number_of.Goals.{else-not-is_empty-via-else-not-is_empty}

pub returns-then-bytes-eq48 : goal.returns-then-bytes-eq48
returns-then-bytes-eq48 c =
    let same = c.as_bytes-bytes.ensures.value in
    led c.args.text.now (ap (λ (y : Text). get_or y 0 0) (sym same)
    ∙ c.if-bytes-eq48.true) (subst (λ (y : Text). 1 < length y) same c.if-bytes-gt1.true)

pub returns-then-bytes-eq43 : goal.returns-then-bytes-eq43
returns-then-bytes-eq43 c =
    signed c.args.text.now (ap (λ (y : Text). get_or y 0 0) (sym c.as_bytes-bytes.ensures.value) ∙ c.if-bytes-eq43.true)

pub returns : goal.returns
returns c =
    let bytes = c.as_bytes-bytes.result.now in
    let same = c.as_bytes-bytes.ensures.value in
    let none : length bytes ≡ 0 → get_or bytes 0 0 ≡ 0 = no-bytes bytes in
    let plus : get_or bytes 0 0 ≡ 43 → ⊥ = λ h. elim c.else-not-is_empty.branch [
      | else-not-is_empty-via-then-not-is_empty+else-bytes-eq43 w ↦ w.if-bytes-eq43.false h
      | else-not-is_empty-via-else-not-is_empty w ↦
          omega (arith, h, none (eqb-true (length bytes) 0 (sym c.is_empty.ensures ∙ w.if-not-is_empty.false)))
    ] in
    let zero : get_or bytes 0 0 ≡ 48 → length bytes ≤ 1 = λ h. elim c.else-bytes-gt1.branch [
      | else-bytes-gt1-via-then-bytes-gt1+else-bytes-eq48 w ↦ absurd (w.if-bytes-eq48.false h)
      | else-bytes-gt1-via-else-bytes-gt1 w ↦ omega arith
    ] in
    subst (IsNumberOf c.args.text.now) (sym c.ok.ensures.value)
    (parsed c.args.text.now c.parse.result c.parse.ensures.value.0 (subst (λ (y : Text). get_or y 0 0 ≡ 43 → ⊥) same plus)
    (subst (λ (y : Text). get_or y 0 0 ≡ 48 → length y ≤ 1) same zero))
