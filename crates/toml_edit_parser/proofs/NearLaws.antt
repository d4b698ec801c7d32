-- The spans of a text that is not too long.
use Rattle.std.proofs.Common.{ℕ, ◌≡◌, ◌<◌, ◌^◌, ◌==◌, length, get_or, eqb-true, inl, inr, arith}
use Rattle.std.proofs.lemmas.Bool.{cases_Bool}
use Rattle.toml_edit_laws.proofs.reading.RunLaws.{within_from_byte}
use Rattle.toml_edit_model.specs.Mode.{Mode, plain, exact}
use Rattle.toml_edit_model.specs.Text.{Text, carriage_return}
use Rattle.toml_edit_syntax.specs.declared.event.Span.{Span}
use Rattle.toml_edit_syntax.specs.Events.{IsSpanOf}
use Rattle.toml_edit_parser.specs.Near.{IsNear}
use Rattle.toml_edit_parser.specs.StatementParts.{suffix_span}

pub near : (t : Text) (s : Span) → length t < 2 ^ 56 → IsSpanOf t s → IsNear s
near t s short is =
    let start = is.start.0 in
    let end = is.end.0 in
    record { start = omega (arith, start, short); end = omega (arith, end, short) }

-- a place where a carriage return is
before_end : (t : Text) (n : ℕ) → get_or t n 0 ≡ carriage_return → n < length t
before_end t n is = within_from_byte t n (let e : get_or t n 0 ≡ 13 = is in omega (arith, e))

pub suffix-near : (mode : Mode) (t : Text) (s : Span) → length t < 2 ^ 56 → IsSpanOf t s → IsNear (suffix_span mode t s)
suffix-near plain t s short is = near t s short is
suffix-near exact t s short is =
    elim (cases_Bool (get_or t s.end 0 == carriage_return)) [
      | inl cr ↦
          let start = is.start.0 in
          let within = before_end t s.end (eqb-true (get_or t s.end 0) carriage_return cr) in
          rw cr (record { start = omega (arith, start, short); end = omega (arith, within, short) })
      | inr other ↦ rw other (near t s short is)
    ]
