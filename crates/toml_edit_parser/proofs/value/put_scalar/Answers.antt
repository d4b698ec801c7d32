-- The item that is put, and what its text is refused with.
use Rattle.std.proofs.Common.{w64, to_z, of_z, ◌≡◌, ℕ, ℤ, false, true, Option, Some, sym, ap, subst, ◌∙◌, rules, inr}
use Rattle.std.specs.Prelude.{IfSome, MatchOption}
use Rattle.toml_edit_model.specs.Faults.{Fault, range_message}
use Rattle.toml_edit_model.specs.OwnedForm.{NodeFits}
use Rattle.toml_edit_model.specs.Version.{v1_1}
use Rattle.toml_edit_model.specs.Text.{Text}
use Rattle.toml_edit_model.specs.Scalars as scalars
use Rattle.toml_edit_model.specs.Spelling.{Spells, is_in_range}
use Rattle.toml_edit_model.specs.Tree.{Decor, leaf, span, unset}
use Rattle.toml_edit_error.specs.Report.{Report, fault_of}
use Rattle.toml_edit_repr.specs.Views.{FormattedView}
use Rattle.toml_edit_token.specs.Decoded.{IsSpelling, scalar_view}
use Rattle.toml_edit_token.specs.declared.decode.Scalar as code
use Rattle.toml_edit_tree.specs.View.{item_view}
use Rattle.toml_edit_parser.proofs.ReadLaws.{mapped}
use Rattle.toml_edit_parser.proofs.ViewLaws.{view-Integer, view-Value}
use Rattle.toml_edit_parser.proofs.value.put_scalar.Goals as goal

fault_at : ℕ → ℕ → Text → Fault
fault_at start end m = record { message = m; span = Some (start, end) }

pub returns-in-Some-clause-value : goal.returns-in-Some-clause-value
returns-in-Some-clause-value c =
    λ s t cut_is end_is spells.
    let place = c.args.span in
    let text_is = c.text_at-text.ensures ∙ cut_is in
    let read = c.in-Some in
    let number = read.number in
    let same = read.ensures.only s (subst (λ (x : Text). Spells s x) (sym text_is) spells) in
    let fits : is_in_range s t ≡ true =
    ap (λ (x : scalars.Scalar). is_in_range x t) same ∙ ap (is_in_range (scalars.integer number)) (sym text_is) ∙ read.ensures.found.in_range in
    let blank : c.default-decor.result ≡ unset = search rules in
    let own : to_z w64 (of_z w64 number) ≡ number = search rules in (
      ap item_view c.put.ensures ∙ view-Value _ ∙ view-Integer c.spanned.result
          ∙ ap (λ (f : FormattedView ℤ). leaf (scalars.integer f.value) f.repr f.decor) c.spanned.ensures
          ∙ ap (λ (z : ℤ). leaf (scalars.integer z) (Some (span place.start place.end)) c.default-decor.result) own
          ∙ ap (λ (x : scalars.Scalar). leaf x (Some (span place.start place.end)) c.default-decor.result) (sym same)
          ∙ ap (λ (d : Decor). leaf s (Some (span place.start place.end)) d) blank
          ∙ ap (λ (n : ℕ). leaf s (Some (span place.start n)) unset) end_is,
      fits,
    )

pub returns-in-Some-clause-fits : goal.returns-in-Some-clause-fits
returns-in-Some-clause-fits c =
    let place = c.args.span in
    let number = c.in-Some.number in
    let blank : c.default-decor.result ≡ unset = search rules in
    let own : to_z w64 (of_z w64 number) ≡ number = search rules in
    let view = ap item_view c.put.ensures ∙ view-Value _ ∙ view-Integer c.spanned.result
    ∙ ap (λ (f : FormattedView ℤ). leaf (scalars.integer f.value) f.repr f.decor) c.spanned.ensures
    ∙ ap (λ (z : ℤ). leaf (scalars.integer z) (Some (span place.start place.end)) c.default-decor.result) own
    ∙ ap (λ (d : Decor). leaf (scalars.integer number) (Some (span place.start place.end)) d) blank in
    subst (NodeFits c.args.reader.now.source.now) (sym view) ((c.requires.start, c.requires.end, c.requires.order), (tt, tt))

pub returns-in-Some-2-clause-value : goal.returns-in-Some-2-clause-value
returns-in-Some-2-clause-value c =
    λ s t cut_is end_is spells.
    let place = c.args.span in
    let text = c.text_at-text.result.now in
    let text_is : text ≡ t = c.text_at-text.ensures ∙ cut_is in
    let read = c.in_ok-scalar.ensures in
    let is = c.in-Some-2.is in
    let same : s ≡ scalar_view c.in-Some-2.scalar =
    subst (λ (o : Option code.Scalar). MatchOption o (is_in_range s text ≡ false) (λ x. s ≡ scalar_view x)) is
    (read.only s (subst (λ (x : Text). Spells s x) (sym text_is) spells)) in
    let found : IsSpelling text (scalar_view c.in-Some-2.scalar) =
    subst (λ (o : Option code.Scalar). IfSome o (λ x. IsSpelling text (scalar_view x))) is read.found in
    let fits : is_in_range s t ≡ true =
    ap (λ (x : scalars.Scalar). is_in_range x t) same ∙ ap (is_in_range (scalar_view c.in-Some-2.scalar)) (sym text_is) ∙ found.in_range in
    let blank : c.default-decor.result ≡ unset = search rules in (
      c.put_spanned.ensures
          ∙ ap (λ (x : scalars.Scalar). leaf x (Some (span place.start place.end)) c.default-decor.result) (sym same)
          ∙ ap (λ (d : Decor). leaf s (Some (span place.start place.end)) d) blank
          ∙ ap (λ (n : ℕ). leaf s (Some (span place.start n)) unset) end_is,
      fits,
    )

pub returns-in-Some-2-clause-fits : goal.returns-in-Some-2-clause-fits
returns-in-Some-2-clause-fits c =
    let place = c.args.span in
    let blank : c.default-decor.result ≡ unset = search rules in
    let view = c.put_spanned.ensures
    ∙ ap (λ (d : Decor). leaf (scalar_view c.in-Some-2.scalar) (Some (span place.start place.end)) d) blank in
    subst (NodeFits c.args.reader.now.source.now) (sym view) ((c.requires.start, c.requires.end, c.requires.order), (tt, tt))

pub returns-in-None-clause-value : goal.returns-in-None-clause-value
unfolding fault_at
returns-in-None-clause-value c =
    λ s t cut_is end_is spells.
    let place = c.args.span in
    let text = c.text_at-text.result.now in
    let text_is : text ≡ t = c.text_at-text.ensures ∙ cut_is in
    let own = subst (λ (x : Text). Spells s x) (sym text_is) spells in
    let past : is_in_range s text ≡ false =
    subst (λ (o : Option code.Scalar). MatchOption o (is_in_range s text ≡ false) (λ x. s ≡ scalar_view x)) c.in-None.is
    (c.in_ok-scalar.ensures.only s own) in
    let told : c.range_message.result.now ≡ range_message s = c.range_message.ensures.message s own past in
    mapped c.refusal_with.result _ _
    (λ r known. (
      ap (λ (x : Report). x.input) known,
      ap (is_in_range s) (sym text_is) ∙ past,
      ap fault_of known ∙ ap (fault_at place.start place.end) told ∙ ap (λ (n : ℕ). fault_at place.start n (range_message s)) end_is,
    ))
    c.refusal_with.ensures.report

pub returns-in-None-clause-refused : goal.returns-in-None-clause-refused
returns-in-None-clause-refused c = c.refusal_with.ensures.refused v1_1 (inr c.range_message.ensures.listed)
