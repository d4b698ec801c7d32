-- The scalar that is put, and what its text is refused with.
use Rattle.std.proofs.Common.{rules, w64, to_z, of_z, ◌≡◌, ℤ, false, true, Option, Some, sym, ap, subst, ◌∙◌, inr}
use Rattle.std.specs.Prelude.{IfSome, MatchOption}
use Rattle.toml_edit_model.specs.Version.{v1_1}
use Rattle.toml_edit_model.specs.Text.{Text}
use Rattle.toml_edit_model.specs.Scalars as scalars
use Rattle.toml_edit_model.specs.Spelling.{Spells, is_in_range}
use Rattle.toml_edit_model.specs.Syntax as syntax
use Rattle.toml_edit_model.specs.Tree.{Raw, span, leaf}
use Rattle.toml_edit_repr.specs.Views.{FormattedView}
use Rattle.toml_edit_token.specs.Decoded.{IsSpelling, scalar_view}
use Rattle.toml_edit_token.specs.declared.decode.Scalar as code
use Rattle.toml_edit_tree.specs.View.{item_view}
use Rattle.toml_edit_syntax.specs.declared.event.Span.{Span}
use Rattle.toml_edit_repr.specs.Modes.{mode_of}
use Rattle.toml_edit_parser.specs.Near.{IsNear}
use Rattle.toml_edit_parser.specs.ValueRead.{spanned_raw, split_first}
use Rattle.toml_edit_parser.proofs.ScalarElements.{place_cut, scalar_put, scalar_refusal}
use Rattle.toml_edit_parser.proofs.SplitLaws.{first_in}
use Rattle.toml_edit_parser.proofs.ViewLaws.{view-Integer, view-Value}
use Rattle.toml_edit_parser.proofs.NearLaws.{near, suffix-near}
use Rattle.toml_edit_parser.proofs.document.parts.read_line_scalar.Goals as goal

pub returns-in_default-clause-value : goal.returns-in_default-clause-value
returns-in_default-clause-value c =
    λ s t start after suffix more spells stands place_is events_are counted. absurd (let none = c.in_default.ensures
    ∙ ap split_first events_are in cc)

pub returns-in-Some-decode_integer-clause-value : goal.returns-in-Some-decode_integer-clause-value
returns-in-Some-decode_integer-clause-value c =
    λ s t start after suffix more spells stands place_is events_are counted.
    let place = c.args.span in
    let text = c.text_at-text.result.now in
    let text_is = c.text_at-text.ensures ∙ place_cut c.args.reader.now.source.now place start t place_is stands in
    let read = c.in-Some-decode_integer in
    let same = read.ensures.only s (subst (λ (x : Text). Spells s x) (sym text_is) spells) in
    let found = read.ensures.found in
    let number = read.number in
    let fits : is_in_range s t ≡ true =
    ap (λ (x : scalars.Scalar). is_in_range x t) same ∙ ap (is_in_range (scalars.integer number)) (sym text_is) ∙ found.in_range in
    let decor =
    c.new-decor.ensures
    ∙ ap (λ (r : Raw). record { prefix = Some r; suffix = Some c.raw-2.result }) c.raw.ensures.raw
    ∙ ap (λ (r : Raw). record { prefix = Some (spanned_raw c.args.before); suffix = Some r }) c.raw-2.ensures.raw
    ∙ ap (λ (x : Span). record { prefix = Some (spanned_raw c.args.before); suffix = Some (spanned_raw x) }) c.suffix.ensures in
    let own : to_z w64 (of_z w64 number) ≡ number = search rules in
    let view =
    ap item_view c.put.ensures ∙ view-Value _ ∙ view-Integer c.spanned.result
    ∙ ap (λ (f : FormattedView ℤ). leaf (scalars.integer f.value) f.repr f.decor) c.spanned.ensures
    ∙ ap (λ (z : ℤ). leaf (scalars.integer z) (Some (span place.start place.end)) c.new-decor.result) own
    ∙ ap (λ (x : scalars.Scalar). leaf x (Some (span place.start place.end)) c.new-decor.result) (sym same) in
    scalar_put (mode_of c.args.reader.now.mode) c.args.reader.now.source.now s t start c.args.before after suffix more place c.in-Some.end
    c.args.events.now c.in-Some.rest.now
    c.put.new.place c.new-decor.result spells place_is events_are c.in-Some.ensures counted fits view decor

pub returns-in-Some-decode_integer-clause-rest : goal.returns-in-Some-decode_integer-clause-rest
returns-in-Some-decode_integer-clause-rest c =
    let p = first_in c.args.reader.now.source.now c.args.events.now c.in-Some.end c.in-Some.rest.now c.in-Some.ensures c.requires.spans in
    (p.1, p.2)

pub returns-in-Some-2-clause-value : goal.returns-in-Some-2-clause-value
returns-in-Some-2-clause-value c =
    λ s t start after suffix more spells stands place_is events_are counted.
    let place = c.args.span in
    let text = c.text_at-text.result.now in
    let text_is = c.text_at-text.ensures ∙ place_cut c.args.reader.now.source.now place start t place_is stands in
    let read = c.in_ok-scalar.ensures in
    let is = c.in-Some-2.is in
    let same : s ≡ scalar_view c.in-Some-2.scalar =
    subst (λ (o : Option code.Scalar). MatchOption o (is_in_range s text ≡ false) (λ x. s ≡ scalar_view x)) is
    (read.only s (subst (λ (x : Text). Spells s x) (sym text_is) spells)) in
    let found : IsSpelling text (scalar_view c.in-Some-2.scalar) =
    subst (λ (o : Option code.Scalar). IfSome o (λ x. IsSpelling text (scalar_view x))) is read.found in
    let fits : is_in_range s t ≡ true =
    ap (λ (x : scalars.Scalar). is_in_range x t) same ∙ ap (is_in_range (scalar_view c.in-Some-2.scalar)) (sym text_is) ∙ found.in_range in
    let decor =
    c.new-decor.ensures
    ∙ ap (λ (r : Raw). record { prefix = Some r; suffix = Some c.raw-2.result }) c.raw.ensures.raw
    ∙ ap (λ (r : Raw). record { prefix = Some (spanned_raw c.args.before); suffix = Some r }) c.raw-2.ensures.raw
    ∙ ap (λ (x : Span). record { prefix = Some (spanned_raw c.args.before); suffix = Some (spanned_raw x) }) c.suffix.ensures in
    let view =
    c.put_spanned.ensures ∙ ap (λ (x : scalars.Scalar). leaf x (Some (span place.start place.end)) c.new-decor.result) (sym same) in
    scalar_put (mode_of c.args.reader.now.mode) c.args.reader.now.source.now s t start c.args.before after suffix more place c.in-Some.end
    c.args.events.now c.in-Some.rest.now
    c.put_spanned.new.item c.new-decor.result spells place_is events_are c.in-Some.ensures counted fits view decor

pub returns-in-Some-2-clause-rest : goal.returns-in-Some-2-clause-rest
returns-in-Some-2-clause-rest c =
    let p = first_in c.args.reader.now.source.now c.args.events.now c.in-Some.end c.in-Some.rest.now c.in-Some.ensures c.requires.spans in
    (p.1, p.2)

pub returns-in-None-clause-value : goal.returns-in-None-clause-value
returns-in-None-clause-value c =
    λ s t start after suffix more spells stands place_is events_are counted.
    let place = c.args.span in
    let text = c.text_at-text.result.now in
    let text_is = c.text_at-text.ensures ∙ place_cut c.args.reader.now.source.now place start t place_is stands in
    let own = subst (λ (x : Text). Spells s x) (sym text_is) spells in
    let past : is_in_range s text ≡ false =
    subst (λ (o : Option code.Scalar). MatchOption o (is_in_range s text ≡ false) (λ x. s ≡ scalar_view x)) c.in-None.is
    (c.in_ok-scalar.ensures.only s own) in
    scalar_refusal c.args.reader.now.source.now s t start place c.range_message.result.now c.refusal_with.result place_is
    (ap (is_in_range s) (sym text_is) ∙ past) (c.range_message.ensures.message s own past) c.refusal_with.ensures.report

pub returns-in-None-clause-refused : goal.returns-in-None-clause-refused
returns-in-None-clause-refused c = c.refusal_with.ensures.refused v1_1 (inr c.range_message.ensures.listed)

pub raw-requires : goal.raw-requires
raw-requires c = near c.args.reader.now.source.now c.args.before c.args.reader.now.short c.requires.before

pub raw-requires-2 : goal.raw-requires-2
raw-requires-2 c =
    let t = c.args.reader.now.source.now in
    subst IsNear (sym c.suffix.ensures)
    (suffix-near (mode_of c.args.reader.now.mode) t c.in-Some.end.span c.args.reader.now.short
    (first_in t c.args.events.now c.in-Some.end c.in-Some.rest.now c.in-Some.ensures c.requires.spans).0)
