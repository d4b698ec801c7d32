-- The scalar that is put, and what its text is refused with.
use Rattle.std.proofs.Common.{rules, w64, to_z, of_z, ◌≡◌, ℤ, ◌+◌, false, true, List, [], length, set, Option, Some, sym, ap, subst, ◌∙◌, inr}
use Rattle.std.specs.Prelude.{IfSome, MatchOption}
use Rattle.std.proofs.lemmas.List.{set_at}
use Rattle.toml_edit_model.specs.Version.{v1_1}
use Rattle.toml_edit_model.specs.Text.{Text}
use Rattle.toml_edit_model.specs.Scalars as scalars
use Rattle.toml_edit_model.specs.Spelling.{Spells, is_in_range}
use Rattle.toml_edit_model.specs.Tree.{Raw, span, leaf}
use Rattle.toml_edit_repr.specs.Views.{FormattedView}
use Rattle.toml_edit_token.specs.Decoded.{IsSpelling, scalar_view}
use Rattle.toml_edit_token.specs.declared.decode.Scalar as code
use Rattle.toml_edit_tree.specs.declared.item.Item.{Item}
use Rattle.toml_edit_tree.specs.declared.item.Item.TheVariants as items
use Rattle.toml_edit_tree.specs.declared.value.Value.TheVariants as values
use Rattle.toml_edit_parser.specs.ValueRead.{spanned_raw}
use Rattle.toml_edit_parser.proofs.ScalarElements.{place_cut, scalar_refusal, scalar_added, scalar_fits}
use Rattle.toml_edit_parser.proofs.SplitLaws.{first_in}
use Rattle.toml_edit_parser.proofs.ViewLaws.{view-Integer, view-Value}
use Rattle.toml_edit_parser.proofs.NearLaws.{near}
use Rattle.toml_edit_parser.proofs.array.read_scalar_element.Goals as goal

pub returns-in-Some-decode_integer-clause-element : goal.returns-in-Some-decode_integer-clause-element
returns-in-Some-decode_integer-clause-element c =
    λ a s t start level more spells stands before_is place_is events_are.
    let place = c.args.span in
    let text_is = c.text_at-text.ensures ∙ place_cut c.args.reader.now.source.now place (start + length a.before) t place_is stands in
    let read = c.in-Some-decode_integer in
    let same = read.ensures.only s (subst (λ (x : Text). Spells s x) (sym text_is) spells) in
    let found = read.ensures.found in
    let decor =
    c.new-decor.ensures
    ∙ ap (λ (r : Raw). record { prefix = Some r; suffix = Some c.raw-2.result }) c.raw.ensures.raw
    ∙ ap (λ (r : Raw). record { prefix = Some (spanned_raw c.args.before); suffix = Some r }) c.raw-2.ensures.raw in
    let number = read.number in
    let own : to_z w64 (of_z w64 number) ≡ number = search rules in
    let view =
    view-Value _ ∙ view-Integer c.spanned.result ∙ ap (λ (f : FormattedView ℤ). leaf (scalars.integer f.value) f.repr f.decor) c.spanned.ensures
    ∙ ap (λ (z : ℤ). leaf (scalars.integer z) (Some (span place.start place.end)) c.new-decor.result) own
    ∙ ap (λ (x : scalars.Scalar). leaf x (Some (span place.start place.end)) c.new-decor.result) (sym same) in
    scalar_added a s t start level more c.args.values.now.items c.put_value.new.values.items c.args.before place c.in-Some.after
    c.args.events.now c.in-Some.rest.now
    (items.Value (values.Integer c.spanned.result)) c.new-decor.result spells before_is place_is events_are c.in-Some.ensures
    (ap (λ (x : scalars.Scalar). is_in_range x t) same ∙ found.in_range) view decor c.in_ok-put_value.ensures

pub returns-in-Some-decode_integer-clause-fits : goal.returns-in-Some-decode_integer-clause-fits
returns-in-Some-decode_integer-clause-fits c =
    λ fit.
    let t = c.args.reader.now.source.now in
    let place = c.args.span in
    let after = (first_in t c.args.events.now c.in-Some.after c.in-Some.rest.now c.in-Some.ensures c.requires.spans).0 in
    let number = c.in-Some-decode_integer.number in
    let own : to_z w64 (of_z w64 number) ≡ number = search rules in
    let view =
    view-Value _ ∙ view-Integer c.spanned.result ∙ ap (λ (f : FormattedView ℤ). leaf (scalars.integer f.value) f.repr f.decor) c.spanned.ensures
    ∙ ap (λ (z : ℤ). leaf (scalars.integer z) (Some (span place.start place.end)) c.new-decor.result) own in
    scalar_fits t c.args.values.now.items c.put_value.new.values.items (items.Value (values.Integer c.spanned.result))
    (scalars.integer c.in-Some-decode_integer.number) place.start place.end
    c.new-decor.result c.raw.result c.raw-2.result view (
      c.requires.span.start,
      c.requires.span.end,
      c.requires.span.order,
    ) c.new-decor.ensures
    (c.raw.ensures.fits t c.requires.before) (c.raw-2.ensures.fits t after) c.in_ok-put_value.ensures fit

pub returns-in-Some-decode_integer-clause-rest : goal.returns-in-Some-decode_integer-clause-rest
returns-in-Some-decode_integer-clause-rest c =
    let p = first_in c.args.reader.now.source.now c.args.events.now c.in-Some.after c.in-Some.rest.now c.in-Some.ensures c.requires.spans in
    (p.1, p.2)

pub returns-in_ok-push-in-Some-2-clause-element : goal.returns-in_ok-push-in-Some-2-clause-element
returns-in_ok-push-in-Some-2-clause-element c =
    λ a s t start level more spells stands before_is place_is events_are.
    let place = c.args.span in
    let text = c.text_at-text.result.now in
    let text_is = c.text_at-text.ensures ∙ place_cut c.args.reader.now.source.now place (start + length a.before) t place_is stands in
    let read = c.in_ok-scalar.ensures in
    let is = c.in-Some-2.is in
    let same : s ≡ scalar_view c.in-Some-2.scalar =
    subst (λ (o : Option code.Scalar). MatchOption o (is_in_range s text ≡ false) (λ x. s ≡ scalar_view x)) is
    (read.only s (subst (λ (x : Text). Spells s x) (sym text_is) spells)) in
    let found : IsSpelling text (scalar_view c.in-Some-2.scalar) =
    subst (λ (o : Option code.Scalar). IfSome o (λ x. IsSpelling text (scalar_view x))) is read.found in
    let fits : is_in_range s t ≡ true =
    ap (λ (x : scalars.Scalar). is_in_range x t) same ∙ ap (is_in_range (scalar_view c.in-Some-2.scalar)) (sym text_is) ∙ found.in_range in
    let decor =
    c.new-decor.ensures
    ∙ ap (λ (r : Raw). record { prefix = Some r; suffix = Some c.raw-2.result }) c.raw.ensures.raw
    ∙ ap (λ (r : Raw). record { prefix = Some (spanned_raw c.args.before); suffix = Some r }) c.raw-2.ensures.raw in
    let view =
    c.put_spanned.ensures ∙ ap (λ (x : scalars.Scalar). leaf x (Some (span place.start place.end)) c.new-decor.result) (sym same) in
    let x = c.put_spanned.new.item in
    scalar_added a s t start level more c.args.values.now.items _ c.args.before place c.in-Some.after
    c.args.events.now c.in-Some.rest.now
    x c.new-decor.result spells before_is place_is events_are c.in-Some.ensures fits view decor
    (ap (λ (ys : List Item). set ys c.len-at.result x) c.in_ok-push-in-Some-2.ensures.items ∙ set_at c.args.values.now.items items.None [] x c.len-at.result (search rules))

pub returns-in_ok-push-in-Some-2-clause-fits : goal.returns-in_ok-push-in-Some-2-clause-fits
returns-in_ok-push-in-Some-2-clause-fits c =
    λ fit.
    let t = c.args.reader.now.source.now in
    let place = c.args.span in
    let after = (first_in t c.args.events.now c.in-Some.after c.in-Some.rest.now c.in-Some.ensures c.requires.spans).0 in
    let x = c.put_spanned.new.item in
    scalar_fits t c.args.values.now.items _ x (scalar_view c.in-Some-2.scalar)
    place.start place.end
    c.new-decor.result c.raw.result c.raw-2.result c.put_spanned.ensures (
      c.requires.span.start,
      c.requires.span.end,
      c.requires.span.order,
    ) c.new-decor.ensures
    (c.raw.ensures.fits t c.requires.before) (c.raw-2.ensures.fits t after)
    (ap (λ (ys : List Item). set ys c.len-at.result x) c.in_ok-push-in-Some-2.ensures.items ∙ set_at c.args.values.now.items items.None [] x c.len-at.result (search rules)) fit

pub returns-in-None-clause-element : goal.returns-in-None-clause-element
returns-in-None-clause-element c =
    λ a s t start level more spells stands before_is place_is events_are.
    let place = c.args.span in
    let text = c.text_at-text.result.now in
    let at = start + length a.before in
    let text_is = c.text_at-text.ensures ∙ place_cut c.args.reader.now.source.now place at t place_is stands in
    let own = subst (λ (x : Text). Spells s x) (sym text_is) spells in
    let past : is_in_range s text ≡ false =
    subst (λ (o : Option code.Scalar). MatchOption o (is_in_range s text ≡ false) (λ x. s ≡ scalar_view x)) c.in-None.is
    (c.in_ok-scalar.ensures.only s own) in
    scalar_refusal c.args.reader.now.source.now s t at place c.range_message.result.now c.refusal_with.result place_is
    (ap (is_in_range s) (sym text_is) ∙ past) (c.range_message.ensures.message s own past) c.refusal_with.ensures.report

pub returns-in-None-clause-refused : goal.returns-in-None-clause-refused
returns-in-None-clause-refused c = c.refusal_with.ensures.refused v1_1 (inr c.range_message.ensures.listed)

pub raw-requires : goal.raw-requires
raw-requires c = near c.args.reader.now.source.now c.args.before c.args.reader.now.short c.requires.before

pub raw-requires-2 : goal.raw-requires-2
raw-requires-2 c =
    let t = c.args.reader.now.source.now in
    near t c.in-Some.after.span c.args.reader.now.short
    (first_in t c.args.events.now c.in-Some.after c.in-Some.rest.now c.in-Some.ensures c.requires.spans).0
