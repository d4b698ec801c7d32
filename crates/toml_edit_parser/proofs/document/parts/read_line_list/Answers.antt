-- A value of any kind, between the texts around it.
use Rattle.std.proofs.Common.{◌+◌, List, ◌∷◌, length, sym, ap, subst, ◌∙◌, arith}
use Rattle.std.proofs.lemmas.Result.{err_from_is_err_and}
use Rattle.toml_edit_model.specs.Conversions.{with_decor}
use Rattle.toml_edit_model.specs.Syntax.{value_text}
use Rattle.toml_edit_model.specs.Tree.{Node}
use Rattle.toml_edit_syntax.specs.declared.event.Event.{Event}
use Rattle.toml_edit_syntax.specs.declared.event.EventKind.TheVariants.{LineEnd}
use Rattle.toml_edit_syntax.specs.ValueEvents.{event}
use Rattle.toml_edit_tree.specs.Casts.{both_sides}
use Rattle.toml_edit_tree.specs.View.{item_view}
use Rattle.toml_edit_tree.specs.declared.item.Item.{Item}
use Rattle.toml_edit_repr.specs.Modes.{mode_of}
use Rattle.toml_edit_parser.specs.Near.{IsNear}
use Rattle.toml_edit_parser.specs.StatementParts.{suffix_span}
use Rattle.toml_edit_parser.specs.ValueRead.{IsRead, split_first}
use Rattle.toml_edit_parser.proofs.ReadLaws.{same_parts}
use Rattle.toml_edit_parser.proofs.SplitLaws.{first_in}
use Rattle.toml_edit_parser.proofs.StatementPartLaws.{line-value}
use Rattle.toml_edit_parser.proofs.ViewLaws.{view-Value}
use Rattle.toml_edit_parser.proofs.NearLaws.{near, suffix-near}
use Rattle.toml_edit_parser.proofs.document.parts.read_line_list.Goals as goal

pub returns-in_err-value-clause-value : goal.returns-in_err-value-clause-value
returns-in_err-value-clause-value c =
    λ v start after suffix more is stands e counted.
    let p = err_from_is_err_and c.from_residual.result c.from_residual.ensures.1 in
    rw (p.1, p.2) (c.in_err-value.ensures.value v start 0 (event LineEnd (start + length (value_text v)) after
    ∷ more) is stands (omega arith) e)

pub returns-in_default-clause-value : goal.returns-in_default-clause-value
returns-in_default-clause-value c =
    λ v start after suffix more is stands e counted.
    let h = c.in_ok-value.ensures.value v start 0 (event LineEnd (start + length (value_text v)) after ∷ more) is stands (omega arith) e in
    absurd (let none = c.in_default.ensures ∙ ap split_first h.rest_is in cc)

pub returns-clause-value : goal.returns-clause-value
returns-clause-value c =
    λ v start after suffix more is stands e counted.
    let behind : List Event = event LineEnd (start + length (value_text v)) after ∷ more in
    let h = c.in_ok-value.ensures.value v start 0 behind is stands (omega arith) e in
    let P : Node → Type 0 = λ n. IsRead v start 0 behind n c.in_ok-value.rest.now in
    let last = same_parts c.in-Some.end _ c.in-Some.rest.now _ (c.in-Some.ensures ∙ ap split_first h.rest_is) in
    line-value (mode_of c.args.reader.now.mode) v start c.args.before after suffix more _ _ c.raw.result c.raw-2.result c.suffix.result
    c.in_ok-value.rest.now c.in-Some.rest.now
    (subst P (sym (view-Value c.in_ok-value.value)) h) c.raw.ensures.raw c.raw-2.ensures.raw
    (c.suffix.ensures ∙ ap (λ (x : Event). suffix_span (mode_of c.args.reader.now.mode) c.args.reader.now.source.now x.span) last.0
    ∙ counted)
    (c.decorate.ensures ∙ ap (λ (x : Item). with_decor (both_sides c.raw.result c.raw-2.result) (item_view x)) c.put.ensures) last.1

pub returns-clause-rest : goal.returns-clause-rest
returns-clause-rest c =
    let behind = first_in c.args.reader.now.source.now c.in_ok-value.rest.now c.in-Some.end c.in-Some.rest.now c.in-Some.ensures
    c.in_ok-value.ensures.rest.0 in
    let two = c.in_ok-value.ensures.rest.1 in
    let three = behind.2 in
    (behind.1, omega (arith, two, three))

pub raw-requires : goal.raw-requires
raw-requires c = near c.args.reader.now.source.now c.args.before c.args.reader.now.short c.requires.before

pub raw-requires-2 : goal.raw-requires-2
raw-requires-2 c =
    let t = c.args.reader.now.source.now in
    subst IsNear (sym c.suffix.ensures)
    (suffix-near (mode_of c.args.reader.now.mode) t c.in-Some.end.span c.args.reader.now.short
    (first_in t c.in_ok-value.rest.now c.in-Some.end c.in-Some.rest.now c.in-Some.ensures c.in_ok-value.ensures.rest.0).0)
