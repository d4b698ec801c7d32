-- The newline is the first line of the text behind the event.
use Rattle.std.proofs.Common.{sym, ap, ◌∙◌, inl, inr}
use Rattle.toml_edit_model.specs.Comments.{lines}
use Rattle.toml_edit_fmt.proofs.StatementEvents.{text-behind}
use Rattle.toml_edit_fmt.proofs.statements.newline_after.Goals as goal

pub returns-in-Some : goal.returns-in-Some
returns-in-Some c s start there ended place =
    let told = c.in-Some.ensures.parts in
    let rest = ap lines c.range_from.ensures.value in
    elim (text-behind c.args.text.now start c.args.end.now.span.end s there ended place) [ inl (after, newline, is) ↦ cc | inr (none, is) ↦ absurd cc ]

pub returns-in-None : goal.returns-in-None
returns-in-None c s start there ended place =
    let told = c.in-None.ensures.parts in
    let rest = ap lines c.range_from.ensures.value in
    elim (text-behind c.args.text.now start c.args.end.now.span.end s there ended place) [ inl (after, newline, is) ↦ absurd cc | inr (none, is) ↦ sym none ]
