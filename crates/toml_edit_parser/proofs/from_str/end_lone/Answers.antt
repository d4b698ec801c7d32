-- A value that was read, in owned form.
use Rattle.std.proofs.Common.{sym, ap, ◌∙◌, subst}
use Rattle.toml_edit_model.specs.Version.{v1_1}
use Rattle.toml_edit_model.specs.Text.{Text}
use Rattle.toml_edit_model.specs.Tree.{Node, unset, IsWellMade}
use Rattle.toml_edit_tree.specs.View.{value_view}
use Rattle.toml_edit_parser.proofs.LoneValueLaws.{brackets_refused, lone_made, lone_read, no_value, refused_whole}
use Rattle.toml_edit_parser.proofs.ReadFits.{fits-with_decor}
use Rattle.toml_edit_parser.proofs.from_str.end_lone.Goals as goal
use Rattle.toml_edit_model.specs.OwnedForm.{NodeFits, owned_node}

pub returns-then-are_cut_short-clause-every : goal.returns-then-are_cut_short-clause-every
returns-then-are_cut_short-clause-every c =
    λ v lone ok.
    absurd (no_value c.args.reader.now.source.now c.args.events.now c.requires.cut (value_view c.args.value.now) c.requires.read.0 c.requires.read.1
    (sym c.are_cut_short.ensures ∙ c.if-are_cut_short.true) v lone)

pub returns-then-are_cut_short-clause-refused : goal.returns-then-are_cut_short-clause-refused
returns-then-are_cut_short-clause-refused c =
    refused_whole c.args.reader.now.source.now c.refusal_of_all.result
    (no_value c.args.reader.now.source.now c.args.events.now c.requires.cut (value_view c.args.value.now) c.requires.read.0 c.requires.read.1
    (sym c.are_cut_short.ensures ∙ c.if-are_cut_short.true)) (c.refusal_of_all.ensures.refused v1_1)
    (brackets_refused c.args.reader.now.source.now c.args.events.now c.refusal_of_all.result c.requires.cut (sym c.are_cut_short.ensures
    ∙ c.if-are_cut_short.true))

pub despan-requires-clause-fits : goal.despan-requires-clause-fits
despan-requires-clause-fits c =
    let P : Node → Type 0 = λ n. NodeFits c.args.reader.now.source.now n in
    subst (λ (t : Text). NodeFits t (value_view c.undecorate.new.self)) (sym c.in_ok-source.ensures)
    (subst P (sym c.undecorate.ensures) (fits-with_decor c.args.reader.now.source.now (value_view c.args.value.now) unset c.requires.fits (tt, tt)))

pub despan-requires-clause-spelled : goal.despan-requires-clause-spelled
despan-requires-clause-spelled c =
    let P : Node → Type 0 = λ n. IsWellMade (owned_node c.args.reader.now.source.now n) in
    ∣ subst (λ (t : Text). IsWellMade (owned_node t (value_view c.undecorate.new.self))) (sym c.in_ok-source.ensures)
    (subst P (sym c.undecorate.ensures) (lone_made c.args.reader.now.source.now c.args.events.now c.requires.cut (value_view c.args.value.now)
    c.requires.read.0 c.requires.read.1
    (sym c.are_cut_short.ensures ∙ c.if-are_cut_short.false))) ∣₁

pub returns-clause-read : goal.returns-clause-read
returns-clause-read c =
    lone_read c.args.reader.now.source.now c.args.events.now c.requires.cut (value_view c.args.value.now) _ c.requires.read.0 c.requires.read.1
    (sym c.are_cut_short.ensures ∙ c.if-are_cut_short.false)
    (c.in_ok-despan.ensures ∙ ap (λ (t : Text). owned_node t (value_view c.undecorate.new.self)) c.in_ok-source.ensures
    ∙ ap (owned_node c.args.reader.now.source.now) c.undecorate.ensures)
