-- A name that is there is put into the set.
use Rattle.std.proofs.Common.{◌≡◌, ◌∙◌, ◌++◌, List, [], ◌∷◌, ap, sym, subst, Some}
use Rattle.std.specs.Bool.{OnTrue}
use Rattle.toml_edit_model.specs.Keys.{names}
use Rattle.toml_edit_model.specs.Text.{Text}
use Rattle.toml_edit_tree.specs.View.{item_view}
use Rattle.toml_edit.specs.DocumentView.{tree_owned}
use Rattle.toml_edit_edit_laws.specs.Commands.{item_at}
use Rattle.toml_edit_edits.specs.Effects.{removed}
use Rattle.toml_edit_edits.specs.Lists.{effect}
use Rattle.toml_edit_edits.specs.Removes.{AddsText, texts}
use Rattle.toml_edit_edits.proofs.RemovesLaws.{item-there, key-below, name-added}
use Rattle.toml_edit_edits.proofs.removes.add_name.Goals as goal

pub returns-in-Ok-clause-added : goal.returns-in-Ok-clause-added
returns-in-Ok-clause-added c =
    let e = c.args.edit.now in
    let t = tree_owned c.args.document.now in
    let above = names c.args.above.now in
    let path = c.in-Some.path.now in
    let key = c.in-Some-split_last.key.now in
    let table = c.in-Some-split_last.table.now in
    let name : key.name ≡ c.get.result.now = sym c.get.ensures.name in
    let is : names path ≡ above ++ c.get.result.now ∷ [] =
    key-below path table c.args.above.now key c.in-Some-split_last.ensures.cases.0 (sym c.eq.ensures ∙ c.if-eq.true)
    ∙ ap (λ (k : Text). above ++ k ∷ []) name in
    let found = item-there (λ x. item_view x.now) c.get_at.result (sym c.is_some.ensures ∙ c.if-is_some.true) in
    let old = texts c.args.names.now in
    let new = texts c.add_text.new.names in
    let added = subst (λ k. OnTrue c.add_text.result (AddsText k old new)) c.in-Ok.ensures.ok c.add_text.ensures.added in
    name-added e above t old new c.get.result.now c.add_text.result added found.0
    (subst (λ p. item_at p t ≡ Some found.0) is (sym c.get_at.ensures ∙ found.1))
    (λ u. c.in-Some.ensures u ∙ ap (λ p. removed p u) is)
