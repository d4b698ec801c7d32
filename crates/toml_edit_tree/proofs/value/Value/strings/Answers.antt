-- The value that is pushed is the next string.
use Rattle.std.proofs.Common.{◌≤◌, ◌<◌, ◌++◌, ◌∷◌, ◌∙◌, [], Bor, None, ap, arith, length, map, sym, take}
use Rattle.std.proofs.lemmas.List.{map_more, take_all}
use Rattle.toml_edit_laws.proofs.slots.Lists.{items_from-list}
use Rattle.toml_edit_model.specs.Conversions.{new_array}
use Rattle.toml_edit_model.specs.Lists.{items_from}
use Rattle.toml_edit_model.specs.Scalars.{string}
use Rattle.toml_edit_model.specs.Text.{Text}
use Rattle.toml_edit_model.specs.Tree.{Node, leaf, list, unset}
use Rattle.toml_edit_tree.specs.View.{array_view, value_view}
use Rattle.toml_edit_tree.proofs.ViewLaws.{view-Array}
use Rattle.toml_edit_tree.proofs.value.Value.strings.Goals as goal

abbrev string_of : Bor Text → Node
string_of text = leaf (string text.now) None unset

pub texts-preserved : goal.texts-preserved
texts-preserved c =
    let ts = c.args.texts.now in let i = c.texts.text-index in let below : i < length ts = omega arith in (
      c.in_ok-push.ensures.items ∙ (ap (λ ns. ns ++ (value_view c.in_ok-string.field-0 ∷ [])) c.texts.invariant.0
          ∙ (ap (λ n. map string_of (take i ts) ++ (n ∷ [])) c.in_ok-string.ensures
          ∙ sym (map_more string_of ts i _ below))),
      c.in_ok-push.ensures.fields ∙ c.texts.invariant.1,
    )

pub returns : goal.returns
returns c =
    let ts = c.args.texts.now in let i = c.texts.text-index in let past : length ts ≤ i = omega arith in
    let view = array_view c.texts.array in
    view-Array c.texts.array ∙ ap (λ f. list f view.items) c.texts.invariant.1
    ∙ ap (list new_array) (sym (items_from-list view.items) ∙ ap items_from (c.texts.invariant.0 ∙ ap (map string_of) (take_all i ts past)))
