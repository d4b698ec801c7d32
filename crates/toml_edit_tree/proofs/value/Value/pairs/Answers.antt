-- The next pair is inserted after those before it, and all come.
use Rattle.std.proofs.Common.{◌≡◌, ◌++◌, ◌∷◌, ◌∙◌, [], Bor, List, ap, arith, length, map, refl, sym, vec_len}
use Rattle.std.proofs.lemmas.Iterator.Adapters.{YieldsList-from_vec}
use Rattle.std.proofs.lemmas.Iterator.Consumers.{YieldsList-end}
use Rattle.std.proofs.lemmas.List.{map-append}
use Rattle.std.proofs.lemmas.List.Sums.{fold-append}
use Rattle.toml_edit_laws.proofs.slots.Lists.{slots_from-list}
use Rattle.toml_edit_model.specs.Conversions.{new_inline}
use Rattle.toml_edit_model.specs.Lists.{slots_from}
use Rattle.toml_edit_model.specs.Slots.{Slot, inserted}
use Rattle.toml_edit_model.specs.Text.{Text}
use Rattle.toml_edit_model.specs.Tree.{Node, inline}
use Rattle.toml_edit_tree.specs.InlineSlots.{slots_of_pairs}
use Rattle.toml_edit_tree.specs.View.{inline_view, value_view}
use Rattle.toml_edit_tree.specs.declared.value.Value.{Value}
use Rattle.toml_edit_tree.proofs.ViewLaws.{view-InlineTable}
use Rattle.toml_edit_tree.proofs.value.Value.pairs.Goals as goal

abbrev seen : Bor Text × Value → Text × Node
seen p = (p.0.now, value_view p.1)

abbrev insert : List (Slot Node) → Text × Node → List (Slot Node)
insert ss p = inserted p.0 p.1 ss

pub loop-name-preserved : goal.loop-name-preserved
loop-name-preserved c =
    let ps = c.loop-name.yielded in let p : Bor Text × Value = (c.in-Some.name, c.in-Some.value) in (
      c.in_ok-insert.ensures.slots ∙ (ap (λ ss. insert ss (seen p)) c.loop-name.invariant.0
          ∙ sym (ap slots_of_pairs (map-append seen ps (p ∷ [])) ∙ fold-append insert [] (map seen ps) (seen p ∷ []))),
      c.insert.ensures.fields ∙ c.loop-name.invariant.1,
    )

map-same : {A : Type 0} (xs : List A) → map (λ x. x) xs ≡ xs
map-same [] = refl
map-same (x ∷ xs) = ap (λ ys. x ∷ ys) (map-same xs)

pub returns : goal.returns
returns c =
    let l = c.loop-name in let gives = c.into_iter-name-iterator.ensures.into_iter_gives in let v = c.args.pairs in
    let len : vec_len v ≡ length v.items = omega (arith, v.ok.0) in
    let all = YieldsList-end (YieldsList-from_vec v.items gives.0 (gives.1 ∙ len)) l.yielded l.name-iterator l.yielded_by c.next.result c.next.new.self c.in-None.is c.next.ensures.steps in
    let view = inline_view l.table in
    view-InlineTable l.table ∙ ap (λ f. inline f view.slots) l.invariant.1
    ∙ ap (inline new_inline) (sym (slots_from-list view.slots) ∙ ap slots_from (l.invariant.0
    ∙ ap (λ ps. slots_of_pairs (map seen ps)) (sym (map-same l.yielded) ∙ all.0)))
