-- What is inserted is a new dotted inline table of the value alone.
use Rattle.std.proofs.Common.{◌≡◌, [], ap, true, ◌∙◌, rules}
use Rattle.toml_edit.specs.model.Lists.{slot_list}
use Rattle.toml_edit.specs.model.Slots.{inserted}
use Rattle.toml_edit.specs.tree.Containers.{inline_with_dotted}
use Rattle.toml_edit.specs.tree.InlineSlots.{inline_fields}
use Rattle.toml_edit.specs.tree.SlotsOf.{inline_slots_of}
use Rattle.toml_edit.specs.tree.View.{inline_view, value_view}
use Rattle.example_calls.specs.Adds.{dotted_inline}
use Rattle.example_calls.proofs.AddLaws.{inline-one}
use Rattle.example_calls.proofs.adding.add_dotted.Goals as goal

pub returns-clause-ok : goal.returns-clause-ok
returns-clause-ok c =
    let x = value_view c.args.value in
    let key = c.args.inner.now in
    let t = c.insert.new.self in
    let es = inline_slots_of c.args.table.now in
    let put : inline_slots_of c.insert-2.new.self ≡ inserted c.args.outer.now (value_view c.from.result) es = search rules in
    let first : inline_slots_of t ≡ inserted key x (inline_slots_of c.set_dotted.new.self) = search rules in
    let made = c.set_dotted.ensures ∙ ap (inline_with_dotted true) c.new-below.ensures in
    let slots : inline_slots_of t ≡ inserted key x [] = first ∙ (λ i. inserted key x (slot_list (made i).slots)) in
    let fields : inline_fields t ≡ dotted_inline = c.insert.ensures.fields ∙ ap (λ a. a.fields) made in
    put ∙ ap (λ n. inserted c.args.outer.now n es) (c.from.ensures ∙ inline-one dotted_inline key x (inline_view t) fields slots)
