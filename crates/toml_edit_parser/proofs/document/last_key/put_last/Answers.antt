use Rattle.std.proofs.Common.{subst}
use Rattle.toml_edit_tree.specs.View.{item_view, slots_view}
use Rattle.toml_edit_parser.specs.TableRead.{IsItemFor}
use Rattle.toml_edit_parser.specs.declared.document.path.Kind.{Kind}
use Rattle.toml_edit_parser.specs.declared.document.path.Kind.TheVariants as kinds
use Rattle.toml_edit_parser.proofs.PathLaws.{kind-put, line-put}
use Rattle.toml_edit_parser.proofs.document.last_key.put_last.Goals as goal

pub returns-in-Line-clause-put : goal.returns-in-Line-clause-put
returns-in-Line-clause-put c =
    λ mode s m head is.
    let n = item_view c.args.item.now in
    kind-put mode c.args.adding.now.reader.now.source.now c.add_last.result c.args.adding.now.kind kinds.Line n m (slots_view c.args.slots.now) _
    c.in-Line.is
    (line-put mode c.args.adding.now.reader.now.source.now c.add_last.result s m c.args.key c.args.at n (slots_view c.args.slots.now) _ is
    c.add_last.ensures.last)

pub returns-in-Table-clause-put : goal.returns-in-Table-clause-put
returns-in-Table-clause-put c =
    λ mode s m head is.
    let n = item_view c.args.item.now in
    kind-put mode c.args.adding.now.reader.now.source.now c.put_table.result c.args.adding.now.kind kinds.Table n m (slots_view c.args.slots.now) _
    c.in-Table.is
    (c.put_table.ensures.put mode s m (subst (λ (x : Kind). IsItemFor mode x s n) c.in-Table.is head) is)

pub returns-in-Element-clause-put : goal.returns-in-Element-clause-put
returns-in-Element-clause-put c =
    λ mode s m head is.
    let n = item_view c.args.item.now in
    kind-put mode c.args.adding.now.reader.now.source.now c.put_element.result c.args.adding.now.kind (kinds.Element c.in-Element.brackets) n m
    (slots_view c.args.slots.now) _ c.in-Element.is
    (c.put_element.ensures.put mode s m (subst (λ (x : Kind). IsItemFor mode x s n) c.in-Element.is head) is)
