-- The root, and what is below it.
use Rattle.std.proofs.Common.{◌≡◌, ◌∙◌, ap, sym, List, [], ◌∷◌, ◌++◌}
use Rattle.toml_edit.specs.DocumentView.{source, tree_read}
use Rattle.toml_edit_model.specs.Tree.{Raw, owned}
use Rattle.toml_edit_tree.specs.View.{slots_view}
use Rattle.toml_edit_tree.proofs.ViewLaws.{table_slots}
use Rattle.toml_edit_index.specs.Indexed.{root_node}
use Rattle.toml_edit_index.specs.declared.node.Node.{Node}
use Rattle.toml_edit_index.specs.declared.node.Span.{Span}
use Rattle.toml_edit_index.proofs.IndexLaws.{index-is}
use Rattle.toml_edit_index.proofs.index.index_of.Goals as goal

pub returns : goal.returns
returns c =
    let d = c.args.document.now in
    let n = c.root.result in
    let root : n ≡ root_node 1 (tree_read d).trailing =
    c.root.ensures ∙ ap (λ (s : Span). record (root_node 1 (owned [])) { after = s }) c.of_raw.ensures
    ∙ ap (λ (r : Raw). root_node 1 r) c.trailing.ensures in
    index-is (source d) (tree_read d) (slots_view c.as_table.result.now.slots) n
    (record { lines = c.in_ok-new.field-0; nodes = c.push.new.self; names = c.new-3.result }) c.put_slots.new.index c.close.new.index
    (c.in_ok-new.ensures.same ∙ c.raw.ensures) root
    (c.in_ok-push.ensures.items ∙ ap (λ (ns : List Node). ns ++ (n ∷ [])) c.new-2.ensures.items) c.new-3.ensures.items (sym (table_slots c.as_table.result.now) ∙ c.as_table.ensures.slots)
    c.in_ok-put_slots.ensures c.close.ensures
