-- Each turn enters a table, or leaves out what is none.
use Rattle.std.proofs.Common.{◌<◌, ◌+◌, [], ◌∷◌, ◌++◌, drop, length, sym, ap, ◌∙◌, arith}
use Rattle.toml_edit_laws.specs.PrintByVisits.{walked_items}
use Rattle.toml_edit_tree.specs.Printing.{keys_on}
use Rattle.toml_edit_tree.specs.View.{items_view}
use Rattle.toml_edit.specs.HeadersView.{walk_view}
use Rattle.toml_edit.proofs.HeaderLaws.{element-turn, other-turn}
use Rattle.toml_edit.proofs.headers.+walk.Goals as goal
use Rattle.toml_edit.proofs.headers.+walk.Goals.{enter_elements-in-Table+in_ok-enter_table, enter_elements-in_default}

pub enter_elements-items-preserved : goal.enter_elements-items-preserved
enter_elements-items-preserved m c =
    let xs = c.deref-item-items.result.now in
    let i = c.items.item-index in
    let x = c.item-item.result in
    let ks = keys_on c.args.path.now ++ (c.args.key.now ∷ []) in
    let w0 = walk_view c.items.walk in
    let below : i < length xs = omega arith in
    elim c.match-item.branch [
      | enter_elements-in-Table+in_ok-enter_table w ↦
          rw (w.walk-is)
          (ap (walked_items (items_view (drop (i + 1) xs)) ks) w.in_ok-enter_table.ensures
          ∙ sym (element-turn xs i x ks w0 below c.item-item.is w.in-Table.table w.in-Table.is) ∙ c.items.invariant)
      | enter_elements-in_default w ↦
          rw (w.walk-is) (sym (other-turn xs i x ks w0 below c.item-item.is w.in_default.not-Table) ∙ c.items.invariant)
    ]
