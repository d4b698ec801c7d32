-- What a document lends.
use Rattle.std.specs.Prelude.{◌≡◌, Result, Some}
use Rattle.std.specs.Borrow.{Lends, LendsSoOk, MutBor, Fml}
use Rattle.toml_edit_model.specs.Text.{Text}
use Rattle.toml_edit.specs.DocumentView.{IsPrintedAs, tree_owned}
use Rattle.toml_edit.specs.Roots.{table-is}
use Rattle.toml_edit.specs.declared.document.DocumentMut.{DocumentMut}
use Rattle.toml_edit.specs.contracts.document.DocumentMut.{the_row as document_row}
use Rattle.toml_edit_tree.specs.Indexed.{written_under}
use Rattle.toml_edit_tree.specs.View.{item_view}
use Rattle.toml_edit_tree.specs.contracts.item.Item.{the_row as item_row}
use Rattle.toml_edit_tree.specs.declared.item.Item.{Item}
use Rattle.toml_edit_tree.specs.declared.item.Item.TheVariants as items
use Rattle.toml_edit_tree.specs.declared.table.Table.{Table}
use Rattle.toml_edit_tree.specs.contracts.table.Table.{the_row as table_row}
use Rattle.toml_edit_edit_laws.specs.Commands.{root_item}

-- the document ends with the final root of r
abbrev pub LendsRoot : MutBor DocumentMut → MutBor Table → Fml
LendsRoot s r =
    Lends document_row table_row s r
    (λ w. record s.now { root = items.Table w; rooted = table-is w })

-- The document ends with the final item of r in the slot of the key in its root, which may be new;
-- its tree stays where none is lent. How it is printed stays.
abbrev pub LendsUnder : {E : Type 0} → MutBor DocumentMut → Text → Result (MutBor Item) E → Fml
LendsUnder s k r = LendsSoOk document_row item_row s r
    (λ n w. (written_under k (item_view w) (root_item (tree_owned s.now))
    ≡ Some (root_item (tree_owned n)))
    × ((tree_owned n).trailing ≡ (tree_owned s.now).trailing) × IsPrintedAs n s.now)
    (λ n. (tree_owned n ≡ tree_owned s.now) × IsPrintedAs n s.now)
