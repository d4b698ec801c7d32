-- What closures return at elements of arrays and of arrays of tables.
use Rattle.std.specs.Prelude.{◌≡◌, Bool, false, MatchBool}
use Rattle.std.specs.Borrow.{Bor}
use Rattle.std.specs.Fn.{Shared, FnReturnsAt}
use Rattle.toml_edit_model.specs.Tree.{Node}
use Rattle.toml_edit_tree.specs.Containers.{table_node}
use Rattle.toml_edit_tree.specs.View.{table_view, value_view}
use Rattle.toml_edit_tree.specs.declared.table.Table.{Table}
use Rattle.toml_edit_tree.specs.declared.value.Value.{Value}

-- some call of f at a value that is seen as n, or at a table, returned b
abbrev pub SaysOfValue : {F : Type 0} → Shared F (Bor Value × Unit {0}) Bool → F → Node → Bool
    → Type 0
SaysOfValue g f n b = (v : Value) × (value_view v ≡ n) × FnReturnsAt g f v b

abbrev pub SaysOfTable : {F : Type 0} → Shared F (Bor Table × Unit {0}) Bool → F → Node → Bool
    → Type 0
SaysOfTable g f n b = (t : Table) × (table_node (table_view t) ≡ n) × FnReturnsAt g f t b

-- ---- at items, of which a closure is shown those that pass a test

-- what a `retain` of items says of n: the closure's result where n passes, and else false
abbrev pub KeepsOnly : (Node → Bool) → (Node → Bool → Type 0) → Node → Bool → Type 0
KeepsOnly test says n b = MatchBool (test n) (says n b) (b ≡ false)
