-- What `get_values` returns, without its references.
use Rattle.std.specs.Prelude.{List, Vec, map}
use Rattle.std.specs.Borrow.{Bor}
use Rattle.std.specs.declared.alloc.Global.{Global}
use Rattle.toml_edit_model.specs.Tree.{Key, Node}
use Rattle.toml_edit_tree.specs.declared.value.Value.{Value}
use Rattle.toml_edit_tree.specs.View.{value_view}

abbrev pub keys_read : List (Bor Key) → List Key
keys_read ks = map (λ k. k.now) ks

abbrev pub line_read : Vec (Bor Key) Global × Bor Value → List Key × Node
line_read l = (keys_read l.0.items, value_view l.1.now)

abbrev pub values_read : List (Vec (Bor Key) Global × Bor Value) → List (List Key × Node)
values_read ls = map line_read ls
