-- What is lent out of keys.
use Rattle.std.specs.Borrow.{Lends, MutBor, Fml}
use Rattle.toml_edit_model.specs.Tree.{Decor, Key}
use Rattle.toml_edit_repr.specs.contracts.repr.Decor as decor
use Rattle.toml_edit_key.specs.contracts.key.Key as key

-- the key ends with the final decor of r as its leaf decor, or as its dotted decor
abbrev pub LendsLeaf : MutBor Key → MutBor Decor → Fml
LendsLeaf s r = Lends key.the_row decor.the_row s r (λ w. record s.now { leaf = w })

abbrev pub LendsDotted : MutBor Key → MutBor Decor → Fml
LendsDotted s r = Lends key.the_row decor.the_row s r (λ w. record s.now { dotted = w })
