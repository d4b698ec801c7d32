-- What is lent out of a key whose name is fixed, and such a key out of a key.
use Rattle.std.specs.Prelude.{[]}
use mir.Syntax.{named}
use Rattle.std.specs.Borrow.{Lends, MutBor, Fml, follows}
use Rattle.toml_edit_model.specs.Tree.{Decor, Key}
use Rattle.toml_edit_key.specs.KeyMutView.{lent_parts, with_parts}
use Rattle.toml_edit_key.specs.declared.key.KeyMut.{KeyMut}
use Rattle.toml_edit_key.specs.contracts.key.Key as key
use Rattle.toml_edit_key.specs.contracts.key.KeyParts as key_parts
use Rattle.toml_edit_key.specs.contracts.key.KeyMut as key_mut
use Rattle.toml_edit_repr.specs.contracts.repr.Decor as decor

-- the key ends with the final parts of r
abbrev pub LendsKeyMut : MutBor Key → KeyMut → Fml
LendsKeyMut s r =
    follows key.the_row key_parts.the_row s.ghost_name (lent_parts r).ghost_name
    (λ w. with_parts w s.now)

-- the lent key ends with the final decor of r as its leaf decor, or as its dotted decor
abbrev pub LendsLeafMut : MutBor KeyMut → MutBor Decor → Fml
LendsLeafMut s r =
    Lends (key_mut.the_row (record { mir = named 1; lft = [] })) decor.the_row s r
    (λ w. record s.now { parts = record s.now.parts { now = record s.now.parts.now { leaf = w } } })

abbrev pub LendsDottedMut : MutBor KeyMut → MutBor Decor → Fml
LendsDottedMut s r =
    Lends (key_mut.the_row (record { mir = named 1; lft = [] })) decor.the_row s r
    (λ w. record s.now {
      parts =
          record s.now.parts { now = record s.now.parts.now { dotted = w } };
    })
