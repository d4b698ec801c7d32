-- What is lent out of scalars.
use Rattle.std.specs.Borrow.{Lends, MutBor, Fml}
use Rattle.std.specs.declared.cmp.PartialEq as equal
use denote.RattleType.{RattleType}
use Rattle.toml_edit_model.specs.Tree.{Decor}
use Rattle.toml_edit_repr.specs.Views.{FormattedView}
use Rattle.toml_edit_repr.specs.declared.repr.ScalarValue as value
use Rattle.toml_edit_repr.specs.declared.repr.ValueRepr as spelled
use Rattle.toml_edit_repr.specs.contracts.repr.Decor as decor
use Rattle.toml_edit_repr.specs.contracts.repr.Formatted as formatted

-- the scalar ends with the final decor of r
abbrev pub LendsDecor : (T : RattleType) → spelled.Ghosts T.Denot → value.Ghosts T.Denot
    → equal.Ghosts T.Denot → MutBor (FormattedView T.Denot) → MutBor Decor → Fml
LendsDecor T g h e s r =
    Lends (formatted.the_row T g h e) decor.the_row s r (λ w. record s.now { decor = w })
