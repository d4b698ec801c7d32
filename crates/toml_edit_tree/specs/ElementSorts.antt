-- What a sort of an array's values leaves.
use Rattle.std.specs.Prelude.{◌≡◌, Bool, List}
use Rattle.std.specs.Borrow.{Bor}
use Rattle.std.specs.Fn.{Mut, AlwaysReturns}
use Rattle.std.specs.Ordering.{is_lt}
use Rattle.std.specs.declared.cmp.Ordering.{Ordering}
use Rattle.toml_edit_model.specs.Tree.{Node}
use Rattle.toml_edit_model.specs.Sorting.{IsArraySort}
use Rattle.toml_edit_tree.specs.View.{value_view}
use Rattle.toml_edit_tree.specs.declared.value.Value.{Value}

-- each call of f at two values returns `Less` just where lt holds of them
abbrev pub ComparesValues : {F : Type 0} → Mut F (Bor Value × (Bor Value × Unit {0})) Ordering
    → (Node → Node → Bool) → F → Type 0
ComparesValues g lt =
    AlwaysReturns g (λ a r. is_lt r ≡ lt (value_view a.0.now) (value_view a.1.0.now))

-- `after` is `before`, in a stable order by each test by which f returns `Less`
abbrev pub SortsValuesAs : {F : Type 0} → Mut F (Bor Value × (Bor Value × Unit {0})) Ordering → F
    → List Node → List Node → Type 0
SortsValuesAs g f before after =
    (lt : Node → Node → Bool) → ComparesValues g lt f → IsArraySort lt before after

-- each call of f at a value returns its key
abbrev pub ComputesKeyOfValue : {F K : Type 0} → Mut F (Bor Value × Unit {0}) K → (Node → K) → F
    → Type 0
ComputesKeyOfValue g key = AlwaysReturns g (λ a r. r ≡ key (value_view a.0.now))

-- `after` is `before`, in a stable order by the keys of values
abbrev pub SortsValuesByKey : {F K : Type 0} → Mut F (Bor Value × Unit {0}) K → (K → K → Ordering)
    → F → List Node → List Node → Type 0
SortsValuesByKey {K = K} g cmp f before after =
    (key : Node → K) → ComputesKeyOfValue g key f
    → IsArraySort (λ m n. is_lt (cmp (key m) (key n))) before after
