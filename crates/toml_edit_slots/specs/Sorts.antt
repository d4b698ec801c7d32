-- The order of a list's items by what they hold.
use Rattle.std.specs.Prelude.{Bool, true, false, List, Option, None, Some}
use Rattle.std.specs.Borrow.{Bor}
use Rattle.std.specs.Fn.{Mut, ComparesAs, ComputesKey}
use Rattle.std.specs.Ordering.{is_lt}
use Rattle.std.specs.declared.cmp.Ordering.{Ordering}
use Rattle.toml_edit_model.specs.Sorting.{IsSortOf}

-- what holds no element comes first, and the others by lt
abbrev pub held_lt : {E : Type 0} → (E → E → Bool) → Option E → Option E → Bool
held_lt lt None None = false
held_lt lt None (Some f) = true
held_lt lt (Some e) None = false
held_lt lt (Some e) (Some f) = lt e f

-- `after` is `before`, in a stable order by each test by which f returns `Less`
abbrev pub SortsHeldAs : {F T E : Type 0} → Mut F (Bor E × (Bor E × Unit {0})) Ordering
    → (T → Option E) → F → List T → List T → Type 0
SortsHeldAs {E = E} g held f before after =
    (lt : E → E → Bool) → ComparesAs g lt f
    → IsSortOf (λ x y. held_lt lt (held x) (held y)) before after

-- and in a stable order by the keys that f returns
abbrev pub SortsHeldByKey : {F T E K : Type 0} → Mut F (Bor E × Unit {0}) K → (K → K → Ordering)
    → (T → Option E) → F → List T → List T → Type 0
SortsHeldByKey {E = E} {K = K} g cmp held f before after =
    (of : E → K) → ComputesKey g of f
    → IsSortOf (λ x y. held_lt (λ d e. is_lt (cmp (of d) (of e))) (held x)
    (held y)) before after
