-- Closures that are called at slots.
use Rattle.std.proofs.Common.{◌≡◌}
use Rattle.std.specs.Borrow.{Bor}
use Rattle.std.specs.Fn.{Shared}
use Rattle.toml_edit_slots.specs.Closures.{FnReturnsAtTwo}

-- a call at two references
pub at_two : {F A B R : Type 0} (g : Shared F (Bor A × (Bor B × Unit {0})) R) (f : F) (a : Bor A) (b : Bor B) (r : R) (x : A) (y : B)
    → a.now ≡ x → b.now ≡ y → g.post f (a, (b, tt)) r → FnReturnsAtTwo g f x y r
at_two g f a b r x y d e p = record { first = a; second = b; shows = (d, e); says = record { met = p } }
