-- Changes of a part of an item, as changes of the item.
use Rattle.std.proofs.Common.{◌≡◌, ap, subst}
use Rattle.std.specs.Prelude.{Result, Ok, Err}
use Rattle.toml_edit_edit_laws.specs.Commands.{Answer, mapped}
use Rattle.toml_edit_paths.specs.Changes.{Changes}
use Rattle.toml_edit_paths.specs.declared.fault.ChangeFault.{ChangeFault}
use Rattle.toml_edit_paths.specs.declared.fault.ChangeFault.TheVariants.{NoSuchPath, WrongKind, Memory}

pub carried : {A B : Type 0} (F : A → B) (m : Answer A) (a b : A) (r : Result (Unit {0}) ChangeFault) → Changes m a b r
    → Changes (mapped F m) (F a) (F b) r
carried F m a b (Ok u) h = ap (mapped F) h
carried F m a b (Err NoSuchPath) h = (ap (mapped F) h.0, ap F h.1)
carried F m a b (Err WrongKind) h = (ap (mapped F) h.0, ap F h.1)
carried F m a b (Err Memory) h = ap F h

-- the same change, by another name of what is meant, of what was and of what is left
pub renamed : {A : Type 0} (m n : Answer A) (a b c d : A) (r : Result (Unit {0}) ChangeFault) → m ≡ n → a ≡ c → b ≡ d → Changes m a b r
    → Changes n c d r
renamed m n a b c d r e f g h =
    subst (λ x. Changes n c x r) g (subst (λ x. Changes n x b r) f (subst (λ x. Changes x a b r) e h))
