-- What a closure that is called at slots returns.
use Rattle.std.specs.Prelude.{◌≡◌, Bool, List}
use Rattle.std.specs.Borrow.{Bor}
use Rattle.std.specs.Fn.{Shared, Mut, FnReturns, ComparesAs}
use Rattle.std.specs.declared.cmp.Ordering.{Ordering}
use Rattle.toml_edit_model.specs.Text.{Text}
use Rattle.toml_edit_model.specs.Slots.{Slot}
use Rattle.toml_edit_model.specs.Sorting.{IsSortOf}
use Rattle.toml_edit_slots.specs.declared.slots.Slot as code
use Rattle.toml_edit_slots.specs.Seen.{slot_seen}

-- some call of f at references to x and y returned r
pub record FnReturnsAtTwo {F A B R : Type 0} (g : Shared F (Bor A × (Bor B × Unit {0})) R) (f : F)
    (x : A) (y : B) (r : R) : Type 0 where
  pub first : Bor A
  pub second : Bor B
  pub shows : (first.now ≡ x) × (second.now ≡ y)
  pub says : FnReturns g f (first, (second, tt)) r

-- some call of f at the slot's name and its item returned b
abbrev pub SaysOfSlot : {F T : Type 0} → Shared F (Bor Text × (Bor T × Unit {0})) Bool → F → Slot T
    → Bool → Type 0
SaysOfSlot g f s b = FnReturnsAtTwo g f s.key.name s.item b

-- `after` is `before`, in a stable order by each test by which f returns `Less`
abbrev pub SortsAs : {F T : Type 0}
    → Mut F (Bor (code.Slot T) × (Bor (code.Slot T) × Unit {0})) Ordering → F → List (Slot T)
    → List (Slot T) → Type 0
SortsAs {T = T} g f before after =
    (lt : Slot T → Slot T → Bool)
    → ComparesAs g (λ x y. lt (slot_seen (λ z. z) x) (slot_seen (λ z. z) y)) f
    → IsSortOf lt before after
