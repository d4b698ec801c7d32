-- A call of a closure on the item at a path.
use Rattle.std.specs.Borrow.{MutBor}
use Rattle.std.specs.Fn.{Once, FnOnceReturnsAtMut, FnOnceTakesAtMut}
use Rattle.std.specs.Prelude.{◌≡◌, Bool, false, List, [], ◌∷◌, Option, Some, None}
use Rattle.toml_edit_model.specs.Keys.{new_key}
use Rattle.toml_edit_model.specs.Slots.{Slot, lookup_slot}
use Rattle.toml_edit_model.specs.Text.{Text}
use Rattle.toml_edit_model.specs.Tree.{Node}
use Rattle.toml_edit_edit_laws.specs.Commands.{Answer, done, present, second, and_then, item_below, element_of, change_slot, change_element}
pub use Rattle.toml_edit_edit_laws.specs.Commands.{replaced_below, replaced_at}
use Rattle.toml_edit_tree.specs.View.{item_view}
use Rattle.toml_edit_tree.specs.declared.item.Item.{Item}

-- the item at a path below this one, which is not the item itself
abbrev pub item_inside : List Text → Node → Option Node
item_inside [] n = None
item_inside (k ∷ path) n = item_below (k ∷ path) n

-- a closure that is called once on a `&mut Item`
abbrev pub Change : Type 0 → Type 0 → Type 1
Change F R = Once F (MutBor Item × Unit {0}) (R × (MutBor Item × Unit {0}))

-- The closure may be called on the item that is found, if there is one, and so on no other.
abbrev pub TakesFound : {F R : Type 0} → Change F R → F → Option Node → Type 0
TakesFound g f found =
    (item : Item) → found ≡ Some (item_view item) → FnOnceTakesAtMut g f item

-- The closure was called on the item that is found, and what it left there was put back. If it left
-- the item as it was, so is all.
pub record CallsOn {F R A : Type 0} (g : Change F R) (f : F) (found : Option Node)
    (put : Node → Answer A) (old new : A) (r : R) : Type 0 where
  pub item : Item
  pub left : Item
  pub found_it : found ≡ Some (item_view item)
  pub returned : FnOnceReturnsAtMut g f item r left
  pub put_back : put (item_view left) ≡ done new
  pub unchanged : item_view left ≡ item_view item → new ≡ old

-- So it is where there is an item. Where there is none, all is as it was.
abbrev pub ChangesFound : {F R A : Type 0} → Change F R → F → Option Node → (Node → Answer A)
    → A → A → Option R → Type 0
ChangesFound g f found put old new None = (found ≡ None) × (new ≡ old)
ChangesFound g f found put old new (Some r) = CallsOn g f found put old new r

-- so it is with the item at a path below this one
abbrev pub ChangesBelow : {F R : Type 0} → Change F R → F → List Text → Node → Node → Option R
    → Type 0
ChangesBelow g f path old new r =
    ChangesFound g f (item_below path old) (λ left. replaced_below path left old) old new r

-- at a path below the slot of a key
abbrev pub ChangesSlot : {F R : Type 0} → Change F R → F → Text → List Text
    → List (Slot Node) → List (Slot Node) → Option R → Type 0
ChangesSlot g f k path old new r =
    ChangesFound g f (and_then (item_below path) (present (lookup_slot k old)))
    (λ left. change_slot false (new_key k) (replaced_below path left) old (lookup_slot k old)) old new r

-- and at a path below the element of this kind that a text names
abbrev pub ChangesElement : {F R : Type 0} → Change F R → F → (Node → Bool) → Text → List Text
    → List Node → List Node → Option R → Type 0
ChangesElement g f is k path old new r =
    ChangesFound g f (and_then (item_below path) (second (element_of is k old)))
    (λ left. change_element (replaced_below path left) old (element_of is k old)) old new r
