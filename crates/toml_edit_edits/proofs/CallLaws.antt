-- What a call of a closure on the item at a path makes of an edit.
use Rattle.std.proofs.Common.{◌≡◌, ◌∙◌, refl, sym, arith, length, List, [], ◌∷◌, Option, Some}
use Rattle.std.specs.Fn.{FnOnceReturnsAtMut}
use Rattle.std.specs.Prelude.{Result}
use Rattle.toml_edit_model.specs.Keys.{names}
use Rattle.toml_edit_model.specs.Text.{Text}
use Rattle.toml_edit_model.specs.Tree.{Key, Node, Tree}
use Rattle.toml_edit_edit_laws.specs.Commands.{item_at, root_item}
use Rattle.toml_edit_paths.specs.Calls.{Change, ChangesFound, item_inside, replaced_at}
use Rattle.toml_edit_tree.specs.View.{item_view}
use Rattle.toml_edit_tree.specs.declared.item.Item.{Item}
use Rattle.toml_edit_edits.specs.Along.{AreApartAlong}
use Rattle.toml_edit_edits.specs.Effects.{changed_at, changed_below, changed_by}
use Rattle.toml_edit_edits.specs.Outcomes.{Makes}
use Rattle.toml_edit_edits.specs.declared.fault.EditFault.{EditFault}
use Rattle.toml_edit_edits.proofs.OutcomeLaws.{changed-made}
use Rattle.toml_edit_edits.proofs.PathLaws.{inside-below, put-back-in}

-- what the closure does to an item is what is meant
abbrev pub Meant : {F : Type 0} → Change F (Result (Unit {0}) EditFault) → F → (Node → Result Node EditFault) → Type 0
Meant g f go =
    (item left : Item) (r : Result (Unit {0}) EditFault) → FnOnceReturnsAtMut g f item r left
    → Makes (go (item_view item)) (item_view item) (item_view left) r

module _ {F : Type 0} (g : Change F (Result (Unit {0}) EditFault)) (f : F) (go : Node → Result Node EditFault) (path : List Text) (t u : Tree)
    (apart : AreApartAlong path (root_item t)) (calls : Meant g f go) where
  called : (found : Option Node) → found ≡ item_inside path (root_item t) → (r : Result (Unit {0}) EditFault)
      → ChangesFound g f (item_inside path (root_item t)) (λ left. replaced_at path left t) t u (Some r)
      → Makes (changed_by go path t found) t u r
  called found is r c =
      let there : item_inside path (root_item t) ≡ Some (item_view c.item) = c.found_it in
      changed-made go path t u (item_view c.item) (item_view c.left) found r (is ∙ there)
      (put-back-in path t (item_view c.item) apart (inside-below path (root_item t) (item_view c.item) there)) c.put_back
      (calls c.item c.left r c.returned)

  pub called-below : (r : Result (Unit {0}) EditFault)
      → ChangesFound g f (item_inside path (root_item t)) (λ left. replaced_at path left t) t u (Some r)
      → Makes (changed_below go path t) t u r
  called-below r c = called (item_inside path (root_item t)) refl r c

  pub called-at : item_inside path (root_item t) ≡ item_at path t → (r : Result (Unit {0}) EditFault)
      → ChangesFound g f (item_inside path (root_item t)) (λ left. replaced_at path left t) t u (Some r)
      → Makes (changed_at go path t) t u r
  called-at is r c = called (item_at path t) (sym is) r c

pub inside-root : (path : List Key) (t : Tree) → (path ≡ [] → ⊥) → item_inside (names path) (root_item t) ≡ item_at (names path) t
inside-root [] t h = absurd (h refl)
inside-root (k ∷ path) t h = refl

pub no-keys : (path : List Key) → length path ≡ 0 → path ≡ []
no-keys [] h = refl
no-keys (k ∷ path) h = absurd (omega (arith, h))
