-- Calls that change the slots among which the last key of a path is.
use Rattle.std.proofs.Common.{◌≡◌, refl, sym, ◌∙◌, ap, subst, Bool, true, List, [], ◌∷◌, ◌++◌, Some}
use Rattle.toml_edit_model.specs.Text.{Text}
use Rattle.toml_edit_model.specs.Paths.{at_key, Path, to_key}
use Rattle.toml_edit_model.specs.Tree.{Node, nothing, leaf, list, inline, table, tables, Slots, IsWellMade, SlotsAreWellMade}
use Rattle.toml_edit_model.specs.Slots.{Slot}
use Rattle.toml_edit_model.specs.Lists.{slot_list, slots_from}
use Rattle.toml_edit_edit_laws.specs.Commands.{Answer, done, child, and_then, item_below}
use Rattle.toml_edit_edit_laws.specs.KeyCalls.{slots_changed}
use Rattle.toml_edit_edit_laws.specs.Means.{step_to}
use Rattle.toml_edit_laws.proofs.common.OptionSteps.{some-is}
use Rattle.toml_edit_laws.proofs.common.PathLaws.{is_front, front-more, front-refl}
use Rattle.toml_edit_laws.proofs.locality.Under.{apart-above}
use Rattle.toml_edit_edit_laws.proofs.commands.Finding.{some-and}
use Rattle.toml_edit_edit_laws.proofs.commands.Setting.{was-mapped}
use Rattle.toml_edit_edit_laws.proofs.means.Changes.{Change}
use Rattle.toml_edit_edit_laws.proofs.means.Parts.{Replaces, ReplaceSlots, table-replaces, inline-replaces}

-- the last of some segments
pub last-of : {A : Type 0} (k : A) (path : List A) → (front : List A) × (l : A) × (k ∷ path ≡ front ++ (l ∷ []))
last-of k [] = ([], k, refl)
last-of {A} k (j ∷ path) = let r = last-of j path in (k ∷ r.0, r.1, ap (λ (q : List A). k ∷ q) r.2)

-- what holds what a path leads to
pub below-split : (path : List Text) (k : Text) (n y : Node) → item_below (path ++ (k ∷ [])) n ≡ Some y → (x : Node) × (item_below path n ≡ Some x)
    × (child k x ≡ Some y)
below-split [] k n y h =
    let a = some-and (item_below []) (child k n) y h in
    (n, refl, a.1 ∙ ap Some (some-is a.0 y a.2))
below-split (j ∷ path) k n y h =
    let a = some-and (item_below (path ++ (k ∷ []))) (child j n) y h in
    let r = below-split path k a.0 y a.2 in
    (r.0, ap (and_then (item_below path)) a.1 ∙ r.1, r.2)

-- a table or an inline table whose slots were changed
pub holder-replaces : (c : Change) (q : Path) (k : Text) (g : List (Slot Node) → Answer (List (Slot Node)))
    (slots : c.place ≡ to_key q k → (w : Bool) (ss : Slots) (xs : List (Slot Node)) → SlotsAreWellMade ss → g (slot_list ss) ≡ done xs
    → ReplaceSlots c w ss (slots_from xs) q)
    (x y : Node) (s v : Bool) → c.place ≡ q ++ (step_to k x ∷ []) → slots_changed g x ≡ done y → IsWellMade x → Replaces c s v x y q
holder-replaces c q k g slots (table f ss) y s v is h w =
    let b = was-mapped (λ xs. table f (slots_from xs)) (g (slot_list ss)) y h in
    let here : is_front (to_key q k) c.place ≡ true = subst (λ z. is_front (to_key q k) z ≡ true) (sym is) (front-refl (to_key q k)) in
    subst (λ z. Replaces c s v (table f ss) z q) (sym b.gives)
    (table-replaces c s v q f ss (slots_from b.from) (apart-above q c.place (at_key k) here)
    (subst (λ z. is_front q z ≡ true) (sym is) (front-more q (at_key k ∷ []))) (slots is v ss b.from w b.is))
holder-replaces c q k g slots (inline f ss) y s v is h w =
    let b = was-mapped (λ xs. inline f (slots_from xs)) (g (slot_list ss)) y h in
    let here : is_front (to_key q k) c.place ≡ true = subst (λ z. is_front (to_key q k) z ≡ true) (sym is) (front-refl (to_key q k)) in
    subst (λ z. Replaces c s v (inline f ss) z q) (sym b.gives)
    (inline-replaces c s v q f ss (slots_from b.from) (apart-above q c.place (at_key k) here)
    (subst (λ z. is_front q z ≡ true) (sym is) (front-more q (at_key k ∷ []))) (slots is true ss b.from w b.is))
holder-replaces c q k g slots (list f xs) y s v is h w = absurd cc
holder-replaces c q k g slots (tables e xs) y s v is h w = absurd cc
holder-replaces c q k g slots (leaf x r d) y s v is h w = absurd cc
holder-replaces c q k g slots nothing y s v is h w = absurd cc
