-- What is at and below paths.
use Rattle.std.proofs.Common.{◌≡◌, refl, sym, ◌∙◌, ap, subst, ℕ, zero, suc, true, false, List, [], ◌∷◌, ◌++◌, Some, take, drop}
use Rattle.toml_edit_model.specs.Text.{Text}
use Rattle.toml_edit_model.specs.Keys.{new_key}
use Rattle.toml_edit_model.specs.Tree.{Key, Node, nothing, leaf, list, inline, table, tables, Slots, SlotsAreWellMade, ItemsAreWellMade, IsWellMade, is_value_node}
use Rattle.toml_edit_model.specs.Shown.{is_table_node}
use Rattle.toml_edit_model.specs.Slots.{changed_at, keyed, lookup_slot}
use Rattle.toml_edit_model.specs.Lists.{slot_list, slots_from, item_list, items_from}
use Rattle.toml_edit_laws.proofs.common.OptionSteps.{some-is}
use Rattle.toml_edit_laws.proofs.locality.Elements.{item-made}
use Rattle.toml_edit_laws.proofs.locality.Slots.{found, items_from-list}
use Rattle.toml_edit_edit_laws.specs.Commands.{Answer, mapped, change_slot, child, child_changed, element_of, item_below, present}
use Rattle.toml_edit_edit_laws.proofs.commands.Apart.{named}
use Rattle.toml_edit_edit_laws.proofs.commands.Finding.{some-and, some-second}
use Rattle.toml_edit_edit_laws.proofs.commands.Keeping.{item-parts, present-is}
use Rattle.toml_edit_edit_laws.proofs.path_calls.Keys.{child-at}

-- ---- what is well made

slot-made : (k : Text) (ss : Slots) (a : Node) → SlotsAreWellMade ss → present (lookup_slot k (slot_list ss)) ≡ Some a → IsWellMade a
slot-made k ss a w h =
    let p = present-is (lookup_slot k (slot_list ss)) a h in
    (found k ss (keyed p.key a) w p.is).made

child-made : (k : Text) (n a : Node) → IsWellMade n → child k n ≡ Some a → IsWellMade a
child-made k (table f ss) a w h = slot-made k ss a w h
child-made k (inline f ss) a w h = slot-made k ss a w h
child-made k (list f xs) a w h =
    let y = some-second (element_of is_value_node k (item_list xs)) a h in
    let p = item-parts y.0 (item_list xs) a (named is_value_node k (item_list xs) (y.0, a) y.1).item in
    item-made p.before a p.after (subst ItemsAreWellMade (sym (items_from-list xs) ∙ ap items_from p.is) w)
child-made k (tables e xs) a w h =
    let y = some-second (element_of is_table_node k (item_list xs)) a h in
    let p = item-parts y.0 (item_list xs) a (named is_table_node k (item_list xs) (y.0, a) y.1).item in
    item-made p.before a p.after (subst ItemsAreWellMade (sym (items_from-list xs) ∙ ap items_from p.is) w)
child-made k (leaf s r d) a w h = absurd cc
child-made k nothing a w h = absurd cc

pub below-made : (path : List Text) (n a : Node) → IsWellMade n → item_below path n ≡ Some a → IsWellMade a
below-made [] n a w h = subst IsWellMade (some-is n a h) w
below-made (k ∷ path) n a w h =
    let c = some-and (item_below path) (child k n) a h in
    below-made path c.0 a (child-made k n c.0 w c.1) c.2

-- ---- down a key that is there

pub child-goes : (k : Key) (go : Node → Answer Node) (n a : Node) → child k.name n ≡ Some a
    → child_changed true k go n ≡ child_changed false (new_key k.name) go n
child-goes k go (table f ss) a h =
    let p = present-is (lookup_slot k.name (slot_list ss)) a h in
    ap (λ o. mapped (λ xs. table f (slots_from xs)) (change_slot true k go (slot_list ss) o)) p.is
    ∙ sym (ap (λ o. mapped (λ xs. table f (slots_from xs)) (change_slot false (new_key k.name) go (slot_list ss) o)) p.is)
child-goes k go (inline f ss) a h =
    let p = present-is (lookup_slot k.name (slot_list ss)) a h in
    ap (λ o. mapped (λ xs. inline f (slots_from xs)) (change_slot true k go (slot_list ss) o)) p.is
    ∙ sym (ap (λ o. mapped (λ xs. inline f (slots_from xs)) (change_slot false (new_key k.name) go (slot_list ss) o)) p.is)
child-goes k go (list f xs) a h = refl
child-goes k go (tables e xs) a h = refl
child-goes k go (leaf s r d) a h = absurd cc
child-goes k go nothing a h = absurd cc

-- two changes that do the same to it
pub same-child : (k : Key) (go run : Node → Answer Node) (n a : Node) → child k.name n ≡ Some a → go a ≡ run a
    → child_changed true k go n ≡ child_changed true k run n
same-child k go run n a h e =
    let w = child-at k.name n a h in
    child-goes k go n a h ∙ w.1 go ∙ ap (mapped w.0) e ∙ sym (w.1 run) ∙ sym (child-goes k run n a h)

-- ---- lists of items

abbrev pub AreMade : List Node → Type 0
AreMade xs = ItemsAreWellMade (items_from xs)

pub made-join : (xs ys : List Node) → AreMade xs → AreMade ys → AreMade (xs ++ ys)
made-join [] ys a b = b
made-join (x ∷ xs) ys a b = (a.0, made-join xs ys a.1 b)

pub made-taken : (i : ℕ) (xs : List Node) → AreMade xs → AreMade (take i xs)
made-taken zero xs a = tt
made-taken (suc i) [] a = tt
made-taken (suc i) (x ∷ xs) a = (a.0, made-taken i xs a.1)

pub made-dropped : (i : ℕ) (xs : List Node) → AreMade xs → AreMade (drop i xs)
made-dropped zero xs a = a
made-dropped (suc i) [] a = tt
made-dropped (suc i) (x ∷ xs) a = made-dropped i xs a.1

pub made-changed : (i : ℕ) (h : Node → Node) → ((n : Node) → IsWellMade n → IsWellMade (h n)) → (xs : List Node) → AreMade xs
    → AreMade (changed_at i h xs)
made-changed i h keeps [] a = tt
made-changed zero h keeps (x ∷ xs) a = (keeps x a.0, a.1)
made-changed (suc i) h keeps (x ∷ xs) a = (a.0, made-changed i h keeps xs a.1)
