-- What is left of an item where an element of an array is removed with its line.
use Rattle.std.proofs.Common.{◌≡◌, ◌∙◌, refl, sym, ap, ℕ, false, List, [], ◌∷◌, Some, None}
use Rattle.toml_edit_model.specs.Keys.{new_key}
use Rattle.toml_edit_model.specs.Lists.{item_list, items_from, on_slots, slots_in}
use Rattle.toml_edit_model.specs.Slots.{Slot}
use Rattle.toml_edit_model.specs.Text.{Text}
use Rattle.toml_edit_model.specs.Tree.{Node, nothing, leaf, list, inline, table, tables, is_value_node}
use Rattle.toml_edit_edit_laws.specs.Commands.{done, mapped, element_of, remove_child}
use Rattle.toml_edit_laws.proofs.common.OptionSteps.{map_some, some-is}
use Rattle.toml_edit_laws.proofs.locality.Slots.{items_from-list}
use Rattle.toml_edit_tree.specs.ArrayLines.{fields_removed, line_removed}
use Rattle.toml_edit_tree.specs.Casts.{array_in}
use Rattle.toml_edit_tree.specs.Containers.{ArrayView, array_node}
use Rattle.toml_edit_paths.specs.Elements.{place_named}
use Rattle.toml_edit_paths.specs.Lines.{drop_line, remove_line_below, remove_line_child, slot_without_line}
use Rattle.toml_edit_paths.proofs.StepLaws.{slots-go, slots-removed}

-- ---- an array, and any other item

pub array-is : (n : Node) (a : ArrayView) → Some a ≡ array_in n → array_node a ≡ n
array-is (list f xs) a h = ap array_node (some-is a (record { fields = f; items = xs }) h)
array-is (leaf s r d) a h = absurd cc
array-is (inline f ss) a h = absurd cc
array-is (table f ss) a h = absurd cc
array-is (tables e xs) a h = absurd cc
array-is nothing a h = absurd cc

pub no-array : (k : Text) (n : Node) → array_in n ≡ None → remove_child k n ≡ remove_line_child k n
no-array k (list f xs) h = absurd cc
no-array k (leaf s r d) h = refl
no-array k (inline f ss) h = refl
no-array k (table f ss) h = refl
no-array k (tables e xs) h = refl
no-array k nothing h = refl

-- ---- the value that a text names

pub line-dropped : (k : Text) (a b : ArrayView) (i : ℕ) → Some i ≡ place_named is_value_node k (item_list a.items)
    → b.fields ≡ fields_removed i a.fields (item_list a.items)
    → item_list b.items ≡ line_removed i a.fields (item_list a.items)
    → remove_line_child k (array_node a) ≡ done (array_node b)
line-dropped k a b i h fields items =
    let ns = item_list a.items in
    let m = map_some (element_of is_value_node k ns) (λ (x : ℕ × Node). x.0) i (sym h) in
    ap (drop_line a.fields ns) m.1
    ∙ ap (λ j. done (list (fields_removed j a.fields ns) (items_from (line_removed j a.fields ns)))) m.2
    ∙ ap (λ g. done (list g (items_from (line_removed i a.fields ns)))) (sym fields)
    ∙ ap (λ xs. done (list b.fields (items_from xs))) (sym items) ∙ ap (λ xs. done (list b.fields xs)) (items_from-list b.items)

-- ---- one segment of a path

pub slots-without-line : (k : Text) (path : List Text) (n : Node) (ss : List (Slot Node)) → slots_in n ≡ Some ss
    → mapped (λ xs. on_slots (λ _. xs) n) (slot_without_line k path ss) ≡ remove_line_below (k ∷ path) n
slots-without-line k [] (table f s) ss h = slots-removed k [] (table f s) ss h
slots-without-line k [] (inline f s) ss h = slots-removed k [] (inline f s) ss h
slots-without-line k [] (leaf s r d) ss h = absurd cc
slots-without-line k [] (list f xs) ss h = absurd cc
slots-without-line k [] (tables e xs) ss h = absurd cc
slots-without-line k [] nothing ss h = absurd cc
slots-without-line k (l ∷ path) n ss h = slots-go false (new_key k) (remove_line_below (l ∷ path)) n ss h
