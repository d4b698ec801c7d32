-- What edits that are made change in the meaning of a tree.
use Rattle.std.specs.Prelude.{◌≡◌, ℕ, false, true, List, [], ◌∷◌, ◌++◌, length, map, None, Ok, Some, string_bytes}
use Rattle.toml_edit_model.specs.ArrayCalls.{inserted_at, removed_at}
use Rattle.toml_edit_model.specs.HeaderOrder.{Visit}
use Rattle.toml_edit_model.specs.Keys.{names}
use Rattle.toml_edit_model.specs.Lists.{items_from, slot_list}
use Rattle.toml_edit_model.specs.Meaning.{SameFacts}
use Rattle.toml_edit_model.specs.Paths.{to_key}
use Rattle.toml_edit_model.specs.Shown.{inside_facts, node_facts, shown_meaning}
use Rattle.toml_edit_model.specs.Slots.{lookup_slot}
use Rattle.toml_edit_model.specs.Text.{Text, one}
use Rattle.toml_edit_model.specs.Tree.{ArrayFields, Key, Node, SlotsAreWellMade, Tree, list}
use Rattle.toml_edit_laws.specs.Locality.{is_plain_value}
use Rattle.toml_edit_edit_laws.specs.Commands.{item_at}
use Rattle.toml_edit_edit_laws.specs.CommandLaws.{NamesTable, made_below}
use Rattle.toml_edit_edit_laws.specs.Means.{IsMeant, MeansWith, meant_at, shown_at}
use Rattle.toml_edit_edit_laws.specs.PathEdits.{CallMeans, RemovalMeans, sets}
use Rattle.toml_edit_edit_laws.specs.Renaming.{renamed_fact}
use Rattle.toml_edit_tree.specs.View.{value_view}
use Rattle.toml_edit_edits.specs.Effects.{first_same, place_up_to}
use Rattle.toml_edit_edits.specs.Elements.{is_tables_at}
use Rattle.toml_edit_edits.specs.FirstTable.{held_below}
use Rattle.toml_edit_edits.specs.Lists.{effect}
use Rattle.toml_edit_edits.specs.Sections.{section}
use Rattle.toml_edit_edits.specs.declared.edit.Edit.{Edit}
use Rattle.toml_edit_edits.specs.declared.edit.Edit.TheVariants as edits

-- A value is set at a key or an element of an item that is shown: its facts are all that is there.
abbrev pub SettingMeans : List Key → Node → Tree → Tree → Type 0
SettingMeans path v t u =
    is_plain_value v ≡ true → (above : List Key) (k : Key) → path ≡ above ++ one k
    → IsMeant t (meant_at t (names above)) → CallMeans (sets path v) t u

-- At a new key of such an item, or below it, those of the inline tables down to it are added.
abbrev pub AddingMeans : List Key → Node → Tree → Tree → Type 0
AddingMeans path v t u =
    is_plain_value v ≡ true → (above : List Key) (k : Key) (below : List Key)
    → path ≡ above ++ (k ∷ below) → IsMeant t (meant_at t (names above))
    → item_at (names (above ++ one k)) t ≡ None
    → let p = meant_at t (names (above ++ one k)) in
    SameFacts (shown_meaning u) (shown_meaning t ++ inside_facts (made_below below v) p)

-- The facts of the array at a path, where it is shown and has the first values, become those of the
-- array with the second.
abbrev pub ValuesMean : List Text → List Node → List Node → Tree → Tree → Type 0
ValuesMean path xs ys t u =
    (f : ArrayFields) → shown_at path t ≡ Some (list f (items_from xs))
    → let p = meant_at t path in MeansWith p (inside_facts (list f (items_from ys)) p) t u

-- A key that leads to an item gets another name: so do the facts at its path, and below it.
abbrev pub RenamingMeans : List Text → Text → Tree → Tree → Type 0
RenamingMeans path name t u =
    (n : Node) → item_at path t ≡ Some n
    → SameFacts (shown_meaning u) (map (renamed_fact (meant_at t path) name) (shown_meaning t))

-- An empty table is added at a new key of a table that the walk enters and that is shown, or below
-- such a key: its fact is added, and those of the tables down to it.
abbrev pub SectionMeans : List Key → Tree → Tree → Type 0
SectionMeans path t u =
    (above : List Key) (w : Visit) (k : Key) (below : List Key) → path ≡ above ++ (k ∷ below)
    → NamesTable t (names above) w → IsMeant t w.path → lookup_slot k.name (slot_list w.slots) ≡ None
    → let more = node_facts (held_below below (section t)) (to_key w.path k.name) in
    SameFacts (shown_meaning u) (shown_meaning t ++ more)

-- What an edit changes. Of a table that is made for a value or an array of tables, and of what is
-- moved to another table or among elements, nothing is known.
abbrev pub EditMeans : Edit → Tree → Tree → Type 0
EditMeans (edits.Sort path) t u = SameFacts (shown_meaning u) (shown_meaning t)
EditMeans (edits.Comment path text) t u = SameFacts (shown_meaning u) (shown_meaning t)
EditMeans (edits.Rename path name) t u = RenamingMeans (names path.items) (string_bytes name) t u
EditMeans (edits.Move path to) t u =
    (above : List Text) (k name : Text) → names path.items ≡ above ++ one k
    → names to.items ≡ above ++ one name → is_tables_at above t ≡ false
    → RenamingMeans (names path.items) name t u
EditMeans (edits.Remove path) t u = RemovalMeans (names path.items) t u
EditMeans (edits.Set path v) t u =
    SettingMeans path.items (value_view v) t u × AddingMeans path.items (value_view v) t u
EditMeans (edits.Header path v) t u = SettingMeans path.items (value_view v) t u
EditMeans (edits.Append path v) t u =
    (xs : List Node) → ValuesMean (names path.items) xs (xs ++ one (value_view v)) t u
EditMeans (edits.Insert path v) t u =
    (above : List Key) (k : Key) (xs : List Node) (i : ℕ) → path.items ≡ above ++ one k
    → place_up_to (length xs) k.name ≡ Some i
    → ValuesMean (names above) xs (inserted_at i (value_view v) xs) t u
EditMeans (edits.Take path v) t u =
    (xs : List Node) (i : ℕ) → first_same (value_view v) xs ≡ Some i
    → ValuesMean (names path.items) xs (removed_at i xs) t u
EditMeans (edits.Section path) t u = SectionMeans path.items t u
EditMeans _ t u = Unit {0}

-- edits one after another: each in the tree that those before it left, if that is well made
abbrev pub EditsMean : List Edit → Tree → Tree → Type 0
EditsMean [] t w = w ≡ t
EditsMean (e ∷ es) t w =
    (u : Tree) × (effect e t ≡ Ok u) × (SlotsAreWellMade t.slots → EditMeans e t u)
    × EditsMean es u w

-- An edit means so wherever it is made.
abbrev pub MadeMeans : Type 0
MadeMeans =
    (e : Edit) (t u : Tree) → SlotsAreWellMade t.slots → effect e t ≡ Ok u → EditMeans e t u
