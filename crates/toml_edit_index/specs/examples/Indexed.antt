-- Worked entries and nodes of an index.
use Rattle.std.specs.Prelude.{◌≡◌, refl, ℕ, pos, List, [], ◌∷◌, ◌++◌, map, flat_map, Some, codes}
use Rattle.toml_edit_model.specs.Conversions.{new_array, new_table}
use Rattle.toml_edit_model.specs.Keys.{new_key}
use Rattle.toml_edit_model.specs.Scalars.{integer, string}
use Rattle.toml_edit_model.specs.Text.{Text}
use Rattle.toml_edit_model.specs.Tree.{Key, Node, nothing, leaf, list, table, no_items, item, Slots, no_slots, slot, span, unset}
use Rattle.toml_edit_index.specs.Indexed.{Entry, entries_of_slots, kind_of, names_of, node_of, nowhere, place_in}

-- é, in two bytes
abbrev accented : Text
accented = 0xC3 ∷ 0xA9 ∷ []

abbrev text : Text
text = codes "a = [1]\n[b]\n'" ++ (accented ++ codes "' = 'x' # y\n")

abbrev key : Text → ℕ → ℕ → Key
key name start end = record (new_key name) { spelling = Some (span start end) }

abbrev x : Node
x = leaf (string (codes "x")) (Some (span 19 22))
    (record { prefix = Some (span 18 19); suffix = Some (span 22 26) })

-- the tree of the text, and a placeholder
abbrev some_slots : Slots
some_slots =
    slot (key (codes "a") 0 1)
    (list (record new_array { extent = Some (4, 7) }) (item (leaf (integer (pos 1)) (Some (span 5 6)) unset) no_items))
    (slot (new_key (codes "z")) nothing
    (slot (key (codes "b") 9 10) (table (record new_table { extent = Some (8, 11) }) (slot (key accented 12 16) x no_slots)) no_slots))

abbrev entries : List Entry
entries = entries_of_slots 0 1 some_slots

some-parents : map (λ e. e.parent) entries ≡ 0 ∷ 1 ∷ 0 ∷ 3 ∷ []
some-parents = refl

some-ends : map (λ e. e.next) entries ≡ 3 ∷ 3 ∷ 5 ∷ 5 ∷ []
some-ends = refl

some-kinds : map (λ e. kind_of e.item) entries ≡ 9 ∷ 2 ∷ 12 ∷ 1 ∷ []
some-kinds = refl

some-names : flat_map names_of entries ≡ codes "ab" ++ (accented ++ codes "x")
some-names = refl

-- the column after a character of two bytes
some-place : place_in text 19 ≡ record { line = 2; column = 6 }
some-place = refl

some-node : node_of text 2 (record { parent = 3; next = 5; key = Some (key accented 12 16); item = x })
    ≡ record {
      kind = 1;
      parent = 3;
      next = 5;
      name = record { start = 2; end = 4 };
      content = record { start = 4; end = 5 };
      key = record { start = 12; end = 16 };
      item = record { start = 19; end = 22 };
      before = nowhere;
      after = record { start = 22; end = 26 };
      line = 3;
      column = 1;
    }
some-node = refl
