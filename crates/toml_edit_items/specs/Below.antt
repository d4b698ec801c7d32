-- The keys and paths below an item, as lines.
use Rattle.std.specs.Prelude.{ℕ, suc, Bool, false, if◌then◌else◌, ◌||◌, List, [], ◌∷◌, ◌++◌, flat_map, map, Option, Result, option_map}
use Rattle.toml_edit_model.specs.Iterating.{filled}
use Rattle.toml_edit_model.specs.Lists.{is_item, slots_in}
use Rattle.toml_edit_model.specs.Shown.{is_table_node}
use Rattle.toml_edit_model.specs.Slots.{Slot}
use Rattle.toml_edit_model.specs.Text.{Text, newline, one}
use Rattle.toml_edit_model.specs.Tree.{Key, Node, nothing, leaf, list, inline, table, tables, Items, no_items, item, Slots, no_slots, slot, key_text}
use Rattle.toml_edit_visit.specs.Below.{Step, key, element}
use Rattle.toml_edit_visit.specs.Steps.{path_text, steps_on}
use Rattle.toml_edit_visit.specs.declared.path.Path.{Path}
use Rattle.toml_edit_items.specs.Texts.{Puts}
use Rattle.toml_edit_items.specs.declared.below.Lines.{Lines}

-- a key as it is spelled, on a line
abbrev pub key_line : Slot Node → Text
key_line s = key_text s.key ++ newline

-- the keys of a table, without placeholders
abbrev pub key_lines : List (Slot Node) → Text
key_lines es = flat_map key_line (filled es)

abbrev pub table_keys : Node → Option Text
table_keys n = option_map key_lines (slots_in n)

-- a path on a line; that of the root is none
abbrev pub path_line : List Step → Text
path_line [] = []
path_line (s ∷ ss) = path_text (s ∷ ss) ++ newline

abbrev pub path_lines : List (List Step) → Text
path_lines ps = flat_map path_line ps

abbrev pub has_item : Slots → Bool
has_item no_slots = false
has_item (slot k n ss) = is_item n || has_item ss

-- the paths to the scalars, the arrays and the empty tables that an item holds, in order
abbrev mutual
  pub paths_below : List Step → Node → List (List Step)
  paths_below path (leaf s r d) = one path
  paths_below path (list f xs) = one path
  paths_below path (inline f ss) = if has_item ss then slot_paths path ss else one path
  paths_below path (table f ss) = if has_item ss then slot_paths path ss else one path
  paths_below path (tables e xs) = element_paths path 0 xs
  paths_below path nothing = []

  pub slot_paths : List Step → Slots → List (List Step)
  slot_paths path no_slots = []
  slot_paths path (slot k n ss) = paths_below (path ++ one (key k)) n ++ slot_paths path ss

  pub element_paths : List Step → ℕ → Items → List (List Step)
  element_paths path i no_items = []
  element_paths path i (item n xs) =
      (if is_table_node n then paths_below (path ++ one (element i)) n else [])
      ++ element_paths path (suc i) xs

abbrev pub table_paths : List Step → Slots → List (List Step)
table_paths path ss = if has_item ss then slot_paths path ss else one path

abbrev pub paths_at : List Key → Node → List (List Step)
paths_at path n = paths_below (map key path) n

-- the lines of the paths below a part at a path are put behind others
abbrev pub Lists : {A E N : Type 0} → (List Step → N → List (List Step)) → Path → N → Lines → Lines
    → Result A E → Type 0
Lists below path n old new = Puts (path_lines (below (steps_on path) n)) old.text new.text
