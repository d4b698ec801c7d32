-- Lines of keys and paths, one after another.
use Rattle.std.proofs.Common.{◌≡◌, ◌≢◌, ℕ, ◌+◌, ◌<◌, true, false, List, [], ◌∷◌, ◌++◌, length, get_or, drop, refl, sym, ap, ◌∙◌, append_assoc}
use Rattle.std.proofs.lemmas.Grind.{flat_map-append}
use Rattle.std.proofs.lemmas.List.{drop_more}
use Rattle.toml_edit_model.specs.Lists.{is_item}
use Rattle.toml_edit_model.specs.Text.{Text, newline}
use Rattle.toml_edit_model.specs.Tree.{slot, key_text}
use Rattle.toml_edit_slots.specs.declared.slots.Slot.{Slot}
use Rattle.toml_edit_tree.specs.Indexed.{shown_slots}
use Rattle.toml_edit_tree.specs.View.{item_view, slots_view}
use Rattle.toml_edit_tree.specs.declared.item.Item.{Item}
use Rattle.toml_edit_visit.specs.Below.{Step, element, key}
use Rattle.toml_edit_visit.specs.Steps.{path_text, steps_on}
use Rattle.toml_edit_visit.specs.declared.path.Path as paths
use Rattle.toml_edit_items.specs.Below.{key_lines, path_line, path_lines, paths_below, slot_paths}

-- ---- a path

line-more : (ss : List Step) (s : Step) → path_line (ss ++ s ∷ []) ≡ path_text (ss ++ s ∷ []) ++ newline
line-more [] s = refl
line-more (t ∷ ss) s = refl

-- the line of a path that is not the root's
pub line-shown : (p : paths.Path) → p ≢ paths.Root → path_line (steps_on p) ≡ path_text (steps_on p) ++ newline
line-shown paths.Root other = absurd (other refl)
line-shown (paths.Key' p up k) other = line-more (steps_on up) (key k.now)
line-shown (paths.Element' p up i) other = line-more (steps_on up) (element i)

-- ---- slots and elements

pub path_lines-append : (ps qs : List (List Step)) → path_lines (ps ++ qs) ≡ path_lines ps ++ path_lines qs
path_lines-append ps qs = flat_map-append path_line ps qs

module _ (path : List Step) (es : List (Slot Item)) (i : ℕ) (s : Slot Item) (h : i < length es) (is : s ≡ get_or es i s) where
  opened : slot_paths path (slots_view (drop i es)) ≡ slot_paths path (slot s.key (item_view s.item) (slots_view (drop (i + 1) es)))
  opened =
      ap (λ ys. slot_paths path (slots_view ys)) (drop_more es i s h)
      ∙ ap (λ (e : Slot Item). slot_paths path (slot e.key (item_view e.item) (slots_view (drop (i + 1) es)))) (sym is)

  pub slot_turn : (done all : Text) → done ++ path_lines (slot_paths path (slots_view (drop i es))) ≡ all
      → (done ++ path_lines (paths_below (path ++ key s.key ∷ []) (item_view s.item))) ++ path_lines (slot_paths path (slots_view (drop (i + 1) es))) ≡ all
  slot_turn done all more =
      append_assoc done _ _
      ∙ ap (λ (t : Text). done ++ t) (sym (ap path_lines opened ∙ path_lines-append (paths_below (path ++ key s.key ∷ []) (item_view s.item)) (slot_paths path (slots_view (drop (i + 1) es)))))
      ∙ more

module _ (es : List (Slot Item)) (i : ℕ) (s : Slot Item) (h : i < length es) (is : s ≡ get_or es i s) where
  opened_keys : shown_slots (drop i es) ≡ record { key = s.key; item = item_view s.item } ∷ shown_slots (drop (i + 1) es)
  opened_keys =
      ap shown_slots (drop_more es i s h)
      ∙ ap (λ (e : Slot Item). record { key = e.key; item = item_view e.item } ∷ shown_slots (drop (i + 1) es)) (sym is)

  pub key_turn : is_item (item_view s.item) ≡ true → (done all : Text) → done ++ key_lines (shown_slots (drop i es)) ≡ all
      → (done ++ (key_text s.key ++ newline)) ++ key_lines (shown_slots (drop (i + 1) es)) ≡ all
  key_turn e done all more =
      let here : key_lines (record { key = s.key; item = item_view s.item } ∷ shown_slots (drop (i + 1) es)) ≡ (key_text s.key ++ newline) ++ key_lines (shown_slots (drop (i + 1) es)) = rw e refl in
      append_assoc done _ _ ∙ ap (λ (t : Text). done ++ t) (sym (ap key_lines opened_keys ∙ here)) ∙ more

  pub gap_turn : is_item (item_view s.item) ≡ false → (done all : Text) → done ++ key_lines (shown_slots (drop i es)) ≡ all
      → done ++ key_lines (shown_slots (drop (i + 1) es)) ≡ all
  gap_turn e done all more =
      let here : key_lines (record { key = s.key; item = item_view s.item } ∷ shown_slots (drop (i + 1) es)) ≡ key_lines (shown_slots (drop (i + 1) es)) = rw e refl in
      ap (λ (t : Text). done ++ t) (sym (ap key_lines opened_keys ∙ here)) ∙ more
