-- What is removed: an element of an array with its line, or else as `remove_at` does it.
use Rattle.std.proofs.Common.{◌≡◌, refl, sym, ◌∙◌, ap, subst, ℕ, Bool, true, false, suc, List, [], ◌∷◌, ◌++◌, length, Option, Some, None, inl, inr, take, drop}
use Rattle.std.specs.Prelude.{◌⊎◌, ◌-◌, nat_lt, if◌then◌else◌}
use Rattle.toml_edit_model.specs.Mode.{Mode}
use Rattle.toml_edit_model.specs.Text.{Text}
use Rattle.toml_edit_model.specs.ArrayCalls.{removed_at}
use Rattle.toml_edit_model.specs.Keys.{new_key}
use Rattle.toml_edit_model.specs.Tree.{Raw, owned, ArrayFields, Node, nothing, leaf, list, inline, table, tables, Items, SlotsAreWellMade, ItemsAreWellMade, IsWellMade, Tree, is_value_node, node_decor}
use Rattle.toml_edit_model.specs.Fits.{is_steady_in}
use Rattle.toml_edit_model.specs.Slots.{changed_at}
use Rattle.toml_edit_model.specs.Lists.{item_list, items_from}
use Rattle.toml_edit_laws.proofs.locality.Slots.{items_from-list}
use Rattle.toml_edit_edit_laws.specs.Commands.{Answer, and_then, done, mapped, child, child_changed, drop_element, element_of, item_below, remove_below, remove_child, root_item, second, with_slots}
use Rattle.toml_edit_edit_laws.proofs.commands.Finding.{below-was, some-and, was-there}
use Rattle.toml_edit_edit_laws.proofs.commands.Keeping.{decor-made}
use Rattle.toml_edit_edit_laws.proofs.commands.Setting.{was-mapped}
use Rattle.toml_edit_edit_laws.proofs.path_calls.Keys.{child-at}
use Rattle.toml_edit_edit_laws.proofs.path_calls.Removing.{remove_edits}
use Rattle.toml_edit_tree.specs.ArrayLines.{fields_removed, gap_left, is_closed, line_removed, with_gap, with_prefix, with_suffix}
use Rattle.toml_edit_paths.specs.Calls.{replaced_below}
use Rattle.toml_edit_paths.specs.Lines.{drop_line, remove_line_at, remove_line_below}
use Rattle.toml_edit_edits.proofs.staying.Words.{StaysAt, LineRemovalStays}
use Rattle.toml_edit_edits.proofs.staying.Below.{AreMade, below-made, made-changed, made-dropped, made-join, made-taken}
use Rattle.toml_edit_edit_laws.specs.Places.{place_of}
use Rattle.toml_edit_edit_laws.specs.Staying.{StaysButAt}
use Rattle.toml_edit_edits.proofs.staying.Values.{value-stays}

-- ---- what was there

dropped-line : (f : ArrayFields) (ns : List Node) (o : Option (ℕ × Node)) (m : Node) → drop_line f ns o ≡ done m → (x : ℕ × Node) × (o ≡ Some x)
dropped-line f ns None m h = absurd cc
dropped-line f ns (Some x) m h = (x, refl)

line-was : (path : List Text) (n m : Node) → remove_line_below path n ≡ done m → (x : Node) × (item_below path n ≡ Some x)
line-was [] n m h = absurd cc
line-was (k ∷ []) (list f xs) m h =
    let x = dropped-line f (item_list xs) (element_of is_value_node k (item_list xs)) m h in
    (x.0.1, ap (λ o. and_then (item_below []) (second o)) x.1)
line-was (k ∷ []) (table f ss) m h = was-there (k ∷ []) (table f ss) m h
line-was (k ∷ []) (inline f ss) m h = was-there (k ∷ []) (inline f ss) m h
line-was (k ∷ []) (tables e xs) m h = was-there (k ∷ []) (tables e xs) m h
line-was (k ∷ []) (leaf s r d) m h = absurd cc
line-was (k ∷ []) nothing m h = absurd cc
line-was (k ∷ l ∷ path) n m h = below-was k (remove_line_below (l ∷ path)) l path (λ a b g. line-was (l ∷ path) a b g) n m h

-- ---- an element of an array

-- the array at the front of the path has one element less, with its line
pub record InArray (path : List Text) (n r : Node) : Type 0 where
  pub above : List Text
  pub key : Text
  pub fields : ArrayFields
  pub items : Items
  pub at : ℕ
  pub gone : remove_child key (list fields items) ≡ done (list fields (items_from (removed_at at (item_list items))))
  pub is : path ≡ above ++ (key ∷ [])
  pub there : item_below above n ≡ Some (list fields items)
  pub put : replaced_below above (list (fields_removed at fields (item_list items)) (items_from (line_removed at fields (item_list items)))) n
      ≡ done r

further : (k l : Text) (path : List Text) (n r c b : Node) (whole : Node → Node) → child k n ≡ Some c
    → ((go : Node → Answer Node) → child_changed false (new_key k) go n ≡ mapped whole (go c)) → r ≡ whole b
    → (remove_below (l ∷ path) c ≡ done b) ⊎ InArray (l ∷ path) c b → (remove_below (k ∷ l ∷ path) n ≡ done r) ⊎ InArray (k ∷ l ∷ path) n r
further k l path n r c b whole at goes is (inl gone) =
    inl (goes (remove_below (l ∷ path)) ∙ ap (mapped whole) gone ∙ ap (λ x. done x) (sym is))
further k l path n r c b whole at goes is (inr x) =
    inr (record {
      above = k ∷ x.above;
      key = x.key;
      fields = x.fields;
      items = x.items;
      at = x.at;
      gone = x.gone;
      is = ap (λ (q : List Text). k ∷ q) x.is;
      there = found-on (child k n) at x.there;
      put = goes (replaced_below x.above (list (fields_removed x.at x.fields (item_list x.items)) (items_from (line_removed x.at x.fields (item_list x.items)))))
          ∙ ap (mapped whole) x.put ∙ ap (λ y. done y) (sym is);
    })
  where
    found-on : (o : Option Node) → o ≡ Some c → item_below x.above c ≡ Some (list x.fields x.items)
        → and_then (item_below x.above) o ≡ Some (list x.fields x.items)
    found-on o e h = ap (and_then (item_below x.above)) e ∙ h

pub line-gone : (path : List Text) (n r : Node) → remove_line_below path n ≡ done r → (remove_below path n ≡ done r) ⊎ InArray path n r
line-gone [] n r h = absurd cc
line-gone (k ∷ []) (list f xs) r h =
    let x = dropped-line f (item_list xs) (element_of is_value_node k (item_list xs)) r h in
    inr (record {
      above = [];
      key = k;
      fields = f;
      items = xs;
      at = x.0.0;
      gone = ap (λ o. mapped (λ ns. list f (items_from ns)) (drop_element (item_list xs) o)) x.1;
      is = refl;
      there = refl;
      put = sym (ap (drop_line f (item_list xs)) x.1) ∙ h;
    })
line-gone (k ∷ []) (table f ss) r h = inl h
line-gone (k ∷ []) (inline f ss) r h = inl h
line-gone (k ∷ []) (tables e xs) r h = inl h
line-gone (k ∷ []) (leaf s d e) r h = inl h
line-gone (k ∷ []) nothing r h = inl h
line-gone (k ∷ l ∷ path) n r h =
    let was = line-was (k ∷ l ∷ path) n r h in
    let c = some-and (item_below (l ∷ path)) (child k n) was.0 was.1 in
    let w = child-at k n c.0 c.1 in
    let b = was-mapped w.0 (remove_line_below (l ∷ path) c.0) r (sym (w.1 (remove_line_below (l ∷ path))) ∙ h) in
    further k l path n r c.0 b.from w.0 c.1 w.1 b.gives (line-gone (l ∷ path) c.0 b.from b.is)

-- ---- the array stays well made

pub either-made : (b : Bool) (xs ys : List Node) → AreMade xs → AreMade ys → AreMade (if b then xs else ys)
either-made true xs ys a c = a
either-made false xs ys a c = c

pub gap-made : (i : ℕ) (r : Raw) (f : ArrayFields) (xs : List Node) → AreMade xs → AreMade (with_gap i r f xs)
gap-made i r f xs a =
    either-made (nat_lt i (length xs)) (changed_at i (with_prefix r) xs) (if is_closed f xs then xs else changed_at (length xs - 1) (with_suffix r) xs)
    (made-changed i (with_prefix r) (λ n w. decor-made (record (node_decor n) { prefix = Some r }) n w) xs a)
    (either-made (is_closed f xs) xs (changed_at (length xs - 1) (with_suffix r) xs) a
    (made-changed (length xs - 1) (with_suffix r) (λ n w. decor-made (record (node_decor n) { suffix = Some r }) n w) xs a))

pub line-removed-made : (i : ℕ) (f : ArrayFields) (xs : List Node) → AreMade xs → AreMade (line_removed i f xs)
line-removed-made i f xs a =
    gap-made i (owned (gap_left i f xs)) f (removed_at i xs)
    (made-join (take i xs) (drop (suc i) xs) (made-taken i xs a) (made-dropped (suc i) xs a))

-- ---- the law

module _ (mode : Mode) (t u : Tree) (path : List Text) (made : SlotsAreWellMade t.slots) (steady : is_steady_in mode t ≡ true)
    (gone : remove_line_at path t ≡ done u) where
  by_place : (r : Node) → u ≡ with_slots t r → (remove_below path (root_item t) ≡ done r) ⊎ InArray path (root_item t) r → StaysAt mode t u path
  by_place r gives (inl h) =
      (remove_edits mode t u path made steady (ap (mapped (with_slots t)) h ∙ ap (λ y. done y) (sym gives))).stays
  by_place r gives (inr x) =
      let m : Node = list (fields_removed x.at x.fields (item_list x.items)) (items_from (line_removed x.at x.fields (item_list x.items))) in
      let old : IsWellMade (list x.fields x.items) = below-made x.above (root_item t) (list x.fields x.items) made x.there in
      let well : IsWellMade m =
      line-removed-made x.at x.fields (item_list x.items) (subst ItemsAreWellMade (sym (items_from-list x.items)) old) in
      let s = value-stays mode t u x.above (list x.fields x.items) m made steady x.there refl (λ e. refl) well
      (ap (mapped (with_slots t)) x.put ∙ ap (λ y. done y) (sym gives)) in
      subst (λ (q : List Text). StaysButAt mode (place_of t q ∷ []) t u) (sym x.is) (s (x.key ∷ []))

pub line-removal-stays : (mode : Mode) → LineRemovalStays mode
line-removal-stays mode t u path made steady gone =
    let root = was-mapped (with_slots t) (remove_line_below path (root_item t)) u gone in
    by_place mode t u path made steady gone root.from root.gives (line-gone path (root_item t) root.from root.is)
