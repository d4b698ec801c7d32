-- What edits that are made change in the meaning of a tree.
use Rattle.std.proofs.Common.{◌≡◌, refl, sym, ◌∙◌, ap, subst, ℕ, zero, suc, Bool, true, false, List, [], ◌∷◌, ◌++◌, append-nil, drop, length, map, take, Option, Some, None, inl, inr, IsPermutation}
use Rattle.std.specs.Prelude.{◌⊎◌, ◌-◌, ◌||◌, if◌then◌else◌, nat_lt, option_map, Result, Ok, string_bytes}
use Rattle.std.specs.Option.{ok_or, option_map_or}
use Rattle.toml_edit_model.specs.Comments.{with_comment_after}
use Rattle.toml_edit_model.specs.ArrayCalls.{inserted_at, removed_at}
use Rattle.toml_edit_model.specs.Conversions.{with_decor}
use Rattle.toml_edit_model.specs.Keys.{cleared_key, names}
use Rattle.toml_edit_model.specs.Lists.{is_dotted_inline, is_dotted_table, is_tables_node, item_list, items_from, on_slots, slot_list, slots_from, slots_in}
use Rattle.toml_edit_model.specs.Meaning.{SameFacts, an_array, fact}
use Rattle.toml_edit_model.specs.Paths.{Path, to_element, to_key}
use Rattle.toml_edit_model.specs.Rearranging.{is_free, renamed_slot}
use Rattle.toml_edit_model.specs.Shown.{inside_facts, is_shown, is_table_node, list_facts, node_facts, shown_meaning}
use Rattle.toml_edit_model.specs.Slots.{Slot, changed_at}
use Rattle.toml_edit_model.specs.Sorting.{Reorders, sorted_slots}
use Rattle.toml_edit_model.specs.Text.{Text, one}
use Rattle.toml_edit_model.specs.Tree.{ArrayFields, Decor, Items, Key, Node, Raw, SlotsAreWellMade, Tree, inline, is_value_node, leaf, list, node_decor, nothing, owned, table, tables}
use Rattle.toml_edit_laws.proofs.common.Members.{from-contained}
use Rattle.toml_edit_laws.proofs.common.OptionSteps.{some-is}
use Rattle.toml_edit_laws.proofs.common.PathLaws.{front-refl}
use Rattle.toml_edit_laws.proofs.common.Tests.{or-true}
use Rattle.toml_edit_laws.proofs.locality.Slots.{item_list-from, slot_list-from}
use Rattle.toml_edit_laws.proofs.print_meaning.FactSets.{alike-same}
use Rattle.toml_edit_edit_laws.specs.Commands.{Answer, child, done, item_at, item_below, mapped, refused, remove_below, remove_child, root_item, set_at, taken, with_slots}
use Rattle.toml_edit_edit_laws.specs.CommandLaws.{is_listing}
use Rattle.toml_edit_edit_laws.specs.KeyCalls.{key_changed, rename_at, renamed_where, slots_changed, where_present}
use Rattle.toml_edit_edit_laws.specs.Means.{IsMeant, MeansWith, meant_at, shown_at}
use Rattle.toml_edit_edit_laws.specs.PathEdits.{CallMeans, RemovalMeans, sets}
use Rattle.toml_edit_edit_laws.proofs.commands.Finding.{some-and}
use Rattle.toml_edit_edit_laws.proofs.commands.Setting.{done-is, was-mapped}
use Rattle.toml_edit_edit_laws.proofs.path_calls.Keys.{child-at, key-goes-down}
use Rattle.toml_edit_edit_laws.proofs.means.Absent.{absent_means}
use Rattle.toml_edit_edit_laws.proofs.means.Along.{same-facts, sees-tree, text-changes}
use Rattle.toml_edit_edit_laws.proofs.means.Calls.{removal-means, replacing-means}
use Rattle.toml_edit_edit_laws.proofs.means.Facts.{facts-below, facts_in, told}
use Rattle.toml_edit_edit_laws.proofs.means.Holders.{below-split}
use Rattle.toml_edit_edit_laws.proofs.means.Keys.{rename_means}
use Rattle.toml_edit_edit_laws.proofs.means.Meant.{shown-there, value_is_meant}
use Rattle.toml_edit_edit_laws.proofs.means.Outside.{becomes, becomes-mapped, below-goes, none-there, outside_with, stays_at}
use Rattle.toml_edit_edit_laws.proofs.means.Parts.{Replaces, seen, shown-replaces, shown_in}
use Rattle.toml_edit_edit_laws.proofs.means.Reordering.{reorder_means, sorted_reorders}
use Rattle.toml_edit_edit_laws.proofs.means.Setting.{add_means, set_means}
use Rattle.toml_edit_paths.specs.Calls.{item_inside, replaced_at, replaced_below}
use Rattle.toml_edit_paths.specs.Lines.{remove_line_at, remove_line_below}
use Rattle.toml_edit_tree.specs.ArrayLines.{fields_inserted, fields_removed, followed, gap_left, gaps_around, is_closed, line_inserted, line_removed, placed, with_gap, with_line, with_prefix, with_suffix}
use Rattle.toml_edit_tree.specs.Casts.{array_in}
use Rattle.toml_edit_tree.specs.Containers.{ArrayView}
use Rattle.toml_edit_tree.specs.View.{value_view}
use Rattle.toml_edit_edits.specs.Effects as effects
use Rattle.toml_edit_edits.specs.Effects.{array_at, array_set, body_of, first_same, in_order, on_table, place_up_to, renamed, slots_renamed, values_of, with_comment}
use Rattle.toml_edit_edits.specs.Elements as elements
use Rattle.toml_edit_edits.specs.Elements.{inserted, is_tables_at, moved_among, on_kind}
use Rattle.toml_edit_edits.specs.FirstTable.{held_below}
use Rattle.toml_edit_edits.specs.Means.{MadeMeans, RenamingMeans, SettingMeans, ValuesMean}
use Rattle.toml_edit_edits.specs.Outcomes.{and_then}
use Rattle.toml_edit_edits.specs.Sections.{section, sectioned}
use Rattle.toml_edit_edits.specs.declared.edit.Edit.TheVariants as edits
use Rattle.toml_edit_edits.specs.declared.fault.EditFault.{EditFault}
use Rattle.toml_edit_edits.specs.declared.fault.EditFault.TheVariants.{NoSuchElement, NoSuchPath}
use Rattle.toml_edit_edits.proofs.MoveLaws.{answered, is-beside, went}
use Rattle.toml_edit_edits.proofs.OutcomeLaws.{at-end, ended-last}
use Rattle.toml_edit_edits.proofs.staying.Arrays.{array-found}
use Rattle.toml_edit_edits.proofs.staying.Carrying.{same-all}
use Rattle.toml_edit_edits.proofs.staying.Effects.{at-end-was, headed-was, kind-was, was-changed, was-commented, was-renamed, was-sorted}
use Rattle.toml_edit_edits.proofs.staying.Removals.{InArray, line-gone}
use Rattle.toml_edit_edits.proofs.staying.SectionMore.{section-left}
use Rattle.toml_edit_edits.proofs.staying.Sets.{no-headers-above}
use Rattle.toml_edit_edits.proofs.staying.SlotMeans.{item-means}
use Rattle.toml_edit_edits.proofs.staying.Words.{IsCommented, IsSorted}

-- ---- what stays

-- an item with the same facts in its place
same-replaces : (n m : Node) (q : Path) (s v : Bool) → facts_in v m q ≡ facts_in v n q → told v m ≡ told v n → is_value_node m ≡ is_value_node n
    → is_table_node m ≡ is_table_node n → Replaces (stays_at q) s v n m q
same-replaces n m q s v facts shown value tbl =
    let same : shown_in s v m ≡ shown_in s v n = ap (λ z. s || z) shown in
    record {
      facts = becomes-mapped (stays_at q) (seen s v n q) (seen s v m q) refl
          (alike-same (seen s v m q) (seen s v n q)
          (ap (λ z. if z then facts_in v m q else []) same ∙ ap (λ fs. if shown_in s v n then fs else []) facts));
      up = λ e. sym same ∙ e;
      down = inl (λ e. same ∙ e);
      is_value = value;
      is_table = tbl;
    }

commented-replaces : (b : Option Text) (n m : Node) → IsCommented b n m → (q : Path) (s v : Bool) → Replaces (stays_at q) s v n m q
commented-replaces b nothing m is q s v = absurd is
commented-replaces b (tables e xs) m is q s v = absurd is
commented-replaces b (table f ss) m is q s true =
    subst (λ z. Replaces (stays_at q) s true (table f ss) z q) (sym is)
    (same-replaces (table f ss) (table (record f { decor = with_comment_after b f.decor }) ss) q s true refl refl refl refl)
commented-replaces b (table f ss) m is q s false =
    subst (λ z. Replaces (stays_at q) s false (table f ss) z q) (sym is)
    (same-replaces (table f ss) (table (record f { decor = with_comment_after b f.decor }) ss) q s false refl refl refl refl)
commented-replaces b (leaf x r d) m is q s true =
    subst (λ z. Replaces (stays_at q) s true (leaf x r d) z q) (sym is)
    (same-replaces (leaf x r d) (leaf x r (with_comment_after b d)) q s true refl refl refl refl)
commented-replaces b (leaf x r d) m is q s false =
    subst (λ z. Replaces (stays_at q) s false (leaf x r d) z q) (sym is)
    (same-replaces (leaf x r d) (leaf x r (with_comment_after b d)) q s false refl refl refl refl)
commented-replaces b (list f xs) m is q s true =
    subst (λ z. Replaces (stays_at q) s true (list f xs) z q) (sym is)
    (same-replaces (list f xs) (list (record f { decor = with_comment_after b f.decor }) xs) q s true refl refl refl refl)
commented-replaces b (list f xs) m is q s false =
    subst (λ z. Replaces (stays_at q) s false (list f xs) z q) (sym is)
    (same-replaces (list f xs) (list (record f { decor = with_comment_after b f.decor }) xs) q s false refl refl refl refl)
commented-replaces b (inline f ss) m is q s true =
    subst (λ z. Replaces (stays_at q) s true (inline f ss) z q) (sym is)
    (same-replaces (inline f ss) (inline (record f { decor = with_comment_after b f.decor }) ss) q s true refl refl refl refl)
commented-replaces b (inline f ss) m is q s false =
    subst (λ z. Replaces (stays_at q) s false (inline f ss) z q) (sym is)
    (same-replaces (inline f ss) (inline (record f { decor = with_comment_after b f.decor }) ss) q s false refl refl refl refl)

commented-means : (t u : Tree) (path : List Text) (b : Option Text) (n m : Node) → SlotsAreWellMade t.slots
    → item_inside path (root_item t) ≡ Some n → IsCommented b n m → replaced_at path m t ≡ done u
    → SameFacts (shown_meaning u) (shown_meaning t)
commented-means t u [] b n m made there is put = absurd cc
commented-means t u (k ∷ rest) b n m made there is put =
    let path : List Text = k ∷ rest in
    let q : Path = meant_at t path in
    subst (SameFacts (shown_meaning u)) (append-nil (shown_meaning t))
    (same-facts (stays_at q) (shown_meaning t) (shown_meaning u) (λ f e. e)
    (text-changes (stays_at q) t u path (front-refl q) (λ p. replaced_below p m) [] (λ j p y. refl) n
    (λ y s v g w one see. subst (λ z. Replaces (stays_at q) s v n z q) (done-is m y g) (commented-replaces b n m is q s v))
    made there (inl refl) (ap (λ z. mapped (with_slots t) (replaced_below z m (root_item t))) (append-nil path) ∙ put)))

sorted-means : (t u : Tree) (path : List Text) (n m : Node) → SlotsAreWellMade t.slots → item_at path t ≡ Some n → IsSorted n m
    → replaced_at path m t ≡ done u → SameFacts (shown_meaning u) (shown_meaning t)
sorted-means t u path (table f ss) m made there is put =
    let xs : List (Slot Node) = sorted_slots is_dotted_table ss in
    reorder_means t u path is_dotted_table (table f ss) m made there
    (slots_from xs, is, subst (Reorders is_dotted_table IsPermutation (slot_list ss)) (sym (slot_list-from xs)) (sorted_reorders is_dotted_table ss)) put
sorted-means t u path (inline f ss) m made there is put =
    let xs : List (Slot Node) = sorted_slots is_dotted_inline ss in
    reorder_means t u path is_dotted_inline (inline f ss) m made there
    (slots_from xs, is, subst (Reorders is_dotted_inline IsPermutation (slot_list ss)) (sym (slot_list-from xs)) (sorted_reorders is_dotted_inline ss)) put
sorted-means t u path (leaf x r d) m made there is put = absurd is
sorted-means t u path (list f xs) m made there is put = absurd is
sorted-means t u path (tables e xs) m made there is put = absurd is
sorted-means t u path nothing m made there is put = absurd is

-- ---- a renaming

-- a change of the slots of the item at a path is one at the last key
key-put : (g : Text → List (Slot Node) → Answer (List (Slot Node))) (k : Text) (above : List Text) (n x m r : Node) → item_below above n ≡ Some x
    → slots_changed (g k) x ≡ done m → replaced_below above m n ≡ done r → key_changed g (above ++ (k ∷ [])) n ≡ done r
key-put g k [] n x m r at h put = ap (slots_changed (g k)) (some-is n x at) ∙ h ∙ put
key-put g k (j ∷ above) n x m r at h put =
    let c = some-and (item_below above) (child j n) x at in
    let w = child-at j n c.0 c.1 in
    let b = was-mapped w.0 (replaced_below above m c.0) r (sym (w.1 (replaced_below above m)) ∙ put) in
    key-goes-down g k [] j above n ∙ w.1 (key_changed g (above ++ (k ∷ [])))
    ∙ ap (mapped w.0) (key-put g k above c.0 x m b.from c.2 h b.is) ∙ ap (λ z. done z) (sym b.gives)

slots-renamed : (k name : Text) (x m y : Node) (es : List (Slot Node)) → slots_in x ≡ Some es → is_free k name es ≡ true → child k x ≡ Some y
    → m ≡ on_slots (λ _. renamed_slot k name es) x → slots_changed (renamed_where name k) x ≡ done m
slots-renamed k name (table f ss) m y es slots free there is =
    let same : slot_list ss ≡ es = some-is (slot_list ss) es slots in
    ap (λ o. mapped (λ xs. table f (slots_from xs))
    (where_present o (if is_free k name (slot_list ss) then done (renamed_slot k name (slot_list ss)) else refused taken))) there
    ∙ ap (λ b. mapped (λ xs. table f (slots_from xs)) (if b then done (renamed_slot k name (slot_list ss)) else refused taken))
    (ap (is_free k name) same ∙ free)
    ∙ ap (λ zs. done (table f (slots_from (renamed_slot k name zs)))) same ∙ ap (λ z. done z) (sym is)
slots-renamed k name (inline f ss) m y es slots free there is =
    let same : slot_list ss ≡ es = some-is (slot_list ss) es slots in
    ap (λ o. mapped (λ xs. inline f (slots_from xs))
    (where_present o (if is_free k name (slot_list ss) then done (renamed_slot k name (slot_list ss)) else refused taken))) there
    ∙ ap (λ b. mapped (λ xs. inline f (slots_from xs)) (if b then done (renamed_slot k name (slot_list ss)) else refused taken))
    (ap (is_free k name) same ∙ free)
    ∙ ap (λ zs. done (inline f (slots_from (renamed_slot k name zs)))) same ∙ ap (λ z. done z) (sym is)
slots-renamed k name (leaf x r d) m y es slots free there is = absurd cc
slots-renamed k name (list f xs) m y es slots free there is = absurd cc
slots-renamed k name (tables e xs) m y es slots free there is = absurd cc
slots-renamed k name nothing m y es slots free there is = absurd cc

renamed-at : (t u : Tree) (above : List Text) (k name : Text) (y : Node) → item_at (above ++ (k ∷ [])) t ≡ Some y → renamed above k name t ≡ Ok u
    → rename_at (above ++ (k ∷ [])) name t ≡ done u
renamed-at t u above k name y there h =
    let x = was-changed (on_table (slots_renamed k name)) above t u _ h in
    let r = was-renamed k name x.old x.new x.goes in
    let s = below-split above k (root_item t) y there in
    let same : s.0 ≡ x.old = some-is s.0 x.old (sym s.1 ∙ x.there) in
    let b = was-mapped (with_slots t) (replaced_below above x.new (root_item t)) u x.put in
    ap (mapped (with_slots t))
    (key-put (renamed_where name) k above (root_item t) x.old x.new b.from x.there
    (slots-renamed k name x.old x.new y r.slots r.there r.free (ap (child k) (sym same) ∙ s.2) r.is) b.is)
    ∙ ap (λ z. done z) (sym b.gives)

renaming-means : (t u : Tree) (path above : List Text) (k name : Text) → SlotsAreWellMade t.slots → path ≡ above ++ (k ∷ [])
    → renamed above k name t ≡ Ok u → RenamingMeans path name t u
renaming-means t u path above k name made is h n there =
    rename_means t u path name made
    (ap (λ q. rename_at q name t) is ∙ renamed-at t u above k name n (ap (λ q. item_at q t) (sym is) ∙ there) h)

-- ---- arrays

-- decors have no facts
module _ (d : Decor) where
  decor-again : (c : Decor) (n : Node) → with_decor d (with_decor c n) ≡ with_decor d n
  decor-again c (leaf x r e) = refl
  decor-again c (list f xs) = refl
  decor-again c (inline f ss) = refl
  decor-again c (table f ss) = refl
  decor-again c (tables e xs) = refl
  decor-again c nothing = refl

  decor-facts : (n : Node) (p : Path) → inside_facts (with_decor d n) p ≡ inside_facts n p
  decor-facts (leaf x r e) p = refl
  decor-facts (list f xs) p = refl
  decor-facts (inline f ss) p = refl
  decor-facts (table f ss) p = refl
  decor-facts (tables e xs) p = refl
  decor-facts nothing p = refl

  decor-value : (n : Node) → is_value_node (with_decor d n) ≡ is_value_node n
  decor-value (leaf x r e) = refl
  decor-value (list f xs) = refl
  decor-value (inline f ss) = refl
  decor-value (table f ss) = refl
  decor-value (tables e xs) = refl
  decor-value nothing = refl

  abbrev bare : List Node → List Node
  bare = map (with_decor d)

  bare-facts : (xs : List Node) (p : Path) (n : ℕ) → list_facts (items_from (bare xs)) p n ≡ list_facts (items_from xs) p n
  bare-facts [] p n = refl
  bare-facts (x ∷ xs) p n =
      ap (λ b. if b then inside_facts (with_decor d x) (to_element p n) ++ list_facts (items_from (bare xs)) p (suc n) else list_facts (items_from (bare xs)) p n)
      (decor-value x)
      ∙ ap (λ fs. if is_value_node x then fs ++ list_facts (items_from (bare xs)) p (suc n) else list_facts (items_from (bare xs)) p n)
      (decor-facts x (to_element p n))
      ∙ ap (λ fs. if is_value_node x then inside_facts x (to_element p n) ++ fs else list_facts (items_from (bare xs)) p n) (bare-facts xs p (suc n))
      ∙ ap (λ fs. if is_value_node x then inside_facts x (to_element p n) ++ list_facts (items_from xs) p (suc n) else fs) (bare-facts xs p n)

  array-facts : (f : ArrayFields) (xs ys : List Node) (p : Path) → bare xs ≡ bare ys
      → inside_facts (list f (items_from xs)) p ≡ inside_facts (list f (items_from ys)) p
  array-facts f xs ys p same =
      ap (λ fs. fact p an_array ∷ fs)
      (sym (bare-facts xs p 0) ∙ ap (λ zs. list_facts (items_from zs) p 0) same ∙ bare-facts ys p 0)

  bare-changed : (h : Node → Node) → ((n : Node) → with_decor d (h n) ≡ with_decor d n) → (i : ℕ) (xs : List Node) → bare (changed_at i h xs) ≡ bare xs
  bare-changed h same i [] = refl
  bare-changed h same zero (x ∷ xs) = ap (λ z. z ∷ bare xs) (same x)
  bare-changed h same (suc i) (x ∷ xs) = ap (λ zs. with_decor d x ∷ zs) (bare-changed h same i xs)

  bare-either : (b : Bool) (xs ys zs : List Node) → bare xs ≡ bare zs → bare ys ≡ bare zs → bare (if b then xs else ys) ≡ bare zs
  bare-either true xs ys zs e g = e
  bare-either false xs ys zs e g = g

  bare-gap : (i : ℕ) (r : Raw) (f : ArrayFields) (xs : List Node) → bare (with_gap i r f xs) ≡ bare xs
  bare-gap i r f xs =
      bare-either (nat_lt i (length xs)) (changed_at i (with_prefix r) xs) (if is_closed f xs then xs else changed_at (length xs - 1) (with_suffix r) xs) xs
      (bare-changed (with_prefix r) (λ n. decor-again (record (node_decor n) { prefix = Some r }) n) i xs)
      (bare-either (is_closed f xs) xs (changed_at (length xs - 1) (with_suffix r) xs) xs refl
      (bare-changed (with_suffix r) (λ n. decor-again (record (node_decor n) { suffix = Some r }) n) (length xs - 1) xs))

  bare-followed : (i : ℕ) (f : ArrayFields) (xs : List Node) → bare (followed i f xs) ≡ bare xs
  bare-followed i f xs =
      bare-either (f.comma || nat_lt i (length xs)) xs (changed_at (length xs - 1) (with_suffix (owned [])) xs) xs refl
      (bare-changed (with_suffix (owned [])) (λ n. decor-again (record (node_decor n) { suffix = Some (owned []) }) n) (length xs - 1) xs)

  bare-put : (i : ℕ) (v : Node) (xs : List Node) → bare (take i xs ++ (v ∷ drop i xs)) ≡ take i (bare xs) ++ (with_decor d v ∷ drop i (bare xs))
  bare-put zero v xs = refl
  bare-put (suc i) v [] = refl
  bare-put (suc i) v (x ∷ xs) = ap (λ zs. with_decor d x ∷ zs) (bare-put i v xs)

  bare-inserted : (i : ℕ) (v : Node) (f : ArrayFields) (xs : List Node) → bare (line_inserted i v f xs) ≡ bare (take i xs ++ (v ∷ drop i xs))
  bare-inserted i v f xs =
      let ys : List Node = followed i f xs in
      let r : Raw = owned (gaps_around i (node_decor v) f xs).0 in
      bare-gap (suc i) (owned (gaps_around i (node_decor v) f xs).1) f (with_line i v f xs) ∙ bare-put i (placed r v) ys
      ∙ ap (λ z. take i (bare ys) ++ (z ∷ drop i (bare ys))) (decor-again (record { prefix = Some r; suffix = None }) v)
      ∙ ap (λ zs. take i zs ++ (with_decor d v ∷ drop i zs)) (bare-followed i f xs) ∙ sym (bare-put i v xs)

at-last : (v : Node) (xs : List Node) → take (length xs) xs ++ (v ∷ drop (length xs) xs) ≡ xs ++ (v ∷ [])
at-last v [] = refl
at-last v (x ∷ xs) = ap (λ zs. x ∷ zs) (at-last v xs)

array-replaces : (f g : ArrayFields) (xs ys : Items) (q : Path) (s v : Bool)
    → Replaces (outside_with q (inside_facts (list g ys) q)) s v (list f xs) (list g ys) q
array-replaces f g xs ys q s true =
    let c = outside_with q (inside_facts (list g ys) q) in
    shown-replaces c s true (list f xs) (list g ys) q (or-true s) (or-true s)
    (becomes c (facts_in true (list f xs) q) (inside_facts (list g ys) q)
    (below-goes q (facts_in true (list f xs) q) (facts-below true (list f xs) q)) refl) refl refl
array-replaces f g xs ys q s false =
    let c = outside_with q (inside_facts (list g ys) q) in
    shown-replaces c s false (list f xs) (list g ys) q (or-true s) (or-true s)
    (becomes c (facts_in false (list f xs) q) (inside_facts (list g ys) q)
    (below-goes q (facts_in false (list f xs) q) (facts-below false (list f xs) q)) refl) refl refl

-- another array in the place of one that is shown
array-means : (t u : Tree) (path : List Text) (f g : ArrayFields) (xs ys : Items) → SlotsAreWellMade t.slots → shown_at path t ≡ Some (list f xs)
    → replaced_at path (list g ys) t ≡ done u → MeansWith (meant_at t path) (inside_facts (list g ys) (meant_at t path)) t u
array-means t u path f g xs ys made shown put =
    let q : Path = meant_at t path in
    let c = outside_with q (inside_facts (list g ys) q) in
    same-facts c (shown_meaning t) (shown_meaning u) (λ f e. e)
    (text-changes c t u path (front-refl q) (λ p. replaced_below p (list g ys)) [] (λ k p y. refl) (list f xs)
    (λ y s v h w one see. subst (λ z. Replaces c s v (list f xs) z q) (done-is (list g ys) y h) (array-replaces f g xs ys q s v))
    made (shown-there path false (root_item t) (list f xs) shown) (inr (sees-tree t q (value_is_meant t path (list f xs) made shown refl)))
    (ap (λ z. mapped (with_slots t) (replaced_below z (list g ys) (root_item t))) (append-nil path) ∙ put))

-- an edit of the array at a path, where these values are shown
module _ (t u : Tree) (path : List Key) (f : ArrayFields) (xs : List Node) (made : SlotsAreWellMade t.slots)
    (shown : shown_at (names path) t ≡ Some (list f (items_from xs))) where
  abbrev p : Path
  p = meant_at t (names path)

  there : item_at (names path) t ≡ Some (list f (items_from xs))
  there = shown-there (names path) false (root_item t) (list f (items_from xs)) shown

  pub no-tables : is_tables_at (names path) t ≡ false
  no-tables = ap (λ o. option_map_or is_tables_node o false) there

  abbrev view : ArrayView
  view = record { fields = f; items = items_from xs }

  array-was : (go : ArrayView → Result Node EditFault) → array_set go path t ≡ Ok u → (n : Node) × (go view ≡ Ok n) × (effects.set path n t ≡ Ok u)
  array-was go h =
      let x = went (λ n. effects.set path n t) (and_then go (array_at (names path) t)) u h in
      let y = went go (array_at (names path) t) x.0 x.1 in
      let z = array-found path t y.0 y.1 in
      let same : list f (items_from xs) ≡ z.0 = some-is (list f (items_from xs)) z.0 (sym there ∙ z.1) in
      (x.0, subst (λ a. go a ≡ Ok x.0) (some-is y.0 view (sym z.2 ∙ ap array_in (sym same))) y.2, x.2)

  -- what is put there has the facts of these values, if it has them but for their decor
  pub values-mean : (go : ArrayView → Result Node EditFault) (g : ArrayFields) (ys zs : List Node) → go view ≡ Ok (list g (items_from ys))
      → bare f.decor ys ≡ bare f.decor zs → array_set go path t ≡ Ok u → MeansWith p (inside_facts (list f (items_from zs)) p) t u
  values-mean go g ys zs goes same h =
      let x = array-was go h in
      let is : x.0 ≡ list g (items_from ys) = let e : ◌≡◌ {A = Result Node EditFault} (Ok x.0) (Ok (list g (items_from ys))) = sym x.1 ∙ goes in cc in
      subst (λ fs. MeansWith p fs t u) (array-facts f.decor f ys zs p same)
      (replacing-means t u path (list g (items_from ys)) (list f (items_from xs)) made shown refl refl
      (answered _ u (ap (λ z. effects.set path z t) (sym is) ∙ x.2)))

appended-means : (t u : Tree) (path : List Key) (v : Node) → SlotsAreWellMade t.slots
    → on_kind (inserted None v) (effects.appended path v t) (names path) t ≡ Ok u
    → (xs : List Node) → ValuesMean (names path) xs (xs ++ (v ∷ [])) t u
appended-means t u path v made h xs f shown =
    values-mean t u path f xs made shown (λ a. Ok (effects.with_line (length (values_of a)) v a)) (fields_inserted (length xs) v f xs)
    (line_inserted (length xs) v f xs) (xs ++ (v ∷ []))
    (ap (λ zs. Ok (list (fields_inserted (length zs) v f zs) (items_from (line_inserted (length zs) v f zs)))) (item_list-from xs))
    (bare-inserted f.decor (length xs) v f xs ∙ ap (bare f.decor) (at-last v xs))
    (kind-was (inserted None v) (effects.appended path v t) (names path) t u (no-tables t u path f xs made shown) h)

inserted-means : (t u : Tree) (above : List Key) (k : Text) (v : Node) → SlotsAreWellMade t.slots
    → on_kind (inserted (Some k) v) (effects.inserted_before above k v t) (names above) t ≡ Ok u
    → (xs : List Node) (i : ℕ) → place_up_to (length xs) k ≡ Some i → ValuesMean (names above) xs (inserted_at i v xs) t u
inserted-means t u above k v made h xs i at f shown =
    values-mean t u above f xs made shown
    (λ a. ok_or (option_map (λ j. effects.with_line j v a) (place_up_to (length (values_of a)) k)) NoSuchPath) (fields_inserted i v f xs)
    (line_inserted i v f xs) (inserted_at i v xs)
    (ap (λ zs. ok_or (option_map (λ j. list (fields_inserted j v f zs) (items_from (line_inserted j v f zs))) (place_up_to (length zs) k)) NoSuchPath)
    (item_list-from xs)
    ∙ ap (λ o. ok_or (option_map (λ j. list (fields_inserted j v f xs) (items_from (line_inserted j v f xs))) o) NoSuchPath) at)
    (bare-inserted f.decor i v f xs)
    (kind-was (inserted (Some k) v) (effects.inserted_before above k v t) (names above) t u (no-tables t u above f xs made shown) h)

taken-means : (t u : Tree) (path : List Key) (v : Node) → SlotsAreWellMade t.slots
    → on_kind (elements.taken v) (effects.taken path v t) (names path) t ≡ Ok u
    → (xs : List Node) (i : ℕ) → first_same v xs ≡ Some i → ValuesMean (names path) xs (removed_at i xs) t u
taken-means t u path v made h xs i at f shown =
    values-mean t u path f xs made shown
    (λ a. ok_or (option_map (λ j. effects.without_line j a) (first_same v (values_of a))) NoSuchElement) (fields_removed i f xs) (line_removed i f xs)
    (removed_at i xs)
    (ap (λ zs. ok_or (option_map (λ j. list (fields_removed j f zs) (items_from (line_removed j f zs))) (first_same v zs)) NoSuchElement) (item_list-from xs)
    ∙ ap (λ o. ok_or (option_map (λ j. list (fields_removed j f xs) (items_from (line_removed j f xs))) o) NoSuchElement) at)
    (bare-gap f.decor i (owned (gap_left i f xs)) f (removed_at i xs))
    (kind-was (elements.taken v) (effects.taken path v t) (names path) t u (no-tables t u path f xs made shown) h)

-- ---- a removal

removed-means : (t u : Tree) (path : List Text) → SlotsAreWellMade t.slots → remove_line_at path t ≡ done u → RemovalMeans path t u
removed-means t u path made gone =
    let root = was-mapped (with_slots t) (remove_line_below path (root_item t)) u gone in
    by_place root.from root.gives (line-gone path (root_item t) root.from root.is)
  where
    -- what the path goes through, and its last segment
    ends : (above front : List Text) (k x : Text) → path ≡ above ++ (k ∷ []) → path ≡ front ++ (x ∷ []) → (front ≡ above) × (x ≡ k)
    ends above front k x is same =
        let e : ◌≡◌ {A = List Text × Text} (front, x) (above, k) =
        some-is (front, x) (above, k) (sym (ended-last front x) ∙ ap effects.ended (sym same ∙ is) ∙ ended-last above k) in
        (ap (λ z. z.0) e, ap (λ z. z.1) e)

    by_place : (r : Node) → u ≡ with_slots t r → (remove_below path (root_item t) ≡ done r) ⊎ InArray path (root_item t) r → RemovalMeans path t u
    by_place r gives (inl h) =
        removal-means t u path made (ap (mapped (with_slots t)) h ∙ ap (λ y. done y) (sym gives))
    by_place r gives (inr x) =
        let old : Node = list x.fields x.items in
        let g : ArrayFields = fields_removed x.at x.fields (item_list x.items) in
        let ys : Items = items_from (line_removed x.at x.fields (item_list x.items)) in
        let put : replaced_at x.above (list g ys) t ≡ done u =
        ap (mapped (with_slots t)) x.put ∙ ap (λ y. done y) (sym gives) in
        let left : Node = list x.fields (items_from (removed_at x.at (item_list x.items))) in
        let is_old : (front : List Text) (k : Text) (n : Node) → path ≡ front ++ (k ∷ []) → item_at front t ≡ Some n → n ≡ old =
        λ front k n same at.
        some-is n old (sym at ∙ ap (λ q. item_at q t) (ends x.above front x.key k x.is same).0 ∙ x.there) in
        let is_left : (front : List Text) (k : Text) (n m : Node) → path ≡ front ++ (k ∷ []) → item_at front t ≡ Some n → remove_child k n ≡ done m
        → m ≡ left =
        λ front k n m same at h.
        done-is m left (sym h ∙ ap (λ j. remove_child j n) (ends x.above front x.key k x.is same).1
        ∙ ap (remove_child x.key) (is_old front k n same at) ∙ x.gone) in
        record {
          slot = λ front k n same at is. absurd (let e : true ≡ false = sym (ap is_listing (is_old front k n same at)) ∙ is in cc);
          element = λ front k n m same at is h shown.
              let there : item_at front t ≡ Some n = shown-there front false (root_item t) n at in
              let q : Path = meant_at t front in
              subst (λ z. MeansWith q (node_facts z q) t u) (sym (is_left front k n m same there h))
              (subst (λ fs. MeansWith q fs t u)
              (array-facts x.fields.decor x.fields (line_removed x.at x.fields (item_list x.items)) (removed_at x.at (item_list x.items)) q
              (bare-gap x.fields.decor x.at (owned (gap_left x.at x.fields (item_list x.items))) x.fields (removed_at x.at (item_list x.items))))
              (array-means t u front x.fields g x.items ys made
              (at ∙ ap (λ z. Some z) (is_old front k n same there))
              (ap (λ y. replaced_at y (list g ys) t) (ends x.above front x.key k x.is same).0 ∙ put)));
          last = λ front k n m same at is h hidden.
              absurd (let e : true ≡ false = sym (ap is_shown (is_left front k n m same at h)) ∙ hidden in cc);
        }

-- ---- a value that is set

setting-means : (t u : Tree) (path : List Key) (v : Node) → SlotsAreWellMade t.slots → set_at path v t ≡ done u → SettingMeans path v t u
setting-means t u path v made set plain above k same meant =
    subst (λ q. CallMeans (sets q v) t u) (sym same)
    (set_means t u above k v made meant plain (ap (λ q. set_at q v t) (sym same) ∙ set))

-- what is shown is there
meant-there : (t : Tree) (path : List Text) → SlotsAreWellMade t.slots → IsMeant t (meant_at t path) → (n : Node) × (item_at path t ≡ Some n)
meant-there t path made meant = by_item (item_at path t) refl
  where
    by_item : (o : Option Node) → item_at path t ≡ o → (n : Node) × (item_at path t ≡ Some n)
    by_item (Some n) is = (n, is)
    by_item None is =
        absurd (none-there (meant_at t path) (shown_meaning t) meant.0 (absent_means t path made is) (from-contained meant.0 (shown_meaning t) meant.1) meant.2)

-- tables down to one that is shown are shown
held-shown : (path : List Key) (t : Tree) → is_shown (held_below path (section t)) ≡ true
held-shown [] t = refl
held-shown (k ∷ path) t = ap (λ b. b || false) (held-shown path t)

-- ---- each edit

pub made-means : MadeMeans
made-means (edits.Sort path) t u made h =
    let x = was-changed in_order (names path.items) t u _ h in
    sorted-means t u (names path.items) x.old x.new made x.there (was-sorted x.old x.new x.goes) x.put
made-means (edits.Comment path text) t u made h =
    let x = was-changed (with_comment (string_bytes text)) (names path.items) t u _ h in
    commented-means t u (names path.items) (body_of (string_bytes text)) x.old x.new made x.there (was-commented (string_bytes text) x.old x.new x.goes) x.put
made-means (edits.Rename path name) t u made h =
    let x = at-end-was (λ above k. renamed above k (string_bytes name) t) (names path.items) u h in
    renaming-means t u (names path.items) x.0 x.1 (string_bytes name) made x.2 x.3
made-means (edits.Remove path) t u made h =
    removed-means t u (names path.items) made (answered (remove_line_at (names path.items) t) u h)
made-means (edits.Set path v) t u made h =
    let set : set_at path.items (value_view v) t ≡ done u = answered (set_at path.items (value_view v) t) u h in (
      setting-means t u path.items (value_view v) made set,
      λ plain above k below same meant none.
          add_means t u above k below (value_view v) made meant none plain (ap (λ q. set_at q (value_view v) t) (sym same) ∙ set),
    )
made-means (edits.Append path v) t u made h = appended-means t u path.items (value_view v) made h
made-means (edits.Header path v) t u made h = λ plain above k same meant.
    let x = meant-there t (names above) made meant in
    setting-means t u path.items (value_view v) made
    (sym (no-headers-above t (value_view v) path.items above k x.0 same x.1) ∙ headed-was path.items (value_view v) t u h) plain above k same meant
made-means (edits.Insert path v) t u made h = λ above k xs i same at.
    inserted-means t u above k.name (value_view v) made
    (sym (at-end (λ front l. on_kind (inserted (Some l.name) (value_view v)) (effects.inserted_before front l.name (value_view v) t) (names front) t) path.items above k same) ∙ h)
    xs i at
made-means (edits.Take path v) t u made h = taken-means t u path.items (value_view v) made h
made-means (edits.Table path v) t u made h = tt
made-means (edits.Section path) t u made h = λ above w k below same named meant none.
    subst (λ (y : Tree). SameFacts (shown_meaning y) (shown_meaning t ++ node_facts (held_below below (section t)) (to_key w.path k.name)))
    (sym (section-left t u above w k below made named none (ap (λ q. sectioned q t) (sym same) ∙ h)))
    (item-means w (cleared_key k) (held_below below (section t)) (held-shown below t) t named.way made named.leads meant)
made-means (edits.Move path to) t u made h = λ above k name is ends other.
    renaming-means t u (names path.items) above k name made is
    (kind-was (moved_among k name) (renamed above k name t) above t u other
    (sym (is-beside above k above name t (names path.items) (names to.items) is ends (same-all above)) ∙ h))
