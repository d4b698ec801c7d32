-- A table more at the end of an array of tables.
use Rattle.std.proofs.Common.{◌≡◌, refl, sym, ◌∙◌, ap, subst, ℕ, ◌+◌, arith, Bool, true, false, List, [], ◌∷◌, ◌++◌, append_assoc, append-nil, length, Some, None}
use Rattle.std.specs.Prelude.{◌&&◌, if◌then◌else◌, map, not, option_and_then, slice_get, Ok, Result}
use Rattle.std.specs.List.{AllByRecursion, list_all}
use Rattle.toml_edit_model.specs.Mode.{Mode}
use Rattle.toml_edit_model.specs.Text.{Text, one}
use Rattle.toml_edit_model.specs.ArrayCalls.{inserted_at}
use Rattle.toml_edit_model.specs.Conversions.{formatted, new_table, with_decor}
use Rattle.toml_edit_model.specs.Fits.{is_steady_in}
use Rattle.toml_edit_model.specs.HeaderOrder.{Visit, items_walk, node_walk, slots_walk, visit_of}
use Rattle.toml_edit_model.specs.Keys.{cleared_key, new_key}
use Rattle.toml_edit_model.specs.Lists.{item_list, items_from, on_items, slot_list, slots_from}
use Rattle.toml_edit_model.specs.Paths.{Path, at_element, at_key, to_element, to_key}
use Rattle.toml_edit_model.specs.Print.{Line, below, table_lines}
use Rattle.toml_edit_model.specs.Slots.{Slot, changed, keyed, lookup_slot, on_item, with_item}
use Rattle.toml_edit_model.specs.Tree.{Extent, Items, Key, Node, Slots, SlotsAreWellMade, Tree, inline, is_value_node, leaf, list, nothing, table, tables, unset}
use Rattle.toml_edit_laws.specs.Locality.{Leads, Turn, edited, element_count, root_visit}
use Rattle.toml_edit_laws.proofs.common.Each.{all-append}
use Rattle.toml_edit_laws.proofs.common.Lists.{not_empty-last}
use Rattle.toml_edit_laws.proofs.common.PathLaws.{front-more, front-refl, is_front}
use Rattle.toml_edit_laws.proofs.locality.Blocks.{Block, block_of, blocks, blocks-append, is_headed}
use Rattle.toml_edit_laws.proofs.locality.Elements.{counted, counted-more, earlier-out, items-append}
use Rattle.toml_edit_laws.proofs.locality.Replacing.{itself}
use Rattle.toml_edit_laws.proofs.locality.Slots.{Found, found, items_from-list, slots_under}
use Rattle.toml_edit_laws.proofs.locality.Sound.{Steady, leads-made, steady-parts}
use Rattle.toml_edit_laws.proofs.locality.Splice.{Around, BlockSplice, LineSplice, around}
use Rattle.toml_edit_laws.proofs.locality.Under.{IsBlockOut, IsBlockUnder, node-under}
use Rattle.toml_edit_laws.proofs.locality.Values.{no-value-walk}
use Rattle.toml_edit_edit_laws.specs.HeaderAdds.{OneTableMore}
use Rattle.toml_edit_edit_laws.specs.Commands.{change_slot, done, item_below, mapped, present, root_item, with_slots}
use Rattle.toml_edit_edit_laws.proofs.commands.Going.{changed-same, goes-along, item-along, made-goes}
use Rattle.toml_edit_edit_laws.proofs.commands.Setting.{done-is}
use Rattle.toml_edit_laws.proofs.common.OptionSteps.{some-is}
use Rattle.toml_edit_paths.specs.Calls.{item_inside, replaced_at, replaced_below}
use Rattle.toml_edit_edits.specs.Elements.{inserted, position_of, with_element, with_position}
use Rattle.toml_edit_edits.specs.OthersStay.{ElementAddsTable, element_visit, has_values}
use Rattle.toml_edit_edits.specs.declared.fault.EditFault.{EditFault}
use Rattle.toml_edit_edits.proofs.MoveLaws.{joins}
use Rattle.toml_edit_edits.proofs.staying.Effects.{was-changed}
use Rattle.toml_edit_edits.proofs.staying.TableMore.{nothing_lined, one-table-more}

-- ---- the table

-- no table is in it
pub no-walk : (es : List (Slot Node)) (p : Path) (ks : List Key) → list_all (λ (s : Slot Node). is_value_node s.item) es ≡ true
    → slots_walk (slots_from es) p ks ≡ []
no-walk [] p ks h = refl
no-walk (s ∷ es) p ks h = by_test (is_value_node s.item) refl h (no-walk es p ks)
  where
    by_test : (b : Bool) → is_value_node s.item ≡ b → (b && list_all (λ (s : Slot Node). is_value_node s.item) es) ≡ true
        → (list_all (λ (s : Slot Node). is_value_node s.item) es ≡ true → slots_walk (slots_from es) p ks ≡ [])
        → node_walk s.item (to_key p s.key.name) (ks ++ (s.key ∷ [])) false ++ slots_walk (slots_from es) p ks ≡ []
    by_test true e g ih =
        ap (λ vs. vs ++ slots_walk (slots_from es) p ks) (no-value-walk s.item (to_key p s.key.name) (ks ++ (s.key ∷ [])) false e)
        ∙ ih g
    by_test false e g ih = absurd cc

decorated : (n : Node) → is_value_node n ≡ true → is_value_node (with_decor unset n) ≡ true
decorated (leaf s r d) h = refl
decorated (list f xs) h = refl
decorated (inline f ss) h = refl
decorated (table f ss) h = absurd cc
decorated (tables e xs) h = absurd cc
decorated nothing h = absurd cc

formatted-values : (es : List (Slot Node)) → list_all (λ (s : Slot Node). is_value_node s.item) es ≡ true
    → list_all (λ (s : Slot Node). is_value_node s.item) (formatted es) ≡ true
formatted-values [] h = refl
formatted-values (s ∷ es) h = by_test (is_value_node s.item) refl h (formatted-values es)
  where
    by_test : (b : Bool) → is_value_node s.item ≡ b → (b && list_all (λ (s : Slot Node). is_value_node s.item) es) ≡ true
        → (list_all (λ (s : Slot Node). is_value_node s.item) es ≡ true
        → list_all (λ (s : Slot Node). is_value_node s.item) (formatted es) ≡ true)
        → (is_value_node (if b then record { key = cleared_key s.key; item = with_decor unset s.item } else s).item
        && list_all (λ (s : Slot Node). is_value_node s.item) (formatted es)) ≡ true
    by_test true e g ih = ap (λ b. b && list_all (λ (s : Slot Node). is_value_node s.item) (formatted es)) (decorated s.item e) ∙ ih g
    by_test false e g ih = absurd cc

module _ (mode : Mode) (ss : Slots) (values : has_values ss ≡ true) where
  abbrev pub own_slots : Slots
  own_slots = slots_from (formatted (slot_list ss))

  -- it is one block
  pub one-block : (p : Path) (ks : List Key)
      → blocks mode (visit_of p ks true new_table own_slots ∷ slots_walk own_slots p ks) ≡ block_of mode (element_visit p ks ss) ∷ []
  one-block p ks =
      ap (λ vs. block_of mode (element_visit p ks ss) ∷ blocks mode vs) (no-walk (formatted (slot_list ss)) p ks (formatted-values (slot_list ss) values))

  pub has-header : (p : Path) (ks : List Key) (l : Key) → is_headed (block_of mode (element_visit p (ks ++ (l ∷ [])) ss)) ≡ true
  has-header p ks l = ap (λ b. not b && true) (not_empty-last ks l)

-- ---- at the end

module _ (mode : Mode) (t : Tree) (way : List Turn) (w : Visit) (k : Text) (l : Key) (e : Extent) (xs : Items) (ss : Slots)
    (made : SlotsAreWellMade t.slots) (st : Steady mode t) (leads : Leads way (root_visit t) w)
    (there : lookup_slot k (slot_list w.slots) ≡ Some (keyed l (tables e xs))) (values : has_values ss ≡ true) where
  abbrev r : Path
  r = to_key w.path l.name

  abbrev n : ℕ
  n = element_count (item_list xs)

  abbrev q : Path
  q = to_element r n

  abbrev ks : List Key
  ks = w.keys ++ (l ∷ [])

  abbrev own : Node
  own = table new_table (own_slots mode ss values)

  abbrev longer : List Node → List Node
  longer ns = ns ++ (own ∷ [])

  abbrev pub more_elements : List (Slot Node) → List (Slot Node)
  more_elements = changed k (on_item (on_items longer))

  abbrev left : Items
  left = items_from (longer (item_list xs))

  abbrev last : Visit
  last = element_visit q ks ss

  fd : Found k (keyed l (tables e xs)) (slot_list w.slots)
  fd = found k w.slots (keyed l (tables e xs)) (leads-made way (root_visit t) w made leads) there

  new-slots : slots_under more_elements w.slots ≡ slots_from (fd.front ++ (keyed l (tables e left) ∷ fd.back))
  new-slots = ap slots_from (fd.change (on_item (on_items longer)))

  above : is_front r q ≡ true
  above = front-more r (at_element n ∷ [])

  beside : (bp : Path) (lk : List Key) → below bp lk ≡ w.path
      → Around mode q w bp lk (keyed l (tables e xs)) (keyed l (tables e left)) (slots_under more_elements w.slots)
  beside bp lk at = around mode q w bp lk k (keyed l (tables e xs)) (keyed l (tables e left)) (slots_under more_elements w.slots) at above fd new-slots

  edit-lines : (bp : Path) (lk : List Key) → below bp lk ≡ w.path
      → LineSplice mode q bp (nothing_lined mode lk) (nothing_lined mode lk) (table_lines mode w.slots lk)
      (table_lines mode (slots_under more_elements w.slots) lk)
  edit-lines bp lk at =
      let a = beside bp lk at in
      record {
        front = a.lines_front;
        back = a.lines_back;
        first = a.old_lines;
        second = a.new_lines;
        out_front = a.out_lines_front;
        out_back = a.out_lines_back;
      }

  abbrev earlier : List Block
  earlier = blocks mode (items_walk xs r ks 0)

  abbrev m : List Block
  m = block_of mode last ∷ []

  count : counted 0 (item_list xs) ≡ n
  count = let c : counted 0 (item_list xs) ≡ 0 + n = counted-more 0 (item_list xs) in omega arith

  new-split : blocks mode (items_walk left r ks 0) ≡ earlier ++ m
  new-split =
      ap (blocks mode) (items-append (item_list xs) (own ∷ []) r ks 0)
      ∙ blocks-append mode (items_walk (items_from (item_list xs)) r ks 0) (items_walk (items_from (own ∷ [])) r ks (counted 0 (item_list xs)))
      ∙ ap (λ ys. blocks mode (items_walk ys r ks 0) ++ blocks mode (items_walk (items_from (own ∷ [])) r ks (counted 0 (item_list xs)))) (items_from-list xs)
      ∙ ap (λ i. earlier ++ blocks mode (items_walk (items_from (own ∷ [])) r ks i)) count
      ∙ ap (λ vs. earlier ++ blocks mode vs) (append-nil (visit_of q ks true new_table (own_slots mode ss values) ∷ slots_walk (own_slots mode ss values) q ks))
      ∙ ap (λ bs. earlier ++ bs) (one-block mode ss values q ks)

  regroup : (x a y b : List Block) → x ++ ((a ++ b) ++ y) ≡ (x ++ a) ++ (b ++ y)
  regroup x a y b = simp append_assoc

  edit-blocks : BlockSplice mode q itself [] m (blocks mode (slots_walk w.slots w.path w.keys))
      (blocks mode (slots_walk (slots_under more_elements w.slots) w.path w.keys))
  edit-blocks =
      let a = beside w.path [] refl in
      record {
        front = a.front ++ earlier;
        back = a.back;
        first = a.old_blocks ∙ sym (append_assoc a.front earlier a.back);
        second = ap (map itself) (a.new_blocks ∙ ap (λ bs. a.front ++ (bs ++ a.back)) new-split ∙ regroup a.front earlier a.back m);
        out_front = all-append (IsBlockOut q) a.front earlier a.out_front
            (subst (λ ys. AllByRecursion (IsBlockOut q) (blocks mode (items_walk ys r ks 0))) (items_from-list xs)
            (earlier-out mode q r n (front-refl q) (item_list xs) ks 0 (omega (arith, count))));
        out_back = a.out_back;
      }

  under : AllByRecursion (IsBlockUnder q) m
  under = subst (AllByRecursion (IsBlockUnder q)) (one-block mode ss values q ks) (node-under mode q own q ks true (front-refl q))

  pub element-more : OneTableMore mode t (edited way more_elements t) q last
  element-more =
      one-table-more mode t way w more_elements q (at_key l.name) above [] last tt (refl, tt) (has-header mode ss values q w.keys l) under made st leads
      edit-lines edit-blocks

-- ---- the law

past-end : (ns : List Node) → slice_get ns (length ns) ≡ None
past-end [] = refl
past-end (n ∷ ns) = past-end ns

put-last : (ns : List Node) (n : Node) → inserted_at (length ns) n ns ≡ ns ++ (n ∷ [])
put-last [] n = refl
put-last (m ∷ ns) n = ap (λ (zs : List Node). m ∷ zs) (put-last ns n)

at-the-end : (ns : List Node) (zs : Slots) → with_element (length ns) (table new_table zs) ns ≡ ns ++ (table new_table zs ∷ [])
at-the-end ns zs =
    ap (λ o. inserted_at (length ns) (with_position (option_and_then position_of o) (table new_table zs)) ns) (past-end ns)
    ∙ put-last ns (table new_table zs)

inside-is : (path : List Text) (k : Text) (n : Node) → item_inside (path ++ one k) n ≡ item_below (path ++ one k) n
inside-is [] k n = refl
inside-is (j ∷ path) k n = refl

ok-new : (e : Extent) (ns : List Node) (m : Node) → ◌≡◌ {A = Result Node EditFault} (Ok (tables e (items_from ns))) (Ok m) → m ≡ tables e (items_from ns)
ok-new e ns m h = cc

pub element-adds : (mode : Mode) → ElementAddsTable mode
element-adds mode t u path w k l e xs f ss made steady named there values h =
    let v : Node = inline f ss in
    let x = was-changed (inserted None v) (path ++ one k) t u _ h in
    let leads = named.leads in
    let ns : List Node = item_list xs in
    let zs : Slots = own_slots mode ss values in
    let g : List (Slot Node) → List (Slot Node) = more_elements mode t named.way w k l e xs ss made (steady-parts mode t steady) leads there values in
    let m : Node = tables e (items_from (ns ++ (table new_table zs ∷ []))) in
    let found : item_below (path ++ one k) (root_item t) ≡ Some (tables e xs) =
    joins path k (root_item t) (table w.fields w.slots) (tables e xs) (item-along named.way path (root_visit t) w named.goes leads) (ap present there) in
    let old : x.old ≡ tables e xs = sym (some-is (tables e xs) x.old (sym found ∙ sym (inside-is path k (root_item t)) ∙ x.there)) in
    let goes : inserted None v (tables e xs) ≡ Ok x.new = ap (inserted None v) (sym old) ∙ x.goes in
    let new : x.new ≡ m =
    ok-new e (with_element (length ns) (table new_table zs) ns) x.new goes ∙ ap (λ ys. tables e (items_from ys)) (at-the-end ns zs) in
    let here : replaced_below (k ∷ []) m (table w.fields w.slots) ≡ done (table w.fields (slots_under g w.slots)) =
    ap (λ o. mapped (λ ys. table w.fields (slots_from ys)) (change_slot false (new_key k) (replaced_below [] m) (slot_list w.slots) o)) there
    ∙ ap (λ ys. done (table w.fields (slots_from ys)))
    (changed-same k (with_item m) (on_item (on_items (λ ys. ys ++ (table new_table zs ∷ [])))) w.slots (keyed l (tables e xs))
    (leads-made named.way (root_visit t) w made leads) there refl) in
    let along = goes-along new_key false (λ q. replaced_below q m) (k ∷ []) (λ j q y. refl) g named.way path (root_visit t) w made
    (made-goes named.way path named.goes) leads here in
    let is : u ≡ edited named.way g t =
    done-is u (edited named.way g t) (sym (ap (λ n. replaced_at (path ++ one k) n t) (sym new) ∙ x.put) ∙ ap (mapped (with_slots t)) along) in
    subst (λ (y : Tree). OneTableMore mode t y (to_element (to_key w.path l.name) (element_count ns)) (element_visit (to_element (to_key w.path l.name) (element_count ns)) (w.keys ++ one l) ss))
    (sym is) (element-more mode t named.way w k l e xs ss made (steady-parts mode t steady) leads there values)
