-- An element of an array of tables removed: the print without its statements; later elements are counted anew, and print the same.
use Rattle.std.proofs.Common.{◌≡◌, refl, sym, ◌∙◌, ap, subst, ℕ, suc, ◌+◌, arith, true, false, List, [], ◌∷◌, ◌++◌, append_assoc, length}
use Rattle.std.proofs.Common.{Some}
use Rattle.std.specs.Prelude.{filter, map}
use Rattle.std.specs.List.{AllByRecursion}
use Rattle.std.proofs.lemmas.List.{map-append}
use Rattle.toml_edit_model.specs.Mode.{Mode}
use Rattle.toml_edit_model.specs.Text.{Text, joined}
use Rattle.toml_edit_model.specs.Syntax.{statement_text}
use Rattle.toml_edit_model.specs.Paths.{at_key, at_element, Path, to_key, to_element}
use Rattle.toml_edit_model.specs.Tree.{Key, Extent, TableFields, Node, table, tables, Items, Slots, SlotsAreWellMade, Tree}
use Rattle.toml_edit_model.specs.HeaderOrder.{Visit, visit_of, node_walk, items_walk, slots_walk}
use Rattle.toml_edit_model.specs.Print.{Line, table_lines, below, printed}
use Rattle.toml_edit_model.specs.Slots.{Slot, keyed, on_item, lookup_slot, changed}
use Rattle.toml_edit_model.specs.Lists.{slot_list, slots_from, item_list, items_from, on_items}
use Rattle.toml_edit_model.specs.ArrayCalls.{removed_at}
use Rattle.toml_edit_laws.proofs.locality.Slots.{slots_under, items_under}
use Rattle.toml_edit_laws.specs.Locality.{Turn, Leads, root_visit, edited, element_count, outside, statements, RemovedElement, framed}
use Rattle.toml_edit_laws.proofs.common.Tests.{if-false}
use Rattle.toml_edit_laws.proofs.common.PathLaws.{is_front, front-refl, front-more}
use Rattle.toml_edit_laws.proofs.locality.Blocks.{Block, block_of, blocks, blocks-append}
use Rattle.toml_edit_laws.proofs.locality.Under.{IsLineUnder, IsBlockUnder, node-under}
use Rattle.toml_edit_laws.proofs.locality.Slots.{Found, found, items_from-list, remove-item}
use Rattle.toml_edit_laws.proofs.locality.Elements.{counted, counted-more, items-append, later-out, earlier-out}
use Rattle.toml_edit_laws.proofs.locality.Splice.{LineSplice, BlockSplice, Around, around, map-widened}
use Rattle.toml_edit_laws.proofs.locality.Along.{tree_blocks}
use Rattle.toml_edit_laws.proofs.locality.Sound.{Steady, SlotsAreSound, ItemsAreSound, steady-parts, along-sound, leads-made, leads-sound}
use Rattle.toml_edit_laws.proofs.locality.Sound.{sound-slot, sound-append, sound-items, sound-items-front, sound-items-back}
use Rattle.toml_edit_laws.proofs.locality.Printing.{printed_all, printed-tree}
use Rattle.toml_edit_laws.proofs.locality.Edited.{stays-steady}
use Rattle.toml_edit_laws.proofs.locality.Texts.{edited-framed}
use Rattle.toml_edit_laws.proofs.locality.Filtering.{keeps_block, trim, outside-is, tree-trim}
use Rattle.toml_edit_laws.proofs.locality.Unnumbered.{unnumbered, same-print, same-items}
use Rattle.toml_edit_laws.proofs.locality.Removing.{left-kept, left-steady, not-at-root}
use Rattle.toml_edit_laws.proofs.common.Each.{all-append, all-map}

module _ (mode : Mode) where
  module _ (t : Tree) (way : List Turn) (v : Visit) (k : Text) (i : ℕ)
      (made : SlotsAreWellMade t.slots) (st : Steady mode t) (leads : Leads way (root_visit t) v)
      (l : Key) (e : Extent) (xs : Items) (before : List Node) (f : TableFields) (ss : Slots) (after : List Node)
      (is_there : lookup_slot k (slot_list v.slots) ≡ Some (keyed l (tables e xs)))
      (items : item_list xs ≡ before ++ (table f ss ∷ after)) (at_place : length before ≡ i) where
    abbrev g : List (Slot Node) → List (Slot Node)
    g = changed k (on_item (on_items (removed_at i)))

    abbrev u : Tree
    u = edited way g t

    abbrev r : Path
    r = to_key v.path l.name

    abbrev q : Path
    q = to_element r (element_count before)

    abbrev ks : List Key
    ks = v.keys ++ (l ∷ [])

    abbrev element : Visit
    element = visit_of q ks true f ss

    abbrev left : Items
    left = items_from (before ++ after)

    abbrev M : List Key → List Line
    M lk = []

    abbrev m : List Block
    m = block_of mode element ∷ blocks mode (slots_walk ss q ks)

    above : is_front r q ≡ true
    above = front-more r (at_element (element_count before) ∷ [])

    well : SlotsAreWellMade v.slots
    well = leads-made way (root_visit t) v made leads

    sound : SlotsAreSound v.slots
    sound = leads-sound way (root_visit t) v made st.sound leads

    fd : Found k (keyed l (tables e xs)) (slot_list v.slots)
    fd = found k v.slots (keyed l (tables e xs)) well is_there

    old-items : xs ≡ items_from (before ++ (table f ss ∷ after))
    old-items = sym (items_from-list xs) ∙ ap items_from items

    new-items : items_under (removed_at i) xs ≡ left
    new-items = ap (λ z. items_from (removed_at i z)) items ∙ ap items_from (remove-item before (table f ss) after i at_place)

    is_new : slots_under g v.slots ≡ slots_from (fd.front ++ (keyed l (tables e left) ∷ fd.back))
    is_new =
        ap slots_from (fd.change (on_item (on_items (removed_at i))))
        ∙ ap (λ z. slots_from (fd.front ++ (keyed l (tables e z) ∷ fd.back))) new-items

    inside : SlotsAreSound v.slots → ItemsAreSound (items_from (before ++ (table f ss ∷ after)))
    inside d = subst ItemsAreSound old-items (sound-slot k (keyed l (tables e xs)) v.slots fd d).2

    undotted : f.is_dotted ≡ false
    undotted = (sound-items-back before (table f ss ∷ after) (inside sound)).0.0

    beside : (bp : Path) (lk : List Key) → below bp lk ≡ v.path
        → Around mode q v bp lk (keyed l (tables e xs)) (keyed l (tables e left)) (slots_under g v.slots)
    beside bp lk at = around mode q v bp lk k (keyed l (tables e xs)) (keyed l (tables e left)) (slots_under g v.slots) at above fd is_new

    edit-lines : (bp : Path) (lk : List Key) → below bp lk ≡ v.path
        → LineSplice mode q bp (M lk) [] (table_lines mode v.slots lk) (table_lines mode (slots_under g v.slots) lk)
    edit-lines bp lk at =
        let a = beside bp lk at in
        record {
          front = a.lines_front;
          back = a.lines_back;
          first = a.old_lines;
          second = a.new_lines;
          out_front =
              a.out_lines_front;
          out_back = a.out_lines_back;
        }

    count : counted 0 before ≡ element_count before
    count = let n : counted 0 before ≡ 0 + element_count before = counted-more 0 before in omega arith

    abbrev earlier : List Block
    earlier = blocks mode (items_walk (items_from before) r ks 0)

    abbrev later : List Block
    later = blocks mode (items_walk (items_from after) r ks (suc (element_count before)))

    old-split : blocks mode (items_walk xs r ks 0) ≡ earlier ++ (m ++ later)
    old-split =
        let here : ℕ → List Visit = λ z. visit_of (to_element r z) ks true f ss ∷ slots_walk ss (to_element r z) ks in
        ap (λ z. blocks mode (items_walk z r ks 0)) old-items
        ∙ ap (blocks mode) (items-append before (table f ss ∷ after) r ks 0)
        ∙ ap (λ z. blocks mode (items_walk (items_from before) r ks 0 ++ (here z ++ items_walk (items_from after) r ks (suc z)))) count
        ∙ blocks-append mode (items_walk (items_from before) r ks 0) (here (element_count before)
        ++ items_walk (items_from after) r ks (suc (element_count before)))
        ∙ ap (λ z. earlier ++ z) (blocks-append mode (here (element_count before))
        (items_walk (items_from after) r ks (suc (element_count before))))
        ∙ ap (λ z. earlier ++ (z ++ later)) (if-false f.is_dotted (blocks mode (slots_walk ss q ks)) m undotted)

    new-split : map unnumbered (blocks mode (items_walk left r ks 0)) ≡ map unnumbered (earlier ++ later)
    new-split =
        ap (λ z. map unnumbered (blocks mode z)) (items-append before after r ks 0)
        ∙ ap (map unnumbered) (blocks-append mode (items_walk (items_from before) r ks 0)
        (items_walk (items_from after) r ks (counted 0 before)))
        ∙ map-append unnumbered earlier (blocks mode (items_walk (items_from after) r ks (counted 0 before)))
        ∙ ap (λ z. map unnumbered earlier ++ z) (same-items mode (items_from after) r r ks (counted 0 before) (suc (element_count before)))
        ∙ sym (map-append unnumbered earlier later)

    edit-blocks : BlockSplice mode q unnumbered m [] (blocks mode (slots_walk v.slots v.path v.keys))
        (blocks mode (slots_walk (slots_under g v.slots) v.path v.keys))
    edit-blocks =
        let a = beside v.path [] refl in
        record {
          front = a.front ++ earlier;
          back = later ++ a.back;
          first = a.old_blocks ∙ ap (λ z. a.front ++ (z ++ a.back)) old-split ∙ regroup a.front earlier m later a.back;
          second = ap (map unnumbered) a.new_blocks
              ∙ map-widened unnumbered a.front (blocks mode (items_walk left r ks 0)) (earlier ++ later) a.back new-split
              ∙ ap (map unnumbered) (regroup a.front earlier [] later a.back);
          out_front = all-append _ a.front earlier a.out_front
              (earlier-out mode q r (element_count before) (front-refl q) before ks 0 (omega (arith, count)));
          out_back = all-append _ later a.back (later-out mode q r (element_count before) (front-refl q) (items_from after) ks
              (suc (element_count before)) (omega arith)) a.out_back;
        }
      where
        regroup : (x a m b y : List Block) → x ++ ((a ++ (m ++ b)) ++ y) ≡ (x ++ a) ++ (m ++ (b ++ y))
        regroup x a m b y = simp append_assoc

    lines-in : (bp : Path) (lk : List Key) → below bp lk ≡ v.path → AllByRecursion (IsLineUnder q bp) (M lk)
    lines-in bp lk at = tt

    blocks-in : AllByRecursion (λ (b : Block). is_front q b.path ≡ true) m
    blocks-in =
        subst (λ z. AllByRecursion (λ (b : Block). is_front q b.path ≡ true) z)
        (if-false f.is_dotted (blocks mode (slots_walk ss q ks)) m undotted)
        (all-map (IsBlockUnder q) (λ (b : Block). is_front q b.path
        ≡ true) (blocks mode (node_walk (table f ss) q ks true)) (λ b d. d.0) (node-under mode q (table f ss) q ks true (front-refl q)))

    new-sound : SlotsAreSound u.slots
    new-sound =
        along-sound way g (root_visit t) v made st.sound leads
        (λ w d.
        let parts = sound-slot k (keyed l (tables e xs)) v.slots fd d in
        let its : ItemsAreSound left =
        sound-items before after (sound-items-front before (table f ss ∷ after) (inside d)) (sound-items-back before (table f ss
        ∷ after) (inside d)).1 in
        subst SlotsAreSound (sym is_new) (sound-append fd.front (keyed l (tables e left) ∷ fd.back) parts.0 (refl, its, parts.3)))

    element-steady : Steady mode u
    element-steady =
        left-steady mode q unnumbered v g M m (λ b d. d) (λ b d. d) (at_key l.name) above edit-lines edit-blocks lines-in blocks-in t way
        made st leads new-sound

    element-removed : statements (printed mode u) ≡ statements (outside mode q t)
    element-removed =
        ap statements (printed-tree mode u element-steady)
        ∙ sym (same-print mode (tree_blocks mode u))
        ∙ ap (λ z. statements (printed_all mode z))
        (left-kept mode q unnumbered v g M m (λ b d. d) (λ b d. d) (at_key l.name) above edit-lines edit-blocks lines-in blocks-in t way
        made st leads new-sound)
        ∙ same-print mode (map (trim mode q) (filter (keeps_block mode q) (tree_blocks mode t)))
        ∙ ap statements (tree-trim mode q t st (not-at-root mode v.path q (at_key l.name) above) ∙ sym (outside-is mode q t))

  pub removed_element : RemovedElement mode
  removed_element t way v w k i made steady leads (l, e, xs, before, f, ss, after, is_there, items, place, last) =
      let st : Steady mode t = steady-parts mode t steady in
      let q : Path = to_element (to_key v.path l.name) (element_count before) in
      let same : q ≡ w.path = ap (λ (x : Visit). x.path) last in
      let g : List (Slot Node) → List (Slot Node) = changed k (on_item (on_items (removed_at i))) in
      let list : statements (printed mode (edited way g t)) ≡ statements (outside mode w.path t) =
      element-removed t way v k i made st leads l e xs before f ss after is_there items place
      ∙ ap (λ z. statements (outside mode z t)) same in (
        list,
        edited-framed mode way g t ∙ ap (λ z. framed mode t (joined (map statement_text z))) list,
        stays-steady mode way (changed k (on_item (on_items (removed_at i)))) t
            (element-steady t way v k i made st leads l e xs before f ss after is_there items place),
      )
