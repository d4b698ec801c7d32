-- A tree that fits still does where an element of an array of tables is removed.
use Rattle.std.proofs.Common.{◌≡◌, refl, sym, ◌∙◌, ap, subst, ℕ, suc, ◌+◌, arith, true, false, List, [], ◌∷◌, ◌++◌, length, Some}
use Rattle.std.specs.Prelude.{not, filter, map}
use Rattle.std.specs.List.{AllByRecursion}
use Rattle.toml_edit_model.specs.Mode.{Mode}
use Rattle.toml_edit_model.specs.Text.{Text}
use Rattle.toml_edit_model.specs.Paths.{at_key, at_element, Path, to_key, to_element}
use Rattle.toml_edit_model.specs.Tree.{Key, Extent, TableFields, Node, table, tables, Items, Slots, SlotsAreWellMade, Tree}
use Rattle.toml_edit_model.specs.HeaderOrder.{Visit, visit_of, items_walk, slots_walk}
use Rattle.toml_edit_model.specs.Print.{Line, table_lines, below}
use Rattle.toml_edit_model.specs.Fits.{FitsIn, is_steady_in}
use Rattle.toml_edit_model.specs.Slots.{Slot, keyed, on_item, lookup_slot, changed}
use Rattle.toml_edit_model.specs.Lists.{slot_list, slots_from, item_list, items_from, on_items}
use Rattle.toml_edit_model.specs.ArrayCalls.{removed_at}
use Rattle.toml_edit_laws.specs.Locality.{Turn, into_element, Leads, root_visit, edited, element_count, is_at_or_below}
use Rattle.toml_edit_laws.proofs.common.Tests.{false-by, true-false}
use Rattle.toml_edit_laws.proofs.common.PathLaws.{is_front, front-refl, front-more, front-through}
use Rattle.toml_edit_laws.proofs.common.Each.{all-front, all-back, all-map, all-image, all-filter}
use Rattle.toml_edit_laws.proofs.locality.Blocks.{Block, blocks, blocks-append, is_headed, bare}
use Rattle.toml_edit_laws.proofs.locality.Under.{IsBlockUnder, IsBlockOut, node-under, all-blocks-append}
use Rattle.toml_edit_laws.proofs.locality.Elements.{counted, counted-more, items-append, later-out, earlier-out}
use Rattle.toml_edit_laws.proofs.locality.Slots.{slots_under, items_under, Found, found, items_from-list, remove-item}
use Rattle.toml_edit_laws.proofs.locality.Splice.{LineSplice, BlockSplice, Around, around}
use Rattle.toml_edit_laws.proofs.locality.Along.{Whole, tree_blocks, whole-tree}
use Rattle.toml_edit_laws.proofs.locality.Sound.{Steady, steady-parts, leads-made}
use Rattle.toml_edit_laws.proofs.locality.Printing.{with_lines}
use Rattle.toml_edit_laws.proofs.locality.Edited.{firm-visits}
use Rattle.toml_edit_laws.proofs.locality.Filtering.{filter-all}
use Rattle.toml_edit_laws.proofs.locality.Replacing.{itself}
use Rattle.toml_edit_laws.proofs.locality.RemovingElements.{removed_element}
use Rattle.toml_edit_edit_laws.proofs.fitting.Numbers.{recount, recount-out, recount-order}
use Rattle.toml_edit_edit_laws.proofs.fitting.Recounting.{anew, later-anew, earlier-anew, moved-headers, moved-suit}
use Rattle.toml_edit_edit_laws.proofs.fitting.Blocks.{BlockSuits}
use Rattle.toml_edit_edit_laws.proofs.fitting.Limits.{HasLimits, limits-filtered}
use Rattle.toml_edit_edit_laws.proofs.fitting.Whole.{headers, headers-append, kept, kept-append, none-kept, moved-fits}

module _ (mode : Mode) where
  module _ (t : Tree) (way : List Turn) (v : Visit) (k : Text) (i : ℕ)
      (made : SlotsAreWellMade t.slots) (st : Steady mode t) (leads : Leads way (root_visit t) v)
      (l : Key) (e : Extent) (xs : Items) (before : List Node) (f : TableFields) (ss : Slots) (after : List Node)
      (is_there : lookup_slot k (slot_list v.slots) ≡ Some (keyed l (tables e xs)))
      (items : item_list xs ≡ before ++ (table f ss ∷ after)) (at_place : length before ≡ i) where
    abbrev g : List (Slot Node) → List (Slot Node)
    g = changed k (on_item (on_items (removed_at i)))

    abbrev u : Tree
    u = edited way g t

    abbrev r : Path
    r = to_key v.path l.name

    abbrev n : ℕ
    n = element_count before

    abbrev q : Path
    q = to_element r n

    abbrev ks : List Key
    ks = v.keys ++ (l ∷ [])

    abbrev left : Items
    left = items_from (before ++ after)

    abbrev M : List Key → List Line
    M lk = []

    abbrev old : List Block
    old = blocks mode (items_walk xs r ks 0)

    abbrev new : List Block
    new = blocks mode (items_walk left r ks 0)

    fd : Found k (keyed l (tables e xs)) (slot_list v.slots)
    fd = found k v.slots (keyed l (tables e xs)) (leads-made way (root_visit t) v made leads) is_there

    old-items : xs ≡ items_from (before ++ (table f ss ∷ after))
    old-items = sym (items_from-list xs) ∙ ap items_from items

    new-items : items_under (removed_at i) xs ≡ left
    new-items = ap (λ z. items_from (removed_at i z)) items ∙ ap items_from (remove-item before (table f ss) after i at_place)

    is_new : slots_under g v.slots ≡ slots_from (fd.front ++ (keyed l (tables e left) ∷ fd.back))
    is_new =
        ap slots_from (fd.change (on_item (on_items (removed_at i))))
        ∙ ap (λ z. slots_from (fd.front ++ (keyed l (tables e z) ∷ fd.back))) new-items

    beside : (bp : Path) (lk : List Key) → below bp lk ≡ v.path
        → Around mode r v bp lk (keyed l (tables e xs)) (keyed l (tables e left)) (slots_under g v.slots)
    beside bp lk at =
        around mode r v bp lk k (keyed l (tables e xs)) (keyed l (tables e left)) (slots_under g v.slots) at (front-refl r) fd is_new

    edit-lines : (bp : Path) (lk : List Key) → below bp lk ≡ v.path
        → LineSplice mode r bp (M lk) (M lk) (table_lines mode v.slots lk) (table_lines mode (slots_under g v.slots) lk)
    edit-lines bp lk at =
        let a = beside bp lk at in
        record {
          front = a.lines_front;
          back = a.lines_back;
          first = a.old_lines;
          second = a.new_lines;
          out_front = a.out_lines_front;
          out_back = a.out_lines_back;
        }

    edit-blocks : BlockSplice mode r itself old new (blocks mode (slots_walk v.slots v.path v.keys))
        (blocks mode (slots_walk (slots_under g v.slots) v.path v.keys))
    edit-blocks =
        let a = beside v.path [] refl in
        record {
          front = a.front;
          back = a.back;
          first = a.old_blocks;
          second = ap (map itself) a.new_blocks;
          out_front = a.out_front;
          out_back = a.out_back;
        }

    w : Whole mode r itself v g M M old new (tree_blocks mode t) (tree_blocks mode u)
    w = whole-tree mode r itself v g M M old new (at_key l.name) (front-refl r) edit-lines edit-blocks way t made (firm-visits mode t st)
        leads

    as-before : is_headed (with_lines w.block w.lines) ≡ is_headed w.block
    as-before = ap (λ ls. is_headed (with_lines w.block ls)) (w.changes.second ∙ sym w.changes.first)

    -- ---- the elements

    abbrev earlier : List Visit
    earlier = items_walk (items_from before) r ks 0

    abbrev element : List Visit
    element = visit_of q ks true f ss ∷ slots_walk ss q ks

    abbrev later : ℕ → List Visit
    later m = items_walk (items_from after) r ks m

    count : counted 0 before ≡ n
    count = let m : counted 0 before ≡ 0 + n = counted-more 0 before in omega arith

    old-walk : items_walk xs r ks 0 ≡ earlier ++ (element ++ later (suc n))
    old-walk =
        ap (λ z. items_walk z r ks 0) old-items
        ∙ items-append before (table f ss ∷ after) r ks 0
        ∙ ap (λ z. earlier ++ ((visit_of (to_element r z) ks true f ss ∷ slots_walk ss (to_element r z) ks) ++ later (suc z))) count

    -- those before the removed one stay, and those behind it are counted anew
    new-walk : items_walk left r ks 0 ≡ map (anew r n) earlier ++ map (anew r n) (later (suc n))
    new-walk =
        items-append before after r ks 0
        ∙ ap (λ z. earlier ++ later z) count
        ∙ ap (λ z. z ++ later n) (sym (earlier-anew r n before ks 0 (omega (arith, count))))
        ∙ ap (λ z. map (anew r n) earlier ++ z) (sym (later-anew r n (items_from after) ks n (omega arith)))

    away : (p : Path) → is_front r p ≡ false → (is_front q p ≡ false) × (recount r n p ≡ p)
    away p h = (
      false-by (is_front q p) (λ d. true-false (is_front r p) (front-through r q p (front-more r (at_element n ∷ [])) d) h),
      recount-out r n p h,
    )

    kept-moved : (vs : List Visit) → AllByRecursion (IsBlockOut q) (blocks mode vs)
        → kept r q (recount r n) away (recount-order r n) (headers (blocks mode vs)) ≡ headers (blocks mode (map (anew r n) vs))
    kept-moved vs h =
        ap (map (anew r n))
        (filter-all (λ x. not (is_front q x.path)) (headers (blocks mode vs))
        (all-image bare (λ x. not (is_front q x.path) ≡ true) (filter is_headed (blocks mode vs))
        (all-filter (λ (b : Block). not (is_front q b.path) ≡ true) is_headed (blocks mode vs)
        (all-map (IsBlockOut q) (λ (b : Block). not (is_front q b.path) ≡ true) (blocks mode vs) (λ b d. ap not d.0) h))))
        ∙ sym (moved-headers mode (recount r n) vs)

    blocks-in : AllByRecursion (λ (b : Block). is_front q b.path ≡ true) (blocks mode element)
    blocks-in =
        all-map (IsBlockUnder q) (λ (b : Block). is_front q b.path ≡ true) (blocks mode element) (λ b d. d.0)
        (node-under mode q (table f ss) q ks true (front-refl q))

    split : (vs ws : List Visit) → headers (blocks mode (vs ++ ws)) ≡ headers (blocks mode vs) ++ headers (blocks mode ws)
    split vs ws = ap headers (blocks-append mode vs ws) ∙ headers-append (blocks mode vs) (blocks mode ws)

    inside : kept r q (recount r n) away (recount-order r n) (headers old) ≡ headers new
    inside =
        let keep : List Visit → List Visit = kept r q (recount r n) away (recount-order r n) in
        let joined = kept-append r q (recount r n) away (recount-order r n) in
        ap (λ z. keep (headers (blocks mode z))) old-walk
        ∙ ap keep (split earlier (element ++ later (suc n)))
        ∙ joined (headers (blocks mode earlier)) (headers (blocks mode (element ++ later (suc n))))
        ∙ ap (λ z. keep (headers (blocks mode earlier)) ++ keep z) (split element (later (suc n)))
        ∙ ap (λ z. keep (headers (blocks mode earlier)) ++ z)
        (joined (headers (blocks mode element)) (headers (blocks mode (later (suc n)))))
        ∙ ap (λ z. keep (headers (blocks mode earlier)) ++ (z ++ keep (headers (blocks mode (later (suc n))))))
        (none-kept r q (recount r n) away (recount-order r n) (blocks mode element) blocks-in)
        ∙ ap (λ z. z ++ keep (headers (blocks mode (later (suc n)))))
        (kept-moved earlier (earlier-out mode q r n (front-refl q) before ks 0 (omega (arith, count))))
        ∙ ap (λ z. headers (blocks mode (map (anew r n) earlier)) ++ z)
        (kept-moved (later (suc n)) (later-out mode q r n (front-refl q) (items_from after) ks (suc n) (omega arith)))
        ∙ sym (split (map (anew r n) earlier) (map (anew r n) (later (suc n))))
        ∙ ap (λ z. headers (blocks mode z)) (sym new-walk)

    suit : AllByRecursion (BlockSuits mode) old → AllByRecursion (BlockSuits mode) new
    suit h =
        let P = BlockSuits mode in
        let all : AllByRecursion P (blocks mode earlier ++ (blocks mode element ++ blocks mode (later (suc n)))) =
        subst (AllByRecursion P)
        (ap (blocks mode) old-walk ∙ blocks-append mode earlier (element ++ later (suc n))
        ∙ ap (λ z. blocks mode earlier ++ z) (blocks-append mode element (later (suc n)))) h in
        let rest = all-back P (blocks mode earlier) (blocks mode element ++ blocks mode (later (suc n))) all in
        subst (λ z. AllByRecursion P (blocks mode z)) (sym new-walk)
        (all-blocks-append mode P (map (anew r n) earlier) (map (anew r n) (later (suc n)))
        (moved-suit mode (recount r n) earlier (all-front P (blocks mode earlier) (blocks mode element ++ blocks mode (later (suc n))) all))
        (moved-suit mode (recount r n) (later (suc n)) (all-back P (blocks mode element) (blocks mode (later (suc n))) rest)))

    element-fits : Steady mode u → HasLimits mode u → FitsIn mode t → FitsIn mode u
    element-fits new_st limits fits =
        moved-fits r q (recount r n) away (recount-order r n) mode v g M M old new inside suit way t st new_st w as-before (λ h. h) limits
        fits

  pub removed-element-fits : (t : Tree) (way : List Turn) (v w : Visit) (k : Text) (i : ℕ) → SlotsAreWellMade t.slots
      → is_steady_in mode t ≡ true → Leads way (root_visit t) v → Leads (into_element k i ∷ []) v w → FitsIn mode t
      → FitsIn mode (edited way (changed k (on_item (on_items (removed_at i)))) t)
  removed-element-fits t way v w k i made steady leads (l, e, xs, before, f, ss, after, is_there, items, place, last) fits =
      let law = removed_element mode t way v w k i made steady leads (l, e, xs, before, f, ss, after, is_there, items, place, last) in
      let u : Tree = edited way (changed k (on_item (on_items (removed_at i)))) t in
      element-fits t way v k i made (steady-parts mode t steady) leads l e xs before f ss after is_there items place
      (steady-parts mode u law.2.2) (limits-filtered mode t u (λ p. not (is_at_or_below w.path p.path)) law.0 fits.limits) fits
