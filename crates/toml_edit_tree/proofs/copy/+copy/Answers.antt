-- Each copy looks like its original.
use denote.Param.Weighed.{most}
use Rattle.std.proofs.Common.{◌≡◌, ◌<◌, ◌≤◌, ◌+◌, List, [], ◌∷◌, ◌++◌, None, Some, length, map, get_or, set, take, slice_get, arith, rules, refl, sym, ap, subst, ◌∙◌}
use Rattle.std.proofs.lemmas.List.{length_push}
use Rattle.std.proofs.lemmas.Option.{slice_get_read}
use Rattle.std.proofs.lemmas.Simd.{map-map}
use Rattle.toml_edit_slots.specs.Slots.{items_of, names, on_item, place, place_in, with_item}
use Rattle.toml_edit_slots.specs.declared.slots.Slot.{Slot}
use Rattle.toml_edit_tree.specs.View.{item_view}
use Rattle.toml_edit_tree.specs.declared.item.Item.{Item, size-Item, the_lemmas}
use Rattle.toml_edit_tree.proofs.CopyLaws.{added-there, array-empty, copied-count, filled, inline-empty, table-empty, tables-empty}
use Rattle.toml_edit_tree.proofs.DespanLaws.{deepest, slot_depth}
use Rattle.toml_edit_tree.proofs.OrderLaws.{item-at, item-changed}
use Rattle.toml_edit_tree.proofs.copy.+copy.Goals as goal

-- ---- containers

pub fill_array-fill_items-requires : goal.fill_array-fill_items-requires
fill_array-fill_items-requires t c = (search (rules, the_lemmas), array-empty c.args.array.now c.args.copy.now c.requires)

pub fill_inline-fill_slots-requires : goal.fill_inline-fill_slots-requires
fill_inline-fill_slots-requires t c = (search (rules, the_lemmas), inline-empty c.args.table.now c.args.copy.now c.requires)

pub fill_table-fill_slots-requires : goal.fill_table-fill_slots-requires
fill_table-fill_slots-requires t c = (search (rules, the_lemmas), table-empty c.args.table.now c.args.copy.now c.requires)

pub fill_tables-fill_items-requires : goal.fill_tables-fill_items-requires
fill_tables-fill_items-requires t c = (search (rules, the_lemmas), tables-empty c.args.tables.now c.args.copy.now c.requires)

-- ---- items

pub fill_items-loop-at-preserved : goal.fill_items-loop-at-preserved
fill_items-loop-at-preserved t c =
    let xs = c.args.items.now.items in
    let copies = c.loop-at.copies.items in
    let at = c.loop-at.at in
    let x = c.index-item.result.now in
    let y = c.fill_item.new.copy in
    let added = c.in_ok-push_alone.ensures in
    let within : at < length xs = omega (arith, c.loop-at-test.true, c.len-at-end.ensures) in
    let more : c.push_alone.new.copies.items ≡ copies ++ added.0 ∷ [] = added.2 in
    subst (λ (l : List Item). map item_view (set l at y) ≡ map item_view (take (at + 1) xs)) (sym more)
    (filled item_view copies xs at added.0 y x c.loop-at.invariant within (c.in_ok-fill_item.ensures ∙ ap item_view c.index-item.ensures))

-- ---- slots

-- slots that look the same have the same names
same_names : (es fs : List (Slot Item)) → map (on_item item_view) es ≡ map (on_item item_view) fs → names es ≡ names fs
same_names es fs e = sym (map-map (λ (s : Slot _). s.key.name) (on_item item_view) es) ∙ ap names e
    ∙ map-map (λ (s : Slot _). s.key.name) (on_item item_view) fs

pub fill_slots-push_slot_alone-requires : goal.fill_slots-push_slot_alone-requires
fill_slots-push_slot_alone-requires t c =
    let es = c.as_slice-entries.result.now in
    let i = c.loop-at.at in
    let s = c.index-entries-at.result in
    let there : slice_get es i ≡ Some s = slice_get_read es (length es) i s refl (omega arith) c.index-entries-at.is in
    let same : names c.loop-at.copies ≡ names (take i es) = same_names c.loop-at.copies (take i es) c.loop-at.invariant in
    let apart : place s.key.name (take i es) ≡ None =
    rw c.as_slice-entries.ensures.slots (c.as_slice-entries.ensures.apart i s (rw (← c.as_slice-entries.ensures.slots) there)) in
    ap (place_in s.key.name) same ∙ apart

pub fill_slots-fill_item-requires : goal.fill_slots-fill_item-requires
fill_slots-fill_item-requires t c =
    let first = c.args.slots.now in
    let es = c.as_slice-entries.result.now in
    let at = c.loop-at.at in
    let copies = c.loop-at.copies in
    let s = c.index-entries-at.result in
    let r = c.item_mut.result.now in
    let added = c.in_ok-push_slot_alone.ensures in
    let new : Slot Item = record { key = s.key; item = added.0 } in
    let within : at < length es = omega arith in
    let count : length copies ≡ at = copied-count (on_item item_view) copies es at c.loop-at.invariant within in
    let here : get_or first at s ≡ s = sym (c.index-entries-at.is ∙ ap (λ l. get_or l at s) c.as_slice-entries.ensures.slots) in
    let first_within : at < length first = subst (λ (l : List (Slot Item)). at < length l) c.as_slice-entries.ensures.slots within in
    let deep : size-Item s.item ≤ most slot_depth first = subst (λ (z : Slot Item). size-Item z.item ≤ most slot_depth first) here
    (deepest first at s first_within) in
    let more : c.push_slot_alone.new.copies ≡ copies ++ new ∷ [] = added.2 in
    let there : Some r ≡ slice_get (items_of (copies ++ new ∷ [])) at =
    subst (λ (l : List (Slot Item)). Some r ≡ slice_get (items_of l) at) more c.item_mut.ensures.item in
    let is_new : r ≡ added.0 =
    item-at (copies ++ new ∷ []) at new r (omega (arith, length_push copies new, count)) there ∙ ap (λ (e : Slot Item). e.item) (added-there copies new new at count) in
    (omega (arith, c.decreases, deep), ap item_view is_new ∙ added.1)

-- the slot that was added, with its item filled in
pub fill_slots-loop-at-preserved : goal.fill_slots-loop-at-preserved
fill_slots-loop-at-preserved t c =
    let es = c.as_slice-entries.result.now in
    let at = c.loop-at.at in
    let copies = c.loop-at.copies in
    let s = c.index-entries-at.result in
    let y = c.fill_item.new.copy in
    let added = c.in_ok-push_slot_alone.ensures in
    let new : Slot Item = record { key = s.key; item = added.0 } in
    let whole : Slot Item = record { key = s.key; item = y } in
    let within : at < length es = omega arith in
    let count : length copies ≡ at = copied-count (on_item item_view) copies es at c.loop-at.invariant within in
    let put : with_item at y c.push_slot_alone.new.copies ≡ set (copies ++ new ∷ []) at whole =
    ap (with_item at y) added.2 ∙ item-changed (copies ++ new ∷ []) at new y
    ∙ ap (λ (e : Slot Item). set (copies ++ new ∷ []) at (record { key = e.key; item = y })) (added-there copies new new at count) in
    let looks : on_item item_view whole ≡ on_item item_view (get_or es at s) =
    ap (λ n. record { key = s.key; item = n }) c.in_ok-fill_item.ensures ∙ ap (on_item item_view) c.index-entries-at.is in
    subst (λ (l : List (Slot Item)). map (on_item item_view) l ≡ map (on_item item_view) (take (at + 1) es)) (sym put)
    (filled (on_item item_view) copies es at new whole s c.loop-at.invariant within looks)
