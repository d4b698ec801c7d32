-- The slots of a block, taken out name by name.
use Rattle.std.proofs.Common.{◌≡◌, ℕ, ◌-◌, ap, sym, ◌∙◌, refl, length, Some, get_or, set, vec_len, arith}
use Rattle.toml_edit_tree.specs.declared.item.Item.{Item}
use Rattle.toml_edit_tree.specs.View.{item_view, items_view, slots_view}
use Rattle.toml_edit_parser.specs.BlockRead.{names}
use Rattle.toml_edit_parser.proofs.SlotLaws.{node-none, node-some, with-place}
use Rattle.toml_edit_parser.proofs.ItemLaws.{last-at, last-set}
use Rattle.toml_edit_parser.proofs.SwapLaws.{name-is, swap-none, swap-there, swap-last, tables_items, tables_extent, tables-made}
use Rattle.toml_edit_parser.proofs.document.block.+swap.Goals as goal

pub swap_block-returns-in-None-place_of : goal.swap_block-returns-in-None-place_of
swap_block-returns-in-None-place_of t c =
    swap-none (names c.args.block.now) c.in-Some.first.now (names c.in-Some.rest.now) (slots_view c.args.others.now)
    (slots_view c.args.slots.now) _ _
    (name-is (names c.args.block.now) _ _ c.in-Some.ensures)
    (node-none c.in-Some.first.now c.args.slots.now (sym c.in-None-place_of.ensures.place)) refl refl

pub swap_block-returns-in-Some-place_of : goal.swap_block-returns-in-Some-place_of
swap_block-returns-in-Some-place_of t c =
    swap-there (names c.args.block.now) c.in-Some.first.now (names c.in-Some.rest.now) (slots_view c.args.others.now)
    (slots_view c.args.slots.now) _ _
    (item_view c.item_mut.result.now) (item_view c.swap_item.new.holder)
    (name-is (names c.args.block.now) _ _ c.in-Some.ensures)
    (node-some c.in-Some.first.now c.args.slots.now c.in-Some-place_of.at c.item_mut.result.now (sym c.in-Some-place_of.ensures.place)
    c.item_mut.ensures.item)
    (with-place c.in-Some.first.now c.args.slots.now c.in-Some-place_of.at c.swap_item.new.holder (sym c.in-Some-place_of.ensures.place))
    c.swap_item.ensures

pub swap_tables-returns-in-Some : goal.swap_tables-returns-in-Some
swap_tables-returns-in-Some t c =
    let v = c.args.tables.now.values in
    let y = c.swap_last.new.holder in
    let len : vec_len v ≡ length v.items = omega (arith, v.ok.0) in
    rw (tables_items c.args.tables.now, tables_extent c.args.tables.now)
    (swap-last (names c.args.block.now) (slots_view c.args.others.now) (slots_view c.swap_last.new.others) c.args.tables.now.span
    (items_view v.items) _ _
    (item_view c.in-Some.last.now) (item_view y)
    (tables-made c.args.tables.now.span _)
    (last-at v.items c.in-Some.last.now (omega (arith, c.in-Some.ensures.variant.0 refl))
    ∙ ap (λ (x : Item). Some (item_view x)) (ap (λ (i : ℕ). get_or v.items (i - 1) c.in-Some.last.now) (sym len)
    ∙ sym c.in-Some.ensures.value))
    (ap (λ (i : ℕ). items_view (set v.items (i - 1) y)) len ∙ last-set v.items y)
    c.swap_last.ensures)
