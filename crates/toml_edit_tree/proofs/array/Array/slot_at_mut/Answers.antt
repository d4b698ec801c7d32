-- The slot at a place, to be changed.
use Rattle.std.proofs.Common.{refl, sym, ap, slice_get, arith, ◌∙◌}
use Rattle.toml_edit_model.specs.Lists.{item_list}
use Rattle.toml_edit_tree.specs.declared.array.Array.{out-Array}
use Rattle.toml_edit_tree.proofs.PlaceLaws.{slot_here, slot_past}
use Rattle.toml_edit_tree.proofs.ViewLaws.{array_items}
use Rattle.toml_edit_tree.proofs.array.Array.slot_at_mut.Goals as goal

pub returns-then-at-len : goal.returns-then-at-len
returns-then-at-len c =
    let v = (out-Array c.args.self.now).values in (
      refl,
      record {
        writes_back = tt;
        item = slot_here v.items c.args.at c.slot_in_mut.result.now c.slot_in_mut.ensures.item
            ∙ ap (λ xs. slice_get (item_list xs) c.args.at) (sym (array_items c.args.self.now));
      },
    )

pub returns-else-at-len : goal.returns-else-at-len
returns-else-at-len c =
    let v = (out-Array c.args.self.now).values in (
      refl,
      record {
        writes_back = tt;
        item = slot_past v.items c.args.at (omega (arith, c.len.ensures, c.if-at-len.false, v.ok))
            ∙ ap (λ xs. slice_get (item_list xs) c.args.at) (sym (array_items c.args.self.now));
      },
    )
