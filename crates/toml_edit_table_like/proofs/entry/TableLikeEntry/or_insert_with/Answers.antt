-- The item of an entry, which may be made.
use mathlib.Core.Logic.{inl, inr}
use Rattle.std.proofs.Common.{refl, ap, ◌∙◌}
use Rattle.std.specs.Option.{UnwrapsOrElse}
use Rattle.toml_edit_model.specs.Slots.{lookup}
use Rattle.toml_edit_tree.specs.View.{item_view}
use Rattle.toml_edit_table_like.specs.Entries.{entry_key, with_table, IsViewOf}
use Rattle.toml_edit_table_like.specs.Lending.{with_item_at}
use Rattle.toml_edit_table_like.proofs.EntryLaws.{lent-item}
use Rattle.toml_edit_table_like.proofs.entry.TableLikeEntry.or_insert_with.Goals as goal

pub returns-in-Ok : goal.returns-in-Ok
returns-in-Ok g c =
    let e = c.args.self.now in
    let t = c.find_or_add_with.new.self.table.now in (
      λ j. inl (
        c.item_at_mut.result.ghost_name,
        λ w. (ap (with_table (with_item_at g.T.HasSlots.entries g.T.HasSlots.with_entries c.in-Ok.at w t)) c.find_or_add_with.ensures.same
            ∙ ap (λ u. with_table u e) (c.in-Ok.ensures.rest w)) j,
      ),
      record {
        writes_back = tt;
        item = lent-item _ c.item_at_mut.result.now
            (λ x. UnwrapsOrElse (lookup (entry_key e).name (g.T.HasSlots.slots_of e.table.now)) (IsViewOf (goal.F-post g c.args.default))
            (item_view x))
            c.item_at_mut.ensures.item c.in-Ok.ensures.item;
        leaves = c.find_or_add_with.ensures.leaves;
        keeps = λ w. g.T.HasSlots.keeps _ e.table.now;
        present = λ _. refl;
        back = tt;
      },
    )

pub returns-in-Err : goal.returns-in-Err
returns-in-Err g c =
    let e = c.args.self.now in (
      λ j. inr ((c.find_or_add_with.ensures.same ∙ ap (λ u. with_table u e) c.in-Err.ensures.err) j),
      record {
        writes_back = tt;
        item = tt;
        leaves = c.find_or_add_with.ensures.leaves;
        keeps = λ w. g.T.HasSlots.keeps _ e.table.now;
        present = c.in-Err.ensures.present;
        back = c.in-Err.ensures.back;
      },
    )
