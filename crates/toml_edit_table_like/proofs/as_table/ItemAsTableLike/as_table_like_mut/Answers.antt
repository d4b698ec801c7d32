-- The table that an item is, to be changed.
use Rattle.std.proofs.Common.{refl, sym, ◌∙◌}
use Rattle.toml_edit_table_like.specs.MutRefs.{mut_node}
use Rattle.toml_edit_table_like.proofs.InItemLaws.{whole}
use Rattle.toml_edit_table_like.proofs.as_table.ItemAsTableLike.as_table_like_mut.Goals as goal

pub returns-then-is_table_like : goal.returns-then-is_table_like
returns-then-is_table_like c = (
  (refl, λ w. refl, tt),
  record {
    other = tt;
    same_item = refl;
    table = rw (sym c.is_table_like.ensures ∙ c.if-is_table_like.true) refl;
    whole =
        λ t. whole (mut_node t);
  },
)

pub returns-else-is_table_like : goal.returns-else-is_table_like
returns-else-is_table_like c = (
  (refl, λ w. tt, refl),
  record {
    other = tt;
    same_item = tt;
    table = rw (sym c.is_table_like.ensures ∙ c.if-is_table_like.false) refl;
    whole =
        λ t. whole (mut_node t);
  },
)
