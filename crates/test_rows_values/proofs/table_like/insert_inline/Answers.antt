-- An item that is no placeholder may go into an inline table.
use Rattle.std.proofs.Common.{not, sym, ap, ◌∙◌}
use Rattle.test_rows_values.proofs.LikeLaws.{is_item-not}
use Rattle.test_rows_values.proofs.table_like.insert_inline.Goals as goal

pub insert-requires : goal.insert-requires
insert-requires c = sym (is_item-not c.is_none.result _ c.is_none.ensures) ∙ ap not c.if-is_none.false
