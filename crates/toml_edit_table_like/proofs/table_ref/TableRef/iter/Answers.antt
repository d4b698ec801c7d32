-- The items of a table as a list of pairs.
use Rattle.std.proofs.Common.{ap, ◌∙◌}
use Rattle.toml_edit_model.specs.Iterating.{filled_pairs}
use Rattle.toml_edit_model.specs.Lists.{slot_list}
use Rattle.toml_edit_tree.specs.View.{slots_view}
use Rattle.toml_edit_table_like.proofs.table_ref.TableRef.iter.Goals as goal

pub returns : goal.returns
returns c =
    c.from_slots.ensures ∙ ap (λ es. filled_pairs (slot_list (slots_view es))) c.as_slice.ensures.slots ∙ ap filled_pairs c.as_slots.ensures
