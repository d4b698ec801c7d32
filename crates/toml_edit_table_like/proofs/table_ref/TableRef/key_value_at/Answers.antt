-- The slot at a place.
use Rattle.std.proofs.Common.{slice_get, ap, ◌∙◌}
use Rattle.toml_edit_table_like.proofs.FoundLaws.{slot-read}
use Rattle.toml_edit_table_like.proofs.table_ref.TableRef.key_value_at.Goals as goal

pub returns : goal.returns
returns c =
    slot-read c.as_slots.result.now c.args.at c.key_value_at.result c.key_value_at.ensures
    ∙ ap (λ l. slice_get l c.args.at) c.as_slots.ensures
