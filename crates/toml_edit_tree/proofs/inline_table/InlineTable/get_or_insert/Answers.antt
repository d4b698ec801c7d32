-- The value of a key, which may be new.
use mathlib.Core.Logic.{inl}
use Rattle.std.proofs.Common.{option_map, refl, sym, ap, ◌∙◌}
use Rattle.toml_edit_tree.specs.View.{value_view}
use Rattle.toml_edit_tree.proofs.InlineFillLaws.{put-keeps}
use Rattle.toml_edit_tree.proofs.inline_table.InlineTable.get_or_insert.Goals as goal

pub returns-in-Ok : goal.returns-in-Ok
returns-in-Ok c = (
  λ j. inl (c.value_at_mut.result.ghost_name, λ w. c.in-Ok.ensures.rest w j),
  (
    sym (ap (option_map value_view) c.value_at_mut.ensures.value) ∙ c.in-Ok.ensures.value,
    (c.in-Ok.ensures.leaves, (put-keeps c.args.key.now c.args.self.now, (λ _. refl, tt))),
  ),
)
