use Rattle.std.proofs.Common.{ap, eq-eqb, length, rules, sym, ◌∙◌}
use Rattle.toml_edit_tree.specs.Elements.{items_of}
use Rattle.toml_edit_tree.proofs.ElementLaws.{none-there}
use Rattle.toml_edit_tree.proofs.array.Array.is_empty.Goals as goal

pub returns : goal.returns
returns c = (
  λ h. none-there (items_of c.args.self.now) (sym c.len.ensures ∙ search rules),
  λ e. eq-eqb c.len.result 0 (c.len.ensures ∙ ap length e),
)
