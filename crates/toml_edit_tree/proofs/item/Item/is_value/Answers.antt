use Rattle.std.proofs.Common.{◌≡◌, Option, Some, None, is_some, option_map, refl, sym, ap, ◌∙◌}
use Rattle.toml_edit_tree.specs.View.{item_view, value_view}
use Rattle.toml_edit_tree.proofs.ContainerLaws.{value_in-some}
use Rattle.toml_edit_tree.proofs.item.Item.is_value.Goals as goal

is_some-map : {X Y : Type 0} (h : X → Y) (o : Option X) → is_some (option_map h o) ≡ is_some o
is_some-map h None = refl
is_some-map h (Some x) = refl

pub returns : goal.returns
returns c =
    c.is_some.ensures ∙ sym (is_some-map (λ v. value_view v.now) c.as_value.result) ∙ ap is_some c.as_value.ensures
    ∙ value_in-some (item_view c.args.self.now)
