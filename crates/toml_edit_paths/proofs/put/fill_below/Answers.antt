-- What is made below a placeholder.
use Rattle.std.proofs.Common.{ap, ◌∙◌, sym}
use Rattle.toml_edit_edit_laws.specs.Commands.{done}
use Rattle.toml_edit_tree.specs.View.{item_view}
use Rattle.toml_edit_paths.specs.Setting.{set_by}
use Rattle.toml_edit_paths.proofs.SetLaws.{made-is}
use Rattle.toml_edit_paths.proofs.put.fill_below.Goals as goal

pub returns : goal.returns
returns c =
    let v = item_view c.args.value.now in
    let path = c.args.path.now in
    ap (set_by c.args.headers v path) c.requires ∙ made-is c.args.headers v path
    ∙ ap done (sym (ap item_view c.swap.ensures.x_after ∙ c.in_ok-wrap_below.ensures))
