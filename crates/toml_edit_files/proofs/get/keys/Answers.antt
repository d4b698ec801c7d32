-- What is found at the path is listed.
use Rattle.std.proofs.Common.{Bool, List, ap, subst, sym, ◌∙◌}
use Rattle.std.specs.Prelude.{option_map, string_bytes}
use Rattle.toml_edit.specs.DocumentView.{tree_owned}
use Rattle.toml_edit_edit_laws.specs.Commands.{item_at}
use Rattle.toml_edit_files.specs.Get.{IsListed}
use Rattle.toml_edit_items.specs.Below.{path_lines, paths_at}
use Rattle.toml_edit_model.specs.Keys.{names}
use Rattle.toml_edit_model.specs.Tree.{Key}
use Rattle.toml_edit_tree.specs.View.{item_view}
use Rattle.toml_edit_files.proofs.get.keys.Goals as goal

pub returns-then-command-clause-text : goal.returns-then-command-clause-text
returns-then-command-clause-text c =
    let n = item_view c.in-Some.item.now in
    let s = string_bytes c.in_ok-path_lines.field-0 in
    let path = c.args.command.now.path.items in
    let is = c.as_slice-path.ensures.value in (
      n,
      sym (ap (λ (p : List Key). item_at (names p) (tree_owned c.args.document.now)) is) ∙ sym c.in-Some.ensures,
      subst (λ (b : Bool). IsListed b path n s) (sym c.if-command.true)
          (c.in_ok-path_lines.ensures ∙ ap (λ (p : List Key). path_lines (paths_at p n)) is),
    )

pub returns-in-Some-2-clause-text : goal.returns-in-Some-2-clause-text
returns-in-Some-2-clause-text c =
    let n = item_view c.in-Some.item.now in
    let s = string_bytes c.in-Some-2.text in
    let path = c.args.command.now.path.items in (
      n,
      sym (ap (λ (p : List Key). item_at (names p) (tree_owned c.args.document.now)) c.as_slice-path.ensures.value) ∙ sym c.in-Some.ensures,
      subst (λ (b : Bool). IsListed b path n s) (sym c.if-command.false)
          (sym c.in_ok-text.ensures ∙ ap (option_map string_bytes) c.in-Some-2.is),
    )
