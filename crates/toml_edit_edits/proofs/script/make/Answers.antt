-- A move, by the keys of its two paths.
use Rattle.std.proofs.Common.{◌∙◌, List, ap, sym, subst}
use Rattle.toml_edit_model.specs.Keys.{names}
use Rattle.toml_edit_model.specs.Tree.{Key}
use Rattle.toml_edit.specs.DocumentView.{tree_owned}
use Rattle.toml_edit_edits.specs.Lists.{effect}
use Rattle.toml_edit_edits.specs.Moves.{moved}
use Rattle.toml_edit_edits.specs.Outcomes.{Makes}
use Rattle.toml_edit_edits.proofs.script.make.Goals as goal

pub returns-in-Move-clause-makes : goal.returns-in-Move-clause-makes
returns-in-Move-clause-makes c =
    let t = tree_owned c.args.document.now in
    subst (λ m. Makes m t (tree_owned c.relocate.new.document) c.relocate.result)
    (ap (λ (p : List Key). moved (names p) (names c.as_slice-in-Move-2.result.now) t) c.as_slice-in-Move.ensures.value
    ∙ ap (λ (p : List Key). moved (names c.in-Move.path.items) (names p) t) c.as_slice-in-Move-2.ensures.value
    ∙ ap (λ e. effect e t) (sym c.in-Move.is))
    c.relocate.ensures.makes
