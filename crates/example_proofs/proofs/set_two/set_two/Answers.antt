-- Strings that are put fit.
use Rattle.std.proofs.Common.{◌∙◌, [], ap, refl, subst, sym}
use Rattle.toml_edit.specs.DocumentView.{tree_owned}
use Rattle.toml_edit.specs.Edited.{IsEditedText, replace_at}
use Rattle.toml_edit.specs.edits.Commands.{Answer}
use Rattle.toml_edit.specs.edits.PathEdits.{answer_and_then}
use Rattle.toml_edit.specs.model.Tree.{Tree}
use Rattle.example_proofs.specs.Values.{keys_of, string_node}
use Rattle.example_proofs.proofs.set_two.set_two.Goals as goal

pub returns-clause-set : goal.returns-clause-set
returns-clause-set c =
    let text = c.args.text.now in
    let t = tree_owned c.in_ok-document.document in
    let d = c.replace-2.new.document in
    let one = c.in_ok-replace.ensures.edits text t [] c.in_ok-document.ensures.edits in
    let two = c.in_ok-replace-2.ensures.edits text t _ one in
    let told = subst (IsEditedText text t _) (sym c.in_ok-print.ensures) (c.edited_prints.ensures text t _ d two (two.fits ((refl, (refl, refl)), ((refl, (refl, refl)), tt)))) in
    let second : Tree → Answer Tree = replace_at (keys_of c.args.second.now) (string_node c.args.two.now) in
    (t, (told, (tree_owned d, ap (λ (a : Answer Tree). answer_and_then second a) c.in_ok-replace.ensures.changes ∙ c.in_ok-replace-2.ensures.changes)))
