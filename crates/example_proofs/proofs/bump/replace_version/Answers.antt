-- The number of the package is the second name of the path.
use Rattle.std.proofs.Common.{◌∙◌, [], ◌∷◌, List, codes, subst}
use Rattle.std.specs.Prelude.{OnOk}
use Rattle.toml_edit.specs.DocumentView.{tree_owned}
use Rattle.toml_edit.specs.Edited.{EditsBy, replace_at}
use Rattle.toml_edit.specs.change.Changes.{Changes}
use Rattle.toml_edit.specs.edits.PathEdits.{sets}
use Rattle.toml_edit.specs.model.Keys.{new_key}
use Rattle.toml_edit.specs.model.Text.{Text}
use Rattle.toml_edit.specs.model.Tree.{Key}
use Rattle.example_proofs.specs.Values.{string_node}
use Rattle.example_proofs.proofs.bump.replace_version.Goals as goal

abbrev path : Text → List Key
path x = new_key (codes "package") ∷ new_key x ∷ new_key (codes "version") ∷ []

pub returns-clause-changes : goal.returns-clause-changes
returns-clause-changes c = let t = tree_owned c.args.document.now in
    subst (λ (x : Text). Changes (replace_at (path x) (string_node c.args.version.now) t) t (tree_owned c.replace.new.document) c.replace.result) (c.as_str.ensures.value ∙ c.in_ok-at.ensures.ok) c.replace.ensures.changes

pub returns-clause-edits : goal.returns-clause-edits
returns-clause-edits c =
    subst (λ (x : Text). OnOk c.replace.result (EditsBy (sets (path x) (string_node c.args.version.now)) c.args.document.now c.replace.new.document)) (c.as_str.ensures.value ∙ c.in_ok-at.ensures.ok) c.replace.ensures.edits
