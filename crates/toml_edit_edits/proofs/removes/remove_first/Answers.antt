-- The keys are removed at once.
use Rattle.std.proofs.Common.{subst, sym, take}
use Rattle.toml_edit_model.specs.Keys.{names}
use Rattle.toml_edit.specs.DocumentView.{tree_owned}
use Rattle.toml_edit_edits.specs.Removes.{RemoveAll, texts}
use Rattle.toml_edit_edits.proofs.RemovesLaws.{all-at-once}
use Rattle.toml_edit_edits.proofs.removes.remove_first.Goals as goal

pub returns-in-Ok-clause-applied : goal.returns-in-Ok-clause-applied
returns-in-Ok-clause-applied c =
    let above = names c.in-Some-split_last.above.now in
    let removed = subst (λ n. RemoveAll (take n c.args.edits.now) above (texts c.names_there-names.result) (tree_owned c.args.document.now))
    (sym c.len-in-Ok.ensures.len) c.names_there-names.ensures.removed in
    all-at-once (take c.len-in-Ok.result c.args.edits.now) above (texts c.names_there-names.result) (tree_owned c.args.document.now)
    (tree_owned c.drop_keys.new.document) removed c.in-Ok.ensures.makes
