-- The laws of prints, at the document's tree.
use Rattle.std.proofs.lemmas.Result.{IfOk-weaker}
use Rattle.toml_edit.specs.DocumentView.{mode_owned, open_owned, tree_owned}
use Rattle.example_calls.proofs.editing.print_fitting.Goals as goal

pub returns : goal.returns
returns c =
    let d = c.args.document.now in
    IfOk-weaker c.print.result _ _
    (λ s is. (
      is,
      λ fitting. record {
        accepted = (
          (c.cut.ensures.print (mode_owned d) (open_owned d) (tree_owned d) fitting).0,
          c.agree.ensures (mode_owned d) (open_owned d) (tree_owned d) fitting,
        );
        meaning = c.reparse.ensures (mode_owned d) (open_owned d) (tree_owned d) fitting;
      },
    )) c.print.ensures
