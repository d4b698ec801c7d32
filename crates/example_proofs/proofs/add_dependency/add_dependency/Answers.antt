-- What is printed is of the text's tree.
use Rattle.std.proofs.Common.{◌≡◌, ◌∙◌, false, true, inr, refl, sym}
use Rattle.toml_edit.specs.DocumentView.{tree_owned}
use Rattle.example_proofs.proofs.add_dependency.add_dependency.Goals as goal

pub returns-clause-added : goal.returns-clause-added
returns-clause-added c = let t = tree_owned c.in_ok-document.document in let edited = c.in_ok-add_at.ensures.edits c.args.text.now t c.in_ok-document.ensures.edits in
    (t, c.in-Some.at, c.in-Some.ensures, c.in_ok-add_at.ensures.new, rw c.in_ok-print.ensures (c.edited_prints.ensures c.args.text.now t _ c.add_at.new.document edited (rw edited.plain.0 at (c.in_ok-fits.ensures.fits.0 c.if-not-branch.false))))

pub returns-then-not-branch-clause-fails : goal.returns-then-not-branch-clause-fails
returns-then-not-branch-clause-fails c = let edited = c.in_ok-add_at.ensures.edits c.args.text.now (tree_owned c.in_ok-document.document) c.in_ok-document.ensures.edits in
    inr (_, edited.edited.reading, inr (_, c.in-Some.ensures, inr (refl, (_, edited.edited, λ fits. absurd (let no : false ≡ true = sym c.if-not-branch.true ∙ c.in_ok-fits.ensures.fits.1 (rw edited.plain.0 fits) in cc)))))
