-- The edits are those that were chosen.
use Rattle.example_proofs.proofs.to_project.to_project.Goals as goal

pub returns-in-Ok-clause-moved : goal.returns-in-Ok-clause-moved
returns-in-Ok-clause-moved c =
    (_, (_, c.in_ok-document.ensures.accepted.reading, c.in_ok-edits.ensures), rw c.deref.ensures.value at (rw c.in-Ok.is at c.edit_text.ensures.edited))

pub returns-clause-fails : goal.returns-clause-fails
returns-clause-fails c =
    (_, (_, c.in_ok-document.ensures.accepted.reading, c.in_ok-edits.ensures), rw c.deref.ensures.value at (rw c.in-Err.is at c.edit_text.ensures.refuses))
