-- What the edits leave of the tree of the text is written, or nothing is.
use Rattle.std.proofs.Common.{◌∙◌, inl, inr}
use Rattle.std.specs.Prelude.{◌⊎◌}
use Rattle.toml_edit.specs.DocumentView.{open_owned, tree_owned}
use Rattle.toml_edit_files.proofs.EditLaws.{in_form, left, locked, none_made, none_written, not_edited}
use Rattle.toml_edit_files.proofs.StopLaws.{passed}
use Rattle.toml_edit_files.specs.Edited.{IsNotEdited, IsNotRead, version_by}
use Rattle.toml_edit_files.specs.Stops.{reason_of}
use Rattle.toml_edit_files.proofs.edit.edited_text.Goals as goal

pub returns-clause-text : goal.returns-clause-text
returns-clause-text c =
    let d = c.in_ok-document.document in (
      tree_owned d,
      open_owned d,
      c.in_ok-document.ensures.read,
      left c.args.reading c.args.edits.now (tree_owned d) (open_owned d) c.args.text.now c.make.new.document c.in_ok-make.ensures.makes
          (c.make.ensures.printed.0 ∙ c.in_ok-document.ensures.mode) c.make.ensures.printed.1 _ c.in_ok-output.ensures.text,
    )

pub returns-clause-locked : goal.returns-clause-locked
returns-clause-locked c =
    λ is. in_form c.args.reading c.args.text.now c.in_ok-document.document c.in_ok-document.ensures.read c.in_ok-document.ensures.mode
    (c.in_ok-notes.ensures.locked is)

pub returns-in_err-document-clause-stops : goal.returns-in_err-document-clause-stops
returns-in_err-document-clause-stops c =
    passed c.from_residual.result c.in_err-document.field-0.0
    (λ s. IsNotRead (version_by c.args.reading) c.args.command.now.file.now c.args.text.now s
    ⊎ IsNotEdited c.args.reading c.args.command.now.locked c.args.edits.now c.args.text.now (reason_of s)) c.from_residual.ensures.1
    (inl c.in_err-document.ensures.stops)

pub returns-in_err-notes-clause-stops : goal.returns-in_err-notes-clause-stops
returns-in_err-notes-clause-stops c =
    passed c.from_residual-in_err-notes.result c.in_err-notes.field-0.0
    (λ s. IsNotRead (version_by c.args.reading) c.args.command.now.file.now c.args.text.now s
    ⊎ IsNotEdited c.args.reading c.args.command.now.locked c.args.edits.now c.args.text.now (reason_of s)) c.from_residual-in_err-notes.ensures.1
    (inr (locked c.args.reading c.args.text.now c.in_ok-document.document c.in_ok-document.ensures.read c.in_ok-document.ensures.mode
    c.args.command.now.locked _ c.args.edits.now c.in_err-notes.ensures.stops))

pub returns-in_err-make-clause-stops : goal.returns-in_err-make-clause-stops
returns-in_err-make-clause-stops c =
    let d = c.in_ok-document.document in
    passed c.from_residual-in_err-make.result c.in_err-make.field-0.0
    (λ s. IsNotRead (version_by c.args.reading) c.args.command.now.file.now c.args.text.now s
    ⊎ IsNotEdited c.args.reading c.args.command.now.locked c.args.edits.now c.args.text.now (reason_of s)) c.from_residual-in_err-make.ensures.1
    (inr (not_edited c.args.reading c.args.edits.now (tree_owned d) (open_owned d) c.args.text.now c.args.command.now.locked _
    c.in_ok-document.ensures.read
    (none_made c.args.reading c.args.edits.now (tree_owned d) (open_owned d) c.args.text.now _ c.in_err-make.ensures.stops)))

pub returns-in_err-output-clause-stops : goal.returns-in_err-output-clause-stops
returns-in_err-output-clause-stops c =
    let d = c.in_ok-document.document in
    passed c.from_residual-in_err-output.result c.in_err-output.field-0.0
    (λ s. IsNotRead (version_by c.args.reading) c.args.command.now.file.now c.args.text.now s
    ⊎ IsNotEdited c.args.reading c.args.command.now.locked c.args.edits.now c.args.text.now (reason_of s)) c.from_residual-in_err-output.ensures.1
    (inr (not_edited c.args.reading c.args.edits.now (tree_owned d) (open_owned d) c.args.text.now c.args.command.now.locked _
    c.in_ok-document.ensures.read
    (none_written c.args.reading c.args.edits.now (tree_owned d) (open_owned d) c.args.text.now c.make.new.document c.in_ok-make.ensures.makes
    (c.make.ensures.printed.0 ∙ c.in_ok-document.ensures.mode) c.make.ensures.printed.1 _ c.in_err-output.ensures.stops)))
