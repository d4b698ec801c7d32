-- The question is about the tree of the file.
use Rattle.std.proofs.Common.{inl, inr, string_bytes, subst}
use Rattle.std.proofs.lemmas.Result.{IfErr-weaker, IfOk-weaker}
use Rattle.toml_edit.specs.DocumentView.{tree_owned}
use Rattle.toml_edit_files.specs.Answers.{HasNoAnswer, IsAnswer}
use Rattle.toml_edit_files.specs.Checks.{IsReadAsRefused}
use Rattle.toml_edit_files.specs.Edited.{IsReadFrom, version_by}
use Rattle.toml_edit_files.specs.Runs.{AnswersQuestion, HasNone}
use Rattle.toml_edit_files.specs.Stops.{IsUnread, reason_of}
use Rattle.file_replace.specs.Events.{Text}
use Rattle.toml_edit_files.proofs.StopLaws.{passed}
use Rattle.toml_edit_files.proofs.program.ask.Goals as goal

pub returns-clause-answer : goal.returns-clause-answer
returns-clause-answer g c =
    let q = c.args.question.now in
    let x = tree_owned c.in_ok-document.document in
    let old = g.F.Folder.history c.args.folder.now in
    let new = g.F.Folder.history c.read_document.new.folder in
    let left = g.I.Input.remaining c.args.input.now in
    IfOk-weaker c.answer_of.result (λ d. IsAnswer q x d.yes (string_bytes d.output)) (λ d. AnswersQuestion old new left c.args.reading q d.yes (string_bytes d.output))
    (λ d h. (
      x,
      subst (λ (name : Text). IsReadFrom c.args.reading name old new left x) c.file.ensures c.in_ok-document.ensures.read,
      h,
    ))
    c.answer_of.ensures.answer

pub returns-in_err-document-clause-stops : goal.returns-in_err-document-clause-stops
returns-in_err-document-clause-stops g c =
    let q = c.args.question.now in
    let reading = c.args.reading in
    let old = g.F.Folder.history c.args.folder.now in
    let new = g.F.Folder.history c.read_document.new.folder in
    let left = g.I.Input.remaining c.args.input.now in
    let stop = c.in_err-document.field-0.0 in
    passed c.from_residual.result stop (HasNone old new left reading q) c.from_residual.ensures.1
    (inl (subst (λ (name : Text). IsUnread name (IsReadAsRefused (version_by reading) name old new left) stop) c.file.ensures
    c.in_err-document.ensures.stops))

pub returns-clause-stops : goal.returns-clause-stops
returns-clause-stops g c =
    let q = c.args.question.now in
    let reading = c.args.reading in
    let x = tree_owned c.in_ok-document.document in
    let old = g.F.Folder.history c.args.folder.now in
    let new = g.F.Folder.history c.read_document.new.folder in
    let left = g.I.Input.remaining c.args.input.now in
    let read = subst (λ (name : Text). IsReadFrom reading name old new left x) c.file.ensures c.in_ok-document.ensures.read in
    IfErr-weaker c.answer_of.result (λ s. HasNoAnswer q x (reason_of s)) (HasNone old new left reading q)
    (λ s none. inr (x, read, none)) c.answer_of.ensures.stops
