-- What the edits make of what was read.
use Rattle.std.proofs.Common.{inr, subst, sym}
use Rattle.std.proofs.lemmas.Result.{IfErr-weaker, IfOk-weaker}
use Rattle.toml_edit_command.specs.Written.{held}
use Rattle.toml_edit_edits.specs.Said.{SaysEdits}
use Rattle.toml_edit_model.specs.Mode.{Mode}
use Rattle.toml_edit_model.specs.Version.{Version}
use Rattle.toml_edit_parser.specs.Options.{mode_of, version_of}
use Rattle.toml_edit_c.specs.Scripts.{IsEdited, IsEditedBy, StopsEditBy, StopsEditing}
use Rattle.toml_edit_c.specs.Split.{words_in}
use Rattle.toml_edit_c.proofs.calls.edit.Goals as goal

pub returns-clause-made : goal.returns-clause-made
returns-clause-made c =
    let how : Mode × Version = (mode_of c.in_ok-options.options, version_of c.in_ok-options.options) in
    let es = c.as_slice.result.now in let h = held c.in_ok-document.document in
    let said = subst (SaysEdits how.1 (words_in c.args.script.now)) (sym c.as_slice.ensures.value) c.in_ok-edits.ensures.said in
    IfOk-weaker c.edited.result (λ s. IsEdited es h s.items) (λ s. IsEditedBy c.args.flags c.args.text.now c.args.script.now s.items)
    (λ s made. (how, c.in_ok-options.ensures.valid, (es, said, (h, c.in_ok-document.ensures.read, made)))) c.edited.ensures.made

pub returns-clause-stops : goal.returns-clause-stops
returns-clause-stops c =
    let how : Mode × Version = (mode_of c.in_ok-options.options, version_of c.in_ok-options.options) in
    let es = c.as_slice.result.now in let h = held c.in_ok-document.document in
    let said = subst (SaysEdits how.1 (words_in c.args.script.now)) (sym c.as_slice.ensures.value) c.in_ok-edits.ensures.said in
    IfErr-weaker c.edited.result (StopsEditing es h) (StopsEditBy c.args.flags c.args.text.now c.args.script.now)
    (λ stop why. inr (how, c.in_ok-options.ensures.valid, inr (inr (es, said, (h, c.in_ok-document.ensures.read, why))))) c.edited.ensures.stops
