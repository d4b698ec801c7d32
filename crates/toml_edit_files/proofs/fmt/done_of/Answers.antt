-- The text is formatted, or refused.
use Rattle.std.proofs.Common.{◌≡◌, ◌∙◌, ◌++◌, true, false, [], ap, append-nil, arith, inl, inr, rules, string_bytes, subst, sym}
use Rattle.std.proofs.lemmas.Result.{IfErr-weaker}
use Rattle.std.specs.Prelude.{Option, bytes_eq, codes, if◌then◌else◌}
use Rattle.file_replace.specs.Events.{Text}
use Rattle.toml_edit_files.specs.Edited.{version_by}
use Rattle.toml_edit_files.specs.Folders.{IsTextOf, is_stream}
use Rattle.toml_edit_files.specs.FormatFiles.{IsFormatted, IsUnformatted}
use Rattle.toml_edit_files.proofs.FormatLaws.{none-formatted}
use Rattle.toml_edit_files.proofs.RunLaws.{formats_not, formats_out, stream_so}
use Rattle.toml_edit_files.proofs.StopLaws.{passed, unread_text}
use Rattle.toml_edit_files.specs.Stops.{IsFor, Reads, reason_of}
use Rattle.toml_edit_files.specs.declared.stop.Reason.TheVariants.{Failed}
use Rattle.toml_edit_files.proofs.StopLaws.{leaves_if, reads_passed}
use Rattle.toml_edit_files.proofs.fmt.done_of.Goals as goal
use Rattle.toml_edit_files.proofs.fmt.done_of.Goals.{else-not-command-via-then-not-command+else-ne, else-not-command-via-else-not-command}

pub returns-then-ne-clause-unmade : goal.returns-then-ne-clause-unmade
returns-then-ne-clause-unmade g c =
    let style = c.args.command.now.style in let file = c.args.file.now in
    let old = g.F.Folder.history c.args.folder.now in
    let new = g.F.Folder.history c.in_place.new.folder in let left = g.I.Input.remaining c.args.input.now in
    IfErr-weaker c.in_place.result (λ s. (left : Option Text) → IsUnformatted c.args.reading style file old new left s)
    (IsUnformatted c.args.reading style file old new left) (λ s h. h left) c.in_place.ensures.unmade

pub returns-in_err-before-clause-unmade : goal.returns-in_err-before-clause-unmade
returns-in_err-before-clause-unmade g c =
    let style = c.args.command.now.style in let file = c.args.file.now in
    let old = g.F.Folder.history c.args.folder.now in
    let new = g.F.Folder.history c.text_of.new.folder in let left = g.I.Input.remaining c.args.input.now in
    passed c.from_residual.result c.in_err-before.field-0.0 (IsUnformatted c.args.reading style file old new left)
    c.from_residual.ensures.1 (inl (unread_text (version_by c.args.reading) file old new left c.in_err-before.field-0.0 c.in_err-before.ensures.stops))

pub returns-in_err-text-clause-unmade : goal.returns-in_err-text-clause-unmade
returns-in_err-text-clause-unmade g c =
    let style = c.args.command.now.style in let file = c.args.file.now in
    let old = g.F.Folder.history c.args.folder.now in
    let new = g.F.Folder.history c.text_of.new.folder in let left = g.I.Input.remaining c.args.input.now in
    passed c.from_residual-in_err-text.result c.in_err-text.field-0.0 (IsUnformatted c.args.reading style file old new left)
    c.from_residual-in_err-text.ensures.1
    (none-formatted c.args.reading style file old new left c.in_err-text.field-0.0 c.as_str-before.result.now
    (inl (subst (λ (t : Text). IsTextOf file old new left t) (sym c.as_str-before.ensures.value) c.in_ok-before.ensures.text))
    c.in_err-text.ensures.stops)

pub returns-then-not-command-2-clause-done : goal.returns-then-not-command-2-clause-done
returns-then-not-command-2-clause-done g c =
    let command = c.args.command.now in
    let file = c.args.file.now in
    let text = string_bytes c.in_ok-text.text in
    let unchecked : command.check ≡ false = grind (arith, c.if-not-command-2.true) in
    let stream : is_stream file ≡ true =
    elim c.else-not-command.branch [
      | else-not-command-via-then-not-command+else-ne w ↦ stream_so file w.ne.result w.ne.ensures w.if-ne.false
      | else-not-command-via-else-not-command w ↦ absurd (grind (arith, w.if-not-command.false, c.if-not-command-2.true))
    ]
    in
    formats_out c.args.reading command file (string_bytes c.in_ok-before.before) text (g.F.Folder.history c.args.folder.now)
    (g.F.Folder.history c.text_of.new.folder) (g.I.Input.remaining c.args.input.now) c.in_ok-before.ensures.text
    (subst (λ (t : Text). IsFormatted c.args.reading command.style t text) c.as_str-before.ensures.value c.in_ok-text.ensures.formatted)
    c.new.result.yes (string_bytes c.new.result.output) unchecked stream c.new.ensures.yes (ap string_bytes c.new.ensures.output)

pub returns-clause-done : goal.returns-clause-done
returns-clause-done g c =
    let command = c.args.command.now in
    let file = c.args.file.now in
    let old = g.F.Folder.history c.args.folder.now in
    let new = g.F.Folder.history c.text_of.new.folder in
    let left = g.I.Input.remaining c.args.input.now in
    let checked : command.check ≡ true = grind (arith, c.if-not-command-2.false) in
    formats_not c.args.reading command file c.as_str-before.result.now c.as_str.result.now old new left
    (subst (λ (t : Text). IsTextOf file old new left t) (sym c.as_str-before.ensures.value) c.in_ok-before.ensures.text)
    (subst (λ (t : Text). IsFormatted c.args.reading command.style c.as_str-before.result.now t) (sym c.as_str.ensures.value) c.in_ok-text.ensures.formatted)
    c.in_ok-compared.field-0.yes (string_bytes c.in_ok-compared.field-0.output) checked c.in_ok-compared.ensures.yes c.in_ok-compared.ensures.output

pub returns-in_err-before-clause-rest : goal.returns-in_err-before-clause-rest
returns-in_err-before-clause-rest g c =
    leaves_if (IsFor Failed (reason_of c.in_err-before.field-0.0) → ⊥) (Reads c.from_residual.result) c.args.file.now _ _
    (reads_passed c.from_residual.result c.in_err-before.field-0.0 c.from_residual.ensures.1) c.in_err-before.ensures.rest

pub returns-in_err-text-clause-rest : goal.returns-in_err-text-clause-rest
returns-in_err-text-clause-rest g c =
    leaves_if (Unit {0}) (Reads c.from_residual-in_err-text.result) c.args.file.now _ _ (λ reads. tt) c.in_ok-before.ensures.rest
