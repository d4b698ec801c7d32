-- The text is not read, or its document is not formatted.
use Rattle.std.proofs.Common.{◌≡◌, ◌∙◌, List, Ok, false, inl, inr, string_bytes, subst, sym, true}
use Rattle.std.proofs.lemmas.Result.{IfErr-weaker}
use Rattle.std.specs.Prelude.{◌⊎◌, IsTrue}
use Rattle.toml_edit.specs.DocumentView.{open_owned, tree_owned}
use Rattle.toml_edit_edits.specs.declared.edit.Edit.{Edit}
use Rattle.toml_edit_fmt.specs.RulesView.{rules_of}
use Rattle.toml_edit_fmt.specs.TextView as fmt
use Rattle.toml_edit_fmt_laws.specs.Rules.{Rules}
use Rattle.toml_edit_files.specs.Edited.{IsAccepted, IsNotRead, IsWritten, version_by}
use Rattle.toml_edit_files.specs.FormatFiles.{IsFormatted, IsNotFormatted, IsNotLaid, IsNotSorted, is_laid_as_it_is, sorted_by}
use Rattle.toml_edit_files.specs.Stops.{reason_of}
use Rattle.toml_edit_model.specs.Version.{v1_0}
use Rattle.file_replace.specs.Events.{Text}
use Rattle.toml_edit_files.proofs.FormatLaws.{both_ok, formats, formats-none, formats-unlaid, formats_it, formats_it-none, unsorted_none}
use Rattle.toml_edit_files.proofs.StopLaws.{passed}
use Rattle.toml_edit_files.proofs.fmt.formatted.Goals as goal

pub returns-in_err-document-clause-stops : goal.returns-in_err-document-clause-stops
returns-in_err-document-clause-stops c =
    let v = version_by c.args.reading in let t = c.args.text.now in
    passed c.from_residual.result c.in_err-document.field-0.0
    (λ s. IsNotRead v c.args.file.now t s ⊎ IsNotFormatted c.args.reading c.args.style.now t (reason_of s)) c.from_residual.ensures.1
    (inl c.in_err-document.ensures.stops)

pub returns-then-is_laid_as_it_is-clause-formatted : goal.returns-then-is_laid_as_it_is-clause-formatted
returns-then-is_laid_as_it_is-clause-formatted c =
    let reading = c.args.reading in let style = c.args.style.now in let t = c.args.text.now in
    let d = c.in_ok-document.document in
    let way : is_laid_as_it_is reading style ≡ true = sym c.is_laid_as_it_is.ensures ∙ c.if-is_laid_as_it_is.true in
    both_ok c.laid_out.result (λ s. fmt.IsFormatted (rules_of c.rules_by-rules.result) t (string_bytes s))
    (λ s. IsTrue reading.strict → IsAccepted v1_0 (string_bytes s)) (λ s. IsFormatted reading style t (string_bytes s))
    (λ s laid version.
    formats_it reading style t (tree_owned d) (open_owned d) c.in_ok-document.ensures.read way (string_bytes s)
    (subst (λ (r : Rules). fmt.IsFormatted r t (string_bytes s)) c.rules_by-rules.ensures laid) version)
    c.laid_out.ensures.laid c.laid_out.ensures.version

pub returns-then-is_laid_as_it_is-clause-stops : goal.returns-then-is_laid_as_it_is-clause-stops
returns-then-is_laid_as_it_is-clause-stops c =
    let reading = c.args.reading in let style = c.args.style.now in let t = c.args.text.now in
    let d = c.in_ok-document.document in
    let way : is_laid_as_it_is reading style ≡ true = sym c.is_laid_as_it_is.ensures ∙ c.if-is_laid_as_it_is.true in
    IfErr-weaker c.laid_out.result (λ s. IsNotLaid reading (rules_of c.rules_by-rules.result) t (reason_of s))
    (λ s. IsNotRead (version_by reading) c.args.file.now t s ⊎ IsNotFormatted reading style t (reason_of s))
    (λ s none.
    inr (formats_it-none reading style t (tree_owned d) (open_owned d) c.in_ok-document.ensures.read way (reason_of s)
    (subst (λ (r : Rules). IsNotLaid reading r t (reason_of s)) c.rules_by-rules.ensures none)))
    c.laid_out.ensures.stops

pub returns-in_err-sort_all-clause-stops : goal.returns-in_err-sort_all-clause-stops
returns-in_err-sort_all-clause-stops c =
    let reading = c.args.reading in let style = c.args.style.now in let t = c.args.text.now in
    let d = c.in_ok-document.document in let stop = c.in_err-sort_all.field-0.0 in
    let way : is_laid_as_it_is reading style ≡ false = sym c.is_laid_as_it_is.ensures ∙ c.if-is_laid_as_it_is.false in
    passed c.from_residual-in_err-sort_all.result stop
    (λ s. IsNotRead (version_by reading) c.args.file.now t s ⊎ IsNotFormatted reading style t (reason_of s)) c.from_residual-in_err-sort_all.ensures.1
    (inr (unsorted_none reading style t (tree_owned d) (open_owned d) (reason_of stop) c.in_ok-document.ensures.read way
    (subst (λ (es : List Edit). IsNotSorted (sorted_by es (tree_owned d)) (reason_of stop)) c.as_slice.ensures.value c.in_err-sort_all.ensures.stops)))

pub returns-in_err-sorted-clause-stops : goal.returns-in_err-sorted-clause-stops
returns-in_err-sorted-clause-stops c =
    let reading = c.args.reading in let style = c.args.style.now in let t = c.args.text.now in
    let d = c.in_ok-document.document in let stop = c.in_err-sorted.field-0.0 in let e = c.sort_all.new.document in
    let way : is_laid_as_it_is reading style ≡ false = sym c.is_laid_as_it_is.ensures ∙ c.if-is_laid_as_it_is.false in
    passed c.from_residual-in_err-sorted.result stop
    (λ s. IsNotRead (version_by reading) c.args.file.now t s ⊎ IsNotFormatted reading style t (reason_of s)) c.from_residual-in_err-sorted.ensures.1
    (inr (formats-none reading style t (tree_owned d) (open_owned d) c.in_ok-document.ensures.read e way
    (subst (λ (es : List Edit). sorted_by es (tree_owned d) ≡ Ok (tree_owned e)) c.as_slice.ensures.value c.in_ok-sort_all.ensures.sorted)
    (c.sort_all.ensures.printed.0 ∙ c.in_ok-document.ensures.mode) c.sort_all.ensures.printed.1 (reason_of stop) c.in_err-sorted.ensures.stops))

pub returns-clause-formatted : goal.returns-clause-formatted
returns-clause-formatted c =
    let reading = c.args.reading in let style = c.args.style.now in let t = c.args.text.now in
    let d = c.in_ok-document.document in let e = c.sort_all.new.document in let sorted = c.as_str.result.now in
    let way : is_laid_as_it_is reading style ≡ false = sym c.is_laid_as_it_is.ensures ∙ c.if-is_laid_as_it_is.false in
    let written : IsWritten reading t e sorted = subst (λ (s : Text). IsWritten reading t e s) (sym c.as_str.ensures.value) c.in_ok-sorted.ensures.text in
    both_ok c.laid_out-2.result (λ s. fmt.IsFormatted (rules_of c.rules_by-rules.result) sorted (string_bytes s))
    (λ s. IsTrue reading.strict → IsAccepted v1_0 (string_bytes s)) (λ s. IsFormatted reading style t (string_bytes s))
    (λ s laid version.
    formats reading style t (tree_owned d) (open_owned d) c.in_ok-document.ensures.read e way
    (subst (λ (es : List Edit). sorted_by es (tree_owned d) ≡ Ok (tree_owned e)) c.as_slice.ensures.value c.in_ok-sort_all.ensures.sorted)
    (c.sort_all.ensures.printed.0 ∙ c.in_ok-document.ensures.mode) c.sort_all.ensures.printed.1 sorted (string_bytes s) written
    (subst (λ (r : Rules). fmt.IsFormatted r sorted (string_bytes s)) c.rules_by-rules.ensures laid) version)
    c.laid_out-2.ensures.laid c.laid_out-2.ensures.version

pub returns-clause-stops : goal.returns-clause-stops
returns-clause-stops c =
    let reading = c.args.reading in let style = c.args.style.now in let t = c.args.text.now in
    let d = c.in_ok-document.document in let e = c.sort_all.new.document in let sorted = c.as_str.result.now in
    let way : is_laid_as_it_is reading style ≡ false = sym c.is_laid_as_it_is.ensures ∙ c.if-is_laid_as_it_is.false in
    let written : IsWritten reading t e sorted = subst (λ (s : Text). IsWritten reading t e s) (sym c.as_str.ensures.value) c.in_ok-sorted.ensures.text in
    IfErr-weaker c.laid_out-2.result (λ s. IsNotLaid reading (rules_of c.rules_by-rules.result) sorted (reason_of s))
    (λ s. IsNotRead (version_by reading) c.args.file.now t s ⊎ IsNotFormatted reading style t (reason_of s))
    (λ s none.
    inr (formats-unlaid reading style t (tree_owned d) (open_owned d) c.in_ok-document.ensures.read e way
    (subst (λ (es : List Edit). sorted_by es (tree_owned d) ≡ Ok (tree_owned e)) c.as_slice.ensures.value c.in_ok-sort_all.ensures.sorted)
    (c.sort_all.ensures.printed.0 ∙ c.in_ok-document.ensures.mode) c.sort_all.ensures.printed.1 sorted written (reason_of s)
    (subst (λ (r : Rules). IsNotLaid reading r sorted (reason_of s)) c.rules_by-rules.ensures none)))
    c.laid_out-2.ensures.stops
