-- The next word says how files are read, or is the first one of the command.
use Rattle.std.proofs.Common.{◌≡◌, ◌∙◌, ◌-◌, ◌∷◌, List, ap, drop, length, map, string_bytes, sym, take}
use Rattle.toml_edit_model.specs.Text.{Text}
use Rattle.toml_edit_files.specs.Requests.{marked, reading_in}
use Rattle.toml_edit_files.proofs.OperandLaws.{first-of, no-of}
use Rattle.toml_edit_files.proofs.RequestLaws.{reads-command, reads-on}
use Rattle.toml_edit_files.proofs.request.reading_of.Goals as goal

pub words-preserved : goal.words-preserved
words-preserved c =
    let r = c.words.reading in let rest = c.words.rest.now in
    let more = map string_bytes (take (length rest - 1) (drop 1 rest)) in
    let first : map string_bytes rest ≡ c.as_str.result.now ∷ more =
    first-of string_bytes rest c.first-item.result c.in-len1-up.len_at_least c.first-item.is ∙ ap (λ t. t ∷ more) (sym c.as_str.ensures.value) in
    c.words.invariant ∙ ap (reading_in r) first ∙ reads-on r c.as_str.result.now more c.in-Some.next (sym c.marked.ensures ∙ c.in-Some.is)

pub returns-in-None : goal.returns-in-None
returns-in-None c =
    let r = c.words.reading in let rest = c.words.rest.now in
    let more = map string_bytes (take (length rest - 1) (drop 1 rest)) in
    let first : map string_bytes rest ≡ c.as_str.result.now ∷ more =
    first-of string_bytes rest c.first-item.result c.in-len1-up.len_at_least c.first-item.is ∙ ap (λ t. t ∷ more) (sym c.as_str.ensures.value) in
    sym (
    c.words.invariant ∙ ap (reading_in r) first ∙ reads-command r c.as_str.result.now more (sym c.marked.ensures ∙ c.in-None.is)
    ∙ ap (λ (l : List Text). (r, l)) (sym first))

pub returns : goal.returns
returns c =
    let r = c.words.reading in let rest = c.words.rest.now in let none = no-of string_bytes rest c.in_default.len_below in
    ap (λ (l : List Text). (r, l)) none ∙ sym (c.words.invariant ∙ ap (reading_in r) none)
