-- The places lend the lines that are compared.
use Rattle.std.proofs.Common.{◌≡◌, ◌∙◌, ap, sym, refl, length}
use Rattle.std.specs.Prelude.{Some, slice_get}
use Rattle.std.specs.Option.{option_map}
use Rattle.std.specs.Slice.{IsItemAt}
use Rattle.std.proofs.lemmas.Option.{slice_get-map, slice_get_read}
use Rattle.std.proofs.lemmas.Slice.Eq.{bytes_eq-Decides}
use Rattle.line_diff.specs.Diff.{Text}
use Rattle.line_diff.proofs.script.are_equal.Goals as goal

pub returns-in-Some-Some-clause-same : goal.returns-in-Some-Some-clause-same
returns-in-Some-Some-clause-same c = λ equal.
    let olds = c.args.olds.now in
    let news = c.args.news.now in
    let line = c.in-Some-Some.line.now in
    let other = c.in-Some-Some.other.now in
    let same : line.now ≡ other.now = (bytes_eq-Decides line.now other.now).0 (sym c.eq.ensures ∙ equal) in
    let first : IsItemAt olds c.args.old (Some c.in-Some-Some.line) = c.in-Some-Some.ensures.lookup in
    let second : IsItemAt news c.args.new (Some c.in-Some-Some.other) = c.in-Some-Some.ensures'.lookup in
    let old = slice_get_read olds (length olds) c.args.old line refl first.3.0 first.1 in
    let new = slice_get_read news (length news) c.args.new other refl second.3.0 second.1 in
    slice_get-map (λ l. l.now) olds c.args.old ∙ (ap (option_map (λ l. l.now)) old
    ∙ (ap (λ (text : Text). Some text) same ∙ (sym (ap (option_map (λ l. l.now)) new) ∙ sym (slice_get-map (λ l. l.now) news c.args.new))))
