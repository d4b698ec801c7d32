use Rattle.std.proofs.Common.{◌≡◌, ◌∙◌, ◌++◌, ap, sym, false, string_bytes}
use Rattle.std.specs.Prelude.{codes, nat_eq}
use Rattle.std.specs.List.{ends_with}
use Rattle.std.proofs.lemmas.Str.Pattern.{ends_text}
use Rattle.line_diff.specs.Diff.{mark}
use Rattle.line_diff.specs.Steps.{line_of}
use Rattle.line_diff.proofs.HunkLaws.{line-unended}
use Rattle.line_diff.proofs.hunks.write_line.Goals as goal

pub returns-in_ok-push_str-3 : goal.returns-in_ok-push_str-3
returns-in_ok-push_str-3 c =
    let line = line_of c.args.step in
    let test = ends_text c.ends_with.result (codes "\n") line.1 c.ends_with.ensures.cases in
    let none : ends_with nat_eq line.1 (codes "\n") ≡ false = sym test ∙ c.if-not-ends_with.true in
    line-unended line (string_bytes c.args.out.now) (string_bytes c.push_str-then-not-ends_with.new.self) none
    (c.in_ok-push_str-3.ensures.bytes ∙ ap (λ text. text ++ codes "\n\\ No newline at end of file\n")
    (c.in_ok-push_str-2.ensures.bytes ∙ ap (λ text. text ++ line.1) (c.in_ok-push_str.ensures.bytes ∙ ap (λ text. string_bytes c.args.out.now ++ text) c.mark_of.ensures)))
