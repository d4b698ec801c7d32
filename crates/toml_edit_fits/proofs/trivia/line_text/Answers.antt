-- The text is without the carriage return, if it has one at its end.
use Rattle.std.proofs.Common.{◌≡◌, ◌≢◌, ◌∙◌, ap, [], ◌∷◌, ◌++◌, Option, None, Some, Bor, arith}
use Rattle.std.proofs.lemmas.Str.Pattern.{strip_suffix_char}
use Rattle.std.specs.Option.{MatchOption, unwrap_or}
use Rattle.toml_edit_model.specs.Mode.{exact, line_end}
use Rattle.toml_edit_model.specs.Text.{Text, carriage_return}
use Rattle.toml_edit_fits.proofs.TriviaLaws.{end-with, end-without}
use Rattle.toml_edit_fits.proofs.trivia.line_text.Goals as goal

stripped : (t : Bor Text) (r : Option (Bor Text))
    → MatchOption r ((front : Text) → t.now ≢ front ++ (carriage_return ∷ [])) (λ x. t.now ≡ x.now ++ (carriage_return ∷ []))
    → (unwrap_or r t).now ≡ line_end exact t.now
stripped t None h = end-without t.now h
stripped t (Some x) h = end-with t.now x.now h

pub returns : goal.returns
returns c =
    let cases = strip_suffix_char carriage_return c.args.text.now c.strip_suffix.result c.strip_suffix.ensures.cases (omega arith) in
    ap (λ (x : Bor Text). x.now) c.unwrap_or.ensures ∙ stripped c.args.text c.strip_suffix.result cases
