-- The operands are a file and paths.
use Rattle.std.proofs.Common.{◌∙◌, ◌-◌, ◌∷◌, [], List, ap, drop, length, map, subst, sym, take, Bor}
use Rattle.std.proofs.lemmas.Result.{IfOk-weaker}
use Rattle.std.specs.Prelude.{◌≡◌, Any}
use Rattle.toml_edit_model.specs.Text.{Text}
use Rattle.toml_edit_words.specs.Spelled.{IsNoPath}
use Rattle.toml_edit_files.specs.Requests.{IsNoneBy}
use Rattle.toml_edit_files.specs.Split.{split_of}
use Rattle.toml_edit_files.specs.Stops.{IsMistaken, reason_of}
use Rattle.toml_edit_files.specs.declared.help.Topic.TheVariants as topics
use Rattle.toml_edit_files.proofs.OperandLaws.{empty-of, first-word, get-alone, get-empty, get-wrong, no-of, some-of, word_at}
use Rattle.toml_edit_files.proofs.SplitLaws.{by-mistake, mistaken-for}
use Rattle.toml_edit_files.proofs.StopLaws.{passed}
use Rattle.toml_edit_files.proofs.request.get_of.Goals as goal

pub returns-clause-says : goal.returns-clause-says
returns-clause-says c v =
    let ops = c.as_slice.result.now in let texts = take (length ops - 1) (drop 1 ops) in
    record {
      texts = map (λ w. w.now) texts;
      operands = ap (map (λ w. w.now)) (sym c.as_slice.ensures.value)
          ∙ first-word ops c.in-len1-up.len_at_least;
      some = some-of (λ w. w.now) texts c.is_empty.result c.is_empty.ensures c.if-is_empty.false;
      paths = c.in_ok-paths.ensures.paths;
      shape = c.shape_of.ensures;
      default = c.last.ensures;
    }

pub returns-then-is_empty-clause-stops : goal.returns-then-is_empty-clause-stops
returns-then-is_empty-clause-stops c v =
    let ops = c.as_slice.result.now in let texts = take (length ops - 1) (drop 1 ops) in let f = λ (w : Bor Text). w.now in
    by-mistake (IsNoneBy v topics.Get (split_of c.args.words.now)) (reason_of c.wrong_words-then-is_empty.result)
    (get-alone v (split_of c.args.words.now) (word_at ops 0)
    (ap (map f) (sym c.as_slice.ensures.value) ∙ first-word ops c.in-len1-up.len_at_least
    ∙ ap (λ l. word_at ops 0 ∷ l) (empty-of f texts c.is_empty.result c.is_empty.ensures c.if-is_empty.true)))
    c.wrong_words-then-is_empty.ensures

pub returns-in_default-clause-stops : goal.returns-in_default-clause-stops
returns-in_default-clause-stops c v =
    let s = split_of c.args.words.now in let f = λ (w : Bor Text). w.now in
    by-mistake (IsNoneBy v topics.Get s) (reason_of c.wrong_words.result)
    (get-empty v s (ap (map f) (sym c.as_slice.ensures.value) ∙ no-of f c.as_slice.result.now c.in_default.len_below)) c.wrong_words.ensures

pub returns-in_err-paths-clause-stops : goal.returns-in_err-paths-clause-stops
returns-in_err-paths-clause-stops c v =
    let ops = c.as_slice.result.now in let texts = take (length ops - 1) (drop 1 ops) in let f = λ (w : Bor Text). w.now in
    let s = split_of c.args.words.now in let stop = c.in_err-paths.field-0.0 in
    passed c.from_residual.result stop (λ s. IsMistaken (IsNoneBy v topics.Get (split_of c.args.words.now)) (reason_of s)) c.from_residual.ensures.1
    (mistaken-for (Any IsNoPath (map f texts)) (IsNoneBy v topics.Get s) (reason_of stop)
    (get-wrong v s (word_at ops 0) (map f texts)
    (ap (map f) (sym c.as_slice.ensures.value) ∙ first-word ops c.in-len1-up.len_at_least))
    c.in_err-paths.ensures.stops)
