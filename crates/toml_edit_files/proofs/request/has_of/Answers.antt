-- The operands are a file, a path and perhaps a kind.
use Rattle.std.proofs.Common.{Bor, [], ap, arith, length, map, refl, sym, ◌<◌, ◌∙◌, ◌∷◌, ◌≡◌, ◌≤◌}
use Rattle.std.proofs.lemmas.List.{length-map}
use Rattle.std.proofs.lemmas.Result.{IfErr-weaker}
use Rattle.toml_edit_model.specs.Text.{Text}
use Rattle.toml_edit_words.specs.Spelled.{IsNoPath}
use Rattle.toml_edit_files.specs.Requests.{IsNoneBy}
use Rattle.toml_edit_files.specs.Split.{split_of}
use Rattle.toml_edit_files.specs.Stops.{IsMistaken, reason_of}
use Rattle.toml_edit_files.specs.declared.help.Topic.TheVariants as topics
use Rattle.toml_edit_files.proofs.OperandLaws.{has-no-kind, has-others, has-wrong, three-words, two-words, word_at}
use Rattle.toml_edit_files.proofs.SplitLaws.{by-mistake, mistaken-for}
use Rattle.toml_edit_files.proofs.request.has_of.Goals as goal
use Rattle.toml_edit_files.proofs.request.has_of.Goals.{in_default-via-then-as_slice-lt2, in_default-via-else-as_slice-lt2+else-this-lt3+else-this-lt4}

pub returns-in-len2-clause-says : goal.returns-in-len2-clause-says
returns-in-len2-clause-says c v =
    let ops = c.as_slice.result.now in let f = λ (w : Bor Text). w.now in
    c.has_at.ensures.says v (split_of c.args.words.now) []
    (ap (map f) (sym c.as_slice.ensures.value)
    ∙ two-words ops c.in-len2.len_at_least c.in-len2.len_below)
    refl

pub returns-in-len2-clause-stops : goal.returns-in-len2-clause-stops
returns-in-len2-clause-stops c v =
    let ops = c.as_slice.result.now in let f = λ (w : Bor Text). w.now in let s = split_of c.args.words.now in
    IfErr-weaker c.has_at.result (λ stop. IsMistaken (IsNoPath (word_at ops 1)) (reason_of stop))
    (λ stop. IsMistaken (IsNoneBy v topics.Has s) (reason_of stop))
    (λ stop h. mistaken-for (IsNoPath (word_at ops 1)) (IsNoneBy v topics.Has s) (reason_of stop)
    (has-wrong v s (word_at ops 0) (word_at ops 1) []
    (ap (map f) (sym c.as_slice.ensures.value)
    ∙ two-words ops c.in-len2.len_at_least c.in-len2.len_below)) h)
    c.has_at.ensures.stops

pub returns-in-Some-clause-says : goal.returns-in-Some-clause-says
returns-in-Some-clause-says c v =
    let ops = c.as_slice.result.now in let f = λ (w : Bor Text). w.now in
    c.has_at-in-Some.ensures.says v (split_of c.args.words.now) (word_at ops 2 ∷ [])
    (ap (map f) (sym c.as_slice.ensures.value)
    ∙ three-words ops c.in-len3.len_at_least c.in-len3.len_below)
    (refl, c.in-Some.ensures)

pub returns-in-Some-clause-stops : goal.returns-in-Some-clause-stops
returns-in-Some-clause-stops c v =
    let ops = c.as_slice.result.now in let f = λ (w : Bor Text). w.now in let s = split_of c.args.words.now in
    IfErr-weaker c.has_at-in-Some.result (λ stop. IsMistaken (IsNoPath (word_at ops 1)) (reason_of stop))
    (λ stop. IsMistaken (IsNoneBy v topics.Has s) (reason_of stop))
    (λ stop h. mistaken-for (IsNoPath (word_at ops 1)) (IsNoneBy v topics.Has s) (reason_of stop)
    (has-wrong v s (word_at ops 0) (word_at ops 1) (word_at ops 2 ∷ [])
    (ap (map f) (sym c.as_slice.ensures.value)
    ∙ three-words ops c.in-len3.len_at_least c.in-len3.len_below)) h)
    c.has_at-in-Some.ensures.stops

pub returns-in-None-clause-stops : goal.returns-in-None-clause-stops
returns-in-None-clause-stops c v =
    let ops = c.as_slice.result.now in let f = λ (w : Bor Text). w.now in let s = split_of c.args.words.now in
    by-mistake (IsNoneBy v topics.Has s) (reason_of c.wrong_words.result)
    (has-no-kind v s (word_at ops 0) (word_at ops 1) (word_at ops 2)
    (ap (map f) (sym c.as_slice.ensures.value)
    ∙ three-words ops c.in-len3.len_at_least c.in-len3.len_below)
    (sym c.in-None.ensures))
    c.wrong_words.ensures

pub returns-in_default-clause-stops : goal.returns-in_default-clause-stops
returns-in_default-clause-stops c v =
    let ops = c.as_slice.result.now in let f = λ (w : Bor Text). w.now in let s = split_of c.args.words.now in
    let all : length s.operands ≡ length ops = ap (λ xs. length (map f xs)) (sym c.as_slice.ensures.value) ∙ length-map ops f in
    by-mistake (IsNoneBy v topics.Has s) (reason_of c.wrong_words-in_default.result)
    (elim c.in_default.branch [
      | in_default-via-then-as_slice-lt2 w ↦
          let few : length ops < 2 = grind (arith, w.if-as_slice-lt2-1.true) in
          has-others v s (λ two. absurd (omega (arith, few, all, two))) (λ three. absurd (omega (arith, few, all, three)))
      | in_default-via-else-as_slice-lt2+else-this-lt3+else-this-lt4 w ↦
          let many : 4 ≤ length ops = grind (arith, w.if-this-lt4-1.false) in
          has-others v s (λ two. absurd (omega (arith, many, all, two))) (λ three. absurd (omega (arith, many, all, three)))
    ])
    c.wrong_words-in_default.ensures
