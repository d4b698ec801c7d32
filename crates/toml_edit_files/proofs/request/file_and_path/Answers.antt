-- The operands are a file and perhaps a path.
use Rattle.std.proofs.Common.{Bor, ap, arith, length, map, subst, sym, ◌<◌, ◌∙◌, ◌≡◌, ◌≤◌}
use Rattle.std.proofs.lemmas.List.{length-map}
use Rattle.std.proofs.lemmas.Result.{IfErr-weaker}
use Rattle.toml_edit_model.specs.Text.{Text}
use Rattle.toml_edit_model.specs.Tree.{Key}
use Rattle.std.specs.Prelude.{List}
use Rattle.toml_edit_words.specs.Spelled.{IsNoPath}
use Rattle.toml_edit_files.specs.Requests.{AreFileAndPath}
use Rattle.toml_edit_files.specs.Split.{split_of}
use Rattle.toml_edit_files.specs.Stops.{IsMistaken, reason_of}
use Rattle.toml_edit_files.proofs.OperandLaws.{file-alone, file-at, file-others, file-wrong, one-word, two-words, word_at}
use Rattle.toml_edit_files.proofs.SplitLaws.{by-mistake, mistaken-for}
use Rattle.toml_edit_files.proofs.StopLaws.{passed}
use Rattle.toml_edit_files.proofs.request.file_and_path.Goals as goal
use Rattle.toml_edit_files.proofs.request.file_and_path.Goals.{in_default-via-then-as_slice-lt1, in_default-via-else-as_slice-lt1+else-this-lt2+else-this-lt3}

pub returns-in-len1-clause-says : goal.returns-in-len1-clause-says
returns-in-len1-clause-says c =
    let ops = c.as_slice.result.now in let all = (split_of c.args.words.now).operands in
    subst (λ (path : List Key). AreFileAndPath all (word_at ops 0) path) (sym c.new.ensures.items)
    (file-alone all (word_at ops 0)
    (ap (map (λ w. w.now)) (sym c.as_slice.ensures.value) ∙ one-word ops c.in-len1.len_at_least c.in-len1.len_below))

pub returns-in_ok-path_of-in-len2-clause-says : goal.returns-in_ok-path_of-in-len2-clause-says
returns-in_ok-path_of-in-len2-clause-says c =
    let ops = c.as_slice.result.now in
    file-at (split_of c.args.words.now).operands (word_at ops 0) (word_at ops 1) c.in_ok-path_of-in-len2.field-0.items
    (ap (map (λ w. w.now)) (sym c.as_slice.ensures.value) ∙ two-words ops c.in-len2.len_at_least c.in-len2.len_below)
    c.in_ok-path_of-in-len2.ensures.spelled

pub returns-in_err-path_of-in-len2-clause-stops : goal.returns-in_err-path_of-in-len2-clause-stops
returns-in_err-path_of-in-len2-clause-stops c =
    let ops = c.as_slice.result.now in let all = (split_of c.args.words.now).operands in
    let stop = c.in_err-path_of-in-len2.field-0.0 in
    passed c.from_residual.result stop (λ s. IsMistaken ((file : Text) (path : List Key) → AreFileAndPath all file path → ⊥) (reason_of s))
    c.from_residual.ensures.1
    (mistaken-for (IsNoPath (word_at ops 1)) ((file : Text) (path : List Key) → AreFileAndPath all file path → ⊥) (reason_of stop)
    (file-wrong all (word_at ops 0) (word_at ops 1)
    (ap (map (λ w. w.now)) (sym c.as_slice.ensures.value) ∙ two-words ops c.in-len2.len_at_least c.in-len2.len_below))
    c.in_err-path_of-in-len2.ensures.stops)

pub returns-in_default-clause-stops : goal.returns-in_default-clause-stops
returns-in_default-clause-stops c =
    let ops = c.as_slice.result.now in let f = λ (w : Bor Text). w.now in let ws = (split_of c.args.words.now).operands in
    let all : length ws ≡ length ops = ap (λ xs. length (map f xs)) (sym c.as_slice.ensures.value) ∙ length-map ops f in
    by-mistake ((file : Text) (path : List Key) → AreFileAndPath ws file path → ⊥) (reason_of c.wrong_words.result)
    (elim c.in_default.branch [
      | in_default-via-then-as_slice-lt1 w ↦
          let few : length ops < 1 = grind (arith, w.if-as_slice-lt1-1.true) in
          file-others ws (λ one. absurd (omega (arith, few, all, one))) (λ two. absurd (omega (arith, few, all, two)))
      | in_default-via-else-as_slice-lt1+else-this-lt2+else-this-lt3 w ↦
          let many : 3 ≤ length ops = grind (arith, w.if-this-lt3-1.false) in
          file-others ws (λ one. absurd (omega (arith, many, all, one))) (λ two. absurd (omega (arith, many, all, two)))
    ])
    c.wrong_words.ensures
