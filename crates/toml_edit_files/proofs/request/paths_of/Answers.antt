-- The next text is a path, or is none.
use Rattle.std.proofs.Common.{◌≤◌, ◌<◌, ◌+◌, ◌++◌, ◌∷◌, ◌∙◌, [], List, ap, arith, length, map, subst, sym, take, Bor}
use Rattle.std.specs.Prelude.{Any}
use Rattle.toml_edit_model.specs.Text.{Text}
use Rattle.toml_edit_model.specs.Tree.{Key}
use Rattle.toml_edit_words.specs.Spelled.{IsNoPath}
use Rattle.toml_edit_files.specs.Requests.{ArePaths}
use Rattle.toml_edit_files.specs.Stops.{IsMistaken, reason_of}
use Rattle.toml_edit_files.proofs.OperandLaws.{all-of, path-turn, path-wrong}
use Rattle.toml_edit_files.proofs.SplitLaws.{mistaken-for}
use Rattle.toml_edit_files.proofs.StopLaws.{passed}
use Rattle.toml_edit_files.proofs.request.paths_of.Goals as goal

pub texts-preserved : goal.texts-preserved
texts-preserved c =
    let ts = c.args.texts.now in let i = c.texts.text-index in let below : i < length ts = omega arith in
    path-turn ts i _ below c.texts.paths.items c.push.new.self.items c.in_ok-path_of.field-0 c.in_ok-path_of.ensures.spelled
    c.in_ok-push.ensures.items c.texts.invariant

pub returns-clause-paths : goal.returns-clause-paths
returns-clause-paths c =
    let ts = c.args.texts.now in let i = c.texts.text-index in let past : length ts ≤ i = omega arith in
    subst (λ us. ArePaths us (map (λ path. path.items) c.texts.paths.items)) (all-of (λ (t : Bor Text). t.now) ts i past) c.texts.invariant

pub returns-in_err-path_of-clause-stops : goal.returns-in_err-path_of-clause-stops
returns-in_err-path_of-clause-stops c =
    let ts = c.args.texts.now in let i = c.texts.text-index in let below : i < length ts = omega arith in
    let stop = c.in_err-path_of.field-0.0 in
    passed c.from_residual.result stop (λ s. IsMistaken (Any IsNoPath (map (λ (t : Bor Text). t.now) ts)) (reason_of s)) c.from_residual.ensures.1
    (mistaken-for _ (Any IsNoPath (map (λ (t : Bor Text). t.now) ts)) (reason_of stop) (path-wrong ts i _ below) c.in_err-path_of.ensures.stops)
