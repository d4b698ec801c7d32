-- The text of one more path is written, or there is none.
use Rattle.std.proofs.Common.{◌<◌, ◌≤◌, List, ◌++◌, length, ap, subst, sym, ◌∙◌, arith}
use Rattle.std.specs.Prelude.{Any, Option, string_bytes, Vec}
use Rattle.std.specs.Option.{option_copied}
use Rattle.std.specs.declared.alloc.Global.{Global}
use Rattle.toml_edit.specs.DocumentView.{tree_owned}
use Rattle.toml_edit_edit_laws.specs.Commands.{item_at}
use Rattle.toml_edit_files.specs.Get.{AreGot, IsGot, IsNotGot, found_at}
use Rattle.toml_edit_files.specs.Stops.{reason_of}
use Rattle.toml_edit_files.specs.declared.stop.Stop.{Stop}
use Rattle.toml_edit_files.specs.declared.stop.Stop.TheVariants.{Memory}
use Rattle.toml_edit_model.specs.Keys.{names}
use Rattle.toml_edit_model.specs.Text.{Text}
use Rattle.toml_edit_model.specs.Tree.{Key, Node}
use Rattle.toml_edit_files.proofs.GetLaws.{path_among, path_turn, paths_end}
use Rattle.toml_edit_files.proofs.StopLaws.{passed}
use Rattle.toml_edit_files.proofs.get.get.Goals as goal

pub paths-preserved : goal.paths-preserved
paths-preserved c =
    let shape = c.args.command.now.shape in
    let default = option_copied c.args.command.now.default in
    let t = tree_owned c.args.document.now in
    let paths = c.deref-path-items.result.now in
    let i = c.paths.path-index in
    let below : i < length paths = omega arith in
    let text = string_bytes c.in_ok-got.got in
    let got = subst (λ (o : Option Node). IsGot shape default o text)
    (c.get_at-found.ensures ∙ ap (λ (p : List Key). item_at (names p) t) c.as_slice-path.ensures.value) c.in_ok-got.ensures.text in
    λ rest others. subst (λ (s : Text). AreGot shape default (found_at t paths) (s ++ rest)) (sym (c.in_ok-push_str.ensures.bytes ∙ ap (λ (u : Text). string_bytes c.paths.text ++ u) c.as_str.ensures.value))
    (path_turn shape default t paths i c.path-item.result below c.path-item.is _ text _ c.paths.invariant got rest others)

pub returns-clause-text : goal.returns-clause-text
returns-clause-text c =
    let shape = c.args.command.now.shape in
    let default = option_copied c.args.command.now.default in
    let t = tree_owned c.args.document.now in
    let paths = c.deref-path-items.result.now in
    let past : length paths ≤ c.paths.path-index = omega arith in
    let s = string_bytes c.paths.text in
    subst (λ (ps : List (Vec Key Global)). AreGot shape default (found_at t ps) s) c.deref-path-items.ensures.value
    (paths_end shape default t paths c.paths.path-index past s (found_at t paths) c.paths.invariant)

pub returns-in_err-got-clause-stops : goal.returns-in_err-got-clause-stops
returns-in_err-got-clause-stops c =
    let shape = c.args.command.now.shape in
    let default = option_copied c.args.command.now.default in
    let t = tree_owned c.args.document.now in
    let paths = c.deref-path-items.result.now in
    let i = c.paths.path-index in
    let below : i < length paths = omega arith in
    let stop = c.in_err-got.field-0.0 in
    passed c.from_residual.result stop (λ s. Any (IsNotGot shape default (reason_of s)) (found_at t c.args.command.now.paths.items))
    c.from_residual.ensures.1
    (subst (λ (ps : List (Vec Key Global)). Any (IsNotGot shape default (reason_of stop)) (found_at t ps)) c.deref-path-items.ensures.value
    (path_among shape default t paths i c.path-item.result below c.path-item.is (IsNotGot shape default (reason_of stop))
    (subst (λ (o : Option Node). IsNotGot shape default (reason_of stop) o)
    (c.get_at-found.ensures ∙ ap (λ (p : List Key). item_at (names p) t) c.as_slice-path.ensures.value) c.in_err-got.ensures.stops)))

pub returns-in_err-push_str-clause-stops : goal.returns-in_err-push_str-clause-stops
returns-in_err-push_str-clause-stops c =
    let shape = c.args.command.now.shape in
    let default = option_copied c.args.command.now.default in
    let t = tree_owned c.args.document.now in
    let paths = c.deref-path-items.result.now in
    let i = c.paths.path-index in
    let below : i < length paths = omega arith in
    let stop : Stop = Memory in
    passed c.from_residual-in_err-push_str.result stop (λ s. Any (IsNotGot shape default (reason_of s)) (found_at t c.args.command.now.paths.items))
    c.from_residual-in_err-push_str.ensures.1
    (subst (λ (ps : List (Vec Key Global)). Any (IsNotGot shape default (reason_of stop)) (found_at t ps)) c.deref-path-items.ensures.value
    (path_among shape default t paths i c.path-item.result below c.path-item.is (IsNotGot shape default (reason_of stop))
    tt))
