-- PATH or VALUE stops it.
use Rattle.std.proofs.Common.{◌≡◌, List, map, Some, String, Global, string_bytes, subst, inl, inr}
use Rattle.std.proofs.lemmas.Result.{err_from_is_err_and}
use Rattle.toml_edit_command.specs.Forms.{IsForm, request_by}
use Rattle.toml_edit_command.specs.declared.words.CommandForm.{CommandForm}
use Rattle.toml_edit_command.proofs.Reading.{path-stops, value-stops}
use Rattle.toml_edit_command.proofs.words.Command.read_by.Goals as goal
use Rattle.toml_edit_model.specs.Keys.{names}

-- the form by its parts
is-form : (ws : List (String Global)) (f h : CommandForm) → f ≡ h → IsForm (map string_bytes ws) (Some f)
    → IsForm (map string_bytes ws) (Some h)
is-form ws f h same is = subst (λ x. IsForm (map string_bytes ws) (Some x)) same is

pub returns-in_err-path_of-in-Some-Get-clause-stops : goal.returns-in_err-path_of-in-Some-Get-clause-stops
returns-in_err-path_of-in-Some-Get-clause-stops c =
    let q = err_from_is_err_and c.from_residual.result c.from_residual.ensures.1 in
    rw (q.1, q.2)
    (path-stops (request_by c.args.options c.args.words.now) c.in-Some-Get.path.now c.in_err-path_of-in-Some-Get.field-0.0
    (inl (is-form c.args.words.now c.in-Some-Get.field-0 _ c.in-Some-Get.field-0-is c.in-Some-Get.ensures))
    c.in_err-path_of-in-Some-Get.ensures.stops)

pub returns-in_err-path-in-Some-Set-clause-stops : goal.returns-in_err-path-in-Some-Set-clause-stops
returns-in_err-path-in-Some-Set-clause-stops c =
    let q = err_from_is_err_and c.from_residual-in_err-path-in-Some-Set.result c.from_residual-in_err-path-in-Some-Set.ensures.1 in
    rw (q.1, q.2)
    (path-stops (request_by c.args.options c.args.words.now) c.in-Some-Set.path.now c.in_err-path-in-Some-Set.field-0.0
    (inr (inl (c.in-Some-Set.value.now, (is-form c.args.words.now c.in-Some-Set.field-0 _ c.in-Some-Set.field-0-is c.in-Some-Set.ensures))))
    c.in_err-path-in-Some-Set.ensures.stops)

pub returns-in_err-value_of-in-Some-Set-clause-stops : goal.returns-in_err-value_of-in-Some-Set-clause-stops
returns-in_err-value_of-in-Some-Set-clause-stops c =
    let q = err_from_is_err_and c.from_residual-in_err-value_of-in-Some-Set.result c.from_residual-in_err-value_of-in-Some-Set.ensures.1 in
    rw (q.1, q.2)
    (value-stops (request_by c.args.options c.args.words.now) c.in-Some-Set.path.now c.in-Some-Set.value.now
    (names c.in_ok-path-in-Some-Set.path.items)
    c.in_err-value_of-in-Some-Set.field-0.0 (is-form c.args.words.now c.in-Some-Set.field-0 _ c.in-Some-Set.field-0-is
    c.in-Some-Set.ensures) c.in_ok-path-in-Some-Set.ensures.spelled c.in_err-value_of-in-Some-Set.ensures.stops)

pub returns-in_err-path_of-in-Some-Remove-clause-stops : goal.returns-in_err-path_of-in-Some-Remove-clause-stops
returns-in_err-path_of-in-Some-Remove-clause-stops c =
    let q = err_from_is_err_and c.from_residual-in_err-path_of-in-Some-Remove.result
    c.from_residual-in_err-path_of-in-Some-Remove.ensures.1 in
    rw (q.1, q.2)
    (path-stops (request_by c.args.options c.args.words.now) c.in-Some-Remove.path.now c.in_err-path_of-in-Some-Remove.field-0.0
    (inr (inr (is-form c.args.words.now c.in-Some-Remove.field-0 _ c.in-Some-Remove.field-0-is c.in-Some-Remove.ensures)))
    c.in_err-path_of-in-Some-Remove.ensures.stops)
