-- A command is done as its action, along the texts of its keys.
use Rattle.std.proofs.Common.{◌≡◌, sym, ap, subst, ◌∙◌, Result, OnOk, IfErr}
use Rattle.toml_edit_tree.specs.View.{value_view}
use Rattle.toml_edit_command.specs.Run.{OutputChange, written}
use Rattle.toml_edit_command.specs.Steps.{StopsActing, Wrote, action_of}
use Rattle.toml_edit_command.specs.Words.{Action, getting, setting, removing}
use Rattle.toml_edit_command.specs.Written.{Held, held}
use Rattle.toml_edit_command.specs.declared.error.RunError.{RunError}
use Rattle.toml_edit_command.proofs.act.act.Goals as goal
use Rattle.toml_edit_model.specs.Keys.{names}

wrote-as : {A : Type 0} (r : Result A RunError) (a b : Action) (h : Held) (s : OutputChange) → a ≡ b → OnOk r (Wrote a h s)
    → OnOk r (Wrote b h s)
wrote-as r a b h s same = subst (λ x. OnOk r (Wrote x h s)) same

stops-as : {A : Type 0} (r : Result A RunError) (a b : Action) (h : Held) (s : OutputChange) → a ≡ b → IfErr r (StopsActing a h s)
    → IfErr r (StopsActing b h s)
stops-as r a b h s same = subst (λ x. IfErr r (StopsActing x h s)) same

pub returns-in-Get-clause-wrote : goal.returns-in-Get-clause-wrote
returns-in-Get-clause-wrote g c =
    wrote-as c.get.result (getting (names c.as_slice.result.now)) (action_of c.args.command) (held c.args.document.now)
    (written g.O.Output.contents g.O.Output.has_failed c.args.output.now c.get.new.output)
    (ap (λ ks. getting (names ks)) c.as_slice.ensures.value ∙ sym (ap action_of c.in-Get.is)) c.get.ensures.wrote

pub returns-in-Get-clause-err : goal.returns-in-Get-clause-err
returns-in-Get-clause-err g c =
    stops-as c.get.result (getting (names c.as_slice.result.now)) (action_of c.args.command) (held c.args.document.now) _
    (ap (λ ks. getting (names ks)) c.as_slice.ensures.value ∙ sym (ap action_of c.in-Get.is)) c.get.ensures.err

pub returns-in-Set-clause-wrote : goal.returns-in-Set-clause-wrote
returns-in-Set-clause-wrote g c =
    wrote-as c.set.result (setting (names c.as_mut_slice.result.now) (value_view c.in-Set.value)) (action_of c.args.command)
    (held c.args.document.now)
    (written g.O.Output.contents g.O.Output.has_failed c.args.output.now c.set.new.output)
    (ap (λ ks. setting (names ks) (value_view c.in-Set.value)) c.as_mut_slice.ensures.value
    ∙ sym (ap action_of c.in-Set.is)) c.set.ensures.wrote

pub returns-in-Set-clause-err : goal.returns-in-Set-clause-err
returns-in-Set-clause-err g c =
    stops-as c.set.result (setting (names c.as_mut_slice.result.now) (value_view c.in-Set.value)) (action_of c.args.command)
    (held c.args.document.now) _
    (ap (λ ks. setting (names ks) (value_view c.in-Set.value)) c.as_mut_slice.ensures.value
    ∙ sym (ap action_of c.in-Set.is)) c.set.ensures.err

pub returns-in-Remove-clause-wrote : goal.returns-in-Remove-clause-wrote
returns-in-Remove-clause-wrote g c =
    wrote-as c.remove.result (removing (names c.as_slice-in-Remove.result.now)) (action_of c.args.command) (held c.args.document.now)
    (written g.O.Output.contents g.O.Output.has_failed c.args.output.now c.remove.new.output)
    (ap (λ ks. removing (names ks)) c.as_slice-in-Remove.ensures.value ∙ sym (ap action_of c.in-Remove.is)) c.remove.ensures.wrote

pub returns-in-Remove-clause-err : goal.returns-in-Remove-clause-err
returns-in-Remove-clause-err g c =
    stops-as c.remove.result (removing (names c.as_slice-in-Remove.result.now)) (action_of c.args.command) (held c.args.document.now) _
    (ap (λ ks. removing (names ks)) c.as_slice-in-Remove.ensures.value ∙ sym (ap action_of c.in-Remove.is)) c.remove.ensures.err
