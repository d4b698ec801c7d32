-- The words of an edit are those of its kind.
use Rattle.std.proofs.Common.{subst}
use Rattle.toml_edit_error.specs.Fault.{IfToml}
use Rattle.toml_edit_parser.specs.Options.{version_of}
use Rattle.toml_edit_edits.specs.Said.{IsNoKeys}
use Rattle.toml_edit_edits.proofs.WordLaws.{wrong-path}
use Rattle.toml_edit_edits.proofs.read_edit.edit_with.Goals as goal

pub returns-in-Err-Toml-clause-stops : goal.returns-in-Err-Toml-clause-stops
returns-in-Err-Toml-clause-stops c =
    let none = subst (λ e. IfToml e (λ _. IsNoKeys c.args.path.now)) c.in-Err-Toml.field-0-is c.in-Err-Toml.ensures.stops in
    wrong-path (version_of c.args.options) c.in-Err-Toml.error c.args.verb c.args.path.now c.args.operand.now none

pub returns-in-Text-clause-said : goal.returns-in-Text-clause-said
returns-in-Text-clause-said c = rw c.in-Text.is (c.text_edit.ensures.said (version_of c.args.options) c.args.path.now c.in-Ok.ensures.spelled)

pub returns-in-Text-clause-stops : goal.returns-in-Text-clause-stops
returns-in-Text-clause-stops c = rw c.in-Text.is (c.text_edit.ensures.stops (version_of c.args.options) c.args.path.now)

pub returns-in-Rename-clause-said : goal.returns-in-Rename-clause-said
returns-in-Rename-clause-said c = rw c.in-Rename.is (c.rename_edit.ensures.said (version_of c.args.options) c.args.path.now c.in-Ok.ensures.spelled)

pub returns-in-Rename-clause-stops : goal.returns-in-Rename-clause-stops
returns-in-Rename-clause-stops c =
    rw c.in-Rename.is (c.rename_edit.ensures.stops (version_of c.args.options) c.args.path.now (c.in-Ok.keys.items, c.in-Ok.ensures.spelled))

pub returns-in-Move-clause-said : goal.returns-in-Move-clause-said
returns-in-Move-clause-said c = rw c.in-Move.is (c.move_edit.ensures.said (version_of c.args.options) c.args.path.now c.in-Ok.ensures.spelled)

pub returns-in-Move-clause-stops : goal.returns-in-Move-clause-stops
returns-in-Move-clause-stops c =
    rw c.in-Move.is (c.move_edit.ensures.stops (version_of c.args.options) c.args.path.now (c.in-Ok.keys.items, c.in-Ok.ensures.spelled))

pub returns-in-Value-clause-said : goal.returns-in-Value-clause-said
returns-in-Value-clause-said c = rw c.in-Value.is (c.value_edit.ensures.said c.args.path.now c.in-Ok.ensures.spelled)

pub returns-in-Value-clause-stops : goal.returns-in-Value-clause-stops
returns-in-Value-clause-stops c =
    rw c.in-Value.is (c.value_edit.ensures.stops c.args.path.now (c.in-Ok.keys.items, c.in-Ok.ensures.spelled))
