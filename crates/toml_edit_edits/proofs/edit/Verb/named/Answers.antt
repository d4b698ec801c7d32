-- Each edit is one of them.
use Rattle.std.proofs.Common.{◌≤◌, arith, sym}
use Rattle.std.proofs.lemmas.Grind.{common_steps}
use Rattle.toml_edit_edits.proofs.WordLaws.{no-verb, none-named}
use Rattle.toml_edit_edits.proofs.edit.Verb.named.Goals as goal

pub returns-clause-none : goal.returns-clause-none
returns-clause-none c =
    let all : 13 ≤ c.loop-verb.verb-index = grind (arith, common_steps) in
    λ none verb. none-named c.args.name.now c.loop-verb.verb-index all c.loop-verb.invariant verb

pub returns-clause-verb : goal.returns-clause-verb
returns-clause-verb c =
    let all : 13 ≤ c.loop-verb.verb-index = grind (arith, common_steps) in
    sym (no-verb c.args.name.now (λ verb. none-named c.args.name.now c.loop-verb.verb-index all c.loop-verb.invariant verb))
