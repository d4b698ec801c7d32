-- All that is between the brackets has been looked at.
use Rattle.toml_edit_fmt.specs.RulesView.{rules_of}
use Rattle.toml_edit_fmt.proofs.MeasureLaws.{array-measured, inline-measured, none-left, stopped}
use Rattle.toml_edit_fmt.proofs.measure.measure.Goals as goal

pub returns-then-look-eq0-clause-array : goal.returns-then-look-eq0-clause-array
returns-then-look-eq0-clause-array c =
    let source = c.args.page.now.source.now in
    let r = rules_of c.args.page.now.rules in
    array-measured source r c.args.events.now c.events.rest.now c.events.look c.events.invariant.ends
    (λ i. stopped source r i c.events.rest.now c.events.look c.if-look-eq0.true)

pub returns-then-look-eq0-clause-inline : goal.returns-then-look-eq0-clause-inline
returns-then-look-eq0-clause-inline c =
    let source = c.args.page.now.source.now in
    let r = rules_of c.args.page.now.rules in
    inline-measured source r c.args.events.now c.events.rest.now c.events.look c.events.invariant.ends
    (λ i. stopped source r i c.events.rest.now c.events.look c.if-look-eq0.true)

pub returns-clause-array : goal.returns-clause-array
returns-clause-array c =
    let source = c.args.page.now.source.now in
    let r = rules_of c.args.page.now.rules in
    array-measured source r c.args.events.now c.events.rest.now c.events.look c.events.invariant.ends
    (λ i. none-left source r i c.events.rest.now c.events.look c.in_default.len_below)

pub returns-clause-inline : goal.returns-clause-inline
returns-clause-inline c =
    let source = c.args.page.now.source.now in
    let r = rules_of c.args.page.now.rules in
    inline-measured source r c.args.events.now c.events.rest.now c.events.look c.events.invariant.ends
    (λ i. none-left source r i c.events.rest.now c.events.look c.in_default.len_below)
