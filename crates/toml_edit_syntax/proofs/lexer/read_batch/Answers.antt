-- What reading the parts came to.
use Rattle.toml_edit_syntax.proofs.Whole.{after_batch, after_deep, no_cut_left}
use Rattle.toml_edit_syntax.proofs.lexer.read_batch.Goals as goal

pub returns-in-Ok-clause-after : goal.returns-in-Ok-clause-after
returns-in-Ok-clause-after c =
    let b = c.in-Ok.batch in
    after_batch c.args.source.now c.args.rest.now c.requires.reached c.args.events.now.items c.parts.new.events.items c.requires.none b.end
    b.rest.now c.in-Ok.ensures.ends c.in-Ok.ensures.shorter c.in-Ok.ensures.reads

pub returns-in-Err-TooDeep-clause-after : goal.returns-in-Err-TooDeep-clause-after
returns-in-Err-TooDeep-clause-after c =
    after_deep c.args.source.now c.args.rest.now c.requires.reached c.args.events.now.items c.parts.new.events.items c.requires.none
    c.in-Err-TooDeep.field-0 c.args.rest.now c.in-Err-TooDeep.field-0-is c.in-Err-TooDeep.ensures.reads

pub returns-in-Err-Before-clause-every : goal.returns-in-Err-Before-clause-every
returns-in-Err-Before-clause-every c d cut =
    absurd (no_cut_left c.args.source.now c.args.rest.now c.requires.reached c.args.events.now.items c.parts.new.events.items
    c.requires.none c.in-Err-Before.field-0 c.in-Err-Before.mistake c.in-Err-Before.left c.in-Err-Before.field-0-is
    c.in-Err-Before.ensures.reads d cut)
