-- The edit that was read is the next one.
use Rattle.std.proofs.Common.{◌++◌, map, subst, sym, take}
use Rattle.toml_edit_parser.specs.Options.{version_of}
use Rattle.toml_edit_edits.specs.Said.{SaysEdits}
use Rattle.toml_edit_edits.proofs.WordLaws.{after, said-more}
use Rattle.toml_edit_edits.proofs.read_edit.edits_of.Goals as goal

pub loop-rest-preserved : goal.loop-rest-preserved
loop-rest-preserved c =
    let l = c.loop-rest in let v = version_of c.args.options in
    let first = take c.in-Ok.count (map (λ w. w.now) l.rest.now) in (
      l.invariant.0 ++ first,
      after (map (λ w. w.now) c.args.words.now) l.invariant.0 c.in-Ok.count l.rest.now c.in-Ok.ensures.count.1 l.invariant.1,
      subst (SaysEdits v (l.invariant.0 ++ first)) (sym c.in-Ok-push.ensures.items)
          (said-more v l.invariant.0 first l.edits.items c.in-Ok.edit l.invariant.2 c.in-Ok.ensures.said),
    )
