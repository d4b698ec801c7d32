-- The first word is the name of the verb.
use Rattle.std.proofs.Common.{◌+◌, ◌-◌, ◌∷◌, ◌∙◌, ap, drop, length, map, subst, sym, take}
use Rattle.toml_edit_parser.specs.Options.{version_of}
use Rattle.toml_edit_edits.specs.Said.{SaysEdit, name_of, operands}
use Rattle.toml_edit_edits.proofs.WordLaws.{named, stops-named, take-next}
use Rattle.toml_edit_edits.proofs.read_edit.next_edit.Goals as goal

pub returns-in-Ok-clause-said : goal.returns-in-Ok-clause-said
returns-in-Ok-clause-said c =
    let v = c.in-Some.verb in let words = c.args.words.now in
    let more = map (λ w. w.now) (take (length words - 1) (drop 1 words)) in
    let is = named v words c.in-len1-up.len_at_least c.in-Some.ensures.named in
    subst (λ ws. SaysEdit (version_of c.args.options) ws c.in-Ok.edit)
    (sym (ap (take (c.count.result + 1)) is ∙ ap (λ n. take (n + 1) (name_of v ∷ more)) c.count.ensures ∙ take-next (operands v) (name_of v) more))
    c.in-Ok.ensures.said

pub returns-in-Err-clause-stops : goal.returns-in-Err-clause-stops
returns-in-Err-clause-stops c =
    let v = c.in-Some.verb in let words = c.args.words.now in
    stops-named (version_of c.args.options) v (map (λ w. w.now) words) (map (λ w. w.now) (take (length words - 1) (drop 1 words))) c.in-Err.fault
    (named v words c.in-len1-up.len_at_least c.in-Some.ensures.named) c.in-Err.ensures.stops
