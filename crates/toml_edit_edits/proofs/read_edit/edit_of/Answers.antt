-- The words of an edit are the first that there are.
use Rattle.std.proofs.Common.{IfErr, IfOk, ◌∷◌, [], refl, subst, take}
use Rattle.std.proofs.lemmas.Result.{IfErr-weaker}
use Rattle.toml_edit_parser.specs.Options.{version_of}
use Rattle.toml_edit_edits.specs.Said.{IsWrong, SaysEdit, StopsOperands, name_of, operands}
use Rattle.toml_edit_edits.specs.declared.edit.Verb.TheVariants as verbs
use Rattle.toml_edit_edits.proofs.WordLaws.{lone, pair, taken, word_at, wrong-front}
use Rattle.toml_edit_edits.proofs.read_edit.edit_of.Goals as goal

pub returns-in-Path-clause-said : goal.returns-in-Path-clause-said
returns-in-Path-clause-said c =
    let path = word_at c.args.words.now 0 in
    let words = lone c.args.words.now c.in-len1.len_at_least c.in-len1.len_below in
    let said = subst (λ v. IfOk c.edit_with.result (λ edit. SaysEdit (version_of c.args.options)
    (name_of v ∷ take (operands v) (path ∷ [] ∷ [])) edit)) c.in-Path.is c.edit_with.ensures.said in
    rw (c.in-Path.is, words) said

pub returns-in-Path-clause-stops : goal.returns-in-Path-clause-stops
returns-in-Path-clause-stops c =
    let version = version_of c.args.options in let path = word_at c.args.words.now 0 in let v = verbs.Path c.in-Path.field-0 in
    let words = lone c.args.words.now c.in-len1.len_at_least c.in-len1.len_below in
    let stops = subst (λ v. IfErr c.edit_with.result (λ fault. IsWrong version fault v (take (operands v) (path ∷ [] ∷ [])))) c.in-Path.is
    c.edit_with.ensures.stops in
    rw (c.in-Path.is, words)
    (IfErr-weaker c.edit_with.result (λ fault. IsWrong version fault v (path ∷ [])) (StopsOperands version v (path ∷ []))
    (λ fault wrong. wrong-front version v (path ∷ []) [] (path ∷ []) fault refl refl wrong) stops)

pub returns-in-len2-up-clause-said : goal.returns-in-len2-up-clause-said
returns-in-len2-up-clause-said c =
    let path = word_at c.args.words.now 0 in let end = word_at c.args.words.now 1 in
    let words = pair c.args.words.now c.in-len2-up.len_at_least in let same = words.1 in
    rw (same, (taken c.args.verb path end words.0).3) c.edit_with-in-len2-up.ensures.said

pub returns-in-len2-up-clause-stops : goal.returns-in-len2-up-clause-stops
returns-in-len2-up-clause-stops c =
    let version = version_of c.args.options in let v = c.args.verb in
    let path = word_at c.args.words.now 0 in let end = word_at c.args.words.now 1 in
    let words = pair c.args.words.now c.in-len2-up.len_at_least in let same = words.1 in
    let t = taken v path end words.0 in let front = take (operands v) (path ∷ end ∷ []) in
    rw same
    (IfErr-weaker c.edit_with-in-len2-up.result (λ fault. IsWrong version fault v front) (StopsOperands version v (path ∷ end ∷ words.0))
    (λ fault wrong. wrong-front version v front t.0 (path ∷ end ∷ words.0) fault t.1 t.2 wrong) c.edit_with-in-len2-up.ensures.stops)
