-- The next edit is behind a comma.
use Rattle.std.proofs.Common.{◌≡◌, ◌≢◌, ◌∙◌, ◌-◌, ◌∷◌, ◌++◌, [], List, ap, drop, length, map, refl, subst, sym, take, Bor}
use Rattle.std.specs.Prelude.{codes}
use Rattle.toml_edit_model.specs.Text.{Text}
use Rattle.toml_edit_edits.specs.declared.edit.Edit.{Edit}
use Rattle.toml_edit_files.specs.Edited.{version_by}
use Rattle.toml_edit_files.specs.Lines.{BeginsNoEdit}
use Rattle.toml_edit_files.specs.Requests.{SaysApart}
use Rattle.toml_edit_files.specs.Stops.{IsMistaken, reason_of}
use Rattle.toml_edit_files.proofs.ApartLaws.{SaidBefore, all-apart, first-apart, next-apart, no-comma-next, no-edit, no-edit-next, no-more-next}
use Rattle.toml_edit_files.proofs.OperandLaws.{differs-so, empty-of, fewer, first-word, no-of, same-so, some-of, word_at}
use Rattle.toml_edit_files.proofs.SplitLaws.{by-mistake, mistaken-for}
use Rattle.toml_edit_files.proofs.StopLaws.{passed}
use Rattle.toml_edit_files.proofs.request.edits_apart.Goals as goal

pub returns-then-is_empty-clause-said : goal.returns-then-is_empty-clause-said
returns-then-is_empty-clause-said c =
    subst (SaysApart (version_by c.args.reading) (map (λ w. w.now) c.args.words.now)) (sym c.new-edits.ensures.items)
    (empty-of (λ (w : Bor Text). w.now) c.args.words.now c.is_empty.result c.is_empty.ensures c.if-is_empty.true)

pub edits-init : goal.edits-init
edits-init c =
    first-apart (version_by c.args.reading) (map (λ w. w.now) c.args.words.now) (map (λ w. w.now) c.in_ok-rest.rest.now) c.new-edits.result.items
    c.edit_at.new.edits.items c.new-edits.ensures.items c.in_ok-rest.ensures.adds

pub returns-in_err-rest-clause-stops : goal.returns-in_err-rest-clause-stops
returns-in_err-rest-clause-stops c =
    let v = version_by c.args.reading in let all = map (λ (w : Bor Text). w.now) c.args.words.now in let stop = c.in_err-rest.field-0.0 in
    passed c.from_residual.result stop (λ s. IsMistaken ((es : List Edit) → SaysApart v all es → ⊥) (reason_of s)) c.from_residual.ensures.1
    (mistaken-for (BeginsNoEdit v all) ((es : List Edit) → SaysApart v all es → ⊥) (reason_of stop)
    (no-edit v all (some-of (λ (w : Bor Text). w.now) c.args.words.now c.is_empty.result c.is_empty.ensures c.if-is_empty.false))
    c.in_err-rest.ensures.stops)

pub returns-then-ne-clause-stops : goal.returns-then-ne-clause-stops
returns-then-ne-clause-stops c =
    let v = version_by c.args.reading in let f = λ (w : Bor Text). w.now in let rest = c.edits.rest.now in let all = map f c.args.words.now in
    let more = map f (take (length rest - 1) (drop 1 rest)) in let comma = word_at rest 0 in let es = c.edits.edits.items in
    by-mistake ((es : List Edit) → SaysApart v all es → ⊥) (reason_of c.wrong_words.result)
    (no-comma-next v all comma more es
    (subst (λ l. SaidBefore v all l es) (first-word rest c.in-len1-up.len_at_least) c.edits.invariant)
    (differs-so comma (codes ",") c.ne.result c.ne.ensures c.if-ne.true))
    c.wrong_words.ensures

pub returns-then-is_empty-2-clause-stops : goal.returns-then-is_empty-2-clause-stops
returns-then-is_empty-2-clause-stops c =
    let v = version_by c.args.reading in let f = λ (w : Bor Text). w.now in let rest = c.edits.rest.now in let all = map f c.args.words.now in
    let tail = take (length rest - 1) (drop 1 rest) in let comma = word_at rest 0 in let es = c.edits.edits.items in
    by-mistake ((es : List Edit) → SaysApart v all es → ⊥) (reason_of c.wrong_words-then-is_empty-2.result)
    (no-more-next v all comma (map f tail) es
    (subst (λ l. SaidBefore v all l es) (first-word rest c.in-len1-up.len_at_least) c.edits.invariant)
    (empty-of f tail c.is_empty-in-len1-up.result c.is_empty-in-len1-up.ensures c.if-is_empty-2.true))
    c.wrong_words-then-is_empty-2.ensures

pub returns-in_err-rest-2-clause-stops : goal.returns-in_err-rest-2-clause-stops
returns-in_err-rest-2-clause-stops c =
    let v = version_by c.args.reading in let f = λ (w : Bor Text). w.now in let rest = c.edits.rest.now in let all = map f c.args.words.now in
    let more = map f (take (length rest - 1) (drop 1 rest)) in let comma = word_at rest 0 in let es = c.edits.edits.items in
    let stop = c.in_err-rest-2.field-0.0 in
    passed c.from_residual-in_err-rest-2.result stop (λ s. IsMistaken ((es : List Edit) → SaysApart v all es → ⊥) (reason_of s))
    c.from_residual-in_err-rest-2.ensures.1
    (mistaken-for (BeginsNoEdit v more) ((es : List Edit) → SaysApart v all es → ⊥) (reason_of stop)
    (no-edit-next v all comma more es
    (subst (λ l. SaidBefore v all l es) (first-word rest c.in-len1-up.len_at_least) c.edits.invariant))
    c.in_err-rest-2.ensures.stops)

pub edits-preserved : goal.edits-preserved
edits-preserved c =
    let v = version_by c.args.reading in let f = λ (w : Bor Text). w.now in let rest = c.edits.rest.now in let all = map f c.args.words.now in
    let more = map f (take (length rest - 1) (drop 1 rest)) in
    let comma = same-so (word_at rest 0) (codes ",") c.ne.result c.ne.ensures c.if-ne.false in
    let at = first-word rest c.in-len1-up.len_at_least ∙ ap (λ t. t ∷ more) comma in
    next-apart v all more (map f c.in_ok-rest-2.rest.now) c.edits.edits.items c.edit_at-in-len1-up.new.edits.items
    (subst (λ l. SaidBefore v all l c.edits.edits.items) at c.edits.invariant) c.in_ok-rest-2.ensures.adds

pub returns-clause-said : goal.returns-clause-said
returns-clause-said c =
    let f = λ (w : Bor Text). w.now in
    all-apart (version_by c.args.reading) (map f c.args.words.now) (map f c.edits.rest.now) c.edits.edits.items c.edits.invariant
    (no-of f c.edits.rest.now c.in_default.len_below)

pub edits-smaller : goal.edits-smaller
edits-smaller c =
    fewer (λ (w : Bor Text). w.now) c.edits.rest.now c.in_ok-rest-2.rest.now c.in_ok-rest-2.ensures.adds.0 c.in-len1-up.len_at_least
    c.in_ok-rest-2.ensures.adds.2
