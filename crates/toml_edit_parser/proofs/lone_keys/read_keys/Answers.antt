-- The keys of the path, one after another.
use Rattle.std.proofs.Common.{◌<◌, ◌^◌, List, [], ◌∷◌, ◌++◌, arith, length, option_map, refl, sym, ap, subst, ◌∙◌}
use Rattle.std.proofs.lemmas.List.{length-append}
use Rattle.std.proofs.lemmas.Result.{err_from_is_err_and}
use Rattle.toml_edit_model.specs.OwnedForm.{KeyFits, owned_key, owned_raw}
use Rattle.toml_edit_model.specs.Spelling.{SpellsKey}
use Rattle.toml_edit_model.specs.Syntax.{Segment, path_text}
use Rattle.toml_edit_model.specs.Text.{Text}
use Rattle.toml_edit_model.specs.Tree.{Decor, Key, HasTrueSpelling}
use Rattle.toml_edit_syntax.specs.declared.event.Span.{Span}
use Rattle.toml_edit_parser.specs.declared.key.KeyPath.{KeyPath}
use Rattle.toml_edit_parser.specs.Near.{IsNear}
use Rattle.toml_edit_parser.proofs.LoneKeyLaws.{KeysLeft, keys-begin, keys-end, keys-next}
use Rattle.toml_edit_parser.proofs.LonePathLaws.{memory_alone}
use Rattle.toml_edit_parser.proofs.lone_keys.read_keys.Goals as goal

pub segments-init : goal.segments-init
segments-init c =
    let are = c.requires.cut in
    let source = c.args.reader.now.source.now in
    let before = c.args.path.now.before.now in
    let after = c.args.path.now.after.now in
    let at : Span = record { start = length before; end = length before } in
    let whole = ap (λ (t : Text). length t) are.is.parts ∙ length-append before (path_text are.path ++ after) in
    let short = c.args.reader.now.short in
    let within : length before < 2 ^ 56 = omega (arith, whole, short) in
    let front : IsNear at = record { start = within; end = within } in
    let left : KeyPath = record { prefix = at; suffix = at; before = at; events = c.as_slice.result } in
    record {
      spans = rw c.as_slice.ensures.value c.requires.spans;
      prefix = front;
      suffix = front;
      before = front;
      keys = λ p is. subst (λ (q : List Segment). KeysLeft source before after q c.new-keys.result.items left)
          (sym (are.only before p after is).1)
          (keys-begin source before after c.args.path.now.events.items c.new-keys.result.items left are refl c.as_slice.ensures.value
          c.new-keys.ensures.items);
    }

pub returns-in_err-key : goal.returns-in_err-key
returns-in_err-key c =
    λ p is.
    let q = err_from_is_err_and c.from_residual.result c.from_residual.ensures.1 in
    let n = c.segments.invariant.keys p is in
    rw (q.1, q.2) (memory_alone c.in_err-key.field-0.0 (c.in_err-key.ensures.key n.own n.segments n.start n.ends n.stands n.read))

pub with_texts-requires-clause-fits : goal.with_texts-requires-clause-fits
with_texts-requires-clause-fits c =
    let are = c.requires.cut in
    let n = c.segments.invariant.keys are.path are.is in
    let first = c.in_ok-key.ensures.key n.own n.segments n.start n.ends n.stands n.read in
    (keys-next c.args.reader.now.source.now c.args.path.now.before.now c.args.path.now.after.now are.path c.segments.keys.items c.segments.left
    c.in_ok-key.field-0
    c.in-Some.inside c.segments.invariant.spans n first c.in-Some.is).becomes.fits

pub with_texts-requires-clause-spelled : goal.with_texts-requires-clause-spelled
with_texts-requires-clause-spelled c =
    let are = c.requires.cut in
    let n = c.segments.invariant.keys are.path are.is in
    let first = c.in_ok-key.ensures.key n.own n.segments n.start n.ends n.stands n.read in
    ∣ (keys-next c.args.reader.now.source.now c.args.path.now.before.now c.args.path.now.after.now are.path c.segments.keys.items c.segments.left
    c.in_ok-key.field-0
    c.in-Some.inside c.segments.invariant.spans n first c.in-Some.is).becomes.spelled ∣₁

pub segments-preserved : goal.segments-preserved
segments-preserved c =
    record {
      spans = let inside = rw c.in-Some.is at c.in_ok-key.ensures.rest in inside.0;
      prefix = let inside = rw c.in-Some.is at c.in_ok-key.ensures.near in inside.0;
      suffix = let inside = rw c.in-Some.is at c.in_ok-key.ensures.near in inside.1;
      before = let inside = rw c.in-Some.is at c.in_ok-key.ensures.near in inside.2;
      keys = λ p is.
          let n = c.segments.invariant.keys p is in
          let first = c.in_ok-key.ensures.key n.own n.segments n.start n.ends n.stands n.read in
          let k = keys-next c.args.reader.now.source.now c.args.path.now.before.now c.args.path.now.after.now p c.segments.keys.items c.segments.left
          c.in_ok-key.field-0
          c.in-Some.inside c.segments.invariant.spans n first c.in-Some.is in
          k.left _ (c.in_ok-push-in-Some.ensures.items ∙ ap (λ (x : Key). c.segments.keys.items ++ (x ∷ []))
          (c.in_ok-with_texts-in-Some.ensures ∙ k.becomes.owned_is));
    }

pub with_texts-requires-in-None-clause-fits : goal.with_texts-requires-in-None-clause-fits
with_texts-requires-in-None-clause-fits c =
    let are = c.requires.cut in
    let n = c.segments.invariant.keys are.path are.is in
    let first = c.in_ok-key.ensures.key n.own n.segments n.start n.ends n.stands n.read in
    let k = keys-end c.args.reader.now.source.now c.args.path.now.before.now c.args.path.now.after.now are.path c.segments.keys.items c.segments.left
    c.in_ok-key.field-0
    c.segments.invariant.spans n first c.in-None.is in
    let leaf = c.with_leaf_decor-key.ensures ∙ ap (λ (d : Decor). record c.in_ok-key.field-0.key { leaf = d }) c.in_ok-outer_decor-in-None.ensures in
    subst (λ (x : Key). KeyFits c.args.reader.now.source.now x) (sym leaf) k.becomes.fits

pub with_texts-requires-in-None-clause-spelled : goal.with_texts-requires-in-None-clause-spelled
with_texts-requires-in-None-clause-spelled c =
    let are = c.requires.cut in
    let n = c.segments.invariant.keys are.path are.is in
    let first = c.in_ok-key.ensures.key n.own n.segments n.start n.ends n.stands n.read in
    let k = keys-end c.args.reader.now.source.now c.args.path.now.before.now c.args.path.now.after.now are.path c.segments.keys.items c.segments.left
    c.in_ok-key.field-0
    c.segments.invariant.spans n first c.in-None.is in
    let leaf = c.with_leaf_decor-key.ensures ∙ ap (λ (d : Decor). record c.in_ok-key.field-0.key { leaf = d }) c.in_ok-outer_decor-in-None.ensures in
    ∣ subst (λ (x : Key). HasTrueSpelling (SpellsKey x.name) (option_map (owned_raw c.args.reader.now.source.now) x.spelling)) (sym leaf)
    k.becomes.spelled ∣₁

pub returns-in-None : goal.returns-in-None
returns-in-None c =
    λ p is.
    let n = c.segments.invariant.keys p is in
    let first = c.in_ok-key.ensures.key n.own n.segments n.start n.ends n.stands n.read in
    let k = keys-end c.args.reader.now.source.now c.args.path.now.before.now c.args.path.now.after.now p c.segments.keys.items c.segments.left
    c.in_ok-key.field-0
    c.segments.invariant.spans n first c.in-None.is in
    let leaf = c.with_leaf_decor-key.ensures ∙ ap (λ (d : Decor). record c.in_ok-key.field-0.key { leaf = d }) c.in_ok-outer_decor-in-None.ensures in
    k.all _ (c.in_ok-push-in-None.ensures.items ∙ ap (λ (x : Key). c.segments.keys.items ++ (x ∷ []))
    (c.in_ok-with_texts-in-None.ensures ∙ ap (owned_key c.args.reader.now.source.now) leaf ∙ k.becomes.owned_is))
