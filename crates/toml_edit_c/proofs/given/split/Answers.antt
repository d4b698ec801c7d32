-- Each word is split off the rest.
use Rattle.std.proofs.Common.{◌≡◌, ◌<◌, ◌∙◌, ap, sym, subst, arith, length, rules, map, refl, ◌++◌}
use Rattle.std.proofs.lemmas.Grind.{common_steps}
use Rattle.std.proofs.lemmas.Str.Pattern.{split_parts}
use Rattle.toml_edit_c.proofs.Splitting.{cut, ended, no-more, now_of, pushed}
use Rattle.toml_edit_c.specs.Split.{words_in}
use Rattle.toml_edit_c.proofs.given.split.Goals as goal
use Rattle.toml_edit_c.proofs.given.split.Goals.{then-not-is_empty+in_ok-push-2, else-not-is_empty}

pub loop-word-preserved : goal.loop-word-preserved
loop-word-preserved c =
    let l = c.loop-word in
    let parts = rw c.in-Some.is at (split_parts 0 l.rest.now c.split_once.result c.split_once.ensures.cases (omega arith)) in
    let is = ap words_in parts.0 ∙ cut c.in-Some.word.now c.in-Some.after.now parts.1 in (
      pushed l.words.items c.push.new.self.items c.in-Some.word c.in-Some.word.now (words_in c.in-Some.after.now) (words_in c.args.text.now)
          c.in_ok-push.ensures.items refl (ap (λ ws. map now_of l.words.items ++ ws) (sym is) ∙ l.invariant.0),
      search rules,
    )

pub returns : goal.returns
returns c =
    let l = c.loop-word in let text = c.args.text.now in
    let none = rw c.in_default.is at (split_parts 0 l.rest.now c.split_once.result c.split_once.ensures.cases (omega arith)) in
    elim c.if-not-is_empty.branch [
      | then-not-is_empty+in_ok-push-2 w ↦
          let some : 0 < length l.rest.now = grind (arith, common_steps) in
          subst (λ vs. map now_of vs.items ≡ words_in text) (sym w.words-is)
          (ended l.words.items w.push-then-not-is_empty.new.self.items l.rest l.rest.now (words_in text) none some w.in_ok-push-2.ensures.items refl
          l.invariant.0)
      | else-not-is_empty w ↦
          let zero : length l.rest.now ≡ 0 = grind (arith, common_steps) in
          subst (λ vs. map now_of vs.items ≡ words_in text) (sym w.words-is) (no-more l.words.items l.rest.now (words_in text) zero l.invariant.0)
    ]
