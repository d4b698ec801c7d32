use Rattle.std.proofs.Common.{◌≡◌, ◌∙◌, ◌+◌, ◌-◌, ◌≤◌, ◌<◌, ◌++◌, ℕ, refl, sym, ap, subst, arith, inl, inr, [], ◌∷◌, length, take, drop, string_bytes}
use Rattle.std.proofs.lemmas.List.{append-nil, length-map, length-take-le, length-drop}
use Rattle.std.specs.List.{slice_range, flat_map}
use Rattle.line_diff.specs.Diff.{AreHunks, Hunk, IsChange, IsShown, hunk_text, new_lines, old_lines}
use Rattle.line_diff.specs.Steps.{line_of, lines_of}
use Rattle.line_diff.proofs.HunkLaws.{Written, after-written, counted-new, counted-old, front-news-le, front-olds-le, hunk-is, no-more, one-hunk, written-more}
use Rattle.line_diff.proofs.hunks.write_hunks.Goals as goal

pub hunks-init : goal.hunks-init
hunks-init c =
    record {
      inside = omega arith;
      olds = refl;
      news = refl;
      clear = inl refl;
      written = record { hunks = []; are = λ more are. are; is = sym (append-nil (string_bytes c.args.out.now)) };
    }

pub overflow_add-olds : goal.overflow_add-olds
overflow_add-olds c =
    let script = c.args.script.now in
    let from = c.saturating_sub-from.result in
    let is : from ≡ c.in-Some.first - 3 = omega arith in
    let le = after-written (lines_of script) c.hunks.at c.in-Some.first from c.hunks.invariant.clear is c.in-Some.ensures.0 c.in-Some.ensures.1 in
    let olds = counted-old script c.hunks.at from c.hunks.olds c.old_count-olds.result le c.hunks.invariant.olds c.old_count-olds.ensures.is in
    let few = (front-olds-le script from).0 in omega (arith, olds, few)

pub overflow_add-news : goal.overflow_add-news
overflow_add-news c =
    let script = c.args.script.now in
    let from = c.saturating_sub-from.result in
    let is : from ≡ c.in-Some.first - 3 = omega arith in
    let le = after-written (lines_of script) c.hunks.at c.in-Some.first from c.hunks.invariant.clear is c.in-Some.ensures.0 c.in-Some.ensures.1 in
    let news = counted-new script c.hunks.at from c.hunks.news c.new_count-news.result le c.hunks.invariant.news c.new_count-news.ensures.is in
    let few = (front-news-le script from).0 in omega (arith, news, few)

pub write_hunk-requires-clause-olds : goal.write_hunk-requires-clause-olds
write_hunk-requires-clause-olds c =
    let script = c.args.script.now in
    let from = c.saturating_sub-from.result in
    let to = c.end_of-to.result in
    let is : from ≡ c.in-Some.first - 3 = omega arith in
    let le = after-written (lines_of script) c.hunks.at c.in-Some.first from c.hunks.invariant.clear is c.in-Some.ensures.0 c.in-Some.ensures.1 in
    let olds = counted-old script c.hunks.at from c.hunks.olds c.old_count-olds.result le c.hunks.invariant.olds c.old_count-olds.ensures.is in
    let few = (front-olds-le script from).0 in
    let rest : to - from ≤ length (drop from script) = omega (arith, length-drop from script) in
    let long = length-take-le (to - from) (drop from script) rest in omega (arith, olds, few, long)

pub write_hunk-requires-clause-news : goal.write_hunk-requires-clause-news
write_hunk-requires-clause-news c =
    let script = c.args.script.now in
    let from = c.saturating_sub-from.result in
    let to = c.end_of-to.result in
    let is : from ≡ c.in-Some.first - 3 = omega arith in
    let le = after-written (lines_of script) c.hunks.at c.in-Some.first from c.hunks.invariant.clear is c.in-Some.ensures.0 c.in-Some.ensures.1 in
    let news = counted-new script c.hunks.at from c.hunks.news c.new_count-news.result le c.hunks.invariant.news c.new_count-news.ensures.is in
    let few = (front-news-le script from).0 in
    let rest : to - from ≤ length (drop from script) = omega (arith, length-drop from script) in
    let long = length-take-le (to - from) (drop from script) rest in omega (arith, news, few, long)

pub overflow_add-olds-in-Some : goal.overflow_add-olds-in-Some
overflow_add-olds-in-Some c =
    let script = c.args.script.now in
    let from = c.saturating_sub-from.result in
    let to = c.end_of-to.result in
    let is : from ≡ c.in-Some.first - 3 = omega arith in
    let on : from ≤ to = omega arith in
    let le = after-written (lines_of script) c.hunks.at c.in-Some.first from c.hunks.invariant.clear is c.in-Some.ensures.0 c.in-Some.ensures.1 in
    let olds = counted-old script c.hunks.at from c.hunks.olds c.old_count-olds.result le c.hunks.invariant.olds c.old_count-olds.ensures.is in
    let all = counted-old script from to (c.hunks.olds + c.old_count-olds.result) c.old_count-olds-in-Some.result on olds c.old_count-olds-in-Some.ensures.is in
    let few = (front-olds-le script to).0 in omega (arith, all, few)

pub overflow_add-news-in-Some : goal.overflow_add-news-in-Some
overflow_add-news-in-Some c =
    let script = c.args.script.now in
    let from = c.saturating_sub-from.result in
    let to = c.end_of-to.result in
    let is : from ≡ c.in-Some.first - 3 = omega arith in
    let on : from ≤ to = omega arith in
    let le = after-written (lines_of script) c.hunks.at c.in-Some.first from c.hunks.invariant.clear is c.in-Some.ensures.0 c.in-Some.ensures.1 in
    let news = counted-new script c.hunks.at from c.hunks.news c.new_count-news.result le c.hunks.invariant.news c.new_count-news.ensures.is in
    let all = counted-new script from to (c.hunks.news + c.new_count-news.result) c.new_count-news-in-Some.result on news c.new_count-news-in-Some.ensures.is in
    let few = (front-news-le script to).0 in omega (arith, all, few)

pub hunks-preserved : goal.hunks-preserved
hunks-preserved c =
    let script = c.args.script.now in
    let s = lines_of script in
    let first = c.in-Some.first in
    let from = c.saturating_sub-from.result in
    let to = c.end_of-to.result in
    let is : from ≡ first - 3 = omega arith in
    let on : from ≤ to = omega arith in
    let inside : to ≤ length s = omega (arith, length-map script line_of) in
    let le = after-written s c.hunks.at first from c.hunks.invariant.clear is c.in-Some.ensures.0 c.in-Some.ensures.1 in
    let olds = counted-old script c.hunks.at from c.hunks.olds c.old_count-olds.result le c.hunks.invariant.olds c.old_count-olds.ensures.is in
    let news = counted-new script c.hunks.at from c.hunks.news c.new_count-news.result le c.hunks.invariant.news c.new_count-news.ensures.is in
    let text = hunk-is script from to (c.hunks.olds + c.old_count-olds.result) (c.hunks.news + c.new_count-news.result) olds news in
    record {
      inside = c.end_of-to.ensures.within;
      olds = counted-old script from to (c.hunks.olds + c.old_count-olds.result) c.old_count-olds-in-Some.result on olds c.old_count-olds-in-Some.ensures.is;
      news = counted-new script from to (c.hunks.news + c.new_count-news.result) c.new_count-news-in-Some.result on news c.new_count-news-in-Some.ensures.is;
      clear = inr c.end_of-to.ensures.ended;
      written =
          written-more s c.hunks.at (string_bytes c.args.out.now) (string_bytes c.hunks.out) (string_bytes c.write_hunk.new.out) (record { from = from; to = to }) c.hunks.invariant.written
          (one-hunk s c.hunks.at first from to c.hunks.invariant.clear is c.in-Some.ensures.0 c.in-Some.ensures.1 c.in-Some.ensures.2 c.end_of-to.ensures.after inside c.end_of-to.ensures.shown
          c.end_of-to.ensures.ended)
          (c.in_ok-write_hunk.ensures ∙ ap (λ text. string_bytes c.hunks.out ++ text) text);
    }

pub returns : goal.returns
returns c =
    let s = lines_of c.args.script.now in
    let w = c.hunks.invariant.written in
    let none : (other : ℕ) → c.hunks.at ≤ other → IsChange s other → ⊥ = rw c.in_default.is at c.next_change.ensures in
    (w.hunks, subst (AreHunks s 0) (append-nil w.hunks) (w.are [] (no-more s c.hunks.at c.hunks.invariant.clear none)), w.is)
