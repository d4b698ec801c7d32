-- A value that is not kept is still there, and goes with its line.
use Rattle.std.proofs.Common.{List, ◌≡◌, ◌-◌, ◌<◌, MatchOption, true, false, arith, length, rules, subst, suc, sym, ◌∙◌}
use Rattle.toml_edit_model.specs.ArrayCalls.{value_at}
use Rattle.toml_edit_model.specs.Tree.{ArrayFields, Node}
use Rattle.toml_edit_tree.specs.ElementClosures.{SaysOfValue}
use Rattle.toml_edit_tree.specs.Elements.{array_fields, items_of}
use Rattle.toml_edit_tree.proofs.LineRetainLaws.{RetainsFrom, retains-next, value-answered, value-left}
use Rattle.toml_edit_tree.proofs.array.line_retain.remove_lines.Goals as goal

pub remove_line-requires : goal.remove_line-requires
remove_line-requires g c =
    let says = SaysOfValue g.F.Fn c.args.keep.now in
    let a : ArrayFields × List Node = (array_fields c.args.whole.now, items_of c.args.whole.now) in
    let left : ArrayFields × List Node = (array_fields c.places.left, items_of c.places.left) in
    let i = c.places.at - 1 in
    let no : c.is_kept.result ≡ false = search rules in
    let below : i < c.places.at = omega (arith, c.places-test.true) in
    value-left says a left i c.places.at below c.places.invariant.left
    ∙ value-answered says (value_at i a.1)
    (subst (λ b. MatchOption (value_at i a.1) (b ≡ true) (λ n. says n b)) no c.is_kept.ensures)

pub places-preserved-then-not-is_kept : goal.places-preserved-then-not-is_kept
places-preserved-then-not-is_kept g c =
    let says = SaysOfValue g.F.Fn c.args.keep.now in
    let a : ArrayFields × List Node = (array_fields c.args.whole.now, items_of c.args.whole.now) in
    let left : ArrayFields × List Node = (array_fields c.places.left, items_of c.places.left) in
    let i = c.places.at - 1 in
    let no : c.is_kept.result ≡ false = search rules in
    let next : suc i ≡ c.places.at = omega (arith, c.places-test.true) in
    let inside : i < length a.1 = omega (arith, c.places-test.true, c.places.invariant.within) in
    let removed = retains-next says a i c.places.at false left next inside
    (subst (λ b. MatchOption (value_at i a.1) (b ≡ true) (λ n. says n b)) no c.is_kept.ensures) c.places.invariant.left in
    record {
      within = omega (arith, c.places.invariant.within);
      left = subst (RetainsFrom says i a) (λ j. (sym c.in_ok-remove_line.ensures.fields j, sym c.in_ok-remove_line.ensures.items j)) removed;
    }

pub places-preserved : goal.places-preserved
places-preserved g c =
    let says = SaysOfValue g.F.Fn c.args.keep.now in
    let a : ArrayFields × List Node = (array_fields c.args.whole.now, items_of c.args.whole.now) in
    let left : ArrayFields × List Node = (array_fields c.places.left, items_of c.places.left) in
    let i = c.places.at - 1 in
    let yes : c.is_kept.result ≡ true = search rules in
    let next : suc i ≡ c.places.at = omega (arith, c.places-test.true) in
    let inside : i < length a.1 = omega (arith, c.places-test.true, c.places.invariant.within) in
    record {
      within = omega (arith, c.places.invariant.within);
      left = retains-next says a i c.places.at true left next inside
          (subst (λ b. MatchOption (value_at i a.1) (b ≡ true) (λ n. says n b)) yes c.is_kept.ensures) c.places.invariant.left;
    }
