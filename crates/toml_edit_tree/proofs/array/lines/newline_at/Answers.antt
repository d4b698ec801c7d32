-- The first gap with a newline is the one at the place.
use Rattle.std.proofs.Common.{◌≡◌, ◌<◌, ◌+◌, ◌∷◌, ◌++◌, [], Some, Bool, true, false, ap, sym, ◌∙◌, arith, drop, length, if◌then◌else◌}
use Rattle.toml_edit_model.specs.Comments.{side_text}
use Rattle.toml_edit_tree.specs.ArrayLines.{first_newline, is_broken, last_suffix, newline_at, newline_in, prefix_at, prefixes}
use Rattle.toml_edit_tree.specs.Elements.{array_fields, items_of}
use Rattle.toml_edit_tree.proofs.ArrayLineLaws.{newline-next}
use Rattle.toml_edit_tree.proofs.array.lines.newline_at.Goals as goal

pub returns-then-is_broken-2 : goal.returns-then-is_broken-2
returns-then-is_broken-2 c =
    let f = array_fields c.args.array.now in
    let xs = items_of c.args.array.now in
    let ts = last_suffix f xs ∷ side_text (Some f.trailing) ∷ [] in
    let g = c.args.gap.now in
    let at = c.loop-at.at in
    let inside : at < length xs = omega (arith, c.loop-at-test.true, c.len-count.ensures) in
    let text : c.text_of-before.result.now ≡ side_text (prefix_at at xs) = c.text_of-before.ensures ∙ ap side_text c.prefix_at.ensures in
    let broken : is_broken (side_text (prefix_at at xs)) ≡ true = ap is_broken (sym text)
    ∙ (sym c.is_broken-in-loop-at.ensures ∙ c.if-is_broken-2.true) in
    let whole : newline_at g f xs ≡ newline_in (prefixes xs ++ ts) =
    ap (λ (b : Bool). if b then first_newline g else newline_in (prefixes xs ++ ts)) (sym c.is_broken.ensures ∙ c.if-is_broken.false) in
    let here : newline_in (drop at (prefixes xs) ++ ts) ≡ first_newline (side_text (prefix_at at xs)) =
    newline-next xs ts at inside
    ∙ ap (λ (b : Bool). if b then first_newline (side_text (prefix_at at xs)) else newline_in (drop (at + 1) (prefixes xs) ++ ts)) broken in
    c.first_newline-then-is_broken-2.ensures ∙ ap first_newline text ∙ sym here ∙ sym c.loop-at.invariant ∙ sym whole

pub loop-at-preserved : goal.loop-at-preserved
loop-at-preserved c =
    let f = array_fields c.args.array.now in
    let xs = items_of c.args.array.now in
    let ts = last_suffix f xs ∷ side_text (Some f.trailing) ∷ [] in
    let at = c.loop-at.at in
    let inside : at < length xs = omega (arith, c.loop-at-test.true, c.len-count.ensures) in
    let text : c.text_of-before.result.now ≡ side_text (prefix_at at xs) = c.text_of-before.ensures ∙ ap side_text c.prefix_at.ensures in
    let whole : is_broken (side_text (prefix_at at xs)) ≡ false = ap is_broken (sym text)
    ∙ (sym c.is_broken-in-loop-at.ensures ∙ c.if-is_broken-2.false) in
    c.loop-at.invariant ∙ newline-next xs ts at inside
    ∙ ap (λ (b : Bool). if b then first_newline (side_text (prefix_at at xs)) else newline_in (drop (at + 1) (prefixes xs) ++ ts)) whole
