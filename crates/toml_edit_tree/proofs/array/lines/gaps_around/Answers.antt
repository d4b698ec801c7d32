-- A value with lines of its own is between the gaps that are made of these texts.
use Rattle.std.proofs.Common.{◌≡◌, ◌++◌, [], true, ap, sym, ◌∙◌, length, string_bytes, if◌then◌else◌}
use Rattle.std.specs.Prelude.{nat_lt, not}
use Rattle.toml_edit_model.specs.Comments.{after_first_line, first_line}
use Rattle.toml_edit_model.specs.Tree.{owned}
use Rattle.toml_edit_tree.specs.ArrayLines.{broken_gap, gap, indent_at, is_broken, newline_at, takes_lines, text_above, text_after}
use Rattle.toml_edit_tree.specs.Elements.{array_fields, items_of}
use Rattle.toml_edit_tree.proofs.ArrayLineLaws.{around-lines}
use Rattle.toml_edit_tree.proofs.array.lines.gaps_around.Goals as goal

pub returns-then-takes_lines-clause-before : goal.returns-then-takes_lines-clause-before
returns-then-takes_lines-clause-before c =
    let f = array_fields c.args.array.now in
    let xs = items_of c.args.array.now in
    let at = c.args.at in
    let d = c.args.decor.now in
    let is_end = not (nat_lt at (length xs)) in
    let end : c.newline_at-newline.result.now ≡ newline_at (gap at f xs) f xs =
    c.newline_at-newline.ensures ∙ ap (λ t. newline_at t f xs) (c.as_str.ensures.value ∙ c.in_ok-gap.ensures) in
    let indent : c.indent_at-indent.result.now ≡ indent_at at xs = c.indent_at-indent.ensures in
    let above : string_bytes c.in_ok-above.above ≡ text_above (newline_at (gap at f xs) f xs) (indent_at at xs) d =
    c.in_ok-above.ensures ∙ (λ i. text_above (end i) (indent i) d) in
    let after : string_bytes c.in_ok-after.after ≡ text_after (newline_at (gap at f xs) f xs) (indent_at at xs) d =
    c.in_ok-after.ensures ∙ (λ i. text_after (end i) (indent i) d) in
    let is : takes_lines (gap at f xs) (text_above (newline_at (gap at f xs) f xs) (indent_at at xs) d)
    (text_after (newline_at (gap at f xs) f xs) (indent_at at xs) d) ≡ true =
    sym (λ i. takes_lines ((c.as_str-2.ensures.value ∙ c.in_ok-gap.ensures) i) ((c.as_str-3.ensures.value ∙ above) i)
    ((c.as_str-4.ensures.value ∙ after) i))
    ∙ (sym c.takes_lines.ensures ∙ c.if-takes_lines.true) in
    let here : c.as_str-then-takes_lines.result.now ≡ gap at f xs = c.as_str-then-takes_lines.ensures.value ∙ c.in_ok-gap.ensures in
    let next : c.next_indent-next.result.now ≡ (if is_end then [] else indent_at at xs) =
    c.next_indent-next.ensures ∙ ap (λ t. if is_end then [] else t) indent in
    let broken : c.as_str-then-takes_lines-2.result.now
    ≡ broken_gap (gap at f xs) (newline_at (gap at f xs) f xs) (indent_at at xs) is_end =
    c.as_str-then-takes_lines-2.ensures.value ∙ (c.in_ok-broken.ensures ∙ (λ i. if is_broken (here i) then here i else end i ++ next i)) in
    c.in_ok-gaps.ensures.before
    ∙ (λ i. owned (first_line (broken i) ++ ((c.as_str-then-takes_lines-3.ensures.value ∙ above) i ++ (end i ++ indent i))))
    ∙ ap (λ p. owned p.0) (sym (around-lines at d f xs is))

pub returns-then-takes_lines-clause-after : goal.returns-then-takes_lines-clause-after
returns-then-takes_lines-clause-after c =
    let f = array_fields c.args.array.now in
    let xs = items_of c.args.array.now in
    let at = c.args.at in
    let d = c.args.decor.now in
    let is_end = not (nat_lt at (length xs)) in
    let end : c.newline_at-newline.result.now ≡ newline_at (gap at f xs) f xs =
    c.newline_at-newline.ensures ∙ ap (λ t. newline_at t f xs) (c.as_str.ensures.value ∙ c.in_ok-gap.ensures) in
    let indent : c.indent_at-indent.result.now ≡ indent_at at xs = c.indent_at-indent.ensures in
    let above : string_bytes c.in_ok-above.above ≡ text_above (newline_at (gap at f xs) f xs) (indent_at at xs) d =
    c.in_ok-above.ensures ∙ (λ i. text_above (end i) (indent i) d) in
    let after : string_bytes c.in_ok-after.after ≡ text_after (newline_at (gap at f xs) f xs) (indent_at at xs) d =
    c.in_ok-after.ensures ∙ (λ i. text_after (end i) (indent i) d) in
    let is : takes_lines (gap at f xs) (text_above (newline_at (gap at f xs) f xs) (indent_at at xs) d)
    (text_after (newline_at (gap at f xs) f xs) (indent_at at xs) d) ≡ true =
    sym (λ i. takes_lines ((c.as_str-2.ensures.value ∙ c.in_ok-gap.ensures) i) ((c.as_str-3.ensures.value ∙ above) i)
    ((c.as_str-4.ensures.value ∙ after) i))
    ∙ (sym c.takes_lines.ensures ∙ c.if-takes_lines.true) in
    let here : c.as_str-then-takes_lines.result.now ≡ gap at f xs = c.as_str-then-takes_lines.ensures.value ∙ c.in_ok-gap.ensures in
    let next : c.next_indent-next.result.now ≡ (if is_end then [] else indent_at at xs) =
    c.next_indent-next.ensures ∙ ap (λ t. if is_end then [] else t) indent in
    let broken : c.as_str-then-takes_lines-2.result.now
    ≡ broken_gap (gap at f xs) (newline_at (gap at f xs) f xs) (indent_at at xs) is_end =
    c.as_str-then-takes_lines-2.ensures.value ∙ (c.in_ok-broken.ensures ∙ (λ i. if is_broken (here i) then here i else end i ++ next i)) in
    c.in_ok-gaps.ensures.after
    ∙ (λ i. owned ((c.as_str-then-takes_lines-4.ensures.value ∙ after) i ++ after_first_line (broken i)))
    ∙ ap (λ p. owned p.1) (sym (around-lines at d f xs is))
