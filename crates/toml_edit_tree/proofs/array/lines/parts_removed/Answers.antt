-- The parts are made of both gaps.
use Rattle.std.proofs.Common.{◌≡◌, ◌+◌, ◌++◌, [], ap, suc, ◌∙◌, append-nil, arith, leb, length, string_bytes, if◌then◌else◌}
use Rattle.std.specs.Prelude.{not, ◌==◌, ◌||◌}
use Rattle.toml_edit_model.specs.ArrayCalls.{removed_at}
use Rattle.toml_edit_model.specs.Comments.{side_text}
use Rattle.toml_edit_model.specs.Tree.{owned}
use Rattle.toml_edit_tree.specs.Elements.{array_fields, items_of}
use Rattle.toml_edit_tree.specs.ArrayLines.{before_comma, decor_taken, gap, gap_left, is_last, last_suffix, left_of, suffix_at}
use Rattle.toml_edit_tree.proofs.ArrayLineLaws.{last-tested}
use Rattle.toml_edit_tree.proofs.array.lines.parts_removed.Goals as goal

pub returns-clause-left : goal.returns-clause-left
returns-clause-left c =
    let f = array_fields c.args.array.now in
    let xs = items_of c.args.array.now in
    let at = c.args.at in
    let last : leb c.len-count.result (at + 1) ≡ is_last at xs = ap (λ n. leb n (at + 1)) c.len-count.ensures
    ∙ last-tested at (length xs) in
    let next : at + 1 ≡ suc at = omega arith in
    let before : c.as_str.result.now ≡ gap at f xs = c.as_str.ensures.value ∙ c.in_ok-before.ensures in
    let after : c.as_str-2.result.now ≡ gap (suc at) f xs = c.as_str-2.ensures.value ∙ c.in_ok-after.ensures ∙ ap (λ k. gap k f xs) next in
    let rest : c.as_str-3.result.now ≡ left_of (gap at f xs) (gap (suc at) f xs) (at == 0) (is_last at xs) =
    c.as_str-3.ensures.value ∙ c.in_ok-rest.ensures ∙ (λ i. left_of (before i) (after i) (at == 0) (last i)) in
    let front = if is_last at xs then last_suffix f (removed_at at xs) else [] in
    let left : string_bytes c.in_ok-left.left ≡ gap_left at f xs =
    c.in_ok-left.ensures ∙ (λ i. c.suffix_left.ensures i ++ (rest i ++ []))
    ∙ ap (λ t. front ++ t) (append-nil (left_of (gap at f xs) (gap (suc at) f xs) (at == 0) (is_last at xs))) in
    c.in_ok-from_string.ensures.ok ∙ ap owned left

pub returns-clause-decor : goal.returns-clause-decor
returns-clause-decor c =
    let f = array_fields c.args.array.now in
    let xs = items_of c.args.array.now in
    let at = c.args.at in
    let last : leb c.len-count.result (at + 1) ≡ is_last at xs = ap (λ n. leb n (at + 1)) c.len-count.ensures
    ∙ last-tested at (length xs) in
    let next : at + 1 ≡ suc at = omega arith in
    let before : c.as_str-4.result.now ≡ gap at f xs = c.as_str-4.ensures.value ∙ c.in_ok-before.ensures in
    let after : c.as_str-5.result.now ≡ gap (suc at) f xs = c.as_str-5.ensures.value ∙ c.in_ok-after.ensures ∙ ap (λ k. gap k f xs) next in
    let suffix : c.before_comma-suffix.result.now ≡ before_comma at f xs =
    c.before_comma-suffix.ensures ∙ ap (λ b. if f.comma || not b then side_text (suffix_at at xs) else []) last in
    c.in_ok-decor.ensures ∙ (λ i. decor_taken (before i) (suffix i) (after i) (at == 0))
