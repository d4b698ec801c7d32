-- The last value loses its suffix, and the new one comes after it.
use Rattle.std.proofs.Common.{◌≡◌, ◌-◌, ◌++◌, [], false, true, None, ap, append_assoc, sym, ◌∙◌, if◌then◌else◌, length, refl, rules}
use Rattle.std.proofs.Common.{string_bytes}
use Rattle.std.specs.Str.{trim_end}
use Rattle.toml_edit.specs.model.ArrayCalls.{pushed, value_at}
use Rattle.toml_edit.specs.model.Conversions.{with_decor}
use Rattle.toml_edit.specs.model.Scalars.{string}
use Rattle.toml_edit.specs.model.Slots.{changed_at}
use Rattle.toml_edit.specs.model.Text.{newline}
use Rattle.toml_edit.specs.model.Tree.{Node, leaf, owned}
use Rattle.toml_edit.specs.tree.Casts.{both_sides}
use Rattle.toml_edit.specs.tree.Elements.{array_fields, items_of}
use Rattle.toml_edit.specs.tree.View.{value_view}
use Rattle.example_calls.specs.Lines.{after_last, before_last, indent_of, line_prefix, side_text, without_suffix}
use Rattle.example_calls.proofs.LineLaws.{suffix-pushed}
use Rattle.example_calls.proofs.adding.push_line.Goals as goal
use Rattle.example_calls.proofs.adding.push_line.Goals.{then-not-trailing_comma, else-not-trailing_comma}

pub returns-clause-items : goal.returns-clause-items
returns-clause-items c =
    let f = array_fields c.args.array.now in
    let xs = items_of c.args.array.now in
    let at = length xs - 1 in
    let v : Node = leaf (string c.args.text.now) None (both_sides (owned (line_prefix f (value_at at xs))) (owned [])) in
    let last : items_of c.set_trailing.new.self ≡ items_of c.if-not-trailing_comma.array = search rules in
    let value = value_at at xs in
    let comment : c.trim_end-comment.result.now ≡ trim_end (side_text (after_last f value)) =
    c.trim_end-comment.ensures.trim ∙ ap trim_end (c.text_of.ensures ∙ ap side_text c.after_last.ensures) in
    let indent : c.indent_of-indent.result.now ≡ indent_of (side_text (before_last value)) =
    c.indent_of-indent.ensures ∙ ap indent_of (c.text_of-2.ensures ∙ ap side_text c.before_last.ensures) in
    let bytes : string_bytes c.in_ok-format.field-0 ≡ c.trim_end-comment.result.now ++ newline ++ c.indent_of-indent.result.now =
    c.in_ok-format.ensures.ok ∙ sym (append_assoc c.trim_end-comment.result.now newline c.indent_of-indent.result.now) in
    let prefix : c.in_ok-prefix.prefix ≡ owned (line_prefix f value) = c.in_ok-prefix.ensures.ok
    ∙ ap owned (bytes ∙ (λ i. comment i ++ newline ++ indent i)) in
    let seen : value_view c.decorated-value.result ≡ v =
    c.decorated-value.ensures ∙ (λ i. with_decor (both_sides (prefix i) (c.default.ensures i)) (c.in_ok-string.ensures i)) in
    let added : items_of c.push.new.self ≡ pushed (value_view c.decorated-value.result) xs = search rules in
    let pushed_is : items_of c.push.new.self ≡ pushed v xs = added ∙ ap (λ n. pushed n xs) seen in
    let comma : c.trailing_comma.result ≡ f.comma = search rules in
    last
    ∙ elim c.if-not-trailing_comma.branch [
      | then-not-trailing_comma w ↦
          let off : f.comma ≡ false = sym comma ∙ search rules in
          let place : w.saturating_sub.result ≡ at = search rules in
          ap items_of w.array-is ∙ w.clear_suffix.ensures.items ∙ (λ i. changed_at (place i) without_suffix (pushed_is i))
          ∙ suffix-pushed v xs refl
          ∙ ap (λ b. pushed v (if b then xs else changed_at at without_suffix xs)) (sym off)
      | else-not-trailing_comma w ↦
          let on : f.comma ≡ true = sym comma ∙ search rules in
          ap items_of w.array-is ∙ pushed_is ∙ ap (λ b. pushed v (if b then xs else changed_at at without_suffix xs)) (sym on)
    ]
