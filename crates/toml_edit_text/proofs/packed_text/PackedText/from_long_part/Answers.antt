-- The part between two boundaries of characters is a text.
use Rattle.std.proofs.Common.{◌≡◌, string_bytes, arith, rules, subst}
use Rattle.std.proofs.lemmas.Str.{IsUtf8-between, IsUtf8-string_bytes}
use Rattle.std.specs.Arc.{arc_value}
use Rattle.std.specs.Str.{IsCharBoundary}
use Rattle.toml_edit_text.proofs.packed_text.PackedText.from_long_part.Goals as goal

pub invariant_of-result : goal.invariant_of-result
invariant_of-result c =
    let bs = string_bytes (arc_value c.in-Ok.text) in
    let same : c.args.source.now ≡ bs = search rules in
    let from = subst (λ t. IsCharBoundary t c.args.start) same c.requires.start in
    let to = subst (λ t. IsCharBoundary t c.args.end) same c.requires.end in
    record {
      inside = omega (arith, c.requires.order, to.0);
      utf8 = ∣ IsUtf8-between bs c.args.start c.args.end (IsUtf8-string_bytes (arc_value c.in-Ok.text)) c.requires.order from to ∣₁;
    }
