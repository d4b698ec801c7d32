-- The bytes from the start on, so many, are a text.
use Rattle.std.proofs.Common.{◌≡◌, ◌+◌, ◌-◌, take, drop, string_bytes, arith, ap, sym, subst, ◌∙◌, IsUtf8}
use Rattle.std.proofs.lemmas.Str.{IsUtf8-had}
use Rattle.std.specs.Arc.{arc_value}
use Rattle.toml_edit_text.proofs.shared_text.part_of.Goals as goal

pub from_utf8_unchecked-requires : goal.from_utf8_unchecked-requires
from_utf8_unchecked-requires c =
    let start = c.args.start in
    let len = c.args.len in
    let bs = c.as_bytes-bytes.result.now in
    let same : bs ≡ string_bytes (arc_value c.args.text.now) = c.as_bytes-bytes.ensures.value ∙ ap string_bytes c.deref.ensures in
    let so_many : len ≡ start + len - start = omega arith in
    subst IsUtf8 (ap (λ t. take len (drop start t)) (sym same) ∙ ap (λ n. take n (drop start bs)) so_many) (IsUtf8-had _ c.requires.utf8)
