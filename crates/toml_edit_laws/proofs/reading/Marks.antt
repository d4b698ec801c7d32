-- A byte order mark is one character.
use Rattle.std.proofs.Common.{◌≡◌, true, ◌==◌, ◌&&◌, [], ◌∷◌, slice_index, IsUtf8, arith}
use Rattle.std.specs.Str.{IsCharBoundary}
use lib.Utf8.{encode}
use Rattle.std.proofs.lemmas.Bool.{false≢true}
use Rattle.std.proofs.lemmas.Bool.Decides.{nat_tests}
use Rattle.std.proofs.lemmas.Str.{IsCharBoundary-past_char}
use Rattle.toml_edit_model.specs.Text.{Text}
use Rattle.toml_edit_laws.specs.reading.Runs.{first}

pub bom_boundary : (s : Text) → IsUtf8 s → ((first s == 0xEF && slice_index s 1 == 0xBB) && slice_index s 2 == 0xBF) ≡ true
    → IsCharBoundary s 3
unfolding encode
bom_boundary [] utf8 h = absurd (false≢true h)
bom_boundary (a ∷ []) utf8 h = absurd (grind (arith, nat_tests))
bom_boundary (a ∷ b ∷ []) utf8 h = absurd (grind (arith, nat_tests))
bom_boundary (a ∷ b ∷ c ∷ rest) utf8 h =
    let first_is : a ≡ 0xEF = grind (arith, nat_tests) in
    let second_is : b ≡ 0xBB = grind (arith, nat_tests) in
    let third_is : c ≡ 0xBF = grind (arith, nat_tests) in
    IsCharBoundary-past_char (a ∷ b ∷ c ∷ rest) rest 0 0xFEFF (omega arith) utf8 (rw (first_is, second_is, third_is))
