use Rattle.std.proofs.Common.{ℕ, leb, cond, bit_and, refl, arith}
use Rattle.std.proofs.lemmas.Simd.{zip2_splat, splat_is_map, length-chunk}
use lib.Lanes.{chunk}
use Rattle.toml_edit_model.specs.Spelling.{is_bare_byte}
use Rattle.toml_edit_token.proofs.LaneLaws.{joined, passes_in}
use Rattle.toml_edit_token.proofs.lanes.bare_run_half.Goals as goal

pub returns : goal.returns
returns c =
    let v = chunk c.args.at 8 c.args.bytes.now in
    let long = length-chunk c.args.at 8 c.args.bytes.now c.requires in
    let letters = joined (λ a b. cond (leb a b) 255 0) _ _ v (splat_is_map v 8 26 long)
    (joined _ _ _ v (zip2_splat {Y = ℕ} _ v 8 32 long) (splat_is_map v 8 97 long)) in
    let digits = joined (λ a b. cond (leb a b) 255 0) _ _ v (splat_is_map v 8 10 long) (zip2_splat {Y = ℕ} _ v 8 48 long) in
    passes_in is_bare_byte c.args.bytes.now c.args.at 8 _ _ c.requires (omega arith) c.type_inv.bytes c.first_set.ensures _
    (joined bit_and _ _ v (joined bit_and _ _ v (joined bit_and _ _ v letters digits) (zip2_splat {Y = ℕ} _ v 8 45 long)) (zip2_splat {Y =
    ℕ} _ v 8 95 long)) refl
