-- An integer in range is the scalar that the text spells.
use Rattle.std.proofs.Common.{w64, to_z, of_z, ◌≡◌, ℤ, Option, Some, sym, ap, subst, ◌∙◌, rules}
use Rattle.std.specs.Prelude.{option_map, IfOk}
use Rattle.toml_edit_model.specs.Scalars as scalars
use Rattle.toml_edit_token.specs.Decoded.{scalar_view}
use Rattle.toml_edit_token.proofs.Decoding.{scalar_known}
use Rattle.toml_edit_token.proofs.decode.read_scalar.Goals as goal

pub returns-in-Some : goal.returns-in-Some
returns-in-Some c =
    let t = c.args.text.now in
    let z = c.in-Some.integer in
    let own : to_z w64 (of_z w64 z) ≡ z = search rules in
    let known = ap (λ (y : ℤ). Some (scalars.integer y)) own ∙ sym (scalar_known t (scalars.integer z) c.in-Some.ensures.found) in
    subst (λ (o : Option scalars.Scalar). IfOk c.integer_read.result (λ r. option_map scalar_view r ≡ o)) known c.integer_read.ensures
