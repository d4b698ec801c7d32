-- A name is bare if nothing is left of it after the bytes of bare keys.
use Rattle.std.proofs.Common.{◌≡◌, refl, sym, ap, ◌∙◌, ◌==◌, ◌&&◌, [], ◌∷◌, length, arith}
use Rattle.std.specs.Prelude.{not}
use Rattle.std.proofs.lemmas.Bool.Decides.{nat_tests}
use Rattle.std.specs.List.{list_all}
use Rattle.toml_edit_model.specs.Spelling.{is_bare_byte}
use Rattle.toml_edit_model.specs.Text.{Text, is_empty}
use Rattle.toml_edit_fmt.proofs.PathLaws.{left-empty}
use Rattle.toml_edit_fmt.proofs.path.can_be_bare.Goals as goal

empty-is : (t : Text) → (length t == 0) ≡ is_empty t
empty-is [] = refl
empty-is (c ∷ t) = grind (arith, nat_tests)

pub returns-then-not-is_empty : goal.returns-then-not-is_empty
returns-then-not-is_empty c =
    let name = c.args.name.now in
    c.is_empty-then-not-is_empty.ensures ∙ empty-is c.split_run.result.1.now ∙ ap (λ p. is_empty p.1) c.split_run.ensures.parts
    ∙ left-empty is_bare_byte name
    ∙ ap (λ b. not b && list_all is_bare_byte name) (sym c.if-not-is_empty.true ∙ c.is_empty.ensures ∙ empty-is name)
