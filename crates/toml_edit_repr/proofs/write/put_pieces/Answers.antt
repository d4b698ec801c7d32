-- Each turn puts what stands before a carriage return.
use Rattle.std.proofs.Common.{◌≡◌, [], ◌++◌, refl, ap, sym, ◌∙◌, rules, append_assoc}
use Rattle.toml_edit_model.specs.Text.{without_returns}
use Rattle.toml_edit_io.proofs.Puts.{put_none, put_two}
use Rattle.toml_edit_repr.proofs.write.put_pieces.Goals as goal

pub pieces-init : goal.pieces-init
pieces-init g c = (search rules, [], put_none _ _ refl, refl)

pub pieces-preserved : goal.pieces-preserved
pieces-preserved g c =
    let (_, done, wrote, more) = c.pieces.invariant in
    let parts : without_returns c.pieces.rest.now ≡ c.in-Some.piece.now ++ without_returns c.in-Some.after.now =
    c.in-Some.ensures.parts in (
      search rules,
      done ++ c.in-Some.piece.now,
      put_two _ _ _ _ _ _ wrote c.put.ensures refl,
      append_assoc done c.in-Some.piece.now (without_returns c.in-Some.after.now) ∙ ap (λ t. done ++ t) (sym parts) ∙ more,
    )

pub returns : goal.returns
returns g c =
    let (_, done, wrote, more) = c.pieces.invariant in
    let none : without_returns c.pieces.rest.now ≡ c.pieces.rest.now = c.in_default.ensures.parts in
    put_two _ _ _ _ _ _ wrote c.put-2.ensures (ap (λ t. done ++ t) (sym none) ∙ more)
