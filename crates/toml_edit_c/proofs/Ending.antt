-- How a command ends.
use Rattle.std.proofs.Common.{◌≡◌, ◌≤◌, ◌∙◌, ap, subst, refl, Bool, true, false, ℕ, zero, suc, List, [], Some, arith, inl, inr}
use Rattle.std.specs.Prelude.{◌⊎◌}
use Rattle.toml_edit_model.specs.Text.{Text}
use Rattle.toml_edit_command.specs.Run.{Does, OutputChange, TellsMistake, TellsRefusal}
use Rattle.toml_edit_command.specs.Words.{Request, SaysAction}
use Rattle.toml_edit_c.specs.Runs.{Ends, filled}

abbrev change : List ℕ → List ℕ → Bool → OutputChange
change old new failed = record { old = Some old; new = Some new; failed = failed }

-- an output that was empty and has not failed
is-filled : (old new : List ℕ) (failed : Bool) → old ≡ [] → failed ≡ false → change old new failed ≡ filled new
is-filled old new failed empty works = ap (λ o. change o new failed) empty ∙ ap (λ b. change [] new b) works

-- an output that has not grown
is-empty : (old new : List ℕ) → old ≡ [] → Some new ≡ Some old → new ≡ []
is-empty old new empty same = let e : new ≡ old = cc in e ∙ empty

has-not : (b : Bool) → (b ≡ true → ⊥) → b ≡ false
has-not false none = refl
has-not true none = absurd (none refl)

-- so it ends, by what the run of `tomled` says of its status and its outputs
pub ends-by : (q : Request) (input : Text) (status : ℕ) (out_old out_new err_old err_new : List ℕ) (out_failed err_failed : Bool)
    → out_old ≡ [] → err_old ≡ [] → err_failed ≡ false → status ≤ 2 → (out_failed ≡ true → status ≡ 4)
    → (status ≡ 0 → Does q (Some input) (change out_old out_new out_failed)) → (status ≡ 0 → err_new ≡ err_old)
    → (status ≡ 1 → TellsRefusal q (Some input) (change err_old err_new err_failed))
    → (status ≡ 2 → TellsMistake q (Some input) (change err_old err_new err_failed))
    → ((status ≡ 0) ⊎ (status ≡ 1) ⊎ (status ≡ 4) → SaysAction q)
    → ((status ≡ 1) ⊎ (status ≡ 2) ⊎ (status ≡ 3) → Some out_new ≡ Some out_old)
    → Ends q input status out_new err_new
ends-by q input zero out_old out_new err_old err_new out_failed err_failed empty none works low failed done quiet refused mistaken said unwritten =
    let sound : out_failed ≡ false = has-not out_failed (λ is. absurd (let four = failed is in omega (arith, four))) in
    inl (refl, subst (Does q (Some input)) (is-filled out_old out_new out_failed empty sound) (done refl), quiet refl ∙ none)
ends-by q input (suc zero) out_old out_new err_old err_new out_failed err_failed empty none works low failed done quiet refused mistaken said unwritten =
    inr (inl (
      refl,
      said (inr (inl refl)),
      subst (TellsRefusal q (Some input)) (is-filled err_old err_new err_failed none works) (refused refl),
      is-empty out_old out_new empty (unwritten (inl refl)),
    ))
ends-by q input (suc (suc zero)) out_old out_new err_old err_new out_failed err_failed empty none works low failed done quiet refused mistaken said unwritten =
    inr (inr (
      refl,
      subst (TellsMistake q (Some input)) (is-filled err_old err_new err_failed none works) (mistaken refl),
      is-empty out_old out_new empty (unwritten (inr (inl refl))),
    ))
ends-by q input (suc (suc (suc n))) out_old out_new err_old err_new out_failed err_failed empty none works low failed done quiet refused mistaken said unwritten =
    absurd (omega (arith, low))
