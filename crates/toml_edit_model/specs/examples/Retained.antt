-- A worked list of what `retain` leaves, and one that it does not leave.
use Rattle.std.specs.Prelude.{◌≡◌, refl, ℕ, Bool, true, false, ◌==◌, List, [], ◌∷◌, slice_index}
use Rattle.std.proofs.Common.{sym, ap, ◌∙◌}
use Rattle.std.proofs.lemmas.Bool.{false≢true}
use Rattle.toml_edit_model.specs.Retaining.{RetainsBy}

-- the closure keeps the number 2 alone
abbrev keeps_two : ℕ → Bool → Type 0
keeps_two n keeps = (n == 2) ≡ keeps

leaves_two : RetainsBy keeps_two (1 ∷ 2 ∷ 3 ∷ []) (2 ∷ [])
leaves_two = (false, 2 ∷ [], refl, (true, [], refl, (false, [], refl, refl, refl), refl), refl)

leaves_no_one : RetainsBy keeps_two (1 ∷ 2 ∷ []) (1 ∷ []) → ⊥
leaves_no_one (true, rest, answer, more, is) = false≢true answer
leaves_no_one (false, rest, answer, (false, none, also, more, behind), is) = false≢true (sym also)
leaves_no_one (false, rest, answer, (true, none, also, more, behind), is) =
    false≢true (sym (ap (λ (l : List ℕ). slice_index l 0 == 1) (is ∙ behind)))

-- whatever it returns: one number twice, of which one is left
abbrev keeps_any : ℕ → Bool → Type 0
keeps_any n keeps = Unit {0}

leaves_one_of_two : RetainsBy keeps_any (1 ∷ 1 ∷ []) (1 ∷ [])
leaves_one_of_two = (true, [], tt, (false, [], tt, refl, refl), refl)
