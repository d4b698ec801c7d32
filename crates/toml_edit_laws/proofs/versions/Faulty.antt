-- The first faulty statement, in each version, has a fault.
use Rattle.std.proofs.Common.{◌≡◌, refl, sym, ◌∙◌, ap, subst, ℕ, Bool, true, false, List, [], ◌∷◌, ◌++◌, inl}
use Rattle.std.specs.Prelude.{◌&&◌, not, map, Contains}
use Rattle.std.proofs.lemmas.List.Elements.{Contains-append_right}
use Rattle.toml_edit_model.specs.Text.{is_empty}
use Rattle.toml_edit_model.specs.Syntax.{Statement}
use Rattle.toml_edit_model.specs.Version.{v1_0, v1_1, is_late_statement, Place, late_places}
use Rattle.toml_edit_model.specs.Paths.{Placed}
use Rattle.toml_edit_model.specs.Accepted.{IsFirstFaulty}
use Rattle.toml_edit_model.specs.Faults.{Fault, fault, needs_message, faults_in, faults_of, late_faults}
use Rattle.toml_edit_laws.specs.OneByOne.{is_right_after, is_right_in}
use Rattle.toml_edit_laws.specs.Versions.{FaultsInVersions}
use Rattle.toml_edit_laws.proofs.common.Members.{to-contained}
use Rattle.toml_edit_laws.proofs.one_by_one.Together.{right-together}
use Rattle.toml_edit_laws.proofs.one_by_one.FirstFaulty.{wrong_here, wrong_there}
use Rattle.toml_edit_laws.proofs.building.FirstFaults.{faults_of_first}
use Rattle.toml_edit_laws.proofs.versions.LatePlaces.{late-have-places}
use Rattle.toml_edit_laws.proofs.versions.Accepting.{all-later}

-- a late statement has a late part
some-late : (i : ℕ) (s : Statement) → is_late_statement s ≡ true → (p : Place) × (rest : List Place) × (late_places i s ≡ p ∷ rest)
some-late i s e = by_places (late_places i s) refl
  where
    by_places : (ps : List Place) → late_places i s ≡ ps → (p : Place) × (rest : List Place) × (late_places i s ≡ p ∷ rest)
    by_places [] is = (let clash : true ≡ false = sym (ap is_empty is) ∙ late-have-places i s ∙ ap not e in absurd cc)
    by_places (p ∷ rest) is = (p, rest, is)

late-fault : (earlier : List Placed) (s : Placed) → is_late_statement s.source.statement ≡ true → (f : Fault)
    × Contains (faults_of v1_0 earlier s) f
late-fault earlier s e =
    let found = some-late s.source.start s.source.statement e in
    let fault_at : Place → Fault = λ p. fault needs_message p.0 p.1 in
    let f : Fault = fault_at found.0 in (
      f,
      subst (λ ps. Contains (map fault_at ps ++ faults_in earlier s) f) (sym found.2)
          (to-contained f (f ∷ (map fault_at found.1 ++ faults_in earlier s)) (inl refl)),
    )

pub faults_in_versions : FaultsInVersions
faults_in_versions v1_1 d earlier s h = (faults_of_first d).some earlier s h
faults_in_versions v1_0 d earlier s h = by_test (is_late_statement s.source.statement) refl
  where
    by_test : (b : Bool) → is_late_statement s.source.statement ≡ b → (f : Fault) × Contains (faults_of v1_0 earlier s) f
    by_test true e = late-fault earlier s e
    by_test false e =
        let wrong : is_right_in v1_1 earlier s ≡ false = sym (ap (λ b. not b && is_right_after earlier s) e)
        ∙ wrong_here v1_0 earlier s h.right h.faulty in
        let first : IsFirstFaulty d earlier s =
        record {
          later = h.later;
          split = h.split;
          right = right-together v1_1 earlier ∙ all-later [] earlier (sym (right-together v1_0 earlier) ∙ h.right);
          faulty = wrong_there v1_1 earlier s wrong;
        } in
        let found = (faults_of_first d).some earlier s first in
        (found.0, Contains-append_right (late_faults v1_0 s.source.start s.source.statement) (faults_in earlier s) found.0 found.1)
