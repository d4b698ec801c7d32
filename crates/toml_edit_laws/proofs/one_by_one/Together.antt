-- Statements that are right one after another are right together, and those that are right together are right one after another.
use Rattle.std.proofs.Common.{◌≡◌, refl, sym, ◌∙◌, Bool, true, false, List, [], ◌∷◌, ◌++◌}
use Rattle.std.specs.Prelude.{◌&&◌, map}
use Rattle.std.specs.List.{list_all}
use Rattle.std.proofs.lemmas.List.Folds.{list_all-append, list_all-map}
use Rattle.toml_edit_model.specs.Syntax.{Document}
use Rattle.toml_edit_model.specs.Version.{Version, v1_1, is_of_version}
use Rattle.toml_edit_model.specs.Paths.{Mention, Source, Placed, placed}
use Rattle.toml_edit_model.specs.Accepted.{agree, all_agree, is_sound, is_sound_in, are_right_in, is_accepted}
use Rattle.toml_edit_laws.specs.OneByOne.{is_right_in, all_right_in, all_right_after, OneByOne}
use Rattle.toml_edit_laws.proofs.common.Tests.{and_left, and_right, and_both}
use Rattle.toml_edit_model.specs.Roles.{may_meet}

-- two tests that pass together
pub same_test : (a b : Bool) → (a ≡ true → b ≡ true) → (b ≡ true → a ≡ true) → a ≡ b
same_test true b f g = sym (f refl)
same_test false true f g = g refl
same_test false false f g = refl

abbrev pub agrees : Placed → Placed → Bool
agrees e s = agree may_meet e.mentions s.mentions

-- it agrees with each earlier one
abbrev pub agrees_with : List Placed → Placed → Bool
agrees_with earlier s = list_all (λ e. agrees e s) earlier

-- each agrees with each earlier one
abbrev pub cross : List Placed → List Placed → Bool
cross earlier places = list_all (agrees_with earlier) places

abbrev pub mentions_each : List Placed → List (List (Mention Source))
mentions_each places = map (λ s. s.mentions) places

one-more : (earlier : List Placed) (s r : Placed) → agrees_with (earlier ++ (s ∷ [])) r ≡ (agrees_with earlier r && (agrees s r && true))
one-more earlier s r = list_all-append (λ e. agrees e r) earlier (s ∷ [])

cross-parts : (earlier : List Placed) (s : Placed) (rest : List Placed) → cross (earlier ++ (s ∷ [])) rest ≡ true
    → (cross earlier rest ≡ true) × (list_all (agrees s) rest ≡ true)
cross-parts earlier s [] h = (refl, refl)
cross-parts earlier s (r ∷ rest) h =
    let here : (agrees_with earlier r && (agrees s r && true)) ≡ true = sym (one-more earlier s r)
    ∙ and_left (agrees_with (earlier ++ (s ∷ [])) r) (cross (earlier ++ (s ∷ [])) rest) h in
    let more = cross-parts earlier s rest (and_right (agrees_with (earlier ++ (s ∷ [])) r) (cross (earlier ++ (s ∷ [])) rest) h) in (
      and_both (agrees_with earlier r) (cross earlier rest) (and_left (agrees_with earlier r) (agrees s r && true) here) more.0,
      and_both (agrees s r) (list_all (agrees s) rest) (and_left (agrees s r) true (and_right (agrees_with earlier r) (agrees s r
          && true) here)) more.1,
    )

cross-whole : (earlier : List Placed) (s : Placed) (rest : List Placed) → cross earlier rest ≡ true → list_all (agrees s) rest ≡ true
    → cross (earlier ++ (s ∷ [])) rest ≡ true
cross-whole earlier s [] h g = refl
cross-whole earlier s (r ∷ rest) h g =
    and_both (agrees_with (earlier ++ (s ∷ [])) r) (cross (earlier ++ (s ∷ [])) rest)
    (one-more earlier s r
    ∙ and_both (agrees_with earlier r) (agrees s r && true) (and_left (agrees_with earlier r) (cross earlier rest) h)
    (and_both (agrees s r) true (and_left (agrees s r) (list_all (agrees s) rest) g) refl))
    (cross-whole earlier s rest (and_right (agrees_with earlier r) (cross earlier rest) h)
    (and_right (agrees s r) (list_all (agrees s) rest) g))

cross-none : (places : List Placed) → cross [] places ≡ true
cross-none [] = refl
cross-none (s ∷ rest) = cross-none rest

module _ (version : Version) where
  abbrev pub sound : Placed → Bool
  sound s = is_sound_in version s.source.statement

  pub together-of : (earlier places : List Placed) → all_right_in version earlier places ≡ true
      → (list_all sound places ≡ true) × (all_agree may_meet (mentions_each places) ≡ true) × (cross earlier places ≡ true)
  together-of earlier [] h = (refl, refl, refl)
  together-of earlier (s ∷ rest) h =
      let right = is_right_in version earlier s in
      let later = all_right_in version (earlier ++ (s ∷ [])) rest in
      let of_version = is_of_version version s.source.statement in
      let own = is_sound s.source.statement in
      let here : right ≡ true = and_left right later h in
      let parts : (own && agrees_with earlier s) ≡ true = and_right of_version (own && agrees_with earlier s) here in
      let more = together-of (earlier ++ (s ∷ [])) rest (and_right right later h) in
      let apart = cross-parts earlier s rest more.2 in (
        and_both (of_version && own) (list_all sound rest)
            (and_both of_version own (and_left of_version (own && agrees_with earlier s) here) (and_left own (agrees_with earlier s) parts))
            more.0,
        and_both (list_all (agree may_meet s.mentions) (mentions_each rest)) (all_agree may_meet (mentions_each rest))
            (list_all-map (agree may_meet s.mentions) (λ (r : Placed). r.mentions) rest ∙ apart.1) more.1,
        and_both (agrees_with earlier s) (cross earlier rest) (and_right own (agrees_with earlier s) parts) apart.0,
      )

  pub together-to : (earlier places : List Placed) → list_all sound places ≡ true → all_agree may_meet (mentions_each places) ≡ true
      → cross earlier places ≡ true
      → all_right_in version earlier places ≡ true
  together-to earlier [] a b c = refl
  together-to earlier (s ∷ rest) a b c =
      let of_version = is_of_version version s.source.statement in
      let own = is_sound s.source.statement in
      let here = and_left (of_version && own) (list_all sound rest) a in
      let agreed = list_all (agree may_meet s.mentions) (mentions_each rest) in
      let later : list_all (agrees s) rest ≡ true =
      sym (list_all-map (agree may_meet s.mentions) (λ (r : Placed). r.mentions) rest)
      ∙ and_left agreed (all_agree may_meet (mentions_each rest)) b in
      and_both (is_right_in version earlier s) (all_right_in version (earlier ++ (s ∷ [])) rest)
      (and_both of_version (own && agrees_with earlier s) (and_left of_version own here)
      (and_both own (agrees_with earlier s) (and_right of_version own here) (and_left (agrees_with earlier s) (cross earlier rest) c)))
      (together-to (earlier ++ (s ∷ [])) rest (and_right (of_version && own) (list_all sound rest) a)
      (and_right agreed (all_agree may_meet (mentions_each rest)) b)
      (cross-whole earlier s rest (and_right (agrees_with earlier s) (cross earlier rest) c) later))

  -- Statements are right together where they are right one after another.
  pub right-together : (places : List Placed) → are_right_in version places ≡ all_right_in version [] places
  right-together places =
      same_test (are_right_in version places) (all_right_in version [] places)
      (λ h. together-to [] places (and_left (list_all sound places) (all_agree may_meet (mentions_each places)) h)
      (and_right (list_all sound places) (all_agree may_meet (mentions_each places)) h) (cross-none places))
      (λ h. let (a, b, c) = together-of [] places h in and_both (list_all sound places) (all_agree may_meet (mentions_each places)) a b)

  pub one_by_one : OneByOne version
  one_by_one d = right-together (placed d)

-- The same of documents in TOML 1.1.
pub accepted-is : (d : Document) → is_accepted d ≡ all_right_after [] (placed d)
unfolding is_accepted
accepted-is d = right-together v1_1 (placed d)

pub accepted-right : (d : Document) → is_accepted d ≡ true → all_right_after [] (placed d) ≡ true
accepted-right d h = sym (accepted-is d) ∙ h

pub right-accepted : (d : Document) → all_right_after [] (placed d) ≡ true → is_accepted d ≡ true
right-accepted d h = accepted-is d ∙ h
