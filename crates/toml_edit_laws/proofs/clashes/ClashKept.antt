-- The slot of a key is kept from its plain header, else from its first mention.
use Rattle.std.proofs.Common.{◌≡◌, refl, sym, ◌∙◌, ap, subst, Bool, true, false, List, [], ◌∷◌, ◌++◌, Option, Some, None, inl, inr}
use Rattle.std.specs.Prelude.{◌⊎◌, ◌&&◌, ◌||◌, not, if◌then◌else◌, find, is_some}
use Rattle.std.specs.List.{AllByRecursion}
use Rattle.toml_edit_model.specs.Text.{Text, same_text}
use Rattle.toml_edit_model.specs.Paths.{at_key, Path, same_path, Mention}
use Rattle.toml_edit_laws.proofs.common.Tests.{and_left, and_right, same_text-refl}
use Rattle.toml_edit_laws.proofs.mentions.GatherLaws.{some_at-first, is_of_key, first_of_key, first_at}
use Rattle.toml_edit_laws.proofs.common.PathLaws.{same_path-is}
use Rattle.toml_edit_laws.proofs.mentions.SomeAt.{some_at-append}
use Rattle.toml_edit_laws.proofs.mentions.Named.{AreNamed, other-key, named-at}
use Rattle.toml_edit_model.specs.Roles.{Role, is_header_role, any_role}
use Rattle.toml_edit_model.specs.TableMentions.{some_at, is_single, is_slot, kept_from, kept}
use Rattle.std.specs.Option.{option_or}

-- ---- what a search finds

pub find-holds : {A : Type 0} (test : A → Bool) (xs : List A) (x : A) → find test xs ≡ Some x → test x ≡ true
find-holds test [] x h = absurd cc
find-holds {A} test (y ∷ ys) x h = by_test (test y) refl h (find-holds test ys x)
  where
    by_test : (b : Bool) → test y ≡ b → (if b then Some y else find test ys) ≡ Some x → (find test ys ≡ Some x → test x ≡ true) → test x
        ≡ true
    by_test true e h ih = let here : y ≡ x = cc in subst (λ z. test z ≡ true) here e
    by_test false e h ih = ih h

pub find-all : {A : Type 0} (P : A → Type 0) (test : A → Bool) (xs : List A) (x : A) → AllByRecursion P xs → find test xs ≡ Some x → P x
find-all P test [] x all h = absurd cc
find-all {A} P test (y ∷ ys) x all h = by_test (test y) h (find-all P test ys x all.1)
  where
    by_test : (b : Bool) → (if b then Some y else find test ys) ≡ Some x → (find test ys ≡ Some x → P x) → P x
    by_test true h ih = let here : y ≡ x = cc in subst P here all.0
    by_test false h ih = ih h

-- the first mention at a path that passes
abbrev pub first_such : {S : Type 0} → (Role → Bool) → Path → List (Mention S) → Option (Mention S)
first_such test p ms = find (λ m. same_path m.path p && test m.role) ms

pub some_at-such : {S : Type 0} (test : Role → Bool) (p : Path) (ms : List (Mention S)) → some_at test p ms ≡ is_some (first_such test p ms)
some_at-such test p [] = refl
some_at-such test p (m ∷ ms) = by_test (same_path m.path p && test m.role) (some_at-such test p ms)
  where
    by_test : (b : Bool) → some_at test p ms ≡ is_some (first_such test p ms)
        → (b || some_at test p ms) ≡ is_some (if b then Some m else first_such test p ms)
    by_test true h = refl
    by_test false h = h

-- ---- the mention of a slot

-- one mention more in front: whether it is a slot, its key is mentioned before, it is at the key, and of a header
lead-step : {S : Type 0} (k : Text) (m : Mention S) (later : List (Mention S)) (head first : Option (Mention S))
    (slot seen here of_header : Bool)
    → first_of_key k later ≡ option_or head (if seen || ((here && true) || false) then None else first)
    → (here ≡ true → (slot ≡ (of_header || (not seen && not (is_some head)))) × (is_of_key k m ≡ true))
    → (here ≡ false → slot ≡ true → is_of_key k m ≡ false)
    → first_of_key k (if slot then m ∷ later else later)
    ≡ option_or (if here && of_header then Some m else head) (if seen then None else if here then Some m else first)
lead-step {S} k m later head first slot seen true of_header h at off =
    ap (λ b. first_of_key k (if b then m ∷ later else later)) ((at refl).0) ∙ by_header of_header seen head h
  where
    here : first_of_key k (m ∷ later) ≡ Some m
    here = rw ((at refl).1) refl

    by_header : (of_header seen : Bool) (head : Option (Mention S)) → first_of_key k later
        ≡ option_or head (if seen || true then None else first)
        → first_of_key k (if of_header || (not seen && not (is_some head)) then m ∷ later else later)
        ≡ option_or (if of_header then Some m else head) (if seen then None else Some m)
    by_header true seen head h = here
    by_header false true (Some x) h = h
    by_header false false (Some x) h = h
    by_header false true None h = h
    by_header false false None h = here
lead-step {S} k m later head first slot seen false of_header h at off = by_slot slot (off refl) ∙ h ∙ by_seen seen
  where
    by_slot : (b : Bool) → (b ≡ true → is_of_key k m ≡ false) → first_of_key k (if b then m ∷ later else later) ≡ first_of_key k later
    by_slot true g = rw (g refl) refl
    by_slot false g = refl

    by_seen : (b : Bool) → option_or head (if b || false then None else first) ≡ option_or head (if b then None else first)
    by_seen true = refl
    by_seen false = refl

kept_from-lead : {S : Type 0} (k : Text) (before ms : List (Mention S)) → AreNamed ms
    → first_of_key k (kept_from before ms)
    ≡ option_or (first_such is_header_role (at_key k ∷ []) ms) (if some_at any_role (at_key k ∷ []) before then None
    else first_at (at_key k ∷ []) ms)
kept_from-lead {S} k before [] n = by_test (some_at any_role (at_key k ∷ []) before)
  where
    nothing : Option (Mention S)
    nothing = None

    by_test : (b : Bool) → nothing ≡ option_or nothing (if b then nothing else nothing)
    by_test true = refl
    by_test false = refl
kept_from-lead k before (m ∷ ms) n =
    lead-step k m (kept_from (before ++ (m ∷ [])) ms) (first_such is_header_role (at_key k ∷ []) ms) (first_at (at_key k ∷ []) ms)
    (is_slot before m ms)
    (some_at any_role (at_key k ∷ []) before) (same_path m.path (at_key k ∷ [])) (is_header_role m.role)
    (kept_from-lead k (before ++ (m ∷ [])) ms n.1
    ∙ ap (λ b. option_or (first_such is_header_role (at_key k ∷ []) ms) (if b then None else first_at (at_key k ∷ []) ms))
    (some_at-append any_role (at_key k ∷ []) before (m ∷ [])))
    (λ e. let here = same_path-is m.path (at_key k ∷ []) e in (
      ap (λ p. is_single p && (is_header_role m.role || (not (some_at any_role p before) && not (some_at is_header_role p ms)))) here
          ∙ ap (λ b. is_header_role m.role || (not (some_at any_role (at_key k ∷ []) before) && not b))
          (some_at-such is_header_role (at_key k ∷ []) ms),
      subst (λ x. same_text k x ≡ true) (named-at m.path m.segment.key k n.0 here) (same_text-refl k),
    ))
    (λ e s.
    other-key m.path m.segment.key k n.0
    (and_left (is_single m.path) (is_header_role m.role
    || (not (some_at any_role m.path before) && not (some_at is_header_role m.path ms))) s) e)

-- The slot of a key is kept from its plain header, else from its first mention.
pub kept-lead : {S : Type 0} (k : Text) (ms : List (Mention S)) → AreNamed ms
    → first_of_key k (kept ms) ≡ option_or (first_such is_header_role (at_key k ∷ []) ms) (first_at (at_key k ∷ []) ms)
kept-lead k ms n = kept_from-lead k [] ms n

-- ---- what is kept, and what isn't

-- it is the first header there, or the first mention where there is no header
abbrev pub IsLead : {S : Type 0} → Path → List (Mention S) → Mention S → Type 0
IsLead p ms j =
    ((is_header_role j.role ≡ true) × (first_such is_header_role p ms ≡ Some j))
    ⊎ ((some_at is_header_role p ms ≡ false) × (first_at p ms ≡ Some j))

pub kept-is-lead : {S : Type 0} (k : Text) (ms : List (Mention S)) (j : Mention S) → AreNamed ms → first_of_key k (kept ms) ≡ Some j
    → IsLead (at_key k ∷ []) ms j
kept-is-lead {S} k ms j n h = by_head (first_such is_header_role p ms) refl (sym (kept-lead k ms n) ∙ h)
  where
    p : Path
    p = at_key k ∷ []

    by_head : (o : Option (Mention S)) → first_such is_header_role p ms ≡ o → option_or o (first_at p ms) ≡ Some j → IsLead p ms j
    by_head (Some x) e g =
        let here : x ≡ j = cc in
        let found : first_such is_header_role p ms ≡ Some j = e ∙ g in
        inl (
          and_right (same_path j.path p) (is_header_role j.role) (find-holds (λ (m : Mention S). same_path m.path p
              && is_header_role m.role) ms j found),
          found,
        )
    by_head None e g = inr (some_at-such is_header_role p ms ∙ ap is_some e, g)

-- a key with no slot isn't mentioned
pub kept-free : {S : Type 0} (k : Text) (ms : List (Mention S)) → AreNamed ms → first_of_key k (kept ms) ≡ None
    → some_at any_role (at_key k ∷ []) ms ≡ false
kept-free {S} k ms n h =
    some_at-first (at_key k ∷ []) ms
    ∙ ap is_some (by_head (first_such is_header_role (at_key k ∷ []) ms) (first_at (at_key k ∷ []) ms) (sym (kept-lead k ms n) ∙ h))
  where
    by_head : (o first : Option (Mention S)) → option_or o first ≡ None → first ≡ None
    by_head None first g = g
    by_head (Some x) first g = absurd cc

-- a role that it has is at its path
pub lead-role : {S : Type 0} (test : Role → Bool) (p : Path) (ms : List (Mention S)) (j : Mention S) → IsLead p ms j → test j.role ≡ true
    → some_at test p ms ≡ true
lead-role {S} test p ms j lead e =
    elim lead [
      | inl h ↦ found (λ m. same_path m.path p && is_header_role m.role) (λ m g. and_left (same_path m.path p) (is_header_role m.role) g) ms
          h.1
      | inr h ↦ found (λ m. same_path m.path p) (λ m g. g) ms h.1
    ]
  where
    found : (pass : Mention S → Bool) → ((m : Mention S) → pass m ≡ true → same_path m.path p ≡ true) → (ns : List (Mention S))
        → find pass ns ≡ Some j
        → some_at test p ns ≡ true
    found pass at [] g = absurd cc
    found pass at (x ∷ ns) g = by_pass (pass x) refl g (found pass at ns)
      where
        by_test : (b : Bool) → some_at test p ns ≡ true → (b || some_at test p ns) ≡ true
        by_test true g = refl
        by_test false g = g

        by_pass : (b : Bool) → pass x ≡ b → (if b then Some x else find pass ns) ≡ Some j
            → (find pass ns ≡ Some j → some_at test p ns ≡ true)
            → ((same_path x.path p && test x.role) || some_at test p ns) ≡ true
        by_pass true f g ih =
            let here : x ≡ j = cc in
            ap (λ b. (b && test x.role) || some_at test p ns) (at x f)
            ∙ ap (λ (y : Mention S). test y.role || some_at test p ns) here ∙ ap (λ b. b || some_at test p ns) e
        by_pass false f g ih = by_test (same_path x.path p && test x.role) (ih g)
