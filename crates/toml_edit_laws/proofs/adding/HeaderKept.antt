-- Which mentions the slots of a table are kept from, where plain headers are among them.
use Rattle.std.proofs.Common.{◌≡◌, refl, sym, ◌∙◌, ap, subst, Bool, true, false, List, [], ◌∷◌, ◌++◌, append_assoc, Option, Some, None}
use Rattle.std.specs.Prelude.{◌&&◌, ◌||◌, not, if◌then◌else◌, filter, find}
use Rattle.toml_edit_model.specs.Text.{Text, same_text}
use Rattle.toml_edit_model.specs.Paths.{at_key, at_element, Path, same_path, Mention}
use Rattle.toml_edit_laws.proofs.common.Tests.{and_left, and-true, or-false, or-true, or-left, or-right, same_text-refl, same_text-swap}
use Rattle.toml_edit_laws.proofs.common.Tests.{append-nil}
use Rattle.toml_edit_laws.proofs.mentions.GatherLaws.{is_of_key, first_of_key, first_at}
use Rattle.toml_edit_laws.proofs.common.PathLaws.{same_path-is}
use Rattle.toml_edit_laws.proofs.mentions.SomeAt.{some_at-append}
use Rattle.toml_edit_laws.proofs.mentions.Named.{named-at, AreNamed, other-key}
use Rattle.toml_edit_model.specs.Roles.{is_header_role, any_role}
use Rattle.toml_edit_model.specs.TableMentions.{some_at, is_single, is_slot, kept_from, kept}
use Rattle.std.specs.Option.{option_or}

-- ---- mentions that head no table of this one take no slot away

-- no plain header is at a key of the table itself
abbrev pub HaveNoHeadsHere : {S : Type 0} → List (Mention S) → Type 0
HaveNoHeadsHere ms = (k : Text) → some_at is_header_role (at_key k ∷ []) ms ≡ false

slot-later : {S : Type 0} (before : List (Mention S)) (m : Mention S) (after later : List (Mention S)) → HaveNoHeadsHere later
    → is_slot before m (after ++ later) ≡ is_slot before m after
slot-later before m after later h = by_path m.path
  where
    by_path : (p : Path)
        → (is_single p && (is_header_role m.role || (not (some_at any_role p before) && not (some_at is_header_role p (after ++ later)))))
        ≡ (is_single p && (is_header_role m.role || (not (some_at any_role p before) && not (some_at is_header_role p after))))
    by_path [] = refl
    by_path (at_key k ∷ []) =
        ap (λ b. is_header_role m.role || (not (some_at any_role (at_key k ∷ []) before) && not b))
        (some_at-append is_header_role (at_key k ∷ []) after later
        ∙ ap (λ b. some_at is_header_role (at_key k ∷ []) after || b) (h k)
        ∙ or-false (some_at is_header_role (at_key k ∷ []) after))
    by_path (at_key k ∷ t ∷ p) = refl
    by_path (at_element n ∷ []) = refl
    by_path (at_element n ∷ t ∷ p) = refl

kept_from-after : {S : Type 0} (before xs ys : List (Mention S)) → HaveNoHeadsHere ys
    → kept_from before (xs ++ ys) ≡ kept_from before xs ++ kept_from (before ++ xs) ys
kept_from-after before [] ys h = ap (λ ms. kept_from ms ys) (sym (append-nil before))
kept_from-after before (m ∷ xs) ys h =
    ap (λ b. if b then m ∷ kept_from (before ++ (m ∷ [])) (xs ++ ys)
    else kept_from (before ++ (m ∷ [])) (xs ++ ys)) (slot-later before m xs ys h)
    ∙ ap (λ ms. if is_slot before m xs then m ∷ ms else ms)
    (kept_from-after (before ++ (m ∷ [])) xs ys h ∙ ap (λ ms. kept_from (before ++ (m ∷ [])) xs
    ++ kept_from ms ys) (append_assoc before (m ∷ []) xs))
    ∙ by_test (is_slot before m xs)
  where
    by_test : (b : Bool)
        → (if b then m ∷ (kept_from (before ++ (m ∷ [])) xs ++ kept_from (before ++ (m ∷ xs)) ys)
        else kept_from (before ++ (m ∷ [])) xs ++ kept_from (before ++ (m ∷ xs)) ys)
        ≡ (if b then m ∷ kept_from (before ++ (m ∷ [])) xs else kept_from (before ++ (m ∷ [])) xs) ++ kept_from (before ++ (m ∷ xs)) ys
    by_test true = refl
    by_test false = refl

pub kept-after : {S : Type 0} (xs ys : List (Mention S)) → HaveNoHeadsHere ys → kept (xs ++ ys) ≡ kept xs ++ kept_from xs ys
kept-after xs ys h = kept_from-after [] xs ys h

-- ---- the mention that the slot of a key is kept from

-- the first plain header at a path
abbrev pub is_head_at : {S : Type 0} → Path → Mention S → Bool
is_head_at p m = same_path m.path p && is_header_role m.role

abbrev pub head_at : {S : Type 0} → Path → List (Mention S) → Option (Mention S)
head_at p ms = find (is_head_at p) ms

-- that one, else the first mention at the path
abbrev pub leader_at : {S : Type 0} → Path → List (Mention S) → Option (Mention S)
leader_at p ms = option_or (head_at p ms) (first_at p ms)

-- ---- a plain header at a key

-- the mentions of other keys
abbrev pub others : {S : Type 0} → Text → List (Mention S) → List (Mention S)
others k ms = filter (λ m. not (is_of_key k m)) ms

pub others-none : {S : Type 0} (k : Text) (ms : List (Mention S)) → first_of_key k ms ≡ None → others k ms ≡ ms
others-none k [] h = refl
others-none k (m ∷ ms) h = by_test (is_of_key k m) h (others-none k ms)
  where
    by_test : (b : Bool) → (if b then Some m else first_of_key k ms) ≡ None → (first_of_key k ms ≡ None → others k ms ≡ ms)
        → (if not b then m ∷ others k ms else others k ms) ≡ m ∷ ms
    by_test true h ih = absurd cc
    by_test false h ih = ap (λ ys. m ∷ ys) (ih h)

-- a header at another key takes no slot away
slot-elsewhere : {S : Type 0} (before : List (Mention S)) (x : Mention S) (xs : List (Mention S)) (m : Mention S) (k : Text) → m.path
    ≡ at_key k ∷ []
    → same_path x.path (at_key k ∷ []) ≡ false → is_slot before x (xs ++ (m ∷ [])) ≡ is_slot before x xs
slot-elsewhere before x xs m k at e = by_path x.path e
  where
    by_path : (p : Path) → same_path p (at_key k ∷ []) ≡ false
        → (is_single p && (is_header_role x.role || (not (some_at any_role p before) && not (some_at is_header_role p (xs ++ (m ∷ []))))))
        ≡ (is_single p && (is_header_role x.role || (not (some_at any_role p before) && not (some_at is_header_role p xs))))
    by_path [] e = refl
    by_path (at_key l ∷ []) e =
        ap (λ b. is_header_role x.role || (not (some_at any_role (at_key l ∷ []) before) && not b))
        (some_at-append is_header_role (at_key l ∷ []) xs (m ∷ [])
        ∙ ap (λ p. some_at is_header_role (at_key l ∷ []) xs || ((same_path p (at_key l ∷ []) && is_header_role m.role) || false)) at
        ∙ ap (λ b. some_at is_header_role (at_key l ∷ []) xs || (((b && true) && is_header_role m.role) || false)) (same_text-swap k l
        ∙ sym (and-true (same_text l k)) ∙ e)
        ∙ or-false (some_at is_header_role (at_key l ∷ []) xs))
    by_path (at_key l ∷ t ∷ p) e = refl
    by_path (at_element n ∷ []) e = refl
    by_path (at_element n ∷ t ∷ p) e = refl

-- a header at this key takes the slot of a mention before it
slot-headed : {S : Type 0} (before : List (Mention S)) (x : Mention S) (xs : List (Mention S)) (m : Mention S) (k : Text) → m.path
    ≡ at_key k ∷ []
    → is_header_role m.role ≡ true → x.path ≡ at_key k ∷ [] → is_header_role x.role ≡ false → is_slot before x (xs ++ (m ∷ [])) ≡ false
slot-headed before x xs m k at heads here plain =
    ap (λ p. is_single p && (is_header_role x.role || (not (some_at any_role p before) && not (some_at is_header_role p (xs ++ (m ∷ []))))))
    here
    ∙ ap (λ b. b || (not (some_at any_role (at_key k ∷ []) before) && not (some_at is_header_role (at_key k ∷ []) (xs ++ (m ∷ []))))) plain
    ∙ ap (λ b. not (some_at any_role (at_key k ∷ []) before) && not b)
    (some_at-append is_header_role (at_key k ∷ []) xs (m ∷ [])
    ∙ ap (λ p. some_at is_header_role (at_key k ∷ []) xs || ((same_path p (at_key k ∷ []) && is_header_role m.role) || false)) at
    ∙ ap (λ b. some_at is_header_role (at_key k ∷ []) xs || (((b && true) && is_header_role m.role) || false)) (same_text-refl k)
    ∙ ap (λ b. some_at is_header_role (at_key k ∷ []) xs || (b || false)) heads
    ∙ or-true (some_at is_header_role (at_key k ∷ []) xs))
    ∙ by_test (some_at any_role (at_key k ∷ []) before)
  where
    by_test : (b : Bool) → (not b && not true) ≡ false
    by_test true = refl
    by_test false = refl

kept_from-headed : {S : Type 0} (before xs : List (Mention S)) (m : Mention S) (k : Text) → m.path ≡ at_key k ∷ [] → is_header_role m.role
    ≡ true → AreNamed xs
    → some_at is_header_role (at_key k ∷ []) xs ≡ false → kept_from before (xs ++ (m ∷ [])) ≡ others k (kept_from before xs) ++ (m ∷ [])
kept_from-headed before [] m k at heads n none =
    ap (λ p. if is_single p && (is_header_role m.role || (not (some_at any_role p before) && true)) then m ∷ [] else []) at
    ∙ ap (λ b. if b || (not (some_at any_role (at_key k ∷ []) before) && true) then m ∷ [] else []) heads
kept_from-headed {S} before (x ∷ xs) m k at heads n none =
    by_here (same_path x.path (at_key k ∷ [])) refl
    (kept_from-headed (before ++ (x ∷ [])) xs m k at heads n.1 (or-right (same_path x.path (at_key k ∷ [])
    && is_header_role x.role) (some_at is_header_role (at_key k ∷ []) xs) none))
  where
    later : List (Mention S)
    later = kept_from (before ++ (x ∷ [])) xs

    after : List (Mention S)
    after = kept_from (before ++ (x ∷ [])) (xs ++ (m ∷ []))

    taken : (b : Bool) → is_of_key k x ≡ true → others k later ≡ others k (if b then x ∷ later else later)
    taken true e = rw e refl
    taken false e = refl

    left : (b : Bool) → (b ≡ true → is_of_key k x ≡ false) → (if b then x ∷ (others k later ++ (m ∷ [])) else others k later ++ (m ∷ []))
        ≡ others k (if b then x ∷ later else later) ++ (m ∷ [])
    left true e = rw (e refl) refl
    left false e = refl

    by_here : (b : Bool) → same_path x.path (at_key k ∷ []) ≡ b → after ≡ others k later ++ (m ∷ [])
        → (if is_slot before x (xs ++ (m ∷ [])) then x ∷ after else after) ≡ others k (if is_slot before x xs then x ∷ later else later)
        ++ (m ∷ [])
    by_here true e ih =
        let here = same_path-is x.path (at_key k ∷ []) e in
        let plain : is_header_role x.role ≡ false =
        ap (λ b. b && is_header_role x.role) (sym e) ∙ or-left (same_path x.path (at_key k ∷ [])
        && is_header_role x.role) (some_at is_header_role (at_key k ∷ []) xs) none in
        ap (λ b. if b then x ∷ after else after) (slot-headed before x xs m k at heads here plain)
        ∙ ih ∙ ap (λ ys. ys ++ (m ∷ [])) (taken (is_slot before x xs) (subst (λ y. same_text k y
        ≡ true) (named-at x.path x.segment.key k n.0 here) (same_text-refl k)))
    by_here false e ih =
        ap (λ b. if b then x ∷ after else after) (slot-elsewhere before x xs m k at e)
        ∙ ap (λ ys. if is_slot before x xs then x ∷ ys else ys) ih
        ∙ left (is_slot before x xs) (λ s.
        other-key x.path x.segment.key k n.0
        (and_left (is_single x.path) (is_header_role x.role
        || (not (some_at any_role x.path before) && not (some_at is_header_role x.path xs))) s) e)

-- A plain header takes the slot of its key, and stands last.
pub kept-headed : {S : Type 0} (xs : List (Mention S)) (m : Mention S) (k : Text) → m.path ≡ at_key k ∷ [] → is_header_role m.role ≡ true
    → AreNamed xs
    → some_at is_header_role (at_key k ∷ []) xs ≡ false → kept (xs ++ (m ∷ [])) ≡ others k (kept xs) ++ (m ∷ [])
kept-headed xs m k at heads n none = kept_from-headed [] xs m k at heads n none
