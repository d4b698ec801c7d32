-- Mentions gathered: what a step down, and which are kept, make of mentions after mentions.
use Rattle.std.proofs.Common.{◌≡◌, refl, sym, ◌∙◌, ap, subst, Bool, true, false, List, [], ◌∷◌, ◌++◌, append_assoc, Some, None}
use Rattle.std.specs.Prelude.{◌&&◌, ◌||◌, not, if◌then◌else◌, map, find, is_some, Option}
use Rattle.toml_edit_model.specs.Text.{Text, same_text, is_empty}
use Rattle.toml_edit_model.specs.Paths.{Step, at_key, at_element, Path, same_step, same_path, Mention}
use Rattle.toml_edit_laws.proofs.common.Tests.{append-nil, and_left, and_both, and-true, or-left, or-right, or-false, or-true}
use Rattle.toml_edit_laws.proofs.common.Tests.{same_text-refl, same_text-is, true-false}
use Rattle.toml_edit_laws.proofs.common.PathLaws.{same_step-refl, same_path-refl, same_path-is}
use Rattle.toml_edit_laws.proofs.mentions.SomeAt.{some_at-append}
use Rattle.toml_edit_laws.proofs.mentions.Named.{AreNamed, single-named, other-key, named-at}
use Rattle.toml_edit_model.specs.Roles.{is_header_role, any_role}
use Rattle.toml_edit_model.specs.TableMentions.{under, some_at, own, is_single, is_slot, kept_from, kept}

-- ---- mentions after mentions

-- The mention with its path one step longer.
abbrev pub deeper : {S : Type 0} → Step → Mention S → Mention S
deeper s m = record m { path = s ∷ m.path }

abbrev pub all_deeper : {S : Type 0} → Step → List (Mention S) → List (Mention S)
all_deeper s ms = map (deeper s) ms

-- what is mentioned below a step is under it, and not under another
pub under-deeper : {S : Type 0} (s : Step) (ms : List (Mention S)) → under s (all_deeper s ms) ≡ ms
under-deeper s [] = refl
under-deeper s (m ∷ ms) = rw (same_step-refl s) (ap (λ xs. m ∷ xs) (under-deeper s ms))

pub under-other : {S : Type 0} (s t : Step) (ms : List (Mention S)) → same_step s t ≡ false → under t (all_deeper s ms) ≡ []
under-other s t [] h = refl
under-other s t (m ∷ ms) h = rw h (under-other s t ms h)

-- a list in which no path is mentioned is empty
pub unmentioned-none : {S : Type 0} (ms : List (Mention S)) → ((p : Path) → some_at any_role p ms ≡ false) → ms ≡ []
unmentioned-none [] h = refl
unmentioned-none (m ∷ ms) h =
    true-false (same_path m.path m.path && true) (and_both (same_path m.path m.path) true (same_path-refl m.path) refl)
    (or-left (same_path m.path m.path && true) (some_at any_role m.path ms) (h m.path))

-- ---- which are kept

-- no plain header is among the mentions
abbrev pub AreHeadless : {S : Type 0} → List (Mention S) → Type 0
AreHeadless ms = (p : Path) → some_at is_header_role p ms ≡ false

pub headless-first : {S : Type 0} (m : Mention S) (ms : List (Mention S)) → AreHeadless (m ∷ ms) → is_header_role m.role ≡ false
headless-first m ms h =
    subst (λ b. (b && is_header_role m.role) ≡ false) (same_path-refl m.path)
    (or-left (same_path m.path m.path && is_header_role m.role) (some_at is_header_role m.path ms) (h m.path))

pub headless-rest : {S : Type 0} (m : Mention S) (ms : List (Mention S)) → AreHeadless (m ∷ ms) → AreHeadless ms
headless-rest m ms h p = or-right (same_path m.path p && is_header_role m.role) (some_at is_header_role p ms) (h p)

-- what comes later, without headers, takes no slot away
pub is_slot-later : {S : Type 0} (before : List (Mention S)) (m : Mention S) (after later : List (Mention S)) → AreHeadless later
    → is_slot before m (after ++ later) ≡ is_slot before m after
is_slot-later before m after later h =
    ap (λ b. is_single m.path && (is_header_role m.role || (not (some_at any_role m.path before) && not b)))
    (some_at-append is_header_role m.path after later ∙ ap (λ b. some_at is_header_role m.path after || b) (h m.path)
    ∙ or-false (some_at is_header_role m.path after))

pub kept_from-append : {S : Type 0} (before xs ys : List (Mention S)) → AreHeadless ys
    → kept_from before (xs ++ ys) ≡ kept_from before xs ++ kept_from (before ++ xs) ys
kept_from-append before [] ys h = ap (λ ms. kept_from ms ys) (sym (append-nil before))
kept_from-append before (m ∷ xs) ys h =
    ap (λ b. if b then m ∷ kept_from (before ++ (m ∷ [])) (xs ++ ys)
    else kept_from (before ++ (m ∷ [])) (xs ++ ys)) (is_slot-later before m xs ys h)
    ∙ ap (λ ms. if is_slot before m xs then m ∷ ms else ms)
    (kept_from-append (before ++ (m ∷ [])) xs ys h ∙ ap (λ ms. kept_from (before ++ (m ∷ [])) xs
    ++ kept_from ms ys) (append_assoc before (m ∷ []) xs))
    ∙ by_test (is_slot before m xs)
  where
    by_test : (b : Bool)
        → (if b then m ∷ (kept_from (before ++ (m ∷ [])) xs ++ kept_from (before ++ (m ∷ xs)) ys)
        else kept_from (before ++ (m ∷ [])) xs ++ kept_from (before ++ (m ∷ xs)) ys)
        ≡ (if b then m ∷ kept_from (before ++ (m ∷ [])) xs else kept_from (before ++ (m ∷ [])) xs) ++ kept_from (before ++ (m ∷ xs)) ys
    by_test true = refl
    by_test false = refl

-- mentions after others keep their slots, and get those that are new
pub kept-append : {S : Type 0} (xs ys : List (Mention S)) → AreHeadless ys → kept (xs ++ ys) ≡ kept xs ++ kept_from xs ys
kept-append xs ys h = kept_from-append [] xs ys h

-- deeper mentions get no slots
single-below : (s : Step) (p : Path) → is_empty p ≡ false → is_single (s ∷ p) ≡ false
single-below s [] h = absurd cc
single-below (at_key k) (t ∷ p) h = refl
single-below (at_element n) (t ∷ p) h = refl

pub own-first : {S : Type 0} (m : Mention S) (ms : List (Mention S)) → own (m ∷ ms) ≡ [] → (is_empty m.path ≡ false) × (own ms ≡ [])
own-first m ms h = by_test (is_empty m.path) refl h
  where
    by_test : (b : Bool) → is_empty m.path ≡ b → (if b then m ∷ own ms else own ms) ≡ [] → (is_empty m.path ≡ false) × (own ms ≡ [])
    by_test true e h = absurd cc
    by_test false e h = (e, h)

pub own-deeper : {S : Type 0} (s : Step) (ms : List (Mention S)) → own (all_deeper s ms) ≡ []
own-deeper s [] = refl
own-deeper s (m ∷ ms) = own-deeper s ms

pub kept_from-deeper : {S : Type 0} (before : List (Mention S)) (s : Step) (ms : List (Mention S)) → own ms ≡ []
    → kept_from before (all_deeper s ms) ≡ []
kept_from-deeper before s [] h = refl
kept_from-deeper before s (m ∷ ms) h =
    let rest = own-first m ms h in
    ap (λ b. if b && (is_header_role m.role || (not (some_at any_role (s ∷ m.path) before)
    && not (some_at is_header_role (s ∷ m.path) (all_deeper s ms)))) then deeper s m
    ∷ kept_from (before ++ (deeper s m ∷ [])) (all_deeper s ms) else kept_from (before ++ (deeper s m ∷ [])) (all_deeper s ms))
    (single-below s m.path rest.0)
    ∙ kept_from-deeper (before ++ (deeper s m ∷ [])) s ms rest.1

-- ---- the slot of a key

abbrev pub is_of_key : {S : Type 0} → Text → Mention S → Bool
is_of_key k m = same_text k m.segment.key

abbrev pub is_at : {S : Type 0} → Path → Mention S → Bool
is_at p m = same_path m.path p

-- the first mention whose segment is the key, and the first at a path
abbrev pub first_of_key : {S : Type 0} → Text → List (Mention S) → Option (Mention S)
first_of_key k ms = find (is_of_key k) ms

abbrev pub first_at : {S : Type 0} → Path → List (Mention S) → Option (Mention S)
first_at p ms = find (is_at p) ms

pub some_at-first : {S : Type 0} (p : Path) (ms : List (Mention S)) → some_at any_role p ms ≡ is_some (first_at p ms)
some_at-first p [] = refl
some_at-first p (m ∷ ms) = by_test (same_path m.path p) (some_at-first p ms)
  where
    by_test : (b : Bool) → some_at any_role p ms ≡ is_some (first_at p ms)
        → ((b && true) || some_at any_role p ms) ≡ is_some (if b then Some m else first_at p ms)
    by_test true h = refl
    by_test false h = h

-- without headers a slot is where its key comes first
pub plain-slot : {S : Type 0} (before : List (Mention S)) (m : Mention S) (ms : List (Mention S)) → AreHeadless (m ∷ ms)
    → is_slot before m ms ≡ (is_single m.path && not (some_at any_role m.path before))
plain-slot before m ms h =
    ap (λ b. is_single m.path && (b || (not (some_at any_role m.path before) && not (some_at is_header_role m.path ms))))
    (headless-first m ms h)
    ∙ ap (λ b. is_single m.path && (not (some_at any_role m.path before) && not b)) (headless-rest m ms h m.path)
    ∙ ap (λ b. is_single m.path && b) (and-true (not (some_at any_role m.path before)))

-- one mention more in front: whether it is a slot, the key is mentioned before, and it is at the key
find-step : {S : Type 0} (k : Text) (m : Mention S) (later : List (Mention S)) (first : Option (Mention S)) (slot seen here : Bool)
    → first_of_key k later ≡ (if seen || ((here && true) || false) then None else first)
    → (here ≡ true → (slot ≡ not seen) × (is_of_key k m ≡ true)) → (here ≡ false → slot ≡ true → is_of_key k m ≡ false)
    → first_of_key k (if slot then m ∷ later else later) ≡ (if seen then None else if here then Some m else first)
find-step k m later first true true true h at off = let e = (at refl).0 in absurd cc
find-step k m later first true false true h at off = rw ((at refl).1) refl
find-step k m later first false true true h at off = h
find-step k m later first false false true h at off = let e = (at refl).0 in absurd cc
find-step k m later first true seen false h at off = rw (off refl refl) (h ∙ by_seen seen)
  where
    by_seen : (b : Bool) → (if b || false then None else first) ≡ (if b then None else first)
    by_seen true = refl
    by_seen false = refl
find-step k m later first false true false h at off = h
find-step k m later first false false false h at off = h

pub kept_from-find : {S : Type 0} (k : Text) (before ms : List (Mention S)) → AreNamed ms → AreHeadless ms
    → first_of_key k (kept_from before ms) ≡ (if some_at any_role (at_key k ∷ []) before then None else first_at (at_key k ∷ []) ms)
kept_from-find {S} k before [] n h = by_test (some_at any_role (at_key k ∷ []) before)
  where
    nothing : Option (Mention S)
    nothing = None

    by_test : (b : Bool) → nothing ≡ (if b then nothing else nothing)
    by_test true = refl
    by_test false = refl
kept_from-find k before (m ∷ ms) n h =
    find-step k m (kept_from (before ++ (m ∷ [])) ms) (first_at (at_key k ∷ []) ms) (is_slot before m ms) (some_at any_role (at_key k
    ∷ []) before) (same_path m.path (at_key k ∷ []))
    (kept_from-find k (before ++ (m ∷ [])) ms n.1 (headless-rest m ms h)
    ∙ ap (λ b. if b then None else first_at (at_key k ∷ []) ms) (some_at-append any_role (at_key k ∷ []) before (m ∷ [])))
    (λ e. let here = same_path-is m.path (at_key k ∷ []) e in (
      plain-slot before m ms h ∙ ap (λ p. is_single p && not (some_at any_role p before)) here,
      subst (λ x. same_text k x ≡ true) (named-at m.path m.segment.key k n.0 here) (same_text-refl k),
    ))
    (λ e s. other-key m.path m.segment.key k n.0 (and_left (is_single m.path) (not (some_at any_role m.path before))
    (sym (plain-slot before m ms h) ∙ s)) e)

-- The slot of a key is kept from the first mention at its path.
pub kept-find : {S : Type 0} (k : Text) (ms : List (Mention S)) → AreNamed ms → AreHeadless ms → first_of_key k (kept ms)
    ≡ first_at (at_key k ∷ []) ms
kept-find k ms n h = kept_from-find k [] ms n h

-- each segment's key is another
abbrev pub AreDistinct : {S : Type 0} → List (Mention S) → Type 0
AreDistinct [] = Unit {0}
AreDistinct (m ∷ ms) = (first_of_key m.segment.key ms ≡ None) × AreDistinct ms

pub kept_from-distinct : {S : Type 0} (before ms : List (Mention S)) → AreNamed ms → AreHeadless ms → AreDistinct (kept_from before ms)
kept_from-distinct before [] n h = tt
kept_from-distinct {S} before (m ∷ ms) n h =
    by_slot (is_slot before m ms) refl (kept_from-distinct (before ++ (m ∷ [])) ms n.1 (headless-rest m ms h))
  where
    later : List (Mention S)
    later = kept_from (before ++ (m ∷ [])) ms

    by_slot : (b : Bool) → is_slot before m ms ≡ b → AreDistinct later → AreDistinct (if b then m ∷ later else later)
    by_slot true e d =
        let single : m.path ≡ at_key m.segment.key ∷ [] =
        single-named m.path m.segment.key n.0 (and_left (is_single m.path) (not (some_at any_role m.path before))
        (sym (plain-slot before m ms h) ∙ e)) in
        let seen : some_at any_role (at_key m.segment.key ∷ []) (before ++ (m ∷ [])) ≡ true =
        some_at-append any_role (at_key m.segment.key ∷ []) before (m ∷ [])
        ∙ ap (λ p. some_at any_role (at_key m.segment.key ∷ []) before
        || ((same_path p (at_key m.segment.key ∷ []) && true) || false)) single
        ∙ ap (λ b. some_at any_role (at_key m.segment.key ∷ []) before || (((b && true) && true) || false)) (same_text-refl m.segment.key)
        ∙ or-true (some_at any_role (at_key m.segment.key ∷ []) before) in
        let none : first_of_key m.segment.key later ≡ None =
        kept_from-find m.segment.key (before ++ (m ∷ [])) ms n.1 (headless-rest m ms h)
        ∙ ap (λ b. if b then None else first_at (at_key m.segment.key ∷ []) ms) seen in
        (none, d)
    by_slot false e d = d

pub kept-distinct : {S : Type 0} (ms : List (Mention S)) → AreNamed ms → AreHeadless ms → AreDistinct (kept ms)
kept-distinct ms n h = kept_from-distinct [] ms n h

-- what a search by a key gives has the key
pub first_of_key-is : {S : Type 0} (k : Text) (ms : List (Mention S)) (m : Mention S) → first_of_key k ms ≡ Some m → k ≡ m.segment.key
first_of_key-is k [] m h = absurd cc
first_of_key-is {S} k (j ∷ ms) m h = by_test (is_of_key k j) refl h (first_of_key-is k ms m)
  where
    by_test : (b : Bool) → is_of_key k j ≡ b → (if b then Some j else first_of_key k ms) ≡ Some m
        → (first_of_key k ms ≡ Some m → k ≡ m.segment.key) → k ≡ m.segment.key
    by_test true e h ih =
        let here : j ≡ m = cc in
        same_text-is k j.segment.key e ∙ ap (λ (x : Mention S). x.segment.key) here
    by_test false e h ih = ih h

pub first-none : {S : Type 0} (k : Text) (m : Mention S) (ks : List (Mention S)) → first_of_key k (m ∷ ks) ≡ None
    → (same_text k m.segment.key ≡ false) × (first_of_key k ks ≡ None)
first-none {S} k m ks h = by_test (same_text k m.segment.key) h
  where
    by_test : (b : Bool) → (if b then Some m else first_of_key k ks) ≡ None → (b ≡ false) × (first_of_key k ks ≡ None)
    by_test true h = absurd cc
    by_test false h = (refl, h)
