-- Mentions that agree with earlier ones, and the first that clashes.
use Rattle.std.proofs.Common.{◌≡◌, refl, sym, ◌∙◌, ap, subst, Bool, true, false, List, [], ◌∷◌, ◌++◌, Option, Some, None}
use Rattle.std.specs.Prelude.{◌&&◌, ◌||◌, not, if◌then◌else◌, find, option_map}
use Rattle.std.specs.List.{list_all}
use Rattle.toml_edit_model.specs.Paths.{Step, Path, same_step, same_path, Mention}
use Rattle.toml_edit_model.specs.Accepted.{agree, all_agree}
use Rattle.toml_edit_model.specs.Faults.{clash, first_clash}
use Rattle.toml_edit_laws.proofs.common.Tests.{and_left, and_right, true-false}
use Rattle.toml_edit_laws.proofs.mentions.GatherLaws.{deeper, all_deeper, first_at}
use Rattle.toml_edit_laws.proofs.common.PathLaws.{same_step-is, same_path-refl, same_path-is}
use Rattle.toml_edit_laws.proofs.common.Agreement.{agree-all}
use Rattle.toml_edit_laws.proofs.common.OptionSteps.{is_none}
use Rattle.toml_edit_model.specs.Roles.{Role}
use Rattle.toml_edit_model.specs.TableMentions.{inside, under, some_at}

-- ---- agreement, mention by mention

pub agree-none : {S : Type 0} (may : Role → Role → Bool) (earlier : List (Mention S)) → agree may earlier [] ≡ true
agree-none may [] = refl
agree-none may (e ∷ earlier) = agree-none may earlier

-- a mention and those after it
pub agree-first : {S : Type 0} (may : Role → Role → Bool) (earlier : List (Mention S)) (m : Mention S) (rest : List (Mention S))
    → agree may earlier (m ∷ rest) ≡ (is_none (find (clash may m) earlier) && agree may earlier rest)
agree-first may [] m rest = refl
agree-first may (e ∷ earlier) m rest =
    ap (λ b. ((not (same_path e.path m.path) || may e.role m.role)
    && list_all (λ n. not (same_path e.path n.path) || may e.role n.role) rest) && b) (agree-first may earlier m rest)
    ∙ by_test (same_path e.path m.path) (may e.role m.role) (list_all (λ n. not (same_path e.path n.path) || may e.role n.role) rest)
    (agree may earlier rest) (find (clash may m) earlier)
  where
    by_others : (c d f : Bool) → (c && (f && d)) ≡ (f && (c && d))
    by_others true d f = refl
    by_others false d true = refl
    by_others false d false = refl

    by_test : (a b c d : Bool) (o : Option (Mention _)) → (((not a || b) && c) && (is_none o && d))
        ≡ (is_none (if a && not b then Some e else o) && (c && d))
    by_test true true c d o = by_others c d (is_none o)
    by_test true false c d o = refl
    by_test false b c d o = by_others c d (is_none o)

-- They agree exactly where none clashes.
pub agree-clash : {S : Type 0} (may : Role → Role → Bool) (earlier later : List (Mention S)) → agree may earlier later
    ≡ is_none (first_clash may earlier later)
agree-clash may earlier [] = agree-none may earlier
agree-clash may earlier (m ∷ rest) =
    agree-first may earlier m rest ∙ by_find (find (clash may m) earlier) refl (agree-clash may earlier rest)
  where
    by_find : (o : Option (Mention _)) → find (clash may m) earlier ≡ o → agree may earlier rest ≡ is_none (first_clash may earlier rest)
        → (is_none o && agree may earlier rest) ≡ is_none (first_clash may earlier (m ∷ rest))
    by_find None e ih = rw e ih
    by_find (Some x) e ih = rw e refl

-- no later mention clashes with none
pub clash-none : {S : Type 0} (may : Role → Role → Bool) (later : List (Mention S)) → first_clash may [] later ≡ None
clash-none may [] = refl
clash-none may (m ∷ rest) = clash-none may rest

-- ---- one step further down

find-inside : {S : Type 0} (may : Role → Role → Bool) (s : Step) (m e : Mention S) (p : Path) (others : Option (Mention S))
    (under_it : List (Mention S))
    → e.path ≡ p → others ≡ option_map (deeper s) (find (clash may m) under_it)
    → (if same_path p (s ∷ m.path) && not (may e.role m.role) then Some e else others)
    ≡ option_map (deeper s) (find (clash may m) (inside s e p ++ under_it))
find-inside may s m e [] others under_it here h = h
find-inside {S} may s m e (t ∷ p) others under_it here h = by_step (same_step t s) refl
  where
    by_clash : (b : Bool) → t ≡ s
        → (if b then Some e else others) ≡ option_map (deeper s) (if b then Some (record e { path = p }) else find (clash may m) under_it)
    by_clash true same =
        let back : deeper s (record e { path = p }) ≡ e =
        ap (λ (q : Path). record e { path = q }) (ap (λ (u : Step). u ∷ p) (sym same) ∙ sym here) in
        ap (λ (x : Mention S). Some x) (sym back)
    by_clash false same = h

    by_step : (b : Bool) → same_step t s ≡ b
        → (if (b && same_path p m.path) && not (may e.role m.role) then Some e else others)
        ≡ option_map (deeper s) (find (clash may m) ((if b then record e { path = p } ∷ [] else []) ++ under_it))
    by_step true g = by_clash (same_path p m.path && not (may e.role m.role)) (same_step-is t s g)
    by_step false g = h

find-deeper : {S : Type 0} (may : Role → Role → Bool) (s : Step) (m : Mention S) (earlier : List (Mention S))
    → find (clash may (deeper s m)) earlier ≡ option_map (deeper s) (find (clash may m) (under s earlier))
find-deeper may s m [] = refl
find-deeper may s m (e ∷ earlier) =
    find-inside may s m e e.path (find (clash may (deeper s m)) earlier) (under s earlier) refl (find-deeper may s m earlier)

abbrev pub both_deeper : {S : Type 0} → Step → Mention S × Mention S → Mention S × Mention S
both_deeper s c = (deeper s c.0, deeper s c.1)

-- What is below a step clashes with what is under it.
pub clash-deeper : {S : Type 0} (may : Role → Role → Bool) (s : Step) (earlier later : List (Mention S))
    → first_clash may earlier (all_deeper s later) ≡ option_map (both_deeper s) (first_clash may (under s earlier) later)
clash-deeper may s earlier [] = refl
clash-deeper {S} may s earlier (m ∷ rest) =
    by_find (find (clash may m) (under s earlier)) (find-deeper may s m earlier) refl (clash-deeper may s earlier rest)
  where
    by_find : (o : Option (Mention S)) → find (clash may (deeper s m)) earlier
        ≡ option_map (deeper s) (find (clash may m) (under s earlier))
        → find (clash may m) (under s earlier) ≡ o
        → first_clash may earlier (all_deeper s rest) ≡ option_map (both_deeper s) (first_clash may (under s earlier) rest)
        → first_clash may earlier (all_deeper s (m ∷ rest)) ≡ option_map (both_deeper s) (first_clash may (under s earlier) (m ∷ rest))
    by_find None h e ih = let g = h ∙ ap (option_map (deeper s)) e in rw g (rw e ih)
    by_find (Some x) h e ih = let g = h ∙ ap (option_map (deeper s)) e in rw g (rw e refl)

-- ---- what stands at a path

-- the first mention at the path clashes where its role does
pub clash-at : {S : Type 0} (may : Role → Role → Bool) (m e : Mention S) (earlier : List (Mention S)) → first_at m.path earlier ≡ Some e
    → may e.role m.role ≡ false
    → find (clash may m) earlier ≡ Some e
clash-at may m e [] h off = h
clash-at {S} may m e (x ∷ earlier) h off = by_path (same_path x.path m.path) h (λ g. clash-at may m e earlier g off)
  where
    by_path : (b : Bool) → (if b then Some x else first_at m.path earlier) ≡ Some e
        → (first_at m.path earlier ≡ Some e → find (clash may m) earlier ≡ Some e)
        → (if b && not (may x.role m.role) then Some x else find (clash may m) earlier) ≡ Some e
    by_path true h ih =
        let same : x ≡ e = cc in
        ap (λ (y : Mention S). if not (may y.role m.role) then Some x else find (clash may m) earlier) same
        ∙ ap (λ b. if not b then Some x else find (clash may m) earlier) off ∙ h
    by_path false h ih = ih h

-- none clashes where all roles at the path may meet it
pub clash-free : {S : Type 0} (may : Role → Role → Bool) (m : Mention S) (earlier : List (Mention S))
    → some_at (λ r. not (may r m.role)) m.path earlier ≡ false
    → find (clash may m) earlier ≡ None
clash-free may m [] h = refl
clash-free may m (x ∷ earlier) h =
    by_clash (same_path x.path m.path && not (may x.role m.role)) h (clash-free may m earlier)
  where
    by_clash : (b : Bool) → (b || some_at (λ r. not (may r m.role)) m.path earlier) ≡ false
        → (some_at (λ r. not (may r m.role)) m.path earlier ≡ false → find (clash may m) earlier ≡ None)
        → (if b then Some x else find (clash may m) earlier) ≡ None
    by_clash true h ih = absurd cc
    by_clash false h ih = ih h

-- a role that some mention at the path has
pub role-at : {S : Type 0} (test : Role → Bool) (p : Path) (ms : List (Mention S)) (m : Mention S) → first_at p ms ≡ Some m → test m.role
    ≡ true → some_at test p ms ≡ true
role-at test p [] m h e = absurd cc
role-at {S} test p (x ∷ ms) m h e = by_path (same_path x.path p) h (λ g. role-at test p ms m g e)
  where
    by_path : (b : Bool) → (if b then Some x else first_at p ms) ≡ Some m → (first_at p ms ≡ Some m → some_at test p ms ≡ true)
        → ((b && test x.role) || some_at test p ms) ≡ true
    by_path true h ih =
        let same : x ≡ m = cc in
        ap (λ (y : Mention S). test y.role || some_at test p ms) same ∙ ap (λ b. b || some_at test p ms) e
    by_path false h ih = ih h

-- a role that may not meet it isn't at its path
apart : {S : Type 0} (may : Role → Role → Bool) (second : Role → Bool) (x : Mention S) (later : List (Mention S))
    → ((q : Role) → second q ≡ true → may x.role q ≡ false) → list_all (λ n. not (same_path x.path n.path) || may x.role n.role) later
    ≡ true
    → some_at second x.path later ≡ false
apart may second x [] off h = refl
apart {S} may second x (n ∷ later) off h =
    by_role (same_path n.path x.path && second n.role) refl
    (apart may second x later off (and_right (not (same_path x.path n.path)
    || may x.role n.role) (list_all (λ n. not (same_path x.path n.path) || may x.role n.role) later) h))
  where
    by_role : (b : Bool) → (same_path n.path x.path && second n.role) ≡ b → some_at second x.path later ≡ false
        → (b || some_at second x.path later) ≡ false
    by_role true g ih =
        let same : n.path ≡ x.path = same_path-is n.path x.path (and_left (same_path n.path x.path) (second n.role) g) in
        let meet : (not (same_path x.path x.path) || may x.role n.role) ≡ true =
        ap (λ p. not (same_path x.path p) || may x.role n.role) (sym same)
        ∙ and_left (not (same_path x.path n.path) || may x.role n.role) (list_all (λ n. not (same_path x.path n.path)
        || may x.role n.role) later) h in
        let met : may x.role n.role ≡ true = ap (λ b. not b || may x.role n.role) (sym (same_path-refl x.path)) ∙ meet in
        true-false (may x.role n.role) met (off n.role (and_right (same_path n.path x.path) (second n.role) g))
    by_role false g ih = ih

-- Where they agree, roles that may not meet aren't at one path.
pub agree-apart : {S : Type 0} (may : Role → Role → Bool) (first second : Role → Bool) (p : Path) (earlier later : List (Mention S))
    → ((r q : Role) → first r ≡ true → second q ≡ true → may r q ≡ false) → agree may earlier later ≡ true → some_at first p earlier ≡ true
    → some_at second p later ≡ false
agree-apart may first second p [] later off h e = absurd cc
agree-apart {S} may first second p (x ∷ earlier) later off h e =
    by_first (same_path x.path p && first x.role) refl e
    (agree-apart may first second p earlier later off (and_right (list_all (λ n. not (same_path x.path n.path) || may x.role n.role) later)
    (agree may earlier later) h))
  where
    by_first : (b : Bool) → (same_path x.path p && first x.role) ≡ b → (b || some_at first p earlier) ≡ true
        → (some_at first p earlier ≡ true → some_at second p later ≡ false)
        → some_at second p later ≡ false
    by_first true g e ih =
        subst (λ q. some_at second q later ≡ false) (same_path-is x.path p (and_left (same_path x.path p) (first x.role) g))
        (apart may second x later (λ q s. off x.role q (and_right (same_path x.path p) (first x.role) g) s)
        (and_left (list_all (λ n. not (same_path x.path n.path) || may x.role n.role) later) (agree may earlier later) h))
    by_first false g e ih = ih e

-- ---- lists of mentions

-- the next agrees with all before it, and the others with all before them
pub all_agree-next : {S : Type 0} (may : Role → Role → Bool) (earlier m : List (Mention S)) (rest : List (List (Mention S)))
    → (agree may earlier m && (list_all (agree may (earlier ++ m)) rest && all_agree may rest))
    ≡ (list_all (agree may earlier) (m ∷ rest) && all_agree may (m ∷ rest))
all_agree-next may earlier m rest =
    ap (λ b. agree may earlier m && (b && all_agree may rest)) (agree-all may earlier m rest)
    ∙ by_test (agree may earlier m) (list_all (agree may earlier) rest) (list_all (agree may m) rest) (all_agree may rest)
  where
    by_test : (a b c d : Bool) → (a && ((b && c) && d)) ≡ ((a && b) && (c && d))
    by_test true true c d = refl
    by_test true false c d = refl
    by_test false b c d = refl
