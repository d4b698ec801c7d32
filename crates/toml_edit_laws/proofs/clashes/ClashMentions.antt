-- Mentions of statements that are right one after another, as one table sees them: what is asked of them, which mention the slot of a
-- key is kept from, and that all of it passes to the tables further down.
use Rattle.std.proofs.Common.{◌≡◌, refl, sym, ◌∙◌, ap, subst, Bool, true, false, List, [], ◌∷◌, ◌++◌, Option, Some}
use Rattle.std.specs.Prelude.{◌&&◌, ◌||◌, not, if◌then◌else◌, option_map}
use Rattle.std.specs.List.{AllByRecursion, list_all}
use Rattle.std.proofs.lemmas.Bool.{or_from}
use Rattle.toml_edit_model.specs.Text.{Text}
use Rattle.toml_edit_model.specs.Paths.{Step, at_key, Path, same_step, same_path, Mention, Source}
use Rattle.toml_edit_model.specs.Accepted.{agree}
use Rattle.toml_edit_laws.proofs.common.Tests.{and_left, and_right, or-true, true-false}
use Rattle.toml_edit_laws.proofs.common.PathLaws.{same_path-swap, same_step-is, same_path-is}
use Rattle.toml_edit_laws.proofs.mentions.GatherLaws.{first_at}
use Rattle.toml_edit_laws.proofs.mentions.Placed.{IsHeaded}
use Rattle.toml_edit_laws.proofs.mentions.SomeAt.{some_at-append, some_at-under, some_at-less}
use Rattle.toml_edit_laws.proofs.common.Each.{all-append}
use Rattle.toml_edit_laws.proofs.mentions.RoleTests.{is_through_role, every_role, by_role, implies, implied}
use Rattle.toml_edit_laws.proofs.mentions.Named.{AreNamed, under-named}
use Rattle.toml_edit_laws.specs.KeptKeys.{under_path}
use Rattle.toml_edit_model.specs.Roles.{Role, dotted_role, implied_role, header_role, array_role, may_meet, any_role}
use Rattle.toml_edit_model.specs.TableMentions.{inside, under, some_at}

-- ---- tests of roles

-- the role is a table's
abbrev pub is_table_role : Role → Bool
is_table_role dotted_role = true
is_table_role implied_role = true
is_table_role header_role = true
is_table_role _ = false

pub some_at-or : {S : Type 0} (one other : Role → Bool) (p : Path) (ms : List (Mention S))
    → some_at (λ r. one r || other r) p ms ≡ (some_at one p ms || some_at other p ms)
some_at-or one other p [] = refl
some_at-or one other p (m ∷ ms) =
    ap (λ b. (same_path m.path p && (one m.role || other m.role)) || b) (some_at-or one other p ms)
    ∙ by_test (same_path m.path p) (one m.role) (other m.role) (some_at one p ms) (some_at other p ms)
  where
    by_test : (a b c d e : Bool) → ((a && (b || c)) || (d || e)) ≡ (((a && b) || d) || ((a && c) || e))
    by_test true true c d e = refl
    by_test true false true d e = sym (or-true d)
    by_test true false false d e = refl
    by_test false b c d e = refl

-- ---- roles that meet

-- at each path every role may meet those before it
abbrev pub HaveMeetingRoles : {S : Type 0} → List (Mention S) → Type 0
HaveMeetingRoles [] = Unit {0}
HaveMeetingRoles (m ∷ ms) = (some_at (λ r. not (may_meet m.role r)) m.path ms ≡ false) × HaveMeetingRoles ms

pub meeting-under : {S : Type 0} (s : Step) (ms : List (Mention S)) → HaveMeetingRoles ms → HaveMeetingRoles (under s ms)
meeting-under s [] h = tt
meeting-under {S} s (m ∷ ms) h = by_path m.path h.0 (meeting-under s ms h.1)
  where
    by_path : (p : Path) → some_at (λ r. not (may_meet m.role r)) p ms ≡ false → HaveMeetingRoles (under s ms)
        → HaveMeetingRoles (inside s m p ++ under s ms)
    by_path [] g ih = ih
    by_path (t ∷ p) g ih = by_step (same_step t s) refl
      where
        by_step : (b : Bool) → same_step t s ≡ b → HaveMeetingRoles ((if b then record m { path = p } ∷ [] else []) ++ under s ms)
        by_step true e = (
          some_at-under (λ r. not (may_meet m.role r)) s p ms
              ∙ ap (λ u. some_at (λ r. not (may_meet m.role r)) (u ∷ p) ms) (sym (same_step-is t s e)) ∙ g,
          ih,
        )
        by_step false e = ih

-- a later mention that agrees with one has a role that it may meet
meets-none : {S : Type 0} (x : Mention S) (later : List (Mention S))
    → list_all (λ n. not (same_path x.path n.path) || may_meet x.role n.role) later ≡ true
    → some_at (λ r. not (may_meet x.role r)) x.path later ≡ false
meets-none x [] h = refl
meets-none x (n ∷ later) h =
    or_from (same_path n.path x.path && not (may_meet x.role n.role)) (some_at (λ r. not (may_meet x.role r)) x.path later)
    (ap (λ b. b && not (may_meet x.role n.role)) (same_path-swap n.path x.path)
    ∙ by_test (same_path x.path n.path) (may_meet x.role n.role) (and_left (not (same_path x.path n.path) || may_meet x.role n.role) _ h))
    (meets-none x later (and_right (not (same_path x.path n.path) || may_meet x.role n.role) _ h))
  where
    by_test : (a b : Bool) → (not a || b) ≡ true → (a && not b) ≡ false
    by_test true true h = refl
    by_test true false h = absurd cc
    by_test false b h = refl

pub meeting-both : {S : Type 0} (xs ys : List (Mention S)) → HaveMeetingRoles xs → HaveMeetingRoles ys → agree may_meet xs ys ≡ true
    → HaveMeetingRoles (xs ++ ys)
meeting-both [] ys g h e = h
meeting-both (x ∷ xs) ys g h e = (
  some_at-append (λ r. not (may_meet x.role r)) x.path xs ys
      ∙ or_from (some_at (λ r. not (may_meet x.role r)) x.path xs) (some_at (λ r. not (may_meet x.role r)) x.path ys) g.0
      (meets-none x ys (and_left (list_all (λ n. not (same_path x.path n.path) || may_meet x.role n.role) ys) (agree may_meet xs ys) e)),
  meeting-both xs ys g.1 h (and_right (list_all (λ n. not (same_path x.path n.path) || may_meet x.role n.role) ys) (agree may_meet xs ys)
      e),
)

-- roles of one kind may meet none of the other, in neither order, and none is of both
abbrev pub are_apart : (Role → Bool) → (Role → Bool) → Bool
are_apart first second =
    every_role (λ r. implies (first r) (not (second r))
    && every_role (λ q. implies (first r && second q) (not (may_meet r q) && not (may_meet q r))))

-- They aren't at one path.
pub kinds-apart : {S : Type 0} (first second : Role → Bool) (p : Path) (ms : List (Mention S)) → are_apart first second ≡ true
    → HaveMeetingRoles ms
    → some_at first p ms ≡ true → some_at second p ms ≡ false
kinds-apart first second p [] apart h e = absurd cc
kinds-apart {S} first second p (m ∷ ms) apart h e = by_path (same_path m.path p) refl e (kinds-apart first second p ms apart h.1)
  where
    both : implies (first m.role) (not (second m.role)) ≡ true
    both = and_left (implies (first m.role) (not (second m.role))) _
        (by_role (λ r. implies (first r) (not (second r)) && every_role (λ q. implies (first r && second q) (not (may_meet r q)
        && not (may_meet q r)))) apart m.role)

    off : (r q : Role) → implies (first r && second q) (not (may_meet r q) && not (may_meet q r)) ≡ true
    off r q =
        by_role (λ s. implies (first r && second s) (not (may_meet r s) && not (may_meet s r)))
        (and_right (implies (first r) (not (second r))) _
        (by_role (λ s. implies (first s) (not (second s)) && every_role (λ t. implies (first s && second t) (not (may_meet s t)
        && not (may_meet t s)))) apart r)) q

    none : m.path ≡ p → some_at (λ r. not (may_meet m.role r)) p ms ≡ false
    none same = subst (λ q. some_at (λ r. not (may_meet m.role r)) q ms ≡ false) same h.0

    earlier : (a b c d : Bool) → implies (a && b) (c && d) ≡ true → a ≡ true → implies b c ≡ true
    earlier true true c d g f = and_left c d g
    earlier true false c d g f = refl
    earlier false b c d g f = absurd cc

    later : (a b c d : Bool) → implies (a && b) (c && d) ≡ true → b ≡ true → implies a d ≡ true
    later true true c d g s = and_right c d g
    later false b c d g s = refl
    later true false c d g s = absurd cc

    others : (b d : Bool) → first m.role ≡ b → second m.role ≡ d → m.path ≡ p → (b || some_at first p ms) ≡ true
        → (some_at first p ms ≡ true → some_at second p ms ≡ false) → (d || some_at second p ms) ≡ false
    others true true f s same e ih = true-false (not (second m.role)) (implied (first m.role) (not (second m.role)) both f) (ap not s)
    others true false f s same e ih =
        some_at-less second (λ r. not (may_meet m.role r)) p ms
        (λ q. earlier (first m.role) (second q) (not (may_meet m.role q)) (not (may_meet q m.role)) (off m.role q) f) (none same)
    others false true f s same e ih =
        true-false (some_at first p ms) e
        (some_at-less first (λ r. not (may_meet m.role r)) p ms
        (λ q. later (first q) (second m.role) (not (may_meet q m.role)) (not (may_meet m.role q)) (off q m.role) s) (none same))
    others false false f s same e ih = ih e

    by_path : (b : Bool) → same_path m.path p ≡ b → ((b && first m.role) || some_at first p ms) ≡ true
        → (some_at first p ms ≡ true → some_at second p ms ≡ false)
        → ((b && second m.role) || some_at second p ms) ≡ false
    by_path true g e ih = others (first m.role) (second m.role) refl refl (same_path-is m.path p g) e ih
    by_path false g e ih = ih e

-- ---- the first role at a path

abbrev pub first_role : {S : Type 0} → Path → List (Mention S) → Option Role
first_role p ms = option_map (λ m. m.role) (first_at p ms)

pub first_role-under : {S : Type 0} (s : Step) (p : Path) (ms : List (Mention S)) → first_role p (under s ms) ≡ first_role (s ∷ p) ms
first_role-under s p [] = refl
first_role-under {S} s p (m ∷ ms) = by_path m.path (first_role-under s p ms)
  where
    by_path : (q : Path) → first_role p (under s ms) ≡ first_role (s ∷ p) ms
        → first_role p (inside s m q ++ under s ms) ≡ option_map (λ (x : Mention S). x.role) (if same_path q (s ∷ p) then Some m
        else first_at (s ∷ p) ms)
    by_path [] ih = ih
    by_path (t ∷ q) ih = by_step (same_step t s)
      where
        here : (b : Bool) → option_map (λ (x : Mention S). x.role) (if b then Some (record m { path = q }) else first_at p (under s ms))
            ≡ option_map (λ (x : Mention S). x.role) (if b then Some m else first_at (s ∷ p) ms)
        here true = refl
        here false = ih

        by_step : (b : Bool) → first_role p ((if b then record m { path = q } ∷ [] else []) ++ under s ms)
            ≡ option_map (λ (x : Mention S). x.role) (if b && same_path q p then Some m else first_at (s ∷ p) ms)
        by_step true = here (same_path q p)
        by_step false = ih

pub first_role-both : {S : Type 0} (p : Path) (xs ys : List (Mention S))
    → first_role p (xs ++ ys) ≡ (if some_at any_role p xs then first_role p xs else first_role p ys)
first_role-both p [] ys = refl
first_role-both {S} p (m ∷ xs) ys = by_test (same_path m.path p) (first_role-both p xs ys)
  where
    by_test : (b : Bool) → first_role p (xs ++ ys) ≡ (if some_at any_role p xs then first_role p xs else first_role p ys)
        → option_map (λ (x : Mention S). x.role) (if b then Some m else first_at p (xs ++ ys))
        ≡ (if (b && true) || some_at any_role p xs then option_map (λ (x : Mention S). x.role) (if b then Some m else first_at p xs)
        else first_role p ys)
    by_test true ih = refl
    by_test false ih = ih

-- A header only goes on in the last element of an array that headers in double brackets began.
abbrev pub HaveArraysFirst : {S : Type 0} → List (Mention S) → Type 0
HaveArraysFirst ms = (p : Path) → some_at is_through_role p ms ≡ true → first_role p ms ≡ Some array_role

-- What is below a key is mentioned only where the key is.
abbrev pub AreClosedByKeys : {S : Type 0} → List (Mention S) → Type 0
AreClosedByKeys ms = (q : Path) (k : Text) (p : Path) → some_at any_role (q ++ (at_key k ∷ [])) ms ≡ false
    → some_at any_role (q ++ (at_key k ∷ p)) ms ≡ false

-- ---- plain headers

headed-under : (s : Step) (ms : List (Mention Source)) → AllByRecursion IsHeaded ms → AllByRecursion IsHeaded (under s ms)
headed-under s [] h = tt
headed-under s (m ∷ ms) h = all-append IsHeaded (inside s m m.path) (under s ms) (by_path m.path) (headed-under s ms h.1)
  where
    by_path : (p : Path) → AllByRecursion IsHeaded (inside s m p)
    by_path [] = tt
    by_path (t ∷ p) = by_step (same_step t s)
      where
        by_step : (b : Bool) → AllByRecursion IsHeaded (if b then record m { path = p } ∷ [] else [])
        by_step true = (h.0, tt)
        by_step false = tt

-- ---- all that is asked

-- The mentions of statements that are right one after another, as one table sees them.
pub record AreOfStatements (ms : List (Mention Source)) : Type 0 where
  pub named : AreNamed ms
  pub meeting : HaveMeetingRoles ms
  pub closed : AreClosedByKeys ms
  pub through : HaveArraysFirst ms
  pub headed : AllByRecursion IsHeaded ms

pub statements-none : AreOfStatements []
statements-none = record { named = tt; meeting = tt; closed = λ q k p h. refl; through = λ p h. absurd cc; headed = tt }

-- It passes to the table of a key, and of an element.
pub statements-under : (s : Step) (ms : List (Mention Source)) → AreOfStatements ms → AreOfStatements (under s ms)
statements-under s ms h =
    record {
      named = under-named s ms h.named;
      meeting = meeting-under s ms h.meeting;
      closed = λ q k p e. some_at-under any_role s (q ++ (at_key k ∷ p)) ms
          ∙ h.closed (s ∷ q) k p (sym (some_at-under any_role s (q ++ (at_key k ∷ [])) ms) ∙ e);
      through = λ p e. first_role-under s p ms ∙ h.through (s ∷ p) (sym (some_at-under is_through_role s p ms) ∙ e);
      headed = headed-under s ms h.headed;
    }

pub statements-under_path : (p : Path) (ms : List (Mention Source)) → AreOfStatements ms → AreOfStatements (under_path p ms)
statements-under_path [] ms h = h
statements-under_path (s ∷ p) ms h = statements-under_path p (under s ms) (statements-under s ms h)
