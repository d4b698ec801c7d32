-- What holds of the mentions that one table of a document sees, headers too, and which of them are kept.
use Rattle.std.proofs.Common.{◌≡◌, refl, sym, ◌∙◌, ap, subst, Bool, true, false, List, [], ◌∷◌, ◌++◌, Some, None, inl, inr}
use Rattle.std.specs.Prelude.{◌&&◌, ◌||◌, not, if◌then◌else◌, is_some}
use Rattle.std.proofs.lemmas.Bool.{or_from}
use Rattle.toml_edit_model.specs.Text.{Text, same_text}
use Rattle.toml_edit_model.specs.Paths.{Step, at_key, at_element, Path, same_path, Mention, Source}
use Rattle.toml_edit_laws.proofs.common.Tests.{and_left, or-true, or-false, true-false, false-by, same_text-refl}
use Rattle.toml_edit_laws.proofs.mentions.GatherLaws.{unmentioned-none, is_of_key, first_of_key, AreHeadless, AreDistinct}
use Rattle.toml_edit_laws.proofs.common.Members.{Among, among-cases}
use Rattle.toml_edit_laws.proofs.mentions.KeptMentions.{under-is, kept-is}
use Rattle.toml_edit_laws.proofs.mentions.KeptOrder.{HaveOneHeader, under-header, slot-parts}
use Rattle.toml_edit_laws.proofs.common.PathLaws.{same_path-refl, same_path-is}
use Rattle.toml_edit_laws.proofs.mentions.Placed.{is_header}
use Rattle.toml_edit_laws.proofs.mentions.SomeAt.{some_at-append, under-append, some_at-under}
use Rattle.toml_edit_laws.proofs.common.Each.{all-append}
use Rattle.toml_edit_laws.proofs.common.OptionSteps.{none-is}
use Rattle.toml_edit_laws.proofs.mentions.Named.{EndsIn, AreNamed, single-named, under-named, other-key, named-at}
use Rattle.toml_edit_model.specs.Roles.{is_header_role, any_role}
use Rattle.toml_edit_model.specs.TableMentions.{under, some_at, is_single, is_slot, kept_from, kept}

-- ---- the conditions

-- plain headers stand in statements with brackets
abbrev pub HaveHeaders : List (Mention Source) → Type 0
HaveHeaders ms = (m : Mention Source) → Among m ms → is_header_role m.role ≡ true → is_header m.source.statement ≡ true

-- each key on the way to a path is mentioned
abbrev pub IsReached : {S : Type 0} → Path → List (Mention S) → Type 0
IsReached [] ms = Unit {0}
IsReached (at_key k ∷ p) ms = (some_at any_role (at_key k ∷ []) ms ≡ true) × IsReached p (under (at_key k) ms)
IsReached (at_element i ∷ p) ms = IsReached p (under (at_element i) ms)

abbrev pub AreReachedIn : {S : Type 0} → List (Mention S) → List (Mention S) → Type 0
AreReachedIn {S} all ms = (m : Mention S) → Among m ms → IsReached m.path all

-- What one table sees of the statements up to here: paths end in the keys of their segments, no path has two plain headers, each
-- key on the way to a path is mentioned, and plain headers stand in statements with brackets.
pub record AreOfTable (ms : List (Mention Source)) : Type 0 where
  pub named : AreNamed ms
  pub one_header : HaveOneHeader ms
  pub reached : AreReachedIn ms ms
  pub headers : HaveHeaders ms

pub of_nothing : AreOfTable []
of_nothing = record { named = tt; one_header = tt; reached = λ m a. elim a [ ]; headers = λ m a. elim a [ ] }

-- ---- one step down

reached-rest : {S : Type 0} (s : Step) (p : Path) (ms : List (Mention S)) → IsReached (s ∷ p) ms → IsReached p (under s ms)
reached-rest (at_key k) p ms h = h.1
reached-rest (at_element i) p ms h = h

-- The conditions hold one key or element down.
pub of_step : (s : Step) (ms : List (Mention Source)) → AreOfTable ms → AreOfTable (under s ms)
of_step s ms are =
    record {
      named = under-named s ms are.named;
      one_header = under-header s ms are.one_header;
      reached = λ m a.
          let up = under-is s m ms a in
          reached-rest s m.path ms (subst (λ p. IsReached p ms) up.path (are.reached up.mention up.among));
      headers = λ m a is.
          let up = under-is s m ms a in
          let roles : m.role ≡ up.mention.role = ap (λ (x : Mention Source). x.role) up.same in
          let sources : m.source ≡ up.mention.source = ap (λ (x : Mention Source). x.source) up.same in
          ap (λ (x : Source). is_header x.statement) sources ∙ are.headers up.mention up.among (ap is_header_role (sym roles) ∙ is);
    }

-- ---- mentions after mentions

pub reached-left : {S : Type 0} (p : Path) (xs ys : List (Mention S)) → IsReached p xs → IsReached p (xs ++ ys)
reached-left [] xs ys h = tt
reached-left (at_key k ∷ p) xs ys h = (
  some_at-append any_role (at_key k ∷ []) xs ys ∙ ap (λ b. b || some_at any_role (at_key k ∷ []) ys) h.0,
  subst (IsReached p) (sym (under-append (at_key k) xs ys)) (reached-left p (under (at_key k) xs) (under (at_key k) ys) h.1),
)
reached-left (at_element i ∷ p) xs ys h =
    subst (IsReached p) (sym (under-append (at_element i) xs ys)) (reached-left p (under (at_element i) xs) (under (at_element i) ys) h)

pub header-later : {S : Type 0} (xs ys : List (Mention S)) → HaveOneHeader xs → AreHeadless ys → HaveOneHeader ys → HaveOneHeader (xs ++ ys)
header-later [] ys h none g = g
header-later (m ∷ xs) ys h none g = (
  λ is.
      some_at-append is_header_role m.path xs ys
      ∙ or_from (some_at is_header_role m.path xs) (some_at is_header_role m.path ys) (h.0 is) (none m.path),
  header-later xs ys h.1 none g,
)

-- a statement with no plain header, each of whose paths is reached, comes after others
pub of_later : (ms ns : List (Mention Source)) → AreOfTable ms → AreNamed ns → AreHeadless ns → HaveOneHeader ns
    → AreReachedIn (ms ++ ns) ns
    → HaveHeaders ns → AreOfTable (ms ++ ns)
of_later ms ns are named none one_header reached headers =
    record {
      named = all-append (λ (m : Mention Source). EndsIn m.segment.key m.path) ms ns are.named named;
      one_header = header-later ms ns are.one_header none one_header;
      reached = λ m a.
          elim (among-cases m ms ns a) [
            | inl g ↦ reached-left m.path ms ns (are.reached m g)
            | inr g ↦ reached m g
          ];
      headers = λ m a.
          elim (among-cases m ms ns a) [
            | inl g ↦ are.headers m g
            | inr g ↦ headers m g
          ];
    }

-- ---- which are kept

-- one mention more in front: whether it is a slot, the key is mentioned before, it is at the key, it is a header, and a header or
-- any mention of the key comes later
some-step : {S : Type 0} (k : Text) (m : Mention S) (later : List (Mention S)) (slot seen here head heads more : Bool)
    → is_some (first_of_key k later) ≡ (heads || (not (seen || ((here && true) || false)) && more))
    → (here ≡ true → (slot ≡ (head || (not seen && not heads))) × (is_of_key k m ≡ true))
    → (here ≡ false → slot ≡ true → is_of_key k m ≡ false)
    → is_some (first_of_key k (if slot then m ∷ later else later)) ≡ (((here && head) || heads) || (not seen && ((here && true) || more)))
some-step k m later true seen true true heads more h at off = rw ((at refl).1) refl
some-step k m later true true true false heads more h at off = let e = (at refl).0 in absurd cc
some-step k m later true false true false true more h at off = let e = (at refl).0 in absurd cc
some-step k m later true false true false false more h at off = rw ((at refl).1) refl
some-step k m later false seen true true heads more h at off = let e = (at refl).0 in absurd cc
some-step k m later false true true false heads more h at off = h
some-step k m later false false true false true more h at off = h
some-step k m later false false true false false more h at off = let e = (at refl).0 in absurd cc
some-step k m later true seen false head heads more h at off = rw (off refl refl) (h ∙ ap (λ b. heads || (not b && more)) (or-false seen))
some-step k m later false seen false head heads more h at off = h ∙ ap (λ b. heads || (not b && more)) (or-false seen)

-- A key has a slot where a header of it comes, or any mention and none before.
pub kept_from-some : {S : Type 0} (k : Text) (before ms : List (Mention S)) → AreNamed ms
    → is_some (first_of_key k (kept_from before ms))
    ≡ (some_at is_header_role (at_key k ∷ []) ms || (not (some_at any_role (at_key k ∷ []) before) && some_at any_role (at_key k ∷ []) ms))
kept_from-some k before [] n = by_test (some_at any_role (at_key k ∷ []) before)
  where
    by_test : (b : Bool) → false ≡ (false || (not b && false))
    by_test true = refl
    by_test false = refl
kept_from-some k before (m ∷ ms) n =
    some-step k m (kept_from (before ++ (m ∷ [])) ms) (is_slot before m ms) (some_at any_role (at_key k ∷ []) before)
    (same_path m.path (at_key k ∷ []))
    (is_header_role m.role) (some_at is_header_role (at_key k ∷ []) ms) (some_at any_role (at_key k ∷ []) ms)
    (kept_from-some k (before ++ (m ∷ [])) ms n.1
    ∙ ap (λ b. some_at is_header_role (at_key k ∷ []) ms
    || (not b && some_at any_role (at_key k ∷ []) ms)) (some_at-append any_role (at_key k ∷ []) before (m ∷ [])))
    (λ e. let here = same_path-is m.path (at_key k ∷ []) e in (
      ap (λ p. is_single p && (is_header_role m.role || (not (some_at any_role p before) && not (some_at is_header_role p ms)))) here,
      subst (λ x. same_text k x ≡ true) (named-at m.path m.segment.key k n.0 here) (same_text-refl k),
    ))
    (λ e s.
    other-key m.path m.segment.key k n.0
    (and_left (is_single m.path) (is_header_role m.role
    || (not (some_at any_role m.path before) && not (some_at is_header_role m.path ms))) s) e)

some-less : {S : Type 0} (p : Path) (ms : List (Mention S)) → (some_at is_header_role p ms || some_at any_role p ms) ≡ some_at any_role p ms
some-less p [] = refl
some-less p (m ∷ ms) =
    by_test (same_path m.path p) (is_header_role m.role) (some_at is_header_role p ms) (some_at any_role p ms) (some-less p ms)
  where
    by_test : (a r x y : Bool) → (x || y) ≡ y → (((a && r) || x) || ((a && true) || y)) ≡ ((a && true) || y)
    by_test true r x y h = or-true (r || x)
    by_test false r x y h = h

-- A key has a slot exactly where it is mentioned.
pub kept-some : {S : Type 0} (k : Text) (ms : List (Mention S)) → AreNamed ms → is_some (first_of_key k (kept ms))
    ≡ some_at any_role (at_key k ∷ []) ms
kept-some k ms n = kept_from-some k [] ms n ∙ some-less (at_key k ∷ []) ms

-- Each slot has another key.
pub one_slot-from : {S : Type 0} (before ms : List (Mention S)) → AreNamed ms → HaveOneHeader ms → AreDistinct (kept_from before ms)
one_slot-from before [] n h = tt
one_slot-from {S} before (m ∷ ms) n h = by_slot (is_slot before m ms) refl (one_slot-from (before ++ (m ∷ [])) ms n.1 h.1)
  where
    k : Path
    k = at_key m.segment.key ∷ []

    later : List (Mention S)
    later = kept_from (before ++ (m ∷ [])) ms

    by_slot : (b : Bool) → is_slot before m ms ≡ b → AreDistinct later → AreDistinct (if b then m ∷ later else later)
    by_slot true e d =
        let parts = slot-parts before m ms e in
        let path : m.path ≡ k = single-named m.path m.segment.key n.0 parts.0 in
        let no_header : some_at is_header_role k ms ≡ false =
        subst (λ q. some_at is_header_role q ms ≡ false) path (elim parts.1 [ inl r ↦ h.0 r | inr r ↦ r.1 ]) in
        let seen : some_at any_role k (before ++ (m ∷ [])) ≡ true =
        some_at-append any_role k before (m ∷ [])
        ∙ ap (λ p. some_at any_role k before || ((same_path p k && true) || false)) path
        ∙ ap (λ b. some_at any_role k before || ((b && true) || false)) (same_path-refl k)
        ∙ or-true (some_at any_role k before) in (
          none-is (first_of_key m.segment.key later)
              (kept_from-some m.segment.key (before ++ (m ∷ [])) ms n.1
              ∙ ap (λ b. b || (not (some_at any_role k (before ++ (m ∷ []))) && some_at any_role k ms)) no_header
              ∙ ap (λ b. not b && some_at any_role k ms) seen),
          d,
        )
    by_slot false e d = d

pub one_slot : {S : Type 0} (ms : List (Mention S)) → AreNamed ms → HaveOneHeader ms → AreDistinct (kept ms)
one_slot ms n h = one_slot-from [] ms n h

-- ---- what has no slot

-- some mention is at a path
some-among : {S : Type 0} (p : Path) (ms : List (Mention S)) → some_at any_role p ms ≡ true → (m : Mention S) × Among m ms × (m.path ≡ p)
some-among p [] h = absurd cc
some-among {S} p (m ∷ ms) h = by_test (same_path m.path p) refl h (some-among p ms)
  where
    by_test : (b : Bool) → same_path m.path p ≡ b → ((b && true) || some_at any_role p ms) ≡ true
        → (some_at any_role p ms ≡ true → (n : Mention S) × Among n ms × (n.path ≡ p)) → (n : Mention S) × Among n (m ∷ ms) × (n.path ≡ p)
    by_test true e g ih = (m, inl refl, same_path-is m.path p e)
    by_test false e g ih = let found = ih g in (found.0, inr found.1, found.2)

-- below a key that has no slot nothing is mentioned
pub under-none : (k : Text) (ms : List (Mention Source)) → AreOfTable ms → first_of_key k (kept ms) ≡ None → under (at_key k) ms ≡ []
under-none k ms are new =
    unmentioned-none (under (at_key k) ms) (λ p.
    some_at-under any_role (at_key k) p ms
    ∙ false-by (some_at any_role (at_key k ∷ p) ms) (λ e.
    let found = some-among (at_key k ∷ p) ms e in
    let reached : IsReached (at_key k ∷ p) ms = subst (λ q. IsReached q ms) found.2 (are.reached found.0 found.1) in
    true-false (some_at any_role (at_key k ∷ []) ms) reached.0 (sym (kept-some k ms are.named) ∙ ap is_some new)))

-- what a search by a key gives is one of the mentions
pub found-among : {S : Type 0} (k : Text) (ms : List (Mention S)) (m : Mention S) → first_of_key k ms ≡ Some m → Among m ms
found-among k [] m h = absurd cc
found-among {S} k (j ∷ ms) m h = by_test (is_of_key k j) h (found-among k ms m)
  where
    by_test : (b : Bool) → (if b then Some j else first_of_key k ms) ≡ Some m → (first_of_key k ms ≡ Some m → Among m ms) → Among m (j ∷ ms)
    by_test true e ih = inl cc
    by_test false e ih = inr (ih e)

pub kept-among : {S : Type 0} (k : Text) (ms : List (Mention S)) (m : Mention S) → first_of_key k (kept ms) ≡ Some m → Among m ms
kept-among k ms m h = (kept-is [] m ms (found-among k (kept ms) m h)).among
