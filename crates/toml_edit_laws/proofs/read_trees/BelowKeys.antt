-- What one table of an accepted document sees, and what is told below its keys: a table's, an array's and a value's.
use Rattle.std.proofs.Common.{◌≡◌, ◌⊎◌, ◌<◌, ℕ, refl, sym, ap, subst, ◌∙◌, inl, inr, true, false, Bool, List, [], ◌∷◌, ◌++◌, Option, Some}
use Rattle.std.proofs.Common.{None}
use Rattle.std.specs.Prelude.{◌&&◌, ◌||◌, if◌then◌else◌, option_map}
use Rattle.toml_edit_model.specs.Text.{Text, same_text}
use Rattle.toml_edit_model.specs.Paths.{at_key, at_element, Path, same_path, to_key, Mention, Source}
use Rattle.toml_edit_model.specs.TreeOf.{Form, IsTableRole}
use Rattle.toml_edit_laws.proofs.common.Tests.{true-false, false-by, same_text-refl, same_text-is}
use Rattle.toml_edit_laws.proofs.common.Members.{Among, all-among}
use Rattle.toml_edit_laws.proofs.mentions.GatherLaws.{first_of_key, first_of_key-is, AreDistinct}
use Rattle.toml_edit_laws.proofs.mentions.KeptMentions.{moved, under-has, under-is, kept-is}
use Rattle.toml_edit_laws.proofs.adding.TableMentions.{AreOfTable, of_step, one_slot, under-none, found-among}
use Rattle.toml_edit_laws.proofs.clashes.ClashKept.{IsLead, kept-is-lead}
use Rattle.toml_edit_laws.proofs.clashes.ClashMentions.{is_table_role, are_apart, kinds-apart, AreOfStatements, statements-under}
use Rattle.toml_edit_laws.proofs.clashes.ClashCounts.{count_at}
use Rattle.toml_edit_laws.proofs.read_trees.MentionsStand.{holds-under}
use Rattle.toml_edit_laws.proofs.read_trees.StatementsRight.{IsRightMention, AreRight}
use Rattle.toml_edit_laws.proofs.read_trees.FactsTold.{count-some}
use Rattle.toml_edit_laws.proofs.read_trees.WaysOfPaths.{Way, HasWay}
use Rattle.toml_edit_laws.proofs.read_trees.ReadSoFar.{HaveMore, more-under}
use Rattle.toml_edit_laws.proofs.common.PathLaws.{same_path-is}
use Rattle.toml_edit_laws.proofs.mentions.SomeAt.{some_at-under, among-test}
use Rattle.toml_edit_laws.proofs.mentions.RoleTests.{is_through_role}
use Rattle.toml_edit_laws.proofs.mentions.Named.{EndsIn, single-named}
use Rattle.toml_edit_model.specs.Roles.{Role, dotted_role, implied_role, header_role, array_role, value_role, continued_role}
use Rattle.toml_edit_model.specs.Roles.{is_header_role, is_value_role, is_array_role}
use Rattle.toml_edit_model.specs.TableMentions.{under, kept, some_at}

-- ---- what one table sees

-- mentions of the table itself apart, each stands at the end of a way from it
abbrev pub HaveWays : List (Mention Source) → Type 0
HaveWays ms = (m : Mention Source) → Among m ms → (m.path ≡ []) ⊎ HasWay ms m

pub record Readable (ms : List (Mention Source)) : Type 0 where
  pub table : AreOfTable ms
  pub statements : AreOfStatements ms
  pub ways : HaveWays ms
  pub more : HaveMore ms
  pub right : AreRight ms

-- a role stands at a key
abbrev pub StandsAt : (Role → Bool) → Text → List (Mention Source) → Type 0
StandsAt test k ms = some_at test (at_key k ∷ []) ms ≡ true

-- roles that are apart don't stand at one key
pub apart-at : (first second : Role → Bool) (k : Text) (ms : List (Mention Source)) → Readable ms → are_apart first second ≡ true
    → StandsAt first k ms
    → StandsAt second k ms → ⊥
apart-at first second k ms h apart a b =
    true-false (some_at second (at_key k ∷ []) ms) b (kinds-apart first second (at_key k ∷ []) ms apart h.statements.meeting a)

some-among : (test : Role → Bool) (p : Path) (ms : List (Mention Source)) → some_at test p ms ≡ true → (m : Mention Source) × Among m ms
    × (m.path ≡ p)
some-among test p [] h = absurd cc
some-among test p (m ∷ ms) h = by_test (same_path m.path p) (test m.role) refl h (some-among test p ms)
  where
    by_test : (a b : Bool) → same_path m.path p ≡ a → ((a && b) || some_at test p ms) ≡ true
        → (some_at test p ms ≡ true → (n : Mention Source) × Among n ms × (n.path ≡ p)) → (n : Mention Source) × Among n (m ∷ ms)
        × (n.path ≡ p)
    by_test true true e g ih = (m, inl refl, same_path-is m.path p e)
    by_test true false e g ih = let found = ih g in (found.0, inr found.1, found.2)
    by_test false b e g ih = let found = ih g in (found.0, inr found.1, found.2)

-- the array of a number is mentioned
pub numbered-among : (p : Path) (ms : List (Mention Source)) (n : ℕ) → n < count_at is_array_role p ms → (m : Mention Source) × Among m ms
    × (m.path ≡ p)
numbered-among p ms n h = some-among is_array_role p ms (count-some p ms n h)

-- ---- below a table's key

way-first : (p : Path) (ms : List (Mention Source)) (k : Text) → Way p ms → (l : Text) × (r : Path) × (to_key p k ≡ at_key l ∷ r)
way-first [] ms k h = (k, [], refl)
way-first (at_key l ∷ p) ms k h = (l, p ++ (at_key k ∷ []), refl)
way-first (at_element i ∷ p) ms k h = absurd h

pub way-begins : (ms : List (Mention Source)) (m : Mention Source) → HasWay ms m → (l : Text) × (r : Path) × (m.path ≡ at_key l ∷ r)
way-begins ms m h = let first = way-first h.above ms m.segment.key h.way in (first.0, first.1, h.path ∙ first.2)

module _ (ms : List (Mention Source)) (h : Readable ms) (k : Text) where
  -- how a mention below the key goes on: at it, below a table there, or below an element there
  GoesOn : Mention Source → Type 0
  GoesOn m =
      (m.path ≡ [])
      ⊎ ((StandsAt is_table_role k ms × HasWay (under (at_key k) ms) m)
      ⊎ ((i : ℕ) × (i < count_at is_array_role (at_key k ∷ []) ms) × (p : Path) × (m.path ≡ at_element i ∷ to_key p m.segment.key)
      × Way p (under (at_element i) (under (at_key k) ms))))

  by-way : (m : Mention Source) (p : Path) → at_key k ∷ m.path ≡ to_key p m.segment.key → Way p ms → GoesOn m
  unfolding GoesOn
  by-way m [] e w = inl cc
  by-way m (at_key l ∷ []) e w =
      let key : l ≡ k = cc in
      let path : m.path ≡ at_key m.segment.key ∷ [] = cc in
      inr (inl (subst (λ x. StandsAt is_table_role x ms) key w, record { above = []; path = path; way = tt }))
  by-way m (at_key l ∷ at_key j ∷ p) e w =
      let key : l ≡ k = cc in
      let path : m.path ≡ to_key (at_key j ∷ p) m.segment.key = cc in
      inr (inl (
        subst (λ x. StandsAt is_table_role x ms) key w.0,
        record { above = at_key j ∷ p; path = path; way = subst (λ x. Way (at_key j ∷ p) (under (at_key x) ms)) key w.1 },
      ))
  by-way m (at_key l ∷ at_element i ∷ p) e w =
      let key : l ≡ k = cc in
      let path : m.path ≡ at_element i ∷ to_key p m.segment.key = cc in
      inr (inr (
        i,
        subst (λ x. i < count_at is_array_role (at_key x ∷ []) ms) key w.0,
        p,
        path,
        subst (λ x. Way p (under (at_element i) (under (at_key x) ms))) key w.1,
      ))
  by-way m (at_element i ∷ p) e w = absurd w

  goes-on : (m : Mention Source) → Among m (under (at_key k) ms) → GoesOn m
  unfolding GoesOn
  goes-on m a =
      let up = under-is (at_key k) m ms a in
      elim (h.ways up.mention up.among) [
        | inl e ↦ let clash : at_key k ∷ m.path ≡ [] = sym up.path ∙ e in absurd cc
        | inr w ↦
            by-way m w.above (sym up.path ∙ w.path ∙ ap (λ (n : Mention Source). to_key w.above n.segment.key) (sym up.same)) w.way
      ]

  array-stands : (i : ℕ) → i < count_at is_array_role (at_key k ∷ []) ms → StandsAt is_array_role k ms
  array-stands i less = count-some (at_key k ∷ []) ms i less

  -- A table's key: what is below it is a table's again.
  pub table-below : StandsAt is_table_role k ms → Readable (under (at_key k) ms)
  unfolding GoesOn
  table-below stands =
      record {
        table = of_step (at_key k) ms h.table;
        statements = statements-under (at_key k) ms h.statements;
        ways = λ m a.
            elim (goes-on m a) [
              | inl e ↦ inl e
              | inr g ↦
                  elim g [
                    | inl w ↦ inr w.1
                    | inr x ↦ absurd (apart-at is_table_role is_array_role k ms h refl stands (array-stands x.0 x.1))
                  ]
            ];
        more = more-under (at_key k) ms h.more;
        right = holds-under (λ i s source. IsRightMention s source) (at_key k) ms h.right;
      }

  -- An array's key: what is below it is below its elements.
  pub array-below : StandsAt is_array_role k ms → (m : Mention Source) → Among m (under (at_key k) ms)
      → (m.path ≡ []) ⊎ ((i : ℕ) × (r : Path) × (i < count_at is_array_role (at_key k ∷ []) ms) × (m.path ≡ at_element i ∷ r))
  unfolding GoesOn
  array-below stands m a =
      elim (goes-on m a) [
        | inl e ↦ inl e
        | inr g ↦
            elim g [
              | inl w ↦ absurd (apart-at is_table_role is_array_role k ms h refl w.0 stands)
              | inr x ↦ inr (x.0, to_key x.2 m.segment.key, x.1, x.3)
            ]
      ]

  element-way : (i : ℕ) → StandsAt is_array_role k ms → (m : Mention Source) → Among m (under (at_element i) (under (at_key k) ms))
      → HasWay (under (at_element i) (under (at_key k) ms)) m
  unfolding GoesOn
  element-way i stands m a =
      let up = under-is (at_element i) m (under (at_key k) ms) a in
      elim (goes-on up.mention up.among) [
        | inl e ↦ let clash : at_element i ∷ m.path ≡ [] = sym up.path ∙ e in absurd cc
        | inr g ↦
            elim g [
              | inl w ↦ absurd (apart-at is_table_role is_array_role k ms h refl w.0 stands)
              | inr x ↦
                  let whole : at_element i ∷ m.path ≡ at_element x.0 ∷ to_key x.2 up.mention.segment.key = sym up.path ∙ x.3 in
                  let number : x.0 ≡ i = cc in
                  let path : m.path ≡ to_key x.2 up.mention.segment.key = cc in
                  record {
                    above = x.2;
                    path = path ∙ ap (λ (n : Mention Source). to_key x.2 n.segment.key) (sym up.same);
                    way = subst (λ j. Way x.2 (under (at_element j) (under (at_key k) ms))) number x.4;
                  }
            ]
      ]

  pub element-below : (i : ℕ) → StandsAt is_array_role k ms → Readable (under (at_element i) (under (at_key k) ms))
  element-below i stands =
      record {
        table = of_step (at_element i) (under (at_key k) ms) (of_step (at_key k) ms h.table);
        statements = statements-under (at_element i) (under (at_key k) ms) (statements-under (at_key k) ms h.statements);
        ways = λ m a. inr (element-way i stands m a);
        more = more-under (at_element i) (under (at_key k) ms) (more-under (at_key k) ms h.more);
        right =
            holds-under (λ j s source. IsRightMention s source) (at_element i) (under (at_key k) ms)
            (holds-under (λ j s source. IsRightMention s source) (at_key k) ms h.right);
      }

  pub element-begins : (i : ℕ) → StandsAt is_array_role k ms → (m : Mention Source) → Among m (under (at_element i) (under (at_key k) ms))
      → (l : Text) × (r : Path) × (m.path ≡ at_key l ∷ r)
  element-begins i stands m a = way-begins (under (at_element i) (under (at_key k) ms)) m (element-way i stands m a)

  -- A value's key: nothing is below it.
  pub value-below : StandsAt is_value_role k ms → (m : Mention Source) → Among m (under (at_key k) ms) → m.path ≡ []
  unfolding GoesOn
  value-below stands m a =
      elim (goes-on m a) [
        | inl e ↦ e
        | inr g ↦
            elim g [
              | inl w ↦ absurd (apart-at is_table_role is_value_role k ms h refl w.0 stands)
              | inr x ↦ absurd (apart-at is_array_role is_value_role k ms h refl (array-stands x.0 x.1) stands)
            ]
      ]

  -- at the key itself no role stands that is apart from one there
  pub own-apart : (first test : Role → Bool) → are_apart first test ≡ true → StandsAt first k ms → (m : Mention Source)
      → Among m (under (at_key k) ms)
      → m.path ≡ [] → test m.role ≡ false
  own-apart first test apart stands m a e =
      false-by (test m.role) (λ t.
      let here : some_at test [] (under (at_key k) ms) ≡ true =
      subst (λ p. some_at test p (under (at_key k) ms) ≡ true) e (among-test test m (under (at_key k) ms) a t) in
      apart-at first test k ms h apart stands (sym (some_at-under test (at_key k) [] ms) ∙ here))

-- ---- slots

pub distinct-first : (ks : List (Mention Source)) (j : Mention Source) → AreDistinct ks → Among j ks → first_of_key j.segment.key ks
    ≡ Some j
distinct-first [] j d a = elim a [ ]
distinct-first (i ∷ ks) j d (inl e) = subst (λ (x : Mention Source). first_of_key x.segment.key (i ∷ ks) ≡ Some x) (sym e) (here i ks)
  where
    here : (i : Mention Source) (ks : List (Mention Source)) → first_of_key i.segment.key (i ∷ ks) ≡ Some i
    here i ks = ap (λ b. if b then Some i else first_of_key i.segment.key ks) (same_text-refl i.segment.key)
distinct-first (i ∷ ks) j d (inr a) = by_test (same_text j.segment.key i.segment.key) refl (distinct-first ks j d.1 a)
  where
    by_test : (b : Bool) → same_text j.segment.key i.segment.key ≡ b → first_of_key j.segment.key ks ≡ Some j
        → (if b then Some i else first_of_key j.segment.key ks) ≡ Some j
    by_test true e g =
        let none : first_of_key j.segment.key ks ≡ None =
        subst (λ k. first_of_key k ks ≡ None) (sym (same_text-is j.segment.key i.segment.key e)) d.0 in
        absurd (clash (sym none ∙ g))
      where
        clash : None ≡ Some j → ⊥
        clash e = cc
    by_test false e g = g

module _ (ms : List (Mention Source)) (h : Readable ms) (j : Mention Source) (a : Among j (kept ms)) where
  pub kept-in : Among j ms
  kept-in = (kept-is [] j ms a).among

  pub kept-path : j.path ≡ at_key j.segment.key ∷ []
  kept-path =
      single-named j.path j.segment.key (all-among (λ (m : Mention Source). EndsIn m.segment.key m.path) j ms h.table.named kept-in)
      (kept-is [] j ms a).single

  pub kept-stands : (test : Role → Bool) → test j.role ≡ true → StandsAt test j.segment.key ms
  kept-stands test t = subst (λ p. some_at test p ms ≡ true) kept-path (among-test test j ms kept-in t)

  kept-lead : IsLead (at_key j.segment.key ∷ []) ms j
  kept-lead = kept-is-lead j.segment.key ms j h.table.named (distinct-first (kept ms) j (one_slot ms h.table.named h.table.one_header) a)

  pub kept-table : (form : Form) → IsTableRole form j.role → is_table_role j.role ≡ true
  kept-table form is = by_kind j.role refl is
    where
      by_kind : (r : Role) → j.role ≡ r → IsTableRole form r → is_table_role r ≡ true
      by_kind dotted_role e is = refl
      by_kind implied_role e is = refl
      by_kind header_role e is = refl
      by_kind array_role e is = absurd is
      by_kind value_role e is = absurd is
      by_kind continued_role e is =
          elim kept-lead [
            | inl l ↦ let clash : false ≡ true = sym (ap is_header_role e) ∙ l.0 in absurd cc
            | inr l ↦
                let first = h.statements.through (at_key j.segment.key ∷ []) (kept-stands is_through_role (ap is_through_role e)) in
                let role : Some j.role ≡ Some array_role = sym (ap (option_map (λ (m : Mention Source). m.role)) l.1) ∙ first in
                let clash : continued_role ≡ array_role = cc in
                absurd cc
          ]

  -- it is mentioned under its own key
  pub kept-under : Among (moved j []) (under (at_key j.segment.key) ms)
  kept-under = under-has (at_key j.segment.key) [] j ms kept-in kept-path

-- where something is below a key, the key has a slot
pub slot-for : (ms : List (Mention Source)) → Readable ms → (l : Text) (m : Mention Source) → Among m (under (at_key l) ms)
    → (j : Mention Source) × Among j (kept ms) × (l ≡ j.segment.key)
slot-for ms h l m a = by_first (first_of_key l (kept ms)) refl
  where
    by_first : (o : Option (Mention Source)) → first_of_key l (kept ms) ≡ o → (j : Mention Source) × Among j (kept ms) × (l ≡ j.segment.key)
    by_first None e = let none = subst (Among m) (under-none l ms h.table e) a in absurd none
    by_first (Some j) e = (j, found-among l (kept ms) j e, first_of_key-is l (kept ms) j e)
