-- The kept segments of elements in order, spelled as their kept keys, are those of the elements.
use Rattle.std.proofs.Common.{◌≡◌, ◌⊎◌, refl, sym, ◌∙◌, ap, subst, ℕ, ◌<◌, arith, Bool, true, false, List, [], ◌∷◌, ◌++◌, Option, Some}
use Rattle.std.proofs.Common.{None, inl, inr}
use Rattle.std.specs.Prelude.{◌&&◌, ◌||◌, map, find, flat_map, option_map, unwrap_or, if◌then◌else◌}
use Rattle.std.specs.List.{AllByRecursion, list_any}
use Rattle.std.proofs.lemmas.Bool.{cases_Bool}
use Rattle.toml_edit_model.specs.Syntax.{Segment}
use Rattle.toml_edit_model.specs.Paths.{Path, same_path, Mention}
use Rattle.toml_edit_laws.proofs.common.Tests.{and_left, and_right, true-false}
use Rattle.toml_edit_laws.proofs.common.PathLaws.{same_path-is, same_path-refl}
use Rattle.toml_edit_laws.proofs.common.Members.{Among, all-among, among-each}
use Rattle.toml_edit_laws.proofs.normal_texts.Agreeing.{AreOfLine}
use Rattle.toml_edit_laws.proofs.normal_texts.LinePaths.{strict}
use Rattle.toml_edit_laws.proofs.normal_texts.LineOrder.{lines_ordered, all-lines, among-lines}
use Rattle.toml_edit_laws.proofs.normal_texts.Trims.{is_next, trim, trimmed, IsWhole, whole-trims}
use Rattle.toml_edit_laws.proofs.common.Cores.{Core, core, cores}
use Rattle.toml_edit_laws.proofs.mentions.RoleTests.{is_line_role}
use Rattle.toml_edit_laws.proofs.common.Pairs.{AllPairs}
use Rattle.toml_edit_laws.proofs.common.OptionSteps.{map-or}
use Rattle.toml_edit_laws.proofs.common.Searches.{find-filter, first-filter, find-some, find-there, find-none}
use Rattle.toml_edit_laws.proofs.normal_texts.TaggedMentions.{tagged, mentions_of_all, in-tagged, tagged-in, find-tagged, first-tagged, at}
use Rattle.toml_edit_model.specs.Roles.{Role, dotted_role, implied_role, header_role, array_role, value_role, continued_role, ends_path}
use Rattle.toml_edit_model.specs.Roles.{is_header_role}
use Rattle.toml_edit_model.specs.Kept.{mentions_at, first_of_list, kept_mention, kept_segment, unspaced_ends, kept_path}
use Rattle.toml_edit_model.specs.Settled.{own_path}
use Rattle.std.specs.Option.{option_or}

-- ---- kept mentions as searches

abbrev pub headed : Path → Core → Bool
headed p c = same_path p c.0 && is_header_role c.1

pub kept-found : {S : Type 0} (ms : List (Mention S)) (p : Path)
    → kept_mention ms p ≡ option_or (find (λ m. headed p (core m)) ms) (find (λ m. at p (core m)) ms)
kept-found {S = S} ms p =
    ap (λ o. option_or o (first_of_list (mentions_at ms p)))
    (find-filter (λ (m : Mention S). same_path p m.path) (λ m. is_header_role m.role) ms)
    ∙ ap (option_or (find (λ m. headed p (core m)) ms)) (first-filter (λ (m : Mention S). same_path p m.path) ms)

-- ---- trimmed segments

-- what is trimmed here is so elsewhere, if it is first and last there only where it is here
pub trim-same : (b p : Path) (r : Role) (s : Segment) (c q : Path) (u : Role) → trim b p r s ≡ s → is_next c q ≡ is_next b p
    → (ends_path u ≡ true → ends_path r ≡ true)
    → trim c q u s ≡ s
trim-same b p r s c q u h e f =
    let one : (if is_next b p then [] else s.before) ≡ s.before = ap (λ (x : Segment). x.before) h in
    let other : (if ends_path r then [] else s.after) ≡ s.after = ap (λ (x : Segment). x.after) h in
    let first : (if is_next c q then [] else s.before) ≡ s.before = ap (λ a. if a then [] else s.before) e ∙ one in
    let second : (if ends_path u then [] else s.after) ≡ s.after = by_last (ends_path u) refl other in
    ap (λ t. record s { before = t; after = if ends_path u then [] else s.after }) first ∙ ap (λ t. record s { after = t }) second
  where
    by_last : (a : Bool) → ends_path u ≡ a → (if ends_path r then [] else s.after) ≡ s.after → (if a then [] else s.after) ≡ s.after
    by_last true g o = sym (ap (λ c. if c then [] else s.after) (f g)) ∙ o
    by_last false g o = refl

header-last : (r : Role) → is_header_role r ≡ true → ends_path r ≡ true
header-last header_role h = refl
header-last dotted_role h = absurd cc
header-last implied_role h = absurd cc
header-last array_role h = absurd cc
header-last value_role h = absurd cc
header-last continued_role h = absurd cc

header-no-line : (r : Role) → is_header_role r ≡ true → is_line_role r ≡ true → ⊥
header-no-line header_role h g = cc
header-no-line dotted_role h g = cc
header-no-line implied_role h g = cc
header-no-line array_role h g = cc
header-no-line value_role h g = cc
header-no-line continued_role h g = cc

-- ---- lists spelled anew

-- each list of mentions says what those of the element say, spelled as their kept keys
abbrev pub AreAnew : {S X T : Type 0} → List (Mention S) → (X → List (Mention S)) → List X → List (List (Mention T)) → Type 0
AreAnew ms ment [] [] = Unit {0}
AreAnew ms ment [] (n ∷ ns) = ⊥
AreAnew ms ment (z ∷ zs) [] = ⊥
AreAnew ms ment (z ∷ zs) (n ∷ ns) = ((cores n ≡ cores (ment z)) × (own_path n ≡ kept_path ms (ment z))) × AreAnew ms ment zs ns

module _ {S X : Type 0} (line : X → Bool) (block : X → ℕ) (base : X → Path) (ment : X → List (Mention S)) where
  abbrev told : X → List Path
  told x = map (λ m. m.path) (ment x)

  -- in one block, mentions at one path don't end their lines
  abbrev pub DontEnd : X → X → Type 0
  DontEnd x y =
      line x ≡ true → line y ≡ true
      → (m n : Mention S) → Among m (ment x) → Among n (ment y) → same_path m.path n.path ≡ true
      → (ends_path m.role ≡ false) × (ends_path n.role ≡ false)

  abbrev pub Stays : X → X → Type 0
  Stays x y = ((block x < block y) ⊎ ((block x ≡ block y) × (line y ≡ true)))
      × (line x ≡ true → line y ≡ true → block x ≡ block y → base x ≡ base y) × DontEnd x y

  abbrev pub Precedes : (Path → ℕ) → X → X → Type 0
  Precedes r x y = (block x < block y) ⊎ ((block x ≡ block y) × (line y ≡ true) × (line x ≡ true → strict r (told x) (told y) ≡ true))

  pub record IsSpaced (x : X) : Type 0 where
    pub whole : IsWhole (base x) (ment x)
    pub own : AllByRecursion (λ m. trimmed (base x) (λ k. k.segment) m ≡ m.segment) (ment x)
    pub header_base : line x ≡ false → base x ≡ []
    pub roles : line x ≡ true → AreOfLine (ment x)

  abbrev segment_of_tag : List (Mention S) → X × Mention S → Segment
  segment_of_tag ms w = trimmed (base w.0) (kept_segment ms) w.1

  find-one : {T : Type 0} (ms : List (Mention S)) (test : Core
      → Bool) (z : X) (ks : List (Mention S)) (us : List (X × Mention S)) (n : List (Mention T)) (ns : List (Mention T))
      → cores n ≡ cores ks → own_path n ≡ map (trimmed (base z) (kept_segment ms)) ks
      → option_map (λ m. m.segment) (find (λ m. test (core m)) ns) ≡ option_map (segment_of_tag ms) (find (λ w. test (core w.1)) us)
      → option_map (λ m. m.segment) (find (λ m. test (core m)) (n ++ ns))
      ≡ option_map (segment_of_tag ms) (find (λ w. test (core w.1)) (map (λ m. (z, m)) ks ++ us))
  find-one ms test z [] us [] ns a b ih = ih
  find-one ms test z [] us (i ∷ n) ns a b ih = absurd cc
  find-one ms test z (k ∷ ks) us [] ns a b ih = absurd cc
  find-one {T = T} ms test z (k ∷ ks) us (i ∷ n) ns a b ih =
      let one : core i ≡ core k = cc in
      let more : cores n ≡ cores ks = cc in
      let here : i.segment ≡ trimmed (base z) (kept_segment ms) k = cc in
      let rest : own_path n ≡ map (trimmed (base z) (kept_segment ms)) ks = cc in
      let same : test (core i) ≡ test (core k) = ap test one in
      elim (cases_Bool (test (core k))) [
        | inl e ↦ rw (same ∙ e) (rw e (ap Some here))
        | inr e ↦ rw (same ∙ e) (rw e (find-one ms test z ks us n ns more rest ih))
      ]

  find-anew : {T : Type 0} (ms : List (Mention S)) (test : Core → Bool) (zs : List X) (ns : List (List (Mention T)))
      → AllByRecursion IsSpaced zs → AreAnew ms ment zs ns
      → option_map (λ m. m.segment) (find (λ m. test (core m)) (flat_map (λ m. m) ns))
      ≡ option_map (segment_of_tag ms) (find (λ w. test (core w.1)) (tagged ment zs))
  find-anew ms test [] [] s h = refl
  find-anew ms test [] (n ∷ ns) s h = absurd h
  find-anew ms test (z ∷ zs) [] s h = absurd h
  find-anew ms test (z ∷ zs) (n ∷ ns) s h =
      find-one ms test z (ment z) (tagged ment zs) n (flat_map (λ m. m) ns) h.0.0
      (h.0.1 ∙ whole-trims (base z) (kept_segment ms) (ment z) s.0.whole) (find-anew ms test zs ns s.1 h.1)

  -- ---- elements in order

  one-last : (r : Path → ℕ) (x y : X) → Stays x y → Precedes r y x → (line x ≡ true) × (line y ≡ true) × (base x ≡ base y)
  one-last r x y s p = by_blocks s.0 p
    where
      by_blocks : (block x < block y) ⊎ ((block x ≡ block y) × (line y ≡ true)) → Precedes r y x → (line x ≡ true) × (line y ≡ true)
          × (base x ≡ base y)
      by_blocks (inl a) (inl b) = absurd (omega arith)
      by_blocks (inl a) (inr b) = (let e : block y ≡ block x = b.0 in absurd (omega arith))
      by_blocks (inr a) (inl b) = (let e : block x ≡ block y = a.0 in absurd (omega arith))
      by_blocks (inr a) (inr b) = (b.1, a.1, s.1 b.1 a.1 a.0)

  -- a mention of the same path in the same element, or in another that stays
  still-trimmed : (p : Path) (z y : X) (k j : Mention S) → IsSpaced z → Among k (ment z) → same_path p k.path ≡ true → same_path p j.path
      ≡ true
      → base y ≡ base z → (ends_path j.role ≡ true → ends_path k.role ≡ true) → trim (base y) j.path j.role k.segment ≡ k.segment
  still-trimmed p z y k j s a e f b l =
      let is : j.path ≡ k.path = sym (same_path-is p j.path f) ∙ same_path-is p k.path e in
      trim-same (base z) k.path k.role k.segment (base y) j.path j.role (all-among (λ m. trimmed (base z) (λ i. i.segment) m
      ≡ m.segment) k (ment z) s.own a)
      (ap (λ q. is_next (base y) q) is ∙ ap (λ c. is_next c k.path) b) l

  module _ (r : Path → ℕ) (test : X → X → Bool) (xs : List X) (stay : AllPairs Stays xs) (spaced : AllByRecursion IsSpaced xs)
      (precede : AllPairs (Precedes r) (lines_ordered line test xs)) where
    abbrev zs : List X
    zs = lines_ordered line test xs

    from-order : (w : X × Mention S) → Among w (tagged ment zs) → Among w (tagged ment xs)
    from-order w a =
        let parts = tagged-in ment zs w a in
        in-tagged ment xs w.0 w.1 (all-among (λ x. Among x xs) w.0 zs
        (all-lines line block told base (λ x. []) (λ x. Among x xs) test xs (among-each xs)) parts.0) parts.1

    to-order : (w : X × Mention S) → Among w (tagged ment xs) → Among w (tagged ment zs)
    to-order w a =
        let parts = tagged-in ment xs w a in
        in-tagged ment zs w.0 w.1 (among-lines line block told base (λ x. []) test w.0 xs parts.0) parts.1

    abbrev ms : List (Mention S)
    ms = mentions_of_all ment xs

    spaced-lines : AllByRecursion IsSpaced zs
    spaced-lines = all-lines line block told base (λ x. []) IsSpaced test xs spaced

    spaced-at : (w : X × Mention S) → Among w (tagged ment xs) → IsSpaced w.0
    spaced-at w a = all-among IsSpaced w.0 xs spaced (tagged-in ment xs w a).0

    header-base : (p : Path) (w : X × Mention S) → Among w (tagged ment xs) → headed p (core w.1) ≡ true → base w.0 ≡ []
    header-base p w a h =
        let s = spaced-at w a in
        elim (cases_Bool (line w.0)) [
          | inl e ↦
              absurd
              (header-no-line w.1.role (and_right (same_path p w.1.path) (is_header_role w.1.role) h)
              (all-among (λ (m : Mention S). is_line_role m.role ≡ true) w.1 (ment w.0) (s.roles e) (tagged-in ment xs w a).1))
          | inr e ↦ s.header_base e
        ]

    kept-of : (p : Path) (k j : Mention S) → kept_mention ms p ≡ Some k → same_path p j.path ≡ true → kept_segment ms j ≡ k.segment
    kept-of p k j h e =
        ap (λ q. unwrap_or (option_map (λ (i : Mention S). i.segment) (kept_mention ms q)) j.segment) (sym (same_path-is p j.path e))
        ∙ ap (λ o. unwrap_or (option_map (λ (i : Mention S). i.segment) o) j.segment) h

    -- by its own header
    by-header : (p : Path) (w : X × Mention S) → find (λ v. headed p (core v.1)) (tagged ment xs) ≡ Some w → kept_mention ms p ≡ Some w.1
        → (v : X × Mention S) × (find (λ v. headed p (core v.1)) (tagged ment zs) ≡ Some v) × (segment_of_tag ms v ≡ w.1.segment)
    by-header p w h g =
        let found = find-some (λ (v : X × Mention S). headed p (core v.1)) (tagged ment xs) w h in
        let there = find-there (λ (v : X × Mention S). headed p (core v.1)) (tagged ment zs) w (to-order w found.0) found.1 in
        let v : X × Mention S = there.0 in
        let again = find-some (λ (v : X × Mention S). headed p (core v.1)) (tagged ment zs) v there.1 in
        let back = from-order v again.0 in
        let here : same_path p v.1.path ≡ true = and_left (same_path p v.1.path) (is_header_role v.1.role) again.1 in (
          v,
          there.1,
          ap (trim (base v.0) v.1.path v.1.role) (kept-of p w.1 v.1 g here)
              ∙ still-trimmed p w.0 v.0 w.1 v.1 (spaced-at w found.0) (tagged-in ment xs w found.0).1
              (and_left (same_path p w.1.path) (is_header_role w.1.role) found.1) here
              (header-base p v back again.1 ∙ sym (header-base p w found.0 found.1))
              (λ l. header-last w.1.role (and_right (same_path p w.1.path) (is_header_role w.1.role) found.1)),
        )

    -- the element names the path
    named : (p : Path) (w : X × Mention S) → Among w.1 (ment w.0) → same_path p w.1.path ≡ true → list_any (λ m. at p (core m)) (ment w.0)
        ≡ true
    named p w a h = by_list (ment w.0) a
      where
        by_list : (us : List (Mention S)) → Among w.1 us → list_any (λ m. at p (core m)) us ≡ true
        by_list [] a = elim a [ ]
        by_list (u ∷ us) (inl e) =
            ap (λ b. b || list_any (λ m. at p (core m)) us) (subst (λ (m : Mention S). same_path p m.path ≡ true) e h)
        by_list (u ∷ us) (inr n) = ap (λ b. same_path p u.path || b) (by_list us n) ∙ or-true (same_path p u.path)
          where
            or-true : (b : Bool) → (b || true) ≡ true
            or-true true = refl
            or-true false = refl

    -- by its first mention
    by-first : (p : Path) (w : X × Mention S) → find (λ v. at p (core v.1)) (tagged ment xs) ≡ Some w → kept_mention ms p ≡ Some w.1
        → (v : X × Mention S) × (find (λ v. at p (core v.1)) (tagged ment zs) ≡ Some v) × (segment_of_tag ms v ≡ w.1.segment)
    by-first p w h g =
        let found = find-some (λ (v : X × Mention S). at p (core v.1)) (tagged ment xs) w h in
        let in_w = tagged-in ment xs w found.0 in
        let there = find-there (λ (v : X × Mention S). at p (core v.1)) (tagged ment zs) w (to-order w found.0) found.1 in
        let v : X × Mention S = there.0 in
        let again = find-some (λ (v : X × Mention S). at p (core v.1)) (tagged ment zs) v there.1 in
        let back = from-order v again.0 in
        let in_v = tagged-in ment xs v back in
        let first = first-tagged ment p Stays xs w h stay in
        let second = first-tagged ment p (Precedes r) zs v there.1 precede in
        let one : (v.0 ≡ w.0) ⊎ Stays w.0 v.0 =
        all-among (λ x. list_any (λ m. at p (core m)) (ment x) ≡ true → (x ≡ w.0)
        ⊎ Stays w.0 x) v.0 xs first.1 in_v.0 (named p v in_v.1 again.1) in
        let other : (w.0 ≡ v.0) ⊎ Precedes r v.0 w.0 =
        all-among (λ x. list_any (λ m. at p (core m)) (ment x) ≡ true → (x ≡ v.0) ⊎ Precedes r v.0 x) w.0 zs second.1
        (tagged-in ment zs w (to-order w found.0)).0 (named p w in_w.1 found.1) in
        let same : v.0 ≡ w.0 → (base v.0 ≡ base w.0) × (ends_path v.1.role ≡ true → ends_path w.1.role ≡ true) =
        λ e.
        let is : v.1 ≡ w.1 =
        some-is v.1 w.1 (sym second.0 ∙ ap (λ x. find (λ m. at p (core m)) (ment x)) e ∙ first.0) in
        (ap base e, λ l. ap (λ (m : Mention S). ends_path m.role) (sym is) ∙ l) in
        let parts : (base v.0 ≡ base w.0) × (ends_path v.1.role ≡ true → ends_path w.1.role ≡ true) =
        elim one [
          | inl e ↦ same e
          | inr s ↦
              elim other [
                | inl e ↦ same (sym e)
                | inr q ↦
                    let lines = one-last r w.0 v.0 s q in
                    let met : same_path w.1.path v.1.path ≡ true =
                    subst (λ x. same_path x v.1.path ≡ true) (same_path-is p w.1.path found.1) again.1 in
                    (sym lines.2, λ l. true-false (ends_path v.1.role) l (s.2 lines.0 lines.1 w.1 v.1 in_w.1 in_v.1 met).1)
              ]
        ] in (
          v,
          there.1,
          ap (trim (base v.0) v.1.path v.1.role) (kept-of p w.1 v.1 g again.1)
              ∙ still-trimmed p w.0 v.0 w.1 v.1 (spaced-at w found.0) in_w.1 found.1 again.1 parts.0 parts.1,
        )
      where
        some-is : (a b : Mention S) → Some a ≡ Some b → a ≡ b
        some-is a b e = cc

    -- The kept segment of a path is that of the elements in order, spelled anew.
    segment-kept : {T : Type 0} (ns : List (List (Mention T))) → AreAnew ms ment zs ns → (w : X × Mention S) → Among w (tagged ment zs)
        → (s : Segment) × (option_map (λ m. m.segment) (kept_mention ms w.1.path) ≡ Some s)
        × (option_map (λ m. m.segment) (kept_mention (flat_map (λ m. m) ns) w.1.path) ≡ Some s)
    segment-kept {T} ns anew w a =
        let p : Path = w.1.path in
        let new : List (Mention T) = flat_map (λ m. m) ns in
        let old_is : kept_mention ms p ≡ option_or (option_map (λ w. w.1) (find (λ v. headed p (core v.1)) (tagged ment xs)))
        (option_map (λ w. w.1) (find (λ v. at p (core v.1)) (tagged ment xs))) =
        kept-found ms p ∙ ap (λ o. option_or o (find (λ m. at p (core m)) ms)) (find-tagged ment (headed p) xs)
        ∙ ap (option_or (option_map (λ w. w.1) (find (λ v. headed p (core v.1)) (tagged ment xs)))) (find-tagged ment (at p) xs) in
        let new_is : option_map (λ m. m.segment) (kept_mention new p)
        ≡ option_or (option_map (segment_of_tag ms) (find (λ v. headed p (core v.1)) (tagged ment zs)))
        (option_map (segment_of_tag ms) (find (λ v. at p (core v.1)) (tagged ment zs))) =
        ap (option_map (λ m. m.segment)) (kept-found new p)
        ∙ map-or (λ m. m.segment) (find (λ m. headed p (core m)) new) (find (λ m. at p (core m)) new)
        ∙ ap (λ o. option_or o (option_map (λ m. m.segment) (find (λ m. at p (core m)) new)))
        (find-anew ms (headed p) zs ns spaced-lines anew)
        ∙ ap (option_or (option_map (segment_of_tag ms) (find (λ v. headed p (core v.1)) (tagged ment zs))))
        (find-anew ms (at p) zs ns spaced-lines anew) in
        by_header T p w a (same_path-refl p) new old_is new_is (find (λ v. headed p (core v.1)) (tagged ment xs)) refl
      where
        none-there : (p : Path) → find (λ v. headed p (core v.1)) (tagged ment xs) ≡ None → (o : Option (X × Mention S))
            → find (λ v. headed p (core v.1)) (tagged ment zs) ≡ o
            → find (λ v. headed p (core v.1)) (tagged ment zs) ≡ None
        none-there p h None e = e
        none-there p h (Some v) e =
            let found = find-some (λ (v : X × Mention S). headed p (core v.1)) (tagged ment zs) v e in
            absurd (find-none (λ (v : X × Mention S). headed p (core v.1)) (tagged ment xs) v h (from-order v found.0) found.1)

        by_header : (T : Type 0) (p : Path) (w : X × Mention S) → Among w (tagged ment zs) → same_path p w.1.path ≡ true
            → (new : List (Mention T))
            → kept_mention ms p ≡ option_or (option_map (λ w. w.1) (find (λ v. headed p (core v.1)) (tagged ment xs)))
            (option_map (λ w. w.1) (find (λ v. at p (core v.1)) (tagged ment xs)))
            → option_map (λ m. m.segment) (kept_mention new p)
            ≡ option_or (option_map (segment_of_tag ms) (find (λ v. headed p (core v.1)) (tagged ment zs)))
            (option_map (segment_of_tag ms) (find (λ v. at p (core v.1)) (tagged ment zs)))
            → (o : Option (X × Mention S)) → find (λ v. headed p (core v.1)) (tagged ment xs) ≡ o
            → (s : Segment) × (option_map (λ m. m.segment) (kept_mention ms p) ≡ Some s)
            × (option_map (λ m. m.segment) (kept_mention new p) ≡ Some s)
        by_header T p w a here new old_is new_is (Some v) e =
            let old : kept_mention ms p ≡ Some v.1 =
            old_is ∙ ap (λ o. option_or (option_map (λ (w : X × Mention S). w.1) o)
            (option_map (λ w. w.1) (find (λ v. at p (core v.1)) (tagged ment xs)))) e in
            let found = by-header p v e old in (
              v.1.segment,
              ap (option_map (λ (m : Mention S). m.segment)) old,
              new_is ∙ ap (λ o. option_or (option_map (segment_of_tag ms) o)
                  (option_map (segment_of_tag ms) (find (λ v. at p (core v.1)) (tagged ment zs)))) found.1 ∙ ap Some found.2,
            )
        by_header T p w a here new old_is new_is None e =
            let first = find-there (λ (v : X × Mention S). at p (core v.1)) (tagged ment xs) w (from-order w a) here in
            let v : X × Mention S = first.0 in
            let old : kept_mention ms p ≡ Some v.1 =
            old_is ∙ ap (λ o. option_or (option_map (λ (w : X × Mention S). w.1) o)
            (option_map (λ w. w.1) (find (λ v. at p (core v.1)) (tagged ment xs)))) e
            ∙ ap (option_map (λ (w : X × Mention S). w.1)) first.1 in
            let found = by-first p v first.1 old in
            let none = none-there p e (find (λ v. headed p (core v.1)) (tagged ment zs)) refl in (
              v.1.segment,
              ap (option_map (λ (m : Mention S). m.segment)) old,
              new_is ∙ ap (λ o. option_or (option_map (segment_of_tag ms) o)
                  (option_map (segment_of_tag ms) (find (λ v. at p (core v.1)) (tagged ment zs)))) none
                  ∙ ap (option_map (segment_of_tag ms)) found.1 ∙ ap Some found.2,
            )

    segments-kept : {T : Type 0} (ns : List (List (Mention T))) → AreAnew ms ment zs ns
        → (z : X) (ks : List (Mention S)) (n : List (Mention T)) → Among z zs
        → AllByRecursion (λ k. Among k (ment z)) ks → cores n ≡ cores ks → map (kept_segment (flat_map (λ m. m) ns)) n
        ≡ map (kept_segment ms) ks
    segments-kept ns anew z [] [] a h e = refl
    segments-kept ns anew z [] (i ∷ n) a h e = absurd cc
    segments-kept ns anew z (k ∷ ks) [] a h e = absurd cc
    segments-kept {T} ns anew z (k ∷ ks) (i ∷ n) a h e =
        let one : core i ≡ core k = cc in
        let more : cores n ≡ cores ks = cc in
        let path_is : i.path ≡ k.path = ap (λ (c : Core). c.0) one in
        let kept = segment-kept ns anew (z, k) (in-tagged ment zs z k a h.0) in
        let first : kept_segment (flat_map (λ m. m) ns) i ≡ kept.0 =
        ap (λ q. unwrap_or (option_map (λ (m : Mention T). m.segment) (kept_mention (flat_map (λ m. m) ns) q)) i.segment) path_is
        ∙ ap (λ o. unwrap_or o i.segment) kept.2 in
        let second : kept_segment ms k ≡ kept.0 = ap (λ o. unwrap_or o k.segment) kept.1 in
        ap (λ s. s ∷ map (kept_segment (flat_map (λ m. m) ns)) n) (first ∙ sym second)
        ∙ ap (λ ss. kept_segment ms k ∷ ss) (segments-kept ns anew z ks n a h.1 more)

    -- Each element in order, spelled anew, is spelled as its kept keys.
    pub anew-kept : {T : Type 0} (ns : List (List (Mention T))) → AreAnew ms ment zs ns → (z : X) (n : List (Mention T)) → Among z zs
        → cores n ≡ cores (ment z) → own_path n ≡ kept_path ms (ment z) → own_path n ≡ kept_path (flat_map (λ m. m) ns) n
    anew-kept ns anew z n a e f = f ∙ sym (ap unspaced_ends (segments-kept ns anew z (ment z) n a (among-each (ment z)) e))

    pub anew-all : {T : Type 0} (ns : List (List (Mention T))) → AreAnew ms ment zs ns
        → AllByRecursion (λ n. own_path n ≡ kept_path (flat_map (λ m. m) ns) n) ns
    anew-all {T} ns anew = each zs ns (among-each zs) anew
      where
        each : (us : List X) (vs : List (List (Mention T))) → AllByRecursion (λ z. Among z zs) us → AreAnew ms ment us vs
            → AllByRecursion (λ n. own_path n ≡ kept_path (flat_map (λ m. m) ns) n) vs
        each [] [] a h = tt
        each [] (v ∷ vs) a h = absurd h
        each (u ∷ us) [] a h = absurd h
        each (u ∷ us) (v ∷ vs) a h = (anew-kept ns anew u v a.0 h.0.0 h.0.1, each us vs a.1 h.1)
