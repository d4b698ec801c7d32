-- In an accepted cut the kept mention of a header's path is of a header of that path.
use Rattle.std.proofs.Common.{◌≡◌, ◌⊎◌, refl, sym, ◌∙◌, ap, subst, ℕ, zero, suc, ◌+◌, Bool, true, false, List, [], ◌∷◌, Option, Some, None}
use Rattle.std.proofs.Common.{inl, inr}
use Rattle.std.specs.Prelude.{◌||◌, map, find, flat_map, option_map, if◌then◌else◌}
use Rattle.std.specs.List.{AllByRecursion, list_any}
use Rattle.toml_edit_model.specs.Syntax.{Segment, Statement, key_line, header, begins_unspaced}
use Rattle.toml_edit_model.specs.Paths.{Path, same_path, to_key, passing_role, Mention, mention_of, Source, Placed, Context, next_start}
use Rattle.toml_edit_model.specs.Paths.{elements_at, in_last, header_mentions, header_path, header_role_of, path_start, source_of}
use Rattle.toml_edit_model.specs.Paths.{mentions_of, context_after}
use Rattle.toml_edit_model.specs.Normal.{is_line}
use Rattle.toml_edit_laws.proofs.common.Tests.{and_left, and_right, and_both, true-false, or-true}
use Rattle.toml_edit_laws.proofs.common.PathLaws.{same_path-is, same_path-refl}
use Rattle.toml_edit_laws.proofs.common.Members.{Among, all-among}
use Rattle.toml_edit_laws.proofs.normal_texts.SettledStays.{IsAny}
use Rattle.toml_edit_laws.proofs.normal_texts.Runs.{Run}
use Rattle.toml_edit_laws.proofs.normal_texts.Agreeing.{AgreesWith}
use Rattle.toml_edit_laws.proofs.normal_texts.NormalAccepted.{IsRightPlace, place-roles}
use Rattle.toml_edit_laws.proofs.normal_texts.KeptAnew.{headed, kept-found}
use Rattle.toml_edit_laws.proofs.normal_texts.SettledValues.{agree-at}
use Rattle.toml_edit_laws.proofs.normal_texts.PlacedLines.{lined_at, mentions_at, any-of-place}
use Rattle.toml_edit_laws.proofs.common.Cores.{core}
use Rattle.toml_edit_laws.proofs.mentions.Placed.{placed_at, own-sources, source-statement}
use Rattle.toml_edit_laws.proofs.mentions.RoleTests.{is_line_role, array-last}
use Rattle.toml_edit_laws.proofs.common.Pairs.{AllPairs}
use Rattle.toml_edit_laws.proofs.common.Searches.{find-append, find-map, find-some, find-there, find-none}
use Rattle.toml_edit_laws.proofs.normal_texts.TaggedMentions.{tagged, in-tagged, tagged-in, find-tagged, first-tagged, at}
use Rattle.toml_edit_model.specs.Roles.{Role, dotted_role, value_role, implied_role, header_role, array_role, continued_role, may_meet}
use Rattle.toml_edit_model.specs.Roles.{is_header_role, ends_path}
use Rattle.toml_edit_model.specs.Kept.{kept_mention}
use Rattle.std.specs.Option.{option_or}

-- ---- the last mention of a header

header-end : (source : Source) (arrays : List Path) (role : Role) (start : ℕ) (p : Path) (ss : List Segment) (m : Mention Source)
    → Among m (header_mentions source arrays role start p ss)
    → ends_path m.role ≡ true → (m.path ≡ header_path arrays p ss) × (m.role ≡ role)
header-end source arrays role start p [] m a l = elim a [ ]
header-end source arrays role start p (s ∷ []) m (inl e) l = (ap (λ (k : Mention Source). k.path) e, ap (λ (k : Mention Source). k.role) e)
header-end source arrays role start p (s ∷ []) m (inr a) l = elim a [ ]
header-end source arrays role start p (s ∷ r ∷ rest) m (inl e) l =
    true-false (ends_path m.role) l (ap (λ (k : Mention Source). ends_path k.role) e ∙ passing (elements_at arrays (to_key p s.key)))
  where
    passing : (n : ℕ) → ends_path (passing_role n) ≡ false
    passing zero = refl
    passing (suc n) = refl
header-end source arrays role start p (s ∷ r ∷ rest) m (inr a) l =
    let here : Path = to_key p s.key in
    header-end source arrays role (next_start start s) (in_last (elements_at arrays here) here) (r ∷ rest) m a l

header-has : (source : Source) (arrays : List Path) (role : Role) (start : ℕ) (p : Path) (ss : List Segment) → begins_unspaced ss ≡ true
    → (m : Mention Source) × Among m (header_mentions source arrays role start p ss) × (m.path ≡ header_path arrays p ss) × (m.role ≡ role)
header-has source arrays role start p [] h = absurd cc
header-has source arrays role start p (s ∷ ss) h = some start p s ss
  where
    some : (i : ℕ) (q : Path) (t : Segment) (ts : List Segment)
        → (m : Mention Source) × Among m (header_mentions source arrays role i q (t ∷ ts)) × (m.path ≡ header_path arrays q (t ∷ ts))
        × (m.role ≡ role)
    some i q t [] = (mention_of source i (to_key q t.key) role t, inl refl, refl, refl)
    some i q t (u ∷ us) =
        let here : Path = to_key q t.key in
        let rest = some (next_start i t) (in_last (elements_at arrays here) here) u us in
        (rest.0, inr rest.1, rest.2, rest.3)

-- a header that goes on in an array's element goes through a path of the arrays
header-through : (source : Source) (arrays : List Path) (role : Role) (start : ℕ) (p : Path) (ss : List Segment) (m : Mention Source)
    → Among m (header_mentions source arrays role start p ss)
    → ends_path role ≡ true → m.role ≡ continued_role → elements_at arrays m.path ≡ 0 → ⊥
header-through source arrays role start p [] m a l t e = elim a [ ]
header-through source arrays role start p (s ∷ []) m (inl g) l t e =
    let is : role ≡ continued_role = sym (ap (λ (k : Mention Source). k.role) g) ∙ t in
    true-false (ends_path role) l (ap ends_path is)
header-through source arrays role start p (s ∷ []) m (inr a) l t e = elim a [ ]
header-through source arrays role start p (s ∷ r ∷ rest) m (inl g) l t e =
    let role_is : passing_role (elements_at arrays (to_key p s.key)) ≡ continued_role = sym (ap (λ (k : Mention Source). k.role) g) ∙ t in
    clash role_is
  where
    clash : passing_role (elements_at arrays (to_key p s.key)) ≡ continued_role → ⊥
    clash h =
        let none : elements_at arrays (to_key p s.key) ≡ 0 = ap (elements_at arrays) (sym (ap (λ (k : Mention Source). k.path) g)) ∙ e in
        let bad : implied_role ≡ continued_role = sym (ap passing_role none) ∙ h in
        cc
header-through source arrays role start p (s ∷ r ∷ rest) m (inr a) l t e =
    let here : Path = to_key p s.key in
    header-through source arrays role (next_start start s) (in_last (elements_at arrays here) here) (r ∷ rest) m a l t e

line-not-through : (r : Role) → is_line_role r ≡ true → r ≡ continued_role → ⊥
line-not-through r h e = (let bad : is_line_role continued_role ≡ true = subst (λ q. is_line_role q ≡ true) e h in cc)

place-through : (c : Context) (s : Statement) (m : Mention Source) → Among m (mentions_of c s) → m.role ≡ continued_role
    → elements_at c.arrays m.path ≡ 0 → ⊥
place-through c (key_line f v end) m a t e =
    line-not-through m.role
    (all-among (λ (k : Mention Source). is_line_role k.role ≡ true) m (mentions_of c (key_line f v end))
    (place-roles c (key_line f v end) refl) a) t
place-through c (header h end) m a t e =
    header-through (source_of c (header h end)) c.arrays (header_role_of h) (c.start
    + path_start (header h end)) [] h.path m a (array-last h.is_array) t e

-- a statement that doesn't mention the path adds no element there
adds-none : (c : Context) (s : Statement) (p : Path) → IsAny s → find (λ m. at p (core m)) (mentions_of c s) ≡ None → elements_at c.arrays p
    ≡ 0 → elements_at (context_after c s).arrays p ≡ 0
adds-none c (key_line f v end) p h g e = e
adds-none c (header i end) p h g e =
    let last = header-has (source_of c (header i end)) c.arrays (header_role_of i) (c.start
    + path_start (header i end)) [] i.path h.0.1.begins in
    let other : same_path p (header_path c.arrays [] i.path) ≡ false =
    not-there (same_path p (header_path c.arrays [] i.path)) (λ is.
    find-none (λ (m : Mention Source). at p (core m)) (mentions_of c (header i end)) last.0 g last.1 (subst (λ q. same_path p q
    ≡ true) (sym last.2) is)) in
    by_kind i.is_array other
  where
    not-there : (b : Bool) → (b ≡ true → ⊥) → b ≡ false
    not-there true f = absurd (f refl)
    not-there false f = refl

    by_kind : (b : Bool) → same_path p (header_path c.arrays [] i.path) ≡ false
        → elements_at (if b then header_path c.arrays [] i.path ∷ c.arrays else c.arrays) p ≡ 0
    by_kind true o = rw o e
    by_kind false o = e

-- The first mention of a path isn't on the way through an array there.
pub first-through : (n : ℕ) (arrays : List Path) (block : Path) (xs : List Placed) (p : Path) (w : Placed × Mention Source)
    → Run n arrays block xs → AllByRecursion IsRightPlace xs
    → find (λ v. at p (core v.1)) (tagged mentions_at xs) ≡ Some w → elements_at arrays p ≡ 0 → w.1.role ≡ continued_role → ⊥
first-through n arrays block [] p w r h f e t = cc
first-through n arrays block (x ∷ xs) p w (c, s, is, k, a, b, rest) h f e t =
    by_found (find (λ m. at p (core m)) x.mentions) refl
    (sym (find-append (λ (v : Placed × Mention Source). at p (core v.1)) (map (λ m. (x, m)) x.mentions) (tagged mentions_at xs)
    ∙ ap (λ o. option_or o (find (λ v. at p (core v.1)) (tagged mentions_at xs)))
    (find-map (λ (v : Placed × Mention Source). at p (core v.1)) (λ m. (x, m)) x.mentions)) ∙ f)
    (λ g none. first-through (context_after c s).headers (context_after c s).arrays (context_after c s).block xs p w rest h.1 g
    (adds-none c s p (any-of-place c s x is h.0) none (ap (λ l. elements_at l p) a ∙ e)) t)
  where
    by_found : (o : Option (Mention Source)) → find (λ m. at p (core m)) x.mentions ≡ o
        → option_or (option_map (λ m. (x, m)) o) (find (λ v. at p (core v.1)) (tagged mentions_at xs)) ≡ Some w
        → (find (λ v. at p (core v.1)) (tagged mentions_at xs) ≡ Some w → find (λ m. at p (core m)) (mentions_of c s) ≡ None → ⊥) → ⊥
    by_found (Some m) g j ih =
        let pair : w ≡ (x, m) = cc in
        let same : m ≡ w.1 = sym (ap (λ (v : Placed × Mention Source). v.1) pair) in
        let found = find-some (λ (u : Mention Source). at p (core u)) x.mentions m g in
        place-through c s m (subst (λ (y : Placed). Among m y.mentions) is found.0) (ap (λ (u : Mention Source). u.role) same ∙ t)
        (ap (elements_at c.arrays) (sym (same_path-is p m.path found.1)) ∙ ap (λ l. elements_at l p) a ∙ e)
    by_found None g j ih = ih j (ap (λ (y : Placed). find (λ (m : Mention Source). at p (core m)) y.mentions) (sym is) ∙ g)

-- ---- the kept mention

-- a header mentions its path as its own
own-mention : (x : Placed) → IsRightPlace x → lined_at x ≡ false
    → (m : Mention Source) × Among m x.mentions × (m.path ≡ x.source.path) × ((m.role ≡ array_role) ⊎ (m.role ≡ header_role))
own-mention x (c, s, is, a, g) l =
    subst (λ (y : Placed). (m : Mention Source) × Among m y.mentions × (m.path ≡ y.source.path)
    × ((m.role ≡ array_role) ⊎ (m.role ≡ header_role))) (sym is)
    (by_kind s a (sym (ap is_line (ap (λ (y : Placed). y.source.statement) is ∙ source-statement c s)) ∙ l))
  where
    roles : (b : Bool) (r : Role) → r ≡ (if b then array_role else header_role) → (r ≡ array_role) ⊎ (r ≡ header_role)
    roles true r e = inl e
    roles false r e = inr e

    by_kind : (t : Statement) → IsAny t → is_line t ≡ false
        → (m : Mention Source) × Among m (mentions_of c t) × (m.path ≡ (source_of c t).path)
        × ((m.role ≡ array_role) ⊎ (m.role ≡ header_role))
    by_kind (key_line f v end) h e = absurd cc
    by_kind (header i end) h e =
        let last = header-has (source_of c (header i end)) c.arrays (header_role_of i) (c.start
        + path_start (header i end)) [] i.path h.0.1.begins in
        (last.0, last.1, last.2, roles i.is_array last.0.role last.3)

-- a mention that only headers have is of a header of its path
of-header : (x : Placed) → IsRightPlace x → (m : Mention Source) → Among m x.mentions → ends_path m.role ≡ true → is_line_role m.role
    ≡ false
    → (lined_at x ≡ false) × (x.source.path ≡ m.path)
of-header x (c, s, is, a, g) m e l r =
    subst (λ (y : Placed). (lined_at y ≡ false) × (y.source.path ≡ m.path)) (sym is)
    (by_kind s (subst (λ (y : Placed). Among m y.mentions) is e))
  where
    by_kind : (t : Statement) → Among m (mentions_of c t) → (lined_at (placed_at c t) ≡ false) × ((source_of c t).path ≡ m.path)
    by_kind (key_line f v end) b =
        true-false (is_line_role m.role)
        (all-among (λ (k : Mention Source). is_line_role k.role
        ≡ true) m (mentions_of c (key_line f v end)) (place-roles c (key_line f v end) refl) b) r
    by_kind (header i end) b = (
      refl,
      sym (header-end (source_of c (header i end)) c.arrays (header_role_of i) (c.start
          + path_start (header i end)) [] i.path m b l).0,
    )

pub source-is : (x : Placed) → IsRightPlace x → (m : Mention Source) → Among m x.mentions → m.source ≡ x.source
source-is x (c, s, is, a, g) m e =
    all-among (λ (k : Mention Source). k.source ≡ source_of c s) m (mentions_of c s) (own-sources c s)
    (subst (λ (y : Placed). Among m y.mentions) is e)
    ∙ sym (ap (λ (y : Placed). y.source) is)

meets-array : (r : Role) → may_meet r array_role ≡ true → (r ≡ array_role) ⊎ (r ≡ continued_role)
meets-array array_role h = inl refl
meets-array continued_role h = inr refl
meets-array dotted_role h = absurd cc
meets-array implied_role h = absurd cc
meets-array header_role h = absurd cc
meets-array value_role h = absurd cc

header-roles : (r : Role) → is_header_role r ≡ true → (ends_path r ≡ true) × (is_line_role r ≡ false)
header-roles header_role h = (refl, refl)
header-roles dotted_role h = absurd cc
header-roles implied_role h = absurd cc
header-roles array_role h = absurd cc
header-roles value_role h = absurd cc
header-roles continued_role h = absurd cc

-- the mention is of a header of this path
abbrev pub IsOfHeader : List Placed → Path → Mention Source → Type 0
IsOfHeader xs p k = (v : Placed) × Among v xs × (k.source ≡ v.source) × (lined_at v ≡ false) × (v.source.path ≡ p)

-- The kept mention of a header's path is of a header of that path.
pub kept-header : (xs : List Placed) → Run 0 [] [] xs → AllByRecursion IsRightPlace xs → AllPairs AgreesWith xs → (y : Placed) → Among y xs
    → lined_at y ≡ false
    → (k : Mention Source) × (kept_mention (flat_map (λ m. m) (map (λ s. s.mentions) xs)) y.source.path ≡ Some k)
    × IsOfHeader xs y.source.path k
kept-header xs r h g y a l =
    let p : Path = y.source.path in
    let ms : List (Mention Source) = flat_map (λ m. m) (map (λ s. s.mentions) xs) in
    let own = own-mention y (all-among IsRightPlace y xs h a) l in
    let kept : kept_mention ms p ≡ option_or (option_map (λ w. w.1) (find (λ v. headed p (core v.1)) (tagged mentions_at xs)))
    (option_map (λ w. w.1) (find (λ v. at p (core v.1)) (tagged mentions_at xs))) =
    kept-found ms p ∙ ap (λ o. option_or o (find (λ m. at p (core m)) ms)) (find-tagged mentions_at (headed p) xs)
    ∙ ap (option_or (option_map (λ w. w.1) (find (λ v. headed p (core v.1)) (tagged mentions_at xs))))
    (find-tagged mentions_at (at p) xs) in
    by_header p refl own.0 own.1 own.2 own.3 kept (find (λ v. headed p (core v.1)) (tagged mentions_at xs)) refl
  where
    by_header : (p : Path) → p ≡ y.source.path → (m : Mention Source) → Among m y.mentions → m.path ≡ p → (m.role ≡ array_role)
        ⊎ (m.role ≡ header_role)
        → kept_mention (flat_map (λ m. m) (map (λ s. s.mentions) xs)) p
        ≡ option_or (option_map (λ w. w.1) (find (λ v. headed p (core v.1)) (tagged mentions_at xs)))
        (option_map (λ w. w.1) (find (λ v. at p (core v.1)) (tagged mentions_at xs)))
        → (o : Option (Placed × Mention Source)) → find (λ v. headed p (core v.1)) (tagged mentions_at xs) ≡ o
        → (k : Mention Source) × (kept_mention (flat_map (λ m. m) (map (λ s. s.mentions) xs)) p ≡ Some k) × IsOfHeader xs p k
    by_header p p_is m m_in m_path m_role kept (Some w) e =
        let found = find-some (λ (v : Placed × Mention Source). headed p (core v.1)) (tagged mentions_at xs) w e in
        let in_w = tagged-in mentions_at xs w found.0 in
        let right = all-among IsRightPlace w.0 xs h in_w.0 in
        let roles = header-roles w.1.role (and_right (same_path p w.1.path) (is_header_role w.1.role) found.1) in
        let of = of-header w.0 right w.1 in_w.1 roles.0 roles.1 in (
          w.1,
          kept ∙ ap (λ o. option_or (option_map (λ (w : Placed × Mention Source). w.1) o)
              (option_map (λ w. w.1) (find (λ v. at p (core v.1)) (tagged mentions_at xs)))) e,
          (
            w.0,
            in_w.0,
            source-is w.0 right w.1 in_w.1,
            of.0,
            of.1
                ∙ sym (same_path-is p w.1.path (and_left (same_path p w.1.path) (is_header_role w.1.role) found.1)),
          ),
        )
    by_header p p_is m m_in m_path m_role kept None e =
        let here : same_path p m.path ≡ true = subst (λ q. same_path p q ≡ true) (sym m_path) (same_path-refl p) in
        let there = in-tagged mentions_at xs y m a m_in in
        let array : m.role ≡ array_role =
        elim m_role [
          | inl i ↦ i
          | inr i ↦
              absurd
              (find-none (λ (v : Placed × Mention Source). headed p (core v.1)) (tagged mentions_at xs) (y, m) e there
              (and_both (same_path p m.path) (is_header_role m.role) here (ap is_header_role i)))
        ] in
        let first = find-there (λ (v : Placed × Mention Source). at p (core v.1)) (tagged mentions_at xs) (y, m) there here in
        let w : Placed × Mention Source = first.0 in
        let found = find-some (λ (v : Placed × Mention Source). at p (core v.1)) (tagged mentions_at xs) w first.1 in
        let in_w = tagged-in mentions_at xs w found.0 in
        let right = all-among IsRightPlace w.0 xs h in_w.0 in
        let others = first-tagged mentions_at p AgreesWith xs w first.1 g in
        let one : (y ≡ w.0) ⊎ AgreesWith w.0 y =
        all-among (λ x. list_any (λ m. at p (core m)) x.mentions ≡ true → (x ≡ w.0)
        ⊎ AgreesWith w.0 x) y xs others.1 a (among-any m y.mentions m_in here) in
        let of : (lined_at w.0 ≡ false) × (w.0.source.path ≡ p) =
        elim one [
          | inl i ↦ (ap lined_at (sym i) ∙ l, ap (λ (x : Placed). x.source.path) (sym i) ∙ sym p_is)
          | inr i ↦
              let meets : may_meet w.1.role array_role ≡ true =
              subst (λ r. may_meet w.1.role r ≡ true) array
              (agree-at may_meet w.0.mentions y.mentions w.1 m i in_w.1 m_in (subst (λ q. same_path q m.path
              ≡ true) (same_path-is p w.1.path found.1) here)) in
              elim (meets-array w.1.role meets) [
                | inl j ↦
                    let parts = of-header w.0 right w.1 in_w.1 (ap ends_path j) (ap is_line_role j) in
                    (parts.0, parts.1 ∙ sym (same_path-is p w.1.path found.1))
                | inr j ↦ absurd (first-through 0 [] [] xs p w r h first.1 refl j)
              ]
        ] in (
          w.1,
          kept ∙ ap (λ o. option_or (option_map (λ (w : Placed × Mention Source). w.1) o)
              (option_map (λ w. w.1) (find (λ v. at p (core v.1)) (tagged mentions_at xs)))) e
              ∙ ap (option_map (λ (w : Placed × Mention Source). w.1)) first.1,
          (w.0, in_w.0, source-is w.0 right w.1 in_w.1, of.0, of.1),
        )
      where
        among-any : (i : Mention Source) (us : List (Mention Source)) → Among i us → same_path p i.path ≡ true
            → list_any (λ m. at p (core m)) us ≡ true
        among-any i [] b f = elim b [ ]
        among-any i (u ∷ us) (inl q) f =
            ap (λ c. c || list_any (λ m. at p (core m)) us) (subst (λ (k : Mention Source). same_path p k.path ≡ true) q f)
        among-any i (u ∷ us) (inr q) f = ap (λ c. same_path p u.path || c) (among-any i us q f) ∙ or-true (same_path p u.path)
