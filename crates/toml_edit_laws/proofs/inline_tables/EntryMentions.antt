-- The mentions of the pairs of an inline table, where these agree.
use Rattle.std.proofs.Common.{◌≡◌, ◌⊎◌, ℕ, ◌+◌, suc, refl, sym, ap, subst, ◌∙◌, inl, inr, true, false, Bool, List, [], ◌∷◌, ◌++◌, length}
use Rattle.std.specs.List.{list_all}
use Rattle.toml_edit_model.specs.Syntax.{Frame, Value, Pairs, no_pairs, pair, value_text, frame_text}
use Rattle.toml_edit_model.specs.Paths.{Step, at_key, Path, Mention, line_mentions, PairSource, pair_mentions}
use Rattle.toml_edit_model.specs.Accepted.{agree, all_agree}
use Rattle.toml_edit_model.specs.TreeOf.{Form, Entry, entry_of, entries}
use Rattle.toml_edit_laws.proofs.common.Tests.{and_left, and_right}
use Rattle.toml_edit_laws.proofs.common.Members.{Among, among-left, among-right, among-cases}
use Rattle.toml_edit_laws.proofs.mentions.KeyMentions.{below, line-role, line-named, line-closed, line-alone, line-shows, line-source, twin}
use Rattle.toml_edit_laws.proofs.mentions.KeyMentions.{agree-may}
use Rattle.toml_edit_laws.proofs.mentions.KeptMentions.{moved, Lifted, under-has, under-is, HaveNoHeaders}
use Rattle.toml_edit_model.specs.Roles.{Role, dotted_role, implied_role, header_role, array_role, value_role, continued_role}
use Rattle.toml_edit_model.specs.Roles.{may_meet_inline, is_header_role}
use Rattle.toml_edit_model.specs.TableMentions.{under}
use Rattle.toml_edit_laws.specs.InlineTree.{next_pair}

-- The mentions at and below a key: of dotted keys and of values, each named by the last key of its path, together with each key on
-- the way to it, with nothing else at or below a value, and with something below a dotted key.
pub record AgreeingMentions {S : Type 0} (ms : List (Mention S)) : Type 0 where
  pub roles : (m : Mention S) → Among m ms → (m.role ≡ dotted_role) ⊎ (m.role ≡ value_role)
  pub named : (m : Mention S) → Among m ms → (q : Path) (s : Step) → m.path ≡ q ++ (s ∷ []) → s ≡ at_key m.segment.key
  pub closed : (m : Mention S) → Among m ms → (s : Step) (q r : Path) → m.path ≡ s ∷ (q ++ r) → (n : Mention S) × Among n ms
      × (n.path ≡ s ∷ q)
  pub alone : (m n : Mention S) → Among m ms → Among n ms → m.role ≡ value_role → (r : Path) → n.path ≡ m.path ++ r → n ≡ m
  pub shows : (m : Mention S) → Among m ms → m.role ≡ dotted_role
      → (n : Mention S) × (s : Step) × (r : Path) × Among n ms × (n.path ≡ m.path ++ (s ∷ r))

no-header-role : (r : Role) → (r ≡ dotted_role) ⊎ (r ≡ value_role) → is_header_role r ≡ false
no-header-role r (inl e) = ap is_header_role e
no-header-role r (inr e) = ap is_header_role e

pub agreeing-headers : {S : Type 0} (ms : List (Mention S)) → AgreeingMentions ms → HaveNoHeaders ms
agreeing-headers ms h m a = no-header-role m.role (h.roles m a)

-- ---- one step down they are such again

module _ {S : Type 0} (s : Step) (ms : List (Mention S)) (h : AgreeingMentions ms) where
  same-role : (m : Mention S) (up : Lifted s m ms) → up.mention.role ≡ m.role
  same-role m up = sym (ap (λ k. k.role) up.same)

  roles-under : (m : Mention S) → Among m (under s ms) → (m.role ≡ dotted_role) ⊎ (m.role ≡ value_role)
  roles-under m a =
      let up = under-is s m ms a in
      subst (λ r. (r ≡ dotted_role) ⊎ (r ≡ value_role)) (same-role m up) (h.roles up.mention up.among)

  named-under : (m : Mention S) → Among m (under s ms) → (q : Path) (t : Step) → m.path ≡ q ++ (t ∷ []) → t ≡ at_key m.segment.key
  named-under m a q t e =
      let up = under-is s m ms a in
      h.named up.mention up.among (s ∷ q) t (up.path ∙ ap (λ p. s ∷ p) e) ∙ sym (ap (λ k. at_key k.segment.key) up.same)

  closed-under : (m : Mention S) → Among m (under s ms) → (t : Step) (q r : Path) → m.path ≡ t ∷ (q ++ r)
      → (n : Mention S) × Among n (under s ms) × (n.path ≡ t ∷ q)
  closed-under m a t q r e =
      let up = under-is s m ms a in
      let found = h.closed up.mention up.among s (t ∷ q) r (up.path ∙ ap (λ p. s ∷ p) e) in
      (moved found.0 (t ∷ q), under-has s (t ∷ q) found.0 ms found.1 found.2, refl)

  tails : (p q : Path) → s ∷ p ≡ s ∷ q → p ≡ q
  tails p q e = cc

  alone-under : (m n : Mention S) → Among m (under s ms) → Among n (under s ms) → m.role ≡ value_role → (r : Path) → n.path ≡ m.path ++ r
      → n ≡ m
  alone-under m n a b v r e =
      let up = under-is s m ms a in
      let above = under-is s n ms b in
      let one = h.alone up.mention above.mention up.among above.among (same-role m up ∙ v) r (above.path ∙ ap (λ p. s ∷ p) e
      ∙ ap (λ p. p ++ r) (sym up.path)) in
      let path = tails n.path m.path (sym above.path ∙ ap (λ k. k.path) one ∙ up.path) in
      above.same ∙ ap (λ k. moved k n.path) one ∙ ap (moved up.mention) path ∙ sym up.same

  shows-under : (m : Mention S) → Among m (under s ms) → m.role ≡ dotted_role
      → (n : Mention S) × (t : Step) × (r : Path) × Among n (under s ms) × (n.path ≡ m.path ++ (t ∷ r))
  shows-under m a d =
      let up = under-is s m ms a in
      let found = h.shows up.mention up.among (same-role m up ∙ d) in
      let path = found.4 ∙ ap (λ p. p ++ (found.1 ∷ found.2)) up.path in (
        moved found.0 (m.path ++ (found.1 ∷ found.2)),
        found.1,
        found.2,
        under-has s (m.path ++ (found.1 ∷ found.2)) found.0 ms found.3 path,
        refl,
      )

  pub under-agrees : AgreeingMentions (under s ms)
  under-agrees =
      record { roles = roles-under; named = named-under; closed = closed-under; alone = alone-under; shows = shows-under }

-- ---- the mentions of pairs are such

last_of : Path → Step → Step
last_of [] s = s
last_of (t ∷ p) s = last_of p t

last-is : (p : Path) (s t : Step) → last_of (p ++ (s ∷ [])) t ≡ s
unfolding last_of
last-is [] s t = refl
last-is (a ∷ p) s t = last-is p s a

same-last : (p q : Path) (s t : Step) → p ++ (s ∷ []) ≡ q ++ (t ∷ []) → s ≡ t
same-last p q s t e = sym (last-is p s s) ∙ ap (λ x. last_of x s) e ∙ last-is q t s

pub no-value-first : (r : Role) → may_meet_inline value_role r ≡ true → ⊥
no-value-first r h = cc

pub no-value-last : (r : Role) → may_meet_inline r value_role ≡ true → ⊥
no-value-last dotted_role h = cc
no-value-last implied_role h = cc
no-value-last header_role h = cc
no-value-last array_role h = cc
no-value-last value_role h = cc
no-value-last continued_role h = cc

-- each pair's value is such
abbrev pub EachValue : (Value → Type 0) → Pairs → Type 0
EachValue P no_pairs = Unit {0}
EachValue P (pair f v ps) = P v × EachValue P ps

module _ (form : Form) where
  abbrev own_mentions : ℕ → Frame → Value → List (Mention Entry)
  own_mentions i f v = line_mentions (entry_of form i f v) (i + length f.leading) [] f.path

  abbrev rest_of : Frame → Value → Pairs → ℕ → List (Mention Entry)
  rest_of f v ps i = entries form ps (next_pair i f v)

  -- each lies below the table
  pub entry-below : (ps : Pairs) (i : ℕ) (m : Mention Entry) → Among m (entries form ps i) → (s : Step) × (q : Path) × (m.path ≡ s ∷ q)
  entry-below no_pairs i m h = elim h [ ]
  entry-below (pair f v ps) i m h =
      elim (among-cases m (own_mentions i f v) (entries form ps (next_pair i f v)) h) [
        | inl a ↦ below (entry_of form i f v) (i + length f.leading) [] f.path m a
        | inr b ↦ entry-below ps (next_pair i f v) m b
      ]

  -- mentions that agree with those of the pairs
  cross : (may : Role → Role → Bool) (earlier : List (Mention PairSource)) (start number : ℕ) (ps : Pairs) (i : ℕ)
      → list_all (agree may earlier) (pair_mentions start ps) ≡ true → (m : Mention PairSource) (n : Mention Entry)
      → Among m earlier → Among n (entries form ps i) → m.path ≡ n.path → may m.role n.role ≡ true
  cross may earlier start number no_pairs i h m n a b e = elim b [ ]
  cross may earlier start number (pair f v ps) i h m n a b e =
      elim (among-cases n (own_mentions i f v) (entries form ps (next_pair i f v)) b) [
        | inl g ↦
            let t = twin (entry_of form i f v) (record { frame = f; value = v }) (i + length f.leading) (start
            + length f.leading) [] f.path n g in
            subst (λ r. may m.role r ≡ true) t.3 (agree-may may earlier _ m t.0 (and_left _ _ h) a t.1 (e ∙ sym t.2))
        | inr g ↦
            cross may earlier (start + length (frame_text f (value_text v))
            + 1) (suc number) ps (next_pair i f v) (and_right _ _ h) m n a g e
      ]

  entry-roles : (ps : Pairs) (i : ℕ) (m : Mention Entry) → Among m (entries form ps i) → (m.role ≡ dotted_role) ⊎ (m.role ≡ value_role)
  entry-roles no_pairs i m h = elim h [ ]
  entry-roles (pair f v ps) i m h =
      elim (among-cases m (own_mentions i f v) (rest_of f v ps i) h) [
        | inl a ↦ line-role (entry_of form i f v) (i + length f.leading) [] f.path m a
        | inr b ↦ entry-roles ps (next_pair i f v) m b
      ]

  entry-named : (ps : Pairs) (i : ℕ) (m : Mention Entry) → Among m (entries form ps i) → (q : Path) (s : Step) → m.path ≡ q ++ (s ∷ [])
      → s ≡ at_key m.segment.key
  entry-named no_pairs i m h q s e = elim h [ ]
  entry-named (pair f v ps) i m h q s e =
      elim (among-cases m (own_mentions i f v) (rest_of f v ps i) h) [
        | inl a ↦
            let is = line-named (entry_of form i f v) (i + length f.leading) [] f.path m a in
            same-last q is.0 s (at_key m.segment.key) (sym e ∙ is.1)
        | inr b ↦ entry-named ps (next_pair i f v) m b q s e
      ]

  entry-closed : (ps : Pairs) (i : ℕ) (m : Mention Entry) → Among m (entries form ps i) → (s : Step) (q r : Path) → m.path ≡ s ∷ (q ++ r)
      → (n : Mention Entry) × Among n (entries form ps i) × (n.path ≡ s ∷ q)
  entry-closed no_pairs i m h s q r e = elim h [ ]
  entry-closed (pair f v ps) i m h s q r e =
      elim (among-cases m (own_mentions i f v) (rest_of f v ps i) h) [
        | inl a ↦
            let found = line-closed (entry_of form i f v) (i + length f.leading) [] f.path m a s q r e in
            (found.0, among-left found.0 (own_mentions i f v) (rest_of f v ps i) found.1, found.2)
        | inr b ↦
            let found = entry-closed ps (next_pair i f v) m b s q r e in
            (found.0, among-right found.0 (own_mentions i f v) (rest_of f v ps i) found.1, found.2)
      ]

  entry-shows : (ps : Pairs) (i : ℕ) (m : Mention Entry) → Among m (entries form ps i) → m.role ≡ dotted_role
      → (n : Mention Entry) × (s : Step) × (r : Path) × Among n (entries form ps i) × (n.path ≡ m.path ++ (s ∷ r))
  entry-shows no_pairs i m h d = elim h [ ]
  entry-shows (pair f v ps) i m h d =
      elim (among-cases m (own_mentions i f v) (rest_of f v ps i) h) [
        | inl a ↦
            let found = line-shows (entry_of form i f v) (i + length f.leading) [] f.path m a d in
            (found.0, found.1, found.2, among-left found.0 (own_mentions i f v) (rest_of f v ps i) found.3, found.4)
        | inr b ↦
            let found = entry-shows ps (next_pair i f v) m b d in
            (found.0, found.1, found.2, among-right found.0 (own_mentions i f v) (rest_of f v ps i) found.3, found.4)
      ]

  entry-alone : (start number : ℕ) (ps : Pairs) (i : ℕ) → all_agree may_meet_inline (pair_mentions start ps) ≡ true
      → (m n : Mention Entry) → Among m (entries form ps i) → Among n (entries form ps i) → m.role ≡ value_role → (r : Path)
      → n.path ≡ m.path ++ r → n ≡ m
  entry-alone start number no_pairs i h m n a b v r e = elim a [ ]
  entry-alone start number (pair f w ps) i h m n a b v r e =
      elim (among-cases m (own_mentions i f w) (rest_of f w ps i) a) [
        | inl x ↦
            elim (among-cases n (own_mentions i f w) (rest_of f w ps i) b) [
              | inl y ↦ line-alone (entry_of form i f w) (i + length f.leading) [] f.path m n x y v r e
              | inr y ↦
                  let at = below (entry_of form i f w) (i + length f.leading) [] f.path m x in
                  let met = entry-closed ps (next_pair i f w) n y at.0 at.1 r (e ∙ ap (λ p. p ++ r) at.2) in
                  let t = twin (entry_of form i f w) own_source (i + length f.leading) (start + length f.leading) [] f.path m x in
                  absurd (no-value-first met.0.role (subst (λ k. may_meet_inline k met.0.role ≡ true) (t.3 ∙ v)
                  (cross may_meet_inline _ _ 0 ps (next_pair i f w) (and_left _ _ h) t.0 met.0 t.1 met.1 (t.2 ∙ at.2 ∙ sym met.2))))
            ]
        | inr x ↦
            elim (among-cases n (own_mentions i f w) (rest_of f w ps i) b) [
              | inl y ↦
                  let at = entry-below ps (next_pair i f w) m x in
                  let met = line-closed (entry_of form i f w) (i + length f.leading) [] f.path n y at.0 at.1 r (e
                  ∙ ap (λ p. p ++ r) at.2) in
                  let t = twin (entry_of form i f w) own_source (i + length f.leading) (start + length f.leading) [] f.path met.0 met.1 in
                  absurd (no-value-last t.0.role (subst (λ k. may_meet_inline t.0.role k ≡ true) v
                  (cross may_meet_inline _ _ 0 ps (next_pair i f w) (and_left _ _ h) t.0 m t.1 x (t.2 ∙ met.2 ∙ sym at.2))))
              | inr y ↦ entry-alone (start + length (frame_text f (value_text w))
                  + 1) (suc number) ps (next_pair i f w) (and_right _ _ h) m n x y v r e
            ]
      ]
    where
      own_source : PairSource
      own_source = record { frame = f; value = w }

  -- The mentions of agreeing pairs.
  pub entries-agree : (ps : Pairs) (i : ℕ) → all_agree may_meet_inline (pair_mentions 0 ps) ≡ true → AgreeingMentions (entries form ps i)
  entries-agree ps i h =
      record {
        roles = entry-roles ps i;
        named = entry-named ps i;
        closed = entry-closed ps i;
        alone = entry-alone 0 0 ps i h;
        shows = entry-shows ps i;
      }

  -- what holds of each pair's value holds of that of each mention
  pub entry-value : (P : Value → Type 0) (ps : Pairs) (i : ℕ) → EachValue P ps → (m : Mention Entry) → Among m (entries form ps i)
      → P m.source.value
  entry-value P no_pairs i h m a = elim a [ ]
  entry-value P (pair f v ps) i h m a =
      elim (among-cases m (own_mentions i f v) (rest_of f v ps i) a) [
        | inl x ↦ subst (λ e. P e.value) (sym (line-source (entry_of form i f v) (i + length f.leading) [] f.path m x)) h.0
        | inr y ↦ entry-value P ps (next_pair i f v) h.1 m y
      ]
