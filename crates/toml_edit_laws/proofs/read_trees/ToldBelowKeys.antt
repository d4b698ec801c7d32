-- What mentions below a key tell, by their roles.
use Rattle.toml_edit_model.specs.Paths.{Source, Path, Mention, to_key, at_key, Step, to_element, at_element}
use Rattle.toml_edit_laws.proofs.read_trees.BelowKeys.{numbered-among, Readable, slot-for, table-below, apart-at, array-below, way-begins}
use Rattle.toml_edit_laws.proofs.read_trees.BelowKeys.{element-begins, StandsAt, own-apart}
use Rattle.toml_edit_laws.proofs.read_trees.FactsTold.{Tells, rise, mention_told, sink-told, sink-numbered, Numbered, role_told, count-some}
use Rattle.toml_edit_laws.proofs.common.Members.{Among}
use Rattle.std.proofs.Common.{inr, List, inl, subst, ◌≡◌, ◌∷◌, ◌<◌, ◌++◌, sym, ◌∙◌, false, ℕ, ◌⊎◌, append-nil, ap, refl, true, []}
use Rattle.toml_edit_model.specs.Meaning.{Fact, fact, a_table, an_array}
use Rattle.toml_edit_model.specs.Text.{Text}
use Rattle.toml_edit_laws.proofs.clashes.ClashCounts.{count_at, count-under}
use Rattle.toml_edit_model.specs.Syntax.{Statement}
use Rattle.toml_edit_laws.proofs.clashes.ClashMentions.{is_table_role, HaveMeetingRoles}
use Rattle.toml_edit_laws.proofs.mentions.SomeAt.{among-test}
use Rattle.toml_edit_laws.proofs.common.Tests.{true-false}
use Rattle.toml_edit_model.specs.Roles.{Role, continued_role, dotted_role, array_role, header_role, value_role, implied_role, may_meet}
use Rattle.toml_edit_model.specs.Roles.{is_array_role, is_value_role}
use Rattle.toml_edit_model.specs.TableMentions.{under, kept, some_at}
use Rattle.std.specs.Prelude.{not}

pub tells-among : (p : Path) (ms : List (Mention Source)) (f : Fact) → Tells p ms f → (m : Mention Source) × Among m ms
tells-among p ms f (inl t) = (t.mention, t.among)
tells-among p ms f (inr t) = let found = numbered-among t.path ms t.number t.within in (found.0, found.1)

-- told below some key of a table, and below those of some slots
abbrev pub Below : Path → List (Mention Source) → Fact → Type 0
Below p ms f = (l : Text) × Tells (to_key p l) (under (at_key l) ms) f

abbrev pub KeptBelow : Path → List (Mention Source) → List (Mention Source) → Fact → Type 0
KeptBelow p ms ks f = (j : Mention Source) × Among j ks × Tells (to_key p j.segment.key) (under (at_key j.segment.key) ms) f

pub below-kept : (p : Path) (ms : List (Mention Source)) (f : Fact) → Readable ms → Below p ms f → KeptBelow p ms (kept ms) f
below-kept p ms f h (l, t) =
    let among = tells-among (to_key p l) (under (at_key l) ms) f t in
    let found = slot-for ms h l among.0 among.1 in
    (found.0, found.1, subst (λ k. Tells (to_key p k) (under (at_key k) ms) f) found.2 t)

pub below-tells : (p : Path) (ms : List (Mention Source)) (f : Fact) → Below p ms f → Tells p ms f
below-tells p ms f (l, t) = rise p (at_key l) ms f t

pub told-below : (p : Path) (ms : List (Mention Source)) (f : Fact) (m : Mention Source) → Among m ms → (l : Text) (r : Path) → m.path
    ≡ at_key l ∷ r
    → Among f (mention_told p m) → Below p ms f
told-below p ms f m a l r e t = (l, inl (sink-told p (at_key l) r ms f m a e t))

pub numbered-step : (p : Path) (ms : List (Mention Source)) (f : Fact) (t : Numbered p ms f) (s : Step) (r : Path) → t.path ≡ s ∷ r
    → Numbered (p ++ (s ∷ [])) (under s ms) f
numbered-step p ms f t s r e =
    sink-numbered p s r ms f t.number (subst (λ q. t.number < count_at is_array_role q ms) e t.within)
    (subst (λ q. f ≡ fact (to_element (p ++ q) t.number) a_table) e t.is)

-- where each mention is below a key
pub strict-below : (p : Path) (ms : List (Mention Source)) (f : Fact)
    → ((m : Mention Source) → Among m ms → (l : Text) × (r : Path) × (m.path ≡ at_key l ∷ r))
    → Tells p ms f → Below p ms f
strict-below p ms f h (inl t) = let begins = h t.mention t.among in told-below p ms f t.mention t.among begins.0 begins.1 begins.2 t.told
strict-below p ms f h (inr t) =
    let found = numbered-among t.path ms t.number t.within in
    let begins = h found.0 found.1 in
    (begins.0, inr (numbered-step p ms f t (at_key begins.0) begins.1 (sym found.2 ∙ begins.2)))

pub table-told : (r : Role) (st : Statement) (q : Path) (f : Fact) → is_array_role r ≡ false → is_value_role r ≡ false
    → Among f (role_told r st q) → f ≡ fact q a_table
table-told dotted_role st q f a v (inl e) = e
table-told dotted_role st q f a v (inr x) = absurd x
table-told implied_role st q f a v (inl e) = e
table-told implied_role st q f a v (inr x) = absurd x
table-told header_role st q f a v (inl e) = e
table-told header_role st q f a v (inr x) = absurd x
table-told array_role st q f a v t = absurd cc
table-told value_role st q f a v t = absurd cc
table-told continued_role st q f a v t = absurd t

pub array-told : (r : Role) (st : Statement) (q : Path) (f : Fact) → is_table_role r ≡ false → is_value_role r ≡ false
    → Among f (role_told r st q) → f ≡ fact q an_array
array-told array_role st q f a v (inl e) = e
array-told array_role st q f a v (inr x) = absurd x
array-told dotted_role st q f a v t = absurd cc
array-told implied_role st q f a v t = absurd cc
array-told header_role st q f a v t = absurd cc
array-told value_role st q f a v t = absurd cc
array-told continued_role st q f a v t = absurd t

-- the table of an element, and what is below it
abbrev pub ElementTells : Path → List (Mention Source) → ℕ → Fact → Type 0
ElementTells p ns i f = (f ≡ fact (to_element p i) a_table) ⊎ Below (to_element p i) (under (at_element i) ns) f

module _ (ms : List (Mention Source)) (h : Readable ms) (k : Text) (p : Path) (f : Fact) where
  no-number : (n : ℕ) (q : Path) → q ≡ [] → n < count_at is_array_role q (under (at_key k) ms)
      → n < count_at is_array_role (at_key k ∷ []) ms
  no-number n q e w =
      subst (λ x. n < x) (count-under is_array_role (at_key k) [] ms) (subst (λ r. n < count_at is_array_role r (under (at_key k) ms)) e w)

  -- at a table's key
  pub table-split : StandsAt is_table_role k ms → Tells p (under (at_key k) ms) f → (f ≡ fact p a_table) ⊎ Below p (under (at_key k) ms) f
  table-split stands (inl t) =
      elim ((table-below ms h k stands).ways t.mention t.among) [
        | inl e ↦
            inl (table-told t.mention.role t.mention.source.statement (p ++ t.mention.path) f
            (own-apart ms h k is_table_role is_array_role refl stands t.mention t.among e)
            (own-apart ms h k is_table_role is_value_role refl stands t.mention t.among e) t.told
            ∙ ap (λ q. fact (p ++ q) a_table) e ∙ ap (λ q. fact q a_table) (append-nil p))
        | inr w ↦
            let begins = way-begins (under (at_key k) ms) t.mention w in
            inr (told-below p (under (at_key k) ms) f t.mention t.among begins.0 begins.1 begins.2 t.told)
      ]
  table-split stands (inr t) =
      let found = numbered-among t.path (under (at_key k) ms) t.number t.within in
      elim ((table-below ms h k stands).ways found.0 found.1) [
        | inl e ↦
            absurd (apart-at is_table_role is_array_role k ms h refl stands
            (count-some (at_key k ∷ []) ms t.number (no-number t.number t.path (sym found.2 ∙ e) t.within)))
        | inr w ↦
            let begins = way-begins (under (at_key k) ms) found.0 w in
            inr (begins.0, inr (numbered-step p (under (at_key k) ms) f t (at_key begins.0) begins.1 (sym found.2 ∙ begins.2)))
      ]

  -- at an array's key
  pub array-split : StandsAt is_array_role k ms → Tells p (under (at_key k) ms) f
      → (f ≡ fact p an_array) ⊎ ((i : ℕ) × (i < count_at is_array_role (at_key k ∷ []) ms) × ElementTells p (under (at_key k) ms) i f)
  array-split stands (inl t) =
      elim (array-below ms h k stands t.mention t.among) [
        | inl e ↦
            inl (array-told t.mention.role t.mention.source.statement (p ++ t.mention.path) f
            (own-apart ms h k is_array_role is_table_role refl stands t.mention t.among e)
            (own-apart ms h k is_array_role is_value_role refl stands t.mention t.among e) t.told
            ∙ ap (λ q. fact (p ++ q) an_array) e ∙ ap (λ q. fact q an_array) (append-nil p))
        | inr (i, r, less, e) ↦
            inr (
              i,
              less,
              inr (strict-below (to_element p i) (under (at_element i) (under (at_key k) ms)) f (element-begins ms h k i stands)
                  (inl (sink-told p (at_element i) r (under (at_key k) ms) f t.mention t.among e t.told))),
            )
      ]
  array-split stands (inr t) =
      let found = numbered-among t.path (under (at_key k) ms) t.number t.within in
      elim (array-below ms h k stands found.0 found.1) [
        | inl e ↦
            let none : t.path ≡ [] = sym found.2 ∙ e in
            inr (
              t.number,
              no-number t.number t.path none t.within,
              inl (t.is ∙ ap (λ q. fact (to_element (p ++ q) t.number) a_table) none
                  ∙ ap (λ q. fact (to_element q t.number) a_table) (append-nil p)),
            )
        | inr (i, r, less, e) ↦
            inr (
              i,
              less,
              inr (strict-below (to_element p i) (under (at_element i) (under (at_key k) ms)) f (element-begins ms h k i stands)
                  (inr (numbered-step p (under (at_key k) ms) f t (at_element i) r (sym found.2 ∙ e)))),
            )
      ]

  -- back from an element
  pub element-rise : (i : ℕ) → i < count_at is_array_role (at_key k ∷ []) ms → ElementTells p (under (at_key k) ms) i f
      → Tells p (under (at_key k) ms) f
  element-rise i less (inl e) =
      inr (record {
        path = [];
        number = i;
        within = subst (λ n. i < n) (sym (count-under is_array_role (at_key k) [] ms)) less;
        is = e ∙ ap (λ q. fact (to_element q i) a_table) (sym (append-nil p));
      })
  element-rise i less (inr b) =
      rise p (at_element i) (under (at_key k) ms) f (below-tells (to_element p i) (under (at_element i) (under (at_key k) ms)) f b)

-- two values don't stand at one path
pub value-later : (m n : Mention Source) (ms : List (Mention Source)) → some_at (λ r. not (may_meet m.role r)) m.path ms ≡ false
    → Among n ms → m.role ≡ value_role
    → n.role ≡ value_role → m.path ≡ n.path → ⊥
value-later m n ms h a v w e =
    let test : not (may_meet m.role n.role) ≡ true = ap (λ r. not (may_meet r n.role)) v ∙ ap (λ r. not (may_meet value_role r)) w in
    true-false (some_at (λ r. not (may_meet m.role r)) m.path ms)
    (subst (λ p. some_at (λ r. not (may_meet m.role r)) p ms ≡ true) (sym e) (among-test (λ r. not (may_meet m.role r)) n ms a test)) h

pub value-one : (m n : Mention Source) (ms : List (Mention Source)) → HaveMeetingRoles ms → Among m ms → Among n ms → m.role ≡ value_role
    → n.role ≡ value_role
    → m.path ≡ n.path → m ≡ n
value-one m n [] h a b v w e = elim a [ ]
value-one m n (x ∷ ms) h (inl g) (inl i) v w e = g ∙ sym i
value-one m n (x ∷ ms) h (inl g) (inr b) v w e =
    absurd (value-later m n ms (subst (λ (y : Mention Source). some_at (λ r. not (may_meet y.role r)) y.path ms ≡ false) (sym g) h.0) b v w
    e)
value-one m n (x ∷ ms) h (inr a) (inl i) v w e =
    absurd (value-later n m ms (subst (λ (y : Mention Source). some_at (λ r. not (may_meet y.role r)) y.path ms ≡ false) (sym i) h.0) a w v
    (sym e))
value-one m n (x ∷ ms) h (inr a) (inr b) v w e = value-one m n ms h.1 a b v w e
