-- The slots of the tree of a document show the facts that its mentions tell.
use Rattle.std.proofs.Common.{◌≡◌, ◌⊎◌, ◌<◌, ◌≤◌, ℕ, zero, suc, ◌+◌, refl, sym, ap, subst, ◌∙◌, arith, inl, inr, true, false, List, [], ◌∷◌}
use Rattle.std.proofs.Common.{◌++◌, append-nil, length}
use Rattle.std.specs.Prelude.{◌||◌, not, if◌then◌else◌}
use Rattle.toml_edit_model.specs.Mode.{with_return}
use Rattle.toml_edit_model.specs.Text.{Text}
use Rattle.toml_edit_model.specs.Syntax.{Statement, key_line, header}
use Rattle.toml_edit_model.specs.Paths.{at_key, at_element, Path, to_key, to_element, Mention, Source}
use Rattle.toml_edit_model.specs.Meaning.{Fact, fact, a_table, an_array}
use Rattle.toml_edit_model.specs.Tree.{Key, TableFields, Node, nothing, leaf, list, inline, table, tables, Items, no_items, item, Slots}
use Rattle.toml_edit_model.specs.Tree.{no_slots, slot}
use Rattle.toml_edit_model.specs.TreeOf.{Form, value_start, header_fields, fields_of, IsLineNode, IsNodeOf, AreElementsOf, AreSlotsOf}
use Rattle.toml_edit_model.specs.Shown.{is_shown, shows, has_table, inside_facts, node_facts, tables_facts, slots_facts}
use Rattle.toml_edit_laws.proofs.common.Tests.{or-true, true-false}
use Rattle.toml_edit_laws.proofs.common.Members.{Among, among-left, among-right, among-cases, from-contained, to-contained}
use Rattle.toml_edit_laws.proofs.mentions.KeptMentions.{moved, under-has, under-is}
use Rattle.toml_edit_laws.proofs.values.ValueMeaning.{value_meaning, value_is_shown}
use Rattle.toml_edit_laws.proofs.clashes.ClashMentions.{is_table_role}
use Rattle.toml_edit_laws.proofs.clashes.ClashCounts.{count_at, count-under, count-own, count-zero}
use Rattle.toml_edit_laws.proofs.read_trees.StatementsRight.{HasRightValue}
use Rattle.toml_edit_laws.proofs.read_trees.FactsTold.{role_told, Tells, count-some}
use Rattle.toml_edit_laws.proofs.read_trees.BelowKeys.{Readable, StandsAt, apart-at, numbered-among, way-begins, table-below, element-below}
use Rattle.toml_edit_laws.proofs.read_trees.BelowKeys.{value-below, own-apart, kept-in, kept-path, kept-stands, kept-table, kept-under}
use Rattle.toml_edit_laws.proofs.read_trees.BelowKeys.{slot-for}
use Rattle.toml_edit_laws.proofs.mentions.Placed.{is_header}
use Rattle.toml_edit_laws.proofs.read_trees.ToldBelowKeys.{Below, KeptBelow, below-kept, below-tells, strict-below, ElementTells}
use Rattle.toml_edit_laws.proofs.read_trees.ToldBelowKeys.{table-split, array-split, element-rise, value-one}
use Rattle.toml_edit_model.specs.Roles.{Role, dotted_role, implied_role, header_role, array_role, value_role, continued_role, extends}
use Rattle.toml_edit_model.specs.Roles.{is_header_role, is_value_role, is_array_role}
use Rattle.toml_edit_model.specs.TableMentions.{under, kept, array_headers, some_at}

abbrev pub Same : Type 0 → Type 0 → Type 0
Same A B = (A → B) × (B → A)

-- ---- values

module _ (form : Form) where
  line-value : (s : Source) (st : Statement) (n : Node) → HasRightValue st → IsLineNode form s st n → (p : Path) (f : Fact)
      → Same (Among f (inside_facts n p)) (Among f (role_told value_role st p))
  line-value s (key_line g v end) n h is p f =
      let same = value_meaning v form (s.start + value_start form g) g.after_equals (with_return form.mode g.trailing end) n p h.grammar
      h.agrees is f in (
        λ a. from-contained f (role_told value_role (key_line g v end) p) (same.0 (to-contained f (inside_facts n p) a)),
        λ a. from-contained f (inside_facts n p) (same.1 (to-contained f (role_told value_role (key_line g v end) p) a)),
      )
  line-value s (header g end) n h is p f = absurd is

  line-shown : (s : Source) (st : Statement) (n : Node) → IsLineNode form s st n → is_shown n ≡ true
  line-shown s (key_line g v end) n is =
      (value_is_shown v form (s.start + value_start form g) g.after_equals (with_return form.mode g.trailing end) n is).1
  line-shown s (header g end) n is = absurd is

value-told : (r : Role) (st : Statement) (q : Path) (f : Fact) → is_table_role r ≡ false → is_array_role r ≡ false
    → Among f (role_told r st q) → r ≡ value_role
value-told value_role st q f a v t = refl
value-told array_role st q f a v t = absurd cc
value-told dotted_role st q f a v t = absurd cc
value-told implied_role st q f a v t = absurd cc
value-told header_role st q f a v t = absurd cc
value-told continued_role st q f a v t = absurd t

module _ (ms : List (Mention Source)) (h : Readable ms) (j : Mention Source) (a : Among j (kept ms)) (p : Path) (f : Fact) where
  ns : List (Mention Source)
  ns = under (at_key j.segment.key) ms

  -- what the kept mention itself tells
  kept-tells : (r : Role) → j.role ≡ r → Among f (role_told r j.source.statement p) → Tells p (under (at_key j.segment.key) ms) f
  kept-tells r e t =
      inl (record {
        mention = moved j [];
        among = kept-under ms h j a;
        told =
            subst (Among f)
            (ap (λ x. role_told x j.source.statement p) (sym e) ∙ ap (role_told j.role j.source.statement) (sym (append-nil p))) t;
      })

  value-back : j.role ≡ value_role → Tells p (under (at_key j.segment.key) ms) f → Among f (role_told value_role j.source.statement p)
  value-back v (inl t) =
      let k = j.segment.key in
      let stands = kept-stands ms h j a is_value_role (ap is_value_role v) in
      let none = value-below ms h k stands t.mention t.among in
      let role =
      value-told t.mention.role t.mention.source.statement (p
      ++ t.mention.path) f (own-apart ms h k is_value_role is_table_role refl stands t.mention t.among none)
      (own-apart ms h k is_value_role is_array_role refl stands t.mention t.among none) t.told in
      let up = under-is (at_key k) t.mention ms t.among in
      let one = value-one up.mention j ms h.statements.meeting up.among (kept-in ms h j a)
      (ap (λ (n : Mention Source). n.role) (sym up.same) ∙ role) v
      (up.path ∙ ap (λ q. at_key k ∷ q) none ∙ sym (kept-path ms h j a)) in
      let source : t.mention.source ≡ j.source = ap (λ (n : Mention Source). n.source) up.same
      ∙ ap (λ (n : Mention Source). n.source) one in
      subst (Among f)
      (ap (λ r. role_told r t.mention.source.statement (p ++ t.mention.path)) role
      ∙ ap (λ (s : Source). role_told value_role s.statement (p ++ t.mention.path)) source
      ∙ ap (λ q. role_told value_role j.source.statement (p ++ q)) none
      ∙ ap (role_told value_role j.source.statement) (append-nil p))
      t.told
  value-back v (inr t) =
      let k = j.segment.key in
      let stands = kept-stands ms h j a is_value_role (ap is_value_role v) in
      let found = numbered-among t.path (under (at_key k) ms) t.number t.within in
      let none : t.path ≡ [] = sym found.2 ∙ value-below ms h k stands found.0 found.1 in
      let less : t.number < count_at is_array_role (at_key k ∷ []) ms =
      subst (λ n. t.number < n) (count-under is_array_role (at_key k) [] ms)
      (subst (λ q. t.number < count_at is_array_role q (under (at_key k) ms)) none t.within) in
      absurd (apart-at is_value_role is_array_role k ms h refl stands (count-some (at_key k ∷ []) ms t.number less))

  line-tells : (form : Form) (n : Node) → j.role ≡ value_role → IsLineNode form j.source j.source.statement n
      → Same (Among f (inside_facts n p)) (Tells p (under (at_key j.segment.key) ms) f)
  line-tells form n v is =
      let same = line-value form j.source j.source.statement n (h.right j (kept-in ms h j a)).value is p f in
      (λ b. kept-tells value_role v (same.0 b), λ t. same.1 (value-back v t))

  -- ---- tables

  table-role-told : (r : Role) → is_table_role r ≡ true → role_told r j.source.statement p ≡ fact p a_table ∷ []
  table-role-told dotted_role e = refl
  table-role-told implied_role e = refl
  table-role-told header_role e = refl
  table-role-told array_role e = absurd cc
  table-role-told value_role e = absurd cc
  table-role-told continued_role e = absurd cc

  table-tells : is_table_role j.role ≡ true → (fs : List Fact)
      → Same (Among f fs) (KeptBelow p (under (at_key j.segment.key) ms) (kept (under (at_key j.segment.key) ms)) f)
      → Same (Among f (fact p a_table ∷ fs)) (Tells p (under (at_key j.segment.key) ms) f)
  table-tells is fs same = (forth, back)
    where
      k : Text
      k = j.segment.key

      stands : StandsAt is_table_role j.segment.key ms
      stands = kept-stands ms h j a is_table_role is

      forth : Among f (fact p a_table ∷ fs) → Tells p (under (at_key j.segment.key) ms) f
      forth (inl e) = kept-tells j.role refl (subst (Among f) (sym (table-role-told j.role is)) (inl e))
      forth (inr b) = let found = same.0 b in below-tells p (under (at_key j.segment.key) ms) f (found.0.segment.key, found.2)

      back : Tells p (under (at_key j.segment.key) ms) f → Among f (fact p a_table ∷ fs)
      back t =
          elim (table-split ms h j.segment.key p f stands t) [
            | inl e ↦ inl e
            | inr b ↦ inr (same.1 (below-kept p (under (at_key j.segment.key) ms) f (table-below ms h j.segment.key stands) b))
          ]

  -- ---- arrays

  as-many : length (array_headers (under (at_key j.segment.key) ms)) ≡ count_at is_array_role (at_key j.segment.key ∷ []) ms
  as-many = count-own (under (at_key j.segment.key) ms) ∙ count-under is_array_role (at_key j.segment.key) [] ms

  array-tells : j.role ≡ array_role → (fs : List Fact)
      → (Among f fs → (i : ℕ) × (i < length (array_headers (under (at_key j.segment.key) ms)))
      × ElementTells p (under (at_key j.segment.key) ms) i f)
      → ((i : ℕ) → i < length (array_headers (under (at_key j.segment.key) ms)) → ElementTells p (under (at_key j.segment.key) ms) i f
      → Among f fs)
      → Same (Among f (fact p an_array ∷ fs)) (Tells p (under (at_key j.segment.key) ms) f)
  array-tells is fs first second = (forth, back)
    where
      stands : StandsAt is_array_role j.segment.key ms
      stands = kept-stands ms h j a is_array_role (ap is_array_role is)

      forth : Among f (fact p an_array ∷ fs) → Tells p (under (at_key j.segment.key) ms) f
      forth (inl e) = kept-tells array_role is (inl e)
      forth (inr b) =
          let found = first b in
          element-rise ms h j.segment.key p f found.0 (subst (λ n. found.0 < n) as-many found.1) found.2

      back : Tells p (under (at_key j.segment.key) ms) f → Among f (fact p an_array ∷ fs)
      back t =
          elim (array-split ms h j.segment.key p f stands t) [
            | inl e ↦ inl e
            | inr (i, less, g) ↦ inr (second i (subst (λ n. i < n) (sym as-many) less) g)
          ]

-- ---- what is shown

plain-fields : (form : Form) (s : Source) (st : Statement) → is_header st ≡ true
    → not ((header_fields form s st).is_dotted || (header_fields form s st).is_implicit) ≡ true
plain-fields form s (key_line f v end) h = absurd cc
plain-fields form s (header g end) h = refl

table-shown : (form : Form) (ns : List (Mention Source)) (j : Mention Source) (f : TableFields) (ss : Slots) (r : Role) → is_table_role r
    ≡ true
    → (is_header_role r ≡ true → is_header j.source.statement ≡ true) → f ≡ fields_of form ns j r
    → (extends r ≡ true → shows ss ≡ true)
    → is_shown (table f ss) ≡ true
table-shown form ns j f ss header_role is headed e made =
    ap (λ (g : TableFields). not (g.is_dotted || g.is_implicit) || shows ss) e
    ∙ ap (λ b. b || shows ss) (plain-fields form j.source j.source.statement (headed refl))
table-shown form ns j f ss dotted_role is headed e made = ap (λ b. not (f.is_dotted || f.is_implicit) || b) (made refl)
    ∙ or-true (not (f.is_dotted || f.is_implicit))
table-shown form ns j f ss implied_role is headed e made = ap (λ b. not (f.is_dotted || f.is_implicit) || b) (made refl)
    ∙ or-true (not (f.is_dotted || f.is_implicit))
table-shown form ns j f ss array_role is headed e made = absurd cc
table-shown form ns j f ss value_role is headed e made = absurd cc
table-shown form ns j f ss continued_role is headed e made = absurd cc

-- a table that keys on a path made has a slot
made-slot : (ms : List (Mention Source)) (h : Readable ms) (j : Mention Source) (a : Among j (kept ms)) → is_table_role j.role ≡ true
    → extends j.role ≡ true
    → (k : Mention Source) × Among k (kept (under (at_key j.segment.key) ms))
made-slot ms h j a is made =
    let stands = kept-stands ms h j a is_table_role is in
    let readable = table-below ms h j.segment.key stands in
    let more = h.more j (kept-in ms h j a) made in
    let path = more.path ∙ ap (λ p. p ++ (more.step ∷ more.rest)) (kept-path ms h j a) in
    let there = under-has (at_key j.segment.key) (more.step ∷ more.rest) more.mention ms more.among path in
    let m = moved more.mention (more.step ∷ more.rest) in
    elim (readable.ways m there) [
      | inl e ↦ let clash : more.step ∷ more.rest ≡ [] = e in absurd cc
      | inr w ↦
          let begins = way-begins (under (at_key j.segment.key) ms) m w in
          let found = slot-for (under (at_key j.segment.key) ms) readable begins.0 (moved m begins.1)
          (under-has (at_key begins.0) begins.1 m (under (at_key j.segment.key) ms) there begins.2) in
          (found.0, found.1)
    ]

-- ---- slots and elements

-- one slot more
slot-tells : (p : Path) (ms ks : List (Mention Source)) (k : Mention Source) (f : Fact) (n : Node) (name : Text) (gs : List Fact)
    → is_shown n ≡ true → name ≡ k.segment.key
    → Same (Among f (node_facts n (to_key p k.segment.key))) (Tells (to_key p k.segment.key) (under (at_key k.segment.key) ms) f)
    → Same (Among f gs) (KeptBelow p ms ks f)
    → Same (Among f ((if is_shown n then node_facts n (to_key p name) else []) ++ gs)) (KeptBelow p ms (k ∷ ks) f)
slot-tells p ms ks k f n name gs shown same here others =
    subst (λ b. Same (Among f ((if b then node_facts n (to_key p name) else []) ++ gs)) (KeptBelow p ms (k ∷ ks) f)) (sym shown)
    (subst (λ x. Same (Among f (node_facts n (to_key p x) ++ gs)) (KeptBelow p ms (k ∷ ks) f)) (sym same) (forth, back))
  where
    forth : Among f (node_facts n (to_key p k.segment.key) ++ gs) → KeptBelow p ms (k ∷ ks) f
    forth m =
        elim (among-cases f (node_facts n (to_key p k.segment.key)) gs m) [
          | inl b ↦ (k, inl refl, here.0 b)
          | inr b ↦ let found = others.0 b in (found.0, inr found.1, found.2)
        ]

    back : KeptBelow p ms (k ∷ ks) f → Among f (node_facts n (to_key p k.segment.key) ++ gs)
    back (i, inl e, t) =
        among-left f (node_facts n (to_key p k.segment.key)) gs
        (here.1 (subst (λ (x : Mention Source). Tells (to_key p x.segment.key) (under (at_key x.segment.key) ms) f) e t))
    back (i, inr b, t) = among-right f (node_facts n (to_key p k.segment.key)) gs (others.1 (i, b, t))

-- a number from one on is that one, or from the next on
number-cases : (i l : ℕ) → i ≤ l → (l ≡ i) ⊎ (suc i ≤ l)
number-cases zero zero h = inl refl
number-cases zero (suc l) h = inr (omega arith)
number-cases (suc i) zero h = absurd (omega arith)
number-cases (suc i) (suc l) h =
    elim (number-cases i l (omega arith)) [
      | inl e ↦ inl (ap suc e)
      | inr g ↦ inr (omega arith)
    ]

-- what some elements tell, from one on
abbrev ElementsTell : Path → List (Mention Source) → ℕ → ℕ → Fact → Type 0
ElementsTell p ns i size f = (l : ℕ) × (i ≤ l) × (l < i + size) × ElementTells p ns l f

-- one element more
element-tells : (p : Path) (ns : List (Mention Source)) (i size : ℕ) (f : Fact) (fs gs : List Fact)
    → Same (Among f fs) (Below (to_element p i) (under (at_element i) ns) f)
    → Same (Among f gs) (ElementsTell p ns (suc i) size f)
    → Same (Among f ((fact (to_element p i) a_table ∷ fs) ++ gs)) (ElementsTell p ns i (suc size) f)
element-tells p ns i size f fs gs here others = (forth, back)
  where
    first : i < i + suc size
    first = omega arith

    start : i ≤ i
    start = omega arith

    own : Among f (fact (to_element p i) a_table ∷ fs) → ElementTells p ns i f
    own (inl e) = inl e
    own (inr b) = inr (here.0 b)

    later : ElementsTell p ns (suc i) size f → ElementsTell p ns i (suc size) f
    later (l, from, to, t) = (l, omega (arith, from), omega (arith, to), t)

    forth : Among f ((fact (to_element p i) a_table ∷ fs) ++ gs) → ElementsTell p ns i (suc size) f
    forth m =
        elim (among-cases f (fact (to_element p i) a_table ∷ fs) gs m) [
          | inl b ↦ (i, start, first, own b)
          | inr b ↦ later (others.0 b)
        ]

    at : ElementTells p ns i f → Among f (fact (to_element p i) a_table ∷ fs)
    at (inl e) = inl e
    at (inr b) = inr (here.1 b)

    back : ElementsTell p ns i (suc size) f → Among f ((fact (to_element p i) a_table ∷ fs) ++ gs)
    back (l, from, to, t) =
        elim (number-cases i l from) [
          | inl e ↦ among-left f (fact (to_element p i) a_table ∷ fs) gs (at (subst (λ n. ElementTells p ns n f) e t))
          | inr g ↦ among-right f (fact (to_element p i) a_table
              ∷ fs) gs (others.1 (l, g, (let less : l < suc i + size = omega (arith, to) in less), t))
        ]

no-elements : (p : Path) (ns : List (Mention Source)) (i : ℕ) (f : Fact) → Same (Among f []) (ElementsTell p ns i 0 f)
no-elements p ns i f = (λ a. elim a [ ], λ e. absurd (none e))
  where
    none : ElementsTell p ns i 0 f → ⊥
    none (l, from, to, t) = absurd (omega (arith, from, to))

-- all slots of a table
all-slots : (p : Path) (ms : List (Mention Source)) (f : Fact) (fs : List Fact) → Readable ms
    → Same (Among f fs) (KeptBelow p ms (kept ms) f)
    → Same (Among f fs) (Below p ms f)
all-slots p ms f fs h same = (λ a. let found = same.0 a in (found.0.segment.key, found.2), λ b. same.1 (below-kept p ms f h b))

-- where an array is mentioned, it has an element
some-count : (p : Path) (ms : List (Mention Source)) → some_at is_array_role p ms ≡ true → 0 < count_at is_array_role p ms
some-count p ms h = by_count (count_at is_array_role p ms) refl
  where
    by_count : (n : ℕ) → count_at is_array_role p ms ≡ n → 0 < n
    by_count zero e = true-false (some_at is_array_role p ms) h (count-zero is_array_role p ms e)
    by_count (suc n) e = omega arith

elements-shown : (form : Form) (ns : List (Mention Source)) (i n : ℕ) (more : List (Mention Source)) (xs : Items) → n < length more
    → AreElementsOf form ns i more xs → has_table xs ≡ true
elements-shown form ns i n [] xs less is = absurd (omega arith)
elements-shown form ns i n (a ∷ more) (item (table f ss) xs) less is = refl
elements-shown form ns i n (a ∷ more) no_items less is = absurd is
elements-shown form ns i n (a ∷ more) (item x xs) less is = absurd is

-- an array of tables has a table
array-shown : (form : Form) (ms : List (Mention Source)) (h : Readable ms) (j : Mention Source) (a : Among j (kept ms)) → j.role
    ≡ array_role → (xs : Items)
    → AreElementsOf form (under (at_key j.segment.key) ms) 0 (array_headers (under (at_key j.segment.key) ms)) xs → has_table xs ≡ true
array-shown form ms h j a is xs are =
    let k = j.segment.key in
    let stands = kept-stands ms h j a is_array_role (ap is_array_role is) in
    let many : length (array_headers (under (at_key k) ms)) ≡ count_at is_array_role (at_key k ∷ []) ms = count-own (under (at_key k) ms)
    ∙ count-under is_array_role (at_key k) [] ms in
    elements-shown form (under (at_key k) ms) 0 0 (array_headers (under (at_key k) ms)) xs
    (subst (λ n. 0 < n) (sym many) (some-count (at_key k ∷ []) ms stands)) are

array-forth : (p : Path) (ns : List (Mention Source)) (size : ℕ) (f : Fact) → ElementsTell p ns 0 size f → (i : ℕ) × (i < size)
    × ElementTells p ns i f
array-forth p ns size f (l, from, to, t) = (l, (let less : l < size = omega (arith, to) in less), t)

-- ---- the tree

module _ (form : Form) where
  mutual
    node-tells : (n : Node) (ms : List (Mention Source)) (h : Readable ms) (j : Mention Source) → Among j (kept ms)
        → IsNodeOf form (under (at_key j.segment.key) ms) j n
        → (is_shown n ≡ true) × ((p : Path) (f : Fact) → Same (Among f (node_facts n p)) (Tells p (under (at_key j.segment.key) ms) f))
    node-tells (table g ss) ms h j a is =
        let ns = under (at_key j.segment.key) ms in
        let role = kept-table ms h j a form is.0 in
        let readable = table-below ms h j.segment.key (kept-stands ms h j a is_table_role role) in
        let inner = slots-tell ss ns readable (kept ns) (λ k b. b) is.2 in (
          table-shown form ns j g ss j.role role (λ e. h.table.headers j (kept-in ms h j a) e) is.1
              (λ made. let found = made-slot ms h j a role made in inner.0 found.0 found.1),
          λ p f. table-tells ms h j a p f role (slots_facts ss p) (inner.1 p f),
        )
    node-tells (tables e xs) ms h j a is =
        let ns = under (at_key j.segment.key) ms in
        let stands = kept-stands ms h j a is_array_role (ap is_array_role is.0) in
        let inner = elements-tell xs ms h j.segment.key stands 0 (array_headers ns) is.2 in (
          array-shown form ms h j a is.0 xs is.2,
          λ p f.
              array-tells ms h j a p f is.0 (tables_facts xs p 0) (λ b. array-forth p ns (length (array_headers ns)) f ((inner p f).0 b))
              (λ i less t. (inner p f).1 (
                i,
                (let low : 0 ≤ i = omega arith in low),
                (let high : i < 0 + length (array_headers ns) = omega (arith, less) in high),
                t,
              )),
        )
    node-tells (leaf s r d) ms h j a is =
        (line-shown form j.source j.source.statement (leaf s r d) is.1, λ p f. line-tells ms h j a p f form (leaf s r d) is.0 is.1)
    node-tells (list g xs) ms h j a is =
        (line-shown form j.source j.source.statement (list g xs) is.1, λ p f. line-tells ms h j a p f form (list g xs) is.0 is.1)
    node-tells (inline g ss) ms h j a is =
        (line-shown form j.source j.source.statement (inline g ss) is.1, λ p f. line-tells ms h j a p f form (inline g ss) is.0 is.1)
    node-tells nothing ms h j a is = absurd is

    elements-tell : (xs : Items) (ms : List (Mention Source)) (h : Readable ms) (k : Text) → StandsAt is_array_role k ms
        → (i : ℕ) (more : List (Mention Source))
        → AreElementsOf form (under (at_key k) ms) i more xs → (p : Path) (f : Fact)
        → Same (Among f (tables_facts xs p i)) (ElementsTell p (under (at_key k) ms) i (length more) f)
    elements-tell no_items ms h k stands i [] is p f = no-elements p (under (at_key k) ms) i f
    elements-tell (item (table g ss) xs) ms h k stands i (a ∷ more) is p f =
        let us = under (at_element i) (under (at_key k) ms) in
        let readable = element-below ms h k i stands in
        let inner = slots-tell ss us readable (kept us) (λ j b. b) is.1 in
        element-tells p (under (at_key k) ms) i (length more) f (slots_facts ss (to_element p i)) (tables_facts xs p (suc i))
        (all-slots (to_element p i) us f (slots_facts ss (to_element p i)) readable (inner.1 (to_element p i) f))
        (elements-tell xs ms h k stands (suc i) more is.2 p f)
    elements-tell no_items ms h k stands i (a ∷ more) is p f = absurd is
    elements-tell (item n xs) ms h k stands i [] is p f = absurd is
    elements-tell (item n xs) ms h k stands i (a ∷ more) is p f = absurd is

    slots-tell : (ss : Slots) (ms : List (Mention Source)) (h : Readable ms) (ks : List (Mention Source))
        → ((k : Mention Source) → Among k ks → Among k (kept ms))
        → AreSlotsOf form ms ks ss
        → ((k : Mention Source) → Among k ks → shows ss ≡ true)
        × ((p : Path) (f : Fact) → Same (Among f (slots_facts ss p)) (KeptBelow p ms ks f))
    slots-tell no_slots ms h [] inside is = (λ k b. absurd b, λ p f. (λ b. elim b [ ], λ b. absurd b.1))
    slots-tell (slot key n ss) ms h (k ∷ ks) inside is =
        let here = node-tells n ms h k (inside k (inl refl)) is.1 in
        let others = slots-tell ss ms h ks (λ j b. inside j (inr b)) is.2 in (
          λ j b. ap (λ x. x || shows ss) here.0,
          λ p f. slot-tells p ms ks k f n key.name (slots_facts ss p) here.0 (ap (λ (x : Key). x.name) is.0)
              (here.1 (to_key p k.segment.key) f) (others.1 p f),
        )
    slots-tell no_slots ms h (k ∷ ks) inside is = absurd is
    slots-tell (slot key n ss) ms h [] inside is = absurd is

  -- The slots of the root show what the mentions tell.
  pub root-tells : (ss : Slots) (ms : List (Mention Source)) → Readable ms
      → ((m : Mention Source) → Among m ms → (l : Text) × (r : Path) × (m.path ≡ at_key l ∷ r))
      → AreSlotsOf form ms (kept ms) ss → (f : Fact) → Same (Among f (slots_facts ss [])) (Tells [] ms f)
  root-tells ss ms h begins is f =
      let inner = all-slots [] ms f (slots_facts ss []) h ((slots-tell ss ms h (kept ms) (λ k b. b) is).1 [] f) in
      (λ a. below-tells [] ms f (inner.0 a), λ t. inner.1 (strict-below [] ms f begins t))
