-- Which tables of the walk have a number: below mentions with no header of this number there are none.
use Rattle.std.proofs.Common.{◌≡◌, refl, sym, ◌∙◌, ap, ℕ, suc, pos, negsuc, Bool, true, false, List, [], ◌∷◌, ◌++◌, Option, Some, None}
use Rattle.std.specs.Prelude.{ℤ, ◌&&◌, filter, ◌==◌}
use Rattle.std.specs.List.{AllByRecursion}
use Rattle.std.proofs.lemmas.List.Elements.{filter-append}
use Rattle.toml_edit_model.specs.Mode.{Mode}
use Rattle.toml_edit_model.specs.Text.{one, is_empty}
use Rattle.toml_edit_model.specs.Syntax.{Statement, key_line, header}
use Rattle.toml_edit_model.specs.Paths.{Step, at_key, at_element, Path, to_key, to_element, Mention, Source}
use Rattle.toml_edit_model.specs.Tree.{Key, TableFields, Node, nothing, leaf, list, inline, table, tables, Items, no_items, item, Slots}
use Rattle.toml_edit_model.specs.Tree.{no_slots, slot}
use Rattle.toml_edit_model.specs.TreeOf.{owned_in, header_fields, fields_of, IsNodeOf, AreElementsOf, AreSlotsOf}
use Rattle.toml_edit_model.specs.HeaderOrder.{Visit, visit_of, node_walk, items_walk, slots_walk}
use Rattle.toml_edit_laws.proofs.common.Members.{Among, all-among, all-of-among}
use Rattle.toml_edit_laws.proofs.mentions.KeptMentions.{under-is, kept-is}
use Rattle.toml_edit_laws.proofs.print_of_read.LevelFacts.{among-filter}
use Rattle.toml_edit_laws.proofs.print_of_read.ChunkFacts.{is_heading}
use Rattle.toml_edit_laws.proofs.mentions.RoleTests.{is_bracket_role, array-bracket}
use Rattle.toml_edit_laws.proofs.values.ValueFaults.{is_empty-nil}
use Rattle.toml_edit_laws.proofs.common.Each.{all-map}
use Rattle.toml_edit_model.specs.Roles.{Role, dotted_role, implied_role, header_role, array_role, value_role, continued_role, is_array_role}
use Rattle.toml_edit_model.specs.TableMentions.{under, own, array_headers, is_single, kept}

-- the number of a table's header
abbrev pub is_number : ℕ → Option ℤ → Bool
is_number n None = false
is_number n (Some (pos k)) = k == n
is_number n (Some (negsuc k)) = false

abbrev pub numbered : ℕ → Visit → Bool
numbered n v = is_number n v.fields.position

-- ---- mentions with no header of the number

abbrev pub HaveNone : ℕ → List (Mention Source) → Type 0
HaveNone n ms = AllByRecursion (λ m. is_heading n m ≡ false) ms

-- none but of the table itself
abbrev pub HaveNoneBelow : ℕ → List (Mention Source) → Type 0
HaveNoneBelow n ms = AllByRecursion (λ m. is_empty m.path ≡ false → is_heading n m ≡ false) ms

pub none-below : (n : ℕ) (ms : List (Mention Source)) → HaveNone n ms → HaveNoneBelow n ms
none-below n ms h = all-map (λ m. is_heading n m ≡ false) (λ m. is_empty m.path ≡ false → is_heading n m ≡ false) ms (λ m g e. g) h

pub none-under : (n : ℕ) (s : Step) (ms : List (Mention Source)) → HaveNoneBelow n ms → HaveNone n (under s ms)
none-under n s ms h =
    all-of-among (λ m. is_heading n m ≡ false) (under s ms) (λ m a.
    let up = under-is s m ms a in
    ap (is_heading n) up.same
    ∙ all-among (λ (x : Mention Source). is_empty x.path ≡ false → is_heading n x ≡ false) up.mention ms h up.among (ap is_empty up.path))

single-full : (p : Path) → is_single p ≡ true → is_empty p ≡ false
single-full [] h = absurd cc
single-full (s ∷ p) h = refl

pub none-kept : (n : ℕ) (ms : List (Mention Source)) → HaveNoneBelow n ms → HaveNone n (kept ms)
none-kept n ms h =
    all-of-among (λ m. is_heading n m ≡ false) (kept ms) (λ m a.
    let is = kept-is [] m ms a in
    all-among (λ (x : Mention Source). is_empty x.path ≡ false → is_heading n x ≡ false) m ms h is.among (single-full m.path is.single))

-- the headers in double brackets of the array itself
pub array-is : {S : Type 0} (a : Mention S) (ms : List (Mention S)) → Among a (array_headers ms) → Among a ms × (a.path ≡ [])
    × (is_array_role a.role ≡ true)
array-is {S = S} a ms h =
    let up = among-filter (λ (m : Mention S). is_array_role m.role) a (own ms) h in
    let here = among-filter (λ (m : Mention S). is_empty m.path) a ms up.0 in
    (here.0, is_empty-nil a.path here.1, up.1)

-- the array's headers have other numbers
abbrev pub HaveOtherNumbers : ℕ → List (Mention Source) → Type 0
HaveOtherNumbers n hs = AllByRecursion (λ a. (a.source.headers == n) ≡ false) hs

pub other-number : (n : ℕ) (m : Mention Source) → is_bracket_role m.role ≡ true → is_heading n m ≡ false → (m.source.headers == n) ≡ false
other-number n m h e = sym (ap (λ b. b && (m.source.headers == n)) h) ∙ e

pub none-arrays : (n : ℕ) (ms : List (Mention Source)) → HaveNone n ms → HaveOtherNumbers n (array_headers ms)
none-arrays n ms h =
    all-of-among (λ a. (a.source.headers == n) ≡ false) (array_headers ms) (λ a b.
    let is = array-is a ms b in
    other-number n a (array-bracket a.role is.2) (all-among (λ m. is_heading n m ≡ false) a ms h is.0))

pub first-other : (n : ℕ) (v : Visit) (vs : List Visit) → numbered n v ≡ false → filter (numbered n) vs ≡ [] → filter (numbered n) (v ∷ vs)
    ≡ []
first-other n v vs h g = rw h g

pub first-none : (n : ℕ) (xs ys : List Visit) → filter (numbered n) xs ≡ [] → filter (numbered n) ys ≡ [] → filter (numbered n) (xs ++ ys)
    ≡ []
first-none n xs ys h g = filter-append (numbered n) xs ys ∙ ap (λ zs. zs ++ filter (numbered n) ys) h ∙ g

module _ (mode : Mode) where
  -- ---- fields

  pub header-other : (n : ℕ) (s : Source) (t : Statement) → (s.headers == n) ≡ false
      → is_number n (header_fields (owned_in mode) s t).position ≡ false
  header-other n s (header h end) e = e
  header-other n s (key_line f v end) e = refl

  pub fields-other : (n : ℕ) (ns : List (Mention Source)) (m : Mention Source) (r : Role) → m.role ≡ r → is_heading n m ≡ false
      → is_number n (fields_of (owned_in mode) ns m r).position ≡ false
  fields-other n ns m header_role e h = header-other n m.source m.source.statement (other-number n m (ap is_bracket_role e) h)
  fields-other n ns m dotted_role e h = refl
  fields-other n ns m implied_role e h = refl
  fields-other n ns m array_role e h = refl
  fields-other n ns m value_role e h = refl
  fields-other n ns m continued_role e h = refl

  -- ---- the walk

  mutual
    pub slots-none : (n : ℕ) (ms ls : List (Mention Source)) (ss : Slots) (p : Path) (ks : List Key) → HaveNoneBelow n ms → HaveNone n ls
        → AreSlotsOf (owned_in mode) ms ls ss
        → filter (numbered n) (slots_walk ss p ks) ≡ []
    slots-none n ms [] no_slots p ks none kept_none h = refl
    slots-none n ms [] (slot k node ss) p ks none kept_none h = absurd h
    slots-none n ms (m ∷ ls) no_slots p ks none kept_none h = absurd h
    slots-none n ms (m ∷ ls) (slot k node ss) p ks none kept_none h =
        first-none n (node_walk node (to_key p k.name) (ks ++ one k) false) (slots_walk ss p ks)
        (node-none n (under (at_key m.segment.key) ms) m node (to_key p k.name) (ks
        ++ one k) (none-under n (at_key m.segment.key) ms none) kept_none.0 h.1)
        (slots-none n ms ls ss p ks none kept_none.1 h.2)

    pub node-none : (n : ℕ) (ns : List (Mention Source)) (m : Mention Source) (node : Node) (p : Path) (ks : List Key) → HaveNone n ns
        → is_heading n m ≡ false
        → IsNodeOf (owned_in mode) ns m node → filter (numbered n) (node_walk node p ks false) ≡ []
    node-none n ns m nothing p ks none e h = absurd h
    node-none n ns m (leaf s r d) p ks none e h = refl
    node-none n ns m (list f xs) p ks none e h = refl
    node-none n ns m (inline f ss) p ks none e h = refl
    node-none n ns m (table f ss) p ks none e h =
        first-other n (visit_of p ks false f ss) (slots_walk ss p ks) (ap (λ (g : TableFields). is_number n g.position) h.1
        ∙ fields-other n ns m m.role refl e)
        (slots-none n ns (kept ns) ss p ks (none-below n ns none) (none-kept n ns (none-below n ns none)) h.2)
    node-none n ns m (tables x xs) p ks none e h =
        items-none n ns 0 (array_headers ns) xs p ks (none-below n ns none) (none-arrays n ns none) h.2

    pub items-none : (n : ℕ) (ns : List (Mention Source)) (i : ℕ) (hs : List (Mention Source)) (xs : Items) (p : Path) (ks : List Key)
        → HaveNoneBelow n ns
        → HaveOtherNumbers n hs → AreElementsOf (owned_in mode) ns i hs xs → filter (numbered n) (items_walk xs p ks i) ≡ []
    items-none n ns i [] no_items p ks none others h = refl
    items-none n ns i [] (item x xs) p ks none others h = absurd h
    items-none n ns i (a ∷ hs) no_items p ks none others h = absurd h
    items-none n ns i (a ∷ hs) (item (table f ss) xs) p ks none others h =
        let below : List (Mention Source) = under (at_element i) ns in
        let none_here : HaveNone n below = none-under n (at_element i) ns none in
        first-none n (visit_of (to_element p i) ks true f ss ∷ slots_walk ss (to_element p i) ks) (items_walk xs p ks (suc i))
        (first-other n (visit_of (to_element p i) ks true f ss) (slots_walk ss (to_element p i) ks)
        (ap (λ (g : TableFields). is_number n g.position) h.0 ∙ header-other n a.source a.source.statement others.0)
        (slots-none n below (kept below) ss (to_element p i) ks (none-below n below none_here)
        (none-kept n below (none-below n below none_here)) h.1))
        (items-none n ns (suc i) hs xs p ks none others.1 h.2)
    items-none n ns i (a ∷ hs) (item nothing xs) p ks none others h = absurd h
    items-none n ns i (a ∷ hs) (item (leaf s r d) xs) p ks none others h = absurd h
    items-none n ns i (a ∷ hs) (item (list f us) xs) p ks none others h = absurd h
    items-none n ns i (a ∷ hs) (item (inline f us) xs) p ks none others h = absurd h
    items-none n ns i (a ∷ hs) (item (tables e us) xs) p ks none others h = absurd h
