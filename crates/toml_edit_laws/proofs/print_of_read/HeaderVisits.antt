-- Each header of a document is that of one table in the walk: the one at the path of its block.
use Rattle.std.proofs.Common.{◌≡◌, ◌<◌, refl, sym, ◌∙◌, ap, subst, ℕ, zero, suc, ◌+◌, arith, Bool, true, false, List, [], ◌∷◌, ◌++◌, length}
use Rattle.std.proofs.Common.{Some, None, inl, inr}
use Rattle.std.specs.Prelude.{◌&&◌, ◌||◌, map, filter, ◌==◌, if◌then◌else◌}
use Rattle.std.proofs.lemmas.Bool.{cases_Bool}
use Rattle.std.proofs.lemmas.List.Elements.{filter-append}
use Rattle.toml_edit_model.specs.Mode.{Mode}
use Rattle.toml_edit_model.specs.Text.{Text, one, is_empty, same_text}
use Rattle.toml_edit_model.specs.Syntax.{Statement, key_line, header}
use Rattle.toml_edit_model.specs.Paths.{Step, at_key, at_element, Path, same_step, same_path, to_key, to_element, Mention, Source}
use Rattle.toml_edit_model.specs.Normal.{is_line}
use Rattle.toml_edit_model.specs.Tree.{Key, TableFields, Node, nothing, leaf, list, inline, table, tables, Items, no_items, item, Slots}
use Rattle.toml_edit_model.specs.Tree.{no_slots, slot}
use Rattle.toml_edit_model.specs.TreeOf.{owned_in, key_at, header_fields, IsNodeOf, AreElementsOf, AreSlotsOf}
use Rattle.toml_edit_model.specs.HeaderOrder.{Visit, visit_of, node_walk, items_walk, slots_walk}
use Rattle.toml_edit_laws.specs.FlatTree.{is_among}
use Rattle.toml_edit_laws.proofs.common.Tests.{append-nil, same_text-is}
use Rattle.toml_edit_laws.proofs.mentions.GatherLaws.{first_of_key, AreDistinct}
use Rattle.toml_edit_laws.proofs.common.PathLaws.{same_step-refl, same_path-is}
use Rattle.toml_edit_laws.proofs.common.Members.{Among, all-of-among, among-filtered}
use Rattle.toml_edit_laws.proofs.mentions.KeptMentions.{moved}
use Rattle.toml_edit_laws.proofs.clashes.ClashCounts.{count_at}
use Rattle.toml_edit_laws.proofs.print_of_read.LevelFacts.{among-filter}
use Rattle.toml_edit_laws.proofs.print_of_read.Blocks.{nth, arrays_at}
use Rattle.toml_edit_laws.proofs.print_of_read.ChunkFacts.{is_heading, OpensAt, opens_table, opens_element}
use Rattle.toml_edit_laws.proofs.print_of_read.NoVisits.{is_number, numbered, first-other, HaveNone, HaveNoneBelow, HaveOtherNumbers}
use Rattle.toml_edit_laws.proofs.print_of_read.NoVisits.{none-below, none-under, none-kept, header-other, first-none, slots-none}
use Rattle.toml_edit_laws.proofs.print_of_read.NoVisits.{items-none}
use Rattle.toml_edit_model.specs.TableMentions.{inside, under, own, array_headers, kept}
use Rattle.toml_edit_model.specs.Roles.{is_array_role}

-- ---- one header of a number

-- the header of the number, one step down
pub heading-under : (n : ℕ) (s : Step) (ms : List (Mention Source)) → filter (is_heading n) (under s ms)
    ≡ under s (filter (is_heading n) ms)
heading-under n s [] = refl
heading-under n s (m ∷ ms) = by_path m.path (heading-under n s ms)
  where
    by_path : (p : Path) → filter (is_heading n) (under s ms) ≡ under s (filter (is_heading n) ms)
        → filter (is_heading n) (inside s m p ++ under s ms)
        ≡ under s (if is_heading n m then moved m p ∷ filter (is_heading n) ms else filter (is_heading n) ms)
    by_path [] ih = ih ∙ elim (cases_Bool (is_heading n m)) [ inl e ↦ rw e refl | inr e ↦ rw e refl ]
    by_path (t ∷ p) ih =
        elim (cases_Bool (same_step t s)) [
          | inl g ↦ elim (cases_Bool (is_heading n m)) [ inl e ↦ rw (g, e, ih) (rw g refl) | inr e ↦ rw (g, e) ih ]
          | inr g ↦ elim (cases_Bool (is_heading n m)) [ inl e ↦ rw (g, e) (rw g ih) | inr e ↦ rw (g, e) ih ]
        ]

pub under-here : (s : Step) (r : Path) (h : Mention Source) → h.path ≡ s ∷ r → under s (one h) ≡ one (moved h r)
under-here s r h e = ap (λ p. inside s h p ++ []) e ∙ rw (same_step-refl s) refl

pub under-there : (s t : Step) (r : Path) (h : Mention Source) → h.path ≡ t ∷ r → same_step t s ≡ false → under s (one h) ≡ []
under-there s t r h e g = ap (λ p. inside s h p ++ []) e ∙ rw g refl

-- a mention of the number is the one
pub only-one : (n : ℕ) (h : Mention Source) (ms : List (Mention Source)) → filter (is_heading n) ms ≡ one h → (m : Mention Source)
    → Among m ms → is_heading n m ≡ true → m ≡ h
only-one n h ms only m a e =
    elim (subst (Among m) only (among-filtered (is_heading n) m ms a e)) [
      | inl g ↦ g
      | inr g ↦ elim g [ ]
    ]

pub one-among : (n : ℕ) (h : Mention Source) (ms : List (Mention Source)) → filter (is_heading n) ms ≡ one h → Among h ms
    × (is_heading n h ≡ true)
one-among n h ms only = among-filter (is_heading n) h ms (subst (Among h) (sym only) (inl refl))

-- the others have none
pub none-but : (n : ℕ) (h : Mention Source) (ms : List (Mention Source)) → filter (is_heading n) ms ≡ one h → (m : Mention Source)
    → Among m ms
    → (m.path ≡ h.path → ⊥) → is_heading n m ≡ false
none-but n h ms only m a apart =
    elim (cases_Bool (is_heading n m)) [
      | inl e ↦ absurd (apart (ap (λ (x : Mention Source). x.path) (only-one n h ms only m a e)))
      | inr e ↦ e
    ]

pub none-filtered : (n : ℕ) (ms : List (Mention Source)) → filter (is_heading n) ms ≡ [] → HaveNone n ms
none-filtered n ms h =
    all-of-among (λ m. is_heading n m ≡ false) ms (λ m a.
    elim (cases_Bool (is_heading n m)) [
      | inl e ↦ elim (subst (Among m) h (among-filtered (is_heading n) m ms a e)) [ ]
      | inr e ↦ e
    ])

pub map-nth : {A B : Type 0} (f : A → B) (i : ℕ) (xs : List A) (x : A) → nth i xs ≡ Some x → nth i (map f xs) ≡ Some (f x)
map-nth f i [] x h = absurd cc
map-nth f zero (y ∷ xs) x h = let same : y ≡ x = cc in ap (λ z. Some (f z)) same
map-nth f (suc i) (y ∷ xs) x h = map-nth f i xs x h

nth-among : {A : Type 0} (i : ℕ) (xs : List A) (x : A) → nth i xs ≡ Some x → Among x xs
nth-among i [] x h = absurd cc
nth-among zero (y ∷ xs) x h = let same : x ≡ y = cc in inl same
nth-among (suc i) (y ∷ xs) x h = inr (nth-among i xs x h)

pub arrays-under : (s : Step) (r : Path) (ms : List (Mention Source)) → arrays_at r (under s ms)
    ≡ map (λ m. moved m r) (arrays_at (s ∷ r) ms)
arrays-under s r [] = refl
arrays-under s r (m ∷ ms) = by_path m.path (arrays-under s r ms)
  where
    by_path : (p : Path) → arrays_at r (under s ms) ≡ map (λ (x : Mention Source). moved x r) (arrays_at (s ∷ r) ms)
        → arrays_at r (inside s m p ++ under s ms) ≡ map (λ (x : Mention Source). moved x r) (arrays_at (s ∷ r) (moved m p ∷ ms))
    by_path [] ih = ih
    by_path (t ∷ p) ih =
        elim (cases_Bool (same_step t s)) [
          | inl e ↦
              rw e
              (elim (cases_Bool (same_path p r)) [
                | inl g ↦
                    let same : p ≡ r = same_path-is p r g in
                    rw g (elim (cases_Bool (is_array_role m.role)) [
                      | inl a ↦ rw a (ap (λ x. moved m x ∷ arrays_at r (under s ms)) same ∙ ap (λ xs. moved m r ∷ xs) ih)
                      | inr a ↦ rw a ih
                    ])
                | inr g ↦ rw g ih
              ])
          | inr e ↦ rw e ih
        ]

pub arrays-own : (ms : List (Mention Source)) → array_headers ms ≡ arrays_at [] ms
arrays-own [] = refl
arrays-own (m ∷ ms) = by_path m.path (arrays-own ms)
  where
    by_path : (p : Path) → array_headers ms ≡ arrays_at [] ms
        → filter (λ (x : Mention Source). is_array_role x.role) (if is_empty p then m ∷ own ms else own ms)
        ≡ (if same_path p [] && is_array_role m.role then m ∷ arrays_at [] ms else arrays_at [] ms)
    by_path [] ih = elim (cases_Bool (is_array_role m.role)) [ inl e ↦ rw e (ap (λ xs. m ∷ xs) ih) | inr e ↦ rw e ih ]
    by_path (s ∷ p) ih = ih

length-map : {A B : Type 0} (f : A → B) (xs : List A) → length (map f xs) ≡ length xs
length-map f [] = refl
length-map f (x ∷ xs) = ap suc (length-map f xs)

pub arrays-count : (k : Text) (ms : List (Mention Source)) → length (array_headers (under (at_key k) ms))
    ≡ count_at is_array_role (at_key k ∷ []) ms
arrays-count k ms =
    ap length (arrays-own (under (at_key k) ms) ∙ arrays-under (at_key k) [] ms)
    ∙ length-map (λ (m : Mention Source). moved m []) (arrays_at (at_key k ∷ []) ms)

-- the way to a block, one step down
pub record OpensUnder (s : Step) (b : Path) (ms : List (Mention Source)) (h : Mention Source) : Type 0 where
  pub rest : Path
  pub path : h.path ≡ s ∷ rest
  pub opens : OpensAt (under s ms) b (moved h rest)

pub opens-step : (s t : Step) (b : Path) (ms : List (Mention Source)) (h : Mention Source) → OpensAt ms (s ∷ t ∷ b) h
    → OpensUnder s (t ∷ b) ms h
opens-step s t b ms h (opens_table role path) = record { rest = t ∷ b; path = path; opens = opens_table role refl }
opens-step s t b ms h (opens_element i role e place) = by_path h.path refl
  where
    by_path : (p : Path) → h.path ≡ p → OpensUnder s (t ∷ b) ms h
    by_path [] g = (let clash : s ∷ t ∷ b ≡ at_element i ∷ [] = e ∙ ap (λ q. to_element q i) g in absurd cc)
    by_path (u ∷ p) g =
        let whole : s ∷ t ∷ b ≡ u ∷ to_element p i = e ∙ ap (λ q. to_element q i) g in
        let first : u ≡ s = cc in
        let tail : t ∷ b ≡ to_element p i = cc in
        let path : h.path ≡ s ∷ p = g ∙ ap (λ x. x ∷ p) first in
        record {
          rest = p;
          path = path;
          opens =
              opens_element i role tail
              (ap (nth i) (arrays-under s p ms)
              ∙ map-nth (λ (m : Mention Source). moved m p) i (arrays_at (s ∷ p) ms) h (ap (λ q. nth i (arrays_at q ms)) (sym path)
              ∙ place));
        }

number-other : {A : Type 0} (test : A → Bool) (x : A) (xs : List A) (a : A) → filter test (x ∷ xs) ≡ one a → Among a xs → test a ≡ true
    → test x ≡ false
number-other test x xs a h b e =
    elim (cases_Bool (test x)) [
      | inl g ↦
          let whole : x ∷ filter test xs ≡ one a = rw g at h in
          let none : filter test xs ≡ [] = cc in
          elim (subst (Among a) none (among-filtered test a xs b e)) [ ]
      | inr g ↦ g
    ]

numbers-none : (n : ℕ) (hs : List (Mention Source)) → filter (λ x. x.source.headers == n) hs ≡ [] → HaveOtherNumbers n hs
numbers-none n hs h =
    all-of-among (λ (a : Mention Source). (a.source.headers == n) ≡ false) hs (λ a b.
    elim (cases_Bool (a.source.headers == n)) [
      | inl e ↦ elim (subst (Among a) h (among-filtered (λ (x : Mention Source). x.source.headers == n) a hs b e)) [ ]
      | inr e ↦ e
    ])

module _ (mode : Mode) where
  -- ---- slots

  -- one slot has the table, and the others none
  pub slots-one : (n : ℕ) (k : Text) (P : Visit → Type 0) (ms ls : List (Mention Source)) (ss : Slots) (q : Path) (ks : List Key)
      → AreSlotsOf (owned_in mode) ms ls ss → is_among k (map (λ m. m.segment.key) ls) ≡ true → AreDistinct ls
      → ((m : Mention Source) (key : Key) (node : Node) → Among m ls → same_text k m.segment.key ≡ false
      → IsNodeOf (owned_in mode) (under (at_key m.segment.key) ms) m node
      → filter (numbered n) (node_walk node (to_key q m.segment.key) (ks ++ one key) false) ≡ [])
      → ((m : Mention Source) (key : Key) (node : Node) → Among m ls → k ≡ m.segment.key → key ≡ key_at (owned_in mode) m
      → IsNodeOf (owned_in mode) (under (at_key m.segment.key) ms) m node
      → (v : Visit) × (filter (numbered n) (node_walk node (to_key q m.segment.key) (ks ++ one key) false) ≡ one v) × P v)
      → (v : Visit) × (filter (numbered n) (slots_walk ss q ks) ≡ one v) × P v
  slots-one n k P ms [] no_slots q ks h among distinct none here = absurd cc
  slots-one n k P ms [] (slot key node ss) q ks h among distinct none here = absurd h
  slots-one n k P ms (m ∷ ls) no_slots q ks h among distinct none here = absurd h
  slots-one n k P ms (m ∷ ls) (slot key node ss) q ks h among distinct none here =
      by_key (same_text k m.segment.key) refl among (λ e. slots-one n k P ms ls ss q ks h.2 e distinct.1 (λ o j x a. none o j x (inr a))
      (λ o j x a. here o j x (inr a)))
    where
      name : key.name ≡ m.segment.key
      name = ap (λ (j : Key). j.name) h.0

      first : List Visit
      first = node_walk node (to_key q key.name) (ks ++ one key) false

      rest_none : (ls : List (Mention Source)) (ss : Slots) → AreSlotsOf (owned_in mode) ms ls ss → first_of_key k ls ≡ None
          → ((o : Mention Source) (j : Key) (x : Node) → Among o ls → same_text k o.segment.key ≡ false
          → IsNodeOf (owned_in mode) (under (at_key o.segment.key) ms) o x
          → filter (numbered n) (node_walk x (to_key q o.segment.key) (ks ++ one j) false) ≡ [])
          → filter (numbered n) (slots_walk ss q ks) ≡ []
      rest_none [] no_slots g e f = refl
      rest_none [] (slot j x us) g e f = absurd g
      rest_none (o ∷ ls) no_slots g e f = absurd g
      rest_none (o ∷ ls) (slot j x us) g e f =
          elim (cases_Bool (same_text k o.segment.key)) [
            | inl s ↦ (let clash : Some o ≡ None = rw s at e in absurd cc)
            | inr s ↦
                first-none n (node_walk x (to_key q j.name) (ks ++ one j) false) (slots_walk us q ks)
                (ap (λ t. filter (numbered n) (node_walk x (to_key q t) (ks ++ one j) false)) (ap (λ (i : Key). i.name) g.0)
                ∙ f o j x (inl refl) s g.1)
                (rest_none ls us g.2 (rw s at e) (λ i j x a. f i j x (inr a)))
          ]

      by_key : (b : Bool) → same_text k m.segment.key ≡ b → (b || is_among k (map (λ (o : Mention Source). o.segment.key) ls)) ≡ true
          → (is_among k (map (λ (o : Mention Source). o.segment.key) ls) ≡ true → (v : Visit)
          × (filter (numbered n) (slots_walk ss q ks) ≡ one v) × P v)
          → (v : Visit) × (filter (numbered n) (slots_walk (slot key node ss) q ks) ≡ one v) × P v
      by_key true e g ih =
          let same : k ≡ m.segment.key = same_text-is k m.segment.key e in
          let found = here m key node (inl refl) same h.0 h.1 in
          let none_after : first_of_key k ls ≡ None = ap (λ t. first_of_key t ls) same ∙ distinct.0 in (
            found.0,
            filter-append (numbered n) first (slots_walk ss q ks)
                ∙ ap (λ t. filter (numbered n) (node_walk node (to_key q t) (ks ++ one key) false)
                ++ filter (numbered n) (slots_walk ss q ks)) name
                ∙ ap (λ vs. vs ++ filter (numbered n) (slots_walk ss q ks)) found.1
                ∙ ap (λ vs. found.0 ∷ vs) (rest_none ls ss h.2 none_after (λ o j x a. none o j x (inr a))),
            found.2,
          )
      by_key false e g ih =
          let found = ih g in (
            found.0,
            filter-append (numbered n) first (slots_walk ss q ks)
                ∙ ap (λ t. filter (numbered n) (node_walk node (to_key q t) (ks ++ one key) false)
                ++ filter (numbered n) (slots_walk ss q ks)) name
                ∙ ap (λ vs. vs ++ filter (numbered n) (slots_walk ss q ks)) (none m key node (inl refl) e h.1)
                ∙ found.1,
            found.2,
          )

  -- ---- elements

  pub header-own : (n : ℕ) (s : Source) (t : Statement) → is_line t ≡ false → (s.headers == n) ≡ true
      → is_number n (header_fields (owned_in mode) s t).position ≡ true
  header-own n s (header h end) l e = e
  header-own n s (key_line f v end) l e = absurd cc

  -- the elements from one on have none
  items-after : (n : ℕ) (ns : List (Mention Source)) (i : ℕ) (hs : List (Mention Source)) (xs : Items) (p : Path) (ks : List Key)
      → ((j : ℕ) → HaveNone n (under (at_element (i + j)) ns)) → HaveOtherNumbers n hs → AreElementsOf (owned_in mode) ns i hs xs
      → filter (numbered n) (items_walk xs p ks i) ≡ []
  items-after n ns i [] no_items p ks none others h = refl
  items-after n ns i [] (item x xs) p ks none others h = absurd h
  items-after n ns i (a ∷ hs) no_items p ks none others h = absurd h
  items-after n ns i (a ∷ hs) (item (table f ss) xs) p ks none others h =
      let below : List (Mention Source) = under (at_element i) ns in
      let zeroth : i + 0 ≡ i = omega arith in
      let none_here : HaveNone n below = subst (λ j. HaveNone n (under (at_element j) ns)) zeroth (none 0) in
      first-none n (visit_of (to_element p i) ks true f ss ∷ slots_walk ss (to_element p i) ks) (items_walk xs p ks (suc i))
      (first-other n (visit_of (to_element p i) ks true f ss) (slots_walk ss (to_element p i) ks)
      (ap (λ (g : TableFields). is_number n g.position) h.0 ∙ header-other mode n a.source a.source.statement others.0)
      (slots-none mode n below (kept below) ss (to_element p i) ks (none-below n below none_here)
      (none-kept n below (none-below n below none_here)) h.1))
      (items-after n ns (suc i) hs xs p ks
      (λ j. let next : i + suc j ≡ suc i + j = omega arith in
      subst (λ k. HaveNone n (under (at_element k) ns)) next (none (suc j))) others.1 h.2)
  items-after n ns i (a ∷ hs) (item nothing xs) p ks none others h = absurd h
  items-after n ns i (a ∷ hs) (item (leaf s r d) xs) p ks none others h = absurd h
  items-after n ns i (a ∷ hs) (item (list f us) xs) p ks none others h = absurd h
  items-after n ns i (a ∷ hs) (item (inline f us) xs) p ks none others h = absurd h
  items-after n ns i (a ∷ hs) (item (tables e us) xs) p ks none others h = absurd h

  -- the element of a header
  pub record IsElement (n : ℕ) (ns : List (Mention Source)) (i : ℕ) (xs : Items) (p : Path) (ks : List Key) (from : ℕ)
      (a : Mention Source) : Type 0 where
    pub fields : TableFields
    pub slots : Slots
    pub walk : filter (numbered n) (items_walk xs p ks from) ≡ one (visit_of (to_element p i) ks true fields slots)
    pub fields_are : fields ≡ header_fields (owned_in mode) a.source a.source.statement
    pub slots_are : AreSlotsOf (owned_in mode) (under (at_element i) ns) (kept (under (at_element i) ns)) slots

  pub items-here : (n : ℕ) (ns : List (Mention Source)) (at i from : ℕ) (hs : List (Mention Source)) (xs : Items) (p : Path) (ks : List Key)
      (a : Mention Source) → i ≡ from + at
      → HaveNoneBelow n ns → AreElementsOf (owned_in mode) ns from hs xs → nth at hs ≡ Some a → filter (λ x. x.source.headers == n) hs
      ≡ one a
      → (a.source.headers == n) ≡ true → is_line a.source.statement ≡ false → IsElement n ns i xs p ks from a
  items-here n ns at i from [] xs p ks a e none h found only number head = absurd cc
  items-here n ns at i from (x ∷ hs) no_items p ks a e none h found only number head = absurd h
  items-here n ns zero i from (x ∷ hs) (item (table f ss) xs) p ks a e none h found only number head =
      let same : x ≡ a = cc in
      let here : i ≡ from = omega arith in
      let passes : (x.source.headers == n) ≡ true = ap (λ (y : Mention Source). y.source.headers == n) same ∙ number in
      let after : filter (λ (y : Mention Source). y.source.headers == n) hs ≡ [] =
      (let whole : x ∷ filter (λ (y : Mention Source). y.source.headers == n) hs ≡ one a = rw passes at only in cc) in
      let below : List (Mention Source) = under (at_element from) ns in
      let none_here : HaveNone n below = none-under n (at_element from) ns none in
      let fields_are : f ≡ header_fields (owned_in mode) a.source a.source.statement = h.0
      ∙ ap (λ (y : Mention Source). header_fields (owned_in mode) y.source y.source.statement) same in
      let v : Visit = visit_of (to_element p from) ks true f ss in
      record {
        fields = f;
        slots = ss;
        walk =
            filter-append (numbered n) (v ∷ slots_walk ss (to_element p from) ks) (items_walk xs p ks (suc from))
            ∙ ap (λ vs. filter (numbered n) (v ∷ slots_walk ss (to_element p from) ks)
            ++ vs) (items-none mode n ns (suc from) hs xs p ks none (numbers-none n hs after) h.2)
            ∙ rw (ap (λ (g : TableFields). is_number n g.position) fields_are ∙ header-own n a.source a.source.statement head number)
            (ap (λ vs. v ∷ (vs ++ []))
            (slots-none mode n below (kept below) ss (to_element p from) ks (none-below n below none_here)
            (none-kept n below (none-below n below none_here)) h.1)
            ∙ ap (λ j. one (visit_of (to_element p j) ks true f ss)) (sym here));
        fields_are = fields_are;
        slots_are = subst (λ j. AreSlotsOf (owned_in mode) (under (at_element j) ns) (kept (under (at_element j) ns)) ss) (sym here) h.1;
      }
  items-here n ns (suc at) i from (x ∷ hs) (item (table f ss) xs) p ks a e none h found only number head =
      let other : (x.source.headers == n) ≡ false =
      number-other (λ (y : Mention Source). y.source.headers == n) x hs a only (nth-among at hs a found) number in
      let below : List (Mention Source) = under (at_element from) ns in
      let none_here : HaveNone n below = none-under n (at_element from) ns none in
      let next : i ≡ suc from + at = omega arith in
      let v : Visit = visit_of (to_element p from) ks true f ss in
      let more = items-here n ns at i (suc from) hs xs p ks a next none h.2 found (rw other at only) number head in
      record {
        fields = more.fields;
        slots = more.slots;
        walk =
            filter-append (numbered n) (v ∷ slots_walk ss (to_element p from) ks) (items_walk xs p ks (suc from))
            ∙ ap (λ vs. vs ++ filter (numbered n) (items_walk xs p ks (suc from)))
            (first-other n v (slots_walk ss (to_element p from) ks) (ap (λ (g : TableFields). is_number n g.position) h.0
            ∙ header-other mode n x.source x.source.statement other)
            (slots-none mode n below (kept below) ss (to_element p from) ks (none-below n below none_here)
            (none-kept n below (none-below n below none_here)) h.1))
            ∙ more.walk;
        fields_are = more.fields_are;
        slots_are = more.slots_are;
      }
  items-here n ns at i from (x ∷ hs) (item nothing xs) p ks a e none h found only number head = absurd h
  items-here n ns at i from (x ∷ hs) (item (leaf s r d) xs) p ks a e none h found only number head = absurd h
  items-here n ns at i from (x ∷ hs) (item (list f us) xs) p ks a e none h found only number head = absurd h
  items-here n ns at i from (x ∷ hs) (item (inline f us) xs) p ks a e none h found only number head = absurd h
  items-here n ns at i from (x ∷ hs) (item (tables g us) xs) p ks a e none h found only number head = absurd h

  -- the element in which the table is, further down
  pub items-down : (n : ℕ) (ns : List (Mention Source)) (at i from : ℕ) (hs : List (Mention Source)) (xs : Items) (p : Path) (ks : List Key)
      (P : Visit → Type 0) → i ≡ from + at
      → ((j : ℕ) → (j ≡ i → ⊥) → HaveNone n (under (at_element j) ns)) → HaveOtherNumbers n hs → AreElementsOf (owned_in mode) ns from hs xs
      → at < length hs
      → ((ss : Slots) → AreSlotsOf (owned_in mode) (under (at_element i) ns) (kept (under (at_element i) ns)) ss
      → (v : Visit) × (filter (numbered n) (slots_walk ss (to_element p i) ks) ≡ one v) × P v)
      → (v : Visit) × (filter (numbered n) (items_walk xs p ks from) ≡ one v) × P v
  items-down n ns at i from [] xs p ks P e none others h less here = (let none_less : at < 0 = less in absurd (omega arith))
  items-down n ns at i from (x ∷ hs) no_items p ks P e none others h less here = absurd h
  items-down n ns zero i from (x ∷ hs) (item (table f ss) xs) p ks P e none others h less here =
      let same : from ≡ i = omega arith in
      let v : Visit = visit_of (to_element p from) ks true f ss in
      let found = here ss (subst (λ j. AreSlotsOf (owned_in mode) (under (at_element j) ns) (kept (under (at_element j) ns)) ss) same
      h.1) in (
        found.0,
        filter-append (numbered n) (v ∷ slots_walk ss (to_element p from) ks) (items_walk xs p ks (suc from))
            ∙ ap (λ vs. filter (numbered n) (v ∷ slots_walk ss (to_element p from) ks) ++ vs)
            (items-after n ns (suc from) hs xs p ks (λ j. none (suc from + j) (λ g. let clash : suc from + j ≡ i = g in
            absurd (omega arith))) others.1 h.2)
            ∙ rw (ap (λ (g : TableFields). is_number n g.position) h.0 ∙ header-other mode n x.source x.source.statement others.0)
            (append-nil (filter (numbered n) (slots_walk ss (to_element p from) ks))
            ∙ ap (λ j. filter (numbered n) (slots_walk ss (to_element p j) ks)) same ∙ found.1),
        found.2,
      )
  items-down n ns (suc at) i from (x ∷ hs) (item (table f ss) xs) p ks P e none others h less here =
      let bound : suc at < suc (length hs) = less in
      let below : List (Mention Source) = under (at_element from) ns in
      let none_here : HaveNone n below = none from (λ g. let clash : from ≡ i = g in absurd (omega arith)) in
      let next : i ≡ suc from + at = omega arith in
      let v : Visit = visit_of (to_element p from) ks true f ss in
      let found = items-down n ns at i (suc from) hs xs p ks P next none others.1 h.2 (omega arith) here in (
        found.0,
        filter-append (numbered n) (v ∷ slots_walk ss (to_element p from) ks) (items_walk xs p ks (suc from))
            ∙ ap (λ vs. vs ++ filter (numbered n) (items_walk xs p ks (suc from)))
            (first-other n v (slots_walk ss (to_element p from) ks) (ap (λ (g : TableFields). is_number n g.position) h.0
            ∙ header-other mode n x.source x.source.statement others.0)
            (slots-none mode n below (kept below) ss (to_element p from) ks (none-below n below none_here)
            (none-kept n below (none-below n below none_here)) h.1))
            ∙ found.1,
        found.2,
      )
  items-down n ns at i from (x ∷ hs) (item nothing xs) p ks P e none others h less here = absurd h
  items-down n ns at i from (x ∷ hs) (item (leaf s r d) xs) p ks P e none others h less here = absurd h
  items-down n ns at i from (x ∷ hs) (item (list f us) xs) p ks P e none others h less here = absurd h
  items-down n ns at i from (x ∷ hs) (item (inline f us) xs) p ks P e none others h less here = absurd h
  items-down n ns at i from (x ∷ hs) (item (tables g us) xs) p ks P e none others h less here = absurd h
