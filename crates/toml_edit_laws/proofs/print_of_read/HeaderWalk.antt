-- The table of a header in the walk: its path, its fields, its slots, and the keys to it.
use Rattle.std.proofs.Common.{◌≡◌, ◌<◌, refl, sym, ◌∙◌, ap, subst, ℕ, ◌+◌, arith, Bool, true, false, List, [], ◌∷◌, ◌++◌, append_assoc}
use Rattle.std.proofs.Common.{length, Some, inl, inr}
use Rattle.std.specs.Prelude.{filter, ◌==◌, if◌then◌else◌}
use Rattle.std.proofs.lemmas.Bool.{cases_Bool, ne_eqb}
use Rattle.toml_edit_model.specs.Mode.{Mode}
use Rattle.toml_edit_model.specs.Text.{Text, one, is_empty}
use Rattle.toml_edit_model.specs.Paths.{Step, at_key, at_element, Path, to_key, to_element, Mention, Source}
use Rattle.toml_edit_model.specs.Normal.{is_line}
use Rattle.toml_edit_model.specs.Tree.{Key, TableFields, Node, nothing, leaf, list, inline, table, tables, Slots}
use Rattle.toml_edit_model.specs.TreeOf.{owned_in, key_at, header_fields, fields_of, IsNodeOf, AreSlotsOf}
use Rattle.toml_edit_model.specs.HeaderOrder.{Visit, visit_of, node_walk, slots_walk}
use Rattle.toml_edit_laws.proofs.common.Tests.{true-false}
use Rattle.toml_edit_laws.proofs.common.Members.{Among, all-among, all-of-among}
use Rattle.toml_edit_laws.proofs.mentions.KeptMentions.{moved}
use Rattle.toml_edit_laws.proofs.clashes.ClashMentions.{is_table_role}
use Rattle.toml_edit_laws.proofs.clashes.ClashKept.{kept-is-lead}
use Rattle.toml_edit_laws.proofs.clashes.ClashCounts.{count_at, count-none}
use Rattle.toml_edit_laws.proofs.clashes.BlockClash.{IsBlockOf}
use Rattle.toml_edit_laws.proofs.clashes.ClashRoles.{standing}
use Rattle.toml_edit_laws.proofs.print_of_read.BlockLines.{IsSlot}
use Rattle.toml_edit_laws.proofs.print_of_read.Blocks.{nth, arrays_at, same-ends, no-path, no-element, one-header}
use Rattle.toml_edit_laws.proofs.print_of_read.ChunkFacts.{is_heading, OpensAt, opens_table, opens_element}
use Rattle.toml_edit_laws.proofs.print_of_read.KeysAlong.{AreAlong, along-key, along-element}
use Rattle.toml_edit_laws.proofs.print_of_read.NoVisits.{is_number, numbered, HaveNone, HaveNoneBelow, HaveOtherNumbers, none-kept}
use Rattle.toml_edit_laws.proofs.print_of_read.NoVisits.{array-is, other-number, fields-other, slots-none}
use Rattle.toml_edit_laws.proofs.print_of_read.HeaderVisits.{map-nth, heading-under, under-here, under-there, one-among, none-but}
use Rattle.toml_edit_laws.proofs.print_of_read.HeaderVisits.{none-filtered, arrays-under, arrays-own, arrays-count, opens-step, OpensUnder}
use Rattle.toml_edit_laws.proofs.print_of_read.HeaderVisits.{header-own, IsElement, items-here, items-down}
use Rattle.toml_edit_laws.proofs.mentions.RoleTests.{is_bracket_role, array-bracket, header-is}
use Rattle.toml_edit_laws.proofs.mentions.SomeAt.{among-test}
use Rattle.toml_edit_laws.proofs.print_of_read.Seats.{IsSeat, seat-down, seat-key, IsKeyPath, IsVisit, seat-leaf, in-slot, role-number}
use Rattle.toml_edit_laws.proofs.mentions.Named.{EndsIn}
use Rattle.toml_edit_laws.specs.KeptKeys.{under_path}
use Rattle.toml_edit_model.specs.Roles.{Role, header_role, array_role, value_role, is_header_role, is_array_role}
use Rattle.toml_edit_model.specs.TableMentions.{under, array_headers, some_at, kept}
use Rattle.toml_edit_model.specs.Lists.{is_tables_node}
use Rattle.toml_edit_model.specs.Shown.{is_table_node}

-- ---- a header at its key

-- what stands under the key that is the path of the one header of a number
record IsUnder (n : ℕ) (test : Role → Bool) (k : Text) (h : Mention Source) (ms : List (Mention Source)) : Type 0 where
  among : Among h ms
  number : is_heading n h ≡ true
  stands : some_at test (one (at_key k)) ms ≡ true
  only : filter (is_heading n) (under (at_key k) ms) ≡ one (moved h [])
  none : HaveNoneBelow n (under (at_key k) ms)

one-under : (n : ℕ) (test : Role → Bool) (k : Text) (h : Mention Source) (ms : List (Mention Source)) → filter (is_heading n) ms ≡ one h
    → h.path ≡ one (at_key k) → test h.role ≡ true → IsUnder n test k h ms
one-under n test k h ms only path role =
    record {
      among = among.0;
      number = among.1;
      stands = subst (λ p. some_at test p ms ≡ true) path (among-test test h ms among.0 role);
      only = below;
      none =
          all-of-among (λ x. is_empty x.path ≡ false → is_heading n x ≡ false) (under (at_key k) ms) (λ x a full.
          none-but n (moved h []) (under (at_key k) ms) below x a (λ e. absurd (true-false (is_empty x.path) (ap is_empty e) full)));
    }
  where
    among : Among h ms × (is_heading n h ≡ true)
    among = one-among n h ms only

    below : filter (is_heading n) (under (at_key k) ms) ≡ one (moved h [])
    below = heading-under n (at_key k) ms ∙ ap (under (at_key k)) only ∙ under-here (at_key k) [] h path

numbers-arrays : (n : ℕ) (ns : List (Mention Source)) → filter (λ x. x.source.headers == n) (array_headers ns)
    ≡ array_headers (filter (is_heading n) ns)
numbers-arrays n [] = refl
numbers-arrays n (m ∷ ns) = by_path m.path (numbers-arrays n ns)
  where
    by_path : (p : Path) → filter (λ (x : Mention Source). x.source.headers == n) (array_headers ns)
        ≡ array_headers (filter (is_heading n) ns)
        → filter (λ (x : Mention Source). x.source.headers == n) (array_headers (moved m p ∷ ns))
        ≡ array_headers (if is_heading n m then moved m p ∷ filter (is_heading n) ns else filter (is_heading n) ns)
    by_path (s ∷ p) ih = ih ∙ elim (cases_Bool (is_heading n m)) [ inl e ↦ rw e refl | inr e ↦ rw e refl ]
    by_path [] ih =
        elim (cases_Bool (is_array_role m.role)) [
          | inl a ↦
              elim (cases_Bool (m.source.headers == n)) [
                | inl e ↦ rw (a, array-bracket m.role a, e, a) (ap (λ xs. moved m [] ∷ xs) ih)
                | inr e ↦ rw (a, array-bracket m.role a, e) ih
              ]
          | inr a ↦ rw a (ih ∙ elim (cases_Bool (is_heading n m)) [ inl e ↦ rw (e, a) refl | inr e ↦ rw e refl ])
        ]

array-one : (h : Mention Source) → h.role ≡ array_role → array_headers (one (moved h [])) ≡ one (moved h [])
array-one h e = rw (ap is_array_role e) refl

-- a mention ends in its key
named-element : (all : List (Mention Source)) (q : Path) (ms : List (Mention Source)) (h : Mention Source) (p : Path) (i : ℕ)
    → IsSeat all q ms → Among h ms → h.path ≡ to_element p i → ⊥
named-element all q ms h p i seat a e = by_end (all-among (λ (x : Mention Source). EndsIn x.segment.key x.path) h ms seat.are.named a)
  where
    by_end : EndsIn h.segment.key h.path → ⊥
    by_end (inl g) = no-path p (at_element i) (sym e ∙ g)
    by_end (inr g) = no-element g.0 p h.segment.key i (sym g.1 ∙ e)

module _ (mode : Mode) where
  -- ---- a plain header at its key

  table-here : (all : List (Mention Source)) (k : Text) (n : ℕ) (h : Mention Source) (q : Path) (ks : List Key) (ms : List (Mention Source))
      (ss : Slots)
      → IsSeat all q ms → AreAlong mode all [] q ks → filter (is_heading n) ms ≡ one h → h.role ≡ header_role → h.path ≡ one (at_key k)
      → is_line h.source.statement ≡ false
      → AreSlotsOf (owned_in mode) ms (kept ms) ss
      → (v : Visit) × (filter (numbered n) (slots_walk ss q ks) ≡ one v) × IsVisit mode all (q ++ one (at_key k)) h.role h.source v
  table-here all k n h q ks ms ss seat along only role path head slots =
      in-slot mode all k [] n h q ks ms ss (IsVisit mode all (q ++ one (at_key k)) h.role h.source) seat only path slots here
    where
      here : (m : Mention Source) (key : Key) (node : Node) → IsSlot ms m → k ≡ m.segment.key → key ≡ key_at (owned_in mode) m
          → IsNodeOf (owned_in mode) (under (at_key m.segment.key) ms) m node
          → (v : Visit) × (filter (numbered n) (node_walk node (to_key q m.segment.key) (ks ++ one key) false) ≡ one v)
          × IsVisit mode all (q ++ one (at_key k)) h.role h.source v
      here m key node slot_is same key_is is = by_node node is
        where
          under_key : IsUnder n is_header_role m.segment.key h ms
          under_key = one-under n is_header_role m.segment.key h ms only (path ∙ ap (λ t. one (at_key t)) same) (ap is_header_role role)

          role_m : m.role ≡ header_role
          role_m =
              header-is m.role
              (elim (kept-is-lead m.segment.key ms m seat.are.named slot_is.3) [
                | inl g ↦ g.0
                | inr g ↦ true-false (some_at is_header_role (one (at_key m.segment.key)) ms) under_key.stands g.0
              ])

          m_is : m ≡ h
          m_is = one-header ms m h seat.one_header slot_is.0 under_key.among (slot_is.1 ∙ ap (λ t. one (at_key t)) (sym same)
              ∙ sym path) (ap is_header_role role_m) (ap is_header_role role)

          ns : List (Mention Source)
          ns = under (at_key m.segment.key) ms

          clash : (r : Role) → m.role ≡ r → is_header_role r ≡ false → ⊥
          clash r e g = true-false (is_header_role r) (ap is_header_role (sym e ∙ role_m)) g

          by_node : (node : Node) → IsNodeOf (owned_in mode) (under (at_key m.segment.key) ms) m node
              → (v : Visit) × (filter (numbered n) (node_walk node (to_key q m.segment.key) (ks ++ one key) false) ≡ one v)
              × IsVisit mode all (q ++ one (at_key k)) h.role h.source v
          by_node nothing g = absurd g
          by_node (leaf s r d) g = absurd (clash value_role g.0 refl)
          by_node (list f xs) g = absurd (clash value_role g.0 refl)
          by_node (inline f us) g = absurd (clash value_role g.0 refl)
          by_node (tables x xs) g = absurd (clash array_role g.0 refl)
          by_node (table f us) g =
              let v : Visit = visit_of (to_key q m.segment.key) (ks ++ one key) false f us in
              let fields_are : f ≡ header_fields (owned_in mode) h.source h.source.statement =
              g.1 ∙ ap (fields_of (owned_in mode) ns m) role_m ∙ ap (λ (x : Mention Source). header_fields (owned_in mode) x.source
              x.source.statement) m_is in
              let place : to_key q m.segment.key ≡ q ++ one (at_key k) = ap (λ t. to_key q t) (sym same) in (
                v,
                rw (ap (λ (x : TableFields). is_number n x.position) fields_are
                    ∙ header-own mode n h.source h.source.statement head (role-number n h under_key.number))
                    (ap (λ vs. v ∷ vs) (slots-none mode n ns (kept ns) us (to_key q m.segment.key) (ks
                    ++ one key) under_key.none (none-kept n ns under_key.none) g.2)),
                record {
                  path = place;
                  element = sym (ap is_array_role role);
                  fields = fields_are;
                  slots = subst (λ xs. AreSlotsOf (owned_in mode) xs (kept xs) us) ((seat-down all q (at_key m.segment.key) ms seat).is
                      ∙ ap (λ p. under_path p all) place) g.2;
                  along = subst (λ p. AreAlong mode all [] p (ks ++ one key)) place
                      (along-key mode all [] q ks m.segment.key key along (seat-key mode all q ms m key seat slot_is key_is));
                  key_path = to_key q m.segment.key;
                  key_path_is = subst (λ b. IsKeyPath b (to_key q m.segment.key) (q ++ one (at_key k))) (sym (ap is_array_role role)) place;
                  leaf = seat-leaf mode all q ms m ks key seat slot_is key_is (ap is_bracket_role role_m);
                },
              )

  -- ---- an element at the key of its array

  element-here : (all : List (Mention Source)) (k : Text) (i n : ℕ) (h : Mention Source) (q : Path) (ks : List Key)
      (ms : List (Mention Source)) (ss : Slots)
      → IsSeat all q ms → AreAlong mode all [] q ks → filter (is_heading n) ms ≡ one h → h.role ≡ array_role → h.path ≡ one (at_key k)
      → nth i (arrays_at (one (at_key k)) ms) ≡ Some h → is_line h.source.statement ≡ false → AreSlotsOf (owned_in mode) ms (kept ms) ss
      → (v : Visit) × (filter (numbered n) (slots_walk ss q ks) ≡ one v)
      × IsVisit mode all (q ++ (at_key k ∷ at_element i ∷ [])) h.role h.source v
  element-here all k i n h q ks ms ss seat along only role path place head slots =
      in-slot mode all k [] n h q ks ms ss P seat only path slots
      (λ m key node slot_is same key_is is. here m key node slot_is same key_is is)
    where
      P : Visit → Type 0
      P = IsVisit mode all (q ++ (at_key k ∷ at_element i ∷ [])) h.role h.source

      here : (m : Mention Source) (key : Key) (node : Node) → IsSlot ms m → k ≡ m.segment.key → key ≡ key_at (owned_in mode) m
          → IsNodeOf (owned_in mode) (under (at_key m.segment.key) ms) m node
          → (v : Visit) × (filter (numbered n) (node_walk node (to_key q m.segment.key) (ks ++ one key) false) ≡ one v) × P v
      here m key node slot_is same key_is is =
          by_node node is (sym (standing (owned_in mode) m.segment.key ms m node seat.are slot_is.3 is).roles.array ∙ under_key.stands)
        where
          under_key : IsUnder n is_array_role m.segment.key h ms
          under_key = one-under n is_array_role m.segment.key h ms only (path ∙ ap (λ t. one (at_key t)) same) (ap is_array_role role)

          ns : List (Mention Source)
          ns = under (at_key m.segment.key) ms

          found : nth i (array_headers ns) ≡ Some (moved h [])
          found =
              ap (nth i) (arrays-own ns ∙ arrays-under (at_key m.segment.key) [] ms)
              ∙ map-nth (λ (x : Mention Source). moved x []) i (arrays_at (one (at_key m.segment.key)) ms) h
              (ap (λ t. nth i (arrays_at (one (at_key t)) ms)) (sym same) ∙ place)

          by_node : (node : Node) → IsNodeOf (owned_in mode) (under (at_key m.segment.key) ms) m node → is_tables_node node ≡ true
              → (v : Visit) × (filter (numbered n) (node_walk node (to_key q m.segment.key) (ks ++ one key) false) ≡ one v) × P v
          by_node nothing g e = absurd cc
          by_node (leaf s r d) g e = absurd cc
          by_node (list f xs) g e = absurd cc
          by_node (inline f us) g e = absurd cc
          by_node (table f us) g e = absurd cc
          by_node (tables x xs) g e =
              let index : i ≡ 0 + i = omega arith in
              let el : IsElement mode n ns i xs (to_key q m.segment.key) (ks ++ one key) 0 (moved h []) =
              items-here mode n ns i i 0 (array_headers ns) xs (to_key q m.segment.key) (ks
              ++ one key) (moved h []) index under_key.none g.2 found
              (numbers-arrays n ns ∙ ap array_headers under_key.only ∙ array-one h role) (role-number n h under_key.number) head in
              let place_is : to_element (to_key q m.segment.key) i ≡ q ++ (at_key k ∷ at_element i ∷ []) =
              ap (λ t. to_element (to_key q t) i) (sym same) ∙ append_assoc q (one (at_key k)) (one (at_element i)) in
              let seat_below =
              seat-down all (to_key q m.segment.key) (at_element i) ns (seat-down all q (at_key m.segment.key) ms seat) in (
                visit_of (to_element (to_key q m.segment.key) i) (ks ++ one key) true el.fields el.slots,
                el.walk,
                record {
                  path = place_is;
                  element = sym (ap is_array_role role);
                  fields = el.fields_are;
                  slots = subst (λ us. AreSlotsOf (owned_in mode) us (kept us) el.slots) (seat_below.is
                      ∙ ap (λ p. under_path p all) place_is) el.slots_are;
                  along =
                      subst (λ p. AreAlong mode all [] p (ks ++ one key)) place_is
                      (along-element mode all [] (to_key q m.segment.key) (ks ++ one key) i
                      (along-key mode all [] q ks m.segment.key key along (seat-key mode all q ms m key seat slot_is key_is)));
                  key_path = to_key q m.segment.key;
                  key_path_is = subst (λ b. IsKeyPath b (to_key q m.segment.key) (q ++ (at_key k ∷ at_element i ∷ [])))
                      (sym (ap is_array_role role)) (i, sym place_is);
                  leaf = seat-leaf mode all q ms m ks key seat slot_is key_is (ap is_bracket_role g.0);
                },
              )

  -- ---- further down

  -- a table on the way
  through-table : (all : List (Mention Source)) (k : Text) (s : Step) (r : Path) (n : ℕ) (h : Mention Source) (q : Path) (ks : List Key)
      (ms : List (Mention Source)) (ss : Slots) (P : Visit → Type 0)
      → IsSeat all q ms → AreAlong mode all [] q ks → filter (is_heading n) ms ≡ one h → h.path ≡ at_key k ∷ s ∷ r
      → some_at is_table_role (one (at_key k)) ms ≡ true
      → AreSlotsOf (owned_in mode) ms (kept ms) ss
      → ((js : List Key) (us : Slots) → AreAlong mode all [] (to_key q k) js
      → AreSlotsOf (owned_in mode) (under (at_key k) ms) (kept (under (at_key k) ms)) us
      → (v : Visit) × (filter (numbered n) (slots_walk us (to_key q k) js) ≡ one v) × P v)
      → (v : Visit) × (filter (numbered n) (slots_walk ss q ks) ≡ one v) × P v
  through-table all k s r n h q ks ms ss P seat along only path stands slots further =
      in-slot mode all k (s ∷ r) n h q ks ms ss P seat only path slots (λ m key node slot_is same key_is is.
      by_node m key node slot_is same key_is is
      (sym (standing (owned_in mode) m.segment.key ms m node seat.are slot_is.3 is).roles.table
      ∙ ap (λ t. some_at is_table_role (one (at_key t)) ms) (sym same) ∙ stands))
    where
      by_node : (m : Mention Source) (key : Key) (node : Node) → IsSlot ms m → k ≡ m.segment.key → key ≡ key_at (owned_in mode) m
          → IsNodeOf (owned_in mode) (under (at_key m.segment.key) ms) m node
          → is_table_node node ≡ true → (v : Visit) × (filter (numbered n) (node_walk node (to_key q m.segment.key) (ks ++ one key) false)
          ≡ one v) × P v
      by_node m key nothing slot_is same key_is g e = absurd cc
      by_node m key (leaf t x d) slot_is same key_is g e = absurd cc
      by_node m key (list f xs) slot_is same key_is g e = absurd cc
      by_node m key (inline f us) slot_is same key_is g e = absurd cc
      by_node m key (tables x xs) slot_is same key_is g e = absurd cc
      by_node m key (table f us) slot_is same key_is g e =
          let other : is_heading n m ≡ false =
          none-but n h ms only m slot_is.0 (λ p. let clash : at_key m.segment.key ∷ [] ≡ at_key k ∷ s ∷ r = sym slot_is.1 ∙ p ∙ path in
          absurd cc) in
          let v : Visit = visit_of (to_key q m.segment.key) (ks ++ one key) false f us in
          let found =
          further (ks ++ one key) us
          (subst (λ t. AreAlong mode all [] (to_key q t) (ks ++ one key)) (sym same)
          (along-key mode all [] q ks m.segment.key key along (seat-key mode all q ms m key seat slot_is key_is)))
          (subst (λ t. AreSlotsOf (owned_in mode) (under (at_key t) ms) (kept (under (at_key t) ms)) us) (sym same) g.2) in (
            found.0,
            rw (ap (λ (x : TableFields). is_number n x.position) g.1
                ∙ fields-other mode n (under (at_key m.segment.key) ms) m m.role refl other)
                (ap (λ t. filter (numbered n) (slots_walk us (to_key q t) (ks ++ one key))) (sym same) ∙ found.1),
            found.2,
          )

  -- an element on the way
  through-element : (all : List (Mention Source)) (k : Text) (i : ℕ) (r : Path) (n : ℕ) (h : Mention Source) (q : Path) (ks : List Key)
      (ms : List (Mention Source)) (ss : Slots) (P : Visit → Type 0)
      → IsSeat all q ms → AreAlong mode all [] q ks → filter (is_heading n) ms ≡ one h → h.path ≡ at_key k ∷ at_element i ∷ r
      → i < count_at is_array_role (one (at_key k)) ms
      → AreSlotsOf (owned_in mode) ms (kept ms) ss
      → ((js : List Key) (us : Slots) → AreAlong mode all [] (to_element (to_key q k) i) js
      → AreSlotsOf (owned_in mode) (under (at_element i) (under (at_key k) ms)) (kept (under (at_element i) (under (at_key k) ms))) us
      → (v : Visit) × (filter (numbered n) (slots_walk us (to_element (to_key q k) i) js) ≡ one v) × P v)
      → (v : Visit) × (filter (numbered n) (slots_walk ss q ks) ≡ one v) × P v
  through-element all k i r n h q ks ms ss P seat along only path less slots further =
      in-slot mode all k (at_element i ∷ r) n h q ks ms ss P seat only path slots (λ m key node slot_is same key_is is.
      by_node m key node slot_is same key_is is
      (sym (standing (owned_in mode) m.segment.key ms m node seat.are slot_is.3 is).roles.array
      ∙ ap (λ t. some_at is_array_role (one (at_key t)) ms) (sym same) ∙ stands (some_at is_array_role (one (at_key k)) ms) refl))
    where
      stands : (b : Bool) → some_at is_array_role (one (at_key k)) ms ≡ b → b ≡ true
      stands true e = refl
      stands false e =
          let none : count_at is_array_role (one (at_key k)) ms ≡ 0 = count-none is_array_role (one (at_key k)) ms e in
          let bound : i < count_at is_array_role (one (at_key k)) ms = less in
          absurd (omega arith)

      by_node : (m : Mention Source) (key : Key) (node : Node) → IsSlot ms m → k ≡ m.segment.key → key ≡ key_at (owned_in mode) m
          → IsNodeOf (owned_in mode) (under (at_key m.segment.key) ms) m node
          → is_tables_node node ≡ true → (v : Visit) × (filter (numbered n) (node_walk node (to_key q m.segment.key) (ks ++ one key) false)
          ≡ one v) × P v
      by_node m key nothing slot_is same key_is g e = absurd cc
      by_node m key (leaf t x d) slot_is same key_is g e = absurd cc
      by_node m key (list f xs) slot_is same key_is g e = absurd cc
      by_node m key (inline f us) slot_is same key_is g e = absurd cc
      by_node m key (table f us) slot_is same key_is g e = absurd cc
      by_node m key (tables x xs) slot_is same key_is g e =
          items-down mode n ns i i 0 (array_headers ns) xs (to_key q m.segment.key) (ks ++ one key) P (let index : i ≡ 0 + i =
          omega arith in index) none others g.2
          (let whole : length (array_headers ns) ≡ count_at is_array_role (one (at_key k)) ms =
          arrays-count m.segment.key ms ∙ ap (λ t. count_at is_array_role (one (at_key t)) ms) (sym same) in
          let bound : i < count_at is_array_role (one (at_key k)) ms = less in omega arith)
          (λ us h2.
          let found =
          further (ks ++ one key) us
          (subst (λ t. AreAlong mode all [] (to_element (to_key q t) i) (ks ++ one key)) (sym same)
          (along-element mode all [] (to_key q m.segment.key) (ks
          ++ one key) i (along-key mode all [] q ks m.segment.key key along (seat-key mode all q ms m key seat slot_is key_is))))
          (subst (λ t. AreSlotsOf (owned_in mode) (under (at_element i) (under (at_key t) ms))
          (kept (under (at_element i) (under (at_key t) ms))) us) (sym same) h2) in (
            found.0,
            ap (λ t. filter (numbered n) (slots_walk us (to_element (to_key q t) i) (ks ++ one key))) (sym same) ∙ found.1,
            found.2,
          ))
        where
          ns : List (Mention Source)
          ns = under (at_key m.segment.key) ms

          only_below : filter (is_heading n) ns ≡ one (moved h (at_element i ∷ r))
          only_below =
              heading-under n (at_key m.segment.key) ms ∙ ap (under (at_key m.segment.key)) only
              ∙ under-here (at_key m.segment.key) (at_element i ∷ r) h (path ∙ ap (λ t. at_key t ∷ at_element i ∷ r) same)

          none : (j : ℕ) → (j ≡ i → ⊥) → HaveNone n (under (at_element j) ns)
          none j apart =
              none-filtered n (under (at_element j) ns)
              (heading-under n (at_element j) ns ∙ ap (under (at_element j)) only_below
              ∙ under-there (at_element j) (at_element i) r (moved h (at_element i ∷ r)) refl (ne_eqb i j (λ e. apart (sym e))))

          others : HaveOtherNumbers n (array_headers ns)
          others =
              all-of-among (λ a. (a.source.headers == n) ≡ false) (array_headers ns) (λ a b.
              let a_is = array-is a ns b in
              other-number n a (array-bracket a.role a_is.2)
              (none-but n (moved h (at_element i ∷ r)) ns only_below a a_is.0 (λ e. let clash : [] ≡ at_element i ∷ r = sym a_is.1 ∙ e in
              absurd cc)))

  -- ---- the walk

  pub walk-one : (all : List (Mention Source)) (b : Path) (n : ℕ) (h : Mention Source) (q : Path) (ks : List Key)
      (ms : List (Mention Source)) (ss : Slots)
      → IsSeat all q ms → AreAlong mode all [] q ks → IsBlockOf b ms → is_empty b ≡ false → filter (is_heading n) ms ≡ one h
      → OpensAt ms b h → is_line h.source.statement ≡ false
      → AreSlotsOf (owned_in mode) ms (kept ms) ss
      → (v : Visit) × (filter (numbered n) (slots_walk ss q ks) ≡ one v) × IsVisit mode all (q ++ b) h.role h.source v
  walk-one all [] n h q ks ms ss seat along block full only opens head slots = absurd cc
  walk-one all (at_element i ∷ p) n h q ks ms ss seat along block full only opens head slots = absurd block
  walk-one all (at_key k ∷ []) n h q ks ms ss seat along block full only opens head slots = by_opens opens
    where
      by_opens : OpensAt ms (one (at_key k)) h → (v : Visit) × (filter (numbered n) (slots_walk ss q ks) ≡ one v)
          × IsVisit mode all (q ++ one (at_key k)) h.role h.source v
      by_opens (opens_table role path) = table-here all k n h q ks ms ss seat along only role path head slots
      by_opens (opens_element i role e place) = absurd (no-element [] h.path k i e)
  walk-one all (at_key k ∷ at_key l ∷ p) n h q ks ms ss seat along block full only opens head slots =
      let down : OpensUnder (at_key k) (at_key l ∷ p) ms h = opens-step (at_key k) (at_key l) p ms h opens in
      by_rest down.rest down.path down.opens (λ r path next js us along2 slots2.
      let only2 : filter (is_heading n) (under (at_key k) ms) ≡ one (moved h r) = heading-under n (at_key k) ms ∙ ap (under (at_key k)) only
      ∙ under-here (at_key k) r h path in
      let found = walk-one all (at_key l ∷ p) n (moved h r) (to_key q k) js (under (at_key k) ms) us (seat-down all q (at_key k) ms seat)
      along2 block.1 refl only2 next head slots2 in
      (found.0, found.1, subst (λ x. IsVisit mode all x h.role h.source found.0) (append_assoc q (one (at_key k)) (at_key l ∷ p)) found.2))
    where
      by_rest : (r : Path) → h.path ≡ at_key k ∷ r → OpensAt (under (at_key k) ms) (at_key l ∷ p) (moved h r)
          → ((r : Path) → h.path ≡ at_key k ∷ r → OpensAt (under (at_key k) ms) (at_key l ∷ p) (moved h r) → (js : List Key) (us : Slots)
          → AreAlong mode all [] (to_key q k) js
          → AreSlotsOf (owned_in mode) (under (at_key k) ms) (kept (under (at_key k) ms)) us
          → (v : Visit) × (filter (numbered n) (slots_walk us (to_key q k) js) ≡ one v)
          × IsVisit mode all (q ++ (at_key k ∷ at_key l ∷ p)) h.role h.source v)
          → (v : Visit) × (filter (numbered n) (slots_walk ss q ks) ≡ one v)
          × IsVisit mode all (q ++ (at_key k ∷ at_key l ∷ p)) h.role h.source v
      by_rest [] path (opens_table role e) further = absurd cc
      by_rest [] path (opens_element i role e place) further =
          absurd (let first : at_key l ≡ at_element i = cc in let clash : at_key l ≡ at_element i = first in cc)
      by_rest (s ∷ r) path next further =
          through-table all k s r n h q ks ms ss (IsVisit mode all (q ++ (at_key k ∷ at_key l ∷ p)) h.role h.source) seat along only path
          block.0 slots (further (s ∷ r) path next)
  walk-one all (at_key k ∷ at_element i ∷ []) n h q ks ms ss seat along block full only opens head slots = by_opens opens
    where
      by_opens : OpensAt ms (at_key k ∷ at_element i ∷ []) h
          → (v : Visit) × (filter (numbered n) (slots_walk ss q ks) ≡ one v)
          × IsVisit mode all (q ++ (at_key k ∷ at_element i ∷ [])) h.role h.source v
      by_opens (opens_table role path) = absurd (named-element all q ms h (one (at_key k)) i seat (one-among n h ms only).0 path)
      by_opens (opens_element j role e place) =
          let both = same-ends (one (at_key k)) h.path (at_element i) (at_element j) e in
          let index : at_element i ≡ at_element j = both.1 in
          let same : j ≡ i = cc in
          element-here all k i n h q ks ms ss seat along only role (sym both.0)
          (ap (λ p. nth i (arrays_at p ms)) both.0 ∙ ap (λ x. nth x (arrays_at h.path ms)) (sym same) ∙ place) head slots
  walk-one all (at_key k ∷ at_element i ∷ t ∷ p) n h q ks ms ss seat along block full only opens head slots =
      let ns : List (Mention Source) = under (at_key k) ms in
      let down : OpensUnder (at_key k) (at_element i ∷ t ∷ p) ms h = opens-step (at_key k) (at_element i) (t ∷ p) ms h opens in
      let next : OpensUnder (at_element i) (t ∷ p) ns (moved h down.rest) =
      opens-step (at_element i) t p ns (moved h down.rest) down.opens in
      let r : Path = next.rest in
      let path : h.path ≡ at_key k ∷ at_element i ∷ r = down.path ∙ ap (λ x. at_key k ∷ x) next.path in
      through-element all k i r n h q ks ms ss (IsVisit mode all (q ++ (at_key k ∷ at_element i ∷ t ∷ p)) h.role h.source) seat along only
      path block.0 slots (λ js us along2 slots2.
      let only2 : filter (is_heading n) (under (at_element i) ns) ≡ one (moved h r) =
      heading-under n (at_element i) ns
      ∙ ap (under (at_element i)) (heading-under n (at_key k) ms ∙ ap (under (at_key k)) only
      ∙ under-here (at_key k) (at_element i ∷ r) h path)
      ∙ under-here (at_element i) r (moved h (at_element i ∷ r)) refl in
      let found =
      walk-one all (t ∷ p) n (moved h r) (to_element (to_key q k) i) js (under (at_element i) ns) us
      (seat-down all (to_key q k) (at_element i) ns (seat-down all q (at_key k) ms seat))
      along2 block.1 refl only2 next.opens head slots2 in (
        found.0,
        found.1,
        subst (λ x. IsVisit mode all x h.role h.source found.0) (append_assoc (to_key q k) (one (at_element i)) (t ∷ p)
            ∙ append_assoc q (one (at_key k)) (at_element i ∷ t ∷ p)) found.2,
      ))
