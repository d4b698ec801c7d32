-- Which mentions of a later statement an item of a table stands in the way of.
use Rattle.std.proofs.Common.{◌≡◌, refl, sym, ◌∙◌, ap, subst, Bool, true, false, List, [], ◌∷◌, Option, Some, None}
use Rattle.std.specs.Prelude.{◌&&◌, ◌||◌, not, MatchBool, if◌then◌else◌, find, option_map}
use Rattle.std.proofs.lemmas.Bool.{or_from, MatchBool-at_true, MatchBool-at_false}
use Rattle.toml_edit_model.specs.Mode.{Mode}
use Rattle.toml_edit_model.specs.Text.{Text}
use Rattle.toml_edit_model.specs.Paths.{Step, at_key, Path, same_path, Mention, Source}
use Rattle.toml_edit_model.specs.Faults.{clash, first_clash}
use Rattle.toml_edit_model.specs.Tree.{Node, nothing, leaf, list, inline, table, tables, is_value_node}
use Rattle.toml_edit_model.specs.TreeOf.{spanned_in, IsLineNode}
use Rattle.toml_edit_laws.proofs.common.Tests.{or-left, or-right}
use Rattle.toml_edit_laws.proofs.mentions.GatherLaws.{deeper, all_deeper, unmentioned-none}
use Rattle.toml_edit_laws.proofs.inline_tables.AgreeLaws.{clash-none, both_deeper, clash-deeper, clash-at, clash-free}
use Rattle.toml_edit_laws.proofs.clashes.ClashMentions.{is_table_role, some_at-or, AreOfStatements}
use Rattle.toml_edit_laws.proofs.clashes.ClashRoles.{AreRolesOf, IsStanding, is_headed_node}
use Rattle.toml_edit_laws.proofs.mentions.SomeAt.{some_at-under, some_at-less}
use Rattle.toml_edit_laws.proofs.common.OptionSteps.{is_none}
use Rattle.toml_edit_laws.proofs.mentions.RoleTests.{by_role, implies}
use Rattle.toml_edit_model.specs.Roles.{Role, dotted_role, implied_role, header_role, array_role, value_role, continued_role, may_meet}
use Rattle.toml_edit_model.specs.Roles.{is_header_role, is_value_role, any_role, is_dotted_role, is_array_role}
use Rattle.toml_edit_model.specs.TableMentions.{under, some_at}
use Rattle.toml_edit_model.specs.Lists.{is_tables_node, is_dotted_table}
use Rattle.toml_edit_model.specs.Shown.{is_table_node}

-- ---- the roles that an item refuses

-- an item stands in the way of a role
abbrev pub blocks : Role → Node → Bool
blocks dotted_role n = is_headed_node n || (is_tables_node n || is_value_node n)
blocks implied_role n = is_tables_node n || is_value_node n
blocks header_role n = (is_headed_node n || is_dotted_table n) || (is_tables_node n || is_value_node n)
blocks array_role n = is_table_node n || is_value_node n
blocks value_role n = is_table_node n || (is_tables_node n || is_value_node n)
blocks continued_role n = false

abbrev refuses : Role → Role → Bool
refuses dotted_role q = is_header_role q || (is_array_role q || is_value_role q)
refuses implied_role q = is_array_role q || is_value_role q
refuses header_role q = (is_header_role q || is_dotted_role q) || (is_array_role q || is_value_role q)
refuses array_role q = is_table_role q || is_value_role q
refuses value_role q = is_table_role q || (is_array_role q || is_value_role q)
refuses continued_role q = false

abbrev same_bool : Bool → Bool → Bool
same_bool true b = b
same_bool false b = not b

same_bool-is : (a b : Bool) → same_bool a b ≡ true → a ≡ b
same_bool-is true b h = sym h
same_bool-is false true h = absurd cc
same_bool-is false false h = refl

refuses-is : (r q : Role) → not (may_meet q r) ≡ refuses r q
refuses-is dotted_role q =
    same_bool-is (not (may_meet q dotted_role)) (refuses dotted_role q)
    (by_role (λ s. same_bool (not (may_meet s dotted_role)) (refuses dotted_role s)) refl q)
refuses-is implied_role q =
    same_bool-is (not (may_meet q implied_role)) (refuses implied_role q)
    (by_role (λ s. same_bool (not (may_meet s implied_role)) (refuses implied_role s)) refl q)
refuses-is header_role q =
    same_bool-is (not (may_meet q header_role)) (refuses header_role q)
    (by_role (λ s. same_bool (not (may_meet s header_role)) (refuses header_role s)) refl q)
refuses-is array_role q =
    same_bool-is (not (may_meet q array_role)) (refuses array_role q)
    (by_role (λ s. same_bool (not (may_meet s array_role)) (refuses array_role s)) refl q)
refuses-is value_role q =
    same_bool-is (not (may_meet q value_role)) (refuses value_role q)
    (by_role (λ s. same_bool (not (may_meet s value_role)) (refuses value_role s)) refl q)
refuses-is continued_role q =
    same_bool-is (not (may_meet q continued_role)) (refuses continued_role q)
    (by_role (λ s. same_bool (not (may_meet s continued_role)) (refuses continued_role s)) refl q)

some_at-same : (one other : Role → Bool) (p : Path) (ms : List (Mention Source)) → ((r : Role) → one r ≡ other r) → some_at one p ms
    ≡ some_at other p ms
some_at-same one other p [] h = refl
some_at-same one other p (m ∷ ms) h =
    ap (λ b. (same_path m.path p && b) || some_at one p ms) (h m.role)
    ∙ ap (λ b. (same_path m.path p && other m.role) || b) (some_at-same one other p ms h)

some_at-never : (p : Path) (ms : List (Mention Source)) → some_at (λ r. false) p ms ≡ false
some_at-never p [] = refl
some_at-never p (m ∷ ms) =
    or_from (same_path m.path p && false) (some_at (λ r. false) p ms) (by_test (same_path m.path p)) (some_at-never p ms)
  where
    by_test : (b : Bool) → (b && false) ≡ false
    by_test true = refl
    by_test false = refl

-- Some role at an item's path may not meet a later one exactly where the item stands in its way.
blocked : (r : Role) (p : Path) (ms : List (Mention Source)) (n : Node) → AreRolesOf ms p n → some_at (λ q. not (may_meet q r)) p ms
    ≡ blocks r n
blocked r p ms n h = some_at-same (λ q. not (may_meet q r)) (refuses r) p ms (refuses-is r) ∙ by_later r
  where
    array_or_value : some_at (λ q. is_array_role q || is_value_role q) p ms ≡ (is_tables_node n || is_value_node n)
    array_or_value =
        some_at-or is_array_role is_value_role p ms ∙ ap (λ b. b || some_at is_value_role p ms) h.array
        ∙ ap (λ b. is_tables_node n || b) h.value

    headed_or_dotted : some_at (λ q. is_header_role q || is_dotted_role q) p ms ≡ (is_headed_node n || is_dotted_table n)
    headed_or_dotted =
        some_at-or is_header_role is_dotted_role p ms ∙ ap (λ b. b || some_at is_dotted_role p ms) h.headed
        ∙ ap (λ b. is_headed_node n || b) h.dotted

    by_later : (r : Role) → some_at (refuses r) p ms ≡ blocks r n
    by_later dotted_role =
        some_at-or is_header_role (λ q. is_array_role q || is_value_role q) p ms
        ∙ ap (λ b. b || some_at (λ q. is_array_role q || is_value_role q) p ms) h.headed ∙ ap (λ b. is_headed_node n || b) array_or_value
    by_later implied_role = array_or_value
    by_later header_role =
        some_at-or (λ q. is_header_role q || is_dotted_role q) (λ q. is_array_role q || is_value_role q) p ms
        ∙ ap (λ b. b || some_at (λ q. is_array_role q || is_value_role q) p ms) headed_or_dotted
        ∙ ap (λ b. (is_headed_node n || is_dotted_table n) || b) array_or_value
    by_later array_role =
        some_at-or is_table_role is_value_role p ms ∙ ap (λ b. b || some_at is_value_role p ms) h.table
        ∙ ap (λ b. is_table_node n || b) h.value
    by_later value_role =
        some_at-or is_table_role (λ q. is_array_role q || is_value_role q) p ms
        ∙ ap (λ b. b || some_at (λ q. is_array_role q || is_value_role q) p ms) h.table ∙ ap (λ b. is_table_node n || b) array_or_value
    by_later continued_role = some_at-never p ms

-- ---- the clash at one path

-- the first mention that clashes is at the path
clash-found : (m : Mention Source) (ms : List (Mention Source)) → some_at (λ r. not (may_meet r m.role)) m.path ms ≡ true
    → (e : Mention Source) × (find (clash may_meet m) ms ≡ Some e)
    × ((test : Role → Bool) → some_at test m.path ms ≡ false → test e.role ≡ false)
clash-found m [] h = absurd cc
clash-found m (x ∷ ms) h = by_clash (same_path x.path m.path) refl (not (may_meet x.role m.role)) h (clash-found m ms)
  where
    IsThe : Option (Mention Source) → Type 0
    IsThe o = (e : Mention Source) × (o ≡ Some e) × ((test : Role → Bool) → some_at test m.path (x ∷ ms) ≡ false → test e.role ≡ false)

    later : ((e : Mention Source) × (find (clash may_meet m) ms ≡ Some e)
        × ((test : Role → Bool) → some_at test m.path ms ≡ false → test e.role ≡ false))
        → IsThe (find (clash may_meet m) ms)
    later g = (g.0, g.1, λ test f. g.2 test (or-right (same_path x.path m.path && test x.role) (some_at test m.path ms) f))

    by_clash : (a : Bool) → same_path x.path m.path ≡ a → (b : Bool) → ((a && b) || some_at (λ r. not (may_meet r m.role)) m.path ms) ≡ true
        → (some_at (λ r. not (may_meet r m.role)) m.path ms ≡ true
        → (e : Mention Source) × (find (clash may_meet m) ms ≡ Some e)
        × ((test : Role → Bool) → some_at test m.path ms ≡ false → test e.role ≡ false))
        → IsThe (if a && b then Some x else find (clash may_meet m) ms)
    by_clash true e true h ih = (
      x,
      refl,
      λ test f. ap (λ a. a && test x.role) (sym e) ∙ or-left (same_path x.path m.path && test x.role) (some_at test m.path ms) f,
    )
    by_clash true e false h ih = later (ih h)
    by_clash false e b h ih = later (ih h)

value-meets : (r : Role) (n : Node) → blocks r n ≡ true → may_meet value_role r ≡ false
value-meets dotted_role n h = refl
value-meets implied_role n h = refl
value-meets header_role n h = refl
value-meets array_role n h = refl
value-meets value_role n h = refl
value-meets continued_role n h = absurd cc

other-kind : (r : Role) (n : Node) → blocks r n ≡ true → is_value_node n ≡ false → (is_table_node n || is_tables_node n) ≡ true
other-kind r (table f ss) h e = refl
other-kind r (tables x xs) h e = refl
other-kind r (leaf s x d) h e = absurd cc
other-kind r (list f xs) h e = absurd cc
other-kind r (inline f ss) h e = absurd cc
other-kind r nothing h e = absurd (by_later r h)
  where
    by_later : (r : Role) → blocks r nothing ≡ true → ⊥
    by_later dotted_role h = cc
    by_later implied_role h = cc
    by_later header_role h = cc
    by_later array_role h = cc
    by_later value_role h = cc
    by_later continued_role h = cc

-- where nothing is at the path, nothing clashes
pub way_free : (m : Mention Source) (ms : List (Mention Source)) → some_at any_role m.path ms ≡ false → find (clash may_meet m) ms ≡ None
way_free m ms h =
    clash-free may_meet m ms
    (some_at-less (λ r. not (may_meet r m.role)) any_role m.path ms (λ r. by_test (not (may_meet r m.role))) h)
  where
    by_test : (b : Bool) → implies b true ≡ true
    by_test true = refl
    by_test false = refl

abbrev pub in_way : Mention Source → Node → Mention Source × Node
in_way m n = (m, n)

abbrev pub deeper_way : Step → Mention Source × Node → Mention Source × Node
deeper_way s c = (deeper s c.0, c.1)

-- below a key that isn't mentioned nothing is
pub under-free : (k : Text) (ms : List (Mention Source)) → AreOfStatements ms → some_at any_role (at_key k ∷ []) ms ≡ false
    → under (at_key k) ms ≡ []
under-free k ms are free = unmentioned-none (under (at_key k) ms) (λ p. some_at-under any_role (at_key k) p ms ∙ are.closed [] k p free)

module _ (mode : Mode) where
  -- The item in the way is of the earlier mention: its value, or a table or array of tables.
  abbrev pub IsInTheWay : Mention Source → Node → Type 0
  IsInTheWay e n =
      MatchBool (is_value_role e.role) (IsLineNode (spanned_in mode) e.source e.source.statement n) ((is_table_node n || is_tables_node n)
      ≡ true)

  abbrev pub IsBlocked : List (Mention Source) → Mention Source → Node → Type 0
  IsBlocked ms m n =
      MatchBool (blocks m.role n) ((e : Mention Source) × (find (clash may_meet m) ms ≡ Some e)
      × IsInTheWay e n) (find (clash may_meet m) ms ≡ None)

  -- A later mention at the path of an item clashes exactly where the item stands in its way.
  pub way_of : (m : Mention Source) (ms : List (Mention Source)) (n : Node) → IsStanding (spanned_in mode) ms m.path n → IsBlocked ms m n
  way_of m ms n h = by_block (blocks m.role n) refl
    where
      in_way : (b : Bool) → is_value_node n ≡ b → blocks m.role n ≡ true → (e : Mention Source) × (find (clash may_meet m) ms ≡ Some e)
          × IsInTheWay e n
      in_way true v g =
          let (j, first, role, line) = h.value v in (
            j,
            clash-at may_meet m j ms first (ap (λ r. may_meet r m.role) role ∙ value-meets m.role n g),
            subst (λ r. MatchBool (is_value_role r) (IsLineNode (spanned_in mode) j.source j.source.statement n) ((is_table_node n
                || is_tables_node n) ≡ true)) (sym role) line,
          )
      in_way false v g =
          let (e, found, others) = clash-found m ms (blocked m.role m.path ms n h.roles ∙ g) in (
            e,
            found,
            subst (λ b. MatchBool b (IsLineNode (spanned_in mode) e.source e.source.statement n) ((is_table_node n || is_tables_node n)
                ≡ true))
                (sym (others is_value_role (h.roles.value ∙ v))) (other-kind m.role n g v),
          )

      by_block : (b : Bool) → blocks m.role n ≡ b
          → MatchBool b ((e : Mention Source) × (find (clash may_meet m) ms ≡ Some e) × IsInTheWay e n) (find (clash may_meet m) ms ≡ None)
      by_block true g = in_way (is_value_node n) refl g
      by_block false g = clash-free may_meet m ms (blocked m.role m.path ms n h.roles ∙ g)

  -- ---- clashes alike

  -- The clash with slots and the clash with the mentions that they are of are at one mention.
  abbrev pub IsSameClash : Option (Mention Source × Node) → Option (Mention Source × Mention Source) → Type 0
  IsSameClash None None = Unit {0}
  IsSameClash (Some c) (Some d) = (c.0 ≡ d.0) × IsInTheWay d.1 c.1
  IsSameClash _ _ = ⊥

  pub same-none : (o : Option (Mention Source × Node)) (c : Option (Mention Source × Mention Source)) → IsSameClash o c → is_none o
      ≡ is_none c
  same-none None None h = refl
  same-none None (Some d) h = absurd h
  same-none (Some c) None h = absurd h
  same-none (Some c) (Some d) h = refl

  -- an item in the way of a mention is the clash, else it is later
  pub clash_here : (m : Mention Source) (below ms : List (Mention Source)) (n : Node) → IsBlocked ms m n → blocks m.role n ≡ true
      → IsSameClash (Some (in_way m n)) (first_clash may_meet ms (m ∷ below))
  clash_here m below ms n h g =
      let (e, found, way) =
      MatchBool-at_true ((e : Mention Source) × (find (clash may_meet m) ms ≡ Some e) × IsInTheWay e n) (find (clash may_meet m) ms
      ≡ None) g h in
      rw found (refl, way)

  pub clash_later : (m : Mention Source) (below ms : List (Mention Source)) (n : Node) (o : Option (Mention Source × Node))
      → IsBlocked ms m n → blocks m.role n ≡ false
      → IsSameClash o (first_clash may_meet ms below) → IsSameClash o (first_clash may_meet ms (m ∷ below))
  clash_later m below ms n o h g rest =
      let free : find (clash may_meet m) ms ≡ None =
      MatchBool-at_false ((e : Mention Source) × (find (clash may_meet m) ms ≡ Some e) × IsInTheWay e n) (find (clash may_meet m) ms
      ≡ None) g h in
      rw free rest

  -- ---- one step further down

  pub same-deeper : (s : Step) (o : Option (Mention Source × Node)) (ms below : List (Mention Source))
      → IsSameClash o (first_clash may_meet (under s ms) below)
      → IsSameClash (option_map (deeper_way s) o) (first_clash may_meet ms (all_deeper s below))
  same-deeper s o ms below h =
      subst (IsSameClash (option_map (deeper_way s) o)) (sym (clash-deeper may_meet s ms below))
      (both o (first_clash may_meet (under s ms) below) h)
    where
      both : (o : Option (Mention Source × Node)) (c : Option (Mention Source × Mention Source)) → IsSameClash o c
          → IsSameClash (option_map (deeper_way s) o) (option_map (both_deeper s) c)
      both None None h = tt
      both None (Some d) h = h
      both (Some c) None h = h
      both (Some c) (Some d) h = (ap (deeper s) h.0, h.1)

  -- a path that begins with a new key doesn't clash
  pub clash_new : (k : Text) (m : Mention Source) (below ms : List (Mention Source)) → m.path ≡ at_key k ∷ [] → AreOfStatements ms
      → some_at any_role (at_key k ∷ []) ms ≡ false → IsSameClash None (first_clash may_meet ms (m ∷ all_deeper (at_key k) below))
  clash_new k m below ms here are free =
      let none : first_clash may_meet ms (all_deeper (at_key k) below) ≡ None =
      clash-deeper may_meet (at_key k) ms below
      ∙ ap (λ us. option_map (both_deeper (at_key k)) (first_clash may_meet us below)) (under-free k ms are free)
      ∙ ap (option_map (both_deeper (at_key k))) (clash-none may_meet below) in
      let first : find (clash may_meet m) ms ≡ None = way_free m ms (subst (λ p. some_at any_role p ms ≡ false) (sym here) free) in
      rw first (rw none tt)
