-- A header passes through the keys of its path: the slots of their tables, and of the last elements of their arrays of tables.
use Rattle.std.proofs.Common.{◌≡◌, ◌<◌, refl, sym, ◌∙◌, ap, subst, ℕ, zero, suc, ◌+◌, arith, false, List, [], ◌∷◌, ◌++◌, length, Option}
use Rattle.std.proofs.Common.{Some, None}
use Rattle.std.specs.Prelude.{◌==◌, not, if◌then◌else◌, map, filter}
use Rattle.std.specs.List.{list_any}
use Rattle.std.proofs.lemmas.Bool.{eqb-true}
use Rattle.std.proofs.lemmas.List.Folds.{list_any-append}
use Rattle.toml_edit_model.specs.Mode.{Mode}
use Rattle.toml_edit_model.specs.Syntax.{Segment}
use Rattle.toml_edit_model.specs.Paths.{Step, at_key, at_element, Path, to_key, Mention, Source, mention_of, elements_at}
use Rattle.toml_edit_model.specs.Tree.{Node, nothing, leaf, list, inline, table, tables, Items, Slots, no_slots}
use Rattle.toml_edit_model.specs.TreeOf.{spanned_in, key_at, key_extent, made_by_path, tables_extent, fields_of}
use Rattle.toml_edit_laws.specs.FlatTree.{with_slot}
use Rattle.toml_edit_laws.specs.InlineTree.{with_node}
use Rattle.toml_edit_laws.specs.TableTree.{change_last, pass_below}
use Rattle.toml_edit_laws.proofs.common.Tests.{append-nil, or-false, false-by}
use Rattle.toml_edit_laws.proofs.mentions.GatherLaws.{all_deeper, under-deeper, under-other, own-deeper, first_of_key}
use Rattle.toml_edit_laws.proofs.common.OptionSteps.{map_some}
use Rattle.toml_edit_laws.proofs.inline_tables.InlineBuild.{path_of, under-others, under-all}
use Rattle.toml_edit_laws.proofs.adding.HeaderPaths.{paths_under}
use Rattle.toml_edit_laws.proofs.adding.HeaderSlots.{AreSlots, AreAllSlots, IsNode, IsFound, slots-change, AreElements, elements-last}
use Rattle.toml_edit_laws.proofs.adding.HeaderReady.{AreReady, ready-under, count-at, key-unmentioned, key-empty, key-mentioned}
use Rattle.toml_edit_laws.proofs.adding.HeaderReady.{table-unnumbered, array-numbered}
use Rattle.toml_edit_laws.proofs.adding.HeaderOwn.{arrays-append, roles-append, own-slots, ready-implied}
use Rattle.toml_edit_laws.proofs.adding.TableSlots.{slots-same, slots-add}
use Rattle.toml_edit_laws.proofs.mentions.SomeAt.{under-append, own_mention, under-own-mention}
use Rattle.toml_edit_laws.proofs.adding.KeySlots.{kept-passed}
use Rattle.toml_edit_laws.proofs.adding.TableMentions.{one_slot}
use Rattle.toml_edit_model.specs.Roles.{Role, dotted_role, implied_role, header_role, array_role, value_role, continued_role}
use Rattle.toml_edit_model.specs.Roles.{is_header_role, is_dotted_role, is_array_role}
use Rattle.toml_edit_model.specs.TableMentions.{under, own, roles, array_headers, kept}

-- ---- one key of a path

-- the roles at the key, and the headers in double brackets
roles-passed : {S : Type 0} (source : S) (start : ℕ) (role : Role) (g : Segment) (below ms : List (Mention S)) → own below ≡ []
    → roles (under (at_key g.key) (ms ++ path_of source start role g below)) ≡ roles (under (at_key g.key) ms) ++ (role ∷ [])
roles-passed {S} source start role g below ms none =
    let us = under (at_key g.key) ms in
    let o = own_mention source start role g in
    ap roles (sym (under-all source start role g below ms))
    ∙ roles-append (us ++ (o ∷ [])) below
    ∙ ap (λ (os : List (Mention S)). roles (us ++ (o ∷ [])) ++ map (λ m. m.role) os) none
    ∙ append-nil (roles (us ++ (o ∷ [])))
    ∙ roles-append us (o ∷ [])

pub arrays-passed : {S : Type 0} (source : S) (start : ℕ) (role : Role) (g : Segment) (below ms : List (Mention S)) → own below ≡ []
    → array_headers (under (at_key g.key) (ms ++ path_of source start role g below))
    ≡ array_headers (under (at_key g.key) ms) ++ (if is_array_role role then own_mention source start role g ∷ [] else [])
arrays-passed {S} source start role g below ms none =
    let us = under (at_key g.key) ms in
    let o = own_mention source start role g in
    ap array_headers (sym (under-all source start role g below ms))
    ∙ arrays-append (us ++ (o ∷ [])) below
    ∙ ap (λ os. array_headers (us ++ (o ∷ [])) ++ arrays_of os) none
    ∙ append-nil (array_headers (us ++ (o ∷ [])))
    ∙ arrays-append us (o ∷ [])
  where
    arrays_of : List (Mention S) → List (Mention S)
    arrays_of os = filter (λ m. is_array_role m.role) os

dotted-passed : (source : Source) (start : ℕ) (g : Segment) (below ms : List (Mention Source)) → own below ≡ []
    → list_any is_dotted_role (roles (under (at_key g.key) ms))
    ≡ list_any is_dotted_role (roles (under (at_key g.key) (ms ++ path_of source start implied_role g below)))
dotted-passed source start g below ms none =
    sym (ap (list_any is_dotted_role) (roles-passed source start implied_role g below ms none)
    ∙ list_any-append is_dotted_role (roles (under (at_key g.key) ms)) (implied_role ∷ [])
    ∙ or-false (list_any is_dotted_role (roles (under (at_key g.key) ms))))

module _ (mode : Mode) where
  -- a table that a header passes through keeps its fields
  fields-same : (us all : List (Mention Source)) (j : Mention Source) (r : Role) → list_any is_dotted_role (roles us)
      ≡ list_any is_dotted_role (roles all)
      → fields_of (spanned_in mode) us j r ≡ fields_of (spanned_in mode) all j r
  fields-same us all j header_role e = refl
  fields-same us all j dotted_role e = ap (λ b. made_by_path (spanned_in mode) b (key_extent (spanned_in mode) j)) e
  fields-same us all j implied_role e = ap (λ b. made_by_path (spanned_in mode) b (key_extent (spanned_in mode) j)) e
  fields-same us all j array_role e = ap (λ b. made_by_path (spanned_in mode) b (key_extent (spanned_in mode) j)) e
  fields-same us all j value_role e = ap (λ b. made_by_path (spanned_in mode) b (key_extent (spanned_in mode) j)) e
  fields-same us all j continued_role e = ap (λ b. made_by_path (spanned_in mode) b (key_extent (spanned_in mode) j)) e

  -- ---- one slot

  -- a new slot goes last
  pub new-slot : (source : Source) (start : ℕ) (role : Role) (g : Segment) (below ms : List (Mention Source)) (paths : List Path) (n : Node)
      (ss : Slots)
      → AreReady paths ms → is_header_role role ≡ false → own below ≡ [] → first_of_key g.key (kept ms) ≡ None → AreAllSlots mode ms ss
      → IsNode mode (under (at_key g.key) (ms ++ path_of source start role g below)) (mention_of source start (to_key [] g.key) role g) n
      → AreAllSlots mode (ms ++ path_of source start role g below)
      (with_slot ss (key_at (spanned_in mode) (mention_of source start (to_key [] g.key) role g)) n)
  new-slot source start role g below ms paths n ss ready plain none new slots node =
      let m = mention_of source start (to_key [] g.key) role g in
      let all = ms ++ path_of source start role g below in
      let keeps : kept all ≡ kept ms ++ (m ∷ []) =
      kept-passed source start role g below ms plain none
      ∙ ap (λ b. kept ms ++ (if not b then m ∷ [] else [])) (key-unmentioned g.key ms ready.named new).0 in
      subst (λ ks. AreSlots mode all ks (with_slot ss (key_at (spanned_in mode) m) n)) (sym keeps)
      (slots-add (spanned_in mode) all (kept ms) m n ss (slots-same (spanned_in mode) ms all (kept ms) g.key ss
      (under-others source start role g below ms) new slots) node)

  -- a slot that is there gets another item
  pub old-slot : (source : Source) (start : ℕ) (role : Role) (g : Segment) (below ms : List (Mention Source)) (paths : List Path)
      (j : Mention Source) (n : Node) (ss : Slots)
      → AreReady paths ms → is_header_role role ≡ false → own below ≡ [] → first_of_key g.key (kept ms) ≡ Some j → AreAllSlots mode ms ss
      → IsNode mode (under (at_key g.key) (ms ++ path_of source start role g below)) j n
      → AreAllSlots mode (ms ++ path_of source start role g below) (with_node g.key n ss)
  old-slot source start role g below ms paths j n ss ready plain none old slots node =
      let m = mention_of source start (to_key [] g.key) role g in
      let all = ms ++ path_of source start role g below in
      let keeps : kept all ≡ kept ms =
      kept-passed source start role g below ms plain none
      ∙ ap (λ b. kept ms ++ (if not b then m ∷ [] else [])) (key-mentioned g.key ms j ready.named old)
      ∙ append-nil (kept ms) in
      subst (λ ks. AreSlots mode all ks (with_node g.key n ss)) (sym keeps)
      (slots-change mode ms all (kept ms) g.key j n ss (under-others source start role g below ms) (one_slot ms ready.named ready.headed)
      old node slots)

  -- ---- a key that a header passes through

  -- how the rest of the path is added, to any slots of mentions after which a header may come
  abbrev pub GoesOn : (Slots → Option Slots) → List Path → List (Mention Source) → Type 0
  GoesOn add paths below =
      (xs : List (Mention Source)) (ss next : Slots) → AreReady paths xs → AreAllSlots mode xs ss → add ss ≡ Some next
      → AreAllSlots mode (xs ++ below) next

  -- what the key's own table sees, and its slots, once the rest of the path is added to these
  deeper-slots : (source : Source) (start : ℕ) (g : Segment) (below ms : List (Mention Source)) (paths : List Path) (add : Slots
      → Option Slots) (inner next : Slots)
      → AreReady paths ms → AreAllSlots mode (under (at_key g.key) ms) inner → GoesOn add (paths_under (at_key g.key) paths) below
      → add inner ≡ Some next
      → AreAllSlots mode (under (at_key g.key) (ms ++ path_of source start implied_role g below)) next
  deeper-slots source start g below ms paths add inner next ready slots on e =
      let here = under (at_key g.key) ms in
      subst (λ us. AreAllSlots mode us next) (under-all source start implied_role g below ms)
      (on (here ++ (own_mention source start implied_role g ∷ [])) inner next
      (ready-implied source start g (paths_under (at_key g.key) paths) here (ready-under (at_key g.key) paths ms ready))
      (own-slots mode source start implied_role g here inner slots) e)

  -- a key at which no array of tables stands
  pub pass-table : (source : Source) (start : ℕ) (g : Segment) (below ms : List (Mention Source)) (paths : List Path) (add : Slots
      → Option Slots) (ss next : Slots)
      → AreReady paths ms → AreAllSlots mode ms ss → own below ≡ [] → GoesOn add (paths_under (at_key g.key) paths) below
      → elements_at paths (at_key g.key ∷ []) ≡ zero
      → (o : Option Node) → IsFound mode ms g.key (first_of_key g.key (kept ms)) o
      → pass_below mode (mention_of source start (to_key [] g.key) implied_role g) add ss o ≡ Some next
      → AreAllSlots mode (ms ++ path_of source start implied_role g below) next
  pass-table source start g below ms paths add ss next ready slots none on count None found e =
      by_first (first_of_key g.key (kept ms)) refl found
    where
      m : Mention Source
      m = mention_of source start (to_key [] g.key) implied_role g

      all : List (Mention Source)
      all = ms ++ path_of source start implied_role g below

      by_first : (o : Option (Mention Source)) → first_of_key g.key (kept ms) ≡ o → IsFound mode ms g.key o None → AreAllSlots mode all next
      by_first (Some j) new found = absurd found
      by_first None new found =
          let (inner, added, made) =
          map_some (add no_slots) (λ (inner : Slots). with_slot ss (key_at (spanned_in mode) m)
          (table (made_by_path (spanned_in mode) false (key_extent (spanned_in mode) m)) inner)) next e in
          let here : under (at_key g.key) ms ≡ [] = key-empty paths g.key ms ready new in
          let empty : AreAllSlots mode (under (at_key g.key) ms) no_slots = subst (λ us. AreAllSlots mode us no_slots) (sym here) tt in
          let undotted : list_any is_dotted_role (roles (under (at_key g.key) all)) ≡ false =
          sym (dotted-passed source start g below ms none) ∙ ap (λ us. list_any is_dotted_role (roles us)) here in
          subst (λ ns. AreAllSlots mode all ns) made
          (new-slot source start implied_role g below ms paths
          (table (made_by_path (spanned_in mode) false (key_extent (spanned_in mode) m)) inner) ss ready refl none new slots (
            tt,
            ap (λ b. made_by_path (spanned_in mode) b (key_extent (spanned_in mode) m)) (sym undotted),
            deeper-slots source start g below ms paths add no_slots inner ready empty on added,
          ))
  pass-table source start g below ms paths add ss next ready slots none on count (Some (table f inner)) found e =
      by_first (first_of_key g.key (kept ms)) refl found
    where
      all : List (Mention Source)
      all = ms ++ path_of source start implied_role g below

      by_first : (o : Option (Mention Source)) → first_of_key g.key (kept ms) ≡ o → IsFound mode ms g.key o (Some (table f inner))
          → AreAllSlots mode all next
      by_first None old found = absurd found
      by_first (Some j) old found =
          let (changed, added, made) = map_some (add inner) (λ (changed : Slots). with_node g.key (table f changed) ss) next e in
          subst (λ ns. AreAllSlots mode all ns) made
          (old-slot source start implied_role g below ms paths j (table f changed) ss ready refl none old slots (
            found.0,
            found.1 ∙ fields-same (under (at_key g.key) ms) (under (at_key g.key) all) j j.role
                (dotted-passed source start g below ms none),
            deeper-slots source start g below ms paths add inner changed ready found.2 on added,
          ))
  pass-table source start g below ms paths add ss next ready slots none on count (Some (tables x xs)) found e =
      by_first (first_of_key g.key (kept ms)) refl found
    where
      by_first : (o : Option (Mention Source)) → first_of_key g.key (kept ms) ≡ o → IsFound mode ms g.key o (Some (tables x xs))
          → AreAllSlots mode (ms ++ path_of source start implied_role g below) next
      by_first None old found = absurd found
      by_first (Some j) old found =
          let (a, more, is) = array-numbered g.key ms j ready.named ready.sourced old found.0 in
          let clash : zero ≡ suc (length more) = sym count ∙ count-at paths ms g.key ready ∙ ap length is in
          absurd cc
  pass-table source start g below ms paths add ss next ready slots none on count (Some nothing) found e = absurd cc
  pass-table source start g below ms paths add ss next ready slots none on count (Some (leaf s r d)) found e = absurd cc
  pass-table source start g below ms paths add ss next ready slots none on count (Some (list f xs)) found e = absurd cc
  pass-table source start g below ms paths add ss next ready slots none on count (Some (inline f us)) found e = absurd cc

  -- a key at which an array of tables stands, in whose last element the header goes on
  pub pass-array : (source : Source) (start : ℕ) (g : Segment) (n : ℕ) (below ms : List (Mention Source)) (paths : List Path) (add : Slots
      → Option Slots) (ss next : Slots)
      → AreReady paths ms → AreAllSlots mode ms ss → GoesOn add (paths_under (at_element n) (paths_under (at_key g.key) paths)) below
      → elements_at paths (at_key g.key ∷ []) ≡ suc n → (o : Option Node) → IsFound mode ms g.key (first_of_key g.key (kept ms)) o
      → pass_below mode (mention_of source start (to_key [] g.key) continued_role g) add ss o ≡ Some next
      → AreAllSlots mode (ms ++ path_of source start continued_role g (all_deeper (at_element n) below)) next
  pass-array source start g n below ms paths add ss next ready slots on count None found e =
      by_first (first_of_key g.key (kept ms)) refl found
    where
      by_first : (o : Option (Mention Source)) → first_of_key g.key (kept ms) ≡ o → IsFound mode ms g.key o None
          → AreAllSlots mode (ms ++ path_of source start continued_role g (all_deeper (at_element n) below)) next
      by_first (Some j) new found = absurd found
      by_first None new found =
          let clash : suc n ≡ zero =
          sym count ∙ count-at paths ms g.key ready ∙ ap (λ (us : List (Mention Source)). length (array_headers us))
          (key-empty paths g.key ms ready new) in
          absurd cc
  pass-array source start g n below ms paths add ss next ready slots on count (Some (table f inner)) found e =
      by_first (first_of_key g.key (kept ms)) refl found
    where
      by_first : (o : Option (Mention Source)) → first_of_key g.key (kept ms) ≡ o → IsFound mode ms g.key o (Some (table f inner))
          → AreAllSlots mode (ms ++ path_of source start continued_role g (all_deeper (at_element n) below)) next
      by_first None old found = absurd found
      by_first (Some j) old found =
          let clash : suc n ≡ zero = sym count ∙ count-at paths ms g.key ready
          ∙ ap length (table-unnumbered mode paths g.key ms j ready old found.0) in
          absurd cc
  pass-array source start g n below ms paths add ss next ready slots on count (Some (tables x xs)) found e =
      by_first (first_of_key g.key (kept ms)) refl found
    where
      deep : List (Mention Source)
      deep = all_deeper (at_element n) below

      none : own deep ≡ []
      none = own-deeper (at_element n) below

      all : List (Mention Source)
      all = ms ++ path_of source start continued_role g deep

      us : List (Mention Source)
      us = under (at_key g.key) ms

      o : Mention Source
      o = own_mention source start continued_role g

      -- what each element sees of all
      elements : (t : Step) → under t (under (at_key g.key) all) ≡ under t us ++ under t deep
      elements t =
          ap (under t) (sym (under-all source start continued_role g deep ms)) ∙ under-append t (us ++ (o ∷ [])) deep
          ∙ ap (λ zs. zs ++ under t deep) (sym (under-own-mention source start continued_role g us t))

      same : (j : ℕ) → j < n → under (at_element j) us ≡ under (at_element j) (under (at_key g.key) all)
      same j before =
          let apart : (n == j) ≡ false = false-by (n == j) (λ h. let equal : n ≡ j = eqb-true n j h in absurd (omega arith)) in
          sym (elements (at_element j) ∙ ap (λ zs. under (at_element j) us ++ zs) (under-other (at_element n) (at_element j) below apart)
          ∙ append-nil (under (at_element j) us))

      last : (inner changed : Slots) → AreAllSlots mode (under (at_element n) us) inner → add inner ≡ Some changed
          → AreAllSlots mode (under (at_element n) (under (at_key g.key) all)) changed
      last inner changed h added =
          subst (λ zs. AreAllSlots mode zs changed) (sym (elements (at_element n)
          ∙ ap (λ zs. under (at_element n) us ++ zs) (under-deeper (at_element n) below)))
          (on (under (at_element n) us) inner changed
          (ready-under (at_element n) (paths_under (at_key g.key) paths) us (ready-under (at_key g.key) paths ms ready)) h added)

      by_first : (o : Option (Mention Source)) → first_of_key g.key (kept ms) ≡ o → IsFound mode ms g.key o (Some (tables x xs))
          → AreAllSlots mode all next
      by_first None old found = absurd found
      by_first (Some j) old found =
          let (changed, added, made) = map_some (change_last add xs) (λ (changed : Items). with_node g.key (tables x changed) ss) next e in
          let headers : array_headers us ≡ array_headers (under (at_key g.key) all) =
          sym (arrays-passed source start continued_role g deep ms none ∙ append-nil (array_headers us)) in
          let many : length (array_headers us) ≡ suc n = sym (count-at paths ms g.key ready) ∙ count in
          let numbers : 0 + length (array_headers us) ≡ suc n = omega arith in
          subst (λ ns. AreAllSlots mode all ns) made
          (old-slot source start continued_role g deep ms paths j (tables x changed) ss ready refl none old slots (
            found.0,
            found.1 ∙ ap (tables_extent (spanned_in mode)) headers,
            subst (λ hs. AreElements mode (under (at_key g.key) all) 0 hs changed) headers
                (elements-last mode us (under (at_key g.key) all) n add 0 (array_headers us) xs changed same last numbers found.2 added),
          ))
  pass-array source start g n below ms paths add ss next ready slots on count (Some nothing) found e = absurd cc
  pass-array source start g n below ms paths add ss next ready slots on count (Some (leaf s r d)) found e = absurd cc
  pass-array source start g n below ms paths add ss next ready slots on count (Some (list f xs)) found e = absurd cc
  pass-array source start g n below ms paths add ss next ready slots on count (Some (inline f us)) found e = absurd cc
