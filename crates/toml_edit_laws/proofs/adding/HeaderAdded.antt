-- A header that is added to the slots of the statements before it gives the slots of all.
use Rattle.std.proofs.Common.{◌≡◌, ◌≤◌, refl, sym, ◌∙◌, ap, subst, ℕ, zero, suc, ◌+◌, arith, Bool, true, false, List, [], ◌∷◌, ◌++◌, length}
use Rattle.std.proofs.Common.{inl, inr, Option, Some, None}
use Rattle.std.specs.Prelude.{◌&&◌, not}
use Rattle.toml_edit_model.specs.Mode.{Mode}
use Rattle.toml_edit_model.specs.Syntax.{Segment, Statement, key_line, header, Header}
use Rattle.toml_edit_model.specs.Paths.{Step, at_key, at_element, Path, to_key, Mention, Source, mention_of, next_start, elements_at}
use Rattle.toml_edit_model.specs.Paths.{in_last, passing_role, header_mentions, header_role_of}
use Rattle.toml_edit_model.specs.Tree.{Extent, TableFields, Node, nothing, leaf, list, inline, table, tables, no_items, item, Slots}
use Rattle.toml_edit_model.specs.Tree.{no_slots}
use Rattle.toml_edit_model.specs.TreeOf.{spanned_in, key_at, header_fields, brackets_from, brackets_to, tables_extent, fields_of}
use Rattle.toml_edit_model.specs.TreeOf.{AreSlotsOf}
use Rattle.toml_edit_laws.specs.FlatTree.{with_slot}
use Rattle.toml_edit_laws.specs.InlineTree.{node_at, with_node}
use Rattle.toml_edit_laws.specs.TableTree.{without_slot, with_item, reaching, headed_table, pass_below, open_table, open_element}
use Rattle.toml_edit_laws.specs.TableTree.{add_header}
use Rattle.toml_edit_laws.proofs.common.Tests.{append-nil, and_left, false-by, true-false}
use Rattle.toml_edit_laws.proofs.mentions.GatherLaws.{all_deeper, first_of_key}
use Rattle.toml_edit_laws.proofs.common.OptionSteps.{guard_read}
use Rattle.toml_edit_laws.proofs.inline_tables.InlineBuild.{path_of, under-others, under-all}
use Rattle.toml_edit_laws.proofs.adding.HeaderPaths.{paths_under, header-deeper, own-header, add-deeper}
use Rattle.toml_edit_laws.proofs.adding.HeaderKept.{kept-headed, others, others-none}
use Rattle.toml_edit_laws.proofs.adding.HeaderSlots.{AreSlots, AreAllSlots, IsNode, IsFound, slots-find, slots-without, AreElements}
use Rattle.toml_edit_laws.proofs.adding.HeaderSlots.{elements-add, extent-more}
use Rattle.toml_edit_laws.proofs.adding.HeaderReady.{AreReady, some_at-own, key-unmentioned, key-empty, key-leader, array-numbered}
use Rattle.toml_edit_laws.proofs.adding.HeaderOwn.{own-slots}
use Rattle.toml_edit_laws.proofs.adding.HeaderPass.{arrays-passed, new-slot, old-slot, GoesOn, pass-table, pass-array}
use Rattle.toml_edit_laws.proofs.adding.TableSlots.{slots-same, slots-add}
use Rattle.toml_edit_laws.proofs.mentions.Placed.{is_header}
use Rattle.toml_edit_laws.proofs.mentions.SomeAt.{some_at-under, own_mention, under-own-mention}
use Rattle.toml_edit_laws.proofs.mentions.RoleTests.{opening_role}
use Rattle.toml_edit_laws.proofs.adding.TableMentions.{one_slot}
use Rattle.toml_edit_model.specs.Roles.{Role, dotted_role, implied_role, header_role, array_role, value_role, continued_role}
use Rattle.toml_edit_model.specs.Roles.{is_header_role}
use Rattle.toml_edit_model.specs.TableMentions.{under, array_headers, some_at, kept}

-- ---- the last key of a plain header

-- what the key's table sees
under-last : (source : Source) (start : ℕ) (role : Role) (g : Segment) (ms : List (Mention Source))
    → under (at_key g.key) ms ++ (own_mention source start role g ∷ []) ≡ under (at_key g.key) (ms ++ path_of source start role g [])
under-last source start role g ms =
    sym (append-nil (under (at_key g.key) ms ++ (own_mention source start role g ∷ []))) ∙ under-all source start role g [] ms

-- a header's mentions from the table on where its path begins
abbrev pub from_here : Bool → Source → List Path → ℕ → List Segment → List (Mention Source)
from_here is_array source paths start segments = header_mentions source paths (opening_role is_array) start [] segments

module _ (mode : Mode) where
  -- its slot goes last, with the slots that are there
  headed-slot : (source : Source) (start : ℕ) (g : Segment) (ms : List (Mention Source)) (paths : List Path) (inner ss : Slots)
      → AreReady paths ms → some_at is_header_role (at_key g.key ∷ []) ms ≡ false → AreAllSlots mode (under (at_key g.key) ms) inner
      → AreSlots mode (ms ++ path_of source start header_role g []) (others g.key (kept ms)) ss
      → AreAllSlots mode (ms ++ path_of source start header_role g [])
      (with_slot ss (key_at (spanned_in mode) (mention_of source start (to_key [] g.key) header_role g))
      (headed_table mode (mention_of source start (to_key [] g.key) header_role g) inner))
  headed-slot source start g ms paths inner ss ready headless inside slots =
      let m = mention_of source start (to_key [] g.key) header_role g in
      let all = ms ++ path_of source start header_role g [] in
      subst (λ ks. AreSlots mode all ks (with_slot ss (key_at (spanned_in mode) m) (headed_table mode m inner)))
      (sym (kept-headed ms m g.key refl refl ready.named headless))
      (slots-add (spanned_in mode) all (others g.key (kept ms)) m (headed_table mode m inner) ss slots (
        tt,
        refl,
        subst (λ us. AreAllSlots mode us inner) (under-last source start header_role g ms)
            (own-slots mode source start header_role g (under (at_key g.key) ms) inner inside),
      ))

  -- the table of a header says that it is no path's
  headed-explicit : (s : Source) (t : Statement) → is_header t ≡ true → (header_fields (spanned_in mode) s t).is_implicit ≡ false
  headed-explicit s (key_line f v end) h = absurd cc
  headed-explicit s (header h end) e = refl

  fields-headed : (us : List (Mention Source)) (j : Mention Source) (r : Role) → is_header_role r ≡ true
      → fields_of (spanned_in mode) us j r ≡ header_fields (spanned_in mode) j.source j.source.statement
  fields-headed us j header_role h = refl
  fields-headed us j dotted_role h = absurd cc
  fields-headed us j implied_role h = absurd cc
  fields-headed us j array_role h = absurd cc
  fields-headed us j value_role h = absurd cc
  fields-headed us j continued_role h = absurd cc

  open-table : (source : Source) (start : ℕ) (g : Segment) (ms : List (Mention Source)) (paths : List Path) (ss next : Slots)
      → AreReady paths ms → AreAllSlots mode ms ss → (o : Option Node) → IsFound mode ms g.key (first_of_key g.key (kept ms)) o
      → open_table mode (mention_of source start (to_key [] g.key) header_role g) ss o ≡ Some next
      → AreAllSlots mode (ms ++ path_of source start header_role g []) next
  open-table source start g ms paths ss next ready slots None found e = by_first (first_of_key g.key (kept ms)) refl found
    where
      m : Mention Source
      m = mention_of source start (to_key [] g.key) header_role g

      all : List (Mention Source)
      all = ms ++ path_of source start header_role g []

      by_first : (o : Option (Mention Source)) → first_of_key g.key (kept ms) ≡ o → IsFound mode ms g.key o None → AreAllSlots mode all next
      by_first (Some j) new found = absurd found
      by_first None new found =
          let made : with_slot ss (key_at (spanned_in mode) m) (headed_table mode m no_slots) ≡ next = cc in
          subst (λ ns. AreAllSlots mode all ns) made
          (headed-slot source start g ms paths no_slots ss ready (key-unmentioned g.key ms ready.named new).1
          (subst (λ us. AreAllSlots mode us no_slots) (sym (key-empty paths g.key ms ready new)) tt)
          (subst (λ ks. AreSlots mode all ks ss) (sym (others-none g.key (kept ms) new))
          (slots-same (spanned_in mode) ms all (kept ms) g.key ss (under-others source start header_role g [] ms) new slots)))
  open-table source start g ms paths ss next ready slots (Some (table f inner)) found e = by_first (first_of_key g.key (kept ms)) refl found
    where
      m : Mention Source
      m = mention_of source start (to_key [] g.key) header_role g

      all : List (Mention Source)
      all = ms ++ path_of source start header_role g []

      us : List (Mention Source)
      us = under (at_key g.key) ms

      by_first : (o : Option (Mention Source)) → first_of_key g.key (kept ms) ≡ o → IsFound mode ms g.key o (Some (table f inner))
          → AreAllSlots mode all next
      by_first None old found = absurd found
      by_first (Some j) old found =
          let (unheaded, given) =
          guard_read (f.is_implicit && not f.is_dotted) (Some
          (with_slot (without_slot g.key ss) (key_at (spanned_in mode) m) (headed_table mode m inner))) next e in
          let made : with_slot (without_slot g.key ss) (key_at (spanned_in mode) m) (headed_table mode m inner) ≡ next = cc in
          let leader = key-leader g.key ms j ready.named ready.sourced old in
          let plain : is_header_role j.role ≡ false =
          false-by (is_header_role j.role) (λ is.
          true-false f.is_implicit (and_left f.is_implicit (not f.is_dotted) unheaded)
          (ap (λ (x : TableFields). x.is_implicit) (found.1 ∙ fields-headed us j j.role is)
          ∙ headed-explicit j.source j.source.statement (leader.0 is))) in
          let headless : some_at is_header_role (at_key g.key ∷ []) ms ≡ false =
          elim leader.1 [
            | inl l ↦ true-false (is_header_role j.role) l.0 plain
            | inr l ↦ sym (some_at-under is_header_role (at_key g.key) [] ms) ∙ some_at-own is_header_role us ∙ l.0
          ] in
          subst (λ ns. AreAllSlots mode all ns) made
          (headed-slot source start g ms paths inner (without_slot g.key ss) ready headless found.2
          (slots-without mode ms all (kept ms) g.key ss (under-others source start header_role g [] ms)
          (one_slot ms ready.named ready.headed) slots))
  open-table source start g ms paths ss next ready slots (Some nothing) found e = absurd cc
  open-table source start g ms paths ss next ready slots (Some (leaf s r d)) found e = absurd cc
  open-table source start g ms paths ss next ready slots (Some (list f xs)) found e = absurd cc
  open-table source start g ms paths ss next ready slots (Some (inline f us)) found e = absurd cc
  open-table source start g ms paths ss next ready slots (Some (tables x xs)) found e = absurd cc

  -- ---- the last key of a header in double brackets

  open-element : (source : Source) (start : ℕ) (g : Segment) (ms : List (Mention Source)) (paths : List Path) (ss next : Slots)
      → AreReady paths ms → AreAllSlots mode ms ss → (o : Option Node) → IsFound mode ms g.key (first_of_key g.key (kept ms)) o
      → open_element mode (mention_of source start (to_key [] g.key) array_role g) ss o ≡ Some next
      → AreAllSlots mode (ms ++ path_of source start array_role g []) next
  open-element source start g ms paths ss next ready slots None found e = by_first (first_of_key g.key (kept ms)) refl found
    where
      m : Mention Source
      m = mention_of source start (to_key [] g.key) array_role g

      o : Mention Source
      o = own_mention source start array_role g

      all : List (Mention Source)
      all = ms ++ path_of source start array_role g []

      extent : Extent
      extent = Some (brackets_from (spanned_in mode) source source.statement, brackets_to (spanned_in mode) source source.statement)

      by_first : (o : Option (Mention Source)) → first_of_key g.key (kept ms) ≡ o → IsFound mode ms g.key o None → AreAllSlots mode all next
      by_first (Some j) new found = absurd found
      by_first None new found =
          let made : with_slot ss (key_at (spanned_in mode) m) (tables extent (item (headed_table mode m no_slots) no_items)) ≡ next = cc in
          let only : o ∷ [] ≡ under (at_key g.key) all =
          ap (λ us. us ++ (o ∷ [])) (sym (key-empty paths g.key ms ready new)) ∙ under-last source start array_role g ms in
          subst (λ ns. AreAllSlots mode all ns) made
          (new-slot mode source start array_role g [] ms paths (tables extent (item (headed_table mode m no_slots) no_items)) ss ready refl
          refl new slots
          (subst (λ us. IsNode mode us m (tables extent (item (headed_table mode m no_slots) no_items))) only (refl, refl, (refl, tt, tt))))
  open-element source start g ms paths ss next ready slots (Some (tables x xs)) found e = by_first (first_of_key g.key (kept ms)) refl found
    where
      m : Mention Source
      m = mention_of source start (to_key [] g.key) array_role g

      o : Mention Source
      o = own_mention source start array_role g

      all : List (Mention Source)
      all = ms ++ path_of source start array_role g []

      us : List (Mention Source)
      us = under (at_key g.key) ms

      to : ℕ
      to = brackets_to (spanned_in mode) source source.statement

      same : (i : ℕ) → under (at_element i) us ≡ under (at_element i) (under (at_key g.key) all)
      same i = under-own-mention source start array_role g us (at_element i)
          ∙ ap (under (at_element i)) (under-last source start array_role g ms)

      by_first : (o : Option (Mention Source)) → first_of_key g.key (kept ms) ≡ o → IsFound mode ms g.key o (Some (tables x xs))
          → AreAllSlots mode all next
      by_first None old found = absurd found
      by_first (Some j) old found =
          let made : with_node g.key (tables (reaching x to) (with_item xs (headed_table mode m no_slots))) ss ≡ next = cc in
          let (a, more, is) = array-numbered g.key ms j ready.named ready.sourced old found.0 in
          let headers : array_headers us ++ (o ∷ []) ≡ array_headers (under (at_key g.key) all) =
          sym (arrays-passed source start array_role g [] ms refl) in
          let n : ℕ = length (array_headers us) in
          let fits : n ≤ n = omega arith in
          let numbers : 0 + n ≡ n = omega arith in
          let empty : under (at_element n) (under (at_key g.key) all) ≡ [] = sym (same n)
          ∙ (ready.at (at_key g.key ∷ [])).numbered n fits in
          subst (λ ns. AreAllSlots mode all ns) made
          (old-slot mode source start array_role g [] ms paths j (tables (reaching x to) (with_item xs (headed_table mode m no_slots))) ss
          ready refl refl old slots (
            found.0,
            ap (λ (y : Extent). reaching y to) (found.1 ∙ ap (tables_extent (spanned_in mode)) is) ∙ extent-more mode a more o
                ∙ ap (λ ys. tables_extent (spanned_in mode) (ys ++ (o ∷ []))) (sym is) ∙ ap (tables_extent (spanned_in mode)) headers,
            subst (λ hs. AreElements mode (under (at_key g.key) all) 0 hs (with_item xs (headed_table mode m no_slots))) headers
                (elements-add mode us (under (at_key g.key) all) n 0 (array_headers us) o xs same empty numbers found.2),
          ))
  open-element source start g ms paths ss next ready slots (Some nothing) found e = absurd cc
  open-element source start g ms paths ss next ready slots (Some (leaf s r d)) found e = absurd cc
  open-element source start g ms paths ss next ready slots (Some (list f xs)) found e = absurd cc
  open-element source start g ms paths ss next ready slots (Some (inline f us)) found e = absurd cc
  open-element source start g ms paths ss next ready slots (Some (table f us)) found e = absurd cc

  -- ---- a whole path

  header-below : (is_array : Bool) (m : Mention Source) (source : Source) (paths : List Path) (start : ℕ) (p : Path) (h : Segment)
      (rest : List Segment) (ss : Slots)
      → add_header mode is_array (m ∷ header_mentions source paths (opening_role is_array) start p (h ∷ rest)) ss
      ≡ pass_below mode m (add_header mode is_array (header_mentions source paths (opening_role is_array) start p (h ∷ rest))) ss
      (node_at m.segment.key ss)
  header-below is_array m source paths start p h [] ss = refl
  header-below is_array m source paths start p h (g ∷ rest) ss = refl

  pass-key : (is_array : Bool) (source : Source) (paths : List Path) (start : ℕ) (g h : Segment) (rest : List Segment)
      (ms : List (Mention Source)) (ss next : Slots)
      → ((deeper : List Path) → GoesOn mode (add_header mode is_array (from_here is_array source deeper (next_start start g) (h ∷ rest)))
      deeper (from_here is_array source deeper (next_start start g) (h ∷ rest)))
      → AreReady paths ms → AreAllSlots mode ms ss → add_header mode is_array (from_here is_array source paths start (g ∷ h ∷ rest)) ss
      ≡ Some next
      → AreAllSlots mode (ms ++ from_here is_array source paths start (g ∷ h ∷ rest)) next
  pass-key is_array source paths start g h rest ms ss next on ready slots e = by_count (elements_at paths (at_key g.key ∷ [])) refl e
    where
      k : Step
      k = at_key g.key

      from_count : ℕ → List (Mention Source)
      from_count n =
          mention_of source start (k ∷ []) (passing_role n) g
          ∷ header_mentions source paths (opening_role is_array) (next_start start g) (in_last n (k ∷ [])) (h ∷ rest)

      below : List Path → List (Mention Source)
      below deeper = from_here is_array source deeper (next_start start g) (h ∷ rest)

      by_count : (n : ℕ) → elements_at paths (k ∷ []) ≡ n → add_header mode is_array (from_count n) ss ≡ Some next
          → AreAllSlots mode (ms ++ from_count n) next
      by_count zero count e =
          let deeper = paths_under k paths in
          let lines = header-deeper source paths (opening_role is_array) (next_start start g) k [] (h ∷ rest) in
          let m = mention_of source start (k ∷ []) implied_role g in
          subst (λ us. AreAllSlots mode (ms ++ (m ∷ us)) next) (sym lines)
          (pass-table mode source start g (below deeper) ms paths (add_header mode is_array (all_deeper k (below deeper))) ss next ready
          slots
          (own-header source deeper (opening_role is_array) (next_start start g) (h ∷ rest))
          (λ xs us ns r s added. on deeper xs us ns r s (ap (λ (f : Slots → Option Slots). f us)
          (sym (add-deeper mode is_array k (below deeper))) ∙ added))
          count (node_at g.key ss) (slots-find mode ms (kept ms) g.key ss slots)
          (ap (λ us. pass_below mode m (add_header mode is_array us) ss (node_at g.key ss)) (sym lines)
          ∙ sym (header-below is_array m source paths (next_start start g) (k ∷ []) h rest ss) ∙ e))
      by_count (suc n) count e =
          let t = at_element n in
          let deeper = paths_under t (paths_under k paths) in
          let lines =
          header-deeper source paths (opening_role is_array) (next_start start g) k (t ∷ []) (h ∷ rest)
          ∙ ap (all_deeper k) (header-deeper source (paths_under k paths) (opening_role is_array) (next_start start g) t [] (h ∷ rest)) in
          let m = mention_of source start (k ∷ []) continued_role g in
          subst (λ us. AreAllSlots mode (ms ++ (m ∷ us)) next) (sym lines)
          (pass-array mode source start g n (below deeper) ms paths (add_header mode is_array (all_deeper k (all_deeper t (below deeper))))
          ss next ready slots
          (λ xs us ns r s added.
          on deeper xs us ns r s
          (ap (λ (f : Slots → Option Slots). f us) (sym (add-deeper mode is_array k (all_deeper t (below deeper))
          ∙ add-deeper mode is_array t (below deeper))) ∙ added))
          count (node_at g.key ss) (slots-find mode ms (kept ms) g.key ss slots)
          (ap (λ us. pass_below mode m (add_header mode is_array us) ss (node_at g.key ss)) (sym lines)
          ∙ sym (header-below is_array m source paths (next_start start g) (k ∷ t ∷ []) h rest ss) ∙ e))

  -- The slots of a table, with a header added whose path goes on in it, are the slots of all that it sees.
  pub header_goes_on : (is_array : Bool) (source : Source) (paths : List Path) (start : ℕ) (segments : List Segment)
      (ms : List (Mention Source)) (ss next : Slots)
      → AreReady paths ms → AreAllSlots mode ms ss → add_header mode is_array (from_here is_array source paths start segments) ss
      ≡ Some next
      → AreAllSlots mode (ms ++ from_here is_array source paths start segments) next
  header_goes_on is_array source paths start [] ms ss next ready slots e = absurd cc
  header_goes_on true source paths start (g ∷ []) ms ss next ready slots e =
      open-element source start g ms paths ss next ready slots (node_at g.key ss) (slots-find mode ms (kept ms) g.key ss slots) e
  header_goes_on false source paths start (g ∷ []) ms ss next ready slots e =
      open-table source start g ms paths ss next ready slots (node_at g.key ss) (slots-find mode ms (kept ms) g.key ss slots) e
  header_goes_on is_array source paths start (g ∷ h ∷ rest) ms ss next ready slots e =
      pass-key is_array source paths start g h rest ms ss next
      (λ deeper xs us ns r s added. header_goes_on is_array source deeper (next_start start g) (h ∷ rest) xs us ns r s added) ready slots e

  -- A header that is added to the slots of the root gives the slots of all.
  pub header_added : (h : Header) (source : Source) (paths : List Path) (start : ℕ) (ms : List (Mention Source)) (ss next : Slots)
      → AreReady paths ms → AreSlotsOf (spanned_in mode) ms (kept ms) ss
      → add_header mode h.is_array (header_mentions source paths (header_role_of h) start [] h.path) ss ≡ Some next
      → AreSlotsOf (spanned_in mode) (ms ++ header_mentions source paths (header_role_of h) start [] h.path)
      (kept (ms ++ header_mentions source paths (header_role_of h) start [] h.path)) next
  header_added h source paths start ms ss next = header_goes_on h.is_array source paths start h.path ms ss next
