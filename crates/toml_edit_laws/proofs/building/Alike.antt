-- Adding a statement depends neither on its path nor on the numbers of elements in the paths of its keys.
use Rattle.std.proofs.Common.{◌≡◌, refl, sym, ◌∙◌, ap, subst, ℕ, zero, suc, Bool, true, false, List, [], ◌∷◌, Option, Some, None}
use Rattle.std.specs.Prelude.{not, ◌&&◌, if◌then◌else◌, find, option_map}
use Rattle.toml_edit_model.specs.Mode.{Mode}
use Rattle.toml_edit_model.specs.Text.{Text}
use Rattle.toml_edit_model.specs.Syntax.{Segment, Frame, Value, Header, key_line, header}
use Rattle.toml_edit_model.specs.Paths.{Path, same_path, to_key, Mention, Source, mention_of, next_start, line_mentions, elements_at}
use Rattle.toml_edit_model.specs.Paths.{in_last, passing_role, header_mentions}
use Rattle.toml_edit_model.specs.Faults.{clash, first_clash}
use Rattle.toml_edit_model.specs.Tree.{Node, nothing, leaf, list, inline, table, tables, Items, no_items, item, Slots, no_slots}
use Rattle.toml_edit_model.specs.TreeOf.{spanned_in, key_at, key_extent, made_by_path}
use Rattle.toml_edit_laws.specs.FlatTree.{with_slot}
use Rattle.toml_edit_laws.specs.InlineTree.{node_at, with_node}
use Rattle.toml_edit_laws.specs.TableTree.{change_last, extend_below, add_line, pass_below, open_table, open_element, add_header}
use Rattle.toml_edit_laws.specs.TableClash.{extend_clash, line_clash, clash_in_last, pass_clash, table_clash, element_clash, header_clash}
use Rattle.toml_edit_laws.specs.TableClash.{table_way_fault, table_way_faults}
use Rattle.toml_edit_laws.proofs.common.Tests.{and_right}
use Rattle.toml_edit_laws.proofs.clashes.TableClash.{in_way, IsSameClash}
use Rattle.toml_edit_laws.proofs.mentions.RoleTests.{is_through_role}
use Rattle.toml_edit_laws.proofs.clashes.LineClash.{line-below}
use Rattle.toml_edit_laws.proofs.adding.LineAdded.{line-on}
use Rattle.toml_edit_model.specs.Roles.{Role, dotted_role, implied_role, header_role, array_role, value_role, continued_role, may_meet}

-- ---- key lines

-- a key line with a path
abbrev pub line_source : Path → ℕ → ℕ → Frame → Value → Text → Source
line_source path at headers f v end = record { start = at; headers = headers; path = path; statement = key_line f v end }

-- a header with a path
abbrev pub header_source : Path → ℕ → ℕ → Header → Text → Source
header_source path at headers h end = record { start = at; headers = headers; path = path; statement = header h end }

header-clash-on : (is_array : Bool) (m : Mention Source) (source : Source) (arrays : List Path) (role : Role) (start : ℕ) (p : Path)
    (x : Segment) (rest : List Segment) (ss : Slots)
    → header_clash is_array (m ∷ header_mentions source arrays role start p (x ∷ rest)) ss
    ≡ pass_clash m (header_clash is_array (header_mentions source arrays role start p (x ∷ rest))) (node_at m.segment.key ss)
header-clash-on is_array m source arrays role start p x [] ss = refl
header-clash-on is_array m source arrays role start p x (y ∷ rest) ss = refl

change_last-same : (left right : Slots → Option Slots) (xs : Items) → ((us : Slots) → left us ≡ right us) → change_last left xs
    ≡ change_last right xs
change_last-same left right no_items h = refl
change_last-same left right (item (table f inner) no_items) h =
    ap (option_map (λ (changed : Slots). item (table f changed) no_items)) (h inner)
change_last-same left right (item nothing no_items) h = refl
change_last-same left right (item (leaf s x d) no_items) h = refl
change_last-same left right (item (list f us) no_items) h = refl
change_last-same left right (item (inline f us) no_items) h = refl
change_last-same left right (item (tables x us) no_items) h = refl
change_last-same left right (item n (item m xs)) h = ap (option_map (item n)) (change_last-same left right (item m xs) h)

-- The same clash, if it is not of a key where a header goes on in an element.
abbrev pub IsLikeClash : Option (Mention Source × Node) → Option (Mention Source × Node) → Type 0
IsLikeClash None None = Unit {0}
IsLikeClash (Some c) (Some d) = is_through_role c.0.role ≡ false → table_way_fault c ≡ table_way_fault d
IsLikeClash _ _ = ⊥

last-like : (c d : Mention Source × Node) (left right : Slots → Option (Mention Source × Node)) (xs : Items)
    → (is_through_role c.0.role ≡ false → table_way_fault c ≡ table_way_fault d) → ((us : Slots) → IsLikeClash (left us) (right us))
    → IsLikeClash (clash_in_last c left xs) (clash_in_last d right xs)
last-like c d left right no_items way h = way
last-like c d left right (item (table f inner) no_items) way h = h inner
last-like c d left right (item nothing no_items) way h = way
last-like c d left right (item (leaf s x y) no_items) way h = way
last-like c d left right (item (list f us) no_items) way h = way
last-like c d left right (item (inline f us) no_items) way h = way
last-like c d left right (item (tables x us) no_items) way h = way
last-like c d left right (item n (item m xs)) way h = last-like c d left right (item m xs) way h

meets-through : (r : Role) → may_meet r continued_role ≡ true
meets-through continued_role = refl
meets-through dotted_role = refl
meets-through implied_role = refl
meets-through header_role = refl
meets-through array_role = refl
meets-through value_role = refl

off-through : (r q : Role) → not (may_meet r q) ≡ true → is_through_role q ≡ false
off-through r continued_role h = let met : not true ≡ true = ap not (sym (meets-through r)) ∙ h in absurd cc
off-through r dotted_role h = refl
off-through r implied_role h = refl
off-through r header_role h = refl
off-through r array_role h = refl
off-through r value_role h = refl

find-clash : (m : Mention Source) (ms : List (Mention Source)) (e : Mention Source) → find (clash may_meet m) ms ≡ Some e
    → is_through_role m.role ≡ false
find-clash m [] e h = absurd cc
find-clash m (x ∷ ms) e h = by_clash (clash may_meet m x) refl h (find-clash m ms e)
  where
    by_clash : (b : Bool) → clash may_meet m x ≡ b → (if b then Some x else find (clash may_meet m) ms) ≡ Some e
        → (find (clash may_meet m) ms ≡ Some e → is_through_role m.role ≡ false) → is_through_role m.role ≡ false
    by_clash true c h ih = off-through x.role m.role (and_right (same_path x.path m.path) (not (may_meet x.role m.role)) c)
    by_clash false c h ih = ih h

abbrev IsPlainClash : Option (Mention Source × Mention Source) → Type 0
IsPlainClash None = Unit {0}
IsPlainClash (Some d) = is_through_role d.0.role ≡ false

first-plain : (ms ns : List (Mention Source)) → IsPlainClash (first_clash may_meet ms ns)
first-plain ms [] = tt
first-plain ms (m ∷ ns) = by_find (find (clash may_meet m) ms) refl (first-plain ms ns)
  where
    by_find : (o : Option (Mention Source)) → find (clash may_meet m) ms ≡ o → IsPlainClash (first_clash may_meet ms ns)
        → IsPlainClash (first_clash may_meet ms (m ∷ ns))
    by_find None h ih = rw h ih
    by_find (Some e) h ih = rw h (find-clash m ms e h)

module _ (mode : Mode) where
  module _ (path : Path) (at headers : ℕ) (f : Frame) (v : Value) (end : Text) where
    abbrev one : Source
    one = line_source path at headers f v end

    abbrev plain : Source
    plain = line_source [] at headers f v end

    pub line_alike : (start : ℕ) (p q : Path) (segments : List Segment) (n : Node) (ss : Slots)
        → add_line mode (line_mentions (line_source path at headers f v end) start p segments) n ss
        ≡ add_line mode (line_mentions (line_source [] at headers f v end) start q segments) n ss
    line_alike start p q [] n ss = refl
    line_alike start p q (g ∷ []) n ss = refl
    line_alike start p q (g ∷ x ∷ rest) n ss =
        line-on mode m one (next_start start g) (to_key p g.key) x rest n ss
        ∙ by_node (node_at g.key ss) (λ us. line_alike (next_start start g) (to_key p g.key) (to_key q g.key) (x ∷ rest) n us)
        ∙ sym (line-on mode o plain (next_start start g) (to_key q g.key) x rest n ss)
      where
        m : Mention Source
        m = mention_of one start (to_key p g.key) dotted_role g

        o : Mention Source
        o = mention_of plain start (to_key q g.key) dotted_role g

        left : Slots → Option Slots
        left = add_line mode (line_mentions one (next_start start g) (to_key p g.key) (x ∷ rest)) n

        right : Slots → Option Slots
        right = add_line mode (line_mentions plain (next_start start g) (to_key q g.key) (x ∷ rest)) n

        by_node : (node : Option Node) → ((us : Slots) → left us ≡ right us) → extend_below mode m left ss node
            ≡ extend_below mode o right ss node
        by_node None h = ap (option_map (λ (inner : Slots). with_slot ss (key_at (spanned_in mode) o)
            (table (made_by_path (spanned_in mode) true (key_extent (spanned_in mode) o)) inner))) (h no_slots)
        by_node (Some (table t inner)) h =
            ap (λ us. if t.is_implicit then option_map (λ (changed : Slots). with_node g.key (table (record t { is_dotted = true }) changed)
            ss) us else None) (h inner)
        by_node (Some nothing) h = refl
        by_node (Some (leaf s y d)) h = refl
        by_node (Some (list t xs)) h = refl
        by_node (Some (inline t us)) h = refl
        by_node (Some (tables y xs)) h = refl

    -- what stands in its way has the same fault
    pub line_fault_alike : (start : ℕ) (p q : Path) (segments : List Segment) (ss : Slots)
        → table_way_faults (line_clash (line_mentions (line_source path at headers f v end) start p segments) ss)
        ≡ table_way_faults (line_clash (line_mentions (line_source [] at headers f v end) start q segments) ss)
    line_fault_alike start p q [] ss = refl
    line_fault_alike start p q (g ∷ []) ss = by_node (node_at g.key ss)
      where
        by_node : (node : Option Node) → table_way_faults (option_map (in_way (mention_of one start (to_key p g.key) value_role g)) node)
            ≡ table_way_faults (option_map (in_way (mention_of plain start (to_key q g.key) value_role g)) node)
        by_node None = refl
        by_node (Some n) = refl
    line_fault_alike start p q (g ∷ x ∷ rest) ss =
        ap table_way_faults (line-below m one (next_start start g) (to_key p g.key) x rest ss)
        ∙ by_node (node_at g.key ss) (λ us. line_fault_alike (next_start start g) (to_key p g.key) (to_key q g.key) (x ∷ rest) us)
        ∙ sym (ap table_way_faults (line-below o plain (next_start start g) (to_key q g.key) x rest ss))
      where
        m : Mention Source
        m = mention_of one start (to_key p g.key) dotted_role g

        o : Mention Source
        o = mention_of plain start (to_key q g.key) dotted_role g

        left : Slots → Option (Mention Source × Node)
        left = line_clash (line_mentions one (next_start start g) (to_key p g.key) (x ∷ rest))

        right : Slots → Option (Mention Source × Node)
        right = line_clash (line_mentions plain (next_start start g) (to_key q g.key) (x ∷ rest))

        by_node : (node : Option Node) → ((us : Slots) → table_way_faults (left us) ≡ table_way_faults (right us))
            → table_way_faults (extend_clash m left node) ≡ table_way_faults (extend_clash o right node)
        by_node None h = refl
        by_node (Some nothing) h = refl
        by_node (Some (leaf s y d)) h = refl
        by_node (Some (list t xs)) h = refl
        by_node (Some (inline t us)) h = refl
        by_node (Some (tables y xs)) h = refl
        by_node (Some (table t inner)) h = by_implicit t.is_implicit
          where
            by_implicit : (b : Bool) → table_way_faults (if b then left inner else Some (in_way m (table t inner)))
                ≡ table_way_faults (if b then right inner else Some (in_way o (table t inner)))
            by_implicit true = h inner
            by_implicit false = refl

  -- ---- headers

  header-on : (is_array : Bool) (m : Mention Source) (source : Source) (arrays : List Path) (role : Role) (start : ℕ) (p : Path)
      (x : Segment) (rest : List Segment) (ss : Slots)
      → add_header mode is_array (m ∷ header_mentions source arrays role start p (x ∷ rest)) ss
      ≡ pass_below mode m (add_header mode is_array (header_mentions source arrays role start p (x ∷ rest))) ss (node_at m.segment.key ss)
  header-on is_array m source arrays role start p x [] ss = refl
  header-on is_array m source arrays role start p x (y ∷ rest) ss = refl

  module _ (is_array : Bool) (path : Path) (at headers : ℕ) (hd : Header) (end : Text) (role : Role) where
    abbrev a_header : Source
    a_header = header_source path at headers hd end

    abbrev plain_header : Source
    plain_header = header_source [] at headers hd end

    pub header_alike : (arrays : List Path) (start : ℕ) (p q : Path) (segments : List Segment) (ss : Slots)
        → add_header mode is_array (header_mentions (header_source path at headers hd end) arrays role start p segments) ss
        ≡ add_header mode is_array (header_mentions (header_source [] at headers hd end) [] role start q segments) ss
    header_alike arrays start p q [] ss = refl
    header_alike arrays start p q (g ∷ []) ss = by_array is_array
      where
        m : Mention Source
        m = mention_of a_header start (to_key p g.key) role g

        o : Mention Source
        o = mention_of plain_header start (to_key q g.key) role g

        by_element : (node : Option Node) → open_element mode m ss node ≡ open_element mode o ss node
        by_element None = refl
        by_element (Some nothing) = refl
        by_element (Some (leaf s y d)) = refl
        by_element (Some (list t xs)) = refl
        by_element (Some (inline t us)) = refl
        by_element (Some (tables y xs)) = refl
        by_element (Some (table t us)) = refl

        by_table : (node : Option Node) → open_table mode m ss node ≡ open_table mode o ss node
        by_table None = refl
        by_table (Some nothing) = refl
        by_table (Some (leaf s y d)) = refl
        by_table (Some (list t xs)) = refl
        by_table (Some (inline t us)) = refl
        by_table (Some (tables y xs)) = refl
        by_table (Some (table t us)) = refl

        by_array : (b : Bool) → (if b then open_element mode m ss (node_at g.key ss) else open_table mode m ss (node_at g.key ss))
            ≡ (if b then open_element mode o ss (node_at g.key ss) else open_table mode o ss (node_at g.key ss))
        by_array true = by_element (node_at g.key ss)
        by_array false = by_table (node_at g.key ss)
    header_alike arrays start p q (g ∷ x ∷ rest) ss =
        by_count (elements_at arrays (to_key p g.key)) (λ r us. header_alike arrays (next_start start g) r (to_key q g.key) (x ∷ rest) us)
      where
        o : Mention Source
        o = mention_of plain_header start (to_key q g.key) implied_role g

        right : Slots → Option Slots
        right = add_header mode is_array (header_mentions plain_header [] role (next_start start g) (to_key q g.key) (x ∷ rest))

        by_node : (m : Mention Source) (left : Slots → Option Slots) → m.segment ≡ g → key_at (spanned_in mode) m
            ≡ key_at (spanned_in mode) o → m.start ≡ o.start
            → ((us : Slots) → left us ≡ right us) → (node : Option Node) → pass_below mode m left ss node ≡ pass_below mode o right ss node
        by_node m left e k t h None =
            ap (option_map (λ (inner : Slots). with_slot ss (key_at (spanned_in mode) m)
            (table (made_by_path (spanned_in mode) false (key_extent (spanned_in mode) m)) inner))) (h no_slots)
            ∙ ap (λ y. option_map (λ (inner : Slots). with_slot ss y
            (table (made_by_path (spanned_in mode) false (key_extent (spanned_in mode) m)) inner)) (right no_slots)) k
            ∙ ap (λ y. option_map (λ (inner : Slots). with_slot ss (key_at (spanned_in mode) o)
            (table (made_by_path (spanned_in mode) false y) inner)) (right no_slots)) extents
          where
            extents : key_extent (spanned_in mode) m ≡ key_extent (spanned_in mode) o
            extents = cc
        by_node m left e k t h (Some (table f inner)) =
            ap (option_map (λ (changed : Slots). with_node m.segment.key (table f changed) ss)) (h inner)
            ∙ ap (λ (y : Segment). option_map (λ (changed : Slots). with_node y.key (table f changed) ss) (right inner)) e
        by_node m left e k t h (Some (tables y xs)) =
            ap (option_map (λ (changed : Items). with_node m.segment.key (tables y changed) ss)) (change_last-same left right xs h)
            ∙ ap (λ (z : Segment). option_map (λ (changed : Items). with_node z.key (tables y changed) ss) (change_last right xs)) e
        by_node m left e k t h (Some nothing) = refl
        by_node m left e k t h (Some (leaf s y d)) = refl
        by_node m left e k t h (Some (list f xs)) = refl
        by_node m left e k t h (Some (inline f us)) = refl

        from_count : ℕ → List (Mention Source)
        from_count n =
            mention_of a_header start (to_key p g.key) (passing_role n) g
            ∷ header_mentions a_header arrays role (next_start start g) (in_last n (to_key p g.key)) (x ∷ rest)

        by_count : (n : ℕ)
            → ((r : Path) (us : Slots) → add_header mode is_array (header_mentions a_header arrays role (next_start start g) r (x ∷ rest))
            us ≡ right us)
            → add_header mode is_array (from_count n) ss ≡ add_header mode is_array (o
            ∷ header_mentions plain_header [] role (next_start start g) (to_key q g.key) (x ∷ rest)) ss
        by_count zero ih =
            let m = mention_of a_header start (to_key p g.key) implied_role g in
            header-on is_array m a_header arrays role (next_start start g) (to_key p g.key) x rest ss
            ∙ by_node m (add_header mode is_array (header_mentions a_header arrays role (next_start start g) (to_key p g.key) (x ∷ rest)))
            refl refl refl
            (ih (to_key p g.key)) (node_at g.key ss)
            ∙ sym (header-on is_array o plain_header [] role (next_start start g) (to_key q g.key) x rest ss)
        by_count (suc n) ih =
            let m = mention_of a_header start (to_key p g.key) continued_role g in
            let deeper = in_last (suc n) (to_key p g.key) in
            header-on is_array m a_header arrays role (next_start start g) deeper x rest ss
            ∙ by_node m (add_header mode is_array (header_mentions a_header arrays role (next_start start g) deeper (x ∷ rest))) refl refl
            refl
            (ih deeper) (node_at g.key ss)
            ∙ sym (header-on is_array o plain_header [] role (next_start start g) (to_key q g.key) x rest ss)

    pub header_clash_alike : (arrays : List Path) (start : ℕ) (p q : Path) (segments : List Segment) (ss : Slots)
        → IsLikeClash (header_clash is_array (header_mentions (header_source path at headers hd end) arrays role start p segments) ss)
        (header_clash is_array (header_mentions (header_source [] at headers hd end) [] role start q segments) ss)
    header_clash_alike arrays start p q [] ss = tt
    header_clash_alike arrays start p q (g ∷ []) ss = by_array is_array
      where
        m : Mention Source
        m = mention_of a_header start (to_key p g.key) role g

        o : Mention Source
        o = mention_of plain_header start (to_key q g.key) role g

        by_element : (node : Option Node) → IsLikeClash (element_clash m node) (element_clash o node)
        by_element None = tt
        by_element (Some nothing) = λ e. refl
        by_element (Some (leaf s y d)) = λ e. refl
        by_element (Some (list t xs)) = λ e. refl
        by_element (Some (inline t us)) = λ e. refl
        by_element (Some (tables y xs)) = tt
        by_element (Some (table t us)) = λ e. refl

        by_table : (node : Option Node) → IsLikeClash (table_clash m node) (table_clash o node)
        by_table None = tt
        by_table (Some nothing) = λ e. refl
        by_table (Some (leaf s y d)) = λ e. refl
        by_table (Some (list t xs)) = λ e. refl
        by_table (Some (inline t us)) = λ e. refl
        by_table (Some (tables y xs)) = λ e. refl
        by_table (Some (table t us)) = by_plain (t.is_implicit && not t.is_dotted)
          where
            by_plain : (b : Bool) → IsLikeClash (if b then None else Some (in_way m (table t us))) (if b then None
                else Some (in_way o (table t us)))
            by_plain true = tt
            by_plain false = λ e. refl

        by_array : (b : Bool) → IsLikeClash (if b then element_clash m (node_at g.key ss) else table_clash m (node_at g.key ss))
            (if b then element_clash o (node_at g.key ss) else table_clash o (node_at g.key ss))
        by_array true = by_element (node_at g.key ss)
        by_array false = by_table (node_at g.key ss)
    header_clash_alike arrays start p q (g ∷ x ∷ rest) ss =
        by_count (elements_at arrays (to_key p g.key)) (λ r us. header_clash_alike arrays (next_start start g) r (to_key q g.key) (x
        ∷ rest) us)
      where
        o : Mention Source
        o = mention_of plain_header start (to_key q g.key) implied_role g

        right : Slots → Option (Mention Source × Node)
        right = header_clash is_array (header_mentions plain_header [] role (next_start start g) (to_key q g.key) (x ∷ rest))

        by_node : (m : Mention Source) (left : Slots → Option (Mention Source × Node))
            → ((n : Node) → is_through_role m.role ≡ false → table_way_fault (in_way m n) ≡ table_way_fault (in_way o n))
            → ((us : Slots) → IsLikeClash (left us) (right us)) → (node : Option Node)
            → IsLikeClash (pass_clash m left node) (pass_clash o right node)
        by_node m left same h None = tt
        by_node m left same h (Some (table f inner)) = h inner
        by_node m left same h (Some (tables y xs)) =
            last-like (in_way m (tables y xs)) (in_way o (tables y xs)) left right xs (same (tables y xs)) h
        by_node m left same h (Some nothing) = same nothing
        by_node m left same h (Some (leaf s y d)) = same (leaf s y d)
        by_node m left same h (Some (list f xs)) = same (list f xs)
        by_node m left same h (Some (inline f us)) = same (inline f us)

        from_count : ℕ → List (Mention Source)
        from_count n =
            mention_of a_header start (to_key p g.key) (passing_role n) g
            ∷ header_mentions a_header arrays role (next_start start g) (in_last n (to_key p g.key)) (x ∷ rest)

        plainly : List (Mention Source)
        plainly = o ∷ header_mentions plain_header [] role (next_start start g) (to_key q g.key) (x ∷ rest)

        both : (l k r s : Option (Mention Source × Node)) → l ≡ k → r ≡ s → IsLikeClash k s → IsLikeClash l r
        both l k r s e f h = subst (λ z. IsLikeClash z r) (sym e) (subst (IsLikeClash k) (sym f) h)

        by_count : (n : ℕ)
            → ((r : Path) (us : Slots) → IsLikeClash (header_clash is_array (header_mentions a_header arrays role (next_start start g) r (x
            ∷ rest)) us) (right us))
            → IsLikeClash (header_clash is_array (from_count n) ss) (header_clash is_array plainly ss)
        by_count zero ih =
            let m = mention_of a_header start (to_key p g.key) implied_role g in
            let left = header_clash is_array (header_mentions a_header arrays role (next_start start g) (to_key p g.key) (x ∷ rest)) in
            both (header_clash is_array (from_count zero) ss) (pass_clash m left (node_at g.key ss)) (header_clash is_array plainly ss)
            (pass_clash o right (node_at g.key ss))
            (header-clash-on is_array m a_header arrays role (next_start start g) (to_key p g.key) x rest ss)
            (header-clash-on is_array o plain_header [] role (next_start start g) (to_key q g.key) x rest ss)
            (by_node m left (λ n e. refl) (ih (to_key p g.key)) (node_at g.key ss))
        by_count (suc n) ih =
            let m = mention_of a_header start (to_key p g.key) continued_role g in
            let deeper = in_last (suc n) (to_key p g.key) in
            let left = header_clash is_array (header_mentions a_header arrays role (next_start start g) deeper (x ∷ rest)) in
            both (header_clash is_array (from_count (suc n)) ss) (pass_clash m left (node_at g.key ss)) (header_clash is_array plainly ss)
            (pass_clash o right (node_at g.key ss))
            (header-clash-on is_array m a_header arrays role (next_start start g) deeper x rest ss)
            (header-clash-on is_array o plain_header [] role (next_start start g) (to_key q g.key) x rest ss)
            (by_node m left (λ n e. absurd cc) (ih deeper) (node_at g.key ss))

  -- ---- no clash is where a header goes on in an element

  -- Of clashes that are alike, one of which is with mentions, the faults are the same.
  pub like_fault : (ms ns : List (Mention Source)) (o c : Option (Mention Source × Node)) → IsSameClash mode o (first_clash may_meet ms ns)
      → IsLikeClash o c
      → table_way_faults o ≡ table_way_faults c
  like_fault ms ns o c same like = by_clash o c (first_clash may_meet ms ns) (first-plain ms ns) same like
    where
      by_clash : (o c : Option (Mention Source × Node)) (d : Option (Mention Source × Mention Source)) → IsPlainClash d
          → IsSameClash mode o d → IsLikeClash o c
          → table_way_faults o ≡ table_way_faults c
      by_clash None None d off same like = refl
      by_clash None (Some x) d off same like = absurd like
      by_clash (Some x) None d off same like = absurd like
      by_clash (Some x) (Some y) None off same like = absurd same
      by_clash (Some x) (Some y) (Some d) off same like =
          ap (λ t. t ∷ []) (like (ap (λ (m : Mention Source). is_through_role m.role) same.0 ∙ off))
