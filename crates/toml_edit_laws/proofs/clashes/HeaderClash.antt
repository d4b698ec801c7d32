-- A header can be added to the slots of the root exactly where it agrees with the statements before it; else both clash at one mention.
use Rattle.std.proofs.Common.{◌≡◌, refl, sym, ◌∙◌, ap, subst, ℕ, suc, ◌+◌, arith, Bool, true, false, List, [], ◌∷◌, length, Option, Some}
use Rattle.std.proofs.Common.{None}
use Rattle.std.specs.Prelude.{not, ◌&&◌, ◌||◌, if◌then◌else◌, is_some, option_map}
use Rattle.toml_edit_model.specs.Mode.{Mode}
use Rattle.toml_edit_model.specs.Text.{is_empty}
use Rattle.toml_edit_model.specs.Syntax.{Segment}
use Rattle.toml_edit_model.specs.Paths.{Step, at_key, at_element, Path, to_key, Mention, Source, mention_of, elements_at, in_last}
use Rattle.toml_edit_model.specs.Paths.{passing_role, header_mentions, next_start}
use Rattle.toml_edit_model.specs.Accepted.{agree}
use Rattle.toml_edit_model.specs.Faults.{first_clash}
use Rattle.toml_edit_model.specs.Tree.{Node, nothing, leaf, list, inline, table, tables, Items, no_items, item, Slots}
use Rattle.toml_edit_model.specs.TreeOf.{spanned_in, AreElementsOf, AreSlotsOf}
use Rattle.toml_edit_laws.specs.InlineTree.{node_at}
use Rattle.toml_edit_laws.specs.TableTree.{add_header}
use Rattle.toml_edit_laws.specs.TableClash.{clash_in_last, pass_clash, table_clash, element_clash, header_clash}
use Rattle.toml_edit_laws.proofs.common.Tests.{true-false}
use Rattle.toml_edit_laws.proofs.mentions.GatherLaws.{deeper, all_deeper, first_of_key, first_of_key-is}
use Rattle.toml_edit_laws.proofs.inline_tables.AgreeLaws.{agree-clash}
use Rattle.toml_edit_laws.proofs.clashes.ClashMentions.{AreOfStatements, statements-under}
use Rattle.toml_edit_laws.proofs.clashes.ClashKept.{kept-free}
use Rattle.toml_edit_laws.proofs.clashes.ClashRoles.{IsSlotNode, IsFound, node-found, IsStanding, standing}
use Rattle.toml_edit_laws.proofs.clashes.TableClash.{blocks, way_of, in_way, IsSameClash, same-none, clash_here, clash_later, deeper_way}
use Rattle.toml_edit_laws.proofs.clashes.TableClash.{same-deeper, clash_new}
use Rattle.toml_edit_laws.proofs.clashes.ClashCounts.{count-none, count-zero, AreCounted, counted-under, counted-at}
use Rattle.toml_edit_laws.proofs.clashes.HeaderGoes.{header_or_clash}
use Rattle.toml_edit_laws.proofs.adding.HeaderPaths.{paths_under, header-deeper}
use Rattle.toml_edit_laws.proofs.mentions.SomeAt.{some_at-less}
use Rattle.toml_edit_laws.proofs.mentions.RoleTests.{opening_role, by_role, implies}
use Rattle.toml_edit_laws.proofs.common.OptionSteps.{is_none}
use Rattle.toml_edit_model.specs.Roles.{header_role, array_role, implied_role, may_meet, any_role, is_array_role}
use Rattle.toml_edit_model.specs.TableMentions.{under, kept, some_at, array_headers}

header-below : (is_array : Bool) (m : Mention Source) (source : Source) (arrays : List Path) (start : ℕ) (p : Path) (h : Segment)
    (rest : List Segment) (ss : Slots)
    → header_clash is_array (m ∷ header_mentions source arrays (opening_role is_array) start p (h ∷ rest)) ss
    ≡ pass_clash m (header_clash is_array (header_mentions source arrays (opening_role is_array) start p (h ∷ rest)))
    (node_at m.segment.key ss)
header-below is_array m source arrays start p h [] ss = refl
header-below is_array m source arrays start p h (g ∷ rest) ss = refl

no-array : (p : Path) (ms : List (Mention Source)) → some_at any_role p ms ≡ false → some_at is_array_role p ms ≡ false
no-array p ms h = some_at-less is_array_role any_role p ms (by_role (λ r. implies (is_array_role r) true) refl) h

module _ (mode : Mode) where
  -- ---- one step further down

  last-way-deeper : (s : Step) (way : Mention Source × Node) (deep further : Slots → Option (Mention Source × Node)) (xs : Items)
      → ((us : Slots) → deep us ≡ option_map (deeper_way s) (further us)) → clash_in_last (deeper_way s way) deep xs
      ≡ option_map (deeper_way s) (clash_in_last way further xs)
  last-way-deeper s way deep further no_items h = refl
  last-way-deeper s way deep further (item (table f inner) no_items) h = h inner
  last-way-deeper s way deep further (item n no_items) h = refl
  last-way-deeper s way deep further (item n (item x xs)) h = last-way-deeper s way deep further (item x xs) h

  -- the same path, further down
  header-way-deeper : (is_array : Bool) (s : Step) (ms : List (Mention Source)) (ss : Slots)
      → header_clash is_array (all_deeper s ms) ss ≡ option_map (deeper_way s) (header_clash is_array ms ss)
  header-way-deeper is_array s [] ss = refl
  header-way-deeper true s (m ∷ []) ss = by_node (node_at m.segment.key ss)
    where
      by_node : (o : Option Node) → element_clash (deeper s m) o ≡ option_map (deeper_way s) (element_clash m o)
      by_node None = refl
      by_node (Some nothing) = refl
      by_node (Some (leaf x y d)) = refl
      by_node (Some (list f xs)) = refl
      by_node (Some (inline f us)) = refl
      by_node (Some (table f us)) = refl
      by_node (Some (tables x xs)) = refl
  header-way-deeper false s (m ∷ []) ss = by_node (node_at m.segment.key ss)
    where
      by_node : (o : Option Node) → table_clash (deeper s m) o ≡ option_map (deeper_way s) (table_clash m o)
      by_node None = refl
      by_node (Some nothing) = refl
      by_node (Some (leaf x y d)) = refl
      by_node (Some (list f xs)) = refl
      by_node (Some (inline f us)) = refl
      by_node (Some (tables x xs)) = refl
      by_node (Some (table f us)) = by_fields (f.is_implicit && not f.is_dotted)
        where
          by_fields : (b : Bool) → (if b then None else Some (in_way (deeper s m) (table f us)))
              ≡ option_map (deeper_way s) (if b then None else Some (in_way m (table f us)))
          by_fields true = refl
          by_fields false = refl
  header-way-deeper is_array s (m ∷ r ∷ rest) ss = by_node (node_at m.segment.key ss) (header-way-deeper is_array s (r ∷ rest))
    where
      by_node : (o : Option Node) → ((us : Slots) → header_clash is_array (all_deeper s (r ∷ rest)) us
          ≡ option_map (deeper_way s) (header_clash is_array (r ∷ rest) us))
          → pass_clash (deeper s m) (header_clash is_array (all_deeper s (r ∷ rest))) o
          ≡ option_map (deeper_way s) (pass_clash m (header_clash is_array (r ∷ rest)) o)
      by_node None ih = refl
      by_node (Some nothing) ih = refl
      by_node (Some (leaf x y d)) ih = refl
      by_node (Some (list f xs)) ih = refl
      by_node (Some (inline f us)) ih = refl
      by_node (Some (table f inner)) ih = ih inner
      by_node (Some (tables x xs)) ih =
          last-way-deeper s (m, tables x xs) (header_clash is_array (all_deeper s (r ∷ rest))) (header_clash is_array (r ∷ rest)) xs ih

  -- ---- the last element

  -- a header goes on in the slots of the last element
  last-slots : (ns : List (Mention Source)) (i : ℕ) (a : Mention Source) (more : List (Mention Source)) (xs : Items)
      → AreElementsOf (spanned_in mode) ns i (a ∷ more) xs
      → (inner : Slots) × ((way : Mention Source × Node) (further : Slots → Option (Mention Source × Node)) → clash_in_last way further xs
      ≡ further inner)
      × AreSlotsOf (spanned_in mode) (under (at_element (i + length more)) ns) (kept (under (at_element (i + length more)) ns)) inner
  last-slots ns i a more no_items h = absurd h
  last-slots ns i a [] (item (table f inner) no_items) h =
      let same : i ≡ i + 0 = omega arith in (
        inner,
        λ way further. refl,
        subst (λ j. AreSlotsOf (spanned_in mode) (under (at_element j) ns) (kept (under (at_element j) ns))
            inner) same h.1,
      )
  last-slots ns i a [] (item (table f inner) (item n xs)) h = absurd h.2
  last-slots ns i a (b ∷ more) (item (table f inner) no_items) h = absurd h.2
  last-slots ns i a (b ∷ more) (item (table f inner) (item n xs)) h =
      let (last, goes, slots) = last-slots ns (suc i) b more (item n xs) h.2 in
      let same : suc i + length more ≡ i + suc (length more) = omega arith in
      (last, goes, subst (λ j. AreSlotsOf (spanned_in mode) (under (at_element j) ns) (kept (under (at_element j) ns)) last) same slots)
  last-slots ns i a more (item n xs) h = absurd h

  -- ---- the last key

  element-clash : (source : Source) (start : ℕ) (g : Segment) (ms : List (Mention Source)) → AreOfStatements ms
      → (o : Option Node) (first : Option (Mention Source)) → first_of_key g.key (kept ms) ≡ first → IsFound mode ms first o
      → IsSameClash mode (element_clash (mention_of source start (to_key [] g.key) array_role g) o)
      (first_clash may_meet ms (mention_of source start (to_key [] g.key) array_role g ∷ []))
  element-clash source start g ms are None None e h =
      clash_new mode g.key (mention_of source start (to_key [] g.key) array_role g) [] ms refl are (kept-free g.key ms are.named e)
  element-clash source start g ms are None (Some j) e h = absurd h
  element-clash source start g ms are (Some n) None e h = absurd h
  element-clash source start g ms are (Some n) (Some j) e h = by_node n h
    where
      m : Mention Source
      m = mention_of source start (to_key [] g.key) array_role g

      blocked : (n : Node) → IsSlotNode mode ms j n → blocks array_role n ≡ true
          → IsSameClash mode (Some (in_way m n)) (first_clash may_meet ms (m ∷ []))
      blocked n h b = clash_here mode m [] ms n (way_of mode m ms n (standing (spanned_in mode) g.key ms j n are e h)) b

      by_node : (n : Node) → IsSlotNode mode ms j n → IsSameClash mode (element_clash m (Some n)) (first_clash may_meet ms (m ∷ []))
      by_node nothing h = absurd h
      by_node (leaf s x d) h = blocked (leaf s x d) h refl
      by_node (list f xs) h = blocked (list f xs) h refl
      by_node (inline f us) h = blocked (inline f us) h refl
      by_node (table f us) h = blocked (table f us) h refl
      by_node (tables x xs) h =
          clash_later mode m [] ms (tables x xs) None (way_of mode m ms (tables x xs)
          (standing (spanned_in mode) g.key ms j (tables x xs) are e h)) refl tt

  table-clash : (source : Source) (start : ℕ) (g : Segment) (ms : List (Mention Source)) → AreOfStatements ms
      → (o : Option Node) (first : Option (Mention Source)) → first_of_key g.key (kept ms) ≡ first → IsFound mode ms first o
      → IsSameClash mode (table_clash (mention_of source start (to_key [] g.key) header_role g) o)
      (first_clash may_meet ms (mention_of source start (to_key [] g.key) header_role g ∷ []))
  table-clash source start g ms are None None e h =
      clash_new mode g.key (mention_of source start (to_key [] g.key) header_role g) [] ms refl are (kept-free g.key ms are.named e)
  table-clash source start g ms are None (Some j) e h = absurd h
  table-clash source start g ms are (Some n) None e h = absurd h
  table-clash source start g ms are (Some n) (Some j) e h = by_node n h
    where
      m : Mention Source
      m = mention_of source start (to_key [] g.key) header_role g

      blocked : (n : Node) → IsSlotNode mode ms j n → blocks header_role n ≡ true
          → IsSameClash mode (Some (in_way m n)) (first_clash may_meet ms (m ∷ []))
      blocked n h b = clash_here mode m [] ms n (way_of mode m ms n (standing (spanned_in mode) g.key ms j n are e h)) b

      by_node : (n : Node) → IsSlotNode mode ms j n → IsSameClash mode (table_clash m (Some n)) (first_clash may_meet ms (m ∷ []))
      by_node nothing h = absurd h
      by_node (leaf s x d) h = blocked (leaf s x d) h refl
      by_node (list f xs) h = blocked (list f xs) h refl
      by_node (inline f us) h = blocked (inline f us) h refl
      by_node (tables x xs) h = blocked (tables x xs) h refl
      by_node (table f us) h = by_fields f.is_implicit refl f.is_dotted refl
        where
          by_fields : (b : Bool) → f.is_implicit ≡ b → (d : Bool) → f.is_dotted ≡ d
              → IsSameClash mode (if b && not d then None else Some (in_way m (table f us))) (first_clash may_meet ms (m ∷ []))
          by_fields true i false d =
              clash_later mode m [] ms (table f us) None (way_of mode m ms (table f us)
              (standing (spanned_in mode) g.key ms j (table f us) are e h))
              (ap (λ b. (not b || f.is_dotted) || false) i ∙ ap (λ b. b || false) d) tt
          by_fields true i true d = blocked (table f us) h (ap (λ b. (not b || f.is_dotted) || false) i ∙ ap (λ b. b || false) d)
          by_fields false i b d = blocked (table f us) h (ap (λ b. (not b || f.is_dotted) || false) i)

  -- ---- a key on the way

  module _ (is_array : Bool) (source : Source) (start : ℕ) (g x : Segment) (rest : List Segment) where
    -- the rest of the path below the table that it goes on in, with these arrays
    abbrev below : List Path → List (Mention Source)
    below arrays = header_mentions source arrays (opening_role is_array) (next_start start g) [] (x ∷ rest)

    -- it clashes alike, among any mentions with their slots
    abbrev BelowClashesAlike : Type 0
    BelowClashesAlike =
        (arrays : List Path) (xs : List (Mention Source)) (us : Slots) → AreOfStatements xs → AreCounted arrays xs
        → AreSlotsOf (spanned_in mode) xs (kept xs) us
        → IsSameClash mode (header_clash is_array (below arrays) us) (first_clash may_meet xs (below arrays))

    -- the mention, and the rest of the path, where an array at the key has so many elements
    abbrev here : ℕ → Mention Source
    here count = mention_of source start (to_key [] g.key) (passing_role count) g

    abbrev further : List Path → ℕ → List (Mention Source)
    further arrays count =
        header_mentions source arrays (opening_role is_array) (next_start start g) (in_last count (to_key [] g.key)) (x ∷ rest)

    abbrev PassesAlike : List Path → List (Mention Source) → Option Node → ℕ → Type 0
    PassesAlike arrays ms o count =
        IsSameClash mode (pass_clash (here count) (header_clash is_array (further arrays count)) o) (first_clash may_meet ms (here count
        ∷ further arrays count))

    -- with no array at the key
    plainly : (arrays : List Path) (ms : List (Mention Source)) (o : Option Node)
        → IsSameClash mode (pass_clash (here 0) (header_clash is_array
        (all_deeper (at_key g.key) (below (paths_under (at_key g.key) arrays)))) o)
        (first_clash may_meet ms (here 0 ∷ all_deeper (at_key g.key) (below (paths_under (at_key g.key) arrays))))
        → elements_at arrays (to_key [] g.key) ≡ 0 → PassesAlike arrays ms o (elements_at arrays (to_key [] g.key))
    plainly arrays ms o h none =
        subst (PassesAlike arrays ms o) (sym none)
        (subst (λ us. IsSameClash mode (pass_clash (here 0) (header_clash is_array us) o) (first_clash may_meet ms (here 0 ∷ us)))
        (sym (header-deeper source arrays (opening_role is_array) (next_start start g) (at_key g.key) [] (x ∷ rest))) h)

    pass-clashes : (arrays : List Path) (ms : List (Mention Source)) → AreOfStatements ms → AreCounted arrays ms → BelowClashesAlike
        → (o : Option Node) (first : Option (Mention Source)) → first_of_key g.key (kept ms) ≡ first → IsFound mode ms first o
        → PassesAlike arrays ms o (elements_at arrays (to_key [] g.key))
    pass-clashes arrays ms are counted alike None None e h =
        let free = kept-free g.key ms are.named e in
        plainly arrays ms None (clash_new mode g.key (here 0) (below (paths_under (at_key g.key) arrays)) ms refl are free)
        (counted (at_key g.key ∷ []) ∙ count-none is_array_role (at_key g.key ∷ []) ms (no-array (at_key g.key ∷ []) ms free))
    pass-clashes arrays ms are counted alike None (Some j) e h = absurd h
    pass-clashes arrays ms are counted alike (Some n) None e h = absurd h
    pass-clashes arrays ms are counted alike (Some n) (Some j) e h = by_node n h
      where
        k : Step
        k = at_key g.key

        deep : List (Mention Source)
        deep = all_deeper k (below (paths_under k arrays))

        stands : (n : Node) → IsSlotNode mode ms j n → IsStanding (spanned_in mode) ms (k ∷ []) n
        stands n h = standing (spanned_in mode) g.key ms j n are e h

        none : (n : Node) → IsSlotNode mode ms j n → some_at is_array_role (k ∷ []) ms ≡ false → elements_at arrays (k ∷ []) ≡ 0
        none n h f = counted (k ∷ []) ∙ count-none is_array_role (k ∷ []) ms f

        valued : (n : Node) → IsSlotNode mode ms j n → blocks implied_role n ≡ true
            → IsSameClash mode (Some (in_way (here 0) n)) (first_clash may_meet ms (here 0 ∷ deep))
        valued n h b = clash_here mode (here 0) deep ms n (way_of mode (here 0) ms n (stands n h)) b

        by_node : (n : Node) → IsSlotNode mode ms j n → PassesAlike arrays ms (Some n) (elements_at arrays (k ∷ []))
        by_node nothing h = absurd h
        by_node (leaf s y d) h =
            plainly arrays ms (Some (leaf s y d)) (valued (leaf s y d) h refl) (none (leaf s y d) h (stands (leaf s y d) h).roles.array)
        by_node (list f xs) h =
            plainly arrays ms (Some (list f xs)) (valued (list f xs) h refl) (none (list f xs) h (stands (list f xs) h).roles.array)
        by_node (inline f us) h =
            plainly arrays ms (Some (inline f us)) (valued (inline f us) h refl) (none (inline f us) h (stands (inline f us) h).roles.array)
        by_node (table f inner) h =
            let slots = subst (λ l. AreSlotsOf (spanned_in mode) (under (at_key l) ms) (kept (under (at_key l) ms)) inner)
            (sym (first_of_key-is g.key (kept ms) j e)) h.2 in
            plainly arrays ms (Some (table f inner))
            (clash_later mode (here 0) deep ms (table f inner) (header_clash is_array deep inner)
            (way_of mode (here 0) ms (table f inner) (stands (table f inner) h)) refl
            (subst (λ o. IsSameClash mode o (first_clash may_meet ms deep))
            (sym (header-way-deeper is_array k (below (paths_under k arrays)) inner))
            (same-deeper mode k (header_clash is_array (below (paths_under k arrays)) inner) ms (below (paths_under k arrays))
            (alike (paths_under k arrays) (under k ms) inner (statements-under k ms are) (counted-under k arrays ms counted) slots))))
            (none (table f inner) h (stands (table f inner) h).roles.array)
        by_node (tables y xs) h =
            by_list (array_headers (under k ms)) refl
            (subst (λ l. AreElementsOf (spanned_in mode) (under (at_key l) ms) 0 (array_headers (under (at_key l) ms)) xs)
            (sym (first_of_key-is g.key (kept ms) j e)) h.2)
          where
            by_list : (hs : List (Mention Source)) → array_headers (under k ms) ≡ hs → AreElementsOf (spanned_in mode) (under k ms) 0 hs xs
                → PassesAlike arrays ms (Some (tables y xs)) (elements_at arrays (k ∷ []))
            by_list [] l i =
                true-false (some_at is_array_role (k ∷ []) ms) (stands (tables y xs) h).roles.array
                (count-zero is_array_role (k ∷ []) ms (sym (counted (k ∷ [])) ∙ counted-at k arrays ms counted ∙ ap length l))
            by_list (a ∷ more) l i =
                let n : ℕ = length more in
                let lists : List Path = paths_under (at_element n) (paths_under k arrays) in
                let low : List (Mention Source) = all_deeper (at_element n) (below lists) in
                let (inner, goes, found) = last-slots (under k ms) 0 a more xs i in
                let same : 0 + n ≡ n = omega arith in
                let slots = subst (λ o. AreSlotsOf (spanned_in mode) (under (at_element o) (under k ms))
                (kept (under (at_element o) (under k ms))) inner) same found in
                let paths : further arrays (suc n) ≡ all_deeper k low =
                header-deeper source arrays (opening_role is_array) (next_start start g) k (at_element n ∷ []) (x ∷ rest)
                ∙ ap (all_deeper k) (header-deeper source (paths_under k arrays) (opening_role is_array) (next_start start g) (at_element n)
                [] (x ∷ rest)) in
                let lowest : IsSameClash mode (option_map (deeper_way (at_element n)) (header_clash is_array (below lists) inner))
                (first_clash may_meet (under k ms) low) =
                same-deeper mode (at_element n) (header_clash is_array (below lists) inner) (under k ms) (below lists)
                (alike lists (under (at_element n) (under k ms)) inner
                (statements-under (at_element n) (under k ms) (statements-under k ms are))
                (counted-under (at_element n) (paths_under k arrays) (under k ms) (counted-under k arrays ms counted)) slots) in
                let way : clash_in_last (in_way (here (suc n)) (tables y xs)) (header_clash is_array (all_deeper k low)) xs
                ≡ option_map (deeper_way k) (option_map (deeper_way (at_element n)) (header_clash is_array (below lists) inner)) =
                goes (in_way (here (suc n)) (tables y xs)) (header_clash is_array (all_deeper k low))
                ∙ header-way-deeper is_array k low inner
                ∙ ap (option_map (deeper_way k)) (header-way-deeper is_array (at_element n) (below lists) inner) in
                let low_clash : IsSameClash mode (clash_in_last (in_way (here (suc n)) (tables y xs))
                (header_clash is_array (all_deeper k low)) xs) (first_clash may_meet ms (all_deeper k low)) =
                subst (λ o. IsSameClash mode o (first_clash may_meet ms (all_deeper k low))) (sym way)
                (same-deeper mode k (option_map (deeper_way (at_element n)) (header_clash is_array (below lists) inner)) ms low lowest) in
                subst (PassesAlike arrays ms (Some (tables y xs))) (sym (counted-at k arrays ms counted ∙ ap length l))
                (subst (λ us. IsSameClash mode (pass_clash (here (suc n)) (header_clash is_array us) (Some (tables y xs)))
                (first_clash may_meet ms (here (suc n) ∷ us))) (sym paths)
                (clash_later mode (here (suc n)) (all_deeper k low) ms (tables y xs)
                (clash_in_last (in_way (here (suc n)) (tables y xs)) (header_clash is_array (all_deeper k low)) xs)
                (way_of mode (here (suc n)) ms (tables y xs) (stands (tables y xs) h)) refl low_clash))

  -- ---- a whole path

  -- A header clashes with the slots of right statements where it clashes with these, and at the same mention.
  pub header_clashes : (is_array : Bool) (source : Source) (arrays : List Path) (start : ℕ) (segments : List Segment)
      (ms : List (Mention Source)) (ss : Slots)
      → AreOfStatements ms → AreCounted arrays ms → AreSlotsOf (spanned_in mode) ms (kept ms) ss
      → IsSameClash mode (header_clash is_array (header_mentions source arrays (opening_role is_array) start [] segments) ss)
      (first_clash may_meet ms (header_mentions source arrays (opening_role is_array) start [] segments))
  header_clashes is_array source arrays start [] ms ss are counted h = tt
  header_clashes true source arrays start (g ∷ []) ms ss are counted h =
      element-clash source start g ms are (node_at g.key ss) (first_of_key g.key (kept ms)) refl (node-found mode ms (kept ms) g.key ss h)
  header_clashes false source arrays start (g ∷ []) ms ss are counted h =
      table-clash source start g ms are (node_at g.key ss) (first_of_key g.key (kept ms)) refl (node-found mode ms (kept ms) g.key ss h)
  header_clashes is_array source arrays start (g ∷ x ∷ rest) ms ss are counted h =
      let count = elements_at arrays (to_key [] g.key) in
      let path = header_mentions source arrays (opening_role is_array) start [] (g ∷ x ∷ rest) in
      subst (λ o. IsSameClash mode o (first_clash may_meet ms path))
      (sym (header-below is_array (here is_array source start g x rest count) source arrays (next_start start g)
      (in_last count (to_key [] g.key)) x rest ss))
      (pass-clashes is_array source start g x rest arrays ms are counted
      (λ lists xs us. header_clashes is_array source lists (next_start start g) (x ∷ rest) xs us)
      (node_at g.key ss) (first_of_key g.key (kept ms)) refl (node-found mode ms (kept ms) g.key ss h))

  -- It can be added exactly where it agrees with them.
  pub header_agrees : (is_array : Bool) (source : Source) (arrays : List Path) (start : ℕ) (segments : List Segment)
      (ms : List (Mention Source)) (ss : Slots)
      → AreOfStatements ms → AreCounted arrays ms → AreSlotsOf (spanned_in mode) ms (kept ms) ss
      → agree may_meet ms (header_mentions source arrays (opening_role is_array) start [] segments)
      ≡ is_none (header_clash is_array (header_mentions source arrays (opening_role is_array) start [] segments) ss)
  header_agrees is_array source arrays start segments ms ss are counted h =
      let path = header_mentions source arrays (opening_role is_array) start [] segments in
      agree-clash may_meet ms path
      ∙ sym (same-none mode (header_clash is_array path ss) (first_clash may_meet ms path)
      (header_clashes is_array source arrays start segments ms ss are counted h))

  pub header_goes : (is_array : Bool) (source : Source) (arrays : List Path) (start : ℕ) (segments : List Segment)
      (ms : List (Mention Source)) (ss : Slots)
      → is_empty segments ≡ false → AreOfStatements ms → AreCounted arrays ms → AreSlotsOf (spanned_in mode) ms (kept ms) ss
      → is_some (add_header mode is_array (header_mentions source arrays (opening_role is_array) start [] segments) ss)
      ≡ agree may_meet ms (header_mentions source arrays (opening_role is_array) start [] segments)
  header_goes is_array source arrays start segments ms ss keyed are counted h =
      header_or_clash mode is_array source arrays start segments ss keyed
      ∙ sym (header_agrees is_array source arrays start segments ms ss are counted h)
