-- A change of the slots of the table at a block's path is one of the slots of the root.
use Rattle.std.proofs.Common.{◌≡◌, refl, sym, ◌∙◌, ap, subst, zero, ◌+◌, arith, List, [], ◌∷◌, ◌++◌, Option, Some, None}
use Rattle.std.specs.Prelude.{option_map}
use Rattle.toml_edit_model.specs.Text.{Text}
use Rattle.toml_edit_model.specs.Paths.{at_key, at_element, Path, Mention, Source}
use Rattle.toml_edit_model.specs.Tree.{TableFields, Node, nothing, leaf, list, inline, table, tables, Slots}
use Rattle.toml_edit_model.specs.TreeOf.{Form, tables_extent, IsNodeOf, AreElementsOf, AreSlotsOf}
use Rattle.toml_edit_laws.specs.InlineTree.{node_at, with_node}
use Rattle.toml_edit_laws.specs.TableTree.{change_item, change_under, change_below_node, change_at}
use Rattle.toml_edit_laws.proofs.common.OptionSteps.{map_some, bind_some}
use Rattle.toml_edit_laws.proofs.mentions.GatherLaws.{all_deeper, own-deeper, first_of_key, first_of_key-is}
use Rattle.toml_edit_laws.proofs.mentions.KeptOrder.{HaveOneHeader, under-header}
use Rattle.toml_edit_laws.proofs.adding.TableMentions.{one_slot}
use Rattle.toml_edit_laws.proofs.adding.TableSlots.{IsFound, slots-find, slots-change, AreAllSlots, ChangesTable, elements-change}
use Rattle.toml_edit_laws.proofs.adding.DeeperMentions.{below, own-below, under-more, under-else, kept-more, arrays-more, fields-more}
use Rattle.toml_edit_laws.proofs.mentions.Named.{AreNamed, under-named}
use Rattle.toml_edit_laws.specs.KeptKeys.{under_path}
use Rattle.toml_edit_model.specs.TableMentions.{under, own, array_headers, kept}

module _ (form : Form) where
  -- ---- the change, step by step

  -- a change of the slots of these mentions to those of these and others
  abbrev pub GoesTo : (Slots → Option Slots) → List (Mention Source) → List (Mention Source) → Type 0
  GoesTo change ms ns = (ss us : Slots) → AreAllSlots form ms ss → change ss ≡ Some us → AreAllSlots form (ms ++ ns) us

  -- a table below which something changes
  table-below : (p : Path) (change : Slots → Option Slots) (f : TableFields) (ss : Slots)
      → change_below_node p change (table f ss) ≡ option_map (table f) (change_at p change ss)
  table-below [] change f ss = refl
  table-below (at_key k ∷ p) change f ss = refl
  table-below (at_element i ∷ p) change f ss = refl

  table-changed : (p : Path) (change : Slots → Option Slots) (ms ns : List (Mention Source)) (f : TableFields) (ss : Slots) (n : Node)
      → GoesTo (change_at p change) ms ns → AreAllSlots form ms ss → change_below_node p change (table f ss) ≡ Some n
      → (us : Slots) × (n ≡ table f us) × AreAllSlots form (ms ++ ns) us
  table-changed p change ms ns f ss n goes h e =
      let (us, changed, made) = map_some (change_at p change ss) (table f) n (sym (table-below p change f ss) ∙ e) in
      (us, sym made, goes ss us h changed)

  -- the same in an element
  abbrev GoesInside : (Slots → Option Slots) → List (Mention Source) → List (Mention Source) → Path → Type 0
  GoesInside change here ns (at_element i ∷ q) = GoesTo (change_at q change) (under (at_element i) here) (below q ns)
  GoesInside change here ns _ = Unit {0}

  -- the item of a key: a table, or at an element an array of tables
  node-changed : (p : Path) (change : Slots → Option Slots) (here ns : List (Mention Source)) (j : Mention Source) (n o : Node) → own ns
      ≡ []
      → GoesTo (change_at p change) here (below p ns)
      → GoesInside change here ns p → IsNodeOf form here j n → change_below_node p change n ≡ Some o
      → IsNodeOf form (here ++ below p ns) j o
  node-changed p change here ns j (table f ss) o none goes each h e =
      let (us, is, slots) = table-changed p change here (below p ns) f ss o goes h.2 e in
      subst (IsNodeOf form (here ++ below p ns) j) (sym is)
      (h.0, h.1 ∙ sym (fields-more form here (below p ns) j j.role (own-below p ns none)), slots)
  node-changed (at_element i ∷ q) change here ns j (tables x xs) o none goes each h e =
      let (ys, changed, made) = map_some (change_item i (change_below_node q change) xs) (tables x) o e in
      let all = here ++ all_deeper (at_element i) (below q ns) in
      let same : array_headers all ≡ array_headers here =
      arrays-more here (all_deeper (at_element i) (below q ns)) (own-deeper (at_element i) (below q ns)) in
      let goes_on : ChangesTable form (change_below_node q change) (under (at_element i) here) (under (at_element i) all) =
      λ ss slots f n g.
      subst (λ ms. (us : Slots) × (n ≡ table f us) × AreAllSlots form ms us) (sym (under-more (at_element i) here (below q ns)))
      (table-changed q change (under (at_element i) here) (below q ns) f ss n each slots g) in
      let index : i ≡ zero + i = omega arith in
      subst (IsNodeOf form all j) made (
        h.0,
        h.1 ∙ ap (tables_extent form) (sym same),
        subst (λ more. AreElementsOf form all 0 more ys) (sym same)
            (elements-change form here all 0 i i (change_below_node q change) (array_headers here) xs ys index
            (λ l apart. under-else (at_element i) (at_element l) here (below q ns) apart) goes_on h.2 changed),
      )
  node-changed [] change here ns j (tables x xs) o none goes each h e = absurd cc
  node-changed (at_key k ∷ q) change here ns j (tables x xs) o none goes each h e = absurd cc
  node-changed [] change here ns j nothing o none goes each h e = absurd h
  node-changed (s ∷ q) change here ns j nothing o none goes each h e = absurd h
  node-changed [] change here ns j (leaf s r d) o none goes each h e = absurd cc
  node-changed (at_key k ∷ q) change here ns j (leaf s r d) o none goes each h e = absurd cc
  node-changed (at_element i ∷ q) change here ns j (leaf s r d) o none goes each h e = absurd cc
  node-changed [] change here ns j (list f xs) o none goes each h e = absurd cc
  node-changed (at_key k ∷ q) change here ns j (list f xs) o none goes each h e = absurd cc
  node-changed (at_element i ∷ q) change here ns j (list f xs) o none goes each h e = absurd cc
  node-changed [] change here ns j (inline f ss) o none goes each h e = absurd cc
  node-changed (at_key k ∷ q) change here ns j (inline f ss) o none goes each h e = absurd cc
  node-changed (at_element i ∷ q) change here ns j (inline f ss) o none goes each h e = absurd cc

  -- the slot of a key, where its item changes
  slot-changed : (k : Text) (p : Path) (change : Slots → Option Slots) (ms ns : List (Mention Source)) (ss us : Slots)
      → AreNamed ms → HaveOneHeader ms → own ns ≡ []
      → ((j : Mention Source) (n o : Node) → IsNodeOf form (under (at_key k) ms) j n → change_below_node p change n ≡ Some o
      → IsNodeOf form (under (at_key k) ms ++ below p ns) j o)
      → AreAllSlots form ms ss → change_under k (change_below_node p change) ss ≡ Some us
      → AreAllSlots form (ms ++ all_deeper (at_key k) (below p ns)) us
  slot-changed k p change ms ns ss us named one_header none goes h e =
      let (n, at, f_changed) =
      bind_some (node_at k ss) (λ (n : Node). option_map (λ (changed : Node). with_node k changed ss) (change_below_node p change n)) us
      e in
      let (o, changed, made) = map_some (change_below_node p change n) (λ (changed : Node). with_node k changed ss) us f_changed in
      subst (AreAllSlots form all) made
      (by_first (first_of_key k (kept ms)) refl n o changed
      (subst (IsFound form ms (first_of_key k (kept ms))) at (slots-find form ms (kept ms) k ss h)))
    where
      all : List (Mention Source)
      all = ms ++ all_deeper (at_key k) (below p ns)

      by_first : (first : Option (Mention Source)) → first_of_key k (kept ms) ≡ first → (n o : Node) → change_below_node p change n ≡ Some o
          → IsFound form ms first (Some n) → AreAllSlots form all (with_node k o ss)
      by_first None is n o changed found = absurd found
      by_first (Some j) is n o changed found =
          let key : k ≡ j.segment.key = first_of_key-is k (kept ms) j is in
          let node : IsNodeOf form (under (at_key k) ms) j n = subst (λ l. IsNodeOf form (under (at_key l) ms) j n) (sym key) found in
          let after : IsNodeOf form (under (at_key k) all) j o =
          subst (λ xs. IsNodeOf form xs j o) (sym (under-more (at_key k) ms (below p ns))) (goes j n o node changed) in
          let slots : AreSlotsOf form all (kept ms) (with_node k o ss) =
          slots-change form ms all (kept ms) k j o ss (λ l apart. under-else (at_key k) (at_key l) ms (below p ns) apart)
          (one_slot ms named one_header) is
          (subst (λ l. IsNodeOf form (under (at_key l) all) j o) key after) h in
          subst (λ ks. AreSlotsOf form all ks (with_node k o ss)) (sym (kept-more ms (at_key k) (below p ns) (own-below p ns none))) slots

  -- A change of the slots at a block's path, to those of more mentions there, is one of the slots above.
  pub block_changed : (p : Path) (change : Slots → Option Slots) (ms ns : List (Mention Source)) → AreNamed ms → HaveOneHeader ms → own ns
      ≡ []
      → GoesTo change (under_path p ms) ns → GoesTo (change_at p change) ms (below p ns)
  block_changed [] change ms ns named one_header none goes ss us h e = goes ss us h e
  block_changed (at_element i ∷ p) change ms ns named one_header none goes ss us h e = absurd cc
  block_changed (at_key k ∷ []) change ms ns named one_header none goes ss us h e =
      let here = under (at_key k) ms in
      slot-changed k [] change ms ns ss us named one_header none (λ j n o. node-changed [] change here ns j n o none goes tt) h e
  block_changed (at_key k ∷ at_key l ∷ p) change ms ns named one_header none goes ss us h e =
      let here = under (at_key k) ms in
      let on = block_changed (at_key l ∷ p) change here ns (under-named (at_key k) ms named) (under-header (at_key k) ms one_header) none
      goes in
      slot-changed k (at_key l ∷ p) change ms ns ss us named one_header none (λ j n o. node-changed (at_key l
      ∷ p) change here ns j n o none on tt) h e
  block_changed (at_key k ∷ at_element i ∷ p) change ms ns named one_header none goes ss us h e =
      let here = under (at_key k) ms in
      let here_named = under-named (at_key k) ms named in
      let here_header = under-header (at_key k) ms one_header in
      let on = block_changed (at_element i ∷ p) change here ns here_named here_header none goes in
      let each =
      block_changed p change (under (at_element i) here) ns (under-named (at_element i) here here_named)
      (under-header (at_element i) here here_header) none goes in
      slot-changed k (at_element i ∷ p) change ms ns ss us named one_header none (λ j n o. node-changed (at_element i
      ∷ p) change here ns j n o none on each) h e
