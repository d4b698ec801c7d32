-- What a removal means.
use Rattle.std.proofs.Common.{◌≡◌, refl, sym, ◌∙◌, ap, subst, ℕ, Bool, true, false, List, [], ◌∷◌, ◌++◌, append-nil, Option, Some, None, inl, inr}
use Rattle.std.specs.Prelude.{◌||◌, if◌then◌else◌, not}
use Rattle.toml_edit_model.specs.Text.{Text}
use Rattle.toml_edit_model.specs.Paths.{Path, Step, same_path, same_step, to_key}
use Rattle.toml_edit_model.specs.Tree.{Node, nothing, leaf, list, inline, table, tables, Items, Slots, IsWellMade, SlotsAreWellMade, is_value_node, Tree}
use Rattle.toml_edit_model.specs.Shown.{is_table_node, has_table, is_shown, node_facts, shown_meaning}
use Rattle.toml_edit_model.specs.Fits.{is_below}
use Rattle.toml_edit_model.specs.Slots.{Slot, keyed, lookup_slot, without}
use Rattle.toml_edit_model.specs.Lists.{slot_list, slots_from, item_list, items_from}
use Rattle.toml_edit_edit_laws.specs.Commands.{done, element_of, present, drop_slot, drop_element, remove_child, remove_below, remove_at}
use Rattle.toml_edit_edit_laws.specs.Commands.{item_at, root_item}
use Rattle.toml_edit_laws.specs.Locality.{is_at_or_below}
use Rattle.toml_edit_edit_laws.specs.CommandLaws.{is_listing}
use Rattle.toml_edit_edit_laws.specs.KeyCalls.{slots_changed}
use Rattle.toml_edit_edit_laws.specs.Means.{step_to, meant_at, facts_outside, IsTableAbove, Loses}
use Rattle.toml_edit_edit_laws.specs.Means.{RemoveMeans, RemoveKeepsRest, RemoveElementMeans, RemoveLastMeans}
use Rattle.toml_edit_laws.proofs.common.Members.{Among, from-contained, of-filtered, to-contained}
use Rattle.toml_edit_laws.proofs.common.PathLaws.{is_front, front-more, front-refl, front-through, same_path-is}
use Rattle.toml_edit_laws.proofs.common.Tests.{and_both, and_left, and_right, or-true, true-false}
use Rattle.toml_edit_laws.proofs.locality.Slots.{Found, found, slots_from-list, items_from-list}
use Rattle.toml_edit_laws.proofs.locality.Under.{front-is}
use Rattle.toml_edit_edit_laws.proofs.commands.Apart.{named}
use Rattle.toml_edit_edit_laws.proofs.commands.Keeping.{present-is, item-parts}
use Rattle.toml_edit_edit_laws.proofs.commands.Removing.{remove-goes-down}
use Rattle.toml_edit_edit_laws.proofs.commands.Setting.{was-mapped, done-is}
use Rattle.toml_edit_edit_laws.proofs.means.Changes.{Change, Changes, TablesMayGo, changes-around, out-stays}
use Rattle.toml_edit_edit_laws.proofs.means.Facts.{facts_in, facts-below, told, slots_in, any_told, slot_in, slots-append, slots-around, told-append, told-around, others-out, slot-below}
use Rattle.toml_edit_edit_laws.proofs.means.Parts.{seen, Replaces, ReplaceSlots, shown-replaces, nothing-replaces, sees-facts, has-table}
use Rattle.toml_edit_edit_laws.proofs.means.Along.{meant-join, MaySee, IsOne, text-changes, sees-tree, same-facts}
use Rattle.toml_edit_edit_laws.proofs.means.Holders.{holder-replaces}
use Rattle.toml_edit_edit_laws.proofs.means.Outside.{outside_with, below-goes, none-there, slot-goes, becomes}

-- the facts at the path and below it go, and tables above it may
abbrev loses_at : Path → Change
loses_at p = record (outside_with p []) {
  MayGo = IsTableAbove p;
  gone = λ f fs a m.
      of-filtered (λ g. not (is_at_or_below p g.path)) f fs (subst (Among f) (append-nil (facts_outside p fs)) a);
}

above-goes : (p : Path) → TablesMayGo (loses_at p)
above-goes p q out above = (refl, by_test (same_path q p) refl (front-is q p ∙ above))
  where
    by_test : (b : Bool) → same_path q p ≡ b → (b || is_below q p) ≡ true → is_below q p ≡ true
    by_test true e h =
        absurd (true-false (is_front p q) (subst (λ z. is_front p z ≡ true) (sym (same_path-is q p e)) (front-refl p)) out)
    by_test false e h = h

loses : (t u : Tree) (p : Path) → Changes (loses_at p) (shown_meaning t) (shown_meaning u) → Loses p t u
loses t u p h =
    let all : facts_outside p (shown_meaning t) ++ [] ≡ facts_outside p (shown_meaning t) = append-nil (facts_outside p (shown_meaning t)) in
    record {
      were = λ f m. to-contained f (facts_outside p (shown_meaning t)) (subst (Among f) all (h.0 f (from-contained f (shown_meaning u) m)));
      stay = λ f m.
          elim (h.1 f (subst (Among f) (sym all) (from-contained f (facts_outside p (shown_meaning t)) m))) [
            | inl a ↦ inl (to-contained f (shown_meaning u) a)
            | inr g ↦
                inr (g.0, out-stays (outside_with f.path []) (shown_meaning u) g.1)
          ];
    }

-- ---- a slot

was-dropped : (k : Text) (ss : List (Slot Node)) (o : Option Node) (xs : List (Slot Node)) → drop_slot k ss o ≡ done xs
    → (n : Node) × (o ≡ Some n) × (xs ≡ without k ss)
was-dropped k ss None xs h = absurd cc
was-dropped k ss (Some n) xs h = (n, refl, sym (done-is (without k ss) xs h))

slots-dropped : (p q : Path) (k : Text) → p ≡ to_key q k → (w : Bool) (ss : Slots) (xs : List (Slot Node)) → SlotsAreWellMade ss
    → drop_slot k (slot_list ss) (present (lookup_slot k (slot_list ss))) ≡ done xs → ReplaceSlots (loses_at p) w ss (slots_from xs) q
slots-dropped p q k is w ss xs made h =
    let c : Change = loses_at p in
    let n = was-dropped k (slot_list ss) (present (lookup_slot k (slot_list ss))) xs h in
    let pr = present-is (lookup_slot k (slot_list ss)) n.0 n.1 in
    let s : Slot Node = keyed pr.key n.0 in
    let fd : Found k s (slot_list ss) = found k ss s made pr.is in
    let there : to_key q s.key.name ≡ p = ap (to_key q) (sym fd.named) ∙ sym is in
    let above : is_front (to_key q s.key.name) p ≡ true = subst (λ y. is_front (to_key q s.key.name) y ≡ true) there (front-refl (to_key q s.key.name)) in
    let old : ss ≡ slots_from (fd.front ++ (s ∷ fd.back)) = sym (slots_from-list ss) ∙ ap slots_from fd.is in
    let new : xs ≡ fd.front ++ fd.back = n.2 ∙ fd.remove in
    let x = slots_in w (slots_from fd.front) q in
    let y = slots_in w (slots_from fd.back) q in
    record {
      facts = subst (λ z. Changes c z (slots_in w (slots_from xs) q)) (sym (ap (λ z. slots_in w z q) old ∙ slots-around w fd.front s fd.back q))
          (subst (λ z. Changes c (x ++ (slot_in w s q ++ y)) z) (sym (ap (λ z. slots_in w (slots_from z) q) new ∙ slots-append w fd.front fd.back q))
          (changes-around c (to_key q s.key.name) x (slot_in w s q) [] y above (slot-below w s q)
          (λ r e. (others-out w q r s.key.name fd.front e fd.others_front, others-out w q r s.key.name fd.back e fd.others_back))
          (becomes c (slot_in w s q) [] (subst (λ z. facts_outside z (slot_in w s q) ≡ []) there (slot-goes w s q)) refl)));
      up = λ e.
          ap (any_told w) old ∙ told-around w fd.front s fd.back
          ∙ with_one (any_told w (slots_from fd.front)) (told w s.item) (any_told w (slots_from fd.back))
          (sym (ap (λ z. any_told w (slots_from z)) new ∙ told-append w fd.front fd.back) ∙ e);
      down = inr (above-goes p);
    }
  where
    with_one : (a b c : Bool) → (a || c) ≡ true → (a || (b || c)) ≡ true
    with_one true b c h = refl
    with_one false true c h = refl
    with_one false false c h = h

as-slots : (k : Text) (x y : Node) → is_listing x ≡ false → remove_child k x ≡ done y
    → slots_changed (λ ss. drop_slot k ss (present (lookup_slot k ss))) x ≡ done y
as-slots k (table f ss) y slots h = h
as-slots k (inline f ss) y slots h = h
as-slots k (list f xs) y slots h = absurd cc
as-slots k (tables e xs) y slots h = absurd cc
as-slots k (leaf s r d) y slots h = absurd cc
as-slots k nothing y slots h = absurd cc

-- ---- an element

-- some table was among them
pub some-table : (x : Text) (xs : Items) (o : Option (ℕ × Node)) (ys : List Node) → element_of is_table_node x (item_list xs) ≡ o
    → drop_element (item_list xs) o ≡ done ys → has_table xs ≡ true
some-table x xs None ys e h = absurd cc
some-table x xs (Some a) ys e h =
    let m = named is_table_node x (item_list xs) a e in
    let i = item-parts a.0 (item_list xs) a.1 m.item in
    ap has_table (sym (items_from-list xs) ∙ ap items_from i.is) ∙ has-table i.before a.1 i.after m.kind

-- what is left of an array that is shown
element-replaces : (x : Text) (n m : Node) (q : Path) (s v : Bool) → is_listing n ≡ true → remove_child x n ≡ done m → is_shown m ≡ true
    → MaySee (outside_with q (node_facts m q)) q (front-refl q) s v n q
    → Replaces (outside_with q (node_facts m q)) s v n m q
element-replaces x (list f xs) m q s v is h shown see =
    let b = was-mapped (λ ns. list f (items_from ns)) (drop_element (item_list xs) (element_of is_value_node x (item_list xs))) m h in
    subst (λ z. Replaces (outside_with q (node_facts z q)) s v (list f xs) z q) (sym b.gives) (by_kind v (items_from b.from))
  where
    by_kind : (v : Bool) (ys : Items) → Replaces (outside_with q (node_facts (list f ys) q)) s v (list f xs) (list f ys) q
    by_kind true ys =
        let c : Change = outside_with q (node_facts (list f ys) q) in
        shown-replaces c s true (list f xs) (list f ys) q (or-true s) (or-true s)
        (becomes c (facts_in true (list f xs) q) (node_facts (list f ys) q)
        (below-goes q (facts_in true (list f xs) q) (facts-below true (list f xs) q)) refl) refl refl
    by_kind false ys =
        let c : Change = outside_with q (node_facts (list f ys) q) in
        shown-replaces c s false (list f xs) (list f ys) q (or-true s) (or-true s)
        (becomes c (facts_in false (list f xs) q) (node_facts (list f ys) q)
        (below-goes q (facts_in false (list f xs) q) (facts-below false (list f xs) q)) refl) refl refl
element-replaces x (tables e xs) m q s true is h shown see =
    let b = was-mapped (λ ns. tables e (items_from ns)) (drop_element (item_list xs) (element_of is_table_node x (item_list xs))) m h in
    absurd (hidden m b.from b.gives see)
  where
    hidden : (m : Node) (ns : List Node) → m ≡ tables e (items_from ns)
        → MaySee (outside_with q (node_facts m q)) q (front-refl q) s true (tables e xs) q → ⊥
    hidden m ns g (inl none) = (let z : node_facts (tables e (items_from ns)) q ≡ [] = ap (λ y. node_facts y q) (sym g) ∙ none in cc)
    hidden m ns g (inr z) = (sees-facts q s true (tables e xs) q z).1.1
element-replaces x (tables e xs) m q s false is h shown see =
    let b = was-mapped (λ ns. tables e (items_from ns)) (drop_element (item_list xs) (element_of is_table_node x (item_list xs))) m h in
    let ys : Items = items_from b.from in
    let c : Change = outside_with q (node_facts (tables e ys) q) in
    subst (λ z. Replaces (outside_with q (node_facts z q)) s false (tables e xs) z q) (sym b.gives)
    (shown-replaces c s false (tables e xs) (tables e ys) q
    (ap (λ z. s || z) (some-table x xs (element_of is_table_node x (item_list xs)) b.from refl b.is) ∙ or-true s)
    (ap (λ z. s || z) (ap is_shown (sym b.gives) ∙ shown) ∙ or-true s)
    (becomes c (node_facts (tables e xs) q) (node_facts (tables e ys) q)
    (below-goes q (node_facts (tables e xs) q) (facts-below false (tables e xs) q)) refl) refl refl)
element-replaces x (table f ss) m q s v is h shown see = absurd cc
element-replaces x (inline f ss) m q s v is h shown see = absurd cc
element-replaces x (leaf a r d) m q s v is h shown see = absurd cc
element-replaces x nothing m q s v is h shown see = absurd cc

-- no table is left
last-replaces : (x : Text) (n m : Node) (q : Path) (s v : Bool) → is_listing n ≡ true → remove_child x n ≡ done m → is_shown m ≡ false
    → IsOne s n → Replaces (loses_at q) s v n m q
last-replaces x (list f xs) m q s v is h hidden one =
    let b = was-mapped (λ ns. list f (items_from ns)) (drop_element (item_list xs) (element_of is_value_node x (item_list xs))) m h in
    absurd (true-false (is_shown m) (ap is_shown b.gives) hidden)
last-replaces x (tables e xs) m q s true is h hidden one =
    let b = was-mapped (λ ns. tables e (items_from ns)) (drop_element (item_list xs) (element_of is_table_node x (item_list xs))) m h in
    subst (λ z. Replaces (loses_at q) s true (tables e xs) z q) (sym b.gives)
    (nothing-replaces (loses_at q) s true (tables e xs) (tables e (items_from b.from)) q refl refl refl refl refl refl)
last-replaces x (tables e xs) m q true false is h hidden one = absurd (let z : false ≡ true = one refl in cc)
last-replaces x (tables e xs) m q false false is h hidden one =
    let b = was-mapped (λ ns. tables e (items_from ns)) (drop_element (item_list xs) (element_of is_table_node x (item_list xs))) m h in
    let ys : Items = items_from b.from in
    let c : Change = loses_at q in
    let none : has_table ys ≡ false = ap is_shown (sym b.gives) ∙ hidden in
    let some : has_table xs ≡ true = some-table x xs (element_of is_table_node x (item_list xs)) b.from refl b.is in
    subst (λ z. Replaces c false false (tables e xs) z q) (sym b.gives)
    (record {
      facts = subst (λ z. Changes c (seen false false (tables e xs) q) (if z then node_facts (tables e ys) q else [])) (sym none)
          (subst (λ z. Changes c (if z then node_facts (tables e xs) q else []) []) (sym some)
          (becomes c (node_facts (tables e xs) q) [] (below-goes q (node_facts (tables e xs) q) (facts-below false (tables e xs) q)) refl));
      up = λ z. some;
      down = inr (above-goes q);
      is_value = refl;
      is_table = refl;
    })
last-replaces x (table f ss) m q s v is h hidden one = absurd cc
last-replaces x (inline f ss) m q s v is h hidden one = absurd cc
last-replaces x (leaf a r d) m q s v is h hidden one = absurd cc
last-replaces x nothing m q s v is h hidden one = absurd cc

-- ---- the tree

tree-loses : (t u : Tree) (path : List Text) (n : Node) (k : Text) → SlotsAreWellMade t.slots → item_at path t ≡ Some n
    → remove_at (path ++ (k ∷ [])) t ≡ done u → (c : Change) (inside : is_front (meant_at t path) c.place ≡ true)
    → MaySee c (meant_at t path) inside true false (root_item t) []
    → ((y : Node) (s v : Bool) → remove_child k n ≡ done y → IsWellMade n → IsOne s n → MaySee c (meant_at t path) inside s v n (meant_at t path)
    → Replaces c s v n y (meant_at t path))
    → Changes c (shown_meaning t) (shown_meaning u)
tree-loses t u path n k made at h c inside see base =
    text-changes c t u path inside remove_below (k ∷ []) (remove-goes-down k []) n base made at see h

pub remove_means : RemoveMeans
remove_means t u path n k made at slots h =
    let q : Path = meant_at t path in
    let p : Path = q ++ (step_to k n ∷ []) in
    subst (λ z. Loses z t u) (sym (meant-join [] path (k ∷ []) (root_item t) n at))
    (loses t u p
    (tree-loses t u path n k made at h (loses_at p) (front-more q (step_to k n ∷ [])) (inl refl)
    (λ y s v g w one see.
    holder-replaces (loses_at p) q k (λ ss. drop_slot k ss (present (lookup_slot k ss)))
    (λ is v ss xs w a. slots-dropped p q k is v ss xs w a) n y s v refl (as-slots k n y slots g) w)))

-- what goes on in a path of one more step goes on in it, or is it
below-last : (r q : Path) (x : Step) → is_below r (q ++ (x ∷ [])) ≡ true → is_front r q ≡ true
below-last [] q x h = refl
below-last (s ∷ []) [] x h = absurd (true-false (is_below [] []) (and_right (same_step s x) (is_below [] []) h) refl)
below-last (s ∷ z ∷ r) [] x h = absurd (true-false (is_below (z ∷ r) []) (and_right (same_step s x) (is_below (z ∷ r) []) h) refl)
below-last (s ∷ r) (z ∷ q) x h =
    and_both (same_step s z) (is_front r q) (and_left (same_step s z) (is_below r (q ++ (x ∷ []))) h)
    (below-last r q x (and_right (same_step s z) (is_below r (q ++ (x ∷ []))) h))

pub remove_keeps_rest : RemoveKeepsRest
remove_keeps_rest t u path n k made at slots h (g, m, is) f =
    let q : Path = meant_at t path in
    let l : Loses (meant_at t (path ++ (k ∷ []))) t u = remove_means t u path n k made at slots h in (
      l.were f,
      λ c.
          elim (l.stay f c) [
            | inl a ↦ a
            | inr z ↦
                absurd (none-there f.path (shown_meaning u) g z.1 (from-contained g (shown_meaning u) m)
                (front-is f.path g.path
                ∙ front-through f.path q g.path
                (below-last f.path q (step_to k n) (subst (λ y. is_below f.path y ≡ true) (meant-join [] path (k ∷ []) (root_item t) n at) z.0.1))
                (sym (front-is q g.path) ∙ is)))
          ],
    )

pub remove_element_means : RemoveElementMeans
remove_element_means t u path n m x made at is meant gone shown h =
    let q : Path = meant_at t path in
    let c : Change = outside_with q (node_facts m q) in
    same-facts c (shown_meaning t) (shown_meaning u) (λ f e. e)
    (tree-loses t u path n x made at h c (front-refl q) (inr (sees-tree t q meant))
    (λ y s v g w one see.
    let same : m ≡ y = done-is m y (sym gone ∙ g) in
    subst (λ z. Replaces c s v n z q) same (element-replaces x n m q s v is gone shown see)))

pub remove_last_means : RemoveLastMeans
remove_last_means t u path n m x made at is gone hidden h =
    let q : Path = meant_at t path in
    loses t u q
    (tree-loses t u path n x made at h (loses_at q) (front-refl q) (inl refl)
    (λ y s v g w one see.
    let same : m ≡ y = done-is m y (sym gone ∙ g) in
    subst (λ z. Replaces (loses_at q) s v n z q) same (last-replaces x n m q s v is gone hidden one)))
