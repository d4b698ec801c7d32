-- A call that goes down a path, and what it changes in the facts of the tree.
use Rattle.std.proofs.Common.{◌≡◌, ◌⊎◌, refl, sym, ◌∙◌, ap, subst, ℕ, Bool, true, false, List, [], ◌∷◌, ◌++◌, length, map, Some, inl, inr}
use Rattle.std.specs.Prelude.{◌||◌, filter, take}
use Rattle.toml_edit_model.specs.Text.{Text}
use Rattle.toml_edit_model.specs.Paths.{at_key, at_element, Path, to_key, to_element}
use Rattle.toml_edit_model.specs.Meaning.{Fact, fact, a_table, an_array, SameFacts}
use Rattle.toml_edit_model.specs.Tree.{Key, ArrayFields, InlineFields, TableFields, Node, nothing, leaf, list, inline, table, tables, Items, Slots, is_value_node, Tree}
use Rattle.toml_edit_model.specs.Tree.{IsWellMade, ItemsAreWellMade, SlotsAreWellMade}
use Rattle.toml_edit_model.specs.Shown.{is_table_node, shown_meaning}
use Rattle.toml_edit_model.specs.Keys.{new_key}
use Rattle.toml_edit_model.specs.Slots.{Slot, keyed, with_item, lookup_slot, changed}
use Rattle.toml_edit_model.specs.Lists.{slot_list, slots_from, item_list, items_from}
use Rattle.toml_edit_model.specs.ArrayCalls.{written_at}
use Rattle.toml_edit_edit_laws.specs.Commands.{Answer, done, element_of, present, second, child, item_below, change_slot, change_element}
use Rattle.toml_edit_edit_laws.specs.Commands.{child_changed, item_at, mapped, root_item, with_slots}
use Rattle.toml_edit_edit_laws.specs.Means.{element_step, step_to, or_nothing, meant_from, meant_at, IsMeant}
use Rattle.toml_edit_laws.proofs.common.Members.{Among, from-contained, to-contained}
use Rattle.toml_edit_laws.proofs.common.OptionSteps.{some-is}
use Rattle.toml_edit_laws.proofs.common.PathLaws.{is_front, front-refl, front-more, front-through}
use Rattle.toml_edit_laws.proofs.common.Tests.{or-true}
use Rattle.toml_edit_laws.proofs.locality.Elements.{item-made}
use Rattle.toml_edit_laws.proofs.locality.Slots.{HaveOtherKeys, Found, found, slots_from-list, items_from-list, change-item}
use Rattle.toml_edit_laws.proofs.locality.Under.{front-is, apart-above}
use Rattle.toml_edit_edit_laws.proofs.commands.Apart.{named}
use Rattle.toml_edit_edit_laws.proofs.commands.Finding.{some-and, some-second}
use Rattle.toml_edit_edit_laws.proofs.commands.Going.{made-names}
use Rattle.toml_edit_edit_laws.proofs.commands.Keeping.{present-is, item-parts}
use Rattle.toml_edit_edit_laws.proofs.commands.Setting.{was-mapped}
use Rattle.toml_edit_edit_laws.proofs.path_calls.Places.{take-front}
use Rattle.toml_edit_edit_laws.proofs.means.Changes.{Change, Changes}
use Rattle.toml_edit_edit_laws.proofs.means.Facts.{facts_in, slots_in, items_in, count}
use Rattle.toml_edit_edit_laws.proofs.means.Parts.{Replaces, ReplaceSlots, nothing-replaces, table-replaces, inline-replaces, slot-replaces, list-replaces}
use Rattle.toml_edit_edit_laws.proofs.means.Parts.{tables-replaces, Sees, sees-facts, sees-slot, sees-element}

-- ---- where a path leads

pub meant-front : (p : Path) (path : List Text) (n : Node) → is_front p (meant_from p path n) ≡ true
meant-front p [] n = front-refl p
meant-front p (k ∷ path) n =
    let q : Path = p ++ (step_to k n ∷ []) in
    front-through p q (meant_from q path (or_nothing (child k n))) (front-more p (step_to k n ∷ [])) (meant-front q path (or_nothing (child k n)))

-- and a longer one
pub meant-join : (p : Path) (path rest : List Text) (n x : Node) → item_below path n ≡ Some x
    → meant_from p (path ++ rest) n ≡ meant_from (meant_from p path n) rest x
meant-join p [] rest n x h = ap (meant_from p rest) (some-is n x h)
meant-join p (j ∷ path) rest n x h =
    let a = some-and (item_below path) (child j n) x h in
    let q : Path = p ++ (step_to j n ∷ []) in
    ap (λ o. meant_from q (path ++ rest) (or_nothing o)) a.1 ∙ meant-join q path rest a.0 x a.2
    ∙ ap (λ o. meant_from (meant_from q path (or_nothing o)) rest x) (sym a.1)

-- ---- the part that a segment leads to

-- the slots of a table before and after a change of one item
pub record SlotPart (go : Node → Answer Node) (k : Text) (ss : Slots) (a : Node) (xs : List (Slot Node)) : Type 0 where
  pub key : Key
  pub front : List (Slot Node)
  pub back : List (Slot Node)
  pub new : Node
  pub is : go a ≡ done new
  pub named : k ≡ key.name
  pub before : ss ≡ slots_from (front ++ (keyed key a ∷ back))
  pub after : xs ≡ front ++ (keyed key new ∷ back)
  pub others_front : HaveOtherKeys key.name front
  pub others_back : HaveOtherKeys key.name back
  pub made : IsWellMade a

pub slot-part : (makes : Bool) (k : Key) (go : Node → Answer Node) (ss : Slots) (a : Node) (xs : List (Slot Node)) → SlotsAreWellMade ss
    → present (lookup_slot k.name (slot_list ss)) ≡ Some a
    → change_slot makes k go (slot_list ss) (lookup_slot k.name (slot_list ss)) ≡ done xs → SlotPart go k.name ss a xs
slot-part makes k go ss a xs w at h =
    let p = present-is (lookup_slot k.name (slot_list ss)) a at in
    let m = was-mapped (λ m. changed k.name (with_item m) (slot_list ss)) (go a) xs
    (sym (ap (change_slot makes k go (slot_list ss)) p.is) ∙ h) in
    let fd : Found k.name (keyed p.key a) (slot_list ss) = found k.name ss (keyed p.key a) w p.is in
    record {
      key = p.key;
      front = fd.front;
      back = fd.back;
      new = m.from;
      is = m.is;
      named = fd.named;
      before = sym (slots_from-list ss) ∙ ap slots_from fd.is;
      after = m.gives ∙ fd.change (with_item m.from);
      others_front = fd.others_front;
      others_back = fd.others_back;
      made = fd.made;
    }

-- the elements of an array before and after a change of one
pub record ItemPart (is_one : Node → Bool) (go : Node → Answer Node) (k : Text) (xs : Items) (a : Node) (ys : List Node) : Type 0 where
  pub front : List Node
  pub back : List Node
  pub new : Node
  pub is : go a ≡ done new
  pub kind : is_one a ≡ true
  pub step : element_step is_one k (item_list xs) (element_of is_one k (item_list xs)) ≡ at_element (length (filter is_one front))
  pub before : xs ≡ items_from (front ++ (a ∷ back))
  pub after : ys ≡ front ++ (new ∷ back)
  pub made : IsWellMade a

pub item-part : (is_one : Node → Bool) (go : Node → Answer Node) (k : Text) (xs : Items) (a : Node) (ys : List Node) → ItemsAreWellMade xs
    → second (element_of is_one k (item_list xs)) ≡ Some a
    → change_element go (item_list xs) (element_of is_one k (item_list xs)) ≡ done ys → ItemPart is_one go k xs a ys
item-part is_one go k xs a ys w at h =
    let e = some-second (element_of is_one k (item_list xs)) a at in
    let i : ℕ = e.0 in
    let n = named is_one k (item_list xs) (i, a) e.1 in
    let p = item-parts i (item_list xs) a n.item in
    let m = was-mapped (λ m. written_at i m (item_list xs)) (go a) ys (sym (ap (change_element go (item_list xs)) e.1) ∙ h) in
    let is : xs ≡ items_from (p.before ++ (a ∷ p.after)) = sym (items_from-list xs) ∙ ap items_from p.is in
    record {
      front = p.before;
      back = p.after;
      new = m.from;
      is = m.is;
      kind = n.kind;
      step = ap (element_step is_one k (item_list xs)) e.1
          ∙ ap (λ ns. at_element (length (filter is_one ns)))
          (ap (take i) p.is ∙ ap (λ j. take j (p.before ++ (a ∷ p.after))) (sym p.place) ∙ take-front p.before (a ∷ p.after));
      before = is;
      after = m.gives ∙ ap (written_at i m.from) p.is ∙ change-item p.before a p.after i (λ old. m.from) p.place;
      made = item-made p.before a p.after (subst ItemsAreWellMade is w);
    }

pub table-facts : (v : Bool) (f : TableFields) (ss : Slots) (p : Path) → facts_in v (table f ss) p ≡ fact p a_table ∷ slots_in v ss p
table-facts true f ss p = refl
table-facts false f ss p = refl

pub inline-facts : (v : Bool) (f : InlineFields) (ss : Slots) (p : Path) → facts_in v (inline f ss) p ≡ fact p a_table ∷ slots_in true ss p
inline-facts true f ss p = refl
inline-facts false f ss p = refl

pub list-facts : (v : Bool) (f : ArrayFields) (xs : Items) (p : Path) → facts_in v (list f xs) p ≡ fact p an_array ∷ items_in true xs p 0
list-facts true f xs p = refl
list-facts false f xs p = refl

-- ---- the tree

pub tree-changes : (c : Change) (t : Tree) (m : Node) → Replaces c true false (root_item t) m []
    → Changes c (shown_meaning t) (shown_meaning (with_slots t m))
unfolding shown_meaning
tree-changes c t (table f ss) h = h.facts
tree-changes c t (tables e xs) h = absurd (let z : false ≡ true = h.is_table in cc)
tree-changes c t (leaf s r d) h = absurd (let z : false ≡ true = h.is_table in cc)
tree-changes c t (list f xs) h = absurd (let z : false ≡ true = h.is_table in cc)
tree-changes c t (inline f ss) h = absurd (let z : false ≡ true = h.is_table in cc)
tree-changes c t nothing h = absurd (let z : false ≡ true = h.is_table in cc)

pub sees-tree : (t : Tree) (q : Path) → IsMeant t q → Sees q true false (root_item t) []
unfolding shown_meaning
sees-tree t q m = (m.0, from-contained m.0 (shown_meaning t) m.1, sym (front-is q m.0.path) ∙ m.2)

-- what is never lost is all there
pub same-facts : (c : Change) (fs gs : List Fact) → ((f : Fact) → c.MayGo f → ⊥) → Changes c fs gs → SameFacts gs (c.on fs ++ c.adds)
same-facts c fs gs stays h f = (
  λ m. to-contained f (c.on fs ++ c.adds) (h.0 f (from-contained f gs m)),
  λ m. to-contained f gs (elim (h.1 f (from-contained f (c.on fs ++ c.adds) m)) [ inl a ↦ a | inr g ↦ absurd (stays f g.0) ]),
)

-- ---- what a segment leads to, replaced

-- what stands always is an element
abbrev pub IsOne : Bool → Node → Type 0
IsOne always n = always ≡ true → (is_value_node n || is_table_node n) ≡ true

-- A change that adds facts is one of what is shown.
module _ (c : Change) (q : Path) (inside : is_front q c.place ≡ true) where
  abbrev pub MaySee : Bool → Bool → Node → Path → Type 0
  MaySee always v n p = (c.adds ≡ []) ⊎ Sees q always v n p

  module _ (makes : Bool) (k : Key) (go : Node → Answer Node) (a : Node) where
    -- any change of the part by the rest of the call
    abbrev pub EachReplaces : Path → Type 0
    EachReplaces p =
        (b : Node) (always v : Bool) → go a ≡ done b → IsWellMade a → IsOne always a → MaySee always v a p → Replaces c always v a b p

    part-sees : (always v w : Bool) (n : Node) (p r : Path) (more : List Fact) → facts_in v n p ≡ more
        → ((f : Fact) → is_front q f.path ≡ true → Among f more → Sees q always w a r)
        → (s : Bool) → MaySee s v n p → MaySee always w a r
    part-sees always v w n p r more is go s (inl e) = inl e
    part-sees always v w n p r more is go s (inr x) =
        let y = sees-facts q s v n p x in
        inr (go y.1.0 y.1.2 (subst (Among y.1.0) is y.1.1))

    slots-replace : (v : Bool) (n : Node) (p : Path) (ss : Slots) (xs : List (Slot Node)) (r : SlotPart go k.name ss a xs)
        → (w : Bool) → facts_in w n p ≡ fact p a_table ∷ slots_in v ss p
        → is_front (to_key p k.name) q ≡ true → (s : Bool) → MaySee s w n p → EachReplaces (to_key p k.name)
        → ReplaceSlots c v ss (slots_from xs) p
    slots-replace v n p ss xs r w facts up s see each =
        let at : to_key p k.name ≡ to_key p r.key.name = ap (to_key p) r.named in
        let here : is_front (to_key p r.key.name) q ≡ true = subst (λ z. is_front z q ≡ true) at up in
        let old : Slots = slots_from (r.front ++ (keyed r.key a ∷ r.back)) in
        let sees : MaySee false v a (to_key p r.key.name) =
        part-sees false w v n p (to_key p r.key.name) (fact p a_table ∷ slots_in v old p)
        (facts ∙ ap (λ z. fact p a_table ∷ slots_in v z p) r.before)
        (λ f h m. sees-slot q v p r.key a r.front r.back r.others_front r.others_back here f h m) s see in
        let part : Replaces c false v a r.new (to_key p r.key.name) =
        subst (λ z. MaySee false v a z → Replaces c false v a r.new z) at (λ y. each r.new false v r.is r.made (λ e. absurd (clash e)) y) sees in
        subst (λ z. ReplaceSlots c v z (slots_from xs) p) (sym r.before)
        (subst (λ z. ReplaceSlots c v old (slots_from z) p) (sym r.after)
        (slot-replaces c v p r.key a r.new r.front r.back r.others_front r.others_back
        (front-through (to_key p r.key.name) q c.place here inside) part))
      where
        clash : false ≡ true → ⊥
        clash e = cc

    pub child-replaces : (always v : Bool) (p : Path) (n m : Node) → IsWellMade n → child k.name n ≡ Some a → child_changed makes k go n ≡ done m
        → is_front (p ++ (step_to k.name n ∷ [])) q ≡ true → MaySee always v n p → EachReplaces (p ++ (step_to k.name n ∷ []))
        → Replaces c always v n m p
    child-replaces always v p (table f ss) m w at h up see each =
        let b = was-mapped (λ xs. table f (slots_from xs)) (change_slot makes k go (slot_list ss) (lookup_slot k.name (slot_list ss))) m h in
        let r = slot-part makes k go ss a b.from w at b.is in
        let below = front-through (to_key p k.name) q c.place up inside in
        subst (λ z. Replaces c always v (table f ss) z p) (sym b.gives)
        (table-replaces c always v p f ss (slots_from b.from) (apart-above p c.place (at_key k.name) below)
        (front-through p (to_key p k.name) c.place (front-more p (at_key k.name ∷ [])) below)
        (slots-replace v (table f ss) p ss b.from r v (table-facts v f ss p) up always see each))
    child-replaces always v p (inline f ss) m w at h up see each =
        let b = was-mapped (λ xs. inline f (slots_from xs)) (change_slot makes k go (slot_list ss) (lookup_slot k.name (slot_list ss))) m h in
        let r = slot-part makes k go ss a b.from w at b.is in
        let below = front-through (to_key p k.name) q c.place up inside in
        subst (λ z. Replaces c always v (inline f ss) z p) (sym b.gives)
        (inline-replaces c always v p f ss (slots_from b.from) (apart-above p c.place (at_key k.name) below)
        (front-through p (to_key p k.name) c.place (front-more p (at_key k.name ∷ [])) below)
        (slots-replace true (inline f ss) p ss b.from r v (inline-facts v f ss p) up always see each))
    child-replaces always v p (list f xs) m w at h up see each =
        let b = was-mapped (λ ns. list f (items_from ns)) (change_element go (item_list xs) (element_of is_value_node k.name (item_list xs))) m h in
        let r = item-part is_value_node go k.name xs a b.from w at b.is in
        let n : ℕ = count true r.front in
        let here : is_front (to_element p n) q ≡ true = subst (λ z. is_front (p ++ (z ∷ [])) q ≡ true) r.step up in
        let below = front-through (to_element p n) q c.place here inside in
        let old : Items = items_from (r.front ++ (a ∷ r.back)) in
        let sees : MaySee true true a (to_element p n) =
        part-sees true v true (list f xs) p (to_element p n) (fact p an_array ∷ items_in true old p 0)
        (list-facts v f xs p ∙ ap (λ z. fact p an_array ∷ items_in true z p 0) r.before)
        (λ g x y. sees-element q true p r.front a r.back r.kind here g x y) always see in
        let part : Replaces c true true a r.new (to_element p n) =
        subst (λ z. MaySee true true a (p ++ (z ∷ [])) → Replaces c true true a r.new (p ++ (z ∷ []))) r.step
        (λ y. each r.new true true r.is r.made (λ e. ap (λ z. z || is_table_node a) r.kind) y) sees in
        subst (λ z. Replaces c always v (list f xs) z p) (sym (b.gives ∙ ap (λ z. list f (items_from z)) r.after))
        (subst (λ z. Replaces c always v (list f z) (list f (items_from (r.front ++ (r.new ∷ r.back)))) p) (sym r.before)
        (list-replaces c always v p f r.front a r.new r.back (apart-above p c.place (at_element n) below) below r.kind part))
    child-replaces always true p (tables e xs) m w at h up see each =
        let b = was-mapped (λ ns. tables e (items_from ns)) (change_element go (item_list xs) (element_of is_table_node k.name (item_list xs))) m h in
        subst (λ z. Replaces c always true (tables e xs) z p) (sym b.gives)
        (nothing-replaces c always true (tables e xs) (tables e (items_from b.from)) p (none see) refl refl refl refl refl)
      where
        none : MaySee always true (tables e xs) p → c.adds ≡ []
        none (inl e) = e
        none (inr s) = absurd (sees-facts q always true (tables e xs) p s).1.1
    child-replaces always false p (tables e xs) m w at h up see each =
        let b = was-mapped (λ ns. tables e (items_from ns)) (change_element go (item_list xs) (element_of is_table_node k.name (item_list xs))) m h in
        let r = item-part is_table_node go k.name xs a b.from w at b.is in
        let n : ℕ = count false r.front in
        let here : is_front (to_element p n) q ≡ true = subst (λ z. is_front (p ++ (z ∷ [])) q ≡ true) r.step up in
        let below = front-through (to_element p n) q c.place here inside in
        let old : Items = items_from (r.front ++ (a ∷ r.back)) in
        let sees : MaySee true false a (to_element p n) =
        part-sees true false false (tables e xs) p (to_element p n) (fact p an_array ∷ items_in false old p 0)
        (ap (λ z. fact p an_array ∷ items_in false z p 0) r.before)
        (λ g x y. sees-element q false p r.front a r.back r.kind here g x y) always see in
        let part : Replaces c true false a r.new (to_element p n) =
        subst (λ z. MaySee true false a (p ++ (z ∷ [])) → Replaces c true false a r.new (p ++ (z ∷ []))) r.step
        (λ y. each r.new true false r.is r.made (λ e. ap (λ z. is_value_node a || z) r.kind ∙ or-true (is_value_node a)) y) sees in
        subst (λ z. Replaces c always false (tables e xs) z p) (sym (b.gives ∙ ap (λ z. tables e (items_from z)) r.after))
        (subst (λ z. Replaces c always false (tables e z) (tables e (items_from (r.front ++ (r.new ∷ r.back)))) p) (sym r.before)
        (tables-replaces c always p e r.front a r.new r.back (apart-above p c.place (at_element n) below) below r.kind part))
    child-replaces always v p (leaf s r d) m w at h up see each = absurd cc
    child-replaces always v p nothing m w at h up see each = absurd cc

  -- ---- down a path

  module _ {A : Type 0} (key_of : A → Key) (makes : Bool) (run : List A → Node → Answer Node) (rest : List A)
      (goes_down : (k : A) (path : List A) (n : Node) → run (k ∷ (path ++ rest)) n ≡ child_changed makes (key_of k) (run (path ++ rest)) n)
      (x : Node)
      (base : (y : Node) (always v : Bool) → run rest x ≡ done y → IsWellMade x → IsOne always x → MaySee always v x q
      → Replaces c always v x y q) where
    pub path-replaces : (path : List A) (always v : Bool) (n m : Node) (p : Path) → IsWellMade n → IsOne always n
        → item_below (map (λ k. (key_of k).name) path) n ≡ Some x → q ≡ meant_from p (map (λ k. (key_of k).name) path) n
        → MaySee always v n p → run (path ++ rest) n ≡ done m → Replaces c always v n m p
    path-replaces [] always v n m p w one at is see h =
        let same : x ≡ n = sym (some-is n x at) in
        subst (λ (z : Path). Replaces c always v n m z) is
        (subst (λ (z : Node). Replaces c always v z m q) same
        (base m always v (ap (run rest) same ∙ h) (subst IsWellMade (sym same) w) (subst (IsOne always) (sym same) one)
        (subst (λ (z : Node). MaySee always v z q) (sym same) (subst (λ (z : Path). MaySee always v n z) (sym is) see))))
    path-replaces (k ∷ path) always v n m p w one at is see h =
        let names : List Text = map (λ k. (key_of k).name) path in
        let name : Text = (key_of k).name in
        let a = some-and (item_below names) (child name n) x at in
        let r : Path = p ++ (step_to name n ∷ []) in
        let on : q ≡ meant_from r names a.0 = is ∙ ap (λ o. meant_from r names (or_nothing o)) a.1 in
        child-replaces makes (key_of k) (run (path ++ rest)) a.0 always v p n m w a.1 (sym (goes_down k path n) ∙ h)
        (subst (λ z. is_front r z ≡ true) (sym on) (meant-front r names a.0)) see
        (λ b s u g wa oa sa. path-replaces path s u a.0 b r wa oa a.2 on sa g)

    pub call-changes : (t u : Tree) (path : List A) → SlotsAreWellMade t.slots → item_at (map (λ k. (key_of k).name) path) t ≡ Some x
        → q ≡ meant_at t (map (λ k. (key_of k).name) path) → MaySee true false (root_item t) []
        → mapped (with_slots t) (run (path ++ rest) (root_item t)) ≡ done u → Changes c (shown_meaning t) (shown_meaning u)
    call-changes t u path made at is see h =
        let m = was-mapped (with_slots t) (run (path ++ rest) (root_item t)) u h in
        subst (λ (z : Tree). Changes c (shown_meaning t) (shown_meaning z)) (sym m.gives)
        (tree-changes c t m.from (path-replaces path true false (root_item t) m.from [] made (λ e. refl) at is see m.is))

-- So it is with a call whose path is of texts, and makes nothing.
pub text-changes : (c : Change) (t u : Tree) (path : List Text) (inside : is_front (meant_at t path) c.place ≡ true)
    (run : List Text → Node → Answer Node) (rest : List Text)
    → ((k : Text) (q : List Text) (n : Node) → run (k ∷ (q ++ rest)) n ≡ child_changed false (new_key k) (run (q ++ rest)) n)
    → (x : Node)
    → ((y : Node) (always v : Bool) → run rest x ≡ done y → IsWellMade x → IsOne always x → MaySee c (meant_at t path) inside always v x (meant_at t path)
    → Replaces c always v x y (meant_at t path))
    → SlotsAreWellMade t.slots → item_at path t ≡ Some x → MaySee c (meant_at t path) inside true false (root_item t) []
    → mapped (with_slots t) (run (path ++ rest) (root_item t)) ≡ done u → Changes c (shown_meaning t) (shown_meaning u)
text-changes c t u path inside run rest down x base made at see h =
    call-changes c (meant_at t path) inside new_key false run rest down x base t u path made
    (ap (λ z. item_at z t) (made-names path) ∙ at) (ap (meant_at t) (sym (made-names path))) see h
