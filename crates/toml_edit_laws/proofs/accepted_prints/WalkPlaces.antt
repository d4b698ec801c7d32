-- Where the tables that the walk enters stand: the way to each, along keys and elements, and what stands at each step of it.
use Rattle.std.proofs.Common.{◌≡◌, refl, ◌∙◌, ap, ℕ, suc, ◌+◌, arith, Bool, true, false, List, [], ◌∷◌, ◌++◌, append_assoc, inl, inr}
use Rattle.std.specs.Prelude.{if◌then◌else◌}
use Rattle.std.specs.List.{AllByRecursion}
use Rattle.toml_edit_model.specs.Paths.{at_key, at_element, Path, to_key, to_element}
use Rattle.toml_edit_model.specs.Tree.{Key, TableFields, Node, nothing, leaf, list, inline, table, tables, Items, no_items, item, Slots}
use Rattle.toml_edit_model.specs.Tree.{no_slots, slot, Tree, IsWellMade, ItemsAreWellMade, SlotsAreWellMade}
use Rattle.toml_edit_model.specs.HeaderOrder.{Visit, visit_of, node_walk, items_walk, slots_walk, walk}
use Rattle.toml_edit_laws.proofs.common.Members.{Among, among-left, among-right}
use Rattle.toml_edit_laws.proofs.accepted_prints.Spots.{Spot, dotted, headed, arrayed, slots_spot, tree_spot, suits, Sees, SeesNode}
use Rattle.toml_edit_laws.proofs.accepted_prints.Spots.{SeesItems, sees-first, sees-rest, sees-here, tree-sees}
use Rattle.toml_edit_laws.proofs.common.Each.{all-append}
use Rattle.toml_edit_model.specs.Roles.{implied_role}

-- the way from the root to a table: into a table under a key, or into an element of the array of tables under a key
pub data Trail : Type 0 where
  start : Trail
  to_table : Trail → Key → Trail
  to_item : Trail → Key → ℕ → Trail

abbrev pub trail_path : Trail → Path
trail_path start = []
trail_path (to_table r k) = to_key (trail_path r) k.name
trail_path (to_item r k n) = to_element (to_key (trail_path r) k.name) n

abbrev pub trail_keys : Trail → List Key
trail_keys start = []
trail_keys (to_table r k) = trail_keys r ++ (k ∷ [])
trail_keys (to_item r k n) = trail_keys r ++ (k ∷ [])

module _ (K : Path → Spot) (W : List Visit) where
  -- an element at the path is among the visits
  pub record Entered (p : Path) : Type 0 where
    pub visit : Visit
    pub among : Among visit W
    pub path : visit.path ≡ p
    pub is_element : visit.is_element ≡ true

  -- at each step of the way stands a table, or an array of tables and an element of it
  abbrev pub Led : Trail → Type 0
  Led start = Unit {0}
  Led (to_table r k) = Led r × (suits implied_role (K (to_key (trail_path r) k.name)) ≡ true)
  Led (to_item r k n) = Led r × (K (to_key (trail_path r) k.name) ≡ arrayed) × Entered (to_element (to_key (trail_path r) k.name) n)

  -- the visit is of an element where its way ends in one, and else of a table, headed unless it is dotted
  abbrev pub EndsAs : Visit → Trail → Type 0
  EndsAs v start = v.is_element ≡ false
  EndsAs v (to_table r k) = (v.is_element ≡ false) × (v.fields.is_dotted ≡ false → K v.path ≡ headed)
  EndsAs v (to_item r k n) = v.is_element ≡ true

  -- the visit with its way, and its slots as the map sees them
  pub record IsAt (v : Visit) : Type 0 where
    pub trail : Trail
    pub path : v.path ≡ trail_path trail
    pub keys : v.keys ≡ trail_keys trail
    pub led : Led trail
    pub ends : EndsAs v trail
    pub sees : v.fields.is_dotted ≡ false → Sees K v.path v.slots 0

  abbrev Within : List Visit → Type 0
  Within vs = (v : Visit) → Among v vs → Among v W

  within-left : (xs ys : List Visit) → Within (xs ++ ys) → Within xs
  within-left xs ys h v a = h v (among-left v xs ys a)

  within-right : (xs ys : List Visit) → Within (xs ++ ys) → Within ys
  within-right xs ys h v a = h v (among-right v xs ys a)

  table-suits : (b : Bool) → suits implied_role (if b then dotted else headed) ≡ true
  table-suits true = refl
  table-suits false = refl

  -- an undotted table's slots, and what stands at its path
  undotted-sees : (p : Path) (f : TableFields) (ss : Slots) (d : ℕ) → SeesNode K p (table f ss) d → f.is_dotted ≡ false → Sees K p ss 0
  undotted-sees p f ss d h e k q g = h (at_key k ∷ q) ∙ ap (λ b. slots_spot ss (if b then d else 0) k q) e

  undotted-headed : (p : Path) (f : TableFields) (ss : Slots) (d : ℕ) → SeesNode K p (table f ss) d → f.is_dotted ≡ false → K p ≡ headed
  undotted-headed p f ss d h e = sees-here K p (table f ss) d h ∙ ap (λ b. if b then dotted else headed) e

  items-rest : (p : Path) (f : TableFields) (ss : Slots) (xs : Items) (i : ℕ) → SeesItems K p (item (table f ss) xs) i
      → SeesItems K p xs (suc i)
  items-rest p f ss xs i h m q = ap (λ j. K (p ++ (at_element j ∷ q))) (let same : suc i + m ≡ i + suc m = omega arith in same)
      ∙ h (suc m) q

  items-first : (p : Path) (f : TableFields) (ss : Slots) (xs : Items) (i : ℕ) → SeesItems K p (item (table f ss) xs) i
      → SeesNode K (to_element p i) (table f ss) 0
  items-first p f ss xs i h q =
      ap K (append_assoc p (at_element i ∷ []) q)
      ∙ ap (λ m. K (p ++ (at_element m ∷ q))) (let same : i ≡ i + 0 = omega arith in same) ∙ h 0 q

  mutual
    node-at : (n : Node) (r : Trail) (k : Key) (d : ℕ) → IsWellMade n → Led r → SeesNode K (to_key (trail_path r) k.name) n d
        → Within (node_walk n (to_key (trail_path r) k.name) (trail_keys r ++ (k ∷ [])) false)
        → AllByRecursion IsAt (node_walk n (to_key (trail_path r) k.name) (trail_keys r ++ (k ∷ [])) false)
    node-at (table f ss) r k d made led sees within =
        let p = to_key (trail_path r) k.name in
        let here : Led (to_table r k) = (led, ap (suits implied_role) (sees-here K p (table f ss) d sees) ∙ table-suits f.is_dotted) in (
          record {
            trail = to_table r k;
            path = refl;
            keys = refl;
            led = here;
            ends = (refl, λ e. undotted-headed p f ss d sees e);
            sees = λ e. undotted-sees p f ss d sees e;
          },
          slots-at ss (to_table r k) (if f.is_dotted then d else 0) made here (λ l q g. sees (at_key l ∷ q)) (λ v a. within v (inr a)),
        )
    node-at (tables e xs) r k d made led sees within =
        let p = to_key (trail_path r) k.name in
        items-at xs r k 0 made led (sees-here K p (tables e xs) d sees) (λ m q. ap (λ j. K (p ++ (at_element j ∷ q))) (let same : 0 + m
        ≡ m = omega arith in same) ∙ sees (at_element m ∷ q)) within
    node-at (leaf s x y) r k d made led sees within = tt
    node-at (list f xs) r k d made led sees within = tt
    node-at (inline f ss) r k d made led sees within = tt
    node-at nothing r k d made led sees within = tt

    items-at : (xs : Items) (r : Trail) (k : Key) (i : ℕ) → ItemsAreWellMade xs → Led r → K (to_key (trail_path r) k.name) ≡ arrayed
        → SeesItems K (to_key (trail_path r) k.name) xs i
        → Within (items_walk xs (to_key (trail_path r) k.name) (trail_keys r ++ (k ∷ [])) i)
        → AllByRecursion IsAt (items_walk xs (to_key (trail_path r) k.name) (trail_keys r ++ (k ∷ [])) i)
    items-at no_items r k i made led array sees within = tt
    items-at (item (table f ss) xs) r k i made led array sees within =
        let p = to_key (trail_path r) k.name in
        let ks = trail_keys r ++ (k ∷ []) in
        let node = items-first p f ss xs i sees in
        let mine = visit_of (to_element p i) ks true f ss in
        let below = slots_walk ss (to_element p i) ks in
        let rest = items_walk xs p ks (suc i) in
        let entered : Entered (to_element p i) = record { visit = mine; among = within mine (inl refl); path = refl; is_element = refl } in
        let here : Led (to_item r k i) = (led, array, entered) in (
          record {
            trail = to_item r k i;
            path = refl;
            keys = refl;
            led = here;
            ends = refl;
            sees = λ e. undotted-sees (to_element p i) f ss 0 node e;
          },
          all-append IsAt below rest
              (slots-at ss (to_item r k i) (if f.is_dotted then 0
              else 0) made.0 here (λ l q g. node (at_key l ∷ q)) (λ v a. within v (inr (among-left v below rest a))))
              (items-at xs r k (suc i) made.1 led array (items-rest p f ss xs i sees) (λ v a. within v (inr (among-right v below rest a)))),
        )
    items-at (item (tables e us) xs) r k i made led array sees within = items-at xs r k i made.1 led array sees within
    items-at (item (leaf s x y) xs) r k i made led array sees within = items-at xs r k i made.1 led array sees within
    items-at (item (list f us) xs) r k i made led array sees within = items-at xs r k i made.1 led array sees within
    items-at (item (inline f us) xs) r k i made led array sees within = items-at xs r k i made.1 led array sees within
    items-at (item nothing xs) r k i made led array sees within = items-at xs r k i made.1 led array sees within

    slots-at : (ss : Slots) (r : Trail) (d : ℕ) → SlotsAreWellMade ss → Led r → Sees K (trail_path r) ss d
        → Within (slots_walk ss (trail_path r) (trail_keys r))
        → AllByRecursion IsAt (slots_walk ss (trail_path r) (trail_keys r))
    slots-at no_slots r d made led sees within = tt
    slots-at (slot k n ss) r d made led sees within =
        let first = node_walk n (to_key (trail_path r) k.name) (trail_keys r ++ (k ∷ [])) false in
        let rest = slots_walk ss (trail_path r) (trail_keys r) in
        all-append IsAt first rest
        (node-at n r k (suc d) made.2 led (sees-first K (trail_path r) k n ss d sees) (within-left first rest within))
        (slots-at ss r d made.3 led (sees-rest K (trail_path r) k n ss d made.0 sees) (within-right first rest within))

-- each table of the walk of a tree, by the map of its paths
pub walk-at : (t : Tree) → SlotsAreWellMade t.slots → AllByRecursion (IsAt (tree_spot t.slots) (walk t)) (walk t)
walk-at t made =
    let K = tree_spot t.slots in
    let root : IsAt K (walk t) (visit_of [] [] false t.root t.slots) =
    record { trail = start; path = refl; keys = refl; led = tt; ends = refl; sees = λ e. tree-sees t.slots } in
    (root, slots-at K (walk t) t.slots start 0 made tt (tree-sees t.slots) (λ v a. inr a))
