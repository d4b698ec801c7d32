-- The place of a path, by the way that it goes.
use Rattle.std.proofs.Common.{◌≡◌, refl, sym, ◌∙◌, ap, subst, true, false, List, [], ◌∷◌, ◌++◌, append_assoc, length, take, Option, Some, None}
use Rattle.toml_edit_model.specs.HeaderOrder.{Visit, visit_of}
use Rattle.toml_edit_model.specs.Keys.{names}
use Rattle.toml_edit_model.specs.Lists.{item_list, items_from, slot_list}
use Rattle.toml_edit_model.specs.Paths.{Path, to_element, to_key}
use Rattle.toml_edit_model.specs.Shown.{is_table_node}
use Rattle.toml_edit_model.specs.Slots.{Slot, keyed, lookup_slot}
use Rattle.toml_edit_model.specs.Text.{Text}
use Rattle.toml_edit_model.specs.Tree.{Extent, Items, ItemsAreWellMade, Key, Node, SlotsAreWellMade, Tree, inline, is_value_node, leaf, list, nothing, table, tables}
use Rattle.toml_edit_laws.specs.Locality.{Leads, Turn, element_count, into_element, into_table, root_visit}
use Rattle.toml_edit_laws.proofs.locality.Elements.{item-made}
use Rattle.toml_edit_laws.proofs.locality.Slots.{Found, found, items_from-list}
use Rattle.toml_edit_laws.proofs.locality.Sound.{leads-made}
use Rattle.toml_edit_edit_laws.specs.Commands.{element_of}
use Rattle.toml_edit_edit_laws.specs.CommandLaws.{Goes, NamesTable}
use Rattle.toml_edit_edit_laws.specs.Places.{element_or, element_path, item_or, place_from, place_of}
use Rattle.toml_edit_edit_laws.proofs.commands.Going.{element-there}
use Rattle.toml_edit_edit_laws.proofs.path_calls.Spots.{GoesOn, Spot, at_element, at_slot, in_value}

pub names-join : (path more : List Key) → names (path ++ more) ≡ names path ++ names more
names-join [] more = refl
names-join (k ∷ path) more = ap (λ xs. k.name ∷ xs) (names-join path more)

-- ---- ends

pub value-place : (q : Path) (path : List Text) (n : Node) → is_value_node n ≡ true → place_from q path n ≡ q
value-place q [] n h = refl
value-place q (k ∷ path) (leaf s r d) h = refl
value-place q (k ∷ path) (list f xs) h = refl
value-place q (k ∷ path) (inline f ss) h = refl
value-place q (k ∷ path) (table f ss) h = absurd cc
value-place q (k ∷ path) (tables e xs) h = absurd cc
value-place q (k ∷ path) nothing h = absurd cc

pub nothing-place : (q : Path) (path : List Text) → place_from q path nothing ≡ q
nothing-place q [] = refl
nothing-place q (k ∷ path) = refl

pub take-front : (a b : List Node) → take (length a) (a ++ b) ≡ a
take-front [] b = refl
take-front (x ∷ a) b = ap (λ z. x ∷ z) (take-front a b)

element-step : (q : Path) (x : Text) (front : List Text) (j : Text) (rest : List Text) (e : Extent) (xs : Items)
    → place_from q (x ∷ (front ++ (j ∷ rest))) (tables e xs)
    ≡ place_from (element_path q (item_list xs) (element_of is_table_node x (item_list xs))) (front ++ (j ∷ rest))
    (element_or (element_of is_table_node x (item_list xs)))
element-step q x [] j rest e xs = refl
element-step q x (i ∷ front) j rest e xs = refl

-- ---- along a way

pub along-place : (way : List Turn) (front : List Text) (j : Text) (rest : List Text) (s v : Visit) → Goes way front → Leads way s v
    → SlotsAreWellMade s.slots
    → place_from s.path (front ++ (j ∷ rest)) (table s.fields s.slots) ≡ place_from v.path (j ∷ rest) (table v.fields v.slots)
along-place [] [] j rest s v goes leads made = ap (λ (x : Visit). place_from x.path (j ∷ rest) (table x.fields x.slots)) leads
along-place [] (i ∷ front) j rest s v goes leads made = absurd goes
along-place (into_table k ∷ way) [] j rest s v goes leads made = absurd goes
along-place (into_table k ∷ way) (i ∷ front) j rest s v goes (l, f, ss, eq, more) made =
    let fd : Found k (keyed l (table f ss)) (slot_list s.slots) = found k s.slots (keyed l (table f ss)) made eq in
    let at : lookup_slot i (slot_list s.slots) ≡ Some (keyed l (table f ss)) = ap (λ x. lookup_slot x (slot_list s.slots)) goes.0 ∙ eq in
    let name : to_key s.path i ≡ to_key s.path l.name = ap (to_key s.path) (goes.0 ∙ fd.named) in
    ap (λ o. place_from (to_key s.path i) (front ++ (j ∷ rest)) (item_or o)) at
    ∙ ap (λ q. place_from q (front ++ (j ∷ rest)) (table f ss)) name
    ∙ along-place way front j rest (visit_of (to_key s.path l.name) (s.keys ++ (l ∷ [])) false f ss) v goes.1 more fd.made
along-place (into_element k i ∷ way) [] j rest s v goes leads made = absurd goes
along-place (into_element k i ∷ way) (a ∷ []) j rest s v goes leads made = absurd goes
along-place (into_element k i ∷ way) (a ∷ x ∷ front) j rest s v goes (l, e, xs, before, f, ss, after, eq, items, place, more) made =
    let fd : Found k (keyed l (tables e xs)) (slot_list s.slots) = found k s.slots (keyed l (tables e xs)) made eq in
    let at : lookup_slot a (slot_list s.slots) ≡ Some (keyed l (tables e xs)) = ap (λ z. lookup_slot z (slot_list s.slots)) goes.0 ∙ eq in
    let name : to_key s.path a ≡ to_key s.path l.name = ap (to_key s.path) (goes.0 ∙ fd.named) in
    let well : SlotsAreWellMade ss =
    item-made before (table f ss) after (subst ItemsAreWellMade (sym (items_from-list xs) ∙ ap items_from items) fd.made) in
    let element : element_of is_table_node x (item_list xs) ≡ Some (i, table f ss) =
    element-there is_table_node x i (item_list xs) before (table f ss) after goes.1 items place refl in
    let count : element_count (take i (item_list xs)) ≡ element_count before =
    ap (λ ys. element_count (take i ys)) items ∙ ap (λ n. element_count (take n (before ++ (table f ss ∷ after)))) (sym place)
    ∙ ap element_count (take-front before (table f ss ∷ after)) in
    ap (λ o. place_from (to_key s.path a) (x ∷ (front ++ (j ∷ rest))) (item_or o)) at
    ∙ element-step (to_key s.path a) x front j rest e xs
    ∙ ap (λ o. place_from (element_path (to_key s.path a) (item_list xs) o) (front ++ (j ∷ rest)) (element_or o)) element
    ∙ ap (λ n. place_from (to_element (to_key s.path a) n) (front ++ (j ∷ rest)) (table f ss)) count
    ∙ ap (λ q. place_from (to_element q (element_count before)) (front ++ (j ∷ rest)) (table f ss)) name
    ∙ along-place way front j rest (visit_of (to_element (to_key s.path l.name) (element_count before)) (s.keys ++ (l ∷ [])) true f ss) v goes.2
    more well

-- a path that goes the way to a table, and from there to a key
pub goes-place : (t : Tree) (way : List Turn) (path front : List Text) (k : Text) (inner : List Text) (v : Visit) (o : Option (Slot Node))
    → SlotsAreWellMade t.slots → Goes way front → path ≡ front ++ (k ∷ inner) → Leads way (root_visit t) v
    → lookup_slot k (slot_list v.slots) ≡ o → place_from (to_key v.path k) inner (item_or o) ≡ to_key v.path k
    → place_of t path ≡ to_key v.path k
goes-place t way path front k inner v o made goes is leads there ends =
    ap (place_of t) is ∙ along-place way front k inner (root_visit t) v goes leads made
    ∙ ap (λ x. place_from (to_key v.path k) inner (item_or x)) there ∙ ends

-- a key of a named table
pub key-place : (t : Tree) (path : List Text) (k : Text) (v : Visit) → SlotsAreWellMade t.slots → NamesTable t path v
    → place_of t (path ++ (k ∷ [])) ≡ to_key v.path k
key-place t path k v made n =
    goes-place t n.way (path ++ (k ∷ [])) path k [] v (lookup_slot k (slot_list v.slots)) made n.goes refl n.leads refl refl

-- a new key of a named table, or below one
pub new-place : (t : Tree) (path : List Key) (w : Visit) (k : Key) (more : List Key) → SlotsAreWellMade t.slots → NamesTable t (names path) w
    → lookup_slot k.name (slot_list w.slots) ≡ None → place_of t (names (path ++ (k ∷ more))) ≡ to_key w.path k.name
new-place t path w k more made n is_new =
    goes-place t n.way (names (path ++ (k ∷ more))) (names path) k.name (names more) w None made n.goes (names-join path (k ∷ more)) n.leads is_new
    (nothing-place (to_key w.path k.name) (names more))

-- ---- where a path leaves the walk

spot-end : (q : Path) (top found : Node) (inner : List Text) → GoesOn top found inner → place_from q inner top ≡ q
spot-end q top found [] (at_slot is) = refl
spot-end q top found (x ∷ []) (at_element y e) = ap (place_from q (y ∷ [])) e.is
spot-end q top found (x ∷ inner) (in_value y rest is) = value-place q (y ∷ rest) top is

module _ (t : Tree) (made : SlotsAreWellMade t.slots) (path : List Text) (found_there : Node) (p : Spot (root_visit t) path found_there) where
  name : p.segment ≡ p.key.name
  name = (found p.segment p.visit.slots (keyed p.key p.top) (leads-made p.way (root_visit t) p.visit made p.leads) p.there).named

  pub spot-place : place_of t path ≡ to_key p.visit.path p.key.name
  spot-place =
      goes-place t p.way path p.front p.segment p.inner p.visit (Some (keyed p.key p.top)) made p.goes p.path_is p.leads p.there
      (spot-end (to_key p.visit.path p.segment) p.top found_there p.inner p.on)
      ∙ ap (to_key p.visit.path) name

  -- any path that goes into a value has its place
  pub spot-inside : is_value_node p.top ≡ true → (more : List Text) → place_of t (p.front ++ (p.segment ∷ more)) ≡ to_key p.visit.path p.key.name
  spot-inside value more =
      goes-place t p.way (p.front ++ (p.segment ∷ more)) p.front p.segment more p.visit (Some (keyed p.key p.top)) made p.goes refl p.leads p.there
      (value-place (to_key p.visit.path p.segment) more p.top value)
      ∙ ap (to_key p.visit.path) name

  -- so has a longer path
  pub spot-further : is_value_node p.top ≡ true → (more : List Text) → place_of t (path ++ more) ≡ to_key p.visit.path p.key.name
  spot-further value more =
      ap (place_of t) (ap (λ (q : List Text). q ++ more) p.path_is ∙ append_assoc p.front (p.segment ∷ p.inner) more)
      ∙ spot-inside value (p.inner ++ more)
