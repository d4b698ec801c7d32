-- The slots of the table of a block, taken out of slots that are put in order, and put into them; and what stands in the way of a path
-- there.
use Rattle.std.proofs.Common.{◌≡◌, ℕ, Bool, true, false, refl, sym, ◌∙◌, ap, subst, List, [], ◌∷◌, Option, Some, None}
use Rattle.std.specs.Prelude.{not, ◌&&◌, if◌then◌else◌, option_map, option_and_then}
use Rattle.toml_edit_model.specs.Text.{Text}
use Rattle.toml_edit_model.specs.Paths.{Mention, Source}
use Rattle.toml_edit_model.specs.Faults.{Fault}
use Rattle.toml_edit_model.specs.Tree.{Node, nothing, leaf, list, inline, table, tables, Items, no_items, item, Slots}
use Rattle.toml_edit_laws.specs.InlineTree.{node_at, with_node}
use Rattle.toml_edit_laws.specs.TableClash.{extend_clash, pass_clash, clash_in_last, line_clash, header_clash, table_way_fault}
use Rattle.toml_edit_laws.specs.Building.{last_slots, block_slots, slots_along}
use Rattle.toml_edit_laws.specs.AddPath.{Addition, a_value, a_table, an_element, path_clash, clash_inside, last_key_clash, put_last, put_in}
use Rattle.toml_edit_laws.specs.AddPath.{put_under, put_along}
use Rattle.toml_edit_laws.specs.PlaceOrder.{node_by_place, items_by_place, slots_by_place, NodeIsPlaced, ItemsArePlaced, ArePlaced}
use Rattle.toml_edit_laws.proofs.common.OptionSteps.{bind_some, some-is}
use Rattle.toml_edit_laws.proofs.building.OneKey.{last-clash, there-clash}
use Rattle.toml_edit_laws.proofs.building.PlaceSlots.{node-order, put-order}
use Rattle.toml_edit_laws.proofs.building.PlacePaths.{found-placed}
use Rattle.toml_edit_laws.proofs.building.PlaceKept.{put-placed}

-- ---- the slots at an item

last-found : (xs : Items) → last_slots (items_by_place xs) ≡ option_map slots_by_place (last_slots xs)
last-found no_items = refl
last-found (item nothing no_items) = refl
last-found (item (leaf s x d) no_items) = refl
last-found (item (list f ys) no_items) = refl
last-found (item (inline f us) no_items) = refl
last-found (item (tables e ys) no_items) = refl
last-found (item (table f us) no_items) = refl
last-found (item n (item m xs)) = last-found (item m xs)

in-found : (n : Node) → block_slots (node_by_place n) ≡ option_map slots_by_place (block_slots n)
in-found nothing = refl
in-found (leaf s x d) = refl
in-found (list f xs) = refl
in-found (inline f us) = refl
in-found (table f us) = refl
in-found (tables e xs) = last-found xs

last-is-placed : (end : ℕ) (xs : Items) (us : Slots) → last_slots xs ≡ Some us → ItemsArePlaced end xs → ArePlaced end us
last-is-placed end no_items us e p = absurd cc
last-is-placed end (item nothing no_items) us e p = absurd cc
last-is-placed end (item (leaf s x d) no_items) us e p = absurd cc
last-is-placed end (item (list f ys) no_items) us e p = absurd cc
last-is-placed end (item (inline f vs) no_items) us e p = absurd cc
last-is-placed end (item (tables x ys) no_items) us e p = absurd cc
last-is-placed end (item (table f vs) no_items) us e p = subst (ArePlaced end) (some-is vs us e) p.0
last-is-placed end (item n (item m xs)) us e p = last-is-placed end (item m xs) us e p.1

in-is-placed : (end : ℕ) (n : Node) (us : Slots) → block_slots n ≡ Some us → NodeIsPlaced end n → ArePlaced end us
in-is-placed end nothing us e p = absurd cc
in-is-placed end (leaf s x d) us e p = absurd cc
in-is-placed end (list f xs) us e p = absurd cc
in-is-placed end (inline f vs) us e p = absurd cc
in-is-placed end (table f vs) us e p = subst (ArePlaced end) (some-is vs us e) p
in-is-placed end (tables x xs) us e p = last-is-placed end xs us e p

-- ---- along the keys of a block

-- The slots at some keys, in order, are those there where all are put in order.
pub along_in_order : (ks : List Text) (end : ℕ) (ss : Slots) → ArePlaced end ss → slots_along ks (slots_by_place ss)
    ≡ option_map slots_by_place (slots_along ks ss)
along_in_order [] end ss p = refl
along_in_order (k ∷ ks) end ss p =
    ap (λ (o : Option Node). option_and_then (slots_along ks) (option_and_then block_slots o)) (node-order end k ss p)
    ∙ by_node (node_at k ss) (λ n at us e. along_in_order ks end us (in-is-placed end n us e (found-placed end k ss n at p)))
  where
    by_slots : (o : Option Slots) → ((us : Slots) → o ≡ Some us → slots_along ks (slots_by_place us)
        ≡ option_map slots_by_place (slots_along ks us))
        → option_and_then (slots_along ks) (option_map slots_by_place o) ≡ option_map slots_by_place (option_and_then (slots_along ks) o)
    by_slots None h = refl
    by_slots (Some us) h = h us refl

    by_node : (o : Option Node)
        → ((n : Node) → o ≡ Some n → (us : Slots) → block_slots n ≡ Some us → slots_along ks (slots_by_place us)
        ≡ option_map slots_by_place (slots_along ks us))
        → option_and_then (slots_along ks) (option_and_then block_slots (option_map node_by_place o))
        ≡ option_map slots_by_place (option_and_then (slots_along ks) (option_and_then block_slots o))
    by_node None h = refl
    by_node (Some n) h = ap (option_and_then (slots_along ks)) (in-found n) ∙ by_slots (block_slots n) (λ us e. h n refl us e)

-- They are placed, where all are.
pub along_placed : (ks : List Text) (end : ℕ) (ss us : Slots) → slots_along ks ss ≡ Some us → ArePlaced end ss → ArePlaced end us
along_placed [] end ss us e p = subst (ArePlaced end) (some-is ss us e) p
along_placed (k ∷ ks) end ss us e p =
    let (vs, there, further) = bind_some (option_and_then block_slots (node_at k ss)) (slots_along ks) us e in
    let (n, at, within) = bind_some (node_at k ss) block_slots vs there in
    along_placed ks end vs us further (in-is-placed end n vs within (found-placed end k ss n at p))

-- ---- others put there

last-put-order : (moving put : Slots → Slots) (end : ℕ) (xs : Items)
    → ((us : Slots) → ArePlaced end us → moving (slots_by_place us) ≡ slots_by_place (put us))
    → ItemsArePlaced end xs → put_last moving (items_by_place xs) ≡ items_by_place (put_last put xs)
last-put-order moving put end no_items h p = refl
last-put-order moving put end (item nothing no_items) h p = refl
last-put-order moving put end (item (leaf s x d) no_items) h p = refl
last-put-order moving put end (item (list f ys) no_items) h p = refl
last-put-order moving put end (item (inline f us) no_items) h p = refl
last-put-order moving put end (item (tables e ys) no_items) h p = refl
last-put-order moving put end (item (table f us) no_items) h p = ap (λ (vs : Slots). item (table f vs) no_items) (h us p.0)
last-put-order moving put end (item n (item m xs)) h p = ap (item (node_by_place n)) (last-put-order moving put end (item m xs) h p.1)

in-put-order : (moving put : Slots → Slots) (end : ℕ) (n : Node)
    → ((us : Slots) → ArePlaced end us → moving (slots_by_place us) ≡ slots_by_place (put us))
    → NodeIsPlaced end n → put_in moving (node_by_place n) ≡ node_by_place (put_in put n)
in-put-order moving put end nothing h p = refl
in-put-order moving put end (leaf s x d) h p = refl
in-put-order moving put end (list f xs) h p = refl
in-put-order moving put end (inline f us) h p = refl
in-put-order moving put end (table f us) h p = ap (table f) (h us p)
in-put-order moving put end (tables e xs) h p = ap (tables e) (last-put-order moving put end xs h p)

last-put-placed : (put : Slots → Slots) (end : ℕ) (xs : Items) → ((us : Slots) → ArePlaced end us → ArePlaced end (put us))
    → ItemsArePlaced end xs
    → ItemsArePlaced end (put_last put xs)
last-put-placed put end no_items h p = tt
last-put-placed put end (item nothing no_items) h p = p
last-put-placed put end (item (leaf s x d) no_items) h p = p
last-put-placed put end (item (list f ys) no_items) h p = p
last-put-placed put end (item (inline f us) no_items) h p = p
last-put-placed put end (item (tables e ys) no_items) h p = p
last-put-placed put end (item (table f us) no_items) h p = (h us p.0, tt)
last-put-placed put end (item n (item m xs)) h p = (p.0, last-put-placed put end (item m xs) h p.1)

in-put-placed : (put : Slots → Slots) (end : ℕ) (n : Node) → ((us : Slots) → ArePlaced end us → ArePlaced end (put us)) → NodeIsPlaced end n
    → NodeIsPlaced end (put_in put n)
in-put-placed put end nothing h p = tt
in-put-placed put end (leaf s x d) h p = tt
in-put-placed put end (list f xs) h p = tt
in-put-placed put end (inline f us) h p = tt
in-put-placed put end (table f us) h p = h us p
in-put-placed put end (tables e xs) h p = last-put-placed put end xs h p

-- Slots put in order at some keys of slots in order are all put in order.
pub put_in_order : (ks : List Text) (end : ℕ) (new ss : Slots) → ArePlaced end ss
    → put_along ks (slots_by_place new) (slots_by_place ss) ≡ slots_by_place (put_along ks new ss)
put_in_order [] end new ss p = refl
put_in_order (k ∷ ks) end new ss p =
    ap (put_under k (put_along ks (slots_by_place new)) (slots_by_place ss)) (node-order end k ss p)
    ∙ by_node (node_at k ss) refl (λ us q. put_in_order ks end new us q)
  where
    by_node : (o : Option Node) → node_at k ss ≡ o
        → ((us : Slots) → ArePlaced end us → put_along ks (slots_by_place new) (slots_by_place us) ≡ slots_by_place (put_along ks new us))
        → put_under k (put_along ks (slots_by_place new)) (slots_by_place ss) (option_map node_by_place o)
        ≡ slots_by_place (put_under k (put_along ks new) ss o)
    by_node None at h = refl
    by_node (Some n) at h =
        ap (λ (m : Node). with_node k m (slots_by_place ss))
        (in-put-order (put_along ks (slots_by_place new)) (put_along ks new) end n h (found-placed end k ss n at p))
        ∙ put-order end k (put_in (put_along ks new) n) ss p

pub put_placed : (ks : List Text) (end : ℕ) (new ss : Slots) → ArePlaced end new → ArePlaced end ss → ArePlaced end (put_along ks new ss)
put_placed [] end new ss q p = q
put_placed (k ∷ ks) end new ss q p = by_node (node_at k ss) refl (λ us r. put_placed ks end new us q r)
  where
    by_node : (o : Option Node) → node_at k ss ≡ o → ((us : Slots) → ArePlaced end us → ArePlaced end (put_along ks new us))
        → ArePlaced end (put_under k (put_along ks new) ss o)
    by_node None at h = p
    by_node (Some n) at h =
        put-placed end k (put_in (put_along ks new) n) ss p (in-put-placed (put_along ks new) end n h (found-placed end k ss n at p))

-- ---- what stands in the way

abbrev fault_of : Option (Mention Source × Node) → Option Fault
fault_of o = option_map table_way_fault o

way-same : (m : Mention Source) (n : Node) → table_way_fault (m, node_by_place n) ≡ table_way_fault (m, n)
way-same m nothing = refl
way-same m (leaf s x d) = refl
way-same m (list f xs) = refl
way-same m (inline f us) = refl
way-same m (table f us) = refl
way-same m (tables e xs) = refl

some-way : (m : Mention Source) (n : Node) → fault_of (Some (m, node_by_place n)) ≡ fault_of (Some (m, n))
some-way m n = ap (λ (f : Fault). Some f) (way-same m n)

last-way : (a : Addition) (m : Mention Source) (o : Option Node) → fault_of (last_key_clash a m (option_map node_by_place o))
    ≡ fault_of (last_key_clash a m o)
last-way (a_value x) m None = refl
last-way (a_value x) m (Some n) = some-way m n
last-way a_table m None = refl
last-way a_table m (Some (table f us)) = by_role (f.is_implicit && not f.is_dotted)
  where
    by_role : (b : Bool) → fault_of (if b then None else Some (m, table f (slots_by_place us)))
        ≡ fault_of (if b then None else Some (m, table f us))
    by_role true = refl
    by_role false = refl
last-way a_table m (Some nothing) = refl
last-way a_table m (Some (leaf s x d)) = refl
last-way a_table m (Some (list f xs)) = refl
last-way a_table m (Some (inline f us)) = refl
last-way a_table m (Some (tables e xs)) = refl
last-way an_element m None = refl
last-way an_element m (Some (tables e xs)) = refl
last-way an_element m (Some nothing) = refl
last-way an_element m (Some (leaf s x d)) = refl
last-way an_element m (Some (list f xs)) = refl
last-way an_element m (Some (inline f us)) = refl
last-way an_element m (Some (table f us)) = refl

-- What stands in the way further on has the same fault, in slots in order.
abbrev HasSameFault : ℕ → (Slots → Option (Mention Source × Node)) → Type 0
HasSameFault end further = (us : Slots) → ArePlaced end us → fault_of (further (slots_by_place us)) ≡ fault_of (further us)

extend-way : (end : ℕ) (m : Mention Source) (further : Slots → Option (Mention Source × Node)) (n : Node) → HasSameFault end further
    → NodeIsPlaced end n
    → fault_of (extend_clash m further (Some (node_by_place n))) ≡ fault_of (extend_clash m further (Some n))
extend-way end m further nothing h p = refl
extend-way end m further (leaf s x d) h p = refl
extend-way end m further (list f xs) h p = refl
extend-way end m further (inline f us) h p = refl
extend-way end m further (tables e xs) h p = refl
extend-way end m further (table f us) h p = by_implicit f.is_implicit
  where
    by_implicit : (b : Bool) → fault_of (if b then further (slots_by_place us) else Some (m, table f (slots_by_place us)))
        ≡ fault_of (if b then further us else Some (m, table f us))
    by_implicit true = h us p
    by_implicit false = refl

items-way : (end : ℕ) (way other : Mention Source × Node) (further : Slots → Option (Mention Source × Node)) (xs : Items)
    → table_way_fault way ≡ table_way_fault other
    → HasSameFault end further → ItemsArePlaced end xs → fault_of (clash_in_last way further (items_by_place xs))
    ≡ fault_of (clash_in_last other further xs)
items-way end way other further no_items e h p = ap (λ (f : Fault). Some f) e
items-way end way other further (item nothing no_items) e h p = ap (λ (f : Fault). Some f) e
items-way end way other further (item (leaf s x d) no_items) e h p = ap (λ (f : Fault). Some f) e
items-way end way other further (item (list f ys) no_items) e h p = ap (λ (f : Fault). Some f) e
items-way end way other further (item (inline f us) no_items) e h p = ap (λ (f : Fault). Some f) e
items-way end way other further (item (tables x ys) no_items) e h p = ap (λ (f : Fault). Some f) e
items-way end way other further (item (table f us) no_items) e h p = h us p.0
items-way end way other further (item n (item m xs)) e h p = items-way end way other further (item m xs) e h p.1

pass-way : (end : ℕ) (m : Mention Source) (further : Slots → Option (Mention Source × Node)) (n : Node) → HasSameFault end further
    → NodeIsPlaced end n
    → fault_of (pass_clash m further (Some (node_by_place n))) ≡ fault_of (pass_clash m further (Some n))
pass-way end m further nothing h p = refl
pass-way end m further (leaf s x d) h p = refl
pass-way end m further (list f xs) h p = refl
pass-way end m further (inline f us) h p = refl
pass-way end m further (table f us) h p = h us p
pass-way end m further (tables e xs) h p = items-way end (m, tables e (items_by_place xs)) (m, tables e xs) further xs refl h p

inside-way : (a : Addition) (end : ℕ) (m : Mention Source) (further : Slots → Option (Mention Source × Node)) (n : Node)
    → HasSameFault end further → NodeIsPlaced end n
    → fault_of (clash_inside a m further (node_by_place n)) ≡ fault_of (clash_inside a m further n)
inside-way (a_value x) end m further n h p = extend-way end m further n h p
inside-way a_table end m further n h p = pass-way end m further n h p
inside-way an_element end m further n h p = pass-way end m further n h p

-- where the first key is new nothing is in the way
none-clash : (a : Addition) (m r : Mention Source) (rest : List (Mention Source)) (ss : Slots) → node_at m.segment.key ss ≡ None
    → path_clash a (m ∷ r ∷ rest) ss ≡ None
none-clash (a_value n) m r rest ss e = ap (extend_clash m (line_clash (r ∷ rest))) e
none-clash a_table m r rest ss e = ap (pass_clash m (header_clash false (r ∷ rest))) e
none-clash an_element m r rest ss e = ap (pass_clash m (header_clash true (r ∷ rest))) e

no-mentions : (a : Addition) (ss : Slots) → fault_of (path_clash a [] (slots_by_place ss)) ≡ fault_of (path_clash a [] ss)
no-mentions (a_value n) ss = refl
no-mentions a_table ss = refl
no-mentions an_element ss = refl

-- What stands in the way of a path has the same fault, in slots in order.
pub clashes_in_order : (a : Addition) (ms : List (Mention Source)) (end : ℕ) (ss : Slots) → ArePlaced end ss
    → option_map table_way_fault (path_clash a ms (slots_by_place ss)) ≡ option_map table_way_fault (path_clash a ms ss)
clashes_in_order a [] end ss p = no-mentions a ss
clashes_in_order a (m ∷ []) end ss p =
    ap fault_of (last-clash a m (slots_by_place ss) ∙ ap (last_key_clash a m) (node-order end m.segment.key ss p))
    ∙ last-way a m (node_at m.segment.key ss)
    ∙ sym (ap fault_of (last-clash a m ss))
clashes_in_order a (m ∷ r ∷ rest) end ss p = by_node (node_at m.segment.key ss) refl (λ us q. clashes_in_order a (r ∷ rest) end us q)
  where
    by_node : (o : Option Node) → node_at m.segment.key ss ≡ o → HasSameFault end (path_clash a (r ∷ rest))
        → fault_of (path_clash a (m ∷ r ∷ rest) (slots_by_place ss)) ≡ fault_of (path_clash a (m ∷ r ∷ rest) ss)
    by_node None at h =
        ap fault_of (none-clash a m r rest (slots_by_place ss) (node-order end m.segment.key ss p ∙ ap (option_map node_by_place) at))
        ∙ sym (ap fault_of (none-clash a m r rest ss at))
    by_node (Some old) at h =
        ap fault_of (there-clash a m r rest (slots_by_place ss) (node_by_place old) (node-order end m.segment.key ss p
        ∙ ap (option_map node_by_place) at))
        ∙ inside-way a end m (path_clash a (r ∷ rest)) old h (found-placed end m.segment.key ss old at p)
        ∙ sym (ap fault_of (there-clash a m r rest ss old at))
