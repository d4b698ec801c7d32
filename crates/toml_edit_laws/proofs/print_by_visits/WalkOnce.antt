-- One walk collects the tables that have headers: those of the walk in its order, without the dotted and those without a header.
use Rattle.std.proofs.Common.{◌≡◌, refl, sym, ap, ◌∙◌, ℕ, suc, ℤ, Bool, true, false, List, [], ◌∷◌, ◌++◌, append_assoc}
use Rattle.std.specs.Prelude.{filter, map, if◌then◌else◌}
use Rattle.toml_edit_model.specs.Paths.{Path, to_element, to_key}
use Rattle.toml_edit_model.specs.Tree.{Key, Node, nothing, leaf, list, inline, table, tables, Items, no_items, item, Slots, no_slots, slot}
use Rattle.toml_edit_model.specs.HeaderOrder.{PlacedVisit, Visit, items_walk, node_walk, place_of, places_from, slots_walk, visit_of}
use Rattle.toml_edit_laws.specs.PrintByVisits.{Headed, Walked, enter, has_own_header, headed, walked, walked_items, walked_node}
use Rattle.toml_edit_laws.proofs.common.Tests.{append-nil}

-- ---- visit by visit

abbrev pub enter_visit : Walked → Visit → Walked
enter_visit w v = enter w v.keys v.is_element v.fields v.slots

abbrev pub enter_all : List Visit → Walked → Walked
enter_all [] w = w
enter_all (v ∷ vs) w = enter_all vs (enter_visit w v)

pub enter_all-append : (vs us : List Visit) (w : Walked) → enter_all (vs ++ us) w ≡ enter_all us (enter_all vs w)
enter_all-append [] us w = refl
enter_all-append (v ∷ vs) us w = enter_all-append vs us (enter_visit w v)

mutual
  -- the numbers of paths play no part
  pub walked-is : (ss : Slots) (p : Path) (ks : List Key) (w : Walked) → walked ss ks w ≡ enter_all (slots_walk ss p ks) w
  walked-is no_slots p ks w = refl
  walked-is (slot k n ss) p ks w =
      ap (walked ss ks) (node-is n (to_key p k.name) (ks ++ (k ∷ [])) w)
      ∙ walked-is ss p ks (enter_all (node_walk n (to_key p k.name) (ks ++ (k ∷ [])) false) w)
      ∙ sym (enter_all-append (node_walk n (to_key p k.name) (ks ++ (k ∷ [])) false) (slots_walk ss p ks) w)

  pub node-is : (n : Node) (p : Path) (ks : List Key) (w : Walked) → walked_node n ks w ≡ enter_all (node_walk n p ks false) w
  node-is (table f ss) p ks w = walked-is ss p ks (enter w ks false f ss)
  node-is (tables e xs) p ks w = items-are xs p ks 0 w
  node-is (leaf s spelling d) p ks w = refl
  node-is (list f xs) p ks w = refl
  node-is (inline f ss) p ks w = refl
  node-is nothing p ks w = refl

  pub items-are : (xs : Items) (p : Path) (ks : List Key) (i : ℕ) (w : Walked) → walked_items xs ks w ≡ enter_all (items_walk xs p ks i) w
  items-are no_items p ks i w = refl
  items-are (item (table f ss) xs) p ks i w =
      ap (walked_items xs ks) (walked-is ss (to_element p i) ks (enter w ks true f ss))
      ∙ items-are xs p ks (suc i) (enter_all (slots_walk ss (to_element p i) ks) (enter w ks true f ss))
      ∙ sym (enter_all-append (visit_of (to_element p i) ks true f ss ∷ slots_walk ss (to_element p i) ks) (items_walk xs p ks (suc i)) w)
  items-are (item (tables e us) xs) p ks i w = items-are xs p ks i w
  items-are (item (leaf s spelling d) xs) p ks i w = items-are xs p ks i w
  items-are (item (list f us) xs) p ks i w = items-are xs p ks i w
  items-are (item (inline f us) xs) p ks i w = items-are xs p ks i w
  items-are (item nothing xs) p ks i w = items-are xs p ks i w

-- ---- what is collected

-- the place last seen behind these tables
abbrev pub seen_after : ℤ → List Visit → ℤ
seen_after seen [] = seen
seen_after seen (v ∷ vs) = seen_after (if v.fields.is_dotted then seen else place_of seen v) vs

abbrev pub head_of : PlacedVisit → Headed
head_of v = headed v.0 v.1.keys v.1.is_element v.1.fields v.1.slots

-- the table has a header below the root
abbrev pub shows_header : PlacedVisit → Bool
shows_header v = has_own_header v.1.is_element v.1.fields v.1.slots

-- the headers of these tables with their places
abbrev pub shown_heads : List PlacedVisit → List Headed
shown_heads vs = map head_of (filter shows_header vs)

abbrev step : Bool → Bool → Walked → ℤ → Visit → Walked
step b c w s v =
    if b
    then w
    else record { tables = if c then w.tables ++ (head_of (s, v) ∷ []) else w.tables; seen = s }

one-more : (c : Bool) (w : Walked) (s : ℤ) (v : Visit) (rest : List PlacedVisit)
    → (if c then w.tables ++ (head_of (s, v) ∷ []) else w.tables) ++ shown_heads rest
    ≡ w.tables ++ map head_of (if c then (s, v) ∷ filter shows_header rest else filter shows_header rest)
one-more true w s v rest = append_assoc w.tables (head_of (s, v) ∷ []) (shown_heads rest)
one-more false w s v rest = refl

tables-step : (b : Bool) (w : Walked) (s : ℤ) (v : Visit) (vs : List Visit)
    → ((u : Walked) → (enter_all vs u).tables ≡ u.tables ++ shown_heads (places_from u.seen vs))
    → (enter_all vs (step b (shows_header (s, v)) w s v)).tables
    ≡ w.tables ++ shown_heads (if b then places_from w.seen vs else (s, v) ∷ places_from s vs)
tables-step true w s v vs rest = rest w
tables-step false w s v vs rest =
    rest (step false (shows_header (s, v)) w s v) ∙ one-more (shows_header (s, v)) w s v (places_from s vs)

pub tables-are : (vs : List Visit) (w : Walked) → (enter_all vs w).tables ≡ w.tables ++ shown_heads (places_from w.seen vs)
tables-are [] w = sym (append-nil w.tables)
tables-are (v ∷ vs) w = tables-step v.fields.is_dotted w (place_of w.seen v) v vs (λ u. tables-are vs u)

-- what one walk over slots collects, and the place that it has seen last
pub walked-tables : (ss : Slots) (p : Path) (ks : List Key) (w : Walked)
    → (walked ss ks w).tables ≡ w.tables ++ shown_heads (places_from w.seen (slots_walk ss p ks))
walked-tables ss p ks w = ap (λ (u : Walked). u.tables) (walked-is ss p ks w) ∙ tables-are (slots_walk ss p ks) w
