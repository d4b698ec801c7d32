-- What is added at the end of a path to slots in order is what is added in place, put in order.
use Rattle.std.proofs.Common.{◌≡◌, ℕ, ◌≤◌, Bool, true, false, refl, sym, ◌∙◌, ap, subst, List, [], ◌∷◌, Option, Some, None}
use Rattle.std.specs.Prelude.{not, ◌&&◌, if◌then◌else◌, option_map}
use Rattle.toml_edit_model.specs.Mode.{Mode}
use Rattle.toml_edit_model.specs.Text.{Text, one, same_text}
use Rattle.toml_edit_model.specs.Paths.{Mention, Source}
use Rattle.toml_edit_model.specs.Tree.{TableFields, Node, nothing, leaf, list, inline, table, tables, Items, no_items, item, Slots}
use Rattle.toml_edit_model.specs.Tree.{no_slots, slot, is_value_node}
use Rattle.toml_edit_model.specs.TreeOf.{spanned_in, key_at, key_extent, made_by_path, brackets_from, brackets_to}
use Rattle.toml_edit_laws.specs.FlatTree.{with_slot}
use Rattle.toml_edit_laws.specs.InlineTree.{node_at, with_node}
use Rattle.toml_edit_laws.specs.TableTree.{without_slot, with_item, reaching, headed_table, change_last, extend_below, pass_below, add_line}
use Rattle.toml_edit_laws.specs.TableTree.{add_header}
use Rattle.toml_edit_laws.specs.Building.{change_in}
use Rattle.toml_edit_laws.specs.AddPath.{Addition, a_value, a_table, an_element, add_path, makes_dotted, extend_in, inside, put_last_key}
use Rattle.toml_edit_laws.specs.PlaceOrder.{key_place, node_by_place, items_by_place, slots_by_place, NodeIsPlaced, ItemsArePlaced}
use Rattle.toml_edit_laws.specs.PlaceOrder.{ArePlaced}
use Rattle.toml_edit_laws.specs.InPlace.{replace_slot, add_table, add_in_place, put_in_place, StandWithin, IsRealAddition}
use Rattle.toml_edit_laws.proofs.common.OptionSteps.{some-is}
use Rattle.toml_edit_laws.proofs.building.OneKey.{last-put, new-below, there-below, extend-there, pass-there}
use Rattle.toml_edit_laws.proofs.building.PlaceSlots.{node-order, put-order, last-order, move-order}

-- a value has no tables
pub value-order : (n : Node) → is_value_node n ≡ true → node_by_place n ≡ n
value-order nothing h = refl
value-order (leaf s x d) h = refl
value-order (list f xs) h = refl
value-order (inline f ss) h = refl
value-order (table f ss) h = absurd cc
value-order (tables e xs) h = absurd cc

item-order : (xs : Items) (n : Node) → with_item (items_by_place xs) (node_by_place n) ≡ items_by_place (with_item xs n)
item-order no_items n = refl
item-order (item m xs) n = ap (item (node_by_place m)) (item-order xs n)

-- what is below a key is placed
pub found-placed : (end : ℕ) (k : Text) (ss : Slots) (n : Node) → node_at k ss ≡ Some n → ArePlaced end ss → NodeIsPlaced end n
found-placed end k no_slots n h p = absurd cc
found-placed end k (slot l m ss) n h p = by_test (same_text k l.name) h (λ e. found-placed end k ss n e p.3)
  where
    by_test : (b : Bool) → (if b then Some m else node_at k ss) ≡ Some n → (node_at k ss ≡ Some n → NodeIsPlaced end n) → NodeIsPlaced end n
    by_test true e further = subst (NodeIsPlaced end) (some-is m n e) p.2
    by_test false e further = further e

module _ (mode : Mode) where
  -- ---- one key, in place

  pub last-in-place : (a : Addition) (m : Mention Source) (ss : Slots) → add_in_place mode a (one m) ss
      ≡ put_in_place mode a m ss (node_at m.segment.key ss)
  last-in-place (a_value n) m ss = refl
  last-in-place a_table m ss = refl
  last-in-place an_element m ss = refl

  -- below a new key a table is made
  pub new-in-place : (a : Addition) (m r : Mention Source) (rest : List (Mention Source)) (ss : Slots) → node_at m.segment.key ss ≡ None
      → add_in_place mode a (m ∷ r ∷ rest) ss
      ≡ option_map (λ inner. with_slot ss (key_at (spanned_in mode) m)
      (table (made_by_path (spanned_in mode) (makes_dotted a) (key_extent (spanned_in mode) m)) inner)) (add_in_place mode a (r
      ∷ rest) no_slots)
  new-in-place (a_value n) m r rest ss e = ap (extend_below mode m (add_line mode (r ∷ rest) n) ss) e
  new-in-place a_table m r rest ss e = ap (pass_below mode m (add_table mode (r ∷ rest)) ss) e
  new-in-place an_element m r rest ss e = ap (pass_below mode m (add_header mode true (r ∷ rest)) ss) e

  -- below one that is there it goes on inside
  pub there-in-place : (a : Addition) (m r : Mention Source) (rest : List (Mention Source)) (ss : Slots) (old : Node)
      → node_at m.segment.key ss ≡ Some old
      → add_in_place mode a (m ∷ r ∷ rest) ss ≡ option_map (λ new. with_node m.segment.key new ss)
      (inside a (add_in_place mode a (r ∷ rest)) old)
  there-in-place (a_value n) m r rest ss old e = ap (extend_below mode m (add_line mode (r ∷ rest) n) ss) e
      ∙ extend-there mode m (add_line mode (r ∷ rest) n) ss old
  there-in-place a_table m r rest ss old e = ap (pass_below mode m (add_table mode (r ∷ rest)) ss) e
      ∙ pass-there mode m (add_table mode (r ∷ rest)) ss old
  there-in-place an_element m r rest ss old e = ap (pass_below mode m (add_header mode true (r ∷ rest)) ss) e
      ∙ pass-there mode m (add_header mode true (r ∷ rest)) ss old

  -- ---- the last key

  last-goes : (a : Addition) (m : Mention Source) (end : ℕ) (ss : Slots) (o : Option Node) → node_at m.segment.key ss ≡ o → IsRealAddition a
      → ArePlaced end ss
      → end ≤ key_place (key_at (spanned_in mode) m)
      → put_last_key mode a m (slots_by_place ss) (option_map node_by_place o) ≡ option_map slots_by_place (put_in_place mode a m ss o)
  last-goes (a_value n) m end ss None at real p h =
      ap (λ (us : Slots). Some us) (ap (with_slot (slots_by_place ss) (key_at (spanned_in mode) m)) (sym (value-order n real))
      ∙ last-order end (key_at (spanned_in mode) m) n ss p h)
  last-goes (a_value n) m end ss (Some old) at real p h = refl
  last-goes a_table m end ss None at real p h =
      ap (λ (us : Slots). Some us) (last-order end (key_at (spanned_in mode) m) (headed_table mode m no_slots) ss p h)
  last-goes a_table m end ss (Some (table f inner)) at real p h = by_role (f.is_implicit && not f.is_dotted)
    where
      by_role : (b : Bool)
          → (if b then Some (with_slot (without_slot m.segment.key (slots_by_place ss)) (key_at (spanned_in mode) m)
          (headed_table mode m (slots_by_place inner))) else None)
          ≡ option_map slots_by_place (if b then Some (replace_slot m.segment.key (key_at (spanned_in mode) m) (headed_table mode m inner)
          ss) else None)
      by_role true =
          ap (λ (us : Slots). Some us) (move-order end m.segment.key (key_at (spanned_in mode) m) (headed_table mode m inner) ss
          (table f inner) p h at)
      by_role false = refl
  last-goes a_table m end ss (Some nothing) at real p h = refl
  last-goes a_table m end ss (Some (leaf s x d)) at real p h = refl
  last-goes a_table m end ss (Some (list f xs)) at real p h = refl
  last-goes a_table m end ss (Some (inline f us)) at real p h = refl
  last-goes a_table m end ss (Some (tables e xs)) at real p h = refl
  last-goes an_element m end ss None at real p h =
      ap (λ (us : Slots). Some us)
      (last-order end (key_at (spanned_in mode) m)
      (tables (Some (
        brackets_from (spanned_in mode) m.source m.source.statement,
        brackets_to (spanned_in mode) m.source m.source.statement,
      )) (item (headed_table mode m no_slots) no_items))
      ss p h)
  last-goes an_element m end ss (Some (tables e xs)) at real p h =
      let extent = reaching e (brackets_to (spanned_in mode) m.source m.source.statement) in
      ap (λ (us : Slots). Some us)
      (ap (λ (ys : Items). with_node m.segment.key (tables extent ys) (slots_by_place ss)) (item-order xs (headed_table mode m no_slots))
      ∙ put-order end m.segment.key (tables extent (with_item xs (headed_table mode m no_slots))) ss p)
  last-goes an_element m end ss (Some nothing) at real p h = refl
  last-goes an_element m end ss (Some (leaf s x d)) at real p h = refl
  last-goes an_element m end ss (Some (list f xs)) at real p h = refl
  last-goes an_element m end ss (Some (inline f us)) at real p h = refl
  last-goes an_element m end ss (Some (table f us)) at real p h = refl

-- ---- a change of what is there

-- A change of slots in order is another change, of slots that are placed, and the order behind it.
abbrev Follows : ℕ → (Slots → Option Slots) → (Slots → Option Slots) → Type 0
Follows end moving change = (ss : Slots) → ArePlaced end ss → moving (slots_by_place ss) ≡ option_map slots_by_place (change ss)

table-follows : (f : TableFields) (o : Option Slots) → option_map (table f) (option_map slots_by_place o)
    ≡ option_map node_by_place (option_map (table f) o)
table-follows f None = refl
table-follows f (Some us) = refl

extend-follows : (end : ℕ) (moving change : Slots → Option Slots) (n : Node) → Follows end moving change → NodeIsPlaced end n
    → extend_in moving (node_by_place n) ≡ option_map node_by_place (extend_in change n)
extend-follows end moving change nothing h p = refl
extend-follows end moving change (leaf s x d) h p = refl
extend-follows end moving change (list f xs) h p = refl
extend-follows end moving change (inline f us) h p = refl
extend-follows end moving change (tables e xs) h p = refl
extend-follows end moving change (table f us) h p = by_implicit f.is_implicit
  where
    by_implicit : (b : Bool)
        → (if b then option_map (table (record f { is_dotted = true })) (moving (slots_by_place us)) else None)
        ≡ option_map node_by_place (if b then option_map (table (record f { is_dotted = true })) (change us) else None)
    by_implicit true = ap (option_map (table (record f { is_dotted = true }))) (h us p)
        ∙ table-follows (record f { is_dotted = true }) (change us)
    by_implicit false = refl

last-follows : (end : ℕ) (moving change : Slots → Option Slots) (xs : Items) → Follows end moving change → ItemsArePlaced end xs
    → change_last moving (items_by_place xs) ≡ option_map items_by_place (change_last change xs)
last-follows end moving change no_items h p = refl
last-follows end moving change (item nothing no_items) h p = refl
last-follows end moving change (item (leaf s x d) no_items) h p = refl
last-follows end moving change (item (list f ys) no_items) h p = refl
last-follows end moving change (item (inline f us) no_items) h p = refl
last-follows end moving change (item (tables e ys) no_items) h p = refl
last-follows end moving change (item (table f us) no_items) h p =
    ap (option_map (λ (changed : Slots). item (table f changed) no_items)) (h us p.0) ∙ by_changed (change us)
  where
    by_changed : (o : Option Slots) → option_map (λ (changed : Slots). item (table f changed) no_items) (option_map slots_by_place o)
        ≡ option_map items_by_place (option_map (λ (changed : Slots). item (table f changed) no_items) o)
    by_changed None = refl
    by_changed (Some vs) = refl
last-follows end moving change (item n (item m xs)) h p =
    ap (option_map (item (node_by_place n))) (last-follows end moving change (item m xs) h p.1)
    ∙ by_changed (change_last change (item m xs))
  where
    by_changed : (o : Option Items) → option_map (item (node_by_place n)) (option_map items_by_place o)
        ≡ option_map items_by_place (option_map (item n) o)
    by_changed None = refl
    by_changed (Some ys) = refl

in-follows : (end : ℕ) (moving change : Slots → Option Slots) (n : Node) → Follows end moving change → NodeIsPlaced end n
    → change_in moving (node_by_place n) ≡ option_map node_by_place (change_in change n)
in-follows end moving change nothing h p = refl
in-follows end moving change (leaf s x d) h p = refl
in-follows end moving change (list f xs) h p = refl
in-follows end moving change (inline f us) h p = refl
in-follows end moving change (tables e xs) h p = ap (option_map (tables e)) (last-follows end moving change xs h p)
    ∙ by_changed (change_last change xs)
  where
    by_changed : (o : Option Items) → option_map (tables e) (option_map items_by_place o)
        ≡ option_map node_by_place (option_map (tables e) o)
    by_changed None = refl
    by_changed (Some ys) = refl
in-follows end moving change (table f us) h p = ap (option_map (table f)) (h us p) ∙ table-follows f (change us)

inside-follows : (a : Addition) (end : ℕ) (moving change : Slots → Option Slots) (n : Node) → Follows end moving change → NodeIsPlaced end n
    → inside a moving (node_by_place n) ≡ option_map node_by_place (inside a change n)
inside-follows (a_value x) end moving change n h p = extend-follows end moving change n h p
inside-follows a_table end moving change n h p = in-follows end moving change n h p
inside-follows an_element end moving change n h p = in-follows end moving change n h p

-- ---- a whole path

module _ (mode : Mode) where
  none-adds : (a : Addition) (ss : Slots) → add_path mode a [] (slots_by_place ss) ≡ option_map slots_by_place (add_in_place mode a [] ss)
  none-adds (a_value n) ss = refl
  none-adds a_table ss = refl
  none-adds an_element ss = refl

  -- Adding to slots in order is adding in place, and the order behind it.
  pub adds_in_order : (a : Addition) (ms : List (Mention Source)) (start end : ℕ) (ss : Slots) → IsRealAddition a
      → StandWithin mode start end ms → ArePlaced start ss
      → add_path mode a ms (slots_by_place ss) ≡ option_map slots_by_place (add_in_place mode a ms ss)
  adds_in_order a [] start end ss real within p = none-adds a ss
  adds_in_order a (m ∷ []) start end ss real within p =
      last-put mode a m (slots_by_place ss)
      ∙ ap (put_last_key mode a m (slots_by_place ss)) (node-order start m.segment.key ss p)
      ∙ last-goes mode a m start ss (node_at m.segment.key ss) refl real p within.0
      ∙ sym (ap (option_map slots_by_place) (last-in-place mode a m ss))
  adds_in_order a (m ∷ r ∷ rest) start end ss real within p =
      by_node (node_at m.segment.key ss) refl (λ us q. adds_in_order a (r ∷ rest) start end us real within.2 q)
    where
      made : Slots → Node
      made inner = table (made_by_path (spanned_in mode) (makes_dotted a) (key_extent (spanned_in mode) m)) inner

      by_new : (o : Option Slots) → option_map (λ (inner : Slots). with_slot (slots_by_place ss) (key_at (spanned_in mode) m) (made inner))
          (option_map slots_by_place o)
          ≡ option_map slots_by_place (option_map (λ (inner : Slots). with_slot ss (key_at (spanned_in mode) m) (made inner)) o)
      by_new None = refl
      by_new (Some us) = ap (λ (vs : Slots). Some vs) (last-order start (key_at (spanned_in mode) m) (made us) ss p within.0)

      by_old : (o : Option Node) → option_map (λ (new : Node). with_node m.segment.key new (slots_by_place ss)) (option_map node_by_place o)
          ≡ option_map slots_by_place (option_map (λ (new : Node). with_node m.segment.key new ss) o)
      by_old None = refl
      by_old (Some n) = ap (λ (vs : Slots). Some vs) (put-order start m.segment.key n ss p)

      by_node : (o : Option Node) → node_at m.segment.key ss ≡ o
          → Follows start (add_path mode a (r ∷ rest)) (add_in_place mode a (r ∷ rest))
          → add_path mode a (m ∷ r ∷ rest) (slots_by_place ss) ≡ option_map slots_by_place (add_in_place mode a (m ∷ r ∷ rest) ss)
      by_node None at adds =
          new-below mode a m r rest (slots_by_place ss) (node-order start m.segment.key ss p ∙ ap (option_map node_by_place) at)
          ∙ ap (option_map (λ (inner : Slots). with_slot (slots_by_place ss) (key_at (spanned_in mode) m) (made inner))) (adds no_slots tt)
          ∙ by_new (add_in_place mode a (r ∷ rest) no_slots)
          ∙ sym (ap (option_map slots_by_place) (new-in-place mode a m r rest ss at))
      by_node (Some old) at adds =
          there-below mode a m r rest (slots_by_place ss) (node_by_place old) (node-order start m.segment.key ss p
          ∙ ap (option_map node_by_place) at)
          ∙ ap (option_map (λ (new : Node). with_node m.segment.key new (slots_by_place ss)))
          (inside-follows a start (add_path mode a (r ∷ rest)) (add_in_place mode a (r ∷ rest)) old adds
          (found-placed start m.segment.key ss old at p))
          ∙ by_old (inside a (add_in_place mode a (r ∷ rest)) old)
          ∙ sym (ap (option_map slots_by_place) (there-in-place mode a m r rest ss old at))
