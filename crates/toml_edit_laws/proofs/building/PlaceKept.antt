-- What is added in place stays placed: keys that are apart, each before where the next statement begins.
use Rattle.std.proofs.Common.{◌≡◌, ℕ, ◌≤◌, ◌<◌, Bool, true, false, refl, sym, ◌∙◌, ap, subst, inl, inr, arith, List, [], ◌∷◌, Option, Some}
use Rattle.std.proofs.Common.{None}
use Rattle.std.specs.Prelude.{not, ◌&&◌, ◌||◌, if◌then◌else◌, option_map, IfSome}
use Rattle.std.proofs.lemmas.Bool.{cases_Bool}
use Rattle.toml_edit_model.specs.Mode.{Mode}
use Rattle.toml_edit_model.specs.Text.{Text, same_text}
use Rattle.toml_edit_model.specs.Paths.{Mention, Source}
use Rattle.toml_edit_model.specs.Tree.{Key, Node, nothing, leaf, list, inline, table, tables, Items, no_items, item, Slots, no_slots, slot}
use Rattle.toml_edit_model.specs.Tree.{has_key, is_value_node}
use Rattle.toml_edit_model.specs.TreeOf.{spanned_in, key_at, key_extent, made_by_path, brackets_from, brackets_to}
use Rattle.toml_edit_laws.specs.FlatTree.{with_slot}
use Rattle.toml_edit_laws.specs.InlineTree.{node_at, with_node}
use Rattle.toml_edit_laws.specs.TableTree.{with_item, reaching, headed_table, change_last}
use Rattle.toml_edit_laws.specs.Building.{change_in}
use Rattle.toml_edit_laws.specs.AddPath.{Addition, a_value, a_table, an_element, makes_dotted, extend_in, inside}
use Rattle.toml_edit_laws.specs.PlaceOrder.{key_place, NodeIsPlaced, ItemsArePlaced, ArePlaced}
use Rattle.toml_edit_laws.specs.InPlace.{replace_slot, add_in_place, put_in_place, StandWithin, IsRealAddition}
use Rattle.toml_edit_laws.proofs.common.Tests.{or-left, or-right, or-both, same_text-is, same_text-swap}
use Rattle.toml_edit_laws.proofs.building.PlacePaths.{found-placed, last-in-place, new-in-place, there-in-place}

-- ---- further on in the text

mutual
  node-later : (i j : ℕ) (n : Node) → i ≤ j → NodeIsPlaced i n → NodeIsPlaced j n
  node-later i j nothing h p = tt
  node-later i j (leaf s x d) h p = tt
  node-later i j (list f xs) h p = tt
  node-later i j (inline f ss) h p = tt
  node-later i j (table f ss) h p = later i j ss h p
  node-later i j (tables e xs) h p = items-later i j xs h p

  items-later : (i j : ℕ) (xs : Items) → i ≤ j → ItemsArePlaced i xs → ItemsArePlaced j xs
  items-later i j no_items h p = tt
  items-later i j (item n xs) h p = (node-later i j n h p.0, items-later i j xs h p.1)

  pub later : (i j : ℕ) (ss : Slots) → i ≤ j → ArePlaced i ss → ArePlaced j ss
  later i j no_slots h p = tt
  later i j (slot k n ss) h p =
      let near : key_place k < i = p.0 in
      (omega (arith, near, h), p.1, node-later i j n h p.2, later i j ss h p.3)

-- a value has no tables
pub value-placed : (end : ℕ) (n : Node) → is_value_node n ≡ true → NodeIsPlaced end n
value-placed end nothing h = absurd cc
value-placed end (leaf s x d) h = tt
value-placed end (list f xs) h = tt
value-placed end (inline f ss) h = tt
value-placed end (table f ss) h = absurd cc
value-placed end (tables e xs) h = absurd cc

-- ---- the keys

no-key : (t : Text) (ss : Slots) → node_at t ss ≡ None → has_key t ss ≡ false
no-key t no_slots h = refl
no-key t (slot l m ss) h =
    elim (cases_Bool (same_text t l.name)) [
      | inl same ↦ absurd (let e = rw same at h in cc)
      | inr other ↦ rw other (no-key t ss (rw other at h))
    ]

key-last : (t : Text) (k : Key) (x : Node) (ss : Slots) → has_key t ss ≡ false → same_text t k.name ≡ false → has_key t (with_slot ss k x)
    ≡ false
key-last t k x no_slots h g = or-both (same_text t k.name) false g refl
key-last t k x (slot l m ss) h g =
    or-both (same_text t l.name) (has_key t (with_slot ss k x)) (or-left (same_text t l.name) (has_key t ss) h)
    (key-last t k x ss (or-right (same_text t l.name) (has_key t ss) h) g)

key-same : (t u : Text) (x : Node) (ss : Slots) → has_key t (with_node u x ss) ≡ has_key t ss
key-same t u x no_slots = refl
key-same t u x (slot l m ss) =
    elim (cases_Bool (same_text u l.name)) [
      | inl same ↦ rw same refl
      | inr other ↦ rw other (ap (λ (b : Bool). same_text t l.name || b) (key-same t u x ss))
    ]

key-replaced : (t u : Text) (k : Key) (x : Node) (ss : Slots) → k.name ≡ u → has_key t (replace_slot u k x ss) ≡ has_key t ss
key-replaced t u k x no_slots name = refl
key-replaced t u k x (slot l m ss) name =
    elim (cases_Bool (same_text u l.name)) [
      | inl same ↦ rw same (ap (λ (v : Text). same_text t v || has_key t ss) (name ∙ same_text-is u l.name same))
      | inr other ↦ rw other (ap (λ (b : Bool). same_text t l.name || b) (key-replaced t u k x ss name))
    ]

-- ---- the slots of one table

last-placed : (end : ℕ) (k : Key) (x : Node) (ss : Slots) → ArePlaced end ss → key_place k < end → has_key k.name ss ≡ false
    → NodeIsPlaced end x
    → ArePlaced end (with_slot ss k x)
last-placed end k x no_slots p h none q = (h, refl, q, tt)
last-placed end k x (slot l m ss) p h none q = (
  p.0,
  key-last l.name k x ss p.1 (same_text-swap l.name k.name ∙ or-left (same_text k.name l.name) (has_key k.name ss) none),
  p.2,
  last-placed end k x ss p.3 h (or-right (same_text k.name l.name) (has_key k.name ss) none) q,
)

pub put-placed : (end : ℕ) (t : Text) (x : Node) (ss : Slots) → ArePlaced end ss → NodeIsPlaced end x → ArePlaced end (with_node t x ss)
put-placed end t x no_slots p q = tt
put-placed end t x (slot l m ss) p q =
    elim (cases_Bool (same_text t l.name)) [
      | inl same ↦ rw same (p.0, p.1, q, p.3)
      | inr other ↦ rw other (p.0, key-same l.name t x ss ∙ p.1, p.2, put-placed end t x ss p.3 q)
    ]

replaced-placed : (end : ℕ) (t : Text) (k : Key) (x : Node) (ss : Slots) → ArePlaced end ss → key_place k < end → k.name ≡ t
    → NodeIsPlaced end x
    → ArePlaced end (replace_slot t k x ss)
replaced-placed end t k x no_slots p h name q = tt
replaced-placed end t k x (slot l m ss) p h name q =
    elim (cases_Bool (same_text t l.name)) [
      | inl same ↦ rw same (h, ap (λ (v : Text). has_key v ss) (name ∙ same_text-is t l.name same) ∙ p.1, q, p.3)
      | inr other ↦ rw other (p.0, key-replaced l.name t k x ss name ∙ p.1, p.2, replaced-placed end t k x ss p.3 h name q)
    ]

items-with : (end : ℕ) (xs : Items) (n : Node) → ItemsArePlaced end xs → NodeIsPlaced end n → ItemsArePlaced end (with_item xs n)
items-with end no_items n p q = (q, tt)
items-with end (item m xs) n p q = (p.0, items-with end xs n p.1 q)

-- ---- a change of what is there

-- A change of slots that are placed leaves slots that are.
abbrev Keeps : ℕ → (Slots → Option Slots) → Type 0
Keeps end change = (ss : Slots) → ArePlaced end ss → IfSome (change ss) (ArePlaced end)

some-mapped : {A B : Type 0} (P : A → Type 0) (Q : B → Type 0) (f : A → B) → ((x : A) → P x → Q (f x)) → (o : Option A) → IfSome o P
    → IfSome (option_map f o) Q
some-mapped P Q f h None p = tt
some-mapped P Q f h (Some x) p = h x p

extend-keeps : (end : ℕ) (change : Slots → Option Slots) (n : Node) → Keeps end change → NodeIsPlaced end n
    → IfSome (extend_in change n) (NodeIsPlaced end)
extend-keeps end change nothing h p = tt
extend-keeps end change (leaf s x d) h p = tt
extend-keeps end change (list f xs) h p = tt
extend-keeps end change (inline f us) h p = tt
extend-keeps end change (tables e xs) h p = tt
extend-keeps end change (table f us) h p = by_implicit f.is_implicit
  where
    by_implicit : (b : Bool) → IfSome (if b then option_map (table (record f { is_dotted = true })) (change us)
        else None) (NodeIsPlaced end)
    by_implicit true = some-mapped (ArePlaced end) (NodeIsPlaced end) (table (record f { is_dotted = true })) (λ vs q. q) (change us)
        (h us p)
    by_implicit false = tt

last-keeps : (end : ℕ) (change : Slots → Option Slots) (xs : Items) → Keeps end change → ItemsArePlaced end xs
    → IfSome (change_last change xs) (ItemsArePlaced end)
last-keeps end change no_items h p = tt
last-keeps end change (item nothing no_items) h p = tt
last-keeps end change (item (leaf s x d) no_items) h p = tt
last-keeps end change (item (list f ys) no_items) h p = tt
last-keeps end change (item (inline f us) no_items) h p = tt
last-keeps end change (item (tables e ys) no_items) h p = tt
last-keeps end change (item (table f us) no_items) h p =
    some-mapped (ArePlaced end) (ItemsArePlaced end) (λ (vs : Slots). item (table f vs) no_items) (λ vs q. (q, tt)) (change us) (h us p.0)
last-keeps end change (item n (item m xs)) h p =
    some-mapped (ItemsArePlaced end) (ItemsArePlaced end) (item n) (λ ys q. (p.0, q)) (change_last change (item m xs))
    (last-keeps end change (item m xs) h p.1)

in-keeps : (end : ℕ) (change : Slots → Option Slots) (n : Node) → Keeps end change → NodeIsPlaced end n
    → IfSome (change_in change n) (NodeIsPlaced end)
in-keeps end change nothing h p = tt
in-keeps end change (leaf s x d) h p = tt
in-keeps end change (list f xs) h p = tt
in-keeps end change (inline f us) h p = tt
in-keeps end change (tables e xs) h p =
    some-mapped (ItemsArePlaced end) (NodeIsPlaced end) (tables e) (λ ys q. q) (change_last change xs) (last-keeps end change xs h p)
in-keeps end change (table f us) h p = some-mapped (ArePlaced end) (NodeIsPlaced end) (table f) (λ vs q. q) (change us) (h us p)

inside-keeps : (a : Addition) (end : ℕ) (change : Slots → Option Slots) (n : Node) → Keeps end change → NodeIsPlaced end n
    → IfSome (inside a change n) (NodeIsPlaced end)
inside-keeps (a_value x) end change n h p = extend-keeps end change n h p
inside-keeps a_table end change n h p = in-keeps end change n h p
inside-keeps an_element end change n h p = in-keeps end change n h p

module _ (mode : Mode) where
  -- ---- the last key

  last-kept : (a : Addition) (m : Mention Source) (end : ℕ) (ss : Slots) (o : Option Node) → node_at m.segment.key ss ≡ o → IsRealAddition a
      → ArePlaced end ss
      → key_place (key_at (spanned_in mode) m) < end → IfSome (put_in_place mode a m ss o) (ArePlaced end)
  last-kept (a_value n) m end ss None at real p h =
      last-placed end (key_at (spanned_in mode) m) n ss p h (no-key m.segment.key ss at) (value-placed end n real)
  last-kept (a_value n) m end ss (Some old) at real p h = tt
  last-kept a_table m end ss None at real p h =
      last-placed end (key_at (spanned_in mode) m) (headed_table mode m no_slots) ss p h (no-key m.segment.key ss at) tt
  last-kept a_table m end ss (Some (table f inner)) at real p h = by_role (f.is_implicit && not f.is_dotted)
    where
      by_role : (b : Bool)
          → IfSome (if b then Some (replace_slot m.segment.key (key_at (spanned_in mode) m) (headed_table mode m inner) ss)
          else None) (ArePlaced end)
      by_role true =
          replaced-placed end m.segment.key (key_at (spanned_in mode) m) (headed_table mode m inner) ss p h refl
          (found-placed end m.segment.key ss (table f inner) at p)
      by_role false = tt
  last-kept a_table m end ss (Some nothing) at real p h = tt
  last-kept a_table m end ss (Some (leaf s x d)) at real p h = tt
  last-kept a_table m end ss (Some (list f xs)) at real p h = tt
  last-kept a_table m end ss (Some (inline f us)) at real p h = tt
  last-kept a_table m end ss (Some (tables e xs)) at real p h = tt
  last-kept an_element m end ss None at real p h =
      last-placed end (key_at (spanned_in mode) m)
      (tables (Some (
        brackets_from (spanned_in mode) m.source m.source.statement,
        brackets_to (spanned_in mode) m.source m.source.statement,
      )) (item (headed_table mode m no_slots) no_items))
      ss p h (no-key m.segment.key ss at) (tt, tt)
  last-kept an_element m end ss (Some (tables e xs)) at real p h =
      put-placed end m.segment.key (tables (reaching e (brackets_to (spanned_in mode) m.source m.source.statement))
      (with_item xs (headed_table mode m no_slots))) ss p
      (items-with end xs (headed_table mode m no_slots) (found-placed end m.segment.key ss (tables e xs) at p) tt)
  last-kept an_element m end ss (Some nothing) at real p h = tt
  last-kept an_element m end ss (Some (leaf s x d)) at real p h = tt
  last-kept an_element m end ss (Some (list f xs)) at real p h = tt
  last-kept an_element m end ss (Some (inline f us)) at real p h = tt
  last-kept an_element m end ss (Some (table f us)) at real p h = tt

  -- ---- a whole path

  none-keeps : (a : Addition) (end : ℕ) (ss : Slots) → IfSome (add_in_place mode a [] ss) (ArePlaced end)
  none-keeps (a_value n) end ss = tt
  none-keeps a_table end ss = tt
  none-keeps an_element end ss = tt

  path-keeps : (a : Addition) (ms : List (Mention Source)) (start end : ℕ) (ss : Slots) → IsRealAddition a → StandWithin mode start end ms
      → ArePlaced end ss
      → IfSome (add_in_place mode a ms ss) (ArePlaced end)
  path-keeps a [] start end ss real within p = none-keeps a end ss
  path-keeps a (m ∷ []) start end ss real within p =
      subst (λ (o : Option Slots). IfSome o (ArePlaced end)) (sym (last-in-place mode a m ss))
      (last-kept a m end ss (node_at m.segment.key ss) refl real p within.1)
  path-keeps a (m ∷ r ∷ rest) start end ss real within p =
      by_node (node_at m.segment.key ss) refl (λ us q. path-keeps a (r ∷ rest) start end us real within.2 q)
    where
      made : Slots → Node
      made inner = table (made_by_path (spanned_in mode) (makes_dotted a) (key_extent (spanned_in mode) m)) inner

      by_node : (o : Option Node) → node_at m.segment.key ss ≡ o → Keeps end (add_in_place mode a (r ∷ rest))
          → IfSome (add_in_place mode a (m ∷ r ∷ rest) ss) (ArePlaced end)
      by_node None at keeps =
          subst (λ (o : Option Slots). IfSome o (ArePlaced end)) (sym (new-in-place mode a m r rest ss at))
          (some-mapped (ArePlaced end) (ArePlaced end) (λ (inner : Slots). with_slot ss (key_at (spanned_in mode) m) (made inner))
          (λ us q. last-placed end (key_at (spanned_in mode) m) (made us) ss p within.1 (no-key m.segment.key ss at) q)
          (add_in_place mode a (r ∷ rest) no_slots) (keeps no_slots tt))
      by_node (Some old) at keeps =
          subst (λ (o : Option Slots). IfSome o (ArePlaced end)) (sym (there-in-place mode a m r rest ss old at))
          (some-mapped (NodeIsPlaced end) (ArePlaced end) (λ (new : Node). with_node m.segment.key new ss)
          (λ n q. put-placed end m.segment.key n ss p q)
          (inside a (add_in_place mode a (r ∷ rest)) old)
          (inside-keeps a end (add_in_place mode a (r ∷ rest)) old keeps (found-placed end m.segment.key ss old at p)))

  -- Slots that are placed before a statement are placed behind it.
  pub stays_placed : (a : Addition) (ms : List (Mention Source)) (start end : ℕ) (ss new : Slots) → start ≤ end → IsRealAddition a
      → StandWithin mode start end ms
      → ArePlaced start ss → add_in_place mode a ms ss ≡ Some new → ArePlaced end new
  stays_placed a ms start end ss new h real within p e =
      subst (λ (o : Option Slots). IfSome o (ArePlaced end)) e (path-keeps a ms start end ss real within (later start end ss h p))
