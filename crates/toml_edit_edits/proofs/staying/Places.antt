-- The place of a path in a changed tree.
use Rattle.std.proofs.Common.{◌≡◌, refl, sym, ◌∙◌, ap, subst, ℕ, zero, suc, Bool, true, false, List, [], ◌∷◌, ◌++◌, length, take, Option, Some, None}
use Rattle.std.specs.Prelude.{if◌then◌else◌, slice_get}
use Rattle.toml_edit_model.specs.HeaderOrder.{Visit, visit_of}
use Rattle.toml_edit_model.specs.Iterating.{elements}
use Rattle.toml_edit_model.specs.Lists.{item_list, items_from, on_items, on_slots, slot_list, slots_from}
use Rattle.toml_edit_model.specs.Paths.{Path, to_element, to_key}
use Rattle.toml_edit_model.specs.Shown.{is_table_node}
use Rattle.toml_edit_model.specs.Slots.{Slot, changed, changed_at, keyed, lookup_slot, on_item}
use Rattle.toml_edit_model.specs.Text.{Text, same_text}
use Rattle.toml_edit_model.specs.Tree.{Extent, ItemsAreWellMade, Node, Slots, SlotsAreWellMade, TableFields, table, tables}
use Rattle.toml_edit_laws.specs.Locality.{Leads, Turn, along, element_count, into_element, into_table}
use Rattle.toml_edit_laws.proofs.common.Tests.{same_text-is}
use Rattle.toml_edit_laws.proofs.locality.Elements.{item-made}
use Rattle.toml_edit_laws.proofs.locality.Slots.{Found, change-item, found, item_list-from, items_from-list, slot_list-from, slots_under}
use Rattle.toml_edit_laws.proofs.locality.Twice.{lookup-changed}
use Rattle.toml_edit_edit_laws.specs.Commands.{at_number, kept_item, number_of}
use Rattle.toml_edit_edit_laws.specs.Places.{element_or, element_path, item_or, place_from}
use Rattle.toml_edit_edit_laws.proofs.path_calls.Places.{take-front}

other-lookup : (j k : Text) (F : Slot Node → Slot Node) → ((s : Slot Node) → (F s).key.name ≡ s.key.name) → same_text j k ≡ false
    → (es : List (Slot Node)) → lookup_slot j (changed k F es) ≡ lookup_slot j es
other-lookup j k F keeps apart [] = refl
other-lookup j k F keeps apart (e ∷ es) = by_tests (same_text j e.key.name) (same_text k e.key.name) refl refl (other-lookup j k F keeps apart es)
  where
    by_tests : (b c : Bool) → same_text j e.key.name ≡ b → same_text k e.key.name ≡ c → lookup_slot j (changed k F es) ≡ lookup_slot j es
        → lookup_slot j ((if c then F e else e) ∷ changed k F es) ≡ (if b then Some e else lookup_slot j es)
    by_tests true true x y ih =
        absurd (let d : same_text j k ≡ true = ap (λ z. same_text j z) (same_text-is k e.key.name y) ∙ x in cc)
    by_tests true false x y ih = ap (λ b. if b then Some e else lookup_slot j (changed k F es)) x
    by_tests false true x y ih =
        ap (λ b. if b then Some (F e) else lookup_slot j (changed k F es)) (ap (same_text j) (keeps e) ∙ x) ∙ ih
    by_tests false false x y ih = ap (λ b. if b then Some e else lookup_slot j (changed k F es)) x ∙ ih

-- an element of a list in which one table is another
pub data Got (a : List Node) (m n : Node) (b : List Node) (i : ℕ) : Type 0 where
  got_other : slice_get (a ++ (m ∷ b)) i ≡ slice_get (a ++ (n ∷ b)) i → Got a m n b i
  got_it : i ≡ length a → slice_get (a ++ (m ∷ b)) i ≡ Some m → slice_get (a ++ (n ∷ b)) i ≡ Some n → Got a m n b i

got : (a : List Node) (m n : Node) (b : List Node) (i : ℕ) → Got a m n b i
got [] m n b zero = got_it refl refl refl
got [] m n b (suc i) = got_other refl
got (x ∷ a) m n b zero = got_other refl
got (x ∷ a) m n b (suc i) = on (got a m n b i)
  where
    on : Got a m n b i → Got (x ∷ a) m n b (suc i)
    on (got_other h) = got_other h
    on (got_it h p q) = got_it (ap suc h) p q

counted : (a : List Node) (f : TableFields) (ss xs : Slots) (b : List Node) (i : ℕ)
    → element_count (take i (a ++ (table f ss ∷ b))) ≡ element_count (take i (a ++ (table f xs ∷ b)))
counted a f ss xs b zero = refl
counted [] f ss xs b (suc i) = refl
counted (x ∷ a) f ss xs b (suc i) = longer (is_table_node x) (counted a f ss xs b i)
  where
    longer : (c : Bool) → length (elements (take i (a ++ (table f ss ∷ b)))) ≡ length (elements (take i (a ++ (table f xs ∷ b))))
        → length (if c then x ∷ elements (take i (a ++ (table f ss ∷ b))) else elements (take i (a ++ (table f ss ∷ b))))
        ≡ length (if c then x ∷ elements (take i (a ++ (table f xs ∷ b))) else elements (take i (a ++ (table f xs ∷ b))))
    longer true h = ap suc h
    longer false h = h

-- the place of a path below an array of tables, with the number of the element
abbrev by-number : Path → List Text → List Node → Option ℕ → Path
by-number q path ns o = place_from (element_path q ns (at_number is_table_node ns o)) path (element_or (at_number is_table_node ns o))

module _ (q : Path) (y : Text) (r : List Text) (a : List Node) (f : TableFields) (ss xs : Slots) (b : List Node)
    (inside : place_from (to_element q (element_count a)) (y ∷ r) (table f ss) ≡ place_from (to_element q (element_count a)) (y ∷ r) (table f xs)) where
  abbrev old : List Node
  old = a ++ (table f xs ∷ b)

  abbrev new : List Node
  new = a ++ (table f ss ∷ b)

  kept-number : (i : ℕ) (o : Option Node)
      → place_from (element_path q new (kept_item is_table_node i o)) (y ∷ r) (element_or (kept_item is_table_node i o))
      ≡ place_from (element_path q old (kept_item is_table_node i o)) (y ∷ r) (element_or (kept_item is_table_node i o))
  kept-number i None = refl
  kept-number i (Some n) = by_kind (is_table_node n)
    where
      by_kind : (c : Bool)
          → place_from (element_path q new (if c then Some (i, n) else None)) (y ∷ r) (element_or (if c then Some (i, n) else None))
          ≡ place_from (element_path q old (if c then Some (i, n) else None)) (y ∷ r) (element_or (if c then Some (i, n) else None))
      by_kind true = ap (λ c. place_from (to_element q c) (y ∷ r) n) (counted a f ss xs b i)
      by_kind false = refl

  by-get : (i : ℕ) → Got a (table f ss) (table f xs) b i → by-number q (y ∷ r) new (Some i) ≡ by-number q (y ∷ r) old (Some i)
  by-get i (got_other h) =
      ap (λ o. place_from (element_path q new (kept_item is_table_node i o)) (y ∷ r) (element_or (kept_item is_table_node i o))) h
      ∙ kept-number i (slice_get old i)
  by-get i (got_it h m n) =
      let first : element_count (take i new) ≡ element_count a = ap (λ z. element_count (take z new)) h ∙ ap element_count (take-front a (table f ss ∷ b)) in
      let second : element_count (take i old) ≡ element_count a = ap (λ z. element_count (take z old)) h ∙ ap element_count (take-front a (table f xs ∷ b)) in
      ap (λ o. place_from (element_path q new (kept_item is_table_node i o)) (y ∷ r) (element_or (kept_item is_table_node i o))) m
      ∙ ap (λ c. place_from (to_element q c) (y ∷ r) (table f ss)) first ∙ inside
      ∙ ap (λ c. place_from (to_element q c) (y ∷ r) (table f xs)) (sym second)
      ∙ sym (ap (λ o. place_from (element_path q old (kept_item is_table_node i o)) (y ∷ r) (element_or (kept_item is_table_node i o))) n)

  by-any : (o : Option ℕ) → by-number q (y ∷ r) new o ≡ by-number q (y ∷ r) old o
  by-any None = refl
  by-any (Some i) = by-get i (got a (table f ss) (table f xs) b i)

-- A change of the slots of a table that leaves the places there leaves all.
module _ (g : List (Slot Node) → List (Slot Node)) where
  abbrev pub SamePlaces : Path → TableFields → Slots → Slots → Type 0
  SamePlaces p f ss xs = (path : List Text) → place_from p path (table f ss) ≡ place_from p path (table f xs)

  in-tables : (q : Path) (e : Extent) (a : List Node) (f : TableFields) (ss xs : Slots) (b : List Node)
      → SamePlaces (to_element q (element_count a)) f ss xs → (path : List Text)
      → place_from q path (tables e (items_from (a ++ (table f ss ∷ b)))) ≡ place_from q path (tables e (items_from (a ++ (table f xs ∷ b))))
  in-tables q e a f ss xs b inside [] = refl
  in-tables q e a f ss xs b inside (x ∷ []) = refl
  in-tables q e a f ss xs b inside (x ∷ y ∷ r) =
      ap (λ ns. by-number q (y ∷ r) ns (number_of x)) (item_list-from (a ++ (table f ss ∷ b)))
      ∙ by-any q y r a f ss xs b (inside (y ∷ r)) (number_of x)
      ∙ sym (ap (λ ns. by-number q (y ∷ r) ns (number_of x)) (item_list-from (a ++ (table f xs ∷ b))))

  -- the slots of which one has another item
  pub in-slots : (p : Path) (f : TableFields) (k : Text) (F : Slot Node → Slot Node) (ss : Slots) (s : Slot Node)
      → ((z : Slot Node) → (F z).key.name ≡ z.key.name) → lookup_slot k (slot_list ss) ≡ Some s
      → ((path : List Text) → place_from (to_key p k) path (F s).item ≡ place_from (to_key p k) path s.item)
      → SamePlaces p f (slots_from (changed k F (slot_list ss))) ss
  in-slots p f k F ss s keeps there inside [] = refl
  in-slots p f k F ss s keeps there inside (j ∷ path) =
      ap (λ es. place_from (to_key p j) path (item_or (lookup_slot j es))) (slot_list-from (changed k F (slot_list ss)))
      ∙ by_test (same_text j k) refl
    where
      by_test : (b : Bool) → same_text j k ≡ b
          → place_from (to_key p j) path (item_or (lookup_slot j (changed k F (slot_list ss))))
          ≡ place_from (to_key p j) path (item_or (lookup_slot j (slot_list ss)))
      by_test true e =
          let same : j ≡ k = same_text-is j k e in
          subst (λ (z : Text). place_from (to_key p z) path (item_or (lookup_slot z (changed k F (slot_list ss))))
          ≡ place_from (to_key p z) path (item_or (lookup_slot z (slot_list ss)))) (sym same)
          (ap (λ o. place_from (to_key p k) path (item_or o)) (lookup-changed k F keeps (slot_list ss) s there) ∙ inside path
          ∙ sym (ap (λ o. place_from (to_key p k) path (item_or o)) there))
      by_test false e = ap (λ o. place_from (to_key p j) path (item_or o)) (other-lookup j k F keeps e (slot_list ss))

  pub same-places : (on : List Turn) (s v : Visit) → SlotsAreWellMade s.slots → Leads on s v
      → SamePlaces v.path v.fields (slots_under g v.slots) v.slots → SamePlaces s.path s.fields (slots_under (along on g) s.slots) s.slots
  same-places [] s v made leads h = subst (λ (x : Visit). SamePlaces x.path x.fields (slots_under g x.slots) x.slots) (sym leads) h
  same-places (into_table k ∷ on) s v made (l, f, ss, eq, rest) h =
      let fd : Found k (keyed l (table f ss)) (slot_list s.slots) = found k s.slots (keyed l (table f ss)) made eq in
      let w : Visit = visit_of (to_key s.path l.name) (s.keys ++ (l ∷ [])) false f ss in
      let ih = same-places on w v fd.made rest h in
      in-slots s.path s.fields k (on_item (on_slots (along on g))) s.slots (keyed l (table f ss)) (λ z. refl) eq
      (λ path. ap (λ (z : Text). place_from (to_key s.path z) path (table f (slots_under (along on g) ss))) fd.named ∙ ih path
      ∙ sym (ap (λ (z : Text). place_from (to_key s.path z) path (table f ss)) fd.named))
  same-places (into_element k i ∷ on) s v made (l, e, xs, before, f, ss, after, eq, items, place, rest) h =
      let fd : Found k (keyed l (tables e xs)) (slot_list s.slots) = found k s.slots (keyed l (tables e xs)) made eq in
      let well : SlotsAreWellMade ss =
      item-made before (table f ss) after (subst ItemsAreWellMade (sym (items_from-list xs) ∙ ap items_from items) fd.made) in
      let w : Visit = visit_of (to_element (to_key s.path l.name) (element_count before)) (s.keys ++ (l ∷ [])) true f ss in
      let ih = same-places on w v well rest h in
      let old : xs ≡ items_from (before ++ (table f ss ∷ after)) = sym (items_from-list xs) ∙ ap items_from items in
      let new : changed_at i (on_slots (along on g)) (item_list xs) ≡ before ++ (table f (slots_under (along on g) ss) ∷ after) =
      ap (changed_at i (on_slots (along on g))) items ∙ change-item before (table f ss) after i (on_slots (along on g)) place in
      in-slots s.path s.fields k (on_item (on_items (changed_at i (on_slots (along on g))))) s.slots (keyed l (tables e xs)) (λ z. refl) eq
      (λ path. ap (λ (z : Text). place_from (to_key s.path z) path (tables e (items_from (changed_at i (on_slots (along on g)) (item_list xs))))) fd.named
      ∙ ap (λ ns. place_from (to_key s.path l.name) path (tables e (items_from ns))) new
      ∙ in-tables (to_key s.path l.name) e before f (slots_under (along on g) ss) ss after ih path
      ∙ ap (λ z. place_from (to_key s.path l.name) path (tables e z)) (sym old)
      ∙ sym (ap (λ (z : Text). place_from (to_key s.path z) path (tables e xs)) fd.named))
