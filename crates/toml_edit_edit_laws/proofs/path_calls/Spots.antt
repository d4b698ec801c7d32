-- Where a path leaves the walk: at a slot, at an element, or into a value.
use Rattle.std.proofs.Common.{◌≡◌, refl, sym, ◌∙◌, ap, ℕ, true, false, List, [], ◌∷◌, ◌++◌, length, Some}
use Rattle.toml_edit_model.specs.Text.{Text}
use Rattle.toml_edit_model.specs.Paths.{to_key, to_element}
use Rattle.toml_edit_model.specs.Tree.{Key, Extent, TableFields, Node, nothing, leaf, list, inline, table, tables, Items, Slots, is_value_node}
use Rattle.toml_edit_model.specs.HeaderOrder.{Visit, visit_of}
use Rattle.toml_edit_model.specs.Slots.{keyed, lookup_slot}
use Rattle.toml_edit_model.specs.Lists.{slot_list, item_list}
use Rattle.toml_edit_model.specs.Shown.{is_table_node}
use Rattle.toml_edit_laws.specs.Locality.{Turn, into_table, into_element, Leads, element_count}
use Rattle.toml_edit_edit_laws.specs.Commands.{number_of, element_of, present, second, item_below}
use Rattle.toml_edit_edit_laws.specs.CommandLaws.{Goes}
use Rattle.toml_edit_edit_laws.proofs.commands.Keeping.{present-is, item-parts}
use Rattle.toml_edit_edit_laws.proofs.commands.Apart.{Named, named}
use Rattle.toml_edit_edit_laws.proofs.commands.Finding.{some-and, some-second}
use Rattle.toml_edit_laws.proofs.common.OptionSteps.{some-is}

-- an element of an array of tables, which its text names
pub record IsElement (x : Text) (top found : Node) : Type 0 where
  pub extent : Extent
  pub items : Items
  pub before : List Node
  pub fields : TableFields
  pub slots : Slots
  pub after : List Node
  pub is : top ≡ tables extent items
  pub parts : item_list items ≡ before ++ (table fields slots ∷ after)
  pub number : number_of x ≡ Some (length before)
  pub found_is : found ≡ table fields slots

-- how the rest of the path goes on in the item of the slot
pub data GoesOn (top found : Node) : List Text → Type 0 where
  at_slot : top ≡ found → GoesOn top found []
  at_element : (x : Text) → IsElement x top found → GoesOn top found (x ∷ [])
  in_value : (x : Text) (inner : List Text) → is_value_node top ≡ true → GoesOn top found (x ∷ inner)

pub record Spot (s : Visit) (path : List Text) (found : Node) : Type 0 where
  pub way : List Turn
  pub front : List Text
  pub visit : Visit
  pub segment : Text
  pub inner : List Text
  pub key : Key
  pub top : Node
  pub goes : Goes way front
  pub leads : Leads way s visit
  pub path_is : path ≡ front ++ (segment ∷ inner)
  pub there : lookup_slot segment (slot_list visit.slots) ≡ Some (keyed key top)
  pub shown : present (lookup_slot segment (slot_list visit.slots)) ≡ Some top
  pub below : item_below inner top ≡ Some found
  pub on : GoesOn top found inner

abbrev Below : Node → Text → List Text → Type 0
Below found k path = (v : Visit) → item_below (k ∷ path) (table v.fields v.slots) ≡ Some found → Spot v (k ∷ path) found

-- the same for the rest of a path, and for the rest but one segment
abbrev Later : Node → List Text → Type 0
Later found [] = Unit {0}
Later found (k ∷ path) = Below found k path

abbrev Later2 : Node → List Text → Type 0
Later2 found [] = Unit {0}
Later2 found (k ∷ path) = Later found path

module _ (found : Node) (k : Text) (s : Visit) where
  here : (l : Key) (a : Node) (path : List Text) → lookup_slot k (slot_list s.slots) ≡ Some (keyed l a) → present (lookup_slot k (slot_list s.slots)) ≡ Some a
      → item_below path a ≡ Some found → GoesOn a found path → Spot s (k ∷ path) found
  here l a path is shown h on =
      record {
        way = [];
        front = [];
        visit = s;
        segment = k;
        inner = path;
        key = l;
        top = a;
        goes = tt;
        leads = refl;
        path_is = refl;
        there = is;
        shown = shown;
        below = h;
        on = on;
      }

  by_element : (l : Key) (e : Extent) (xs : Items) (x : Text) (path : List Text) (i : ℕ) (b : Node)
      → lookup_slot k (slot_list s.slots) ≡ Some (keyed l (tables e xs))
      → present (lookup_slot k (slot_list s.slots)) ≡ Some (tables e xs)
      → item_below (x ∷ path) (tables e xs) ≡ Some found
      → (r : Named is_table_node x (item_list xs) (i, b)) → item_below path b ≡ Some found → Later found path
      → Spot s (k ∷ x ∷ path) found
  by_element l e xs x [] i (table g ys) is shown whole r h later =
      let p = item-parts i (item_list xs) (table g ys) r.item in
      here l (tables e xs) (x ∷ []) is shown whole
      (at_element x record {
        extent = e;
        items = xs;
        before = p.before;
        fields = g;
        slots = ys;
        after = p.after;
        is = refl;
        parts = p.is;
        number = r.number ∙ ap (λ j. Some j) (sym p.place);
        found_is = sym (some-is (table g ys) found h);
      })
  by_element l e xs x (j ∷ path) i (table g ys) is shown whole r h later =
      let p = item-parts i (item_list xs) (table g ys) r.item in
      let v : Visit = visit_of (to_element (to_key s.path l.name) (element_count p.before)) (s.keys ++ (l ∷ [])) true g ys in
      let z = later v h in
      record {
        way = into_element k i ∷ z.way;
        front = k ∷ x ∷ z.front;
        visit = z.visit;
        segment = z.segment;
        inner = z.inner;
        key = z.key;
        top = z.top;
        goes = (refl, r.number, z.goes);
        leads = (l, e, xs, p.before, g, ys, p.after, is, p.is, p.place, z.leads);
        path_is = ap (λ (q : List Text). k ∷ x ∷ q) z.path_is;
        there = z.there;
        shown = z.shown;
        below = z.below;
        on = z.on;
      }
  by_element l e xs x path i (tables g ys) is shown whole r h later = absurd (let c : false ≡ true = r.kind in cc)
  by_element l e xs x path i (leaf g ys d) is shown whole r h later = absurd (let c : false ≡ true = r.kind in cc)
  by_element l e xs x path i (list g ys) is shown whole r h later = absurd (let c : false ≡ true = r.kind in cc)
  by_element l e xs x path i (inline g ys) is shown whole r h later = absurd (let c : false ≡ true = r.kind in cc)
  by_element l e xs x path i nothing is shown whole r h later = absurd (let c : false ≡ true = r.kind in cc)

  by_kind : (l : Key) (a : Node) (path : List Text) → lookup_slot k (slot_list s.slots) ≡ Some (keyed l a)
      → present (lookup_slot k (slot_list s.slots)) ≡ Some a → item_below path a ≡ Some found
      → Later found path → Later2 found path
      → Spot s (k ∷ path) found
  by_kind l a [] is shown h go later = here l a [] is shown h (at_slot (some-is a found h))
  by_kind l (table g ys) (j ∷ path) is shown h go later =
      let z = go (visit_of (to_key s.path l.name) (s.keys ++ (l ∷ [])) false g ys) h in
      record {
        way = into_table k ∷ z.way;
        front = k ∷ z.front;
        visit = z.visit;
        segment = z.segment;
        inner = z.inner;
        key = z.key;
        top = z.top;
        goes = (refl, z.goes);
        leads = (l, g, ys, is, z.leads);
        path_is = ap (λ (q : List Text). k ∷ q) z.path_is;
        there = z.there;
        shown = z.shown;
        below = z.below;
        on = z.on;
      }
  by_kind l (tables e xs) (x ∷ path) is shown h go later =
      let b = some-and (item_below path) (second (element_of is_table_node x (item_list xs))) found h in
      let y = some-second (element_of is_table_node x (item_list xs)) b.0 b.1 in
      by_element l e xs x path y.0 b.0 is shown h (named is_table_node x (item_list xs) (y.0, b.0) y.1) b.2 later
  by_kind l (leaf g ys d) (x ∷ path) is shown h go later = here l (leaf g ys d) (x ∷ path) is shown h (in_value x path refl)
  by_kind l (list g ys) (x ∷ path) is shown h go later = here l (list g ys) (x ∷ path) is shown h (in_value x path refl)
  by_kind l (inline g ys) (x ∷ path) is shown h go later = here l (inline g ys) (x ∷ path) is shown h (in_value x path refl)
  by_kind l nothing (x ∷ path) is shown h go later = absurd cc

-- the spot of a path that is not empty
pub spot : (found : Node) (k : Text) (path : List Text) → Below found k path
spot found k [] s h =
    let a = some-and (item_below []) (present (lookup_slot k (slot_list s.slots))) found h in
    let p = present-is (lookup_slot k (slot_list s.slots)) a.0 a.1 in
    by_kind found k s p.key a.0 [] p.is a.1 a.2 tt tt
spot found k (j ∷ []) s h =
    let a = some-and (item_below (j ∷ [])) (present (lookup_slot k (slot_list s.slots))) found h in
    let p = present-is (lookup_slot k (slot_list s.slots)) a.0 a.1 in
    by_kind found k s p.key a.0 (j ∷ []) p.is a.1 a.2 (λ v g. spot found j [] v g) tt
spot found k (j ∷ i ∷ path) s h =
    let a = some-and (item_below (j ∷ i ∷ path)) (present (lookup_slot k (slot_list s.slots))) found h in
    let p = present-is (lookup_slot k (slot_list s.slots)) a.0 a.1 in
    by_kind found k s p.key a.0 (j ∷ i ∷ path) p.is a.1 a.2 (λ v g. spot found j (i ∷ path) v g) (λ v g. spot found i path v g)
