-- The misfits of lines, by where they are.
use Rattle.std.proofs.Common.{◌≡◌, refl, sym, ap, ◌∙◌, Bool, true, false, List, [], ◌∷◌, ◌++◌, rules}
use Rattle.std.specs.Prelude.{if◌then◌else◌}
use Rattle.toml_edit_model.specs.Mode.{Mode}
use Rattle.toml_edit_model.specs.Syntax.{nesting_limit}
use Rattle.toml_edit_model.specs.Tree.{Key, Node, leaf, list, inline, table, tables, nothing, Slots, TableFields, is_value_node}
use Rattle.toml_edit_slots.specs.declared.slots.Slot.{Slot}
use Rattle.toml_edit_tree.specs.Containers.{table_node}
use Rattle.toml_edit_tree.specs.declared.item.Item.{Item, the_lemmas}
use Rattle.toml_edit_tree.specs.declared.item.Item.TheVariants as items
use Rattle.toml_edit_tree.specs.declared.table.Table.{Table, out-Table}
use Rattle.toml_edit_tree.specs.declared.value.Value.{Value}
use Rattle.toml_edit_tree.specs.View.{fields_view, item_view, slots_view, table_view, value_view}
use Rattle.toml_edit_tree.proofs.TurnLaws.{value-node}
use Rattle.toml_edit_tree.proofs.ViewLaws.{table_slots, view-Table, view-Value}
use Rattle.toml_edit_fits.specs.declared.route.Route.{Route}
use Rattle.toml_edit_fits.specs.declared.value.Place.{Place}
use Rattle.toml_edit_fits.specs.declared.value.Place.TheVariants as places
use Rattle.toml_edit_fits.specs.FitTests.{then_key}
use Rattle.toml_edit_fits.specs.LinePlaces.{enters, place_misfits, room_of, slot_misfits}
use Rattle.toml_edit_fits.specs.Misfits.{MisfitView, below, dotted_misfits, lines_misfits, pair_misfits, value_misfits, within_misfits}

module _ (mode : Mode) where
  -- the misfits of a slot, and of those to come
  pub slot-split : (p : Place) (r : Route) (s : Slot Item) (es : List (Slot Item)) → place_misfits mode p r (slots_view (s ∷ es))
      ≡ below s.key.name (slot_misfits mode p r s.key (item_view s.item)) ++ place_misfits mode p r (slots_view es)
  slot-split places.Table r s es = refl
  slot-split (places.Braces room) r s es = refl

  -- ---- a value

  -- the lines in a value are the same in a table
  value-lines : (r : Route) (n : Node) → is_value_node n ≡ true → within_misfits mode nesting_limit r n ≡ dotted_misfits mode r n
  value-lines r (leaf s spelling d) h = refl
  value-lines r (list f xs) h = refl
  value-lines r (inline f ss) h = refl
  value-lines r (table f ss) h = absurd cc
  value-lines r (tables e xs) h = absurd cc
  value-lines r nothing h = absurd cc

  abbrev of_value : Place → Route → Key → Node → List MisfitView
  of_value p r k n =
      pair_misfits mode (room_of p) r k n (value_misfits mode (room_of p) n) (within_misfits mode (room_of p) (then_key mode r k) n)

  value-node-slot : (p : Place) (r : Route) (k : Key) (n : Node) → is_value_node n ≡ true → of_value p r k n ≡ slot_misfits mode p r k n
  value-node-slot places.Table r k n h =
      ap (pair_misfits mode nesting_limit r k n (value_misfits mode nesting_limit n)) (value-lines (then_key mode r k) n h)
  value-node-slot (places.Braces room) r k n h = refl

  pub value-slot : (p : Place) (r : Route) (k : Key) (x : Item) (v : Value) → x ≡ items.Value v
      → of_value p r k (value_view v) ≡ slot_misfits mode p r k (item_view x)
  value-slot p r k x v is =
      value-node-slot p r k (value_view v) (sym (ap is_value_node (view-Value v)) ∙ value-node (items.Value v) v refl)
      ∙ sym (ap (λ (n : Node). slot_misfits mode p r k n) (ap item_view is ∙ view-Value v))

  -- ---- a table

  table-fields : (t : Table) → (table_view t).fields ≡ fields_view t
  table-fields t = search (rules, the_lemmas)

  entered : (p : Place) (r : Route) (k : Key) (f : TableFields) (ss : Slots) → enters p f ≡ true
      → place_misfits mode p (then_key mode r k) ss ≡ slot_misfits mode p r k (table f ss)
  entered places.Table r k f ss h = sym (ap (λ (b : Bool). if b then lines_misfits mode (then_key mode r k) ss else []) h)
  entered (places.Braces room) r k f ss h = refl

  left-out : (p : Place) (r : Route) (k : Key) (f : TableFields) (ss : Slots) → enters p f ≡ false
      → [] ≡ slot_misfits mode p r k (table f ss)
  left-out places.Table r k f ss h = sym (ap (λ (b : Bool). if b then lines_misfits mode (then_key mode r k) ss else []) h)
  left-out (places.Braces room) r k f ss h = absurd cc

  module _ (p : Place) (r : Route) (k : Key) (x : Item) (t : Table) (is : x ≡ items.Table t) where
    seen : slot_misfits mode p r k (table_node (table_view t)) ≡ slot_misfits mode p r k (item_view x)
    seen = sym (ap (λ (n : Node). slot_misfits mode p r k n) (ap item_view is ∙ view-Table t))

    pub table-slot : enters p (fields_view t) ≡ true
        → place_misfits mode p (then_key mode r k) (slots_view (out-Table t).slots) ≡ slot_misfits mode p r k (item_view x)
    table-slot h =
        ap (place_misfits mode p (then_key mode r k)) (sym (table_slots t))
        ∙ entered p r k (table_view t).fields (table_view t).slots (ap (enters p) (table-fields t) ∙ h) ∙ seen

    pub table-left : enters p (fields_view t) ≡ false → [] ≡ slot_misfits mode p r k (item_view x)
    table-left h = left-out p r k (table_view t).fields (table_view t).slots (ap (enters p) (table-fields t) ∙ h) ∙ seen

  -- ---- another item

  pub no-slot : (p : Place) (r : Route) (k : Key) (x : Item) → x ≡ items.None → [] ≡ slot_misfits mode p r k (item_view x)
  no-slot places.Table r k x is = search (rules, the_lemmas)
  no-slot (places.Braces room) r k x is = search (rules, the_lemmas)
