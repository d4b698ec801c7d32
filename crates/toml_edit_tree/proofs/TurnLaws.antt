-- The turns of the loops that print: what is done and the text of what is left stay the whole text.
use Rattle.std.proofs.Common.{◌≡◌, ℕ, ◌+◌, ◌<◌, ◌≤◌, Bool, true, false, List, [], ◌∷◌, ◌++◌, Option, length, get_or, drop, sym, ap, ◌∙◌}
use Rattle.std.proofs.Common.{rules, append_assoc}
use Rattle.std.proofs.lemmas.List.{at_drop_all, drop_more}
use Rattle.toml_edit_model.specs.Text.{Text}
use Rattle.toml_edit_model.specs.Mode.{Mode}
use Rattle.toml_edit_model.specs.Tree.{Decor, Items, Key, Node, is_value_node, item}
use Rattle.toml_edit_model.specs.Print.{Line, inside_lines, table_lines}
use Rattle.toml_edit_slots.specs.declared.slots.Slot.{Slot}
use Rattle.toml_edit_tree.specs.Printing.{lines_in_table, lines_of_item, node_text}
use Rattle.toml_edit_tree.specs.declared.array.Array.{Array}
use Rattle.toml_edit_tree.specs.declared.array_of_tables.ArrayOfTables.{ArrayOfTables}
use Rattle.toml_edit_tree.specs.declared.inline_table.InlineTable.{InlineTable}
use Rattle.toml_edit_tree.specs.declared.item.Item.{Item, out-Item, the_lemmas}
use Rattle.toml_edit_tree.specs.declared.item.Item.TheOpen.{Item-F, Value-F}
use Rattle.toml_edit_tree.specs.declared.item.Item.TheVariants as items
use Rattle.toml_edit_tree.specs.declared.item.Item.TheViews.{roll-Item, roll-Value}
use Rattle.toml_edit_tree.specs.declared.table.Table.{Table}
use Rattle.toml_edit_tree.specs.declared.value.Value.{Value, out-Value}
use Rattle.toml_edit_tree.specs.View.{item_view, items_view, slots_view, value_view}
use Rattle.toml_edit_laws.proofs.print_by_visits.PairTexts.{last_shown-append, pairs_shown-append}
use Rattle.toml_edit_laws.proofs.print_by_visits.ValueTexts.{value-is}
use Rattle.toml_edit_tree.proofs.ViewLaws.{view-Value}
use Rattle.toml_edit_laws.specs.PrintByVisits.{last_comma, last_shown, element_text, pairs_shown, written_items, written_value}

-- ---- items

-- the node of an item that holds a value is one
value-open : (o : Value-F Item Value Array ArrayOfTables InlineTable Table) → is_value_node (value_view (roll-Value o)) ≡ true
value-open (Value-F.String f) = search (rules, the_lemmas)
value-open (Value-F.Integer f) = search (rules, the_lemmas)
value-open (Value-F.Float f) = search (rules, the_lemmas)
value-open (Value-F.Boolean f) = search (rules, the_lemmas)
value-open (Value-F.Datetime f) = search (rules, the_lemmas)
value-open (Value-F.Array a) = search (rules, the_lemmas)
value-open (Value-F.InlineTable t) = search (rules, the_lemmas)

rolled : (v : Value) → v ≡ roll-Value (out-Value v)
rolled v = search (rules, the_lemmas)

pub value-node : (x : Item) (v : Value) → x ≡ items.Value v → is_value_node (item_view x) ≡ true
value-node x v is =
    ap (λ y. is_value_node (item_view y)) is ∙ ap is_value_node (view-Value v)
    ∙ ap (λ w. is_value_node (value_view w)) (rolled v) ∙ value-open (out-Value v)

-- that of another is none
other-open : (o : Item-F Item Value Array ArrayOfTables InlineTable Table) → ((v : Value) → roll-Item o ≡ items.Value v → ⊥)
    → is_value_node (item_view (roll-Item o)) ≡ false
other-open (Item-F.Value v) h = absurd (h v (search (rules, the_lemmas)))
other-open Item-F.None h = search (rules, the_lemmas)
other-open (Item-F.Table t) h = search (rules, the_lemmas)
other-open (Item-F.ArrayOfTables a) h = search (rules, the_lemmas)

rolled-item : (x : Item) → x ≡ roll-Item (out-Item x)
rolled-item x = search (rules, the_lemmas)

other-node : (x : Item) → ((v : Value) → x ≡ items.Value v → ⊥) → is_value_node (item_view x) ≡ false
other-node x h =
    ap (λ y. is_value_node (item_view y)) (rolled-item x) ∙ other-open (out-Item x) (λ v e. h v (rolled-item x ∙ e))

-- the items from a place on
from-item : (xs : List Item) (i : ℕ) (x : Item) → i < length xs → x ≡ get_or xs i x
    → items_view (drop i xs) ≡ item (item_view x) (items_view (drop (i + 1) xs))
from-item xs i x h is =
    ap items_view (drop_more xs i x h) ∙ ap (λ (y : Item). item (item_view y) (items_view (drop (i + 1) xs))) (sym is)

module _ (mode : Mode) where
  abbrev by_test : Bool → Bool → Node → Items → Bool → Text
  by_test comma is_first n xs b =
      elim b [
        | true ↦ element_text mode is_first n (written_value mode n) ++ written_items mode comma false xs
        | false ↦ written_items mode comma is_first xs
      ]

  module _ (comma is_first : Bool) (xs : List Item) (i : ℕ) (x : Item) (h : i < length xs) (is : x ≡ get_or xs i x) where
    value-text : (v : Value) → x ≡ items.Value v
        → written_items mode comma is_first (items_view (drop i xs))
        ≡ element_text mode is_first (value_view v) (node_text mode (value_view v))
        ++ written_items mode comma false (items_view (drop (i + 1) xs))
    value-text v e =
        ap (written_items mode comma is_first) (from-item xs i x h is)
        ∙ ap (by_test comma is_first (item_view x) (items_view (drop (i + 1) xs))) (value-node x v e)
        ∙ ap (λ (n : Node). by_test comma is_first n (items_view (drop (i + 1) xs)) true) (ap item_view e ∙ view-Value v)
        ∙ ap (λ (t : Text). element_text mode is_first (value_view v) t ++ written_items mode comma false (items_view (drop (i + 1) xs)))
        (sym (value-is mode (value_view v)))

    other-text : ((v : Value) → x ≡ items.Value v → ⊥)
        → written_items mode comma is_first (items_view (drop i xs)) ≡ written_items mode comma is_first (items_view (drop (i + 1) xs))
    other-text none =
        ap (written_items mode comma is_first) (from-item xs i x h is)
        ∙ ap (by_test comma is_first (item_view x) (items_view (drop (i + 1) xs))) (other-node x none)

    module _ (done all : Text) (more : done ++ written_items mode comma is_first (items_view (drop i xs)) ≡ all) where
      -- an item that holds a value is written
      pub value-turn : (v : Value) → x ≡ items.Value v
          → (done ++ element_text mode is_first (value_view v) (node_text mode (value_view v)))
          ++ written_items mode comma false (items_view (drop (i + 1) xs)) ≡ all
      value-turn v e =
          append_assoc done (element_text mode is_first (value_view v) (node_text mode (value_view v)))
          (written_items mode comma false (items_view (drop (i + 1) xs)))
          ∙ ap (λ (t : Text). done ++ t) (sym (value-text v e)) ∙ more

      -- another is left out
      pub other-turn : ((v : Value) → x ≡ items.Value v → ⊥) → done ++ written_items mode comma is_first (items_view (drop (i + 1) xs))
          ≡ all
      other-turn none = ap (λ (t : Text). done ++ t) (sym (other-text none)) ∙ more

  -- none are left
  pub items-end : (comma is_first : Bool) (xs : List Item) (i : ℕ) → length xs ≤ i → (done all : Text)
      → done ++ written_items mode comma is_first (items_view (drop i xs)) ≡ all → done ++ last_comma comma is_first ≡ all
  items-end comma is_first xs i h done all more =
      ap (λ (t : Text). done ++ t) (sym (at_drop_all (λ ys. written_items mode comma is_first (items_view ys)) xs i h)) ∙ more

  -- ---- slots

  module _ (es : List (Slot Item)) (i : ℕ) (s : Slot Item) (h : i < length es) (is : s ≡ get_or es i s) (ks : List Key) where
    abbrev own : List Line
    own = lines_of_item mode (item_view s.item) (ks ++ (s.key ∷ []))

    abbrev rest : List Line
    rest = inside_lines mode (slots_view (drop (i + 1) es)) ks

    pub from-slot : inside_lines mode (slots_view (drop i es)) ks ≡ own ++ rest
    from-slot =
        ap (λ (fs : List (Slot Item)). inside_lines mode (slots_view fs) ks) (drop_more es i s h)
        ∙ ap (λ (e : Slot Item). lines_of_item mode (item_view e.item) (ks ++ (e.key ∷ [])) ++ rest) (sym is)

    abbrev own-in-table : List Line
    own-in-table = lines_in_table mode (item_view s.item) (ks ++ (s.key ∷ []))

    abbrev rest-in-table : List Line
    rest-in-table = table_lines mode (slots_view (drop (i + 1) es)) ks

    pub from-slot-in-table : table_lines mode (slots_view (drop i es)) ks ≡ own-in-table ++ rest-in-table
    from-slot-in-table =
        ap (λ (fs : List (Slot Item)). table_lines mode (slots_view fs) ks) (drop_more es i s h)
        ∙ ap (λ (e : Slot Item). lines_in_table mode (item_view e.item) (ks ++ (e.key ∷ [])) ++ rest-in-table) (sym is)

    module _ (before next : Option Decor) (last : next ≡ last_shown before own) where
      -- the decor of the last pair
      pub last-turn : (all : Option Decor) → last_shown before (inside_lines mode (slots_view (drop i es)) ks) ≡ all → last_shown next rest
          ≡ all
      last-turn all more =
          ap (λ (d : Option Decor). last_shown d rest) last
          ∙ sym (ap (last_shown before) from-slot ∙ last_shown-append before own rest) ∙ more

      -- the pairs of a slot
      pub pairs-turn : (done all : Text) → done ++ pairs_shown mode before (inside_lines mode (slots_view (drop i es)) ks) ≡ all
          → (done ++ pairs_shown mode before own) ++ pairs_shown mode next rest ≡ all
      pairs-turn done all more =
          append_assoc done (pairs_shown mode before own) (pairs_shown mode next rest)
          ∙ ap (λ (d : Option Decor). done ++ (pairs_shown mode before own ++ pairs_shown mode d rest)) last
          ∙ ap (λ (t : Text). done ++ t) (sym (ap (pairs_shown mode before) from-slot ∙ pairs_shown-append mode before own rest)) ∙ more
