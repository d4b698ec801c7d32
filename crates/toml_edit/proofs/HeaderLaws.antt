-- The turns of the walk over the tables, and the text of a header by its parts.
use Rattle.std.proofs.Common.{◌≡◌, ℕ, ◌+◌, ◌<◌, Bool, true, false, List, [], ◌∷◌, ◌++◌, length, get_or, drop, refl, sym, ap, ◌∙◌, rules}
use Rattle.std.proofs.Common.{append_assoc, Some, eqb-true}
use Rattle.std.specs.Prelude.{not, ◌||◌, ◌==◌, if◌then◌else◌}
use Rattle.std.proofs.lemmas.List.{drop_more}
use Rattle.std.proofs.lemmas.Option.{same_Some}
use Rattle.toml_edit_model.specs.Mode.{Mode, plain, exact, shown_text}
use Rattle.toml_edit_model.specs.Syntax.{closing_brackets, opening_brackets, path_text}
use Rattle.toml_edit_model.specs.Text.{Text, carriage_return, has_byte, line_feed, newline, without_returns}
use Rattle.toml_edit_model.specs.Tree.{Decor, Items, Key, Node, Raw, Tree, inline, item, leaf, list, nothing, owned, shown_prefix}
use Rattle.toml_edit_model.specs.Tree.{shown_raw, span, shown_suffix, table, tables}
use Rattle.toml_edit_model.specs.Shown.{is_table_node}
use Rattle.toml_edit_model.specs.Order.{sorted_by}
use Rattle.toml_edit_model.specs.Print.{header_default, print_in, segments}
use Rattle.toml_edit_laws.specs.PrintByVisits.{Headed, Walked, begins, by_place, enter, headed_tables, headers_text, root_lines}
use Rattle.toml_edit_laws.specs.PrintByVisits.{header_parts, header_text, holds_newline, inside_brackets, walked, walked_items}
use Rattle.toml_edit_laws.proofs.print_by_visits.KeyTexts.{last_leaf-end}
use Rattle.toml_edit_laws.proofs.print_by_visits.PrintParts.{print-by-visits}
use Rattle.toml_edit_repr.specs.Views.{text_of}
use Rattle.toml_edit_tree.specs.declared.array.Array.{Array}
use Rattle.toml_edit_tree.specs.declared.array_of_tables.ArrayOfTables.{ArrayOfTables}
use Rattle.toml_edit_tree.specs.declared.inline_table.InlineTable.{InlineTable}
use Rattle.toml_edit_tree.specs.declared.item.Item.{Item, out-Item, the_lemmas}
use Rattle.toml_edit_tree.specs.declared.item.Item.TheOpen.{Item-F, Value-F}
use Rattle.toml_edit_tree.specs.declared.item.Item.TheVariants as items
use Rattle.toml_edit_tree.specs.declared.item.Item.TheViews.{roll-Item, roll-Value}
use Rattle.toml_edit_tree.specs.declared.table.Table.{Table}
use Rattle.toml_edit_tree.specs.declared.value.Value.{Value, out-Value}
use Rattle.toml_edit_tree.specs.View.{fields_view, item_view, items_view, table_slots, value_view}

-- ---- elements of arrays of tables

rolled : (x : Item) → x ≡ roll-Item (out-Item x)
rolled x = search (rules, the_lemmas)

-- the items from a place on
from-item : (xs : List Item) (i : ℕ) (x : Item) → i < length xs → x ≡ get_or xs i x
    → items_view (drop i xs) ≡ item (item_view x) (items_view (drop (i + 1) xs))
from-item xs i x h is =
    ap items_view (drop_more xs i x h) ∙ ap (λ (y : Item). item (item_view y) (items_view (drop (i + 1) xs))) (sym is)

-- what is no table is passed over
passed : (n : Node) (xs : Items) (ks : List Key) (w : Walked) → is_table_node n ≡ false → walked_items (item n xs) ks w
    ≡ walked_items xs ks w
passed (table f ss) xs ks w h = absurd cc
passed (tables e us) xs ks w h = refl
passed (leaf s spelling d) xs ks w h = refl
passed (list f us) xs ks w h = refl
passed (inline f ss) xs ks w h = refl
passed nothing xs ks w h = refl

view-value : (v : Value) → item_view (roll-Item (Item-F.Value v)) ≡ value_view v
view-value v = search (rules, the_lemmas)

of_value-open : (o : Value-F Item Value Array ArrayOfTables InlineTable Table) → is_table_node (value_view (roll-Value o)) ≡ false
of_value-open (Value-F.String f) = search (rules, the_lemmas)
of_value-open (Value-F.Integer f) = search (rules, the_lemmas)
of_value-open (Value-F.Float f) = search (rules, the_lemmas)
of_value-open (Value-F.Boolean f) = search (rules, the_lemmas)
of_value-open (Value-F.Datetime f) = search (rules, the_lemmas)
of_value-open (Value-F.Array a) = search (rules, the_lemmas)
of_value-open (Value-F.InlineTable t) = search (rules, the_lemmas)

rolled-value : (v : Value) → v ≡ roll-Value (out-Value v)
rolled-value v = search (rules, the_lemmas)

of_value : (v : Value) → is_table_node (value_view v) ≡ false
of_value v = ap (λ w. is_table_node (value_view w)) (rolled-value v) ∙ of_value-open (out-Value v)

other-open : (o : Item-F Item Value Array ArrayOfTables InlineTable Table) (xs : Items) (ks : List Key) (w : Walked)
    → ((t : Table) → roll-Item o ≡ items.Table t → ⊥)
    → walked_items (item (item_view (roll-Item o)) xs) ks w ≡ walked_items xs ks w
other-open (Item-F.Table t) xs ks w h = absurd (h t (search (rules, the_lemmas)))
other-open Item-F.None xs ks w h = search (rules, the_lemmas)
other-open (Item-F.Value v) xs ks w h =
    ap (λ n. walked_items (item n xs) ks w) (view-value v) ∙ passed (value_view v) xs ks w (of_value v)
other-open (Item-F.ArrayOfTables a) xs ks w h = search (rules, the_lemmas)

-- one that is no table is left out
pub other-turn : (xs : List Item) (i : ℕ) (x : Item) (ks : List Key) (w : Walked) → i < length xs → x ≡ get_or xs i x
    → ((t : Table) → x ≡ items.Table t → ⊥)
    → walked_items (items_view (drop i xs)) ks w ≡ walked_items (items_view (drop (i + 1) xs)) ks w
other-turn xs i x ks w h is other =
    ap (λ y. walked_items y ks w) (from-item xs i x h is)
    ∙ ap (λ y. walked_items (item (item_view y) (items_view (drop (i + 1) xs))) ks w) (rolled x)
    ∙ other-open (out-Item x) (items_view (drop (i + 1) xs)) ks w (λ t e. other t (rolled x ∙ e))

view-table : (t : Table) → item_view (items.Table t) ≡ table (fields_view t) (table_slots t)
view-table t = search (rules, the_lemmas)

-- a table is entered
pub element-turn : (xs : List Item) (i : ℕ) (x : Item) (ks : List Key) (w : Walked) → i < length xs → x ≡ get_or xs i x
    → (t : Table) → x ≡ items.Table t
    → walked_items (items_view (drop i xs)) ks w
    ≡ walked_items (items_view (drop (i + 1) xs)) ks (walked (table_slots t) ks (enter w ks true (fields_view t) (table_slots t)))
element-turn xs i x ks w h is t e =
    ap (λ y. walked_items y ks w) (from-item xs i x h is)
    ∙ ap (λ y. walked_items (item (item_view y) (items_view (drop (i + 1) xs))) ks w) e
    ∙ ap (λ y. walked_items (item y (items_view (drop (i + 1) xs))) ks w) (view-table t)

-- ---- newlines

-- to leave out carriage returns leaves out no newline
pub newline-kept : (t : Text) → has_byte line_feed (without_returns t) ≡ has_byte line_feed t
newline-kept [] = refl
newline-kept (c ∷ t) = by_return (c == carriage_return) refl (newline-kept t)
  where
    by_return : (b : Bool) → (c == carriage_return) ≡ b → has_byte line_feed (without_returns t) ≡ has_byte line_feed t
        → has_byte line_feed (if not b then c ∷ without_returns t else without_returns t) ≡ has_byte line_feed (c ∷ t)
    by_return true e h = h ∙ sym (ap (λ n. (n == line_feed) || has_byte line_feed t) (eqb-true c carriage_return e))
    by_return false e h = ap (λ b. (c == line_feed) || b) h

-- the text of a raw text that is no span
pub shown-owned : (mode : Mode) (r : Raw) (t : Text) → text_of r ≡ Some t → shown_raw mode r ≡ shown_text mode t
shown-owned mode (owned u) t e = ap (shown_text mode) (same_Some u t e)
shown-owned mode (span i j) t e = absurd cc

-- it has a newline just where it is shown with one, in each mode
pub newline-shown : (mode : Mode) (r : Raw) (t : Text) → text_of r ≡ Some t → has_byte line_feed (shown_raw mode r) ≡ has_byte line_feed t
newline-shown plain r t e = ap (has_byte line_feed) (shown-owned plain r t e) ∙ newline-kept t
newline-shown exact r t e = ap (has_byte line_feed) (shown-owned exact r t e)

-- ---- headers

parts : (l p o i c s n : Text) → l ++ (p ++ ((o ++ (i ++ c)) ++ (s ++ n))) ≡ l ++ (p ++ (o ++ (i ++ (c ++ (s ++ n)))))
parts l p o i c s n = simp append_assoc

module _ (mode : Mode) where
  -- a header whose keys end in this one, in the parts that are written
  pub header-written : (is_first : Bool) (h : Headed) (ks : List Key) (k : Key) → h.keys ≡ ks ++ (k ∷ [])
      → (if holds_newline mode k.leaf then shown_prefix mode [] k.leaf else [])
      ++ (shown_prefix mode (header_default is_first) h.fields.decor
      ++ ((opening_brackets h.is_element ++ (inside_brackets mode k.leaf (path_text (segments mode (ks ++ (k ∷ []))))
      ++ closing_brackets h.is_element))
      ++ (shown_suffix mode [] h.fields.decor ++ newline)))
      ≡ header_text mode is_first h
  header-written is_first h ks k e =
      parts (if holds_newline mode k.leaf then shown_prefix mode [] k.leaf
      else []) (shown_prefix mode (header_default is_first) h.fields.decor)
      (opening_brackets h.is_element) (inside_brackets mode k.leaf (path_text (segments mode (ks ++ (k ∷ [])))))
      (closing_brackets h.is_element)
      (shown_suffix mode [] h.fields.decor) newline
      ∙ ap (λ (d : Decor). header_parts mode is_first h.is_element d (path_text (segments mode (ks ++ (k ∷ [])))) h.fields)
      (sym (last_leaf-end ks k))
      ∙ ap (λ (js : List Key). header_text mode is_first (record h { keys = js })) (sym e)

  -- the same where its parts are known to be these
  pub header-by-parts : (is_first : Bool) (h : Headed) (ks : List Key) (k : Key) → h.keys ≡ ks ++ (k ∷ [])
      → (b : Bool) (p d s : Text) → b ≡ holds_newline mode k.leaf → p ≡ shown_prefix mode [] k.leaf
      → d ≡ shown_prefix mode (header_default is_first) h.fields.decor → s ≡ shown_suffix mode [] h.fields.decor
      → (if b then p else [])
      ++ (d ++ ((opening_brackets h.is_element ++ (inside_brackets mode k.leaf (path_text (segments mode (ks ++ (k ∷ []))))
      ++ closing_brackets h.is_element))
      ++ (s ++ newline)))
      ≡ header_text mode is_first h
  header-by-parts is_first h ks k e b p d s eb ep ed es = rw (eb, ep, ed, es) (header-written is_first h ks k e)

  -- ---- documents

  -- the print by its parts, where the text of the headers is one of them
  pub print-by-texts : (t : Tree) (p r h s u : Text) → p ≡ shown_prefix mode [] t.root.decor → r ≡ root_lines mode t.root t.slots
      → h ≡ headers_text mode (begins t.root t.slots) (sorted_by by_place (headed_tables t.root t.slots))
      → s ≡ shown_suffix mode [] t.root.decor → u ≡ shown_raw mode t.trailing → p ++ (r ++ (h ++ (s ++ u))) ≡ print_in mode false t
  print-by-texts t p r h s u ep er eh es eu = rw (ep, er, eh, es, eu) (sym (print-by-visits mode t))
