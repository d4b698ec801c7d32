-- What items hold, as it is seen in their trees.
use Rattle.std.proofs.Common.{◌≡◌, ℕ, zero, suc, Bool, true, false, cond, List, [], ◌∷◌, filter, map, Option, Some, None, IsSome, MatchBool}
use Rattle.std.proofs.Common.{option_map, option_and_then, slice_get, unwrap_or, refl, sym, ap, subst, ◌∙◌, rules}
use Rattle.std.specs.Borrow.{Bor}
use Rattle.std.specs.Option.{option_copied}
use Rattle.toml_edit_slots.specs.Elements.{SaysOfHeld, element_at}
use Rattle.toml_edit_model.specs.Lists.{only}
use Rattle.toml_edit_model.specs.Retaining.{RetainsBy}
use Rattle.toml_edit_model.specs.Shown.{is_table_node}
use Rattle.toml_edit_model.specs.Tree.{Node, nothing, leaf, list, inline, table, tables, is_value_node}
use Rattle.toml_edit_tree.specs.Containers.{table_node}
use Rattle.toml_edit_tree.specs.declared.array.Array.{Array}
use Rattle.toml_edit_tree.specs.declared.array_of_tables.ArrayOfTables.{ArrayOfTables}
use Rattle.toml_edit_tree.specs.declared.inline_table.InlineTable.{InlineTable}
use Rattle.toml_edit_tree.specs.declared.item.Item.{Item, out-Item, the_lemmas}
use Rattle.toml_edit_tree.specs.declared.item.Item.TheOpen.{Item-F}
use Rattle.toml_edit_tree.specs.declared.item.Item.TheVariants as items
use Rattle.toml_edit_tree.specs.declared.item.Item.TheViews.{roll-Item}
use Rattle.toml_edit_tree.specs.declared.table.Table.{Table}
use Rattle.toml_edit_tree.specs.declared.value.Value.{Value}
use Rattle.toml_edit_tree.specs.ElementClosures.{KeepsOnly}
use Rattle.toml_edit_tree.specs.ElementHolds.{table_held, table_open, value_held, value_open}
use Rattle.toml_edit_tree.specs.Elements.{listed}
use Rattle.toml_edit_tree.specs.View.{item_view, table_view, value_view}
use Rattle.toml_edit_tree.proofs.ElementLaws.{listed-map}
use Rattle.toml_edit_tree.proofs.RetainLaws.{retains-listed}
use Rattle.toml_edit_tree.proofs.TurnLaws.{value-node}
use Rattle.toml_edit_tree.proofs.ViewLaws.{view-Value}

-- ---- of one item

rolled : (x : Item) → roll-Item (out-Item x) ≡ x
rolled x = search (rules, the_lemmas)

passes : (b : Bool) (m n : Node) → m ≡ n → b ≡ true → Some m ≡ cond b (Some n) None
passes true m n e is = ap Some e
passes false m n e is = absurd cc

no_table : (n : Node) → is_value_node n ≡ true → None ≡ only is_table_node n
no_table nothing e = refl
no_table (leaf s spelling d) e = refl
no_table (list f xs) e = refl
no_table (inline f ss) e = refl
no_table (table f ss) e = absurd cc
no_table (tables t xs) e = refl

value-open : (o : Item-F Item Value Array ArrayOfTables InlineTable Table) → option_map value_view (value_open o)
    ≡ only is_value_node (item_view (roll-Item o))
value-open (Item-F.Value v) =
    let x = roll-Item (Item-F.Value v) in
    let is : x ≡ items.Value v = search (rules, the_lemmas) in
    passes (is_value_node (item_view x)) (value_view v) (item_view x) (sym (ap item_view is ∙ view-Value v)) (value-node x v is)
value-open Item-F.None = search (rules, the_lemmas)
value-open (Item-F.Table t) = search (rules, the_lemmas)
value-open (Item-F.ArrayOfTables a) = search (rules, the_lemmas)

table-open : (o : Item-F Item Value Array ArrayOfTables InlineTable Table)
    → option_map (λ t. table_node (table_view t)) (table_open o) ≡ only is_table_node (item_view (roll-Item o))
table-open (Item-F.Table t) = search (rules, the_lemmas)
table-open Item-F.None = search (rules, the_lemmas)
table-open (Item-F.Value v) =
    let x = roll-Item (Item-F.Value v) in
    let is : x ≡ items.Value v = search (rules, the_lemmas) in
    no_table (item_view x) (value-node x v is)
table-open (Item-F.ArrayOfTables a) = search (rules, the_lemmas)

pub value-seen : (x : Item) → option_map value_view (value_held x) ≡ only is_value_node (item_view x)
value-seen x = value-open (out-Item x) ∙ ap (λ y. only is_value_node (item_view y)) (rolled x)

pub table-seen : (x : Item) → option_map (λ t. table_node (table_view t)) (table_held x) ≡ only is_table_node (item_view x)
table-seen x = table-open (out-Item x) ∙ ap (λ y. only is_table_node (item_view y)) (rolled x)

-- ---- of a list

module _ {E : Type 0} (held : Item → Option E) (view : E → Node) (test : Node → Bool) (same : (x : Item) → option_map view (held x)
    ≡ only test (item_view x)) where
  seen-map : (xs : List Item) (i : ℕ) → option_map view (element_at held i xs)
      ≡ option_and_then (only test) (slice_get (map item_view xs) i)
  seen-map [] i = refl
  seen-map (x ∷ xs) zero = same x
  seen-map (x ∷ xs) (suc i) = seen-map xs i

  -- what stands at a place
  pub seen-at : (xs : List Item) (i : ℕ) → option_map view (element_at held i xs) ≡ option_and_then (only test) (slice_get (listed xs) i)
  seen-at xs i = seen-map xs i ∙ ap (λ l. option_and_then (only test) (slice_get l i)) (sym (listed-map xs))

  is-there : (o : Option E) → IsSome (option_map view o) → IsSome o
  is-there None s = s
  is-there (Some e) s = s

  pub stands-at : (xs : List Item) (i : ℕ) → IsSome (option_and_then (only test) (slice_get (listed xs) i)) → IsSome (element_at held i xs)
  stands-at xs i s = is-there (element_at held i xs) (subst IsSome (sym (seen-at xs i)) s)

  pub found-at : (xs : List Item) (i : ℕ) (e : E) → Some e ≡ element_at held i xs → Some (view e)
      ≡ option_and_then (only test) (slice_get (listed xs) i)
  found-at xs i e is = ap (option_map view) is ∙ seen-at xs i

  read : (o : Option (Bor E)) → option_map (λ e. view e.now) o ≡ option_map view (option_copied o)
  read None = refl
  read (Some e) = refl

  pub read-at : (xs : List Item) (i : ℕ) (o : Option (Bor E)) → option_copied o ≡ element_at held i xs
      → option_map (λ e. view e.now) o ≡ option_and_then (only test) (slice_get (listed xs) i)
  read-at xs i o is = read o ∙ ap (option_map view) is ∙ seen-at xs i

  -- what a `retain` leaves
  module _ (says : E → Bool → Type 0) where
    abbrev SaysOfSeen : Node → Bool → Type 0
    SaysOfSeen n b = (e : E) × (view e ≡ n) × says e b

    keeps-seen : (o : Option E) (n : Node) (t b : Bool) → option_map view o ≡ cond t (Some n) None → SaysOfHeld says o b
        → MatchBool t (SaysOfSeen n b) (b ≡ false)
    keeps-seen None n true b is s = absurd cc
    keeps-seen None n false b is s = s
    keeps-seen (Some e) n true b is s = (e, ap (λ p. unwrap_or p n) is, s)
    keeps-seen (Some e) n false b is s = absurd cc

    weaker : (xs ys : List Item) → RetainsBy (λ x. SaysOfHeld says (held x)) xs ys
        → RetainsBy (λ x. KeepsOnly test SaysOfSeen (item_view x)) xs ys
    weaker [] ys r = r
    weaker (x ∷ xs) ys r = (r.0, r.1, keeps-seen (held x) (item_view x) (test (item_view x)) r.0 (same x) r.2, weaker xs r.1 r.3, r.4)

    pub retains-held : (xs ys : List Item) → RetainsBy (λ x. SaysOfHeld says (held x)) xs ys
        → RetainsBy SaysOfSeen (filter test (listed xs)) (listed ys)
    retains-held xs ys r = retains-listed test SaysOfSeen xs ys (weaker xs ys r)
