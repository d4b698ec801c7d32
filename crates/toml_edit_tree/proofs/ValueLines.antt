-- Which values are lines of their own, and the texts of containers by their fields.
use Rattle.std.proofs.Common.{◌≡◌, Bool, true, false, List, [], ◌++◌, Option, None, sym, ap, ◌∙◌, rules}
use Rattle.std.specs.Prelude.{codes, not}
use Rattle.toml_edit_model.specs.Text.{Text}
use Rattle.toml_edit_model.specs.Mode.{Mode}
use Rattle.toml_edit_model.specs.Tree.{Decor, Key, InlineFields, Raw, Slots, inline, shown_raw}
use Rattle.toml_edit_model.specs.Print.{Line, inside_lines, is_line_node, line_of, value_of}
use Rattle.toml_edit_tree.specs.Containers.{array_node, inline_node}
use Rattle.toml_edit_tree.specs.Printing.{lines_of_item, node_text}
use Rattle.toml_edit_tree.specs.declared.array.Array.{Array, out-Array}
use Rattle.toml_edit_tree.specs.declared.array_of_tables.ArrayOfTables.{ArrayOfTables}
use Rattle.toml_edit_tree.specs.declared.inline_table.InlineTable.{InlineTable, out-InlineTable}
use Rattle.toml_edit_tree.specs.declared.item.Item.{Item, the_lemmas}
use Rattle.toml_edit_tree.specs.declared.item.Item.TheOpen.{Value-F}
use Rattle.toml_edit_tree.specs.declared.item.Item.TheViews.{roll-Value}
use Rattle.toml_edit_tree.specs.declared.table.Table.{Table}
use Rattle.toml_edit_tree.specs.declared.value.Value.{Value, out-Value}
use Rattle.toml_edit_tree.specs.declared.value.Value.TheVariants as values
use Rattle.toml_edit_tree.specs.View.{array_view, inline_view, items_view, slots_view, value_view}
use Rattle.toml_edit_laws.proofs.print_by_visits.PairTexts.{pairs-closed}
use Rattle.toml_edit_laws.proofs.print_by_visits.ValueTexts.{value-is}
use Rattle.toml_edit_tree.proofs.ViewLaws.{array_items, inline_slots, view-InlineTable}
use Rattle.toml_edit_laws.specs.PrintByVisits.{last_shown, after_pairs, pairs_shown, written_items}

pub array-comma : (a : Array) → (array_view a).fields.comma ≡ (out-Array a).trailing_comma
array-comma a = search (rules, the_lemmas)

pub array-trailing : (a : Array) → (array_view a).fields.trailing ≡ (out-Array a).trailing
array-trailing a = search (rules, the_lemmas)

pub inline-comma : (t : InlineTable) → (inline_view t).fields.comma ≡ (out-InlineTable t).trailing_comma
inline-comma t = search (rules, the_lemmas)

pub inline-trailing : (t : InlineTable) → (inline_view t).fields.trailing ≡ (out-InlineTable t).trailing
inline-trailing t = search (rules, the_lemmas)

pub inline-dotted : (t : InlineTable) → (inline_view t).fields.is_dotted ≡ (out-InlineTable t).dotted
inline-dotted t = search (rules, the_lemmas)

-- a value that is no inline table is a line
other-open : (o : Value-F Item Value Array ArrayOfTables InlineTable Table) → ((t : InlineTable) → roll-Value o ≡ values.InlineTable t → ⊥)
    → is_line_node (value_view (roll-Value o)) ≡ true
other-open (Value-F.InlineTable t) h = absurd (h t (search (rules, the_lemmas)))
other-open (Value-F.String f) h = search (rules, the_lemmas)
other-open (Value-F.Integer f) h = search (rules, the_lemmas)
other-open (Value-F.Float f) h = search (rules, the_lemmas)
other-open (Value-F.Boolean f) h = search (rules, the_lemmas)
other-open (Value-F.Datetime f) h = search (rules, the_lemmas)
other-open (Value-F.Array a) h = search (rules, the_lemmas)

rolled : (v : Value) → v ≡ roll-Value (out-Value v)
rolled v = search (rules, the_lemmas)

pub other-line : (v : Value) → ((t : InlineTable) → v ≡ values.InlineTable t → ⊥) → is_line_node (value_view v) ≡ true
other-line v h =
    ap (λ w. is_line_node (value_view w)) (rolled v) ∙ other-open (out-Value v) (λ t e. h t (rolled v ∙ e))

-- so is an inline table in braces
pub braced-line : (v : Value) (t : InlineTable) → v ≡ values.InlineTable t → (out-InlineTable t).dotted ≡ false
    → is_line_node (value_view v) ≡ true
braced-line v t is braced =
    ap (λ x. is_line_node (value_view x)) is ∙ ap is_line_node (view-InlineTable t) ∙ ap not (inline-dotted t ∙ braced)

module _ (mode : Mode) where
  -- a dotted one has its lines
  dotted-lines : (f : InlineFields) (ss : Slots) (ks : List Key) → f.is_dotted ≡ true
      → lines_of_item mode (inline f ss) ks ≡ inside_lines mode ss ks
  dotted-lines f ss ks h =
      ap (λ (b : Bool). elim (not b) [ true ↦ line_of ks (inline f ss) (value_of mode (inline f ss)) | false ↦ inside_lines mode ss ks ]) h

  pub dotted-value : (v : Value) (t : InlineTable) (ks : List Key) → v ≡ values.InlineTable t → (out-InlineTable t).dotted ≡ true
      → lines_of_item mode (value_view v) ks ≡ inside_lines mode (slots_view (out-InlineTable t).items) ks
  dotted-value v t ks is dotted =
      ap (λ x. lines_of_item mode (value_view x) ks) is
      ∙ ap (λ n. lines_of_item mode n ks) (view-InlineTable t)
      ∙ dotted-lines (inline_view t).fields (inline_view t).slots ks (inline-dotted t ∙ dotted)
      ∙ ap (λ ss. inside_lines mode ss ks) (inline_slots t)

  -- ---- the texts of containers, by their fields

  pub array-text : (a : Array)
      → codes "[" ++ (written_items mode (out-Array a).trailing_comma true (items_view (out-Array a).values.items)
      ++ (shown_raw mode (out-Array a).trailing ++ codes "]"))
      ≡ node_text mode (array_node (array_view a))
  array-text a =
      ap (λ c. codes "[" ++ (written_items mode c true (items_view (out-Array a).values.items)
      ++ (shown_raw mode (out-Array a).trailing ++ codes "]"))) (sym (array-comma a))
      ∙ ap (λ xs. codes "[" ++ (written_items mode (array_view a).fields.comma true xs
      ++ (shown_raw mode (out-Array a).trailing ++ codes "]"))) (sym (array_items a))
      ∙ ap (λ r. codes "[" ++ (written_items mode (array_view a).fields.comma true (array_view a).items ++ (shown_raw mode r ++ codes "]")))
      (sym (array-trailing a))
      ∙ sym (value-is mode (array_node (array_view a)))

  -- the pairs and what follows them, where d is the decor of the last
  abbrev pairs_and_end : Bool → Raw → Option Decor → List Line → Text
  pairs_and_end c r d ls = codes "{" ++ (pairs_shown mode None ls ++ (after_pairs mode c d ++ (shown_raw mode r ++ codes "}")))

  pub inline-table-text : (t : InlineTable) (d : Option Decor) → d
      ≡ last_shown None (inside_lines mode (slots_view (out-InlineTable t).items) [])
      → codes "{"
      ++ (pairs_shown mode None (inside_lines mode (slots_view (out-InlineTable t).items) [])
      ++ (after_pairs mode (out-InlineTable t).trailing_comma d ++ (shown_raw mode (out-InlineTable t).trailing ++ codes "}")))
      ≡ node_text mode (inline_node (inline_view t))
  inline-table-text t d last =
      ap (λ e. pairs_and_end (out-InlineTable t).trailing_comma (out-InlineTable t).trailing e
      (inside_lines mode (slots_view (out-InlineTable t).items) [])) last
      ∙ ap (λ ss. pairs_and_end (out-InlineTable t).trailing_comma (out-InlineTable t).trailing (last_shown None (inside_lines mode ss []))
      (inside_lines mode ss [])) (sym (inline_slots t))
      ∙ ap (λ c. pairs_and_end c (out-InlineTable t).trailing (last_shown None (inside_lines mode (inline_view t).slots []))
      (inside_lines mode (inline_view t).slots [])) (sym (inline-comma t))
      ∙ ap (λ r. pairs_and_end (inline_view t).fields.comma r (last_shown None (inside_lines mode (inline_view t).slots []))
      (inside_lines mode (inline_view t).slots [])) (sym (inline-trailing t))
      ∙ sym (pairs-closed mode (inline_view t).fields.comma (shown_raw mode (inline_view t).fields.trailing)
      (inside_lines mode (inline_view t).slots []))
