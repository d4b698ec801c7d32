-- What stands in an inline table under a key, by its values.
use Rattle.std.proofs.Common.{◌≡◌, ℕ, zero, suc, ◌<◌, Bool, true, false, cond, List, [], ◌∷◌, Option, None, Some, is_some, length}
use Rattle.std.proofs.Common.{option_and_then, option_map, refl, sym, ap, ◌∙◌, arith}
use Rattle.std.specs.Borrow.{Bor}
use Rattle.toml_edit_laws.proofs.slots.Places.{lookup-those}
use Rattle.toml_edit_model.specs.InlineCalls.{get_value}
use Rattle.toml_edit_model.specs.Lists.{only}
use Rattle.toml_edit_model.specs.Slots as model
use Rattle.toml_edit_model.specs.Text.{Text}
use Rattle.toml_edit_model.specs.Tree.{Key, Node, is_value_node}
use Rattle.toml_edit_slots.specs.Seen.{pair_read, seen}
use Rattle.toml_edit_slots.specs.declared.slots.Slot.{Slot}
use Rattle.toml_edit_slots.specs.Slots.{lookup_slot}
use Rattle.toml_edit_tree.specs.ElementHolds.{value_held}
use Rattle.toml_edit_tree.specs.InlineValues.{has_value_at}
use Rattle.toml_edit_tree.specs.SlotsOf.{inline_slots_of}
use Rattle.toml_edit_tree.specs.View.{item_view, value_view}
use Rattle.toml_edit_tree.specs.declared.inline_table.InlineTable.{InlineTable, out-InlineTable}
use Rattle.toml_edit_tree.specs.declared.item.Item.{Item}
use Rattle.toml_edit_tree.specs.Indexed.{shown_slots}
use Rattle.toml_edit_tree.proofs.HoldsLaws.{value-seen}
use Rattle.toml_edit_tree.proofs.SlotsLaws.{apart-shown, inline-shown, lookup-shown, lookup_slot-of}

-- ---- of an item

pub is_some-map : {X Y : Type 0} (h : X → Y) (o : Option X) → is_some (option_map h o) ≡ is_some o
is_some-map h None = refl
is_some-map h (Some x) = refl

some-if : {X : Type 0} (b : Bool) (x : X) → is_some (cond b (Some x) None) ≡ b
some-if true x = refl
some-if false x = refl

-- an item holds a value where it is seen as one
pub held-some : (x : Item) → is_some (value_held x) ≡ is_value_node (item_view x)
held-some x = sym (is_some-map value_view (value_held x)) ∙ ap is_some (value-seen x) ∙ some-if (is_value_node (item_view x)) (item_view x)

pub none-of : {X Y : Type 0} (h : X → Y) (o : Option X) → is_some o ≡ false → None ≡ option_map h o
none-of h None e = refl
none-of h (Some x) e = absurd cc

seen-if : (b : Bool) (n : Node) (o : Option Node) → o ≡ cond b (Some n) None → is_some o ≡ true → o ≡ Some n
seen-if true n o e is = e
seen-if false n o e is = absurd (let f = ap is_some e in cc)

-- the value of an item that holds one is what it is seen as
pub held-view : (x : Item) → is_some (value_held x) ≡ true → option_map value_view (value_held x) ≡ Some (item_view x)
held-view x is = seen-if (is_value_node (item_view x)) (item_view x) (option_map value_view (value_held x)) (value-seen x)
    (is_some-map value_view (value_held x) ∙ is)

-- ---- a place that has a value

pub low : (es : List (Slot Item)) (i : ℕ) → has_value_at i es ≡ true → i < length es
low [] zero h = absurd cc
low [] (suc i) h = absurd cc
low (s ∷ es) zero h = omega arith
low (s ∷ es) (suc i) h = let b = low es i h in omega (arith, b)

-- ---- the value under a key

-- the value behind two references
abbrev pub value_behind : Option (Bor Key × Bor Item) → Option Node
value_behind None = None
value_behind (Some p) = only is_value_node (item_view p.1.now)

behind : (o : Option (Bor Key × Bor Item)) → option_and_then (only is_value_node)
    (option_map (λ (s : model.Slot Node). s.item) (option_map (model.on_item item_view) (option_map pair_read o))) ≡ value_behind o
behind None = refl
behind (Some p) = refl

pub value-read : (k : Text) (t : InlineTable) (o : Option (Bor Key × Bor Item)) → model.AreApart (seen (out-InlineTable t).items)
    → option_map pair_read o ≡ model.lookup_slot k (seen (out-InlineTable t).items)
    → get_value k (inline_slots_of t) ≡ value_behind o
value-read k t o apart is =
    ap (get_value k) (inline-shown t)
    ∙ lookup-those is_value_node k (shown_slots (out-InlineTable t).items) (apart-shown (out-InlineTable t).items apart)
    ∙ ap (λ f. option_and_then (only is_value_node) (option_map (λ (s : model.Slot Node). s.item) f))
    (lookup_slot-of k (out-InlineTable t).items ∙ ap (option_map (model.on_item item_view)) (sym is))
    ∙ behind o

value-in : (o : Option (Slot Item)) → option_and_then (only is_value_node) (option_map item_view (option_map (λ s. s.item) o))
    ≡ option_and_then (λ s. option_map value_view (value_held s.item)) o
value-in None = refl
value-in (Some s) = sym (value-seen s.item)

pub value-found : (k : Text) (t : InlineTable) (o : Option (Slot Item)) → model.AreApart (shown_slots (out-InlineTable t).items) → o
    ≡ lookup_slot k (out-InlineTable t).items
    → get_value k (inline_slots_of t) ≡ option_and_then (λ s. option_map value_view (value_held s.item)) o
value-found k t o apart is =
    ap (get_value k) (inline-shown t)
    ∙ lookup-those is_value_node k (shown_slots (out-InlineTable t).items) apart
    ∙ ap (option_and_then (only is_value_node)) (lookup-shown k (out-InlineTable t).items
    ∙ ap (λ p. option_map item_view (option_map (λ (s : Slot Item). s.item) p)) (sym is))
    ∙ value-in o
