-- Each place in owned form.
use mathlib.Core.Logic.{∥∥₁_map}
use denote.Hole.Carrier.{out}
use denote.Param.Weighed.{most}
use Rattle.std.proofs.Common.{◌≡◌, ◌<◌, ◌≤◌, ◌+◌, ℤ, Bool, String, string_bytes, Option, Some, length, map, get_or, set, slice_get}
use Rattle.std.proofs.Common.{option_map, arith, sym, ap, subst, ◌∙◌}
use Rattle.std.specs.declared.alloc.Global.{Global}
use Rattle.toml_edit_model.specs.Scalars.{Scalar, string, integer, float, boolean, datetime}
use Rattle.toml_edit_model.specs.Spelling.{SpellsInRange, SpellsKey}
use Rattle.toml_edit_model.specs.Text.{Text}
use Rattle.toml_edit_model.specs.Tree.{Raw, Decor, leaf, IsWellMade, HasTrueSpelling}
use Rattle.toml_edit_datetime.specs.DatetimeView.{datetime_view}
use Rattle.toml_edit_datetime.specs.declared.datetime.Datetime as code
use Rattle.toml_edit_repr.specs.Views.{FormattedView}
use Rattle.toml_edit_slots.specs.Slots.{items_of, on_item, with_item}
use Rattle.toml_edit_tree.specs.Containers.{array_node, inline_node, tree_slots}
use Rattle.toml_edit_model.specs.Lists.{items_from}
use Rattle.toml_edit_tree.specs.declared.item.Item.{size-Item}
use Rattle.toml_edit_tree.specs.declared.item.Item.TheViews.{out-Value}
use Rattle.toml_edit_tree.specs.declared.value.Value.{Value}
use Rattle.toml_edit_tree.specs.declared.value.Value.TheVariants as values
use Rattle.toml_edit_tree.specs.View.{array_view, inline_view, item_view, value_view}
use Rattle.toml_edit_tree.proofs.DespanLaws.{both-changed, deepest, deepest_item, if_done, item_depth, item-fits, item-spelled, item-there}
use Rattle.toml_edit_tree.proofs.DespanLaws.{key-spelled, no_slot, owned-items, owned-slots, owned_slot, slot-fits, slot-spelled}
use Rattle.toml_edit_tree.proofs.DespanLaws.{slot-there, slot_depth}
use Rattle.toml_edit_tree.proofs.InPlace.{Done, finish, long_as, none_done, same, step}
use Rattle.toml_edit_tree.proofs.ViewLaws.{view-Array, view-Boolean, view-Datetime, view-Float, view-InlineTable, view-Integer, view-String}
use Rattle.toml_edit_tree.proofs.despan.+despan.Goals as goal
use Rattle.toml_edit_model.specs.OwnedForm.{KeyFits, NodeFits, owned_decor, owned_key, owned_node, owned_raw}

-- ---- items

pub despan_items-loop-at-init : goal.despan_items-loop-at-init
despan_items-loop-at-init t c = none_done item_view (owned_node c.args.source.now) c.args.items.now.items

pub despan_items-despan_item-requires : goal.despan_items-despan_item-requires
despan_items-despan_item-requires t c =
    let s = c.args.source.now in
    let first = c.args.items.now.items in
    let items = c.loop-at.items.items in
    let at = c.loop-at.at in
    let x = c.index_mut.result.now in
    let long = long_as item_view (owned_node s) items first at c.loop-at.invariant in
    let within : at < length items = omega (arith, long, c.len-at-end.ensures, c.loop-at-test.true) in
    let here : get_or first at x ≡ x = sym (same item_view (owned_node s) items first at c.loop-at.invariant within x)
    ∙ sym c.index_mut.ensures.value in
    let first_within : at < length first = omega (arith, long, within) in
    let deep : size-Item x ≤ most item_depth first = rw (← here) (deepest_item first at x first_within) in (
      omega (arith, c.decreases, deep),
      (
        subst (λ y. NodeFits s (item_view y)) here (item-fits s first at x first_within c.requires.fits),
        subst (λ y. ∥ IsWellMade (owned_node s (item_view y)) ∥₁) here (item-spelled s first at x first_within c.requires.spelled),
      ),
    )

pub despan_items-loop-at-preserved : goal.despan_items-loop-at-preserved
despan_items-loop-at-preserved t c =
    let s = c.args.source.now in
    let first = c.args.items.now.items in
    let items = c.loop-at.items.items in
    let at = c.loop-at.at in
    let x = c.index_mut.result.now in
    let long = long_as item_view (owned_node s) items first at c.loop-at.invariant in
    let within : at < length items = omega (arith, long, c.len-at-end.ensures, c.loop-at-test.true) in
    step item_view (owned_node s) items first at c.loop-at.invariant within x c.despan_item.new.item
    (c.in_ok-despan_item.ensures ∙ ap (λ y. owned_node s (item_view y)) c.index_mut.ensures.value)

pub despan_items-returns : goal.despan_items-returns
despan_items-returns t c =
    let s = c.args.source.now in
    let first = c.args.items.now.items in
    let items = c.loop-at.items.items in
    let at = c.loop-at.at in
    let long = long_as item_view (owned_node s) items first at c.loop-at.invariant in
    let past : length items ≤ at = omega (arith, long, c.len-at-end.ensures, c.loop-at-test.false) in
    ap items_from (finish item_view (owned_node s) items first at c.loop-at.invariant past) ∙ owned-items s (map item_view first)

-- ---- slots

pub despan_slots-loop-at-init : goal.despan_slots-loop-at-init
despan_slots-loop-at-init t c = none_done (on_item item_view) (owned_slot c.args.source.now) c.args.slots.now

pub despan_slots-despan_key-requires-clause-fits : goal.despan_slots-despan_key-requires-clause-fits
despan_slots-despan_key-requires-clause-fits t c =
    λ e is.
    let s = c.args.source.now in
    let first = c.args.slots.now in
    let es = c.loop-at.slots in
    let at = c.loop-at.at in
    let long = long_as (on_item item_view) (owned_slot s) es first at c.loop-at.invariant in
    let within : at < length es = omega (arith, long, c.len-at-end.ensures, c.loop-at-test.true) in
    let here : get_or first at no_slot ≡ e =
    sym (same (on_item item_view) (owned_slot s) es first at c.loop-at.invariant within no_slot) ∙ sym (slot-there es at no_slot e is) in
    subst (λ y. KeyFits s y.key) here (slot-fits s first at no_slot (omega (arith, long, within)) c.requires.fits).0

pub despan_slots-despan_key-requires-clause-spelled : goal.despan_slots-despan_key-requires-clause-spelled
despan_slots-despan_key-requires-clause-spelled t c =
    λ e is.
    let s = c.args.source.now in
    let first = c.args.slots.now in
    let es = c.loop-at.slots in
    let at = c.loop-at.at in
    let long = long_as (on_item item_view) (owned_slot s) es first at c.loop-at.invariant in
    let within : at < length es = omega (arith, long, c.len-at-end.ensures, c.loop-at-test.true) in
    let here : get_or first at no_slot ≡ e =
    sym (same (on_item item_view) (owned_slot s) es first at c.loop-at.invariant within no_slot) ∙ sym (slot-there es at no_slot e is) in
    subst (λ y. ∥ HasTrueSpelling (SpellsKey y.key.name) (option_map (owned_raw s) y.key.spelling) ∥₁) here
    (key-spelled s first at no_slot (omega (arith, long, within)) c.requires.spelled)

pub despan_slots-despan_item-requires : goal.despan_slots-despan_item-requires
despan_slots-despan_item-requires t c =
    let s = c.args.source.now in
    let first = c.args.slots.now in
    let es = c.loop-at.slots in
    let at = c.loop-at.at in
    let x = c.item_mut-item.result.now in
    let long = long_as (on_item item_view) (owned_slot s) es first at c.loop-at.invariant in
    let within : at < length es = omega (arith, long, c.len-at-end.ensures, c.loop-at-test.true) in
    let there : x ≡ (get_or es at no_slot).item =
    item-there es at no_slot (owned_key s) x within (subst (λ ks. Some x
    ≡ slice_get (items_of ks) at) c.in_ok-despan_key.ensures.ok c.item_mut-item.ensures.item) in
    let here : (get_or first at no_slot).item ≡ x =
    ap (λ y. y.item) (sym (same (on_item item_view) (owned_slot s) es first at c.loop-at.invariant within no_slot)) ∙ sym there in
    let first_within : at < length first = omega (arith, long, within) in
    let deep : size-Item x ≤ most slot_depth first = rw (← here) (deepest first at no_slot first_within) in (
      omega (arith, c.decreases, deep),
      (
        subst (λ y. NodeFits s (item_view y)) here (slot-fits s first at no_slot first_within c.requires.fits).1,
        subst (λ y. ∥ IsWellMade (owned_node s (item_view y)) ∥₁) here (slot-spelled s first at no_slot first_within c.requires.spelled),
      ),
    )

pub despan_slots-loop-at-preserved : goal.despan_slots-loop-at-preserved
despan_slots-loop-at-preserved t c =
    let s = c.args.source.now in
    let first = c.args.slots.now in
    let es = c.loop-at.slots in
    let at = c.loop-at.at in
    let x = c.item_mut-item.result.now in
    let y = c.despan_item.new.item in
    let old = get_or es at no_slot in
    let long = long_as (on_item item_view) (owned_slot s) es first at c.loop-at.invariant in
    let within : at < length es = omega (arith, long, c.len-at-end.ensures, c.loop-at-test.true) in
    let there : x ≡ old.item =
    item-there es at no_slot (owned_key s) x within (subst (λ ks. Some x
    ≡ slice_get (items_of ks) at) c.in_ok-despan_key.ensures.ok c.item_mut-item.ensures.item) in
    let made : item_view y ≡ owned_node s (item_view old.item) = c.in_ok-despan_item.ensures ∙ ap (λ z. owned_node s (item_view z)) there in
    let put : with_item at y c.despan_key.new.self ≡ set es at (record { key = owned_key s old.key; item = y }) =
    ap (with_item at y) c.in_ok-despan_key.ensures.ok ∙ both-changed es at no_slot (owned_key s) y in
    subst (λ l. Done (on_item item_view) (owned_slot s) l first (at + 1)) (sym put)
    (step (on_item item_view) (owned_slot s) es first at c.loop-at.invariant within no_slot (record { key = owned_key s old.key; item = y })
    (ap (λ n. record { key = owned_key s old.key; item = n }) made))

pub despan_slots-returns : goal.despan_slots-returns
despan_slots-returns t c =
    let s = c.args.source.now in
    let first = c.args.slots.now in
    let es = c.loop-at.slots in
    let at = c.loop-at.at in
    let long = long_as (on_item item_view) (owned_slot s) es first at c.loop-at.invariant in
    let past : length es ≤ at = omega (arith, long, c.len-at-end.ensures, c.loop-at-test.false) in
    ap tree_slots (finish (on_item item_view) (owned_slot s) es first at c.loop-at.invariant past)
    ∙ owned-slots s (map (on_item item_view) first)

-- ---- scalars

-- the spelling of a scalar that is well made in owned form is true
spelled : (t : Text) (v : Value) (s : Scalar) (spelling : Option Raw) (d : Decor) → value_view v ≡ leaf s spelling d
    → ∥ IsWellMade (owned_node t (value_view v)) ∥₁ → ∥ HasTrueSpelling (SpellsInRange s) (option_map (owned_raw t) spelling) ∥₁
spelled t v s spelling d is made = ∥∥₁_map (subst (λ n. ∥ IsWellMade (owned_node t n) ∥₁) is made) (λ m. m.0)

pub despan_value-despan-requires-clause-spelled : goal.despan_value-despan-requires-clause-spelled
despan_value-despan-requires-clause-spelled t c =
    let s = c.args.source.now in
    let P : FormattedView (String Global) → Type 0 =
    λ f. ∥ HasTrueSpelling (SpellsInRange (string (string_bytes f.value))) (option_map (owned_raw s) f.repr) ∥₁ in
    subst P (sym c.in-String.scalar-is)
    (spelled s c.args.value.now _ _ _ (ap value_view c.in-String.is ∙ view-String c.in-String.scalar) c.requires.spelled)

pub despan_value-despan-requires-in-Integer-clause-spelled : goal.despan_value-despan-requires-in-Integer-clause-spelled
despan_value-despan-requires-in-Integer-clause-spelled t c =
    let s = c.args.source.now in
    let P : FormattedView (ℤ) → Type 0 = λ f. ∥ HasTrueSpelling (SpellsInRange (integer f.value)) (option_map (owned_raw s) f.repr) ∥₁ in
    subst P (sym c.in-Integer.scalar-is)
    (spelled s c.args.value.now _ _ _ (ap value_view c.in-Integer.is ∙ view-Integer c.in-Integer.scalar) c.requires.spelled)

pub despan_value-despan-requires-in-Float-clause-spelled : goal.despan_value-despan-requires-in-Float-clause-spelled
despan_value-despan-requires-in-Float-clause-spelled t c =
    let s = c.args.source.now in
    let P : FormattedView (Text) → Type 0 = λ f. ∥ HasTrueSpelling (SpellsInRange (float f.value)) (option_map (owned_raw s) f.repr) ∥₁ in
    subst P (sym c.in-Float.scalar-is)
    (spelled s c.args.value.now _ _ _ (ap value_view c.in-Float.is ∙ view-Float c.in-Float.scalar) c.requires.spelled)

pub despan_value-despan-requires-in-Boolean-clause-spelled : goal.despan_value-despan-requires-in-Boolean-clause-spelled
despan_value-despan-requires-in-Boolean-clause-spelled t c =
    let s = c.args.source.now in
    let P : FormattedView (Bool) → Type 0 = λ f. ∥ HasTrueSpelling (SpellsInRange (boolean f.value)) (option_map (owned_raw s) f.repr) ∥₁ in
    subst P (sym c.in-Boolean.scalar-is)
    (spelled s c.args.value.now _ _ _ (ap value_view c.in-Boolean.is ∙ view-Boolean c.in-Boolean.scalar) c.requires.spelled)

pub despan_value-despan-requires-in-Datetime-clause-spelled : goal.despan_value-despan-requires-in-Datetime-clause-spelled
despan_value-despan-requires-in-Datetime-clause-spelled t c =
    let s = c.args.source.now in
    let P : FormattedView (code.Datetime) → Type 0 =
    λ f. ∥ HasTrueSpelling (SpellsInRange (datetime (datetime_view f.value))) (option_map (owned_raw s) f.repr) ∥₁ in
    subst P (sym c.in-Datetime.scalar-is)
    (spelled s c.args.value.now _ _ _ (ap value_view c.in-Datetime.is ∙ view-Datetime c.in-Datetime.scalar) c.requires.spelled)

-- a scalar in owned form
abbrev owned_scalar : {A : Type 0} → Text → FormattedView A → FormattedView A
owned_scalar t f = record { value = f.value; repr = option_map (owned_raw t) f.repr; decor = owned_decor t f.decor }

owned-leaf : {A : Type 0} (make : FormattedView A → Value) (s : A → Scalar)
    → ((f : FormattedView A) → value_view (make f) ≡ leaf (s f.value) f.repr f.decor)
    → (t : Text) (was old new : FormattedView A) → was ≡ old → new ≡ owned_scalar t was
    → value_view (make new) ≡ owned_node t (value_view (make old))
owned-leaf make s view t was old new same made =
    view new ∙ ap (λ f. leaf (s f.value) f.repr f.decor) (made ∙ ap (owned_scalar t) same) ∙ sym (ap (owned_node t) (view old))

pub despan_value-returns-in-String : goal.despan_value-returns-in-String
unfolding out-Value out
despan_value-returns-in-String t c =
    rw c.in-String.is (if_done c.despan.result c.despan.ensures.ok
    (owned-leaf values.String (λ s. string (string_bytes s)) view-String _ _ c.in-String.scalar c.despan.new.self c.in-String.scalar-is))

pub despan_value-returns-in-Integer : goal.despan_value-returns-in-Integer
unfolding out-Value out
despan_value-returns-in-Integer t c =
    rw c.in-Integer.is (if_done c.despan-in-Integer.result c.despan-in-Integer.ensures.ok
    (owned-leaf values.Integer (λ z. integer z) view-Integer _ _ c.in-Integer.scalar c.despan-in-Integer.new.self c.in-Integer.scalar-is))

pub despan_value-returns-in-Float : goal.despan_value-returns-in-Float
unfolding out-Value out
despan_value-returns-in-Float t c =
    rw c.in-Float.is (if_done c.despan-in-Float.result c.despan-in-Float.ensures.ok
    (owned-leaf values.Float (λ t. float t) view-Float _ _ c.in-Float.scalar c.despan-in-Float.new.self c.in-Float.scalar-is))

pub despan_value-returns-in-Boolean : goal.despan_value-returns-in-Boolean
unfolding out-Value out
despan_value-returns-in-Boolean t c =
    rw c.in-Boolean.is (if_done c.despan-in-Boolean.result c.despan-in-Boolean.ensures.ok
    (owned-leaf values.Boolean (λ b. boolean b) view-Boolean _ _ c.in-Boolean.scalar c.despan-in-Boolean.new.self c.in-Boolean.scalar-is))

pub despan_value-returns-in-Datetime : goal.despan_value-returns-in-Datetime
unfolding out-Value out
despan_value-returns-in-Datetime t c =
    rw c.in-Datetime.is (if_done c.despan-in-Datetime.result c.despan-in-Datetime.ensures.ok
    (owned-leaf values.Datetime (λ d. datetime (datetime_view d)) view-Datetime _ _ c.in-Datetime.scalar c.despan-in-Datetime.new.self c.in-Datetime.scalar-is))

-- ---- containers

pub despan_value-returns-in-Array : goal.despan_value-returns-in-Array
unfolding out-Value out
despan_value-returns-in-Array t c =
    let s = c.args.source.now in
    let array = c.in-Array.array in
    rw c.in-Array.is (if_done c.despan_array.result c.despan_array.ensures
    (λ e. view-Array c.despan_array.new.array ∙ e ∙ ap (λ a. owned_node s (array_node (array_view a))) c.in-Array.array-is
    ∙ sym (ap (owned_node s) (view-Array array))))

pub despan_value-returns-in-InlineTable : goal.despan_value-returns-in-InlineTable
unfolding out-Value out
despan_value-returns-in-InlineTable t c =
    let s = c.args.source.now in
    let table = c.in-InlineTable.table in
    rw c.in-InlineTable.is (if_done c.despan_inline.result c.despan_inline.ensures
    (λ e. view-InlineTable c.despan_inline.new.table ∙ e ∙ ap (λ a. owned_node s (inline_node (inline_view a))) c.in-InlineTable.table-is
    ∙ sym (ap (owned_node s) (view-InlineTable table))))
