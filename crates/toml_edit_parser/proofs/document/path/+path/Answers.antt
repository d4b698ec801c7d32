-- Each exit of the descent along a path.
use Rattle.std.proofs.Common.{ℕ, ◌≡◌, ◌-◌, length, refl, ap, sym, ◌∙◌, arith, rules, Some, get_or, set, slice_get, vec_len, inr, None, string_bytes}
use Rattle.std.proofs.lemmas.Result.{err_from_is_err_and}
use Rattle.toml_edit_model.specs.Version.{v1_1}
use Rattle.toml_edit_model.specs.Faults.{duplicate_key}
use Rattle.toml_edit_model.specs.Text.{Text}
use Rattle.toml_edit_model.specs.Tree.{Key, no_slots, table, unset}
use Rattle.toml_edit_laws.specs.AddPath.{last_item, path_clash}
use Rattle.toml_edit_laws.specs.TableClash.{table_way_message}
use Rattle.toml_edit_slots.specs.Slots.{items_of, place, with_item}
use Rattle.toml_edit_tree.specs.declared.item.Item.{Item, the_lemmas}
use Rattle.toml_edit_tree.specs.Containers.{table_node, tables_node}
use Rattle.toml_edit_tree.specs.View.{item_view, items_view, slots_view, table_view, tables_view, value_view}
use Rattle.toml_edit_parser.specs.declared.key.PathKey.{PathKey}
use Rattle.toml_edit_parser.specs.Faults.{fault_message}
use Rattle.toml_edit_tree.specs.declared.value.Value.{Value}
use Rattle.toml_edit_parser.specs.PairRead.{key_with}
use Rattle.toml_edit_parser.specs.TableRead.{addition_for}
use Rattle.toml_edit_parser.specs.ValueRead.{spanned_raw}
use Rattle.toml_edit_parser.proofs.EntryLaws.{some-key}
use Rattle.toml_edit_parser.proofs.DescentLaws.{dot_in}
use Rattle.toml_edit_parser.proofs.ItemLaws.{last-at, last-set, no-items, tables-set, tables-is, value-node}
use Rattle.toml_edit_parser.proofs.PathLaws.{below-put, empty-stops, header-in, header-stops, in-passed, in-slots, last-here, last-step, line-in}
use Rattle.toml_edit_parser.proofs.PathLaws.{name-step, new-here, nothing-stops, passed-step, stopped, tables-in, tables-stop}
use Rattle.toml_edit_parser.proofs.PathLaws.{there-here, value-stops}
use Rattle.toml_edit_parser.proofs.SlotLaws.{node-none, node-some, pushed-item, pushed-length, pushed-with, with-place}
use Rattle.toml_edit_parser.proofs.SplitLaws.{first_in}
use Rattle.toml_edit_parser.proofs.NearLaws.{near}
use Rattle.toml_edit_parser.proofs.document.path.+path.Goals as goal
use Rattle.toml_edit_parser.proofs.document.path.+path.Goals.{add_in_table-then-is_line+else-not-is_implicit, add_in_table-else-is_line}
use Rattle.toml_edit_parser.proofs.ViewLaws.{view-None, view-Value, view-Table}
use Rattle.toml_edit_parser.proofs.ReadLaws.{mapped}

pub add_path-returns-in_default-clause-added : goal.add_path-returns-in_default-clause-added
add_path-returns-in_default-clause-added t c =
    λ mode s ms head at. some-key at.segments at.start c.args.path.events.now _ at.ends at.read.2 c.in_default.ensures

pub add_path-returns-in_err-name-clause-added : goal.add_path-returns-in_err-name-clause-added
add_path-returns-in_err-name-clause-added t c =
    λ mode s ms head at.
    let q = err_from_is_err_and c.from_residual.result c.from_residual.ensures.1 in
    rw (q.1, q.2) (mapped c.in_err-name.field-0.0 (λ r. ⊥) _ (λ r none. absurd none)
    (name-step mode c.args.adding.now.reader.now.source.now c.in_err-name.field-0.0 s ms c.args.path c.in-Some.first c.in-Some.rest.now
    c.in-Some.ensures c.in_err-name.ensures.name at))

pub add_path-put_last-requires : goal.add_path-put_last-requires
add_path-put_last-requires t c =
    (first_in c.args.adding.now.reader.now.source.now c.args.path.events.now c.in-Some.first c.in-Some.rest.now c.in-Some.ensures
    c.requires.events).0

pub add_path-returns-in-None-clause-added : goal.add_path-returns-in-None-clause-added
add_path-returns-in-None-clause-added t c =
    λ mode s ms head at.
    let source = c.args.adding.now.reader.now.source.now in
    let first = c.in-Some.first in
    let k : PathKey = record { key = c.last_key.result; span = first.span; rest = None } in
    last-here mode source c.put_last.result s ms k (addition_for c.args.adding.now.kind (item_view c.args.item.now))
    (slots_view c.args.slots.now) _
    (last-step mode source s ms c.args.path first c.in-Some.rest.now (string_bytes c.in_ok-name.name) c.last_key.result c.in-Some.ensures
    c.in_ok-name.ensures.name c.in-None.ensures c.last_key.ensures.key at) refl
    (λ m is. c.put_last.ensures.put mode s m head is)

pub add_path-add_below-requires : goal.add_path-add_below-requires
add_path-add_below-requires t c =
    let source = c.args.adding.now.reader.now.source.now in
    let first = first_in source c.args.path.events.now c.in-Some.first c.in-Some.rest.now c.in-Some.ensures c.requires.events in
    let dot = dot_in source c.args.path c.in-Some-split_dot.after c.in-Some-split_dot.inside c.in-Some.rest.now
    c.in-Some-split_dot.ensures first.1 c.requires.prefix c.requires.suffix in
    let new = sym (c.in-None-place_of.ensures.place ∙ ap (λ (x : Text). place x c.args.slots.now) (c.as_str.ensures.value
    ∙ sym (ap (λ (k : Key). k.name) c.passed_key-key.ensures.key))) in
    (omega (arith, c.decreases, first.2, dot.2), (new, dot.1))

pub add_path-returns-in-None-place_of-clause-added : goal.add_path-returns-in-None-place_of-clause-added
add_path-returns-in-None-place_of-clause-added t c =
    λ mode s ms head at.
    let source = c.args.adding.now.reader.now.source.now in
    let first = c.in-Some.first in
    let inside = c.in-Some-split_dot.inside in
    let k : PathKey = record { key = c.passed_key-key.result; span = first.span; rest = Some inside } in
    let es = c.args.slots.now in
    new-here mode source c.add_below.result s ms k inside
    (addition_for c.args.adding.now.kind (item_view c.args.item.now)) (slots_view es) _
    (passed-step mode source s ms c.args.path first c.in-Some.rest.now (string_bytes c.in_ok-name.name) c.passed_key-key.result
    c.in-Some-split_dot.after inside c.in-Some.ensures c.in_ok-name.ensures.name c.in-Some-split_dot.ensures c.passed_key-key.ensures.key
    at) refl
    (node-none c.passed_key-key.result.name es (sym (c.in-None-place_of.ensures.place ∙ ap (λ (x : Text). place x es) (c.as_str.ensures.value
    ∙ sym (ap (λ (k : Key). k.name) c.passed_key-key.ensures.key)))))
    (λ q path. c.add_below.ensures.added mode s q head path)

pub add_path-add_in_item-requires : goal.add_path-add_in_item-requires
add_path-add_in_item-requires t c =
    let source = c.args.adding.now.reader.now.source.now in
    let first = first_in source c.args.path.events.now c.in-Some.first c.in-Some.rest.now c.in-Some.ensures c.requires.events in
    let dot = dot_in source c.args.path c.in-Some-split_dot.after c.in-Some-split_dot.inside c.in-Some.rest.now
    c.in-Some-split_dot.ensures first.1 c.requires.prefix c.requires.suffix in
    (omega (arith, c.decreases, first.2, dot.2), (first.0, dot.1))

pub add_path-returns-in-Some-place_of-clause-added : goal.add_path-returns-in-Some-place_of-clause-added
add_path-returns-in-Some-place_of-clause-added t c =
    λ mode s ms head at.
    let source = c.args.adding.now.reader.now.source.now in
    let first = c.in-Some.first in
    let name = string_bytes c.in_ok-name.name in
    let after = c.in-Some-split_dot.after in
    let inside = c.in-Some-split_dot.inside in
    let key = key_with name first.span unset (spanned_raw c.args.path.before) (spanned_raw after) in
    let k : PathKey = record { key = key; span = first.span; rest = Some inside } in
    let es = c.args.slots.now in
    let here = sym (c.in-Some-place_of.ensures.place ∙ ap (λ (x : Text). place x es) c.as_str.ensures.value) in
    there-here mode source c.add_in_item.result s ms k inside
    (addition_for c.args.adding.now.kind (item_view c.args.item.now))
    (item_view c.item_mut.result.now) (item_view c.add_in_item.new.holder) (slots_view es) _
    (passed-step mode source s ms c.args.path first c.in-Some.rest.now name key after inside c.in-Some.ensures c.in_ok-name.ensures.name
    c.in-Some-split_dot.ensures refl at) refl
    (node-some name es c.in-Some-place_of.at c.item_mut.result.now here c.item_mut.ensures.item)
    (with-place name es c.in-Some-place_of.at c.add_in_item.new.holder here)
    (λ m q is path. c.add_in_item.ensures.added mode s m q key head is path)

-- ---- below a new key

pub add_below-item_mut-requires : goal.add_below-item_mut-requires
add_below-item_mut-requires t c =
    let n = pushed-length c.args.slots.now c.push_passed.new.slots c.args.key _ c.in_ok-push_passed.ensures in
    omega (arith, n)

pub add_below-returns-clause-added : goal.add_below-returns-clause-added
add_below-returns-clause-added t c =
    λ mode s ms head at.
    let es = c.args.slots.now in
    let fs = c.push_passed.new.slots in
    let put = c.in_ok-push_passed.ensures in
    let there = c.item_mut.ensures.item ∙ ap (λ (i : ℕ). slice_get (items_of fs) i) c.len-at.ensures in
    below-put mode c.args.adding.now.reader.now.source.now c.add_in_passed.result c.args.adding.now.kind (item_view c.args.item.now) ms c.args.key
    c.args.span (slots_view es) _
    (item_view c.add_in_passed.new.holder)
    (c.add_in_passed.ensures.added mode s ms _ (pushed-item es fs c.args.key _ c.item_mut.result.now put there) head at)
    (ap (λ (i : ℕ). slots_view (with_item i c.add_in_passed.new.holder fs)) c.len-at.ensures
    ∙ pushed-with es fs c.args.key _ c.add_in_passed.new.holder put)

pub add_in_passed-returns-in-Table-clause-added : goal.add_in_passed-returns-in-Table-clause-added
add_in_passed-returns-in-Table-clause-added t c =
    λ mode s ms f empty head at.
    let a = addition_for c.args.adding.now.kind (item_view c.args.item.now) in
    let held = table_view c.in-Table.table in
    let seen : table_node held ≡ table f no_slots = sym (ap item_view c.in-Table.is ∙ view-Table c.in-Table.table) ∙ empty in
    let added = c.add_in_slots.ensures.added mode s ms head at in
    let told = in-passed mode c.args.adding.now.reader.now.source.now c.add_in_slots.result a ms held f
    (table_node (table_view c.add_in_slots.new.table)) seen (rw c.in-Table.table-is at added) in
    search (rules, the_lemmas)

-- ---- below a key that is there

pub add_in_item-returns-in-Table-clause-added : goal.add_in_item-returns-in-Table-clause-added
add_in_item-returns-in-Table-clause-added t c =
    λ mode s m ms k head is at.
    let told = c.add_in_table.ensures.added mode s m ms k head is at in
    search (rules, the_lemmas)

pub add_in_item-returns-in-ArrayOfTables-clause-added : goal.add_in_item-returns-in-ArrayOfTables-clause-added
add_in_item-returns-in-ArrayOfTables-clause-added t c =
    λ mode s m ms k head is at.
    let told = c.add_in_tables.ensures.added mode s m ms k head is at in
    search (rules, the_lemmas)

pub add_in_item-returns-in-Value-clause-added : goal.add_in_item-returns-in-Value-clause-added
add_in_item-returns-in-Value-clause-added t c =
    λ mode s m ms k head is at.
    let a = addition_for c.args.adding.now.kind (item_view c.args.item.now) in
    let seen = ap item_view c.in-Value.is ∙ view-Value c.in-Value.value in
    stopped mode c.args.adding.now.reader.now.source.now (fault_message c.extending.result) c.refusal.result s _ m (item_view c.args.holder.now) k
    c.args.span _
    (rw seen (value-stops a m (path_clash a ms) _ (value-node c.in-Value.value))) is
    (c.extending.ensures.message m.role is.role ∙ ap (λ (x : Value). table_way_message m.role (value_view x)) c.in-Value.value-is
    ∙ ap (table_way_message m.role) (sym seen)) c.refusal.ensures.report

pub add_in_item-returns-in-None-clause-added : goal.add_in_item-returns-in-None-clause-added
add_in_item-returns-in-None-clause-added t c =
    λ mode s m ms k head is at.
    let a = addition_for c.args.adding.now.kind (item_view c.args.item.now) in
    let seen = ap item_view c.in-None.is ∙ view-None in
    stopped mode c.args.adding.now.reader.now.source.now duplicate_key c.duplicate_key.result s _ m (item_view c.args.holder.now) k c.args.span _
    (rw seen (nothing-stops a m (path_clash a ms))) is (sym (ap (table_way_message m.role) seen)) c.duplicate_key.ensures.report

pub add_in_table-returns-then-not-is_implicit-clause-added : goal.add_in_table-returns-then-not-is_implicit-clause-added
add_in_table-returns-then-not-is_implicit-clause-added t c =
    λ mode s m ms k head is at.
    let n = item_view c.args.item.now in
    let held = table_view c.args.table.now in
    stopped mode c.args.adding.now.reader.now.source.now duplicate_key c.duplicate_key.result s _ m (table_node held) k c.args.span _
    (header-stops c.args.adding.now.kind n m (path_clash (addition_for c.args.adding.now.kind n) ms) held (sym c.is_line.ensures
    ∙ c.if-is_line.true)
    (sym c.is_implicit.ensures ∙ c.if-not-is_implicit.true)) is refl c.duplicate_key.ensures.report

pub add_in_table-returns-clause-added : goal.add_in_table-returns-clause-added
add_in_table-returns-clause-added t c =
    λ mode s m ms k head is at.
    let n = item_view c.args.item.now in
    let new = slots_view c.add_path.new.slots in
    let told = c.add_path.ensures.added mode s ms head at in
    elim c.if-is_line.branch [
      | add_in_table-then-is_line+else-not-is_implicit w ↦
          line-in mode c.args.adding.now.reader.now.source.now c.add_path.result c.args.adding.now.kind n m ms (table_view c.args.table.now)
          (table_view c.if-is_line.table) _ _ new
          (sym c.is_line.ensures ∙ w.if-is_line.true) (sym w.is_implicit.ensures ∙ w.if-not-is_implicit.false)
          (ap table_view w.table-is ∙ w.set_dotted.ensures) c.slots_mut.ensures.slots (c.slots_mut.ensures.others c.add_path.new.slots) told
      | add_in_table-else-is_line w ↦
          header-in mode c.args.adding.now.reader.now.source.now c.add_path.result c.args.adding.now.kind n m ms (table_view c.args.table.now) _ _ new
          (sym c.is_line.ensures ∙ w.if-is_line.false) (c.slots_mut.ensures.slots ∙ ap (λ v. (table_view v).slots) w.table-is)
          (c.slots_mut.ensures.others c.add_path.new.slots ∙ ap (λ v. record { fields = (table_view v).fields; slots = new }) w.table-is)
          told
    ]

pub add_in_tables-returns-then-is_line-clause-added : goal.add_in_tables-returns-then-is_line-clause-added
add_in_tables-returns-then-is_line-clause-added t c =
    λ mode s m ms k head is at.
    let n = item_view c.args.item.now in
    let held = tables_view c.args.tables.now in
    stopped mode c.args.adding.now.reader.now.source.now duplicate_key c.duplicate_key.result s _ m (tables_node held) k c.args.span _
    (tables-stop c.args.adding.now.kind n m (path_clash (addition_for c.args.adding.now.kind n) ms) held (sym c.is_line.ensures
    ∙ c.if-is_line.true)) is refl c.duplicate_key.ensures.report

pub add_in_tables-returns-in-None-clause-added : goal.add_in_tables-returns-in-None-clause-added
add_in_tables-returns-in-None-clause-added t c =
    λ mode s m ms k head is at.
    let n = item_view c.args.item.now in
    let held = tables_view c.args.tables.now in
    let v = c.args.tables.now.values in
    let len : vec_len v ≡ length v.items = omega (arith, v.ok.0) in
    stopped mode c.args.adding.now.reader.now.source.now duplicate_key c.duplicate_key-in-None.result s _ m (tables_node held) k c.args.span _
    (empty-stops c.args.adding.now.kind n m (path_clash (addition_for c.args.adding.now.kind n) ms) held (sym c.is_line.ensures
    ∙ c.if-is_line.false)
    (tables-is c.args.tables.now ∙ ap items_view (no-items v.items (λ h. absurd (let e =
    c.in-None.ensures.variant.1 (omega (arith, len, h)) in cc))))) is refl c.duplicate_key-in-None.ensures.report

pub add_in_tables-returns-in-Some-clause-added : goal.add_in_tables-returns-in-Some-clause-added
add_in_tables-returns-in-Some-clause-added t c =
    λ mode s m ms k head is at.
    let v = c.args.tables.now.values in
    let y = c.add_in_element.new.holder in
    let len : vec_len v ≡ length v.items = omega (arith, v.ok.0) in
    let held = tables_view c.args.tables.now in
    tables-in mode c.args.adding.now.reader.now.source.now c.add_in_element.result c.args.adding.now.kind (item_view c.args.item.now) m ms held _
    (item_view c.in-Some.last.now) (item_view y)
    (sym c.is_line.ensures ∙ c.if-is_line.false)
    (ap last_item (tables-is c.args.tables.now) ∙ last-at v.items c.in-Some.last.now (omega (arith, c.in-Some.ensures.variant.0 refl))
    ∙ ap (λ (x : Item). Some (item_view x)) (ap (λ (i : ℕ). get_or v.items (i - 1) c.in-Some.last.now) (sym len)
    ∙ sym c.in-Some.ensures.value))
    (tables-set c.args.tables.now (vec_len v - 1) y (ap (λ (i : ℕ). items_view (set v.items (i - 1) y)) len ∙ last-set v.items y))
    (c.add_in_element.ensures.added mode s m ms k (tables_node held) head is at tt)

pub add_in_element-returns-in-Table-clause-added : goal.add_in_element-returns-in-Table-clause-added
add_in_element-returns-in-Table-clause-added t c =
    λ mode s m ms k way head is at tables.
    let told = c.add_in_slots.ensures.added mode s ms head at in
    search (rules, the_lemmas)

pub add_in_slots-returns-clause-added : goal.add_in_slots-returns-clause-added
add_in_slots-returns-clause-added t c =
    λ mode s ms head at.
    in-slots mode c.args.adding.now.reader.now.source.now c.add_path.result (addition_for c.args.adding.now.kind (item_view c.args.item.now)) ms
    (table_view c.args.table.now) _
    (slots_view c.slots_mut.result.now) (slots_view c.add_path.new.slots) c.slots_mut.ensures.slots
    (c.slots_mut.ensures.others c.add_path.new.slots)
    (c.add_path.ensures.added mode s ms head at)

pub add_in_item-returns-in-Value-clause-refused : goal.add_in_item-returns-in-Value-clause-refused
add_in_item-returns-in-Value-clause-refused t c = c.refusal.ensures.refused v1_1 (inr c.extending.ensures.listed)

-- ---- the spans of the keys

pub add_path-last_key-requires-clause-span : goal.add_path-last_key-requires-clause-span
add_path-last_key-requires-clause-span t c =
    near c.args.adding.now.reader.now.source.now c.in-Some.first.span c.args.adding.now.reader.now.short
    (first_in c.args.adding.now.reader.now.source.now c.args.path.events.now c.in-Some.first c.in-Some.rest.now c.in-Some.ensures c.requires.events).0

pub add_path-last_key-requires-clause-prefix : goal.add_path-last_key-requires-clause-prefix
add_path-last_key-requires-clause-prefix t c =
    near c.args.adding.now.reader.now.source.now c.args.path.prefix c.args.adding.now.reader.now.short c.requires.prefix

pub add_path-last_key-requires-clause-suffix : goal.add_path-last_key-requires-clause-suffix
add_path-last_key-requires-clause-suffix t c =
    near c.args.adding.now.reader.now.source.now c.args.path.suffix c.args.adding.now.reader.now.short c.requires.suffix

pub add_path-last_key-requires-clause-before : goal.add_path-last_key-requires-clause-before
add_path-last_key-requires-clause-before t c =
    near c.args.adding.now.reader.now.source.now c.args.path.before c.args.adding.now.reader.now.short c.requires.before

pub add_path-passed_key-key-requires-clause-span : goal.add_path-passed_key-key-requires-clause-span
add_path-passed_key-key-requires-clause-span t c =
    near c.args.adding.now.reader.now.source.now c.in-Some.first.span c.args.adding.now.reader.now.short
    (first_in c.args.adding.now.reader.now.source.now c.args.path.events.now c.in-Some.first c.in-Some.rest.now c.in-Some.ensures c.requires.events).0

pub add_path-passed_key-key-requires-clause-before : goal.add_path-passed_key-key-requires-clause-before
add_path-passed_key-key-requires-clause-before t c =
    near c.args.adding.now.reader.now.source.now c.args.path.before c.args.adding.now.reader.now.short c.requires.before

pub add_path-passed_key-key-requires-clause-after : goal.add_path-passed_key-key-requires-clause-after
add_path-passed_key-key-requires-clause-after t c =
    near c.args.adding.now.reader.now.source.now c.in-Some-split_dot.after c.args.adding.now.reader.now.short
    (dot_in c.args.adding.now.reader.now.source.now c.args.path c.in-Some-split_dot.after c.in-Some-split_dot.inside c.in-Some.rest.now
    c.in-Some-split_dot.ensures (first_in c.args.adding.now.reader.now.source.now c.args.path.events.now c.in-Some.first c.in-Some.rest.now c.in-Some.ensures c.requires.events).1
    c.requires.prefix c.requires.suffix).0
