-- Each exit of the descent along a path.
use Rattle.std.proofs.Common.{List, refl, ap, sym, subst, ◌∙◌, arith, rules, Some, lit<, inr, string_bytes}
use Rattle.std.proofs.lemmas.Result.{err_from_is_err_and}
use Rattle.toml_edit_model.specs.Version.{v1_1}
use Rattle.toml_edit_model.specs.Faults.{duplicate_key}
use Rattle.toml_edit_model.specs.Paths.{line_mentions}
use Rattle.toml_edit_model.specs.Roles.{dotted_role}
use Rattle.toml_edit_model.specs.Text.{Text}
use Rattle.toml_edit_model.specs.Tree.{Key, Slots}
use Rattle.toml_edit_slots.specs.declared.slots.Slot as repr
use Rattle.toml_edit_slots.specs.Slots.{place}
use Rattle.toml_edit_tree.specs.declared.item.Item.{Item, the_lemmas}
use Rattle.toml_edit_tree.specs.Containers.{inline_node}
use Rattle.toml_edit_tree.specs.View.{inline_view, item_view, slots_view, value_view}
use Rattle.toml_edit_parser.specs.Faults.{fault_message}
use Rattle.toml_edit_parser.proofs.DescentLaws.{below-refused, dot_in, fits-below, fits-found, fits-in, fits-put, name-refused, no-value}
use Rattle.toml_edit_parser.proofs.DescentLaws.{on_ok, same-way, stops-empty, stops-other, went-in}
use Rattle.toml_edit_parser.proofs.EntryLaws.{below-added, inside-added, last-added, some-key, stopped}
use Rattle.toml_edit_parser.proofs.SplitLaws.{first_in}
use Rattle.toml_edit_parser.proofs.NearLaws.{near}
use Rattle.toml_edit_parser.proofs.inline_table.+add.Goals as goal
use Rattle.toml_edit_model.specs.OwnedForm.{SlotsFit}

pub add_entry-returns-in_default-clause-entry : goal.add_entry-returns-in_default-clause-entry
add_entry-returns-in_default-clause-entry t c =
    λ e p start above are stands at. some-key p start c.args.path.events.now _ are at.2 c.in_default.ensures

pub add_entry-returns-in_err-name-clause-entry : goal.add_entry-returns-in_err-name-clause-entry
add_entry-returns-in_err-name-clause-entry t c =
    λ e p start above are stands at.
    let q = err_from_is_err_and c.from_residual.result c.from_residual.ensures.1 in
    rw (q.1, q.2) (name-refused c.args.reader.now.source.now e p start above c.args.path c.in-Some.first c.in-Some.rest.now
    (slots_view c.args.slots.now) c.in_err-name.field-0.0
    are stands at c.in-Some.ensures c.in_err-name.ensures.name)

pub add_entry-returns-in-None-clause-entry : goal.add_entry-returns-in-None-clause-entry
add_entry-returns-in-None-clause-entry t c =
    λ e p start above are stands at.
    last-added c.args.reader.now.source.now e p start above c.args.path c.in-Some.first c.in-Some.rest.now (string_bytes c.in_ok-name.name)
    c.last_key.result
    (item_view c.args.item.now) (slots_view c.args.slots.now) (slots_view c.add_last.new.slots) c.add_last.result
    (record { are = are; stands = stands; at = at; split = c.in-Some.ensures; told = c.in_ok-name.ensures.name })
    c.in-None.ensures c.last_key.ensures.key c.add_last.ensures.last

pub add_entry-returns-in-None-clause-fits : goal.add_entry-returns-in-None-clause-fits
add_entry-returns-in-None-clause-fits t c =
    λ item slots.
    let source = c.args.reader.now.source.now in
    let asked = c.requires.path in
    let first = first_in source c.args.path.events.now c.in-Some.first c.in-Some.rest.now c.in-Some.ensures asked.events in
    c.add_last.ensures.fits (c.last_key.ensures.fits source first.0 asked.prefix asked.suffix asked.before) item slots

pub add_entry-add_inside-requires : goal.add_entry-add_inside-requires
add_entry-add_inside-requires t c =
    let source = c.args.reader.now.source.now in
    let asked = c.requires.path in
    let first = first_in source c.args.path.events.now c.in-Some.first c.in-Some.rest.now c.in-Some.ensures asked.events in
    let dot = dot_in source c.args.path c.in-Some-split_dot.after c.in-Some-split_dot.inside c.in-Some.rest.now c.in-Some-split_dot.ensures
    first.1
    asked.prefix asked.suffix in
    (omega (arith, c.decreases, first.2, dot.2), (first.0, dot.1))

pub add_entry-add_below-requires : goal.add_entry-add_below-requires
add_entry-add_below-requires t c =
    let source = c.args.reader.now.source.now in
    let asked = c.requires.path in
    let first = first_in source c.args.path.events.now c.in-Some.first c.in-Some.rest.now c.in-Some.ensures asked.events in
    let dot = dot_in source c.args.path c.in-Some-split_dot.after c.in-Some-split_dot.inside c.in-Some.rest.now c.in-Some-split_dot.ensures
    first.1
    asked.prefix asked.suffix in
    let new = sym (c.in-None-find.ensures.place ∙ ap (λ (x : Text). place x c.args.slots.now) c.get.ensures.name) in
    (omega (arith, c.decreases, first.2, dot.2), (new, dot.1))

pub add_entry-returns-in-Some-find-clause-entry : goal.add_entry-returns-in-Some-find-clause-entry
add_entry-returns-in-Some-find-clause-entry t c =
    λ e p start above are stands at.
    let named = c.get.ensures.name ∙ ap (λ (k : Key). k.name) c.passed_key-key.ensures.key in
    inside-added c.args.reader.now.source.now e p start above c.args.path c.in-Some.first c.in-Some.rest.now (string_bytes c.in_ok-name.name)
    c.in-Some-split_dot.after c.in-Some-split_dot.inside c.args.slots.now c.in-Some-find.at c.item_mut.result.now c.add_inside.new.holder
    (item_view c.args.item.now)
    c.add_inside.result
    (record { are = are; stands = stands; at = at; split = c.in-Some.ensures; told = c.in_ok-name.ensures.name })
    c.in-Some-split_dot.ensures (c.in-Some-find.ensures.place ∙ ap (λ (x : Text). place x c.args.slots.now) named) c.item_mut.ensures.item
    (λ m q from up. c.add_inside.ensures.entry m e q from up)

pub add_entry-returns-in-Some-find-clause-fits : goal.add_entry-returns-in-Some-find-clause-fits
add_entry-returns-in-Some-find-clause-fits t c =
    λ item slots.
    let source = c.args.reader.now.source.now in
    on_ok c.add_inside.result (c.add_inside.ensures.fits item
    (fits-found source c.args.slots.now c.in-Some-find.at c.item_mut.result.now slots c.item_mut.ensures.item))
    (λ fits. fits-put source c.args.slots.now c.in-Some-find.at c.add_inside.new.holder slots fits)

pub add_entry-returns-in-None-find-clause-entry : goal.add_entry-returns-in-None-find-clause-entry
add_entry-returns-in-None-find-clause-entry t c =
    λ e p start above are stands at.
    let named = c.get.ensures.name ∙ ap (λ (k : Key). k.name) c.passed_key-key.ensures.key in
    below-added c.args.reader.now.source.now e p start above c.args.path c.in-Some.first c.in-Some.rest.now (string_bytes c.in_ok-name.name)
    c.in-Some-split_dot.after c.in-Some-split_dot.inside c.args.slots.now c.passed_key-key.result (item_view c.args.item.now)
    (slots_view c.add_below.new.slots)
    c.add_below.result
    (record { are = are; stands = stands; at = at; split = c.in-Some.ensures; told = c.in_ok-name.ensures.name })
    c.in-Some-split_dot.ensures (c.in-None-find.ensures.place
    ∙ ap (λ (x : Text). place x c.args.slots.now) named) c.passed_key-key.ensures.key
    (λ q from up. c.add_below.ensures.entry e q from up)

pub add_entry-returns-in-None-find-clause-fits : goal.add_entry-returns-in-None-find-clause-fits
add_entry-returns-in-None-find-clause-fits t c =
    λ item slots.
    let source = c.args.reader.now.source.now in
    let asked = c.requires.path in
    let first = first_in source c.args.path.events.now c.in-Some.first c.in-Some.rest.now c.in-Some.ensures asked.events in
    let dot = dot_in source c.args.path c.in-Some-split_dot.after c.in-Some-split_dot.inside c.in-Some.rest.now c.in-Some-split_dot.ensures
    first.1
    asked.prefix asked.suffix in
    c.add_below.ensures.fits (c.passed_key-key.ensures.fits source first.0 asked.before dot.0) item slots

-- ---- below a new key

pub add_below-returns-in_err-add_entry-clause-entry : goal.add_below-returns-in_err-add_entry-clause-entry
add_below-returns-in_err-add_entry-clause-entry t c =
    λ e p start above are stands at.
    let q = err_from_is_err_and c.from_residual.result c.from_residual.ensures.1 in
    rw (q.1, q.2) (below-refused c.args.reader.now.source.now (line_mentions e start above p) c.new-inner.result c.in_err-add_entry.field-0.0
    c.new-inner.ensures
    (c.in_err-add_entry.ensures.entry e p start above are stands at))

pub add_below-returns-clause-fits : goal.add_below-returns-clause-fits
add_below-returns-clause-fits t c =
    λ key item slots.
    let source = c.args.reader.now.source.now in
    fits-below source c.args.slots.now c.args.key (Some (c.args.span.start, c.args.span.end)) (slots_view c.add_entry.new.slots)
    (item_view c.path_item-passed.result)
    (slots_view c.push_item.new.slots) key slots
    (c.in_ok-add_entry.ensures.fits item (subst (λ (es : List (repr.Slot Item)). SlotsFit source (slots_view es)) (sym c.new-inner.ensures)
    tt))
    c.path_item-passed.ensures c.in_ok-push_item.ensures

-- ---- below a key that is there

pub add_in_table-returns-then-is_dotted-clause-entry : goal.add_in_table-returns-then-is_dotted-clause-entry
add_in_table-returns-then-is_dotted-clause-entry t c =
    λ m e p start above passed are stands at.
    went-in c.args.reader.now.source.now m (line_mentions e start above p) (item_view c.args.item.now) (inline_view c.args.table.now) _
    (slots_view c.slots_mut.result.now)
    (slots_view c.add_entry.new.slots) c.add_entry.result (sym c.is_dotted.ensures ∙ c.if-is_dotted.true) c.slots_mut.ensures.slots
    (c.slots_mut.ensures.others c.add_entry.new.slots) (c.add_entry.ensures.entry e p start above are stands at)

pub add_in_table-returns-then-is_dotted-clause-fits : goal.add_in_table-returns-then-is_dotted-clause-fits
add_in_table-returns-then-is_dotted-clause-fits t c =
    λ item table.
    let source = c.args.reader.now.source.now in
    on_ok c.add_entry.result
    (c.add_entry.ensures.fits item (subst (λ (ss : Slots). SlotsFit source ss) (sym c.slots_mut.ensures.slots) table.2))
    (fits-in source (inline_view c.args.table.now) _ (slots_view c.add_entry.new.slots) (c.slots_mut.ensures.others c.add_entry.new.slots)
    table)

pub add_in_table-returns-else-is_dotted-clause-entry : goal.add_in_table-returns-else-is_dotted-clause-entry
add_in_table-returns-else-is_dotted-clause-entry t c =
    λ m e p start above passed are stands at.
    stopped c.args.reader.now.source.now c.args.key m (line_mentions e start above p) (inline_node (inline_view c.args.table.now)) duplicate_key
    c.refusal.result passed
    (sym c.is_dotted.ensures ∙ c.if-is_dotted.false) refl c.refusal.ensures.report

pub add_in_value-returns-in-InlineTable-clause-entry : goal.add_in_value-returns-in-InlineTable-clause-entry
add_in_value-returns-in-InlineTable-clause-entry t c =
    λ m e p start above passed are stands at.
    let told = c.add_in_table.ensures.entry m e p start above passed are stands at in
    search (rules, the_lemmas)

pub add_in_value-returns-in_default-clause-entry : goal.add_in_value-returns-in_default-clause-entry
add_in_value-returns-in_default-clause-entry t c =
    λ m e p start above passed are stands at.
    stopped c.args.reader.now.source.now c.args.key m (line_mentions e start above p) (value_view c.args.holder.now)
    (fault_message c.extending-fault.result) c.refusal.result passed
    (stops-other c.args.holder.now c.in_default.not-InlineTable)
    (c.extending-fault.ensures.message dotted_role refl ∙ same-way c.args.holder.now c.in_default.not-InlineTable) c.refusal.ensures.report

pub add_inside-returns-in_default-clause-entry : goal.add_inside-returns-in_default-clause-entry
add_inside-returns-in_default-clause-entry t c =
    λ m e p start above passed are stands at.
    let n = item_view c.args.holder.now in
    let stops = stops-empty n (no-value c.args.holder.now c.in_default.not-Value) in
    stopped c.args.reader.now.source.now c.args.key m (line_mentions e start above p) n duplicate_key c.refusal.result passed stops.0 stops.1
    c.refusal.ensures.report

pub add_inside-returns-in-Value-clause-entry : goal.add_inside-returns-in-Value-clause-entry
add_inside-returns-in-Value-clause-entry t c =
    λ m e p start above passed are stands at.
    let told = c.add_in_value.ensures.entry m e p start above passed are stands at in
    search (rules, the_lemmas)

pub add_inside-returns-in_default-clause-refused : goal.add_inside-returns-in_default-clause-refused
add_inside-returns-in_default-clause-refused t c = c.refusal.ensures.refused v1_1 (inr (0, lit< tt, refl))

pub add_in_value-returns-in_default-clause-refused : goal.add_in_value-returns-in_default-clause-refused
add_in_value-returns-in_default-clause-refused t c = c.refusal.ensures.refused v1_1 (inr c.extending-fault.ensures.listed)

pub add_in_table-returns-else-is_dotted-clause-refused : goal.add_in_table-returns-else-is_dotted-clause-refused
add_in_table-returns-else-is_dotted-clause-refused t c = c.refusal.ensures.refused v1_1 (inr (0, lit< tt, refl))

-- ---- the spans of the keys

pub add_entry-last_key-requires-clause-span : goal.add_entry-last_key-requires-clause-span
add_entry-last_key-requires-clause-span t c =
    near c.args.reader.now.source.now c.in-Some.first.span c.args.reader.now.short
    (first_in c.args.reader.now.source.now c.args.path.events.now c.in-Some.first c.in-Some.rest.now c.in-Some.ensures c.requires.path.events).0

pub add_entry-last_key-requires-clause-prefix : goal.add_entry-last_key-requires-clause-prefix
add_entry-last_key-requires-clause-prefix t c =
    near c.args.reader.now.source.now c.args.path.prefix c.args.reader.now.short c.requires.path.prefix

pub add_entry-last_key-requires-clause-suffix : goal.add_entry-last_key-requires-clause-suffix
add_entry-last_key-requires-clause-suffix t c =
    near c.args.reader.now.source.now c.args.path.suffix c.args.reader.now.short c.requires.path.suffix

pub add_entry-last_key-requires-clause-before : goal.add_entry-last_key-requires-clause-before
add_entry-last_key-requires-clause-before t c =
    near c.args.reader.now.source.now c.args.path.before c.args.reader.now.short c.requires.path.before

pub add_entry-passed_key-key-requires-clause-span : goal.add_entry-passed_key-key-requires-clause-span
add_entry-passed_key-key-requires-clause-span t c =
    near c.args.reader.now.source.now c.in-Some.first.span c.args.reader.now.short
    (first_in c.args.reader.now.source.now c.args.path.events.now c.in-Some.first c.in-Some.rest.now c.in-Some.ensures c.requires.path.events).0

pub add_entry-passed_key-key-requires-clause-before : goal.add_entry-passed_key-key-requires-clause-before
add_entry-passed_key-key-requires-clause-before t c =
    near c.args.reader.now.source.now c.args.path.before c.args.reader.now.short c.requires.path.before

pub add_entry-passed_key-key-requires-clause-after : goal.add_entry-passed_key-key-requires-clause-after
add_entry-passed_key-key-requires-clause-after t c =
    near c.args.reader.now.source.now c.in-Some-split_dot.after c.args.reader.now.short
    (dot_in c.args.reader.now.source.now c.args.path c.in-Some-split_dot.after c.in-Some-split_dot.inside c.in-Some.rest.now
    c.in-Some-split_dot.ensures (first_in c.args.reader.now.source.now c.args.path.events.now c.in-Some.first c.in-Some.rest.now c.in-Some.ensures c.requires.path.events).1
    c.requires.path.prefix c.requires.path.suffix).0
