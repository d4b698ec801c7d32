-- Each exit of the functions that read values.
use Rattle.std.proofs.Common.{suc, ◌+◌, ◌*◌, ◌-◌, ◌∷◌, ◌++◌, length, ap, subst, ◌∙◌, arith, codes, ◌≡◌, ◌<◌, ◌≤◌, sym, lit<, refl, inr}
use Rattle.std.proofs.lemmas.Result.{err_from_is_err_and}
use Rattle.toml_edit_model.specs.Version.{v1_1}
use Rattle.toml_edit_model.specs.Syntax.{array, value_text, inline_table}
use Rattle.toml_edit_model.specs.Faults.{value_faults, elements_faults}
use Rattle.toml_edit_error.specs.Fault.{IfToml}
use Rattle.toml_edit_syntax.specs.declared.event.EventKind.TheVariants.{After, ArrayClose, InlineTableClose}
use Rattle.toml_edit_syntax.specs.ValueEvents.{event, elements_events, close_events, shortened, value_at_byte}
use Rattle.toml_edit_parser.specs.ValueRead.{split_close, AddsElement, EndsArray, IsRead, NamesOne, ReadsValue}
use Rattle.toml_edit_tree.specs.View.{item_view, items_view, value_view, slots_view}
use Rattle.toml_edit_model.specs.Tree.{Node}
use Rattle.toml_edit_parser.specs.PairRead.{FrameParts, parts_of}
use Rattle.toml_edit_parser.proofs.ReadLaws.{head_of, no_event, too_deep, named}
use Rattle.toml_edit_parser.proofs.HeadLaws.{scalar_read, scalar_refused, array_opened, inline_opened}
use Rattle.toml_edit_parser.proofs.ScalarElements.{scalar_element}
use Rattle.toml_edit_parser.proofs.ElementsLaws.{element_read}
use Rattle.toml_edit_parser.proofs.ArrayLaws.{end_at, elements_stand, array_ends, array_end_split, array_closed, array_refused}
use Rattle.toml_edit_parser.proofs.SplitLaws.{before_in, scalar_in}
use Rattle.toml_edit_parser.proofs.InlineLaws.{inline-closed, inline-refused, inline_ends, pairs_stand}
use Rattle.toml_edit_parser.proofs.PairLaws.{fewer-still, frame-in, leading-in, no-frame, pair-read, path-some, path-stands, short-path}
use Rattle.toml_edit_parser.proofs.PairLaws.{the-frame, too-long, value-refused, value-stands}
use Rattle.toml_edit_parser.proofs.ElementsLaws as elements
use Rattle.toml_edit_parser.proofs.PairsLaws as pairs
use Rattle.toml_edit_parser.proofs.ViewLaws.{view-Value}
use Rattle.toml_edit_parser.proofs.+read.Goals as goal
use Rattle.toml_edit_model.specs.OwnedForm.{NodeFits, SlotsFit}

-- ---- a value

pub value::read_value-returns-in_default-clause-value : goal.value::read_value-returns-in_default-clause-value
value::read_value-returns-in_default-clause-value t c =
    λ v start level more is stands below e. no_event v start level more c.args.events.now _ below e c.in_default.ensures

pub value::read_value-returns-in_err-read_scalar-in-Scalar-clause-value :
    goal.value::read_value-returns-in_err-read_scalar-in-Scalar-clause-value
value::read_value-returns-in_err-read_scalar-in-Scalar-clause-value t c =
    λ v start level more is stands below e.
    let first = c.in-Some.first in
    let rest = c.in-Some.rest.now in
    let failed = c.in_err-read_scalar-in-Scalar in
    let head = head_of v start level more c.args.events.now first rest below e c.in-Some.ensures in
    let p = err_from_is_err_and c.from_residual.result c.from_residual.ensures.1 in
    rw (p.1, p.2)
    (scalar_refused c.args.reader.now.source.now v start level more first rest failed.field-0.0 c.in-Scalar.is head is stands failed.ensures.value)

pub value::read_value-returns-in_ok-read_scalar-in-Scalar-clause-value :
    goal.value::read_value-returns-in_ok-read_scalar-in-Scalar-clause-value
value::read_value-returns-in_ok-read_scalar-in-Scalar-clause-value t c =
    λ v start level more is stands below e.
    let first = c.in-Some.first in
    let rest = c.in-Some.rest.now in
    let read = c.in_ok-read_scalar-in-Scalar in
    let head = head_of v start level more c.args.events.now first rest below e c.in-Some.ensures in
    scalar_read c.args.reader.now.source.now v start level more first rest (value_view read.field-0) c.in-Scalar.is head is stands read.ensures.value

pub value::read_value-returns-in-ArrayOpen-clause-value : goal.value::read_value-returns-in-ArrayOpen-clause-value
value::read_value-returns-in-ArrayOpen-clause-value t c =
    λ v start level more is stands below e.
    let s = c.args.reader.now.source.now in
    let first = c.in-Some.first in
    let rest = c.in-Some.rest.now in
    let head = head_of v start level more c.args.events.now first rest below e c.in-Some.ensures in
    array_opened s v start level more first rest (λ w. ReadsValue s w start level more c.read_array.result) c.in-ArrayOpen.is head is stands
    (λ es comma t are whole room at inner. c.read_array.ensures.value es comma t start level more are whole room at inner)

pub value::read_value-returns-in-InlineTableOpen-clause-value : goal.value::read_value-returns-in-InlineTableOpen-clause-value
value::read_value-returns-in-InlineTableOpen-clause-value t c =
    λ v start level more is stands below e.
    let s = c.args.reader.now.source.now in
    let first = c.in-Some.first in
    let rest = c.in-Some.rest.now in
    let head = head_of v start level more c.args.events.now first rest below e c.in-Some.ensures in
    inline_opened s v start level more first rest (λ w. ReadsValue s w start level more c.read_inline.result) c.in-InlineTableOpen.is head
    is stands
    (λ ps comma t are whole room at inner. c.read_inline.ensures.value ps comma t start level more are whole room at inner)

pub value::read_value-returns-in_default-kind : goal.value::read_value-returns-in_default-kind
value::read_value-returns-in_default-kind t c =
    record {
      value = λ v start level more is stands below e.
          let first = c.in-Some.first in
          let rest = c.in-Some.rest.now in
          let head = head_of v start level more c.args.events.now first rest below e c.in-Some.ensures in
          let other = c.in_default-kind in
          too_deep c.args.reader.now.source.now v start level more first rest c.refusal.result other.not-Scalar other.not-ArrayOpen
          other.not-InlineTableOpen
          head c.refusal.ensures.report;
      refused = c.refusal.ensures.refused v1_1 (inr (3, lit< tt, refl));
      fits = tt;
      rest = tt;
    }

-- ---- a value in a place

pub value::read_item-returns-in_default-clause-value : goal.value::read_item-returns-in_default-clause-value
value::read_item-returns-in_default-clause-value t c =
    λ v start level more is stands below e. no_event v start level more c.args.events.now _ below e c.in_default.ensures

pub value::read_item-returns-in_err-put_scalar-in-Scalar-clause-value :
    goal.value::read_item-returns-in_err-put_scalar-in-Scalar-clause-value
value::read_item-returns-in_err-put_scalar-in-Scalar-clause-value t c =
    λ v start level more is stands below e.
    let first = c.in-Some.first in
    let rest = c.in-Some.rest.now in
    let failed = c.in_err-put_scalar-in-Scalar in
    let head = head_of v start level more c.args.events.now first rest below e c.in-Some.ensures in
    let p = err_from_is_err_and c.from_residual.result c.from_residual.ensures.1 in
    rw (p.1, p.2)
    (scalar_refused c.args.reader.now.source.now v start level more first rest failed.field-0.0 c.in-Scalar.is head is stands failed.ensures.value)

pub value::read_item-returns-in_ok-put_scalar-in-Scalar-clause-value : goal.value::read_item-returns-in_ok-put_scalar-in-Scalar-clause-value
value::read_item-returns-in_ok-put_scalar-in-Scalar-clause-value t c =
    λ v start level more is stands below e.
    let first = c.in-Some.first in
    let rest = c.in-Some.rest.now in
    let head = head_of v start level more c.args.events.now first rest below e c.in-Some.ensures in
    scalar_read c.args.reader.now.source.now v start level more first rest (item_view c.put_scalar.new.item) c.in-Scalar.is head is stands
    c.in_ok-put_scalar-in-Scalar.ensures.value

pub value::read_list-returns-in_err-value-clause-value : goal.value::read_list-returns-in_err-value-clause-value
value::read_list-returns-in_err-value-clause-value t c =
    λ v start level more is stands below e.
    let p = err_from_is_err_and c.from_residual.result c.from_residual.ensures.1 in
    rw (p.1, p.2) (c.in_err-value.ensures.value v start level more is stands below e)

pub value::read_list-returns-clause-value : goal.value::read_list-returns-clause-value
value::read_list-returns-clause-value t c =
    λ v start level more is stands below e.
    let P : Node → Type 0 = λ n. IsRead v start level more n c.in_ok-value.rest.now in
    subst P (sym (ap item_view c.put.ensures ∙ view-Value c.in_ok-value.value))
    (c.in_ok-value.ensures.value v start level more is stands below e)

pub value::read_list-returns-clause-fits : goal.value::read_list-returns-clause-fits
value::read_list-returns-clause-fits t c =
    subst (NodeFits c.args.reader.now.source.now) (sym (ap item_view c.put.ensures ∙ view-Value c.in_ok-value.value))
    c.in_ok-value.ensures.fits

-- ---- an array

pub array::read_array-returns-in_err-rest-clause-value : goal.array::read_array-returns-in_err-rest-clause-value
array::read_array-returns-in_err-rest-clause-value t c =
    λ es comma t start level more are whole room at inner.
    let s = c.args.reader.now.source.now in
    let at = start + length (value_text (array es comma t)) - 1 in
    let ending = close_events ArrayClose (codes "]") at comma t ++ more in
    let p = err_from_is_err_and c.from_residual-in_err-rest.result c.from_residual-in_err-rest.ensures.1 in
    rw (p.1, p.2) (array_refused s es comma t start level c.in_err-rest.field-0.0 room
    (c.in_err-rest.ensures.elements es (start + 1) (suc level) ending are (elements_stand s es comma t start whole) (omega arith)
    (array_ends (suc level) at comma t more) inner))

pub array::read_array-returns-clause-value : goal.array::read_array-returns-clause-value
array::read_array-returns-clause-value t c =
    λ es comma t start level more are whole room opened inner.
    let s = c.args.reader.now.source.now in
    let at = start + length (value_text (array es comma t)) - 1 in
    let ending = close_events ArrayClose (codes "]") at comma t ++ more in
    let items = c.read_elements.new.values.items in
    let close = end_at at comma t in
    let read = c.in_ok-rest.ensures.elements es (start + 1) (suc level) ending are (elements_stand s es comma t start whole) (omega arith)
    (array_ends (suc level) at comma t more) inner in
    let split = ap split_close read.rest_is ∙ array_end_split level at comma t more in
    array_closed s es comma t start level more items c.in_ok-rest.rest.now c.close_array.result room read
    (subst (λ i. EndsArray i close (items_view items) (shortened level more) c.close_array.result) opened
    (c.close_array.ensures.value close (shortened level more) split))

-- ---- the elements

pub array::read_elements-elements-preserved-in_ok-rest-in-Some-split_scalar :
    goal.array::read_elements-elements-preserved-in_ok-rest-in-Some-split_scalar
array::read_elements-elements-preserved-in_ok-rest-in-Some-split_scalar t c =
    let s = c.args.reader.now.source.now in
    let l = c.elements in
    let before = c.in-Some.before in
    let tail = c.in-Some.tail.now in
    let place = c.in-Some-split_scalar.scalar in
    let behind = c.in-Some-split_scalar.behind.now in
    let read = c.in_ok-rest-in-Some-split_scalar.ensures in
    let rest = c.in_ok-rest-in-Some-split_scalar.rest.now in
    let put = c.read_scalar_element.new.values.items in
    record {
      spans = read.rest.0;
      fits = read.fits l.invariant.fits;
      fewer =
          let inside = before_in s l.rest.now before tail c.in-Some.ensures l.invariant.spans in
          let shorter = inside.2 in
          let fewer = (scalar_in s tail place behind c.in-Some-split_scalar.ensures inside.1).2 in
          omega (arith, shorter, fewer, read.rest.1, l.invariant.fewer);
      progress = λ es start level more h.
          let left = l.invariant.progress es start level more h in
          let n = elements.next s es start level more l.rest.now before tail l.values.items left c.in-Some.ensures in
          let later = elements_events (elements.next_element n.place n.around n.value) n.others ++ more in
          elements.added s es start level more before tail l.values.items put rest n
          (scalar_element s n.value (n.place + length n.around.before) level n.around.after later tail place behind
          (λ w. AddsElement n.around w n.place level later l.values.items put rest) c.in-Some-split_scalar.ensures n.tail_is n.grammar
          n.stands
          (λ x u spells stands at rest_is. read.element n.around x u n.place level later spells stands n.before_is at rest_is));
    }

pub array::read_elements-elements-preserved : goal.array::read_elements-elements-preserved
array::read_elements-elements-preserved t c =
    let s = c.args.reader.now.source.now in
    let l = c.elements in
    let before = c.in-Some.before in
    let tail = c.in-Some.tail.now in
    let read = c.in_ok-rest-in-None.ensures in
    record {
      spans = read.rest.0;
      fits = read.fits l.invariant.fits;
      fewer = let shorter = (before_in s l.rest.now before tail c.in-Some.ensures l.invariant.spans).2 in
          omega (arith, read.rest.1, l.invariant.fewer);
      progress = λ es start level more h.
          let left = l.invariant.progress es start level more h in
          let n = elements.next s es start level more l.rest.now before tail l.values.items left c.in-Some.ensures in
          elements.added s es start level more before tail l.values.items c.read_element.new.values.items _ n
          (read.element n.around n.value n.place level _ n.grammar n.stands n.below n.before_is n.tail_is);
    }

pub array::read_elements-returns-in_err-rest-in-Some-split_scalar-clause-elements :
    goal.array::read_elements-returns-in_err-rest-in-Some-split_scalar-clause-elements
array::read_elements-returns-in_err-rest-in-Some-split_scalar-clause-elements t c =
    λ es start level more are stand below ends inner.
    let s = c.args.reader.now.source.now in
    let l = c.elements in
    let place = c.in-Some-split_scalar.scalar in
    let behind = c.in-Some-split_scalar.behind.now in
    let failed = c.in_err-rest-in-Some-split_scalar in
    let left = l.invariant.progress es start level more
    (record { grammar = are; stand = stand; below = below; ends = ends; events_are = inner }) in
    let n = elements.next s es start level more l.rest.now c.in-Some.before c.in-Some.tail.now l.values.items left c.in-Some.ensures in
    let later = elements_events (elements.next_element n.place n.around n.value) n.others ++ more in
    let p = err_from_is_err_and c.from_residual.result c.from_residual.ensures.1 in
    rw (p.1, p.2)
    (named s (value_faults n.value (n.place + length n.around.before) level) (elements_faults es start level) failed.field-0.0 n.fault
    (scalar_element s n.value (n.place + length n.around.before) level n.around.after later c.in-Some.tail.now place behind
    (λ w. IfToml failed.field-0.0 (NamesOne s (value_faults w (n.place + length n.around.before) level))) c.in-Some-split_scalar.ensures
    n.tail_is n.grammar n.stands
    (λ x u spells stands at rest_is. failed.ensures.element n.around x u n.place level later spells stands n.before_is at rest_is)))

pub array::read_elements-returns-in_err-rest-in-None-clause-elements :
    goal.array::read_elements-returns-in_err-rest-in-None-clause-elements
array::read_elements-returns-in_err-rest-in-None-clause-elements t c =
    λ es start level more are stand below ends inner.
    let s = c.args.reader.now.source.now in
    let l = c.elements in
    let failed = c.in_err-rest-in-None in
    let left = l.invariant.progress es start level more
    (record { grammar = are; stand = stand; below = below; ends = ends; events_are = inner }) in
    let n = elements.next s es start level more l.rest.now c.in-Some.before c.in-Some.tail.now l.values.items left c.in-Some.ensures in
    let p = err_from_is_err_and c.from_residual-in_err-rest-in-None.result c.from_residual-in_err-rest-in-None.ensures.1 in
    rw (p.1, p.2)
    (named s (value_faults n.value (n.place + length n.around.before) level) (elements_faults es start level) failed.field-0.0 n.fault
    (failed.ensures.element n.around n.value n.place level _ n.grammar n.stands n.below n.before_is n.tail_is))

pub array::read_elements-returns-clause-elements : goal.array::read_elements-returns-clause-elements
array::read_elements-returns-clause-elements t c =
    λ es start level more are stand below ends inner.
    let l = c.elements in
    let left = l.invariant.progress es start level more
    (record { grammar = are; stand = stand; below = below; ends = ends; events_are = inner }) in
    elements.ended c.args.reader.now.source.now es start level more l.rest.now l.values.items left c.in_default.ensures

-- ---- an element

pub array::read_element-returns-in_err-value-clause-element : goal.array::read_element-returns-in_err-value-clause-element
array::read_element-returns-in_err-value-clause-element t c =
    λ a v start level more is stands below place inner.
    let p = err_from_is_err_and c.from_residual.result c.from_residual.ensures.1 in
    rw (p.1, p.2) (c.in_err-value.ensures.value v (start + length a.before) level
    (event After (start + length a.before + length (value_text v)) a.after ∷ more) is stands below inner)

pub array::read_element-returns-clause-element : goal.array::read_element-returns-clause-element
array::read_element-returns-clause-element t c =
    λ a v start level more is stands below place inner.
    let end = start + length a.before + length (value_text v) in
    let h = c.in_ok-value.ensures.value v (start + length a.before) level (event After end a.after ∷ more) is stands below inner in
    element_read c.args.reader.now.source.now a v start level more c.args.values.now.items c.end_element.new.values.items
    (value_view c.in_ok-value.value) c.in_ok-value.rest.now c.end_element.result h
    (c.end_element.ensures.element a.before a.after start end (shortened level more) place h.rest_is)

-- ---- inline tables

pub inline_table::read_inline-returns-in_err-rest-clause-value : goal.inline_table::read_inline-returns-in_err-rest-clause-value
inline_table::read_inline-returns-in_err-rest-clause-value t c =
    λ ps comma u start level more are stands below at e.
    let p = err_from_is_err_and c.from_residual.result c.from_residual.ensures.1 in
    let end = start + length (value_text (inline_table ps comma u)) - 1 in
    rw (p.1, p.2) (inline-refused c.args.reader.now.source.now ps comma u start level c.in_err-rest.field-0.0 below
    (c.in_err-rest.ensures.pairs ps (start + 1) (suc level) (close_events InlineTableClose (codes "}") end comma u ++ more) are
    (pairs_stand c.args.reader.now.source.now ps comma u start stands) (omega (arith, below)) (inline_ends (suc level) end comma u more) e))

pub inline_table::read_inline-returns-clause-value : goal.inline_table::read_inline-returns-clause-value
inline_table::read_inline-returns-clause-value t c =
    λ ps comma u start level more are stands below at e.
    let end = start + length (value_text (inline_table ps comma u)) - 1 in
    inline-closed c.args.reader.now.source.now ps comma u start level more (slots_view c.read_pairs.new.slots) c.in_ok-rest.rest.now
    c.args.opening.start c.close_inline.result below at
    (c.in_ok-rest.ensures.pairs ps (start + 1) (suc level) (close_events InlineTableClose (codes "}") end comma u ++ more) are
    (pairs_stand c.args.reader.now.source.now ps comma u start stands) (omega (arith, below)) (inline_ends (suc level) end comma u more) e)
    c.close_inline.ensures.value

-- ---- pairs

pub inline_table::read_pairs-pairs-init : goal.inline_table::read_pairs-pairs-init
inline_table::read_pairs-pairs-init t c =
    record {
      spans = c.requires.spans;
      fits = subst (λ xs. SlotsFit c.args.reader.now.source.now (slots_view xs)) (sym c.requires.first) tt;
      fewer = omega arith;
      progress = λ ps start level more h. pairs.at_start c.args.reader.now.source.now ps start level more c.args.events.now
          (slots_view c.args.slots.now) (ap slots_view c.requires.first) h;
    }

pub inline_table::read_pairs-pairs-preserved : goal.inline_table::read_pairs-pairs-preserved
inline_table::read_pairs-pairs-preserved t c =
    record {
      spans = c.in_ok-rest.ensures.rest.0;
      fits = c.in_ok-rest.ensures.fits c.pairs.invariant.fits;
      fewer = let shorter =
          (leading-in c.args.reader.now.source.now c.pairs.rest.now c.in-Some.leading c.in-Some.tail.now c.in-Some.ensures
          c.pairs.invariant.spans).2 in
          omega (arith, c.in_ok-rest.ensures.rest.1, c.pairs.invariant.fewer);
      progress = λ ps start level more h.
          let n = pairs.next c.args.reader.now.source.now ps start level more c.pairs.rest.now c.in-Some.leading c.in-Some.tail.now
          (slots_view c.pairs.slots)
          (c.pairs.invariant.progress ps start level more h) c.in-Some.ensures in
          pairs.added c.args.reader.now.source.now ps start level more c.in-Some.leading c.in-Some.tail.now (slots_view c.pairs.slots)
          (slots_view c.read_pair.new.slots) _ n
          (c.in_ok-rest.ensures.pair n.frame n.value n.place level _ n.grammar n.value_grammar n.stands n.below n.leading_is n.tail_is);
    }

pub inline_table::read_pairs-returns-in_err-rest-clause-pairs : goal.inline_table::read_pairs-returns-in_err-rest-clause-pairs
inline_table::read_pairs-returns-in_err-rest-clause-pairs t c =
    λ ps start level more are stand below ends e.
    let p = err_from_is_err_and c.from_residual.result c.from_residual.ensures.1 in
    let h = c.pairs.invariant.progress ps start level more (record {
      grammar = are;
      stand = stand;
      below = below;
      ends = ends;
      events_are =
          e;
    }) in
    let n = pairs.next c.args.reader.now.source.now ps start level more c.pairs.rest.now c.in-Some.leading c.in-Some.tail.now
    (slots_view c.pairs.slots) h c.in-Some.ensures in
    rw (p.1, p.2) (pairs.refused c.args.reader.now.source.now ps start level more c.in-Some.leading c.in-Some.tail.now (slots_view c.pairs.slots)
    c.in_err-rest.field-0.0 n
    (c.in_err-rest.ensures.pair n.frame n.value n.place level _ n.grammar n.value_grammar n.stands n.below n.leading_is n.tail_is))

pub inline_table::read_pairs-returns-clause-pairs : goal.inline_table::read_pairs-returns-clause-pairs
inline_table::read_pairs-returns-clause-pairs t c =
    λ ps start level more are stand below ends e.
    pairs.ended c.args.reader.now.source.now ps start level more c.pairs.rest.now (slots_view c.pairs.slots)
    (c.pairs.invariant.progress ps start level more (record { grammar = are; stand = stand; below = below; ends = ends; events_are = e }))
    c.in_default.ensures

-- ---- one pair

pub inline_table::read_pair-returns-in_default-clause-pair : goal.inline_table::read_pair-returns-in_default-clause-pair
inline_table::read_pair-returns-in_default-clause-pair t c =
    λ f v start level more is value stands below same e. no-frame start f v level _ c.args.leading c.args.events.now _ is.1 same e
    c.in_default.ensures

pub inline_table::read_pair-returns-in_err-rest-clause-pair : goal.inline_table::read_pair-returns-in_err-rest-clause-pair
inline_table::read_pair-returns-in_err-rest-clause-pair t c =
    λ f v start level more is value stands below same e.
    let p = err_from_is_err_and c.from_residual.result c.from_residual.ensures.1 in
    let parts = the-frame start f v level _ c.args.leading c.args.events.now (parts_of c.in-Some.frame) c.in-Some.rest.now is.1 same e
    c.in-Some.ensures in
    rw (p.1, p.2) (value-refused c.args.reader.now.source.now f v start level (slots_view c.args.slots.now) c.in_err-rest.field-0.0
    (c.in_err-rest.ensures.value v (value_at_byte start f) level _ value (value-stands c.args.reader.now.source.now start f (value_text v) stands)
    below parts.1))

pub inline_table::read_pair-returns-then-frame-gt-MOST_PATH_EVENTS-clause-pair :
    goal.inline_table::read_pair-returns-then-frame-gt-MOST_PATH_EVENTS-clause-pair
inline_table::read_pair-returns-then-frame-gt-MOST_PATH_EVENTS-clause-pair t c =
    λ f v start level more is value stands below same e.
    let parts = the-frame start f v level _ c.args.leading c.args.events.now (parts_of c.in-Some.frame) c.in-Some.rest.now is.1 same e
    c.in-Some.ensures in
    too-long c.args.reader.now.source.now f v start level (slots_view c.args.slots.now) c.refusal_of_all.result is.1
    (subst (λ (q : FrameParts). 238 < length q.path) parts.0 c.if-frame-gt-MOST_PATH_EVENTS.true) c.refusal_of_all.ensures.report

pub inline_table::read_pair-returns-clause-pair : goal.inline_table::read_pair-returns-clause-pair
inline_table::read_pair-returns-clause-pair t c =
    λ f v start level more is value stands below same e.
    let s = c.args.reader.now.source.now in
    let end = value_at_byte start f + length (value_text v) in
    let parts = the-frame start f v level _ c.args.leading c.args.events.now (parts_of c.in-Some.frame) c.in-Some.rest.now is.1 same e
    c.in-Some.ensures in
    let short = short-path f.path (start + length f.leading) (path-some f.path is.1)
    (subst (λ (q : FrameParts). length q.path ≤ 238) parts.0 c.if-frame-gt-MOST_PATH_EVENTS.false) in
    let h = c.in_ok-rest.ensures.value v (value_at_byte start f) level (event After end f.trailing
    ∷ more) value (value-stands s start f (value_text v) stands) below parts.1 in
    pair-read s f v start level more (slots_view c.args.slots.now) (slots_view c.end_pair-ended.new.slots) _ c.in_ok-rest.rest.now
    c.end_pair-ended.result short h
    (c.end_pair-ended.ensures.pair f v start end (shortened level more) is (path-stands s start f (value_text v) stands) parts.0 h.rest_is)

pub inline_table::read_pair-read_item-requires : goal.inline_table::read_pair-read_item-requires
inline_table::read_pair-read_item-requires t c =
    let parts = frame-in c.args.reader.now.source.now c.args.leading c.args.events.now (parts_of c.in-Some.frame) c.in-Some.rest.now c.in-Some.ensures
    c.requires.spans in
    let at : 4 * length c.args.events.now + 1 ≡ t = c.decreases in
    let fewer = parts.fewer in
    let less : 4 * length c.in-Some.rest.now + 2 < t = omega (arith, at, fewer) in
    (less, parts.others)

pub inline_table::read_pair-end_pair-ended-requires-clause-before_equals : goal.inline_table::read_pair-end_pair-ended-requires-clause-before_equals
inline_table::read_pair-end_pair-ended-requires-clause-before_equals t c =
    (frame-in c.args.reader.now.source.now c.args.leading c.args.events.now (parts_of c.in-Some.frame) c.in-Some.rest.now c.in-Some.ensures
    c.requires.spans).before_equals

pub inline_table::read_pair-end_pair-ended-requires-clause-after_equals : goal.inline_table::read_pair-end_pair-ended-requires-clause-after_equals
inline_table::read_pair-end_pair-ended-requires-clause-after_equals t c =
    (frame-in c.args.reader.now.source.now c.args.leading c.args.events.now (parts_of c.in-Some.frame) c.in-Some.rest.now c.in-Some.ensures
    c.requires.spans).after_equals

pub inline_table::read_pair-returns-clause-fits : goal.inline_table::read_pair-returns-clause-fits
inline_table::read_pair-returns-clause-fits t c =
    λ slots. c.end_pair-ended.ensures.fits c.in_ok-rest.ensures.fits slots

pub inline_table::read_pair-returns-clause-rest : goal.inline_table::read_pair-returns-clause-rest
inline_table::read_pair-returns-clause-rest t c =
    let s = c.args.reader.now.source.now in
    let parts = frame-in s c.args.leading c.args.events.now (parts_of c.in-Some.frame) c.in-Some.rest.now c.in-Some.ensures
    c.requires.spans in
    fewer-still s c.in-Some.rest.now c.in_ok-rest.rest.now c.args.events.now c.end_pair-ended.result parts.fewer
    c.in_ok-rest.ensures.rest.1 c.end_pair-ended.ensures.rest

pub inline_table::read_pair-returns-then-frame-gt-MOST_PATH_EVENTS-clause-refused :
    goal.inline_table::read_pair-returns-then-frame-gt-MOST_PATH_EVENTS-clause-refused
inline_table::read_pair-returns-then-frame-gt-MOST_PATH_EVENTS-clause-refused t c = c.refusal_of_all.ensures.refused v1_1
