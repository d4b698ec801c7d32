-- The parts of an array and of an inline table, one after the other, are their texts.
use Rattle.std.proofs.Common.{◌<◌, ◌≤◌, true, [], ◌∷◌, ◌++◌, Some, length, refl, sym, ap, ◌∙◌, arith}
use Rattle.std.specs.Option.{option_copied}
use Rattle.toml_edit_repr.specs.Modes.{mode_of}
use Rattle.toml_edit_io.proofs.Puts.{put_none, put_same, put_two, put_four, put_five}
use Rattle.toml_edit_tree.specs.Printing.{keys_on, lines_of_item, node_text}
use Rattle.toml_edit_tree.specs.View.{item_view, items_view, value_view}
use Rattle.toml_edit_tree.proofs.PairTextLaws.{pair-last, pair-shown}
use Rattle.toml_edit_tree.proofs.TurnLaws.{items-end, last-turn, other-turn, pairs-turn, value-turn}
use Rattle.toml_edit_tree.proofs.ValueLines.{array-text, braced-line, inline-table-text, other-line}
use Rattle.toml_edit_tree.proofs.ViewLaws.{view-Array, view-Boolean, view-Datetime, view-Float, view-InlineTable, view-Integer, view-String, view-Value}
use Rattle.toml_edit_tree.proofs.encode.+print.Goals as goal
use Rattle.toml_edit_tree.proofs.encode.+print.Goals.{put_items-in-Value, put_items-in_default}
use Rattle.toml_edit_laws.specs.PrintByVisits.{element_text, last_shown, pairs_shown, written_items}

pub put_array_text-returns : goal.put_array_text-returns
put_array_text-returns g t c =
    put_four _ _ _ _ _ _ _ _ _ _ c.put.ensures c.put_items.ensures c.put_raw.ensures c.put-2.ensures
    (array-text (mode_of c.args.mode) c.args.array.now)

-- the items
pub put_items-items-init : goal.put_items-items-init
put_items-items-init g t c = ([], put_none _ _ refl, refl)

pub put_items-items-preserved : goal.put_items-items-preserved
put_items-items-preserved g t c =
    let (done, wrote, more) = c.items.invariant in
    let xs = c.deref-item-items.result.now in
    let i = c.items.item-index in
    let x = c.item-item.result in
    let below : i < length xs = omega arith in
    let all = written_items (mode_of c.args.mode) c.args.comma true (items_view xs) in
    elim c.match-item.branch [
      | put_items-in-Value w ↦
          rw (w.out-is, w.is_first-is) (
            done ++ element_text (mode_of c.args.mode) c.items.is_first (value_view w.in-Value.value)
                (node_text (mode_of c.args.mode) (value_view w.in-Value.value)),
            put_two _ _ _ _ _ _ wrote w.put_element.ensures refl,
            value-turn (mode_of c.args.mode) c.args.comma c.items.is_first xs i x below c.item-item.is done all more w.in-Value.value
                w.in-Value.is,
          )
      | put_items-in_default w ↦
          rw (w.out-is, w.is_first-is) (
            done,
            wrote,
            other-turn (mode_of c.args.mode) c.args.comma c.items.is_first xs i x below
                c.item-item.is done all more w.in_default.not-Value,
          )
    ]

pub put_items-returns : goal.put_items-returns
put_items-returns g t c =
    let (done, wrote, more) = c.items.invariant in
    let xs = c.deref-item-items.result.now in
    let past : length xs ≤ c.items.item-index = omega arith in
    let all = items-end (mode_of c.args.mode) c.args.comma c.items.is_first xs c.items.item-index past done
    (written_items (mode_of c.args.mode) c.args.comma true (items_view xs)) more in
    put_two _ _ _ _ _ _ wrote c.put_last_comma.ensures
    (all ∙ ap (λ ys. written_items (mode_of c.args.mode) c.args.comma true (items_view ys)) c.deref-item-items.ensures.value)

pub put_inline_text-returns : goal.put_inline_text-returns
put_inline_text-returns g t c =
    put_five _ _ _ _ _ _ _ _ _ _ _ _ c.put.ensures c.put_pairs-last.ensures.text c.put_after_pairs.ensures c.put_raw.ensures c.put-2.ensures
    (inline-table-text (mode_of c.args.mode) c.args.table.now (option_copied c.put_pairs-last.result) c.put_pairs-last.ensures.last)

-- the pairs
pub put_pairs-slots-init : goal.put_pairs-slots-init
put_pairs-slots-init g t c = record { last = refl; puts = ([], put_none _ _ refl, refl) }

pub put_pairs-slots-preserved : goal.put_pairs-slots-preserved
put_pairs-slots-preserved g t c =
    let es = c.as_slice-entries.result.now in
    let i = c.slots.slot-index in
    let s = c.slot-item.result in
    let ks = keys_on c.args.path.now in
    let before = option_copied c.slots.last in
    let next = option_copied c.put_item_pairs-last.result in
    let below : i < length es = omega arith in
    let (done, wrote, more) = c.slots.invariant.puts in
    record {
      last = last-turn (mode_of c.args.mode) es i s below c.slot-item.is ks before next c.put_item_pairs-last.ensures.last _
          c.slots.invariant.last;
      puts = (
        done ++ pairs_shown (mode_of c.args.mode) before (lines_of_item (mode_of c.args.mode) (item_view s.item) (ks ++ (s.key ∷ []))),
        put_two _ _ _ _ _ _ wrote c.put_item_pairs-last.ensures.text refl,
        pairs-turn (mode_of c.args.mode) es i s below c.slot-item.is ks before next c.put_item_pairs-last.ensures.last done _ more,
      );
    }

-- an inline table in braces, and any other value, is a pair
pub put_item_pairs-returns-else-table-clause-text : goal.put_item_pairs-returns-else-table-clause-text
put_item_pairs-returns-else-table-clause-text g t c =
    let v = c.in-Value.value in
    let ks = keys_on c.args.path.now in
    let k = c.args.key.now in
    let before = option_copied c.args.before in
    let alone = braced-line v c.in-InlineTable.table c.in-InlineTable.is c.if-table.false in
    put_same _ _ _ _ c.put_pair.ensures
    (sym (ap (λ n. pairs_shown (mode_of c.args.mode) before (lines_of_item (mode_of c.args.mode) n (ks ++ (k ∷ []))))
    (ap item_view c.in-Value.is ∙ view-Value v) ∙ pair-shown (mode_of c.args.mode) ks k (value_view v) alone before))

pub put_item_pairs-returns-in_default : goal.put_item_pairs-returns-in_default
put_item_pairs-returns-in_default g t c =
    let v = c.in-Value.value in
    let ks = keys_on c.args.path.now in
    let k = c.args.key.now in
    let before = option_copied c.args.before in
    let alone = other-line v c.in_default.not-InlineTable in
    let seen = ap item_view c.in-Value.is ∙ view-Value v in
    record {
      last = ap Some c.decor-in_default.ensures
          ∙ sym (ap (λ n. last_shown before (lines_of_item (mode_of c.args.mode) n (ks ++ (k ∷ [])))) seen
          ∙ pair-last (mode_of c.args.mode) ks k (value_view v) alone before);
      text = put_same _ _ _ _ c.put_pair-in_default.ensures
          (sym (ap (λ n. pairs_shown (mode_of c.args.mode) before (lines_of_item (mode_of c.args.mode) n (ks ++ (k ∷ [])))) seen
          ∙ pair-shown (mode_of c.args.mode) ks k (value_view v) alone before));
    }

-- the values
pub put_value_text-returns-in-String : goal.put_value_text-returns-in-String
put_value_text-returns-in-String g t c =
    put_same _ _ _ _ c.put_scalar.ensures
    (sym (ap (node_text (mode_of c.args.mode)) (ap value_view c.in-String.is ∙ view-String c.in-String.scalar)))

pub put_value_text-returns-in-Integer : goal.put_value_text-returns-in-Integer
put_value_text-returns-in-Integer g t c =
    put_same _ _ _ _ c.put_scalar-in-Integer.ensures
    (sym (ap (node_text (mode_of c.args.mode)) (ap value_view c.in-Integer.is ∙ view-Integer c.in-Integer.scalar)))

pub put_value_text-returns-in-Float : goal.put_value_text-returns-in-Float
put_value_text-returns-in-Float g t c =
    put_same _ _ _ _ c.put_scalar-in-Float.ensures
    (sym (ap (node_text (mode_of c.args.mode)) (ap value_view c.in-Float.is ∙ view-Float c.in-Float.scalar)))

pub put_value_text-returns-in-Boolean : goal.put_value_text-returns-in-Boolean
put_value_text-returns-in-Boolean g t c =
    put_same _ _ _ _ c.put_scalar-in-Boolean.ensures
    (sym (ap (node_text (mode_of c.args.mode)) (ap value_view c.in-Boolean.is ∙ view-Boolean c.in-Boolean.scalar)))

pub put_value_text-returns-in-Datetime : goal.put_value_text-returns-in-Datetime
put_value_text-returns-in-Datetime g t c =
    put_same _ _ _ _ c.put_scalar-in-Datetime.ensures
    (sym (ap (node_text (mode_of c.args.mode)) (ap value_view c.in-Datetime.is ∙ view-Datetime c.in-Datetime.scalar)))

pub put_value_text-returns-in-Array : goal.put_value_text-returns-in-Array
put_value_text-returns-in-Array g t c =
    put_same _ _ _ _ c.put_array_text.ensures
    (sym (ap (node_text (mode_of c.args.mode)) (ap value_view c.in-Array.is ∙ view-Array c.in-Array.array)))

pub put_value_text-returns-in-InlineTable : goal.put_value_text-returns-in-InlineTable
put_value_text-returns-in-InlineTable g t c =
    put_same _ _ _ _ c.put_inline_text.ensures
    (sym (ap (node_text (mode_of c.args.mode)) (ap value_view c.in-InlineTable.is ∙ view-InlineTable c.in-InlineTable.table)))
