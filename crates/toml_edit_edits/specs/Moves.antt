-- What moving a key does to a tree.
use Rattle.std.specs.Prelude.{◌&&◌, ◌++◌, if◌then◌else◌, not, List, Option, Some, None, option_and_then, Result, Ok, Err}
use Rattle.std.specs.Cmp.Lexicographic.{pointwise}
use Rattle.std.specs.List.{starts_with}
use Rattle.std.specs.Option.{ok_or}
use Rattle.toml_edit_model.specs.Lists.{is_item, slots_in}
use Rattle.toml_edit_model.specs.Positions.{without_positions}
use Rattle.toml_edit_model.specs.Rearranging.{renamed_key}
use Rattle.toml_edit_model.specs.Slots.{Slot, has_slot, keyed, lookup_slot}
use Rattle.toml_edit_model.specs.Text.{Text, one, same_text}
use Rattle.toml_edit_model.specs.Tree.{Node, Tree, is_value_node}
use Rattle.toml_edit_edit_laws.specs.Commands.{item_at, remove_at}
use Rattle.toml_edit_edits.specs.Effects.{at_end, changed_at, on_table, renamed}
use Rattle.toml_edit_edits.specs.Elements.{moved_among, on_kind}
use Rattle.toml_edit_edits.specs.Outcomes.{and_then, of_answer}
use Rattle.toml_edit_edits.specs.declared.fault.EditFault.{EditFault}
use Rattle.toml_edit_edits.specs.declared.fault.EditFault.TheVariants.{NoSuchPath, WrongKind, Taken}

-- the slot of a key of a table or an inline table, which is no placeholder
abbrev pub held_slot : Text → List (Slot Node) → Option (Slot Node)
held_slot k es = option_and_then (λ s. if is_item s.item then Some s else None) (lookup_slot k es)

abbrev pub slot_of : Text → Node → Result (Slot Node) EditFault
slot_of k n = and_then (λ es. ok_or (held_slot k es) NoSuchPath) (ok_or (slots_in n) WrongKind)

abbrev pub slot_at : List Text → Text → Tree → Result (Slot Node) EditFault
slot_at above k t = and_then (slot_of k) (ok_or (item_at above t) NoSuchPath)

-- it under another name, to be printed elsewhere
abbrev pub carried : Text → Slot Node → Slot Node
carried u s = keyed (renamed_key u s.key) (without_positions s.item)

-- a slot at the end of a table, which takes any, or of an inline table, which takes a value
abbrev pub slots_with : Slot Node → List (Slot Node) → Result (List (Slot Node)) EditFault
slots_with s es = if has_slot s.key.name es then Err Taken else Ok (es ++ one s)

abbrev pub put_in : Slot Node → Node → Result Node EditFault
put_in s n =
    if is_value_node n && not (is_value_node s.item) then Err WrongKind
    else on_table (slots_with s) n

abbrev pub carried_over : List Text → List Text → Text → List Text → Text → Tree
    → Result Tree EditFault
carried_over from above k target u t =
    and_then
    (λ s. and_then (λ w. of_answer (remove_at from w)) (changed_at (put_in (carried u s)) target t))
    (slot_at above k t)

-- below the same item: a key is renamed, an element of an array of tables moved among the others
abbrev pub moved_beside : List Text → Text → Text → Tree → Result Tree EditFault
moved_beside above k u t = on_kind (moved_among k u) (renamed above k u t) above t

-- No table is moved into itself.
abbrev pub moved : List Text → List Text → Tree → Result Tree EditFault
moved from to t =
    at_end
    (λ above k.
    at_end
    (λ target u.
    if pointwise same_text above target then moved_beside above k u t
    else if starts_with same_text to from then Err WrongKind
    else carried_over from above k target u t)
    to)
    from
