-- Whether two values are equal, whatever their spelling.
use Rattle.std.specs.Prelude.{Bool, true, false, if◌then◌else◌, ◌&&◌, ◌==◌, List, length}
use Rattle.std.specs.Bool.{beq}
use Rattle.std.specs.Option.{option_eq, option_map_or}
use Rattle.std.specs.Ordering.{int_eq}
use Rattle.toml_edit_model.specs.Iterating.{valued}
use Rattle.toml_edit_model.specs.Lists.{slot_list}
use Rattle.toml_edit_model.specs.Scalars.{Date, Time, Offset, zulu, shift, Datetime, Scalar, string, integer, float, boolean, datetime}
use Rattle.toml_edit_model.specs.Slots.{Slot, lookup}
use Rattle.toml_edit_model.specs.Text.{same_text}
use Rattle.toml_edit_model.specs.Tree.{Node, leaf, list, inline, Items, no_items, item, Slots, no_slots, slot, is_value_node}

-- ---- scalars, by their data

abbrev pub same_date : Date → Date → Bool
same_date a b = a.year == b.year && (a.month == b.month && a.day == b.day)

abbrev pub same_time : Time → Time → Bool
same_time a b =
    a.hour == b.hour
    && (a.minute == b.minute
    && (option_eq (λ x y. x == y) a.second b.second
    && option_eq (λ x y. x == y) a.nanosecond b.nanosecond))

abbrev pub same_offset : Offset → Offset → Bool
same_offset zulu zulu = true
same_offset (shift a) (shift b) = int_eq a b
same_offset _ _ = false

abbrev pub same_datetime : Datetime → Datetime → Bool
same_datetime a b =
    option_eq same_date a.date b.date
    && (option_eq same_time a.time b.time && option_eq same_offset a.offset b.offset)

abbrev pub same_scalar : Scalar → Scalar → Bool
same_scalar (string t) (string u) = same_text t u
same_scalar (integer i) (integer j) = int_eq i j
same_scalar (float x) (float y) = same_text x y
same_scalar (boolean a) (boolean b) = beq a b
same_scalar (datetime d) (datetime e) = same_datetime d e
same_scalar _ _ = false

-- ---- values

abbrev mutual
  -- arrays value by value; inline tables key by key, in any order
  pub same_node : Node → Node → Bool
  same_node (leaf s r d) (leaf z q e) = same_scalar s z
  same_node (list f xs) (list g ys) = same_items xs ys
  same_node (inline f ss) (inline g ts) =
      length (valued (slot_list ss)) == length (valued (slot_list ts))
      && same_slots ss (slot_list ts)
  same_node _ _ = false

  pub same_items : Items → Items → Bool
  same_items no_items no_items = true
  same_items (item n xs) (item m ys) = same_node n m && same_items xs ys
  same_items _ _ = false

  -- the values of these slots are there
  pub same_slots : Slots → List (Slot Node) → Bool
  same_slots no_slots ys = true
  same_slots (slot k n ss) ys =
      (if is_value_node n then option_map_or (λ m. same_node n m) (lookup k.name ys) false else true)
      && same_slots ss ys
