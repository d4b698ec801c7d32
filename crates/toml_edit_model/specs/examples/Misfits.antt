-- Worked trees that don't fit, which proofs/RefusedTrees refuses.
use Rattle.std.specs.Prelude.{pos, true, false, [], codes, None, Some}
use Rattle.toml_edit_model.specs.Scalars.{integer}
use Rattle.toml_edit_model.specs.Tree.{owned, unset, leaf, list, table, tables, no_items, item, Slots, no_slots}
use Rattle.toml_edit_model.specs.Tree.{slot, Tree}
use Rattle.toml_edit_model.specs.examples.Parts.{plain_key, plain_int, owned_decor, table_placed, root_of}
use Rattle.toml_edit_model.specs.examples.Fits.{x_is}

-- ---- trees that don't fit

-- `[[a]]`, `[a.x]`, `[[a]]`, and the position of `x` set to 5
abbrev pub element_after : Slots
element_after =
    slot (plain_key (codes "a")) (tables None
    (item (table_placed 1 (slot (plain_key (codes "x")) (table_placed 5 no_slots) no_slots))
    (item (table_placed 3 no_slots) no_items))) no_slots

-- elements that change places
abbrev pub changed_elements : Slots
changed_elements =
    slot (plain_key (codes "a"))
    (tables None (item (table_placed 9 (x_is 1))
    (item (table_placed 2 (x_is 2)) no_items))) no_slots

-- a suffix with a newline: LF, `y = 2`
abbrev pub newline_suffix : Slots
newline_suffix =
    slot (plain_key (codes "x"))
    (leaf (integer (pos 1)) None (owned_decor (codes " ") (codes "\ny = 2"))) no_slots

-- a comment before the key in a header's brackets
abbrev pub not_lifted : Slots
not_lifted =
    slot (record (plain_key (codes "a")) { leaf = owned_decor (codes " # x") [] })
    (table_placed 1 no_slots) no_slots

-- `# open` before the closing bracket of an array
abbrev pub open_comment : Slots
open_comment =
    slot (plain_key (codes "a"))
    (list (record {
      decor = unset;
      comma = false;
      trailing = owned (codes "# open");
      extent = None;
    }) (item (plain_int 1) no_items)) no_slots

-- an element marked dotted
abbrev pub dotted_element : Slots
dotted_element =
    slot (plain_key (codes "a")) (tables None
    (item (table (record {
      decor = owned_decor [] [];
      is_implicit = false;
      is_dotted = true;
      position = Some (pos 1);
      extent = None;
    }) (x_is 1)) no_items)) no_slots

-- the root marked dotted
abbrev pub dotted_root : Tree
dotted_root = record
    (root_of (x_is 1)) {
      root = record {
        decor = unset;
        is_implicit = false;
        is_dotted = true;
        position = None;
        extent = None;
      };
    }
