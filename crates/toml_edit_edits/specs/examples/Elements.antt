-- Worked edits of an array of tables, texts of comments, and paths with numbers.
use Rattle.std.specs.Prelude.{◌≡◌, refl, true, false, ℤ, pos, [], ◌∷◌, codes, Some, None, Result, Ok, Err}
use Rattle.std.specs.Fmt.{digits}
use Rattle.toml_edit_model.specs.Conversions.{new_table}
use Rattle.toml_edit_model.specs.Keys.{new_key}
use Rattle.toml_edit_model.specs.Tree.{Items, Node, Tree, inline, item, no_items, no_slots, owned, slot, table, tables}
use Rattle.toml_edit_model.specs.Conversions.{new_inline}
use Rattle.toml_edit_model.specs.examples.Parts.{plain_int}
use Rattle.toml_edit_edits.specs.Effects.{comment_text}
use Rattle.toml_edit_edits.specs.Elements.{inserted, moved_among, taken}
use Rattle.toml_edit_edits.specs.FirstTable.{tabled}
use Rattle.toml_edit_edits.specs.Missing.{is_number, is_numbered, unled}
use Rattle.toml_edit_edits.specs.declared.fault.EditFault.{EditFault}
use Rattle.toml_edit_edits.specs.declared.fault.EditFault.TheVariants.{NoSuchElement, NoSuchPath, WrongKind}

-- an element at a position, with the line `b = 1`, and the second with `b = 2`
abbrev first : Node
first = table (record new_table { position = Some (pos 4) }) (slot (new_key (codes "b")) (plain_int 1) no_slots)

abbrev second : Node
second = table (record new_table { position = Some (pos 7) }) (slot (new_key (codes "b")) (plain_int 2) no_slots)

abbrev array : Items → Node
array xs = tables None xs

abbrev both : Node
both = array (item first (item second no_items))

-- `{ b = 2 }`
abbrev pair : Node
pair = inline new_inline (slot (new_key (codes "b")) (plain_int 2) no_slots)

-- that as a table that is added at the end, and before the first
abbrev added : Node
added = table new_table (slot (new_key (codes "b")) (plain_int 2) no_slots)

abbrev added_first : Node
added_first = table (record new_table { position = Some (pos 4) }) (slot (new_key (codes "b")) (plain_int 2) no_slots)

appended : inserted None pair both ≡ Ok (array (item first (item second (item added no_items))))
appended = refl

before_the_first : inserted (Some (codes "0")) pair both ≡ Ok (array (item added_first (item first (item second no_items))))
unfolding digits
before_the_first = refl

past_the_end : inserted (Some (codes "3")) pair both ≡ Err NoSuchPath
unfolding digits
past_the_end = refl

no_pairs : inserted None (plain_int 2) both ≡ Err WrongKind
no_pairs = refl

equal_is_taken : taken pair both ≡ Ok (array (item first no_items))
equal_is_taken = refl

none_is_equal : taken pair (array (item first no_items)) ≡ Err NoSuchElement
none_is_equal = refl

-- the second comes first, where the first was printed
swapped : moved_among (codes "1") (codes "0") both ≡ Ok (array (item added_first (item first no_items)))
unfolding digits
swapped = refl

-- the last number among the others
too_far : moved_among (codes "0") (codes "2") both ≡ Err NoSuchPath
unfolding digits
too_far = refl

-- ---- comments

without_hash : comment_text (codes "x") ≡ codes " x"
without_hash = refl

with_hash : comment_text (codes "#x") ≡ codes "x"
with_hash = refl

no_comment : comment_text [] ≡ []
no_comment = refl

-- ---- numbers

zeros_are_a_number : is_number (codes "00") ≡ true
zeros_are_a_number = refl

empty_is_no_number : is_number [] ≡ false
empty_is_no_number = refl

sign_is_no_digit : is_number (codes "-1") ≡ false
sign_is_no_digit = refl

-- below `b`, where nothing is, but not as the first that is missing
abbrev empty : Tree
empty = record { root = new_table; slots = no_slots; trailing = owned [] }

number_below_a_missing_key : is_numbered (unled (new_key (codes "b") ∷ new_key (codes "0") ∷ []) empty) ≡ true
number_below_a_missing_key = refl

number_is_the_missing_key : is_numbered (unled (new_key (codes "0") ∷ new_key (codes "b") ∷ []) empty) ≡ false
number_is_the_missing_key = refl

-- ---- the first element

-- of `[[a.b]]` the header is printed, and none of `a`
first_in_a : tabled (new_key (codes "a") ∷ new_key (codes "b") ∷ []) pair empty
    ≡ Ok (record empty {
      slots = slot (new_key (codes "a"))
          (table (record new_table { is_implicit = true })
          (slot (new_key (codes "b")) (array (item added no_items)) no_slots))
          no_slots;
    })
first_in_a = refl

numbered : tabled (new_key (codes "a") ∷ new_key (codes "0") ∷ []) pair empty ≡ Err NoSuchPath
numbered = refl
