-- Worked edits of trees that fit: harmless ones, and others that are not.
use Rattle.std.specs.Prelude.{◌≡◌, refl, nat_le, true, false, [], codes, pos, None}
use Rattle.std.specs.Fmt.{digits}
use Rattle.std.specs.List.{list_all}
use Rattle.std.proofs.Common.{inl}
use Rattle.toml_edit_model.specs.Mode.{plain}
use Rattle.toml_edit_model.specs.Trivia.{is_blank}
use Rattle.toml_edit_model.specs.Scalars.{integer}
use Rattle.toml_edit_model.specs.Syntax.{depth, nesting_limit}
use Rattle.toml_edit_model.specs.Tree.{Node, leaf, Slots, no_slots, slot, Tree, shown_suffix, node_decor}
use Rattle.toml_edit_model.specs.Print.{print, value_of}
use Rattle.toml_edit_model.specs.Keys.{new_key}
use Rattle.toml_edit_model.specs.examples.Parts.{plain_key, plain_int, plain_list, owned_decor, root_of}
use Rattle.toml_edit_model.specs.examples.Cuts.{empty_end}
use Rattle.toml_edit_model.specs.examples.Fits.{FitsAs, fits, plain_line, x_is, nested_items}
use Rattle.toml_edit_model.specs.examples.Misfits.{newline_suffix}
use Rattle.toml_edit_laws.specs.Locality.{root_visit}
use Rattle.toml_edit_laws.specs.EditLists.{Edit, replace, add, after, Applies}
use Rattle.toml_edit_edit_laws.specs.Fitting.{IsHarmlessSlot, IsHarmless}

-- ---- harmless

abbrev one_line : Tree
one_line = root_of (x_is 1)

fits_before : FitsAs one_line (codes "x = 1\n")
unfolding digits print
fits_before = (fits (x_is 1) ((tt, ((plain_line empty_end, tt), tt)), tt) refl refl refl, refl)

-- `x = 2`
abbrev rewrite : Edit
rewrite = replace [] (codes "x") (λ k. k) (plain_int 2)

abbrev applies : Applies plain rewrite one_line
applies = (root_visit one_line, plain_key (codes "x"), plain_int 1, refl, refl, refl, refl, refl, (tt, (tt, refl)))

rewrite_is_harmless : IsHarmless plain rewrite one_line applies
unfolding digits
rewrite_is_harmless = (inl refl, inl refl, inl refl, (tt, refl))

rewritten : after rewrite one_line ≡ root_of (x_is 2)
rewritten = refl

fits_after : FitsAs (root_of (x_is 2)) (codes "x = 2\n")
unfolding digits print
fits_after = (fits (x_is 2) ((tt, ((plain_line empty_end, tt), tt)), tt) refl refl refl, refl)

-- a new key, `y = 2`
abbrev two_lines : Slots
two_lines =
    slot (plain_key (codes "x")) (plain_int 1)
    (slot (new_key (codes "y")) (plain_int 2) no_slots)

new_key_is_harmless : IsHarmlessSlot plain (new_key (codes "y")) (plain_int 2)
unfolding digits
new_key_is_harmless = ((refl, refl), (refl, refl), (refl, refl), (tt, refl))

added : after (add [] (new_key (codes "y")) (plain_int 2)) one_line ≡ root_of two_lines
added = refl

fits_added : FitsAs (root_of two_lines) (codes "x = 1\ny = 2\n")
unfolding digits print
fits_added = (
  fits two_lines ((tt, ((plain_line empty_end, tt), ((plain_line empty_end, tt), tt))), tt) refl refl refl,
  refl,
)

-- ---- not harmless

-- a newline and `y = 2` behind a value: the tree that it is added to no longer fits, as
-- proofs/RefusedTrees of toml_edit_model has it
abbrev newline_value : Node
newline_value = leaf (integer (pos 1)) None (owned_decor (codes " ") (codes "\ny = 2"))

not_spaced : list_all is_blank (shown_suffix plain [] (node_decor newline_value)) ≡ false
not_spaced = refl

leaves_no_fit : after (add [] (plain_key (codes "x")) newline_value) (root_of no_slots) ≡ root_of newline_suffix
leaves_no_fit = refl

-- 80 arrays, each in the one before, keep the limits, and 81 do not
deep : nat_le (depth (value_of plain (plain_list (nested_items 79)))) nesting_limit ≡ true
deep = refl

too_deep : nat_le (depth (value_of plain (plain_list (nested_items 80)))) nesting_limit ≡ false
too_deep = refl
