-- Worked calls inside values that fit anywhere: ones after which the value still does, and one after
-- which it doesn't.
use Rattle.std.specs.Prelude.{◌≡◌, refl, true, false, [], ◌∷◌, codes}
use Rattle.std.specs.Fmt.{digits}
use Rattle.std.specs.List.{list_all}
use Rattle.toml_edit_model.specs.Mode.{plain}
use Rattle.toml_edit_model.specs.Text.{Text}
use Rattle.toml_edit_model.specs.Trivia.{is_blank, IsWholeTrivia}
use Rattle.toml_edit_model.specs.Tree.{Decor, Node, inline, no_items, item, no_slots, slot, shown_prefix}
use Rattle.toml_edit_model.specs.Print.{one_space}
use Rattle.toml_edit_model.specs.Fits.{LineSuits, ElementSuits, Suits}
use Rattle.toml_edit_model.specs.Conversions.{new_inline, with_decor}
use Rattle.toml_edit_model.specs.Keys.{new_key}
use Rattle.toml_edit_model.specs.examples.Parts.{plain_key, plain_int, plain_list, owned_decor}
use Rattle.toml_edit_model.specs.examples.Cuts.{empty_trivia}
use Rattle.toml_edit_model.specs.examples.Fits.{plain_line}
use Rattle.toml_edit_laws.specs.Locality.{is_plain_value}
use Rattle.toml_edit_edit_laws.specs.Commands.{done, set_below, remove_below}
use Rattle.toml_edit_edit_laws.specs.Fitting.{FitsAnywhere}

abbrev y : Text
y = codes "y"

abbrev z : Text
z = codes "z"

-- ---- an array in an inline table

-- `{ y = .. }`
abbrev holding : Node → Node
holding n = inline new_inline (slot (plain_key y) n no_slots)

-- `{ y = [1, 2] }`
abbrev two_elements : Node
two_elements = plain_list (item (plain_int 1) (item (plain_int 2) no_items))

abbrev pair : Node
pair = holding two_elements

-- `{ y = [1, 3] }` and `{ y = [2] }`
abbrev set_pair : Node
set_pair = holding (plain_list (item (plain_int 1) (item (plain_int 3) no_items)))

abbrev less_pair : Node
less_pair = holding (plain_list (item (plain_int 2) no_items))

element_suits : ElementSuits plain (plain_int 1)
element_suits = (empty_trivia, empty_trivia)

array_suits : Suits plain two_elements
array_suits = (empty_trivia, ((element_suits, tt), ((element_suits, tt), tt)))

pair_fits : FitsAnywhere plain pair
unfolding digits
pair_fits = ((empty_trivia, ((plain_line empty_trivia, array_suits), tt)), refl)

pair_is_set : set_below (plain_int 3) (new_key y ∷ new_key (codes "1") ∷ []) pair ≡ done set_pair
unfolding digits
pair_is_set = refl

pair_is_less : remove_below (y ∷ codes "0" ∷ []) pair ≡ done less_pair
unfolding digits
pair_is_less = refl

-- ---- a dotted inline table

-- `{ y.z = 1 }`, where the dotted table has a newline in its decor, which isn't printed
abbrev broken : Decor
broken = owned_decor (codes "\n") []

abbrev dotted : Node
dotted = inline (record new_inline { is_dotted = true; decor = broken }) (slot (plain_key z) (plain_int 1) no_slots)

line_of_two : LineSuits plain IsWholeTrivia (plain_key y ∷ plain_key z ∷ []) (plain_int 1)
line_of_two = record {
  leading = empty_trivia;
  segments = ((refl, refl), ((refl, refl), tt));
  before_equals = refl;
  after_equals = refl;
  trailing = empty_trivia;
}

dotted_fits : FitsAnywhere plain (holding dotted)
unfolding digits
dotted_fits = ((empty_trivia, (((line_of_two, tt), tt), tt)), refl)

-- A scalar in its place gets that decor, and there the newline is printed.
not_plain : is_plain_value dotted ≡ false
not_plain = refl

dotted_is_set : set_below (plain_int 2) (new_key y ∷ []) (holding dotted)
    ≡ done (holding (with_decor broken (plain_int 2)))
dotted_is_set = refl

not_spaced : list_all is_blank (shown_prefix plain one_space broken) ≡ false
not_spaced = refl
