-- Worked texts of one value, one key or one path.
use Rattle.std.specs.Prelude.{◌≡◌, refl, pos, Bool, true, false, not, List, [], ◌∷◌, codes, Some, None}
use Rattle.std.specs.Fmt.{digits}
use Rattle.std.proofs.Common.{inl, inr}
use Rattle.toml_edit_model.specs.Text.{Text}
use Rattle.toml_edit_model.specs.Scalars.{integer, string}
use Rattle.toml_edit_model.specs.Syntax.{Segment, Value, scalar, array, inline_table, element, no_elements, no_pairs}
use Rattle.toml_edit_model.specs.Spelling.{plain}
use Rattle.toml_edit_model.specs.Tree.{owned, Decor, unset, Key, leaf, list, no_items, item}
use Rattle.toml_edit_model.specs.Conversions.{value_display}
use Rattle.toml_edit_model.specs.Lone.{IsLoneValue, is_accepted_value, IsLoneItem, IsLonePath, lone_keys}
use Rattle.toml_edit_model.specs.examples.Parts.{spelled_as, a, b, c, one_value, two_value, pair_of, all_true, plain_int}
use Rattle.toml_edit_model.specs.examples.Cuts.{empty_trivia, space_trivia, is_bare, one_is}
use Rattle.toml_edit_model.specs.examples.TreesOfTexts.{none, decor}

-- ---- values

-- ` [1 ] `, with a tab at the end
abbrev one_element : Value
one_element =
    array (element (record { before = []; after = codes " " }) one_value no_elements) false []

lone_array : IsLoneValue (codes " [1 ] \t") one_element
lone_array =
    record {
      before = codes " ";
      after = codes " \t";
      parts = refl;
      white_before = refl;
      white_after = refl;
      value = ((empty_trivia, inr refl), (empty_trivia, space_trivia, one_is, tt));
    }

-- the white space round the value is dropped, and that inside it stays
lone_item : IsLoneItem one_element
    (list (record { decor = unset; comma = false; trailing = none; extent = None })
    (item (leaf (integer (pos 1)) (Some (owned (codes "1")))
    (decor none (owned (codes " ")))) no_items))
lone_item = (
  list (record { decor = decor none none; comma = false; trailing = none; extent = None })
      (item (leaf (integer (pos 1)) (Some (owned (codes "1")))
      (decor none (owned (codes " ")))) no_items),
  (refl, ((refl, refl, refl), tt)),
  refl,
)

-- `"hello"`, as a string is shown
lone_string : IsLoneValue (codes "\"hello\"") (scalar (string (codes "hello")) (codes "\"hello\""))
lone_string =
    record {
      before = [];
      after = [];
      parts = refl;
      white_before = refl;
      white_after = refl;
      value =
          inl (inl (
            plain 0x68 ∷ plain 0x65 ∷ plain 0x6C ∷ plain 0x6C ∷ plain 0x6F
                ∷ [],
            (refl, (refl, (refl, (refl, (refl, tt))))),
            refl,
            refl,
          ));
    }

display_string : value_display (leaf (string (codes "hello")) None unset) ≡ codes "\"hello\""
display_string = refl

-- pairs that don't agree: `{a = 1, a.b = 2}`, and that do: `{a.b = 1, a.c = 2}`
abbrev accepted : List Bool
accepted =
    not (is_accepted_value
    (inline_table (pair_of [] (a
    ∷ []) one_value [] (pair_of (codes " ") (a ∷ b ∷ []) two_value [] no_pairs)) false []))
    ∷ is_accepted_value
    (inline_table (pair_of [] (a ∷ b
    ∷ []) one_value [] (pair_of (codes " ") (a ∷ c ∷ []) two_value [] no_pairs)) false [])
    ∷ []

accepted_holds : all_true accepted ≡ true
accepted_holds = refl

-- ---- paths

-- ` a . 'b c' `
abbrev spaced_path : List Segment
spaced_path = record a { after = codes " " }
    ∷ record (spelled_as (codes "b c") (codes "'b c'")) { before = codes " " } ∷ []

lone_path : IsLonePath (codes " a . 'b c' ") (codes " ") spaced_path (codes " ")
lone_path =
    record {
      parts = refl;
      path = record {
        begins = refl;
        ends = refl;
        spelled = (is_bare (codes "a") refl refl, (inr (inr (refl, refl)), tt));
      };
      spaced = ((refl, refl), ((refl, refl), tt));
      white_before = refl;
      white_after = refl;
      short = refl;
    }

-- its keys: the white space at the dot is dotted decor, and that at the ends is the last key's
abbrev key : Text → Text → Decor → Decor → Key
key name spelling ends dots = record {
  name = name;
  spelling = Some (owned spelling);
  leaf = ends;
  dotted = dots;
}

abbrev space : Decor
space = decor (owned (codes " ")) (owned (codes " "))

keys_of_path : lone_keys (codes " ") spaced_path (codes " ")
    ≡ key (codes "a") (codes "a") unset (decor none (owned (codes " ")))
    ∷ key (codes "b c") (codes "'b c'") space (decor (owned (codes " ")) none) ∷ []
keys_of_path = refl

-- a side with no white space is unset
keys_of_bare_path : lone_keys [] (a ∷ b ∷ []) (codes "\t")
    ≡ key (codes "a") (codes "a") unset (decor none none)
    ∷ key (codes "b") (codes "b") (record { prefix = None; suffix = Some (owned (codes "\t")) })
    (decor none none) ∷ []
keys_of_bare_path = refl

-- ---- what a value shows alone

display_plain : value_display (plain_int 42) ≡ codes "42"
unfolding digits
display_plain = refl

-- with a space on each side
display_decorated : value_display (leaf (integer (pos 42)) None space) ≡ codes " 42 "
unfolding digits
display_decorated = refl

display_list : value_display
    (list (record { decor = unset; comma = false; trailing = none; extent = None })
    (item (leaf (string (codes "node")) None unset)
    (item (leaf (string (codes "mouth")) None unset) no_items)))
    ≡ codes "[\"node\", \"mouth\"]"
display_list = refl
