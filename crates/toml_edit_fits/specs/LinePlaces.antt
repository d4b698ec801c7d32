-- The misfits of lines, by where they are.
use Rattle.std.specs.Prelude.{ℕ, Bool, true, List}
use Rattle.toml_edit_model.specs.Mode.{Mode}
use Rattle.toml_edit_model.specs.Syntax.{nesting_limit}
use Rattle.toml_edit_model.specs.Tree.{Key, Node, Slots, TableFields}
use Rattle.toml_edit_fits.specs.declared.route.Route.{Route}
use Rattle.toml_edit_fits.specs.declared.value.Place.{Place}
use Rattle.toml_edit_fits.specs.declared.value.Place.TheVariants.{Table, Braces}
use Rattle.toml_edit_fits.specs.FitTests.{then_key}
use Rattle.toml_edit_fits.specs.Misfits.{MisfitView, dotted_misfits, inside_misfits, lines_misfits, pair_misfits, value_misfits}
use Rattle.toml_edit_fits.specs.Misfits.{within_misfits}

-- how many brackets a value there may open
abbrev pub room_of : Place → ℕ
room_of Table = nesting_limit
room_of (Braces room) = room

-- a table there gives its own lines
abbrev pub enters : Place → TableFields → Bool
enters Table f = f.is_dotted
enters (Braces room) f = true

module _ (mode : Mode) where
  abbrev pub place_misfits : Place → Route → Slots → List MisfitView
  place_misfits Table r ss = lines_misfits mode r ss
  place_misfits (Braces room) r ss = inside_misfits mode room r ss

  -- of the item of one slot
  abbrev pub slot_misfits : Place → Route → Key → Node → List MisfitView
  slot_misfits Table r k n =
      pair_misfits mode nesting_limit r k n (value_misfits mode nesting_limit n)
      (dotted_misfits mode (then_key mode r k) n)
  slot_misfits (Braces room) r k n =
      pair_misfits mode room r k n (value_misfits mode room n)
      (within_misfits mode room (then_key mode r k) n)
