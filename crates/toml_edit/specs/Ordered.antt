-- Headers that print as those of the tables do, in order.
use Rattle.std.specs.Prelude.{◌≡◌, List}
use Rattle.toml_edit_model.specs.Mode.{Mode, exact}
use Rattle.toml_edit_model.specs.Tree.{TableFields, Slots}
use Rattle.toml_edit_model.specs.Order.{sorted_by}
use Rattle.toml_edit_laws.specs.PrintByVisits.{Headed, begins, by_place, headed_tables, headers_text}
use Rattle.toml_edit.specs.LastLines.{last_headed, last_of_root, last_statement, newline_of}

-- their text is that of the tables' headers
abbrev pub ArePrintedInOrder : Mode → TableFields → Slots → List Headed → Type 0
ArePrintedInOrder mode f ss hs =
    headers_text mode (begins f ss) hs
    ≡ headers_text mode (begins f ss) (sorted_by by_place (headed_tables f ss))

-- the last statement has the same newline with them as in the print
abbrev pub EndInOrder : TableFields → Slots → List Headed → Type 0
EndInOrder f ss hs =
    newline_of exact (last_headed hs (last_of_root f ss)) ≡ newline_of exact (last_statement f ss)
