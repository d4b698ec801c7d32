-- The statements of a print, and those that go before it.
use Rattle.std.proofs.Common.{List, refl, ◌≡◌, ◌∷◌, ◌++◌, Bool, []}
use Rattle.toml_edit_model.specs.Mode.{Mode}
use Rattle.toml_edit_model.specs.Syntax.{Statement, key_line, header}
use Rattle.toml_edit_model.specs.Print.{add_before, Printed, final_of, header_statement}
use Rattle.toml_edit_laws.specs.Locality.{statements}
use Rattle.std.proofs.lemmas.List.{map-append}
use Rattle.toml_edit_model.specs.Text.{Text}
use Rattle.toml_edit_model.specs.HeaderOrder.{Visit}

pub add-nothing : (ss : List Statement) → add_before [] ss ≡ ss
add-nothing [] = refl
add-nothing (key_line f v end ∷ ss) = refl
add-nothing (header h end ∷ ss) = refl

pub statements-append : (xs ys : List Printed) → statements (xs ++ ys) ≡ statements xs ++ statements ys
statements-append xs ys = map-append (λ s. s.statement) xs ys

module _ (mode : Mode) where
  abbrev pub own_header : Bool → Visit → Printed
  own_header b v = record { block = v.path; path = v.path; statement = header_statement mode b v }

pub final-nothing : (ss : List Statement) (after : Text) → final_of [] ss after ≡ after
final-nothing [] after = refl
final-nothing (s ∷ ss) after = refl
