-- The text with an open end is that with a closed one, but for the newline of the last statement, which may be cut off.
use Rattle.std.proofs.Common.{◌≡◌, suc, ◌-◌, Bool, true, false, [], ◌∷◌, ◌++◌, length, get_or, refl, sym, ap}
use Rattle.std.proofs.Common.{◌∙◌, arith}
use Rattle.std.specs.Prelude.{◌==◌, slice_index}
use Rattle.toml_edit_model.specs.Mode.{Mode, plain, exact, ends_in_return}
use Rattle.toml_edit_model.specs.Text.{Text, carriage_return}
use Rattle.toml_edit_model.specs.Tree.{Tree}
use Rattle.toml_edit_model.specs.Print.{leaves_open, print_in}
use Rattle.toml_edit_laws.proofs.accepted_prints.OpenEnds.{open-prints}
use Rattle.toml_edit.specs.LastLines.{last_statement, newline_of}
use Rattle.toml_edit.proofs.LastLineLaws.{last-newline-is}

-- ---- the print

-- where the end is left open, the newline of the last statement is left out
pub open-print : (mode : Mode) (is_open : Bool) (t : Tree) → leaves_open mode is_open t ≡ true
    → print_in mode is_open t ++ newline_of exact (last_statement t.root t.slots) ≡ print_in mode false t
open-print plain is_open t e = absurd cc
open-print exact false t e = absurd cc
open-print exact true t e = ap (λ (n : Text). print_in exact true t ++ n) (sym (last-newline-is exact t)) ∙ (open-prints exact t).0 e

-- else nothing is
pub closed-print : (mode : Mode) (is_open : Bool) (t : Tree) → leaves_open mode is_open t ≡ false → print_in mode is_open t
    ≡ print_in mode false t
closed-print mode true t e = (open-prints mode t).1 e
closed-print mode false t e = refl

-- ---- how a text ends

-- the last byte tells whether it ends in CR
pub last-return : (t : Text) → (slice_index t (length t - 1) == carriage_return) ≡ ends_in_return t
last-return [] = refl
last-return (c ∷ []) = refl
last-return (c ∷ d ∷ t) =
    let one : length (c ∷ d ∷ t) - 1 ≡ suc (length t) = omega arith in
    let other : length t ≡ length (d ∷ t) - 1 = omega arith in
    ap (λ n. get_or (c ∷ d ∷ t) n 0 == carriage_return) one
    ∙ ap (λ n. get_or (d ∷ t) n 0 == carriage_return) other
    ∙ last-return (d ∷ t)
