-- Which scalars the types hold.
use Rattle.std.proofs.Common.{◌≡◌, sym, subst, true}
use Rattle.toml_edit_model.specs.Text.{Text}
use Rattle.toml_edit_model.specs.Scalars.{Scalar, string, integer, float, boolean, datetime}
use Rattle.toml_edit_model.specs.Spelling.{IsFloat, Spells, is_in_range}
use Rattle.toml_edit_model.specs.Tree.{IsRealScalar}
use Rattle.toml_edit_laws.proofs.spellings.OffsetLaws.{real_parts}

-- A scalar that is spelled in range is one that the types hold.
pub is-real : (v : Scalar) (t : Text) → Spells v t → is_in_range v t ≡ true → IsRealScalar v
is-real (string v) t s h = tt
is-real (integer z) t s h = h
is-real (float x) t s h = subst IsFloat (sym s.1) s.0
is-real (boolean b) t s h = tt
is-real (datetime d) t s h = real_parts d t s h
