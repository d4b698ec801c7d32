-- What spells a key or a scalar is never empty.
use Rattle.std.proofs.Common.{◌≡◌, ℕ, ◌+◌, true, false, [], ◌∷◌, ◌++◌, length, Option, None, Some, refl, sym, ap, ◌∙◌, inl, inr}
use Rattle.toml_edit_model.specs.Text.{Text, is_empty}
use Rattle.toml_edit_model.specs.Scalars.{Date, Time, Offset, Scalar, string, integer, float, boolean, datetime}
use Rattle.toml_edit_model.specs.Spelling.{SpellsKey, Spells, SpellsTime, SpellsParts, IsFloat, Digits, IsDigits, digits_text, plus, minus}
use Rattle.toml_edit_model.specs.Spelling.{unsigned, sign_text, base_number, base_prefix}
use Rattle.toml_edit_model.specs.Tree.{span}
use Rattle.toml_edit_model.specs.TreeOf.{span_of}

-- a key is never spelled by nothing
pub spelled-some : (k t : Text) → SpellsKey k t → t ≡ [] → ⊥
spelled-some k t (inl bare) e = absurd (let f = bare.0.1 in let g : is_empty t ≡ true = ap is_empty e in cc)
spelled-some k t (inr (inl basic)) e = let f = basic.3 in absurd cc
spelled-some k t (inr (inr literal)) e = let f = literal.1 in absurd cc

-- a scalar is never spelled by nothing
digits-some : (base : ℕ) (ds : Digits) (before : Text) → IsDigits base ds → before ++ digits_text ds ≡ [] → ⊥
digits-some base [] before h e = h
digits-some base ((false, c) ∷ ds) [] h e = absurd cc
digits-some base ((true, c) ∷ ds) [] h e = absurd cc
digits-some base (d ∷ ds) (b ∷ before) h e = absurd cc

front-some : (a b : Text) → a ++ b ≡ [] → a ≡ []
front-some [] b e = refl
front-some (x ∷ a) b e = absurd cc

float-some : (t : Text) → IsFloat t → t ≡ [] → ⊥
float-some t (inl (s, ds, whole, rest, decimal, fraction, is)) e =
    digits-some 10 ds (sign_text s) decimal.0 (sym decimal.2 ∙ front-some whole rest (sym is ∙ e))
float-some t (inr (plus, inl is)) e = absurd cc
float-some t (inr (minus, inl is)) e = absurd cc
float-some t (inr (unsigned, inl is)) e = absurd cc
float-some t (inr (plus, inr is)) e = absurd cc
float-some t (inr (minus, inr is)) e = absurd cc
float-some t (inr (unsigned, inr is)) e = absurd cc

time-some : (time : Time) (t : Text) → SpellsTime time t → t ≡ [] → ⊥
time-some time t (h, m, rest, seconds, is) e = absurd cc

parts-some : (d : Option Date) (time : Option Time) (o : Option Offset) (t : Text) → SpellsParts d time o t → t ≡ [] → ⊥
parts-some (Some d) None None t (y, m, day, is) e = absurd cc
parts-some (Some d) None (Some o) t h e = h
parts-some None (Some time) None t h e = time-some time t h e
parts-some None (Some time) (Some o) t h e = h
parts-some None None o t h e = h
parts-some (Some d) (Some time) o t (one, two, three, mark, date, mark_is, clock, offset, is) e =
    absurd (let f = date.3 in cc)

pub scalar-some : (s : Scalar) (t : Text) → Spells s t → t ≡ [] → ⊥
scalar-some (string v) t (inl (inl basic)) e = let f = basic.3 in absurd cc
scalar-some (string v) t (inl (inr literal)) e = let f = literal.1 in absurd cc
scalar-some (string v) t (inr (inl (first, parts, each, follow, start, value, is))) e = absurd cc
scalar-some (string v) t (inr (inr (first, parts, each, follow, start, value, is))) e = absurd cc
scalar-some (integer z) t (inl (s, ds, decimal, is)) e = digits-some 10 ds (sign_text s) decimal.0 (sym decimal.2 ∙ e)
scalar-some (integer z) t (inr (b, ds, digits, is, text)) e = digits-some (base_number b) ds (base_prefix b) digits (sym text ∙ e)
scalar-some (boolean true) t spells e = absurd cc
scalar-some (boolean false) t spells e = absurd cc
scalar-some (float x) t spells e = float-some t spells.0 e
scalar-some (datetime d) t spells e = parts-some d.date d.time d.offset t spells e

pub span_of-some : (i : ℕ) (t : Text) → (t ≡ [] → ⊥) → span_of i t ≡ span i (i + length t)
span_of-some i [] some = absurd (some refl)
span_of-some i (c ∷ t) some = refl
