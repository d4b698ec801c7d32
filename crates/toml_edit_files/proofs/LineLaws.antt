-- The edits of lines.
use Rattle.std.proofs.Common.{◌≡◌, ◌≤◌, ◌<◌, ◌∙◌, refl, sym, ap, subst, Bool, false, ℕ, zero, suc, List, [], ◌∷◌, get_or, length, take, arith}
use Rattle.std.specs.Prelude.{MatchBool}
use Rattle.std.specs.Str.{trim_start}
use Rattle.toml_edit_model.specs.Text.{Text}
use Rattle.toml_edit_model.specs.Version.{Version}
use Rattle.toml_edit_edits.specs.LineWords.{AreWords}
use Rattle.toml_edit_files.specs.Lines.{AddsEdit, AddsLine, SaysLines, is_passed}
use Rattle.toml_edit_edits.specs.declared.edit.Edit.{Edit}

module _ (version : Version) where
  -- a line more says an edit more
  pub next-line : (ls : List Text) (n : ℕ) (l : Text) (old mid new : List Edit) → n < length ls → l ≡ get_or ls n l
      → SaysLines version (take n ls) old mid → AddsLine version (trim_start l) mid new → SaysLines version (take (suc n) ls) old new
  next-line [] n l old mid new within is said adds = absurd (omega (arith, within))
  next-line (x ∷ ls) zero l old mid new within is said adds =
      (new, subst (λ es. AddsLine version (trim_start x) es new) said (subst (λ t. AddsLine version (trim_start t) mid new) is adds), refl)
  next-line (x ∷ ls) (suc n) l old mid new within is (next, one, more) adds =
      (next, one, next-line ls n l next mid new (omega (arith, within)) is more adds)

  -- a line that is not passed over has an edit
  pub line-adds : (l : Text) (old new : List Edit) (is : Bool) → is ≡ is_passed l → is ≡ false → (ws rest : List Text) → AreWords l ws
      → AddsEdit version ws rest old new → AddsLine version l old new
  line-adds l old new is same passed ws rest are adds =
      subst (λ (b : Bool). MatchBool b (new ≡ old) ((us : List Text) × (left : List Text) × AreWords l us × AddsEdit version us left old new))
      (sym passed ∙ same) (ws, rest, are, adds)

pub all-taken : (ls : List Text) (n : ℕ) → length ls ≤ n → take n ls ≡ ls
all-taken [] zero all = refl
all-taken [] (suc n) all = refl
all-taken (l ∷ ls) zero all = absurd (omega (arith, all))
all-taken (l ∷ ls) (suc n) all = ap (λ xs. l ∷ xs) (all-taken ls n (omega (arith, all)))
