-- The turns of the loops that write headers and paths: what is done and the text of what is left stay the whole text.
use Rattle.std.proofs.Common.{◌≡◌, ℕ, ◌+◌, ◌<◌, Bool, false, List, [], ◌∷◌, ◌++◌, length, get_or, drop, sym, ap, ◌∙◌}
use Rattle.std.proofs.Common.{append_assoc}
use Rattle.std.specs.Prelude.{map}
use Rattle.std.proofs.lemmas.List.{drop_more}
use Rattle.toml_edit_model.specs.Mode.{Mode}
use Rattle.toml_edit_model.specs.Text.{Text}
use Rattle.toml_edit_model.specs.Print.{table_lines}
use Rattle.toml_edit_laws.specs.PrintByVisits.{Headed, header_text, headers_text, lines_text, written_lines}
use Rattle.toml_edit_laws.proofs.print_by_visits.ValueTexts.{lines-are}

module _ {A B : Type 0} (view : A → B) (T : List B → Text) where
  -- the text of what is left, at a turn
  here : (xs : List A) (i : ℕ) (x d : A) → i < length xs → x ≡ get_or xs i d → T (map view (drop i xs))
      ≡ T (view x ∷ map view (drop (i + 1) xs))
  here xs i x d h is =
      ap (λ ys. T (map view ys)) (drop_more xs i d h) ∙ ap (λ y. T (view y ∷ map view (drop (i + 1) xs))) (sym is)

header-order : (a b c d : Text) → ((a ++ b) ++ c) ++ d ≡ a ++ (b ++ (c ++ d))
header-order a b c d = simp append_assoc

module _ (mode : Mode) where
  -- a header and its table's lines are written
  pub headers-turn : {A : Type 0} (view : A → Headed) (hs : List A) (i : ℕ) (x : A) → i < length hs → x ≡ get_or hs i x
      → (b : Bool) (done all : Text)
      → done ++ headers_text mode b (map view (drop i hs)) ≡ all
      → ((done ++ header_text mode b (view x)) ++ written_lines mode (view x).slots [])
      ++ headers_text mode false (map view (drop (i + 1) hs)) ≡ all
  headers-turn view hs i x h is b done all e =
      header-order done (header_text mode b (view x)) (written_lines mode (view x).slots [])
      (headers_text mode false (map view (drop (i + 1) hs)))
      ∙ ap (λ t. done ++ t) (sym (here view (headers_text mode b) hs i x x h is)) ∙ e

  -- the same where the lines are as the definition has them
  pub headers-turn-lines : {A : Type 0} (view : A → Headed) (hs : List A) (i : ℕ) (x : A) → i < length hs → x ≡ get_or hs i x
      → (b : Bool) (done all : Text)
      → done ++ headers_text mode b (map view (drop i hs)) ≡ all
      → ((done ++ header_text mode b (view x)) ++ lines_text mode (table_lines mode (view x).slots []))
      ++ headers_text mode false (map view (drop (i + 1) hs)) ≡ all
  headers-turn-lines view hs i x h is b done all e =
      ap (λ t. ((done ++ header_text mode b (view x)) ++ t)
      ++ headers_text mode false (map view (drop (i + 1) hs))) (lines-are mode (view x).slots [])
      ∙ headers-turn view hs i x h is b done all e
