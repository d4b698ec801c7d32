-- The text of an inline table, pair by pair, and of lines.
use Rattle.std.proofs.Common.{◌≡◌, refl, sym, ap, ◌∙◌, Bool, true, false, List, [], ◌∷◌, ◌++◌, Option, None, Some, append_assoc}
use Rattle.std.specs.Prelude.{codes}
use Rattle.toml_edit_laws.proofs.common.LineEnds.{end-and-newline}
use Rattle.toml_edit_model.specs.Mode.{Mode, line_end, line_newline}
use Rattle.toml_edit_model.specs.Text.{Text, newline}
use Rattle.toml_edit_model.specs.Syntax.{Frame, Value, Pairs, no_pairs, pair, comma_text, frame_text, pairs_text, path_text, statement_text}
use Rattle.toml_edit_model.specs.Syntax.{value_text}
use Rattle.toml_edit_model.specs.Tree.{Decor, node_decor, shown_prefix, shown_suffix}
use Rattle.toml_edit_model.specs.Print.{Line, add_after_pairs, one_space, close_inline, frame_of, last_leaf, line_statement, pairs_of_lines}
use Rattle.toml_edit_model.specs.Print.{segments}
use Rattle.toml_edit_laws.proofs.common.Tests.{append-nil}
use Rattle.toml_edit_laws.specs.PrintByVisits.{after_pairs, between_pairs, last_shown, line_start, lines_text, pairs_shown}
use Rattle.toml_edit_laws.proofs.common.Lists.{append-four}

pub last_shown-append : (before : Option Decor) (xs ys : List Line) → last_shown before (xs ++ ys) ≡ last_shown (last_shown before xs) ys
last_shown-append before [] ys = refl
last_shown-append before (l ∷ xs) ys = last_shown-append (Some (node_decor l.item)) xs ys

frame-order : (a p s e v x t : Text) → a ++ (p ++ (s ++ (e ++ (v ++ (x ++ t))))) ≡ (a ++ (p ++ (s ++ (e ++ (v ++ x))))) ++ t
frame-order a p s e v x t = simp append_assoc

-- the decor of the last line
abbrev last_decor : Decor → List Line → Decor
last_decor d [] = d
last_decor d (l ∷ ls) = last_decor (node_decor l.item) ls

last-decor : (d : Decor) (ls : List Line) → last_shown (Some d) ls ≡ Some (last_decor d ls)
last-decor d [] = refl
last-decor d (l ∷ ls) = last-decor (node_decor l.item) ls

pairs-order : (a s c b r z : Text) → (a ++ s) ++ (c ++ ((b ++ r) ++ z)) ≡ (a ++ ((s ++ c) ++ (b ++ r))) ++ z
pairs-order a s c b r z = simp append_assoc

pairs-after : (t : Text) (f : Frame) (v : Value) (g : Frame) (w : Value) (ps : Pairs)
    → pairs_text (pair f v (add_after_pairs t (pair g w ps))) ≡ frame_text f (value_text v)
    ++ (codes "," ++ pairs_text (add_after_pairs t (pair g w ps)))
pairs-after t f v g w no_pairs = refl
pairs-after t f v g w (pair e u ps) = refl

frame-after : (a p s e v x r t : Text) → a ++ (p ++ (s ++ (e ++ (v ++ (x ++ (r ++ t)))))) ≡ (a ++ (p ++ (s ++ (e ++ (v ++ (x ++ r)))))) ++ t
frame-after a p s e v x r t = simp append_assoc

add-after-pairs : (t : Text) (f : Frame) (v : Value) (ps : Pairs)
    → pairs_text (add_after_pairs t (pair f v ps)) ≡ pairs_text (pair f v ps) ++ t
add-after-pairs t f v no_pairs =
    frame-after f.leading (path_text f.path) f.before_equals (codes "=") f.after_equals (value_text v) f.trailing t
add-after-pairs t f v (pair g w ps) =
    pairs-after t f v g w ps
    ∙ ap (λ x. frame_text f (value_text v) ++ (codes "," ++ x)) (add-after-pairs t g w ps)
    ∙ sym (append-four (frame_text f (value_text v)) (codes ",") (pairs_text (pair g w ps)) t)

-- the trailing text stands behind the pairs and their comma
inline-closed : (comma : Bool) (t : Text) (f : Frame) (v : Value) (ps : Pairs)
    → value_text (close_inline comma t (pair f v ps)) ≡ codes "{" ++ (pairs_text (pair f v ps) ++ (comma_text comma ++ (t ++ codes "}")))
inline-closed true t f v ps = refl
inline-closed false t f v ps =
    ap (λ x. codes "{" ++ (x ++ codes "}")) (add-after-pairs t f v ps)
    ∙ ap (λ x. codes "{" ++ x) (append_assoc (pairs_text (pair f v ps)) t (codes "}"))

end-order : (p z c w : Text) → (p ++ z) ++ (c ++ w) ≡ p ++ ((z ++ c) ++ w)
end-order p z c w = simp append_assoc

module _ (mode : Mode) where
  -- ---- one after another

  pub pairs_shown-append : (before : Option Decor) (xs ys : List Line)
      → pairs_shown mode before (xs ++ ys) ≡ pairs_shown mode before xs ++ pairs_shown mode (last_shown before xs) ys
  pairs_shown-append before [] ys = refl
  pairs_shown-append before (l ∷ xs) ys =
      ap (λ t. between_pairs mode before ++ (line_start mode one_space l ++ t)) (pairs_shown-append (Some (node_decor l.item)) xs ys)
      ∙ sym (append-four (between_pairs mode before) (line_start mode one_space l) (pairs_shown mode (Some (node_decor l.item)) xs)
      (pairs_shown mode (last_shown (Some (node_decor l.item)) xs) ys))

  pub lines_text-append : (xs ys : List Line) → lines_text mode (xs ++ ys) ≡ lines_text mode xs ++ lines_text mode ys
  lines_text-append [] ys = refl
  lines_text-append (l ∷ xs) ys =
      ap (λ t. statement_text (line_statement mode l) ++ t) (lines_text-append xs ys)
      ∙ sym (append_assoc (statement_text (line_statement mode l)) (lines_text mode xs) (lines_text mode ys))

  -- ---- a line

  frame-text : (default suffix : Text) (l : Line)
      → frame_text (frame_of mode default suffix l) (value_text l.value) ≡ line_start mode default l
      ++ shown_suffix mode suffix (node_decor l.item)
  frame-text default suffix l =
      frame-order (shown_prefix mode default (last_leaf l.keys)) (path_text (segments mode l.keys))
      (shown_suffix mode one_space (last_leaf l.keys)) (codes "=")
      (shown_prefix mode one_space (node_decor l.item)) (value_text l.value) (shown_suffix mode suffix (node_decor l.item))

  pub line-text : (l : Line) → statement_text (line_statement mode l) ≡ line_start mode [] l
      ++ (shown_suffix mode [] (node_decor l.item) ++ newline)
  line-text l =
      let s = shown_suffix mode [] (node_decor l.item) in
      ap (λ t. t ++ line_newline mode s)
      (frame-order (shown_prefix mode [] (last_leaf l.keys)) (path_text (segments mode l.keys))
      (shown_suffix mode one_space (last_leaf l.keys)) (codes "=")
      (shown_prefix mode one_space (node_decor l.item)) (value_text l.value) (line_end mode s))
      ∙ append_assoc (line_start mode [] l) (line_end mode s) (line_newline mode s)
      ∙ ap (λ t. line_start mode [] l ++ t) (end-and-newline mode s)

  -- ---- pairs

  pairs-step : (f : Frame) (v : Value) (m : Line) (rest : List Line)
      → pairs_text (pair f v (pairs_of_lines mode (m ∷ rest))) ≡ frame_text f (value_text v)
      ++ (codes "," ++ pairs_text (pairs_of_lines mode (m ∷ rest)))
  pairs-step f v m [] = refl
  pairs-step f v m (l ∷ rest) = refl

  pairs-are : (l : Line) (ls : List Line)
      → pairs_text (pairs_of_lines mode (l ∷ ls))
      ≡ (line_start mode one_space l ++ pairs_shown mode (Some (node_decor l.item)) ls)
      ++ shown_suffix mode one_space (last_decor (node_decor l.item) ls)
  pairs-are l [] =
      frame-text one_space one_space l
      ∙ ap (λ t. t ++ shown_suffix mode one_space (node_decor l.item)) (sym (append-nil (line_start mode one_space l)))
  pairs-are l (m ∷ rest) =
      pairs-step (frame_of mode one_space [] l) l.value m rest
      ∙ ap (λ t. t ++ (codes "," ++ pairs_text (pairs_of_lines mode (m ∷ rest)))) (frame-text one_space [] l)
      ∙ ap (λ t. (line_start mode one_space l ++ shown_suffix mode [] (node_decor l.item)) ++ (codes "," ++ t)) (pairs-are m rest)
      ∙ pairs-order (line_start mode one_space l) (shown_suffix mode [] (node_decor l.item)) (codes ",") (line_start mode one_space m)
      (pairs_shown mode (Some (node_decor m.item)) rest) (shown_suffix mode one_space (last_decor (node_decor m.item) rest))

  -- ---- the end

  lines-closed : (comma : Bool) (t : Text) (l : Line) (ls : List Line)
      → value_text (close_inline comma t (pairs_of_lines mode (l ∷ ls))) ≡ codes "{"
      ++ (pairs_text (pairs_of_lines mode (l ∷ ls)) ++ (comma_text comma ++ (t ++ codes "}")))
  lines-closed comma t l [] = inline-closed comma t (frame_of mode one_space one_space l) l.value no_pairs
  lines-closed comma t l (m ∷ rest) = inline-closed comma t (frame_of mode one_space [] l) l.value (pairs_of_lines mode (m ∷ rest))

  pub pairs-closed : (comma : Bool) (t : Text) (ls : List Line)
      → value_text (close_inline comma t (pairs_of_lines mode ls))
      ≡ codes "{" ++ (pairs_shown mode None ls ++ (after_pairs mode comma (last_shown None ls) ++ (t ++ codes "}")))
  pairs-closed true t [] = refl
  pairs-closed false t [] = refl
  pairs-closed comma t (l ∷ ls) =
      lines-closed comma t l ls
      ∙ ap (λ x. codes "{" ++ (x ++ (comma_text comma ++ (t ++ codes "}")))) (pairs-are l ls)
      ∙ ap (λ x. codes "{" ++ x) (end-order (line_start mode one_space l
      ++ pairs_shown mode (Some (node_decor l.item)) ls) (shown_suffix mode one_space (last_decor (node_decor l.item) ls))
      (comma_text comma)
      (t ++ codes "}"))
      ∙ ap (λ (d : Option Decor). codes "{" ++ ((line_start mode one_space l ++ pairs_shown mode (Some (node_decor l.item)) ls)
      ++ (after_pairs mode comma d ++ (t ++ codes "}")))) (sym (last-decor (node_decor l.item) ls))
