-- The text of one item, as a line and as a pair.
use Rattle.std.proofs.Common.{◌≡◌, ap, ◌∙◌, Bool, true, false, List, [], ◌∷◌, ◌++◌, Option, Some}
use Rattle.toml_edit_model.specs.Text.{newline}
use Rattle.toml_edit_model.specs.Mode.{Mode}
use Rattle.toml_edit_model.specs.Tree.{Decor, Key, Node, node_decor, shown_suffix}
use Rattle.toml_edit_model.specs.Print.{one_space, is_line_node}
use Rattle.toml_edit_model.specs.Print.{line_of, lines_inside, value_of}
use Rattle.toml_edit_laws.proofs.common.Tests.{append-nil}
use Rattle.toml_edit_tree.specs.Printing.{lines_of_item, node_text}
use Rattle.toml_edit_tree.specs.Visits.{line_text}
use Rattle.toml_edit_laws.proofs.print_by_visits.KeyTexts.{line_start-is}
use Rattle.toml_edit_laws.proofs.print_by_visits.PairTexts.{line-text}
use Rattle.toml_edit_laws.specs.PrintByVisits.{last_shown, pair_start, line_start, between_pairs, pairs_shown}

module _ (mode : Mode) where
  -- a value that is no dotted inline table is a line of its own
  pub one-line : (n : Node) (ks : List Key) → is_line_node n ≡ true → lines_of_item mode n ks ≡ line_of ks n (value_of mode n)
  one-line n ks h = ap (λ (b : Bool). elim b [ true ↦ line_of ks n (value_of mode n) | false ↦ lines_inside mode n ks ]) h

  -- the text of a line, in its parts
  pub line-parts : (ks : List Key) (k : Key) (n : Node) → line_text mode (ks ++ (k ∷ []), n)
      ≡ pair_start mode [] ks k n (node_text mode n) ++ (shown_suffix mode [] (node_decor n) ++ newline)
  line-parts ks k n =
      line-text mode (record { keys = ks ++ (k ∷ []); item = n; value = value_of mode n })
      ∙ ap (λ t. t ++ (shown_suffix mode [] (node_decor n) ++ newline)) (line_start-is mode [] ks k n)

  module _ (ks : List Key) (k : Key) (n : Node) (h : is_line_node n ≡ true) where
    pub pair-shown : (before : Option Decor)
        → pairs_shown mode before (lines_of_item mode n (ks ++ (k ∷ []))) ≡ between_pairs mode before
        ++ pair_start mode one_space ks k n (node_text mode n)
    pair-shown before =
        ap (pairs_shown mode before) (one-line n (ks ++ (k ∷ [])) h)
        ∙ ap (λ t. between_pairs mode before ++ t) (append-nil
        (line_start mode one_space (record { keys = ks ++ (k ∷ []); item = n; value = value_of mode n })))
        ∙ ap (λ t. between_pairs mode before ++ t) (line_start-is mode one_space ks k n)

    pub pair-last : (before : Option Decor) → last_shown before (lines_of_item mode n (ks ++ (k ∷ []))) ≡ Some (node_decor n)
    pair-last before = ap (last_shown before) (one-line n (ks ++ (k ∷ [])) h)
