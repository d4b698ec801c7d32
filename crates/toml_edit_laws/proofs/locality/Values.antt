-- A value in a table is one line, and nothing is below it.
use Rattle.std.proofs.Common.{◌≡◌, refl, ap, Bool, true, false, List, [], ◌∷◌, ◌++◌}
use Rattle.std.specs.Prelude.{not}
use Rattle.toml_edit_model.specs.Mode.{Mode, line_end, line_newline}
use Rattle.toml_edit_model.specs.Text.{Text}
use Rattle.toml_edit_model.specs.Syntax.{Frame, key_line}
use Rattle.toml_edit_model.specs.Paths.{Path}
use Rattle.toml_edit_model.specs.Tree.{Decor, shown_prefix, shown_suffix, Key, Node, nothing, leaf, list, inline, table, tables, node_decor}
use Rattle.toml_edit_model.specs.Tree.{is_value_node}
use Rattle.toml_edit_model.specs.HeaderOrder.{node_walk}
use Rattle.toml_edit_model.specs.Print.{one_space, last_leaf, segments, line_of, value_of, is_line_node, dotted_lines}
use Rattle.toml_edit_model.specs.Lists.{is_dotted_inline}
use Rattle.toml_edit_laws.specs.Locality.{KeepsFrame, value_line, is_plain_value}
use Rattle.toml_edit_laws.proofs.common.Tests.{and_left, and_right, not-true}
use Rattle.toml_edit_laws.proofs.locality.Under.{slot_lines}
use Rattle.toml_edit_laws.proofs.locality.Sound.{NodeIsSound}

pub plain-value : (n : Node) → is_plain_value n ≡ true → is_value_node n ≡ true
plain-value n h = and_left (is_value_node n) (not (is_dotted_inline n)) h

pub plain-undotted : (n : Node) → is_plain_value n ≡ true → is_dotted_inline n ≡ false
plain-undotted n h = not-true (is_dotted_inline n) (and_right (is_value_node n) (not (is_dotted_inline n)) h)

pub line-value : (n : Node) → is_value_node n ≡ true → is_dotted_inline n ≡ false → is_line_node n ≡ true
line-value (leaf s r d) h e = refl
line-value (list f xs) h e = refl
line-value (inline f ss) h e = ap not e
line-value (table f ss) h e = absurd cc
line-value (tables x xs) h e = absurd cc
line-value nothing h e = absurd cc

pub no-value-walk : (n : Node) (p : Path) (ks : List Key) (b : Bool) → is_value_node n ≡ true → node_walk n p ks b ≡ []
no-value-walk (leaf s r d) p ks b h = refl
no-value-walk (list f xs) p ks b h = refl
no-value-walk (inline f ss) p ks b h = refl
no-value-walk (table f ss) p ks b h = absurd cc
no-value-walk (tables x xs) p ks b h = absurd cc
no-value-walk nothing p ks b h = absurd cc

pub value-sound : (n : Node) → is_value_node n ≡ true → NodeIsSound n
value-sound (leaf s r d) h = tt
value-sound (list f xs) h = tt
value-sound (inline f ss) h = tt
value-sound (table f ss) h = absurd cc
value-sound (tables x xs) h = absurd cc
value-sound nothing h = tt

module _ (mode : Mode) where
  pub slot-line : (k : Key) (n : Node) (lk : List Key) → is_line_node n ≡ true → slot_lines mode k n lk ≡ value_line mode (lk ++ (k ∷ [])) n
      ∷ []
  slot-line k n lk h = by_test (is_line_node n) h
    where
      by_test : (b : Bool) → b ≡ true
          → (elim b [ true ↦ line_of (lk ++ (k ∷ [])) n (value_of mode n) | false ↦ dotted_lines mode n (lk ++ (k ∷ [])) ])
          ≡ value_line mode (lk ++ (k ∷ [])) n ∷ []
      by_test true e = refl
      by_test false e = absurd cc

  -- ---- in its frame

  pub keeps_frame : KeepsFrame mode
  keeps_frame ks old n e =
      (frame_by (node_decor old), end_by (node_decor old), refl, ap (λ (d : Decor). key_line (frame_by d) (value_of mode n) (end_by d)) e)
    where
      frame_by : Decor → Frame
      frame_by d =
          record {
            leading = shown_prefix mode [] (last_leaf ks);
            path = segments mode ks;
            before_equals = shown_suffix mode one_space (last_leaf ks);
            after_equals = shown_prefix mode one_space d;
            trailing = line_end mode (shown_suffix mode [] d);
          }

      end_by : Decor → Text
      end_by d = line_newline mode (shown_suffix mode [] d)
