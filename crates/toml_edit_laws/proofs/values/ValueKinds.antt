-- The node of a value is a value's, and no table's.
use Rattle.std.proofs.Common.{◌≡◌, ℕ, refl, true, false, Bool}
use Rattle.toml_edit_model.specs.Text.{Text}
use Rattle.toml_edit_model.specs.Syntax.{Value, scalar, array, inline_table}
use Rattle.toml_edit_model.specs.Tree.{Node, nothing, leaf, list, inline, table, tables, is_value_node}
use Rattle.toml_edit_model.specs.TreeOf.{Form, IsValueNode}

pub not-value : (form : Form) (n : Node) (v : Value) (i : ℕ) (before after : Text) → is_value_node n ≡ false
    → IsValueNode form v i before after n → ⊥
not-value form (leaf s r d) v i before after e h = cc
not-value form (list f xs) v i before after e h = cc
not-value form (inline f ss) v i before after e h = cc
not-value form (table f ss) (scalar s t) i before after e h = h
not-value form (table f ss) (array es comma t) i before after e h = h
not-value form (table f ss) (inline_table ps comma t) i before after e h = h
not-value form (tables x xs) (scalar s t) i before after e h = h
not-value form (tables x xs) (array es comma t) i before after e h = h
not-value form (tables x xs) (inline_table ps comma t) i before after e h = h
not-value form nothing (scalar s t) i before after e h = h
not-value form nothing (array es comma t) i before after e h = h
not-value form nothing (inline_table ps comma t) i before after e h = h

pub value-node : (form : Form) (n : Node) (v : Value) (i : ℕ) (before after : Text) → IsValueNode form v i before after n → is_value_node n
    ≡ true
value-node form n v i before after h = by_kind (is_value_node n) refl
  where
    by_kind : (b : Bool) → is_value_node n ≡ b → b ≡ true
    by_kind true e = refl
    by_kind false e = absurd (not-value form n v i before after e h)
