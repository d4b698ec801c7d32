-- What kind of item the item of a value is, and its decor.
use Rattle.std.proofs.Common.{◌≡◌, refl, ap, ℕ, ◌+◌, true, false, length}
use Rattle.std.specs.Prelude.{not, ◌||◌}
use Rattle.toml_edit_model.specs.Text.{Text}
use Rattle.toml_edit_model.specs.Syntax.{Value, scalar, array, inline_table, value_text}
use Rattle.toml_edit_model.specs.Tree.{Node, nothing, leaf, list, inline, table, tables, node_decor, is_value_node}
use Rattle.toml_edit_model.specs.TreeOf.{Form, decor_at, IsValueNode}
use Rattle.toml_edit_model.specs.Shown.{is_shown, shows_inside}
use Rattle.toml_edit_model.specs.Print.{is_line_node}

-- the item of a value is one, and no dotted inline table; its decor is what stands around the value
pub record IsValueItem (form : Form) (v : Value) (i : ℕ) (before after : Text) (n : Node) : Type 0 where
  pub is_value : is_value_node n ≡ true
  pub is_line : is_line_node n ≡ true
  pub shown : is_shown n ≡ true
  pub decor : node_decor n ≡ decor_at form i before (i + length before + length (value_text v)) after

-- Of which kind the item of a value is.
pub value_item : (v : Value) (form : Form) (i : ℕ) (before after : Text) (n : Node) → IsValueNode form v i before after n
    → IsValueItem form v i before after n
value_item (scalar s t) form i before after (leaf r spelling d) h = record { is_value = refl; is_line = refl; shown = refl; decor = h.2 }
value_item (scalar s t) form i before after (list f xs) h = absurd h
value_item (scalar s t) form i before after (inline f ss) h = absurd h
value_item (scalar s t) form i before after nothing h = absurd h
value_item (scalar s t) form i before after (table f ss) h = absurd h
value_item (scalar s t) form i before after (tables e xs) h = absurd h
value_item (array es comma t) form i before after (leaf r spelling d) h = absurd h
value_item (array es comma t) form i before after (list f xs) h =
    record { is_value = refl; is_line = refl; shown = refl; decor = ap (λ g. g.decor) h.0 }
value_item (array es comma t) form i before after (inline f ss) h = absurd h
value_item (array es comma t) form i before after nothing h = absurd h
value_item (array es comma t) form i before after (table f ss) h = absurd h
value_item (array es comma t) form i before after (tables e xs) h = absurd h
value_item (inline_table ps comma t) form i before after (leaf r spelling d) h = absurd h
value_item (inline_table ps comma t) form i before after (list f xs) h = absurd h
value_item (inline_table ps comma t) form i before after (inline f ss) h =
    let plain : f.is_dotted ≡ false = ap (λ g. g.is_dotted) h.0 in
    record {
      is_value = refl;
      is_line = ap not plain;
      shown = ap (λ b. not b || shows_inside ss) plain;
      decor = ap (λ g. g.decor) h.0;
    }
value_item (inline_table ps comma t) form i before after nothing h = absurd h
value_item (inline_table ps comma t) form i before after (table f ss) h = absurd h
value_item (inline_table ps comma t) form i before after (tables e xs) h = absurd h
