-- What VALUE is read as.
use Rattle.std.proofs.Common.{◌≡◌, refl, ap, ◌∙◌, true, []}
use Rattle.std.specs.Prelude.{not, ℕ}
use Rattle.toml_edit_model.specs.Text.{Text}
use Rattle.toml_edit_model.specs.Version.{Version}
use Rattle.toml_edit_model.specs.Syntax.{Value, scalar, array, inline_table}
use Rattle.toml_edit_model.specs.Tree.{Node, nothing, leaf, list, inline, table, tables, unset}
use Rattle.toml_edit_model.specs.TreeOf.{owned_form, IsValueNode}
use Rattle.toml_edit_model.specs.Conversions.{with_decor}
use Rattle.toml_edit_laws.specs.Locality.{is_plain_value}
use Rattle.toml_edit_words.specs.Spelled.{SpellsValue}

-- the item of a value is no dotted inline table
plain-item : (v : Value) (i : ℕ) (before after : Text) (m : Node) → IsValueNode owned_form v i before after m
    → is_plain_value (with_decor unset m) ≡ true
plain-item (scalar s t) i before after (leaf r spelling d) h = refl
plain-item (array es comma t) i before after (list f xs) h = refl
plain-item (inline_table ps comma t) i before after (inline f ss) h = ap (λ g. not g.is_dotted) h.0
plain-item (scalar s t) i before after nothing h = absurd h
plain-item (scalar s t) i before after (list f xs) h = absurd h
plain-item (scalar s t) i before after (inline f ss) h = absurd h
plain-item (scalar s t) i before after (table f ss) h = absurd h
plain-item (scalar s t) i before after (tables e xs) h = absurd h
plain-item (array es comma t) i before after nothing h = absurd h
plain-item (array es comma t) i before after (leaf r spelling d) h = absurd h
plain-item (array es comma t) i before after (inline f ss) h = absurd h
plain-item (array es comma t) i before after (table f ss) h = absurd h
plain-item (array es comma t) i before after (tables e xs) h = absurd h
plain-item (inline_table ps comma t) i before after nothing h = absurd h
plain-item (inline_table ps comma t) i before after (leaf r spelling d) h = absurd h
plain-item (inline_table ps comma t) i before after (list f xs) h = absurd h
plain-item (inline_table ps comma t) i before after (table f ss) h = absurd h
plain-item (inline_table ps comma t) i before after (tables e xs) h = absurd h

pub spelled-plain : (version : Version) (t : Text) (n : Node) → SpellsValue version t n → is_plain_value n ≡ true
spelled-plain version t n (v, lone, accepted, (m, is, same)) = ap is_plain_value same ∙ plain-item v 0 [] [] m is
