-- The laws of single values, as documents use them.
use Rattle.std.proofs.Common.{◌≡◌, ℕ, true, ◌++◌}
use Rattle.toml_edit_model.specs.Mode.{Mode}
use Rattle.toml_edit_model.specs.Text.{Text}
use Rattle.toml_edit_model.specs.Syntax.{Value, value_text, IsValue, keeps_ranges}
use Rattle.toml_edit_model.specs.Accepted.{has_agreeing_pairs}
use Rattle.toml_edit_model.specs.Tree.{Node, IsWellMade}
use Rattle.toml_edit_model.specs.TreeOf.{spanned_in, owned_in, IsValueNode}
use Rattle.toml_edit_laws.specs.Standing.{Stands}
use Rattle.toml_edit_laws.proofs.values.ValueOwned as owned
use Rattle.toml_edit_laws.proofs.values.ValueMade.{made_well}
use Rattle.toml_edit_model.specs.OwnedForm.{owned_node}

module _ (mode : Mode) where
  -- What its spans cut makes the item of the same value with owned texts.
  pub value_owned : (v : Value) (source : Text) (i : ℕ) (before after : Text) (n : Node) → IsValue v
      → Stands source i (before ++ (value_text v ++ after))
      → IsValueNode (spanned_in mode) v i before after n → IsValueNode (owned_in mode) v i before after (owned_node source n)
  value_owned v source i before after n is stands node = owned.value_owned mode source v i before after n node stands

  -- With owned texts it is well made.
  pub value_well_made : (v : Value) (i : ℕ) (before after : Text) (n : Node) → IsValue v → has_agreeing_pairs v ≡ true → keeps_ranges v
      ≡ true
      → IsValueNode (owned_in mode) v i before after n → IsWellMade n
  value_well_made v i before after n is agree ranges node =
      made_well mode n v i before after (record { grammar = is; agrees = agree; ranged = ranges }) node
