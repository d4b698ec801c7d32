-- Items that are no placeholders.
use Rattle.std.proofs.Common.{◌≡◌, Bool, true, false, not, refl, sym, ap, ◌↔◌}
use Rattle.std.proofs.lemmas.Bool.{false≢true}
use Rattle.std.specs.Prelude.{IsTrue}
use Rattle.toml_edit_model.specs.Lists.{is_item}
use Rattle.toml_edit_model.specs.Tree.{Node, nothing, leaf, list, inline, table, tables}

full : (n : Node) → (n ≡ nothing → false ≡ true) → true ≡ is_item n
full nothing e = absurd (false≢true (e refl))
full (leaf s spelling d) e = refl
full (list f xs) e = refl
full (inline f ss) e = refl
full (table f ss) e = refl
full (tables e xs) h = refl

pub is_item-not : (b : Bool) (n : Node) → IsTrue b ↔ (n ≡ nothing) → not b ≡ is_item n
is_item-not true n h = sym (ap is_item (h.0 refl))
is_item-not false n h = full n h.1
