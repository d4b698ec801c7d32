-- Without the grammar the tree of an accepted document may show less than the document means: here a key line with no key at all.
use Rattle.std.proofs.Common.{◌≡◌, refl, [], ◌∷◌, true, false, inl, inr, codes, ap}
use Rattle.toml_edit_model.specs.Mode.{Mode}
use Rattle.toml_edit_model.specs.Scalars.{boolean}
use Rattle.toml_edit_model.specs.Syntax.{scalar, key_line, Document}
use Rattle.toml_edit_model.specs.Meaning.{Fact, fact, a_table, a_scalar, SameFacts, meaning}
use Rattle.toml_edit_model.specs.Shown.{shown_meaning}
use Rattle.toml_edit_model.specs.Tree.{owned, no_slots, Tree}
use Rattle.toml_edit_model.specs.TreeOf.{owned_in, root_fields, IsTreeOf}
use Rattle.toml_edit_laws.proofs.common.Members.{from-contained, to-contained}

pub odd : Document
odd = record {
  has_mark = false;
  statements = key_line (record {
    leading = [];
    path = [];
    before_equals = [];
    after_equals = [];
    trailing =
        [];
  }) (scalar (boolean true) (codes "true")) [] ∷ [];
  final = [];
}

module _ (mode : Mode) where
  pub odd-tree : Tree
  odd-tree = record { root = root_fields (owned_in mode); slots = no_slots; trailing = owned [] }

  pub odd-is : IsTreeOf (owned_in mode) odd odd-tree
  unfolding odd odd-tree
  odd-is = record { root = refl; slots = tt; trailing = refl }

  pub odd-differs : SameFacts (shown_meaning odd-tree) (meaning odd) → ⊥
  unfolding odd odd-tree shown_meaning meaning
  odd-differs h =
      let f : Fact = fact [] (a_scalar (boolean true)) in
      elim (from-contained f (fact [] a_table ∷ []) ((h f).1 (to-contained f (fact [] a_table ∷ f ∷ []) (inr (inl refl))))) [
        | inl e ↦ let t : a_scalar (boolean true) ≡ a_table = ap (λ (x : Fact). x.kind) e in cc
        | inr g ↦ elim g [ ]
      ]
