-- A table as a document.
use Rattle.std.proofs.Common.{◌≡◌, Bool, false, ap, ◌∙◌, subst, sym}
use Rattle.std.proofs.Math.Logic.{∥∥₁_map}
use Rattle.toml_edit.specs.DocumentView.{IsPlain, mode_owned, open_owned, print_of, tree_owned}
use Rattle.toml_edit.specs.Documents.{MeansWhatIsShown}
use Rattle.toml_edit.specs.declared.document.DocumentMut.{DocumentMut}
use Rattle.toml_edit_model.specs.Accepted.{AcceptedAs}
use Rattle.toml_edit_model.specs.Mode.{Mode, plain}
use Rattle.toml_edit_model.specs.Print.{document_in, print_in}
use Rattle.toml_edit_model.specs.Shown.{shown_meaning}
use Rattle.toml_edit_model.specs.Text.{Text}
use Rattle.toml_edit_model.specs.Tree.{Slots, TableFields, Tree, table}
use Rattle.toml_edit_items.specs.Shapes.{IsSpelled, Means, as_root}

module _ (f : TableFields) (ss : Slots) (s : Text) (is : s ≡ print_in plain false (as_root f ss)) where
  means_item : MeansWhatIsShown plain false (as_root f ss) → Means (table f ss) s
  unfolding shown_meaning
  means_item m = record {
    document = document_in plain false (as_root f ss);
    accepted = subst (λ (t : Text). AcceptedAs t (document_in plain false (as_root f ss))) (sym is) m.accepted;
    facts = m.meaning;
  }

-- the print of a document with this table as its root
module _ (d : DocumentMut) (f : TableFields) (ss : Slots) (root : tree_owned d ≡ as_root f ss) (by_plain : IsPlain d) where
  printed : print_of d ≡ print_in plain false (as_root f ss)
  printed =
      ap (λ (m : Mode). print_in m (open_owned d) (tree_owned d)) by_plain.0
      ∙ ap (λ (b : Bool). print_in plain b (tree_owned d)) by_plain.1 ∙ ap (print_in plain false) root

  shown : MeansWhatIsShown (mode_owned d) (open_owned d) (tree_owned d) → MeansWhatIsShown plain false (as_root f ss)
  shown m =
      subst (λ (x : Tree). MeansWhatIsShown plain false x) root
      (subst (λ (b : Bool). MeansWhatIsShown plain b (tree_owned d)) by_plain.1
      (subst (λ (m : Mode). MeansWhatIsShown m (open_owned d) (tree_owned d)) by_plain.0 m))

  pub spelled_table : (s : Text) → s ≡ print_of d → ∥ MeansWhatIsShown (mode_owned d) (open_owned d) (tree_owned d) ∥₁
      → IsSpelled (table f ss) s
  spelled_table s is back = (∥∥₁_map back (λ m. means_item f ss s (is ∙ printed) (shown m)), is ∙ printed)
