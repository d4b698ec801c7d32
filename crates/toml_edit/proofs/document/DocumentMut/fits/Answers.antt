-- The print of a document that fits means what its tree shows, as the tree is well made.
use Rattle.std.proofs.Common.{rules, subst, IsTrue, ◌↔◌}
use Rattle.toml_edit_model.specs.Fits.{FitsIn}
use Rattle.toml_edit_model.specs.Tree.{Slots, SlotsAreWellMade}
use Rattle.toml_edit.specs.DocumentView.{mode_owned, open_owned, tree_owned}
use Rattle.toml_edit.proofs.PrintMeaning.{print-means}
use Rattle.toml_edit.proofs.document.DocumentMut.fits.Goals as goal

pub returns-clause-made : goal.returns-clause-made
returns-clause-made c = subst (λ (ss : Slots). ∥ SlotsAreWellMade ss ∥₁) c.as_table.ensures.slots c.tree_fits.ensures.made

pub returns-clause-reparse : goal.returns-clause-reparse
returns-clause-reparse c =
    let mode = mode_owned c.args.self.now in
    let x = tree_owned c.args.self.now in
    let made = subst (λ (ss : Slots). ∥ SlotsAreWellMade ss ∥₁) c.as_table.ensures.slots c.tree_fits.ensures.made in
    let told : IsTrue c.tree_fits.result ↔ FitsIn mode x = search rules in
    λ h. print-means mode (open_owned c.args.self.now) x made (told.0 h)
