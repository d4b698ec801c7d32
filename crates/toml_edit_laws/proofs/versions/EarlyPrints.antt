-- The normal text of a text that a version accepts is accepted by it, and so is the print of its tree.
use Rattle.std.proofs.Common.{sym, subst}
use Rattle.toml_edit_model.specs.Mode.{Mode}
use Rattle.toml_edit_model.specs.Version.{v1_0, v1_1}
use Rattle.toml_edit_model.specs.Accepted.{is_accepted, AcceptedIn, AcceptedAs}
use Rattle.toml_edit_model.specs.Normal.{has_open_end, normal_in, normal_text_in}
use Rattle.toml_edit_model.specs.Print.{document_in}
use Rattle.toml_edit_laws.specs.Versions.{NormalTextsStay, PrintsStay}
use Rattle.toml_edit_laws.proofs.print_of_read.PrintOfRead.{printed_normal, print_normal}
use Rattle.toml_edit_laws.proofs.normal_texts.NormalAccepted.{normal-accepted-as}
use Rattle.toml_edit_laws.proofs.versions.Accepting.{later-accepts, early-accepted, accepted-early}
use Rattle.toml_edit_laws.proofs.versions.EarlyNormal.{normal-early}

module _ (mode : Mode) where
  pub normal_texts_stay : NormalTextsStay mode
  unfolding is_accepted
  normal_texts_stay v1_0 t d h =
      let later : AcceptedAs t d = later-accepts v1_0 t d h in
      let normal : AcceptedAs (normal_text_in mode d) (normal_in mode d) = normal-accepted-as mode d later.0.0 later.1 in
      (normal.0, accepted-early (normal_in mode d) normal.1 (normal-early mode d (early-accepted d h.1)))
  normal_texts_stay v1_1 t d h = normal-accepted-as mode d h.0.0 h.1

  pub prints_stay : PrintsStay mode
  prints_stay version t d h tree is =
      let accepted = (later-accepts version t d h).1 in
      subst (λ x. AcceptedIn version x (document_in mode (has_open_end d.statements) tree))
      (sym (print_normal mode d h.0.0 accepted tree is))
      (subst (λ e. AcceptedIn version (normal_text_in mode d) e) (sym (printed_normal mode d h.0.0 accepted tree is))
      (normal_texts_stay version t d h))
