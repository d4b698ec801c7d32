-- Formatting what was formatted gives it byte for byte, through the text and through the tree of it.
use Rattle.std.proofs.Common.{◌≡◌, refl, sym, ap, subst, ◌∙◌}
use Rattle.toml_edit_model.specs.Meaning.{SameFacts, meaning}
use Rattle.toml_edit_model.specs.Normal.{normal_in}
use Rattle.toml_edit_model.specs.Syntax.{IsDocument, document_text}
use Rattle.toml_edit_laws.proofs.normal_texts.SettledStays.{settled-stays}
use Rattle.toml_edit_laws.proofs.normal_texts.TextLaws.{normal_texts}
use Rattle.toml_edit_laws.proofs.one_cut.Documents.{one_cut}
use Rattle.toml_edit_fmt_laws.specs.Aligned.{pads_as, formatted}
use Rattle.toml_edit_fmt_laws.specs.Promises.{FormattedTextAgain, FormattedTreeAgain}
use Rattle.toml_edit_fmt_laws.proofs.Accepts.{accepted_alike}
use Rattle.toml_edit_fmt_laws.proofs.Again.{formatted_again}
use Rattle.toml_edit_fmt_laws.proofs.Grammar.{stays_document}
use Rattle.toml_edit_fmt_laws.proofs.Means.{means_the_same}
use Rattle.toml_edit_fmt_laws.proofs.Settled.{stays_settled}

pub formatted_text_again : FormattedTextAgain
formatted_text_again r t d accepted =
    let e = formatted r d in
    let pads = pads_as r.comments r d in
    let in_grammar : IsDocument d = accepted.0.0 in
    let laid : IsDocument e = stays_document r pads d in_grammar in
    record {
      accepted = ((laid, refl), accepted_alike r pads d ∙ accepted.1);
      means = subst (λ fs. SameFacts fs (meaning d)) (sym (means_the_same r pads d)) (λ f. (λ x. x, λ x. x));
      again = λ other cut.
          let same : other ≡ e = one_cut (document_text e) other e cut (laid, refl) in
          ap (λ x. document_text (formatted r x)) same ∙ ap document_text (formatted_again r d in_grammar);
    }

pub formatted_tree_again : FormattedTreeAgain
formatted_tree_again mode r newlines t d accepted stay other cut =
    let form = normal_texts mode t d accepted in
    let n = normal_in mode d in
    let e = formatted r n in
    let pads = pads_as r.comments r n in
    let in_grammar : IsDocument n = form.accepted.0.0 in
    let laid : IsDocument e = stays_document r pads n in_grammar in
    let same : other ≡ e = one_cut (document_text e) other e cut (laid, refl) in
    ap (normal_in mode) same ∙ settled-stays mode e laid (stays_settled mode r newlines pads n stay form.settled.1)
