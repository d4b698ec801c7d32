-- The print of a document that fits is accepted, and so is what is formatted of it.
use Rattle.std.proofs.Common.{◌≡◌, ◌∙◌, refl, sym, ap, subst, true, inl, inr}
use Rattle.std.proofs.Math.Logic.{∥∥₁_elim}
use Rattle.std.specs.List.{list_any}
use Rattle.std.specs.Prelude.{◌⊎◌, if◌then◌else◌, IsErrOf, IsOk, Result, Err}
use Rattle.toml_edit_model.specs.Accepted.{AcceptedAs, AcceptedIn}
use Rattle.toml_edit_model.specs.Mode.{Mode, plain, exact, is_exact}
use Rattle.toml_edit_model.specs.Print.{document_in}
use Rattle.toml_edit_model.specs.Syntax.{Document, IsCut}
use Rattle.toml_edit_model.specs.Text.{Text}
use Rattle.toml_edit_model.specs.Version.{Version, v1_1}
use Rattle.toml_edit_error.specs.declared.toml_error.TomlError.{TomlError}
use Rattle.toml_edit_error.specs.declared.toml_error.ParseFault.{ParseFault}
use Rattle.toml_edit_error.specs.declared.toml_error.ParseFault.TheVariants.{Toml, Memory}
use Rattle.toml_edit_laws.proofs.common.Tests.{true-false}
use Rattle.toml_edit_parser.specs.Options.{mode_of, version_of}
use Rattle.toml_edit_parser.proofs.ShallowLaws.{accepted-shallow}
use Rattle.toml_edit_syntax.specs.Events.{has_deep_value}
use Rattle.toml_edit.proofs.PlainReads.{latest-accepts}
use Rattle.toml_edit.specs.DocumentView.{mode_owned, open_owned, print_of, tree_owned}
use Rattle.toml_edit.specs.Documents.{MeansWhatIsShown}
use Rattle.toml_edit.specs.declared.document.DocumentMut.{DocumentMut}
use Rattle.toml_edit_fmt_laws.specs.Aligned.{formatted}
use Rattle.toml_edit_fmt_laws.specs.Promises.{FormattedTextAgain}
use Rattle.toml_edit_fmt_laws.specs.Rules.{Rules}
use Rattle.toml_edit_fmt.specs.RulesView.{rules_of}
use Rattle.toml_edit_fmt.specs.TextView.{IsFormatted}
use Rattle.toml_edit_fmt.proofs.document.format.Goals as goal

-- the options ask for the mode of the document
same-mode : (mode : Mode) → (if is_exact mode then exact else plain) ≡ mode
same-mode plain = refl
same-mode exact = refl

abbrev refused : TomlError → Result DocumentMut ParseFault
refused e = Err (Toml e)

not-refused : (e : TomlError) → IsOk (refused e) ⊎ IsErrOf (refused e) Memory → ⊥
not-refused e (inl h) = absurd cc
not-refused e (inr h) = absurd cc

module _ (m : DocumentMut) (shown : ∥ MeansWhatIsShown (mode_owned m) (open_owned m) (tree_owned m) ∥₁) (t : Text) (is : t ≡ print_of m) where
  abbrev d : Document
  d = document_in (mode_owned m) (open_owned m) (tree_owned m)

  by-cut : (AcceptedAs t d → ⊥) → ⊥
  by-cut none = ∥∥₁_elim shown (λ x y. absurd x) (λ s. none (subst (λ u. AcceptedAs u d) (sym is) s.accepted))

  -- no value of it is too deep
  is-formatted : ((d : Document) → IsCut d t → list_any has_deep_value d.statements ≡ true) → ⊥
  is-formatted deep =
      by-cut (λ a. true-false (list_any has_deep_value d.statements) (deep d a.0) (accepted-shallow d a.1))

  -- and the formatted text is read
  is-read : FormattedTextAgain → (r : Rules) (out : Text) → IsFormatted r t out → (version : Version) → version ≡ v1_1 → (e : TomlError)
      → ((f : Document) → AcceptedIn version out f → IsOk (refused e) ⊎ IsErrOf (refused e) Memory) → ⊥
  is-read laws r out made version latest e every =
      by-cut (λ a. not-refused e
      (every (formatted r d)
      (latest-accepts version out (formatted r d) latest
      (subst (λ u. AcceptedAs u (formatted r d)) (sym (made d a.0)) (laws r t d a).accepted))))

pub returns-in-Err-Text-clause-accepted : goal.returns-in-Err-Text-clause-accepted
returns-in-Err-Text-clause-accepted c =
    λ _. is-formatted c.args.document (c.in_ok-fits.ensures.reparse c.if-not-branch.false) c.as_str.result.now
    (c.as_str.ensures.value ∙ c.in_ok-text.ensures) (c.in-Err-Text.ensures.refused c.in-Err-Text.field-0-is)

pub returns-clause-accepted : goal.returns-clause-accepted
returns-clause-accepted c =
    λ _. is-read c.args.document (c.in_ok-fits.ensures.reparse c.if-not-branch.false) c.as_str.result.now
    (c.as_str.ensures.value ∙ c.in_ok-text.ensures) c.formatted_texts.ensures.again (rules_of c.args.rules.now) c.as_str-2.result.now
    (λ d cut. c.as_str-2.ensures.value ∙ c.in-Ok.ensures.formatted d cut) (version_of c.exact-options.result)
    (c.exact-options.ensures.version ∙ c.new.ensures.version) c.in-Err-Toml.field-0-0 (rw c.in-Err-Toml.field-0-is at c.in-Err-Toml.ensures.every)

pub returns-in-Ok-from_str_with-clause-formatted : goal.returns-in-Ok-from_str_with-clause-formatted
returns-in-Ok-from_str_with-clause-formatted c =
    let m = c.args.document in
    let new = c.in-Ok-from_str_with in
    let mode : mode_of c.exact-options.result ≡ mode_owned m =
    c.exact-options.ensures.mode ∙ ap (λ b. if b then exact else plain) c.is_exact.ensures ∙ same-mode (mode_owned m) in
    let version : version_of c.exact-options.result ≡ v1_1 = c.exact-options.ensures.version ∙ c.new.ensures.version in
    let print = c.as_str.ensures.value ∙ c.in_ok-text.ensures in
    record {
      fits = c.in_ok-fits.ensures.fits.0 c.if-not-branch.false;
      text = c.as_str-2.result.now;
      formatted = λ d cut. c.as_str-2.ensures.value ∙ c.in-Ok.ensures.formatted d (cut.0, cut.1 ∙ sym print);
      read = rw (mode, version) at new.ensures.accepted;
      mode = new.ensures.mode ∙ mode;
    }
