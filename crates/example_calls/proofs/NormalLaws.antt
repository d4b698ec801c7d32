-- Normal forms, and documents that are read from their prints, by the laws.
use Rattle.std.proofs.Common.{◌≡◌, refl, sym, ap, subst, ◌∙◌, inl, inr, List, Bool, false}
use Rattle.std.proofs.Math.Logic.{∥∥₁_elim}
use Rattle.std.specs.Prelude.{◌⊎◌, IsErrOf, IsOk, Result, Err}
use Rattle.toml_edit.specs.Documents.{IsOwnedReading, MeansWhatIsShown}
use Rattle.toml_edit.specs.declared.document.DocumentMut.{DocumentMut}
use Rattle.toml_edit.specs.error.Report.{Report}
use Rattle.toml_edit.specs.error.declared.toml_error.ParseFault as parsing
use Rattle.toml_edit.specs.error.declared.toml_error.ParseFault.TheVariants as parsings
use Rattle.toml_edit.specs.laws.NormalTexts.{NormalTexts}
use Rattle.toml_edit.specs.laws.OneCut.{OneCut}
use Rattle.toml_edit.specs.model.Accepted.{AcceptedAs}
use Rattle.toml_edit.specs.model.Fits.{FitsIn}
use Rattle.toml_edit.specs.model.Meaning.{Fact, SameFacts, meaning}
use Rattle.toml_edit.specs.model.Mode.{Mode, plain}
use Rattle.toml_edit.specs.model.Normal.{normal_in, normal_text_in}
use Rattle.toml_edit.specs.model.Print.{document_in, print_in}
use Rattle.toml_edit.specs.model.Shown.{shown_meaning}
use Rattle.toml_edit.specs.model.Syntax.{Document}
use Rattle.toml_edit.specs.model.Text.{Text}
use Rattle.toml_edit.specs.model.Tree.{Tree, SlotsAreWellMade}
use Rattle.example_calls.specs.Normals.{IsNormalized, IsReloaded}
use Rattle.example_calls.specs.Prints.{ReadsBack}

-- the normal text of a text that was read is its own, by whatever cut
pub normalized : (text out : Text) (t : Tree) → ((mode : Mode) → NormalTexts mode) → OneCut → (r : IsOwnedReading text t) → out
    ≡ print_in plain false t
    → IsNormalized text out
normalized text out t law one r print =
    let d = r.document in
    let form = law plain text d r.accepted in
    let is : out ≡ normal_text_in plain d = print ∙ r.tree.prints in
    record {
      document = d;
      accepted = r.accepted;
      is = is;
      form = form;
      again = λ other a.
          let same : other ≡ normal_in plain d =
          one (normal_text_in plain d) other (normal_in plain d) (subst (λ x. AcceptedAs x other) is a).0 form.accepted.0 in
          ap (normal_text_in plain) same ∙ form.twice ∙ sym is;
    }

-- ---- a print

-- a text that is not read
abbrev failed : parsing.ParseFault → Result DocumentMut parsing.ParseFault
failed p = Err p

-- where memory is the only reason, the text is not refused
refuted : (r : Report) → IsOk (failed (parsings.Toml r)) ⊎ IsErrOf (failed (parsings.Toml r)) parsings.Memory → ⊥
refuted r (inl h) = absurd cc
refuted r (inr h) = absurd cc

same-through : (fs gs hs : List Fact) → SameFacts fs gs → SameFacts gs hs → SameFacts fs hs
same-through fs gs hs a b = λ f. (λ h. (b f).0 ((a f).0 h), λ h. (a f).1 ((b f).1 h))

-- the print of a tree that fits is read as what is shown
pub reloaded : (mode : Mode) (is_open : Bool) (t u : Tree) (text : Text) → FitsIn mode t → SlotsAreWellMade t.slots
    → ReadsBack mode is_open t text → IsOwnedReading text u → IsReloaded (print_in mode is_open t) t u
reloaded mode is_open t u text fits made (is, back) r =
    let means : MeansWhatIsShown mode is_open t = back (record { made = made; fits = fits }) in
    let x : IsOwnedReading (print_in mode is_open t) u = subst (λ s. IsOwnedReading s u) is r in
    let same : document_in mode is_open t ≡ x.document = x.only (document_in mode is_open t) means.accepted.0 in
    let shown : SameFacts (meaning x.document) (shown_meaning t) =
    subst (λ (d : Document). SameFacts (meaning d) (shown_meaning t)) same means.meaning in
    record { reading = x; meaning = same-through (shown_meaning u) (meaning x.document) (shown_meaning t) x.meaning shown }

-- and never refused
pub never-refused : (mode : Mode) (is_open : Bool) (t : Tree) (text : Text) (p : parsing.ParseFault) → FitsIn mode t
    → ∥ SlotsAreWellMade t.slots ∥₁ → ReadsBack mode is_open t text
    → ((d : Document) → AcceptedAs text d → IsOk (failed p) ⊎ IsErrOf (failed p) parsings.Memory) → p ≡ parsings.Memory
never-refused mode is_open t text parsings.Memory fits made back every = refl
never-refused mode is_open t text (parsings.Toml r) fits made (is, back) every =
    absurd (∥∥₁_elim made (λ x y. absurd x)
    (λ w. refuted r (every (document_in mode is_open t)
    (subst (λ s. AcceptedAs s (document_in mode is_open t)) (sym is) (back (record { made = w; fits = fits })).accepted))))
