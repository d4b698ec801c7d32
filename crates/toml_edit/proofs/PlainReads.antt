-- What is read as TOML 1.1, with no line endings kept, is read as where nothing else is asked for.
use Rattle.std.proofs.Common.{◌≡◌, Bool, false, Result, Ok, Err, sym, ap, subst, ◌∙◌}
use Rattle.std.specs.Prelude.{IfOk}
use Rattle.toml_edit_model.specs.Accepted.{is_accepted, AcceptedAs, AcceptedIn}
use Rattle.toml_edit_model.specs.Mode.{Mode, plain}
use Rattle.toml_edit_model.specs.Syntax.{Document}
use Rattle.toml_edit_model.specs.Text.{Text}
use Rattle.toml_edit_model.specs.Tree.{Tree}
use Rattle.toml_edit_model.specs.Version.{Version, v1_1}
use Rattle.toml_edit.specs.Documents.{IsOwnedReadingIn, IsReading, IsReadingIn, IsReadingWith, opens}

-- what two clauses say of a result together
pub of-both : {A E : Type 0} (r : Result A E) (P Q R : A → Type 0) → ((x : A) → P x → Q x → R x) → IfOk r P → IfOk r Q → IfOk r R
of-both (Ok x) P Q R both p q = both x p q
of-both (Err e) P Q R both p q = tt

-- ---- the mode

module _ (mode : Mode) (is : mode ≡ plain) (version : Version) (t : Text) (x : Tree) (is_open : Bool) where
  pub plain-reading : IsReadingIn mode version t x is_open → IsReading t x
  plain-reading h = subst (λ m. IsReadingWith m t x) is h.reading

  pub plain-end : IsReadingIn mode version t x is_open → is_open ≡ false
  plain-end h = h.open_end ∙ ap (λ m. opens m h.reading.document) is

-- ---- the version

pub latest-accepts : (version : Version) (t : Text) (d : Document) → version ≡ v1_1 → AcceptedAs t d → AcceptedIn version t d
unfolding is_accepted
latest-accepts version t d is h = subst (λ v. AcceptedIn v t d) (sym is) h

pub plain-owned : (mode : Mode) (version : Version) → mode ≡ plain → version ≡ v1_1 → (t : Text) (x : Tree) (is_open : Bool)
    → IsOwnedReadingIn mode version t x is_open → IsOwnedReadingIn plain v1_1 t x is_open
plain-owned mode version is latest t x is_open h =
    subst (λ m. IsOwnedReadingIn m v1_1 t x is_open) is (subst (λ v. IsOwnedReadingIn mode v t x is_open) latest h)
