-- Lists of edits that are made or refused, and the texts that they leave.
use Rattle.std.proofs.Common.{◌≡◌, ◌≢◌, ℕ, zero, suc, ◌≤◌, length, arith, List, [], ◌∷◌, ◌++◌, take, refl, sym, ap, ◌∙◌, subst, inl, inr}
use Rattle.std.specs.Prelude.{◌⊎◌, Bool, IsTrue, Option, Some, None, Result, Ok, Err, slice_get}
use Rattle.std.proofs.lemmas.Option.{slice_get_past}
use Rattle.toml_edit_model.specs.Fits.{FitsIn}
use Rattle.toml_edit_model.specs.Mode.{Mode}
use Rattle.toml_edit_model.specs.Normal.{normal_text_in}
use Rattle.toml_edit_model.specs.Print.{print_in}
use Rattle.toml_edit_model.specs.Text.{Text}
use Rattle.toml_edit_model.specs.Tree.{Tree}
use Rattle.toml_edit_model.specs.Version.{v1_0}
use Rattle.toml_edit.specs.DocumentView.{mode_owned, open_owned, print_of, tree_owned}
use Rattle.toml_edit.specs.Documents.{MeansWhatIsShown}
use Rattle.toml_edit.specs.declared.document.DocumentMut.{DocumentMut}
use Rattle.toml_edit_edits.specs.Lists.{applied, effect}
use Rattle.toml_edit_edits.specs.Outcomes.{and_then}
use Rattle.toml_edit_edits.specs.declared.edit.Edit.{Edit}
use Rattle.toml_edit_edits.specs.declared.fault.EditFault.{EditFault}
use Rattle.toml_edit_edits.specs.declared.fault.EditFault.TheVariants as faults
use Rattle.toml_edit_files.specs.Edited.{IsAccepted, IsInForm, IsLeft, IsNotEdited, IsNotInForm, IsNotMade, IsNotWritten, IsRead, IsWritten, mark_of, mode_by, unmarked}
use Rattle.toml_edit_files.specs.Stops.{reason_for}
use Rattle.toml_edit_files.specs.declared.stop.Reason.{Reason}
use Rattle.toml_edit_files.specs.declared.stop.Reason.TheVariants.{No, Mistaken, Failed, Refused, Locked}
use Rattle.toml_edit_files.specs.declared.words.Reading.{Reading}

-- ---- one is refused

tree_or : Tree → Result Tree EditFault → Tree
tree_or t (Ok x) = x
tree_or t (Err f) = t

edit_or : Edit → Option Edit → Edit
edit_or e (Some d) = d
edit_or e None = e

none-some : (o : Option Edit) (e : Edit) → o ≡ None → o ≡ Some e → ⊥
none-some o e n s = cc

no_edit : (es : List Edit) (at : ℕ) (e : Edit) → length es ≤ at → slice_get es at ≡ Some e → ⊥
no_edit es at e past there = none-some (slice_get es at) e (slice_get_past es at past) there

clash : (f : EditFault) (t : Tree) (r : Result Tree EditFault) → r ≡ Err f → r ≡ Ok t → ⊥
clash f t r e g = cc

-- the first edit is made, and then the others are refused
refused_then : (rest : List Edit) (n : ℕ) (y : Tree) (f : EditFault) (r : Result Tree EditFault)
    → and_then (applied (take n rest)) r ≡ Ok y → ((z : Tree) → applied (take n rest) z ≡ Ok y → applied rest z ≡ Err f)
    → and_then (applied rest) r ≡ Err f
refused_then rest n y f (Ok z) made then = then z made
refused_then rest n y f (Err g) made then = absurd (clash g y (Err g) refl made)

-- the edits before it are made, and so all of them are refused as it is
refused_there : (es : List Edit) (at : ℕ) (e : Edit) (x y : Tree) (f : EditFault) → slice_get es at ≡ Some e
    → applied (take at es) x ≡ Ok y → effect e y ≡ Err f → applied es x ≡ Err f
unfolding edit_or tree_or
refused_there [] at e x y f there made refuses = absurd (no_edit [] at e (omega arith) there)
refused_there (d ∷ es) zero e x y f there made refuses =
    let same : d ≡ e = ap (edit_or e) there in
    let here : x ≡ y = ap (tree_or x) made in
    ap (and_then (applied es)) (ap (λ (a : Edit). effect a x) same ∙ ap (effect e) here ∙ refuses)
refused_there (d ∷ es) (suc n) e x y f there made refuses =
    refused_then es n y f (effect d x) made (λ z rest. refused_there es n e z y f there rest refuses)

-- so there is no tree that they leave
pub not_made : (es : List Edit) (x y : Tree) (at : ℕ) (e : Edit) (f : EditFault) → slice_get es at ≡ Some e
    → applied (take at es) x ≡ Ok y → (f ≡ faults.Memory) ⊎ (effect e y ≡ Err f) → IsNotMade es x (reason_for f)
not_made es x y at e faults.Memory there made why = tt
not_made es x y at e faults.NoSuchPath there made (inl is) = absurd (let no : faults.NoSuchPath ≡ faults.Memory = is in cc)
not_made es x y at e faults.NoSuchPath there made (inr is) = λ z done. clash faults.NoSuchPath z (applied es x) (refused_there es at e x y faults.NoSuchPath there made is) done
not_made es x y at e faults.WrongKind there made (inl is) = absurd (let no : faults.WrongKind ≡ faults.Memory = is in cc)
not_made es x y at e faults.WrongKind there made (inr is) = λ z done. clash faults.WrongKind z (applied es x) (refused_there es at e x y faults.WrongKind there made is) done
not_made es x y at e faults.NoSuchElement there made (inl is) = absurd (let no : faults.NoSuchElement ≡ faults.Memory = is in cc)
not_made es x y at e faults.NoSuchElement there made (inr is) = λ z done. clash faults.NoSuchElement z (applied es x) (refused_there es at e x y faults.NoSuchElement there made is) done
not_made es x y at e faults.Taken there made (inl is) = absurd (let no : faults.Taken ≡ faults.Memory = is in cc)
not_made es x y at e faults.Taken there made (inr is) = λ z done. clash faults.Taken z (applied es x) (refused_there es at e x y faults.Taken there made is) done
not_made es x y at e faults.BadComment there made (inl is) = absurd (let no : faults.BadComment ≡ faults.Memory = is in cc)
not_made es x y at e faults.BadComment there made (inr is) = λ z done. clash faults.BadComment z (applied es x) (refused_there es at e x y faults.BadComment there made is) done

-- ---- the normal form

module _ (reading : Reading) (t : Text) (d : DocumentMut) (read : IsRead reading t (tree_owned d) (open_owned d))
    (by_mode : mode_owned d ≡ mode_by reading) where
  -- the document is printed as the normal text of its cut
  print-normal : print_of d ≡ normal_text_in (mode_by reading) read.reading.document
  print-normal =
      ap (λ (m : Mode). print_in m (open_owned d) (tree_owned d)) by_mode
      ∙ ap (λ (b : Bool). print_in (mode_by reading) b (tree_owned d)) read.open_end ∙ read.reading.tree.prints

  pub in_form : print_of d ≡ unmarked t → IsInForm reading t
  in_form is = (read.reading.document, read.accepted read.reading.document read.reading.accepted.0, sym print-normal ∙ is)

  pub print_in_form : IsInForm reading t → print_of d ≡ unmarked t
  print_in_form (other, accepted, is) =
      print-normal ∙ ap (normal_text_in (mode_by reading)) (sym (read.reading.only other accepted.0)) ∙ is

  pub locked : (is_locked : Bool) (why : Option Reason) (edits : List Edit) → IsNotInForm is_locked (print_of d) (unmarked t) why
      → IsNotEdited reading is_locked edits t why
  locked is_locked None edits h = tt
  locked is_locked (Some No) edits h = absurd h
  locked is_locked (Some Mistaken) edits h = absurd h
  locked is_locked (Some Failed) edits h = h
  locked is_locked (Some Refused) edits h = h
  locked is_locked (Some Locked) edits h =
      (h.0, (read.reading.document, read.accepted read.reading.document read.reading.accepted.0), λ form. h.1 (print_in_form form))

-- ---- what edits leave

module _ (reading : Reading) (edits : List Edit) (x : Tree) (is_open : Bool) (before : Text) where
  -- no text is left
  abbrev None_left : Type 0
  None_left = (s : Text) → IsLeft reading edits x is_open before s → ⊥

  pub not_edited : (is_locked : Bool) (why : Option Reason) → IsRead reading before x is_open
      → ((r : Reason) → why ≡ Some r → (r ≢ Failed) × (r ≢ Refused) × (r ≢ Locked) × None_left) → IsNotEdited reading is_locked edits before why
  not_edited is_locked None read none = tt
  not_edited is_locked (Some No) read none = (x, is_open, read, (none No refl).3)
  not_edited is_locked (Some Mistaken) read none = (x, is_open, read, (none Mistaken refl).3)
  not_edited is_locked (Some Failed) read none = (none Failed refl).0 refl
  not_edited is_locked (Some Refused) read none = (none Refused refl).1 refl
  not_edited is_locked (Some Locked) read none = absurd ((none Locked refl).2 refl)

  pub none_made : (why : Option Reason) → IsNotMade edits x why
      → (r : Reason) → why ≡ Some r → (r ≢ Failed) × (r ≢ Refused) × (r ≢ Locked) × None_left
  none_made None h r is = absurd (let no : None ≡ Some r = is in cc)
  none_made (Some No) h r is = ((λ e. cc), (λ e. cc), (λ e. cc), λ s left. h left.left left.applied)
  none_made (Some Mistaken) h r is = ((λ e. cc), (λ e. cc), (λ e. cc), λ s left. h left.left left.applied)
  none_made (Some Failed) h r is = absurd h
  none_made (Some Refused) h r is = absurd h
  none_made (Some Locked) h r is = absurd h

  module _ (d : DocumentMut) (made : applied edits x ≡ Ok (tree_owned d)) (by_mode : mode_owned d ≡ mode_by reading)
      (same_end : open_owned d ≡ is_open) where
    printed : print_of d ≡ print_in (mode_by reading) is_open (tree_owned d)
    printed =
        ap (λ (m : Mode). print_in m (open_owned d) (tree_owned d)) by_mode
        ∙ ap (λ (b : Bool). print_in (mode_by reading) b (tree_owned d)) same_end

    -- the print of a document that fits is left
    pub left : (s : Text) → IsWritten reading before d s → IsLeft reading edits x is_open before s
    left s w = record {
      left = tree_owned d;
      applied = made;
      fits = subst (λ (m : Mode). FitsIn m (tree_owned d)) by_mode w.print.fits;
      back = subst (λ (b : Bool). ∥ MeansWhatIsShown (mode_by reading) b (tree_owned d) ∥₁) same_end
          (subst (λ (m : Mode). ∥ MeansWhatIsShown m (open_owned d) (tree_owned d) ∥₁) by_mode w.print.back);
      version = λ strict. subst (λ (t : Text). IsAccepted v1_0 t) printed (w.version strict);
      text = w.text ∙ ap (λ (t : Text). mark_of reading.normal before ++ t) printed;
    }

    same_tree : (s : Text) (l : IsLeft reading edits x is_open before s) → l.left ≡ tree_owned d
    unfolding tree_or
    same_tree s l = ap (tree_or (tree_owned d)) (sym l.applied ∙ made)

    pub misfit : ¬ (FitsIn (mode_owned d) (tree_owned d)) → None_left
    misfit not s l =
        not (subst (λ (m : Mode). FitsIn m (tree_owned d)) (sym by_mode) (subst (λ (y : Tree). FitsIn (mode_by reading) y) (same_tree s l) l.fits))

    pub too_new : IsTrue reading.strict → ¬ (IsAccepted v1_0 (print_of d)) → None_left
    too_new strict not s l =
        not (subst (λ (t : Text). IsAccepted v1_0 t) (sym printed)
        (subst (λ (y : Tree). IsAccepted v1_0 (print_in (mode_by reading) is_open y)) (same_tree s l) (l.version strict)))

    pub none_written : (why : Option Reason) → IsNotWritten reading d why
        → (r : Reason) → why ≡ Some r → (r ≢ Failed) × (r ≢ Refused) × (r ≢ Locked) × None_left
    none_written None h r is = absurd (let no : None ≡ Some r = is in cc)
    none_written (Some Mistaken) (inl h) r is = ((λ e. cc), (λ e. cc), (λ e. cc), misfit h)
    none_written (Some Mistaken) (inr h) r is = ((λ e. cc), (λ e. cc), (λ e. cc), too_new h.0 h.1)
    none_written (Some No) (inl h) r is = absurd h
    none_written (Some No) (inr h) r is = absurd h.1
    none_written (Some Failed) (inl h) r is = absurd h
    none_written (Some Failed) (inr h) r is = absurd h.1
    none_written (Some Refused) (inl h) r is = absurd h
    none_written (Some Refused) (inr h) r is = absurd h.1
    none_written (Some Locked) (inl h) r is = absurd h
    none_written (Some Locked) (inr h) r is = absurd h.1
