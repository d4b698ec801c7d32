-- Files that are formatted.
use Rattle.std.proofs.Common.{◌≡◌, ◌≢◌, ℕ, ◌+◌, ◌<◌, Bool, true, false, List, [], ◌∷◌, ◌++◌, length, drop, get_or, refl, sym, ap, ◌∙◌, subst, inl, inr}
use Rattle.std.specs.Prelude.{◌⊎◌, IfOk, IsTrue, MatchBool, Option, Some, None, Result, Ok, Err}
use Rattle.std.proofs.lemmas.List.{drop_more}
use Rattle.toml_edit.specs.DocumentView.{mode_owned, open_owned, tree_owned}
use Rattle.toml_edit.specs.declared.document.DocumentMut.{DocumentMut}
use Rattle.toml_edit_fmt.specs.TextView as fmt
use Rattle.toml_edit_model.specs.Print.{print_in}
use Rattle.toml_edit_model.specs.Tree.{Tree}
use Rattle.toml_edit_model.specs.Version.{v1_0}
use Rattle.file_replace.specs.Events.{Text, Event}
use Rattle.toml_edit_edits.specs.Lists.{effect}
use Rattle.toml_edit_edits.specs.Outcomes.{and_then}
use Rattle.toml_edit_edits.specs.declared.edit.Edit.{Edit}
use Rattle.toml_edit_edits.specs.declared.fault.EditFault.{EditFault}
use Rattle.toml_edit_edits.specs.declared.fault.EditFault.TheVariants.{Memory, NoSuchPath, WrongKind, NoSuchElement, Taken, BadComment}
use Rattle.toml_edit_files.proofs.EditLaws.{left, none_written}
use Rattle.toml_edit_files.proofs.StopLaws.{unread_here}
use Rattle.toml_edit_files.specs.Edited.{IsAccepted, IsLeft, IsNotRead, IsNotWritten, IsRead, IsWritten, mark_of, mode_by, version_by}
use Rattle.toml_edit_files.specs.FormatFiles.{IsFormatted, IsLaidOut, IsNotFormatted, IsNotLaid, IsNotSorted, IsUnformatted, is_laid_as_it_is, passing_over, rules_by, sorted_by}
use Rattle.toml_edit_files.specs.Folders.{IsReadOf}
use Rattle.toml_edit_files.specs.Stops.{reason_for, reason_of}
use Rattle.toml_edit_files.specs.declared.stop.Reason.{Reason}
use Rattle.toml_edit_files.specs.declared.stop.Reason.TheVariants.{No, Mistaken, Failed, Refused, Locked}
use Rattle.toml_edit_files.specs.declared.stop.Stop.{Stop}
use Rattle.toml_edit_files.specs.declared.words.Reading.{Reading}
use Rattle.toml_edit_files.specs.declared.words.Style.{Style}

pub both_ok : {X E : Type 0} (r : Result X E) (P Q R : X → Type 0) → ((x : X) → P x → Q x → R x) → IfOk r P → IfOk r Q → IfOk r R
both_ok (Ok x) P Q R f p q = f x p q
both_ok (Err e) P Q R f p q = tt

-- ---- sorts

pub passes_done : (x y : Tree) (r : Result Tree EditFault) → r ≡ Ok y → passing_over x r ≡ Ok y
passes_done x y r is = ap (passing_over x) is

pub passes_over : (x y : Tree) (r : Result Tree EditFault) (f : EditFault) → f ≡ NoSuchPath → (f ≡ Memory) ⊎ (r ≡ Err f) → y ≡ x
    → passing_over x r ≡ Ok y
passes_over x y r f is (inl memory) same = absurd (let never : NoSuchPath ≡ Memory = sym is ∙ memory in cc)
passes_over x y r f is (inr made) same =
    let err : EditFault → Result Tree EditFault = λ e. Err e in
    ap (passing_over x) (made ∙ ap err is) ∙ ap (λ (z : Tree). Ok z) (sym same)

pub sort_turn : (es : List Edit) (i : ℕ) (e : Edit) (x y : Tree) (all : Result Tree EditFault) → i < length es → e ≡ get_or es i e
    → sorted_by (drop i es) x ≡ all → passing_over x (effect e x) ≡ Ok y → sorted_by (drop (i + 1) es) y ≡ all
sort_turn es i e x y all below is so makes =
    let rest = drop (i + 1) es in
    let here : drop i es ≡ e ∷ rest = drop_more es i e below ∙ ap (λ (d : Edit). d ∷ rest) (sym is) in
    sym (ap (λ (ds : List Edit). sorted_by ds x) here ∙ ap (and_then (sorted_by rest)) makes) ∙ so

abbrev tree_of : Tree → Result Tree EditFault → Tree
tree_of t (Ok x) = x
tree_of t (Err f) = t

-- a sort that is refused leaves nothing
none_made : (f : EditFault) (y : Tree) (r : Result Tree EditFault) → r ≡ Err f → r ≡ Ok y → ⊥
none_made f y r is made = cc

pub not_sorted : (x : Tree) (r : Result Tree EditFault) (f : EditFault) → f ≢ NoSuchPath → (f ≡ Memory) ⊎ (r ≡ Err f)
    → IsNotSorted (passing_over x r) (reason_for f)
not_sorted x r Memory other why = tt
not_sorted x r NoSuchPath other why = absurd (other refl)
not_sorted x r WrongKind other (inl is) = absurd (let no : WrongKind ≡ Memory = is in cc)
not_sorted x r WrongKind other (inr is) = λ y made. none_made WrongKind y (passing_over x r) (ap (passing_over x) is) made
not_sorted x r NoSuchElement other (inl is) = absurd (let no : NoSuchElement ≡ Memory = is in cc)
not_sorted x r NoSuchElement other (inr is) = λ y made. none_made NoSuchElement y (passing_over x r) (ap (passing_over x) is) made
not_sorted x r Taken other (inl is) = absurd (let no : Taken ≡ Memory = is in cc)
not_sorted x r Taken other (inr is) = λ y made. none_made Taken y (passing_over x r) (ap (passing_over x) is) made
not_sorted x r BadComment other (inl is) = absurd (let no : BadComment ≡ Memory = is in cc)
not_sorted x r BadComment other (inr is) = λ y made. none_made BadComment y (passing_over x r) (ap (passing_over x) is) made

-- nor do sorts of which the next is refused
then_none : (es : List Edit) (r : Result Tree EditFault) → ((y : Tree) → r ≢ Ok y) → (y : Tree) → and_then (sorted_by es) r ≢ Ok y
then_none es (Ok x) none y made = none x refl
then_none es (Err f) none y made = none_made f y (Err f) refl made

pub sort_wrong : (es : List Edit) (i : ℕ) (e : Edit) (x : Tree) (all : Result Tree EditFault) → i < length es → e ≡ get_or es i e
    → sorted_by (drop i es) x ≡ all → (why : Option Reason) → IsNotSorted (passing_over x (effect e x)) why → IsNotSorted all why
sort_wrong es i e x all below is so why none =
    let rest = drop (i + 1) es in
    let here : drop i es ≡ e ∷ rest = drop_more es i e below ∙ ap (λ (d : Edit). d ∷ rest) (sym is) in
    let at : and_then (sorted_by rest) (passing_over x (effect e x)) ≡ all = sym (ap (λ (ds : List Edit). sorted_by ds x) here) ∙ so in
    by why none at
  where
    by : (why : Option Reason) → IsNotSorted (passing_over x (effect e x)) why
        → and_then (sorted_by (drop (i + 1) es)) (passing_over x (effect e x)) ≡ all → IsNotSorted all why
    by None h at = tt
    by (Some No) h at = λ y made. then_none (drop (i + 1) es) (passing_over x (effect e x)) h y (at ∙ made)
    by (Some Mistaken) h at = λ y made. then_none (drop (i + 1) es) (passing_over x (effect e x)) h y (at ∙ made)
    by (Some Failed) h at = h
    by (Some Refused) h at = h
    by (Some Locked) h at = h

same_sorted : (x y : Tree) (r : Result Tree EditFault) → r ≡ Ok x → r ≡ Ok y → x ≡ y
same_sorted x y r is at = ap (tree_of x) (sym is ∙ at)

-- no edits leave one text
same_left : (reading : Reading) (x : Tree) (is_open : Bool) (before s t : Text) → IsLeft reading [] x is_open before s
    → IsLeft reading [] x is_open before t → s ≡ t
same_left reading x is_open before s t l m =
    let same = same_sorted l.left m.left (Ok x) l.applied m.applied in
    l.text ∙ ap (λ (y : Tree). mark_of reading.normal before ++ print_in (mode_by reading) is_open y) same ∙ sym m.text

-- so no text is formatted
not_formatted : (reading : Reading) (style : Style) (before : Text) (x : Tree) (is_open : Bool) (why : Option Reason) → IsRead reading before x is_open
    → ((r : Reason) → why ≡ Some r → (r ≢ Failed) × (r ≢ Refused) × (r ≢ Locked) × ((s : Text) → IsLaidOut reading style x is_open before s → ⊥))
    → IsNotFormatted reading style before why
not_formatted reading style before x is_open None read none = tt
not_formatted reading style before x is_open (Some No) read none = (x, is_open, read, (none No refl).3)
not_formatted reading style before x is_open (Some Mistaken) read none = (x, is_open, read, (none Mistaken refl).3)
not_formatted reading style before x is_open (Some Failed) read none = (none Failed refl).0 refl
not_formatted reading style before x is_open (Some Refused) read none = absurd ((none Refused refl).1 refl)
not_formatted reading style before x is_open (Some Locked) read none = absurd ((none Locked refl).2 refl)

none_sorted : (reading : Reading) (style : Style) (before : Text) (x : Tree) (is_open : Bool) → is_laid_as_it_is reading style ≡ false
    → (s : Text) → IsLaidOut reading style x is_open before s → ((y : Tree) → sorted_by style.sorts.items x ≢ Ok y) → ⊥
none_sorted reading style before x is_open way s f none =
    let made = subst (λ (b : Bool). MatchBool b (f.text ≡ before)
    ((y : Tree) × (sorted_by style.sorts.items x ≡ Ok y) × IsLeft reading [] y is_open before f.text)) way f.sorted in
    none made.0 made.1

pub unsorted_none : (reading : Reading) (style : Style) (before : Text) (x : Tree) (is_open : Bool) (why : Option Reason) → IsRead reading before x is_open
    → is_laid_as_it_is reading style ≡ false → IsNotSorted (sorted_by style.sorts.items x) why → IsNotFormatted reading style before why
unsorted_none reading style before x is_open None read way none = tt
unsorted_none reading style before x is_open (Some No) read way none = (x, is_open, read, λ s f. none_sorted reading style before x is_open way s f none)
unsorted_none reading style before x is_open (Some Mistaken) read way none =
    (x, is_open, read, λ s f. none_sorted reading style before x is_open way s f none)
unsorted_none reading style before x is_open (Some Failed) read way none = none
unsorted_none reading style before x is_open (Some Refused) read way none = absurd none
unsorted_none reading style before x is_open (Some Locked) read way none = absurd none

-- ---- the text

module _ (reading : Reading) (style : Style) (before : Text) (x : Tree) (is_open : Bool) (read : IsRead reading before x is_open) where
  abbrev IsSorted : Text → Type 0
  IsSorted t = (y : Tree) × (sorted_by style.sorts.items x ≡ Ok y) × IsLeft reading [] y is_open before t

  abbrev Stands : Text → Bool → Type 0
  Stands t way = MatchBool way (t ≡ before) (IsSorted t)

  -- no text is, where the one that is to be laid out is not
  unlaid : (t : Text) → ((s : Text) (f : IsLaidOut reading style x is_open before s) → f.text ≡ t) → (why : Option Reason)
      → IsNotLaid reading (rules_by reading style before) t why → IsNotFormatted reading style before why
  unlaid t only None h = tt
  unlaid t only (Some Mistaken) h = (
    x,
    is_open,
    read,
    λ s f. h.1 s (subst (λ (u : Text). fmt.IsFormatted (rules_by reading style before) u s) (only s f) f.laid) (f.version h.0),
  )
  unlaid t only (Some No) h = absurd h
  unlaid t only (Some Failed) h = h
  unlaid t only (Some Refused) h = h
  unlaid t only (Some Locked) h = h

  module _ (way : is_laid_as_it_is reading style ≡ true) where
    pub formats_it : (s : Text) → fmt.IsFormatted (rules_by reading style before) before s → (IsTrue reading.strict → IsAccepted v1_0 s)
        → IsFormatted reading style before s
    formats_it s laid version =
        (x, is_open, read, record { text = before; sorted = subst (Stands before) (sym way) refl; laid = laid; version = version })

    pub formats_it-none : (why : Option Reason) → IsNotLaid reading (rules_by reading style before) before why
        → IsNotFormatted reading style before why
    formats_it-none why = unlaid before (λ s f. subst (Stands f.text) way f.sorted) why

  module _ (d : DocumentMut) (way : is_laid_as_it_is reading style ≡ false) (sorted : sorted_by style.sorts.items x ≡ Ok (tree_owned d))
      (by_mode : mode_owned d ≡ mode_by reading) (same_end : open_owned d ≡ is_open) where
    left_by : (t : Text) → IsWritten reading before d t → IsLeft reading [] (tree_owned d) is_open before t
    left_by t w = left reading [] (tree_owned d) is_open before d refl by_mode same_end t w

    -- what is laid out is left of the tree that is sorted
    sorted_left : (s : Text) (f : IsLaidOut reading style x is_open before s) → IsLeft reading [] (tree_owned d) is_open before f.text
    sorted_left s f =
        let made = subst (Stands f.text) way f.sorted in
        subst (λ (t : Tree). IsLeft reading [] t is_open before f.text)
        (same_sorted made.0 (tree_owned d) (sorted_by style.sorts.items x) made.1 sorted) made.2

    pub formats : (t s : Text) → IsWritten reading before d t → fmt.IsFormatted (rules_by reading style before) t s
        → (IsTrue reading.strict → IsAccepted v1_0 s) → IsFormatted reading style before s
    formats t s w laid version = (
      x,
      is_open,
      read,
      record {
        text = t;
        sorted = subst (Stands t) (sym way) (tree_owned d, sorted, left_by t w);
        laid = laid;
        version = version;
      },
    )

    -- where nothing is written, no text is formatted
    pub formats-none : (why : Option Reason) → IsNotWritten reading d why → IsNotFormatted reading style before why
    formats-none why none =
        not_formatted reading style before x is_open why read
        (λ r is. let h = none_written reading [] (tree_owned d) is_open before d refl by_mode same_end why none r is in
        (h.0, h.1, h.2, λ s f. h.3 f.text (sorted_left s f)))

    pub formats-unlaid : (t : Text) → IsWritten reading before d t → (why : Option Reason)
        → IsNotLaid reading (rules_by reading style before) t why → IsNotFormatted reading style before why
    formats-unlaid t w why = unlaid t (λ s f. same_left reading (tree_owned d) is_open before f.text t (sorted_left s f) (left_by t w)) why

-- ---- files that are not formatted

pub none-formatted : (reading : Reading) (style : Style) (file : Text) (old new : Option (List Event)) (left : Option Text) (stop : Stop) (t : Text)
    → IsReadOf file old new left t
    → IsNotRead (version_by reading) file t stop ⊎ IsNotFormatted reading style t (reason_of stop)
    → IsUnformatted reading style file old new left stop
none-formatted reading style file old new left stop t read (inl h) = inl (unread_here (version_by reading) file old new left stop t read h)
none-formatted reading style file old new left stop t read (inr h) = inr (t, read, h)
