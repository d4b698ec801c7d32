-- The rows of an array, found event by event.
use Rattle.std.proofs.Common.{◌≡◌, refl, sym, ap, subst, ◌∙◌, ℕ, suc, ◌+◌, ◌-◌, Bool, true, false, ◌&&◌, ◌||◌, Option, Some, None}
use Rattle.std.proofs.Common.{List, [], ◌∷◌, ◌++◌, append_assoc, codes, length, IsTrue}
use Rattle.std.specs.Prelude.{not, if◌then◌else◌}
use Rattle.toml_edit_model.specs.OwnedForm.{cut_out}
use Rattle.toml_edit_model.specs.Syntax.{scalar, array, inline_table, Elements, no_elements, element}
use Rattle.toml_edit_model.specs.Syntax.{AreElements, comma_text, elements_text, value_text, has_elements}
use Rattle.toml_edit_model.specs.Text.{Text}
use Rattle.toml_edit_laws.specs.Standing.{Stands}
use Rattle.toml_edit_laws.proofs.common.StandingLaws.{cut_out-is}
use Rattle.toml_edit_laws.proofs.values.ValueOwned.{around-stands, element-stands, inner-stands}
use Rattle.toml_edit_syntax.specs.declared.event.EventKind.TheVariants.{ArrayOpen, ArrayClose, InlineTableOpen, InlineTableClose}
use Rattle.toml_edit_syntax.specs.declared.event.EventKind.TheVariants.{Before, After}
use Rattle.toml_edit_syntax.specs.declared.event.Event.{Event}
use Rattle.toml_edit_syntax.specs.LateEvents.{AreIn}
use Rattle.toml_edit_syntax.specs.ValueEvents.{event, elements_events, pairs_events, close_events}
use Rattle.toml_edit_fmt_laws.specs.Rules.{Rules, units}
use Rattle.toml_edit_fmt_laws.specs.Laying.{columns, is_broken}
use Rattle.toml_edit_fmt_laws.specs.Formatted.{after_first, are_short, has_break, has_joint, is_in_rows, is_over, rows_fit}
use Rattle.toml_edit_fmt.specs.ValueBits.{counted}
use Rattle.toml_edit_parser.specs.ValueRead.{is_before, is_scalar}
use Rattle.toml_edit_fmt.specs.MeasureView.{array_rest, has_comma, has_element, split_short}
use Rattle.toml_edit_fmt.proofs.MeasureLaws.{others-stand}

pub and-false : (p : Bool) → (p && false) ≡ false
and-false true = refl
and-false false = refl

pub and-true : (p : Bool) → (p && true) ≡ p
and-true true = refl
and-true false = refl

module _ (source : Text) (r : Rules) (indent : ℕ) where
  -- The columns before an element, by the text before it.
  abbrev pub row_start : Bool → ℕ → Text → ℕ
  row_start first used x = if first || is_broken x then indent else used + 1

  abbrev pub breaks : Bool → Bool → Text → Bool
  breaks brk first x = if first || is_broken x then brk || not first else brk

  abbrev pub joins : Bool → Bool → Text → Bool
  joins jnt first x = if first || is_broken x then jnt else true

  -- Whether there are rows, by an element that is split off.
  abbrev by_split : Bool → Bool → Bool → ℕ → Option (Text × Text × List Event) → (Bool → Bool → ℕ → Bool) → Bool → Bool
  by_split brk jnt first used None go end = end
  by_split brk jnt first used (Some (x, y, more)) go end =
      let here = row_start first used x + columns y + 1 in
      if is_over r.width here then false else go (breaks brk first x) (joins jnt first x) here

  -- Whether there are rows, where a break and a joint were found or none, and the last row has so much before.
  abbrev pub rows : Bool → Bool → Bool → ℕ → List Event → Bool
  rows brk jnt first used (b ∷ v ∷ a ∷ es) =
      by_split brk jnt first used (split_short source (b ∷ v ∷ a ∷ es)) (λ k j u. rows k j false u es)
      ((brk && jnt) && not (is_before b.kind))
  rows brk jnt first used (b ∷ v ∷ []) = (brk && jnt) && not (is_before b.kind)
  rows brk jnt first used (b ∷ []) = (brk && jnt) && not (is_before b.kind)
  rows brk jnt first used [] = (brk && jnt) && true

  pub rows-end : (brk jnt first : Bool) (used : ℕ) (es : List Event) → split_short source es ≡ None
      → rows brk jnt first used es ≡ ((brk && jnt) && not (has_element es))
  rows-end brk jnt first used [] none = refl
  rows-end brk jnt first used (b ∷ []) none = refl
  rows-end brk jnt first used (b ∷ v ∷ []) none = refl
  rows-end brk jnt first used (b ∷ v ∷ a ∷ es) none =
      ap (λ o. by_split brk jnt first used o (λ k j u. rows k j false u es) ((brk && jnt) && not (is_before b.kind))) none

  abbrev left : Option (Text × Text × List Event) → List Event → List Event
  left None es = es
  left (Some p) es = p.2

  -- three events are split off
  split-off : (es : List Event) (x y : Text) (more : List Event) → split_short source es ≡ Some (x, y, more)
      → (b : Event) × (v : Event) × (a : Event) × (es ≡ b ∷ v ∷ a ∷ more)
  split-off [] x y more e = absurd cc
  split-off (b ∷ []) x y more e = absurd cc
  split-off (b ∷ v ∷ []) x y more e = absurd cc
  split-off (b ∷ v ∷ a ∷ es) x y more e = (b, v, a, ap (λ xs. b ∷ v ∷ a ∷ xs) (by_test _ ∙ ap (λ o. left o es) e))
    where
      by_test : (p : Bool) → es ≡ left (if p then Some (cut_out source b.span.start b.span.end, cut_out source v.span.start v.span.end, es) else None) es
      by_test true = refl
      by_test false = refl

  pub left-in : (es : List Event) (x y : Text) (more : List Event) → split_short source es ≡ Some (x, y, more) → AreIn source es → AreIn source more
  left-in es x y more e h =
      let (b, v, a, is) = split-off es x y more e in
      (subst (AreIn source) is h).1.1.1

  pub rows-next : (brk jnt first : Bool) (used : ℕ) (es : List Event) (x y : Text) (more : List Event)
      → split_short source es ≡ Some (x, y, more)
      → rows brk jnt first used es
      ≡ (if is_over r.width (row_start first used x + columns y + 1) then false
      else rows (breaks brk first x) (joins jnt first x) false (row_start first used x + columns y + 1) more)
  rows-next brk jnt first used es x y more e =
      let (b, v, a, is) = split-off es x y more e in
      ap (rows brk jnt first used) is
      ∙ ap (λ o. by_split brk jnt first used o (λ k j u. rows k j false u more) ((brk && jnt) && not (is_before b.kind)))
      (ap (split_short source) (sym is) ∙ e)

  -- ---- the elements of an array

  -- of the elements that are left, but for the first of all
  abbrev later_break : Bool → Elements → Bool
  later_break first no_elements = false
  later_break first (element a v es) = if first then has_break es else (is_broken a.before || has_break es)

  abbrev later_joint : Bool → Elements → Bool
  later_joint first no_elements = false
  later_joint first (element a v es) = if first then has_joint es else (not (is_broken a.before) || has_joint es)

  abbrev pub rows_of : Bool → Bool → Bool → ℕ → Bool → Elements → Bool
  rows_of brk jnt first used comma es =
      are_short comma es && (((brk || later_break first es) && (jnt || later_joint first es)) && rows_fit r indent used first es)

  after-first : (brk jnt : Bool) (used : ℕ) (comma : Bool) (es : Elements) → rows_of brk jnt false used comma es
      ≡ (are_short comma es && (((brk || has_break es) && (jnt || has_joint es)) && rows_fit r indent used false es))
  after-first brk jnt used comma no_elements = refl
  after-first brk jnt used comma (element a v es) = refl

  or-false : (p : Bool) → (p || false) ≡ p
  or-false true = refl
  or-false false = refl

  or-true : (p : Bool) → (p || true) ≡ true
  or-true true = refl
  or-true false = refl

  -- nothing is split off where no scalar is
  no-scalar : (brk jnt first : Bool) (used : ℕ) (b v : Event) (es : List Event) → is_before b.kind ≡ true → is_scalar v.kind ≡ false
      → rows brk jnt first used (b ∷ v ∷ es) ≡ false
  no-scalar brk jnt first used b v [] before other = ap (λ p. (brk && jnt) && not p) before ∙ and-false (brk && jnt)
  no-scalar brk jnt first used b v (a ∷ es) before other =
      rows-end brk jnt first used (b ∷ v ∷ a ∷ es) none ∙ ap (λ p. (brk && jnt) && not p) before ∙ and-false (brk && jnt)
    where
      none : split_short source (b ∷ v ∷ a ∷ es) ≡ None
      none = rw (before, other) refl

  has_comma-is : (start at : ℕ) (es : Elements) (comma : Bool) (t : Text) (more : List Event)
      → has_comma (elements_events start es ++ (close_events ArrayClose (codes "]") at comma t ++ more)) ≡ (comma || has_elements es)
  has_comma-is start at no_elements true t more = refl
  has_comma-is start at no_elements false t more = refl
  has_comma-is start at (element a v es) true t more = refl
  has_comma-is start at (element a v es) false t more = refl

  rows-closed : (brk jnt first : Bool) (used at : ℕ) (comma : Bool) (t : Text) (more : List Event)
      → rows brk jnt first used (close_events ArrayClose (codes "]") at comma t ++ more) ≡ (brk && jnt)
  rows-closed brk jnt first used at true t more = and-true (brk && jnt)
  rows-closed brk jnt first used at false t more = by_more more
    where
      by_more : (es : List Event) → rows brk jnt first used (close_events ArrayClose (codes "]") at false t ++ es) ≡ (brk && jnt)
      by_more [] = and-true (brk && jnt)
      by_more (e ∷ es) = and-true (brk && jnt)

  abbrev picked : Bool → Text → Text → List Event → Option (Text × Text × List Event)
  picked short x y es = if short then Some (x, y, es) else None

  -- An element, by whether it is broken and by whether a newline is before its comma.
  one-more : (brk jnt first p q : Bool) (used : ℕ) (x y : Text) (tail : List Event) (many fit k j : Bool)
      → rows (breaks brk first x) (joins jnt first x) false (row_start first used x + columns y + 1) tail
      ≡ (many && (((breaks brk first x || k) && (joins jnt first x || j)) && fit))
      → by_split brk jnt first used (picked (not (p || q)) x y tail) (λ k j u. rows k j false u tail) ((brk && jnt) && false)
      ≡ ((not p && (not q && many))
      && (((brk || (if first then k else (is_broken x || k))) && (jnt || (if first then j else (not (is_broken x) || j))))
      && (not (is_over r.width (row_start first used x + columns y + 1)) && fit)))
  one-more brk jnt first true q used x y tail many fit k j e = and-false (brk && jnt)
  one-more brk jnt first false true used x y tail many fit k j e = and-false (brk && jnt)
  one-more brk jnt first false false used x y tail many fit k j e =
      by_over _ (is_over r.width (row_start first used x + columns y + 1)) (e ∙ ap (λ p. many && (p && fit)) (by_flags first (is_broken x)))
    where
      by_flags : (p q : Bool)
          → (((if p || q then brk || not p else brk) || k) && ((if p || q then jnt else true) || j))
          ≡ ((brk || (if p then k else (q || k))) && (jnt || (if p then j else (not q || j))))
      by_flags true q = ap (λ p. (p || k) && (jnt || j)) (or-false brk)
      by_flags false true = ap (λ p. (p || k) && (jnt || j)) (or-true brk) ∙ ap (λ p. p && (jnt || j)) (sym (or-true brk))
      by_flags false false = ap (λ p. (brk || k) && p) (sym (or-true jnt))

      by_over : (both over : Bool)
          → rows (breaks brk first x) (joins jnt first x) false (row_start first used x + columns y + 1) tail ≡ (many && (both && fit))
          → (if over then false else rows (breaks brk first x) (joins jnt first x) false (row_start first used x + columns y + 1) tail)
          ≡ (many && (both && (not over && fit)))
      by_over both true e = sym (ap (λ p. many && p) (and-false both) ∙ and-false many)
      by_over both false e = e

  pub rows-is : (es : Elements) (brk jnt first : Bool) (used start at : ℕ) (comma : Bool) (t : Text) (more : List Event)
      → (has_elements es ≡ true → Stands source start (elements_text es))
      → rows brk jnt first used (elements_events start es ++ (close_events ArrayClose (codes "]") at comma t ++ more))
      ≡ rows_of brk jnt first used comma es
  rows-is no_elements brk jnt first used start at comma t more h =
      rows-closed brk jnt first used at comma t more ∙ by_flags brk jnt
    where
      by_flags : (p q : Bool) → (p && q) ≡ (((p || false) && (q || false)) && true)
      by_flags true true = refl
      by_flags true false = refl
      by_flags false q = refl
  rows-is (element a (array xs c s) es) brk jnt first used start at comma t more h =
      let value = start + length a.before in
      let behind = value + length (value_text (array xs c s)) in
      no-scalar brk jnt first used (event Before start a.before) (event ArrayOpen value (codes "["))
      ((elements_events (value + 1) xs ++ close_events ArrayClose (codes "]") (behind - 1) c s
      ++ (event After behind a.after ∷ elements_events (behind + length a.after + 1) es))
      ++ (close_events ArrayClose (codes "]") at comma t ++ more)) refl refl
  rows-is (element a (inline_table ps c s) es) brk jnt first used start at comma t more h =
      let value = start + length a.before in
      let behind = value + length (value_text (inline_table ps c s)) in
      no-scalar brk jnt first used (event Before start a.before) (event InlineTableOpen value (codes "{"))
      ((pairs_events (value + 1) ps ++ close_events InlineTableClose (codes "}") (behind - 1) c s
      ++ (event After behind a.after ∷ elements_events (behind + length a.after + 1) es))
      ++ (close_events ArrayClose (codes "]") at comma t ++ more)) refl refl
  rows-is (element a (scalar s x) es) brk jnt first used start at comma t more h =
      let value = start + length a.before in
      let behind = value + length x in
      let next = behind + length a.after + 1 in
      let tail = elements_events next es ++ (close_events ArrayClose (codes "]") at comma t ++ more) in
      let around = around-stands source start a.before x a.after (element-stands source start a (scalar s x) es (h refl)) in
      let here = row_start first used a.before + columns x + 1 in
      let end = (brk && jnt) && false in
      let some = comma || has_elements es in
      ap (λ o. by_split brk jnt first used o (λ p q u. rows p q false u tail) end)
      (split-is tail (has_comma tail) (cut_out-is source start a.before around.before_at) (cut_out-is source value x around.value_at)
      (cut_out-is source behind a.after around.after_at)
      ∙ ap (λ p. picked (not (is_broken x || (p && is_broken a.after))) a.before x tail) (has_comma-is next at es comma t more))
      ∙ one-more brk jnt first (is_broken x) (some && is_broken a.after) used a.before x tail (are_short comma es)
      (rows_fit r indent here false es) (has_break es) (has_joint es)
      (rows-is es (breaks brk first a.before) (joins jnt first a.before) false here next at comma t more (others-stand source start a (scalar s x) es (h refl))
      ∙ after-first (breaks brk first a.before) (joins jnt first a.before) here comma es)
    where
      split-is : {b b' y y' z z' : Text} (tail : List Event) (p : Bool) → b ≡ b' → y ≡ y' → z ≡ z'
          → picked (not (is_broken y || (p && is_broken z))) b y tail
          ≡ picked (not (is_broken y' || (p && is_broken z'))) b' y' tail
      split-is tail p eb ey ez = cc

-- What is found by the events that are left is whether the array is in rows.
module _ (source : Text) (r : Rules) (events rest : List Event) (indent : Option ℕ) (brk jnt first : Bool) (used : Option ℕ)
    (left : (d : ℕ) → indent ≡ counted d
    → (u : ℕ) × (used ≡ counted u) × (rows source r d brk jnt first u rest ≡ rows source r d false false true d events)) where
  pub in-rows : (found : Bool) → ((d u : ℕ) → indent ≡ counted d → used ≡ counted u → rows source r d brk jnt first u rest ≡ found)
      → (es : Elements) (comma : Bool) (t : Text) (start depth : ℕ) (more : List Event) → AreElements es
      → Stands source start (value_text (array es comma t)) → events ≡ array_rest start es comma t ++ more
      → indent ≡ counted (length (units r (suc depth))) → IsTrue r.rows → found ≡ is_in_rows r depth comma es
  in-rows found is_found es comma t start depth more are h is place asked =
      let d = length (units r (suc depth)) in
      let at = start + length (value_text (array es comma t)) - 1 in
      let inner = inner-stands source start (codes "[") (elements_text es) (comma_text comma) t (codes "]") refl refl h in
      let (u, so_wide, same) = left d place in
      sym (is_found d u place so_wide) ∙ same ∙ ap (rows source r d false false true d) (is
      ∙ append_assoc (elements_events (start + 1) es) (close_events ArrayClose (codes "]") at comma t) more)
      ∙ rows-is source r d es false false true d (start + 1) at comma t more (λ some. inner.body_at)
      ∙ from_first d es
      ∙ ap (λ p. (p && are_short comma es) && ((has_break (after_first es) && has_joint (after_first es)) && rows_fit r d 0 true es)) (sym asked)
    where
      from_first : (d : ℕ) (es : Elements) → rows_of source r d false false true d comma es
          ≡ (are_short comma es && ((has_break (after_first es) && has_joint (after_first es)) && rows_fit r d 0 true es))
      from_first d no_elements = refl
      from_first d (element a v es) = refl
