-- What is written of the events of a key, and where they end.
use Rattle.std.proofs.Common.{◌≡◌, refl, sym, ap, subst, ◌∙◌, ℕ, suc, ◌+◌, ◌-◌, ◌<◌, ◌≤◌, Bool, true, false, ◌&&◌, cond, arith, Option, Some, None, unwrap_or}
use Rattle.std.proofs.Common.{List, [], ◌∷◌, ◌++◌, append-nil, append_assoc, codes, length, take, drop, get_or}
use Rattle.std.specs.Borrow.{Bor}
use Rattle.std.specs.Prelude.{if◌then◌else◌}
use Rattle.std.specs.List.{AllByRecursion, list_all, prefix_len}
use Rattle.std.specs.Str.{IsCharBoundary}
use Rattle.std.specs.Str.Pattern.{GetsRange}
use Rattle.std.proofs.lemmas.Bool.{false≢true}
use Rattle.std.proofs.lemmas.List.{length-append, take_rest}
use Rattle.toml_edit_model.specs.OwnedForm.{cut_out}
use Rattle.toml_edit_model.specs.Spelling.{SpellsKey}
use Rattle.toml_edit_model.specs.Syntax.{Segment, Frame, IsPath, IsSpelledSegment, ends_unspaced, path_text, segment_text}
use Rattle.toml_edit_model.specs.Text.{Text, is_empty}
use Rattle.toml_edit_laws.specs.Standing.{Stands}
use Rattle.toml_edit_laws.specs.reading.Runs.{split_while}
use Rattle.toml_edit_laws.proofs.common.StandingLaws.{stands-left, stands-right, cut_out-is}
use Rattle.toml_edit_laws.proofs.one_cut.Parts.{empty_nil}
use Rattle.toml_edit_laws.proofs.values.ValueOwned.{segment-stands}
use Rattle.toml_edit_syntax.specs.declared.event.EventKind.{EventKind}
use Rattle.toml_edit_syntax.specs.declared.event.EventKind.TheVariants.{Leading, Key, BeforeDot, AfterDot}
use Rattle.toml_edit_syntax.specs.declared.event.Event.{Event}
use Rattle.toml_edit_syntax.specs.Events.{IsSpanOf}
use Rattle.toml_edit_syntax.specs.LateEvents.{AreIn}
use Rattle.toml_edit_syntax.specs.ValueEvents.{event, path_events}
use Rattle.toml_edit_fmt_laws.specs.Rules.{Rules}
use Rattle.toml_edit_fmt_laws.specs.Formatted.{laid_path, laid_spelling}
use Rattle.toml_edit_fmt.specs.PathView.{BeginsAt, NoKeyNext}

-- ---- names

-- All pass if nothing is left after those that do.
pub left-empty : (p : ℕ → Bool) (t : Text) → is_empty (split_while p t).1 ≡ list_all p t
left-empty p [] = refl
left-empty p (c ∷ t) = by_byte (p c) (left-empty p t)
  where
    by_byte : (b : Bool) → is_empty (split_while p t).1 ≡ list_all p t
        → is_empty (drop (cond b (1 + prefix_len p t) 0) (c ∷ t)) ≡ (b && list_all p t)
    by_byte true all = ap (λ n. is_empty (drop n (c ∷ t))) (let e : 1 + prefix_len p t ≡ suc (prefix_len p t) = omega arith in e) ∙ all
    by_byte false all = refl

-- ---- the first event

-- what is read where none is
abbrev pub no_event : Event
no_event = record { kind = Leading; span = record { start = 0; end = 0 } }

pub in-more : (t : Text) (es : List Event) → AreIn t es → AreIn t (take (length es - 1) (drop 1 es))
in-more t [] h = tt
in-more t (e ∷ es) h = subst (AreIn t) (sym (take_rest (e ∷ es) 1)) h.1

-- ---- keys

joined : (t b l a d x : Text) → (((t ++ b) ++ l) ++ (a ++ d)) ++ x ≡ t ++ ((b ++ (l ++ a)) ++ (d ++ x))
joined t b l a d x = simp append_assoc

first-before : (source : Text) (at : ℕ) (s : Segment) (p : List Segment) → Stands source at (path_text (s ∷ p)) → Stands source at s.before
first-before source at s [] h = stands-left source at s.before (s.spelled ++ s.after) h
first-before source at s (q ∷ p) h =
    stands-left source at s.before (s.spelled ++ s.after) (stands-left source at (segment_text s) (codes "." ++ path_text (q ∷ p)) h)

module _ (source : Text) (r : Rules) (more : List Event) (all : Text) where
  -- By the kind of an event with this text: what holds after what is written of it, or at the end.
  abbrev pub ByKind : EventKind → Text → (Text → Type 0) → Type 0 → Type 0
  ByKind Key t Then Done =
      (laid : Text) → ((s : Segment) → SpellsKey s.key s.spelled → t ≡ s.spelled → laid ≡ laid_spelling r s) → Then laid
  ByKind BeforeDot t Then Done = Then ((if r.dots then [] else t) ++ codes ".")
  ByKind AfterDot t Then Done = Then (if r.dots then [] else t)
  ByKind _ t Then Done = Done

  -- After this text the events of a key write all of the text, and these are left.
  abbrev pub Writes : List Event → Text → Type 0
  Writes [] t = (t ≡ all) × ([] ≡ more)
  Writes (e ∷ es) t =
      ByKind e.kind (cut_out source e.span.start e.span.end) (λ u. Writes es (t ++ u)) ((t ≡ all) × (e ∷ es ≡ more))

  pub key-next : (es : List Event) (t u v : Text) → 1 ≤ length es → (get_or es 0 no_event).kind ≡ Key
      → ((s : Segment) → SpellsKey s.key s.spelled
      → cut_out source (get_or es 0 no_event).span.start (get_or es 0 no_event).span.end ≡ s.spelled → u ≡ laid_spelling r s)
      → v ≡ t ++ u → Writes es t → Writes (take (length es - 1) (drop 1 es)) v
  key-next [] t u v some is laid gains h = absurd (omega arith)
  key-next (e ∷ es) t u v some is laid gains h =
      let here = cut_out source e.span.start e.span.end in
      let keyed = subst (λ k. ByKind k here (λ x. Writes es (t ++ x)) ((t ≡ all) × (e ∷ es ≡ more))) is h in
      subst (λ xs. Writes xs v) (sym (take_rest (e ∷ es) 1)) (subst (Writes es) (sym gains) (keyed u laid))

  pub none-next : (es : List Event) (t : Text) → length es < 1 → Writes es t → (t ≡ all) × (es ≡ more)
  none-next [] t none h = h
  none-next (e ∷ es) t none h = absurd (omega arith)

  pub other-next : (es : List Event) (t : Text) → 1 ≤ length es → ((get_or es 0 no_event).kind ≡ Key → ⊥)
      → ((get_or es 0 no_event).kind ≡ BeforeDot → ⊥) → ((get_or es 0 no_event).kind ≡ AfterDot → ⊥) → Writes es t
      → (t ≡ all) × (es ≡ more)
  other-next [] t some key before behind h = absurd (omega arith)
  other-next (e ∷ es) t some key before behind h = by_kind e.kind key before behind h
    where
      by_kind : (k : EventKind) → (k ≡ Key → ⊥) → (k ≡ BeforeDot → ⊥) → (k ≡ AfterDot → ⊥)
          → ByKind k (cut_out source e.span.start e.span.end) (λ x. Writes es (t ++ x)) ((t ≡ all) × (e ∷ es ≡ more))
          → (t ≡ all) × (e ∷ es ≡ more)
      by_kind Key key before behind h = absurd (key refl)
      by_kind BeforeDot key before behind h = absurd (before refl)
      by_kind AfterDot key before behind h = absurd (behind refl)
      by_kind _ key before behind h = h

  done : (es : List Event) (t : Text) → NoKeyNext es → es ≡ more → t ≡ all → Writes es t
  done [] t none left is = (is, left)
  done (e ∷ es) t none left is = by_kind e.kind none
    where
      by_kind : (k : EventKind) → NoKeyNext (record { kind = k; span = e.span } ∷ es)
          → ByKind k (cut_out source e.span.start e.span.end) (λ x. Writes es (t ++ x)) ((t ≡ all) × (e ∷ es ≡ more))
      by_kind Key none = absurd none
      by_kind BeforeDot none = absurd none
      by_kind AfterDot none = absurd none
      by_kind _ none = (is, left)

  -- white space at the dots
  abbrev white : Text → Text
  white t = if r.dots then [] else t

  white-nil : (t : Text) → is_empty t ≡ true → white t ≡ []
  white-nil t empty = by_rule r.dots
    where
      by_rule : (b : Bool) → (if b then [] else t) ≡ []
      by_rule true = refl
      by_rule false = empty_nil t empty

  -- a segment, of which the white space before it is written
  segments-write : (s : Segment) (p : List Segment) (start : ℕ) (t : Text) → NoKeyNext more → ends_unspaced (s ∷ p) ≡ true
      → AllByRecursion IsSpelledSegment (s ∷ p) → Stands source start (path_text (s ∷ p))
      → t ++ path_text (laid_path r (s ∷ p)) ≡ all → Writes (path_events start (s ∷ p) ++ more) (t ++ white s.before)
  segments-write s [] start t none ends spelled h is =
      λ laid said.
      done more ((t ++ white s.before) ++ laid) none refl
      (ap (λ u. (t ++ white s.before) ++ u) (said s spelled.0 (cut_out-is source _ s.spelled (segment-stands source start s h).spelled))
      ∙ append_assoc t (white s.before) (laid_spelling r s)
      ∙ ap (λ u. t ++ (white s.before ++ u)) (sym (append-nil (laid_spelling r s)) ∙ ap (λ u. laid_spelling r s ++ u) (sym (white-nil s.after ends)))
      ∙ is)
  segments-write s (q ∷ p) start t none ends spelled h is =
      let dot = start + length (segment_text s) in
      let others = path_text (q ∷ p) in
      let next = stands-right source dot (codes ".") others (stands-right source start (segment_text s) (codes "." ++ others) h) in
      let at = segment-stands source start s (stands-left source start (segment_text s) (codes "." ++ others) h) in
      λ laid said.
      subst (λ u. Writes (event AfterDot (dot + 1) q.before ∷ (path_events (dot + 1) (q ∷ p) ++ more)) (((t ++ white s.before) ++ laid) ++ (white u ++ codes ".")))
      (sym (cut_out-is source _ s.after at.after))
      (subst (λ u. Writes (path_events (dot + 1) (q ∷ p) ++ more) ((((t ++ white s.before) ++ laid) ++ (white s.after ++ codes ".")) ++ white u))
      (sym (cut_out-is source (dot + 1) q.before (first-before source (dot + 1) q p next)))
      (segments-write q p (dot + 1) (((t ++ white s.before) ++ laid) ++ (white s.after ++ codes ".")) none ends spelled.1 next
      (ap (λ u. (((t ++ white s.before) ++ u) ++ (white s.after ++ codes ".")) ++ path_text (laid_path r (q ∷ p)))
      (said s spelled.0 (cut_out-is source _ s.spelled at.spelled))
      ∙ joined t (white s.before) (laid_spelling r s) (white s.after) (codes ".") (path_text (laid_path r (q ∷ p))) ∙ is)))

  -- those of a key
  pub path-writes : (p : List Segment) (start : ℕ) (t : Text) → IsPath p → Stands source start (path_text p) → NoKeyNext more
      → t ++ path_text (laid_path r p) ≡ all → Writes (path_events start p ++ more) t
  path-writes [] start t path h none is = absurd (false≢true path.begins)
  path-writes (s ∷ p) start t path h none is =
      subst (Writes (path_events start (s ∷ p) ++ more)) (ap (λ u. t ++ u) (white-nil s.before path.begins) ∙ append-nil t)
      (segments-write s p start t none path.ends path.spelled h is)

-- ---- behind a key

path-last : (p : List Segment) (start : ℕ) → ends_unspaced p ≡ true
    → (es : List Event) × (e : Event) × (path_events start p ≡ es ++ (e ∷ [])) × (e.span.end ≡ start + length (path_text p))
path-last [] start ends = absurd (false≢true ends)
path-last (s ∷ []) start ends = (
  [],
  event Key (start + length s.before) s.spelled,
  refl,
  omega (arith, length-append s.before (s.spelled ++ s.after), length-append s.spelled s.after, ap length (empty_nil s.after ends)),
)
path-last (s ∷ q ∷ p) start ends =
    let dot = start + length (segment_text s) in
    let (es, e, parts, place) = path-last (q ∷ p) (dot + 1) ends in (
      event Key (start + length s.before) s.spelled
          ∷ event BeforeDot (start + length s.before + length s.spelled) s.after
          ∷ event AfterDot (dot + 1) q.before ∷ es,
      e,
      ap (λ xs. event Key (start + length s.before) s.spelled
          ∷ event BeforeDot (start + length s.before + length s.spelled) s.after
          ∷ event AfterDot (dot + 1) q.before ∷ xs) parts,
      omega (arith, place, length-append (segment_text s) (codes "." ++ path_text (q ∷ p))),
    )

span-in : (t : Text) (xs ys : List Event) (e : Event) → AreIn t (xs ++ (e ∷ ys)) → IsSpanOf t e.span
span-in t [] ys e h = h.0
span-in t (x ∷ xs) ys e h = span-in t xs ys e h.1

begins-at : (n : ℕ) (es : List Event) → BeginsAt n es → (get_or es 0 no_event).span.start ≡ n
begins-at n [] h = absurd h
begins-at n (e ∷ es) h = h

first-span : (t : Text) (n : ℕ) (xs ys : List Event) → BeginsAt n ys → AreIn t (xs ++ ys) → IsCharBoundary t n
first-span t n xs [] begins h = absurd begins
first-span t n xs (e ∷ ys) begins h = subst (IsCharBoundary t) begins (span-in t xs ys e h).start

got : (t part : Text) (i j n : ℕ) (o : Option (Bor Text)) (d : Bor Text) → GetsRange t i j o → IsCharBoundary t i → IsCharBoundary t j
    → i ≡ n → j ≡ n + length part → Stands t n part → (unwrap_or o d).now ≡ part
got t part i j n None d gets begin end first last h = absurd (gets (omega arith) begin end)
got t part i j n (Some x) d gets begin end first last h =
    gets.0 ∙ ap (λ k. cut_out t k j) first ∙ ap (cut_out t n) last ∙ cut_out-is t n part h

-- the text between a key and its value
pub equals-got : (source : Text) (events value : List Event) (f : Frame) (start end : ℕ) (o : Option (Bor Text)) (d : Bor Text)
    → AreIn source events → IsPath f.path
    → Stands source start (path_text f.path ++ (f.before_equals ++ (codes "=" ++ f.after_equals)))
    → BeginsAt (start + length (path_text f.path) + length f.before_equals + 1 + length f.after_equals) value
    → (sign : Event) → events ≡ path_events start f.path ++ (sign ∷ value)
    → ((es : List Event) (last : Event) → events ≡ es ++ (last ∷ (sign ∷ value)) → end ≡ last.span.end)
    → GetsRange source end (get_or value 0 no_event).span.start o
    → (unwrap_or o d).now ≡ f.before_equals ++ (codes "=" ++ f.after_equals)
equals-got source events value f start end o d spans path h begins sign is ends gets =
    let part = f.before_equals ++ (codes "=" ++ f.after_equals) in
    let (es, last, parts, place) = path-last f.path start path.ends in
    let whole = is ∙ ap (λ xs. xs ++ (sign ∷ value)) parts ∙ append_assoc es (last ∷ []) (sign ∷ value) in
    let n = start + length (path_text f.path) in
    let first = begins-at _ value begins in
    let at_end : (get_or value 0 no_event).span.start ≡ n + length part =
    omega (arith, first, length-append f.before_equals (codes "=" ++ f.after_equals)) in
    got source part end (get_or value 0 no_event).span.start n o d gets
    (subst (IsCharBoundary source) (sym (ends es last whole)) (span-in source es (sign ∷ value) last (subst (AreIn source) whole spans)).end)
    (subst (IsCharBoundary source) (sym first) (first-span source _ (path_events start f.path ++ (sign ∷ [])) value begins
    (subst (AreIn source) (is ∙ sym (append_assoc (path_events start f.path) (sign ∷ []) value)) spans)))
    (ends es last whole ∙ place) at_end
    (stands-right source start (path_text f.path) part h)
