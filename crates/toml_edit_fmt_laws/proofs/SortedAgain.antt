-- A sorted document is in the grammar, and sorted again it stays, also where it is formatted first.
use Rattle.std.proofs.Common.{◌≡◌, ◌⊎◌, refl, sym, ap, subst, ◌∙◌, suc, ℕ, inl, inr, Bool, true, false, not, List, [], ◌∷◌, ◌++◌, length, append_assoc}
use Rattle.std.proofs.Common.{Option, Some, None}
use Rattle.std.specs.Prelude.{◌&&◌, ◌||◌, if◌then◌else◌, map}
use Rattle.std.specs.List.{AllByRecursion, list_any}
use Rattle.toml_edit_model.specs.Paths.{Path}
use Rattle.toml_edit_model.specs.Syntax.{Segment, Statement, key_line, header, newline_after, IsStatement, AreStatements}
use Rattle.toml_edit_model.specs.Text.{Text}
use Rattle.toml_edit_model.specs.Trivia.{IsWholeTrivia, IsNewline}
use Rattle.toml_edit_laws.proofs.accepted_prints.PrintedValues.{whole-append}
use Rattle.toml_edit_laws.proofs.common.Each.{all-append, all-map}
use Rattle.toml_edit_laws.proofs.common.OrderLaws.{all-sorted}
use Rattle.toml_edit_laws.proofs.common.Pairs.{pairs-append}
use Rattle.toml_edit_laws.proofs.common.Tests.{and_left, and_right, and_both, not-true, or-true, append-nil}
use Rattle.toml_edit_laws.proofs.common.Trivia.{empty-trivia}
use Rattle.toml_edit_fmt_laws.specs.Rules.{Rules, line_depth, header_depth}
use Rattle.toml_edit_fmt_laws.specs.Laying.{last_line, leading}
use Rattle.toml_edit_fmt_laws.specs.Formatted.{laid_path, keys_below, State, start, reached, after, stays, leading_of, lay, laid_statement, laid_statements}
use Rattle.toml_edit_fmt_laws.specs.Aligned.{pads_as, formatted}
use Rattle.toml_edit_fmt_laws.specs.Sorted.{Names, names, same_names, path_of, begins_group, lines_before, with_leading, with_newline, without_head, with_head, head_of, with_newlines, goes_first, in_order, sorted_group, is_asked, is_key_line, sorted, sorted_statements}
use Rattle.toml_edit_fmt_laws.specs.SortedPromises.{SortedStaysDocument, SortedAgain, FormattedStaysSorted, SortedFormattedAgain}
use Rattle.toml_edit_fmt_laws.proofs.Again.{formatted_again}
use Rattle.toml_edit_fmt_laws.proofs.Grammar.{stays_document}
use Rattle.toml_edit_fmt_laws.proofs.HeaderLaws.{header-comments}
use Rattle.toml_edit_fmt_laws.proofs.LeadingLaws.{leading-comments}
use Rattle.toml_edit_fmt_laws.proofs.LeadingRows.{parts, reached-quiet, told, begins-laid}
use Rattle.toml_edit_fmt_laws.proofs.SortedGroups.{names_of, go_first, go-trans, go-self, Ordered, order-ordered, ordered-stays, order-length, newlines-kept, joins, joined-line, by_groups}

-- ---- parts of statements

-- a state below a statement, with so many keys
abbrev passed : State → ℕ → State
passed q k = record q { is_start = false; keys = k }

abbrev Any : Text → Type 0
Any t = Unit {0}

abbrev pub Whole : Statement → Type 0
Whole s = IsWholeTrivia (leading_of s)

pub leading-set : (t : Text) (s : Statement) → leading_of (with_leading t s) ≡ t
leading-set t (key_line f v end) = refl
leading-set t (header h end) = refl

pub leading-kept : (t : Text) (s : Statement) → leading_of (with_newline t s) ≡ leading_of s
leading-kept t (key_line f v end) = refl
leading-kept t (header h end) = refl

path-led : (t : Text) (s : Statement) → path_of (with_leading t s) ≡ path_of s
path-led t (key_line f v end) = refl
path-led t (header h end) = refl

path-ended : (t : Text) (s : Statement) → path_of (with_newline t s) ≡ path_of s
path-ended t (key_line f v end) = refl
path-ended t (header h end) = refl

pub kind-led : (t : Text) (s : Statement) → is_key_line (with_leading t s) ≡ is_key_line s
kind-led t (key_line f v end) = refl
kind-led t (header h end) = refl

kind-ended : (t : Text) (s : Statement) → is_key_line (with_newline t s) ≡ is_key_line s
kind-ended t (key_line f v end) = refl
kind-ended t (header h end) = refl

-- ---- the grammar

-- of the statement but for its newline
part-of : (End : Text → Type 0) (s : Statement) → IsStatement End s → IsStatement Any s × End (newline_after s)
part-of End (key_line f v end) h = ((h.0, h.1, tt), h.2)
part-of End (header x end) h = ((h.0, tt), h.1)

with-end : (End : Text → Type 0) (s : Statement) → IsStatement Any s → End (newline_after s) → IsStatement End s
with-end End (key_line f v end) h e = (h.0, h.1, e)
with-end End (header x end) h e = (h.0, e)

whole-of : (s : Statement) → IsStatement Any s → Whole s
whole-of (key_line f v end) h = h.0.0.leading
whole-of (header x end) h = h.0.0.leading

led : (t : Text) (s : Statement) → IsStatement Any s → IsWholeTrivia t → IsStatement Any (with_leading t s)
led t (key_line f v end) h g = (
  (
    record {
      leading = g;
      segments = h.0.0.segments;
      before_equals = h.0.0.before_equals;
      after_equals = h.0.0.after_equals;
      trailing = h.0.0.trailing;
    },
    h.0.1,
  ),
  h.1,
  tt,
)
led t (header x end) h g = (
  (
    record {
      leading = g;
      segments = h.0.0.segments;
      opening = h.0.0.opening;
      closing = h.0.0.closing;
      trailing = h.0.0.trailing;
    },
    h.0.1,
  ),
  tt,
)

ended : (t : Text) (s : Statement) → IsStatement Any s → IsStatement Any (with_newline t s)
ended t (key_line f v end) h = h
ended t (header x end) h = h

abbrev Ends : Text → List Text → Type 0
Ends final [] = Unit {0}
Ends final (e ∷ []) = IsNewline e ⊎ ((e ≡ []) × (final ≡ []))
Ends final (e ∷ f ∷ es) = IsNewline e × Ends final (f ∷ es)

abbrev AreParts : List Statement → Type 0
AreParts ss = AllByRecursion (IsStatement Any) ss

parts-of : (final : Text) (ss : List Statement) → AreStatements final ss → AreParts ss × Ends final (map newline_after ss)
parts-of final [] h = (tt, tt)
parts-of final (s ∷ []) h = (let p = part-of (λ end. IsNewline end ⊎ ((end ≡ []) × (final ≡ []))) s h in ((p.0, tt), p.1))
parts-of final (s ∷ r ∷ rest) h =
    let p = part-of IsNewline s h.0 in
    let more = parts-of final (r ∷ rest) h.1 in
    ((p.0, more.0), (p.1, more.1))

of-parts : (final : Text) (ss : List Statement) → AreParts ss → Ends final (map newline_after ss) → AreStatements final ss
of-parts final [] h e = tt
of-parts final (s ∷ []) h e = with-end (λ end. IsNewline end ⊎ ((end ≡ []) × (final ≡ []))) s h.0 e
of-parts final (s ∷ r ∷ rest) h e = (with-end IsNewline s h.0 e.0, of-parts final (r ∷ rest) h.1 e.1)

module _ (r : Rules) where
  group-parts : (ss : List Statement) → AreParts ss → AreParts (sorted_group ss)
  group-parts ss h =
      newlines (map newline_after ss) (with_head (head_of ss) (in_order (without_head ss)))
      (with (head_of ss) (in_order (without_head ss)) (head ss h)
      (all-sorted (IsStatement Any) goes_first (without_head ss) (without ss h)))
    where
      newlines : (ts : List Text) (us : List Statement) → AreParts us → AreParts (with_newlines ts us)
      newlines [] us g = g
      newlines (t ∷ ts) [] g = g
      newlines (t ∷ ts) (u ∷ us) g = (ended t u g.0, newlines ts us g.1)

      without : (us : List Statement) → AreParts us → AreParts (without_head us)
      without [] g = tt
      without (u ∷ us) g = (led _ u g.0 (parts r (leading_of u) (whole-of u g.0)).white, g.1)

      head : (us : List Statement) → AreParts us → IsWholeTrivia (head_of us)
      head [] g = empty-trivia
      head (u ∷ us) g = (parts r (leading_of u) (whole-of u g.0)).lines

      with : (t : Text) (us : List Statement) → IsWholeTrivia t → AreParts us → AreParts (with_head t us)
      with t [] g k = tt
      with t (u ∷ us) g k = (led _ u k.0 (whole-append t (leading_of u) g (whole-of u k.0)), k.1)

  module _ (tables : List Names) where
    pub statements-parts : (group : List Statement) (now : Bool) (st : State) (ss : List Statement) → AreParts group → AreParts ss
        → AreParts (sorted_statements r tables group now st ss)
    statements-parts =
        by_groups r tables (λ group now st ss new. AreParts group → AreParts ss → AreParts new)
        (λ group now st h g. group-parts group h)
        (λ group now st s rest new e f ih h g. all-append (IsStatement Any) (sorted_group group) new (group-parts group h) (ih (g.0, tt) g.1))
        (λ group now st s rest new e f ih h g. ih (all-append (IsStatement Any) group (s ∷ []) h (g.0, tt)) g.1)
        (λ group now st s rest new e ih h g. all-append (IsStatement Any) (sorted_group group) (s ∷ new) (group-parts group h) (g.0, ih tt g.1))

pub sorted_stays_document : SortedStaysDocument
sorted_stays_document r tables d h =
    let now = list_any (same_names []) tables in
    let p = parts-of d.final d.statements h.0 in (
      of-parts d.final (sorted r tables d).statements (statements-parts r tables [] now start d.statements tt p.0)
          (subst (Ends d.final) (sym (newlines-kept r tables [] now start d.statements)) p.1),
      h.1,
    )

pub whole-statements : (final : Text) (ss : List Statement) → AreStatements final ss → AllByRecursion Whole ss
whole-statements final ss h = all-map (IsStatement Any) Whole ss whole-of (parts-of final ss h).0

-- ---- groups that are in order

abbrev follows : Option Names → Statement → Bool
follows None s = true
follows (Some ks) s = go_first ks (names_of s)

module _ (r : Rules) (tables : List Names) where
  -- each line that begins no group may be after the one before it
  abbrev pub is_grouped : Option Names → Bool → State → List Statement → Bool
  is_grouped last now st [] = true
  is_grouped last now st (s ∷ rest) =
      if joins r now st s then (begins_group r (leading_of s) || follows last s) && is_grouped (Some (names_of s)) now (after r st s) rest
      else is_grouped None (is_asked tables now s) (after r st s) rest

  -- ---- such a document stays

  abbrev IsBehind : Option Names → List Statement → Type 0
  IsBehind None group = group ≡ []
  IsBehind (Some ks) group = AllByRecursion (λ s. go_first (names_of s) ks ≡ true) group

  group-stays : (ss : List Statement) → AllByRecursion Whole ss → Ordered ss → sorted_group ss ≡ ss
  group-stays [] h g = refl
  group-stays (s ∷ ss) h g =
      let t = leading_of s in
      let bare = with_leading (last_line t) s in
      let same : names_of bare ≡ names_of s = ap names (path-led (last_line t) s) in
      let ordered : Ordered (bare ∷ ss) = (subst (λ ks. AllByRecursion (λ u. go_first ks (names_of u) ≡ true) ss) (sym same) g.0, g.1) in
      ap (λ us. with_newlines (newline_after s ∷ map newline_after ss) (with_head (lines_before t) us)) (ordered-stays (bare ∷ ss) ordered)
      ∙ ap (λ u. with_newlines (newline_after s ∷ map newline_after ss) (u ∷ ss))
      (ap (λ u. with_leading (lines_before t ++ u) bare) (leading-set (last_line t) s)
      ∙ ap (λ u. with_leading u bare) (parts r t h.0).is ∙ led-twice t (last_line t) s ∙ led-own s)
      ∙ own-newlines (s ∷ ss)
    where
      led-twice : (t u : Text) (s : Statement) → with_leading t (with_leading u s) ≡ with_leading t s
      led-twice t u (key_line f v end) = refl
      led-twice t u (header h end) = refl

      led-own : (s : Statement) → with_leading (leading_of s) s ≡ s
      led-own (key_line f v end) = refl
      led-own (header h end) = refl

      own-newline : (s : Statement) → with_newline (newline_after s) s ≡ s
      own-newline (key_line f v end) = refl
      own-newline (header h end) = refl

      own-newlines : (us : List Statement) → with_newlines (map newline_after us) us ≡ us
      own-newlines [] = refl
      own-newlines (u ∷ us) =
          ap (λ x. x ∷ with_newlines (map newline_after us) us) (own-newline u) ∙ ap (λ xs. u ∷ xs) (own-newlines us)

  more-behind : (last : Option Names) (group : List Statement) (s : Statement) → IsBehind last group → follows last s ≡ true
      → AllByRecursion (λ x. go_first (names_of x) (names_of s) ≡ true) group
  more-behind None group s h f = subst (AllByRecursion (λ x. go_first (names_of x) (names_of s) ≡ true)) (sym h) tt
  more-behind (Some ks) group s h f =
      all-map (λ x. go_first (names_of x) ks ≡ true) (λ x. go_first (names_of x) (names_of s) ≡ true) group
      (λ x g. go-trans (names_of x) ks (names_of s) g f) h

  joined : (last : Option Names) (now : Bool) (st : State) (s : Statement) (rest : List Statement) → joins r now st s ≡ true
      → is_grouped last now st (s ∷ rest)
      ≡ ((begins_group r (leading_of s) || follows last s) && is_grouped (Some (names_of s)) now (after r st s) rest)
  joined last now st s rest e =
      ap (λ b. if b then (begins_group r (leading_of s) || follows last s) && is_grouped (Some (names_of s)) now (after r st s) rest
      else is_grouped None (is_asked tables now s) (after r st s) rest) e

  apart : (last : Option Names) (now : Bool) (st : State) (s : Statement) (rest : List Statement) → joins r now st s ≡ false
      → is_grouped last now st (s ∷ rest) ≡ is_grouped None (is_asked tables now s) (after r st s) rest
  apart last now st s rest e =
      ap (λ b. if b then (begins_group r (leading_of s) || follows last s) && is_grouped (Some (names_of s)) now (after r st s) rest
      else is_grouped None (is_asked tables now s) (after r st s) rest) e

  abbrev Stays : List Statement → Bool → State → List Statement → List Statement → Type 0
  Stays group now st ss new =
      (last : Option Names) → IsBehind last group → Ordered group → AllByRecursion Whole group → AllByRecursion Whole ss
      → is_grouped last now st ss ≡ true → new ≡ group ++ ss

  grouped-stays : (group : List Statement) (now : Bool) (st : State) (ss : List Statement)
      → Stays group now st ss (sorted_statements r tables group now st ss)
  grouped-stays =
      by_groups r tables Stays
      (λ group now st last b o w v h. group-stays group w o ∙ sym (append-nil group))
      (λ group now st s rest new e f ih last b o w v h.
      let here : is_grouped (Some (names_of s)) now (after r st s) rest ≡ true =
      and_right (begins_group r (leading_of s) || follows last s) _ (sym (joined last now st s rest e) ∙ h) in
      ap (λ xs. xs ++ new) (group-stays group w o)
      ∙ ap (λ xs. group ++ xs) (ih (Some (names_of s)) (go-self (names_of s), tt) (tt, tt) (v.0, tt) v.1 here))
      (λ group now st s rest new e f ih last b o w v h.
      let both = sym (joined last now st s rest e) ∙ h in
      let next : follows last s ≡ true =
      sym (ap (λ x. x || follows last s) f) ∙ and_left (begins_group r (leading_of s) || follows last s) _ both in
      let behind = more-behind last group s b next in
      ih (Some (names_of s)) (all-append (λ x. go_first (names_of x) (names_of s) ≡ true) group (s ∷ []) behind (go-self (names_of s), tt))
      (pairs-append (λ x y. goes_first x y ≡ true) group (s ∷ []) o (tt, tt)
      (all-map (λ x. go_first (names_of x) (names_of s) ≡ true) (λ x. AllByRecursion (λ y. goes_first x y ≡ true) (s ∷ [])) group
      (λ x g. (g, tt)) behind))
      (all-append Whole group (s ∷ []) w (v.0, tt)) v.1 (and_right (begins_group r (leading_of s) || follows last s) _ both)
      ∙ append_assoc group (s ∷ []) rest)
      (λ group now st s rest new e ih last b o w v h.
      ap (λ xs. xs ++ (s ∷ new)) (group-stays group w o)
      ∙ ap (λ xs. group ++ (s ∷ xs)) (ih None refl tt tt v.1 (sym (apart last now st s rest e) ∙ h)))

  -- ---- a sorted document is such

  -- a line that goes on in a group
  pub record Member (s : Statement) : Type 0 where
    pub line : is_key_line s ≡ true
    pub within : begins_group r (leading_of s) ≡ false
    pub whole : Whole s

  -- the first line of a group, after this state and before that one
  record Opens (now : Bool) (before st : State) (s : Statement) : Type 0 where
    joins : joins r now before s ≡ true
    whole : Whole s
    next : st ≡ after r before s

  abbrev Grouped : Bool → State → State → List Statement → Type 0
  Grouped now before st [] = st ≡ before
  Grouped now before st (s ∷ ss) = Opens now before st s × AllByRecursion Member ss

  abbrev MayOpen : Option Names → List Statement → Type 0
  MayOpen last [] = last ≡ None
  MayOpen last (s ∷ ss) = (last ≡ None) ⊎ (begins_group r (leading_of s) ≡ true)

  -- inside of a group that is open
  record Inside (now : Bool) (st : State) : Type 0 where
    now_asked : now ≡ true
    laid : stays st ≡ false
    below : st.is_start ≡ false

  joined-now : (now : Bool) (st : State) (s : Statement) → now ≡ true → is_key_line s ≡ true → stays (reached r st (leading_of s)) ≡ false
      → joins r now st s ≡ true
  joined-now now st s a b c =
      ap (λ x. x && (is_key_line s && not (stays (reached r st (leading_of s))))) a
      ∙ ap (λ x. x && not (stays (reached r st (leading_of s)))) b ∙ ap not c

  keys-line : (k : ℕ) (s : Statement) → is_key_line s ≡ true → keys_below k s ≡ k
  keys-line k (key_line f v end) h = refl
  keys-line k (header x end) h = absurd (let clash : false ≡ true = h in cc)

  after-line : (st : State) (s : Statement) → is_key_line s ≡ true
      → after r st s ≡ passed (reached r st (leading_of s)) st.keys
  after-line st s h = ap (passed (reached r st (leading_of s))) (keys-line st.keys s h)

  after-member : (st : State) (s : Statement) → st.is_start ≡ false → Member s → after r st s ≡ st
  after-member st s h m =
      after-line st s m.line
      ∙ ap (λ q. passed q st.keys) (reached-quiet r st (leading_of s) m.within)
      ∙ ap (λ b. record st { is_start = b }) (sym h)

  inside : (now : Bool) (before st : State) (s : Statement) → Opens now before st s → Inside now st
  inside now before st s o =
      record {
        now_asked = and_left now _ o.joins;
        laid = ap stays o.next ∙ not-true (stays (reached r before (leading_of s))) (and_right (is_key_line s) _ (and_right now _ o.joins));
        below = ap (λ (q : State). q.is_start) o.next;
      }

  member-step : (ks : Names) (now : Bool) (st : State) (s : Statement) (rest : List Statement) → Inside now st → Member s
      → go_first ks (names_of s) ≡ true → is_grouped (Some (names_of s)) now st rest ≡ true → is_grouped (Some ks) now st (s ∷ rest) ≡ true
  member-step ks now st s rest i m f h =
      joined (Some ks) now st s rest
      (joined-now now st s i.now_asked m.line (ap stays (reached-quiet r st (leading_of s) m.within) ∙ i.laid))
      ∙ and_both (begins_group r (leading_of s) || go_first ks (names_of s)) _
      (ap (λ b. b || go_first ks (names_of s)) m.within ∙ f)
      (ap (λ q. is_grouped (Some (names_of s)) now q rest) (after-member st s i.below m) ∙ h)

  ended-member : (t : Text) (s : Statement) → Member s → Member (with_newline t s)
  ended-member t s m =
      record {
        line = kind-ended t s ∙ m.line;
        within = ap (begins_group r) (leading-kept t s) ∙ m.within;
        whole = subst IsWholeTrivia (sym (leading-kept t s)) m.whole;
      }

  members-step : (ks : Names) (now : Bool) (st : State) (ts : List Text) (ss rest : List Statement) → Inside now st → Ordered ss
      → AllByRecursion (λ s. go_first ks (names_of s) ≡ true) ss → AllByRecursion Member ss
      → ((last : Option Names) → is_grouped last now st rest ≡ true) → is_grouped (Some ks) now st (with_newlines ts ss ++ rest) ≡ true
  members-step ks now st [] [] rest i o f m h = h (Some ks)
  members-step ks now st (t ∷ ts) [] rest i o f m h = h (Some ks)
  members-step ks now st [] (s ∷ ss) rest i o f m h =
      member-step ks now st s (ss ++ rest) i m.0 f.0 (members-step (names_of s) now st [] ss rest i o.1 o.0 m.1 h)
  members-step ks now st (t ∷ ts) (s ∷ ss) rest i o f m h =
      let u = with_newline t s in
      let same : names_of u ≡ names_of s = ap names (path-ended t s) in
      member-step ks now st u (with_newlines ts ss ++ rest) i (ended-member t s m.0) (ap (go_first ks) same ∙ f.0)
      (ap (λ ls. is_grouped (Some ls) now st (with_newlines ts ss ++ rest)) same
      ∙ members-step (names_of s) now st ts ss rest i o.1 o.0 m.1 h)

  -- the first line of the group is another one after the sort, below the same head
  opened : (last : Option Names) (now : Bool) (before st : State) (g : Statement) (ts : List Text) (ys rest : List Statement)
      → Opens now before st g → MayOpen last (g ∷ []) → Ordered ys → AllByRecursion Member ys → (length ys ≡ 0 → ⊥)
      → ((last : Option Names) → is_grouped last now st rest ≡ true)
      → is_grouped last now before (with_newlines ts (with_head (lines_before (leading_of g)) ys) ++ rest) ≡ true
  opened last now before st g ts [] rest o may ordered m some h = absurd (some refl)
  opened last now before st g ts (y ∷ ys) rest o may ordered m some h = by_ends ts
    where
      step : (x : Statement) (more : List Statement) → leading_of x ≡ lines_before (leading_of g) ++ leading_of y → path_of x ≡ path_of y → is_key_line x ≡ is_key_line y
          → is_grouped (Some (names_of y)) now st more ≡ true → is_grouped last now before (x ∷ more) ≡ true
      step x more lead path kind k =
          let p = (parts r (leading_of g) o.whole).after (leading_of y) m.0.whole m.0.within in
          let said : reached r before (leading_of x) ≡ reached r before (leading_of g) = ap (reached r before) lead ∙ p.2 before in
          let line : is_key_line x ≡ true = kind ∙ m.0.line in
          let begins : begins_group r (leading_of x) ≡ begins_group r (leading_of g) = ap (begins_group r) lead ∙ p.1 in
          let next : after r before x ≡ st =
          after-line before x line ∙ ap (λ q. passed q before.keys) said
          ∙ sym (o.next ∙ after-line before g (joined-line r now before g o.joins)) in
          joined last now before x more
          (joined-now now before x (and_left now _ o.joins) line
          (ap stays said ∙ not-true (stays (reached r before (leading_of g))) (and_right (is_key_line g) _ (and_right now _ o.joins))))
          ∙ and_both (begins_group r (leading_of x) || follows last x) _ (may_follow x begins may)
          (ap (λ q. is_grouped (Some (names_of x)) now q more) next
          ∙ ap (λ ls. is_grouped (Some (names ls)) now st more) path ∙ k)
        where
          may_follow : (x : Statement) → begins_group r (leading_of x) ≡ begins_group r (leading_of g)
              → (last ≡ None) ⊎ (begins_group r (leading_of g) ≡ true) → (begins_group r (leading_of x) || follows last x) ≡ true
          may_follow x e (inl none) =
              ap (λ l. begins_group r (leading_of x) || follows l x) none ∙ or-true (begins_group r (leading_of x))
          may_follow x e (inr b) = ap (λ c. c || follows last x) (e ∙ b)

      by_ends : (ts : List Text)
          → is_grouped last now before (with_newlines ts (with_leading (lines_before (leading_of g) ++ leading_of y) y ∷ ys) ++ rest) ≡ true
      by_ends [] =
          let v = lines_before (leading_of g) ++ leading_of y in
          step (with_leading v y) (ys ++ rest) (leading-set v y) (path-led v y) (kind-led v y)
          (members-step (names_of y) now st [] ys rest (inside now before st g o) ordered.1 ordered.0 m.1 h)
      by_ends (e ∷ es) =
          let v = lines_before (leading_of g) ++ leading_of y in
          step (with_newline e (with_leading v y)) (with_newlines es ys ++ rest)
          (leading-kept e (with_leading v y) ∙ leading-set v y) (path-ended e (with_leading v y) ∙ path-led v y)
          (kind-ended e (with_leading v y) ∙ kind-led v y)
          (members-step (names_of y) now st es ys rest (inside now before st g o) ordered.1 ordered.0 m.1 h)

  group-step : (last : Option Names) (now : Bool) (before st : State) (group rest : List Statement) → Grouped now before st group
      → MayOpen last group → ((last : Option Names) → is_grouped last now st rest ≡ true)
      → is_grouped last now before (sorted_group group ++ rest) ≡ true
  group-step last now before st [] rest g may h = ap (λ q. is_grouped last now q rest) (sym g) ∙ h last
  group-step last now before st (s ∷ ss) rest g may h =
      let t = leading_of s in
      let bare = with_leading (last_line t) s in
      let p = parts r t g.0.whole in
      let first : Member bare = record {
        line = kind-led (last_line t) s ∙ joined-line r now before s g.0.joins;
        within = ap (begins_group r) (leading-set (last_line t) s) ∙ p.begins;
        whole = subst IsWholeTrivia (sym (leading-set (last_line t) s)) p.white;
      } in
      opened last now before st s (map newline_after (s ∷ ss)) (in_order (bare ∷ ss)) rest g.0 may (order-ordered (bare ∷ ss))
      (all-sorted Member goes_first (bare ∷ ss) (first, g.1)) (λ e. let clash : suc (length ss) ≡ 0 = sym (order-length (bare ∷ ss)) ∙ e in cc) h

  abbrev Groups : List Statement → Bool → State → List Statement → List Statement → Type 0
  Groups group now st ss new =
      (last : Option Names) (before : State) → Grouped now before st group → MayOpen last group → AllByRecursion Whole ss
      → is_grouped last now before new ≡ true

  -- with one more line
  longer : (last : Option Names) (group : List Statement) (now : Bool) (before st : State) (s : Statement) → joins r now st s ≡ true
      → begins_group r (leading_of s) ≡ false → Whole s → Grouped now before st group → MayOpen last group
      → Grouped now before (after r st s) (group ++ (s ∷ [])) × MayOpen last (group ++ (s ∷ []))
  longer last [] now before st s e f w g may =
      ((record { joins = ap (λ q. joins r now q s) (sym g) ∙ e; whole = w; next = ap (λ q. after r q s) g }, tt), inl may)
  longer last (x ∷ xs) now before st s e f w g may =
      let m : Member s = record { line = joined-line r now st s e; within = f; whole = w } in (
        (
          record {
            joins = g.0.joins;
            whole = g.0.whole;
            next = after-member st s (inside now before st x g.0).below m ∙ g.0.next;
          },
          all-append Member xs (s ∷ []) g.1 (m, tt),
        ),
        may,
      )

  sorted-grouped : (group : List Statement) (now : Bool) (st : State) (ss : List Statement)
      → Groups group now st ss (sorted_statements r tables group now st ss)
  sorted-grouped =
      by_groups r tables Groups
      (λ group now st last before g may w.
      subst (λ xs. is_grouped last now before xs ≡ true) (append-nil (sorted_group group)) (group-step last now before st group [] g may (λ l. refl)))
      (λ group now st s rest new e f ih last before g may w.
      group-step last now before st group new g may
      (λ l. ih l st (record { joins = e; whole = w.0; next = refl }, tt) (inr f) w.1))
      (λ group now st s rest new e f ih last before g may w.
      let more = longer last group now before st s e f w.0 g may in
      ih last before more.0 more.1 w.1)
      (λ group now st s rest new e ih last before g may w.
      group-step last now before st group (s ∷ new) g may (λ l. apart l now st s new e ∙ ih None (after r st s) refl refl w.1))

  -- ---- formatted it still is

  names-laid : (p : List Segment) → names (laid_path r p) ≡ names p
  names-laid [] = refl
  names-laid (s ∷ p) = ap (λ ks. s.key ∷ ks) (names-laid p)

  count-laid : (p : List Segment) → length (laid_path r p) ≡ length p
  count-laid [] = refl
  count-laid (s ∷ p) = ap suc (count-laid p)

  record LaidAlike (st : State) (s u : Statement) : Type 0 where
    said : reached r st (leading_of u) ≡ reached r st (leading_of s)
    kind : is_key_line u ≡ is_key_line s
    same : names_of u ≡ names_of s
    asked : (now : Bool) → is_asked tables now u ≡ is_asked tables now s
    keys : (k : ℕ) → keys_below k u ≡ keys_below k s
    begins : st.is_start ≡ false → is_key_line s ≡ true → begins_group r (leading_of u) ≡ begins_group r (leading_of s)

  laid-alike : (pad : Path → ℕ) (st : State) (s : Statement) → IsStatement Any s → LaidAlike st s (lay r pad st s)
  laid-alike pad st s h = by_test (stays (reached r st (leading_of s))) s h
    where
      by_test : (b : Bool) (s : Statement) → IsStatement Any s → LaidAlike st s (if b then s else laid_statement r pad st s)
      by_test true s h =
          record { said = refl; kind = refl; same = refl; asked = λ now. refl; keys = λ k. refl; begins = λ e k. refl }
      by_test false (key_line f v end) h =
          let depth = line_depth r st.keys in
          record {
            said = ap (told r st) (leading-comments r st.is_start depth f.leading h.0.0.leading);
            kind = refl;
            same = names-laid f.path;
            asked = λ now. refl;
            keys = λ k. refl;
            begins = λ e k.
                ap (λ b. begins_group r (leading r b depth f.leading)) e ∙ begins-laid r depth f.leading h.0.0.leading;
          }
      by_test false (header x end) h =
          record {
            said = ap (told r st) (header-comments r st.is_start (header_depth r (length x.path)) x.leading h.0.0.leading);
            kind = refl;
            same = names-laid x.path;
            asked = λ now. ap (λ ks. list_any (same_names ks) tables) (names-laid x.path);
            keys = λ k. count-laid x.path;
            begins = λ e k. absurd (let clash : false ≡ true = k in cc);
          }

  laid-grouped : (pad : ℕ → Path → ℕ) (n : ℕ) (last : Option Names) (now : Bool) (st : State) (ss : List Statement)
      → (st.is_start ≡ true → last ≡ None) → AllByRecursion (IsStatement Any) ss → is_grouped last now st ss ≡ true
      → is_grouped last now st (laid_statements r pad n st ss) ≡ true
  laid-grouped pad n last now st [] none h g = refl
  laid-grouped pad n last now st (s ∷ rest) none h g =
      by_test (joins r now st s) refl (λ l a. laid-grouped pad (suc n) l a (after r st s) rest (λ e. absurd (let clash : false ≡ true = e in cc)) h.1)
    where
      by_test : (b : Bool) → joins r now st s ≡ b
          → ((l : Option Names) (a : Bool) → is_grouped l a (after r st s) rest ≡ true
          → is_grouped l a (after r st s) (laid_statements r pad (suc n) (after r st s) rest) ≡ true)
          → is_grouped last now st (lay r (pad n) st s ∷ laid_statements r pad (suc n) (after r st s) rest) ≡ true
      by_test b e ih =
          let u = lay r (pad n) st s in
          let new = laid_statements r pad (suc n) (after r st s) rest in
          let a = laid-alike (pad n) st s h.0 in
          let here : joins r now st u ≡ b =
          ap (λ k. now && (k && not (stays (reached r st (leading_of u))))) a.kind
          ∙ ap (λ q. now && (is_key_line s && not (stays q))) a.said ∙ e in
          let next : after r st u ≡ after r st s =
          ap (λ q. passed q (keys_below st.keys u)) a.said
          ∙ ap (passed (reached r st (leading_of s))) (a.keys st.keys) in
          by_join b e u new a here next ih
        where
          by_join : (b : Bool) → joins r now st s ≡ b → (u : Statement) (new : List Statement) → LaidAlike st s u → joins r now st u ≡ b
              → after r st u ≡ after r st s
              → ((l : Option Names) (a : Bool) → is_grouped l a (after r st s) rest ≡ true → is_grouped l a (after r st s) new ≡ true)
              → is_grouped last now st (u ∷ new) ≡ true
          by_join false e u new a here next ih =
              apart last now st u new here
              ∙ ap (λ q. is_grouped None (is_asked tables now u) q new) next
              ∙ ap (λ k. is_grouped None k (after r st s) new) (a.asked now)
              ∙ ih None (is_asked tables now s) (sym (apart last now st s rest e) ∙ g)
          by_join true e u new a here next ih =
              let both = sym (joined last now st s rest e) ∙ g in
              let line = joined-line r now st s e in
              joined last now st u new here
              ∙ and_both (begins_group r (leading_of u) || follows last u) _
              (may_follow last refl (and_left (begins_group r (leading_of s) || follows last s) _ both))
              (ap (λ q. is_grouped (Some (names_of u)) now q new) next ∙ ap (λ ks. is_grouped (Some ks) now (after r st s) new) a.same
              ∙ ih (Some (names_of s)) now (and_right (begins_group r (leading_of s) || follows last s) _ both))
            where
              may_follow : (l : Option Names) → last ≡ l → (begins_group r (leading_of s) || follows last s) ≡ true
                  → (begins_group r (leading_of u) || follows last u) ≡ true
              may_follow None k f = ap (λ l. begins_group r (leading_of u) || follows l u) k ∙ or-true (begins_group r (leading_of u))
              may_follow (Some ks) k f =
                  ap (λ b. b || follows last u)
                  (a.begins (not-start st.is_start refl) (joined-line r now st s e))
                  ∙ ap (λ l. begins_group r (leading_of s) || follows l u) k
                  ∙ ap (λ ls. begins_group r (leading_of s) || go_first ks ls) a.same
                  ∙ sym (ap (λ l. begins_group r (leading_of s) || follows l s) k) ∙ f
                where
                  not-start : (b : Bool) → st.is_start ≡ b → st.is_start ≡ false
                  not-start false i = i
                  not-start true i = (let clash : Some ks ≡ None = sym k ∙ none i in absurd cc)

pub sorted_again : SortedAgain
sorted_again r tables d h =
    let now = list_any (same_names []) tables in
    let once = sorted r tables d in
    let grammar = sorted_stays_document r tables d h in
    ap (λ ss. record d { statements = ss })
    (grouped-stays r tables [] now start once.statements None refl tt tt (whole-statements d.final once.statements grammar.0)
    (sorted-grouped r tables [] now start d.statements None start refl refl (whole-statements d.final d.statements h.0)))

pub formatted_stays_sorted : FormattedStaysSorted
formatted_stays_sorted r tables d h =
    let now = list_any (same_names []) tables in
    let once = sorted r tables d in
    let pads = pads_as r.comments r once in
    let grammar = sorted_stays_document r tables d h in
    let laid = formatted r once in
    let again = stays_document r pads once grammar in
    ap (λ ss. record laid { statements = ss })
    (grouped-stays r tables [] now start laid.statements None refl tt tt (whole-statements laid.final laid.statements again.0)
    (laid-grouped r tables pads 0 None now start once.statements (λ e. refl) (parts-of d.final once.statements grammar.0).0
    (sorted-grouped r tables [] now start d.statements None start refl refl (whole-statements d.final d.statements h.0))))

pub sorted_formatted_again : SortedFormattedAgain
sorted_formatted_again r tables d h =
    ap (formatted r) (formatted_stays_sorted r tables d h) ∙ formatted_again r (sorted r tables d) (sorted_stays_document r tables d h)
