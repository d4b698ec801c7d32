-- Comments that have a part, and the events of a header.
use Rattle.std.proofs.Common.{◌≡◌, refl, sym, ap, ◌∙◌, ℕ, ◌+◌, ◌==◌, arith, Bool, true, false, List, [], ◌∷◌, ◌++◌, ◌⊎◌, inl, inr, cond, subst, get_or, length, count_by}
use Rattle.std.specs.Prelude.{◌||◌, codes}
use Rattle.std.specs.Bool.{Decides}
use Rattle.std.specs.Str.Iter.{HasSubslice}
use Rattle.std.proofs.lemmas.Bool.Decides.{Decides-eqb}
use Rattle.std.proofs.lemmas.List.Sums.{sum_by-append}
use Rattle.toml_edit_model.specs.Syntax.{Header, Segment, Statement, key_line, header, closing_brackets, opening_brackets, path_text, segment_text, value_text}
use Rattle.toml_edit_model.specs.Text.{Text}
use Rattle.toml_edit_laws.proofs.common.Tests.{and_both, and_left, and_right, or-true}
use Rattle.toml_edit_syntax.specs.declared.event.Event.{Event}
use Rattle.toml_edit_syntax.specs.declared.event.EventKind.{EventKind}
use Rattle.toml_edit_syntax.specs.declared.event.EventKind.TheVariants.{AfterDot, AfterKey, ArrayHeaderOpen, BeforeDot, BeforeKey, Equals, HeaderClose, HeaderOpen, Key, Leading, LineEnd}
use Rattle.toml_edit_syntax.specs.Events.{header_events, header_open, statement_events}
use Rattle.toml_edit_syntax.specs.ValueEvents.{event, path_events, value_at_byte, value_events}
use Rattle.toml_edit_fmt_laws.specs.Formatted.{begins_with, has_part}
use Rattle.toml_edit_fmt.specs.StateView.{is_header}

-- ---- parts of a text

begins-to : (n t : Text) → begins_with n t ≡ true → (b : Text) × (t ≡ n ++ b)
begins-to [] t h = (t, refl)
begins-to (c ∷ n) [] h = absurd cc
begins-to (c ∷ n) (d ∷ t) h =
    let (b, e) = begins-to n t (and_right (c == d) _ h) in
    (b, ap (λ x. x ∷ t) (sym ((Decides-eqb _ _).0 (and_left (c == d) _ h))) ∙ ap (λ u. c ∷ u) e)

begins-from : (n b : Text) → begins_with n (n ++ b) ≡ true
begins-from [] b = refl
begins-from (c ∷ n) b = and_both (c == c) _ ((Decides-eqb c c).1 refl) (begins-from n b)

part-to : (n t : Text) → has_part n t ≡ true → HasSubslice t n
part-to [] [] h = ([], [], refl)
part-to (c ∷ n) [] h = absurd cc
part-to n (c ∷ t) h = by_test (begins_with n (c ∷ t)) refl (part-to n t)
  where
    by_test : (b : Bool) → begins_with n (c ∷ t) ≡ b → (has_part n t ≡ true → HasSubslice t n) → HasSubslice (c ∷ t) n
    by_test true e next = let (b, is) = begins-to n (c ∷ t) e in ([], b, is)
    by_test false e next =
        let (a, b, is) = next (ap (λ b. b || has_part n t) (sym e) ∙ h) in (c ∷ a, b, ap (λ u. c ∷ u) is)

part-front : (n t : Text) → begins_with n t ≡ true → has_part n t ≡ true
part-front [] [] h = refl
part-front (c ∷ n) [] h = absurd cc
part-front n (c ∷ t) h = ap (λ b. b || has_part n t) h

part-from : (n a b : Text) → has_part n (a ++ (n ++ b)) ≡ true
part-from n [] b = part-front n (n ++ b) (begins-from n b)
part-from n (c ∷ a) b = ap (λ x. begins_with n (c ∷ (a ++ (n ++ b))) || x) (part-from n a b) ∙ or-true _

pub part-decides : (n t : Text) → Decides (has_part n t) (HasSubslice t n)
part-decides n t = (part-to n t, λ h. ap (has_part n) h.2 ∙ part-from n h.0 h.1)

-- ---- the events of a header

abbrev pub Opens : EventKind → Type 0
Opens k = (k ≡ HeaderOpen) ⊎ (k ≡ ArrayHeaderOpen)

-- a key or the sign `=` is first after what is before a line
no-bracket : (p : List Segment) (k : ℕ) (q d : Event) (es : List Event) → q.kind ≡ Equals
    → Opens (get_or ((path_events k p ++ (q ∷ [])) ++ es) 0 d).kind → ⊥
no-bracket [] k q d es e (inl h) = cc
no-bracket [] k q d es e (inr h) = cc
no-bracket (s ∷ []) k q d es e (inl h) = cc
no-bracket (s ∷ []) k q d es e (inr h) = cc
no-bracket (s ∷ r ∷ p) k q d es e (inl h) = cc
no-bracket (s ∷ r ∷ p) k q d es e (inr h) = cc

pub header-opened : (s : Statement) (start : ℕ) (d : Event) (es : List Event) → es ≡ statement_events start s
    → Opens (get_or es 1 d).kind → true ≡ is_header s
header-opened (header h end) start d es e opens = refl
header-opened (key_line f v end) start d es e opens =
    let key = start + length f.leading in
    let value = value_at_byte start f in
    absurd (no-bracket f.path key (event Equals (key + length (path_text f.path) + length f.before_equals) (codes "=")) d
    (value_events value v ++ (event LineEnd (value + length (value_text v)) f.trailing ∷ [])) refl
    (subst (λ es. Opens (get_or es 1 d).kind) e opens))

abbrev key_kind : EventKind → Bool
key_kind Key = true
key_kind _ = false

abbrev pub is_key : Event → Bool
is_key e = key_kind e.kind

count-append : (xs ys : List Event) → count_by is_key (xs ++ ys) ≡ count_by is_key xs + count_by is_key ys
count-append xs ys = sum_by-append (λ e. cond (is_key e) 1 0) xs ys

path-keys : (k : ℕ) (p : List Segment) → count_by is_key (path_events k p) ≡ length p
path-keys k [] = refl
path-keys k (s ∷ []) = refl
path-keys k (s ∷ r ∷ rest) =
    let dot = k + length (segment_text s) in
    let first = event Key (k + length s.before) s.spelled ∷ event BeforeDot (k + length s.before + length s.spelled) s.after
    ∷ event AfterDot (dot + 1) r.before ∷ [] in
    let keys : 1 + count_by is_key (path_events (dot + 1) (r ∷ rest)) ≡ length (s ∷ r ∷ rest) =
    let more = path-keys (dot + 1) (r ∷ rest) in omega arith in
    count-append first (path_events (dot + 1) (r ∷ rest)) ∙ keys

pub header-keys : (h : Header) (start : ℕ) (es : List Event) → es ≡ header_events start h → count_by is_key es ≡ length h.path
header-keys h start es e =
    let brackets = start + length h.leading in
    let before = brackets + length (opening_brackets h.is_array) in
    let key = before + length h.opening in
    let after = key + length (path_text h.path) in
    let close = after + length h.closing in
    let first = event Leading start h.leading ∷ event (header_open h.is_array) brackets (opening_brackets h.is_array)
    ∷ event BeforeKey before h.opening ∷ [] in
    let tail = event AfterKey after h.closing ∷ event HeaderClose close (closing_brackets h.is_array)
    ∷ event LineEnd (close + length (closing_brackets h.is_array)) h.trailing ∷ [] in
    let none : count_by is_key first ≡ 0 = no-key h.is_array in
    let path = path-keys key h.path in
    let keys : count_by is_key first + (count_by is_key (path_events key h.path) + 0) ≡ length h.path = omega arith in
    ap (count_by is_key) e ∙ count-append first (path_events key h.path ++ tail)
    ∙ ap (λ n. count_by is_key first + n) (count-append (path_events key h.path) tail) ∙ keys
  where
    no-key : (b : Bool) → 0 + cond (key_kind (header_open b)) 1 0 + 0 ≡ 0
    no-key true = refl
    no-key false = refl
