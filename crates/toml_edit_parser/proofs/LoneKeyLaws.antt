-- The keys of a lone path, one after another, with their own texts.
use Rattle.std.proofs.Common.{◌≡◌, ℕ, ◌+◌, ◌-◌, true, List, [], ◌∷◌, ◌++◌, length, refl, sym, ap, subst, ◌∙◌, append_assoc, Option, Some, None}
use Rattle.std.proofs.Common.{arith, option_map, IsUtf8}
use Rattle.std.proofs.lemmas.Option.{same_Some}
use Rattle.std.proofs.lemmas.Str.{IsCharBoundary-end, IsCharBoundary-start}
use Rattle.toml_edit_model.specs.Text.{Text}
use Rattle.toml_edit_model.specs.Spelling.{SpellsKey}
use Rattle.toml_edit_model.specs.Syntax.{Segment, segment_text, path_text, begins_unspaced}
use Rattle.toml_edit_model.specs.Lone.{lone_keys, path_key, some_text}
use Rattle.toml_edit_model.specs.OwnedForm.{DecorFits, KeyFits, RawFits, cut_out, owned_decor, owned_key, owned_raw}
use Rattle.toml_edit_model.specs.Paths.{next_start}
use Rattle.toml_edit_model.specs.Tree.{Raw, owned, Decor, Key, unset, HasTrueSpelling}
use Rattle.toml_edit_model.specs.TreeOf.{span_of}
use Rattle.toml_edit_laws.specs.Standing.{Stands}
use Rattle.toml_edit_laws.proofs.common.StandingLaws.{cut-is, cut_out-is, stands-left, stands-right, stands-whole}
use Rattle.toml_edit_laws.proofs.values.ValueFaults.{is_empty-nil}
use Rattle.toml_edit_key.specs.Keys.{spanned_key}
use Rattle.toml_edit_syntax.specs.declared.event.Event.{Event}
use Rattle.toml_edit_syntax.specs.declared.event.EventKind.{EventKind}
use Rattle.toml_edit_syntax.specs.declared.event.EventKind.TheVariants as kinds
use Rattle.toml_edit_syntax.specs.declared.event.Span.{Span}
use Rattle.toml_edit_syntax.specs.Events.{IsSpanOf}
use Rattle.toml_edit_syntax.specs.LonePath.{ArePathEvents}
use Rattle.toml_edit_syntax.specs.ValueEvents.{event, path_events}
use Rattle.toml_edit_parser.specs.declared.key.PathKey.{PathKey}
use Rattle.toml_edit_parser.specs.declared.key.KeyPath.{KeyPath}
use Rattle.toml_edit_parser.specs.PairRead.{IsEndOfPath, first_before, leaf_of}
use Rattle.toml_edit_parser.specs.PathRead.{IsFirstKey, IsKeyBefore, IsPathFrom, segment_key}
use Rattle.toml_edit_parser.specs.ReadKeys.{lone_key}
use Rattle.toml_edit_parser.specs.ValueRead.{AreIn, span_at}
use Rattle.toml_edit_parser.proofs.PairLaws.{path-some}

-- ---- one key

-- the decor of the last key
abbrev pub outer : Text → Text → Decor
outer before after = record { prefix = some_text before; suffix = some_text after }

owned-some : (t x : Text) → option_map (owned_raw t) (some_text x) ≡ some_text x
owned-some t [] = refl
owned-some t (c ∷ x) = refl

owned-outer : (t before after : Text) → owned_decor t (outer before after) ≡ outer before after
owned-outer t before after =
    ap (λ (o : Option Raw). record { prefix = o; suffix = option_map (owned_raw t) (some_text after) }) (owned-some t before)
    ∙ ap (λ (o : Option Raw). record { prefix = some_text before; suffix = o }) (owned-some t after)

outer-fits : (t before after : Text) → DecorFits t (outer before after)
outer-fits t [] [] = (tt, tt)
outer-fits t [] (c ∷ y) = (tt, tt)
outer-fits t (c ∷ x) [] = (tt, tt)
outer-fits t (c ∷ x) (d ∷ y) = (tt, tt)

raw-fits : (t : Text) (kind : EventKind) (i : ℕ) (x : Text) → IsSpanOf t (event kind i x).span → RawFits t (span_of i x)
raw-fits t kind i [] at = tt
raw-fits t kind i (c ∷ x) at = (at.start, at.end, at.order)

-- The key's spans lie in the text, and it becomes that key by owning its texts.
pub record BecomesKey (t : Text) (k : Key) (new : Key) : Type 0 where
  pub fits : KeyFits t k
  pub spelled : HasTrueSpelling (SpellsKey k.name) (option_map (owned_raw t) k.spelling)
  pub owned_is : owned_key t k ≡ new

with_raws : Text → Decor → Raw → Raw → Raw → Key
with_raws name leaf spelling before after =
    record { name = name; spelling = Some spelling; leaf = leaf; dotted = record { prefix = Some before; suffix = Some after } }

back : (start n : ℕ) → start ≡ start + n - n
back start n = omega arith

-- the key of a segment, with another leaf decor
becomes : (t : Text) (start : ℕ) (s : Segment) (own leaf : Decor) → Stands t start (segment_text s) → SpellsKey s.key s.spelled
    → RawFits t (span_of start s.before)
    → RawFits t (span_of (start + length s.before) s.spelled) → RawFits t (span_of (start + length s.before + length s.spelled) s.after)
    → DecorFits t leaf → owned_decor t leaf ≡ leaf → BecomesKey t (record (segment_key own start s) { leaf = leaf }) (path_key leaf s)
becomes t start s own leaf stands spells before spelled after outside same =
    let at = start + length s.before in
    let same_start = back start (length s.before) in
    let rest = stands-right t start s.before (s.spelled ++ s.after) stands in
    let left = cut-is t start s.before (stands-left t start s.before (s.spelled ++ s.after) stands) in
    let here = cut-is t at s.spelled (stands-left t at s.spelled s.after rest) in
    let right = cut-is t (at + length s.spelled) s.after (stands-right t at s.spelled s.after rest) in
    record {
      fits = (spelled, outside, (subst (λ (n : ℕ). RawFits t (span_of n s.before)) same_start before, after));
      spelled = subst (λ (r : Raw). HasTrueSpelling (SpellsKey s.key) (Some r)) (sym here) spells;
      owned_is = owned_of at here (ap (λ (n : ℕ). owned_raw t (span_of n s.before)) (sym same_start) ∙ left) right;
    }
  where
    owned_of : (at : ℕ) → owned_raw t (span_of at s.spelled) ≡ owned s.spelled
        → owned_raw t (span_of (at - length s.before) s.before) ≡ owned s.before
        → owned_raw t (span_of (at + length s.spelled) s.after) ≡ owned s.after
        → ◌≡◌ {A = Key} (record {
          name = s.key;
          spelling = Some (owned_raw t (span_of at s.spelled));
          leaf = owned_decor t leaf;
          dotted = record {
            prefix = Some (owned_raw t (span_of (at - length s.before) s.before));
            suffix = Some (owned_raw t (span_of (at + length s.spelled) s.after));
          };
        }) (path_key leaf s)
    owned_of at here left right = rw (here, left, right, same) refl

-- the key that is the whole text
pub whole-becomes : (t name : Text) → IsUtf8 t → SpellsKey name t
    → BecomesKey t (spanned_key name 0 (length t) unset unset) (lone_key name t)
whole-becomes t name utf8 spells =
    let all : 0 + length t ≡ length t = omega arith in
    let cut : cut_out t 0 (length t) ≡ t =
    ap (λ (n : ℕ). cut_out t 0 n) (sym all) ∙ cut_out-is t 0 t (stands-whole t) in
    record {
      fits = ((IsCharBoundary-start t utf8, IsCharBoundary-end t, omega arith), (tt, tt), (tt, tt));
      spelled = subst (SpellsKey name) (sym cut) spells;
      owned_is = ap (λ (x : Text). lone_key name x) cut;
    }

-- ---- one key after another

-- What is left of a lone path between these texts, after these keys.
pub record KeysLeft (t before after : Text) (p : List Segment) (done : List Key) (left : KeyPath) : Type 0 where
  pub own : Decor
  pub start : ℕ
  pub segments : List Segment
  pub ends : IsEndOfPath segments
  pub stands : Stands t start (path_text segments)
  pub read : IsPathFrom own start segments left
  pub fits : RawFits t (span_of start (first_before segments))
  pub all : done ++ lone_keys before segments after ≡ lone_keys before p after

none_before : (p : List Segment) → begins_unspaced p ≡ true → first_before p ≡ []
none_before [] begins = refl
none_before (s ∷ p) begins = is_empty-nil s.before begins

-- where there is no text
empty-span : (n : ℕ) (s : Span) → s ≡ record { start = n; end = n } → s ≡ span_at n []
empty-span n s e =
    let still : n ≡ n + 0 = omega arith in
    e ∙ ap (λ (m : ℕ). record { start = n; end = m }) still

pub keys-begin : (t before after : Text) (es : List Event) (done : List Key) (left : KeyPath) → (are : ArePathEvents t before es after)
    → left.before ≡ record { start = length before; end = length before } → left.events.now ≡ es → done ≡ []
    → KeysLeft t before after are.path done left
keys-begin t before after es done left are at events none =
    let first = none_before are.path are.is.path.begins in
    let here : left.before ≡ span_at (length before) (first_before are.path) =
    empty-span (length before) left.before at ∙ ap (λ (x : Text). span_at (length before) x) (sym first) in
    record {
      own = leaf_of left;
      start = length before;
      segments = are.path;
      ends = record { some = path-some are.path are.is.path; ends = are.is.path.ends; spelled = are.is.path.spelled };
      stands = record { before = before; after = after; text = are.is.parts; place = refl };
      read = (refl, here, events ∙ are.events);
      fits = subst (λ (x : Text). RawFits t (span_of (length before) x)) (sym first) tt;
      all = ap (λ (ks : List Key). ks ++ lone_keys before are.path after) none;
    }

-- what the first key that is left becomes, and what is left after it
pub record NextKey (t before after : Text) (p : List Segment) (done : List Key) (k : Key) (inside : KeyPath) : Type 0 where
  pub new : Key
  pub becomes : BecomesKey t k new
  pub left : (ks : List Key) → ks ≡ done ++ (new ∷ []) → KeysLeft t before after p ks inside

-- and what the last one becomes, after which nothing is left
pub record LastKey (t before after : Text) (p : List Segment) (done : List Key) (k : Key) : Type 0 where
  pub new : Key
  pub becomes : BecomesKey t (record k { leaf = outer before after }) new
  pub all : (ks : List Key) → ks ≡ done ++ (new ∷ []) → ks ≡ lone_keys before p after

passed : (own : Decor) (start : ℕ) (s g : Segment) (q : List Segment) (k : Key) (rest : Option KeyPath) (inside : KeyPath)
    → IsKeyBefore own start s (g ∷ q) k rest → rest ≡ Some inside
    → (k ≡ segment_key unset start s) × IsPathFrom own (next_start start s) (g ∷ q) inside
passed own start s g q k None inside is some = absurd is
passed own start s g q k (Some path) inside is some =
    (is.0, subst (IsPathFrom own (next_start start s) (g ∷ q)) (same_Some path inside some) is.1)

not_last : (own : Decor) (start : ℕ) (s g : Segment) (q : List Segment) (k : Key) (rest : Option KeyPath)
    → IsKeyBefore own start s (g ∷ q) k rest → rest ≡ None → ⊥
not_last own start s g q k None is none = is
not_last own start s g q k (Some path) is none = absurd cc

not_passed : (own : Decor) (start : ℕ) (s : Segment) (k : Key) (rest : Option KeyPath) (inside : KeyPath)
    → IsKeyBefore own start s [] k rest → rest ≡ Some inside → ⊥
not_passed own start s k None inside is some = absurd cc
not_passed own start s k (Some path) inside is some = is

ended : (own : Decor) (start : ℕ) (s : Segment) (k : Key) (rest : Option KeyPath) → IsKeyBefore own start s [] k rest
    → k ≡ segment_key own start s
ended own start s k None is = is
ended own start s k (Some path) is = absurd is

module _ (t before after : Text) (p : List Segment) (done : List Key) (left : KeyPath) (own : Decor) (start : ℕ)
    (spans : AreIn t left.events.now) (r : PathKey) where
  -- a key that the path passes through
  next_of : (segments : List Segment) (inside : KeyPath) → IsEndOfPath segments → Stands t start (path_text segments)
      → IsPathFrom own start segments left
      → RawFits t (span_of start (first_before segments)) → done ++ lone_keys before segments after ≡ lone_keys before p after
      → IsFirstKey own start segments r → r.rest ≡ Some inside → NextKey t before after p done r.key inside
  next_of [] inside ends stands read fits all first some = absurd first
  next_of (s ∷ []) inside ends stands read fits all first some =
      absurd (not_passed own start s r.key r.rest inside first.1 some)
  next_of (s ∷ g ∷ q) inside ends stands read fits all first some =
      let k = passed own start s g q r.key r.rest inside first.1 some in
      let evs : AreIn t (path_events start (s ∷ g ∷ q)) = subst (AreIn t) read.2 spans in
      let here = stands-left t start (segment_text s) (46 ∷ path_text (g ∷ q)) stands in
      let behind = stands-right t start (segment_text s) (46 ∷ path_text (g ∷ q)) stands in
      let dot = start + length (segment_text s) in
      let became = becomes t start s unset unset here ends.spelled.0 fits (raw-fits t kinds.Key _ s.spelled evs.0)
      (raw-fits t kinds.BeforeDot _ s.after evs.1.0) (tt, tt) refl in
      record {
        new = path_key unset s;
        becomes = subst (λ (x : Key). BecomesKey t x (path_key unset s)) (sym k.0) became;
        left = λ ks e. record {
          own = own;
          start = next_start start s;
          segments = g ∷ q;
          ends = record { some = refl; ends = ends.ends; spelled = ends.spelled.1 };
          stands = stands-right t dot (46 ∷ []) (path_text (g ∷ q)) behind;
          read = k.1;
          fits = raw-fits t kinds.AfterDot (dot + 1) g.before evs.1.1.0;
          all = ap (λ (xs : List Key). xs ++ lone_keys before (g ∷ q) after) e
              ∙ append_assoc done (path_key unset s ∷ []) (lone_keys before (g ∷ q) after) ∙ all;
        };
      }

  -- the last key
  last_of : (segments : List Segment) → IsEndOfPath segments → Stands t start (path_text segments) → IsPathFrom own start segments left
      → RawFits t (span_of start (first_before segments)) → done ++ lone_keys before segments after ≡ lone_keys before p after
      → IsFirstKey own start segments r → r.rest ≡ None → LastKey t before after p done r.key
  last_of [] ends stands read fits all first none = absurd first
  last_of (s ∷ g ∷ q) ends stands read fits all first none = absurd (not_last own start s g q r.key r.rest first.1 none)
  last_of (s ∷ []) ends stands read fits all first none =
      let evs : AreIn t (path_events start (s ∷ [])) = subst (AreIn t) read.2 spans in
      let k = ended own start s r.key r.rest first.1 in
      let leaf = outer before after in
      let nothing = is_empty-nil s.after ends.ends in
      let behind : RawFits t (span_of (start + length s.before + length s.spelled) s.after) =
      subst (λ (x : Text). RawFits t (span_of (start + length s.before + length s.spelled) x)) (sym nothing) tt in
      let became = becomes t start s own leaf stands ends.spelled.0 fits (raw-fits t kinds.Key _ s.spelled evs.0) behind
      (outer-fits t before after) (owned-outer t before after) in
      record {
        new = path_key leaf s;
        becomes = subst (λ (x : Key). BecomesKey t (record x { leaf = leaf }) (path_key leaf s)) (sym k) became;
        all = λ ks e. e ∙ all;
      }

pub keys-next : (t before after : Text) (p : List Segment) (done : List Key) (left : KeyPath) (r : PathKey) (inside : KeyPath)
    → AreIn t left.events.now
    → (n : KeysLeft t before after p done left) → IsFirstKey n.own n.start n.segments r → r.rest ≡ Some inside
    → NextKey t before after p done r.key inside
keys-next t before after p done left r inside spans n first some =
    next_of t before after p done left n.own n.start spans r n.segments inside n.ends n.stands n.read n.fits n.all first some

pub keys-end : (t before after : Text) (p : List Segment) (done : List Key) (left : KeyPath) (r : PathKey) → AreIn t left.events.now
    → (n : KeysLeft t before after p done left) → IsFirstKey n.own n.start n.segments r → r.rest ≡ None
    → LastKey t before after p done r.key
keys-end t before after p done left r spans n first none =
    last_of t before after p done left n.own n.start spans r n.segments n.ends n.stands n.read n.fits n.all first none
