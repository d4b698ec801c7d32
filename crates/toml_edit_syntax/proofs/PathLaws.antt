-- What reads as a key or as a pair up to its value is that, and that is read again.
use Rattle.std.proofs.Common.{◌≡◌, ℕ, zero, suc, ◌<◌, Bool, true, false, ◌==◌, List, [], ◌∷◌, ◌++◌, length, drop, Some, refl, sym, ap}
use Rattle.std.proofs.Common.{subst, ◌∙◌, arith, take_at, drop_at, append_assoc, inl, inr}
use Rattle.std.specs.List.{AllByRecursion}
use Rattle.std.proofs.lemmas.Bool.{false≢true}
use Rattle.std.proofs.lemmas.Bool.Decides.{nat_tests}
use Rattle.std.proofs.lemmas.List.{length-append}
use Rattle.toml_edit_model.specs.Text.{Text, is_empty}
use Rattle.toml_edit_model.specs.Trivia.{is_blank, IsWhiteSpace, IsWholeTrivia}
use Rattle.toml_edit_model.specs.Spelling.{SpellsKey}
use Rattle.toml_edit_model.specs.Syntax.{Segment, Frame, segment_text, path_text, IsSpacedSegment, IsSpelledSegment, begins_unspaced}
use Rattle.toml_edit_model.specs.Syntax.{ends_unspaced, IsPath, IsFrame}
use Rattle.toml_edit_laws.specs.reading.Runs.{first, split_while}
use Rattle.toml_edit_laws.specs.reading.Tokens.{key_at, ends_key}
use Rattle.toml_edit_syntax.specs.Scanning.{front, equals_at}
use Rattle.toml_edit_syntax.specs.ValueReading.{got, reading, segments_at, path_at, frame_at}
use Rattle.toml_edit_laws.proofs.reading.Steps.{chosen, starts, split_parts}
use Rattle.toml_edit_laws.proofs.common.OptionSteps.{bind_some, map_some}
use Rattle.toml_edit_laws.proofs.reading.RunLaws.{Each-run, prefix_len-run, split_while-run}
use Rattle.toml_edit_laws.proofs.reading.Begins.{is_opening, Begins, key_begins, begins_not}
use Rattle.toml_edit_laws.proofs.reading.TokenLaws.{key_takes, key_again}
use Rattle.toml_edit_laws.proofs.one_cut.Parts.{empty_nil, tail_text, path_tail, regroup}
use Rattle.toml_edit_syntax.proofs.ScanningLaws.{front_is, front_of, blank_first, AreBlanks, equals_takes, equals_again}
use Rattle.toml_edit_syntax.proofs.ReadingSteps.{follow_got, changed_got, reading_got}

-- ---- what is read as a key

-- segments of which the first has this before it, and the text after them
record Took (before text : Text) (p : List Segment) (rest : Text) : Type 0 where
  parts : before ++ text ≡ path_text p ++ rest
  begins : begins_unspaced p ≡ is_empty before
  ends : ends_unspaced p ≡ true
  spelled : AllByRecursion IsSpelledSegment p
  spaced : AllByRecursion IsSpacedSegment p

-- the last segment
took_last : (before text : Text) (k : Text × Text) → IsWhiteSpace before → key_at text ≡ Some k
    → Took before text (record { before = before; key = k.0; spelled = front text k.1; after = [] } ∷ []) k.1
took_last before text k white found =
    let (t, spells, parts) = key_takes text k.1 k.0 found in
    let is = sym (front_of text t k.1 parts) in
    subst (λ (x : Text). Took before text (record { before = before; key = k.0; spelled = x; after = [] } ∷ []) k.1) is (record {
      parts = ap (λ (x : Text). before ++ x) parts ∙ last_parts before t k.1;
      begins = refl;
      ends = refl;
      spelled = (spells, tt);
      spaced = ((white, refl), tt);
    })
  where
    last_parts : (a b c : Text) → a ++ (b ++ c) ≡ (a ++ (b ++ [])) ++ c
    last_parts a b c = simp append_assoc

-- one segment more in front
path_more : (s : Segment) (p : List Segment) → ends_unspaced p ≡ true → path_text (s ∷ p) ≡ segment_text s ++ (46 ∷ path_text p)
path_more s [] ends = absurd (false≢true ends)
path_more s (r ∷ p) ends = refl

ends_more : (s : Segment) (p : List Segment) → ends_unspaced p ≡ true → ends_unspaced (s ∷ p) ≡ true
ends_more s [] ends = absurd (false≢true ends)
ends_more s (r ∷ p) ends = ends

took_more : (before text white after next rest : Text) (k : Text × Text) (p : List Segment) → IsWhiteSpace before → IsWhiteSpace white
    → key_at text ≡ Some k
    → k.1 ≡ white ++ (46 ∷ (after ++ next)) → Took after next p rest
    → Took before text (record { before = before; key = k.0; spelled = front text k.1; after = white } ∷ p) rest
took_more before text white after next rest k p blank_before blank_after found dot took =
    let (t, spells, parts) = key_takes text k.1 k.0 found in
    let is = sym (front_of text t k.1 parts) in
    let s : Segment = record { before = before; key = k.0; spelled = t; after = white } in
    let whole : before ++ text ≡ path_text (s ∷ p) ++ rest =
    ap (λ (x : Text). before ++ x) (parts ∙ ap (λ (x : Text). t ++ x) (dot ∙ ap (λ (x : Text). white ++ (46 ∷ x)) took.parts))
    ∙ regroup before t white (path_text p) rest
    ∙ ap (λ (x : Text). x ++ rest) (sym (path_more s p took.ends)) in
    subst (λ (x : Text). Took before text (record { before = before; key = k.0; spelled = x; after = white } ∷ p) rest) is (record {
      parts = whole;
      begins = refl;
      ends = ends_more s p took.ends;
      spelled = (spells, took.spelled);
      spaced = ((blank_before, blank_after), took.spaced);
    })

segments_take : (n : ℕ) (before text rest : Text) (p : List Segment) → IsWhiteSpace before → segments_at n before text ≡ Some (p, rest)
    → Took before text p rest
unfolding segments_at
segments_take zero before text rest p white e = absurd cc
segments_take (suc n) before text rest p white e =
    let (k, found, h) = bind_some (key_at text) _ (p, rest) e in
    let w = split_while is_blank k.1 in
    let next = split_while is_blank (drop 1 w.1) in
    elim (chosen (first w.1 == 46) _ _ (Some (p, rest)) h) [
      | inl (dot, g) ↦
          let (q, later, same) =
          map_some (segments_at n next.0 next.1) (λ (q : List Segment
          × Text). (record { before = before; key = k.0; spelled = front text k.1; after = w.0 } ∷ q.0, q.1)) (p, rest) g in
          let there : k.1 ≡ w.0 ++ (46 ∷ (next.0 ++ next.1)) = split_parts is_blank k.1
          ∙ ap (λ (x : Text). w.0 ++ x) (starts w.1 46 dot (omega arith)
          ∙ ap (λ (x : Text). 46 ∷ x) (split_parts is_blank (drop 1 w.1))) in
          subst (λ (y : List Segment × Text). Took before text y.0 y.1) same
          (took_more before text w.0 next.0 next.1 q.1 k q.0 white (Each-run is_blank k.1) found there
          (segments_take n next.0 next.1 q.1 q.0 (Each-run is_blank (drop 1 w.1)) (later ∙ refl)))
      | inr (none, g) ↦
          let same : ◌≡◌ {A = List Segment × Text} (
            record { before = before; key = k.0; spelled = front text k.1; after = [] } ∷ [],
            k.1,
          ) (p, rest) = cc in
          subst (λ (y : List Segment × Text). Took before text y.0 y.1) same (took_last before text k white found)
    ]

-- a key at the front
pub record PathTook (text : Text) (p : List Segment) (rest : Text) : Type 0 where
  pub path : IsPath p
  pub spaced : AllByRecursion IsSpacedSegment p
  pub parts : text ≡ path_text p ++ rest

pub path_takes : (text rest : Text) (p : List Segment) → path_at text ≡ Some (p, rest) → PathTook text p rest
path_takes text rest p e =
    let took = segments_take (length text) [] text rest p refl e in
    record { path = record { begins = took.begins; ends = took.ends; spelled = took.spelled }; spaced = took.spaced; parts = took.parts }

-- a pair up to its value
abbrev pub head_text : Frame → Text
head_text f = f.leading ++ (path_text f.path ++ (f.before_equals ++ (61 ∷ f.after_equals)))

pub head_regroup : (a b c d rest : Text) → a ++ (b ++ (c ++ (61 ∷ (d ++ rest)))) ≡ (a ++ (b ++ (c ++ (61 ∷ d)))) ++ rest
head_regroup a b c d rest = simp append_assoc

-- what is read as a pair up to its value behind this trivia
pub record FrameTook (leading text : Text) (f : Frame) (rest : Text) : Type 0 where
  pub is : IsFrame IsWholeTrivia f
  pub parts : leading ++ text ≡ head_text f ++ rest
  pub leads : f.leading ≡ leading

frame_made : (leading text rest middle : Text) (p : List Segment) (white : Text × Text) → IsWholeTrivia leading → PathTook text p middle
    → AreBlanks white middle rest
    → FrameTook leading text (record { leading = leading; path = p; before_equals = white.0; after_equals = white.1; trailing = [] }) rest
frame_made leading text rest middle p white trivia took (before, after, parts) =
    record {
      is = (
        record { leading = trivia; segments = took.spaced; before_equals = before; after_equals = after; trailing = ([], tt, refl) },
        took.path,
      );
      parts = ap (λ (x : Text). leading ++ x) (took.parts ∙ ap (λ (x : Text). path_text p ++ x) parts)
          ∙ head_regroup leading (path_text p) white.0 white.1 rest;
      leads = refl;
    }

pub frame_takes : (leading text rest : Text) (f : Frame) → IsWholeTrivia leading → frame_at leading text ≡ got f rest
    → FrameTook leading text f rest
frame_takes leading text rest f trivia e =
    let (p, middle, found, h) = follow_got (reading (path_at text)) _ f rest e in
    let (white, signs, same) =
    changed_got (λ (white : Text × Text). record {
      leading = leading;
      path = p;
      before_equals = white.0;
      after_equals =
          white.1;
      trailing = [];
    }) (reading (equals_at middle)) f rest h in
    subst (λ (y : Frame). FrameTook leading text y rest) same
    (frame_made leading text rest middle p white trivia (path_takes text middle p (reading_got (path_at text) p middle found))
    (equals_takes middle rest white (reading_got (equals_at middle) white rest signs)))

-- ---- a key is read again

tail_begins : (p : ℕ → Bool) (s : Segment) (q : List Segment) (rest : Text) → ((c : ℕ) → is_opening c ≡ true → p c ≡ false)
    → SpellsKey s.key s.spelled → p (first (tail_text s q rest)) ≡ false
tail_begins p s [] rest apart is = begins_not p s.spelled rest apart (key_begins s.key s.spelled is)
tail_begins p s (r ∷ q) rest apart is =
    begins_not p s.spelled (s.after ++ (46 ∷ (r.before ++ tail_text r q rest))) apart (key_begins s.key s.spelled is)

-- what ends a key: no byte of a bare key, and no dot behind white space
pub record EndsPath (rest : Text) : Type 0 where
  pub stops : ends_key rest ≡ true
  pub undotted : (first (split_while is_blank rest).1 == 46) ≡ false

segments_again : (p : List Segment) (s : Segment) (n : ℕ) (rest : Text) → ends_unspaced (s ∷ p) ≡ true
    → AllByRecursion IsSpelledSegment (s ∷ p) → AllByRecursion IsSpacedSegment (s ∷ p) → EndsPath rest
    → length p < n → segments_at n s.before (tail_text s p rest) ≡ Some (s ∷ p, rest)
unfolding segments_at
segments_again p s zero rest ends spelled spaced stop room = absurd (omega arith)
segments_again [] s (suc n) rest ends (spells, none) spaced stop room =
    rw (key_again s.key s.spelled rest spells stop.stops, stop.undotted, front_is s.spelled rest)
    (ap (λ (x : Text). Some (record { before = s.before; key = s.key; spelled = s.spelled; after = x } ∷ [], rest))
    (sym (empty_nil s.after ends)))
segments_again (r ∷ p) s (suc n) rest ends (spells, more_spelled) ((before, after), more_spaced) stop room =
    let next = tail_text r p rest in
    let x = r.before ++ next in
    let past_key = blank_first (λ c. ends_key (c ∷ [])) s.after (46 ∷ x) (λ c h. grind (arith, nat_tests)) after refl in
    rw (
      key_again s.key s.spelled (s.after ++ (46 ∷ x)) spells past_key,
      prefix_len-run is_blank s.after (46 ∷ x) after refl,
      take_at s.after (46 ∷ x) _ refl,
      drop_at s.after (46 ∷ x) _ refl,
      prefix_len-run is_blank r.before next more_spaced.0.0
          (tail_begins is_blank r p rest (λ c h. grind (arith, nat_tests)) more_spelled.0),
      take_at r.before next _ refl,
      drop_at r.before next _ refl,
      segments_again p r n rest ends more_spelled more_spaced stop (omega arith),
      front_is s.spelled (s.after ++ (46 ∷ x)),
    ) refl

some_key : (k t rest : Text) → SpellsKey k t → 0 < length t
some_key k t rest is = let (c, cs, e, opening) = key_begins k t is in omega (arith, ap length e)

tail_length : (p : List Segment) (s : Segment) (rest : Text) → AllByRecursion IsSpelledSegment (s ∷ p)
    → length p < length (tail_text s p rest)
tail_length [] s rest (spells, none) = omega (arith, some_key s.key s.spelled rest spells, length-append s.spelled rest)
tail_length (r ∷ p) s rest (spells, more) =
    let next = tail_text r p rest in
    omega (
      arith,
      tail_length p r rest more,
      some_key s.key s.spelled rest spells,
      length-append s.spelled (s.after ++ (46 ∷ (r.before ++ next))),
      length-append s.after (46 ∷ (r.before ++ next)),
      length-append r.before next,
    )

pub path_again : (p : List Segment) (rest : Text) → IsPath p → AllByRecursion IsSpacedSegment p → EndsPath rest
    → path_at (path_text p ++ rest) ≡ Some (p, rest)
path_again [] rest is spaced stop = absurd (false≢true is.begins)
path_again (s ∷ p) rest is spaced stop =
    let before = empty_nil s.before is.begins in
    let same : path_text (s ∷ p) ++ rest ≡ tail_text s p rest = path_tail s p rest is.ends
    ∙ ap (λ (x : Text). x ++ tail_text s p rest) before in
    ap path_at same ∙ ap (λ (x : Text). segments_at (length (tail_text s p rest)) x (tail_text s p rest)) (sym before)
    ∙ segments_again p s (length (tail_text s p rest)) rest is.ends is.spelled spaced stop (tail_length p s rest is.spelled)

pub path_begins : (p : List Segment) → IsPath p → Begins (path_text p)
path_begins [] is = absurd (false≢true is.begins)
path_begins (s ∷ p) is =
    let before = empty_nil s.before is.begins in
    let (c, cs, e, opening) = key_begins s.key s.spelled is.spelled.0 in
    begins_tail s p before (c, cs, e, opening) is.ends
  where
    begins_tail : (s : Segment) (p : List Segment) → s.before ≡ [] → Begins s.spelled → ends_unspaced (s ∷ p) ≡ true
        → Begins (path_text (s ∷ p))
    begins_tail s [] before (c, cs, e, opening) ends =
        (c, cs ++ s.after, ap (λ (x : Text). x ++ (s.spelled ++ s.after)) before ∙ ap (λ (x : Text). x ++ s.after) e, opening)
    begins_tail s (r ∷ p) before (c, cs, e, opening) ends = (
      c,
      (cs ++ s.after) ++ (46 ∷ path_text (r ∷ p)),
      ap (λ (x : Text). (x ++ (s.spelled ++ s.after)) ++ (46 ∷ path_text (r ∷ p))) before
          ∙ ap (λ (x : Text). (x ++ s.after) ++ (46 ∷ path_text (r ∷ p))) e,
      opening,
    )

-- ---- a pair up to its value is read again

-- a pair up to its value behind its trivia, and then this
abbrev pub behind_trivia : Frame → Text → Text
behind_trivia f rest = path_text f.path ++ (f.before_equals ++ (61 ∷ (f.after_equals ++ rest)))

-- the parts of a pair that is read up to its value
pub frame_parts : (leading text rest : Text) (f : Frame) → frame_at leading text ≡ got f rest → leading ++ text ≡ f.leading
    ++ behind_trivia f rest
frame_parts leading text rest f e =
    let (p, middle, found, h) = follow_got (reading (path_at text)) _ f rest e in
    let (white, signs, same) =
    changed_got (λ (white : Text × Text). record {
      leading = leading;
      path = p;
      before_equals = white.0;
      after_equals =
          white.1;
      trailing = [];
    }) (reading (equals_at middle)) f rest h in
    let took = path_takes text middle p (reading_got (path_at text) p middle found) in
    let (before, after, parts) = equals_takes middle rest white (reading_got (equals_at middle) white rest signs) in
    subst (λ (y : Frame). leading ++ text ≡ y.leading ++ behind_trivia y rest) same (ap (λ (x : Text). leading ++ x) (took.parts
    ∙ ap (λ (x : Text). path_text p ++ x) parts))

-- white space and then a byte that is none of a bare key, no white space and no dot
pub ends_path : (b rest : Text) (c : ℕ) → IsWhiteSpace b → ends_key (c ∷ []) ≡ true → is_blank c ≡ false → (c == 46) ≡ false
    → EndsPath (b ++ (c ∷ rest))
ends_path b rest c each key blank dot =
    record {
      stops = blank_first (λ c. ends_key (c ∷ [])) b (c ∷ rest) (λ c h. grind (arith, nat_tests)) each key;
      undotted = ap (λ (x : Text × Text). first x.1 == 46) (split_while-run is_blank b (c ∷ rest) each blank) ∙ dot;
    }

pub frame_again : (MayFollow : Text → Type 0) (f : Frame) (rest : Text) → IsFrame MayFollow f → is_blank (first rest) ≡ false
    → frame_at f.leading (behind_trivia f rest) ≡ got (record f { trailing = [] }) rest
frame_again MayFollow f rest (spaced, path) stop =
    rw (
      path_again f.path (f.before_equals ++ (61 ∷ (f.after_equals ++ rest))) path spaced.segments (ends_path f.before_equals (f.after_equals
          ++ rest) 61 spaced.before_equals refl refl refl),
      equals_again f.before_equals f.after_equals rest spaced.before_equals spaced.after_equals stop,
    ) refl
