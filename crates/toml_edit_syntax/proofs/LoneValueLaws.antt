-- A lone value: what reads as one is one, and one is read again, up to a bracket that is one too many.
use Rattle.std.proofs.Common.{◌≡◌, ℕ, ◌+◌, ◌*◌, Bool, true, cond, ◌==◌, List, [], ◌++◌, ◌⊎◌, length, IsUtf8, Some, None, refl, sym, ap}
use Rattle.std.proofs.Common.{subst, ◌∙◌, inl, inr, arith, append-nil, append_assoc, eqb-true}
use Rattle.std.proofs.lemmas.Bool.{false≢true}
use Rattle.std.proofs.lemmas.Bool.Decides.{nat_tests}
use Rattle.std.proofs.lemmas.List.{nil_from_length}
use Rattle.std.proofs.lemmas.Option.{none-some, same_Some}
use Rattle.toml_edit_model.specs.Text.{Text}
use Rattle.toml_edit_model.specs.Trivia.{is_blank, IsWhiteSpace}
use Rattle.toml_edit_model.specs.Syntax.{Value, value_text, IsValue, depth}
use Rattle.toml_edit_model.specs.Lone.{IsLoneValue}
use Rattle.toml_edit_syntax.specs.declared.event.Event.{Event}
use Rattle.toml_edit_laws.specs.reading.Runs.{split_while}
use Rattle.toml_edit_laws.specs.reading.ScalarReading.{ends_scalar}
use Rattle.toml_edit_syntax.specs.ValueEvents.{value_events, shortened, are_deep}
use Rattle.toml_edit_syntax.specs.ValueReading.{Reading, got, deep, wrong, follow, value_from}
use Rattle.toml_edit_syntax.specs.Reading.{events_seen, lone_at, lone_read}
use Rattle.toml_edit_syntax.specs.LoneEvents.{AreLoneEvents, ValueOpensTooMany}
use Rattle.toml_edit_laws.proofs.reading.Steps.{chosen, split_parts}
use Rattle.toml_edit_laws.proofs.reading.RunLaws.{Each-run, split_while-run}
use Rattle.toml_edit_laws.proofs.reading.Begins.{StartsAscii, ascii_blank}
use Rattle.toml_edit_syntax.proofs.ReadingSteps.{same_got, follow_got}
use Rattle.toml_edit_syntax.proofs.ShortenedLaws.{value_stays, cases_fits}
use Rattle.toml_edit_syntax.proofs.ValueTakes.{value_takes}
use Rattle.toml_edit_syntax.proofs.Outcomes.{value_begins, value_begins_not, outcome, has_room, has_room_true, has_room_false}
use Rattle.toml_edit_syntax.proofs.Outcomes.{follow_outcome}
use Rattle.toml_edit_syntax.proofs.ValueAgain.{value_reads}
use Rattle.toml_edit_laws.proofs.one_cut.Values.{one_value}
use Rattle.toml_edit_laws.proofs.one_cut.Statements.{blank_ends}
use Rattle.toml_edit_syntax.proofs.SpanLaws.{Cut, AreSpans, value_spans}
use Rattle.toml_edit_syntax.proofs.DeepEvents.{value_is_deep}
use Rattle.toml_edit_syntax.specs.Events.{exceeds_depth}
use Rattle.toml_edit_syntax.proofs.TooManyLaws.{ValueOpens, exceeding, value_opens}
use Rattle.toml_edit_syntax.proofs.DeepLaws.{follow_deep, not_deep, wrong_deep, DeepIn, value_stops_in}

-- ---- what is read

-- white space ends a value
white_ends : (t : Text) → IsWhiteSpace t → ends_scalar t ≡ true
white_ends t white = ap ends_scalar (sym (append-nil t)) ∙ blank_ends t [] white refl

-- white space alone
all_white : (t : Text) → (length (split_while is_blank t).1 == 0) ≡ true → IsWhiteSpace t
all_white t nothing =
    let rest : (split_while is_blank t).1 ≡ [] = nil_from_length (split_while is_blank t).1 (eqb-true _ _ nothing) in
    let whole : t ≡ (split_while is_blank t).0 = split_parts is_blank t ∙ ap (λ (x : Text). (split_while is_blank t).0 ++ x) rest
    ∙ append-nil (split_while is_blank t).0 in
    subst IsWhiteSpace (sym whole) (Each-run is_blank t)

white_whole : (t : Text) → IsWhiteSpace t → (length (split_while is_blank t).1 == 0) ≡ true
white_whole t white =
    ap (λ (x : Text). length (split_while is_blank x).1 == 0) (sym (append-nil t))
    ∙ ap (λ (x : Text × Text). length x.1 == 0) (split_while-run is_blank t [] white refl)

pub lone_takes : (t rest : Text) (v : Value) → lone_at t ≡ got v rest → (lone : IsLoneValue t v)
    × (lone.before ≡ (split_while is_blank t).0) × (lone.after ≡ rest)
unfolding lone_at
lone_takes t rest v e =
    let white = split_while is_blank t in
    let (u, after, found, g) = follow_got (value_from (2 * length white.1 + 2) 0 (length white.0) white.1) _ v rest e in
    elim (chosen (length (split_while is_blank after).1 == 0) (got u after) wrong (got v rest) g) [
      | inl (nothing, h) ↦
          let took = value_takes (2 * length white.1 + 2) 0 (length white.0) white.1 u after (omega arith) found in
          let (same, last) = same_got u v after rest h in
          let parts : t ≡ white.0 ++ (value_text v ++ rest) = split_parts is_blank t
          ∙ ap (λ (x : Text). white.0 ++ x) (took.parts ∙ ap (λ (y : Value). value_text y ++ after) same
          ∙ ap (λ (x : Text). value_text v ++ x) last) in (
            record {
              before = white.0;
              after = rest;
              parts = parts;
              white_before = Each-run is_blank t;
              white_after =
                  subst IsWhiteSpace last (all_white after nothing);
              value = subst IsValue same took.is;
            },
            refl,
            refl,
          )
      | inr (some, h) ↦ absurd cc
    ]

-- ---- a lone value is read again

before_value : (t : Text) (v : Value) (lone : IsLoneValue t v) → split_while is_blank t ≡ (lone.before, value_text v ++ lone.after)
before_value t v lone =
    let stop = value_begins_not is_blank (value_text v) lone.after (λ c h. grind (arith, nat_tests)) (value_begins v lone.value) in
    ap (split_while is_blank) lone.parts ∙ split_while-run is_blank lone.before (value_text v ++ lone.after) lone.white_before stop

lone_open : (t a b : Text) → split_while is_blank t ≡ (a, b) → lone_at t
    ≡ follow (value_from (2 * length b + 2) 0 (length a) b)
    (λ u after. cond (length (split_while is_blank after).1 == 0) (got u after) wrong)
unfolding lone_at
lone_open t a b e = ap (λ (p : Text × Text). follow (value_from (2 * length p.1 + 2) 0 (length p.0) p.1)
    (λ u after. cond (length (split_while is_blank after).1 == 0) (got u after) wrong)) e

pub lone_reads : (t : Text) (v : Value) (lone : IsLoneValue t v) → lone_at t
    ≡ outcome (has_room 0 (depth v)) v lone.after (shortened 0 (value_events (length lone.before) v))
lone_reads t v lone =
    let u = value_text v ++ lone.after in
    let at = length lone.before in
    let read = value_reads (2 * length u + 2) v 0 at lone.after lone.value (white_ends lone.after lone.white_after) (omega arith) in
    lone_open t lone.before u (before_value t v lone)
    ∙ ap (λ (r : Reading Value). follow r (λ u after. cond (length (split_while is_blank after).1 == 0) (got u after) wrong)) read
    ∙ follow_outcome (λ u after. cond (length (split_while is_blank after).1 == 0) (got u after) wrong) (has_room 0 (depth v)) v lone.after
    (shortened 0 (value_events at v)) v lone.after
    (ap (λ (b : Bool). cond b (got v lone.after) wrong) (white_whole lone.after lone.white_after))

-- what the text of a lone value comes to
pub lone_text_reads : (t : Text) (v : Value) (lone : IsLoneValue t v) → lone_read t
    ≡ Some (shortened 0 (value_events (length lone.before) v))
lone_text_reads t v lone =
    let at = length lone.before in
    let es = value_events at v in
    ap (λ (k : ℕ). events_seen (λ (u : Value) (_ : Text). value_events k u) (lone_at t))
    (ap (λ (p : Text × Text). length p.0) (before_value t v lone))
    ∙ ap (events_seen (λ (u : Value) (_ : Text). value_events at u)) (lone_reads t v lone)
    ∙ elim (cases_fits 0 (depth v)) [
      | inl big ↦ ap (λ (b : Bool). events_seen (λ (u : Value) (_ : Text). value_events at u) (outcome b v lone.after (shortened 0 es)))
          (has_room_false 0 (depth v) big)
      | inr fits ↦
          ap (λ (b : Bool). events_seen (λ (u : Value) (_ : Text). value_events at u) (outcome b v lone.after (shortened 0 es)))
          (has_room_true 0 (depth v) fits)
          ∙ ap Some (sym (ap (shortened 0) (sym (append-nil es)) ∙ value_stays v 0 at fits [] ∙ append-nil es))
    ]

pub one_lone_value : (t : Text) (v other : Value) → IsLoneValue t v → IsLoneValue t other → other ≡ v
one_lone_value t v other lone also =
    let same : value_text other ++ also.after ≡ value_text v ++ lone.after =
    ap (λ (p : Text × Text). p.1) (sym (before_value t other also) ∙ before_value t v lone) in
    (one_value other v also.after lone.after also.value lone.value (white_ends also.after also.white_after)
    (white_ends lone.after lone.white_after) same).0

-- ---- these events are those of the text

cases_read : (f : Value → Text → List Event) (r : Reading Value) (es : List Event) → events_seen f r ≡ Some es
    → ((v : Value) × (rest : Text) × (r ≡ got v rest) × (f v rest ≡ es)) ⊎ (r ≡ deep es)
cases_read f (got v rest) es e = inl (v, rest, refl, same_Some (f v rest) es e)
cases_read f (deep ms) es e = inr (ap deep (same_Some ms es e))
cases_read f wrong es e = absurd (none-some es e)

value_cut : (t : Text) → Cut t (length (split_while is_blank t).0) (split_while is_blank t).1
value_cut t = record { before = (split_while is_blank t).0; parts = split_parts is_blank t; len = refl }

lone_stops_in : (t : Text) (es : List Event) → IsUtf8 t → lone_at t ≡ deep es → DeepIn t es
unfolding lone_at
lone_stops_in t es utf8 e =
    let white = split_while is_blank t in
    let n = 2 * length white.1 + 2 in
    elim (follow_deep (value_from n 0 (length white.0) white.1) _ es e) [
      | inl h ↦ (value_stops_in n t white.1 0 (length white.0) utf8 (omega arith) (value_cut t) es h).1
      | inr (v, rest, found, h) ↦ elim (chosen (length (split_while is_blank rest).1 == 0) (got v rest) wrong (deep es) h) [
        | inl (nothing, g) ↦ absurd (not_deep v rest es g)
        | inr (some, g) ↦ absurd (wrong_deep es g)
      ]
    ]

-- closing brackets behind a front make it a lone value
lone_opens : (t : Text) → ValueOpens 0 (split_while is_blank t).1 → ValueOpensTooMany t
lone_opens t o =
    let white = (split_while is_blank t).0 in
    record {
      front = white ++ o.front;
      behind_it = o.behind_it;
      closing = o.closing;
      value = o.value;
      parts = split_parts is_blank t ∙ ap (λ (x : Text). white ++ x) o.parts ∙ sym (append_assoc white o.front o.behind_it);
      closes = o.closes;
      lone = record {
        before = white;
        after = [];
        parts = append_assoc white o.front o.closing ∙ ap (λ (x : Text). white ++ x) (o.text ∙ sym (append-nil (value_text o.value)));
        white_before = Each-run is_blank t;
        white_after = refl;
        value = o.is;
      };
      deep = exceeding o.value o.deep;
    }

-- a lone value that is too deep is such a front itself
deep_alone : (t : Text) (v : Value) → IsLoneValue t v → exceeds_depth v ≡ true → ValueOpensTooMany t
deep_alone t v lone exceeds =
    record {
      front = t;
      behind_it = [];
      closing = [];
      value = v;
      parts = sym (append-nil t);
      closes = refl;
      lone = subst (λ (x : Text). IsLoneValue x v) (sym (append-nil t)) lone;
      deep = exceeds;
    }

stops_open : (t : Text) (es : List Event) → lone_at t ≡ deep es → ValueOpensTooMany t
unfolding lone_at
stops_open t es e =
    let white = split_while is_blank t in
    let n = 2 * length white.1 + 2 in
    elim (follow_deep (value_from n 0 (length white.0) white.1) _ es e) [
      | inl h ↦ lone_opens t (value_opens n 0 (length white.0) white.1 (omega arith) es h)
      | inr (v, rest, found, h) ↦ elim (chosen (length (split_while is_blank rest).1 == 0) (got v rest) wrong (deep es) h) [
        | inl (nothing, g) ↦ absurd (not_deep v rest es g)
        | inr (some, g) ↦ absurd (wrong_deep es g)
      ]
    ]

pub are_lone_events : (t : Text) (es : List Event) → IsUtf8 t → lone_read t ≡ Some es → AreLoneEvents t es
are_lone_events t es utf8 h =
    let every : (v : Value) (lone : IsLoneValue t v) → es ≡ shortened 0 (value_events (length lone.before) v) =
    λ v lone. same_Some es (shortened 0 (value_events (length lone.before) v)) (sym h ∙ lone_text_reads t v lone) in
    record {
      every = every;
      deep = λ v lone. ap are_deep (every v lone) ∙ value_is_deep v (length lone.before);
      has_value = λ shallow. elim (cases_read (λ v _. value_events (length (split_while is_blank t).0) v) (lone_at t) es h) [
        | inl (v, rest, read, same) ↦ (v, (lone_takes t rest v read).0)
        | inr stops ↦ absurd (false≢true (sym shallow ∙ (lone_stops_in t es utf8 stops).0))
      ];
      only = λ v other lone also. one_lone_value t v other lone also;
      brackets = λ short. elim (cases_read (λ v _. value_events (length (split_while is_blank t).0) v) (lone_at t) es h) [
        | inl (v, rest, read, same) ↦
            let lone = (lone_takes t rest v read).0 in
            deep_alone t v lone (sym (ap are_deep (every v lone) ∙ value_is_deep v (length lone.before)) ∙ short)
        | inr stops ↦ stops_open t es stops
      ];
    }

-- each lies on the boundaries of characters
pub lone_spans_read : (t : Text) (es : List Event) → IsUtf8 t → lone_read t ≡ Some es → AreSpans t es
lone_spans_read t es utf8 h =
    elim (cases_read (λ v _. value_events (length (split_while is_blank t).0) v) (lone_at t) es h) [
      | inl (v, rest, read, same) ↦
          let (lone, before, after) = lone_takes t rest v read in
          let c : Cut t (length lone.before) (value_text v ++ lone.after) =
          record { before = lone.before; parts = lone.parts; len = refl } in
          let ascii : StartsAscii lone.after =
          subst StartsAscii (append-nil lone.after) (ascii_blank lone.after [] lone.white_after (omega arith)) in
          let spans = value_spans v t lone.after (length lone.before) lone.value ascii c in
          subst (AreSpans t) (ap (λ (x : Text). value_events (length x) v) before ∙ same) spans
      | inr stops ↦ (lone_stops_in t es utf8 stops).1
    ]

-- a text that is a lone value is read
pub has_lone_events : (t : Text) (v : Value) → IsLoneValue t v → lone_read t ≡ None → ⊥
has_lone_events t v lone none = none-some (shortened 0 (value_events (length lone.before) v)) (sym none ∙ lone_text_reads t v lone)
