-- What stands up to a bracket that is one too many is a text of the grammar but for closing brackets.
use Rattle.std.proofs.Common.{◌≡◌, ℕ, zero, suc, ◌+◌, ◌-◌, ◌*◌, ◌<◌, ◌≤◌, Bool, true, false, cond, ◌==◌, ◌||◌, List, [], ◌∷◌, ◌++◌, ◌⊎◌}
use Rattle.std.proofs.Common.{length, drop, take, refl, sym, ap, subst, ◌∙◌, inl, inr, arith, append_assoc, append-nil, codes}
use Rattle.std.proofs.lemmas.Bool.{eqb-true}
use Rattle.std.proofs.lemmas.Bool.Decides.{nat_tests}
use Rattle.std.proofs.lemmas.List.{length-append, take-append-drop}
use Rattle.std.proofs.lemmas.List.Folds.{list_all-append}
use Rattle.std.specs.List.{list_any}
use Rattle.toml_edit_model.specs.Text.{Text}
use Rattle.toml_edit_model.specs.Trivia.{Each, IsWholeTrivia, IsNewline, IsLineEnd}
use Rattle.toml_edit_model.specs.Syntax.{Frame, Value, array, inline_table, Elements, no_elements, element, Pairs, no_pairs, pair}
use Rattle.toml_edit_model.specs.Syntax.{Statement, key_line, Around, path_text, frame_text, value_text, elements_text, pairs_text}
use Rattle.toml_edit_model.specs.Syntax.{statement_text, mark_text, IsFrame, has_elements, has_pairs, IsValue, AreElements, ArePairs}
use Rattle.toml_edit_model.specs.Syntax.{AreStatements, depth, elements_depth, pairs_depth, nesting_limit}
use Rattle.toml_edit_syntax.specs.declared.event.EventKind.{EventKind}
use Rattle.toml_edit_syntax.specs.declared.event.EventKind.TheVariants.{ArrayOpen, InlineTableOpen, Before, After, TooDeep}
use Rattle.toml_edit_syntax.specs.declared.event.Event.{Event}
use Rattle.toml_edit_laws.specs.reading.Runs.{first}
use Rattle.toml_edit_laws.specs.reading.ScalarReading.{scalar_at}
use Rattle.toml_edit_laws.proofs.reading.Steps.{chosen, starts}
use Rattle.toml_edit_laws.proofs.one_cut.Documents.{ends_weaken, statements_text}
use Rattle.toml_edit_laws.proofs.one_cut.Statements.{IsEnding}
use Rattle.toml_edit_syntax.specs.Scanning.{scan}
use Rattle.toml_edit_syntax.specs.ValueEvents.{event, frame_events, value_events}
use Rattle.toml_edit_syntax.specs.ValueReading.{Reading, got, deep, wrong, follow, changed, behind, inside, trivia_at, frame_at, around}
use Rattle.toml_edit_syntax.specs.ValueReading.{value_from, elements_at, pairs_at}
use Rattle.toml_edit_syntax.specs.Events.{exceeds_depth, has_deep_value, statement_events, is_closing_bracket, OpensTooMany}
use Rattle.toml_edit_syntax.specs.Reading.{end_at, key_line_at, header_at, statement_at, statements_at, is_marked, document, cut_of}
use Rattle.toml_edit_syntax.proofs.ReadingSteps.{trivia_takes}
use Rattle.toml_edit_syntax.proofs.PathLaws.{head_text, FrameTook, frame_takes}
use Rattle.toml_edit_syntax.proofs.ValueTakes.{followed_by, pair_parts, element_then, pair_then, frame_then, value_takes}
use Rattle.toml_edit_syntax.proofs.DeepLaws.{follow_deep, changed_deep, behind_deep, not_deep, wrong_deep, frame_deep, trivia_deep}
use Rattle.toml_edit_syntax.proofs.DeepLaws.{scalar_deep, comma_deep}
use Rattle.toml_edit_syntax.proofs.HeaderLaws.{Entry}
use Rattle.toml_edit_syntax.proofs.StatementLaws.{statement_takes}
use Rattle.toml_edit_syntax.proofs.StatementDeep.{value_then_deep, header_deep}
use Rattle.toml_edit_syntax.proofs.CutLaws.{scanned_trivia, then_statements}
use Rattle.toml_edit_syntax.proofs.DocumentLaws.{marks}

-- ---- what is closed

-- a value that begins so, inside so many brackets
pub record ValueOpens (level : ℕ) (t : Text) : Type 0 where
  pub front : Text
  pub behind_it : Text
  pub closing : Text
  pub value : Value
  pub parts : t ≡ front ++ behind_it
  pub closes : Each is_closing_bracket closing
  pub text : front ++ closing ≡ value_text value
  pub is : IsValue value
  pub deep : nesting_limit < level + depth value

-- elements up to a closing bracket
pub record ElementsOpen (level : ℕ) (t : Text) : Type 0 where
  pub front : Text
  pub behind_it : Text
  pub closing : Text
  pub elements : Elements
  pub parts : t ≡ front ++ behind_it
  pub closes : Each is_closing_bracket closing
  pub text : front ++ closing ≡ elements_text elements
  pub are : AreElements elements
  pub some : has_elements elements ≡ true
  pub deep : nesting_limit < level + elements_depth elements

-- and pairs
pub record PairsOpen (level : ℕ) (t : Text) : Type 0 where
  pub front : Text
  pub behind_it : Text
  pub closing : Text
  pub pairs : Pairs
  pub parts : t ≡ front ++ behind_it
  pub closes : Each is_closing_bracket closing
  pub text : front ++ closing ≡ pairs_text pairs
  pub are : ArePairs pairs
  pub some : has_pairs pairs ≡ true
  pub deep : nesting_limit < level + pairs_depth pairs

abbrev OpensValue : ℕ → Type 0
OpensValue n = (level at : ℕ) (t : Text) → level ≤ nesting_limit → (es : List Event) → value_from n level at t ≡ deep es
    → ValueOpens level t

abbrev OpensElements : ℕ → Type 0
OpensElements n = (level at : ℕ) (comma : Bool) (t : Text) → level ≤ nesting_limit → (es : List Event) → elements_at n level at comma t
    ≡ deep es → ElementsOpen level t

abbrev OpensPairs : ℕ → Type 0
OpensPairs n = (level at : ℕ) (comma : Bool) (t : Text) → level ≤ nesting_limit → (es : List Event) → pairs_at n level at comma t ≡ deep es
    → PairsOpen level t

-- ---- values

nothing : IsWholeTrivia []
nothing = ([], tt, refl)

closes_more : (closing : Text) (bracket : ℕ) → Each is_closing_bracket closing → is_closing_bracket bracket ≡ true
    → Each is_closing_bracket (closing ++ bracket ∷ [])
closes_more closing bracket closes closed = list_all-append is_closing_bracket closing (bracket ∷ []) ∙ rw (closes, closed) refl

bracketed : (front closing bracket : Text) (c : ℕ) → (c ∷ front) ++ (closing ++ bracket) ≡ c ∷ ((front ++ closing) ++ bracket)
bracketed front closing bracket c = ap (λ (x : Text). c ∷ x) (sym (append_assoc front closing bracket))

array_opens : (level : ℕ) (t : Text) → t ≡ 91 ∷ drop 1 t → ElementsOpen (suc level) (drop 1 t) → ValueOpens level t
array_opens level t bracket o =
    record {
      front = 91 ∷ o.front;
      behind_it = o.behind_it;
      closing = o.closing ++ 93 ∷ [];
      value = array o.elements false [];
      parts = bracket ∙ ap (λ (x : Text). 91 ∷ x) o.parts;
      closes = closes_more o.closing 93 o.closes refl;
      text = bracketed o.front o.closing (93 ∷ []) 91 ∙ ap (λ (x : Text). 91 ∷ (x ++ 93 ∷ [])) o.text;
      is = ((nothing, inr refl), o.are);
      deep = omega (arith, o.deep);
    }

inline_table_opens : (level : ℕ) (t : Text) → t ≡ 123 ∷ drop 1 t → PairsOpen (suc level) (drop 1 t) → ValueOpens level t
inline_table_opens level t bracket o =
    record {
      front = 123 ∷ o.front;
      behind_it = o.behind_it;
      closing = o.closing ++ 125 ∷ [];
      value = inline_table o.pairs false [];
      parts = bracket ∙ ap (λ (x : Text). 123 ∷ x) o.parts;
      closes = closes_more o.closing 125 o.closes refl;
      text = bracketed o.front o.closing (125 ∷ []) 123 ∙ ap (λ (x : Text). 123 ∷ (x ++ 125 ∷ [])) o.text;
      is = ((nothing, inr refl), o.are);
      deep = omega (arith, o.deep);
    }

-- the bracket that is one too many
array_full : (level : ℕ) (t : Text) → t ≡ 91 ∷ drop 1 t → level ≡ nesting_limit → ValueOpens level t
array_full level t bracket full =
    record {
      front = 91 ∷ [];
      behind_it = drop 1 t;
      closing = 93 ∷ [];
      value = array no_elements false [];
      parts = bracket;
      closes = refl;
      text = refl;
      is = ((nothing, inl refl), tt);
      deep = omega (arith, full);
    }

inline_table_full : (level : ℕ) (t : Text) → t ≡ 123 ∷ drop 1 t → level ≡ nesting_limit → ValueOpens level t
inline_table_full level t bracket full =
    record {
      front = 123 ∷ [];
      behind_it = drop 1 t;
      closing = 125 ∷ [];
      value = inline_table no_pairs false [];
      parts = bracket;
      closes = refl;
      text = refl;
      is = ((nothing, inl refl), tt);
      deep = omega (arith, full);
    }

cases_open : {A : Type 0} (kind : EventKind) (bracket : Text) (level at : ℕ) (r : Reading A) (es : List Event)
    → inside kind bracket level at r ≡ deep es
    → (level ≡ nesting_limit) ⊎ (((level == nesting_limit) ≡ false) × (ms : List Event) × (r ≡ deep ms))
cases_open kind bracket level at r es e =
    elim (chosen (level == nesting_limit) (deep (event TooDeep at bracket ∷ [])) (behind (event kind at bracket ∷ []) r) (deep es) e) [
      | inl (full, h) ↦ inl (eqb-true level nesting_limit full)
      | inr (room, h) ↦ let (ms, read, parts) = behind_deep (event kind at bracket ∷ []) r es h in inr (room, ms, read)
    ]

value_step : (n : ℕ) → OpensElements n → OpensPairs n → OpensValue (suc n)
unfolding value_from
value_step n elements pairs level at t room es e =
    elim (chosen (first t == 0x5B) _ _ (deep es) e) [
      | inl (bracket, h) ↦
          let inner = elements_at n (suc level) (at + 1) false (drop 1 t) in
          let made = λ (p : Elements × (Bool × Text)). array p.0 p.1.0 p.1.1 in
          let here = starts t 0x5B bracket (omega arith) in
          elim (cases_open ArrayOpen (codes "[") level at (changed made inner) es h) [
            | inl full ↦ array_full level t here full
            | inr (below, ms, read) ↦
                array_opens level t here (elements (suc level) (at
                + 1) false (drop 1 t) (grind (arith, nat_tests)) ms (changed_deep made inner ms read))
          ]
      | inr (other, h) ↦ elim (chosen (first t == 0x7B) _ _ (deep es) h) [
        | inl (bracket, g) ↦
            let inner = pairs_at n (suc level) (at + 1) false (drop 1 t) in
            let made = λ (p : Pairs × (Bool × Text)). inline_table p.0 p.1.0 p.1.1 in
            let here = starts t 0x7B bracket (omega arith) in
            elim (cases_open InlineTableOpen (codes "{") level at (changed made inner) es g) [
              | inl full ↦ inline_table_full level t here full
              | inr (below, ms, read) ↦
                  inline_table_opens level t here (pairs (suc level) (at
                  + 1) false (drop 1 t) (grind (arith, nat_tests)) ms (changed_deep made inner ms read))
            ]
        | inr (neither, g) ↦ absurd (scalar_deep t (scalar_at t) es g)
      ]
    ]

-- ---- items

-- the bracket is in an item's value, or behind the item
cases_item : {A : Type 0} (head : List Event) (r : Reading Value) (next : Value → Text → Text → Reading A) (es : List Event)
    → behind head (follow r (λ v after_value. follow (trivia_at after_value) (next v))) ≡ deep es
    → ((ms : List Event) × (r ≡ deep ms))
    ⊎ ((v : Value) × (after_value after more : Text) × (ms : List Event) × (r ≡ got v after_value) × IsWholeTrivia after
    × (after_value ≡ after ++ more) × (next v after more ≡ deep ms))
cases_item head r next es e =
    let (ms, read, parts) = behind_deep head (follow r (λ v after_value. follow (trivia_at after_value) (next v))) es e in
    elim (follow_deep r (λ v after_value. follow (trivia_at after_value) (next v)) ms read) [
      | inl h ↦ inl (ms, h)
      | inr (v, after_value, found, g) ↦ elim (follow_deep (trivia_at after_value) (next v) ms g) [
        | inl h ↦ absurd (trivia_deep after_value ms h)
        | inr (after, more, trails, h) ↦
            let (trivia, cut) = trivia_takes after_value after more trails in
            inr (v, after_value, after, more, ms, found, trivia, cut, h)
      ]
    ]

regroup : (a b c f rest : Text) → a ++ (b ++ (c ++ (44 ∷ (f ++ rest)))) ≡ (a ++ (b ++ (c ++ (44 ∷ f)))) ++ rest
regroup a b c f rest = simp append_assoc

element_before : (a : Around) (v : Value) (es : Elements) → has_elements es ≡ true → elements_text (element a v es) ≡ a.before
    ++ (value_text v ++ (a.after ++ (44 ∷ elements_text es)))
element_before a v no_elements some = absurd cc
element_before a v (element b u es) some = refl

first_element : (level : ℕ) (t before u : Text) → IsWholeTrivia before → t ≡ before ++ u → ValueOpens level u → ElementsOpen level t
first_element level t before u trivia parts o =
    record {
      front = before ++ o.front;
      behind_it = o.behind_it;
      closing = o.closing;
      elements = element (around before []) o.value no_elements;
      parts = parts ∙ ap (λ (x : Text). before ++ x) o.parts ∙ sym (append_assoc before o.front o.behind_it);
      closes = o.closes;
      text = append_assoc before o.front o.closing ∙ ap (λ (x : Text). before ++ x) (o.text ∙ sym (append-nil (value_text o.value)));
      are = (trivia, nothing, o.is, tt);
      some = refl;
      deep = omega (arith, o.deep);
    }

later_element : (level : ℕ) (t before u : Text) (v : Value) (after_value after more : Text) → IsWholeTrivia before → IsWholeTrivia after
    → IsValue v
    → t ≡ before ++ u → u ≡ value_text v ++ after_value → after_value ≡ after ++ more → more ≡ 44 ∷ drop 1 more
    → ElementsOpen level (drop 1 more) → ElementsOpen level t
later_element level t before u v after_value after more leads trails is parts value cut sign o =
    record {
      front = before ++ (value_text v ++ (after ++ (44 ∷ o.front)));
      behind_it = o.behind_it;
      closing = o.closing;
      elements = element (around before after) v o.elements;
      parts = parts ∙ ap (λ (x : Text). before ++ x) (value
          ∙ ap (λ (x : Text). value_text v ++ x) (cut ∙ ap (λ (x : Text). after ++ x) (sign ∙ ap (λ (x : Text). 44 ∷ x) o.parts)))
          ∙ regroup before (value_text v) after o.front o.behind_it;
      closes = o.closes;
      text = sym (regroup before (value_text v) after o.front o.closing)
          ∙ ap (λ (x : Text). before ++ (value_text v ++ (after ++ (44 ∷ x)))) o.text
          ∙ sym (element_before (around before after) v o.elements o.some);
      are = (leads, trails, is, o.are);
      some = refl;
      deep = omega (arith, o.deep);
    }

elements_value : (n level at : ℕ) (t before u : Text) → level ≤ nesting_limit → OpensValue n → OpensElements n → IsWholeTrivia before → t
    ≡ before ++ u → (es : List Event)
    → behind (event Before at before ∷ []) (follow (value_from n level (at + length before) u)
    (λ v after_value. follow (trivia_at after_value) (element_then n level (at + length before) before v))) ≡ deep es
    → ElementsOpen level t
elements_value n level at t before u room value elements trivia parts es e =
    let start = at + length before in
    elim (cases_item (event Before at before ∷ []) (value_from n level start u) (element_then n level start before) es e) [
      | inl (ms, read) ↦ first_element level t before u trivia parts (value level start u room ms read)
      | inr (v, after_value, after, more, ms, found, trails, cut, h) ↦
          let took = value_takes n level start u v after_value room found in
          let next = start + length (value_text v) + length after + 1 in
          let (sign, ks, inner, joined) =
          comma_deep t 0x5D more (value_events start v ++ event After (start + length (value_text v)) after
          ∷ []) (elements_at n level next true (drop 1 more)) (λ (x : Elements). element (around before after) v x)
          (element (around before after) v no_elements) ms h in
          later_element level t before u v after_value after more trivia trails took.is parts took.parts cut sign
          (elements level next true (drop 1 more) room ks inner)
    ]

elements_step : (n : ℕ) → OpensValue n → OpensElements n → OpensElements (suc n)
unfolding value_from
elements_step n value elements level at comma t room es e =
    elim (follow_deep (trivia_at t) _ es e) [
      | inl h ↦ absurd (trivia_deep t es h)
      | inr (before, u, leads, h) ↦
          let (trivia, parts) = trivia_takes t before u leads in
          elim (chosen (first u == 0x5D) _ _ (deep es) h) [
            | inl (bracket, g) ↦ absurd (not_deep (no_elements, (comma, before)) (drop 1 u) es g)
            | inr (goes, g) ↦ elements_value n level at t before u room value elements trivia parts es g
          ]
    ]

-- a pair with this after its value
framed : (MayFollow : Text → Type 0) (f : Frame) (after : Text) → IsFrame IsWholeTrivia f → MayFollow after
    → IsFrame MayFollow (followed_by f after)
framed MayFollow f after (spaced, path) follows = (
  record {
    leading = spaced.leading;
    segments = spaced.segments;
    before_equals = spaced.before_equals;
    after_equals =
        spaced.after_equals;
    trailing = follows;
  },
  path,
)

pair_before : (f : Frame) (v : Value) (ps : Pairs) → has_pairs ps ≡ true → pairs_text (pair f v ps) ≡ frame_text f (value_text v)
    ++ (44 ∷ pairs_text ps)
pair_before f v no_pairs some = absurd cc
pair_before f v (pair g u ps) some = refl

-- a value behind the front of a pair
headed : (f : Frame) (front closing v : Text) → front ++ closing ≡ v → (head_text f ++ front) ++ closing ≡ frame_text (followed_by f []) v
headed f front closing v e =
    append_assoc (head_text f) front closing ∙ ap (λ (x : Text). head_text f ++ x) (e ∙ sym (append-nil v)) ∙ pair_parts f v [] []
    ∙ append-nil (frame_text (followed_by f []) v)

first_pair : (level : ℕ) (t leading key u : Text) (f : Frame) → t ≡ leading ++ key → FrameTook leading key f u → ValueOpens level u
    → PairsOpen level t
first_pair level t leading key u f parts frame o =
    record {
      front = head_text f ++ o.front;
      behind_it = o.behind_it;
      closing = o.closing;
      pairs = pair (followed_by f []) o.value no_pairs;
      parts = parts ∙ frame.parts ∙ ap (λ (x : Text). head_text f ++ x) o.parts ∙ sym (append_assoc (head_text f) o.front o.behind_it);
      closes = o.closes;
      text = headed f o.front o.closing (value_text o.value) o.text;
      are = (framed IsWholeTrivia f [] frame.is nothing, o.is, tt);
      some = refl;
      deep = omega (arith, o.deep);
    }

later_pair : (level : ℕ) (t leading key u : Text) (f : Frame) (v : Value) (after_value after more : Text) → t ≡ leading ++ key
    → FrameTook leading key f u → IsWholeTrivia after → IsValue v
    → u ≡ value_text v ++ after_value → after_value ≡ after ++ more → more ≡ 44 ∷ drop 1 more → PairsOpen level (drop 1 more)
    → PairsOpen level t
later_pair level t leading key u f v after_value after more parts frame trails is value cut sign o =
    let whole = frame_text (followed_by f after) (value_text v) in
    record {
      front = whole ++ (44 ∷ o.front);
      behind_it = o.behind_it;
      closing = o.closing;
      pairs = pair (followed_by f after) v o.pairs;
      parts = parts ∙ frame.parts ∙ ap (λ (x : Text). head_text f ++ x) (value ∙ ap (λ (x : Text). value_text v ++ x) cut)
          ∙ pair_parts f (value_text v) after more
          ∙ ap (λ (x : Text). whole ++ x) (sign ∙ ap (λ (x : Text). 44 ∷ x) o.parts) ∙ sym (append_assoc whole (44 ∷ o.front) o.behind_it);
      closes = o.closes;
      text = append_assoc whole (44 ∷ o.front) o.closing ∙ ap (λ (x : Text). whole ++ (44 ∷ x)) o.text
          ∙ sym (pair_before (followed_by f after) v o.pairs o.some);
      are = (framed IsWholeTrivia f after frame.is trails, is, o.are);
      some = refl;
      deep = omega (arith, o.deep);
    }

pairs_value : (n level at start : ℕ) (t leading key u : Text) (f : Frame) → level ≤ nesting_limit → OpensValue n → OpensPairs n → t
    ≡ leading ++ key → FrameTook leading key f u → (es : List Event)
    → behind (frame_events at f) (follow (value_from n level start u)
    (λ v after_value. follow (trivia_at after_value) (pair_then n level start f v))) ≡ deep es
    → PairsOpen level t
pairs_value n level at start t leading key u f room value pairs parts frame es e =
    elim (cases_item (frame_events at f) (value_from n level start u) (pair_then n level start f) es e) [
      | inl (ms, read) ↦ first_pair level t leading key u f parts frame (value level start u room ms read)
      | inr (v, after_value, after, more, ms, found, trails, cut, h) ↦
          let took = value_takes n level start u v after_value room found in
          let next = start + length (value_text v) + length after + 1 in
          let (sign, ks, inner, joined) =
          comma_deep t 0x7D more (value_events start v ++ event After (start + length (value_text v)) after
          ∷ []) (pairs_at n level next true (drop 1 more)) (λ (x : Pairs). pair (followed_by f after) v x)
          (pair (followed_by f after) v no_pairs) ms h in
          later_pair level t leading key u f v after_value after more parts frame trails took.is took.parts cut sign
          (pairs level next true (drop 1 more) room ks inner)
    ]

pairs_step : (n : ℕ) → OpensValue n → OpensPairs n → OpensPairs (suc n)
unfolding value_from
pairs_step n value pairs level at comma t room es e =
    elim (follow_deep (trivia_at t) _ es e) [
      | inl h ↦ absurd (trivia_deep t es h)
      | inr (leading, key, leads, h) ↦
          let (trivia, parts) = trivia_takes t leading key leads in
          elim (chosen (first key == 0x7D) _ _ (deep es) h) [
            | inl (bracket, g) ↦ absurd (not_deep (no_pairs, (comma, leading)) (drop 1 key) es g)
            | inr (goes, g) ↦ elim (follow_deep (frame_at leading key) (frame_then n level at leading key) es g) [
              | inl bad ↦ absurd (frame_deep leading key es bad)
              | inr (f, u, found, rest) ↦
                  pairs_value n level at (at + (length key + length leading) - length u) t leading key u f room value pairs parts
                  (frame_takes leading key u f trivia found) es rest
            ]
          ]
    ]

mutual
  unfolding value_from

  pub value_opens : (n : ℕ) → OpensValue n
  value_opens zero = λ level at t room es e. absurd (wrong_deep es e)
  value_opens (suc n) = value_step n (elements_open n) (pairs_open n)

  pub elements_open : (n : ℕ) → OpensElements n
  elements_open zero = λ level at comma t room es e. absurd (wrong_deep es e)
  elements_open (suc n) = elements_step n (value_opens n) (elements_open n)

  pub pairs_open : (n : ℕ) → OpensPairs n
  pairs_open zero = λ level at comma t room es e. absurd (wrong_deep es e)
  pairs_open (suc n) = pairs_step n (value_opens n) (pairs_open n)

-- ---- statements

-- statements that begin so
record StatementsOpen (t : Text) : Type 0 where
  front : Text
  behind_it : Text
  closing : Text
  here : Statement
  others : List Statement
  parts : t ≡ front ++ behind_it
  closes : Each is_closing_bracket closing
  text : front ++ closing ≡ statements_text (here ∷ others)
  are : AreStatements [] (here ∷ others)
  some : 0 < length front
  deep : list_any has_deep_value (here ∷ others) ≡ true

pub exceeding : (v : Value) → nesting_limit < 0 + depth v → exceeds_depth v ≡ true
exceeding v big = let more : nesting_limit < depth v = omega (arith, big) in grind (arith, nat_tests)

some_head : (f : Frame) (front : Text) → 0 < length (head_text f ++ front)
some_head f front =
    omega (
      arith,
      length-append (head_text f) front,
      length-append f.leading (path_text f.path ++ (f.before_equals ++ (61 ∷ f.after_equals))),
      length-append (path_text f.path) (f.before_equals ++ (61 ∷ f.after_equals)),
      length-append f.before_equals (61 ∷ f.after_equals),
    )

key_line_opens : (leading text u : Text) (f : Frame) → FrameTook leading text f u → ValueOpens 0 u → StatementsOpen (leading ++ text)
key_line_opens leading text u f frame o =
    let whole = frame_text (followed_by f []) (value_text o.value) in
    let deep_value : exceeds_depth o.value ≡ true = exceeding o.value o.deep in
    record {
      front = head_text f ++ o.front;
      behind_it = o.behind_it;
      closing = o.closing;
      here = key_line (followed_by f []) o.value [];
      others = [];
      parts = frame.parts ∙ ap (λ (x : Text). head_text f ++ x) o.parts ∙ sym (append_assoc (head_text f) o.front o.behind_it);
      closes = o.closes;
      text = headed f o.front o.closing (value_text o.value) o.text ∙ sym (append-nil whole) ∙ sym (append-nil (whole ++ []));
      are = (framed IsLineEnd f [] frame.is ([], [], refl, inl refl, refl), o.is, inr (refl, refl));
      some = some_head f o.front;
      deep = rw deep_value refl;
    }

line_opens : (at : ℕ) (leading text : Text) (es : List Event) → IsWholeTrivia leading → key_line_at 0 at leading text ≡ deep es
    → StatementsOpen (leading ++ text)
unfolding key_line_at
line_opens at leading text es trivia e =
    elim (follow_deep (frame_at leading text) _ es e) [
      | inl h ↦ absurd (frame_deep leading text es h)
      | inr (f, u, found, g) ↦
          let start = at + (length text + length leading) - length u in
          let n = 2 * length u + 2 in
          let (ms, read, joined) = behind_deep (frame_events at f) _ es g in
          let made = λ (v : Value) (e : Text × Text). key_line (followed_by f e.0) v e.1 in
          key_line_opens leading text u f (frame_takes leading text u f trivia found)
          (value_opens n 0 start u (omega arith) ms (value_then_deep (value_from n 0 start u) made end_at ms read))
    ]

statement_opens : (at : ℕ) (leading text : Text) (es : List Event) → IsWholeTrivia leading → statement_at 0 at leading text ≡ deep es
    → StatementsOpen (leading ++ text)
unfolding statement_at
statement_opens at leading text es trivia e =
    elim (chosen (first text == 0x5B) (header_at leading text) (key_line_at 0 at leading text) (deep es) e) [
      | inl (here, h) ↦ absurd (header_deep leading text es h)
      | inr (other, h) ↦ line_opens at leading text es trivia h
    ]

newline_before : (end rest : Text) → 0 < length rest → IsEnding end rest → IsNewline end
newline_before end rest some (inl newline) = newline
newline_before end rest some (inr (nothing_there, ended)) = absurd (omega (arith, some, ap length ended))

later_statement : (t rest : Text) (s : Statement) → Entry t s rest → StatementsOpen rest → StatementsOpen t
later_statement t rest s (is, parts) o =
    let more : 0 < length rest = omega (arith, o.some, ap length o.parts, length-append o.front o.behind_it) in
    let later : list_any has_deep_value (o.here ∷ o.others) ≡ true = o.deep in
    record {
      front = statement_text s ++ o.front;
      behind_it = o.behind_it;
      closing = o.closing;
      here = s;
      others = o.here ∷ o.others;
      parts = parts ∙ ap (λ (x : Text). statement_text s ++ x) o.parts ∙ sym (append_assoc (statement_text s) o.front o.behind_it);
      closes = o.closes;
      text = append_assoc (statement_text s) o.front o.closing ∙ ap (λ (x : Text). statement_text s ++ x) o.text;
      are = (ends_weaken (λ end. IsEnding end rest) IsNewline s (λ end ending. newline_before end rest more ending) is, o.are);
      some = omega (arith, o.some, length-append (statement_text s) o.front);
      deep = either (has_deep_value s) _ later;
    }
  where
    either : (a b : Bool) → b ≡ true → (a || b) ≡ true
    either true b h = refl
    either false b h = h

later_opens : (n at : ℕ) (t : Text) (es : List Event) → (scan false t).1 ≡ false
    → ((next : ℕ) (rest : Text) (ms : List Event) → statements_at n 0 next rest ≡ deep ms → StatementsOpen rest)
    → follow (statement_at 0 at (take (scan false t).0 t) (drop (scan false t).0 t)) (then_statements n 0 at t) ≡ deep es → StatementsOpen t
later_opens n at t es outside later e =
    let leading = take (scan false t).0 t in
    let tail = drop (scan false t).0 t in
    let trivia = scanned_trivia t outside in
    let both : leading ++ tail ≡ t = take-append-drop (scan false t).0 t in
    subst StatementsOpen both (elim (follow_deep (statement_at 0 at leading tail) (then_statements n 0 at t) es e) [
      | inl h ↦ statement_opens at leading tail es trivia h
      | inr (s, rest, found, h) ↦
          let next = at + (length t - length rest) in
          let add = λ (ss : List Statement). s ∷ ss in
          let (ms, read, joined) = behind_deep (statement_events at s) (changed add (statements_at n 0 next rest)) es h in
          later_statement (leading ++ tail) rest s (statement_takes at leading tail rest s trivia found)
          (later next rest ms (changed_deep add (statements_at n 0 next rest) ms read))
    ])

statements_open : (n at : ℕ) (t : Text) (es : List Event) → statements_at n 0 at t ≡ deep es → StatementsOpen t
unfolding statements_at
statements_open zero at t es e = absurd (wrong_deep es e)
statements_open (suc n) at t es e =
    elim (chosen (length (drop (scan false t).0 t) == 0) (got [] t) _ (deep es) e) [
      | inl (ended, h) ↦ absurd (not_deep [] t es h)
      | inr (goes, h) ↦ elim (chosen (scan false t).1 wrong _ (deep es) h) [
        | inl (inside, bad) ↦ absurd (wrong_deep es bad)
        | inr (outside, g) ↦ later_opens n at t es outside (λ next rest ms read. statements_open n next rest ms read) g
      ]
    ]

-- ---- texts

document_opens : (t rest : Text) → t ≡ mark_text (is_marked t) ++ rest → StatementsOpen rest → OpensTooMany t
document_opens t rest marked o =
    let mark = mark_text (is_marked t) in
    let ss = o.here ∷ o.others in
    record {
      front = mark ++ o.front;
      behind_it = o.behind_it;
      closing = o.closing;
      document = document (is_marked t) ss [];
      parts = marked ∙ ap (λ (x : Text). mark ++ x) o.parts ∙ sym (append_assoc mark o.front o.behind_it);
      closes = o.closes;
      cut = (
        (o.are, ([], [], nothing, inl refl, refl)),
        sym (append_assoc mark o.front o.closing ∙ ap (λ (x : Text). mark ++ x) (o.text ∙ sym (append-nil (statements_text ss)))),
      );
      deep = o.deep;
    }

pub text_opens : (t : Text) (es : List Event) → cut_of 0 t ≡ deep es → OpensTooMany t
unfolding cut_of
text_opens t es e =
    let behind_mark = cond (is_marked t) (drop 3 t) t in
    let at = length (mark_text (is_marked t)) in
    elim (follow_deep (statements_at (suc (length t)) 0 at behind_mark) (λ ss final. got (document (is_marked t) ss final) []) es e) [
      | inl h ↦ document_opens t behind_mark (marks t behind_mark refl) (statements_open (suc (length t)) at behind_mark es h)
      | inr (ss, final, found, h) ↦ absurd (not_deep (document (is_marked t) ss final) [] es h)
    ]
