-- A value has no faults exactly where it is right.
use Rattle.std.proofs.Common.{◌≡◌, refl, sym, ◌∙◌, ap, ℕ, suc, ◌+◌, ◌≤◌, arith, Bool, true, false, List, [], ◌∷◌, ◌++◌, length, Option}
use Rattle.std.proofs.Common.{Some, None}
use Rattle.std.specs.Prelude.{◌&&◌, ◌||◌, ◌==◌, ◌↔◌, Contains, not, nat_le, max, find, map, is_some, if◌then◌else◌}
use Rattle.std.specs.List.{list_all}
use Rattle.std.proofs.lemmas.List.Folds.{list_all-map}
use Rattle.std.proofs.lemmas.Bool.{le-leb, lt-leb, leb-true, leb-false}
use Rattle.std.proofs.lemmas.Bool.Decides.{Decides-eqb}
use Rattle.toml_edit_model.specs.Text.{is_empty}
use Rattle.toml_edit_model.specs.Spelling.{is_in_range}
use Rattle.toml_edit_model.specs.Syntax.{Segment, Value, scalar, array, inline_table, Elements, no_elements, element, Pairs, no_pairs, pair}
use Rattle.toml_edit_model.specs.Syntax.{value_text, frame_text, path_text, depth, elements_depth, pairs_depth, nesting_limit, is_short}
use Rattle.toml_edit_model.specs.Syntax.{has_short_keys, elements_have_short_keys, pairs_have_short_keys, keeps_ranges}
use Rattle.toml_edit_model.specs.Syntax.{elements_keep_ranges, pairs_keep_ranges}
use Rattle.toml_edit_model.specs.Paths.{to_key, Path, same_path, Mention, PairSource, next_start, line_mentions, pair_mentions}
use Rattle.toml_edit_model.specs.Accepted.{agree, all_agree, has_agreeing_pairs, elements_have_agreeing_pairs, pairs_have_agreeing_pairs}
use Rattle.toml_edit_model.specs.Faults.{Fault, fault, recursion_limit, range_message, clash, first_clash, pair_clash, pair_clashes}
use Rattle.toml_edit_model.specs.Faults.{long_path, deep_bracket, value_faults, elements_faults, pairs_faults}
use Rattle.toml_edit_laws.proofs.common.Tests.{and_left, and_right, and_both, and-assoc, true-false}
use Rattle.toml_edit_laws.proofs.common.Cores.{Core, core, cores}
use Rattle.toml_edit_laws.proofs.common.Agreement.{and-swap-inner, agree-all}
use Rattle.toml_edit_model.specs.Roles.{Role, dotted_role, may_meet_inline}
use Rattle.toml_edit_model.specs.Lone.{is_accepted_value}

-- ---- lists that are empty

pub is_empty-append : {A : Type 0} (xs ys : List A) → is_empty (xs ++ ys) ≡ (is_empty xs && is_empty ys)
is_empty-append [] ys = refl
is_empty-append (x ∷ xs) ys = refl

pub is_empty-nil : {A : Type 0} (xs : List A) → is_empty xs ≡ true → xs ≡ []
is_empty-nil [] h = refl
is_empty-nil (x ∷ xs) h = absurd cc

-- ---- mentions that agree clash nowhere

-- the two may meet at their paths
abbrev may_stand : {S : Type 0} → (Role → Role → Bool) → Mention S → Mention S → Bool
may_stand may m n = not (same_path m.path n.path) || may m.role n.role

agree-more : {S : Type 0} (may : Role → Role → Bool) (earlier : List (Mention S)) (n : Mention S) (later : List (Mention S))
    → agree may earlier (n ∷ later) ≡ (list_all (λ m. may_stand may m n) earlier && agree may earlier later)
agree-more may [] n later = refl
agree-more may (m ∷ earlier) n later =
    ap (λ b. (may_stand may m n && list_all (may_stand may m) later) && b) (agree-more may earlier n later)
    ∙ and-swap-inner (may_stand may m n) (list_all (may_stand may m) later) (list_all (λ m. may_stand may m n) earlier)
    (agree may earlier later)

found-clash : {S : Type 0} (may : Role → Role → Bool) (earlier : List (Mention S)) (n : Mention S)
    → not (is_some (find (clash may n) earlier)) ≡ list_all (λ m. may_stand may m n) earlier
found-clash may [] n = refl
found-clash may (m ∷ earlier) n = by_test (same_path m.path n.path) (may m.role n.role) (found-clash may earlier n)
  where
    by_test : (a b : Bool) → not (is_some (find (clash may n) earlier)) ≡ list_all (λ m. may_stand may m n) earlier
        → not (is_some (if a && not b then Some m else find (clash may n) earlier))
        ≡ ((not a || b) && list_all (λ m. may_stand may m n) earlier)
    by_test true true ih = ih
    by_test true false ih = refl
    by_test false b ih = ih

no-clash : {S : Type 0} (may : Role → Role → Bool) (earlier later : List (Mention S))
    → not (is_some (first_clash may earlier later)) ≡ agree may earlier later
no-clash may earlier [] = none earlier
  where
    none : {S : Type 0} (ms : List (Mention S)) → true ≡ agree may ms []
    none [] = refl
    none (m ∷ ms) = none ms
no-clash {S} may earlier (n ∷ later) = by_found (find (clash may n) earlier) refl (no-clash may earlier later)
  where
    by_found : (o : Option (Mention S)) → find (clash may n) earlier ≡ o → not (is_some (first_clash may earlier later))
        ≡ agree may earlier later
        → not (is_some (first_clash may earlier (n ∷ later))) ≡ agree may earlier (n ∷ later)
    by_found None e ih =
        rw e (ih ∙ ap (λ b. b && agree may earlier later) (sym (ap (λ o. not (is_some o)) e) ∙ found-clash may earlier n)
        ∙ sym (agree-more may earlier n later))
    by_found (Some m) e ih =
        rw e (ap (λ b. b && agree may earlier later) (sym (ap (λ o. not (is_some o)) e) ∙ found-clash may earlier n)
        ∙ sym (agree-more may earlier n later))

is_empty-clash : (o : Option (Mention PairSource × Mention PairSource)) → is_empty (pair_clash o) ≡ not (is_some o)
is_empty-clash None = refl
is_empty-clash (Some p) = refl

no-clashes : (earlier : List (Mention PairSource)) (mss : List (List (Mention PairSource)))
    → is_empty (pair_clashes earlier mss) ≡ (list_all (agree may_meet_inline earlier) mss && all_agree may_meet_inline mss)
no-clashes earlier [] = refl
no-clashes earlier (ms ∷ mss) =
    is_empty-append (pair_clash (first_clash may_meet_inline earlier ms)) (pair_clashes (earlier ++ ms) mss)
    ∙ ap (λ b. b && is_empty (pair_clashes (earlier ++ ms) mss))
    (is_empty-clash (first_clash may_meet_inline earlier ms) ∙ no-clash may_meet_inline earlier ms)
    ∙ ap (λ b. agree may_meet_inline earlier ms && b)
    (no-clashes (earlier ++ ms) mss
    ∙ ap (λ b. b && all_agree may_meet_inline mss) (agree-all may_meet_inline earlier ms mss)
    ∙ and-assoc (list_all (agree may_meet_inline earlier) mss) (list_all (agree may_meet_inline ms) mss) (all_agree may_meet_inline mss))
    ∙ sym (and-assoc (agree may_meet_inline earlier ms) (list_all (agree may_meet_inline earlier) mss)
    (list_all (agree may_meet_inline ms) mss && all_agree may_meet_inline mss))

-- ---- agreement is of paths and roles alone

abbrev parts_agree : (Role → Role → Bool) → List Core → List Core → Bool
parts_agree may earlier later = list_all (λ (m : Core). list_all (λ (n : Core). not (same_path m.0 n.0) || may m.1 n.1) later) earlier

abbrev all_parts_agree : (Role → Role → Bool) → List (List Core) → Bool
all_parts_agree may [] = true
all_parts_agree may (m ∷ rest) = list_all (parts_agree may m) rest && all_parts_agree may rest

agree-parts : {S : Type 0} (may : Role → Role → Bool) (earlier later : List (Mention S)) → agree may earlier later
    ≡ parts_agree may (cores earlier) (cores later)
agree-parts may [] later = refl
agree-parts may (m ∷ earlier) later =
    ap (λ b. b && agree may earlier later) (sym (list_all-map (λ (n : Core). not (same_path m.path n.0) || may m.role n.1) core later))
    ∙ ap (λ b. list_all (λ (n : Core). not (same_path m.path n.0) || may m.role n.1) (cores later) && b) (agree-parts may earlier later)

each-parts : {S : Type 0} (may : Role → Role → Bool) (ms : List (Mention S)) (mss : List (List (Mention S)))
    → list_all (agree may ms) mss ≡ list_all (parts_agree may (cores ms)) (map cores mss)
each-parts may ms [] = refl
each-parts may ms (ns ∷ mss) =
    ap (λ b. b && list_all (agree may ms) mss) (agree-parts may ms ns)
    ∙ ap (λ b. parts_agree may (cores ms) (cores ns) && b) (each-parts may ms mss)

all-parts : {S : Type 0} (may : Role → Role → Bool) (mss : List (List (Mention S))) → all_agree may mss
    ≡ all_parts_agree may (map cores mss)
all-parts may [] = refl
all-parts may (ms ∷ mss) =
    ap (λ b. b && all_agree may mss) (each-parts may ms mss)
    ∙ ap (λ b. list_all (parts_agree may (cores ms)) (map cores mss) && b) (all-parts may mss)

-- the same path anywhere, in any source
line-parts : {S : Type 0} (x y : S) (i j : ℕ) (p : Path) (ss : List Segment) → cores (line_mentions x i p ss)
    ≡ cores (line_mentions y j p ss)
line-parts x y i j p [] = refl
line-parts x y i j p (s ∷ []) = refl
line-parts x y i j p (s ∷ r ∷ rest) =
    ap (λ ps. (to_key p s.key, dotted_role) ∷ ps) (line-parts x y (next_start i s) (next_start j s) (to_key p s.key) (r ∷ rest))

pairs-parts : (i j m n : ℕ) (ps : Pairs) → map cores (pair_mentions i ps) ≡ map cores (pair_mentions j ps)
pairs-parts i j m n no_pairs = refl
pairs-parts i j m n (pair f v ps) =
    ap (λ ms. ms ∷ map cores (pair_mentions (i + length (frame_text f (value_text v)) + 1) ps))
    (line-parts (record { frame = f; value = v }) (record { frame = f; value = v }) (i + length f.leading) (j + length f.leading) [] f.path)
    ∙ ap (λ mss. cores {S = PairSource} (line_mentions (record { frame = f; value = v }) (j + length f.leading) [] f.path) ∷ mss)
    (pairs-parts (i + length (frame_text f (value_text v)) + 1) (j + length (frame_text f (value_text v)) + 1) (suc m) (suc n) ps)

-- Where the pairs stand does not matter.
pub agree-anywhere : (may : Role → Role → Bool) (i j m n : ℕ) (ps : Pairs) → all_agree may (pair_mentions i ps)
    ≡ all_agree may (pair_mentions j ps)
agree-anywhere may i j m n ps =
    all-parts may (pair_mentions i ps) ∙ ap (all_parts_agree may) (pairs-parts i j m n ps) ∙ sym (all-parts may (pair_mentions j ps))

pub is_empty-clashes : (start : ℕ) (ps : Pairs) → is_empty (pair_clashes [] (pair_mentions start ps))
    ≡ all_agree may_meet_inline (pair_mentions 0 ps)
is_empty-clashes start ps =
    no-clashes [] (pair_mentions start ps)
    ∙ ap (λ b. b && all_agree may_meet_inline (pair_mentions start ps)) (none (pair_mentions start ps))
    ∙ agree-anywhere may_meet_inline start 0 0 0 ps
  where
    none : (mss : List (List (Mention PairSource))) → list_all (agree may_meet_inline []) mss ≡ true
    none [] = refl
    none (ms ∷ mss) = none mss

-- ---- limits

deep-or : (a b c : ℕ) → nat_le (a + max b c) nesting_limit ≡ (nat_le (a + b) nesting_limit && nat_le (a + c) nesting_limit)
deep-or a b c = by_test (nat_le (a + b) nesting_limit) (nat_le (a + c) nesting_limit) refl refl
  where
    by_test : (x y : Bool) → nat_le (a + b) nesting_limit ≡ x → nat_le (a + c) nesting_limit ≡ y → nat_le (a + max b c) nesting_limit
        ≡ (x && y)
    by_test true true e g =
        let p = leb-true (a + b) nesting_limit e in
        let q = leb-true (a + c) nesting_limit g in
        le-leb (a + max b c) nesting_limit (omega arith)
    by_test true false e g =
        let q = leb-false (a + c) nesting_limit g in
        lt-leb (a + max b c) nesting_limit (omega arith)
    by_test false y e g =
        let q = leb-false (a + b) nesting_limit e in
        lt-leb (a + max b c) nesting_limit (omega arith)

-- the value is right inside so many brackets, and so are the elements and the pairs
abbrev right_at : ℕ → Value → Bool
right_at level v = nat_le (level + depth v) nesting_limit && (has_short_keys v && (keeps_ranges v && has_agreeing_pairs v))

abbrev elements_right_at : ℕ → Elements → Bool
elements_right_at level es =
    nat_le (level + elements_depth es) nesting_limit && (elements_have_short_keys es
    && (elements_keep_ranges es && elements_have_agreeing_pairs es))

abbrev pairs_right_at : ℕ → Pairs → Bool
pairs_right_at level ps =
    nat_le (level + pairs_depth ps) nesting_limit && (pairs_have_short_keys ps && (pairs_keep_ranges ps && pairs_have_agreeing_pairs ps))

-- four tests of two things
and-four : (n m k j r q p o : Bool)
    → ((n && (k && (r && p))) && (m && (j && (q && o)))) ≡ ((n && m) && ((k && j) && ((r && q) && (p && o))))
and-four n m k j r q p o =
    and-swap-inner n (k && (r && p)) m (j && (q && o))
    ∙ ap (λ b. (n && m) && b) (and-swap-inner k (r && p) j (q && o) ∙ ap (λ b. (k && j) && b) (and-swap-inner r p q o))

-- a test more at another place
and-second : (c n k : Bool) → (c && (n && k)) ≡ (n && (c && k))
and-second true n k = refl
and-second false true k = refl
and-second false false k = refl

and-last : (c n k r p : Bool) → (c && (n && (k && (r && p)))) ≡ (n && (k && (r && (c && p))))
and-last c n k r p =
    and-second c n (k && (r && p)) ∙ ap (λ b. n && b) (and-second c k (r && p) ∙ ap (λ b. k && b) (and-second c r p))

-- what stands inside one more bracket
inside-bracket : (level start d : ℕ) (fs : List Fault) (b : Bool) → level ≤ nesting_limit
    → (suc level ≤ nesting_limit → is_empty fs ≡ (nat_le (suc level + d) nesting_limit && b))
    → is_empty (deep_bracket level start ++ fs) ≡ (nat_le (level + suc d) nesting_limit && b)
inside-bracket level start d fs b h inside = by_test (level == nesting_limit) refl (fault recursion_limit start 1)
  where
    by_test : (x : Bool) → (level == nesting_limit) ≡ x → (f : Fault)
        → is_empty ((if x then f ∷ [] else []) ++ fs) ≡ (nat_le (level + suc d) nesting_limit && b)
    by_test true e f =
        let same : level ≡ nesting_limit = (Decides-eqb level nesting_limit).0 e in
        ap (λ x. x && b) (sym (lt-leb (level + suc d) nesting_limit (omega arith)))
    by_test false e f =
        let less : suc level ≤ nesting_limit =
        omega (
          arith,
          λ (same : level ≡ nesting_limit). true-false {A =
              ⊥} (level == nesting_limit) ((Decides-eqb level nesting_limit).1 same) e,
        ) in
        inside less ∙ ap (λ n. nat_le n nesting_limit && b) (let here : suc level + d ≡ level + suc d = omega arith in here)

both-right : (level d e : ℕ) (k j r q p o : Bool)
    → ((nat_le (level + d) nesting_limit && (k && (r && p))) && (nat_le (level + e) nesting_limit && (j && (q && o))))
    ≡ (nat_le (level + max d e) nesting_limit && ((k && j) && ((r && q) && (p && o))))
both-right level d e k j r q p o =
    and-four (nat_le (level + d) nesting_limit) (nat_le (level + e) nesting_limit) k j r q p o
    ∙ ap (λ b. b && ((k && j) && ((r && q) && (p && o)))) (sym (deep-or level d e))

mutual
  -- inside so many brackets a value has no faults exactly where it is right there
  right-value : (v : Value) (start level : ℕ) → level ≤ nesting_limit → is_empty (value_faults v start level) ≡ right_at level v
  right-value (scalar s t) start level h =
      in-range (is_in_range s t) (fault (range_message s) start (length t))
      ∙ ap (λ b. b && (is_in_range s t && true)) (sym (le-leb (level + 0) nesting_limit (omega arith)))
    where
      in-range : (b : Bool) (f : Fault) → is_empty (if b then [] else f ∷ []) ≡ (b && true)
      in-range true f = refl
      in-range false f = refl
  right-value (array es comma t) start level h =
      inside-bracket level start (elements_depth es) (elements_faults es (start + 1) (suc level))
      (elements_have_short_keys es && (elements_keep_ranges es && elements_have_agreeing_pairs es)) h
      (λ less. right-elements es (start + 1) (suc level) less)
  right-value (inline_table ps comma t) start level h =
      let clashes : List Fault = pair_clashes [] (pair_mentions (start + 1) ps) in
      let apart : Bool = all_agree may_meet_inline (pair_mentions 0 ps) in
      inside-bracket level start (pairs_depth ps) (clashes ++ pairs_faults ps (start + 1) (suc level))
      (pairs_have_short_keys ps && (pairs_keep_ranges ps && (apart && pairs_have_agreeing_pairs ps))) h
      (λ less. is_empty-append clashes (pairs_faults ps (start + 1) (suc level))
      ∙ ap (λ b. b && is_empty (pairs_faults ps (start + 1) (suc level))) (is_empty-clashes (start + 1) ps)
      ∙ ap (λ b. apart && b) (right-pairs ps (start + 1) (suc level) less)
      ∙ and-last apart (nat_le (suc level + pairs_depth ps) nesting_limit) (pairs_have_short_keys ps) (pairs_keep_ranges ps)
      (pairs_have_agreeing_pairs ps))

  right-elements : (es : Elements) (start level : ℕ) → level ≤ nesting_limit → is_empty (elements_faults es start level)
      ≡ elements_right_at level es
  right-elements no_elements start level h = ap (λ b. b && true) (sym (le-leb (level + 0) nesting_limit (omega arith)))
  right-elements (element a v es) start level h =
      let next : ℕ = start + length a.before + length (value_text v) + length a.after + 1 in
      is_empty-append (value_faults v (start + length a.before) level) (elements_faults es next level)
      ∙ ap (λ b. b && is_empty (elements_faults es next level)) (right-value v (start + length a.before) level h)
      ∙ ap (λ b. right_at level v && b) (right-elements es next level h)
      ∙ both-right level (depth v) (elements_depth es) (has_short_keys v) (elements_have_short_keys es)
      (keeps_ranges v) (elements_keep_ranges es) (has_agreeing_pairs v) (elements_have_agreeing_pairs es)

  right-pairs : (ps : Pairs) (start level : ℕ) → level ≤ nesting_limit → is_empty (pairs_faults ps start level) ≡ pairs_right_at level ps
  right-pairs no_pairs start level h = ap (λ b. b && true) (sym (le-leb (level + 0) nesting_limit (omega arith)))
  right-pairs (pair f v ps) start level h =
      let here : ℕ = start + length f.leading + length (path_text f.path) + length f.before_equals + 1 + length f.after_equals in
      let next : ℕ = start + length (frame_text f (value_text v)) + 1 in
      let both = both-right level (depth v) (pairs_depth ps) (has_short_keys v) (pairs_have_short_keys ps)
      (keeps_ranges v) (pairs_keep_ranges ps) (has_agreeing_pairs v) (pairs_have_agreeing_pairs ps) in
      is_empty-append (long_path f.path) (value_faults v here level ++ pairs_faults ps next level)
      ∙ ap (λ b. b && is_empty (value_faults v here level ++ pairs_faults ps next level))
      (short (is_short f.path) (record { message = recursion_limit; span = None }))
      ∙ ap (λ b. is_short f.path && b)
      (is_empty-append (value_faults v here level) (pairs_faults ps next level)
      ∙ ap (λ b. b && is_empty (pairs_faults ps next level)) (right-value v here level h)
      ∙ ap (λ b. right_at level v && b) (right-pairs ps next level h)
      ∙ both)
      ∙ and-second (is_short f.path) (nat_le (level + max (depth v) (pairs_depth ps)) nesting_limit)
      ((has_short_keys v && pairs_have_short_keys ps) && ((keeps_ranges v && pairs_keep_ranges ps)
      && (has_agreeing_pairs v && pairs_have_agreeing_pairs ps)))
      ∙ ap (λ b. nat_le (level + max (depth v) (pairs_depth ps)) nesting_limit && b)
      (sym (and-assoc (is_short f.path) (has_short_keys v && pairs_have_short_keys ps)
      ((keeps_ranges v && pairs_keep_ranges ps) && (has_agreeing_pairs v && pairs_have_agreeing_pairs ps))))
    where
      short : (b : Bool) (f : Fault) → is_empty (if b then [] else f ∷ []) ≡ b
      short true f = refl
      short false f = refl

-- ---- right values

-- Inside so many brackets a value has no faults exactly where it is right there.
pub value_faults_right : (v : Value) (start level : ℕ) → level ≤ nesting_limit
    → (value_faults v start level ≡ [])
    ↔ (((level + depth v ≤ nesting_limit) × (has_short_keys v ≡ true)) × (keeps_ranges v ≡ true) × (has_agreeing_pairs v ≡ true))
value_faults_right v start level h = (
  λ none. apart (sym (right-value v start level h) ∙ ap is_empty none),
  λ right. is_empty-nil (value_faults v start level) (right-value v start level h ∙ together right.0.0 right.0.1 right.1 right.2),
)
  where
    apart : right_at level v ≡ true → (((level + depth v ≤ nesting_limit) × (has_short_keys v ≡ true)) × (keeps_ranges v ≡ true)
        × (has_agreeing_pairs v ≡ true))
    apart e =
        let others = and_right (nat_le (level + depth v) nesting_limit) (has_short_keys v && (keeps_ranges v && has_agreeing_pairs v)) e in
        let last = and_right (has_short_keys v) (keeps_ranges v && has_agreeing_pairs v) others in (
          (
            leb-true (level + depth v) nesting_limit (and_left (nat_le (level + depth v) nesting_limit) (has_short_keys v
                && (keeps_ranges v && has_agreeing_pairs v)) e),
            and_left (has_short_keys v) (keeps_ranges v && has_agreeing_pairs v) others,
          ),
          and_left (keeps_ranges v) (has_agreeing_pairs v) last,
          and_right (keeps_ranges v) (has_agreeing_pairs v) last,
        )

    together : level + depth v ≤ nesting_limit → has_short_keys v ≡ true → keeps_ranges v ≡ true → has_agreeing_pairs v ≡ true
        → right_at level v ≡ true
    together d k r p =
        and_both (nat_le (level + depth v) nesting_limit) (has_short_keys v
        && (keeps_ranges v && has_agreeing_pairs v)) (le-leb (level + depth v) nesting_limit d)
        (and_both (has_short_keys v) (keeps_ranges v && has_agreeing_pairs v) k (and_both (keeps_ranges v) (has_agreeing_pairs v) r p))

-- The value of a line is right exactly where it has no faults.
pub is_right_value-faults : (v : Value) (start : ℕ) → is_empty (value_faults v start 0) ≡ is_accepted_value v
is_right_value-faults v start =
    right-value v start 0 (omega arith)
    ∙ ap (λ n. nat_le n nesting_limit && (has_short_keys v && (keeps_ranges v && has_agreeing_pairs v))) (let here : 0 + depth v ≡ depth v =
    omega arith in here)
    ∙ sym (and-assoc (nat_le (depth v) nesting_limit) (has_short_keys v) (keeps_ranges v && has_agreeing_pairs v))
    ∙ sym (and-assoc (nat_le (depth v) nesting_limit && has_short_keys v) (keeps_ranges v) (has_agreeing_pairs v))

-- A value with a fault is not.
pub wrong_by-fault : (v : Value) (start : ℕ) (f : Fault) → Contains (value_faults v start 0) f → is_accepted_value v ≡ false
wrong_by-fault v start f h = sym (is_right_value-faults v start) ∙ some (value_faults v start 0) h
  where
    some : (fs : List Fault) → Contains fs f → is_empty fs ≡ false
    some [] (i, less, is) = absurd (omega arith)
    some (g ∷ gs) c = refl
