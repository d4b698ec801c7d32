-- An accepted document means what its mentions tell.
use Rattle.std.proofs.Common.{◌≡◌, ◌⊎◌, ◌<◌, ◌≤◌, ℕ, zero, suc, ◌+◌, refl, sym, ap, subst, ◌∙◌, arith, inl, inr, true, false, Bool, List}
use Rattle.std.proofs.Common.{[], ◌∷◌, ◌++◌, append_assoc, append-nil, length}
use Rattle.std.specs.Prelude.{flat_map, if◌then◌else◌, filter}
use Rattle.std.specs.List.{AllByRecursion}
use Rattle.toml_edit_model.specs.Text.{Text, is_empty}
use Rattle.toml_edit_model.specs.Syntax.{Segment, Frame, Header, Value, Statement, key_line, header}
use Rattle.toml_edit_model.specs.Paths.{at_key, Path, same_path, to_key, to_element, Mention, Source, Placed, Context, mention_of}
use Rattle.toml_edit_model.specs.Paths.{line_mentions, header_mentions, header_path, next_start, elements_at, in_last, passing_role}
use Rattle.toml_edit_model.specs.Paths.{path_start, source_of, mentions_of, context_after, placed_from}
use Rattle.toml_edit_model.specs.Meaning.{Fact, fact, a_table, an_array, below_keys, value_facts, tables_along, parent}
use Rattle.toml_edit_model.specs.Meaning.{element_header_facts, header_facts, statement_facts, facts_from}
use Rattle.toml_edit_laws.specs.OneByOne.{is_right_after, all_right_after}
use Rattle.toml_edit_laws.proofs.common.Tests.{and_left, and_right}
use Rattle.toml_edit_laws.proofs.common.Members.{Among, among-left, among-right, among-cases}
use Rattle.toml_edit_laws.proofs.clashes.ClashCounts.{count_at}
use Rattle.toml_edit_laws.proofs.clashes.ClashContext.{HasKey, AreBefore, before_next}
use Rattle.toml_edit_laws.proofs.read_trees.FactsTold.{role_told, mention_told, Tells}
use Rattle.toml_edit_laws.proofs.read_trees.WaysOfPaths.{count-more}
use Rattle.toml_edit_laws.proofs.read_trees.ReadSoFar.{with-one}
use Rattle.toml_edit_laws.proofs.mentions.Placed.{mentions_in, right-agrees, path-ends}
use Rattle.toml_edit_laws.proofs.common.PathLaws.{parent-last, same_path-refl, same_path-is}
use Rattle.toml_edit_laws.proofs.common.TablesAlong.{tables-key, tables-element}
use Rattle.toml_edit_model.specs.Roles.{Role, header_role, array_role, is_array_role}

-- what mentions tell
abbrev pub all_told : List (Mention Source) → List Fact
all_told ms = flat_map (mention_told []) ms

told-among : (ms : List (Mention Source)) (m : Mention Source) (f : Fact) → Among m ms → Among f (mention_told [] m) → Among f (all_told ms)
told-among [] m f a t = elim a [ ]
told-among (n ∷ ms) m f (inl e) t = among-left f (mention_told [] n) (all_told ms) (subst (λ k. Among f (mention_told [] k)) e t)
told-among (n ∷ ms) m f (inr a) t = among-right f (mention_told [] n) (all_told ms) (told-among ms m f a t)

among-told : (ms : List (Mention Source)) (f : Fact) → Among f (all_told ms) → (m : Mention Source) × Among m ms
    × Among f (mention_told [] m)
among-told [] f a = elim a [ ]
among-told (n ∷ ms) f a =
    elim (among-cases f (mention_told [] n) (all_told ms) a) [
      | inl b ↦ (n, inl refl, b)
      | inr b ↦ let found = among-told ms f b in (found.0, inr found.1, found.2)
    ]

-- ---- one statement

line-told : (c : Context) (f : Frame) (v : Value) (end : Text) (start : ℕ) (p : Path) (ss : List Segment) → is_empty ss ≡ false
    → below_keys p ss (value_facts v) ≡ all_told (line_mentions (source_of c (key_line f v end)) start p ss)
line-told c f v end start p [] some = absurd cc
line-told c f v end start p (s ∷ []) some = sym (append-nil (value_facts v (to_key p s.key)))
line-told c f v end start p (s ∷ r ∷ rest) some =
    ap (λ fs. fact (to_key p s.key) a_table ∷ fs) (line-told c f v end (next_start start s) (to_key p s.key) (r ∷ rest) refl)

-- a header's mentions tell of the tables along its path, and what the last one tells
header-told : (source : Source) (arrays : List Path) (role : Role) (final : Path → List Fact)
    → ((p : Path) (k : Text) → tables_along [] p ++ (role_told role source.statement (to_key p k) ++ []) ≡ final (to_key p k))
    → (start : ℕ) (p : Path) (ss : List Segment) → is_empty ss ≡ false
    → tables_along [] p ++ all_told (header_mentions source arrays role start p ss) ≡ final (header_path arrays p ss)
header-told source arrays role final base start p [] some = absurd cc
header-told source arrays role final base start p (s ∷ []) some = base p s.key
header-told source arrays role final base start p (s ∷ r ∷ rest) some =
    by_count (elements_at arrays (to_key p s.key))
    (header-told source arrays role final base (next_start start s) (in_last (elements_at arrays (to_key p s.key)) (to_key p s.key)) (r
    ∷ rest) refl)
  where
    here : Path
    here = to_key p s.key

    others : ℕ → List Fact
    others n = all_told (header_mentions source arrays role (next_start start s) (in_last n (to_key p s.key)) (r ∷ rest))

    by_count : (n : ℕ)
        → tables_along [] (in_last n (to_key p s.key)) ++ all_told
        (header_mentions source arrays role (next_start start s) (in_last n (to_key p s.key)) (r ∷ rest))
        ≡ final (header_path arrays (in_last n (to_key p s.key)) (r ∷ rest))
        → tables_along [] p ++ (mention_told [] (mention_of source start (to_key p s.key) (passing_role n) s)
        ++ all_told (header_mentions source arrays role (next_start start s) (in_last n (to_key p s.key)) (r ∷ rest)))
        ≡ final (header_path arrays (in_last n (to_key p s.key)) (r ∷ rest))
    by_count zero ih =
        let later = all_told (header_mentions source arrays role (next_start start s) (to_key p s.key) (r ∷ rest)) in
        sym (append_assoc (tables_along [] p) (fact (to_key p s.key) a_table ∷ []) later)
        ∙ ap (λ fs. fs ++ later) (sym (tables-key p s.key)) ∙ ih
    by_count (suc n) ih =
        let later = all_told (header_mentions source arrays role (next_start start s) (to_element (to_key p s.key) n) (r ∷ rest)) in
        ap (λ fs. fs ++ later) (sym (tables-element p s.key n)) ∙ ih

plain-base : (st : Statement) (p : Path) (k : Text) → tables_along [] p ++ (role_told header_role st (to_key p k) ++ [])
    ≡ tables_along [] (to_key p k)
plain-base st p k = sym (tables-key p k)

abbrev array_final : Path → List Fact
array_final p = tables_along [] (parent p) ++ (fact p an_array ∷ [])

array-base : (st : Statement) (p : Path) (k : Text) → tables_along [] p ++ (role_told array_role st (to_key p k) ++ [])
    ≡ array_final (to_key p k)
array-base st p k = ap (λ q. tables_along [] q ++ (fact (to_key p k) an_array ∷ [])) (sym (parent-last p (at_key k)))

-- What a header tells: of the tables along its path; in double brackets of the array, and of the element.
module _ (c : Context) (h : Header) (end : Text) (keyed : is_empty h.path ≡ false) where
  plain-facts : h.is_array ≡ false → all_told (mentions_of c (header h end)) ≡ tables_along [] (header_path c.arrays [] h.path)
  plain-facts e =
      let source = source_of c (header h end) in
      let start = c.start + path_start (header h end) in
      ap (λ b. all_told (header_mentions source c.arrays (if b then array_role else header_role) start [] h.path)) e
      ∙ header-told source c.arrays header_role (tables_along []) (plain-base (header h end)) start [] h.path keyed

  array-facts : h.is_array ≡ true → all_told (mentions_of c (header h end)) ≡ array_final (header_path c.arrays [] h.path)
  array-facts e =
      let source = source_of c (header h end) in
      let start = c.start + path_start (header h end) in
      ap (λ b. all_told (header_mentions source c.arrays (if b then array_role else header_role) start [] h.path)) e
      ∙ header-told source c.arrays array_role array_final (array-base (header h end)) start [] h.path keyed

  -- its own facts
  header-is : (b : Bool) → h.is_array ≡ b
      → header_facts c h ≡ all_told (mentions_of c (header h end))
      ++ (if b then fact (to_element (header_path c.arrays [] h.path) (elements_at c.arrays (header_path c.arrays [] h.path))) a_table ∷ []
      else [])
  header-is false e =
      let p = header_path c.arrays [] h.path in
      ap (λ b. if b then element_header_facts p (elements_at c.arrays p) else tables_along [] p) e
      ∙ sym (plain-facts e) ∙ sym (append-nil (all_told (mentions_of c (header h end))))
  header-is true e =
      let p = header_path c.arrays [] h.path in
      ap (λ b. if b then element_header_facts p (elements_at c.arrays p) else tables_along [] p) e
      ∙ sym (append_assoc (tables_along [] (parent p)) (fact p an_array ∷ []) (fact (to_element p (elements_at c.arrays p)) a_table ∷ []))
      ∙ ap (λ fs. fs ++ (fact (to_element p (elements_at c.arrays p)) a_table ∷ [])) (sym (array-facts e))

  -- the tables along the block that it opens are among them
  block-told : (b : Bool) → h.is_array ≡ b → (f : Fact)
      → Among f (tables_along [] (if b then to_element (header_path c.arrays [] h.path)
      (elements_at c.arrays (header_path c.arrays [] h.path)) else header_path c.arrays [] h.path))
      → Among f (all_told (mentions_of c (header h end)))
  block-told false e f a = subst (Among f) (sym (plain-facts e)) a
  block-told true e f a =
      let p = header_path c.arrays [] h.path in
      let ends = path-ends c.arrays [] h.path keyed in
      let along : tables_along [] (to_element p (elements_at c.arrays p)) ≡ tables_along [] (parent p) =
      ap (λ q. tables_along [] (to_element q (elements_at c.arrays p))) ends.2 ∙ tables-element ends.0 ends.1 (elements_at c.arrays p)
      ∙ ap (tables_along []) (sym (ap parent ends.2 ∙ parent-last ends.0 (at_key ends.1))) in
      subst (Among f) (sym (array-facts e)) (among-left f (tables_along [] (parent p)) (fact p an_array ∷ []) (subst (Among f) along a))

-- a key line states the tables along its block, and what its mentions tell
line-is : (c : Context) (f : Frame) (v : Value) (end : Text) → is_empty f.path ≡ false
    → statement_facts c (key_line f v end) ≡ tables_along [] c.block ++ all_told (mentions_of c (key_line f v end))
line-is c f v end keyed =
    ap (λ fs. tables_along [] c.block ++ fs) (line-told c f v end (c.start + path_start (key_line f v end)) c.block f.path keyed)

-- what the mentions of a statement tell it states
told-stated : (c : Context) (s : Statement) → HasKey s → (f : Fact) → Among f (all_told (mentions_of c s)) → Among f (statement_facts c s)
told-stated c (key_line g v end) keyed f a =
    subst (Among f) (sym (line-is c g v end keyed)) (among-right f (tables_along [] c.block) (all_told (mentions_of c (key_line g v end)))
    a)
told-stated c (header h end) keyed f a =
    subst (Among f) (sym (header-is c h end keyed h.is_array refl)) (among-left f (all_told (mentions_of c (header h end))) _ a)

-- ---- from what is stated to what is told

tells-told : (all ms : List (Mention Source)) (f : Fact) → ((m : Mention Source) → Among m ms → Among m all) → Among f (all_told ms)
    → Tells [] all f
tells-told all ms f inside a =
    let found = among-told ms f a in
    inl (record { mention = found.0; among = inside found.0 found.1; told = found.2 })

-- the number of a header's element is below the count of those up to it
element-number : (c : Context) (h : Header) (end : Text) (ms : List (Mention Source)) → AreBefore (context_after c (header h end)) ms
    → h.is_array ≡ true
    → elements_at c.arrays (header_path c.arrays [] h.path) < count_at is_array_role (header_path c.arrays [] h.path) ms
element-number c h end ms next e =
    let p = header_path c.arrays [] h.path in
    let there : elements_at (p ∷ c.arrays) p ≡ count_at is_array_role p ms =
    subst (λ b. elements_at (if b then p ∷ c.arrays else c.arrays) p ≡ count_at is_array_role p ms) e (next.counted p) in
    let more : elements_at (p ∷ c.arrays) p ≡ suc (elements_at c.arrays p) =
    ap (λ b. length (if b then p ∷ filter (same_path p) c.arrays else filter (same_path p) c.arrays)) (same_path-refl p) in
    omega (arith, there, more)

-- one statement, where the mentions up to it are these and others come after
module _ (all ms rest : List (Mention Source)) (whole : (ms ++ rest) ≡ all) where
  statement-forth : (c : Context) (s : Statement) → HasKey s → AreBefore (context_after c s) ms
      → ((m : Mention Source) → Among m (mentions_of c s) → Among m all)
      → ((f : Fact) → Among f (tables_along [] c.block) → Tells [] all f) → (f : Fact) → Among f (statement_facts c s) → Tells [] all f
  statement-forth c (key_line g v end) keyed next inside block f a =
      elim (among-cases f (tables_along [] c.block) (all_told (mentions_of c (key_line g v end)))
      (subst (Among f) (line-is c g v end keyed) a)) [
        | inl b ↦ block f b
        | inr b ↦ tells-told all (mentions_of c (key_line g v end)) f inside b
      ]
  statement-forth c (header h end) keyed next inside block f a = by_array h.is_array refl
    where
      by_array : (b : Bool) → h.is_array ≡ b → Tells [] all f
      by_array false e =
          let facts = header-is c h end keyed false e ∙ append-nil (all_told (mentions_of c (header h end))) in
          tells-told all (mentions_of c (header h end)) f inside (subst (Among f) facts a)
      by_array true e =
          let p = header_path c.arrays [] h.path in
          let number = element-number c h end ms next e in
          elim (among-cases f (all_told (mentions_of c (header h end))) (fact (to_element p (elements_at c.arrays p)) a_table
          ∷ []) (subst (Among f) (header-is c h end keyed true e) a)) [
            | inl b ↦ tells-told all (mentions_of c (header h end)) f inside b
            | inr b ↦
                inr (record {
                  path = p;
                  number = elements_at c.arrays p;
                  within = subst (λ ns. elements_at c.arrays p < count_at is_array_role p ns) whole
                      (count-more p ms rest (elements_at c.arrays p) number);
                  is = elim b [ inl e ↦ e | inr x ↦ absurd x ];
                })
          ]

block-forth : (all : List (Mention Source)) (c : Context) (s : Statement) → HasKey s
    → ((m : Mention Source) → Among m (mentions_of c s) → Among m all)
    → ((f : Fact) → Among f (tables_along [] c.block) → Tells [] all f) → (f : Fact) → Among f (tables_along [] (context_after c s).block)
    → Tells [] all f
block-forth all c (key_line g v end) keyed inside block f a = block f a
block-forth all c (header h end) keyed inside block f a =
    tells-told all (mentions_of c (header h end)) f inside (block-told c h end keyed h.is_array refl f a)

-- ---- all statements

-- the mentions of statements from one on, after those before it
split-whole : (earlier : List Placed) (here : Placed) (later : List Placed) (all : List (Mention Source)) → mentions_in earlier
    ++ mentions_in (here ∷ later) ≡ all
    → mentions_in (earlier ++ (here ∷ [])) ++ mentions_in later ≡ all
split-whole earlier here later all e =
    ap (λ ms. ms ++ mentions_in later) (sym (with-one earlier here)) ∙ append_assoc (mentions_in earlier) here.mentions (mentions_in later)
    ∙ e

pub facts-forth : (all : List (Mention Source)) (c : Context) (ss : List Statement) (earlier : List Placed) → AllByRecursion HasKey ss
    → AreBefore c (mentions_in earlier) → all_right_after earlier (placed_from c ss) ≡ true → mentions_in earlier
    ++ mentions_in (placed_from c ss) ≡ all
    → ((f : Fact) → Among f (tables_along [] c.block) → Tells [] all f) → (f : Fact) → Among f (facts_from c ss) → Tells [] all f
facts-forth all c [] earlier keyed h right whole block f a = elim a [ ]
facts-forth all c (s ∷ ss) earlier keyed h right whole block f a =
    let here : Placed = record { source = source_of c s; mentions = mentions_of c s } in
    let later = placed_from (context_after c s) ss in
    let test = all_right_after (earlier ++ (here ∷ [])) later in
    let agreed = right-agrees earlier here (and_left (is_right_after earlier here) test right) in
    let next = subst (AreBefore (context_after c s)) (with-one earlier here) (before_next c s (mentions_in earlier) h keyed.0 agreed) in
    let split = split-whole earlier here later all whole in
    let inside : (m : Mention Source) → Among m (mentions_of c s) → Among m all =
    λ m b. subst (Among m) whole (among-right m (mentions_in earlier) (mentions_of c s
    ++ mentions_in later) (among-left m (mentions_of c s) (mentions_in later) b)) in
    elim (among-cases f (statement_facts c s) (facts_from (context_after c s) ss) a) [
      | inl b ↦ statement-forth all (mentions_in (earlier ++ (here ∷ []))) (mentions_in later) split c s keyed.0 next inside block f b
      | inr b ↦
          facts-forth all (context_after c s) ss (earlier ++ (here ∷ [])) keyed.1 next (and_right (is_right_after earlier here) test right)
          split
          (λ g x. block-forth all c s keyed.0 inside block g x) f b
    ]

-- what mentions tell is stated
pub told-back : (c : Context) (ss : List Statement) → AllByRecursion HasKey ss → (m : Mention Source) (f : Fact)
    → Among m (mentions_in (placed_from c ss))
    → Among f (mention_told [] m) → Among f (facts_from c ss)
told-back c [] keyed m f a t = elim a [ ]
told-back c (s ∷ ss) keyed m f a t =
    elim (among-cases m (mentions_of c s) (mentions_in (placed_from (context_after c s) ss)) a) [
      | inl b ↦ among-left f (statement_facts c s) (facts_from (context_after c s) ss)
          (told-stated c s keyed.0 f (told-among (mentions_of c s) m f b t))
      | inr b ↦ among-right f (statement_facts c s) (facts_from (context_after c s) ss) (told-back (context_after c s) ss keyed.1 m f b t)
    ]

-- an element that a statement adds it states
element-stated : (c : Context) (s : Statement) → HasKey s → (q : Path) (i : ℕ) → elements_at c.arrays q ≤ i
    → i < elements_at (context_after c s).arrays q
    → Among (fact (to_element q i) a_table) (statement_facts c s)
element-stated c (key_line g v end) keyed q i from to = absurd (omega (arith, from, to))
element-stated c (header h end) keyed q i from to = by_array h.is_array refl
  where
    p : Path
    p = header_path c.arrays [] h.path

    by_array : (b : Bool) → h.is_array ≡ b → Among (fact (to_element q i) a_table) (header_facts c h)
    by_array false e =
        let same : i < elements_at c.arrays q =
        subst (λ b. i < elements_at (if b then header_path c.arrays [] h.path ∷ c.arrays else c.arrays) q) e to in
        absurd (omega (arith, from, same))
    by_array true e = by_path (same_path q (header_path c.arrays [] h.path)) refl
      where
        more : i < elements_at (header_path c.arrays [] h.path ∷ c.arrays) q
        more = subst (λ b. i < elements_at (if b then header_path c.arrays [] h.path ∷ c.arrays else c.arrays) q) e to

        by_path : (b : Bool) → same_path q (header_path c.arrays [] h.path) ≡ b → Among (fact (to_element q i) a_table) (header_facts c h)
        by_path false g =
            let less : i < elements_at c.arrays q =
            subst (λ b. i < length (if b then header_path c.arrays [] h.path ∷ filter (same_path q) c.arrays
            else filter (same_path q) c.arrays)) g more in
            absurd (omega (arith, from, less))
        by_path true g =
            let less : i < suc (elements_at c.arrays q) =
            subst (λ b. i < length (if b then header_path c.arrays [] h.path ∷ filter (same_path q) c.arrays
            else filter (same_path q) c.arrays)) g more in
            let number : i ≡ elements_at c.arrays q = omega (arith, from, less) in
            let path : q ≡ header_path c.arrays [] h.path = same_path-is q (header_path c.arrays [] h.path) g in
            let it : fact (to_element q i) a_table ≡ fact (to_element (header_path c.arrays [] h.path)
            (elements_at c.arrays (header_path c.arrays [] h.path))) a_table =
            ap (λ n. fact (to_element q n) a_table) number ∙ ap (λ r. fact (to_element r (elements_at c.arrays r)) a_table) path in
            subst (Among (fact (to_element q i) a_table)) (sym (header-is c h end keyed true e))
            (among-right (fact (to_element q i) a_table) (all_told (mentions_of c (header h end))) _ (inl it))

below-or-from : (i n : ℕ) → (i < n) ⊎ (n ≤ i)
below-or-from i zero = inr (omega arith)
below-or-from zero (suc n) = inl (omega arith)
below-or-from (suc i) (suc n) =
    elim (below-or-from i n) [
      | inl h ↦ inl (omega (arith, h))
      | inr h ↦ inr (omega (arith, h))
    ]

pub number-back : (c : Context) (ss : List Statement) (earlier : List Placed) → AllByRecursion HasKey ss → AreBefore c (mentions_in earlier)
    → all_right_after earlier (placed_from c ss) ≡ true → (q : Path) (i : ℕ) → elements_at c.arrays q ≤ i
    → i < count_at is_array_role q (mentions_in earlier ++ mentions_in (placed_from c ss))
    → Among (fact (to_element q i) a_table) (facts_from c ss)
number-back c [] earlier keyed h right q i from to =
    let same : i < count_at is_array_role q (mentions_in earlier) =
    subst (λ ms. i < count_at is_array_role q ms) (append-nil (mentions_in earlier)) to in
    let counted = h.counted q in
    absurd (omega (arith, from, same, counted))
number-back c (s ∷ ss) earlier keyed h right q i from to =
    let here : Placed = record { source = source_of c s; mentions = mentions_of c s } in
    let later = placed_from (context_after c s) ss in
    let test = all_right_after (earlier ++ (here ∷ [])) later in
    let agreed = right-agrees earlier here (and_left (is_right_after earlier here) test right) in
    let next = subst (AreBefore (context_after c s)) (with-one earlier here) (before_next c s (mentions_in earlier) h keyed.0 agreed) in
    let split = split-whole earlier here later (mentions_in earlier ++ mentions_in (here ∷ later)) refl in
    elim (below-or-from i (elements_at (context_after c s).arrays q)) [
      | inl b ↦
          among-left (fact (to_element q i) a_table) (statement_facts c s) (facts_from (context_after c s) ss)
          (element-stated c s keyed.0 q i from b)
      | inr b ↦
          among-right (fact (to_element q i) a_table) (statement_facts c s) (facts_from (context_after c s) ss)
          (number-back (context_after c s) ss (earlier ++ (here ∷ [])) keyed.1 next (and_right (is_right_after earlier here) test right) q i
          b
          (subst (λ ms. i < count_at is_array_role q ms) (sym split) to))
    ]
