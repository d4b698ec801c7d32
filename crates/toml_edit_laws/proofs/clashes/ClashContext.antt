-- The mentions of statements that are right one after another are as it is asked of them.
use Rattle.std.proofs.Common.{◌≡◌, refl, sym, ◌∙◌, ap, subst, ℕ, suc, ◌+◌, arith, Bool, true, false, List, [], ◌∷◌, ◌++◌, append_assoc}
use Rattle.std.proofs.Common.{length, Option, Some, None}
use Rattle.std.specs.Prelude.{◌⊎◌, ◌&&◌, ◌||◌, if◌then◌else◌, filter, flat_map, is_some, option_map}
use Rattle.std.specs.List.{AllByRecursion, list_all}
use Rattle.std.proofs.lemmas.Bool.{or_from}
use Rattle.std.proofs.lemmas.List.{length-append}
use Rattle.std.proofs.lemmas.List.Elements.{filter-append}
use Rattle.std.proofs.lemmas.Grind.{flat_map-append}
use Rattle.toml_edit_model.specs.Text.{Text, is_empty}
use Rattle.toml_edit_model.specs.Trivia.{IsNewline}
use Rattle.toml_edit_model.specs.Syntax.{Statement, key_line, header, Document, IsStatement, AreStatements}
use Rattle.toml_edit_model.specs.Paths.{at_key, Path, same_path, to_key, to_element, Mention, Source, Placed, Context, elements_at}
use Rattle.toml_edit_model.specs.Paths.{header_path, line_mentions, header_mentions, header_role_of, path_start, source_of, mentions_of}
use Rattle.toml_edit_model.specs.Paths.{context_after, start_context, placed_from, all_mentions}
use Rattle.toml_edit_model.specs.Accepted.{agree, is_sound, is_accepted}
use Rattle.toml_edit_laws.specs.OneByOne.{is_right_after, all_right_after}
use Rattle.toml_edit_laws.specs.Building.{context_from}
use Rattle.toml_edit_laws.proofs.common.Tests.{and_left, and_right, or-left, or-right, or-true, false-by, true-false, append-nil}
use Rattle.toml_edit_laws.proofs.common.PathLaws.{is_front, front-key}
use Rattle.toml_edit_laws.proofs.mentions.GatherLaws.{some_at-first, first_at}
use Rattle.toml_edit_laws.proofs.inline_tables.AgreeLaws.{role-at}
use Rattle.toml_edit_laws.proofs.clashes.ClashMentions.{is_table_role, HaveMeetingRoles, meeting-both, kinds-apart, first_role}
use Rattle.toml_edit_laws.proofs.clashes.ClashMentions.{first_role-both, AreOfStatements, statements-none}
use Rattle.toml_edit_laws.proofs.clashes.ClashCounts.{count_at, count-none, AreCounted}
use Rattle.toml_edit_laws.proofs.clashes.ClashStatements.{IsClosedOver, front-in_last, closed-line, closed-header, header-mentioned}
use Rattle.toml_edit_laws.proofs.clashes.ClashStatements.{meeting-line, meeting-header, line-roles, header-through, header-counts}
use Rattle.toml_edit_laws.proofs.mentions.Placed.{filled-path, IsHeaded, headed-line, headed-header}
use Rattle.toml_edit_laws.proofs.mentions.SomeAt.{some_at-append, any-test}
use Rattle.toml_edit_laws.proofs.common.Agreement.{agree-append}
use Rattle.toml_edit_laws.proofs.common.Each.{all-append}
use Rattle.toml_edit_laws.proofs.mentions.RoleTests.{is_through_role}
use Rattle.toml_edit_laws.proofs.mentions.Named.{EndsIn, AreNamed, line-named, header-named}
use Rattle.toml_edit_laws.proofs.one_by_one.Together.{accepted-right}
use Rattle.toml_edit_model.specs.Roles.{Role, dotted_role, implied_role, header_role, array_role, value_role, continued_role, may_meet}
use Rattle.toml_edit_model.specs.Roles.{is_value_role, any_role, is_array_role}
use Rattle.toml_edit_model.specs.TableMentions.{some_at}

-- ---- arrays of tables

-- an array's first mention is of a header in double brackets
array-first : (p : Path) (ms : List (Mention Source)) → AreOfStatements ms → some_at is_array_role p ms ≡ true → first_role p ms
    ≡ Some array_role
array-first p ms are h = by_first (first_at p ms) refl
  where
    no-table : some_at is_table_role p ms ≡ false
    no-table = kinds-apart is_array_role is_table_role p ms refl are.meeting h

    no-value : some_at is_value_role p ms ≡ false
    no-value = kinds-apart is_array_role is_value_role p ms refl are.meeting h

    by_kind : (j : Mention Source) (r : Role) → j.role ≡ r → first_at p ms ≡ Some j → first_role p ms ≡ Some array_role
    by_kind j array_role e f = ap (option_map (λ (m : Mention Source). m.role)) f ∙ ap (λ (r : Role). Some r) e
    by_kind j continued_role e f = are.through p (role-at is_through_role p ms j f (ap is_through_role e))
    by_kind j value_role e f = true-false (some_at is_value_role p ms) (role-at is_value_role p ms j f (ap is_value_role e)) no-value
    by_kind j dotted_role e f = true-false (some_at is_table_role p ms) (role-at is_table_role p ms j f (ap is_table_role e)) no-table
    by_kind j implied_role e f = true-false (some_at is_table_role p ms) (role-at is_table_role p ms j f (ap is_table_role e)) no-table
    by_kind j header_role e f = true-false (some_at is_table_role p ms) (role-at is_table_role p ms j f (ap is_table_role e)) no-table

    by_first : (o : Option (Mention Source)) → first_at p ms ≡ o → first_role p ms ≡ Some array_role
    by_first None e = true-false (some_at is_array_role p ms) h (any-test is_array_role p ms (some_at-first p ms ∙ ap is_some e))
    by_first (Some j) e = by_kind j j.role refl e

-- ---- one statement more

-- What is asked of the statements before holds with one more, whose mentions these are: it goes on from a path that was mentioned,
-- and through arrays that are there.
statements-more : (arrays : List Path) (above : Path) (ms ns : List (Mention Source)) → AreOfStatements ms → AreCounted arrays ms
    → ((q : Path) (k : Text) → is_front (to_key q k) above ≡ true → some_at any_role (to_key q k) ms ≡ true)
    → AreNamed ns → HaveMeetingRoles ns → IsClosedOver above ns
    → ((p : Path) → elements_at arrays p ≡ 0 → some_at is_through_role p ns ≡ false)
    → AllByRecursion IsHeaded ns → agree may_meet ms ns ≡ true → AreOfStatements (ms ++ ns)
statements-more arrays above ms ns are counted block named meeting closed through headed agreed =
    record {
      named = all-append (λ (m : Mention Source). EndsIn m.segment.key m.path) ms ns are.named named;
      meeting = meeting-both ms ns are.meeting meeting agreed;
      closed = λ q k p e.
          let both = sym (some_at-append any_role (to_key q k) ms ns) ∙ e in
          let early : some_at any_role (to_key q k) ms ≡ false =
          or-left (some_at any_role (to_key q k) ms) (some_at any_role (to_key q k) ns) both in
          some_at-append any_role (q ++ (at_key k ∷ p)) ms ns
          ∙ or_from (some_at any_role (q ++ (at_key k ∷ p)) ms) (some_at any_role (q ++ (at_key k ∷ p)) ns)
          (are.closed q k p early)
          (closed q k (q ++ (at_key k ∷ p)) (front-key q k p)
          (false-by (is_front (to_key q k) above) (λ f. true-false (some_at any_role (to_key q k) ms) (block q k f) early))
          (or-right (some_at any_role (to_key q k) ms) (some_at any_role (to_key q k) ns) both));
      through = λ p e. first_role-both p ms ns ∙ goes-on p (some_at is_through_role p ms) refl (sym (some_at-append is_through_role p ms ns)
          ∙ e);
      headed = all-append IsHeaded ms ns are.headed headed;
    }
  where
    at-first : (test : Role → Bool) (p : Path) → some_at test p ms ≡ true → some_at any_role p ms ≡ true
    at-first test p h = by_any (some_at any_role p ms) refl
      where
        by_any : (b : Bool) → some_at any_role p ms ≡ b → b ≡ true
        by_any true e = refl
        by_any false e = true-false (some_at test p ms) h (any-test test p ms e)

    led : (test : Role → Bool) (p : Path) → some_at test p ms ≡ true → first_role p ms ≡ Some array_role
        → (if some_at any_role p ms then first_role p ms else first_role p ns) ≡ Some array_role
    led test p h f = ap (λ b. if b then first_role p ms else first_role p ns) (at-first test p h) ∙ f

    goes-on : (p : Path) (b : Bool) → some_at is_through_role p ms ≡ b → (b || some_at is_through_role p ns) ≡ true
        → (if some_at any_role p ms then first_role p ms else first_role p ns) ≡ Some array_role
    goes-on p true e h = led is_through_role p e (are.through p e)
    goes-on p false e h = by_array (some_at is_array_role p ms) refl
      where
        by_array : (b : Bool) → some_at is_array_role p ms ≡ b → (if some_at any_role p ms then first_role p ms else first_role p ns)
            ≡ Some array_role
        by_array true f = led is_array_role p f (array-first p ms are f)
        by_array false f = true-false (some_at is_through_role p ns) h (through p (counted p ∙ count-none is_array_role p ms f))

-- ---- statement after statement

-- a statement has a key
abbrev pub HasKey : Statement → Type 0
HasKey (key_line f v end) = is_empty f.path ≡ false
HasKey (header h end) = is_empty h.path ≡ false

keyed-statement : (MayEnd : Text → Type 0) (s : Statement) → IsStatement MayEnd s → HasKey s
keyed-statement MayEnd (key_line f v end) h = filled-path f.path h.0.1.begins
keyed-statement MayEnd (header hd end) h = filled-path hd.path h.0.1.begins

-- each statement of the grammar does
pub keyed_statements : (final : Text) (ss : List Statement) → AreStatements final ss → AllByRecursion HasKey ss
keyed_statements final [] h = tt
keyed_statements final (s ∷ []) h = (keyed-statement (λ end. IsNewline end ⊎ ((end ≡ []) × (final ≡ []))) s h, tt)
keyed_statements final (s ∷ r ∷ rest) h = (keyed-statement IsNewline s h.0, keyed_statements final (r ∷ rest) h.1)

-- What the context says of the statements before.
pub record AreBefore (c : Context) (ms : List (Mention Source)) : Type 0 where
  pub statements : AreOfStatements ms
  pub counted : AreCounted c.arrays ms
  pub block : (q : Path) (k : Text) → is_front (to_key q k) c.block ≡ true → some_at any_role (to_key q k) ms ≡ true

not-front : (q : Path) (k : Text) → is_front (to_key q k) [] ≡ false
not-front [] k = refl
not-front (s ∷ q) k = refl

pub before_none : (d : Document) → AreBefore (start_context d) []
before_none d = record {
  statements = statements-none;
  counted = λ p. refl;
  block =
      λ q k h. true-false (is_front (to_key q k) []) h (not-front q k);
}

pub count-both : (test : Role → Bool) (p : Path) (xs ys : List (Mention Source)) → count_at test p (xs ++ ys) ≡ count_at test p xs
    + count_at test p ys
count-both test p xs ys =
    ap length (filter-append (λ (m : Mention Source). same_path m.path p && test m.role) xs ys)
    ∙ length-append (filter (λ (m : Mention Source). same_path m.path p && test m.role) xs)
    (filter (λ (m : Mention Source). same_path m.path p && test m.role) ys)

still : (ms ns : List (Mention Source)) (p : Path) → some_at any_role p ms ≡ true → some_at any_role p (ms ++ ns) ≡ true
still ms ns p h = some_at-append any_role p ms ns ∙ ap (λ b. b || some_at any_role p ns) h

one-more : (hp : Path) (arrays : List Path) (p : Path) → elements_at (hp ∷ arrays) p ≡ elements_at (hp ∷ []) p + elements_at arrays p
one-more hp arrays p = by_test (same_path p hp)
  where
    unary : (n : ℕ) → suc n ≡ 1 + n
    unary n = omega arith

    plain : (n : ℕ) → n ≡ 0 + n
    plain n = omega arith

    by_test : (b : Bool)
        → length (if b then hp ∷ filter (same_path p) arrays else filter (same_path p) arrays) ≡ length (if b then hp ∷ [] else [])
        + length (filter (same_path p) arrays)
    by_test true = unary (length (filter (same_path p) arrays))
    by_test false = plain (length (filter (same_path p) arrays))

-- counts of the statements before and of one more
none-more : (a b c d : ℕ) → a ≡ b → c ≡ 0 → d ≡ b + c → a ≡ d
none-more a b c d e f g = omega arith

some-more : (a b c d n m : ℕ) → n ≡ m + a → a ≡ b → c ≡ m → d ≡ b + c → n ≡ d
some-more a b c d n m k e f g = omega arith

-- One more right statement.
pub before_next : (c : Context) (s : Statement) (ms : List (Mention Source)) → AreBefore c ms → HasKey s
    → agree may_meet ms (mentions_of c s) ≡ true
    → AreBefore (context_after c s) (ms ++ mentions_of c s)
before_next c (key_line f v end) ms h keyed agreed =
    let source = source_of c (key_line f v end) in
    let start = c.start + path_start (key_line f v end) in
    let ns = line_mentions source start c.block f.path in
    let no-arrays : (p : Path) → count_at is_array_role p ns ≡ 0 =
    λ p. count-none is_array_role p ns (line-roles is_array_role refl refl source start c.block f.path p) in
    record {
      statements =
          statements-more c.arrays c.block ms ns h.statements h.counted h.block (line-named source start c.block f.path)
          (meeting-line source start c.block f.path)
          (closed-line source start c.block f.path) (λ p e. line-roles is_through_role refl refl source start c.block f.path p)
          (headed-line source start c.block f.path) agreed;
      counted = λ p.
          none-more (elements_at c.arrays p) (count_at is_array_role p ms) (count_at is_array_role p ns) (count_at is_array_role p (ms
          ++ ns)) (h.counted p) (no-arrays p)
          (count-both is_array_role p ms ns);
      block = λ q k e. still ms ns (to_key q k) (h.block q k e);
    }
before_next c (header hd end) ms h keyed agreed =
    record {
      statements =
          statements-more c.arrays [] ms ns h.statements h.counted (λ q k e. true-false (is_front (to_key q k) []) e (not-front q k))
          (header-named source c.arrays role start [] hd.path) (meeting-header source c.arrays role start [] hd.path)
          (closed-header source c.arrays role start [] hd.path) (λ p e. header-through source c.arrays role start [] hd.path p plain e)
          (headed-header source c.arrays role start [] hd.path refl) agreed;
      counted = λ p. count hd.is_array p (header-counts hd.is_array source c.arrays start [] hd.path p keyed);
      block = λ q k e.
          some_at-append any_role (to_key q k) ms ns
          ∙ ap (λ b. some_at any_role (to_key q k) ms || b)
          (header-mentioned source c.arrays role start [] hd.path q k (opened hd.is_array q k e) (not-front q k))
          ∙ or-true (some_at any_role (to_key q k) ms);
    }
  where
    source : Source
    source = source_of c (header hd end)

    start : ℕ
    start = c.start + path_start (header hd end)

    role : Role
    role = header_role_of hd

    hp : Path
    hp = header_path c.arrays [] hd.path

    ns : List (Mention Source)
    ns = header_mentions source c.arrays role start [] hd.path

    plain : is_through_role role ≡ false
    plain = by_brackets hd.is_array
      where
        by_brackets : (b : Bool) → is_through_role (if b then array_role else header_role) ≡ false
        by_brackets true = refl
        by_brackets false = refl

    count : (b : Bool) (p : Path) → count_at is_array_role p ns ≡ (if b then elements_at (hp ∷ []) p else 0)
        → elements_at (if b then hp ∷ c.arrays else c.arrays) p ≡ count_at is_array_role p (ms ++ ns)
    count true p e =
        some-more (elements_at c.arrays p) (count_at is_array_role p ms) (count_at is_array_role p ns) (count_at is_array_role p (ms ++ ns))
        (elements_at (hp ∷ c.arrays) p)
        (elements_at (hp ∷ []) p) (one-more hp c.arrays p) (h.counted p) e (count-both is_array_role p ms ns)
    count false p e =
        none-more (elements_at c.arrays p) (count_at is_array_role p ms) (count_at is_array_role p ns) (count_at is_array_role p (ms ++ ns))
        (h.counted p) e
        (count-both is_array_role p ms ns)

    opened : (b : Bool) (q : Path) (k : Text) → is_front (to_key q k) (if b then to_element hp (elements_at c.arrays hp) else hp) ≡ true
        → is_front (to_key q k) hp ≡ true
    opened true q k e = sym (front-in_last q k (suc (elements_at c.arrays hp)) hp) ∙ e
    opened false q k e = e

-- ---- documents

-- it agrees with all statements before where it agrees with each
pub agree-each : (earlier : List Placed) (ns : List (Mention Source)) → list_all (λ (e : Placed). agree may_meet e.mentions ns) earlier
    ≡ agree may_meet (flat_map (λ (e : Placed). e.mentions) earlier) ns
agree-each [] ns = refl
agree-each (e ∷ earlier) ns =
    ap (λ b. agree may_meet e.mentions ns && b) (agree-each earlier ns)
    ∙ sym (agree-append may_meet e.mentions (flat_map (λ (s : Placed). s.mentions) earlier) ns)

-- Right statements after right ones.
pub before_all : (c : Context) (ss : List Statement) (earlier : List Placed) → AllByRecursion HasKey ss
    → AreBefore c (flat_map (λ (e : Placed). e.mentions) earlier)
    → all_right_after earlier (placed_from c ss) ≡ true
    → AreBefore (context_from c ss) (flat_map (λ (e : Placed). e.mentions) (earlier ++ placed_from c ss))
before_all c [] earlier keyed h right = subst (λ es. AreBefore c (flat_map (λ (e : Placed). e.mentions) es)) (sym (append-nil earlier)) h
before_all c (s ∷ ss) earlier keyed h right =
    let here : Placed = record { source = source_of c s; mentions = mentions_of c s } in
    let ms = flat_map (λ (e : Placed). e.mentions) earlier in
    let later = all_right_after (earlier ++ (here ∷ [])) (placed_from (context_after c s) ss) in
    let agreed : agree may_meet ms (mentions_of c s) ≡ true =
    sym (agree-each earlier (mentions_of c s))
    ∙ and_right (is_sound here.source.statement) (list_all (λ (e : Placed). agree may_meet e.mentions (mentions_of c s)) earlier)
    (and_left (is_right_after earlier here) later right) in
    let all : ms ++ mentions_of c s ≡ flat_map (λ (e : Placed). e.mentions) (earlier ++ (here ∷ [])) =
    ap (λ ns. ms ++ ns) (sym (append-nil (mentions_of c s))) ∙ sym (flat_map-append (λ (e : Placed). e.mentions) earlier (here ∷ [])) in
    subst (λ es. AreBefore (context_from (context_after c s) ss) (flat_map (λ (e : Placed). e.mentions) es)) (append_assoc earlier (here
    ∷ []) (placed_from (context_after c s) ss))
    (before_all (context_after c s) ss (earlier ++ (here ∷ [])) keyed.1
    (subst (AreBefore (context_after c s)) all (before_next c s ms h keyed.0 agreed))
    (and_right (is_right_after earlier here) later right))

-- All mentions of an accepted document.
pub document-statements : (d : Document) → AllByRecursion HasKey d.statements → is_accepted d ≡ true → AreOfStatements (all_mentions d)
document-statements d keyed h = (before_all (start_context d) d.statements [] keyed (before_none d) (accepted-right d h)).statements
