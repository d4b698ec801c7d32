-- What holds of the mentions of an accepted document, statement by statement.
use Rattle.std.proofs.Common.{◌≡◌, ◌<◌, ◌≤◌, ℕ, zero, suc, ◌+◌, refl, sym, ap, subst, ◌∙◌, arith, inl, inr, true, false, Bool, List, []}
use Rattle.std.proofs.Common.{◌∷◌, ◌++◌, append_assoc, append-nil, length}
use Rattle.std.specs.Prelude.{if◌then◌else◌, filter}
use Rattle.std.specs.List.{AllByRecursion}
use Rattle.std.proofs.lemmas.Grind.{flat_map-append}
use Rattle.toml_edit_model.specs.Syntax.{Segment, Statement, key_line, header, Document, IsDocument}
use Rattle.toml_edit_model.specs.Paths.{Step, at_key, Path, same_path, to_key, to_element, Mention, Source, Placed, Context, line_mentions}
use Rattle.toml_edit_model.specs.Paths.{header_mentions, header_path, next_start, elements_at, in_last, passing_role, header_role_of}
use Rattle.toml_edit_model.specs.Paths.{path_start, source_of, mentions_of, context_after, placed_from, start_context, all_mentions}
use Rattle.toml_edit_model.specs.Accepted.{agree, is_accepted}
use Rattle.toml_edit_laws.specs.OneByOne.{is_right_after, all_right_after}
use Rattle.toml_edit_laws.proofs.common.Tests.{and_left, and_right, true-false}
use Rattle.toml_edit_laws.proofs.common.Members.{Among, among-left, among-right, among-cases}
use Rattle.toml_edit_laws.proofs.mentions.KeptMentions.{moved, under-has, under-is}
use Rattle.toml_edit_laws.proofs.mentions.KeyMentions.{line-shows, line-role}
use Rattle.toml_edit_laws.proofs.clashes.ClashMentions.{is_table_role, AreOfStatements}
use Rattle.toml_edit_laws.proofs.clashes.ClashCounts.{count_at}
use Rattle.toml_edit_laws.proofs.clashes.ClashContext.{HasKey, AreBefore, before_none, before_next, count-both, keyed_statements}
use Rattle.toml_edit_laws.proofs.read_trees.WaysOfPaths.{Way, way-more, way-key, way-element, HasWay, line-ways, header-ways, LastMention}
use Rattle.toml_edit_laws.proofs.read_trees.WaysOfPaths.{header-last}
use Rattle.toml_edit_laws.proofs.mentions.Placed.{mentions_in, right-agrees}
use Rattle.toml_edit_laws.proofs.common.PathLaws.{same_path-refl}
use Rattle.toml_edit_laws.proofs.mentions.SomeAt.{among-test}
use Rattle.toml_edit_laws.proofs.one_by_one.Together.{accepted-right}
use Rattle.toml_edit_model.specs.Roles.{Role, header_role, array_role, continued_role, may_meet, is_array_role}
use Rattle.toml_edit_model.specs.TableMentions.{under, some_at}
use Rattle.toml_edit_model.specs.Roles.{extends}

-- ---- what is made by keys on a path has something below it

pub record More (ms : List (Mention Source)) (m : Mention Source) : Type 0 where
  pub mention : Mention Source
  pub among : Among mention ms
  pub step : Step
  pub rest : Path
  pub path : mention.path ≡ m.path ++ (step ∷ rest)

abbrev pub HaveMore : List (Mention Source) → Type 0
HaveMore ms = (m : Mention Source) → Among m ms → extends m.role ≡ true → More ms m

pub more-under : (s : Step) (ms : List (Mention Source)) → HaveMore ms → HaveMore (under s ms)
more-under s ms h m a made =
    let up = under-is s m ms a in
    let more = h up.mention up.among (ap (λ (n : Mention Source). extends n.role) (sym up.same) ∙ made) in
    let path = more.path ∙ ap (λ p. p ++ (more.step ∷ more.rest)) up.path in
    record {
      mention = moved more.mention (m.path ++ (more.step ∷ more.rest));
      among = under-has s (m.path ++ (more.step ∷ more.rest)) more.mention ms more.among path;
      step = more.step;
      rest = more.rest;
      path = refl;
    }

line-more : (source : Source) (start : ℕ) (p : Path) (ss : List Segment) → HaveMore (line_mentions source start p ss)
line-more source start p ss m a made =
    elim (line-role source start p ss m a) [
      | inl d ↦
          let found = line-shows source start p ss m a d in
          record { mention = found.0; among = found.3; step = found.1; rest = found.2; path = found.4 }
      | inr v ↦ let clash : false ≡ true = sym (ap extends v) ∙ made in absurd cc
    ]

header-first : (source : Source) (arrays : List Path) (role : Role) (start : ℕ) (p : Path) (r : Segment) (rest : List Segment)
    → (n : Mention Source) × Among n (header_mentions source arrays role start p (r ∷ rest)) × (n.path ≡ to_key p r.key)
header-first source arrays role start p r [] = (_, inl refl, refl)
header-first source arrays role start p r (s ∷ rest) = (_, inl refl, refl)

header-more : (source : Source) (arrays : List Path) (role : Role) (start : ℕ) (p : Path) (ss : List Segment) → extends role ≡ false
    → HaveMore (header_mentions source arrays role start p ss)
header-more source arrays role start p [] plain m a made = elim a [ ]
header-more source arrays role start p (s ∷ []) plain m (inl e) made =
    true-false (extends m.role) made (ap (λ (n : Mention Source). extends n.role) e ∙ plain)
header-more source arrays role start p (s ∷ []) plain m (inr a) made = elim a [ ]
header-more source arrays role start p (s ∷ r ∷ rest) plain m (inl e) made = by_count (elements_at arrays (to_key p s.key)) refl
  where
    here : Path
    here = to_key p s.key

    by_count : (n : ℕ) → elements_at arrays here ≡ n → More (header_mentions source arrays role start p (s ∷ r ∷ rest)) m
    by_count zero g =
        let first = header-first source arrays role (next_start start s) (in_last (elements_at arrays here) here) r rest in
        record {
          mention = first.0;
          among = inr first.1;
          step = at_key r.key;
          rest = [];
          path = first.2 ∙ ap (λ n. to_key (in_last n here) r.key) g ∙ ap (λ (n : Mention Source). n.path ++ (at_key r.key ∷ [])) (sym e);
        }
    by_count (suc n) g =
        let role : m.role ≡ continued_role = ap (λ (k : Mention Source). k.role) e ∙ ap passing_role g in
        true-false (extends m.role) made (ap extends role)
header-more source arrays role start p (s ∷ r ∷ rest) plain m (inr a) made =
    let here : Path = to_key p s.key in
    let more = header-more source arrays role (next_start start s) (in_last (elements_at arrays here) here) (r ∷ rest) plain m a made in
    record { mention = more.mention; among = inr more.among; step = more.step; rest = more.rest; path = more.path }

-- ---- the statements up to here

pub record ReadSoFar (c : Context) (ms : List (Mention Source)) : Type 0 where
  pub before : AreBefore c ms
  pub block : Way c.block ms
  pub ways : (m : Mention Source) → Among m ms → HasWay ms m
  pub more : HaveMore ms

way-later : (ms ns : List (Mention Source)) (m : Mention Source) → HasWay ms m → HasWay (ms ++ ns) m
way-later ms ns m h = record { above = h.above; path = h.path; way = way-more h.above ms ns h.way }

more-left : (ms ns : List (Mention Source)) (m : Mention Source) → More ms m → More (ms ++ ns) m
more-left ms ns m h =
    record { mention = h.mention; among = among-left h.mention ms ns h.among; step = h.step; rest = h.rest; path = h.path }

more-right : (ms ns : List (Mention Source)) (m : Mention Source) → More ns m → More (ms ++ ns) m
more-right ms ns m h =
    record { mention = h.mention; among = among-right h.mention ms ns h.among; step = h.step; rest = h.rest; path = h.path }

ways-both : (ms ns : List (Mention Source)) → ((m : Mention Source) → Among m ms → HasWay ms m)
    → ((m : Mention Source) → Among m ns → HasWay (ms ++ ns) m)
    → (m : Mention Source) → Among m (ms ++ ns) → HasWay (ms ++ ns) m
ways-both ms ns h g m a = elim (among-cases m ms ns a) [ inl b ↦ way-later ms ns m (h m b) | inr b ↦ g m b ]

more-both : (ms ns : List (Mention Source)) → HaveMore ms → HaveMore ns → HaveMore (ms ++ ns)
more-both ms ns h g m a made =
    elim (among-cases m ms ns a) [ inl b ↦ more-left ms ns m (h m b made) | inr b ↦ more-right ms ns m (g m b made) ]

pub read_none : (d : Document) → ReadSoFar (start_context d) []
read_none d = record { before = before_none d; block = tt; ways = λ m a. elim a [ ]; more = λ m a. elim a [ ] }

pub read_next : (c : Context) (s : Statement) (ms : List (Mention Source)) → ReadSoFar c ms → HasKey s → agree may_meet ms (mentions_of c s)
    ≡ true
    → ReadSoFar (context_after c s) (ms ++ mentions_of c s)
read_next c (key_line f v end) ms h keyed agreed =
    let source = source_of c (key_line f v end) in
    let start = c.start + path_start (key_line f v end) in
    let ns = line_mentions source start c.block f.path in
    let block = way-more c.block ms ns h.block in
    record {
      before = before_next c (key_line f v end) ms h.before keyed agreed;
      block = block;
      ways = ways-both ms ns h.ways (λ m a. line-ways (ms ++ ns) source start c.block f.path block (λ n b. among-right n ms ns b) m a);
      more = more-both ms ns h.more (line-more source start c.block f.path);
    }
read_next c (header g end) ms h keyed agreed =
    record {
      before = next;
      block = by_array g.is_array refl;
      ways = ways-both ms ns h.ways (λ m a. header-ways (ms ++ ns) source c.arrays role start [] g.path tt counted inside m a);
      more = more-both ms ns h.more (header-more source c.arrays role start [] g.path plain);
    }
  where
    source : Source
    source = source_of c (header g end)

    start : ℕ
    start = c.start + path_start (header g end)

    role : Role
    role = header_role_of g

    ns : List (Mention Source)
    ns = header_mentions source c.arrays role start [] g.path

    next : AreBefore (context_after c (header g end)) (ms ++ ns)
    next = before_next c (header g end) ms h.before keyed agreed

    inside : (m : Mention Source) → Among m ns → Among m (ms ++ ns)
    inside m a = among-right m ms ns a

    counted : (p : Path) → elements_at c.arrays p ≤ count_at is_array_role p (ms ++ ns)
    counted p = let both = count-both is_array_role p ms ns in let old = h.before.counted p in omega arith

    plain : extends role ≡ false
    plain = by_brackets g.is_array
      where
        by_brackets : (b : Bool) → extends (if b then array_role else header_role) ≡ false
        by_brackets true = refl
        by_brackets false = refl

    path : Path
    path = header_path c.arrays [] g.path

    last : LastMention (ms ++ ns) role path
    last = header-last (ms ++ ns) source c.arrays role start [] g.path keyed tt counted inside

    one-more : (n : ℕ) → elements_at (path ∷ c.arrays) path ≡ n → elements_at c.arrays path < n
    one-more n e =
        let more : elements_at (path ∷ c.arrays) path ≡ suc (elements_at c.arrays path) =
        ap (λ b. length (if b then path ∷ filter (same_path path) c.arrays else filter (same_path path) c.arrays)) (same_path-refl path) in
        omega arith

    by_array : (b : Bool) → g.is_array ≡ b → Way (if b then to_element path (elements_at c.arrays path) else path) (ms ++ ns)
    by_array true e =
        let there = subst (λ b. elements_at (if b then path ∷ c.arrays else c.arrays) path
        ≡ count_at is_array_role path (ms ++ ns)) e (next.counted path) in
        let less : elements_at c.arrays path < count_at is_array_role path (ms ++ ns) =
        one-more (count_at is_array_role path (ms ++ ns)) there in
        subst (λ p. Way (to_element p (elements_at c.arrays path)) (ms ++ ns)) (sym last.ends)
        (way-element last.above last.key (elements_at c.arrays path) (ms ++ ns) last.way
        (subst (λ p. elements_at c.arrays path < count_at is_array_role p (ms ++ ns)) last.ends less))
    by_array false e =
        let role_is : last.mention.role ≡ header_role = last.role_is ∙ ap (λ b. if b then array_role else header_role) e in
        let stands : some_at is_table_role path (ms ++ ns) ≡ true =
        subst (λ p. some_at is_table_role p (ms ++ ns) ≡ true) last.path_is (among-test is_table_role last.mention (ms
        ++ ns) last.among (ap is_table_role role_is)) in
        subst (λ p. Way p (ms ++ ns)) (sym last.ends)
        (way-key last.above last.key (ms ++ ns) last.way (subst (λ p. some_at is_table_role p (ms ++ ns) ≡ true) last.ends stands))

-- ---- documents

pub with-one : (earlier : List Placed) (here : Placed) → mentions_in earlier ++ here.mentions ≡ mentions_in (earlier ++ (here ∷ []))
with-one earlier here =
    ap (λ ns. mentions_in earlier ++ ns) (sym (append-nil here.mentions))
    ∙ sym (flat_map-append (λ (e : Placed). e.mentions) earlier (here ∷ []))

-- What holds of all mentions of an accepted document.
pub record HaveBeenRead (ms : List (Mention Source)) : Type 0 where
  pub statements : AreOfStatements ms
  pub ways : (m : Mention Source) → Among m ms → HasWay ms m
  pub more : HaveMore ms

read_all : (c : Context) (ss : List Statement) (earlier : List Placed) → AllByRecursion HasKey ss → ReadSoFar c (mentions_in earlier)
    → all_right_after earlier (placed_from c ss) ≡ true → HaveBeenRead (mentions_in (earlier ++ placed_from c ss))
read_all c [] earlier keyed h right =
    subst (λ es. HaveBeenRead (mentions_in es)) (sym (append-nil earlier)) (record {
      statements = h.before.statements;
      ways = h.ways;
      more =
          h.more;
    })
read_all c (s ∷ ss) earlier keyed h right =
    let here : Placed = record { source = source_of c s; mentions = mentions_of c s } in
    let later = all_right_after (earlier ++ (here ∷ [])) (placed_from (context_after c s) ss) in
    let agreed = right-agrees earlier here (and_left (is_right_after earlier here) later right) in
    subst (λ es. HaveBeenRead (mentions_in es)) (append_assoc earlier (here ∷ []) (placed_from (context_after c s) ss))
    (read_all (context_after c s) ss (earlier ++ (here ∷ [])) keyed.1
    (subst (ReadSoFar (context_after c s)) (with-one earlier here) (read_next c s (mentions_in earlier) h keyed.0 agreed))
    (and_right (is_right_after earlier here) later right))

pub read_document : (d : Document) → IsDocument d → is_accepted d ≡ true → HaveBeenRead (all_mentions d)
read_document d is h =
    read_all (start_context d) d.statements [] (keyed_statements d.final d.statements is.0) (read_none d) (accepted-right d h)
