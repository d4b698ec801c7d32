-- The block that a header opens is there once its mentions are, and stays.
use Rattle.std.proofs.Common.{◌≡◌, ◌<◌, refl, sym, ◌∙◌, ap, subst, ℕ, zero, suc, ◌+◌, arith, Bool, true, false, List, [], ◌∷◌, ◌++◌, length}
use Rattle.std.specs.Prelude.{◌&&◌, ◌||◌, if◌then◌else◌, filter}
use Rattle.toml_edit_model.specs.Text.{Text, is_empty}
use Rattle.toml_edit_model.specs.Syntax.{Segment, Statement, key_line, header}
use Rattle.toml_edit_model.specs.Paths.{Step, at_key, at_element, Path, same_path, to_key, Mention, Source, Context, mention_of}
use Rattle.toml_edit_model.specs.Paths.{elements_at, in_last, passing_role, header_mentions, header_path, next_start, source_of}
use Rattle.toml_edit_model.specs.Paths.{mentions_of, path_start, context_after}
use Rattle.toml_edit_laws.proofs.common.Tests.{or-true, same_text-refl}
use Rattle.toml_edit_laws.proofs.mentions.GatherLaws.{all_deeper, under-deeper, own-deeper}
use Rattle.toml_edit_laws.proofs.inline_tables.InlineBuild.{path_of, under-path, under-all}
use Rattle.toml_edit_laws.proofs.clashes.ClashMentions.{is_table_role}
use Rattle.toml_edit_laws.proofs.clashes.ClashCounts.{count_at, count-under, count-own, count-none, AreCounted, counted-under, last-deeper}
use Rattle.toml_edit_laws.proofs.clashes.ClashStatements.{passing-array, line-roles}
use Rattle.toml_edit_laws.proofs.clashes.ClashContext.{HasKey, AreBefore, count-both}
use Rattle.toml_edit_laws.proofs.clashes.BlockClash.{IsBlockOf, IsLastBlock, last_is}
use Rattle.toml_edit_laws.proofs.adding.HeaderPaths.{paths_under, header-deeper, path-deeper}
use Rattle.toml_edit_laws.proofs.adding.HeaderKeeps.{block_at, block-deeper}
use Rattle.toml_edit_laws.proofs.mentions.SomeAt.{some_at-append, under-append, own_mention}
use Rattle.toml_edit_laws.proofs.mentions.RoleTests.{opening_role}
use Rattle.toml_edit_model.specs.TableMentions.{under, some_at}
use Rattle.toml_edit_model.specs.Roles.{is_array_role}

-- ---- it stays

no-more : (i a b c : ℕ) → suc i ≡ a → b ≡ 0 → c ≡ a + b → suc i ≡ c
no-more i a b c l e f = omega arith

-- A block stays where more is mentioned, but no more elements.
pub last_stays : (p : Path) (ms ns : List (Mention Source)) → ((q : Path) → count_at is_array_role q ns ≡ 0) → IsLastBlock p ms
    → IsLastBlock p (ms ++ ns)
last_stays [] ms ns none h = tt
last_stays (at_key k ∷ []) ms ns none h = some_at-append is_table_role (at_key k ∷ []) ms ns
    ∙ ap (λ b. b || some_at is_table_role (at_key k ∷ []) ns) h
last_stays (at_key k ∷ at_key l ∷ p) ms ns none h = (
  some_at-append is_table_role (at_key k ∷ []) ms ns ∙ ap (λ b. b || some_at is_table_role (at_key k ∷ []) ns) h.0,
  subst (IsLastBlock (at_key l ∷ p)) (sym (under-append (at_key k) ms ns))
      (last_stays (at_key l ∷ p) (under (at_key k) ms) (under (at_key k) ns) (λ q. count-under is_array_role (at_key k) q ns
      ∙ none (at_key k ∷ q)) h.1),
)
last_stays (at_key k ∷ at_element i ∷ p) ms ns none h = (
  no-more i (count_at is_array_role (at_key k ∷ []) ms) (count_at is_array_role (at_key k ∷ []) ns) (count_at is_array_role (at_key k
      ∷ []) (ms ++ ns)) h.0
      (none (at_key k ∷ [])) (count-both is_array_role (at_key k ∷ []) ms ns),
  subst (IsLastBlock p) (sym (ap (under (at_element i)) (under-append (at_key k) ms ns)
      ∙ under-append (at_element i) (under (at_key k) ms) (under (at_key k) ns)))
      (last_stays p (under (at_element i) (under (at_key k) ms)) (under (at_element i) (under (at_key k) ns))
      (λ q.
      count-under is_array_role (at_element i) q (under (at_key k) ns)
      ∙ count-under is_array_role (at_key k) (at_element i ∷ q) ns
      ∙ none (at_key k ∷ at_element i ∷ q))
      h.1),
)
last_stays (at_element i ∷ p) ms ns none h = absurd h

less-more : (i a b c : ℕ) → i < a → c ≡ a + b → i < c
less-more i a b c l e = omega arith

-- It stays anyway, if not the last.
pub block_stays : (p : Path) (ms ns : List (Mention Source)) → IsBlockOf p ms → IsBlockOf p (ms ++ ns)
block_stays [] ms ns h = tt
block_stays (at_key k ∷ []) ms ns h = some_at-append is_table_role (at_key k ∷ []) ms ns
    ∙ ap (λ b. b || some_at is_table_role (at_key k ∷ []) ns) h
block_stays (at_key k ∷ at_key l ∷ p) ms ns h = (
  some_at-append is_table_role (at_key k ∷ []) ms ns ∙ ap (λ b. b || some_at is_table_role (at_key k ∷ []) ns) h.0,
  subst (IsBlockOf (at_key l ∷ p)) (sym (under-append (at_key k) ms ns)) (block_stays (at_key l
      ∷ p) (under (at_key k) ms) (under (at_key k) ns) h.1),
)
block_stays (at_key k ∷ at_element i ∷ p) ms ns h = (
  less-more i (count_at is_array_role (at_key k ∷ []) ms) (count_at is_array_role (at_key k ∷ []) ns) (count_at is_array_role (at_key k
      ∷ []) (ms ++ ns)) h.0
      (count-both is_array_role (at_key k ∷ []) ms ns),
  subst (IsBlockOf p) (sym (ap (under (at_element i)) (under-append (at_key k) ms ns)
      ∙ under-append (at_element i) (under (at_key k) ms) (under (at_key k) ns)))
      (block_stays p (under (at_element i) (under (at_key k) ms)) (under (at_element i) (under (at_key k) ns)) h.1),
)
block_stays (at_element i ∷ p) ms ns h = absurd h

-- ---- its path, one step down

-- the path of the block that a header opens
abbrev pub opened : Bool → List Path → List Segment → Path
opened is_array arrays segments = block_at is_array arrays (header_path arrays [] segments)

-- below a step
opened-below : (is_array : Bool) (arrays : List Path) (s : Step) (p : Path) (segments : List Segment)
    → block_at is_array arrays (header_path arrays (s ∷ p) segments) ≡ s
    ∷ block_at is_array (paths_under s arrays) (header_path (paths_under s arrays) p segments)
opened-below is_array arrays s p segments =
    ap (block_at is_array arrays) (path-deeper arrays s p segments)
    ∙ block-deeper is_array arrays s (header_path (paths_under s arrays) p segments)

-- it begins with the header's first key
opened-first : (is_array : Bool) (arrays : List Path) (g : Segment) (rest : List Segment) → (q : Path)
    × (opened is_array arrays (g ∷ rest) ≡ at_key g.key ∷ q)
opened-first is_array arrays g [] =
    (block_at is_array (paths_under (at_key g.key) arrays) [], block-deeper is_array arrays (at_key g.key) [])
opened-first is_array arrays g (x ∷ rest) =
    let k = at_key g.key in
    let count = elements_at arrays (k ∷ []) in (
      block_at is_array (paths_under k arrays) (header_path (paths_under k arrays) (in_last count []) (x ∷ rest)),
      ap (λ q. block_at is_array arrays (header_path arrays q (x ∷ rest))) (last-deeper k count [])
          ∙ opened-below is_array arrays k (in_last count []) (x ∷ rest),
    )

-- ---- it is there

self : (k : Text) → same_path (at_key k ∷ []) (at_key k ∷ []) ≡ true
self k = ap (λ b. b && true) (same_text-refl k)

-- the table's own mention is no element
counted-own : (source : Source) (start : ℕ) (count : ℕ) (g : Segment) (arrays : List Path) (ms : List (Mention Source))
    → AreCounted arrays ms
    → AreCounted (paths_under (at_key g.key) arrays) (under (at_key g.key) ms ++ (own_mention source start (passing_role count) g ∷ []))
counted-own source start count g arrays ms counted p =
    let own = own_mention source start (passing_role count) g ∷ [] in
    let here = under (at_key g.key) ms in
    same-count (elements_at (paths_under (at_key g.key) arrays) p) (count_at is_array_role p here) (count_at is_array_role p own)
    (count_at is_array_role p (here ++ own))
    (counted-under (at_key g.key) arrays ms counted p) (count-none is_array_role p own (none (same_path [] p)))
    (count-both is_array_role p here own)
  where
    same-count : (a b c d : ℕ) → a ≡ b → c ≡ 0 → d ≡ b + c → a ≡ d
    same-count a b c d e f g = omega arith

    none : (b : Bool) → ((b && is_array_role (passing_role count)) || false) ≡ false
    none true = ap (λ b. b || false) (passing-array count)
    none false = refl

-- The block that a header opens is there once its mentions are.
pub header_last : (is_array : Bool) (source : Source) (arrays : List Path) (start : ℕ) (segments : List Segment)
    (ms : List (Mention Source)) → is_empty segments ≡ false
    → AreCounted arrays ms → IsLastBlock (opened is_array arrays segments) (ms
    ++ header_mentions source arrays (opening_role is_array) start [] segments)
header_last is_array source arrays start [] ms keyed counted = absurd cc
header_last false source arrays start (g ∷ []) ms keyed counted =
    some_at-append is_table_role (at_key g.key ∷ []) ms (mention_of source start (to_key [] g.key) (opening_role false) g ∷ [])
    ∙ ap (λ b. some_at is_table_role (at_key g.key ∷ []) ms || ((b && true) || false)) (self g.key)
    ∙ or-true (some_at is_table_role (at_key g.key ∷ []) ms)
header_last true source arrays start (g ∷ []) ms keyed counted = (
  one-more (elements_at arrays p) (count_at is_array_role p ms) (count_at is_array_role p ns) (count_at is_array_role p (ms ++ ns))
      (counted p) one (count-both is_array_role p ms ns),
  tt,
)
  where
    p : Path
    p = at_key g.key ∷ []

    ns : List (Mention Source)
    ns = mention_of source start (to_key [] g.key) (opening_role true) g ∷ []

    one : count_at is_array_role p ns ≡ 1
    one = ap (λ b. length (if b && true then mention_of source start (to_key [] g.key) (opening_role true) g ∷ [] else [])) (self g.key)

    one-more : (n a b c : ℕ) → n ≡ a → b ≡ 1 → c ≡ a + b → suc n ≡ c
    one-more n a b c e f g = omega arith
header_last is_array source arrays start (g ∷ x ∷ rest) ms keyed counted =
    by_count (elements_at arrays (k ∷ [])) refl
    (λ lists us e. header_last is_array source lists (next_start start g) (x ∷ rest) us refl e)
  where
    k : Step
    k = at_key g.key

    below : List Path → List (Mention Source)
    below lists = header_mentions source lists (opening_role is_array) (next_start start g) [] (x ∷ rest)

    -- the mentions, where the array at the key has so many elements
    mentions : ℕ → List (Mention Source)
    mentions count =
        mention_of source start (k ∷ []) (passing_role count) g
        ∷ header_mentions source arrays (opening_role is_array) (next_start start g) (in_last count (k ∷ [])) (x ∷ rest)

    path : ℕ → Path
    path count = block_at is_array arrays (header_path arrays (in_last count (k ∷ [])) (x ∷ rest))

    above : ℕ → List (Mention Source)
    above count = under k ms ++ (own_mention source start (passing_role count) g ∷ [])

    same-last : (n a b c : ℕ) → suc n ≡ a → b ≡ 0 → c ≡ a + b → suc n ≡ c
    same-last n a b c e z f = omega arith

    -- a header that goes on in an element adds none there
    passes : (n : ℕ) (more : List (Mention Source)) → count_at is_array_role (k
        ∷ []) (path_of source start (passing_role (suc n)) g (all_deeper (at_element n) more)) ≡ 0
    passes n more =
        let low = all_deeper (at_element n) more in
        sym (count-under is_array_role k [] (path_of source start (passing_role (suc n)) g low))
        ∙ ap (count_at is_array_role []) (under-path source start (passing_role (suc n)) g low)
        ∙ sym (count-own low)
        ∙ ap (λ us. length (filter (λ (m : Mention Source). is_array_role m.role) us)) (own-deeper (at_element n) more)

    plain : ((lists : List Path) (us : List (Mention Source)) → AreCounted lists us
        → IsLastBlock (opened is_array lists (x ∷ rest)) (us ++ below lists))
        → IsLastBlock (path 0) (ms ++ mentions 0)
    plain ih =
        let lists = paths_under k arrays in
        let (q, first) = opened-first is_array lists x rest in
        let paths : path 0 ≡ k ∷ at_key x.key ∷ q = opened-below is_array arrays k [] (x ∷ rest) ∙ ap (λ r. k ∷ r) first in
        let all : mentions 0 ≡ path_of source start (passing_role 0) g (below lists) =
        ap (λ us. mention_of source start (k ∷ []) (passing_role 0) g
        ∷ us) (header-deeper source arrays (opening_role is_array) (next_start start g) k [] (x ∷ rest)) in
        let lower = subst (λ r. IsLastBlock r (above 0 ++ below lists)) first
        (ih lists (above 0) (counted-own source start 0 g arrays ms counted)) in
        let here : some_at is_table_role (k ∷ []) (ms ++ path_of source start (passing_role 0) g (below lists)) ≡ true =
        some_at-append is_table_role (k ∷ []) ms (path_of source start (passing_role 0) g (below lists))
        ∙ ap (λ b. some_at is_table_role (k ∷ []) ms || ((b && true) || some_at is_table_role (k ∷ []) (all_deeper k (below lists))))
        (self g.key)
        ∙ or-true (some_at is_table_role (k ∷ []) ms) in
        subst (λ r. IsLastBlock r (ms ++ mentions 0)) (sym paths)
        (subst (λ us. IsLastBlock (k ∷ at_key x.key ∷ q) (ms ++ us)) (sym all)
        (here, subst (IsLastBlock (at_key x.key ∷ q)) (under-all source start (passing_role 0) g (below lists) ms) lower))

    element : (n : ℕ) → elements_at arrays (k ∷ []) ≡ suc n
        → ((lists : List Path) (us : List (Mention Source)) → AreCounted lists us
        → IsLastBlock (opened is_array lists (x ∷ rest)) (us ++ below lists))
        → IsLastBlock (path (suc n)) (ms ++ mentions (suc n))
    element n e ih =
        let step = at_element n in
        let lists = paths_under step (paths_under k arrays) in
        let low = all_deeper step (below lists) in
        let paths : path (suc n) ≡ k ∷ step ∷ opened is_array lists (x ∷ rest) =
        opened-below is_array arrays k (step ∷ []) (x ∷ rest)
        ∙ ap (λ r. k ∷ r) (opened-below is_array (paths_under k arrays) step [] (x ∷ rest)) in
        let all : mentions (suc n) ≡ path_of source start (passing_role (suc n)) g low =
        ap (λ us. mention_of source start (k ∷ []) (passing_role (suc n)) g ∷ us)
        (header-deeper source arrays (opening_role is_array) (next_start start g) k (step ∷ []) (x ∷ rest)
        ∙ ap (all_deeper k) (header-deeper source (paths_under k arrays) (opening_role is_array) (next_start start g) step [] (x
        ∷ rest))) in
        let seen : under step (above (suc n)) ++ below lists
        ≡ under step (under k (ms ++ path_of source start (passing_role (suc n)) g low)) =
        ap (λ us. under step (above (suc n)) ++ us) (sym (under-deeper step (below lists)))
        ∙ sym (under-append step (above (suc n)) low)
        ∙ ap (under step) (under-all source start (passing_role (suc n)) g low ms) in
        let lower = ih lists (under step (above (suc n))) (counted-under step (paths_under k arrays) (above (suc n))
        (counted-own source start (suc n) g arrays ms counted)) in
        let here : suc n ≡ count_at is_array_role (k ∷ []) (ms ++ path_of source start (passing_role (suc n)) g low) =
        same-last n (count_at is_array_role (k ∷ []) ms) (count_at is_array_role (k
        ∷ []) (path_of source start (passing_role (suc n)) g low))
        (count_at is_array_role (k ∷ []) (ms ++ path_of source start (passing_role (suc n)) g low)) (sym e ∙ counted (k ∷ []))
        (passes n (below lists))
        (count-both is_array_role (k ∷ []) ms (path_of source start (passing_role (suc n)) g low)) in
        subst (λ r. IsLastBlock r (ms ++ mentions (suc n))) (sym paths)
        (subst (λ us. IsLastBlock (k ∷ step ∷ opened is_array lists (x ∷ rest)) (ms ++ us)) (sym all) (
          here,
          subst (IsLastBlock (opened is_array lists (x ∷ rest))) seen lower,
        ))

    by_count : (count : ℕ) → elements_at arrays (k ∷ []) ≡ count
        → ((lists : List Path) (us : List (Mention Source)) → AreCounted lists us
        → IsLastBlock (opened is_array lists (x ∷ rest)) (us ++ below lists))
        → IsLastBlock (path (elements_at arrays (k ∷ []))) (ms ++ mentions (elements_at arrays (k ∷ [])))
    by_count zero e ih = subst (λ n. IsLastBlock (path n) (ms ++ mentions n)) (sym e) (plain ih)
    by_count (suc n) e ih = subst (λ m. IsLastBlock (path m) (ms ++ mentions m)) (sym e) (element n e ih)

-- ---- statement after statement

-- The block after a statement is there.
pub last_next : (c : Context) (s : Statement) (ms : List (Mention Source)) → AreBefore c ms → IsLastBlock c.block ms → HasKey s
    → IsLastBlock (context_after c s).block (ms ++ mentions_of c s)
last_next c (key_line f v end) ms h block keyed =
    last_stays c.block ms (mentions_of c (key_line f v end))
    (λ q.
    count-none is_array_role q (mentions_of c (key_line f v end))
    (line-roles is_array_role refl refl (source_of c (key_line f v end)) (c.start + path_start (key_line f v end)) c.block f.path q))
    block
last_next c (header hd end) ms h block keyed =
    header_last hd.is_array (source_of c (header hd end)) c.arrays (c.start + path_start (header hd end)) hd.path ms keyed h.counted

pub block_next : (c : Context) (s : Statement) (ms : List (Mention Source)) → AreBefore c ms → IsBlockOf c.block ms → HasKey s
    → IsBlockOf (context_after c s).block (ms ++ mentions_of c s)
block_next c (key_line f v end) ms h block keyed = block_stays c.block ms (mentions_of c (key_line f v end)) block
block_next c (header hd end) ms h block keyed =
    last_is (context_after c (header hd end)).block (ms ++ mentions_of c (header hd end))
    (header_last hd.is_array (source_of c (header hd end)) c.arrays (c.start + path_start (header hd end)) hd.path ms keyed h.counted)
