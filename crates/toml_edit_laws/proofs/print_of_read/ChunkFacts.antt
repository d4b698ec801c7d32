-- What holds of the blocks of an accepted document: each header opens one, and its lines are told by its number.
use Rattle.std.proofs.Common.{◌≡◌, ◌≤◌, refl, sym, ◌∙◌, ap, subst, ℕ, zero, suc, ◌+◌, arith, Bool, true, false, List, [], ◌∷◌, ◌++◌}
use Rattle.std.proofs.Common.{append_assoc, length, Some, inl}
use Rattle.std.specs.Prelude.{◌&&◌, filter, ◌==◌, if◌then◌else◌}
use Rattle.std.specs.List.{AllByRecursion, list_all}
use Rattle.std.proofs.Math.Bool.{and-false}
use Rattle.std.proofs.lemmas.Bool.{eq-eqb, ne_eqb}
use Rattle.std.proofs.lemmas.List.Elements.{filter-append}
use Rattle.std.proofs.lemmas.List.Concat.{flat_map-append}
use Rattle.toml_edit_model.specs.Text.{Text, one, is_empty}
use Rattle.toml_edit_model.specs.Syntax.{Segment, Statement, key_line, header, Header, Document}
use Rattle.toml_edit_model.specs.Paths.{Path, same_path, to_key, to_element, Mention, Source, Placed, Context, mention_of, next_start}
use Rattle.toml_edit_model.specs.Paths.{line_mentions, header_mentions, header_path, elements_at, in_last, passing_role, header_role_of}
use Rattle.toml_edit_model.specs.Paths.{path_start, source_of, mentions_of, context_after, block_of, placed_from, start_context}
use Rattle.toml_edit_model.specs.Paths.{all_mentions}
use Rattle.toml_edit_model.specs.Accepted.{agree, is_sound, is_accepted}
use Rattle.toml_edit_model.specs.Normal.{is_line}
use Rattle.toml_edit_laws.specs.OneByOne.{is_right_after, all_right_after}
use Rattle.toml_edit_laws.proofs.common.Tests.{append-nil, and_left, and_right}
use Rattle.toml_edit_laws.proofs.common.OrderLaws.{none-left}
use Rattle.toml_edit_laws.proofs.common.PathLaws.{same_path-refl}
use Rattle.toml_edit_laws.proofs.common.Members.{Among, among-left, among-right}
use Rattle.toml_edit_laws.proofs.clashes.ClashContext.{HasKey, AreBefore, before_none, before_next, agree-each}
use Rattle.toml_edit_laws.proofs.clashes.BlockClash.{IsBlockOf}
use Rattle.toml_edit_laws.proofs.clashes.BlockOfHeader.{block_stays, block_next}
use Rattle.toml_edit_laws.proofs.print_of_read.Blocks.{IsBlock, of_table, of_element, nth, arrays_at, is_of}
use Rattle.toml_edit_laws.proofs.print_of_read.Chunks.{place_path, place_start, Chunk, lead_lines, chunks}
use Rattle.toml_edit_laws.proofs.mentions.Placed.{mentions_in, placed_at, own-sources, path-ends}
use Rattle.toml_edit_laws.proofs.mentions.RoleTests.{is_bracket_role}
use Rattle.toml_edit_laws.proofs.common.Each.{all-append, all-map}
use Rattle.toml_edit_laws.proofs.one_by_one.Together.{accepted-right}
use Rattle.toml_edit_model.specs.Roles.{Role, header_role, array_role, value_role, dotted_role, implied_role, continued_role, may_meet}
use Rattle.toml_edit_model.specs.Roles.{is_array_role}

-- ---- the mentions of one statement

-- the mention by which a header with this number opens its block
abbrev pub is_heading : ℕ → Mention Source → Bool
is_heading n m = is_bracket_role m.role && (m.source.headers == n)

pub line-opens : {S : Type 0} (source : S) (start : ℕ) (p : Path) (ss : List Segment)
    → AllByRecursion (λ m. is_bracket_role m.role ≡ false) (line_mentions source start p ss)
line-opens source start p [] = tt
line-opens source start p (s ∷ []) = (refl, tt)
line-opens source start p (s ∷ r ∷ rest) = (refl, line-opens source (next_start start s) (to_key p s.key) (r ∷ rest))

-- the mentions of a header: its last, and before it those that only pass
pub record HasLast {S : Type 0} (source : S) (role : Role) (path : Path) (ms : List (Mention S)) : Type 0 where
  pub passing : List (Mention S)
  pub last : Mention S
  pub all : ms ≡ passing ++ one last
  pub passes : AllByRecursion (λ m. is_bracket_role m.role ≡ false) passing
  pub role_is : last.role ≡ role
  pub path_is : last.path ≡ path
  pub source_is : last.source ≡ source

passing-opens : (n : ℕ) → is_bracket_role (passing_role n) ≡ false
passing-opens zero = refl
passing-opens (suc n) = refl

pub header-last : {S : Type 0} (source : S) (arrays : List Path) (role : Role) (start : ℕ) (p : Path) (ss : List Segment) → is_empty ss
    ≡ false
    → HasLast source role (header_path arrays p ss) (header_mentions source arrays role start p ss)
header-last source arrays role start p [] e = absurd cc
header-last source arrays role start p (s ∷ []) e =
    record {
      passing = [];
      last = mention_of source start (to_key p s.key) role s;
      all = refl;
      passes = tt;
      role_is = refl;
      path_is =
          refl;
      source_is = refl;
    }
header-last source arrays role start p (s ∷ r ∷ rest) e =
    let here : Path = to_key p s.key in
    let count : ℕ = elements_at arrays here in
    let more = header-last source arrays role (next_start start s) (in_last count here) (r ∷ rest) refl in
    record {
      passing = mention_of source start here (passing_role count) s ∷ more.passing;
      last = more.last;
      all = ap (λ ms. mention_of source start here (passing_role count) s ∷ ms) more.all;
      passes = (passing-opens count, more.passes);
      role_is = more.role_is;
      path_is = more.path_is;
      source_is = more.source_is;
    }

-- ---- lines

-- a line of a block, with its number
pub record IsLineIn (b : Path) (j : ℕ) (s : Placed) : Type 0 where
  pub line : is_line s.source.statement ≡ true
  pub mentions : s.mentions ≡ line_mentions s.source (place_start s) b (place_path s)
  pub number : s.source.headers ≡ j
  pub filled : is_empty (place_path s) ≡ false

pub lead-facts : (c : Context) (ss : List Statement) → AllByRecursion HasKey ss
    → AllByRecursion (IsLineIn c.block c.headers) (lead_lines c ss)
lead-facts c [] h = tt
lead-facts c (key_line f v end ∷ ss) h =
    (record { line = refl; mentions = refl; number = refl; filled = h.0 }, lead-facts (context_after c (key_line f v end)) ss h.1)
lead-facts c (header hd end ∷ ss) h = tt

-- ---- numbers

less-differs : (n m : ℕ) → suc n ≤ m → (m == n) ≡ false
less-differs n m h = ne_eqb m n (λ e. let same : m ≡ n = e in absurd (omega arith))

more-differs : (n m : ℕ) → suc m ≤ n → (m == n) ≡ false
more-differs n m h = ne_eqb m n (λ e. let same : m ≡ n = e in absurd (omega arith))

-- no mention of a statement with another number is of one with this
pub other-heading : (n : ℕ) (source : Source) (ms : List (Mention Source)) → AllByRecursion (λ m. m.source ≡ source) ms
    → (source.headers == n) ≡ false
    → filter (is_heading n) ms ≡ []
other-heading n source ms h e =
    none-left (is_heading n) ms
    (all-map (λ m. m.source ≡ source) (λ m. is_heading n m ≡ false) ms
    (λ m g. ap (λ (s : Source). is_bracket_role m.role && (s.headers == n)) g ∙ ap (λ b. is_bracket_role m.role && b) e
    ∙ and-false (is_bracket_role m.role)) h)

other-line : (n : ℕ) (source : Source) (ms : List (Mention Source)) → AllByRecursion (λ m. m.source ≡ source) ms → is_of n source ≡ false
    → filter (λ m. is_of n m.source) ms ≡ []
other-line n source ms h e =
    none-left (λ m. is_of n m.source) ms (all-map (λ m. m.source ≡ source) (λ m. is_of n m.source ≡ false) ms (λ m g. ap (is_of n) g ∙ e) h)

own-line : (n : ℕ) (source : Source) (ms : List (Mention Source)) → AllByRecursion (λ m. m.source ≡ source) ms → is_of n source ≡ true
    → filter (λ m. is_of n m.source) ms ≡ ms
own-line n source [] h e = refl
own-line n source (m ∷ ms) h e = rw (ap (is_of n) h.0 ∙ e) (ap (λ xs. m ∷ xs) (own-line n source ms h.1 e))

pub no-heading : (n : ℕ) (ms : List (Mention Source)) → AllByRecursion (λ m. is_bracket_role m.role ≡ false) ms → filter (is_heading n) ms
    ≡ []
no-heading n ms h =
    none-left (is_heading n) ms (all-map (λ m. is_bracket_role m.role ≡ false) (λ m. is_heading n m
    ≡ false) ms (λ m g. ap (λ b. b && (m.source.headers == n)) g) h)

-- later statements have no header with a number that was
pub later-heading : (c : Context) (ss : List Statement) (n : ℕ) → n ≤ c.headers → filter (is_heading n) (mentions_in (placed_from c ss))
    ≡ []
later-heading c [] n h = refl
later-heading c (key_line f v end ∷ ss) n h =
    let d : Context = context_after c (key_line f v end) in
    filter-append (is_heading n) (mentions_of c (key_line f v end)) (mentions_in (placed_from d ss))
    ∙ ap (λ xs. xs ++ filter (is_heading n) (mentions_in (placed_from d ss)))
    (no-heading n (mentions_of c (key_line f v end)) (line-opens (source_of c (key_line f v end)) (c.start
    + path_start (key_line f v end)) c.block f.path))
    ∙ later-heading d ss n h
later-heading c (header hd end ∷ ss) n h =
    let d : Context = context_after c (header hd end) in
    let low : n ≤ c.headers = h in
    filter-append (is_heading n) (mentions_of c (header hd end)) (mentions_in (placed_from d ss))
    ∙ ap (λ xs. xs ++ filter (is_heading n) (mentions_in (placed_from d ss)))
    (other-heading n (source_of c (header hd end)) (mentions_of c (header hd end)) (own-sources c (header hd end))
    (less-differs n (suc c.headers) (omega arith)))
    ∙ later-heading d ss n (omega arith)

-- nor lines
pub later-lines : (c : Context) (ss : List Statement) (n : ℕ) → suc n ≤ c.headers
    → filter (λ m. is_of n m.source) (mentions_in (placed_from c ss)) ≡ []
later-lines c [] n h = refl
later-lines c (key_line f v end ∷ ss) n h =
    let d : Context = context_after c (key_line f v end) in
    filter-append (λ (m : Mention Source). is_of n m.source) (mentions_of c (key_line f v end)) (mentions_in (placed_from d ss))
    ∙ ap (λ xs. xs ++ filter (λ (m : Mention Source). is_of n m.source) (mentions_in (placed_from d ss)))
    (other-line n (source_of c (key_line f v end)) (mentions_of c (key_line f v end)) (own-sources c (key_line f v end))
    (less-differs n c.headers h))
    ∙ later-lines d ss n h
later-lines c (header hd end ∷ ss) n h =
    let d : Context = context_after c (header hd end) in
    let low : suc n ≤ c.headers = h in
    filter-append (λ (m : Mention Source). is_of n m.source) (mentions_of c (header hd end)) (mentions_in (placed_from d ss))
    ∙ ap (λ xs. xs ++ filter (λ (m : Mention Source). is_of n m.source) (mentions_in (placed_from d ss)))
    (other-line n (source_of c (header hd end)) (mentions_of c (header hd end)) (own-sources c (header hd end)) refl)
    ∙ later-lines d ss n (omega arith)

-- the lines with the number of the block are those up to the next header
pub own-lines : (c : Context) (ss : List Statement) → filter (λ m. is_of c.headers m.source) (mentions_in (placed_from c ss))
    ≡ mentions_in (lead_lines c ss)
own-lines c [] = refl
own-lines c (key_line f v end ∷ ss) =
    let d : Context = context_after c (key_line f v end) in
    filter-append (λ (m : Mention Source). is_of c.headers m.source) (mentions_of c (key_line f v end)) (mentions_in (placed_from d ss))
    ∙ ap (λ xs. xs ++ filter (λ (m : Mention Source). is_of c.headers m.source) (mentions_in (placed_from d ss)))
    (own-line c.headers (source_of c (key_line f v end)) (mentions_of c (key_line f v end)) (own-sources c (key_line f v end))
    (eq-eqb c.headers c.headers refl))
    ∙ ap (λ xs. mentions_of c (key_line f v end) ++ xs) (own-lines d ss)
own-lines c (header hd end ∷ ss) =
    let d : Context = context_after c (header hd end) in
    filter-append (λ (m : Mention Source). is_of c.headers m.source) (mentions_of c (header hd end)) (mentions_in (placed_from d ss))
    ∙ ap (λ xs. xs ++ filter (λ (m : Mention Source). is_of c.headers m.source) (mentions_in (placed_from d ss)))
    (other-line c.headers (source_of c (header hd end)) (mentions_of c (header hd end)) (own-sources c (header hd end)) refl)
    ∙ later-lines d ss c.headers (let n : ℕ = c.headers in omega arith)

-- ---- headers

-- the mention opens the block of this path
pub data OpensAt (all : List (Mention Source)) (b : Path) (m : Mention Source) : Type 0 where
  opens_table : m.role ≡ header_role → m.path ≡ b → OpensAt all b m
  opens_element : (i : ℕ) → m.role ≡ array_role → b ≡ to_element m.path i → nth i (arrays_at m.path all) ≡ Some m → OpensAt all b m

-- a header of a document: its mention is the one of its number, its block is there, and its lines are told by the number
pub record IsChunk (all : List (Mention Source)) (ch : Chunk) : Type 0 where
  pub header_is : Header
  pub end : Text
  pub arrays : List Path
  pub number : ℕ
  pub statement : ch.head.source.statement ≡ header header_is end
  pub mentions : ch.head.mentions ≡ header_mentions ch.head.source arrays (header_role_of header_is) (ch.head.source.start
      + path_start (header header_is end)) [] header_is.path
  pub path : ch.head.source.path ≡ header_path arrays [] header_is.path
  pub filled : is_empty header_is.path ≡ false
  pub numbered : ch.head.source.headers ≡ suc number
  pub last : Mention Source
  pub last_role : last.role ≡ header_role_of header_is
  pub last_path : last.path ≡ ch.head.source.path
  pub last_source : last.source ≡ ch.head.source
  pub only : filter (is_heading (suc number)) all ≡ one last
  pub opens : OpensAt all ch.block last
  pub reached : IsBlockOf ch.block all
  pub block : IsBlock all ch.block (suc number)
  pub lines : AllByRecursion (IsLineIn ch.block (suc number)) ch.lines
  pub own : filter (λ m. is_of (suc number) m.source) all ≡ mentions_in ch.lines

nth-last : {A : Type 0} (xs : List A) (x : A) (ys : List A) → nth (length xs) (xs ++ (x ∷ ys)) ≡ Some x
nth-last [] x ys = refl
nth-last (y ∷ xs) x ys = nth-last xs x ys

-- each statement agrees with the mentions before it
abbrev pub AgreeAfter : List (Mention Source) → List Placed → Type 0
AgreeAfter before [] = Unit {0}
AgreeAfter before (s ∷ rest) = (agree may_meet before s.mentions ≡ true) × AgreeAfter (before ++ s.mentions) rest

pub right-agree : (earlier places : List Placed) → all_right_after earlier places ≡ true → AgreeAfter (mentions_in earlier) places
right-agree earlier [] h = tt
right-agree earlier (s ∷ rest) h =
    let right : Bool = is_right_after earlier s in
    let later : Bool = all_right_after (earlier ++ one s) rest in (
      sym (agree-each earlier s.mentions)
          ∙ and_right (is_sound s.source.statement) (list_all (λ (e : Placed). agree may_meet e.mentions s.mentions) earlier)
          (and_left right later h),
      subst (λ ms. AgreeAfter ms rest) (flat_map-append (λ (e : Placed). e.mentions) earlier (one s)
          ∙ ap (λ ms. mentions_in earlier ++ ms) (append-nil s.mentions))
          (right-agree (earlier ++ one s) rest (and_right right later h)),
    )

-- ---- block after block

-- the mentions have numbers up to this one
abbrev pub AreUpTo : ℕ → List (Mention Source) → Type 0
AreUpTo n ms = AllByRecursion (λ m. m.source.headers ≤ n) ms

low-heading : (n : ℕ) (ms : List (Mention Source)) → AreUpTo n ms → filter (is_heading (suc n)) ms ≡ []
low-heading n ms h =
    none-left (is_heading (suc n)) ms
    (all-map (λ (m : Mention Source). m.source.headers ≤ n) (λ m. is_heading (suc n) m ≡ false) ms
    (λ m g. let low : m.source.headers ≤ n = g in
    ap (λ b. is_bracket_role m.role && b) (more-differs (suc n) m.source.headers (omega arith)) ∙ and-false (is_bracket_role m.role)) h)

low-lines : (n : ℕ) (ms : List (Mention Source)) → AreUpTo n ms → filter (λ m. is_of (suc n) m.source) ms ≡ []
low-lines n ms h =
    none-left (λ m. is_of (suc n) m.source) ms
    (all-map (λ (m : Mention Source). m.source.headers ≤ n) (λ m. is_of (suc n) m.source ≡ false) ms
    (λ m g. let low : m.source.headers ≤ n = g in
    ap (λ b. is_line m.source.statement && b) (more-differs (suc n) m.source.headers (omega arith))
    ∙ and-false (is_line m.source.statement)) h)

up-to-next : (n : ℕ) (source : Source) (ms ns : List (Mention Source)) → AreUpTo n ms → AllByRecursion (λ m. m.source ≡ source) ns
    → n ≤ source.headers
    → AreUpTo source.headers (ms ++ ns)
up-to-next n source ms ns h g e =
    let top : ℕ = source.headers in
    let le : n ≤ top = e in
    all-append (λ (m : Mention Source). m.source.headers ≤ source.headers) ms ns
    (all-map (λ (m : Mention Source). m.source.headers ≤ n) (λ m. m.source.headers ≤ source.headers) ms
    (λ m f. let low : m.source.headers ≤ n = f in omega arith) h)
    (all-map (λ (m : Mention Source). m.source ≡ source) (λ m. m.source.headers ≤ source.headers) ns
    (λ m f. let same : m.source.headers ≡ source.headers = ap (λ (s : Source). s.headers) f in omega arith) g)

-- a mention that opens a block gives it its number
pub opens-block : (all : List (Mention Source)) (b : Path) (m : Mention Source) (n : ℕ) (q : Path) (k : Text) → OpensAt all b m
    → Among m all → m.path ≡ to_key q k
    → m.source.headers ≡ n → IsBlock all b n
opens-block all b m n q k (opens_table role path) a ends number = of_table m q k a role path (sym path ∙ ends) number
opens-block all b m n q k (opens_element i role path place) a ends number = of_element m m.path i place path number

array-none : {S : Type 0} (p : Path) (ms : List (Mention S)) → AllByRecursion (λ m. is_bracket_role m.role ≡ false) ms → arrays_at p ms ≡ []
array-none {S = S} p ms h =
    none-left (λ (m : Mention S). same_path m.path p && is_array_role m.role) ms
    (all-map (λ (m : Mention S). is_bracket_role m.role ≡ false) (λ m. (same_path m.path p && is_array_role m.role) ≡ false) ms
    (λ m g. ap (λ b. same_path m.path p && b) (no_array m.role g) ∙ and-false (same_path m.path p)) h)
  where
    no_array : (r : Role) → is_bracket_role r ≡ false → is_array_role r ≡ false
    no_array array_role e = absurd cc
    no_array header_role e = refl
    no_array dotted_role e = refl
    no_array value_role e = refl
    no_array implied_role e = refl
    no_array continued_role e = refl

opening-role : (b : Bool) → is_bracket_role (if b then array_role else header_role) ≡ true
opening-role true = refl
opening-role false = refl

chunk-here : (c : Context) (h : Header) (end : Text) (ss : List Statement) (before : List (Mention Source))
    → HasKey (header h end) → AllByRecursion HasKey ss → AreBefore c before → IsBlockOf c.block before → AreUpTo c.headers before
    → IsChunk (before ++ (mentions_of c (header h end) ++ mentions_in (placed_from (context_after c (header h end)) ss)))
    (record { head = placed_at c (header h end); block = block_of c h; lines = lead_lines (context_after c (header h end)) ss })
chunk-here c h end ss before keyed rest_keyed are reached low =
    record {
      header_is = h;
      end = end;
      arrays = c.arrays;
      number = c.headers;
      statement = refl;
      mentions = refl;
      path = refl;
      filled = keyed;
      numbered = refl;
      last = last.last;
      last_role = last.role_is;
      last_path = last.path_is;
      last_source = last.source_is;
      only =
          filter-append (is_heading n) before (ns ++ more)
          ∙ ap (λ xs. xs ++ filter (is_heading n) (ns ++ more)) (low-heading c.headers before low)
          ∙ filter-append (is_heading n) ns more
          ∙ ap (λ xs. xs ++ filter (is_heading n) more) own_heading
          ∙ ap (λ xs. last.last ∷ xs) (later-heading d ss n (omega arith));
      opens = opens h.is_array last.role_is;
      reached =
          subst (IsBlockOf (block_of c h)) (append_assoc before ns more)
          (block_stays (block_of c h) (before ++ ns) more (block_next c (header h end) before are reached keyed));
      block =
          opens-block (before ++ (ns ++ more)) (block_of c h) last.last n ends.0 ends.1 (opens h.is_array last.role_is)
          (among-right last.last before (ns ++ more) (among-left last.last ns more
          (subst (Among last.last) (sym last.all) (among-right last.last last.passing (one last.last) (inl refl)))))
          (last.path_is ∙ ends.2) (ap (λ (s : Source). s.headers) last.source_is);
      lines = lead-facts d ss rest_keyed;
      own =
          filter-append (λ (m : Mention Source). is_of n m.source) before (ns ++ more)
          ∙ ap (λ xs. xs ++ filter (λ (m : Mention Source). is_of n m.source) (ns ++ more)) (low-lines c.headers before low)
          ∙ filter-append (λ (m : Mention Source). is_of n m.source) ns more
          ∙ ap (λ xs. xs ++ filter (λ (m : Mention Source). is_of n m.source) more)
          (other-line n source ns (own-sources c (header h end)) refl)
          ∙ own-lines d ss;
    }
  where
    n : ℕ
    n = suc c.headers

    d : Context
    d = context_after c (header h end)

    source : Source
    source = source_of c (header h end)

    ns : List (Mention Source)
    ns = mentions_of c (header h end)

    more : List (Mention Source)
    more = mentions_in (placed_from (context_after c (header h end)) ss)

    p : Path
    p = header_path c.arrays [] h.path

    last : HasLast source (header_role_of h) p ns
    last = header-last (source_of c (header h end)) c.arrays (header_role_of h) (c.start + path_start (header h end)) [] h.path keyed

    ends : (q : Path) × (k : Text) × (p ≡ to_key q k)
    ends = path-ends c.arrays [] h.path keyed

    own_heading : filter (is_heading n) ns ≡ one last.last
    own_heading =
        ap (filter (is_heading n)) last.all
        ∙ filter-append (is_heading n) last.passing (one last.last)
        ∙ ap (λ xs. xs ++ filter (is_heading n) (one last.last)) (no-heading n last.passing last.passes)
        ∙ rw (ap is_bracket_role last.role_is ∙ opening-role h.is_array)
        (rw (eq-eqb last.last.source.headers n (ap (λ (s : Source). s.headers) last.source_is)) refl)

    own_arrays : last.last.role ≡ array_role → arrays_at p ns ≡ one last.last
    own_arrays role =
        ap (arrays_at p) last.all
        ∙ filter-append (λ (m : Mention Source). same_path m.path p && is_array_role m.role) last.passing (one last.last)
        ∙ ap (λ xs. xs ++ arrays_at p (one last.last)) (array-none p last.passing last.passes)
        ∙ rw (ap (λ q. same_path q p) last.path_is ∙ same_path-refl p, ap is_array_role role) refl

    found : last.last.role ≡ array_role → nth (elements_at c.arrays p) (arrays_at p (before ++ (ns ++ more))) ≡ Some last.last
    found role =
        ap (λ i. nth i (arrays_at p (before ++ (ns ++ more)))) (are.counted p)
        ∙ ap (nth (length (arrays_at p before)))
        (filter-append (λ (m : Mention Source). same_path m.path p && is_array_role m.role) before (ns ++ more)
        ∙ ap (λ xs. arrays_at p before ++ xs)
        (filter-append (λ (m : Mention Source). same_path m.path p && is_array_role m.role) ns more
        ∙ ap (λ xs. xs ++ arrays_at p more) (own_arrays role)))
        ∙ nth-last (arrays_at p before) last.last (arrays_at p more)

    opens : (is_array : Bool) → last.last.role ≡ (if is_array then array_role else header_role)
        → OpensAt (before ++ (ns ++ more)) (if is_array then to_element p (elements_at c.arrays p) else p) last.last
    opens true role =
        opens_element (elements_at c.arrays p) role (ap (λ q. to_element q (elements_at c.arrays p)) (sym last.path_is))
        (ap (λ q. nth (elements_at c.arrays p) (arrays_at q (before ++ (ns ++ more)))) last.path_is ∙ found role)
    opens false role = opens_table role last.path_is

pub chunk-facts : (c : Context) (ss : List Statement) (before : List (Mention Source)) → AllByRecursion HasKey ss → AreBefore c before
    → IsBlockOf c.block before
    → AreUpTo c.headers before → AgreeAfter before (placed_from c ss)
    → AllByRecursion (IsChunk (before ++ mentions_in (placed_from c ss))) (chunks c ss)
chunk-facts c [] before keyed are reached low agrees = tt
chunk-facts c (key_line f v end ∷ ss) before keyed are reached low agrees =
    let s : Statement = key_line f v end in
    subst (λ all. AllByRecursion (IsChunk all) (chunks (context_after c s) ss))
    (append_assoc before (mentions_of c s) (mentions_in (placed_from (context_after c s) ss)))
    (chunk-facts (context_after c s) ss (before ++ mentions_of c s) keyed.1 (before_next c s before are keyed.0 agrees.0)
    (block_next c s before are reached keyed.0)
    (up-to-next c.headers (source_of c s) before (mentions_of c s) low (own-sources c s) (let n : ℕ = c.headers in omega arith)) agrees.1)
chunk-facts c (header h end ∷ ss) before keyed are reached low agrees =
    let s : Statement = header h end in (
      chunk-here c h end ss before keyed.0 keyed.1 are reached low,
      subst (λ all. AllByRecursion (IsChunk all) (chunks (context_after c s) ss))
          (append_assoc before (mentions_of c s) (mentions_in (placed_from (context_after c s) ss)))
          (chunk-facts (context_after c s) ss (before ++ mentions_of c s) keyed.1 (before_next c s before are keyed.0 agrees.0)
          (block_next c s before are reached keyed.0)
          (up-to-next c.headers (source_of c s) before (mentions_of c s) low (own-sources c s) (let n : ℕ = c.headers in omega arith))
          agrees.1),
    )

-- The blocks of an accepted document.
pub document-chunks : (d : Document) → AllByRecursion HasKey d.statements → is_accepted d ≡ true
    → AllByRecursion (IsChunk (all_mentions d)) (chunks (start_context d) d.statements)
document-chunks d keyed h =
    chunk-facts (start_context d) d.statements [] keyed (before_none d) tt tt
    (right-agree [] (placed_from (start_context d) d.statements) (accepted-right d h))
