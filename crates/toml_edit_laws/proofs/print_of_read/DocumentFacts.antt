-- What holds of the statements and mentions of an accepted document.
use Rattle.std.proofs.Common.{◌≡◌, refl, sym, ◌∙◌, ap, subst, ℕ, zero, suc, ◌+◌, Bool, true, false, List, [], ◌∷◌, ◌++◌, append_assoc, inl}
use Rattle.std.proofs.Common.{inr}
use Rattle.std.specs.Prelude.{◌⊎◌, ◌&&◌, flat_map, if◌then◌else◌}
use Rattle.std.specs.List.{AllByRecursion, list_all}
use Rattle.toml_edit_laws.proofs.common.LineEnds.{IsEnd}
use Rattle.toml_edit_model.specs.Text.{Text, one}
use Rattle.toml_edit_model.specs.Trivia.{IsLineEnd, IsNewline}
use Rattle.toml_edit_model.specs.Syntax.{Segment, Statement, key_line, header, Document, IsSpacedSegment, IsFrame, IsValue, IsHeader}
use Rattle.toml_edit_model.specs.Syntax.{IsStatement, AreStatements, keeps_limits, is_ranged}
use Rattle.toml_edit_model.specs.Paths.{at_key, Path, to_key, Mention, Source, Placed, Context, mention_of, next_start, line_mentions}
use Rattle.toml_edit_model.specs.Paths.{header_mentions, elements_at, in_last, passing_role, header_role_of, path_start, source_of}
use Rattle.toml_edit_model.specs.Paths.{mentions_of, context_after, placed_from, start_context, placed, all_mentions}
use Rattle.toml_edit_model.specs.Accepted.{agree, has_agreeing_pairs, is_sound, is_accepted}
use Rattle.toml_edit_model.specs.Normal.{is_line}
use Rattle.toml_edit_laws.specs.OneByOne.{is_right_after, all_right_after}
use Rattle.toml_edit_laws.proofs.common.Tests.{and_left, and_right}
use Rattle.toml_edit_laws.proofs.common.Members.{Among, among-cases, all-among, all-of-among}
use Rattle.toml_edit_laws.proofs.mentions.GatheredLines.{steps}
use Rattle.toml_edit_laws.proofs.clashes.ClashContext.{HasKey}
use Rattle.toml_edit_laws.proofs.print_of_read.LevelFacts.{among-map, map-among}
use Rattle.toml_edit_laws.proofs.print_of_read.Blocks.{IsBlock, of_root, IsLineOf, HaveLines, AreDotted}
use Rattle.toml_edit_laws.proofs.print_of_read.Chunks.{place_path, place_start, Chunk, lead_lines, chunks, chunk_places, placed-chunks}
use Rattle.toml_edit_laws.proofs.print_of_read.ChunkFacts.{IsLineIn, IsChunk, lead-facts, document-chunks}
use Rattle.toml_edit_laws.proofs.mentions.Placed.{mentions_in, placed_at, own-sources}
use Rattle.toml_edit_laws.proofs.mentions.RoleTests.{is_bracket_role}
use Rattle.toml_edit_laws.proofs.common.Each.{all-append}
use Rattle.toml_edit_laws.proofs.mentions.SomeAt.{among-test}
use Rattle.toml_edit_laws.proofs.one_by_one.Together.{accepted-right}
use Rattle.toml_edit_model.specs.Roles.{Role, header_role, array_role, value_role, dotted_role, may_meet, is_dotted_role}

-- ---- statements

-- a statement is in the grammar, with a newline or none, and the pairs of its inline tables agree
abbrev pub IsRightStatement : Statement → Type 0
IsRightStatement (key_line f v end) = IsFrame IsLineEnd f × IsValue v × (has_agreeing_pairs v ≡ true) × IsEnd end
IsRightStatement (header h end) = IsHeader h × IsEnd end

right-statement : (MayEnd : Text → Type 0) → ((end : Text) → MayEnd end → IsEnd end) → (c : Context) (s : Statement) → IsStatement MayEnd s
    → is_sound (source_of c s).statement ≡ true
    → IsRightStatement (source_of c s).statement
right-statement MayEnd ends c (key_line f v end) h e =
    (h.0, h.1, and_right (keeps_limits (key_line f v end) && is_ranged (key_line f v end)) (has_agreeing_pairs v) e, ends end h.2)
right-statement MayEnd ends c (header hd end) h e = (h.0, ends end h.1)

-- a place is right, and so are the later ones
sound-place : (earlier : List Placed) (s : Placed) (rest : List Placed) → all_right_after earlier (s ∷ rest) ≡ true
    → (is_sound s.source.statement ≡ true) × (all_right_after (earlier ++ one s) rest ≡ true)
sound-place earlier s rest h = (
  and_left (is_sound s.source.statement) (list_all (λ (e : Placed). agree may_meet e.mentions s.mentions) earlier)
      (and_left (is_right_after earlier s) (all_right_after (earlier ++ one s) rest) h),
  and_right (is_right_after earlier s) (all_right_after (earlier ++ one s) rest) h,
)

abbrev AreRight : List Placed → Type 0
AreRight places = AllByRecursion (λ s. IsRightStatement s.source.statement) places

right-statements : (final : Text) (ss : List Statement) (c : Context) (earlier : List Placed) → AreStatements final ss
    → all_right_after earlier (placed_from c ss) ≡ true
    → AreRight (placed_from c ss)
right-statements final [] c earlier h e = tt
right-statements final (s ∷ []) c earlier h e = (
  right-statement (λ end. IsNewline end ⊎ ((end ≡ []) × (final ≡ []))) (λ end g. elim g [ inl n ↦ inl n | inr p ↦ inr p.0 ]) c s h
      (sound-place earlier (placed_at c s) [] e).0,
  tt,
)
right-statements final (s ∷ r ∷ rest) c earlier h e =
    let sound = sound-place earlier (placed_at c s) (placed_from (context_after c s) (r ∷ rest)) e in (
      right-statement IsNewline (λ end n. inl n) c s h.0 sound.0,
      right-statements final (r ∷ rest) (context_after c s) (earlier ++ one (placed_at c s)) h.1 sound.1,
    )

pub document-right : (d : Document) → AreStatements d.final d.statements → is_accepted d ≡ true → AreRight (placed d)
document-right d h e = right-statements d.final d.statements (start_context d) [] h (accepted-right d e)

-- ---- mentions

-- a mention's statement is that of its place
sources-in : (c : Context) (ss : List Statement) (m : Mention Source) → Among m (mentions_in (placed_from c ss))
    → (s : Placed) × Among s (placed_from c ss) × Among m s.mentions × (m.source ≡ s.source)
sources-in c [] m a = elim a [ ]
sources-in c (s ∷ ss) m a =
    elim (among-cases m (mentions_of c s) (mentions_in (placed_from (context_after c s) ss)) a) [
      | inl g ↦ (
        placed_at c s,
        inl refl,
        g,
        all-among (λ (x : Mention Source). x.source
            ≡ source_of c s) m (mentions_of c s) (own-sources c s) g,
      )
      | inr g ↦ let found = sources-in (context_after c s) ss m g in (found.0, inr found.1, found.2, found.3)
    ]

pub mentions-right : (d : Document) → AreRight (placed d) → AllByRecursion (λ m. IsRightStatement m.source.statement) (all_mentions d)
mentions-right d h =
    all-of-among (λ (m : Mention Source). IsRightStatement m.source.statement) (all_mentions d) (λ m a.
    let found = sources-in (start_context d) d.statements m a in
    subst (λ (s : Source). IsRightStatement s.statement) (sym found.3)
    (all-among (λ (s : Placed). IsRightStatement s.source.statement) found.0 (placed d) h found.1))

line-spaced : (source : Source) (start : ℕ) (p : Path) (ss : List Segment) → AllByRecursion IsSpacedSegment ss
    → AllByRecursion (λ m. IsSpacedSegment m.segment) (line_mentions source start p ss)
line-spaced source start p [] h = tt
line-spaced source start p (s ∷ []) h = (h.0, tt)
line-spaced source start p (s ∷ r ∷ rest) h = (h.0, line-spaced source (next_start start s) (to_key p s.key) (r ∷ rest) h.1)

header-spaced : (source : Source) (arrays : List Path) (role : Role) (start : ℕ) (p : Path) (ss : List Segment)
    → AllByRecursion IsSpacedSegment ss
    → AllByRecursion (λ m. IsSpacedSegment m.segment) (header_mentions source arrays role start p ss)
header-spaced source arrays role start p [] h = tt
header-spaced source arrays role start p (s ∷ []) h = (h.0, tt)
header-spaced source arrays role start p (s ∷ r ∷ rest) h = (
  h.0,
  header-spaced source arrays role (next_start start s) (in_last (elements_at arrays (to_key p s.key)) (to_key p s.key)) (r
      ∷ rest) h.1,
)

statement-spaced : (c : Context) (s : Statement) → IsRightStatement (source_of c s).statement
    → AllByRecursion (λ m. IsSpacedSegment m.segment) (mentions_of c s)
statement-spaced c (key_line f v end) h =
    line-spaced (source_of c (key_line f v end)) (c.start + path_start (key_line f v end)) c.block f.path h.0.0.segments
statement-spaced c (header hd end) h =
    header-spaced (source_of c (header hd end)) c.arrays (header_role_of hd) (c.start
    + path_start (header hd end)) [] hd.path h.0.0.segments

placed-spaced : (c : Context) (ss : List Statement) → AreRight (placed_from c ss)
    → AllByRecursion (λ m. IsSpacedSegment m.segment) (mentions_in (placed_from c ss))
placed-spaced c [] h = tt
placed-spaced c (s ∷ ss) h =
    all-append (λ (m : Mention Source). IsSpacedSegment m.segment) (mentions_of c s) (mentions_in (placed_from (context_after c s) ss))
    (statement-spaced c s h.0) (placed-spaced (context_after c s) ss h.1)

pub document-spaced : (d : Document) → AreRight (placed d) → AllByRecursion (λ m. IsSpacedSegment m.segment) (all_mentions d)
document-spaced d h = placed-spaced (start_context d) d.statements h

-- what opens a block is a header
opening-line : (source : Source) (start : ℕ) (p : Path) (ss : List Segment) (m : Mention Source) → Among m (line_mentions source start p ss)
    → is_bracket_role m.role ≡ true → ⊥
opening-line source start p [] m a e = elim a [ ]
opening-line source start p (s ∷ []) m (inl g) e =
    (let clash : is_bracket_role value_role ≡ true = ap (λ (x : Mention Source). is_bracket_role x.role) (sym g) ∙ e in absurd cc)
opening-line source start p (s ∷ []) m (inr a) e = elim a [ ]
opening-line source start p (s ∷ r ∷ rest) m (inl g) e =
    (let clash : is_bracket_role dotted_role ≡ true = ap (λ (x : Mention Source). is_bracket_role x.role) (sym g) ∙ e in absurd cc)
opening-line source start p (s ∷ r ∷ rest) m (inr a) e = opening-line source (next_start start s) (to_key p s.key) (r ∷ rest) m a e

opening-statement : (c : Context) (s : Statement) (m : Mention Source) → Among m (mentions_of c s) → is_bracket_role m.role ≡ true
    → is_line (source_of c s).statement ≡ false
opening-statement c (key_line f v end) m a e =
    absurd (opening-line (source_of c (key_line f v end)) (c.start + path_start (key_line f v end)) c.block f.path m a e)
opening-statement c (header hd end) m a e = refl

opening-header : (c : Context) (ss : List Statement) (m : Mention Source) → Among m (mentions_in (placed_from c ss))
    → is_bracket_role m.role ≡ true
    → is_line m.source.statement ≡ false
opening-header c [] m a e = elim a [ ]
opening-header c (s ∷ ss) m a e =
    elim (among-cases m (mentions_of c s) (mentions_in (placed_from (context_after c s) ss)) a) [
      | inl g ↦
          ap (λ (x : Source). is_line x.statement) (all-among (λ (x : Mention Source). x.source
          ≡ source_of c s) m (mentions_of c s) (own-sources c s) g)
          ∙ opening-statement c s m g e
      | inr g ↦ opening-header (context_after c s) ss m g e
    ]

pub document-openings : (d : Document) (m : Mention Source) → Among m (all_mentions d) → is_bracket_role m.role ≡ true
    → is_line m.source.statement ≡ false
document-openings d m a e = opening-header (start_context d) d.statements m a e

-- ---- lines

-- the value's key ends a line
line-value : (all : List (Mention Source)) (source : Source) (start : ℕ) (p : Path) (ss : List Segment) (m : Mention Source)
    → ((n : Mention Source) → Among n (line_mentions source start p ss) → Among n all) → Among m (line_mentions source start p ss) → m.role
    ≡ value_role
    → (keys : List Text) × (last : Text) × (m.path ≡ to_key (p ++ steps keys) last) × AreDotted all p keys
line-value all source start p [] m whole a e = elim a [ ]
line-value all source start p (s ∷ []) m whole (inl g) e =
    ([], s.key, ap (λ (x : Mention Source). x.path) g ∙ ap (λ q. to_key q s.key) (sym (append-none p)), tt)
  where
    append-none : (q : Path) → q ++ [] ≡ q
    append-none [] = refl
    append-none (t ∷ q) = ap (λ r. t ∷ r) (append-none q)
line-value all source start p (s ∷ []) m whole (inr a) e = elim a [ ]
line-value all source start p (s ∷ r ∷ rest) m whole (inl g) e =
    (let clash : dotted_role ≡ value_role = ap (λ (x : Mention Source). x.role) (sym g) ∙ e in absurd cc)
line-value all source start p (s ∷ r ∷ rest) m whole (inr a) e =
    let more = line-value all source (next_start start s) (to_key p s.key) (r ∷ rest) m (λ n b. whole n (inr b)) a e in (
      s.key ∷ more.0,
      more.1,
      more.2 ∙ ap (λ q. to_key q more.1) (append_assoc p (one (at_key s.key)) (steps more.0)),
      (
        among-test is_dotted_role (mention_of source start (to_key p s.key) dotted_role s) all
            (whole (mention_of source start (to_key p s.key) dotted_role s) (inl refl)) refl,
        more.3,
      ),
    )

-- a line of a block, all of whose mentions are among these
line-of : (all : List (Mention Source)) (b : Path) (j : ℕ) (s : Placed) (m : Mention Source) → IsBlock all b j → IsLineIn b j s
    → ((n : Mention Source) → Among n s.mentions → Among n all) → Among m s.mentions → m.source ≡ s.source → m.role ≡ value_role
    → IsLineOf all m
line-of all b j s m block h whole a source_is role =
    let found =
    line-value all s.source (place_start s) b (place_path s) m (λ n c. whole n (subst (Among n) (sym h.mentions) c))
    (subst (Among m) h.mentions a) role in
    record {
      block = b;
      keys = found.0;
      last = found.1;
      is_line = ap (λ (x : Source). is_line x.statement) source_is ∙ h.line;
      opened = subst (IsBlock all b) (sym (ap (λ (x : Source). x.headers) source_is ∙ h.number)) block;
      path = found.2;
      dotted = found.3;
    }

-- a header is before no value
header-value : (source : Source) (arrays : List Path) (role : Role) (start : ℕ) (p : Path) (ss : List Segment) (m : Mention Source)
    → Among m (header_mentions source arrays role start p ss) → m.role ≡ value_role → (role ≡ value_role → ⊥) → ⊥
header-value source arrays role start p [] m a e not_value = elim a [ ]
header-value source arrays role start p (s ∷ []) m (inl g) e not_value = not_value (ap (λ (x : Mention Source). x.role) (sym g) ∙ e)
header-value source arrays role start p (s ∷ []) m (inr a) e not_value = elim a [ ]
header-value source arrays role start p (s ∷ r ∷ rest) m (inl g) e not_value =
    passing (elements_at arrays (to_key p s.key)) (ap (λ (x : Mention Source). x.role) (sym g) ∙ e)
  where
    passing : (n : ℕ) → passing_role n ≡ value_role → ⊥
    passing zero h = cc
    passing (suc n) h = cc
header-value source arrays role start p (s ∷ r ∷ rest) m (inr a) e not_value =
    header-value source arrays role (next_start start s) (in_last (elements_at arrays (to_key p s.key)) (to_key p s.key)) (r
    ∷ rest) m a e not_value

role-value : (b : Bool) → (if b then array_role else header_role) ≡ value_role → ⊥
role-value true h = cc
role-value false h = cc

-- Each value's key ends a line of a block.
pub document-lines : (d : Document) → AllByRecursion HasKey d.statements → is_accepted d ≡ true → HaveLines (all_mentions d)
document-lines d keyed h m a role =
    elim (among-cases place lead rest (subst (Among place) (placed-chunks c ss) found.1)) [
      | inl g ↦
          line-of all [] 0 place m (of_root refl refl) (all-among (IsLineIn [] 0) place lead (lead-facts c ss keyed) g) whole found.2
          found.3 role
      | inr g ↦ by_chunk (among-map chunk_places place (chunks c ss) g)
    ]
  where
    all : List (Mention Source)
    all = all_mentions d

    c : Context
    c = start_context d

    ss : List Statement
    ss = d.statements

    lead : List Placed
    lead = lead_lines c ss

    rest : List Placed
    rest = flat_map chunk_places (chunks c ss)

    found : (s : Placed) × Among s (placed_from c ss) × Among m s.mentions × (m.source ≡ s.source)
    found = sources-in c ss m a

    place : Placed
    place = found.0

    whole : (n : Mention Source) → Among n place.mentions → Among n all
    whole n b = map-among (λ (s : Placed). s.mentions) n place (placed_from c ss) found.1 b

    by_chunk : (ch : Chunk) × Among ch (chunks c ss) × Among place (chunk_places ch) → IsLineOf all m
    by_chunk (ch, at, there) =
        let is : IsChunk all ch = all-among (IsChunk all) ch (chunks c ss) (document-chunks d keyed h) at in
        elim there [
          | inl g ↦
              absurd
              (header-value ch.head.source is.arrays (header_role_of is.header_is) (ch.head.source.start
              + path_start (header is.header_is is.end)) [] is.header_is.path m
              (subst (Among m) (ap (λ (s : Placed). s.mentions) g ∙ is.mentions) found.2) role (role-value is.header_is.is_array))
          | inr g ↦
              line-of all ch.block (suc is.number) place m is.block
              (all-among (IsLineIn ch.block (suc is.number)) place ch.lines is.lines g) whole found.2 found.3 role
        ]
