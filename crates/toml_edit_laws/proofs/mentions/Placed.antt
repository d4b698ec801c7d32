-- Statements in their places: the source and the paths of their mentions.
use Rattle.std.proofs.Common.{List, false, true, refl, ◌≡◌, ◌∷◌, Bool, ℕ, ◌+◌, inl, ap, inr, ◌∙◌, length, [], sym, subst}
use Rattle.toml_edit_model.specs.Paths.{Placed, Mention, Source, Context, source_of, mentions_of, Path, line_mentions, next_start, to_key}
use Rattle.toml_edit_model.specs.Paths.{in_last, elements_at, header_mentions, header_role_of, path_start, context_after, header_path}
use Rattle.std.specs.Prelude.{flat_map, map, ◌&&◌}
use Rattle.toml_edit_model.specs.Syntax.{Segment, begins_unspaced, Statement, header, key_line, statement_text, IsSpelledSegment}
use Rattle.toml_edit_model.specs.Text.{is_empty, Text}
use Rattle.std.specs.List.{AllByRecursion, list_all}
use Rattle.toml_edit_laws.proofs.common.Members.{Among}
use Rattle.toml_edit_model.specs.Accepted.{agree, is_sound}
use Rattle.toml_edit_laws.specs.OneByOne.{is_right_after}
use Rattle.toml_edit_laws.proofs.common.Agreement.{agree-append}
use Rattle.toml_edit_laws.proofs.common.Tests.{and_right}
use Rattle.toml_edit_model.specs.Roles.{Role, may_meet, is_header_role}

abbrev pub mentions_in : List Placed → List (Mention Source)
mentions_in places = flat_map (λ (s : Placed). s.mentions) places

-- those of each statement apart
abbrev pub mention_lists : List Placed → List (List (Mention Source))
mention_lists places = map (λ (s : Placed). s.mentions) places

pub filled-path : (ss : List Segment) → begins_unspaced ss ≡ true → is_empty ss ≡ false
filled-path [] h = absurd cc
filled-path (s ∷ ss) h = refl

abbrev pub placed_at : Context → Statement → Placed
placed_at c s = record { source = source_of c s; mentions = mentions_of c s }

abbrev pub is_header : Statement → Bool
is_header (key_line f v end) = false
is_header (header h end) = true

pub line-sources : {S : Type 0} (source : S) (start : ℕ) (p : Path) (ss : List Segment)
    → AllByRecursion (λ m. m.source ≡ source) (line_mentions source start p ss)
line-sources source start p [] = tt
line-sources source start p (s ∷ []) = (refl, tt)
line-sources source start p (s ∷ r ∷ rest) = (refl, line-sources source (next_start start s) (to_key p s.key) (r ∷ rest))

pub header-sources : {S : Type 0} (source : S) (arrays : List Path) (role : Role) (start : ℕ) (p : Path) (ss : List Segment)
    → AllByRecursion (λ m. m.source ≡ source) (header_mentions source arrays role start p ss)
header-sources source arrays role start p [] = tt
header-sources source arrays role start p (s ∷ []) = (refl, tt)
header-sources source arrays role start p (s ∷ r ∷ rest) = (
  refl,
  header-sources source arrays role (next_start start s) (in_last (elements_at arrays (to_key p s.key)) (to_key p s.key)) (r
      ∷ rest),
)

pub own-sources : (c : Context) (s : Statement) → AllByRecursion (λ m. m.source ≡ source_of c s) (mentions_of c s)
own-sources c (key_line f v end) = line-sources (source_of c (key_line f v end)) (c.start + path_start (key_line f v end)) c.block f.path
own-sources c (header h end) =
    header-sources (source_of c (header h end)) c.arrays (header_role_of h) (c.start + path_start (header h end)) [] h.path

-- the statement of a source
pub source-statement : (c : Context) (s : Statement) → (source_of c s).statement ≡ s
source-statement c (key_line f v end) = refl
source-statement c (header h end) = refl

-- a plain header's mention is of a header
abbrev pub IsHeaded : Mention Source → Type 0
IsHeaded m = is_header_role m.role ≡ true → is_header m.source.statement ≡ true

-- a plain header's mention is of a header
pub headed-line : (source : Source) (start : ℕ) (p : Path) (segments : List Segment)
    → AllByRecursion IsHeaded (line_mentions source start p segments)
headed-line source start p [] = tt
headed-line source start p (g ∷ []) = (λ h. absurd cc, tt)
headed-line source start p (g ∷ x ∷ rest) = (λ h. absurd cc, headed-line source (next_start start g) (to_key p g.key) (x ∷ rest))

pub headed-header : (source : Source) (paths : List Path) (role : Role) (start : ℕ) (p : Path) (segments : List Segment)
    → is_header source.statement ≡ true
    → AllByRecursion IsHeaded (header_mentions source paths role start p segments)
headed-header source paths role start p [] e = tt
headed-header source paths role start p (g ∷ []) e = (λ is. e, tt)
headed-header source paths role start p (g ∷ h ∷ rest) e = (
  λ is. e,
  headed-header source paths role (next_start start g) (in_last (elements_at paths (to_key p g.key)) (to_key p g.key)) (h
      ∷ rest) e,
)

pub header-source : {S : Type 0} (source : S) (arrays : List Path) (role : Role) (start : ℕ) (p : Path) (ss : List Segment) (m : Mention S)
    → Among m (header_mentions source arrays role start p ss) → m.source ≡ source
header-source source arrays role start p [] m a = elim a [ ]
header-source source arrays role start p (s ∷ []) m (inl e) = ap (λ n. n.source) e
header-source source arrays role start p (s ∷ []) m (inr a) = elim a [ ]
header-source source arrays role start p (s ∷ r ∷ rest) m (inl e) = ap (λ n. n.source) e
header-source source arrays role start p (s ∷ r ∷ rest) m (inr a) =
    let here : Path = to_key p s.key in
    header-source source arrays role (next_start start s) (in_last (elements_at arrays here) here) (r ∷ rest) m a

pub agree-places : (earlier : List Placed) (ns : List (Mention Source))
    → agree may_meet (mentions_in earlier) ns ≡ list_all (λ (e : Placed). agree may_meet e.mentions ns) earlier
agree-places [] ns = refl
agree-places (e ∷ earlier) ns =
    agree-append may_meet e.mentions (mentions_in earlier) ns ∙ ap (λ b. agree may_meet e.mentions ns && b) (agree-places earlier ns)

-- a right statement agrees with all mentions before it
pub right-agrees : (earlier : List Placed) (s : Placed) → is_right_after earlier s ≡ true → agree may_meet (mentions_in earlier) s.mentions
    ≡ true
right-agrees earlier s h =
    agree-places earlier s.mentions ∙ and_right (is_sound s.source.statement)
    (list_all (λ (e : Placed). agree may_meet e.mentions s.mentions) earlier) h

pub after-start : (c : Context) (s : Statement) → (context_after c s).start ≡ c.start + length (statement_text s)
after-start c (key_line f v end) = refl
after-start c (header h end) = refl

-- a header's path ends in a key
pub path-ends : (arrays : List Path) (p : Path) (ss : List Segment) → is_empty ss ≡ false → (q : Path) × (k : Text)
    × (header_path arrays p ss ≡ to_key q k)
path-ends arrays p [] some = absurd cc
path-ends arrays p (s ∷ []) some = (p, s.key, refl)
path-ends arrays p (s ∷ r ∷ rest) some = path-ends arrays (in_last (elements_at arrays (to_key p s.key)) (to_key p s.key)) (r ∷ rest) refl

pub line-spelled : {S : Type 0} (source : S) (i : ℕ) (p : Path) (ss : List Segment) → AllByRecursion IsSpelledSegment ss → (m : Mention S)
    → Among m (line_mentions source i p ss) → IsSpelledSegment m.segment
line-spelled source i p [] h m a = elim a [ ]
line-spelled source i p (s ∷ []) h m (inl g) = subst (λ (k : Mention _). IsSpelledSegment k.segment) (sym g) h.0
line-spelled source i p (s ∷ []) h m (inr a) = elim a [ ]
line-spelled source i p (s ∷ r ∷ rest) h m (inl g) = subst (λ (k : Mention _). IsSpelledSegment k.segment) (sym g) h.0
line-spelled source i p (s ∷ r ∷ rest) h m (inr a) = line-spelled source (next_start i s) (to_key p s.key) (r ∷ rest) h.1 m a
