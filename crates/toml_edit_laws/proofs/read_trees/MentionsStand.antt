-- Where the statements and segments of a document stand in its text.
use Rattle.std.proofs.Common.{◌≡◌, sym, subst, ℕ, ◌+◌, ◌-◌, arith, inl, inr, List, [], ◌∷◌, ◌++◌, length, map, codes}
use Rattle.std.specs.Prelude.{flat_map}
use Rattle.std.proofs.lemmas.List.{length-append}
use Rattle.toml_edit_model.specs.Text.{Text, joined, is_empty}
use Rattle.toml_edit_model.specs.Syntax.{Segment, Header, Statement, key_line, header, Document, value_text, segment_text, path_text}
use Rattle.toml_edit_model.specs.Syntax.{frame_text, statement_text, brackets_text, opening_brackets, closing_brackets, mark_text}
use Rattle.toml_edit_model.specs.Syntax.{document_text}
use Rattle.toml_edit_model.specs.Paths.{Step, Path, to_key, Mention, Source, Placed, Context, header_mentions, next_start, elements_at}
use Rattle.toml_edit_model.specs.Paths.{in_last, header_role_of, path_start, source_of, mentions_of, context_after, placed_from}
use Rattle.toml_edit_model.specs.Paths.{start_context, all_mentions}
use Rattle.toml_edit_laws.specs.Standing.{Stands}
use Rattle.toml_edit_laws.proofs.common.StandingLaws.{stands-left, stands-right, stands-whole}
use Rattle.toml_edit_laws.proofs.common.Members.{Among, among-cases, of-filtered}
use Rattle.toml_edit_laws.proofs.mentions.KeyMentions.{line-source}
use Rattle.toml_edit_laws.proofs.mentions.KeptMentions.{under-is}
use Rattle.toml_edit_laws.proofs.values.ValueOwned.{stands-at, SegmentStands, segment-stands, path-stands}
use Rattle.toml_edit_laws.proofs.mentions.Placed.{header-source, after-start}
use Rattle.toml_edit_model.specs.Roles.{Role, is_array_role}
use Rattle.toml_edit_model.specs.TableMentions.{under, own, array_headers}

-- ---- what holds of mentions by their segments, places and sources

-- The property looks at nothing else of a mention.
abbrev pub Holds : (ℕ → Segment → Source → Type 0) → List (Mention Source) → Type 0
Holds P ms = (m : Mention Source) → Among m ms → P m.start m.segment m.source

pub holds-under : (P : ℕ → Segment → Source → Type 0) (s : Step) (ms : List (Mention Source)) → Holds P ms → Holds P (under s ms)
holds-under P s ms h m a =
    let up = under-is s m ms a in
    subst (λ k. P k.start k.segment k.source) (sym up.same) (h up.mention up.among)

pub arrays-among : (m : Mention Source) (ns : List (Mention Source)) → Among m (array_headers ns) → Among m ns
arrays-among m ns h =
    of-filtered (λ (k : Mention Source). is_empty k.path) m ns
    (of-filtered (λ (k : Mention Source). is_array_role k.role) m (own ns) h)

-- ---- segments

header-segments : {S : Type 0} (text : Text) (source : S) (before : List Path) (role : Role) (i : ℕ) (p : Path) (ss : List Segment)
    → Stands text i (path_text ss) → (m : Mention S) → Among m (header_mentions source before role i p ss)
    → SegmentStands text m.start m.segment
header-segments text source before role i p [] h m a = elim a [ ]
header-segments text source before role i p (s ∷ []) h m (inl g) =
    subst (λ k. SegmentStands text k.start k.segment) (sym g) (segment-stands text i s h)
header-segments text source before role i p (s ∷ []) h m (inr a) = elim a [ ]
header-segments text source before role i p (s ∷ r ∷ rest) h m (inl g) =
    subst (λ k. SegmentStands text k.start k.segment) (sym g)
    (segment-stands text i s (stands-left text i (segment_text s) (codes "." ++ path_text (r ∷ rest)) h))
header-segments text source before role i p (s ∷ r ∷ rest) h m (inr a) =
    let here : Path = to_key p s.key in
    header-segments text source before role (next_start i s) (in_last (elements_at before here) here) (r ∷ rest)
    (stands-right text (i + length (segment_text s)) (codes ".") (path_text (r ∷ rest)) (stands-right text i (segment_text s) (codes "."
    ++ path_text (r ∷ rest)) h))
    m a

-- ---- statements

-- the parts of a header that begins at this byte
pub record HeaderStands (text : Text) (i : ℕ) (h : Header) : Type 0 where
  pub leading : Stands text i h.leading
  pub opening : Stands text (i + length h.leading + length (opening_brackets h.is_array)) h.opening
  pub path : Stands text (i + length h.leading + length (opening_brackets h.is_array) + length h.opening) (path_text h.path)
  pub closing : Stands text (i + length h.leading + length (opening_brackets h.is_array) + length h.opening
      + length (path_text h.path)) h.closing
  pub trailing : Stands text (i + length h.leading + length (brackets_text h)) h.trailing

pub header-stands : (text : Text) (i : ℕ) (h : Header) (end : Text) → Stands text i (statement_text (header h end)) → HeaderStands text i h
header-stands text i h end g =
    let from_closing = h.closing ++ closing_brackets h.is_array in
    let from_path = path_text h.path ++ from_closing in
    let from_opening = h.opening ++ from_path in
    let from_trailing = h.trailing ++ end in
    let at_brackets = stands-right text i h.leading (brackets_text h ++ from_trailing) g in
    let brackets = stands-left text (i + length h.leading) (brackets_text h) from_trailing at_brackets in
    let at_trailing = stands-right text (i + length h.leading) (brackets_text h) from_trailing at_brackets in
    let at_opening = stands-right text (i + length h.leading) (opening_brackets h.is_array) from_opening brackets in
    let at_path = stands-right text (i + length h.leading + length (opening_brackets h.is_array)) h.opening from_path at_opening in
    let at_closing = stands-right text (i + length h.leading + length (opening_brackets h.is_array)
    + length h.opening) (path_text h.path) from_closing at_path in
    record {
      leading = stands-left text i h.leading (brackets_text h ++ from_trailing) g;
      opening = stands-left text _ h.opening from_path at_opening;
      path = stands-left text _ (path_text h.path) from_closing at_path;
      closing = stands-left text _ h.closing (closing_brackets h.is_array) at_closing;
      trailing = stands-left text _ h.trailing end at_trailing;
    }

-- the segment stands at this byte, and its statement where its source says
pub record MentionStands (text : Text) (i : ℕ) (s : Segment) (source : Source) : Type 0 where
  pub segment : SegmentStands text i s
  pub statement : Stands text source.start (statement_text source.statement)

pub statement-mentions : (text : Text) (c : Context) (s : Statement) → Stands text c.start (statement_text s)
    → Holds (MentionStands text) (mentions_of c s)
statement-mentions text c (key_line f v end) h m a =
    let source = source_of c (key_line f v end) in
    let from_space = f.before_equals ++ (codes "=" ++ (f.after_equals ++ (value_text v ++ f.trailing))) in
    let frame = stands-left text c.start (frame_text f (value_text v)) end h in
    let at_path = stands-left text _ (path_text f.path) from_space (stands-right text c.start f.leading (path_text f.path
    ++ from_space) frame) in
    record {
      segment = path-stands text source (c.start + path_start (key_line f v end)) c.block f.path at_path m a;
      statement =
          subst (λ (x : Source). Stands text x.start (statement_text x.statement))
          (sym (line-source source (c.start + path_start (key_line f v end)) c.block f.path m a)) h;
    }
statement-mentions text c (header g end) h m a =
    let source = source_of c (header g end) in
    let parts = header-stands text c.start g end h in
    let place : c.start + length g.leading + length (opening_brackets g.is_array) + length g.opening ≡ c.start + path_start (header g end) =
    omega arith in
    record {
      segment =
          header-segments text source c.arrays (header_role_of g) (c.start + path_start (header g end)) [] g.path
          (stands-at text _ _ (path_text g.path) parts.path place) m a;
      statement =
          subst (λ (x : Source). Stands text x.start (statement_text x.statement))
          (sym (header-source source c.arrays (header_role_of g) (c.start + path_start (header g end)) [] g.path m a)) h;
    }

pub placed-mentions : (text : Text) (c : Context) (ss : List Statement) → Stands text c.start (joined (map statement_text ss))
    → Holds (MentionStands text) (flat_map (λ (p : Placed). p.mentions) (placed_from c ss))
placed-mentions text c [] h m a = elim a [ ]
placed-mentions text c (s ∷ ss) h m a =
    elim (among-cases m (mentions_of c s) (flat_map (λ (p : Placed). p.mentions) (placed_from (context_after c s) ss)) a) [
      | inl b ↦ statement-mentions text c s (stands-left text c.start (statement_text s) (joined (map statement_text ss)) h) m b
      | inr b ↦
          placed-mentions text (context_after c s) ss
          (stands-at text _ _ (joined (map statement_text ss))
          (stands-right text c.start (statement_text s) (joined (map statement_text ss)) h) (sym (after-start c s))) m b
    ]

-- the statements of a document, and what follows them, stand in its text
pub statements-stand : (d : Document) → Stands (document_text d) (length (mark_text d.has_mark)) (joined (map statement_text d.statements)
    ++ d.final)
statements-stand d =
    let text = document_text d in
    let rest = joined (map statement_text d.statements) ++ d.final in
    let none : 0 + length (mark_text d.has_mark) ≡ length (mark_text d.has_mark) = omega arith in
    stands-at text _ _ rest (stands-right text 0 (mark_text d.has_mark) rest (stands-whole text)) none

-- The mentions of a document stand in its text.
pub document-mentions : (d : Document) → Holds (MentionStands (document_text d)) (all_mentions d)
document-mentions d =
    placed-mentions (document_text d) (start_context d) d.statements
    (stands-left (document_text d) (length (mark_text d.has_mark)) (joined (map statement_text d.statements)) d.final (statements-stand d))

-- The final trivia stands at the end.
pub final-stands : (d : Document) → Stands (document_text d) (length (document_text d) - length d.final) d.final
final-stands d =
    let text = document_text d in
    let body = joined (map statement_text d.statements) in
    let end : length (mark_text d.has_mark) + length body ≡ length text - length d.final =
    omega (arith, length-append (mark_text d.has_mark) (body ++ d.final), length-append body d.final) in
    stands-at text _ _ d.final (stands-right text (length (mark_text d.has_mark)) body d.final (statements-stand d)) end
