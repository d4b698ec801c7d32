-- The statements of an accepted document are right, each by itself.
use Rattle.std.proofs.Common.{◌≡◌, sym, subst, ℕ, ◌+◌, inl, inr, true, List, [], ◌∷◌, ◌++◌}
use Rattle.std.specs.Prelude.{◌&&◌, flat_map}
use Rattle.std.specs.List.{AllByRecursion}
use Rattle.toml_edit_model.specs.Text.{Text, one}
use Rattle.toml_edit_model.specs.Trivia.{IsLineEnd}
use Rattle.toml_edit_model.specs.Syntax.{Segment, Statement, key_line, header, Document, IsSpelledSegment, IsFrame, IsValue, IsHeader}
use Rattle.toml_edit_model.specs.Syntax.{AreStatements, IsDocument, keeps_ranges, keeps_limits}
use Rattle.toml_edit_model.specs.Paths.{Path, to_key, Mention, Source, Placed, Context, header_mentions, next_start, elements_at, in_last}
use Rattle.toml_edit_model.specs.Paths.{header_role_of, path_start, source_of, mentions_of, context_after, placed_from, start_context}
use Rattle.toml_edit_model.specs.Paths.{all_mentions}
use Rattle.toml_edit_model.specs.Accepted.{has_agreeing_pairs, is_sound, is_accepted}
use Rattle.toml_edit_laws.specs.OneByOne.{is_right_after, all_right_after}
use Rattle.toml_edit_laws.proofs.common.Tests.{and_left, and_right}
use Rattle.toml_edit_laws.proofs.common.Members.{Among, among-cases}
use Rattle.toml_edit_laws.proofs.mentions.KeyMentions.{line-source}
use Rattle.toml_edit_laws.proofs.values.ValueMade.{IsRight}
use Rattle.toml_edit_laws.proofs.read_trees.MentionsStand.{Holds}
use Rattle.toml_edit_laws.proofs.mentions.Placed.{source-statement, header-source, line-spelled}
use Rattle.toml_edit_laws.proofs.one_by_one.Together.{accepted-right}
use Rattle.toml_edit_model.specs.Roles.{Role}

-- ---- in the grammar

-- a statement, but for how it ends
abbrev pub InGrammar : Statement → Type 0
InGrammar (key_line f v end) = IsFrame IsLineEnd f × IsValue v
InGrammar (header h end) = IsHeader h

pub statements-grammar : (final : Text) (ss : List Statement) → AreStatements final ss → AllByRecursion InGrammar ss
statements-grammar final [] h = tt
statements-grammar final (key_line f v end ∷ []) h = ((h.0, h.1), tt)
statements-grammar final (header g end ∷ []) h = (h.0, tt)
statements-grammar final (key_line f v end ∷ r ∷ rest) h = ((h.0.0, h.0.1), statements-grammar final (r ∷ rest) h.1)
statements-grammar final (header g end ∷ r ∷ rest) h = (h.0.0, statements-grammar final (r ∷ rest) h.1)

-- ---- right

-- the value of a key line is right
abbrev pub HasRightValue : Statement → Type 0
HasRightValue (key_line f v end) = IsRight v
HasRightValue (header h end) = Unit {0}

right-value : (s : Statement) → InGrammar s → is_sound s ≡ true → HasRightValue s
right-value (key_line f v end) h g =
    let limits = keeps_limits (key_line f v end) in
    record {
      grammar = h.1;
      agrees = and_right (limits && keeps_ranges v) (has_agreeing_pairs v) g;
      ranged = and_right limits (keeps_ranges v) (and_left (limits && keeps_ranges v) (has_agreeing_pairs v) g);
    }
right-value (header h end) g i = tt

-- the segment is spelled, and the value of its statement is right
pub record IsRightMention (s : Segment) (source : Source) : Type 0 where
  pub key : IsSpelledSegment s
  pub value : HasRightValue source.statement

abbrev pub AreRight : List (Mention Source) → Type 0
AreRight ms = Holds (λ i s source. IsRightMention s source) ms

header-spelled : {S : Type 0} (source : S) (before : List Path) (role : Role) (i : ℕ) (p : Path) (ss : List Segment)
    → AllByRecursion IsSpelledSegment ss
    → (m : Mention S) → Among m (header_mentions source before role i p ss) → IsSpelledSegment m.segment
header-spelled source before role i p [] h m a = elim a [ ]
header-spelled source before role i p (s ∷ []) h m (inl g) = subst (λ (k : Mention _). IsSpelledSegment k.segment) (sym g) h.0
header-spelled source before role i p (s ∷ []) h m (inr a) = elim a [ ]
header-spelled source before role i p (s ∷ r ∷ rest) h m (inl g) = subst (λ (k : Mention _). IsSpelledSegment k.segment) (sym g) h.0
header-spelled source before role i p (s ∷ r ∷ rest) h m (inr a) =
    let here : Path = to_key p s.key in
    header-spelled source before role (next_start i s) (in_last (elements_at before here) here) (r ∷ rest) h.1 m a

statement-right : (c : Context) (s : Statement) → InGrammar s → is_sound s ≡ true → AreRight (mentions_of c s)
statement-right c (key_line f v end) h g m a =
    let source = source_of c (key_line f v end) in
    record {
      key = line-spelled source (c.start + path_start (key_line f v end)) c.block f.path h.0.1.spelled m a;
      value =
          subst (λ (x : Source). HasRightValue x.statement) (sym (line-source source (c.start
          + path_start (key_line f v end)) c.block f.path m a))
          (right-value (key_line f v end) h g);
    }
statement-right c (header h end) is g m a =
    let source = source_of c (header h end) in
    record {
      key = header-spelled source c.arrays (header_role_of h) (c.start + path_start (header h end)) [] h.path is.1.spelled m a;
      value =
          subst (λ (x : Source). HasRightValue x.statement)
          (sym (header-source source c.arrays (header_role_of h) (c.start + path_start (header h end)) [] h.path m a)) tt;
    }

places-right : (c : Context) (ss : List Statement) (earlier : List Placed) → AllByRecursion InGrammar ss
    → all_right_after earlier (placed_from c ss) ≡ true → AreRight (flat_map (λ (p : Placed). p.mentions) (placed_from c ss))
places-right c [] earlier h g m a = elim a [ ]
places-right c (s ∷ ss) earlier h g m a =
    let here : Placed = record { source = source_of c s; mentions = mentions_of c s } in
    let later = placed_from (context_after c s) ss in
    let right = and_left (is_right_after earlier here) (all_right_after (earlier ++ one here) later) g in
    let rest = and_right (is_right_after earlier here) (all_right_after (earlier ++ one here) later) g in
    let sound : is_sound (source_of c s).statement ≡ true = and_left (is_sound (source_of c s).statement) _ right in
    elim (among-cases m (mentions_of c s) (flat_map (λ (p : Placed). p.mentions) later) a) [
      | inl b ↦ statement-right c s h.0 (subst (λ x. is_sound x ≡ true) (source-statement c s) sound) m b
      | inr b ↦ places-right (context_after c s) ss (earlier ++ one here) h.1 rest m b
    ]

-- The mentions of an accepted document are right.
pub document-right : (d : Document) → IsDocument d → is_accepted d ≡ true → AreRight (all_mentions d)
document-right d h g = places-right (start_context d) d.statements [] (statements-grammar d.final d.statements h.0) (accepted-right d g)
