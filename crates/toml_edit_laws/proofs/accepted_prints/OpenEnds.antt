-- A document and a print with an open end: the grammar, what is accepted, what is meant, and the text.
use Rattle.std.proofs.Common.{◌≡◌, refl, sym, ◌∙◌, ap, subst, ℕ, ◌+◌, Bool, true, false, List, [], ◌∷◌, ◌++◌, append_assoc, ◌⊎◌, inr}
use Rattle.std.specs.Prelude.{◌&&◌, ◌||◌, not, map, if◌then◌else◌}
use Rattle.std.specs.List.{list_all}
use Rattle.toml_edit_model.specs.Text.{Text, joined, is_empty}
use Rattle.toml_edit_model.specs.Mode.{Mode, plain, exact, is_exact}
use Rattle.toml_edit_model.specs.Trivia.{IsNewline}
use Rattle.toml_edit_model.specs.Syntax.{Segment, Statement, key_line, header, AreStatements, IsStatement, statement_text, newline_after}
use Rattle.toml_edit_model.specs.Syntax.{without_newline, open_statements, frame_text, value_text, brackets_text}
use Rattle.toml_edit_model.specs.Version.{v1_1}
use Rattle.toml_edit_model.specs.Paths.{Path, same_path, passing_role, Mention, Source, Placed, Context, start_context, context_after}
use Rattle.toml_edit_model.specs.Paths.{source_of, mentions_of, placed_from, line_mentions, header_mentions, next_start, to_key}
use Rattle.toml_edit_model.specs.Paths.{elements_at, in_last, header_role_of, path_start}
use Rattle.toml_edit_model.specs.Accepted.{agree, is_sound}
use Rattle.toml_edit_model.specs.Meaning.{statement_facts, facts_from, meaning, fact, a_table}
use Rattle.toml_edit_model.specs.Tree.{Tree, shown_raw}
use Rattle.toml_edit_model.specs.Print.{Printed, printed, open_last, leaves_open, statements_of, root_prefix, root_suffix, print_in}
use Rattle.toml_edit_laws.specs.OpenEnds.{last_newline, OpenPrints, OpenEnds}
use Rattle.toml_edit_laws.specs.OneByOne.{is_right_after, all_right_in}
use Rattle.toml_edit_laws.proofs.one_by_one.Together.{accepted-is}
use Rattle.toml_edit_laws.proofs.common.Tests.{append-nil, and_right}
use Rattle.toml_edit_laws.proofs.accepted_prints.PrintedCut.{open-statements, none-left}
use Rattle.toml_edit_model.specs.Roles.{Role, dotted_role, may_meet}

-- ---- the cut

open-end : (final : Text) (s : Statement) → final ≡ [] → IsStatement (λ end. IsNewline end ⊎ ((end ≡ []) × (final ≡ []))) s
    → IsStatement (λ end. IsNewline end ⊎ ((end ≡ []) × (final ≡ []))) (without_newline s)
open-end final (key_line f v end) e h = (h.0, h.1, inr (refl, e))
open-end final (header k end) e h = (h.0, inr (refl, e))

open-are : (final : Text) (ss : List Statement) → final ≡ [] → AreStatements final ss → AreStatements final (open_statements ss)
open-are final [] e h = tt
open-are final (s ∷ []) e h = open-end final s e h
open-are final (s ∷ r ∷ []) e h = (h.0, open-end final r e h.1)
open-are final (s ∷ r ∷ q ∷ ss) e h = (h.0, open-are final (r ∷ q ∷ ss) e h.1)

-- ---- what agrees

-- mentions agree by their paths and roles, whatever their source
abbrev Meets : Mention Source → List (Mention Source) → Bool
Meets x ms = list_all (λ y. not (same_path x.path y.path) || may_meet x.role y.role) ms

line-meets : (a b : Source) (start : ℕ) (p : Path) (ss : List Segment) (x : Mention Source) → Meets x (line_mentions a start p ss)
    ≡ Meets x (line_mentions b start p ss)
line-meets a b start p [] x = refl
line-meets a b start p (s ∷ []) x = refl
line-meets a b start p (s ∷ r ∷ ss) x =
    ap (λ c. (not (same_path x.path (to_key p s.key)) || may_meet x.role dotted_role)
    && c) (line-meets a b (next_start start s) (to_key p s.key) (r ∷ ss) x)

header-meets : (a b : Source) (arrays : List Path) (role : Role) (start : ℕ) (p : Path) (ss : List Segment) (x : Mention Source)
    → Meets x (header_mentions a arrays role start p ss) ≡ Meets x (header_mentions b arrays role start p ss)
header-meets a b arrays role start p [] x = refl
header-meets a b arrays role start p (s ∷ []) x = refl
header-meets a b arrays role start p (s ∷ r ∷ ss) x =
    ap (λ c. (not (same_path x.path (to_key p s.key)) || may_meet x.role (passing_role (elements_at arrays (to_key p s.key)))) && c)
    (header-meets a b arrays role (next_start start s) (in_last (elements_at arrays (to_key p s.key)) (to_key p s.key)) (r ∷ ss) x)

statement-meets : (c : Context) (s : Statement) (x : Mention Source) → Meets x (mentions_of c (without_newline s))
    ≡ Meets x (mentions_of c s)
statement-meets c (key_line f v end) x =
    line-meets (source_of c (key_line f v [])) (source_of c (key_line f v end)) (c.start + path_start (key_line f v end)) c.block f.path x
statement-meets c (header h end) x =
    header-meets (source_of c (header h [])) (source_of c (header h end)) c.arrays (header_role_of h) (c.start
    + path_start (header h end)) [] h.path x

all-meet : (ms : List (Mention Source)) (xs ys : List (Mention Source)) → ((x : Mention Source) → Meets x xs ≡ Meets x ys)
    → agree may_meet ms xs ≡ agree may_meet ms ys
all-meet [] xs ys h = refl
all-meet (m ∷ ms) xs ys h = ap (λ b. b && agree may_meet ms xs) (h m) ∙ ap (λ b. Meets m ys && b) (all-meet ms xs ys h)

earlier-meet : (earlier : List Placed) (xs ys : List (Mention Source)) → ((x : Mention Source) → Meets x xs ≡ Meets x ys)
    → list_all (λ (e : Placed). agree may_meet e.mentions xs) earlier ≡ list_all (λ (e : Placed). agree may_meet e.mentions ys) earlier
earlier-meet [] xs ys h = refl
earlier-meet (e ∷ es) xs ys h =
    ap (λ b. b && list_all (λ (e : Placed). agree may_meet e.mentions xs) es) (all-meet e.mentions xs ys h)
    ∙ ap (λ b. agree may_meet e.mentions ys && b) (earlier-meet es xs ys h)

sound-open : (s : Statement) → is_sound (without_newline s) ≡ is_sound s
sound-open (key_line f v end) = refl
sound-open (header h end) = refl

source-is : (c : Context) (s : Statement) → (source_of c s).statement ≡ s
source-is c (key_line f v end) = refl
source-is c (header h end) = refl

right-open : (c : Context) (earlier : List Placed) (s : Statement)
    → is_right_after earlier (record { source = source_of c (without_newline s); mentions = mentions_of c (without_newline s) })
    ≡ is_right_after earlier (record { source = source_of c s; mentions = mentions_of c s })
right-open c earlier s =
    ap (λ x. is_sound x && list_all (λ (e : Placed). agree may_meet e.mentions (mentions_of c (without_newline s))) earlier)
    (source-is c (without_newline s))
    ∙ ap (λ b. b && list_all (λ (e : Placed). agree may_meet e.mentions (mentions_of c (without_newline s))) earlier) (sound-open s)
    ∙ ap (λ x. is_sound x && list_all (λ (e : Placed). agree may_meet e.mentions (mentions_of c (without_newline s))) earlier)
    (sym (source-is c s))
    ∙ ap (λ b. is_sound (source_of c s).statement && b)
    (earlier-meet earlier (mentions_of c (without_newline s)) (mentions_of c s) (statement-meets c s))

accepted-open : (c : Context) (earlier : List Placed) (ss : List Statement)
    → all_right_in v1_1 earlier (placed_from c (open_statements ss)) ≡ all_right_in v1_1 earlier (placed_from c ss)
accepted-open c earlier [] = refl
accepted-open c earlier (s ∷ []) = ap (λ b. b && true) (right-open c earlier s)
accepted-open c earlier (s ∷ r ∷ ss) =
    let here : Placed = record { source = source_of c s; mentions = mentions_of c s } in
    ap (λ b. is_right_after earlier here && b) (accepted-open (context_after c s) (earlier ++ (here ∷ [])) (r ∷ ss))

-- ---- what is meant

pub facts-open : (c : Context) (ss : List Statement) → facts_from c (open_statements ss) ≡ facts_from c ss
facts-open c [] = refl
facts-open c (key_line f v end ∷ []) = refl
facts-open c (header h end ∷ []) = refl
facts-open c (s ∷ r ∷ ss) = ap (λ fs. statement_facts c s ++ fs) (facts-open (context_after c s) (r ∷ ss))

pub open-ends : OpenEnds
unfolding meaning
open-ends d h e =
    record {
      is_document = (open-are d.final d.statements e h.0, h.1);
      accepted = accepted-is (record d { statements = open_statements d.statements }) ∙ accepted-open (start_context d) [] d.statements
          ∙ sym (accepted-is d);
      means = ap (λ fs. fact [] a_table ∷ fs) (facts-open (start_context d) d.statements);
    }

-- ---- the text

newline-apart : (s : Statement) → statement_text (without_newline s) ++ newline_after s ≡ statement_text s
newline-apart (key_line f v end) = ap (λ t. t ++ end) (append-nil (frame_text f (value_text v)))
newline-apart (header h end) =
    append_assoc h.leading (brackets_text h ++ (h.trailing ++ [])) end
    ∙ ap (λ t. h.leading ++ t) (append_assoc (brackets_text h) (h.trailing ++ []) end
    ∙ ap (λ t. brackets_text h ++ (t ++ end)) (append-nil h.trailing))

text-open : (ss : List Statement) → joined (map statement_text (open_statements ss)) ++ last_newline ss ≡ joined (map statement_text ss)
text-open [] = refl
text-open (s ∷ []) =
    ap (λ t. t ++ newline_after s) (append-nil (statement_text (without_newline s))) ∙ newline-apart s ∙ sym (append-nil (statement_text s))
text-open (s ∷ r ∷ ss) =
    append_assoc (statement_text s) (joined (map statement_text (open_statements (r ∷ ss)))) (last_newline (r ∷ ss))
    ∙ ap (λ t. statement_text s ++ t) (text-open (r ∷ ss))

move-in : (a x tail n : Text) → tail ≡ [] → (a ++ (x ++ tail)) ++ n ≡ a ++ ((x ++ n) ++ tail)
move-in a x tail n e =
    subst (λ u. (a ++ (x ++ u)) ++ n ≡ a ++ ((x ++ n) ++ u)) (sym e)
    (append_assoc a (x ++ []) n ∙ ap (λ y. a ++ y) (ap (λ y. y ++ n) (append-nil x) ∙ sym (append-nil (x ++ n))))

module _ (mode : Mode) (t : Tree) where
  abbrev after : Text
  after = root_suffix mode t ++ shown_raw mode t.trailing

  abbrev framed : List Statement → Text
  framed ss = root_prefix mode t ++ (joined (map statement_text ss) ++ after)

  closed : (m : Mode) → ((is_exact m && false) && (is_empty (root_suffix mode t) && is_empty (shown_raw mode t.trailing))) ≡ false
  closed plain = refl
  closed exact = refl

  print-closed : print_in mode false t ≡ framed (statements_of mode t)
  print-closed = ap (λ b. framed (map (λ (p : Printed). p.statement) (if b then open_last (printed mode t) else printed mode t)))
      (closed mode)

  print-by : (b : Bool) → leaves_open mode true t ≡ b → print_in mode true t
      ≡ framed (if b then open_statements (statements_of mode t) else statements_of mode t)
  print-by b e = ap (λ b. framed (map (λ (p : Printed). p.statement) (if b then open_last (printed mode t) else printed mode t))) e
      ∙ by_test b
    where
      by_test : (b : Bool) → framed (map (λ (p : Printed). p.statement) (if b then open_last (printed mode t) else printed mode t))
          ≡ framed (if b then open_statements (statements_of mode t) else statements_of mode t)
      by_test true = ap framed (open-statements (printed mode t))
      by_test false = refl

  print-open : leaves_open mode true t ≡ true → print_in mode true t ++ last_newline (statements_of mode t) ≡ print_in mode false t
  print-open e =
      let none : after ≡ [] =
      none-left (root_suffix mode t) (shown_raw mode t.trailing) (and_right (is_exact mode && true) (is_empty (root_suffix mode t)
      && is_empty (shown_raw mode t.trailing)) e) in
      ap (λ x. x ++ last_newline (statements_of mode t)) (print-by true e)
      ∙ move-in (root_prefix mode t) (joined (map statement_text (open_statements (statements_of mode t)))) after
      (last_newline (statements_of mode t)) none
      ∙ ap (λ x. root_prefix mode t ++ (x ++ after)) (text-open (statements_of mode t))
      ∙ sym print-closed

-- An open end leaves out the last newline, where nothing follows the statements, and nothing else.
pub open-prints : OpenPrints
open-prints mode t = (print-open mode t, λ e. print-by mode t false e ∙ sym (print-closed mode t))
