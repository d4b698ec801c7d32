-- The printed statements of a tree that fits are a cut of its print, within limits and ranges.
use Rattle.std.proofs.Common.{◌≡◌, refl, sym, ◌∙◌, ap, subst, ℕ, ◌⊎◌, Bool, true, false, List, [], ◌∷◌, ◌++◌, append_assoc, inl, inr}
use Rattle.std.specs.Prelude.{◌&&◌, ◌||◌, not, map, ℤ, pos, MatchBool, if◌then◌else◌}
use Rattle.std.specs.List.{list_all, AllByRecursion}
use Rattle.toml_edit_laws.proofs.common.LineEnds.{newline-is}
use Rattle.toml_edit_model.specs.Mode.{Mode, is_exact}
use Rattle.toml_edit_model.specs.Text.{Text, joined, is_empty}
use Rattle.toml_edit_model.specs.Trivia.{IsWhiteSpace, IsWholeTrivia, IsFinalTrivia, IsNewline, lf}
use Rattle.toml_edit_model.specs.Trivia as trivia
use Rattle.toml_edit_model.specs.Syntax.{Statement, key_line, header, statement_text, document_text, IsStatement, AreStatements, IsPath}
use Rattle.toml_edit_model.specs.Syntax.{IsValue, IsHeader, keeps_limits, is_ranged, keeps_ranges, without_newline, open_statements}
use Rattle.toml_edit_model.specs.Paths.{Path}
use Rattle.toml_edit_model.specs.Tree.{Key, Node, nothing, leaf, list, inline, table, tables, Items, no_items, item, Slots, no_slots, slot}
use Rattle.toml_edit_model.specs.Tree.{Tree, is_value_node, IsWellMade, ItemsAreWellMade, SlotsAreWellMade, shown_prefix, shown_suffix}
use Rattle.toml_edit_model.specs.Tree.{shown_raw}
use Rattle.toml_edit_model.specs.HeaderOrder.{Visit, PlacedVisit, node_walk, items_walk, slots_walk, walk, places_from, place_of}
use Rattle.toml_edit_model.specs.HeaderOrder.{comes_before, in_header_order}
use Rattle.toml_edit_model.specs.Print.{Line, line_of, is_line_node, value_of, inside_lines, lines_inside, table_lines, dotted_lines}
use Rattle.toml_edit_model.specs.Print.{segments, last_leaf, line_statement, Printed, printed, printed_line, printed_table, printed_tables}
use Rattle.toml_edit_model.specs.Print.{lines_of, has_header, header_of, header_default, lifted_prefix, key_prefix, is_lifted}
use Rattle.toml_edit_model.specs.Print.{statements_of, root_prefix, root_suffix, print_in, add_before, final_of, document_in}
use Rattle.toml_edit_model.specs.Print.{header_statement, frame_of, header_suffix, open_last, leaves_open, written_statements}
use Rattle.toml_edit_model.specs.Fits.{PrintedLineSuits, HeaderSuits, TableSuits}
use Rattle.toml_edit_laws.specs.AcceptedPrints.{PrintIsCut}
use Rattle.toml_edit_laws.proofs.common.Tests.{and_left, and_right, and_both, not-true}
use Rattle.toml_edit_laws.proofs.common.OrderLaws.{all-sorted}
use Rattle.toml_edit_laws.proofs.accepted_prints.PrintedValues.{whole-append, final-append, side-any, KeysAreTrue, keys-snoc, line-value}
use Rattle.toml_edit_laws.proofs.accepted_prints.PrintedValues.{segments-path, path-is, value-is, value-ranges}
use Rattle.toml_edit_laws.proofs.common.Trivia.{empty-trivia}
use Rattle.toml_edit_laws.proofs.common.Each.{all-both, all-append, all-map, all-image}

-- ---- the text of the cut

-- a text before the first statement, or before what follows, is before them all
add_before-text : (t : Text) (ss : List Statement) (final : Text)
    → joined (map statement_text (add_before t ss)) ++ final_of t ss final ≡ t ++ (joined (map statement_text ss) ++ final)
add_before-text t [] final = refl
add_before-text t (key_line f v end ∷ ss) final = simp append_assoc refl
add_before-text t (header h end ∷ ss) final = simp append_assoc refl

pub if_lines : (P : Line → Type 0) (b : Bool) (ls : List Line) → AllByRecursion P ls → AllByRecursion P (if b then ls else [])
if_lines P true ls h = h
if_lines P false ls h = tt

pub record IsVisit (v : Visit) : Type 0 where
  pub keys : KeysAreTrue v.keys
  pub made : SlotsAreWellMade v.slots

mutual
  node_walk-is : (n : Node) (p : Path) (ks : List Key) (e : Bool) → IsWellMade n → KeysAreTrue ks
      → AllByRecursion IsVisit (node_walk n p ks e)
  node_walk-is (table f ss) p ks e made keys = (record { keys = keys; made = made }, slots_walk-is ss p ks made keys)
  node_walk-is (tables x xs) p ks e made keys = items_walk-is xs p ks 0 made keys
  node_walk-is (leaf s r d) p ks e made keys = tt
  node_walk-is (list f xs) p ks e made keys = tt
  node_walk-is (inline f ss) p ks e made keys = tt
  node_walk-is nothing p ks e made keys = tt

  items_walk-is : (xs : Items) (p : Path) (ks : List Key) (i : ℕ) → ItemsAreWellMade xs → KeysAreTrue ks
      → AllByRecursion IsVisit (items_walk xs p ks i)
  items_walk-is no_items p ks i made keys = tt
  items_walk-is (item (table f ss) xs) p ks i made keys = (
    record { keys = keys; made = made.0 },
    all-append IsVisit (slots_walk ss _ ks) (items_walk xs p ks _)
        (slots_walk-is ss _ ks made.0 keys) (items_walk-is xs p ks _ made.1 keys),
  )
  items_walk-is (item (tables e us) xs) p ks i made keys = items_walk-is xs p ks i made.1 keys
  items_walk-is (item (leaf s r d) xs) p ks i made keys = items_walk-is xs p ks i made.1 keys
  items_walk-is (item (list f us) xs) p ks i made keys = items_walk-is xs p ks i made.1 keys
  items_walk-is (item (inline f us) xs) p ks i made keys = items_walk-is xs p ks i made.1 keys
  items_walk-is (item nothing xs) p ks i made keys = items_walk-is xs p ks i made.1 keys

  pub slots_walk-is : (ss : Slots) (p : Path) (ks : List Key) → SlotsAreWellMade ss → KeysAreTrue ks
      → AllByRecursion IsVisit (slots_walk ss p ks)
  slots_walk-is no_slots p ks made keys = tt
  slots_walk-is (slot k n ss) p ks made keys =
      all-append IsVisit (node_walk n _ (ks ++ (k ∷ [])) false) (slots_walk ss p ks)
      (node_walk-is n _ (ks ++ (k ∷ [])) false made.2 (keys-snoc ks k keys made.1)) (slots_walk-is ss p ks made.3 keys)

pub places-all : (P : Visit → Type 0) (seen : ℤ) (vs : List Visit) → AllByRecursion P vs
    → AllByRecursion (λ (v : PlacedVisit). P v.1 × (v.1.fields.is_dotted ≡ false)) (places_from seen vs)
places-all P seen [] h = tt
places-all P seen (v ∷ vs) h =
    by_test v.fields.is_dotted refl (places_from seen vs) (places_from (place_of seen v) vs) (places-all P seen vs h.1)
    (places-all P (place_of seen v) vs h.1)
  where
    by_test : (c : Bool) → v.fields.is_dotted ≡ c → (xs ys : List PlacedVisit)
        → AllByRecursion (λ (v : PlacedVisit). P v.1 × (v.1.fields.is_dotted ≡ false)) xs
        → AllByRecursion (λ (v : PlacedVisit). P v.1 × (v.1.fields.is_dotted ≡ false)) ys
        → AllByRecursion (λ (v : PlacedVisit). P v.1 × (v.1.fields.is_dotted ≡ false)) (if c then xs else (place_of seen v, v) ∷ ys)
    by_test true e xs ys f g = f
    by_test false e xs ys f g = ((h.0, e), g)

pub order-all : (P : Visit → Type 0) (t : Tree) → AllByRecursion P (walk t)
    → AllByRecursion (λ (v : PlacedVisit). P v.1 × (v.1.fields.is_dotted ≡ false)) (in_header_order t)
order-all P t h =
    all-sorted (λ (v : PlacedVisit). P v.1 × (v.1.fields.is_dotted ≡ false)) comes_before (places_from (pos 0) (walk t))
    (places-all P (pos 0) (walk t) h)

default_trivia : (b : Bool) → IsWholeTrivia (header_default b)
default_trivia true = empty-trivia
default_trivia false = (trivia.break lf ∷ [], (tt, tt), refl)

-- the key's prefix before the brackets, and the white space inside them
record Inside (b : Bool) (prefix suffix : Text) : Type 0 where
  lifted : IsWholeTrivia (if b then prefix else [])
  opening : IsWhiteSpace (if b then [] else prefix)
  closing : IsWhiteSpace (if b then [] else suffix)

inside-is : (b : Bool) (prefix suffix : Text) → MatchBool b (IsWholeTrivia prefix) (IsWhiteSpace prefix × IsWhiteSpace suffix)
    → Inside b prefix suffix
inside-is true prefix suffix h = record { lifted = h; opening = refl; closing = refl }
inside-is false prefix suffix h = record { lifted = empty-trivia; opening = h.0; closing = h.1 }

abbrev Good : Printed → Type 0
Good p = IsStatement IsNewline p.statement × (is_ranged p.statement ≡ true)

order-is : (t : Tree) → SlotsAreWellMade t.slots → AllByRecursion (λ (v : PlacedVisit). IsVisit v.1) (in_header_order t)
order-is t made =
    all-map (λ (v : PlacedVisit). IsVisit v.1 × (v.1.fields.is_dotted ≡ false)) (λ (v : PlacedVisit). IsVisit v.1) (in_header_order t)
    (λ v h. h.0)
    (order-all IsVisit t (record { keys = tt; made = made }, slots_walk-is t.slots [] [] made tt))

abbrev Ended : Statement → Type 0
Ended s = IsStatement IsNewline s

prefixed : (t : Text) (ss : List Statement) → IsWholeTrivia t → AllByRecursion Ended ss → AllByRecursion Ended (add_before t ss)
prefixed t [] h g = tt
prefixed t (key_line f v end ∷ ss) h g = (
  (
    (
      record {
        leading = whole-append t f.leading h g.0.0.0.leading;
        segments = g.0.0.0.segments;
        before_equals = g.0.0.0.before_equals;
        after_equals = g.0.0.0.after_equals;
        trailing = g.0.0.0.trailing;
      },
      g.0.0.1,
    ),
    g.0.1,
    g.0.2,
  ),
  g.1,
)
prefixed t (header k end ∷ ss) h g = (
  (
    (
      record {
        leading = whole-append t k.leading h g.0.0.0.leading;
        segments = g.0.0.0.segments;
        opening = g.0.0.0.opening;
        closing = g.0.0.0.closing;
        trailing = g.0.0.0.trailing;
      },
      g.0.0.1,
    ),
    g.0.1,
  ),
  g.1,
)

last-is : (final : Text) (s : Statement) → Ended s → IsStatement (λ end. IsNewline end ⊎ ((end ≡ []) × (final ≡ []))) s
last-is final (key_line f v end) h = (h.0, h.1, inl h.2)
last-is final (header k end) h = (h.0, inl h.1)

statements-are : (final : Text) (ss : List Statement) → AllByRecursion Ended ss → AreStatements final ss
statements-are final [] h = tt
statements-are final (s ∷ []) h = last-is final s h.0
statements-are final (s ∷ r ∷ ss) h = (h.0, statements-are final (r ∷ ss) h.1)

final-is : (before after : Text) (ss : List Statement) → IsWholeTrivia before → IsFinalTrivia after
    → IsFinalTrivia (final_of before ss after)
final-is before after [] h g = final-append before after h g
final-is before after (s ∷ ss) h g = g

abbrev Keeps : Statement → Bool
Keeps s = keeps_limits s && is_ranged s

all-keep : (ss : List Statement) → list_all keeps_limits ss ≡ true → AllByRecursion (λ s. is_ranged s ≡ true) ss → list_all Keeps ss ≡ true
all-keep [] h g = refl
all-keep (s ∷ ss) h g =
    and_both (Keeps s) (list_all Keeps ss) (and_both (keeps_limits s) (is_ranged s) (and_left (keeps_limits s) (list_all keeps_limits ss) h)
    g.0)
    (all-keep ss (and_right (keeps_limits s) (list_all keeps_limits ss) h) g.1)

prefixed-keeps : (t : Text) (ss : List Statement) → list_all Keeps ss ≡ true → list_all Keeps (add_before t ss) ≡ true
prefixed-keeps t [] h = refl
prefixed-keeps t (key_line f v end ∷ ss) h = h
prefixed-keeps t (header k end ∷ ss) h = h

-- ---- an open end

open-is : (final : Text) (s : Statement) → final ≡ [] → Ended s
    → IsStatement (λ end. IsNewline end ⊎ ((end ≡ []) × (final ≡ []))) (without_newline s)
open-is final (key_line f v end) e h = (h.0, h.1, inr (refl, e))
open-is final (header k end) e h = (h.0, inr (refl, e))

pub open-are : (final : Text) (ss : List Statement) → final ≡ [] → AllByRecursion Ended ss → AreStatements final (open_statements ss)
open-are final [] e h = tt
open-are final (s ∷ []) e h = open-is final s e h.0
open-are final (s ∷ r ∷ []) e h = (h.0, open-is final r e h.1.0)
open-are final (s ∷ r ∷ q ∷ ss) e h = (h.0, open-are final (r ∷ q ∷ ss) e h.1)

before-open : (t : Text) (ss : List Statement) → add_before t (open_statements ss) ≡ open_statements (add_before t ss)
before-open t [] = refl
before-open t (key_line f v end ∷ []) = refl
before-open t (header k end ∷ []) = refl
before-open t (key_line f v end ∷ r ∷ ss) = refl
before-open t (header k end ∷ r ∷ ss) = refl

final-open : (before after : Text) (ss : List Statement) → final_of before (open_statements ss) after ≡ final_of before ss after
final-open before after [] = refl
final-open before after (s ∷ []) = refl
final-open before after (s ∷ r ∷ ss) = refl

keeps-open : (ss : List Statement) → list_all Keeps ss ≡ true → list_all Keeps (open_statements ss) ≡ true
keeps-open [] h = refl
keeps-open (key_line f v end ∷ []) h = h
keeps-open (header k end ∷ []) h = h
keeps-open (s ∷ r ∷ ss) h =
    and_both (Keeps s) (list_all Keeps (open_statements (r ∷ ss))) (and_left (Keeps s) (list_all Keeps (r ∷ ss)) h)
    (keeps-open (r ∷ ss) (and_right (Keeps s) (list_all Keeps (r ∷ ss)) h))

pub open-statements : (ps : List Printed) → map (λ (p : Printed). p.statement) (open_last ps)
    ≡ open_statements (map (λ (p : Printed). p.statement) ps)
open-statements [] = refl
open-statements (p ∷ []) = refl
open-statements (p ∷ q ∷ ps) = ap (λ ss. p.statement ∷ ss) (open-statements (q ∷ ps))

pub none-left : (xs ys : Text) → (is_empty xs && is_empty ys) ≡ true → xs ++ ys ≡ []
none-left [] [] h = refl
none-left [] (y ∷ ys) h = absurd cc
none-left (x ∷ xs) ys h = absurd cc

-- statements with a text before the first are in the grammar with what follows, open at the end where nothing follows
cut-by : (ajar : Bool) (before suffix trailing : Text) (ss : List Statement)
    → IsWholeTrivia before → IsFinalTrivia (suffix ++ trailing) → AllByRecursion Ended ss → list_all Keeps ss ≡ true
    → AreStatements (final_of before (if ajar && (is_empty suffix && is_empty trailing) then open_statements ss else ss) (suffix
    ++ trailing))
    (add_before before (if ajar && (is_empty suffix && is_empty trailing) then open_statements ss else ss))
    × IsFinalTrivia (final_of before (if ajar && (is_empty suffix && is_empty trailing) then open_statements ss else ss) (suffix
    ++ trailing))
    × (list_all Keeps (add_before before (if ajar && (is_empty suffix && is_empty trailing) then open_statements ss else ss)) ≡ true)
cut-by ajar before suffix trailing ss b f h g = by_test (ajar && (is_empty suffix && is_empty trailing)) refl
  where
    by_test : (c : Bool) → (ajar && (is_empty suffix && is_empty trailing)) ≡ c
        → AreStatements (final_of before (if c then open_statements ss else ss) (suffix ++ trailing)) (add_before before (if c
        then open_statements ss else ss))
        × IsFinalTrivia (final_of before (if c then open_statements ss else ss) (suffix ++ trailing))
        × (list_all Keeps (add_before before (if c then open_statements ss else ss)) ≡ true)
    by_test false e = (
      statements-are (final_of before ss (suffix ++ trailing)) (add_before before ss) (prefixed before ss b h),
      final-is before (suffix ++ trailing) ss b f,
      prefixed-keeps before ss g,
    )
    by_test true e =
        let none = none-left suffix trailing (and_right ajar (is_empty suffix && is_empty trailing) e) in (
          subst (λ x. AreStatements (final_of before (open_statements ss) (suffix ++ trailing)) x) (sym (before-open before ss))
              (open-all ss none h),
          subst IsFinalTrivia (sym (final-open before (suffix ++ trailing) ss)) (final-is before (suffix ++ trailing) ss b f),
          prefixed-keeps before (open_statements ss) (keeps-open ss g),
        )
      where
        open-all : (ss : List Statement) → suffix ++ trailing ≡ [] → AllByRecursion Ended ss
            → AreStatements (final_of before (open_statements ss) (suffix ++ trailing)) (open_statements (add_before before ss))
        open-all [] none h = tt
        open-all (s ∷ ss) none h =
            subst (λ x. AreStatements x (open_statements (add_before before (s ∷ ss))))
            (sym (final-open before (suffix ++ trailing) (s ∷ ss)))
            (open-are (suffix ++ trailing) (add_before before (s ∷ ss)) none (prefixed before (s ∷ ss) b h))

module _ (mode : Mode) where
  pub document-text : (is_open : Bool) (t : Tree) → document_text (document_in mode is_open t) ≡ print_in mode is_open t
  document-text is_open t =
      add_before-text (root_prefix mode t) (written_statements mode is_open t) (root_suffix mode t ++ shown_raw mode t.trailing)

  -- ---- lines of tables

  -- a line as a table gives it: its value's syntax, its keys
  pub record IsLineOf (l : Line) : Type 0 where
    pub value : l.value ≡ value_of mode l.item
    pub shape : is_value_node l.item ≡ true
    pub made : IsWellMade l.item
    pub keys : KeysAreTrue l.keys
    pub some_key : (front : List Key) × (last : Key) × (l.keys ≡ front ++ (last ∷ []))

  line_of-is : (n : Node) (ks : List Key) (k : Key) → is_line_node n ≡ true → IsWellMade n → KeysAreTrue (ks ++ (k ∷ []))
      → AllByRecursion IsLineOf (line_of (ks ++ (k ∷ [])) n (value_of mode n))
  line_of-is n ks k line made keys =
      (record { value = refl; shape = line-value n line; made = made; keys = keys; some_key = (ks, k, refl) }, tt)

  by_line : (n : Node) (ks : List Key) (k : Key) (ls : List Line) (b : Bool) → is_line_node n ≡ b → IsWellMade n
      → KeysAreTrue (ks ++ (k ∷ []))
      → AllByRecursion IsLineOf ls → AllByRecursion IsLineOf (elim b [ true ↦ line_of (ks ++ (k ∷ [])) n (value_of mode n) | false ↦ ls ])
  by_line n ks k ls true e made keys h = line_of-is n ks k e made keys
  by_line n ks k ls false e made keys h = h

  mutual
    inside_lines-are : (ss : Slots) (ks : List Key) → SlotsAreWellMade ss → KeysAreTrue ks
        → AllByRecursion IsLineOf (inside_lines mode ss ks)
    inside_lines-are no_slots ks made keys = tt
    inside_lines-are (slot k n ss) ks made keys =
        let own = keys-snoc ks k keys made.1 in
        all-append IsLineOf _ (inside_lines mode ss ks)
        (by_line n ks k (lines_inside mode n (ks ++ (k ∷ []))) (is_line_node n) refl made.2 own (lines_inside-are n (ks
        ++ (k ∷ [])) made.2 own))
        (inside_lines-are ss ks made.3 keys)

    lines_inside-are : (n : Node) (ks : List Key) → IsWellMade n → KeysAreTrue ks → AllByRecursion IsLineOf (lines_inside mode n ks)
    lines_inside-are (inline f ss) ks made keys = inside_lines-are ss ks made keys
    lines_inside-are (table f ss) ks made keys = inside_lines-are ss ks made keys
    lines_inside-are (leaf s r d) ks made keys = tt
    lines_inside-are (list f xs) ks made keys = tt
    lines_inside-are (tables e xs) ks made keys = tt
    lines_inside-are nothing ks made keys = tt

  mutual
    pub table_lines-are : (ss : Slots) (ks : List Key) → SlotsAreWellMade ss → KeysAreTrue ks
        → AllByRecursion IsLineOf (table_lines mode ss ks)
    table_lines-are no_slots ks made keys = tt
    table_lines-are (slot k n ss) ks made keys =
        let own = keys-snoc ks k keys made.1 in
        all-append IsLineOf _ (table_lines mode ss ks)
        (by_line n ks k (dotted_lines mode n (ks ++ (k ∷ []))) (is_line_node n) refl made.2 own (dotted_lines-are n (ks
        ++ (k ∷ [])) made.2 own))
        (table_lines-are ss ks made.3 keys)

    dotted_lines-are : (n : Node) (ks : List Key) → IsWellMade n → KeysAreTrue ks → AllByRecursion IsLineOf (dotted_lines mode n ks)
    dotted_lines-are (table f ss) ks made keys = if_lines IsLineOf f.is_dotted (table_lines mode ss ks) (table_lines-are ss ks made keys)
    dotted_lines-are (inline f ss) ks made keys = inside_lines-are ss ks made keys
    dotted_lines-are (leaf s r d) ks made keys = tt
    dotted_lines-are (list f xs) ks made keys = tt
    dotted_lines-are (tables e xs) ks made keys = tt
    dotted_lines-are nothing ks made keys = tt

  -- ---- statements

  -- a line whose decors suit by the empty defaults is one of the grammar
  line-path : (ks : List Key) (front : List Key) (last : Key) → ks ≡ front ++ (last ∷ []) → KeysAreTrue ks → IsPath (segments mode ks)
  line-path ks front last e keys = subst (λ x. IsPath (segments mode x)) (sym e) (path-is mode front last (subst KeysAreTrue e keys))

  line_statement-is : (l : Line) → IsLineOf l → PrintedLineSuits mode l → IsStatement IsNewline (line_statement mode l)
  line_statement-is l is h = (
    (
      record {
        leading = h.0.leading;
        segments = h.0.segments;
        before_equals = h.0.before_equals;
        after_equals = h.0.after_equals;
        trailing = h.0.trailing;
      },
      line-path l.keys is.some_key.0 is.some_key.1 is.some_key.2 is.keys,
    ),
    subst IsValue (sym is.value) (value-is mode l.item is.made is.shape h.1),
    newline-is mode (frame_of mode [] [] l).trailing,
  )

  line-ranged : (l : Line) → IsLineOf l → is_ranged (line_statement mode l) ≡ true
  line-ranged l is = ap keeps_ranges is.value ∙ value-ranges mode l.item is.made

  keys-path : (ks : List Key) → is_empty ks ≡ false → KeysAreTrue ks → IsPath (segments mode ks)
  keys-path [] h keys = absurd cc
  keys-path (k ∷ ks) h keys = segments-path mode k ks keys

  header-is : (b : Bool) (v : Visit) → IsVisit v → has_header mode v ≡ true → HeaderSuits mode v → IsHeader (header_of mode b v)
  header-is b v is has h =
      let inside = inside-is (is_lifted mode v) (key_prefix mode v) (shown_suffix mode [] (last_leaf v.keys)) h.inner in (
        record {
          leading = whole-append (lifted_prefix mode v) (shown_prefix mode (header_default b) v.fields.decor) inside.lifted
              (side-any mode IsWholeTrivia (header_default b) v.fields.decor.prefix (default_trivia b) h.leading);
          segments = h.segments;
          opening = inside.opening;
          closing = inside.closing;
          trailing = h.trailing;
        },
        keys-path v.keys (not-true (is_empty v.keys) (and_left (not (is_empty v.keys)) (v.is_element
            || not (v.fields.is_implicit && is_empty (lines_of mode v))) has)) is.keys,
      )

  header-good : (b : Bool) (v : Visit) (c : Bool) → has_header mode v ≡ c → IsVisit v → MatchBool c (HeaderSuits mode v) (Unit {0})
      → AllByRecursion Good (if c then record { block = v.path; path = v.path; statement = header_statement mode b v } ∷ [] else [])
  header-good b v true e is h = (((header-is b v is e h, newline-is mode (header_suffix mode v)), refl), tt)
  header-good b v false e is h = tt

  table-good : (b : Bool) (v : PlacedVisit) → IsVisit v.1 → TableSuits mode v → AllByRecursion Good (printed_table mode b v.1)
  table-good b v is h =
      all-append Good _ (map (printed_line mode v.1.path) (lines_of mode v.1))
      (header-good b v.1 (has_header mode v.1) refl is h.0)
      (all-image (printed_line mode v.1.path) Good (lines_of mode v.1)
      (all-map (λ l. IsLineOf l × PrintedLineSuits mode l) (λ l. Good (printed_line mode v.1.path l)) (lines_of mode v.1)
      (λ l g. (line_statement-is l g.0 g.1, line-ranged l g.0))
      (all-both IsLineOf (PrintedLineSuits mode) (lines_of mode v.1) (table_lines-are v.1.slots [] is.made tt) h.1)))

  tables-good : (b : Bool) (vs : List PlacedVisit) → AllByRecursion (λ v. IsVisit v.1) vs → AllByRecursion (TableSuits mode) vs
      → AllByRecursion Good (printed_tables mode b vs)
  tables-good b [] h g = tt
  tables-good b (v ∷ vs) h g =
      all-append Good (printed_table mode b v.1) _ (table-good b v h.0 g.0) (tables-good (b
      && is_empty (printed_table mode b v.1)) vs h.1 g.1)

  -- ---- the cut

  -- The printed statements are a cut of the print, within limits and ranges.
  pub print-cut : PrintIsCut mode
  print-cut is_open t fitting =
      let decors = fitting.fits.decors in
      let good = tables-good true (in_header_order t) (order-is t fitting.made) decors.tables in
      let ended = all-image (λ (p : Printed). p.statement) Ended (printed mode t)
      (all-map Good (λ p. Ended p.statement) (printed mode t) (λ p g. g.0) good) in
      let keep =
      all-keep (statements_of mode t) fitting.fits.limits
      (all-image (λ (p : Printed). p.statement) (λ s. is_ranged s
      ≡ true) (printed mode t) (all-map Good (λ p. is_ranged p.statement ≡ true) (printed mode t) (λ p g. g.1) good)) in
      let cut = cut-by (is_exact mode && is_open) (root_prefix mode t) (root_suffix mode t) (shown_raw mode t.trailing)
      (statements_of mode t)
      decors.root_prefix (final-append (root_suffix mode t) (shown_raw mode t.trailing) decors.root_suffix decors.trailing) ended keep in
      let same : written_statements mode is_open t ≡ (if leaves_open mode is_open t then open_statements (statements_of mode t)
      else statements_of mode t) =
      by_test (leaves_open mode is_open t) in (
        (
          (
            subst (λ ss. AreStatements (final_of (root_prefix mode t) ss (root_suffix mode t ++ shown_raw mode t.trailing))
                (add_before (root_prefix mode t) ss)) (sym same) cut.0,
            subst (λ ss. IsFinalTrivia (final_of (root_prefix mode t) ss (root_suffix mode t ++ shown_raw mode t.trailing))) (sym same)
                cut.1,
          ),
          document-text is_open t,
        ),
        subst (λ ss. list_all Keeps (add_before (root_prefix mode t) ss) ≡ true) (sym same) cut.2,
      )
    where
      by_test : (b : Bool) → map (λ (p : Printed). p.statement) (if b then open_last (printed mode t) else printed mode t)
          ≡ (if b then open_statements (statements_of mode t) else statements_of mode t)
      by_test true = open-statements (printed mode t)
      by_test false = refl
