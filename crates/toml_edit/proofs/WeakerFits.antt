-- A tree that fits in the exact mode fits in the plain mode: without its carriage returns each decor still suits its place.
use Rattle.std.proofs.Common.{◌≡◌, refl, sym, ◌∙◌, ap, subst, Bool, true, false, List, [], ◌∷◌, ◌++◌, Option, Some, None}
use Rattle.std.specs.Prelude.{◌==◌, ◌||◌, not, MatchBool, if◌then◌else◌}
use Rattle.std.specs.List.{AllByRecursion}
use Rattle.std.proofs.lemmas.Bool.Decides.{Decides-eqb}
use Rattle.toml_edit_model.specs.Mode.{plain, exact, ends_in_return, but_last}
use Rattle.toml_edit_model.specs.Text.{Text, carriage_return, line_feed, one, has_byte, without_returns}
use Rattle.toml_edit_model.specs.Trivia.{IsWhiteSpace, IsWholeTrivia, IsLineEnd, IsFinalTrivia}
use Rattle.toml_edit_model.specs.Syntax.{IsSpacedSegment}
use Rattle.toml_edit_model.specs.Tree.{Raw, owned, span, Key, Node, nothing, leaf, list, inline, table, tables, Items, no_items, item}
use Rattle.toml_edit_model.specs.Tree.{Slots, no_slots, slot, Tree, shown_side, node_decor, is_value_node}
use Rattle.toml_edit_model.specs.HeaderOrder.{Visit, PlacedVisit, in_header_order}
use Rattle.toml_edit_model.specs.Print.{one_space, Line, segments, segments_after, last_leaf, is_line_node, lines_of, has_header}
use Rattle.toml_edit_model.specs.Print.{key_prefix, is_lifted}
use Rattle.toml_edit_model.specs.Fits.{LineSuits, ElementSuits, Suits, ItemsSuit, InsideSuits, NodeSuitsInside, EndsLine, PrintedLineSuits}
use Rattle.toml_edit_model.specs.Fits.{InnerDecorSuits, HeaderSuits, TableSuits, DecorsSuit, FitsIn}
use Rattle.toml_edit_laws.proofs.common.Each.{all-map}
use Rattle.toml_edit_laws.proofs.common.Tests.{append-nil}
use Rattle.toml_edit_laws.proofs.common.Trivia.{returns-append, end-returns}
use Rattle.toml_edit_laws.proofs.normal_texts.DecorsSuit.{lean-white}
use Rattle.toml_edit_laws.proofs.normal_texts.Lean.{lean-trivia, lean-end, lean-final}
use Rattle.toml_edit_laws.proofs.normal_texts.LinesInModes.{AlikeLines, table-alike, header-same, ordered-same, limits-same}

-- ---- texts

last-kept : (t : Text) → ends_in_return t ≡ true → but_last t ++ one carriage_return ≡ t
last-kept [] h = absurd cc
last-kept (c ∷ []) h = ap one (sym ((Decides-eqb c carriage_return).0 h))
last-kept (c ∷ d ∷ t) h = ap (λ u. c ∷ u) (last-kept (d ∷ t) h)

-- without the CR that it may end in, a line end has none
lean-line : (t : Text) → EndsLine exact t → IsLineEnd (without_returns t)
lean-line t h = by_test (ends_in_return t) refl h
  where
    by_test : (b : Bool) → ends_in_return t ≡ b → IsLineEnd (if b then but_last t else t) → IsLineEnd (without_returns t)
    by_test false e h = lean-end plain t h
    by_test true e h =
        subst IsLineEnd
        (sym
        (ap without_returns (sym (last-kept t e)) ∙ returns-append (but_last t) (one carriage_return)
        ∙ append-nil (without_returns (but_last t))
        ∙ end-returns (but_last t) h))
        h

feed-kept : (t : Text) → has_byte line_feed (without_returns t) ≡ has_byte line_feed t
feed-kept [] = refl
feed-kept (c ∷ t) = by_test (c == carriage_return) refl (feed-kept t)
  where
    by_test : (b : Bool) → (c == carriage_return) ≡ b → has_byte line_feed (without_returns t) ≡ has_byte line_feed t
        → has_byte line_feed (if not b then c ∷ without_returns t else without_returns t) ≡ ((c == line_feed) || has_byte line_feed t)
    by_test false e h = ap (λ b. (c == line_feed) || b) h
    by_test true e h = h ∙ ap (λ x. (x == line_feed) || has_byte line_feed t) (sym ((Decides-eqb c carriage_return).0 e))

-- ---- sides of decors

side : (P Q : Text → Type 0) (default : Text) → (P default → Q default) → ((t : Text) → P t → Q (without_returns t)) → (o : Option Raw)
    → P (shown_side exact default o) → Q (shown_side plain default o)
side P Q default d f None h = d h
side P Q default d f (Some (owned t)) h = f t h
side P Q default d f (Some (span i j)) h = d h

trivia-side : (default : Text) (o : Option Raw) → IsWholeTrivia (shown_side exact default o) → IsWholeTrivia (shown_side plain default o)
trivia-side default o h = side IsWholeTrivia IsWholeTrivia default (λ d. d) (lean-trivia plain) o h

white-side : (default : Text) (o : Option Raw) → IsWhiteSpace (shown_side exact default o) → IsWhiteSpace (shown_side plain default o)
white-side default o h = side IsWhiteSpace IsWhiteSpace default (λ d. d) (lean-white plain) o h

end-side : (o : Option Raw) → EndsLine exact (shown_side exact [] o) → EndsLine plain (shown_side plain [] o)
end-side o h = side (EndsLine exact) (EndsLine plain) [] (λ d. d) lean-line o h

feed-side : (o : Option Raw) → has_byte line_feed (shown_side exact [] o) ≡ has_byte line_feed (shown_side plain [] o)
feed-side None = refl
feed-side (Some (owned t)) = sym (feed-kept t)
feed-side (Some (span i j)) = refl

-- ---- lines

after-spaced : (ks : List Key) → AllByRecursion IsSpacedSegment (segments_after exact ks)
    → AllByRecursion IsSpacedSegment (segments_after plain ks)
after-spaced [] h = tt
after-spaced (k ∷ []) h = ((white-side [] k.dotted.prefix h.0.0, refl), tt)
after-spaced (k ∷ l ∷ rest) h = ((white-side [] k.dotted.prefix h.0.0, white-side [] k.dotted.suffix h.0.1), after-spaced (l ∷ rest) h.1)

segments-spaced : (ks : List Key) → AllByRecursion IsSpacedSegment (segments exact ks) → AllByRecursion IsSpacedSegment (segments plain ks)
segments-spaced [] h = tt
segments-spaced (k ∷ []) h = h
segments-spaced (k ∷ l ∷ rest) h = ((refl, white-side [] k.dotted.suffix h.0.1), after-spaced (l ∷ rest) h.1)

line-suits : (P Q : Text → Type 0) → ((o : Option Raw) → P (shown_side exact [] o) → Q (shown_side plain [] o)) → (ks : List Key) (n : Node)
    → LineSuits exact P ks n → LineSuits plain Q ks n
line-suits P Q follows ks n h =
    record {
      leading = trivia-side [] (last_leaf ks).prefix h.leading;
      segments = segments-spaced ks h.segments;
      before_equals = white-side one_space (last_leaf ks).suffix h.before_equals;
      after_equals = white-side one_space (node_decor n).prefix h.after_equals;
      trailing = follows (node_decor n).suffix h.trailing;
    }

by-test : (b : Bool) (P Q R S : Type 0) → (P → R) → (Q → S) → MatchBool b P Q → MatchBool b R S
by-test true P Q R S f g h = f h
by-test false P Q R S f g h = g h

mutual
  node-suits : (n : Node) → Suits exact n → Suits plain n
  node-suits (list f xs) h = (trivia-side [] (Some f.trailing) h.0, items-suit xs h.1)
  node-suits (inline f ss) h = (trivia-side [] (Some f.trailing) h.0, inside-suits ss [] h.1)
  node-suits (leaf s r d) h = tt
  node-suits (table f ss) h = tt
  node-suits (tables e xs) h = tt
  node-suits nothing h = tt

  items-suit : (xs : Items) → ItemsSuit exact xs → ItemsSuit plain xs
  items-suit no_items h = tt
  items-suit (item n xs) h = (
    by-test (is_value_node n) (ElementSuits exact n × Suits exact n) (Unit {0}) (ElementSuits plain n × Suits plain n) (Unit {0})
        (λ g. ((trivia-side [] (node_decor n).prefix g.0.0, trivia-side [] (node_decor n).suffix g.0.1), node-suits n g.1)) (λ g. g) h.0,
    items-suit xs h.1,
  )

  inside-suits : (ss : Slots) (ks : List Key) → InsideSuits exact ss ks → InsideSuits plain ss ks
  inside-suits no_slots ks h = tt
  inside-suits (slot k n ss) ks h = (
    by-test (is_line_node n) (LineSuits exact IsWholeTrivia (ks ++ one k) n × Suits exact n) (NodeSuitsInside exact n (ks ++ one k))
        (LineSuits plain IsWholeTrivia (ks ++ one k) n × Suits plain n) (NodeSuitsInside plain n (ks ++ one k))
        (λ g. (line-suits IsWholeTrivia IsWholeTrivia (trivia-side []) (ks ++ one k) n g.0, node-suits n g.1)) (λ g. made-suits n (ks
        ++ one k) g) h.0,
    inside-suits ss ks h.1,
  )

  made-suits : (n : Node) (ks : List Key) → NodeSuitsInside exact n ks → NodeSuitsInside plain n ks
  made-suits (inline f ss) ks h = inside-suits ss ks h
  made-suits (table f ss) ks h = inside-suits ss ks h
  made-suits (leaf s r d) ks h = tt
  made-suits (list f xs) ks h = tt
  made-suits (tables e xs) ks h = tt
  made-suits nothing ks h = tt

-- the printed lines of a table in the two modes
lines-suit : (ls ms : List Line) → AlikeLines ls ms → AllByRecursion (PrintedLineSuits exact) ls
    → AllByRecursion (PrintedLineSuits plain) ms
lines-suit [] [] h g = tt
lines-suit (l ∷ ls) (m ∷ ms) h g = (
  subst (λ js. LineSuits plain (EndsLine plain) js m.item × Suits plain m.item) h.0.0
      (subst (λ n. LineSuits plain (EndsLine plain) l.keys n × Suits plain n) h.0.1
      (line-suits (EndsLine exact) (EndsLine plain) end-side l.keys l.item g.0.0, node-suits l.item g.0.1)),
  lines-suit ls ms h.1 g.1,
)
lines-suit [] (m ∷ ms) h g = absurd h
lines-suit (l ∷ ls) [] h g = absurd h

-- ---- headers

inner-suits : (v : Visit) → InnerDecorSuits exact v → InnerDecorSuits plain v
inner-suits v h =
    subst (λ b. MatchBool b (IsWholeTrivia (key_prefix plain v)) (IsWhiteSpace (key_prefix plain v)
    × IsWhiteSpace (shown_side plain [] (last_leaf v.keys).suffix)))
    (feed-side (last_leaf v.keys).prefix)
    (by-test (is_lifted exact v) (IsWholeTrivia (key_prefix exact v)) (IsWhiteSpace (key_prefix exact v)
    × IsWhiteSpace (shown_side exact [] (last_leaf v.keys).suffix))
    (IsWholeTrivia (key_prefix plain v)) (IsWhiteSpace (key_prefix plain v) × IsWhiteSpace (shown_side plain [] (last_leaf v.keys).suffix))
    (trivia-side [] (last_leaf v.keys).prefix) (λ g. (
      white-side [] (last_leaf v.keys).prefix g.0,
      white-side [] (last_leaf v.keys).suffix g.1,
    )) h)

header-suits : (v : Visit) → HeaderSuits exact v → HeaderSuits plain v
header-suits v h =
    record {
      inner = inner-suits v h.inner;
      segments = segments-spaced v.keys h.segments;
      leading = trivia-side [] v.fields.decor.prefix h.leading;
      trailing = end-side v.fields.decor.suffix h.trailing;
    }

table-suits : (g : PlacedVisit) → TableSuits exact g → TableSuits plain g
table-suits g h = (
  subst (λ b. MatchBool b (HeaderSuits plain g.1) (Unit {0})) (header-same exact plain g.1)
      (by-test (has_header exact g.1) (HeaderSuits exact g.1) (Unit {0}) (HeaderSuits plain g.1) (Unit {0}) (header-suits g.1) (λ u. u)
      h.0),
  lines-suit (lines_of exact g.1) (lines_of plain g.1) (table-alike exact plain g.1) h.1,
)

-- ---- trees

decors-suit : (t : Tree) → DecorsSuit exact t → DecorsSuit plain t
decors-suit t h =
    record {
      tables = all-map (TableSuits exact) (TableSuits plain) (in_header_order t) table-suits h.tables;
      root_prefix = trivia-side [] t.root.decor.prefix h.root_prefix;
      root_suffix = trivia-side [] t.root.decor.suffix h.root_suffix;
      trailing = side IsFinalTrivia IsFinalTrivia [] (λ d. d) (lean-final plain) (Some t.trailing) h.trailing;
    }

pub weaker-fits : (t : Tree) → FitsIn exact t → FitsIn plain t
weaker-fits t h =
    record {
      decors = decors-suit t h.decors;
      undotted = h.undotted;
      ordered = sym (ordered-same exact plain t) ∙ h.ordered;
      limits = sym (limits-same exact plain t) ∙ h.limits;
    }
