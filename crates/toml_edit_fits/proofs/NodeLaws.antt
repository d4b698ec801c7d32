-- The tests of values and lines tell what they say, by cases on the tree.
use Rattle.std.proofs.Common.{◌≡◌, refl, sym, ◌∙◌, ap, subst, ℕ, suc, ◌-◌, ◌<◌, ◌≤◌, Bool, true, false, List, [], ◌∷◌, ◌++◌, length, Some}
use Rattle.std.proofs.Common.{arith}
use Rattle.std.specs.Prelude.{◌&&◌, ◌==◌, ◌↔◌, nat_lt, nat_le, if◌then◌else◌, MatchBool, Decides, max}
use Rattle.std.specs.List.{AllByRecursion}
use Rattle.std.proofs.lemmas.Bool.{le-leb, leb-true, ne_eqb}
use Rattle.std.proofs.lemmas.Bool.Decides.{Decides-and, Decides-like, Decides-ltb}
use Rattle.toml_edit_model.specs.Mode.{Mode}
use Rattle.toml_edit_model.specs.Text.{Text, one}
use Rattle.toml_edit_model.specs.Trivia.{IsWholeTrivia}
use Rattle.toml_edit_model.specs.Syntax.{Value, Elements, no_elements, element, Pairs, no_pairs, pair, depth, elements_depth, pairs_depth}
use Rattle.toml_edit_model.specs.Syntax.{has_short_keys, elements_have_short_keys, pairs_have_short_keys, is_short, keeps_limits}
use Rattle.toml_edit_model.specs.Syntax.{nesting_limit}
use Rattle.toml_edit_model.specs.Tree.{Key, Node, nothing, leaf, list, inline, table, tables, Items, no_items, item, Slots, no_slots, slot}
use Rattle.toml_edit_model.specs.Tree.{shown_raw, node_decor, is_value_node, shown_prefix, shown_suffix}
use Rattle.toml_edit_model.specs.Print.{Line, segments, frame_of, add_after, close_array, add_after_pairs, close_inline}
use Rattle.toml_edit_model.specs.Print.{line_of, line_statement, is_line_node, around_of, one_space, pairs_of_lines, value_of, elements_of}
use Rattle.toml_edit_model.specs.Print.{inside_lines, lines_inside, table_lines, dotted_lines}
use Rattle.toml_edit_model.specs.Fits.{LineSuits, ElementSuits, Suits, ItemsSuit, InsideSuits, NodeSuitsInside, PrintedLineSuits, EndsLine}
use Rattle.toml_edit_laws.proofs.common.Each.{all-append, all-front, all-back, all-map, all-both}
use Rattle.toml_edit_laws.proofs.common.Tests.{and_left, and_right, and_both}
use Rattle.toml_edit_laws.proofs.normal_texts.LinesInModes.{segments-length}
use Rattle.toml_edit_fits.specs.TriviaTests.{is_whole}
use Rattle.toml_edit_fits.specs.declared.route.Route.{Route}
use Rattle.toml_edit_fits.specs.FitTests.{no_keys, then_key, pair_fits, element_fits, value_fits, items_fit, inside_fits, within_fits}
use Rattle.toml_edit_fits.specs.FitTests.{lines_fit, dotted_fits}
use Rattle.toml_edit_fits.proofs.ValueLaws.{IsRouteOf, no-keys, then-route, pair-decides, whole-side, Follows}

-- ---- two tests and two lists

pub both-lists : {A : Type 0} (P : A → Type 0) (a b : Bool) (xs ys : List A) → Decides a (AllByRecursion P xs)
    → Decides b (AllByRecursion P ys)
    → Decides (a && b) (AllByRecursion P (xs ++ ys))
both-lists P a b xs ys h g =
    Decides-like (a && b) (λ f. all-append P xs ys f.0 f.1) (λ f. (all-front P xs ys f, all-back P xs ys f)) (Decides-and a b h g)

-- ---- the limits of values

abbrev pub KeepsIn : ℕ → Value → Type 0
KeepsIn room v = (depth v ≤ room) × (has_short_keys v ≡ true)

abbrev ElementsKeep : ℕ → Elements → Type 0
ElementsKeep room es = (elements_depth es ≤ room) × (elements_have_short_keys es ≡ true)

abbrev PairsKeep : ℕ → Pairs → Type 0
PairsKeep room ps = (pairs_depth ps ≤ room) × (pairs_have_short_keys ps ≡ true)

after-depth : (t : Text) (es : Elements) → elements_depth (add_after t es) ≡ elements_depth es
after-depth t no_elements = refl
after-depth t (element a v no_elements) = refl
after-depth t (element a v (element b w es)) = ap (max (depth v)) (after-depth t (element b w es))

after-short : (t : Text) (es : Elements) → elements_have_short_keys (add_after t es) ≡ elements_have_short_keys es
after-short t no_elements = refl
after-short t (element a v no_elements) = refl
after-short t (element a v (element b w es)) = ap (λ b. has_short_keys v && b) (after-short t (element b w es))

array-depth : (comma : Bool) (t : Text) (es : Elements) → depth (close_array comma t es) ≡ suc (elements_depth es)
array-depth comma t no_elements = refl
array-depth true t (element a v es) = refl
array-depth false t (element a v es) = ap suc (after-depth t (element a v es))

array-short : (comma : Bool) (t : Text) (es : Elements) → has_short_keys (close_array comma t es) ≡ elements_have_short_keys es
array-short comma t no_elements = refl
array-short true t (element a v es) = refl
array-short false t (element a v es) = after-short t (element a v es)

after_pairs-depth : (t : Text) (ps : Pairs) → pairs_depth (add_after_pairs t ps) ≡ pairs_depth ps
after_pairs-depth t no_pairs = refl
after_pairs-depth t (pair f v no_pairs) = refl
after_pairs-depth t (pair f v (pair g w ps)) = ap (max (depth v)) (after_pairs-depth t (pair g w ps))

after_pairs-short : (t : Text) (ps : Pairs) → pairs_have_short_keys (add_after_pairs t ps) ≡ pairs_have_short_keys ps
after_pairs-short t no_pairs = refl
after_pairs-short t (pair f v no_pairs) = refl
after_pairs-short t (pair f v (pair g w ps)) = ap (λ b. is_short f.path && (has_short_keys v && b)) (after_pairs-short t (pair g w ps))

inline-depth : (comma : Bool) (t : Text) (ps : Pairs) → depth (close_inline comma t ps) ≡ suc (pairs_depth ps)
inline-depth comma t no_pairs = refl
inline-depth true t (pair f v ps) = refl
inline-depth false t (pair f v ps) = ap suc (after_pairs-depth t (pair f v ps))

inline-short : (comma : Bool) (t : Text) (ps : Pairs) → has_short_keys (close_inline comma t ps) ≡ pairs_have_short_keys ps
inline-short comma t no_pairs = refl
inline-short true t (pair f v ps) = refl
inline-short false t (pair f v ps) = after_pairs-short t (pair f v ps)

module _ (mode : Mode) where
  pub short-decides : (ks : List Key) → Decides (is_short (segments mode ks)) (length ks ≤ nesting_limit)
  short-decides ks =
      let same = segments-length mode ks in (
        λ h. let small : length (segments mode ks) ≤ nesting_limit = leb-true (length (segments mode ks)) nesting_limit h in
            omega (arith, same, small),
        λ h. le-leb (length (segments mode ks)) nesting_limit (let short : length ks ≤ nesting_limit = h in omega (arith, same, short)),
      )

  -- ---- lines

  abbrev LineKeeps : ℕ → Line → Type 0
  LineKeeps room l = (length l.keys ≤ nesting_limit) × KeepsIn room l.value

  -- what stands around the pair and in it suits its place, and all is within the limits
  abbrev pub LineFits : ℕ → Line → Type 0
  LineFits room l = ((length l.keys ≤ nesting_limit) × LineSuits mode (Follows mode room) l.keys l.item)
      × (Suits mode l.item × KeepsIn room l.value)

  abbrev LineIsSuited : Line → Type 0
  LineIsSuited l = LineSuits mode IsWholeTrivia l.keys l.item × Suits mode l.item

  pair-keeps : (room : ℕ) (l : Line) (default after : Text) (ps : Pairs) → PairsKeep room (pair (frame_of mode default after l) l.value ps)
      ↔ (LineKeeps room l × PairsKeep room ps)
  pair-keeps room l default after ps =
      let short = short-decides l.keys in (
        λ h. let deep : max (depth l.value) (pairs_depth ps) ≤ room = h.0 in
            let others : (has_short_keys l.value && pairs_have_short_keys ps) ≡ true =
            and_right (is_short (segments mode l.keys)) (has_short_keys l.value && pairs_have_short_keys ps) h.1 in (
              (
                short.0 (and_left (is_short (segments mode l.keys)) (has_short_keys l.value && pairs_have_short_keys ps) h.1),
                (omega (arith, deep), and_left (has_short_keys l.value) (pairs_have_short_keys ps) others),
              ),
              (omega (arith, deep), and_right (has_short_keys l.value) (pairs_have_short_keys ps) others),
            ),
        λ h. let one : depth l.value ≤ room = h.0.1.0 in let two : pairs_depth ps ≤ room = h.1.0 in (
          omega (arith, one, two),
          and_both (is_short (segments mode l.keys)) (has_short_keys l.value && pairs_have_short_keys ps) (short.1 h.0.0)
              (and_both (has_short_keys l.value) (pairs_have_short_keys ps) h.0.1.1 h.1.1),
        ),
      )

  pairs-keep : (room : ℕ) (ls : List Line) → PairsKeep room (pairs_of_lines mode ls) ↔ AllByRecursion (LineKeeps room) ls
  pairs-keep room [] = (λ h. tt, λ h. (omega arith, refl))
  pairs-keep room (l ∷ []) =
      let here = pair-keeps room l one_space one_space no_pairs in
      (λ h. ((here.0 h).0, tt), λ h. here.1 (h.0, (omega arith, refl)))
  pairs-keep room (l ∷ m ∷ ls) =
      let here = pair-keeps room l one_space [] (pairs_of_lines mode (m ∷ ls)) in
      let more = pairs-keep room (m ∷ ls) in
      (λ h. let parts = here.0 h in (parts.0, more.0 parts.1), λ h. here.1 (h.0, more.1 h.1))

  mutual
    inside-suited : (ss : Slots) (ks : List Key) → InsideSuits mode ss ks ↔ AllByRecursion LineIsSuited (inside_lines mode ss ks)
    inside-suited no_slots ks = (λ h. h, λ h. h)
    inside-suited (slot k n ss) ks = by_line (is_line_node n) (node-suited n (ks ++ one k)) (inside-suited ss ks)
      where
        by_line : (b : Bool) → NodeSuitsInside mode n (ks ++ one k) ↔ AllByRecursion LineIsSuited (lines_inside mode n (ks ++ one k))
            → InsideSuits mode ss ks ↔ AllByRecursion LineIsSuited (inside_lines mode ss ks)
            → (MatchBool b (LineSuits mode IsWholeTrivia (ks ++ one k) n × Suits mode n) (NodeSuitsInside mode n (ks ++ one k))
            × InsideSuits mode ss ks)
            ↔ AllByRecursion LineIsSuited (elim b [
              | true ↦ line_of (ks ++ one k) n (value_of mode n)
              | false ↦
                  lines_inside mode n (ks ++ one k)
            ] ++ inside_lines mode ss ks)
        by_line true here more = (λ h. (h.0, more.0 h.1), λ h. (h.0, more.1 h.1))
        by_line false here more =
            let first = lines_inside mode n (ks ++ one k) in
            let rest = inside_lines mode ss ks in (
              λ h. all-append LineIsSuited first rest (here.0 h.0) (more.0 h.1),
              λ h. (here.1 (all-front LineIsSuited first rest h), more.1 (all-back LineIsSuited first rest h)),
            )

    node-suited : (n : Node) (ks : List Key) → NodeSuitsInside mode n ks ↔ AllByRecursion LineIsSuited (lines_inside mode n ks)
    node-suited (inline f ss) ks = inside-suited ss ks
    node-suited (table f ss) ks = inside-suited ss ks
    node-suited (leaf s x d) ks = (λ h. h, λ h. h)
    node-suited (list f xs) ks = (λ h. h, λ h. h)
    node-suited (tables e xs) ks = (λ h. h, λ h. h)
    node-suited nothing ks = (λ h. h, λ h. h)

  -- in brackets, trivia follows
  follows-inside : (room : ℕ) → room < nesting_limit → (ks : List Key) (n : Node) → LineSuits mode (Follows mode room) ks n
      ↔ LineSuits mode IsWholeTrivia ks n
  follows-inside room h ks n =
      let other : (room == nesting_limit) ≡ false = ne_eqb room nesting_limit (λ e. absurd (omega (arith, e))) in (
        λ s. subst (λ b. LineSuits mode (λ t. MatchBool b (EndsLine mode t) (IsWholeTrivia t)) ks n) other s,
        λ s. subst (λ b. LineSuits mode (λ t. MatchBool b (EndsLine mode t) (IsWholeTrivia t)) ks n) (sym other) s,
      )

  inline-fits : (room : ℕ) → room < nesting_limit → (ss : Slots) (ks : List Key)
      → AllByRecursion (LineFits room) (inside_lines mode ss ks)
      ↔ (InsideSuits mode ss ks × PairsKeep room (pairs_of_lines mode (inside_lines mode ss ks)))
  inline-fits room small ss ks =
      let ls = inside_lines mode ss ks in
      let suited = inside-suited ss ks in
      let keep = pairs-keep room ls in (
        λ h. (
          suited.1 (all-map (LineFits room) LineIsSuited ls (λ l f. ((follows-inside room small l.keys l.item).0 f.0.1, f.1.0)) h),
          keep.1 (all-map (LineFits room) (LineKeeps room) ls (λ l f. (f.0.0, f.1.1)) h),
        ),
        λ h. all-map (λ l. LineIsSuited l × LineKeeps room l) (LineFits room) ls
            (λ l f. ((f.1.0, (follows-inside room small l.keys l.item).1 f.0.0), (f.0.1, f.1.1)))
            (all-both LineIsSuited (LineKeeps room) ls (suited.0 h.0) (keep.0 h.1)),
      )

  -- ---- values

  abbrev pub ValueFits : ℕ → Node → Type 0
  ValueFits room n = Suits mode n × KeepsIn room (value_of mode n)

  mutual
    pub value-decides : (n : Node) (room : ℕ) → room ≤ nesting_limit → Decides (value_fits mode room n) (ValueFits room n)
    value-decides (leaf s x d) room small = (λ h. (tt, (omega arith, refl)), λ h. refl)
    value-decides (table f ss) room small =
        Decides-like (nat_lt 0 room) (λ h. (tt, (let some : 0 < room = h in omega (arith, some), refl)))
        (λ h. let deep : suc 0 ≤ room = h.1.0 in omega (arith, deep)) (Decides-ltb 0 room)
    value-decides (tables e xs) room small =
        Decides-like (nat_lt 0 room) (λ h. (tt, (let some : 0 < room = h in omega (arith, some), refl)))
        (λ h. let deep : suc 0 ≤ room = h.1.0 in omega (arith, deep)) (Decides-ltb 0 room)
    value-decides nothing room small =
        Decides-like (nat_lt 0 room) (λ h. (tt, (let some : 0 < room = h in omega (arith, some), refl)))
        (λ h. let deep : suc 0 ≤ room = h.1.0 in omega (arith, deep)) (Decides-ltb 0 room)
    value-decides (list f xs) room small =
        let es = elements_of mode xs true in
        let t = shown_raw mode f.trailing in
        let deep = array-depth f.comma t es in
        let short = array-short f.comma t es in
        Decides-like (value_fits mode room (list f xs))
        (λ h. let some : 0 < room = h.0 in let below : elements_depth es ≤ room - 1 = h.1.1.1.0 in
        ((h.1.0, h.1.1.0), (omega (arith, deep, some, below), short ∙ h.1.1.1.1)))
        (λ h. let all : depth (value_of mode (list f xs)) ≤ room = h.1.0 in
        (omega (arith, deep, all), (h.0.0, (h.0.1, (omega (arith, deep, all), sym short ∙ h.1.1)))))
        (Decides-and (nat_lt 0 room) (is_whole t && items_fit mode (room - 1) xs) (Decides-ltb 0 room)
        (Decides-and (is_whole t) (items_fit mode (room - 1) xs) (whole-side mode (Some f.trailing))
        (items-decide xs (room - 1) true (omega arith))))
    value-decides (inline f ss) room small =
        let ps = pairs_of_lines mode (inside_lines mode ss []) in
        let t = shown_raw mode f.trailing in
        let deep = inline-depth f.comma t ps in
        let short = inline-short f.comma t ps in
        Decides-like (value_fits mode room (inline f ss))
        (λ h. let some : 0 < room = h.0 in
        let parts = (inline-fits (room - 1) (omega (arith, some)) ss []).0 h.1.1 in
        let below : pairs_depth ps ≤ room - 1 = parts.1.0 in
        ((h.1.0, parts.0), (omega (arith, deep, some, below), short ∙ parts.1.1)))
        (λ h. let all : depth (value_of mode (inline f ss)) ≤ room = h.1.0 in
        let below : pairs_depth ps ≤ room - 1 = omega (arith, deep, all) in (
          omega (arith, deep, all),
          (
            h.0.0,
            (inline-fits (room - 1) (omega (arith, deep, all)) ss []).1 (
              h.0.1,
              (below, sym short ∙ h.1.1),
            ),
          ),
        ))
        (Decides-and (nat_lt 0 room) (is_whole t && inside_fits mode (room - 1) no_keys ss) (Decides-ltb 0 room)
        (Decides-and (is_whole t) (inside_fits mode (room - 1) no_keys ss) (whole-side mode (Some f.trailing))
        (inside-decides ss (room - 1) no_keys [] (omega arith) (no-keys mode))))

    items-decide : (xs : Items) (room : ℕ) (is_first : Bool) → room ≤ nesting_limit
        → Decides (items_fit mode room xs) (ItemsSuit mode xs × ElementsKeep room (elements_of mode xs is_first))
    items-decide no_items room is_first small = (λ h. (tt, (omega arith, refl)), λ h. refl)
    items-decide (item n xs) room is_first small =
        by_value (is_value_node n) (value-decides n room small) (λ b. items-decide xs room b small)
      where
        by_value : (b : Bool) → Decides (value_fits mode room n) (ValueFits room n)
            → ((c : Bool) → Decides (items_fit mode room xs) (ItemsSuit mode xs × ElementsKeep room (elements_of mode xs c)))
            → Decides (elim b [ true ↦ element_fits mode (node_decor n) && value_fits mode room n | false ↦ true ]
            && items_fit mode room xs)
            ((MatchBool b (ElementSuits mode n × Suits mode n) (Unit {0}) × ItemsSuit mode xs)
            × ElementsKeep room (elim b [
              | true ↦ element (around_of mode is_first (node_decor n)) (value_of mode n)
                  (elements_of mode xs false)
              | false ↦ elements_of mode xs is_first
            ]))
        by_value true here more =
            let v = value_of mode n in
            let es = elements_of mode xs false in
            Decides-like ((element_fits mode (node_decor n) && value_fits mode room n) && items_fit mode room xs)
            (λ h. let one : depth v ≤ room = h.0.1.1.0 in let two : elements_depth es ≤ room = h.1.1.0 in (
              ((h.0.0, h.0.1.0), h.1.0),
              (
                omega (arith, one, two),
                and_both (has_short_keys v) (elements_have_short_keys es) h.0.1.1.1 h.1.1.1,
              ),
            ))
            (λ h. let all : max (depth v) (elements_depth es) ≤ room = h.1.0 in (
              (h.0.0.0, (h.0.0.1, (omega (arith, all), and_left (has_short_keys v) (elements_have_short_keys es) h.1.1))),
              (h.0.1, (omega (arith, all), and_right (has_short_keys v) (elements_have_short_keys es) h.1.1)),
            ))
            (Decides-and (element_fits mode (node_decor n) && value_fits mode room n) (items_fit mode room xs)
            (Decides-and (element_fits mode (node_decor n)) (value_fits mode room n)
            (Decides-and (is_whole (shown_prefix mode [] (node_decor n))) (is_whole (shown_suffix mode [] (node_decor n)))
            (whole-side mode (node_decor n).prefix) (whole-side mode (node_decor n).suffix)) here)
            (more false))
        by_value false here more =
            Decides-like (items_fit mode room xs) (λ h. ((tt, h.0), h.1)) (λ h. (h.0.1, h.1)) (more is_first)

    inside-decides : (ss : Slots) (room : ℕ) (r : Route) (ks : List Key) → room ≤ nesting_limit → IsRouteOf mode r ks
        → Decides (inside_fits mode room r ss) (AllByRecursion (LineFits room) (inside_lines mode ss ks))
    inside-decides no_slots room r ks small is = (λ h. tt, λ h. refl)
    inside-decides (slot k n ss) room r ks small is =
        by_line (is_line_node n) (value-decides n room small) (within-decides n room (then_key mode r k) (ks
        ++ one k) small (then-route mode r ks k is)) (inside-decides ss room r ks small is)
      where
        by_line : (b : Bool) → Decides (value_fits mode room n) (ValueFits room n)
            → Decides (within_fits mode room (then_key mode r k) n) (AllByRecursion (LineFits room) (lines_inside mode n (ks ++ one k)))
            → Decides (inside_fits mode room r ss) (AllByRecursion (LineFits room) (inside_lines mode ss ks))
            → Decides (elim b [
              | true ↦ pair_fits mode room r k (node_decor n) && value_fits mode room n
              | false ↦
                  within_fits mode room (then_key mode r k) n
            ] && inside_fits mode room r ss)
            (AllByRecursion (LineFits room) (elim b [
              | true ↦ line_of (ks ++ one k) n (value_of mode n)
              | false ↦
                  lines_inside mode n (ks ++ one k)
            ] ++ inside_lines mode ss ks))
        by_line true here below more =
            both-lists (LineFits room) (pair_fits mode room r k (node_decor n)
            && value_fits mode room n) (inside_fits mode room r ss) (line_of (ks ++ one k) n (value_of mode n))
            (inside_lines mode ss ks)
            (Decides-like (pair_fits mode room r k (node_decor n) && value_fits mode room n) (λ h. (h, tt)) (λ h. h.0)
            (Decides-and (pair_fits mode room r k (node_decor n)) (value_fits mode room n) (pair-decides mode room r ks k n is) here)) more
        by_line false here below more =
            both-lists (LineFits room) (within_fits mode room (then_key mode r k) n) (inside_fits mode room r ss) (lines_inside mode n (ks
            ++ one k)) (inside_lines mode ss ks) below more

    within-decides : (n : Node) (room : ℕ) (r : Route) (ks : List Key) → room ≤ nesting_limit → IsRouteOf mode r ks
        → Decides (within_fits mode room r n) (AllByRecursion (LineFits room) (lines_inside mode n ks))
    within-decides (inline f ss) room r ks small is = inside-decides ss room r ks small is
    within-decides (table f ss) room r ks small is = inside-decides ss room r ks small is
    within-decides (leaf s x d) room r ks small is = (λ h. tt, λ h. refl)
    within-decides (list f xs) room r ks small is = (λ h. tt, λ h. refl)
    within-decides (tables e xs) room r ks small is = (λ h. tt, λ h. refl)
    within-decides nothing room r ks small is = (λ h. tt, λ h. refl)

  -- ---- lines of tables

  mutual
    pub lines-decide : (ss : Slots) (r : Route) (ks : List Key) → IsRouteOf mode r ks
        → Decides (lines_fit mode r ss) (AllByRecursion (LineFits nesting_limit) (table_lines mode ss ks))
    lines-decide no_slots r ks is = (λ h. tt, λ h. refl)
    lines-decide (slot k n ss) r ks is =
        by_line (is_line_node n) (dotted-decides n (then_key mode r k) (ks ++ one k) (then-route mode r ks k is)) (lines-decide ss r ks is)
      where
        by_line : (b : Bool) → Decides (dotted_fits mode (then_key mode r k) n)
            (AllByRecursion (LineFits nesting_limit) (dotted_lines mode n (ks ++ one k)))
            → Decides (lines_fit mode r ss) (AllByRecursion (LineFits nesting_limit) (table_lines mode ss ks))
            → Decides (elim b [
              | true ↦ pair_fits mode nesting_limit r k (node_decor n) && value_fits mode nesting_limit n
              | false ↦
                  dotted_fits mode (then_key mode r k) n
            ] && lines_fit mode r ss)
            (AllByRecursion (LineFits nesting_limit) (elim b [
              | true ↦ line_of (ks ++ one k) n (value_of mode n)
              | false ↦
                  dotted_lines mode n (ks ++ one k)
            ] ++ table_lines mode ss ks))
        by_line true below more =
            both-lists (LineFits nesting_limit) (pair_fits mode nesting_limit r k (node_decor n)
            && value_fits mode nesting_limit n) (lines_fit mode r ss) (line_of (ks ++ one k) n (value_of mode n)) (table_lines mode ss ks)
            (Decides-like (pair_fits mode nesting_limit r k (node_decor n) && value_fits mode nesting_limit n) (λ h. (h, tt)) (λ h. h.0)
            (Decides-and (pair_fits mode nesting_limit r k (node_decor n)) (value_fits mode nesting_limit n)
            (pair-decides mode nesting_limit r ks k n is)
            (value-decides n nesting_limit (omega arith)))) more
        by_line false below more =
            both-lists (LineFits nesting_limit) (dotted_fits mode (then_key mode r k) n) (lines_fit mode r ss)
            (dotted_lines mode n (ks ++ one k))
            (table_lines mode ss ks) below more

    dotted-decides : (n : Node) (r : Route) (ks : List Key) → IsRouteOf mode r ks
        → Decides (dotted_fits mode r n) (AllByRecursion (LineFits nesting_limit) (dotted_lines mode n ks))
    dotted-decides (table f ss) r ks is = by_dot f.is_dotted (lines-decide ss r ks is)
      where
        by_dot : (b : Bool) → Decides (lines_fit mode r ss) (AllByRecursion (LineFits nesting_limit) (table_lines mode ss ks))
            → Decides (if b then lines_fit mode r ss else true)
            (AllByRecursion (LineFits nesting_limit) (if b then table_lines mode ss ks else []))
        by_dot true h = h
        by_dot false h = (λ e. tt, λ e. refl)
    dotted-decides (inline f ss) r ks is = inside-decides ss nesting_limit r ks (omega arith) is
    dotted-decides (leaf s x d) r ks is = (λ h. tt, λ h. refl)
    dotted-decides (list f xs) r ks is = (λ h. tt, λ h. refl)
    dotted-decides (tables e xs) r ks is = (λ h. tt, λ h. refl)
    dotted-decides nothing r ks is = (λ h. tt, λ h. refl)

  -- a printed line suits its place and keeps the limits
  abbrev pub PrintedLineFits : Line → Type 0
  PrintedLineFits l = PrintedLineSuits mode l × (keeps_limits (line_statement mode l) ≡ true)

  line-fits : (l : Line) → LineFits nesting_limit l ↔ PrintedLineFits l
  line-fits l =
      let short = short-decides l.keys in (
        λ h. (
          (h.0.1, h.1.0),
          and_both (is_short (segments mode l.keys)) (nat_le (depth l.value) nesting_limit && has_short_keys l.value) (short.1 h.0.0)
              (and_both (nat_le (depth l.value) nesting_limit) (has_short_keys l.value)
              (le-leb (depth l.value) nesting_limit h.1.1.0) h.1.1.1),
        ),
        λ h. let others : (nat_le (depth l.value) nesting_limit && has_short_keys l.value) ≡ true =
            and_right (is_short (segments mode l.keys)) (nat_le (depth l.value) nesting_limit && has_short_keys l.value) h.1 in (
              (
                short.0 (and_left (is_short (segments mode l.keys))
                    (nat_le (depth l.value) nesting_limit && has_short_keys l.value) h.1),
                h.0.0,
              ),
              (
                h.0.1,
                (
                  leb-true (depth l.value) nesting_limit (and_left (nat_le (depth l.value) nesting_limit) (has_short_keys l.value) others),
                  and_right (nat_le (depth l.value) nesting_limit) (has_short_keys l.value) others,
                ),
              ),
            ),
      )

  pub table-lines-decide : (ss : Slots) → Decides (lines_fit mode no_keys ss) (AllByRecursion PrintedLineFits (table_lines mode ss []))
  table-lines-decide ss =
      let ls = table_lines mode ss [] in
      Decides-like (lines_fit mode no_keys ss) (all-map (LineFits nesting_limit) PrintedLineFits ls (λ l. (line-fits l).0))
      (all-map PrintedLineFits (LineFits nesting_limit) ls (λ l. (line-fits l).1))
      (lines-decide ss no_keys [] (no-keys mode))
