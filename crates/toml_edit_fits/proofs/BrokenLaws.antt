-- Each misfit is a place where its rule is broken.
use Rattle.std.proofs.Common.{◌≡◌, refl, sym, ◌∙◌, ap, subst, ℕ, zero, suc, ◌+◌, ◌-◌, ◌<◌, ◌≤◌, ℤ, Bool, true, false, List, [], ◌∷◌, ◌++◌}
use Rattle.std.proofs.Common.{length, append_assoc, slice_get, Some, arith}
use Rattle.std.specs.Prelude.{◌&&◌, ◌||◌, not, nat_lt, int_le, if◌then◌else◌, map, Contains, MatchBool}
use Rattle.std.specs.List.{AllByRecursion, list_any}
use Rattle.std.specs.Fmt.{decimal}
use Rattle.std.proofs.lemmas.Bool.{eq-eqb, ne_eqb, ltb-false, ltb-true}
use Rattle.std.proofs.lemmas.List.{map-append}
use Rattle.std.proofs.lemmas.List.Elements.{All-contains, All-from_recursion, Contains-append_right}
use Rattle.toml_edit_model.specs.Mode.{Mode}
use Rattle.toml_edit_model.specs.Text.{Text, one}
use Rattle.toml_edit_model.specs.Trivia.{IsWholeTrivia}
use Rattle.toml_edit_model.specs.Syntax.{is_short, nesting_limit}
use Rattle.toml_edit_model.specs.Keys.{new_key, names}
use Rattle.toml_edit_model.specs.Lists.{item_list}
use Rattle.toml_edit_model.specs.Paths.{Path, to_key, to_element}
use Rattle.toml_edit_model.specs.Tree.{Raw, Key, TableFields, Node, nothing, leaf, list, inline, table, tables, Items, no_items, item}
use Rattle.toml_edit_model.specs.Tree.{Slots, no_slots, slot, Tree, shown_raw, shown_prefix, shown_suffix, node_decor, is_value_node}
use Rattle.toml_edit_model.specs.Order.{sorted_by}
use Rattle.toml_edit_model.specs.HeaderOrder.{Visit, PlacedVisit, visit_of, is_root, slots_walk, place_of, comes_before}
use Rattle.toml_edit_model.specs.Print.{Line, segments, line_of, lines_of, table_lines, dotted_lines, inside_lines, lines_inside, value_of}
use Rattle.toml_edit_model.specs.Print.{is_line_node}
use Rattle.toml_edit_model.specs.Fits.{LineSuits, EndsLine, is_too_late, headed}
use Rattle.toml_edit_laws.specs.PrintByVisits.{has_own_header, root_place}
use Rattle.toml_edit_laws.proofs.common.Each.{all-append, all-front, all-back, all-both}
use Rattle.toml_edit_laws.proofs.common.Tests.{and_both, and_left, and_right, append-nil, false-by, not-true, or-true, true-false}
use Rattle.toml_edit_laws.proofs.common.Pairs.{AllPairs, pairs-of}
use Rattle.toml_edit_laws.proofs.common.Visits.{IsBelowRoot, before-total, before-trans}
use Rattle.toml_edit_laws.proofs.accepted_prints.HeaderNumbers.{pairs-unimage}
use Rattle.toml_edit_fits.specs.declared.misfit.FitRule.{FitRule}
use Rattle.toml_edit_fits.specs.declared.misfit.FitRule.TheVariants as rule
use Rattle.toml_edit_fits.specs.declared.route.Route.{Route}
use Rattle.toml_edit_fits.specs.TriviaTests.{is_whole, is_final}
use Rattle.toml_edit_fits.specs.FitTests.{no_keys, then_key, pair_fits, element_fits, header_fits}
use Rattle.toml_edit_fits.specs.Misfits.{MisfitView, here, unless, below, path_rule, pair_misfits, value_misfits, items_misfits}
use Rattle.toml_edit_fits.specs.Misfits.{inside_misfits, within_misfits, lines_misfits, dotted_misfits, table_misfits, tables_misfits}
use Rattle.toml_edit_fits.specs.Misfits.{node_misfits, elements_misfits, root_misfits, Located, in_step, located_slots, located_node}
use Rattle.toml_edit_fits.specs.Misfits.{located_items, Headed, headed_from, is_too_early, early_after, early_misfits, misfits}
use Rattle.toml_edit_fits.specs.BrokenRules.{ComesBefore, MisfitsAreBroken, located, a_table, a_line, an_element, a_value, the_root}
use Rattle.toml_edit_fits.specs.BrokenRules.{IsAt, MayFollow, Breaks, IsBrokenAt, root_at, table_at, line_at, pair_at, element_at}
use Rattle.toml_edit_fits.specs.BrokenRules.{line_value_at, element_value_at}
use Rattle.toml_edit_fits.proofs.TriviaLaws.{final-decides}
use Rattle.toml_edit_fits.proofs.ValueLaws.{IsRouteOf, no-keys, then-route, length-one, pair-decides, whole-side, Follows}
use Rattle.toml_edit_fits.proofs.NodeLaws.{short-decides}
use Rattle.toml_edit_fits.proofs.TableLaws.{header-decides, own-header}
use Rattle.toml_edit_fits.proofs.OrderLaws.{heads}
use Rattle.toml_edit_fits.proofs.FitsLaws.{Turned, before-is, headed-is, heads-below, sorted-pairs}
use Rattle.toml_edit_fits.proofs.EarlyLaws.{headed-placed, visits-slots}

-- ---- lists

each-itself : {A : Type 0} (P : A → Type 0) (xs : List A) → ((x : A) → Contains xs x → P x) → AllByRecursion P xs
each-itself P [] f = tt
each-itself {A} P (x ∷ xs) f = (
  f x (0, (let some : 0 < suc (length xs) = omega arith in some), refl),
  each-itself P xs (λ y h. f y (Contains-append_right (x ∷ []) xs y h)),
)

each-of : {A : Type 0} (P : A → Type 0) (xs : List A) → AllByRecursion P xs → (x : A) → Contains xs x → P x
each-of P xs h x c = All-contains P xs x (All-from_recursion P xs h) c

all-image : {A B : Type 0} (f : A → B) (P : B → Type 0) (xs : List A) → AllByRecursion P (map f xs) → AllByRecursion (λ x. P (f x)) xs
all-image f P [] h = tt
all-image f P (x ∷ xs) h = (h.0, all-image f P xs h.1)

any-some : {A : Type 0} (test : A → Bool) (P : A → Type 0) (xs : List A) → AllByRecursion P xs → list_any test xs ≡ true → (x : A)
    × (test x ≡ true) × P x
any-some test P [] h e = absurd cc
any-some {A} test P (x ∷ xs) h e = by_test (test x) refl (λ f. any-some test P xs h.1 f) e
  where
    by_test : (b : Bool) → test x ≡ b → (list_any test xs ≡ true → (y : A) × (test y ≡ true) × P y) → (b || list_any test xs) ≡ true
        → (y : A) × (test y ≡ true) × P y
    by_test true g more f = (x, g, h.0)
    by_test false g more f = more f

-- each element of a list comes before those after it
pairs-within : {A : Type 0} (zs front xs : List A) → zs ≡ front ++ xs → AllPairs (ComesBefore zs) xs
pairs-within zs front [] e = tt
pairs-within zs front (x ∷ xs) e = (
  each-itself (ComesBefore zs x) xs (λ y c. record { front = front; back = xs; split = e; later = c }),
  pairs-within zs (front ++ one x) xs (e ∙ sym (append_assoc front (one x) xs)),
)

names-new : (path : List Text) → names (map new_key path) ≡ path
names-new [] = refl
names-new (k ∷ path) = ap (λ (q : List Text). k ∷ q) (names-new path)

names-end : (ks : List Key) (k : Key) → names (ks ++ one k) ≡ names ks ++ one k.name
names-end ks k = map-append (λ (j : Key). j.name) ks (one k)

step-path : (p : List Text) (ks : List Key) (k : Key) → p ++ names (ks ++ one k) ≡ (p ++ names ks) ++ one k.name
step-path p ks k = ap (λ (q : List Text). p ++ q) (names-end ks k) ∙ sym (append_assoc p (names ks) (one k.name))

module _ (mode : Mode) (t : Tree) where
  -- ---- misfits below a path

  abbrev Good : List Text → List MisfitView → Type 0
  Good p ms = AllByRecursion (λ (m : MisfitView). IsBrokenAt mode t (p ++ names m.path) m.rule) ms

  good-here : (p : List Text) (r : FitRule) → IsBrokenAt mode t p r → Good p (here r)
  good-here p r h = (subst (λ q. IsBrokenAt mode t q r) (sym (append-nil p)) h, tt)

  good-unless : (p : List Text) (fits : Bool) (r : FitRule) → (fits ≡ false → IsBrokenAt mode t p r) → Good p (unless fits r)
  good-unless p true r f = tt
  good-unless p false r f = good-here p r (f refl)

  good-both : (p : List Text) (ms ns : List MisfitView) → Good p ms → Good p ns → Good p (ms ++ ns)
  good-both p ms ns h g = all-append (λ (m : MisfitView). IsBrokenAt mode t (p ++ names m.path) m.rule) ms ns h g

  good-below : (p : List Text) (k : Text) (ms : List MisfitView) → Good (p ++ one k) ms → Good p (below k ms)
  good-below p k [] h = tt
  good-below p k (m ∷ ms) h = (subst (λ q. IsBrokenAt mode t q m.rule) (append_assoc p (one k) (names m.path)) h.0, good-below p k ms h.1)

  good-at : (p q : List Text) (ms : List MisfitView) → p ≡ q → Good p ms → Good q ms
  good-at p q ms e h = subst (λ (r : List Text). Good r ms) e h

  -- ---- lines and pairs

  follow-line : (room : ℕ) → room ≡ nesting_limit → (ks : List Key) (x : Node) → LineSuits mode (EndsLine mode) ks x
      → LineSuits mode (Follows mode room) ks x
  follow-line room e ks x h =
      subst (λ b. LineSuits mode (λ u. MatchBool b (EndsLine mode u) (IsWholeTrivia u)) ks x) (sym (eq-eqb room nesting_limit e)) h

  follow-pair : (room : ℕ) → room < nesting_limit → (ks : List Key) (x : Node) → LineSuits mode IsWholeTrivia ks x
      → LineSuits mode (Follows mode room) ks x
  follow-pair room e ks x h =
      subst (λ b. LineSuits mode (λ u. MatchBool b (EndsLine mode u) (IsWholeTrivia u)) ks x)
      (sym (ne_eqb room nesting_limit (λ g. absurd (omega (arith, g))))) h

  follows-in : (n room : ℕ) → room + n ≡ nesting_limit → (ks : List Key) (x : Node) → LineSuits mode (MayFollow mode t n) ks x
      → LineSuits mode (Follows mode room) ks x
  follows-in zero room e ks x h = follow-line room (omega arith) ks x h
  follows-in (suc n) room e ks x h = follow-pair room (omega arith) ks x h

  abbrev line : List Key → Key → Node → Line
  line ks k x = record { keys = ks ++ one k; item = x; value = value_of mode x }

  pair-broken : (p : List Text) (room n : ℕ) (r : Route) (ks : List Key) (k : Key) (x : Node) → room + n ≡ nesting_limit
      → IsRouteOf mode r ks
      → IsAt mode t p (a_line n (line ks k x)) → pair_fits mode room r k (node_decor x) ≡ false → IsBrokenAt mode t p (path_rule r)
  pair-broken p room n r ks k x e is at f = by_room (nat_lt 0 r.room) refl
    where
      by_room : (b : Bool) → nat_lt 0 r.room ≡ b → IsBrokenAt mode t p (if b then rule.Decor else rule.Limits)
      by_room true g =
          record {
            part = a_line n (line ks k x);
            place = at;
            breaks = λ suits.
                let some = ltb-true 0 r.room g in
                let len = length-one ks k in
                true-false (pair_fits mode room r k (node_decor x))
                ((pair-decides mode room r ks k x is).1 (omega (arith, len, is.room, some), follows-in n room e (ks ++ one k) x suits)) f;
          }
      by_room false g =
          record {
            part = a_line n (line ks k x);
            place = at;
            breaks =
                false-by (is_short (segments mode (ks ++ one k)))
                (λ s.
                let none = ltb-false 0 r.room g in
                let len = length-one ks k in
                let short : length (ks ++ one k) ≤ nesting_limit = (short-decides mode (ks ++ one k)).0 s in
                absurd (omega (arith, len, is.room, none, short)));
          }

  abbrev AllLines : List Text → ℕ → List Line → Type 0
  AllLines p n ls = AllByRecursion (λ (l : Line). IsAt mode t (p ++ names l.keys) (a_line n l)) ls

  slot-good : (p : List Text) (room n : ℕ) (r : Route) (ks : List Key) (k : Key) (x : Node) (ls more : List Line)
      (inner lines rest : List MisfitView)
      → room + n ≡ nesting_limit → IsRouteOf mode r ks
      → (IsAt mode t (p ++ names (ks ++ one k)) (a_value n x) → Good (p ++ names (ks ++ one k)) inner)
      → (AllLines p n ls → Good (p ++ names (ks ++ one k)) lines)
      → (AllLines p n more → Good (p ++ names ks) rest)
      → AllLines p n (elim (is_line_node x) [ true ↦ line_of (ks ++ one k) x (value_of mode x) | false ↦ ls ] ++ more)
      → Good (p ++ names ks) (below k.name (pair_misfits mode room r k x inner lines) ++ rest)
  slot-good p room n r ks k x ls more inner lines rest e is value within after h = by_line (is_line_node x) h
    where
      q : List Text
      q = p ++ names (ks ++ one k)

      by_line : (b : Bool) → AllLines p n (elim b [ true ↦ line_of (ks ++ one k) x (value_of mode x) | false ↦ ls ] ++ more)
          → Good (p ++ names ks) (below k.name (elim b [
            | true ↦ unless (pair_fits mode room r k (node_decor x)) (path_rule r) ++ inner
            | false ↦ lines
          ]) ++ rest)
      by_line true h =
          let q = p ++ names (ks ++ one k) in
          let own = unless (pair_fits mode room r k (node_decor x)) (path_rule r) in
          let all : Good q (own ++ inner) =
          good-both q own inner (good-unless q (pair_fits mode room r k (node_decor x)) (path_rule r)
          (λ f. pair-broken q room n r ks k x e is h.0 f))
          (value (line_value_at q n (line ks k x) h.0)) in
          good-both (p ++ names ks) (below k.name (own ++ inner)) rest
          (good-below (p ++ names ks) k.name (own ++ inner) (good-at q ((p ++ names ks) ++ one k.name) (own
          ++ inner) (step-path p ks k) all)) (after h.1)
      by_line false h =
          let q = p ++ names (ks ++ one k) in
          good-both (p ++ names ks) (below k.name lines) rest
          (good-below (p ++ names ks) k.name lines
          (good-at q ((p ++ names ks) ++ one k.name) lines (step-path p ks k)
          (within (all-front (λ (l : Line). IsAt mode t (p ++ names l.keys) (a_line n l)) ls more h))))
          (after (all-back (λ (l : Line). IsAt mode t (p ++ names l.keys) (a_line n l)) ls more h))

  -- ---- values

  -- the elements from this number on are there
  abbrev AllElements : List Text → ℕ → ℕ → List Node → Type 0
  AllElements p n at ns =
      (i : ℕ) (x : Node) → slice_get ns i ≡ Some x → is_value_node x ≡ true → (j : ℕ) → j ≡ at + i
      → IsAt mode t (p ++ one (decimal j)) (an_element n x)

  brackets-good : (p : List Text) (room n : ℕ) (x : Node) (r : Raw) (inner : List MisfitView) → room + n ≡ nesting_limit
      → IsAt mode t p (a_value n x)
      → ((IsWholeTrivia (shown_raw mode r) → ⊥) → Breaks mode t (a_value n x) rule.Decor)
      → (nesting_limit ≤ n → Breaks mode t (a_value n x) rule.Limits)
      → (0 < room → Good p inner)
      → Good p (if nat_lt 0 room then unless (is_whole (shown_raw mode r)) rule.Decor ++ inner else here rule.Limits)
  brackets-good p room n x r inner e at decor limits inside = by_room (nat_lt 0 room) refl
    where
      by_room : (b : Bool) → nat_lt 0 room ≡ b → Good p (if b then unless (is_whole (shown_raw mode r)) rule.Decor ++ inner
          else here rule.Limits)
      by_room true g =
          good-both p (unless (is_whole (shown_raw mode r)) rule.Decor) inner
          (good-unless p (is_whole (shown_raw mode r)) rule.Decor
          (λ f. record {
            part = a_value n x;
            place = at;
            breaks =
                decor (λ whole. true-false (is_whole (shown_raw mode r)) ((whole-side mode (Some r)).1 whole) f);
          }))
          (inside (ltb-true 0 room g))
      by_room false g =
          good-here p rule.Limits (record {
            part = a_value n x;
            place = at;
            breaks =
                limits (let none = ltb-false 0 room g in omega (arith, e, none));
          })

  element-good : (p : List Text) (n : ℕ) (x : Node) (inner : List MisfitView) → (is_value_node x ≡ true → IsAt mode t p (an_element n x))
      → (IsAt mode t p (a_value n x) → Good p inner)
      → Good p (elim (is_value_node x) [ true ↦ unless (element_fits mode (node_decor x)) rule.Decor ++ inner | false ↦ [] ])
  element-good p n x inner place inside = by_value (is_value_node x) refl
    where
      by_value : (b : Bool) → is_value_node x ≡ b → Good p (elim b [
        | true ↦ unless (element_fits mode (node_decor x)) rule.Decor ++ inner
        | false ↦ []
      ])
      by_value true v =
          let at = place v in
          let d = node_decor x in
          good-both p (unless (element_fits mode d) rule.Decor) inner
          (good-unless p (element_fits mode d) rule.Decor
          (λ f.
          record {
            part = an_element n x;
            place = at;
            breaks = λ suits.
                true-false (element_fits mode d)
                (and_both (is_whole (shown_prefix mode [] d)) (is_whole (shown_suffix mode [] d)) ((whole-side mode d.prefix).1 suits.0)
                ((whole-side mode d.suffix).1 suits.1)) f;
          }))
          (inside (element_value_at p n x at))
      by_value false v = tt

  mutual
    value-good : (x : Node) (room n : ℕ) (p : List Text) → room + n ≡ nesting_limit → IsAt mode t p (a_value n x)
        → Good p (value_misfits mode room x)
    value-good (leaf s y d) room n p e at = tt
    value-good (table f ss) room n p e at = tt
    value-good (tables y xs) room n p e at = tt
    value-good nothing room n p e at = tt
    value-good (list f xs) room n p e at =
        brackets-good p room n (list f xs) f.trailing (items_misfits mode (room - 1) 0 xs) e at (λ h. h) (λ h. h)
        (λ some. items-good xs (room - 1) (suc n) 0 p (omega (arith, e, some))
        (λ i y s v j g. subst (λ (m : ℕ). IsAt mode t (p ++ one (decimal m)) (an_element (suc n) y)) (let same : i ≡ j = omega (arith, g) in
        same) (element_at p n f xs i y at s v)))
    value-good (inline f ss) room n p e at =
        brackets-good p room n (inline f ss) f.trailing (inside_misfits mode (room - 1) no_keys ss) e at (λ h. h) (λ h. h)
        (λ some. good-at (p ++ []) p (inside_misfits mode (room - 1) no_keys ss) (append-nil p)
        (inside-good ss (room - 1) (suc n) no_keys [] p (omega (arith, e, some)) (no-keys mode)
        (each-itself (λ (l : Line). IsAt mode t (p ++ names l.keys) (a_line (suc n) l)) (inside_lines mode ss [])
        (λ l c. pair_at p n f ss l at c))))

    items-good : (xs : Items) (room n at : ℕ) (p : List Text) → room + n ≡ nesting_limit → AllElements p n at (item_list xs)
        → Good p (items_misfits mode room at xs)
    items-good no_items room n at p e h = tt
    items-good (item x xs) room n at p e h =
        let q = p ++ one (decimal at) in
        let own : List MisfitView =
        elim (is_value_node x) [
          | true ↦ unless (element_fits mode (node_decor x)) rule.Decor ++ value_misfits mode room x
          | false ↦
              []
        ] in
        good-both p (below (decimal at) own) (items_misfits mode room (suc at) xs)
        (good-below p (decimal at) own (element-good q n x (value_misfits mode room x) (λ v. h 0 x refl v at (omega arith))
        (λ g. value-good x room n q e g)))
        (items-good xs room n (suc at) p e (λ i y s v j g. h (suc i) y s v j (omega (arith, g))))

    inside-good : (ss : Slots) (room n : ℕ) (r : Route) (ks : List Key) (p : List Text) → room + n ≡ nesting_limit → IsRouteOf mode r ks
        → AllLines p n (inside_lines mode ss ks)
        → Good (p ++ names ks) (inside_misfits mode room r ss)
    inside-good no_slots room n r ks p e is h = tt
    inside-good (slot k x ss) room n r ks p e is h =
        slot-good p room n r ks k x (lines_inside mode x (ks ++ one k)) (inside_lines mode ss ks) (value_misfits mode room x)
        (within_misfits mode room (then_key mode r k) x)
        (inside_misfits mode room r ss) e is (λ g. value-good x room n (p ++ names (ks ++ one k)) e g)
        (λ g. within-good x room n (then_key mode r k) (ks ++ one k) p e (then-route mode r ks k is) g)
        (λ g. inside-good ss room n r ks p e is g) h

    within-good : (x : Node) (room n : ℕ) (r : Route) (ks : List Key) (p : List Text) → room + n ≡ nesting_limit → IsRouteOf mode r ks
        → AllLines p n (lines_inside mode x ks)
        → Good (p ++ names ks) (within_misfits mode room r x)
    within-good (inline f ss) room n r ks p e is h = inside-good ss room n r ks p e is h
    within-good (table f ss) room n r ks p e is h = inside-good ss room n r ks p e is h
    within-good (leaf s y d) room n r ks p e is h = tt
    within-good (list f xs) room n r ks p e is h = tt
    within-good (tables y xs) room n r ks p e is h = tt
    within-good nothing room n r ks p e is h = tt

  mutual
    lines-good : (ss : Slots) (r : Route) (ks : List Key) (p : List Text) → IsRouteOf mode r ks → AllLines p 0 (table_lines mode ss ks)
        → Good (p ++ names ks) (lines_misfits mode r ss)
    lines-good no_slots r ks p is h = tt
    lines-good (slot k x ss) r ks p is h =
        slot-good p nesting_limit 0 r ks k x (dotted_lines mode x (ks ++ one k)) (table_lines mode ss ks)
        (value_misfits mode nesting_limit x)
        (dotted_misfits mode (then_key mode r k) x)
        (lines_misfits mode r ss) refl is (λ g. value-good x nesting_limit 0 (p ++ names (ks ++ one k)) refl g)
        (λ g. dotted-good x (then_key mode r k) (ks ++ one k) p (then-route mode r ks k is) g) (λ g. lines-good ss r ks p is g) h

    dotted-good : (x : Node) (r : Route) (ks : List Key) (p : List Text) → IsRouteOf mode r ks → AllLines p 0 (dotted_lines mode x ks)
        → Good (p ++ names ks) (dotted_misfits mode r x)
    dotted-good (inline f ss) r ks p is h = inside-good ss nesting_limit 0 r ks p refl is h
    dotted-good (table f ss) r ks p is h = by_dot f.is_dotted (λ g. lines-good ss r ks p is g) h
      where
        by_dot : (b : Bool) → (AllLines p 0 (table_lines mode ss ks) → Good (p ++ names ks) (lines_misfits mode r ss))
            → AllLines p 0 (if b then table_lines mode ss ks else []) → Good (p ++ names ks) (if b then lines_misfits mode r ss else [])
        by_dot true f g = f g
        by_dot false f g = tt
    dotted-good (leaf s y d) r ks p is h = tt
    dotted-good (list f xs) r ks p is h = tt
    dotted-good (tables y xs) r ks p is h = tt
    dotted-good nothing r ks p is h = tt

  -- ---- tables

  abbrev AllTables : List Text → List Located → Type 0
  AllTables p xs = AllByRecursion (λ (x : Located). IsAt mode t (p ++ x.0) (a_table x.1)) xs

  tables-step : (p : List Text) (k : Text) (xs : List Located) → AllTables p (map (in_step k) xs) → AllTables (p ++ one k) xs
  tables-step p k [] h = tt
  tables-step p k (x ∷ xs) h = (subst (λ q. IsAt mode t q (a_table x.1)) (sym (append_assoc p (one k) x.0)) h.0, tables-step p k xs h.1)

  -- the lines of a table that is entered
  own-lines : (p : List Text) (v : Visit) → IsAt mode t p (a_table v) → (is_root v || not v.fields.is_dotted) ≡ true
      → Good p (lines_misfits mode no_keys v.slots)
  own-lines p v at e =
      good-at (p ++ []) p (lines_misfits mode no_keys v.slots) (append-nil p)
      (lines-good v.slots no_keys [] p (no-keys mode)
      (each-itself (λ (l : Line). IsAt mode t (p ++ names l.keys) (a_line 0 l)) (lines_of mode v) (λ l c. line_at p v l at e c)))

  module _ (p : List Text) (r : Route) (q : Path) (ks : List Key) (k : Key) (is_element : Bool) (f : TableFields) (ss : Slots)
      (is : IsRouteOf mode r ks) (at : IsAt mode t p (a_table (visit_of q (ks ++ one k) is_element f ss))) where
    header-broken : has_own_header is_element f ss ≡ true → header_fits mode r k f.decor ≡ false → IsBrokenAt mode t p (path_rule r)
    header-broken own unfit = by_room (nat_lt 0 r.room) refl
      where
        by_room : (b : Bool) → nat_lt 0 r.room ≡ b → IsBrokenAt mode t p (if b then rule.Decor else rule.Limits)
        by_room true g =
            record {
              part = a_table (visit_of q (ks ++ one k) is_element f ss);
              place = at;
              breaks = (
                own-header mode q ks k is_element f ss ∙ own,
                λ suits.
                    let some = ltb-true 0 r.room g in
                    let len = length-one ks k in
                    let short : length (ks ++ one k) ≤ nesting_limit = omega (arith, len, is.room, some) in
                    true-false (header_fits mode r k f.decor) ((header-decides mode r q ks k is_element f ss is).1 (
                      suits,
                      (short-decides mode (ks ++ one k)).1 short,
                    )) unfit,
              );
            }
        by_room false g =
            record {
              part = a_table (visit_of q (ks ++ one k) is_element f ss);
              place = at;
              breaks = (
                own-header mode q ks k is_element f ss ∙ own,
                false-by (is_short (segments mode (ks ++ one k)))
                    (λ s.
                    let none = ltb-false 0 r.room g in
                    let len = length-one ks k in
                    let short : length (ks ++ one k) ≤ nesting_limit = (short-decides mode (ks ++ one k)).0 s in
                    absurd (omega (arith, len, is.room, none, short))),
              );
            }

    header-good : Good p (unless (not (has_own_header is_element f ss) || header_fits mode r k f.decor) (path_rule r))
    header-good = by_tests (has_own_header is_element f ss) (header_fits mode r k f.decor) header-broken
      where
        by_tests : (a b : Bool) → (a ≡ true → b ≡ false → IsBrokenAt mode t p (path_rule r)) → Good p (unless (not a || b) (path_rule r))
        by_tests true true g = tt
        by_tests true false g = good-here p (path_rule r) (g refl refl)
        by_tests false b g = tt

    table-good : Good p (table_misfits mode r k is_element f ss)
    table-good = by_dot f.is_dotted refl
      where
        dotted : (d : Bool) → is_element ≡ d → f.is_dotted ≡ true → Good p (unless (not d) rule.Dotted)
        dotted true g e =
            good-here p rule.Dotted
            (record { part = a_table (visit_of q (ks ++ one k) is_element f ss); place = at; breaks = and_both is_element f.is_dotted g e })
        dotted false g e = tt

        by_dot : (b : Bool) → f.is_dotted ≡ b
            → Good p (if b then unless (not is_element) rule.Dotted
            else unless (not (has_own_header is_element f ss) || header_fits mode r k f.decor) (path_rule r)
            ++ lines_misfits mode no_keys ss)
        by_dot true e = dotted is_element refl e
        by_dot false e =
            let v = visit_of q (ks ++ one k) is_element f ss in
            good-both p (unless (not (has_own_header is_element f ss) || header_fits mode r k f.decor) (path_rule r))
            (lines_misfits mode no_keys ss) header-good
            (own-lines p v at (ap (λ b. is_root v || not b) e ∙ or-true (is_root v)))

  mutual
    tables-good : (ss : Slots) (r : Route) (p : List Text) (q : Path) (ks : List Key) → IsRouteOf mode r ks
        → AllTables p (located_slots ss q ks) → Good p (tables_misfits mode r ss)
    tables-good no_slots r p q ks is h = tt
    tables-good (slot k n ss) r p q ks is h =
        let first = map (in_step k.name) (located_node n (to_key q k.name) (ks ++ one k)) in
        let rest = located_slots ss q ks in
        good-both p (below k.name (node_misfits mode r k n)) (tables_misfits mode r ss)
        (good-below p k.name (node_misfits mode r k n)
        (node-good n r (p ++ one k.name) (to_key q k.name) ks k is
        (tables-step p k.name (located_node n (to_key q k.name) (ks ++ one k))
        (all-front (λ (x : Located). IsAt mode t (p ++ x.0) (a_table x.1)) first rest h))))
        (tables-good ss r p q ks is (all-back (λ (x : Located). IsAt mode t (p ++ x.0) (a_table x.1)) first rest h))

    node-good : (n : Node) (r : Route) (p : List Text) (q : Path) (ks : List Key) (k : Key) → IsRouteOf mode r ks
        → AllTables p (located_node n q (ks ++ one k)) → Good p (node_misfits mode r k n)
    node-good (table f ss) r p q ks k is h =
        let v = visit_of q (ks ++ one k) false f ss in
        good-both p (table_misfits mode r k false f ss) (tables_misfits mode (then_key mode r k) ss)
        (table-good p r q ks k false f ss is (subst (λ (x : List Text). IsAt mode t x (a_table v)) (append-nil p) h.0))
        (tables-good ss (then_key mode r k) p q (ks ++ one k) (then-route mode r ks k is) h.1)
    node-good (tables e xs) r p q ks k is h = elements-good xs r p q ks k 0 0 is h
    node-good (leaf s x d) r p q ks k is h = tt
    node-good (list f xs) r p q ks k is h = tt
    node-good (inline f ss) r p q ks k is h = tt
    node-good nothing r p q ks k is h = tt

    elements-good : (xs : Items) (r : Route) (p : List Text) (q : Path) (ks : List Key) (k : Key) (at i : ℕ) → IsRouteOf mode r ks
        → AllTables p (located_items at xs q (ks ++ one k) i)
        → Good p (elements_misfits mode r k at xs)
    elements-good no_items r p q ks k at i is h = tt
    elements-good (item (table f ss) xs) r p q ks k at i is h =
        let w = to_element q i in
        let v = visit_of w (ks ++ one k) true f ss in
        let s = p ++ one (decimal at) in
        let all : List Located = ([], v) ∷ located_slots ss w (ks ++ one k) in
        let first = map (in_step (decimal at)) all in
        let rest = located_items (suc at) xs q (ks ++ one k) (suc i) in
        let own = tables-step p (decimal at) all (all-front (λ (x : Located). IsAt mode t (p ++ x.0) (a_table x.1)) first rest h) in
        let ms = table_misfits mode r k true f ss ++ tables_misfits mode (then_key mode r k) ss in
        good-both p (below (decimal at) ms) (elements_misfits mode r k (suc at) xs)
        (good-below p (decimal at) ms
        (good-both s (table_misfits mode r k true f ss) (tables_misfits mode (then_key mode r k) ss)
        (table-good s r w ks k true f ss is (subst (λ (x : List Text). IsAt mode t x (a_table v)) (append-nil s) own.0))
        (tables-good ss (then_key mode r k) s w (ks ++ one k) (then-route mode r ks k is) own.1)))
        (elements-good xs r p q ks k (suc at) (suc i) is (all-back (λ (x : Located). IsAt mode t (p ++ x.0) (a_table x.1)) first rest h))
    elements-good (item (tables e us) xs) r p q ks k at i is h = elements-good xs r p q ks k (suc at) i is h
    elements-good (item (leaf s x d) xs) r p q ks k at i is h = elements-good xs r p q ks k (suc at) i is h
    elements-good (item (list f us) xs) r p q ks k at i is h = elements-good xs r p q ks k (suc at) i is h
    elements-good (item (inline f us) xs) r p q ks k at i is h = elements-good xs r p q ks k (suc at) i is h
    elements-good (item nothing xs) r p q ks k at i is h = elements-good xs r p q ks k (suc at) i is h

  -- ---- the root

  all-located : AllTables [] (located t)
  all-located = each-itself (λ (x : Located). IsAt mode t x.0 (a_table x.1)) (located t) (λ x c. table_at x c)

  around-good : (fits : Bool) → (is_whole (shown_prefix mode [] t.root.decor) && is_whole (shown_suffix mode [] t.root.decor))
      && is_final (shown_raw mode t.trailing) ≡ fits
      → Good [] (unless fits rule.Decor)
  around-good true e = tt
  around-good false e =
      let d = t.root.decor in
      good-here [] rule.Decor
      (record {
        part = the_root;
        place = root_at;
        breaks = λ suits.
            true-false ((is_whole (shown_prefix mode [] d) && is_whole (shown_suffix mode [] d)) && is_final (shown_raw mode t.trailing))
            (and_both (is_whole (shown_prefix mode [] d) && is_whole (shown_suffix mode [] d)) (is_final (shown_raw mode t.trailing))
            (and_both (is_whole (shown_prefix mode [] d)) (is_whole (shown_suffix mode [] d)) ((whole-side mode d.prefix).1 suits.0)
            ((whole-side mode d.suffix).1 suits.1))
            ((final-decides (shown_raw mode t.trailing)).1 suits.2)) e;
      })

  root-good : Good [] (root_misfits mode t.root t.slots t.trailing)
  root-good =
      let v = visit_of [] [] false t.root t.slots in
      let around = (is_whole (shown_prefix mode [] t.root.decor) && is_whole (shown_suffix mode [] t.root.decor))
      && is_final (shown_raw mode t.trailing) in
      good-both [] (unless (not t.root.is_dotted) rule.Dotted) (unless around rule.Decor
      ++ lines_misfits mode no_keys t.slots) (dotted t.root.is_dotted refl)
      (good-both [] (unless around rule.Decor) (lines_misfits mode no_keys t.slots) (around-good around refl)
      (own-lines [] v all-located.0 refl))
    where
      dotted : (d : Bool) → t.root.is_dotted ≡ d → Good [] (unless (not d) rule.Dotted)
      dotted true e = good-here [] rule.Dotted (record { part = the_root; place = root_at; breaks = e })
      dotted false e = tt

  tables-broken : Good [] (tables_misfits mode no_keys t.slots)
  tables-broken = tables-good t.slots no_keys [] [] [] (no-keys mode) all-located.1

  -- ---- the order of headers

  -- of these two, in the order of the walk, the second is printed first
  abbrev Meets : PlacedVisit → PlacedVisit → Type 0
  Meets x y = int_le x.0 y.0 ≡ false → ComesBefore (headed mode t) y.1 x.1

  heads-meet : AllPairs Meets (heads (root_place t.root) (slots_walk t.slots [] []))
  heads-meet =
      let hs = heads (root_place t.root) (slots_walk t.slots [] []) in
      let sorted = sorted_by comes_before hs in
      let Q : PlacedVisit → PlacedVisit → Type 0 = λ x y. ComesBefore (headed mode t) x.1 y.1 in
      let all : AllPairs (ComesBefore (headed mode t)) (map (λ (v : PlacedVisit). v.1) sorted) =
      subst (λ (vs : List Visit). AllPairs (ComesBefore (headed mode t)) vs) (headed-is mode t)
      (pairs-within (headed mode t) [] (headed mode t) refl) in
      pairs-of (λ (v : PlacedVisit). IsBelowRoot v.1) (Turned comes_before Q) Meets hs
      (λ x y f g turned e. turned.1 (before-is mode t x y f g ∙ e)) (heads-below mode t)
      ((sorted-pairs comes_before before-trans before-total Q hs).0
      (pairs-unimage (λ (v : PlacedVisit). v.1) (ComesBefore (headed mode t)) sorted all))

  headed-at : (xs : List Located) (seen : ℤ) → AllTables [] xs
      → AllByRecursion (λ (y : Headed). IsAt mode t y.0 (a_table y.1.1)) (headed_from seen xs)
  headed-at [] seen h = tt
  headed-at (x ∷ xs) seen h = by_tests x.1.fields.is_dotted (has_own_header x.1.is_element x.1.fields x.1.slots) (λ s. headed-at xs s h.1)
    where
      by_tests : (d b : Bool) → ((s : ℤ) → AllByRecursion (λ (y : Headed). IsAt mode t y.0 (a_table y.1.1)) (headed_from s xs))
          → AllByRecursion (λ (y : Headed). IsAt mode t y.0 (a_table y.1.1))
          (if d then headed_from seen xs else if b then (x.0, (place_of seen x.1, x.1)) ∷ headed_from (place_of seen x.1) xs
          else headed_from (place_of seen x.1) xs)
      by_tests true b more = more seen
      by_tests false true more = (h.0, more (place_of seen x.1))
      by_tests false false more = more (place_of seen x.1)

  early-good : (before : List PlacedVisit) (hs : List Headed) → AllByRecursion (λ (y : Headed). IsAt mode t y.0 (a_table y.1.1)) hs
      → AllByRecursion (λ (y : Headed). AllByRecursion (λ (x : PlacedVisit). Meets x y.1) before) hs
      → AllPairs Meets (map (λ (y : Headed). y.1) hs)
      → Good [] (early_after before hs)
  early-good before [] at met pairs = tt
  early-good before (y ∷ rest) at met pairs =
      good-both [] (if list_any (λ x. is_too_early x y.1) before then record { path = map new_key y.0; rule = rule.Order } ∷ []
      else []) (early_after (y.1 ∷ before) rest)
      (by_test (list_any (λ x. is_too_early x y.1) before) refl)
      (early-good (y.1 ∷ before) rest at.1
      (all-both (λ (z : Headed). Meets y.1 z.1) (λ (z : Headed). AllByRecursion (λ (x : PlacedVisit). Meets x z.1) before) rest
      (all-image (λ (z : Headed). z.1) (Meets y.1) rest pairs.0) met.1)
      pairs.1)
    where
      by_test : (b : Bool) → list_any (λ x. is_too_early x y.1) before ≡ b
          → Good [] (if b then record { path = map new_key y.0; rule = rule.Order } ∷ [] else [])
      by_test true e =
          let (x, early, meets) = any-some (λ x. is_too_early x y.1) (λ (x : PlacedVisit). Meets x y.1) before met.0 e in
          let late = is_too_late y.1.1 x.1 in
          let turned = not-true (int_le x.0 y.1.0) (and_right late (not (int_le x.0 y.1.0)) early) in
          let broken : IsBrokenAt mode t y.0 rule.Order =
          record { part = a_table y.1.1; place = at.0; breaks = (x.1, meets turned, and_left late (not (int_le x.0 y.1.0)) early) } in
          (subst (λ q. IsBrokenAt mode t q rule.Order) (sym (names-new y.0)) broken, tt)
      by_test false e = tt

  early-broken : Good [] (early_misfits t)
  early-broken =
      let seen = root_place t.root in
      let xs = located_slots t.slots [] [] in
      let hs = headed_from seen xs in
      early-good [] hs (headed-at xs seen all-located.1) (each-itself (λ (y : Headed). Unit {0}) hs (λ y c. tt))
      (subst (λ (vs : List PlacedVisit). AllPairs Meets vs) (sym (headed-placed xs seen ∙ ap (heads seen) (visits-slots t.slots [] [])))
      heads-meet)

pub misfits_are_broken : MisfitsAreBroken
misfits_are_broken mode t m c =
    each-of (λ (m : MisfitView). IsBrokenAt mode t (names m.path) m.rule) (misfits mode t)
    (good-both mode t [] (root_misfits mode t.root t.slots t.trailing) (tables_misfits mode no_keys t.slots
    ++ early_misfits t) (root-good mode t)
    (good-both mode t [] (tables_misfits mode no_keys t.slots) (early_misfits t) (tables-broken mode t) (early-broken mode t)))
    m c
