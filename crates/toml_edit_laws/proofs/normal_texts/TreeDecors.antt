-- The decors of tables, headers and lines of the tree of a cut, in owned form, suit their places.
use Rattle.std.proofs.Common.{◌≡◌, refl, sym, ◌∙◌, ap, subst, ℕ, suc, Bool, true, false, List, [], ◌∷◌, ◌++◌, Some, inl, inr}
use Rattle.std.specs.Prelude.{ℤ, pos, map, flat_map, MatchBool, if◌then◌else◌}
use Rattle.std.specs.List.{AllByRecursion}
use Rattle.std.proofs.lemmas.Bool.{cases_Bool}
use Rattle.toml_edit_model.specs.Mode.{Mode, plain, exact, shown_text, with_return}
use Rattle.toml_edit_model.specs.Text.{Text, one, is_empty}
use Rattle.toml_edit_model.specs.Trivia.{IsWhiteSpace, IsWholeTrivia, IsLineEnd, IsFinalTrivia}
use Rattle.toml_edit_model.specs.Syntax.{Statement, key_line, header, Document, IsSpacedSegment, IsDocument}
use Rattle.toml_edit_model.specs.Paths.{at_key, at_element, Path, to_key, to_element, Mention, Source, Placed, placed, start_context}
use Rattle.toml_edit_model.specs.Paths.{all_mentions}
use Rattle.toml_edit_model.specs.Tree.{owned, Decor, unset, Key, TableFields, Node, nothing, leaf, list, inline, table, tables, Items}
use Rattle.toml_edit_model.specs.Tree.{no_items, item, Slots, no_slots, slot, Tree, shown_prefix, shown_suffix, shown_raw, node_decor}
use Rattle.toml_edit_model.specs.TreeOf.{owned_in, key_at, statement_leaf, frame_leaf, fields_of, header_fields, IsTableRole, IsLineNode}
use Rattle.toml_edit_model.specs.TreeOf.{IsNodeOf, AreElementsOf, AreSlotsOf, IsTreeOf}
use Rattle.toml_edit_model.specs.HeaderOrder.{Visit, visit_of, node_walk, items_walk, slots_walk, walk, places_from, place_of, comes_before}
use Rattle.toml_edit_model.specs.HeaderOrder.{in_header_order}
use Rattle.toml_edit_model.specs.Print.{one_space, Line, last_leaf, is_line_node, table_lines, dotted_lines, lines_of, line_of, value_of}
use Rattle.toml_edit_model.specs.Print.{has_header, key_prefix}
use Rattle.toml_edit_model.specs.Fits.{LineSuits, Suits, EndsLine, PrintedLineSuits, HeaderSuits, TableSuits, DecorsSuit}
use Rattle.toml_edit_laws.proofs.common.LineEnds.{IsEnd, ended}
use Rattle.toml_edit_laws.proofs.common.OrderLaws.{all-sorted}
use Rattle.toml_edit_laws.proofs.mentions.KeptPaths.{last-key}
use Rattle.toml_edit_laws.proofs.values.ValueItems.{owned-decor, value-line}
use Rattle.toml_edit_laws.proofs.adding.HeaderReady.{all-under}
use Rattle.toml_edit_laws.proofs.normal_texts.SettledStays.{IsAny, any-statements}
use Rattle.toml_edit_laws.proofs.normal_texts.Lean.{lean-trivia, lean-end, lean-final}
use Rattle.toml_edit_laws.proofs.normal_texts.NormalAccepted.{IsRightMention, all-right}
use Rattle.toml_edit_laws.proofs.normal_texts.SteadyMentions.{IsBracketed, of-document}
use Rattle.toml_edit_laws.proofs.normal_texts.DecorsSuit.{IsSpacedKey, AreSpacedKeys, segments-spaced, lean-white, key-spaced, keys-append}
use Rattle.toml_edit_laws.proofs.normal_texts.DecorsSuit.{line-suits, node-suits}
use Rattle.toml_edit_laws.proofs.mentions.KeptOrder.{kept-all}
use Rattle.toml_edit_laws.proofs.mentions.RoleTests.{is_bracket_role}
use Rattle.toml_edit_laws.proofs.common.Trivia.{empty-trivia, white-feed, empty-end}
use Rattle.toml_edit_laws.proofs.mentions.Placed.{is_header}
use Rattle.toml_edit_laws.proofs.common.Each.{all-append, all-filter, all-map}
use Rattle.toml_edit_model.specs.Roles.{Role, dotted_role, implied_role, header_role, array_role, value_role, continued_role, is_array_role}
use Rattle.toml_edit_model.specs.Roles.{ends_path}
use Rattle.toml_edit_model.specs.TableMentions.{own, under, array_headers, kept}

-- ---- mentions

abbrev pub IsFitSource : Mention Source → Type 0
IsFitSource m = IsSpacedSegment m.segment × IsAny m.source.statement × IsBracketed m

abbrev pub AllFit : List (Mention Source) → Type 0
AllFit ms = AllByRecursion IsFitSource ms

pub fit-under : (k : Text) (ms : List (Mention Source)) → AllFit ms → AllFit (under (at_key k) ms)
fit-under k ms h = all-under IsFitSource (λ m t p e a. a) (at_key k) ms h

pub fit-element : (i : ℕ) (ms : List (Mention Source)) → AllFit ms → AllFit (under (at_element i) ms)
fit-element i ms h = all-under IsFitSource (λ m t p e a. a) (at_element i) ms h

pub fit-kept : (ms : List (Mention Source)) → AllFit ms → AllFit (kept ms)
fit-kept ms h = kept-all IsFitSource [] ms h

pub arrays-fit : (us : List (Mention Source)) → AllFit us → AllFit (array_headers us)
arrays-fit us h = all-filter IsFitSource (λ m. is_array_role m.role) (own us) (all-filter IsFitSource (λ m. is_empty m.path) us h)

both-fit : (ms : List (Mention Source)) → AllByRecursion IsRightMention ms → AllByRecursion IsBracketed ms → AllFit ms
both-fit [] h g = tt
both-fit (m ∷ ms) h g = ((h.0.0.0, h.0.1, g.0), both-fit ms h.1 g.1)

same-mentions : (xs : List Placed) → flat_map (λ m. m) (map (λ (s : Placed). s.mentions) xs) ≡ flat_map (λ (s : Placed). s.mentions) xs
same-mentions [] = refl
same-mentions (x ∷ xs) = ap (λ ms. x.mentions ++ ms) (same-mentions xs)

pub document-fit : (d : Document) → IsDocument d → AllByRecursion (λ m. IsSpacedSegment m.segment × IsAny m.source.statement
    × IsBracketed m) (all_mentions d)
document-fit d h =
    both-fit (all_mentions d)
    (subst (AllByRecursion IsRightMention) (same-mentions (placed d))
    (all-right (start_context d) d.statements (any-statements d.final d.statements h.0)))
    (of-document d).bracketed

-- a suffix as it is read suits the end of a line
pub ends-line : (mode : Mode) (t end : Text) → IsLineEnd t → IsEnd end → EndsLine mode (shown_text mode (with_return mode t end))
ends-line mode t end h g = subst IsLineEnd (sym (ended mode t end h g).trailing) (lean-end mode t h)

pub empty-ends : (mode : Mode) → EndsLine mode []
empty-ends plain = empty-end
empty-ends exact = empty-end

module _ (mode : Mode) where
  -- ---- lines

  -- the key of a value's slot, and the value
  value-slot : (k : Key) (m : Mention Source) (n : Node) (js : List Key) → k ≡ key_at (owned_in mode) m → m.role ≡ value_role
      → IsFitSource m → AreSpacedKeys mode (js ++ one k)
      → IsLineNode (owned_in mode) m.source m.source.statement n → (is_line_node n ≡ true) × LineSuits mode (EndsLine mode) (js ++ one k) n
      × Suits mode n
  value-slot k m n js key_is role_is fit spaced h = by_kind m.source.statement refl fit.1 h
    where
      leaf_is : k.leaf ≡ statement_leaf (owned_in mode) m.source m.source.statement
      leaf_is =
          ap (λ (j : Key). j.leaf) key_is
          ∙ ap (λ r. if ends_path r then statement_leaf (owned_in mode) m.source m.source.statement else unset) role_is

      by_kind : (s : Statement) → m.source.statement ≡ s → IsAny s → IsLineNode (owned_in mode) m.source s n → (is_line_node n ≡ true)
          × LineSuits mode (EndsLine mode) (js ++ one k) n × Suits mode n
      by_kind (header i end) e a g = absurd g
      by_kind (key_line f v end) e a g =
          let leaf : k.leaf ≡ frame_leaf (owned_in mode) m.source.start f = leaf_is ∙ ap (statement_leaf (owned_in mode) m.source) e in
          let decor : node_decor n ≡ record {
            prefix = Some (owned f.after_equals);
            suffix =
                Some (owned (with_return mode f.trailing end));
          } =
          owned-decor mode v _ 0 0 f.after_equals (with_return mode f.trailing end) n g in (
            value-line (owned_in mode) v _ f.after_equals (with_return mode f.trailing end) n g,
            line-suits mode (EndsLine mode) js k n spaced (subst (λ (d : Decor). IsWholeTrivia (shown_prefix mode [] d)) (sym leaf)
                (lean-trivia mode f.leading a.0.0.leading))
                (subst (λ (d : Decor). IsWhiteSpace (shown_suffix mode one_space d)) (sym leaf)
                (lean-white mode f.before_equals a.0.0.before_equals))
                (subst (λ (d : Decor). IsWhiteSpace (shown_prefix mode one_space d)) (sym decor)
                (lean-white mode f.after_equals a.0.0.after_equals))
                (subst (λ (d : Decor). EndsLine mode (shown_suffix mode [] d)) (sym decor)
                (ends-line mode f.trailing end a.0.0.trailing a.2)),
            node-suits mode n v _ f.after_equals (with_return mode f.trailing end) a.1 g,
          )

  abbrev pub AllSuit : List Line → Type 0
  AllSuit ls = AllByRecursion (PrintedLineSuits mode) ls

  pub one-line : (b : Bool) (js : List Key) (n : Node) (rest : List Line) → b ≡ true → LineSuits mode (EndsLine mode) js n × Suits mode n
      → AllSuit rest
      → AllSuit ((elim b [ true ↦ line_of js n (value_of mode n) | false ↦ dotted_lines mode n js ]) ++ rest)
  one-line true js n rest e h g = (h, g)
  one-line false js n rest e h g = absurd cc

  mutual
    lines-suit : (ss : Slots) (ms ks : List (Mention Source)) (js : List Key) → AllFit ms → AllFit ks → AreSpacedKeys mode js
        → AreSlotsOf (owned_in mode) ms ks ss → AllSuit (table_lines mode ss js)
    lines-suit no_slots ms ks js h f s g = tt
    lines-suit (slot k n ss) ms [] js h f s g = absurd g
    lines-suit (slot k n ss) ms (m ∷ ks) js h f s g =
        slot-lines n k ms m js (table_lines mode ss js) h f.0
        (keys-append mode js k s (subst (IsSpacedKey mode) (sym g.0)
        (key-spaced mode (statement_leaf (owned_in mode) m.source m.source.statement) m f.0.0))) g.0 g.1
        (lines-suit ss ms ks js h f.1 s g.2)

    slot-lines : (n : Node) (k : Key) (ms : List (Mention Source)) (m : Mention Source) (js : List Key) (rest : List Line) → AllFit ms
        → IsFitSource m → AreSpacedKeys mode (js ++ one k)
        → k ≡ key_at (owned_in mode) m → IsNodeOf (owned_in mode) (under (at_key m.segment.key) ms) m n → AllSuit rest
        → AllSuit ((elim (is_line_node n) [ true ↦ line_of (js ++ one k) n (value_of mode n) | false ↦ dotted_lines mode n (js ++ one k) ])
        ++ rest)
    slot-lines nothing k ms m js rest h f s e g r = absurd g
    slot-lines (leaf c p d) k ms m js rest h f s e g r = (let v = value-slot k m (leaf c p d) js e g.0 f s g.1 in ((v.1, v.2), r))
    slot-lines (list i xs) k ms m js rest h f s e g r = (let v = value-slot k m (list i xs) js e g.0 f s g.1 in ((v.1, v.2), r))
    slot-lines (inline i us) k ms m js rest h f s e g r =
        let v = value-slot k m (inline i us) js e g.0 f s g.1 in
        one-line (is_line_node (inline i us)) (js ++ one k) (inline i us) rest v.0 (v.1, v.2) r
    slot-lines (table i us) k ms m js rest h f s e g r =
        let ns : List (Mention Source) = under (at_key m.segment.key) ms in
        let inner : AllSuit (table_lines mode us (js ++ one k)) =
        lines-suit us ns (kept ns) (js ++ one k) (fit-under m.segment.key ms h) (fit-kept ns (fit-under m.segment.key ms h)) s g.2 in
        elim (cases_Bool i.is_dotted) [
          | inl d ↦
              subst (λ b. AllSuit ((if b then table_lines mode us (js ++ one k) else []) ++ rest)) (sym d)
              (all-append (PrintedLineSuits mode) (table_lines mode us (js ++ one k)) rest inner r)
          | inr d ↦ subst (λ b. AllSuit ((if b then table_lines mode us (js ++ one k) else []) ++ rest)) (sym d) r
        ]
    slot-lines (tables i xs) k ms m js rest h f s e g r = r

  -- ---- headers

  -- the decor of the last key has white space
  abbrev pub IsInner : Decor → Type 0
  IsInner d = IsWhiteSpace (shown_prefix mode [] d) × IsWhiteSpace (shown_suffix mode [] d)

  abbrev pub VisitSuits : Visit → Type 0
  VisitSuits v = HeaderSuits mode v × AllSuit (lines_of mode v)

  pub header-suits : (v : Visit) → AreSpacedKeys mode v.keys → IsInner (last_leaf v.keys)
      → IsWholeTrivia (shown_prefix mode [] v.fields.decor) → EndsLine mode (shown_suffix mode [] v.fields.decor) → HeaderSuits mode v
  header-suits v s i a b =
      record {
        inner =
            subst (λ c. MatchBool c (IsWholeTrivia (key_prefix mode v)) (IsWhiteSpace (key_prefix mode v)
            × IsWhiteSpace (shown_suffix mode [] (last_leaf v.keys))))
            (sym (white-feed (key_prefix mode v) i.0)) i;
        segments = segments-spaced mode v.keys s;
        leading = a;
        trailing = b;
      }

  -- the fields of a table's header
  fields-suit : (source : Source) (s : Statement) → IsAny s
      → IsWholeTrivia (shown_prefix mode [] (header_fields (owned_in mode) source s).decor)
      × EndsLine mode (shown_suffix mode [] (header_fields (owned_in mode) source s).decor)
  fields-suit source (key_line f v end) h = (empty-trivia, empty-ends mode)
  fields-suit source (header i end) h = (lean-trivia mode i.leading h.0.0.leading, ends-line mode i.trailing end h.0.0.trailing h.1)

  role-fields : (us : List (Mention Source)) (m : Mention Source) (r : Role) → IsAny m.source.statement
      → IsWholeTrivia (shown_prefix mode [] (fields_of (owned_in mode) us m r).decor)
      × EndsLine mode (shown_suffix mode [] (fields_of (owned_in mode) us m r).decor)
  role-fields us m header_role h = fields-suit m.source m.source.statement h
  role-fields us m dotted_role h = (empty-trivia, empty-ends mode)
  role-fields us m implied_role h = (empty-trivia, empty-ends mode)
  role-fields us m array_role h = (empty-trivia, empty-ends mode)
  role-fields us m value_role h = (empty-trivia, empty-ends mode)
  role-fields us m continued_role h = (empty-trivia, empty-ends mode)

  leaf-inner : (source : Source) (s : Statement) → IsAny s → is_header s ≡ true → IsInner (statement_leaf (owned_in mode) source s)
  leaf-inner source (key_line f v end) h e = absurd cc
  leaf-inner source (header i end) h e = (lean-white mode i.opening h.0.0.opening, lean-white mode i.closing h.0.0.closing)

  pub unset-inner : IsInner unset
  unset-inner = (refl, refl)

  -- the key of a slot that isn't a value's
  key-inner : (m : Mention Source) (r : Role) → m.role ≡ r → (r ≡ value_role → ⊥) → IsFitSource m
      → IsInner (if ends_path r then statement_leaf (owned_in mode) m.source m.source.statement else unset)
  key-inner m header_role e none f = leaf-inner m.source m.source.statement f.1 (f.2 (ap is_bracket_role e))
  key-inner m array_role e none f = leaf-inner m.source m.source.statement f.1 (f.2 (ap is_bracket_role e))
  key-inner m value_role e none f = absurd (none refl)
  key-inner m dotted_role e none f = unset-inner
  key-inner m implied_role e none f = unset-inner
  key-inner m continued_role e none f = unset-inner

  slot-inner : (k : Key) (m : Mention Source) (js : List Key) → k ≡ key_at (owned_in mode) m → (m.role ≡ value_role → ⊥) → IsFitSource m
      → IsInner (last_leaf (js ++ one k))
  slot-inner k m js e none f =
      subst IsInner (sym (last-key js k ∙ ap (λ (j : Key). j.leaf) e)) (key-inner m m.role refl none f)

  table-role : (r : Role) → IsTableRole (owned_in mode) r → r ≡ value_role → ⊥
  table-role r h e = subst (IsTableRole (owned_in mode)) e h

  abbrev pub AllVisits : List Visit → Type 0
  AllVisits vs = AllByRecursion VisitSuits vs

  mutual
    node-visits : (n : Node) (k : Key) (us : List (Mention Source)) (m : Mention Source) (p : Path) (js : List Key) → AllFit us
        → IsFitSource m → AreSpacedKeys mode (js ++ one k)
        → k ≡ key_at (owned_in mode) m → IsNodeOf (owned_in mode) us m n → AllVisits (node_walk n p (js ++ one k) false)
    node-visits nothing k us m p js h f s e g = tt
    node-visits (leaf c r d) k us m p js h f s e g = tt
    node-visits (list i xs) k us m p js h f s e g = tt
    node-visits (inline i ss) k us m p js h f s e g = tt
    node-visits (table i ss) k us m p js h f s e g =
        let fields = role-fields us m m.role f.1 in (
          (
            header-suits (visit_of p (js ++ one k) false i ss) s (slot-inner k m js e (table-role m.role g.0) f)
                (subst (λ (o : TableFields). IsWholeTrivia (shown_prefix mode [] o.decor)) (sym g.1) fields.0)
                (subst (λ (o : TableFields). EndsLine mode (shown_suffix mode [] o.decor)) (sym g.1) fields.1),
            lines-suit ss us (kept us) [] h (fit-kept us h) tt g.2,
          ),
          slots-visits ss us (kept us) p (js ++ one k) h (fit-kept us h) s g.2,
        )
    node-visits (tables x xs) k us m p js h f s e g =
        items-visits xs us (array_headers us) 0 p (js ++ one k) 0 h (arrays-fit us h) s (slot-inner k m js e (λ r. clash (sym g.0 ∙ r)) f)
        g.2
      where
        clash : array_role ≡ value_role → ⊥
        clash q = cc

    items-visits : (xs : Items) (us hs : List (Mention Source)) (i : ℕ) (p : Path) (js : List Key) (n : ℕ) → AllFit us → AllFit hs
        → AreSpacedKeys mode js → IsInner (last_leaf js)
        → AreElementsOf (owned_in mode) us i hs xs → AllVisits (items_walk xs p js n)
    items-visits no_items us hs i p js n h f s e g = tt
    items-visits (item x xs) us [] i p js n h f s e g = absurd g
    items-visits (item nothing xs) us (a ∷ hs) i p js n h f s e g = absurd g
    items-visits (item (leaf c r d) xs) us (a ∷ hs) i p js n h f s e g = absurd g
    items-visits (item (list o ys) xs) us (a ∷ hs) i p js n h f s e g = absurd g
    items-visits (item (inline o ss) xs) us (a ∷ hs) i p js n h f s e g = absurd g
    items-visits (item (tables o ys) xs) us (a ∷ hs) i p js n h f s e g = absurd g
    items-visits (item (table o ss) xs) us (a ∷ hs) i p js n h f s e g =
        let vs : List (Mention Source) = under (at_element i) us in
        let below = fit-element i us h in
        let fields = fields-suit a.source a.source.statement f.0.1 in
        all-append VisitSuits (visit_of (to_element p n) js true o ss ∷ slots_walk ss (to_element p n) js) (items_walk xs p js (suc n)) (
          (
            header-suits (visit_of (to_element p n) js true o ss) s e
                (subst (λ (q : TableFields). IsWholeTrivia (shown_prefix mode [] q.decor)) (sym g.0) fields.0)
                (subst (λ (q : TableFields). EndsLine mode (shown_suffix mode [] q.decor)) (sym g.0) fields.1),
            lines-suit ss vs (kept vs) [] below (fit-kept vs below) tt g.1,
          ),
          slots-visits ss vs (kept vs) (to_element p n) js below (fit-kept vs below) s g.1,
        )
        (items-visits xs us hs (suc i) p js (suc n) h f.1 s e g.2)

    slots-visits : (ss : Slots) (ms ks : List (Mention Source)) (p : Path) (js : List Key) → AllFit ms → AllFit ks → AreSpacedKeys mode js
        → AreSlotsOf (owned_in mode) ms ks ss → AllVisits (slots_walk ss p js)
    slots-visits no_slots ms ks p js h f s g = tt
    slots-visits (slot k n ss) ms [] p js h f s g = absurd g
    slots-visits (slot k n ss) ms (m ∷ ks) p js h f s g =
        all-append VisitSuits (node_walk n (to_key p k.name) (js ++ one k) false) (slots_walk ss p js)
        (node-visits n k (under (at_key m.segment.key) ms) m (to_key p k.name) js (fit-under m.segment.key ms h) f.0
        (keys-append mode js k s (subst (IsSpacedKey mode) (sym g.0)
        (key-spaced mode (statement_leaf (owned_in mode) m.source m.source.statement) m f.0.0))) g.0 g.1)
        (slots-visits ss ms ks p js h f.1 s g.2)

  -- ---- trees

  pub places-suit : (seen : ℤ) (vs : List Visit) → AllVisits vs → AllByRecursion (λ g. VisitSuits g.1) (places_from seen vs)
  places-suit seen [] h = tt
  places-suit seen (v ∷ vs) h = by_test v.fields.is_dotted (places-suit seen vs h.1) (places-suit (place_of seen v) vs h.1)
    where
      by_test : (b : Bool) → AllByRecursion (λ g. VisitSuits g.1) (places_from seen vs)
          → AllByRecursion (λ g. VisitSuits g.1) (places_from (place_of seen v) vs)
          → AllByRecursion (λ g. VisitSuits g.1) (if b then places_from seen vs else (place_of seen v, v)
          ∷ places_from (place_of seen v) vs)
      by_test true a c = a
      by_test false a c = (h.0, c)

  pub table-suits : (g : ℤ × Visit) → VisitSuits g.1 → TableSuits mode g
  table-suits g h = (by_header (has_header mode g.1), h.1)
    where
      by_header : (b : Bool) → MatchBool b (HeaderSuits mode g.1) (Unit {0})
      by_header true = h.0
      by_header false = tt

  -- The decors of every tree of a cut, in owned form, suit their places.
  pub decors-suit : (d : Document) → IsDocument d → (t : Tree) → IsTreeOf (owned_in mode) d t → DecorsSuit mode t
  decors-suit d h t is =
      let ms : List (Mention Source) = all_mentions d in
      let fit = document-fit d h in
      let root : VisitSuits (visit_of [] [] false t.root t.slots) = (
        header-suits (visit_of [] [] false t.root t.slots) tt unset-inner
            (subst (λ (o : TableFields). IsWholeTrivia (shown_prefix mode [] o.decor)) (sym is.root) empty-trivia)
            (subst (λ (o : TableFields). EndsLine mode (shown_suffix mode [] o.decor)) (sym is.root) (empty-ends mode)),
        lines-suit t.slots ms (kept ms) [] fit (fit-kept ms fit) tt is.slots,
      ) in
      let visits : AllVisits (walk t) = (root, slots-visits t.slots ms (kept ms) [] [] fit (fit-kept ms fit) tt is.slots) in
      record {
        tables =
            all-map (λ g. VisitSuits g.1) (TableSuits mode) (in_header_order t) table-suits
            (all-sorted (λ g. VisitSuits g.1) comes_before (places_from (pos 0) (walk t)) (places-suit (pos 0) (walk t) visits));
        root_prefix = subst (λ (o : TableFields). IsWholeTrivia (shown_prefix mode [] o.decor)) (sym is.root) empty-trivia;
        root_suffix = subst (λ (o : TableFields). IsWholeTrivia (shown_suffix mode [] o.decor)) (sym is.root) empty-trivia;
        trailing = subst (λ r. IsFinalTrivia (shown_raw mode r)) (sym is.trailing) (lean-final mode d.final h.1);
      }
