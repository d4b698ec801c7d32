-- A tree that was read in one mode fits in the other too: where carriage returns are printed, those that were read stand before line feeds.
use Rattle.std.proofs.Common.{◌≡◌, refl, sym, ◌∙◌, ap, subst, ℕ, suc, true, false, List, [], ◌∷◌, ◌++◌, Some, inl, inr}
use Rattle.std.specs.Prelude.{pos, if◌then◌else◌}
use Rattle.std.proofs.lemmas.Bool.{cases_Bool}
use Rattle.toml_edit_model.specs.Mode.{Mode, plain, exact, line_end}
use Rattle.toml_edit_model.specs.Text.{Text, one, newline}
use Rattle.toml_edit_model.specs.Trivia.{IsWhiteSpace, IsWholeTrivia, IsLineEnd, IsFinalTrivia, lf}
use Rattle.toml_edit_model.specs.Syntax.{Statement, key_line, header, Document, IsDocument}
use Rattle.toml_edit_model.specs.Paths.{at_key, at_element, Path, to_key, to_element, Mention, Source, all_mentions}
use Rattle.toml_edit_model.specs.Tree.{owned, Decor, unset, Key, TableFields, Node, nothing, leaf, list, inline, table, tables, Items}
use Rattle.toml_edit_model.specs.Tree.{no_items, item, Slots, no_slots, slot, Tree, shown_prefix, shown_suffix, shown_raw, node_decor}
use Rattle.toml_edit_model.specs.TreeOf.{owned_in, owned_form, key_at, statement_leaf, frame_leaf, fields_of, header_fields, IsTableRole}
use Rattle.toml_edit_model.specs.TreeOf.{IsLineNode, IsNodeOf, AreElementsOf, AreSlotsOf, IsTreeOf}
use Rattle.toml_edit_model.specs.HeaderOrder.{visit_of, node_walk, items_walk, slots_walk, walk, places_from, comes_before}
use Rattle.toml_edit_model.specs.HeaderOrder.{in_header_order}
use Rattle.toml_edit_model.specs.Print.{one_space, Line, is_line_node, last_leaf, table_lines, dotted_lines, line_of, value_of}
use Rattle.toml_edit_model.specs.Fits.{LineSuits, Suits, EndsLine, PrintedLineSuits, TableSuits, DecorsSuit, FitsIn}
use Rattle.toml_edit_model.specs.Roles.{Role, dotted_role, implied_role, header_role, array_role, value_role, continued_role}
use Rattle.toml_edit_model.specs.Roles.{ends_path}
use Rattle.toml_edit_model.specs.TableMentions.{under, array_headers, kept}
use Rattle.toml_edit_laws.proofs.common.Each.{all-append, all-map}
use Rattle.toml_edit_laws.proofs.common.LineEnds.{ended}
use Rattle.toml_edit_laws.proofs.common.OrderLaws.{all-sorted}
use Rattle.toml_edit_laws.proofs.common.Tests.{append-nil}
use Rattle.toml_edit_laws.proofs.common.Trivia.{empty-trivia}
use Rattle.toml_edit_laws.proofs.mentions.KeptPaths.{last-key}
use Rattle.toml_edit_laws.proofs.mentions.Placed.{is_header}
use Rattle.toml_edit_laws.proofs.mentions.RoleTests.{is_bracket_role}
use Rattle.toml_edit_laws.proofs.normal_texts.DecorsSuit.{IsSpacedKey, AreSpacedKeys, lean-white, key-spaced, keys-append, line-suits}
use Rattle.toml_edit_laws.proofs.normal_texts.DecorsSuit.{node-suits}
use Rattle.toml_edit_laws.proofs.normal_texts.Lean.{lean-trivia, lean-final}
use Rattle.toml_edit_laws.proofs.normal_texts.SettledStays.{IsAny}
use Rattle.toml_edit_laws.proofs.normal_texts.TreeDecors.{AllSuit, AllVisits, IsInner, VisitSuits, document-fit, empty-ends, header-suits}
use Rattle.toml_edit_laws.proofs.normal_texts.TreeDecors.{one-line, places-suit, table-suits, unset-inner, IsFitSource, AllFit, fit-under}
use Rattle.toml_edit_laws.proofs.values.ValueItems.{owned-decor, value-line}
use Rattle.toml_edit_laws.proofs.normal_texts.LinesInModes.{limits-same, ordered-same}
use Rattle.toml_edit_laws.proofs.normal_texts.TreeDecors.{fit-element, fit-kept, arrays-fit}
use Rattle.toml_edit.proofs.WeakerFits.{weaker-fits}

-- a suffix without a carriage return suits the end of a line
ends-exact : (t : Text) → IsLineEnd t → EndsLine exact t
ends-exact t h = subst IsLineEnd (sym (ap (line_end exact) (sym (append-nil t)) ∙ (ended exact t newline h (inl (lf, refl))).trailing)) h

-- ---- mentions

-- ---- lines

-- the key of a value's slot, and the value
value-slot : (k : Key) (m : Mention Source) (n : Node) (js : List Key) → k ≡ key_at owned_form m → m.role ≡ value_role → IsFitSource m
    → AreSpacedKeys exact (js ++ one k)
    → IsLineNode owned_form m.source m.source.statement n → (is_line_node n ≡ true) × LineSuits exact (EndsLine exact) (js ++ one k) n
    × Suits exact n
value-slot k m n js key_is role_is fit spaced h = by_kind m.source.statement refl fit.1 h
  where
    leaf_is : k.leaf ≡ statement_leaf owned_form m.source m.source.statement
    leaf_is =
        ap (λ (j : Key). j.leaf) key_is
        ∙ ap (λ r. if ends_path r then statement_leaf owned_form m.source m.source.statement else unset) role_is

    by_kind : (s : Statement) → m.source.statement ≡ s → IsAny s → IsLineNode owned_form m.source s n → (is_line_node n ≡ true)
        × LineSuits exact (EndsLine exact) (js ++ one k) n × Suits exact n
    by_kind (header i end) e a g = absurd g
    by_kind (key_line f v end) e a g =
        let leaf : k.leaf ≡ frame_leaf owned_form m.source.start f = leaf_is ∙ ap (statement_leaf owned_form m.source) e in
        let decor : node_decor n ≡ record { prefix = Some (owned f.after_equals); suffix = Some (owned f.trailing) } =
        owned-decor plain v _ 0 0 f.after_equals f.trailing n g in (
          value-line owned_form v _ f.after_equals f.trailing n g,
          line-suits exact (EndsLine exact) js k n spaced (subst (λ (d : Decor). IsWholeTrivia (shown_prefix exact [] d)) (sym leaf)
              (lean-trivia exact f.leading a.0.0.leading))
              (subst (λ (d : Decor). IsWhiteSpace (shown_suffix exact one_space d)) (sym leaf)
              (lean-white exact f.before_equals a.0.0.before_equals))
              (subst (λ (d : Decor). IsWhiteSpace (shown_prefix exact one_space d)) (sym decor)
              (lean-white exact f.after_equals a.0.0.after_equals))
              (subst (λ (d : Decor). EndsLine exact (shown_suffix exact [] d)) (sym decor) (ends-exact f.trailing a.0.0.trailing)),
          node-suits exact n v _ f.after_equals f.trailing a.1 g,
        )

mutual
  lines-suit : (ss : Slots) (ms ks : List (Mention Source)) (js : List Key) → AllFit ms → AllFit ks → AreSpacedKeys exact js
      → AreSlotsOf owned_form ms ks ss → AllSuit exact (table_lines exact ss js)
  lines-suit no_slots ms ks js h f s g = tt
  lines-suit (slot k n ss) ms [] js h f s g = absurd g
  lines-suit (slot k n ss) ms (m ∷ ks) js h f s g =
      slot-lines n k ms m js (table_lines exact ss js) h f.0
      (keys-append exact js k s (subst (IsSpacedKey exact) (sym g.0)
      (key-spaced exact (statement_leaf owned_form m.source m.source.statement) m f.0.0))) g.0 g.1
      (lines-suit ss ms ks js h f.1 s g.2)

  slot-lines : (n : Node) (k : Key) (ms : List (Mention Source)) (m : Mention Source) (js : List Key) (rest : List Line) → AllFit ms
      → IsFitSource m → AreSpacedKeys exact (js ++ one k)
      → k ≡ key_at owned_form m → IsNodeOf owned_form (under (at_key m.segment.key) ms) m n → AllSuit exact rest
      → AllSuit exact ((elim (is_line_node n) [
        | true ↦ line_of (js ++ one k) n (value_of exact n)
        | false ↦
            dotted_lines exact n (js ++ one k)
      ]) ++ rest)
  slot-lines nothing k ms m js rest h f s e g r = absurd g
  slot-lines (leaf c p d) k ms m js rest h f s e g r = (let v = value-slot k m (leaf c p d) js e g.0 f s g.1 in ((v.1, v.2), r))
  slot-lines (list i xs) k ms m js rest h f s e g r = (let v = value-slot k m (list i xs) js e g.0 f s g.1 in ((v.1, v.2), r))
  slot-lines (inline i us) k ms m js rest h f s e g r =
      let v = value-slot k m (inline i us) js e g.0 f s g.1 in
      one-line exact (is_line_node (inline i us)) (js ++ one k) (inline i us) rest v.0 (v.1, v.2) r
  slot-lines (table i us) k ms m js rest h f s e g r =
      let ns : List (Mention Source) = under (at_key m.segment.key) ms in
      let inner : AllSuit exact (table_lines exact us (js ++ one k)) =
      lines-suit us ns (kept ns) (js ++ one k) (fit-under m.segment.key ms h) (fit-kept ns (fit-under m.segment.key ms h)) s g.2 in
      elim (cases_Bool i.is_dotted) [
        | inl d ↦
            subst (λ b. AllSuit exact ((if b then table_lines exact us (js ++ one k) else []) ++ rest)) (sym d)
            (all-append (PrintedLineSuits exact) (table_lines exact us (js ++ one k)) rest inner r)
        | inr d ↦ subst (λ b. AllSuit exact ((if b then table_lines exact us (js ++ one k) else []) ++ rest)) (sym d) r
      ]
  slot-lines (tables i xs) k ms m js rest h f s e g r = r

-- ---- headers

-- the fields of a table's header
fields-suit : (source : Source) (s : Statement) → IsAny s → IsWholeTrivia (shown_prefix exact [] (header_fields owned_form source s).decor)
    × EndsLine exact (shown_suffix exact [] (header_fields owned_form source s).decor)
fields-suit source (key_line f v end) h = (empty-trivia, empty-ends exact)
fields-suit source (header i end) h = (lean-trivia exact i.leading h.0.0.leading, ends-exact i.trailing h.0.0.trailing)

role-fields : (us : List (Mention Source)) (m : Mention Source) (r : Role) → IsAny m.source.statement
    → IsWholeTrivia (shown_prefix exact [] (fields_of owned_form us m r).decor)
    × EndsLine exact (shown_suffix exact [] (fields_of owned_form us m r).decor)
role-fields us m header_role h = fields-suit m.source m.source.statement h
role-fields us m dotted_role h = (empty-trivia, empty-ends exact)
role-fields us m implied_role h = (empty-trivia, empty-ends exact)
role-fields us m array_role h = (empty-trivia, empty-ends exact)
role-fields us m value_role h = (empty-trivia, empty-ends exact)
role-fields us m continued_role h = (empty-trivia, empty-ends exact)

leaf-inner : (source : Source) (s : Statement) → IsAny s → is_header s ≡ true → IsInner exact (statement_leaf owned_form source s)
leaf-inner source (key_line f v end) h e = absurd cc
leaf-inner source (header i end) h e = (lean-white exact i.opening h.0.0.opening, lean-white exact i.closing h.0.0.closing)

-- the key of a slot that isn't a value's
key-inner : (m : Mention Source) (r : Role) → m.role ≡ r → (r ≡ value_role → ⊥) → IsFitSource m
    → IsInner exact (if ends_path r then statement_leaf owned_form m.source m.source.statement else unset)
key-inner m header_role e none f = leaf-inner m.source m.source.statement f.1 (f.2 (ap is_bracket_role e))
key-inner m array_role e none f = leaf-inner m.source m.source.statement f.1 (f.2 (ap is_bracket_role e))
key-inner m value_role e none f = absurd (none refl)
key-inner m dotted_role e none f = unset-inner exact
key-inner m implied_role e none f = unset-inner exact
key-inner m continued_role e none f = unset-inner exact

slot-inner : (k : Key) (m : Mention Source) (js : List Key) → k ≡ key_at owned_form m → (m.role ≡ value_role → ⊥) → IsFitSource m
    → IsInner exact (last_leaf (js ++ one k))
slot-inner k m js e none f =
    subst (IsInner exact) (sym (last-key js k ∙ ap (λ (j : Key). j.leaf) e)) (key-inner m m.role refl none f)

table-role : (r : Role) → IsTableRole owned_form r → r ≡ value_role → ⊥
table-role r h e = subst (IsTableRole owned_form) e h

mutual
  node-visits : (n : Node) (k : Key) (us : List (Mention Source)) (m : Mention Source) (p : Path) (js : List Key) → AllFit us
      → IsFitSource m → AreSpacedKeys exact (js ++ one k)
      → k ≡ key_at owned_form m → IsNodeOf owned_form us m n → AllVisits exact (node_walk n p (js ++ one k) false)
  node-visits nothing k us m p js h f s e g = tt
  node-visits (leaf c r d) k us m p js h f s e g = tt
  node-visits (list i xs) k us m p js h f s e g = tt
  node-visits (inline i ss) k us m p js h f s e g = tt
  node-visits (table i ss) k us m p js h f s e g =
      let fields = role-fields us m m.role f.1 in (
        (
          header-suits exact (visit_of p (js ++ one k) false i ss) s (slot-inner k m js e (table-role m.role g.0) f)
              (subst (λ (o : TableFields). IsWholeTrivia (shown_prefix exact [] o.decor)) (sym g.1) fields.0)
              (subst (λ (o : TableFields). EndsLine exact (shown_suffix exact [] o.decor)) (sym g.1) fields.1),
          lines-suit ss us (kept us) [] h (fit-kept us h) tt g.2,
        ),
        slots-visits ss us (kept us) p (js ++ one k) h (fit-kept us h) s g.2,
      )
  node-visits (tables x xs) k us m p js h f s e g =
      items-visits xs us (array_headers us) 0 p (js ++ one k) 0 h (arrays-fit us h) s (slot-inner k m js e (λ r. clash (sym g.0 ∙ r)) f) g.2
    where
      clash : array_role ≡ value_role → ⊥
      clash q = cc

  items-visits : (xs : Items) (us hs : List (Mention Source)) (i : ℕ) (p : Path) (js : List Key) (n : ℕ) → AllFit us → AllFit hs
      → AreSpacedKeys exact js → IsInner exact (last_leaf js)
      → AreElementsOf owned_form us i hs xs → AllVisits exact (items_walk xs p js n)
  items-visits no_items us hs i p js n h f s e g = tt
  items-visits (item x xs) us [] i p js n h f s e g = absurd g
  items-visits (item nothing xs) us (a ∷ hs) i p js n h f s e g = absurd g
  items-visits (item (leaf c r d) xs) us (a ∷ hs) i p js n h f s e g = absurd g
  items-visits (item (list o ys) xs) us (a ∷ hs) i p js n h f s e g = absurd g
  items-visits (item (inline o ss) xs) us (a ∷ hs) i p js n h f s e g = absurd g
  items-visits (item (tables o ys) xs) us (a ∷ hs) i p js n h f s e g = absurd g
  items-visits (item (table o ss) xs) us (a ∷ hs) i p js n h f s e g =
      let vs : List (Mention Source) = under (at_element i) us in
      let below = fit-element i us h in
      let fields = fields-suit a.source a.source.statement f.0.1 in
      all-append (VisitSuits exact) (visit_of (to_element p n) js true o ss
      ∷ slots_walk ss (to_element p n) js) (items_walk xs p js (suc n)) (
        (
          header-suits exact (visit_of (to_element p n) js true o ss) s e
              (subst (λ (q : TableFields). IsWholeTrivia (shown_prefix exact [] q.decor)) (sym g.0) fields.0)
              (subst (λ (q : TableFields). EndsLine exact (shown_suffix exact [] q.decor)) (sym g.0) fields.1),
          lines-suit ss vs (kept vs) [] below (fit-kept vs below) tt g.1,
        ),
        slots-visits ss vs (kept vs) (to_element p n) js below (fit-kept vs below) s g.1,
      )
      (items-visits xs us hs (suc i) p js (suc n) h f.1 s e g.2)

  slots-visits : (ss : Slots) (ms ks : List (Mention Source)) (p : Path) (js : List Key) → AllFit ms → AllFit ks → AreSpacedKeys exact js
      → AreSlotsOf owned_form ms ks ss → AllVisits exact (slots_walk ss p js)
  slots-visits no_slots ms ks p js h f s g = tt
  slots-visits (slot k n ss) ms [] p js h f s g = absurd g
  slots-visits (slot k n ss) ms (m ∷ ks) p js h f s g =
      all-append (VisitSuits exact) (node_walk n (to_key p k.name) (js ++ one k) false) (slots_walk ss p js)
      (node-visits n k (under (at_key m.segment.key) ms) m (to_key p k.name) js (fit-under m.segment.key ms h) f.0
      (keys-append exact js k s (subst (IsSpacedKey exact) (sym g.0)
      (key-spaced exact (statement_leaf owned_form m.source m.source.statement) m f.0.0))) g.0 g.1)
      (slots-visits ss ms ks p js h f.1 s g.2)

-- ---- trees

-- The decors of every tree of a cut, in owned form, suit their places where line endings are kept.
exact-decors : (d : Document) → IsDocument d → (t : Tree) → IsTreeOf owned_form d t → DecorsSuit exact t
exact-decors d h t is =
    let ms : List (Mention Source) = all_mentions d in
    let fit = document-fit d h in
    let root : VisitSuits exact (visit_of [] [] false t.root t.slots) = (
      header-suits exact (visit_of [] [] false t.root t.slots) tt (unset-inner exact)
          (subst (λ (o : TableFields). IsWholeTrivia (shown_prefix exact [] o.decor)) (sym is.root) empty-trivia)
          (subst (λ (o : TableFields). EndsLine exact (shown_suffix exact [] o.decor)) (sym is.root) (empty-ends exact)),
      lines-suit t.slots ms (kept ms) [] fit (fit-kept ms fit) tt is.slots,
    ) in
    let visits : AllVisits exact (walk t) = (root, slots-visits t.slots ms (kept ms) [] [] fit (fit-kept ms fit) tt is.slots) in
    record {
      tables =
          all-map (λ g. VisitSuits exact g.1) (TableSuits exact) (in_header_order t) (table-suits exact)
          (all-sorted (λ g. VisitSuits exact g.1) comes_before (places_from (pos 0) (walk t)) (places-suit exact (pos 0) (walk t) visits));
      root_prefix = subst (λ (o : TableFields). IsWholeTrivia (shown_prefix exact [] o.decor)) (sym is.root) empty-trivia;
      root_suffix = subst (λ (o : TableFields). IsWholeTrivia (shown_suffix exact [] o.decor)) (sym is.root) empty-trivia;
      trailing = subst (λ r. IsFinalTrivia (shown_raw exact r)) (sym is.trailing) (lean-final exact d.final h.1);
    }

-- A tree of a text, with owned texts, that fits in the mode in which it was read fits in each.
pub fits-in-each : (read : Mode) (d : Document) → IsDocument d → (t : Tree) → IsTreeOf (owned_in read) d t → FitsIn read t
    → (printed : Mode)
    → FitsIn printed t
fits-in-each plain d h t is fits plain = fits
fits-in-each plain d h t is fits exact =
    record {
      decors = exact-decors d h t is;
      undotted = fits.undotted;
      ordered = ordered-same exact plain t ∙ fits.ordered;
      limits = limits-same exact plain t ∙ fits.limits;
    }
fits-in-each exact d h t is fits plain = weaker-fits t fits
fits-in-each exact d h t is fits exact = fits
