-- The tree of a cut, in owned form, is steady.
use Rattle.std.proofs.Common.{◌≡◌, refl, sym, ◌∙◌, ap, ℕ, suc, Bool, true, false, List, [], ◌∷◌, ◌++◌, Option, Some, None, inl, inr}
use Rattle.std.specs.Prelude.{◌&&◌, ◌||◌, not, ℤ, pos, negsuc, if◌then◌else◌}
use Rattle.std.specs.List.{AllByRecursion, list_any, list_all}
use Rattle.std.proofs.lemmas.Bool.{cases_Bool, or_cases, or_from}
use Rattle.std.proofs.lemmas.List.Folds.{list_all-append}
use Rattle.toml_edit_model.specs.Mode.{Mode}
use Rattle.toml_edit_model.specs.Text.{Text, one, is_empty}
use Rattle.toml_edit_model.specs.Syntax.{scalar, array, inline_table, Statement, key_line, header, Document}
use Rattle.toml_edit_model.specs.Paths.{at_key, at_element, Path, same_path, to_key, to_element, Mention, Source, all_mentions}
use Rattle.toml_edit_model.specs.Tree.{Key, TableFields, InlineFields, Node, nothing, leaf, list, inline, table, tables, Items, no_items}
use Rattle.toml_edit_model.specs.Tree.{item, Slots, no_slots, slot, Tree}
use Rattle.toml_edit_model.specs.TreeOf.{owned_in, made_by_path, headed_by, header_fields, fields_of, key_extent, IsLineNode, IsNodeOf}
use Rattle.toml_edit_model.specs.TreeOf.{AreElementsOf, AreSlotsOf, IsTreeOf}
use Rattle.toml_edit_model.specs.HeaderOrder.{Visit, visit_of, node_walk, items_walk, slots_walk, walk}
use Rattle.toml_edit_model.specs.Print.{Line, table_lines, has_header}
use Rattle.toml_edit_model.specs.Lists.{is_dotted_inline}
use Rattle.toml_edit_model.specs.Fits.{is_undotted, has_no_dotted_inline, has_steady_header, is_steady_visit, is_steady_in}
use Rattle.toml_edit_laws.proofs.common.Tests.{and_left, and_right, and_both, or-true, or-left, or-right, true-false}
use Rattle.toml_edit_laws.proofs.adding.HeaderReady.{some_at-own}
use Rattle.toml_edit_laws.proofs.normal_texts.SteadyMentions.{is_direct, is_opening, IsBracketed, IsOfTable, step-key, step-element}
use Rattle.toml_edit_laws.proofs.normal_texts.SteadyMentions.{IsSlotOf, kept-slots, of-document}
use Rattle.toml_edit_laws.proofs.mentions.RoleTests.{is_bracket_role, array-bracket}
use Rattle.toml_edit_laws.proofs.mentions.Placed.{is_header}
use Rattle.toml_edit_laws.proofs.mentions.SomeAt.{some_at-under}
use Rattle.toml_edit_laws.proofs.common.Each.{all-filter, all_pass, all-map}
use Rattle.toml_edit_model.specs.Roles.{Role, dotted_role, implied_role, header_role, array_role, value_role, continued_role}
use Rattle.toml_edit_model.specs.Roles.{is_header_role, is_dotted_role, is_array_role}
use Rattle.toml_edit_model.specs.TableMentions.{under, some_at, roles, array_headers, own, kept}

-- ---- visits

-- a position is a count
abbrev pub is_counted : Option ℤ → Bool
is_counted None = true
is_counted (Some (pos n)) = true
is_counted (Some (negsuc n)) = false

-- a table of which nothing direct is said one key down has no lines
abbrev SaysNothing : List (Mention Source) → Type 0
SaysNothing ms = (k : Text) → some_at is_direct (one (at_key k)) ms ≡ true → ⊥

dotted-direct : (ms : List (Mention Source)) (k : Text) → some_at is_dotted_role (one (at_key k)) ms ≡ true
    → some_at is_direct (one (at_key k)) ms ≡ true
dotted-direct [] k h = h
dotted-direct (m ∷ ms) k h =
    elim (or_cases (same_path m.path (one (at_key k)) && is_dotted_role m.role) (some_at is_dotted_role (one (at_key k)) ms) h) [
      | inl e ↦ ap (λ b. b || some_at is_direct (one (at_key k)) ms) (direct (same_path m.path (one (at_key k))) m.role e)
      | inr e ↦
          ap (λ b. (same_path m.path (one (at_key k)) && is_direct m.role) || b) (dotted-direct ms k e)
          ∙ or-true (same_path m.path (one (at_key k)) && is_direct m.role)
    ]
  where
    direct : (b : Bool) (r : Role) → (b && is_dotted_role r) ≡ true → (b && is_direct r) ≡ true
    direct true dotted_role e = refl
    direct true value_role e = refl
    direct true implied_role e = absurd cc
    direct true header_role e = absurd cc
    direct true array_role e = absurd cc
    direct true continued_role e = absurd cc
    direct false r e = absurd cc

opening-none : (p : Path) (us : List (Mention Source)) → some_at is_header_role p us ≡ false → some_at is_dotted_role p us ≡ false
    → some_at is_opening p us ≡ false
opening-none p [] h g = refl
opening-none p (m ∷ us) h g =
    or_from (same_path m.path p && is_opening m.role) (some_at is_opening p us)
    (by_role (same_path m.path p) m.role (or-left (same_path m.path p && is_header_role m.role) (some_at is_header_role p us) h)
    (or-left (same_path m.path p && is_dotted_role m.role) (some_at is_dotted_role p us) g))
    (opening-none p us (or-right (same_path m.path p && is_header_role m.role) (some_at is_header_role p us) h)
    (or-right (same_path m.path p && is_dotted_role m.role) (some_at is_dotted_role p us) g))
  where
    by_role : (b : Bool) (r : Role) → (b && is_header_role r) ≡ false → (b && is_dotted_role r) ≡ false → (b && is_opening r) ≡ false
    by_role true header_role e f = e
    by_role true dotted_role e f = f
    by_role true implied_role e f = refl
    by_role true array_role e f = refl
    by_role true value_role e f = refl
    by_role true continued_role e f = refl
    by_role false r e f = refl

-- the mentions of an array's elements are of headers
abbrev pub AreElements : List (Mention Source) → Type 0
AreElements ms = AllByRecursion (λ a. is_header a.source.statement ≡ true) ms

pub elements-headed : (us : List (Mention Source)) → AllByRecursion IsBracketed us → AreElements (array_headers us)
elements-headed us h =
    all-map (λ a. IsBracketed a × (is_array_role a.role ≡ true)) (λ a. is_header a.source.statement ≡ true) (array_headers us)
    (λ a g. g.0 (array-bracket a.role g.1))
    (all_pass IsBracketed (λ a. is_array_role a.role) (own us) (all-filter IsBracketed (λ a. is_empty a.path) us h))

module _ (mode : Mode) where
  -- a visit of the walk, as both tests want it, and its position a count
  abbrev fine : Visit → Bool
  fine v = (is_steady_visit mode v && not (v.is_element && v.fields.is_dotted)) && is_counted v.fields.position

  abbrev AllFine : List Visit → Type 0
  AllFine vs = list_all fine vs ≡ true

  fine-append : (vs us : List Visit) → AllFine vs → AllFine us → AllFine (vs ++ us)
  fine-append vs us h g = list_all-append fine vs us ∙ and_both (list_all fine vs) (list_all fine us) h g

  pub line-inline : (s : Source) (st : Statement) (f : InlineFields) (ss : Slots) → IsLineNode (owned_in mode) s st (inline f ss)
      → f.is_dotted ≡ false
  line-inline s (header g end) f ss h = absurd h
  line-inline s (key_line g (scalar c t) end) f ss h = absurd h
  line-inline s (key_line g (array es comma t) end) f ss h = absurd h
  line-inline s (key_line g (inline_table ps comma t) end) f ss h = ap (λ (x : InlineFields). x.is_dotted) h.0

  -- ---- values

  -- no item of a table is a dotted inline table
  no-dotted : (ns : List (Mention Source)) (m : Mention Source) (n : Node) → IsNodeOf (owned_in mode) ns m n → is_dotted_inline n ≡ false
  no-dotted ns m nothing h = absurd h
  no-dotted ns m (leaf s r d) h = refl
  no-dotted ns m (list f xs) h = refl
  no-dotted ns m (inline f ss) h = line-inline m.source m.source.statement f ss h.1
  no-dotted ns m (table f ss) h = refl
  no-dotted ns m (tables e xs) h = refl

  none-dotted : (ms ks : List (Mention Source)) (ss : Slots) → AreSlotsOf (owned_in mode) ms ks ss → has_no_dotted_inline ss ≡ true
  none-dotted ms [] no_slots h = refl
  none-dotted ms [] (slot k n ss) h = absurd h
  none-dotted ms (m ∷ ks) no_slots h = absurd h
  none-dotted ms (m ∷ ks) (slot k n ss) h =
      and_both (not (is_dotted_inline n)) (has_no_dotted_inline ss) (ap not (no-dotted (under (at_key m.segment.key) ms) m n h.1))
      (none-dotted ms ks ss h.2)

  -- ---- tables with no lines

  -- headers make no dotted tables
  headed-undotted : (source : Source) (s : Statement) → (header_fields (owned_in mode) source s).is_dotted ≡ false
  headed-undotted source (key_line f v end) = refl
  headed-undotted source (header h end) = refl

  -- the fields of a table that is dotted are of a dotted key
  dotted-role : (us : List (Mention Source)) (m : Mention Source) (r : Role) → (fields_of (owned_in mode) us m r).is_dotted ≡ true
      → list_any is_dotted_role (roles us) ≡ true
  dotted-role us m header_role h =
      true-false ((header_fields (owned_in mode) m.source m.source.statement).is_dotted) h (headed-undotted m.source m.source.statement)
  dotted-role us m dotted_role h = h
  dotted-role us m implied_role h = h
  dotted-role us m array_role h = h
  dotted-role us m value_role h = h
  dotted-role us m continued_role h = h

  no-lines : (ms ks : List (Mention Source)) (ss : Slots) (js : List Key) → SaysNothing ms → AllByRecursion (IsSlotOf ms) ks
      → AreSlotsOf (owned_in mode) ms ks ss → table_lines mode ss js ≡ []
  no-lines ms [] no_slots js none g h = refl
  no-lines ms [] (slot k n ss) js none g h = absurd h
  no-lines ms (m ∷ ks) no_slots js none g h = absurd h
  no-lines ms (m ∷ ks) (slot k n ss) js none g h = by_node n h.1 (no-lines ms ks ss js none g.1 h.2)
    where
      of_value : m.role ≡ value_role → ⊥
      of_value e = none m.segment.key (g.0.said is_direct (ap is_direct e))

      undotted : (f : TableFields) → f ≡ fields_of (owned_in mode) (under (at_key m.segment.key) ms) m m.role → f.is_dotted ≡ false
      undotted f e =
          let us : List (Mention Source) = under (at_key m.segment.key) ms in
          elim (cases_Bool f.is_dotted) [
            | inl d ↦
                let role = dotted-role us m m.role (ap (λ (x : TableFields). x.is_dotted) (sym e) ∙ d) in
                absurd (none m.segment.key (dotted-direct ms m.segment.key (sym (some_at-under is_dotted_role (at_key m.segment.key) [] ms)
                ∙ some_at-own is_dotted_role us ∙ role)))
            | inr d ↦ d
          ]

      by_node : (n : Node) → IsNodeOf (owned_in mode) (under (at_key m.segment.key) ms) m n → table_lines mode ss js ≡ []
          → table_lines mode (slot k n ss) js ≡ []
      by_node nothing h ih = absurd h
      by_node (leaf s r d) h ih = absurd (of_value h.0)
      by_node (list f xs) h ih = absurd (of_value h.0)
      by_node (inline f us) h ih = absurd (of_value h.0)
      by_node (table f us) h ih =
          ap (λ b. (if b then table_lines mode us (js ++ (k ∷ [])) else []) ++ table_lines mode ss js) (undotted f h.1) ∙ ih
      by_node (tables e xs) h ih = ih

  -- ---- the fields of tables

  fine-from : (v : Visit) → has_no_dotted_inline v.slots ≡ true → ((v.fields.is_dotted || not (has_header mode v)) || has_steady_header v)
      ≡ true
      → (v.is_element && v.fields.is_dotted) ≡ false → is_counted v.fields.position ≡ true → fine v ≡ true
  fine-from v a b c d =
      and_both (is_steady_visit mode v && not (v.is_element && v.fields.is_dotted)) (is_counted v.fields.position)
      (and_both (is_steady_visit mode v) (not (v.is_element && v.fields.is_dotted))
      (and_both (has_no_dotted_inline v.slots) ((v.fields.is_dotted || not (has_header mode v)) || has_steady_header v) a b)
      (ap not c))
      d

  -- a table made by its path
  path-made : (us : List (Mention Source)) (m : Mention Source) (p : Path) (js : List Key) (ss : Slots) → IsOfTable false us
      → some_at is_header_role [] us ≡ false
      → AreSlotsOf (owned_in mode) us (kept us) ss → fine
      (visit_of p js false (made_by_path (owned_in mode) (list_any is_dotted_role (roles us)) (key_extent (owned_in mode) m)) ss) ≡ true
  path-made us m p js ss are none h =
      let f : TableFields = made_by_path (owned_in mode) (list_any is_dotted_role (roles us)) (key_extent (owned_in mode) m) in
      fine-from (visit_of p js false f ss) (none-dotted us (kept us) ss h) (by_dotted (list_any is_dotted_role (roles us)) refl) refl refl
    where
      says_nothing : list_any is_dotted_role (roles us) ≡ false → SaysNothing us
      says_nothing e k d =
          let shut : some_at is_opening [] us ≡ false = opening-none [] us none (some_at-own is_dotted_role us ∙ e) in
          elim (are.opened [] k d) [
            | inl a ↦ (let bad : false ≡ true = a in cc)
            | inr a ↦ true-false (some_at is_opening [] us) a shut
          ]

      by_dotted : (b : Bool) → list_any is_dotted_role (roles us) ≡ b
          → ((list_any is_dotted_role (roles us) || not (not (is_empty js) && (false || not (true && is_empty (table_lines mode ss [])))))
          || ((false && false) && (false || false))) ≡ true
      by_dotted true e = ap (λ b. (b || not (not (is_empty js) && (false || not (true && is_empty (table_lines mode ss []))))) || false) e
      by_dotted false e =
          let lines : table_lines mode ss [] ≡ [] = no-lines us (kept us) ss [] (says_nothing e) (kept-slots false us are) h in
          ap (λ b. (b || not (not (is_empty js) && (false || not (true && is_empty (table_lines mode ss []))))) || false) e
          ∙ ap (λ (ls : List Line). (false || not (not (is_empty js) && (false || not (true && is_empty ls)))) || false) lines
          ∙ by_root (is_empty js)
        where
          by_root : (b : Bool) → ((false || not (not b && (false || not (true && true)))) || false) ≡ true
          by_root true = refl
          by_root false = refl

  -- a table of a header, or an element
  headed-made : (source : Source) (s : Statement) (p : Path) (js : List Key) (b : Bool) (ss : Slots) → is_header s ≡ true
      → has_no_dotted_inline ss ≡ true
      → fine (visit_of p js b (header_fields (owned_in mode) source s) ss) ≡ true
  headed-made source (key_line f v end) p js b ss h g = absurd cc
  headed-made source (header i end) p js b ss h g =
      let v : Visit = visit_of p js b (headed_by (owned_in mode) source i end) ss in
      fine-from v g
      (ap (λ c. (false || not (has_header mode v)) || ((true && true) && c)) (or-true b) ∙ or-true (false || not (has_header mode v)))
      (and-false b) refl
    where
      and-false : (c : Bool) → (c && false) ≡ false
      and-false true = refl
      and-false false = refl

  steady-table : (us : List (Mention Source)) (m : Mention Source) (p : Path) (js : List Key) (f : TableFields) (ss : Slots)
      → IsOfTable false us
      → (is_header_role m.role ≡ false → some_at is_header_role [] us ≡ false) → IsBracketed m
      → (r : Role) → m.role ≡ r → f ≡ fields_of (owned_in mode) us m r → AreSlotsOf (owned_in mode) us (kept us) ss
      → fine (visit_of p js false f ss) ≡ true
  steady-table us m p js f ss are none b header_role r e h =
      ap (λ g. fine (visit_of p js false g ss)) e
      ∙ headed-made m.source m.source.statement p js false ss (b (ap is_bracket_role r)) (none-dotted us (kept us) ss h)
  steady-table us m p js f ss are none b dotted_role r e h = ap (λ g. fine (visit_of p js false g ss)) e
      ∙ path-made us m p js ss are (none (ap is_header_role r)) h
  steady-table us m p js f ss are none b implied_role r e h = ap (λ g. fine (visit_of p js false g ss)) e
      ∙ path-made us m p js ss are (none (ap is_header_role r)) h
  steady-table us m p js f ss are none b array_role r e h = ap (λ g. fine (visit_of p js false g ss)) e
      ∙ path-made us m p js ss are (none (ap is_header_role r)) h
  steady-table us m p js f ss are none b value_role r e h = ap (λ g. fine (visit_of p js false g ss)) e
      ∙ path-made us m p js ss are (none (ap is_header_role r)) h
  steady-table us m p js f ss are none b continued_role r e h = ap (λ g. fine (visit_of p js false g ss)) e
      ∙ path-made us m p js ss are (none (ap is_header_role r)) h

  -- ---- the walk

  mutual
    node-fine : (us : List (Mention Source)) (m : Mention Source) (n : Node) (p : Path) (js : List Key) → IsOfTable false us
        → (is_header_role m.role ≡ false → some_at is_header_role [] us ≡ false) → IsBracketed m → IsNodeOf (owned_in mode) us m n
        → AllFine (node_walk n p js false)
    node-fine us m nothing p js are none b h = absurd h
    node-fine us m (leaf s r d) p js are none b h = refl
    node-fine us m (list f xs) p js are none b h = refl
    node-fine us m (inline f ss) p js are none b h = refl
    node-fine us m (table f ss) p js are none b h =
        and_both (fine (visit_of p js false f ss)) (list_all fine (slots_walk ss p js))
        (steady-table us m p js f ss are none b m.role refl h.1 h.2)
        (slots-fine false us (kept us) ss p js are (kept-slots false us are) h.2)
    node-fine us m (tables e xs) p js are none b h = items-fine us (array_headers us) xs 0 p js 0 are (elements-headed us are.bracketed) h.2

    items-fine : (us as_left : List (Mention Source)) (xs : Items) (i : ℕ) (p : Path) (js : List Key) (n : ℕ) → IsOfTable false us
        → AreElements as_left
        → AreElementsOf (owned_in mode) us i as_left xs → AllFine (items_walk xs p js n)
    items-fine us [] no_items i p js n are heads h = refl
    items-fine us [] (item m xs) i p js n are heads h = absurd h
    items-fine us (a ∷ more) no_items i p js n are heads h = absurd h
    items-fine us (a ∷ more) (item (table f ss) xs) i p js n are heads h =
        let vs : List (Mention Source) = under (at_element i) us in
        fine-append (visit_of (to_element p n) js true f ss ∷ slots_walk ss (to_element p n) js) (items_walk xs p js (suc n))
        (and_both (fine (visit_of (to_element p n) js true f ss)) (list_all fine (slots_walk ss (to_element p n) js))
        (ap (λ g. fine (visit_of (to_element p n) js true g ss)) h.0
        ∙ headed-made a.source a.source.statement (to_element p n) js true ss heads.0 (none-dotted vs (kept vs) ss h.1))
        (slots-fine true vs (kept vs) ss (to_element p n) js (step-element false i us are)
        (kept-slots true vs (step-element false i us are)) h.1))
        (items-fine us more xs (suc i) p js (suc n) are heads.1 h.2)
    items-fine us (a ∷ more) (item nothing xs) i p js n are heads h = absurd h
    items-fine us (a ∷ more) (item (leaf s r d) xs) i p js n are heads h = absurd h
    items-fine us (a ∷ more) (item (list f ys) xs) i p js n are heads h = absurd h
    items-fine us (a ∷ more) (item (inline f ss) xs) i p js n are heads h = absurd h
    items-fine us (a ∷ more) (item (tables e ys) xs) i p js n are heads h = absurd h

    slots-fine : (o : Bool) (ms ks : List (Mention Source)) (ss : Slots) (p : Path) (js : List Key) → IsOfTable o ms
        → AllByRecursion (IsSlotOf ms) ks
        → AreSlotsOf (owned_in mode) ms ks ss → AllFine (slots_walk ss p js)
    slots-fine o ms [] no_slots p js are good h = refl
    slots-fine o ms [] (slot k n ss) p js are good h = absurd h
    slots-fine o ms (m ∷ ks) no_slots p js are good h = absurd h
    slots-fine o ms (m ∷ ks) (slot k n ss) p js are good h =
        fine-append (node_walk n (to_key p k.name) (js ++ (k ∷ [])) false) (slots_walk ss p js)
        (node-fine (under (at_key m.segment.key) ms) m n (to_key p k.name) (js ++ (k ∷ [])) (step-key o m.segment.key ms are)
        (λ e. some_at-under is_header_role (at_key m.segment.key) [] ms ∙ good.0.plain e) good.0.bracketed h.1)
        (slots-fine o ms ks ss p js are good.1 h.2)

  -- ---- trees

  fine-parts : (vs : List Visit) → AllFine vs
      → (list_all (is_steady_visit mode) vs ≡ true) × (list_all (λ v. not (v.is_element && v.fields.is_dotted)) vs ≡ true)
      × (list_all (λ v. is_counted v.fields.position) vs ≡ true)
  fine-parts [] h = (refl, refl, refl)
  fine-parts (v ∷ vs) h =
      let one = and_left (fine v) (list_all fine vs) h in
      let both = and_left (is_steady_visit mode v && not (v.is_element && v.fields.is_dotted)) (is_counted v.fields.position) one in
      let rest = fine-parts vs (and_right (fine v) (list_all fine vs) h) in (
        and_both (is_steady_visit mode v) (list_all (is_steady_visit mode) vs)
            (and_left (is_steady_visit mode v) (not (v.is_element && v.fields.is_dotted)) both) rest.0,
        and_both (not (v.is_element && v.fields.is_dotted)) (list_all (λ u. not (u.is_element && u.fields.is_dotted)) vs)
            (and_right (is_steady_visit mode v) (not (v.is_element && v.fields.is_dotted)) both) rest.1,
        and_both (is_counted v.fields.position) (list_all (λ u. is_counted u.fields.position) vs)
            (and_right (is_steady_visit mode v && not (v.is_element && v.fields.is_dotted)) (is_counted v.fields.position) one) rest.2,
      )

  -- all tables of the tree of a cut
  pub walk-fine : (d : Document) (t : Tree) → IsTreeOf (owned_in mode) d t
      → (list_all (is_steady_visit mode) (walk t) ≡ true) × (list_all (λ v. not (v.is_element && v.fields.is_dotted)) (walk t) ≡ true)
      × (list_all (λ v. is_counted v.fields.position) (walk t) ≡ true)
  walk-fine d t h =
      let ms : List (Mention Source) = all_mentions d in
      let are = of-document d in
      let root : Visit = visit_of [] [] false t.root t.slots in
      let first : fine root ≡ true =
      fine-from root (none-dotted ms (kept ms) t.slots h.slots) (ap (λ b. b || has_steady_header root) (or-true t.root.is_dotted)) refl
      (ap (λ (f : TableFields). is_counted f.position) h.root) in
      fine-parts (walk t) (and_both (fine root) (list_all fine (slots_walk t.slots [] [])) first
      (slots-fine true ms (kept ms) t.slots [] [] are (kept-slots true ms are) h.slots))

  -- Every tree of a cut, in owned form, is steady.
  pub steady-tree : (d : Document) (t : Tree) → IsTreeOf (owned_in mode) d t → is_steady_in mode t ≡ true
  steady-tree d t h =
      let parts = walk-fine d t h in
      and_both (is_undotted t) (list_all (is_steady_visit mode) (walk t))
      (and_both (not t.root.is_dotted) (list_all (λ v. not (v.is_element && v.fields.is_dotted)) (walk t))
      (ap (λ (f : TableFields). not f.is_dotted) h.root) parts.1)
      parts.0

  pub undotted-tree : (d : Document) (t : Tree) → IsTreeOf (owned_in mode) d t → is_undotted t ≡ true
  undotted-tree d t h = and_left (is_undotted t) (list_all (is_steady_visit mode) (walk t)) (steady-tree d t h)
