-- Where a value may be put, by a walk along the path.
use Rattle.std.proofs.Common.{◌≡◌, refl, sym, ◌∙◌, ap, subst, ℕ, Bool, true, false, List, [], ◌∷◌, ◌++◌, append-nil, inl, inr, Option, None, Some}
use Rattle.std.proofs.Math.Logic.{∥∥₁_elim}
use Rattle.std.proofs.Props.{props}
use Rattle.std.proofs.lemmas.Bool.{false≢true}
use Rattle.std.specs.Prelude.{◌⊎◌, ◌↔◌, ◌&&◌, ◌||◌, IsTrue, is_none, not, option_and_then, option_map}
use Rattle.toml_edit_model.specs.HeaderOrder.{Visit, is_root, visit_of}
use Rattle.toml_edit_model.specs.Keys.{names}
use Rattle.toml_edit_model.specs.Lists.{item_list, slot_list}
use Rattle.toml_edit_model.specs.Mode.{plain}
use Rattle.toml_edit_model.specs.Paths.{to_element, to_key}
use Rattle.toml_edit_model.specs.Print.{lines_of}
use Rattle.toml_edit_model.specs.Shown.{is_table_node}
use Rattle.toml_edit_model.specs.Slots.{keyed, lookup_slot}
use Rattle.toml_edit_model.specs.Spelling.{SpellsKey}
use Rattle.toml_edit_model.specs.Text.{Text, is_empty}
use Rattle.toml_edit_model.specs.Tree.{Extent, HasTrueSpelling, Items, Key, Node, Raw, Slots, TableFields, Tree, inline, leaf, list, nothing, owned, span, table, tables}
use Rattle.toml_edit_laws.specs.Locality.{Leads, Turn, element_count, has_block, into_element, into_table, is_plain_value, root_visit}
use Rattle.toml_edit_laws.specs.PrintByVisits.{has_lines}
use Rattle.toml_edit_laws.specs.reading.Tokens.{key_at}
use Rattle.toml_edit_laws.proofs.common.OptionSteps.{some-is}
use Rattle.toml_edit_laws.proofs.common.Tests.{and_left, and_right}
use Rattle.toml_edit_laws.proofs.print_by_visits.ValueTexts.{lines-some}
use Rattle.toml_edit_laws.proofs.reading.TokenLaws.{key_again, key_takes}
use Rattle.toml_edit_edit_laws.specs.Commands.{and_then, child, element_of, item_at, item_below, present, root_item, second}
use Rattle.toml_edit_edit_laws.specs.CommandLaws.{Goes, NamesTable}
use Rattle.toml_edit_edit_laws.specs.Means.{shown_at}
use Rattle.toml_edit_edit_laws.proofs.commands.Apart.{Named, named}
use Rattle.toml_edit_edit_laws.proofs.commands.Finding.{some-and, some-second}
use Rattle.toml_edit_edit_laws.proofs.commands.Going.{element-there, item-along}
use Rattle.toml_edit_edit_laws.proofs.commands.Keeping.{item-parts, present-is}
use Rattle.toml_edit_edit_laws.proofs.means.Meant.{shown-there}
use Rattle.toml_edit_edit_laws.proofs.path_calls.Places.{names-join}
use Rattle.toml_edit_paths.specs.Tables.{item_through_tables}
use Rattle.toml_edit.specs.Edited.{MayBePut, after_lines, at_value, in_block, takes_key, takes_key_in, takes_line}

-- ---- the spelling of a key

spelled-key : (k t : Text) → ∥ SpellsKey k t ∥₁ → SpellsKey k t
spelled-key k t h =
    let read : key_at (t ++ []) ≡ Some (k, []) = ∥∥₁_elim h (hlevel props) (λ s. key_again k t [] s refl) in
    let r = key_takes (t ++ []) [] k read in
    subst (SpellsKey k) (sym (append-nil r.0) ∙ sym r.2 ∙ append-nil t) r.1

spelled : (k : Text) (r : Option Raw) → ∥ HasTrueSpelling (SpellsKey k) r ∥₁ → HasTrueSpelling (SpellsKey k) r
spelled k None h = tt
spelled k (Some (span i j)) h = tt
spelled k (Some (owned t)) h = spelled-key k t h

-- ---- what a walk through tables comes to

some-next : {A : Type 0} (f : Node → Option A) (o : Option Node) (x : A) → option_and_then f o ≡ Some x
    → (a : Node) × (o ≡ Some a) × (f a ≡ Some x)
some-next f None x h = absurd cc
some-next f (Some a) x h = (a, refl, h)

module _ (tf : TableFields) (ts : Slots) (te : Bool) where
  -- the way to a table that is so
  record Comes (path : List Text) (v : Visit) : Type 0 where
    way : List Turn
    to : Visit
    goes : Goes way path
    leads : Leads way v to
    is : ◌≡◌ {A = Node × Bool} (table to.fields to.slots, to.is_element) (table tf ts, te)

  abbrev From : List Text → Type 0
  From path =
      (v : Visit) → item_through_tables path v.is_element (table v.fields v.slots) ≡ Some (table tf ts, te) → Comes path v

  abbrev Inside : List Text → Type 0
  Inside [] = Unit {0}
  Inside (x ∷ path) = From path

  element-step : (k x : Text) (path : List Text) (v : Visit) (l : Key) (e : Extent) (xs : Items) (i : ℕ) (a : Node)
      → lookup_slot k (slot_list v.slots) ≡ Some (keyed l (tables e xs)) → Named is_table_node x (item_list xs) (i, a)
      → item_through_tables path true a ≡ Some (table tf ts, te) → From path → Comes (k ∷ x ∷ path) v
  element-step k x path v l e xs i (table f ss) is at h from =
      let p = item-parts i (item_list xs) (table f ss) at.item in
      let c = from (visit_of (to_element (to_key v.path l.name) (element_count p.before)) (v.keys ++ (l ∷ [])) true f ss) h in
      record {
        way = into_element k i ∷ c.way;
        to = c.to;
        goes = (refl, at.number, c.goes);
        leads = (l, e, xs, p.before, f, ss, p.after, is, p.is, p.place, c.leads);
        is = c.is;
      }
  element-step k x path v l e xs i (leaf s r d) is at h from = absurd (false≢true at.kind)
  element-step k x path v l e xs i (list f ys) is at h from = absurd (false≢true at.kind)
  element-step k x path v l e xs i (inline f ys) is at h from = absurd (false≢true at.kind)
  element-step k x path v l e xs i (tables f ys) is at h from = absurd (false≢true at.kind)
  element-step k x path v l e xs i nothing is at h from = absurd (false≢true at.kind)

  only-table : (n : Node) → ◌≡◌ {A = Option (Node × Bool)} (Some (n, false)) (Some (table tf ts, te)) → is_table_node n ≡ true
  only-table n h = ap (λ (x : Node × Bool). is_table_node x.0) (some-is (n, false) (table tf ts, te) h)

  step : (k : Text) (path : List Text) (v : Visit) (l : Key) (a : Node) → lookup_slot k (slot_list v.slots) ≡ Some (keyed l a)
      → item_through_tables path false a ≡ Some (table tf ts, te) → From path → Inside path → Comes (k ∷ path) v
  step k path v l (table f ss) is h from inside =
      let c = from (visit_of (to_key v.path l.name) (v.keys ++ (l ∷ [])) false f ss) h in
      record {
        way = into_table k ∷ c.way;
        to = c.to;
        goes = (refl, c.goes);
        leads = (l, f, ss, is, c.leads);
        is = c.is;
      }
  step k (x ∷ path) v l (tables e xs) is h from inside =
      let a = some-next (item_through_tables path true) (child x (tables e xs)) (table tf ts, te) h in
      let y = some-second (element_of is_table_node x (item_list xs)) a.0 a.1 in
      element-step k x path v l e xs y.0 a.0 is (named is_table_node x (item_list xs) (y.0, a.0) y.1) a.2 inside
  step k [] v l (tables e xs) is h from inside = absurd (false≢true (only-table (tables e xs) h))
  step k [] v l (leaf s r d) is h from inside = absurd (false≢true (only-table (leaf s r d) h))
  step k (x ∷ path) v l (leaf s r d) is h from inside = absurd cc
  step k [] v l (list f xs) is h from inside = absurd (false≢true (only-table (list f xs) h))
  step k (x ∷ path) v l (list f xs) is h from inside = absurd cc
  step k [] v l (inline f ss) is h from inside = absurd (false≢true (only-table (inline f ss) h))
  step k (x ∷ path) v l (inline f ss) is h from inside = absurd cc
  step k [] v l nothing is h from inside = absurd (false≢true (only-table nothing h))
  step k (x ∷ path) v l nothing is h from inside = absurd cc

  next : (k : Text) (path : List Text) → From path → Inside path → From (k ∷ path)
  next k path from inside v h =
      let a = some-next (item_through_tables path false) (present (lookup_slot k (slot_list v.slots))) (table tf ts, te) h in
      let p = present-is (lookup_slot k (slot_list v.slots)) a.0 a.1 in
      step k path v p.key a.0 p.is a.2 from inside

  comes : (path : List Text) → From path
  comes [] v h = record { way = []; to = v; goes = tt; leads = refl; is = some-is _ _ h }
  comes (k ∷ []) v h = next k [] (comes []) tt v h
  comes (k ∷ x ∷ path) v h = next k (x ∷ path) (comes (x ∷ path)) (comes path) v h

-- Each way is walked so.
along : (way : List Turn) (path : List Text) (s w : Visit) → Goes way path → Leads way s w
    → item_through_tables path s.is_element (table s.fields s.slots) ≡ Some (table w.fields w.slots, w.is_element)
along [] [] s w goes leads = ap (λ (v : Visit). Some (table v.fields v.slots, v.is_element)) leads
along [] (j ∷ path) s w goes leads = absurd goes
along (into_table k ∷ way) [] s w goes leads = absurd goes
along (into_table k ∷ way) (j ∷ path) s w goes (l, f, ss, eq, leads) =
    ap (λ o. option_and_then (item_through_tables path false) (present o)) (ap (λ x. lookup_slot x (slot_list s.slots)) goes.0 ∙ eq)
    ∙ along way path (visit_of (to_key s.path l.name) (s.keys ++ (l ∷ [])) false f ss) w goes.1 leads
along (into_element k i ∷ way) [] s w goes leads = absurd goes
along (into_element k i ∷ way) (j ∷ []) s w goes leads = absurd goes
along (into_element k i ∷ way) (j ∷ x ∷ path) s w goes (l, e, xs, before, f, ss, after, eq, items, place, leads) =
    ap (λ o. option_and_then (item_through_tables (x ∷ path) false) (present o)) (ap (λ y. lookup_slot y (slot_list s.slots)) goes.0 ∙ eq)
    ∙ ap (λ o. option_and_then (item_through_tables path true) (second o))
    (element-there is_table_node x i (item_list xs) before (table f ss) after goes.1 items place refl)
    ∙ along way path (visit_of (to_element (to_key s.path l.name) (element_count before)) (s.keys ++ (l ∷ [])) true f ss) w goes.2 leads

-- ---- the root is at the empty path alone

last-some : (ks : List Key) (l : Key) → is_empty (ks ++ (l ∷ [])) ≡ false
last-some [] l = refl
last-some (k ∷ ks) l = refl

keys-stay : (way : List Turn) (v w : Visit) → Leads way v w → is_empty v.keys ≡ false → is_empty w.keys ≡ false
keys-stay [] v w leads some = subst (λ (x : Visit). is_empty x.keys ≡ false) leads some
keys-stay (into_table k ∷ way) v w (l, f, ss, eq, leads) some =
    keys-stay way (visit_of (to_key v.path l.name) (v.keys ++ (l ∷ [])) false f ss) w leads (last-some v.keys l)
keys-stay (into_element k i ∷ way) v w (l, e, xs, before, f, ss, after, eq, items, place, leads) some =
    keys-stay way (visit_of (to_element (to_key v.path l.name) (element_count before)) (v.keys ++ (l ∷ [])) true f ss) w leads
    (last-some v.keys l)

root-only : (t : Tree) (way : List Turn) (path : List Text) (w : Visit) → Goes way path → Leads way (root_visit t) w
    → is_root w ≡ is_empty path
root-only t [] [] w goes leads = ap (λ (x : Visit). is_root x) (sym leads)
root-only t [] (j ∷ path) w goes leads = absurd goes
root-only t (into_table k ∷ way) [] w goes leads = absurd goes
root-only t (into_table k ∷ way) (j ∷ path) w goes (l, f, ss, eq, leads) =
    keys-stay way (visit_of (to_key [] l.name) (l ∷ []) false f ss) w leads refl
root-only t (into_element k i ∷ way) [] w goes leads = absurd goes
root-only t (into_element k i ∷ way) (j ∷ path) w goes (l, e, xs, before, f, ss, after, eq, items, place, leads) =
    keys-stay way (visit_of (to_element (to_key [] l.name) (element_count before)) (l ∷ []) true f ss) w leads refl

-- ---- where a line can be added

abbrev blocked : (r d e i z : Bool) → Bool
blocked r d e i z = r || (not d && (not r && (e || not (i && z))))

abbrev taken : (r h d e i : Bool) → Bool
taken r h d e i = r || (h || (not d && (e || not i)))

taken-so : (r h d e i : Bool) → taken r h d e i ≡ true → (blocked r d e i (not h) ≡ true) ⊎ (not h ≡ false)
taken-so true h d e i is = inl refl
taken-so false true d e i is = inr refl
taken-so false false true e i is = absurd cc
taken-so false false false true i is = inl refl
taken-so false false false false true is = absurd cc
taken-so false false false false false is = inl refl

so-taken : (r h d e i : Bool) → (blocked r d e i (not h) ≡ true) ⊎ (not h ≡ false) → taken r h d e i ≡ true
so-taken true h d e i is = refl
so-taken false true d e i is = refl
so-taken false false d e i (inr none) = absurd cc
so-taken false false true e i (inl is) = absurd cc
so-taken false false false true i (inl is) = refl
so-taken false false false false true (inl is) = absurd cc
so-taken false false false false false (inl is) = refl

module _ (w : Visit) where
  lines-are : is_empty (lines_of plain w) ≡ not (has_lines w.slots)
  lines-are = lines-some plain w.slots []

  block-is : has_block plain w ≡ blocked (is_root w) w.fields.is_dotted w.is_element w.fields.is_implicit (not (has_lines w.slots))
  block-is = ap (λ z. blocked (is_root w) w.fields.is_dotted w.is_element w.fields.is_implicit z) lines-are

  abbrev TakesLine : Type 0
  TakesLine = (has_block plain w ≡ true) ⊎ (is_empty (lines_of plain w) ≡ false)

  line-so : takes_line (is_root w) w.is_element w.fields w.slots ≡ true → TakesLine
  line-so is =
      elim (taken-so (is_root w) (has_lines w.slots) w.fields.is_dotted w.is_element w.fields.is_implicit is) [
        | inl block ↦ inl (block-is ∙ block)
        | inr some ↦ inr (lines-are ∙ some)
      ]

  so-line : TakesLine → takes_line (is_root w) w.is_element w.fields w.slots ≡ true
  so-line (inl block) =
      so-taken (is_root w) (has_lines w.slots) w.fields.is_dotted w.is_element w.fields.is_implicit (inl (sym block-is ∙ block))
  so-line (inr some) =
      so-taken (is_root w) (has_lines w.slots) w.fields.is_dotted w.is_element w.fields.is_implicit (inr (sym lines-are ∙ some))

-- ---- below a table that is named

last-two : (xs ys : List Key) (x y : Key) → xs ++ (x ∷ []) ≡ ys ++ (y ∷ []) → (xs ≡ ys) × (x ≡ y)
last-two [] [] x y h = (refl, cc)
last-two [] (b ∷ []) x y h = absurd cc
last-two [] (b ∷ c ∷ ys) x y h = absurd cc
last-two (a ∷ []) [] x y h = absurd cc
last-two (a ∷ c ∷ xs) [] x y h = absurd cc
last-two (a ∷ xs) (b ∷ ys) x y h =
    let first : a ≡ b = cc in
    let r = last-two xs ys x y cc in (ap (λ z. z ∷ xs) first ∙ ap (λ zs. b ∷ zs) r.0, r.1)

some-same : (o : Option Node) → and_then (λ n. Some n) o ≡ o
some-same None = refl
some-same (Some n) = refl

below-last : (path : List Text) (k : Text) (n m : Node) → item_below path n ≡ Some m → item_below (path ++ (k ∷ [])) n ≡ child k m
below-last [] k n m h = some-same (child k n) ∙ ap (child k) (some-is n m h)
below-last (j ∷ path) k n m h =
    let a = some-and (item_below path) (child j n) m h in
    ap (and_then (item_below (path ++ (k ∷ [])))) a.1 ∙ below-last path k a.0 m a.2

none-is : {A : Type 0} (o : Option A) → is_none o ≡ true → o ≡ None
none-is None h = refl
none-is (Some x) h = absurd cc

module _ (t : Tree) where
  not-there : (front : List Key) (k : Key) (w : Visit) → NamesTable t (names front) w → lookup_slot k.name (slot_list w.slots) ≡ None
      → item_at (names (front ++ (k ∷ []))) t ≡ None
  not-there front k w named new =
      ap (λ q. item_at q t) (names-join front (k ∷ []))
      ∙ below-last (names front) k.name (root_item t) (table w.fields w.slots)
      (item-along named.way (names front) (root_visit t) w named.goes named.leads)
      ∙ ap present new

  value-plain : (path : List Key) (n : Node) → shown_at (names path) t ≡ Some n → MayBePut t path → is_plain_value n ≡ true
  value-plain path n there (at_value old is value) = ap is_plain_value (some-is n old (sym there ∙ is)) ∙ value
  value-plain path n there (in_block front k w same key named new block) =
      let e : None ≡ Some n = sym (ap (λ q. item_at (names q) t) same ∙ not-there front k w named new)
      ∙ shown-there (names path) false (root_item t) n there in absurd cc
  value-plain path n there (after_lines front k w same key named new some) =
      let e : None ≡ Some n = sym (ap (λ q. item_at (names q) t) same ∙ not-there front k w named new)
      ∙ shown-there (names path) false (root_item t) n there in absurd cc

  -- an item is there
  pub there-may : (path : List Key) (b : Bool) → Some b ≡ option_map is_plain_value (shown_at (names path) t)
      → IsTrue b ↔ MayBePut t path
  there-may path b h = by-item (shown_at (names path) t) refl h
    where
      by-item : (o : Option Node) → shown_at (names path) t ≡ o → Some b ≡ option_map is_plain_value o → IsTrue b ↔ MayBePut t path
      by-item None e h = absurd cc
      by-item (Some n) e h =
          let is : b ≡ is_plain_value n = some-is b (is_plain_value n) h in
          (λ told. at_value n e (sym is ∙ told), λ may. is ∙ value-plain path n e may)

  module _ (above : List Key) (k : Key) where
    key-may : HasTrueSpelling (SpellsKey k.name) k.spelling → takes_key k.name (names above) (root_item t) ≡ true
        → MayBePut t (above ++ (k ∷ []))
    key-may key h = by-walk (item_through_tables (names above) false (root_item t)) refl h
      where
        by-walk : (o : Option (Node × Bool)) → item_through_tables (names above) false (root_item t) ≡ o
            → takes_key_in (is_empty (names above)) k.name o ≡ true → MayBePut t (above ++ (k ∷ []))
        by-walk (Some (table f ss, b)) e h =
            let c = comes f ss b (names above) (root_visit t) e in
            let w = c.to in
            let named : NamesTable t (names above) w = record { way = c.way; goes = c.goes; leads = c.leads } in
            let is = ap (λ x. takes_key_in (is_empty (names above)) k.name (Some x)) c.is ∙ h in
            let new = none-is (lookup_slot k.name (slot_list w.slots)) (and_left _ _ is) in
            let line = ap (λ r. takes_line r w.is_element w.fields w.slots) (root-only t c.way (names above) w c.goes c.leads)
            ∙ and_right _ _ is in
            elim (line-so w line) [
              | inl block ↦ in_block above k w refl key named new block
              | inr some ↦ after_lines above k w refl key named new some
            ]
        by-walk o e h = absurd cc

    may-line : (front : List Key) (j : Key) (w : Visit) → above ++ (k ∷ []) ≡ front ++ (j ∷ []) → NamesTable t (names front) w
        → lookup_slot j.name (slot_list w.slots) ≡ None → TakesLine w → takes_key k.name (names above) (root_item t) ≡ true
    may-line front j w same named new line =
        let s = last-two above front k j same in
        let r = is_empty (names front) in
        ap (λ (x : List Key). takes_key k.name (names x) (root_item t)) s.0
        ∙ ap (λ (x : Key). takes_key x.name (names front) (root_item t)) s.1
        ∙ ap (takes_key_in r j.name) (along named.way (names front) (root_visit t) w named.goes named.leads)
        ∙ ap (λ o. is_none o && takes_line r w.is_element w.fields w.slots) new
        ∙ ap (λ x. takes_line x w.is_element w.fields w.slots) (sym (root-only t named.way (names front) w named.goes named.leads))
        ∙ so-line w line

    may-key : shown_at (names (above ++ (k ∷ []))) t ≡ None → MayBePut t (above ++ (k ∷ []))
        → takes_key k.name (names above) (root_item t) ≡ true
    may-key none (at_value old there value) = let e : None ≡ Some old = sym none ∙ there in absurd cc
    may-key none (in_block front j w same key named new block) = may-line front j w same named new (inl block)
    may-key none (after_lines front j w same key named new some) = may-line front j w same named new (inr some)

    none-mapped : (o : Option Node) → None ≡ option_map is_plain_value o → o ≡ None
    none-mapped None h = refl
    none-mapped (Some n) h = absurd cc

    -- no item is there
    pub new-may : (path : List Key) (b : Bool) → path ≡ above ++ (k ∷ [])
        → None ≡ option_map is_plain_value (shown_at (names path) t) → ∥ HasTrueSpelling (SpellsKey k.name) k.spelling ∥₁
        → b ≡ takes_key k.name (names above) (root_item t) → IsTrue b ↔ MayBePut t path
    new-may path b same none key is = (
      λ told. subst (MayBePut t) (sym same) (key-may (spelled k.name k.spelling key) (sym is ∙ told)),
      λ may.
          is
          ∙ may-key (ap (λ q. shown_at (names q) t) (sym same) ∙ none-mapped (shown_at (names path) t) none)
          (subst (MayBePut t) same may),
    )
