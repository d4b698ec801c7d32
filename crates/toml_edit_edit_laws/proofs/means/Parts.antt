-- What a change of one part of an item changes in the facts of the item.
use Rattle.std.proofs.Common.{◌≡◌, ◌⊎◌, refl, sym, ◌∙◌, ap, subst, ℕ, suc, arith, Bool, true, false, List, [], ◌∷◌, ◌++◌, inl, inr}
use Rattle.std.specs.Prelude.{◌||◌, not, if◌then◌else◌}
use Rattle.toml_edit_model.specs.Paths.{at_key, at_element, Path, to_key, to_element}
use Rattle.toml_edit_model.specs.Meaning.{Fact, fact, a_table, an_array}
use Rattle.toml_edit_model.specs.Tree.{Key, Extent, ArrayFields, InlineFields, TableFields, Node, list, inline, table, tables, Items, Slots, is_value_node}
use Rattle.toml_edit_model.specs.Shown.{is_table_node, has_table, list_facts}
use Rattle.toml_edit_model.specs.Slots.{Slot, keyed}
use Rattle.toml_edit_model.specs.Lists.{slots_from, items_from}
use Rattle.toml_edit_laws.proofs.common.Members.{Among}
use Rattle.toml_edit_laws.proofs.common.PathLaws.{is_front}
use Rattle.toml_edit_laws.proofs.common.Tests.{if-true, or-true, true-false}
use Rattle.toml_edit_laws.proofs.locality.Slots.{HaveOtherKeys}
use Rattle.toml_edit_laws.proofs.locality.Under.{apart-above}
use Rattle.toml_edit_edit_laws.proofs.means.Changes.{middle, Change, Changes, TablesMayGo, nothing-changes, changes-around, changes-cons, table-changes}
use Rattle.toml_edit_edit_laws.proofs.means.Facts.{facts_in, told, slots_in, any_told, items_in, kind, count, slot_in, slots-around, told-around, untold}
use Rattle.toml_edit_edit_laws.proofs.means.Facts.{facts-below, slot-below, slots-under, items-under, items-around, others-out, later-out, earlier-out}

-- ---- an item in its place

-- The item is shown: always, as an element and as the root, or for its own sake, in a value or in a table.
abbrev pub shown_in : Bool → Bool → Node → Bool
shown_in always v n = always || told v n

-- its facts, if it is
abbrev pub seen : Bool → Bool → Node → Path → List Fact
seen always v n p = if shown_in always v n then facts_in v n p else []

-- one item in the place of another
pub record Replaces (c : Change) (always v : Bool) (a b : Node) (p : Path) : Type 0 where
  pub facts : Changes c (seen always v a p) (seen always v b p)
  pub up : shown_in always v b ≡ true → shown_in always v a ≡ true
  pub down : (shown_in always v a ≡ true → shown_in always v b ≡ true) ⊎ TablesMayGo c
  pub is_value : is_value_node b ≡ is_value_node a
  pub is_table : is_table_node b ≡ is_table_node a

-- some slots in the place of others
pub record ReplaceSlots (c : Change) (v : Bool) (ss us : Slots) (p : Path) : Type 0 where
  pub facts : Changes c (slots_in v ss p) (slots_in v us p)
  pub up : any_told v us ≡ true → any_told v ss ≡ true
  pub down : (any_told v ss ≡ true → any_told v us ≡ true) ⊎ TablesMayGo c

pub shown-seen : (always v : Bool) (n : Node) (p : Path) → shown_in always v n ≡ true → seen always v n p ≡ facts_in v n p
shown-seen always v n p h = if-true (shown_in always v n) (facts_in v n p) [] h

-- both are shown
pub shown-replaces : (c : Change) (always v : Bool) (a b : Node) (p : Path) → shown_in always v a ≡ true → shown_in always v b ≡ true
    → Changes c (facts_in v a p) (facts_in v b p) → is_value_node b ≡ is_value_node a → is_table_node b ≡ is_table_node a
    → Replaces c always v a b p
shown-replaces c always v a b p old new h value tbl =
    record {
      facts = subst (λ xs. Changes c xs (seen always v b p)) (sym (shown-seen always v a p old))
          (subst (λ ys. Changes c (facts_in v a p) ys) (sym (shown-seen always v b p new)) h);
      up = λ e. old;
      down = inl (λ e. new);
      is_value = value;
      is_table = tbl;
    }

-- neither has facts
pub nothing-replaces : (c : Change) (always v : Bool) (a b : Node) (p : Path) → c.adds ≡ [] → facts_in v a p ≡ [] → facts_in v b p ≡ []
    → told v a ≡ told v b → is_value_node b ≡ is_value_node a → is_table_node b ≡ is_table_node a → Replaces c always v a b p
nothing-replaces c always v a b p none old new same value tbl =
    record {
      facts = subst (λ xs. Changes c xs (seen always v b p)) (sym (is-none (shown_in always v a) (facts_in v a p) old))
          (subst (λ ys. Changes c [] ys) (sym (is-none (shown_in always v b) (facts_in v b p) new)) (nothing-changes c none));
      up = λ e. ap (λ b. always || b) same ∙ e;
      down = inl (λ e. sym (ap (λ b. always || b) same) ∙ e);
      is_value = value;
      is_table = tbl;
    }
  where
    is-none : (b : Bool) (fs : List Fact) → fs ≡ [] → (if b then fs else []) ≡ []
    is-none true fs e = e
    is-none false fs e = refl

-- ---- tables and inline tables

module _ (c : Change) (v : Bool) (p : Path) (out : is_front c.place p ≡ false) (above : is_front p c.place ≡ true) (ss us : Slots)
    (h : ReplaceSlots c v ss us p) where
  -- a table, which is shown for its own sake or for its slots
  pub holder-replaces : (always w own : Bool) (a b : Node) → shown_in always w a ≡ (own || any_told v ss)
      → shown_in always w b ≡ (own || any_told v us) → facts_in w a p ≡ fact p a_table ∷ slots_in v ss p
      → facts_in w b p ≡ fact p a_table ∷ slots_in v us p → is_value_node b ≡ is_value_node a → is_table_node b ≡ is_table_node a
      → Replaces c always w a b p
  holder-replaces always w own a b old new fa fb value tbl =
      let s = any_told v ss in
      let r = any_told v us in
      record {
        facts = subst (λ xs. Changes c xs (seen always w b p)) (sym (as-table (shown_in always w a) (own || s) (facts_in w a p) (slots_in v ss p) old fa))
            (subst (λ ys. Changes c (if own || s then fact p a_table ∷ slots_in v ss p else []) ys)
            (sym (as-table (shown_in always w b) (own || r) (facts_in w b p) (slots_in v us p) new fb))
            (table-changes c own s r p (slots_in v ss p) (slots_in v us p) out above (slots-under v ss p) h.facts h.up h.down (untold v ss p) (untold v us p)));
        up = λ e. old ∙ or-up own r s h.up (sym new ∙ e);
        down = elim h.down [ inl d ↦ inl (λ e. new ∙ or-up own s r d (sym old ∙ e)) | inr g ↦ inr g ];
        is_value = value;
        is_table = tbl;
      }
    where
      as-table : (x y : Bool) (fs gs : List Fact) → x ≡ y → fs ≡ fact p a_table ∷ gs → (if x then fs else [])
          ≡ (if y then fact p a_table ∷ gs else [])
      as-table x y fs gs e g = ap (λ b. if b then fs else []) e ∙ ap (λ zs. if y then zs else []) g

      or-up : (o a b : Bool) → (a ≡ true → b ≡ true) → (o || a) ≡ true → (o || b) ≡ true
      or-up true a b h e = refl
      or-up false a b h e = h e

or-group : (a b c : Bool) → (a || (b || c)) ≡ ((a || b) || c)
or-group true b c = refl
or-group false b c = refl

pub table-replaces : (c : Change) (always v : Bool) (p : Path) (f : TableFields) (ss us : Slots) → is_front c.place p ≡ false
    → is_front p c.place ≡ true → ReplaceSlots c v ss us p → Replaces c always v (table f ss) (table f us) p
table-replaces c always true p f ss us out above h =
    holder-replaces c true p out above ss us h always true always (table f ss) (table f us) refl refl refl refl refl refl
table-replaces c always false p f ss us out above h =
    let own = not (f.is_dotted || f.is_implicit) in
    holder-replaces c false p out above ss us h always false (always || own) (table f ss) (table f us)
    (or-group always own (any_told false ss)) (or-group always own (any_told false us)) refl refl refl refl

pub inline-replaces : (c : Change) (always v : Bool) (p : Path) (f : InlineFields) (ss us : Slots) → is_front c.place p ≡ false
    → is_front p c.place ≡ true → ReplaceSlots c true ss us p → Replaces c always v (inline f ss) (inline f us) p
inline-replaces c always true p f ss us out above h =
    let own = not f.is_dotted in
    holder-replaces c true p out above ss us h always true (always || own) (inline f ss) (inline f us)
    (or-group always own (any_told true ss)) (or-group always own (any_told true us)) refl refl refl refl
inline-replaces c always false p f ss us out above h =
    let own = not f.is_dotted in
    holder-replaces c true p out above ss us h always false (always || own) (inline f ss) (inline f us)
    (or-group always own (any_told true ss)) (or-group always own (any_told true us)) refl refl refl refl

-- one slot's item in the place of another
pub slot-replaces : (c : Change) (v : Bool) (p : Path) (l : Key) (a b : Node) (xs ys : List (Slot Node)) → HaveOtherKeys l.name xs
    → HaveOtherKeys l.name ys → is_front (to_key p l.name) c.place ≡ true → Replaces c false v a b (to_key p l.name)
    → ReplaceSlots c v (slots_from (xs ++ (keyed l a ∷ ys))) (slots_from (xs ++ (keyed l b ∷ ys))) p
slot-replaces c v p l a b xs ys front back above h =
    let x = slots_in v (slots_from xs) p in
    let y = slots_in v (slots_from ys) p in
    let old = told-around v xs (keyed l a) ys in
    let new = told-around v xs (keyed l b) ys in
    record {
      facts = subst (λ fs. Changes c fs (slots_in v (slots_from (xs ++ (keyed l b ∷ ys))) p)) (sym (slots-around v xs (keyed l a) ys p))
          (subst (λ fs. Changes c (x ++ (slot_in v (keyed l a) p ++ y)) fs) (sym (slots-around v xs (keyed l b) ys p))
          (changes-around c (to_key p l.name) x (slot_in v (keyed l a) p) (slot_in v (keyed l b) p) y above (slot-below v (keyed l a) p)
          (λ q e. (others-out v p q l.name xs e front, others-out v p q l.name ys e back)) h.facts));
      up = λ e. old ∙ among-up (any_told v (slots_from xs)) (told v b) (told v a) (any_told v (slots_from ys)) h.up (sym new ∙ e);
      down = elim h.down [
        | inl d ↦ inl (λ e. new ∙ among-up (any_told v (slots_from xs)) (told v a) (told v b) (any_told v (slots_from ys)) d (sym old ∙ e))
        | inr g ↦ inr g
      ];
    }
  where
    among-up : (o a b r : Bool) → (a ≡ true → b ≡ true) → (o || (a || r)) ≡ true → (o || (b || r)) ≡ true
    among-up true a b r h e = refl
    among-up false true b r h e = ap (λ z. z || r) (h refl)
    among-up false false true r h e = refl
    among-up false false false r h e = e

-- ---- arrays

-- one element in the place of another
pub element-changes : (c : Change) (v : Bool) (r : Path) (xs : List Node) (a b : Node) (ys : List Node) → kind v a ≡ true → kind v b ≡ true
    → is_front (to_element r (count v xs)) c.place ≡ true
    → Changes c (facts_in v a (to_element r (count v xs))) (facts_in v b (to_element r (count v xs)))
    → Changes c (items_in v (items_from (xs ++ (a ∷ ys))) r 0) (items_in v (items_from (xs ++ (b ∷ ys))) r 0)
element-changes c v r xs a b ys ka kb above h =
    let m : ℕ = count v xs in
    let x = items_in v (items_from xs) r 0 in
    let y = items_in v (items_from ys) r (suc m) in
    subst (λ fs. Changes c fs (items_in v (items_from (xs ++ (b ∷ ys))) r 0)) (sym (items-around v xs a ys r ka))
    (subst (λ fs. Changes c (x ++ (facts_in v a (to_element r m) ++ y)) fs) (sym (items-around v xs b ys r kb))
    (changes-around c (to_element r m) x (facts_in v a (to_element r m)) (facts_in v b (to_element r m)) y above
    (facts-below v a (to_element r m))
    (λ q e. (earlier-out v r q m e xs 0 (omega arith), later-out v r q m e ys (suc m) (omega arith))) h))

pub list-replaces : (c : Change) (always v : Bool) (p : Path) (f : ArrayFields) (xs : List Node) (a b : Node) (ys : List Node)
    → is_front c.place p ≡ false → is_front (to_element p (count true xs)) c.place ≡ true → is_value_node a ≡ true
    → Replaces c true true a b (to_element p (count true xs))
    → Replaces c always v (list f (items_from (xs ++ (a ∷ ys)))) (list f (items_from (xs ++ (b ∷ ys)))) p
list-replaces c always v p f xs a b ys out above ka h =
    let old = items_from (xs ++ (a ∷ ys)) in
    let new = items_from (xs ++ (b ∷ ys)) in
    let inner : Changes c (fact p an_array ∷ items_in true old p 0) (fact p an_array ∷ items_in true new p 0) =
    changes-cons c (fact p an_array) (items_in true old p 0) (items_in true new p 0) out (items-under true old p 0)
    (element-changes c true p xs a b ys ka (h.is_value ∙ ka) above h.facts) in
    by_kind v old new inner
  where
    by_kind : (v : Bool) (old new : Items) → Changes c (fact p an_array ∷ list_facts old p 0) (fact p an_array ∷ list_facts new p 0)
        → Replaces c always v (list f old) (list f new) p
    by_kind true old new h = shown-replaces c always true (list f old) (list f new) p (or-true always) (or-true always) h refl refl
    by_kind false old new h = shown-replaces c always false (list f old) (list f new) p (or-true always) (or-true always) h refl refl

pub has-table : (xs : List Node) (a : Node) (ys : List Node) → is_table_node a ≡ true → has_table (items_from (xs ++ (a ∷ ys))) ≡ true
has-table [] a ys h = ap (λ b. b || has_table (items_from ys)) h
has-table (x ∷ xs) a ys h = ap (λ b. is_table_node x || b) (has-table xs a ys h) ∙ or-true (is_table_node x)

pub tables-replaces : (c : Change) (always : Bool) (p : Path) (e : Extent) (xs : List Node) (a b : Node) (ys : List Node)
    → is_front c.place p ≡ false → is_front (to_element p (count false xs)) c.place ≡ true → is_table_node a ≡ true
    → Replaces c true false a b (to_element p (count false xs))
    → Replaces c always false (tables e (items_from (xs ++ (a ∷ ys)))) (tables e (items_from (xs ++ (b ∷ ys)))) p
tables-replaces c always p e xs a b ys out above ka h =
    let old = items_from (xs ++ (a ∷ ys)) in
    let new = items_from (xs ++ (b ∷ ys)) in
    let kb : is_table_node b ≡ true = h.is_table ∙ ka in
    shown-replaces c always false (tables e old) (tables e new) p
    (ap (λ z. always || z) (has-table xs a ys ka) ∙ or-true always) (ap (λ z. always || z) (has-table xs b ys kb) ∙ or-true always)
    (changes-cons c (fact p an_array) (items_in false old p 0) (items_in false new p 0) out (items-under false old p 0)
    (element-changes c false p xs a b ys ka kb above h.facts))
    refl refl

-- ---- a fact that is below a part is one of the part's

-- a fact of an item that is below the item's path
abbrev pub Sees : Path → Bool → Bool → Node → Path → Type 0
Sees q always v n p = (f : Fact) × Among f (seen always v n p) × (is_front q f.path ≡ true)

module _ (q : Path) where
  -- what is shown has facts
  pub sees-facts : (always v : Bool) (n : Node) (p : Path) → Sees q always v n p
      → (shown_in always v n ≡ true) × ((f : Fact) × Among f (facts_in v n p) × (is_front q f.path ≡ true))
  sees-facts always v n p s = by_test (shown_in always v n) s.1
    where
      by_test : (b : Bool) → Among s.0 (if b then facts_in v n p else []) → (b ≡ true)
          × ((f : Fact) × Among f (facts_in v n p) × (is_front q f.path ≡ true))
      by_test true m = (refl, (s.0, m, s.2))
      by_test false m = absurd m

  beneath : (g : Fact) (fs : List Fact) (f : Fact) → is_front q g.path ≡ false → is_front q f.path ≡ true → Among f (g ∷ fs) → Among f fs
  beneath g fs f out h (inl e) = absurd (true-false (is_front q f.path) h (ap (λ (x : Fact). is_front q x.path) e ∙ out))
  beneath g fs f out h (inr m) = m

  pub sees-slot : (v : Bool) (p : Path) (l : Key) (a : Node) (xs ys : List (Slot Node)) → HaveOtherKeys l.name xs → HaveOtherKeys l.name ys
      → is_front (to_key p l.name) q ≡ true → (f : Fact) → is_front q f.path ≡ true
      → Among f (fact p a_table ∷ slots_in v (slots_from (xs ++ (keyed l a ∷ ys))) p) → Sees q false v a (to_key p l.name)
  sees-slot v p l a xs ys front back above f h m =
      let part : Among f (slots_in v (slots_from (xs ++ (keyed l a ∷ ys))) p) =
      beneath (fact p a_table) (slots_in v (slots_from (xs ++ (keyed l a ∷ ys))) p) f (apart-above p q (at_key l.name) above) h m in (
        f,
        middle f q (slots_in v (slots_from xs) p) (slot_in v (keyed l a) p) (slots_in v (slots_from ys) p) h
            (others-out v p q l.name xs above front) (others-out v p q l.name ys above back)
            (subst (Among f) (slots-around v xs (keyed l a) ys p) part),
        h,
      )

  pub sees-element : (v : Bool) (p : Path) (xs : List Node) (a : Node) (ys : List Node) → kind v a ≡ true
      → is_front (to_element p (count v xs)) q ≡ true → (f : Fact) → is_front q f.path ≡ true
      → Among f (fact p an_array ∷ items_in v (items_from (xs ++ (a ∷ ys))) p 0) → Sees q true v a (to_element p (count v xs))
  sees-element v p xs a ys ka above f h m =
      let n : ℕ = count v xs in
      let part : Among f (items_in v (items_from (xs ++ (a ∷ ys))) p 0) =
      beneath (fact p an_array) (items_in v (items_from (xs ++ (a ∷ ys))) p 0) f (apart-above p q (at_element n) above) h m in (
        f,
        middle f q (items_in v (items_from xs) p 0) (facts_in v a (to_element p n)) (items_in v (items_from ys) p (suc n)) h
            (earlier-out v p q n above xs 0 (omega arith)) (later-out v p q n above ys (suc n) (omega arith))
            (subst (Among f) (items-around v xs a ys p ka) part),
        h,
      )
