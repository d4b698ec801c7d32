-- What a renaming and a move leave.
use Rattle.std.proofs.Common.{◌≡◌, refl, sym, ◌∙◌, ap, subst, Bool, true, false, List, [], ◌∷◌, ◌++◌, Option, Some, None, inl, inr}
use Rattle.std.specs.Prelude.{◌&&◌, if◌then◌else◌, not, Result, Ok, Err}
use Rattle.std.specs.Cmp.Lexicographic.{pointwise}
use Rattle.std.specs.List.{starts_with}
use Rattle.std.specs.Option.{ok_or, option_map_or}
use Rattle.toml_edit_model.specs.Fits.{is_steady_in}
use Rattle.toml_edit_model.specs.Lists.{is_tables_node, on_slots, slots_in}
use Rattle.toml_edit_model.specs.Mode.{Mode}
use Rattle.toml_edit_model.specs.Positions.{without_positions}
use Rattle.toml_edit_model.specs.Slots.{Slot, has_slot}
use Rattle.toml_edit_model.specs.Text.{Text, one, same_text}
use Rattle.toml_edit_model.specs.Tree.{IsWellMade, Node, SlotsAreWellMade, Tree, inline, is_value_node, leaf, list, nothing, table, tables}
use Rattle.toml_edit_laws.specs.Locality.{is_plain_value, root_visit}
use Rattle.toml_edit_laws.proofs.common.OptionSteps.{some-is}
use Rattle.toml_edit_laws.proofs.common.Tests.{and_left, and_right, if-false, same_text-is, same_text-refl}
use Rattle.toml_edit_edit_laws.specs.Commands.{item_at, remove_at, root_item}
use Rattle.toml_edit_edit_laws.proofs.commands.Going.{item-along}
use Rattle.toml_edit_paths.specs.Calls.{replaced_at}
use Rattle.toml_edit_edits.specs.Effects.{at_end, changed_at, on_table, renamed, slots_renamed}
use Rattle.toml_edit_edits.specs.Elements.{is_tables_at}
use Rattle.toml_edit_edits.specs.Moves.{carried, carried_over, moved, moved_beside, put_in, slot_at, slots_with}
use Rattle.toml_edit_edits.specs.OthersStay.{MayMove, beside, into_table, into_value}
use Rattle.toml_edit_edits.specs.Outcomes.{and_then, of_answer}
use Rattle.toml_edit_edits.specs.declared.fault.EditFault.{EditFault}
use Rattle.toml_edit_edits.specs.declared.fault.EditFault.TheVariants.{Taken, WrongKind}
use Rattle.toml_edit_edits.proofs.MoveLaws.{answered, is-beside, slot-found, there-is, went}
use Rattle.toml_edit_edits.proofs.OutcomeLaws.{at-end}
use Rattle.toml_edit_edits.proofs.staying.Words.{Room, StaysAtBoth}
use Rattle.toml_edit_edits.proofs.staying.Below.{below-made}
use Rattle.toml_edit_edits.proofs.staying.Effects.{at-end-was, was-changed, was-renamed}
use Rattle.toml_edit_edits.proofs.staying.Moving.{moved-stays}
use Rattle.toml_edit_edits.proofs.staying.Renames.{key-stays}

-- ---- a slot more in a table

pub record WasPut (s : Slot Node) (n m : Node) : Type 0 where
  pub slots : List (Slot Node)
  pub there : slots_in n ≡ Some slots
  pub new : has_slot s.key.name slots ≡ false
  pub is : m ≡ on_slots (λ _. slots ++ one s) n

slots-was : (s : Slot Node) (es xs : List (Slot Node)) (b : Bool) → has_slot s.key.name es ≡ b
    → (if b then Err Taken else Ok (es ++ one s)) ≡ Ok xs → (has_slot s.key.name es ≡ false) × (xs ≡ es ++ one s)
slots-was s es xs true e h = absurd cc
slots-was s es xs false e h = (e, cc)

was-put : (s : Slot Node) (n m : Node) → on_table (slots_with s) n ≡ Ok m → WasPut s n m
was-put s n m h =
    let x = went (λ es. Ok (on_slots (λ _. es) n)) (and_then (slots_with s) (ok_or (slots_in n) WrongKind)) m h in
    let y = went (slots_with s) (ok_or (slots_in n) WrongKind) x.0 x.1 in
    let z = slots-was s y.0 x.0 (has_slot s.key.name y.0) refl y.2 in
    let left : on_slots (λ _. x.0) n ≡ m = let e : ◌≡◌ {A = Result Node EditFault} (Ok (on_slots (λ _. x.0) n)) (Ok m) = x.2 in cc in
    record {
      slots = y.0;
      there = there-is (slots_in n) WrongKind y.0 y.1;
      new = z.0;
      is = sym left ∙ ap (λ es. on_slots (λ _. es) n) z.1;
    }

pub put-was : (s : Slot Node) (n m : Node) (b : Bool) → (if b then Err WrongKind else on_table (slots_with s) n) ≡ Ok m → WasPut s n m
put-was s n m true h = absurd cc
put-was s n m false h = was-put s n m h

-- ---- paths and values

same-paths : (p q : List Text) → pointwise same_text p q ≡ true → p ≡ q
same-paths [] [] h = refl
same-paths [] (k ∷ q) h = absurd cc
same-paths (j ∷ p) [] h = absurd cc
same-paths (j ∷ p) (k ∷ q) h =
    ap (λ i. i ∷ p) (same_text-is j k (and_left (same_text j k) (pointwise same_text p q) h))
    ∙ ap (λ r. k ∷ r) (same-paths p q (and_right (same_text j k) (pointwise same_text p q) h))

pub same-all : (p : List Text) → pointwise same_text p p ≡ true
same-all [] = refl
same-all (k ∷ p) = rw (same_text-refl k) (same-all p)

value-kept : (n : Node) → is_value_node n ≡ true → without_positions n ≡ n
value-kept (leaf s r d) h = refl
value-kept (list f xs) h = refl
value-kept (inline f ss) h = refl
value-kept (table f ss) h = absurd cc
value-kept (tables e xs) h = absurd cc
value-kept nothing h = absurd cc

module _ (mode : Mode) (t u : Tree) (made : SlotsAreWellMade t.slots) (steady : is_steady_in mode t ≡ true) where
  pub renamed-stays : (path : List Text) (above : List Text) (k name : Text) → path ≡ above ++ (k ∷ []) → renamed above k name t ≡ Ok u
      → StaysAtBoth mode t u path (above ++ (name ∷ []))
  renamed-stays path above k name is h =
      let x = was-changed (on_table (slots_renamed k name)) above t u _ h in
      let r = was-renamed k name x.old x.new x.goes in
      subst (λ (q : List Text). StaysAtBoth mode t u q (above ++ (name ∷ []))) (sym is)
      (key-stays mode t u above k name x.old r.slots made steady x.there r.there r.has r.free
      (ap (λ m. replaced_at above m t) (sym r.is) ∙ x.put))

  -- below an item that is no array of tables
  beside-stays : (path above : List Text) (k name : Text) → path ≡ above ++ (k ∷ []) → is_tables_at above t ≡ false
      → moved_beside above k name t ≡ Ok u → StaysAtBoth mode t u path (above ++ (name ∷ []))
  beside-stays path above k name is other h =
      renamed-stays path above k name is (sym (if-false (is_tables_at above t) _ _ other) ∙ h)

  -- ---- to another table

  module _ (from : List Text) (n : Node) (there : item_at from t ≡ Some n) (plain : is_plain_value n ≡ true) (target : List Text) (name : Text)
      (room : (m : Node) → item_at target t ≡ Some m → Room mode t target m) where
    over : (above : List Text) (k : Text) → from ≡ above ++ one k → carried_over from above k target name t ≡ Ok u
        → StaysAtBoth mode t u from (target ++ (name ∷ []))
    over above k is h =
        let x = went (λ s. and_then (λ w. of_answer (remove_at from w)) (changed_at (put_in (carried name s)) target t)) (slot_at above k t) u h in
        let s : Slot Node = x.0 in
        let y = went (λ w. of_answer (remove_at from w)) (changed_at (put_in (carried name s)) target t) u x.2 in
        let c = was-changed (put_in (carried name s)) target t y.0 _ y.1 in
        let p = put-was (carried name s) c.old c.new (is_value_node c.old && not (is_value_node (carried name s).item)) c.goes in
        let found : item_at from t ≡ Some s.item = ap (λ q. item_at q t) is ∙ slot-found above k t s x.1 in
        let item : n ≡ s.item = some-is n s.item (sym there ∙ found) in
        let value : is_value_node s.item ≡ true = ap is_value_node (sym item) ∙ and_left _ _ plain in
        let kept : (carried name s).item ≡ n = value-kept s.item value ∙ sym item in
        let well : IsWellMade (carried name s).item = subst IsWellMade (sym kept) (below-made from (root_item t) n made there) in
        moved-stays mode t y.0 u from target c.old p.slots (carried name s) made steady c.there p.there p.new
        (ap is_plain_value kept ∙ plain) (tt, well) (room c.old c.there) (ap (λ m. replaced_at target m t) (sym p.is) ∙ c.put)
        (answered (remove_at from y.0) u y.2)

    no-tables : is_tables_at target t ≡ false
    no-tables = by_item (item_at target t) refl
      where
        by_kind : (m : Node) → item_at target t ≡ Some m → Room mode t target m → is_tables_node m ≡ false
        by_kind (tables e xs) at (inl value) = absurd cc
        by_kind (tables e xs) at (inr (w, named, takes)) =
            absurd (let c : ◌≡◌ {A = Option Node} (Some (table w.fields w.slots)) (Some (tables e xs)) =
            sym (item-along named.way target (root_visit t) w named.goes named.leads) ∙ at in cc)
        by_kind (table f ss) at h = refl
        by_kind (leaf s r d) at h = refl
        by_kind (list f xs) at h = refl
        by_kind (inline f ss) at h = refl
        by_kind nothing at h = refl

        by_item : (o : Option Node) → item_at target t ≡ o → is_tables_at target t ≡ false
        by_item None e = ap (λ o. option_map_or is_tables_node o false) e
        by_item (Some m) e = ap (λ o. option_map_or is_tables_node o false) e ∙ by_kind m e (room m e)

    by_tests : (above : List Text) (k : Text) (to : List Text) → from ≡ above ++ one k → to ≡ target ++ one name → (a b : Bool)
        → pointwise same_text above target ≡ a
        → (if a then moved_beside above k name t else if b then Err WrongKind else carried_over from above k target name t) ≡ Ok u
        → StaysAtBoth mode t u from (target ++ (name ∷ []))
    by_tests above k to is ends true b e h =
        subst (λ (q : List Text). StaysAtBoth mode t u from (q ++ (name ∷ []))) (same-paths above target e)
        (beside-stays from above k name is (ap (λ q. is_tables_at q t) (same-paths above target e) ∙ no-tables) h)
    by_tests above k to is ends false true e h = absurd cc
    by_tests above k to is ends false false e h = over above k is h

    away : (to : List Text) → to ≡ target ++ one name → moved from to t ≡ Ok u → StaysAtBoth mode t u from to
    away to ends h =
        let x = at-end-was
        (λ above k.
        at_end (λ q v. if pointwise same_text above q then moved_beside above k v t
        else if starts_with same_text to from then Err WrongKind
        else carried_over from above k q v t) to) from u h in
        let inner = sym (at-end
        (λ q v. if pointwise same_text x.0 q then moved_beside x.0 x.1 v t
        else if starts_with same_text to from then Err WrongKind
        else carried_over from x.0 x.1 q v t) to target name ends) ∙ x.3 in
        subst (λ (q : List Text). StaysAtBoth mode t u from q) (sym ends)
        (by_tests x.0 x.1 to x.2 ends (pointwise same_text x.0 target) (starts_with same_text to from) refl inner)

  -- ---- in its own table

  pub move-stays : (from to : List Text) → MayMove mode t from to → moved from to t ≡ Ok u → StaysAtBoth mode t u from to
  move-stays from to (beside above k name is ends other) h =
      subst (λ (q : List Text). StaysAtBoth mode t u from q) (sym ends)
      (beside-stays from above k name is other (sym (is-beside above k above name t from to is ends (same-all above)) ∙ h))
  move-stays from to (into_value n old target name there plain ends at value) h =
      away from n there plain target name
      (λ m is. inl (subst (λ (x : Node). is_value_node x ≡ true) (some-is old m (sym at ∙ is)) value)) to ends h
  move-stays from to (into_table n w target name there plain ends named takes) h =
      away from n there plain target name (λ m is. inr (w, named, takes)) to ends h
