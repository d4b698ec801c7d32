-- A slot at a place among others.
use Rattle.std.proofs.Common.{◌≡◌, refl, sym, ◌∙◌, ap, subst, ℕ, ◌+◌, ◌<◌, ◌≤◌, arith, Bool, true, false, List, [], ◌∷◌, ◌++◌, length}
use Rattle.std.proofs.Common.{length-append, Some, None}
use Rattle.std.specs.Prelude.{not, take, drop, nat_lt, if◌then◌else◌, Option}
use Rattle.std.specs.List.{position_or_len}
use Rattle.std.proofs.lemmas.List.{take-append-drop, length-take-le}
use Rattle.std.proofs.lemmas.Bool.{lt-ltb, le-ltb}
use Rattle.std.proofs.Math.Seq.{take-append_seam, drop-append_seam}
use Rattle.toml_edit_model.specs.Text.{Text, same_text}
use Rattle.toml_edit_model.specs.Spelling.{SpellsKey}
use Rattle.toml_edit_model.specs.Tree.{Node, Slots, has_key, HasTrueSpelling, IsWellMade, SlotsAreWellMade}
use Rattle.toml_edit_model.specs.Slots.{Slot, is_at, place, lookup_slot, without}
use Rattle.toml_edit_model.specs.Lists.{slot_list, slots_from}
use Rattle.toml_edit_model.specs.Rearranging.{inserted_slot, moved_slot}
use Rattle.toml_edit_edit_laws.specs.Placing.{InsertedStands, MovedStands, AbsentStays, PlacedStays}
use Rattle.toml_edit_laws.proofs.common.Tests.{if-true, if-false, or-left, or-right, or-both, same_text-refl, same_text-swap}
use Rattle.toml_edit_laws.proofs.common.Each.{all-append, all-front, all-back}
use Rattle.toml_edit_laws.proofs.common.OptionSteps.{some-is}
use Rattle.toml_edit_laws.proofs.locality.Made.{made-drop}
use Rattle.toml_edit_laws.proofs.locality.Slots.{HaveOtherKeys, none-there, Found, found, slot_list-from}

-- ---- look-up

pub lookup-there : (k : Text) (xs : List (Slot Node)) (s : Slot Node) (ys : List (Slot Node)) → HaveOtherKeys k xs
    → same_text k s.key.name ≡ true
    → lookup_slot k (xs ++ (s ∷ ys)) ≡ Some s
lookup-there k [] s ys o e = if-true (same_text k s.key.name) (Some s) (lookup_slot k ys) e
lookup-there k (x ∷ xs) s ys o e =
    if-false (same_text k x.key.name) (Some x) (lookup_slot k (xs ++ (s ∷ ys))) o.0 ∙ lookup-there k xs s ys o.1 e

pub lookup-at : (k : Text) (es : List (Slot Node)) (s : Slot Node) → lookup_slot k es ≡ Some s → is_at k s ≡ true
lookup-at k [] s h = absurd cc
lookup-at k (x ∷ es) s h = by_test (same_text k x.key.name) refl h (lookup-at k es s)
  where
    by_test : (b : Bool) → same_text k x.key.name ≡ b → (if b then Some x else lookup_slot k es) ≡ Some s
        → (lookup_slot k es ≡ Some s → is_at k s ≡ true) → is_at k s ≡ true
    by_test true e g ih = subst (λ (y : Slot Node). is_at k y ≡ true) (some-is x s g) e
    by_test false e g ih = ih g

first-place : (k : Text) (xs : List (Slot Node)) (s : Slot Node) (ys : List (Slot Node)) → HaveOtherKeys k xs
    → same_text k s.key.name ≡ true
    → position_or_len (is_at k) (xs ++ (s ∷ ys)) ≡ length xs
first-place k [] s ys o e = rw e refl
first-place k (x ∷ xs) s ys o e =
    let ih : position_or_len (is_at k) (xs ++ (s ∷ ys)) ≡ length xs = first-place k xs s ys o.1 e in
    rw (o.0, ih) (omega arith)

pub place-there : (k : Text) (xs : List (Slot Node)) (s : Slot Node) (ys : List (Slot Node)) → HaveOtherKeys k xs
    → same_text k s.key.name ≡ true
    → place k (xs ++ (s ∷ ys)) ≡ Some (length xs)
place-there k xs s ys o e =
    let size : length (xs ++ (s ∷ ys)) ≡ length xs + length (s ∷ ys) = length-append xs (s ∷ ys) in
    let below : length xs < length (xs ++ (s ∷ ys)) = omega arith in
    rw (first-place k xs s ys o e, lt-ltb (length xs) (length (xs ++ (s ∷ ys))) below) refl

-- ---- slots of other names

pub without-others : (k : Text) (xs : List (Slot Node)) → HaveOtherKeys k xs → without k xs ≡ xs
without-others k [] h = refl
without-others k (x ∷ xs) h =
    if-true (not (same_text k x.key.name)) (x ∷ without k xs) (without k xs) (ap not h.0) ∙ ap (λ ys. x ∷ ys) (without-others k xs h.1)

pub others-left : (k : Text) (es : List (Slot Node)) → HaveOtherKeys k (without k es)
others-left k [] = tt
others-left k (x ∷ es) = by_test (same_text k x.key.name) refl (others-left k es)
  where
    by_test : (b : Bool) → same_text k x.key.name ≡ b → HaveOtherKeys k (without k es)
        → HaveOtherKeys k (if not b then x ∷ without k es else without k es)
    by_test true e ih = ih
    by_test false e ih = (e, ih)

-- a list of other names with a slot of the name in it
pub without-one : (k : Text) (xs : List (Slot Node)) (s : Slot Node) (ys : List (Slot Node)) → HaveOtherKeys k (xs ++ ys) → is_at k s ≡ true
    → without k (xs ++ (s ∷ ys)) ≡ xs ++ ys
without-one k [] s ys o e = if-false (not (is_at k s)) (s ∷ without k ys) (without k ys) (ap not e) ∙ without-others k ys o
without-one k (x ∷ xs) s ys o e =
    if-true (not (same_text k x.key.name)) (x ∷ without k (xs ++ (s ∷ ys))) (without k (xs ++ (s ∷ ys))) (ap not o.0)
    ∙ ap (λ zs. x ∷ zs) (without-one k xs s ys o.1 e)

pub others-split : (k : Text) (i : ℕ) (es : List (Slot Node)) → HaveOtherKeys k es → HaveOtherKeys k (take i es ++ drop i es)
others-split k i es o = subst (HaveOtherKeys k) (sym (take-append-drop i es)) o

-- a moved slot is inserted among the others
pub moved-is : (k : Text) (i : ℕ) (es : List (Slot Node)) (s : Slot Node) → lookup_slot k es ≡ Some s
    → moved_slot k i es ≡ inserted_slot i s (without k es)
moved-is k i es s h = rw h refl

pub without-moved : (k : Text) (i : ℕ) (es : List (Slot Node)) → without k (moved_slot k i es) ≡ without k es
without-moved k i es = by_case (lookup_slot k es) refl
  where
    by_case : (o : Option (Slot Node)) → lookup_slot k es ≡ o → without k (moved_slot k i es) ≡ without k es
    by_case None e = rw e refl
    by_case (Some s) e =
        let rest : List (Slot Node) = without k es in
        ap (without k) (moved-is k i es s e)
        ∙ without-one k (take i rest) s (drop i rest) (others-split k i rest (others-left k es)) (lookup-at k es s e)
        ∙ take-append-drop i rest

-- ---- a slot among the others

pub others-inserted : (k : Text) (i : ℕ) (es : List (Slot Node)) → HaveOtherKeys k es
    → HaveOtherKeys k (take i es) × HaveOtherKeys k (drop i es)
others-inserted k i es o =
    let both : HaveOtherKeys k (take i es ++ drop i es) = others-split k i es o in (
      all-front (λ (x : Slot Node). same_text k x.key.name ≡ false) (take i es) (drop i es) both,
      all-back (λ (x : Slot Node). same_text k x.key.name ≡ false) (take i es) (drop i es) both,
    )

-- a slot is at a place among the others, and where it moves it is at another
pub record Taken (k : Text) (s : Slot Node) (es rest : List (Slot Node)) : Type 0 where
  pub at : ℕ
  pub is : es ≡ inserted_slot at s rest
  pub moved : (i : ℕ) → moved_slot k i es ≡ inserted_slot i s rest
  pub others : HaveOtherKeys s.key.name rest
  pub placed : place k es ≡ Some at

pub taken : (k : Text) (s : Slot Node) (ss : Slots) → lookup_slot k (slot_list ss) ≡ Some s → Found k s (slot_list ss)
    → Taken k s (slot_list ss) (slot_list (slots_from (without k (slot_list ss))))
taken k s ss h fd =
    let es : List (Slot Node) = slot_list ss in
    let rest : List (Slot Node) = slot_list (slots_from (without k es)) in
    let same : rest ≡ without k es = slot_list-from (without k es) in
    let whole : rest ≡ fd.front ++ fd.back = same ∙ fd.remove in
    record {
      at = length fd.front;
      is = fd.is
          ∙ ap (λ xs. xs ++ (s ∷ fd.back)) (sym (ap (take (length fd.front)) whole ∙ take-append_seam fd.front fd.back))
          ∙ ap (λ ys. take (length fd.front) rest ++ (s ∷ ys))
          (sym (ap (drop (length fd.front)) whole ∙ drop-append_seam fd.front fd.back));
      moved = λ i. moved-is k i es s h ∙ ap (inserted_slot i s) (sym same);
      others = subst (HaveOtherKeys s.key.name) (sym whole)
          (all-append (λ (x : Slot Node). same_text s.key.name x.key.name ≡ false) fd.front fd.back fd.others_front fd.others_back);
      placed = ap (place k) fd.is
          ∙ place-there k fd.front s fd.back (subst (λ z. HaveOtherKeys z fd.front) (sym fd.named) fd.others_front) (lookup-at k es s h);
    }

-- ---- well made

more-keys : (q : Text) (xs ys : List (Slot Node)) (z : Slot Node) → has_key q (slots_from (xs ++ ys)) ≡ false
    → same_text q z.key.name ≡ false
    → has_key q (slots_from (xs ++ (z ∷ ys))) ≡ false
more-keys q [] ys z h d = or-both (same_text q z.key.name) (has_key q (slots_from ys)) d h
more-keys q (x ∷ xs) ys z h d =
    or-both (same_text q x.key.name) (has_key q (slots_from (xs ++ (z ∷ ys))))
    (or-left (same_text q x.key.name) (has_key q (slots_from (xs ++ ys))) h)
    (more-keys q xs ys z (or-right (same_text q x.key.name) (has_key q (slots_from (xs ++ ys))) h) d)

no-key : (q : Text) (xs : List (Slot Node)) → HaveOtherKeys q xs → has_key q (slots_from xs) ≡ false
no-key q [] o = refl
no-key q (x ∷ xs) o = or-both (same_text q x.key.name) (has_key q (slots_from xs)) o.0 (no-key q xs o.1)

pub made-between : (xs ys : List (Slot Node)) (z : Slot Node) → HaveOtherKeys z.key.name (xs ++ ys)
    → HasTrueSpelling (SpellsKey z.key.name) z.key.spelling
    → IsWellMade z.item → SlotsAreWellMade (slots_from (xs ++ ys)) → SlotsAreWellMade (slots_from (xs ++ (z ∷ ys)))
made-between [] ys z o s m h = (no-key z.key.name ys o, s, m, h)
made-between (x ∷ xs) ys z o s m h =
    (more-keys x.key.name xs ys z h.0 (same_text-swap x.key.name z.key.name ∙ o.0), h.1, h.2, made-between xs ys z o.1 s m h.3)

-- at any place
pub made-inserted : (i : ℕ) (z : Slot Node) (es : List (Slot Node)) → HaveOtherKeys z.key.name es
    → HasTrueSpelling (SpellsKey z.key.name) z.key.spelling
    → IsWellMade z.item → SlotsAreWellMade (slots_from es) → SlotsAreWellMade (slots_from (inserted_slot i z es))
made-inserted i z es o s m h =
    made-between (take i es) (drop i es) z (others-split z.key.name i es o) s m
    (subst (λ x. SlotsAreWellMade (slots_from x)) (sym (take-append-drop i es)) h)

made-at : (xs : List (Slot Node)) (z : Slot Node) (ys : List (Slot Node)) → SlotsAreWellMade (slots_from (xs ++ (z ∷ ys)))
    → HasTrueSpelling (SpellsKey z.key.name) z.key.spelling × IsWellMade z.item
made-at [] z ys h = (h.1, h.2)
made-at (x ∷ xs) z ys h = made-at xs z ys h.3

-- a slot goes to another place
pub made-moved : (i j : ℕ) (z : Slot Node) (es : List (Slot Node)) → HaveOtherKeys z.key.name es
    → SlotsAreWellMade (slots_from (inserted_slot j z es))
    → SlotsAreWellMade (slots_from (inserted_slot i z es))
made-moved i j z es o h =
    let own = made-at (take j es) z (drop j es) h in
    made-inserted i z es o own.0 own.1
    (subst (λ x. SlotsAreWellMade (slots_from x)) (take-append-drop j es) (made-drop (take j es) (drop j es) z h))

-- ---- where a slot is

module _ (k : Text) (i : ℕ) (s : Slot Node) (es : List (Slot Node)) (others : HaveOtherKeys k es) (at : is_at k s ≡ true) where
  place-inserted : i ≤ length es → place k (inserted_slot i s es) ≡ Some i
  place-inserted h = place-there k (take i es) s (drop i es) (others-inserted k i es others).0 at ∙ ap Some (length-take-le i es h)

  lookup-inserted : lookup_slot k (inserted_slot i s es) ≡ Some s
  lookup-inserted = lookup-there k (take i es) s (drop i es) (others-inserted k i es others).0 at

  without-inserted : without k (inserted_slot i s es) ≡ es
  without-inserted = without-one k (take i es) s (drop i es) (others-split k i es others) at ∙ take-append-drop i es

pub inserted_stands : InsertedStands
inserted_stands i s es h absent =
    let k : Text = s.key.name in
    let others : HaveOtherKeys k es = none-there k es absent in
    let at : is_at k s ≡ true = same_text-refl k in
    (place-inserted k i s es others at h, lookup-inserted k i s es others at, without-inserted k i s es others at)

pub moved_stands : MovedStands
moved_stands k i s es h there =
    let rest : List (Slot Node) = without k es in
    let others : HaveOtherKeys k rest = others-left k es in
    let at : is_at k s ≡ true = lookup-at k es s there in
    let is : moved_slot k i es ≡ inserted_slot i s rest = moved-is k i es s there in (
      ap (place k) is ∙ place-inserted k i s rest others at h,
      ap (lookup_slot k) is ∙ lookup-inserted k i s rest others at,
      without-moved k i es,
    )

pub absent_stays : AbsentStays
absent_stays k i es h = rw h refl

-- all stand before the place of a name that none has
none-before : (k : Text) (es : List (Slot Node)) → HaveOtherKeys k es → position_or_len (is_at k) es ≡ length es
none-before k [] o = refl
none-before k (x ∷ es) o =
    let ih : position_or_len (is_at k) es ≡ length es = none-before k es o.1 in
    rw (o.0, ih) (omega arith)

-- a name that has a place has a slot
placed-there : (k : Text) (es : List (Slot Node)) (i : ℕ) → place k es ≡ Some i → (s : Slot Node) × (lookup_slot k es ≡ Some s)
placed-there k es i h = by_case (lookup_slot k es) refl
  where
    by_case : (o : Option (Slot Node)) → lookup_slot k es ≡ o → (s : Slot Node) × (lookup_slot k es ≡ Some s)
    by_case (Some s) e = (s, e)
    by_case None e =
        let size : position_or_len (is_at k) es ≡ length es = none-before k es (none-there k es e) in
        let beyond : nat_lt (position_or_len (is_at k) es) (length es) ≡ false =
        ap (λ n. nat_lt n (length es)) size ∙ le-ltb (length es) (length es) (omega arith) in
        let none : place k es ≡ None = rw beyond refl in
        absurd cc

pub placed_stays : PlacedStays
placed_stays k i ss made h =
    let there = placed-there k (slot_list ss) i h in
    let tk = taken k there.0 ss there.1 (found k ss there.0 made there.1) in
    let same : tk.at ≡ i = some-is tk.at i (sym tk.placed ∙ h) in
    tk.moved i ∙ ap (λ z. inserted_slot z there.0 (slot_list (slots_from (without k (slot_list ss))))) (sym same) ∙ sym tk.is
