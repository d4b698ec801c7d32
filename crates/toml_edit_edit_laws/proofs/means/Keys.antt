-- What renaming a key and moving one mean.
use Rattle.std.proofs.Common.{◌≡◌, refl, sym, ◌∙◌, ap, subst, ℕ, Bool, true, false, List, [], ◌∷◌, ◌++◌, append-nil, map, Some, inl}
use Rattle.std.specs.Prelude.{if◌then◌else◌}
use Rattle.std.proofs.Common.{IsPermutation}
use Rattle.std.proofs.lemmas.List.{map-append}
use Rattle.std.proofs.lemmas.List.Sorted.{IsPermutation-insert, IsPermutation-sym, IsPermutation-trans}
use Rattle.toml_edit_model.specs.Text.{Text}
use Rattle.toml_edit_model.specs.Paths.{Path, to_key}
use Rattle.toml_edit_model.specs.Meaning.{Fact, fact, SameFacts}
use Rattle.toml_edit_model.specs.Tree.{Node, Slots, SlotsAreWellMade, Tree}
use Rattle.toml_edit_model.specs.Shown.{shown_meaning}
use Rattle.toml_edit_model.specs.Slots.{Slot, keyed, on_key, lookup_slot, without}
use Rattle.toml_edit_model.specs.Lists.{slot_list, slots_from}
use Rattle.toml_edit_model.specs.Rearranging.{moved_slot, renamed_key, renamed_slot}
use Rattle.toml_edit_edit_laws.specs.Commands.{Answer, done, mapped, present, item_at, item_below, root_item, with_slots}
use Rattle.toml_edit_edit_laws.specs.KeyCalls.{key_changed, moved_where, renamed_where}
use Rattle.toml_edit_edit_laws.specs.Renaming.{renamed_path, renamed_fact}
use Rattle.toml_edit_edit_laws.specs.Means.{step_to, meant_at, MoveMeans, RenameMeans}
use Rattle.toml_edit_laws.proofs.common.PathLaws.{is_front, front-more, front-refl}
use Rattle.toml_edit_laws.proofs.locality.Slots.{Found, found, slots_from-list}
use Rattle.toml_edit_laws.proofs.print_meaning.FactSets.{alike-same}
use Rattle.toml_edit_edit_laws.proofs.commands.Keeping.{present-is}
use Rattle.toml_edit_edit_laws.proofs.commands.Setting.{was-mapped}
use Rattle.toml_edit_edit_laws.proofs.path_calls.Keys.{key-goes-down, was-there, moved-gives, moved-keeps, present-so, renamed-gives, renamed-there, renamed-keeps}
use Rattle.toml_edit_edit_laws.proofs.placing.Lists.{Taken, taken}
use Rattle.toml_edit_edit_laws.proofs.renaming.Facts.{on_path, Goes, inside-goes, node-goes}
use Rattle.toml_edit_edit_laws.proofs.renaming.Meaning.{renamed-stays, renamed-goes}
use Rattle.toml_edit_edit_laws.proofs.renaming.Names.{renamed-is}
use Rattle.toml_edit_edit_laws.proofs.means.Changes.{Change, Changes, changes-around}
use Rattle.toml_edit_edit_laws.proofs.means.Facts.{facts_in, told, slots_in, any_told, slot_in, slots-around, told-around, others-out, slot-below}
use Rattle.toml_edit_edit_laws.proofs.means.Parts.{ReplaceSlots}
use Rattle.toml_edit_edit_laws.proofs.means.Along.{meant-join, text-changes, same-facts}
use Rattle.toml_edit_edit_laws.proofs.means.Outside.{becomes-mapped, stays_at}
use Rattle.toml_edit_edit_laws.proofs.means.Reordering.{AreSame, permuted, same-slots}
use Rattle.toml_edit_edit_laws.proofs.means.Holders.{last-of, below-split, holder-replaces}

-- ---- renaming

abbrev renames_at : Path → Text → Change
renames_at p u = record {
  place = p;
  on = map (renamed_fact p u);
  adds = [];
  MayGo = λ f. ⊥;
  none = refl;
  append = map-append (renamed_fact p u);
  others = λ f h. ap (λ q. fact q f.kind ∷ []) (renamed-stays p u f.path h);
  gone = λ f fs a m. absurd m;
}

facts-go : (G : Path → Path) (v : Bool) (n : Node) (p q : Path) → Goes G p q → facts_in v n q ≡ map (on_path G) (facts_in v n p)
facts-go G true n p q h = inside-goes G n p q h
facts-go G false n p q h = node-goes G n p q h

slot-renamed : (p q : Path) (u : Text) (w : Bool) (s : Slot Node) → p ≡ to_key q s.key.name
    → slot_in w (on_key (renamed_key u) s) q ≡ map (renamed_fact p u) (slot_in w s q)
slot-renamed p q u w s is =
    let G : Path → Path = renamed_path p u in
    let goes : Goes G (to_key q s.key.name) (to_key q u) =
    subst (λ z. Goes (renamed_path z u) (to_key q s.key.name) (to_key q u)) (sym is) (renamed-goes q s.key.name u) in
    if-mapped (told w s.item) (facts_in w s.item (to_key q s.key.name)) (facts_in w s.item (to_key q u))
    (facts-go G w s.item (to_key q s.key.name) (to_key q u) goes)
  where
    if-mapped : (b : Bool) (fs gs : List Fact) → gs ≡ map (renamed_fact p u) fs → (if b then gs else [])
        ≡ map (renamed_fact p u) (if b then fs else [])
    if-mapped true fs gs e = e
    if-mapped false fs gs e = refl

slots-renamed : (p q : Path) (k u : Text) → p ≡ to_key q k → (w : Bool) (ss : Slots) (xs : List (Slot Node)) → SlotsAreWellMade ss
    → renamed_where u k (slot_list ss) ≡ done xs → ReplaceSlots (renames_at p u) w ss (slots_from xs) q
slots-renamed p q k u is w ss xs made h =
    let c : Change = renames_at p u in
    let r = renamed-gives u k (slot_list ss) xs h in
    let n = renamed-there u k (slot_list ss) xs h in
    let pr = present-is (lookup_slot k (slot_list ss)) n.0 n.1 in
    let s : Slot Node = keyed pr.key n.0 in
    let z : Slot Node = on_key (renamed_key u) s in
    let fd : Found k s (slot_list ss) = found k ss s made pr.is in
    let there : p ≡ to_key q s.key.name = is ∙ ap (to_key q) fd.named in
    let above : is_front (to_key q s.key.name) p ≡ true = subst (λ y. is_front (to_key q s.key.name) y ≡ true) (sym there) (front-refl (to_key q s.key.name)) in
    let old : ss ≡ slots_from (fd.front ++ (s ∷ fd.back)) = sym (slots_from-list ss) ∙ ap slots_from fd.is in
    let new : xs ≡ fd.front ++ (z ∷ fd.back) = r.1 ∙ renamed-is k u s ss fd r.0 in
    let same : any_told w (slots_from xs) ≡ any_told w ss =
    ap (λ y. any_told w (slots_from y)) new ∙ told-around w fd.front z fd.back ∙ sym (ap (any_told w) old ∙ told-around w fd.front s fd.back) in
    record {
      facts = subst (λ y. Changes c y (slots_in w (slots_from xs) q)) (sym (ap (λ y. slots_in w y q) old ∙ slots-around w fd.front s fd.back q))
          (subst (λ y. Changes c (slots_in w (slots_from fd.front) q ++ (slot_in w s q ++ slots_in w (slots_from fd.back) q)) y)
          (sym (ap (λ y. slots_in w (slots_from y) q) new ∙ slots-around w fd.front z fd.back q))
          (changes-around c (to_key q s.key.name) (slots_in w (slots_from fd.front) q) (slot_in w s q) (slot_in w z q)
          (slots_in w (slots_from fd.back) q) above (slot-below w s q)
          (λ r e. (others-out w q r s.key.name fd.front e fd.others_front, others-out w q r s.key.name fd.back e fd.others_back))
          (becomes-mapped c (slot_in w s q) (slot_in w z q) refl
          (alike-same (slot_in w z q) (map (renamed_fact p u) (slot_in w s q)) (slot-renamed p q u w s there)))));
      up = λ e. sym same ∙ e;
      down = inl (λ e. same ∙ e);
    }

-- ---- moving

-- a slot that is inserted among others is one of them, wherever it is
pub moved-same : (k : Text) (i : ℕ) (s : Slot Node) (ss : Slots) → SlotsAreWellMade ss → lookup_slot k (slot_list ss) ≡ Some s
    → AreSame ss (slots_from (moved_slot k i (slot_list ss)))
moved-same k i s ss made there =
    let rest : List (Slot Node) = slot_list (slots_from (without k (slot_list ss))) in
    let tk : Taken k s (slot_list ss) rest = taken k s ss there (found k ss s made there) in
    subst (λ z. AreSame z (slots_from (moved_slot k i (slot_list ss)))) (slots_from-list ss)
    (permuted (slot_list ss) (moved_slot k i (slot_list ss))
    (IsPermutation-trans (slot_list ss) (s ∷ rest) (moved_slot k i (slot_list ss))
    (IsPermutation-sym (s ∷ rest) (slot_list ss) (subst (IsPermutation (s ∷ rest)) (sym tk.is) (IsPermutation-insert rest tk.at s)))
    (subst (IsPermutation (s ∷ rest)) (sym (tk.moved i)) (IsPermutation-insert rest i s))))

slots-moved : (p q : Path) (k : Text) (i : ℕ) (w : Bool) (ss : Slots) (xs : List (Slot Node)) → SlotsAreWellMade ss
    → moved_where i k (slot_list ss) ≡ done xs → ReplaceSlots (stays_at p) w ss (slots_from xs) q
slots-moved p q k i w ss xs made h =
    let n = present-so (present (lookup_slot k (slot_list ss))) (done (moved_slot k i (slot_list ss))) xs h in
    let pr = present-is (lookup_slot k (slot_list ss)) n.0 n.1 in
    same-slots ss (slots_from xs) p w q
    (subst (λ z. AreSame ss (slots_from z)) (sym (moved-gives i k (slot_list ss) xs h)) (moved-same k i (keyed pr.key n.0) ss made pr.is))

-- ---- the tree

-- a change of the slots where the last key is, by what it is below each path
module _ (g : Text → List (Slot Node) → Answer (List (Slot Node))) (c : Path → Change) (places : (p : Path) → (c p).place ≡ p)
    (adds : (p : Path) → (c p).adds ≡ []) (stays : (p : Path) (f : Fact) → (c p).MayGo f → ⊥)
    (there : (path : List Text) (n m : Node) → key_changed g path n ≡ done m → (y : Node) × (item_below path n ≡ Some y))
    (slots : (p q : Path) (k : Text) → p ≡ to_key q k → (w : Bool) (ss : Slots) (xs : List (Slot Node)) → SlotsAreWellMade ss
    → g k (slot_list ss) ≡ done xs → ReplaceSlots (c p) w ss (slots_from xs) q) where
  last-means : (t u : Tree) (front : List Text) (k : Text) (x : Node) → SlotsAreWellMade t.slots → item_at front t ≡ Some x
      → mapped (with_slots t) (key_changed g (front ++ (k ∷ [])) (root_item t)) ≡ done u → (p : Path) → p ≡ meant_at t front ++ (step_to k x ∷ [])
      → SameFacts (shown_meaning u) ((c p).on (shown_meaning t))
  last-means t u front k x made at h p is =
      let q : Path = meant_at t front in
      let place : (c p).place ≡ q ++ (step_to k x ∷ []) = places p ∙ is in
      subst (SameFacts (shown_meaning u)) (ap (λ fs. (c p).on (shown_meaning t) ++ fs) (adds p) ∙ append-nil ((c p).on (shown_meaning t)))
      (same-facts (c p) (shown_meaning t) (shown_meaning u) (stays p)
      (text-changes (c p) t u front (subst (λ z. is_front q z ≡ true) (sym place) (front-more q (step_to k x ∷ []))) (key_changed g) (k ∷ [])
      (λ i z n. key-goes-down g k [] i z n) x
      (λ b s v a w one see.
      holder-replaces (c p) q k (g k) (λ to v ss xs w a. slots p q k (sym (places p) ∙ to) v ss xs w a) x b s v place a w)
      made at (inl (adds p)) h))

  key-means : (t u : Tree) (path : List Text) → SlotsAreWellMade t.slots → mapped (with_slots t) (key_changed g path (root_item t)) ≡ done u
      → SameFacts (shown_meaning u) ((c (meant_at t path)).on (shown_meaning t))
  key-means t u [] made h = absurd cc
  key-means t u (j ∷ rest) made h =
      let e = last-of j rest in
      let front : List Text = e.0 in
      let k : Text = e.1 in
      let is_done : mapped (with_slots t) (key_changed g (front ++ (k ∷ [])) (root_item t)) ≡ done u =
      sym (ap (λ z. mapped (with_slots t) (key_changed g z (root_item t))) e.2) ∙ h in
      let m = was-mapped (with_slots t) (key_changed g (front ++ (k ∷ [])) (root_item t)) u is_done in
      let y = there (front ++ (k ∷ [])) (root_item t) m.from m.is in
      let x = below-split front k (root_item t) y.0 y.1 in
      last-means t u front k x.0 made x.1 is_done (meant_at t (j ∷ rest))
      (ap (meant_at t) e.2 ∙ meant-join [] front (k ∷ []) (root_item t) x.0 x.1)

pub rename_means : RenameMeans
rename_means t u path name made h =
    key-means (renamed_where name) (λ p. renames_at p name) (λ p. refl) (λ p. refl) (λ p f e. e)
    (was-there (renamed_where name) (λ k. renamed_slot k name) (λ k xs ys h. (renamed-gives name k xs ys h).1) (renamed-there name) (renamed-keeps name))
    (λ p q k is w ss xs made h. slots-renamed p q k name is w ss xs made h) t u path made h

pub move_means : MoveMeans
move_means t u path i made h =
    key-means (moved_where i) stays_at (λ p. refl) (λ p. refl) (λ p f e. e)
    (was-there (moved_where i) (λ k. moved_slot k i) (moved-gives i)
    (λ k xs ys h. present-so (present (lookup_slot k xs)) (done (moved_slot k i xs)) ys h) (moved-keeps i))
    (λ p q k is w ss xs made h. slots-moved p q k i w ss xs made h) t u path made h
