-- What a tree means where a slot has another name.
use Rattle.std.proofs.Common.{◌≡◌, refl, sym, ◌∙◌, ap, subst, Bool, true, false, [], ◌∷◌, ◌++◌}
use Rattle.std.specs.Prelude.{◌&&◌, if◌then◌else◌}
use Rattle.toml_edit_model.specs.Text.{Text}
use Rattle.toml_edit_model.specs.Paths.{at_key, Path, same_step, to_key}
use Rattle.toml_edit_model.specs.Meaning.{fact, a_table}
use Rattle.toml_edit_model.specs.Shown.{slots_facts, shown_meaning}
use Rattle.toml_edit_model.specs.Slots.{on_key}
use Rattle.toml_edit_model.specs.Lists.{slot_list, slots_from}
use Rattle.toml_edit_model.specs.Rearranging.{renamed_key, renamed_slot}
use Rattle.toml_edit_laws.specs.Locality.{root_visit, along}
use Rattle.toml_edit_laws.proofs.common.PathLaws.{same_step-refl, is_front, front-refl}
use Rattle.toml_edit_laws.proofs.common.Tests.{if-true}
use Rattle.toml_edit_laws.proofs.locality.Slots.{slots_under, Found, found, slots_from-list}
use Rattle.toml_edit_laws.proofs.locality.Along.{leads-out}
use Rattle.toml_edit_edit_laws.proofs.renaming.Facts.{node-goes, Told, in-place, along-told}
use Rattle.toml_edit_edit_laws.proofs.renaming.Names.{renamed-is}
use Rattle.toml_edit_edit_laws.specs.Renaming.{renamed_path, RenamedMeans}

-- a path that isn't at or below the renamed one stays
pub renamed-stays : (p : Path) (u : Text) (q : Path) → is_front p q ≡ false → renamed_path p u q ≡ q
renamed-stays [] u q h = refl
renamed-stays (s ∷ []) u [] h = refl
renamed-stays (s ∷ t ∷ p) u [] h = refl
renamed-stays (s ∷ []) u (r ∷ q) h = by_test (same_step s r) h
  where
    by_test : (b : Bool) → (b && true) ≡ false → (if b then at_key u ∷ q else r ∷ q) ≡ r ∷ q
    by_test true e = absurd cc
    by_test false e = refl
renamed-stays (s ∷ t ∷ p) u (r ∷ q) h = by_test (same_step s r) h (renamed-stays (t ∷ p) u q)
  where
    by_test : (b : Bool) → (b && is_front (t ∷ p) q) ≡ false → (is_front (t ∷ p) q ≡ false → renamed_path (t ∷ p) u q ≡ q)
        → (if b then r ∷ renamed_path (t ∷ p) u q else r ∷ q) ≡ r ∷ q
    by_test true e ih = ap (λ z. r ∷ z) (ih e)
    by_test false e ih = refl

-- one at or below it has the new name
pub renamed-goes : (p : Path) (k u : Text) (r : Path) → renamed_path (to_key p k) u (to_key p k ++ r) ≡ to_key p u ++ r
renamed-goes [] k u r = if-true (same_step (at_key k) (at_key k)) (at_key u ∷ r) (at_key k ∷ r) (same_step-refl (at_key k))
renamed-goes (s ∷ []) k u r =
    if-true (same_step s s) (s ∷ renamed_path (at_key k ∷ []) u (at_key k ∷ r)) (s ∷ at_key k ∷ r) (same_step-refl s)
    ∙ ap (λ z. s ∷ z) (renamed-goes [] k u r)
renamed-goes (s ∷ t ∷ p) k u r =
    if-true (same_step s s) (s ∷ renamed_path (t ∷ to_key p k) u (t ∷ (to_key p k ++ r))) (s ∷ t ∷ (to_key p k ++ r)) (same_step-refl s)
    ∙ ap (λ z. s ∷ z) (renamed-goes (t ∷ p) k u r)

pub renamed_means : RenamedMeans
unfolding shown_meaning
renamed_means t way v k u s made leads is_there free =
    let q : Path = to_key v.path s.key.name in
    let G : Path → Path = renamed_path q u in
    let stays : (p : Path) → is_front q p ≡ false → G p ≡ p = renamed-stays q u in
    let told : Told G q stays [] t.slots (slots_under (along way (renamed_slot k u)) t.slots) =
    along-told G q stays v (at_key s.key.name) (front-refl q) way (renamed_slot k u) (root_visit t) made leads
    (λ w.
    let fd : Found k s (slot_list v.slots) = found k v.slots s w is_there in
    subst (λ ss. Told G q stays v.path ss (slots_under (renamed_slot k u) v.slots)) (sym (sym (slots_from-list v.slots)
    ∙ ap slots_from fd.is))
    (subst (λ ss. Told G q stays v.path (slots_from (fd.front ++ (s ∷ fd.back))) ss)
    (sym (ap slots_from (renamed-is k u s v.slots fd free)))
    (in-place G q stays v.path fd.front fd.back s (on_key (renamed_key u) s) (front-refl q) fd.others_front fd.others_back refl
    (node-goes G s.item q (to_key v.path u) (renamed-goes v.path s.key.name u))))) in
    ap (λ z. fact z a_table ∷ slots_facts (slots_under (along way (renamed_slot k u)) t.slots) [])
    (sym (stays [] (leads-out q v (at_key s.key.name) (front-refl q) way (root_visit t) leads)))
    ∙ ap (λ zs. fact (G []) a_table ∷ zs) told.0
