-- Slots whose items are seen as others: their keys stay.
use Rattle.std.proofs.Common.{◌≡◌, ◌∙◌, refl, sym, ap, subst, Bool, true, false, ℕ, suc, List, [], ◌∷◌, ◌++◌, map, Option, Some, None}
use Rattle.std.specs.Prelude.{◌||◌, not, if◌then◌else◌, option_map, is_some}
use Rattle.std.specs.List.{IsDistinct}
use Rattle.toml_edit_model.specs.Slots.{Slot, AreApart, changed, has_slot, is_at, lookup_slot, names, on_item, on_key}
use Rattle.toml_edit_model.specs.Rearranging.{is_free, renamed_key, renamed_slot}
use Rattle.toml_edit_model.specs.Text.{Text, one, same_text}
use Rattle.toml_edit_model.specs.Tree.{Node}
use Rattle.toml_edit_slots.specs.Renaming.{renaming}
use Rattle.toml_edit_slots.specs.Seen.{seen}
use Rattle.toml_edit_slots.specs.Slots as code
use Rattle.toml_edit_slots.specs.declared.slots.Slot as held
use Rattle.toml_edit_slots.specs.declared.slots.rearrange.Renamed.{Renamed}
use Rattle.toml_edit_slots.specs.declared.slots.rearrange.Renamed.TheVariants.{Done, Absent, Taken}
use Rattle.toml_edit_tree.specs.Indexed.{shown_slots}
use Rattle.toml_edit_tree.specs.View.{item_view}
use Rattle.toml_edit_tree.specs.declared.item.Item.{Item}
use Rattle.toml_edit_edits.specs.Effects.{slots_renamed, told}
use Rattle.toml_edit_edits.specs.Slots.{shown_slot}

module _ {X Y : Type 0} (h : X → Y) where
  pub viewed-has : (t : Text) (es : List (Slot X)) → has_slot t (map (on_item h) es) ≡ has_slot t es
  viewed-has t [] = refl
  viewed-has t (s ∷ es) = ap (λ b. is_at t s || b) (viewed-has t es)

  viewed-free : (t u : Text) (es : List (Slot X)) → is_free t u (map (on_item h) es) ≡ is_free t u es
  viewed-free t u es = ap (λ b. same_text t u || not b) (viewed-has u es)

  pub viewed-renaming : (t u : Text) (es : List (Slot X)) → renaming t u (map (on_item h) es) ≡ renaming t u es
  viewed-renaming t u es =
      ap (λ b. if b then (if is_free t u (map (on_item h) es) then Done else Taken) else Absent) (viewed-has t es)
      ∙ ap (λ b. if has_slot t es then (if b then Done else Taken) else Absent) (viewed-free t u es)

  viewed-changed : (t u : Text) (es : List (Slot X)) → changed t (on_key (renamed_key u)) (map (on_item h) es)
      ≡ map (on_item h) (changed t (on_key (renamed_key u)) es)
  viewed-changed t u [] = refl
  viewed-changed t u (s ∷ es) =
      ap (λ (r : List (Slot Y)). (if is_at t s then on_key (renamed_key u) (on_item h s) else on_item h s) ∷ r) (viewed-changed t u es)
      ∙ ap (λ (r : Slot Y). r ∷ map (on_item h) (changed t (on_key (renamed_key u)) es)) (by_test (is_at t s))
    where
      by_test : (b : Bool) → (if b then on_key (renamed_key u) (on_item h s) else on_item h s)
          ≡ on_item h (if b then on_key (renamed_key u) s else s)
      by_test true = refl
      by_test false = refl

  pub viewed-renamed : (t u : Text) (es : List (Slot X)) → renamed_slot t u (map (on_item h) es) ≡ map (on_item h) (renamed_slot t u es)
  viewed-renamed t u es =
      ap (λ b. if b then changed t (on_key (renamed_key u)) (map (on_item h) es) else map (on_item h) es) (viewed-free t u es)
      ∙ by_test (is_free t u es)
    where
      by_test : (b : Bool) → (if b then changed t (on_key (renamed_key u)) (map (on_item h) es) else map (on_item h) es)
          ≡ map (on_item h) (if b then changed t (on_key (renamed_key u)) es else es)
      by_test true = viewed-changed t u es
      by_test false = refl

  pub viewed-found : (t : Text) (es : List (Slot X)) → lookup_slot t (map (on_item h) es) ≡ option_map (on_item h) (lookup_slot t es)
  viewed-found t [] = refl
  viewed-found t (s ∷ es) = by_test (is_at t s) (viewed-found t es)
    where
      by_test : (b : Bool) → lookup_slot t (map (on_item h) es) ≡ option_map (on_item h) (lookup_slot t es)
          → (if b then Some (on_item h s) else lookup_slot t (map (on_item h) es)) ≡ option_map (on_item h) (if b then Some s else lookup_slot t es)
      by_test true ih = refl
      by_test false ih = ih

-- ---- the code's slots

pub shown-seen : (es : List (held.Slot Item)) → shown_slots es ≡ map (on_item item_view) (seen es)
shown-seen [] = refl
shown-seen (e ∷ es) = ap (λ (r : List (Slot Node)). record { key = e.key; item = item_view e.item } ∷ r) (shown-seen es)

-- no two keys have one name
same-names : {X Y : Type 0} (h : X → Y) (es : List (Slot X)) → names (map (on_item h) es) ≡ names es
same-names h [] = refl
same-names h (s ∷ es) = ap (λ r. s.key.name ∷ r) (same-names h es)

pub shown-apart : (es : List (held.Slot Item)) → AreApart (seen es) → AreApart (shown_slots es)
shown-apart es h =
    subst (λ ks. IsDistinct same_text ks) (sym (ap names (shown-seen es) ∙ same-names item_view (seen es))) h

-- ---- renaming

-- what a renaming tells is what is meant
pub rename-told : (t u : Text) (es new : List (held.Slot Item)) (r : Renamed) → r ≡ renaming t u (seen es) → seen new ≡ renamed_slot t u (seen es)
    → slots_renamed t u (shown_slots es) ≡ told (shown_slots new) r
rename-told t u es new r tells slots =
    ap (slots_renamed t u) (shown-seen es)
    ∙ ap (λ x. told x (renaming t u (map (on_item item_view) (seen es)))) (viewed-renamed item_view t u (seen es)
    ∙ ap (map (on_item item_view)) (sym slots) ∙ sym (shown-seen new))
    ∙ ap (told (shown_slots new)) (viewed-renaming item_view t u (seen es) ∙ sym tells)

no-name : {X : Type 0} (t : Text) (f : Slot X → Slot X) (es : List (Slot X)) → has_slot t es ≡ false → changed t f es ≡ es
no-name t f [] h = refl
no-name t f (s ∷ es) h = by_test (is_at t s) h (no-name t f es)
  where
    by_test : (b : Bool) → (b || has_slot t es) ≡ false → (has_slot t es ≡ false → changed t f es ≡ es)
        → (if b then f s else s) ∷ changed t f es ≡ s ∷ es
    by_test true h ih = absurd cc
    by_test false h ih = ap (λ (r : List (Slot _)). s ∷ r) (ih h)

pub absent-stays : {X : Type 0} (t u : Text) (es : List (Slot X)) → renaming t u es ≡ Absent → renamed_slot t u es ≡ es
absent-stays t u es h = by_has (has_slot t es) refl h
  where
    by_free : (b c : Bool) → (if b then (if c then Done else Taken) else Absent) ≡ Absent → b ≡ false
    by_free true true h = absurd cc
    by_free true false h = absurd cc
    by_free false c h = refl

    either : (c : Bool) → changed t (on_key (renamed_key u)) es ≡ es → (if c then changed t (on_key (renamed_key u)) es else es) ≡ es
    either true e = e
    either false e = refl

    by_has : (b : Bool) → has_slot t es ≡ b → (if b then (if is_free t u es then Done else Taken) else Absent) ≡ Absent → renamed_slot t u es ≡ es
    by_has b e h = either (is_free t u es) (no-name t (on_key (renamed_key u)) es (e ∙ by_free b (is_free t u es) h))

pub taken-stays : {X : Type 0} (t u : Text) (es : List (Slot X)) → renaming t u es ≡ Taken → renamed_slot t u es ≡ es
taken-stays t u es h = by_free (has_slot t es) (is_free t u es) h
  where
    by_free : (b c : Bool) → (if b then (if c then Done else Taken) else Absent) ≡ Taken → (if c then changed t (on_key (renamed_key u)) es else es) ≡ es
    by_free true true h = absurd cc
    by_free true false h = refl
    by_free false c h = absurd cc

pub kept : (es new : List (held.Slot Item)) → seen new ≡ seen es → shown_slots new ≡ shown_slots es
kept es new h = shown-seen new ∙ ap (map (on_item item_view)) h ∙ sym (shown-seen es)

-- ---- a slot more

pub has-place : (t : Text) (es : List (held.Slot Item)) → has_slot t (shown_slots es) ≡ is_some (code.place t es)
has-place t [] = refl
has-place t (e ∷ es) = ap (λ b. same_text t e.key.name || b) (has-place t es) ∙ by_test (same_text t e.key.name) (code.place t es)
  where
    by_test : (b : Bool) (o : Option ℕ) → (b || is_some o) ≡ is_some (if b then Some 0 else option_map suc o)
    by_test true o = refl
    by_test false None = refl
    by_test false (Some i) = refl

pub shown-last : (es : List (held.Slot Item)) (e : held.Slot Item) → shown_slots (es ++ (e ∷ [])) ≡ shown_slots es ++ one (shown_slot e)
shown-last [] e = refl
shown-last (x ∷ es) e = ap (λ (r : List (Slot Node)). record { key = x.key; item = item_view x.item } ∷ r) (shown-last es e)
