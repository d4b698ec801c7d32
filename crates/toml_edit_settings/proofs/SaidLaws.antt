-- What slots and items say, one after another.
use Rattle.std.proofs.Common.{◌≡◌, ℕ, ◌+◌, ◌<◌, Bool, true, false, ◌||◌, List, ◌∷◌, ◌++◌, length, map, get_or, drop, sym, ap, ◌∙◌, append_assoc}
use Rattle.std.proofs.lemmas.List.{at_drop_more, drop_more}
use Rattle.std.specs.List.{list_any}
use Rattle.std.specs.Prelude.{fold}
use Rattle.toml_edit_model.specs.Slots as model
use Rattle.toml_edit_model.specs.Tree.{Node}
use Rattle.toml_edit_settings.specs.SaidView.{shown_slot}
use Rattle.toml_edit_slots.specs.declared.slots.Slot.{Slot}
use Rattle.toml_edit_tree.specs.Indexed.{shown_slots}
use Rattle.toml_edit_tree.specs.declared.item.Item.{Item}

-- one slot more is put behind what is said
pub slot_turn : {S : Type 0} (says : List (model.Slot Node) → List S) (one_says : model.Slot Node → List S)
    → ((x : model.Slot Node) (xs : List (model.Slot Node)) → says (x ∷ xs) ≡ one_says x ++ says xs)
    → (es : List (Slot Item)) (i : ℕ) (s : Slot Item) → i < length es → s ≡ get_or es i s → (old new all : List S)
    → new ≡ old ++ one_says (shown_slot s) → old ++ says (shown_slots (drop i es)) ≡ all → new ++ says (shown_slots (drop (i + 1) es)) ≡ all
slot_turn says one_says step es i s h is old new all added more =
    let rest = shown_slots (drop (i + 1) es) in
    let opened = ap (λ ys. says (shown_slots ys)) (drop_more es i s h)
    ∙ ap (λ (e : Slot Item). says (shown_slot e ∷ shown_slots (drop (i + 1) es))) (sym is) ∙ step (shown_slot s) rest in
    ap (λ x. x ++ says rest) added ∙ append_assoc old (one_says (shown_slot s)) (says rest) ∙ ap (λ x. old ++ x) (sym opened) ∙ more

-- one turn more of a fold over what is shown of a list
pub fold_turn : {A B C : Type 0} (f : B → C → B) (view : A → C) (xs : List A) (i : ℕ) (x : A) → i < length xs → x ≡ get_or xs i x → (old new all : B)
    → new ≡ f old (view x) → fold f old (map view (drop i xs)) ≡ all → fold f new (map view (drop (i + 1) xs)) ≡ all
fold_turn f view xs i x h is old new all made more =
    let rest = map view (drop (i + 1) xs) in
    let opened = at_drop_more (λ ys. fold f old (map view ys)) xs i x h ∙ ap (λ y. fold f (f old (view y)) (map view (drop (i + 1) xs))) (sym is) in
    ap (λ b. fold f b rest) made ∙ sym opened ∙ more

-- one turn more of a search, where nothing is found, and where something is
module _ {A C : Type 0} (p : C → Bool) (view : A → C) (xs : List A) (i : ℕ) (x : A) (h : i < length xs) (is : x ≡ get_or xs i x) where
  opened : list_any p (map view (drop i xs)) ≡ p (view x) || list_any p (map view (drop (i + 1) xs))
  opened =
      at_drop_more (λ ys. list_any p (map view ys)) xs i x h ∙ ap (λ y. p (view y) || list_any p (map view (drop (i + 1) xs))) (sym is)

  pub any_turn : (all : Bool) → p (view x) ≡ false → list_any p (map view (drop i xs)) ≡ all → list_any p (map view (drop (i + 1) xs)) ≡ all
  any_turn all off more = sym (opened ∙ ap (λ b. b || list_any p (map view (drop (i + 1) xs))) off) ∙ more

  pub any_here : (all : Bool) → p (view x) ≡ true → list_any p (map view (drop i xs)) ≡ all → true ≡ all
  any_here all on more = sym (opened ∙ ap (λ b. b || list_any p (map view (drop (i + 1) xs))) on) ∙ more
