-- What is set below a segment, with headers or without.
use Rattle.std.proofs.Common.{◌≡◌, ◌∙◌, refl, sym, ap, Bool, true, false, List, [], ◌∷◌, ◌++◌, length, arith, None}
use Rattle.toml_edit_model.specs.Keys.{cleared_key}
use Rattle.toml_edit_model.specs.Lists.{items_in, slots_in}
use Rattle.toml_edit_model.specs.Slots.{Slot, keyed, lookup_slot}
use Rattle.toml_edit_model.specs.Tree.{Key, Node, nothing, leaf, list, inline, table, tables}
use Rattle.toml_edit_edit_laws.specs.Commands.{done, refused, wrong_kind, mapped, change_slot, child_changed, set_here}
use Rattle.toml_edit_edit_laws.proofs.commands.Setting.{made-below-is}
use Rattle.toml_edit_paths.specs.Setting.{headers_in, made_by, set_by}

-- at the end of a path, and at a key of it
pub set-end : (h : Bool) (v : Node) (path : List Key) (n : Node) → length path ≡ 0 → set_here v n ≡ set_by h v path n
set-end true v [] n e = refl
set-end false v [] n e = refl
set-end h v (k ∷ path) n e = absurd (omega arith)

-- a segment goes on with headers, unless it leads into a value
pub set-step : (h : Bool) (v : Node) (k : Key) (path : List Key) (n : Node) → (n ≡ nothing → ⊥)
    → child_changed true k (set_by (headers_in h n) v path) n ≡ set_by h v (k ∷ path) n
set-step h v k path nothing some = absurd (some refl)
set-step true v k path (leaf s r d) some = refl
set-step true v k path (list f xs) some = refl
set-step true v k path (inline f ss) some = refl
set-step true v k path (table f ss) some = refl
set-step true v k path (tables e xs) some = refl
set-step false v k path (leaf s r d) some = refl
set-step false v k path (list f xs) some = refl
set-step false v k path (inline f ss) some = refl
set-step false v k path (table f ss) some = refl
set-step false v k path (tables e xs) some = refl

-- a placeholder is filled with what is made
pub made-is : (h : Bool) (v : Node) (path : List Key) → set_by h v path nothing ≡ done (made_by h path v)
made-is true v [] = refl
made-is true v (k ∷ path) = refl
made-is false v path = made-below-is v path

-- what is set below a key that is missing
pub new-slot : (h : Bool) (k : Key) (v : Node) (path : List Key) (ss new : List (Slot Node)) (n : Node) → lookup_slot k.name ss ≡ None → n
    ≡ made_by h path v
    → new ≡ ss ++ (keyed (cleared_key k) n ∷ []) → change_slot true k (set_by h v path) ss (lookup_slot k.name ss) ≡ done new
new-slot h k v path ss new n none made last =
    ap (change_slot true k (set_by h v path) ss) none
    ∙ ap (mapped (λ m. ss ++ (keyed (cleared_key k) m ∷ []))) (made-is h v path)
    ∙ ap done (ap (λ (m : Node). ss ++ (keyed (cleared_key k) m ∷ [])) (sym made) ∙ sym last)

-- nothing is set in a scalar
pub scalar-refuses : (h : Bool) (v : Node) (k : Key) (path : List Key) (n : Node) → (n ≡ nothing → ⊥) → slots_in n ≡ None → items_in n
    ≡ None
    → set_by h v (k ∷ path) n ≡ refused wrong_kind
scalar-refuses h v k path (leaf s r d) some none gone = sym (set-step h v k path (leaf s r d) some)
scalar-refuses h v k path nothing some none gone = absurd (some refl)
scalar-refuses h v k path (list f xs) some none gone = absurd cc
scalar-refuses h v k path (tables e xs) some none gone = absurd cc
scalar-refuses h v k path (inline f ss) some none gone = absurd cc
scalar-refuses h v k path (table f ss) some none gone = absurd cc
