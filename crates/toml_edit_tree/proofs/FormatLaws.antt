-- The slots of an array, formatted one after another in place.
use Rattle.std.proofs.Common.{◌≡◌, ℕ, zero, suc, ◌+◌, ◌<◌, ◌≤◌, Bool, true, List, [], ◌∷◌, ◌++◌, length, map, get_or, set, refl, sym, ap}
use Rattle.std.proofs.Common.{subst, ◌∙◌, arith}
use Rattle.toml_edit_model.specs.Tree.{Node}
use Rattle.toml_edit_model.specs.Conversions.{formatted_from}
use Rattle.toml_edit_tree.specs.declared.item.Item.{Item}
use Rattle.toml_edit_tree.specs.View.{item_view}

-- the items before the place are formatted, and is_first tells whether none of them was a value
pub record Formats (items first : List Item) (at : ℕ) (is_first : Bool) : Type 0 where
  pub done : List Item
  pub rest : List Item
  pub items_are : items ≡ done ++ rest
  pub done_long : length done ≡ at
  pub as_long : length items ≡ length first
  pub says : formatted_from true (map item_view first) ≡ map item_view done ++ formatted_from is_first (map item_view rest)

append-nil : {X : Type 0} (xs : List X) → xs ++ [] ≡ xs
append-nil [] = refl
append-nil (x ∷ xs) = ap (λ l. x ∷ l) (append-nil xs)

set-middle : (done rest : List Item) (x y : Item) → set (done ++ x ∷ rest) (length done) y ≡ (done ++ y ∷ []) ++ rest
set-middle [] rest x y = refl
set-middle (w ∷ done) rest x y = ap (λ l. w ∷ l) (set-middle done rest x y)

get-middle : (done rest : List Item) (x d : Item) → get_or (done ++ x ∷ rest) (length done) d ≡ x
get-middle [] rest x d = refl
get-middle (w ∷ done) rest x d = get-middle done rest x d

length-more : (done : List Item) (x : Item) → length (done ++ x ∷ []) ≡ length done + 1
length-more [] x = refl
length-more (w ∷ done) x = omega (arith, length-more done x)

long : (done rest : List Item) → length (done ++ rest) ≡ length done + length rest
long [] rest = omega arith
long (x ∷ done) rest = omega (arith, long done rest)

set-long : (xs : List Item) (i : ℕ) (y : Item) → length (set xs i y) ≡ length xs
set-long [] i y = refl
set-long (x ∷ xs) zero y = refl
set-long (x ∷ xs) (suc i) y = ap suc (set-long xs i y)

-- one more is done
one_more : (done : List Item) (y : Item) (ns : List Node) → map item_view done ++ item_view y ∷ ns ≡ map item_view (done ++ y ∷ []) ++ ns
one_more [] y ns = refl
one_more (w ∷ done) y ns = ap (λ l. item_view w ∷ l) (one_more done y ns)

step_at : (done rest first : List Item) (at : ℕ) (b c : Bool) (d y : Item) → length done ≡ at → at < length (done ++ rest)
    → length (done ++ rest) ≡ length first
    → formatted_from true (map item_view first) ≡ map item_view done ++ formatted_from b (map item_view rest)
    → ((ns : List Node) → formatted_from b (item_view (get_or (done ++ rest) at d) ∷ ns) ≡ item_view y ∷ formatted_from c ns)
    → Formats (set (done ++ rest) at y) first (at + 1) c
step_at done [] first at b c d y n l a s e = absurd (omega (arith, n, long done []))
step_at done (x ∷ rest) first at b c d y n l a s e =
    record {
      done = done ++ y ∷ [];
      rest = rest;
      items_are = subst (λ i. set (done ++ x ∷ rest) i y ≡ (done ++ y ∷ []) ++ rest) n (set-middle done rest x y);
      done_long = omega (arith, length-more done y, n);
      as_long = set-long (done ++ x ∷ rest) at y ∙ a;
      says = s
          ∙ ap (λ l. map item_view done ++ l)
          (ap (λ w. formatted_from b (item_view w ∷ map item_view rest))
          (sym (subst (λ i. get_or (done ++ x ∷ rest) i d ≡ x) n (get-middle done rest x d)))
          ∙ e (map item_view rest))
          ∙ one_more done y (formatted_from c (map item_view rest));
    }

-- the item at the place is formatted
pub format_step : (items first : List Item) (at : ℕ) (b c : Bool) (d y : Item) → Formats items first at b → at < length items
    → ((ns : List Node) → formatted_from b (item_view (get_or items at d) ∷ ns) ≡ item_view y ∷ formatted_from c ns)
    → Formats (set items at y) first (at + 1) c
format_step items first at b c d y h l e =
    subst (λ xs. Formats (set xs at y) first (at + 1) c) (sym h.items_are)
    (step_at h.done h.rest first at b c d y h.done_long
    (subst (λ xs. at < length xs) h.items_are l) (subst (λ xs. length xs ≡ length first) h.items_are h.as_long) h.says
    (λ ns. subst (λ xs. formatted_from b (item_view (get_or xs at d) ∷ ns) ≡ item_view y ∷ formatted_from c ns) h.items_are (e ns)))

finish_at : (done rest first : List Item) (at : ℕ) (b : Bool) → length done ≡ at → length (done ++ rest) ≤ at
    → formatted_from true (map item_view first) ≡ map item_view done ++ formatted_from b (map item_view rest)
    → map item_view (done ++ rest) ≡ formatted_from true (map item_view first)
finish_at done [] first at b n l s = ap (map item_view) (append-nil done) ∙ sym (s ∙ append-nil (map item_view done))
finish_at done (x ∷ rest) first at b n l s = absurd (omega (arith, n, long done (x ∷ rest)))

-- past the last place all are
pub format_finish : (items first : List Item) (at : ℕ) (b : Bool) → Formats items first at b → length items ≤ at
    → map item_view items ≡ formatted_from true (map item_view first)
format_finish items first at b h l =
    subst (λ xs. map item_view xs ≡ formatted_from true (map item_view first)) (sym h.items_are)
    (finish_at h.done h.rest first at b h.done_long (subst (λ xs. length xs ≤ at) h.items_are l) h.says)
