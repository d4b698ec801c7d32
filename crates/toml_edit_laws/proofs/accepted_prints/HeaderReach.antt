-- The headers before each header count the elements on its way.
use Rattle.std.proofs.Common.{◌≡◌, sym, ◌∙◌, ap, subst, ℕ, suc, ◌+◌, ◌<◌, arith, true, false, List, [], ◌∷◌, ◌++◌, append_assoc, length}
use Rattle.std.proofs.Common.{◌⊎◌, inl, inr}
use Rattle.std.specs.Prelude.{◌&&◌, filter}
use Rattle.std.specs.List.{AllByRecursion}
use Rattle.std.proofs.lemmas.Bool.{cases_lt, lt-ltb}
use Rattle.std.proofs.lemmas.List.Elements.{filter-append}
use Rattle.toml_edit_model.specs.Mode.{Mode}
use Rattle.toml_edit_model.specs.Paths.{Step, at_key, at_element, Path, same_path, to_key, to_element}
use Rattle.toml_edit_model.specs.Meaning.{parent}
use Rattle.toml_edit_model.specs.Tree.{Tree}
use Rattle.toml_edit_model.specs.HeaderOrder.{Visit, walk}
use Rattle.toml_edit_model.specs.Print.{has_header}
use Rattle.toml_edit_model.specs.Fits.{is_below, is_after_element, is_too_late, headed}
use Rattle.toml_edit_laws.specs.AcceptedPrints.{IsFitting}
use Rattle.toml_edit_laws.proofs.common.Members.{Among, among-cases, of-filtered, among-filtered, all-among}
use Rattle.toml_edit_laws.proofs.common.Tests.{and_both, if-true, false-by, true-false}
use Rattle.toml_edit_laws.proofs.common.OrderLaws.{none-left}
use Rattle.toml_edit_laws.proofs.common.PathLaws.{same_path-refl, is_front, front-refl, parent-last, not-longer}
use Rattle.toml_edit_laws.proofs.accepted_prints.Spots.{Spot, arrayed, suits, tree_spot}
use Rattle.toml_edit_laws.proofs.accepted_prints.WalkPlaces.{Trail, start, to_table, to_item, trail_path, Entered, Led, EndsAs, IsAt}
use Rattle.toml_edit_laws.proofs.accepted_prints.WalkPaths.{front-elements, is_item_of, item-parent, item-element, Counted, walk-counted}
use Rattle.toml_edit_laws.proofs.accepted_prints.HeaderNumbers.{after-below, counted-among, counted-at, counted-left, counted-right}
use Rattle.toml_edit_laws.proofs.accepted_prints.HeaderNumbers.{not-late, late-element, late-below, tree_at, headed-at, headed-items}
use Rattle.toml_edit_laws.proofs.common.Visits.{below-more}
use Rattle.toml_edit_laws.proofs.common.Pairs.{AllPairs, pairs-across, pairs-right}
use Rattle.toml_edit_laws.proofs.common.Each.{all-front, all-map, filter-passes}
use Rattle.toml_edit_model.specs.Roles.{implied_role}

-- how many of these tables are elements of the array at this path
abbrev pub elements_in : Path → List Visit → ℕ
elements_in q vs = length (filter (λ v. v.is_element && same_path q (parent v.path)) vs)

-- at each step of the way so many elements are counted: none where it goes on in a table, and those up to its own element in an array
abbrev pub RightBy : (Path → ℕ) → Trail → Type 0
RightBy count start = Unit {0}
RightBy count (to_table r k) = RightBy count r × (count (to_key (trail_path r) k.name) ≡ 0)
RightBy count (to_item r k n) = RightBy count r × (count (to_key (trail_path r) k.name) ≡ suc n)

-- the same of the way up to its last step; an element's number is the count of those before it
abbrev pub Reached : (Path → ℕ) → Trail → Type 0
Reached count start = Unit {0}
Reached count (to_table r k) = RightBy count r
Reached count (to_item r k n) = RightBy count r × (count (to_key (trail_path r) k.name) ≡ n)

-- an element's array stands at the path above it
item-arrayed : (K : Path → Spot) (W : List Visit) (q : Path) (w : Visit) → IsAt K W w → is_item_of q w ≡ true → K q ≡ arrayed
item-arrayed K W q w at item = by_trail at.trail at.path at.led at.ends
  where
    by_trail : (T : Trail) → w.path ≡ trail_path T → Led K W T → EndsAs K W w T → K q ≡ arrayed
    by_trail start p led ends = true-false w.is_element (item-element q w item) ends
    by_trail (to_table r k) p led ends = true-false w.is_element (item-element q w item) ends.0
    by_trail (to_item r k n) p led ends =
        ap K (item-parent q w item ∙ ap parent p ∙ parent-last (to_key (trail_path r) k.name) (at_element n)) ∙ led.1

module _ (mode : Mode) where
  -- a header among the headers
  module _ (t : Tree) (fitting : IsFitting mode t) (before : List Visit) (v : Visit) (after : List Visit) (split : headed mode t ≡ before
      ++ (v ∷ after)) where
    parts : (P : Path) → filter (is_item_of P) (walk t) ≡ filter (is_item_of P) before ++ filter (is_item_of P) (v ∷ after)
    parts P = sym (headed-items mode t fitting P) ∙ ap (filter (is_item_of P)) split ∙ filter-append (is_item_of P) before (v ∷ after)

    counted-before : (P : Path) → Counted 0 P (filter (is_item_of P) before)
    counted-before P =
        counted-left 0 P (filter (is_item_of P) before) (filter (is_item_of P) (v ∷ after))
        (subst (Counted 0 P) (parts P) (walk-counted P t fitting.made))

    early : AllPairs (λ g h. is_too_late g h ≡ false) (before ++ (v ∷ after))
    early = subst (AllPairs (λ g h. is_too_late g h ≡ false)) split (not-late (headed mode t) fitting.fits.ordered)

    early-before : (u : Visit) → Among u before → is_too_late u v ≡ false
    early-before u a =
        (all-among (λ x. AllByRecursion (λ y. is_too_late x y ≡ false) (v ∷ after)) u before (pairs-across (λ g h. is_too_late g h
        ≡ false) before (v ∷ after) early) a).0

    early-after : (w : Visit) → Among w after → is_too_late v w ≡ false
    early-after w a = all-among (λ y. is_too_late v y ≡ false) w after (pairs-right (λ g h. is_too_late g h ≡ false) before (v
        ∷ after) early).0 a

    item-at : (P : Path) (w : Visit) (n : ℕ) → w.path ≡ to_element P n → w.is_element ≡ true → is_item_of P w ≡ true
    item-at P w n e element =
        and_both w.is_element (same_path P (parent w.path)) element (ap (same_path P) (ap parent e ∙ parent-last P (at_element n))
        ∙ same_path-refl P)

    same-number : (P : Path) (m n : ℕ) → to_element P m ≡ to_element P n → m ≡ n
    same-number P m n e =
        front-elements P (to_element P n) m n (subst (λ q. is_front (to_element P m) q ≡ true) e (front-refl (to_element P m)))
        (front-refl (to_element P n))

    -- an element's number is the count of those before it
    own-number : (P : Path) (n : ℕ) → v.path ≡ to_element P n → v.is_element ≡ true → elements_in P before ≡ n
    own-number P n e element =
        let rest : Counted (0 + length (filter (is_item_of P) before)) P (filter (is_item_of P) (v ∷ after)) =
        counted-right 0 P (filter (is_item_of P) before) (filter (is_item_of P) (v ∷ after))
        (subst (Counted 0 P) (parts P) (walk-counted P t fitting.made)) in
        let first : filter (is_item_of P) (v ∷ after) ≡ v ∷ filter (is_item_of P) after =
        if-true (is_item_of P v) (v ∷ filter (is_item_of P) after) (filter (is_item_of P) after) (item-at P v n e element) in
        let at : Counted (0 + length (filter (is_item_of P) before)) P (v ∷ filter (is_item_of P) after) =
        subst (Counted (0 + length (filter (is_item_of P) before)) P) first rest in
        let same : 0 + length (filter (is_item_of P) before) ≡ n =
        same-number P (0 + length (filter (is_item_of P) before)) n (sym at.0 ∙ e) in
        omega (arith, same)

    -- below an element, the elements up to it were before
    number-above : (P : Path) (n : ℕ) (s : Step) (q : Path) → v.path ≡ to_element P n ++ (s ∷ q)
        → Entered (tree_spot t.slots) (walk t) (to_element P n) → elements_in P before ≡ suc n
    number-above P n s q e entered =
        let w = entered.visit in
        let mine = item-at P w n entered.path entered.is_element in
        let there : Among w (before ++ (v ∷ after)) =
        subst (λ vs. Among w vs) split (of-filtered (is_item_of P) w (headed mode t)
        (subst (λ vs. Among w vs) (sym (headed-items mode t fitting P))
        (among-filtered (is_item_of P) w (walk t) entered.among mine))) in
        let is_before : Among w before = by_place w entered.path entered.is_element (among-cases w before (v ∷ after) there) in
        let at = counted-among 0 P (filter (is_item_of P) before) w (counted-before P)
        (among-filtered (is_item_of P) w before is_before mine) in
        let same : at.0 ≡ n = same-number P at.0 n (sym at.1 ∙ entered.path) in
        let enough : at.0 < 0 + length (filter (is_item_of P) before) = at.3 in
        elim (cases_lt (suc n) (elements_in P before)) [
          | inl more ↦ absurd (too-many (counted-at 0 P (filter (is_item_of P) before) (suc n) (counted-before P) (omega arith)
              (omega arith)))
          | inr few ↦ omega (arith, same, enough, few)
        ]
      where
        by_place : (w : Visit) → w.path ≡ to_element P n → w.is_element ≡ true → Among w before ⊎ Among w (v ∷ after) → Among w before
        by_place w p element (inl a) = a
        by_place w p element (inr (inl same)) = absurd (not-longer (to_element P n) s q (sym e ∙ ap (λ (x : Visit). x.path) (sym same) ∙ p))
        by_place w p element (inr (inr a)) =
            absurd (late-below v w (early-after w a) element
            (ap (λ r. is_below r v.path) p ∙ ap (is_below (to_element P n)) e ∙ below-more (to_element P n) s q))

        too-many : (u : Visit) × Among u (filter (is_item_of P) before) × (u.path ≡ to_element P (suc n)) → ⊥
        too-many (u, a, p) =
            late-element u v (early-before u (of-filtered (is_item_of P) u before a))
            (item-element P u (all-among (λ x. is_item_of P x ≡ true) u (filter (is_item_of P) before) (filter-passes (is_item_of P) before)
            a))
            (ap (λ r. is_after_element r v.path) p ∙ ap (is_after_element (to_element P (suc n))) e ∙ after-below P (s ∷ q) (suc n) n
            ∙ lt-ltb n (suc n) (omega arith))

    -- where a table stands there are no elements
    no-items : (q : Path) → suits implied_role (tree_spot t.slots q) ≡ true → elements_in q before ≡ 0
    no-items q suit =
        ap length (none-left (is_item_of q) before
        (all-map (λ w. (tree_at t w × (w.fields.is_dotted ≡ false)) × (has_header mode w ≡ true)) (λ w. is_item_of q w ≡ false) before
        (λ w h. outside w h.0.0) (all-front (λ w. (tree_at t w × (w.fields.is_dotted ≡ false)) × (has_header mode w ≡ true)) before (v
        ∷ after)
        (subst (AllByRecursion (λ w. (tree_at t w × (w.fields.is_dotted ≡ false)) × (has_header mode w ≡ true))) split
        (headed-at mode t fitting.made)))))
      where
        outside : (w : Visit) → tree_at t w → is_item_of q w ≡ false
        outside w at =
            false-by (is_item_of q w) (λ item.
            let clash : false ≡ true = sym (ap (suits implied_role) (item-arrayed (tree_spot t.slots) (walk t) q w at item)) ∙ suit in
            absurd cc)

    -- the steps of the way to a table that the header's path goes on from
    right-trail : (r : Trail) (s : Step) (q : Path) → Led (tree_spot t.slots) (walk t) r → v.path ≡ trail_path r ++ (s ∷ q)
        → RightBy (λ p. elements_in p before) r
    right-trail start s q led e = tt
    right-trail (to_table r k) s q led e = (
      right-trail r (at_key k.name) (s ∷ q) led.0 (e ∙ append_assoc (trail_path r) (at_key k.name ∷ []) (s ∷ q)),
      no-items (to_key (trail_path r) k.name) led.1,
    )
    right-trail (to_item r k n) s q led e = (
      right-trail r (at_key k.name) (at_element n ∷ s ∷ q) led.0
          (e ∙ append_assoc (to_key (trail_path r) k.name) (at_element n ∷ []) (s ∷ q)
          ∙ append_assoc (trail_path r) (at_key k.name ∷ []) (at_element n ∷ s ∷ q)),
      number-above (to_key (trail_path r) k.name) n s q e led.2,
    )

    pub reached : (at : tree_at t v) → Reached (λ p. elements_in p before) at.trail
    reached at = by_trail at.trail at.path at.led at.ends
      where
        by_trail : (T : Trail) → v.path ≡ trail_path T → Led (tree_spot t.slots) (walk t) T → EndsAs (tree_spot t.slots) (walk t) v T
            → Reached (λ p. elements_in p before) T
        by_trail start p led ends = tt
        by_trail (to_table r k) p led ends = right-trail r (at_key k.name) [] led.0 p
        by_trail (to_item r k n) p led ends = (
          right-trail r (at_key k.name) (at_element n ∷ []) led.0 (p
              ∙ append_assoc (trail_path r) (at_key k.name ∷ []) (at_element n ∷ [])),
          own-number (to_key (trail_path r) k.name) n p ends,
        )
