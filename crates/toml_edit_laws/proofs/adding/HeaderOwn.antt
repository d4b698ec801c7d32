-- One mention more of a table itself: its slots are as they were, and a header may still come after it.
use Rattle.std.proofs.Common.{◌≡◌, ◌≤◌, refl, sym, ◌∙◌, ap, subst, ℕ, ◌+◌, arith, Bool, true, false, List, [], ◌∷◌, ◌++◌, length}
use Rattle.std.proofs.Common.{length-append, Some, inl}
use Rattle.std.specs.Prelude.{◌&&◌, ◌||◌, if◌then◌else◌, filter, map}
use Rattle.std.specs.List.{list_any}
use Rattle.std.proofs.lemmas.Bool.{or_from}
use Rattle.std.proofs.lemmas.List.{map-append}
use Rattle.std.proofs.lemmas.List.Elements.{filter-append}
use Rattle.std.proofs.lemmas.List.Folds.{list_any-append}
use Rattle.toml_edit_model.specs.Mode.{Mode}
use Rattle.toml_edit_model.specs.Text.{is_empty}
use Rattle.toml_edit_model.specs.Syntax.{Segment}
use Rattle.toml_edit_model.specs.Paths.{Step, at_key, at_element, Path, same_path, Mention, Source, elements_at}
use Rattle.toml_edit_model.specs.Tree.{Slots}
use Rattle.toml_edit_model.specs.TreeOf.{spanned_in}
use Rattle.toml_edit_laws.proofs.common.Tests.{append-nil, or-left, or-right, or-false, true-false}
use Rattle.toml_edit_laws.proofs.mentions.KeptOrder.{HaveOneHeader}
use Rattle.toml_edit_laws.proofs.adding.HeaderPaths.{paths_under}
use Rattle.toml_edit_laws.proofs.adding.HeaderKept.{kept-after}
use Rattle.toml_edit_laws.proofs.adding.HeaderSlots.{AreSlots, AreAllSlots}
use Rattle.toml_edit_laws.proofs.adding.HeaderReady.{paths_from, AreArrayed, ArePassed, IsReadyAt, AreReadyPaths, AreReady}
use Rattle.toml_edit_laws.proofs.adding.TableSlots.{slots-kept}
use Rattle.toml_edit_laws.proofs.common.PathLaws.{same_path-is}
use Rattle.toml_edit_laws.proofs.mentions.SomeAt.{some_at-append, own_mention, under-own-mention}
use Rattle.toml_edit_laws.proofs.common.Each.{all-append}
use Rattle.toml_edit_laws.proofs.mentions.RoleTests.{is_through_role}
use Rattle.toml_edit_laws.proofs.mentions.Placed.{IsHeaded}
use Rattle.toml_edit_laws.proofs.mentions.Named.{IsNamed}
use Rattle.toml_edit_laws.specs.KeptKeys.{under_path}
use Rattle.toml_edit_model.specs.Roles.{Role, implied_role, array_role, is_header_role, is_array_role}
use Rattle.toml_edit_model.specs.Kept.{first_of_list}
use Rattle.toml_edit_model.specs.TableMentions.{under, own, roles, array_headers, some_at, kept}

-- ---- lists of mentions

pub arrays-append : {S : Type 0} (xs ys : List (Mention S)) → array_headers (xs ++ ys) ≡ array_headers xs ++ array_headers ys
arrays-append {S} xs ys =
    ap (filter (λ (m : Mention S). is_array_role m.role)) (filter-append (λ (m : Mention S). is_empty m.path) xs ys)
    ∙ filter-append (λ (m : Mention S). is_array_role m.role) (own xs) (own ys)

pub roles-append : {S : Type 0} (xs ys : List (Mention S)) → roles (xs ++ ys) ≡ roles xs ++ roles ys
roles-append {S} xs ys =
    ap (map (λ (m : Mention S). m.role)) (filter-append (λ (m : Mention S). is_empty m.path) xs ys)
    ∙ map-append (λ (m : Mention S). m.role) (own xs) (own ys)

pub first-more : {A : Type 0} (xs ys : List A) (a : A) → first_of_list xs ≡ Some a → first_of_list (xs ++ ys) ≡ Some a
first-more [] ys a h = absurd cc
first-more (x ∷ xs) ys a h = h

-- one plain header more at a path that had none
pub header-last : {S : Type 0} (ms : List (Mention S)) (o : Mention S) → HaveOneHeader ms
    → (is_header_role o.role ≡ true → some_at is_header_role o.path ms ≡ false) → HaveOneHeader (ms ++ (o ∷ []))
header-last [] o h none = (λ is. refl, tt)
header-last {S} (m ∷ ms) o h none = (
  λ is. some_at-append is_header_role m.path ms (o ∷ [])
      ∙ or_from (some_at is_header_role m.path ms) (some_at is_header_role m.path (o ∷ [])) (h.0 is)
      (by_tests (same_path o.path m.path) (is_header_role o.role) refl refl is),
  header-last ms o h.1 (λ is. or-right (same_path m.path o.path && is_header_role m.role) (some_at is_header_role o.path ms) (none is)),
)
  where
    by_tests : (a b : Bool) → same_path o.path m.path ≡ a → is_header_role o.role ≡ b → is_header_role m.role ≡ true → ((a && b) || false)
        ≡ false
    by_tests false b e g is = refl
    by_tests true false e g is = refl
    by_tests true true e g is =
        let path = same_path-is o.path m.path e in
        let here : (same_path m.path o.path && is_header_role m.role) ≡ false =
        or-left (same_path m.path o.path && is_header_role m.role) (some_at is_header_role o.path ms) (none g) in
        let same : (same_path o.path o.path && true) ≡ false =
        ap (λ p. same_path p o.path && true) path ∙ ap (λ b. same_path m.path o.path && b) (sym is) ∙ here in
        true-false (same_path o.path o.path && true) (ap (λ p. same_path o.path p && true) path ∙ ap (λ b. b && true) e) same

module _ (mode : Mode) where
  -- ---- the table's own mention

  -- it gets no slot
  pub own-slots : (source : Source) (start : ℕ) (role : Role) (g : Segment) (us : List (Mention Source)) (ss : Slots)
      → AreAllSlots mode us ss
      → AreAllSlots mode (us ++ (own_mention source start role g ∷ [])) ss
  own-slots source start role g us ss h =
      let o = own_mention source start role g in
      let same : kept (us ++ (o ∷ [])) ≡ kept us = kept-after us (o ∷ []) (λ k. refl) ∙ append-nil (kept us) in
      subst (λ ks. AreSlots mode (us ++ (o ∷ [])) ks ss) (sym same)
      (slots-kept (spanned_in mode) us (us ++ (o ∷ [])) (kept us) ss (λ l. under-own-mention source start role g us (at_key l)) h)

-- The conditions hold with it, where it has one element more if it is of a header in double brackets.
pub paths-own : (source : Source) (start : ℕ) (role : Role) (g : Segment) (paths after : List Path) (us : List (Mention Source))
    → ((s : Step) → paths_under s paths ≡ paths_under s after) → elements_at after []
    ≡ length (array_headers (us ++ (own_mention source start role g ∷ [])))
    → AreArrayed (roles us ++ (role ∷ [])) → ArePassed (roles us ++ (role ∷ [])) → AreReadyPaths paths us
    → AreReadyPaths after (us ++ (own_mention source start role g ∷ []))
paths-own source start role g paths after us below count arrayed passed h = at_path
  where
    o : Mention Source
    o = own_mention source start role g

    same : (s : Step) → under s us ≡ under s (us ++ (o ∷ []))
    same s = under-own-mention source start role g us s

    at_path : (p : Path) → IsReadyAt (paths_from p after) (under_path p (us ++ (o ∷ [])))
    at_path [] =
        record {
          counted = count;
          keyed = λ k e. sym (same (at_key k)) ∙ (h []).keyed k (ap own (same (at_key k)) ∙ e);
          numbered = λ i e.
              let longer : length (array_headers (us ++ (o ∷ []))) ≡ length (array_headers us) + length (array_headers (o ∷ [])) =
              ap length (arrays-append us (o ∷ [])) ∙ length-append (array_headers us) (array_headers (o ∷ [])) in
              let fits : length (array_headers us) ≤ i = omega arith in
              sym (same (at_element i)) ∙ (h []).numbered i fits;
          arrayed = subst AreArrayed (sym (roles-append us (o ∷ []))) arrayed;
          passed = subst ArePassed (sym (roles-append us (o ∷ []))) passed;
        }
    at_path (s ∷ p) =
        subst (λ ps. IsReadyAt (paths_from p ps) (under_path p (under s (us ++ (o ∷ []))))) (below s)
        (subst (λ xs. IsReadyAt (paths_from p (paths_under s paths)) (under_path p xs)) (same s) (h (s ∷ p)))

-- roles that head nothing and add no element
pub arrayed-passed : (rs more : List Role) → list_any is_header_role more ≡ false → list_any is_array_role more ≡ false → AreArrayed rs
    → AreArrayed (rs ++ more)
arrayed-passed rs more no_header no_array h e =
    let before : list_any is_array_role rs ≡ true =
    sym (list_any-append is_array_role rs more ∙ ap (λ b. list_any is_array_role rs || b) no_array ∙ or-false (list_any is_array_role rs))
    ∙ e in
    let was = h before in (
      first-more rs more array_role was.0,
      list_any-append is_header_role rs more ∙ or_from (list_any is_header_role rs) (list_any is_header_role more) was.1 no_header,
    )

pub passed-more : (rs more : List Role) → list_any is_through_role more ≡ false → ArePassed rs → ArePassed (rs ++ more)
passed-more rs more none h e =
    let before : list_any is_through_role rs ≡ true =
    sym (list_any-append is_through_role rs more ∙ ap (λ b. list_any is_through_role rs || b) none ∙ or-false (list_any is_through_role rs))
    ∙ e in
    list_any-append is_array_role rs more ∙ ap (λ b. b || list_any is_array_role more) (h before)

-- no header in double brackets more
pub count-passed : (source : Source) (start : ℕ) (role : Role) (g : Segment) (paths : List Path) (us : List (Mention Source))
    → is_array_role role ≡ false → AreReadyPaths paths us → elements_at paths []
    ≡ length (array_headers (us ++ (own_mention source start role g ∷ [])))
count-passed source start role g paths us no_array h =
    let o = own_mention source start role g in
    (h []).counted
    ∙ ap length (sym (arrays-append us (o ∷ []) ∙ ap (λ b. array_headers us ++ (if b then o ∷ [] else [])) no_array
    ∙ append-nil (array_headers us)))

pub ready-implied : (source : Source) (start : ℕ) (g : Segment) (paths : List Path) (us : List (Mention Source)) → AreReady paths us
    → AreReady paths (us ++ (own_mention source start implied_role g ∷ []))
ready-implied source start g paths us h =
    record {
      named = all-append IsNamed us (o ∷ []) h.named (inl refl, tt);
      headed = header-last us o h.headed (λ is. absurd cc);
      sourced = all-append IsHeaded us (o ∷ []) h.sourced (λ is. absurd cc, tt);
      at = paths-own source start implied_role g paths paths us (λ s. refl) (count-passed source start implied_role g paths us refl h.at)
          (arrayed-passed (roles us) (implied_role ∷ []) refl refl (h.at []).arrayed)
          (passed-more (roles us) (implied_role ∷ []) refl (h.at []).passed) h.at;
    }
  where
    o : Mention Source
    o = own_mention source start implied_role g
