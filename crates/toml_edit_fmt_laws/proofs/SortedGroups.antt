-- A group in order, and what is kept where lines change places: what holds of statements but for what is before them and their newlines.
use Rattle.std.proofs.Common.{◌≡◌, refl, sym, ap, subst, ◌∙◌, suc, inl, inr, Bool, true, false, not, List, [], ◌∷◌, ◌++◌, length, append_assoc}
use Rattle.std.specs.Prelude.{◌&&◌, if◌then◌else◌, map}
use Rattle.std.specs.Cmp.{IsStrictWeakOrder}
use Rattle.std.specs.List.{AllByRecursion, list_all, list_any}
use Rattle.std.specs.List.Sorted.{IsPermutation}
use Rattle.std.proofs.lemmas.Bool.{cases_Bool}
use Rattle.std.proofs.lemmas.Cmp.{lists_total, nat_list_cmp_total}
use Rattle.std.proofs.lemmas.List.{map-append}
use Rattle.std.proofs.lemmas.List.MinMax.{ranks_by}
use Rattle.std.proofs.lemmas.List.Sorted.{IsPermutation-refl, IsPermutation-sym, IsPermutation-cons, IsPermutation-trans, IsPermutation-middle}
use Rattle.toml_edit_model.specs.Order.{insert_by}
use Rattle.toml_edit_model.specs.Syntax.{Statement, key_line, header, newline_after}
use Rattle.toml_edit_model.specs.Text.{Text}
use Rattle.toml_edit_laws.proofs.common.Each.{all-insert, all-append, all-map, trivially}
use Rattle.toml_edit_laws.proofs.common.InOrder.{in-order}
use Rattle.toml_edit_laws.proofs.common.OrderLaws.{all-sorted, sorted-image, sorted-alike}
use Rattle.toml_edit_laws.proofs.common.Pairs.{AllPairs}
use Rattle.toml_edit_laws.proofs.common.Sorting.{insert-first}
use Rattle.toml_edit_laws.proofs.common.Tests.{and_left, and_right, and_both, not-true, append-nil}
use Rattle.toml_edit_fmt_laws.specs.Rules.{Rules}
use Rattle.toml_edit_fmt_laws.specs.Formatted.{State, start, reached, after, stays, leading_of}
use Rattle.toml_edit_fmt_laws.specs.Sorted.{Names, names, names_lt, same_names, path_of, begins_group, with_leading, with_newline, without_head, with_head, head_of, with_newlines, goes_first, in_order, sorted_group, is_asked, is_key_line, sorted_statements}
use Rattle.toml_edit_fmt_laws.specs.SortedPromises.{IsRun, SortsRuns, SortsByRuns, bare, SortedKeepsStatements}

-- ---- the order

pub lawful : IsStrictWeakOrder names_lt
lawful = ranks_by (lists_total nat_list_cmp_total) (λ ks. ks)

abbrev pub names_of : Statement → Names
names_of s = names (path_of s)

-- the one list of names may be before the other
abbrev pub go_first : Names → Names → Bool
go_first ks ls = not (names_lt ls ks)

not-false : (b : Bool) → not b ≡ false → b ≡ true
not-false true e = refl
not-false false e = cc

pub go-trans : (a b c : Names) → go_first a b ≡ true → go_first b c ≡ true → go_first a c ≡ true
go-trans a b c h g = ap not (lawful.chain c b a (not-true (names_lt c b) g) (not-true (names_lt b a) h))

go-total : (a b : Names) → go_first a b ≡ false → go_first b a ≡ true
go-total a b h = ap not (lawful.one_way b a (not-false (names_lt b a) h))

pub go-self : (a : Names) → go_first a a ≡ true
go-self a = elim (cases_Bool (go_first a a)) [ inl e ↦ e | inr e ↦ go-total a a e ]

pub first-trans : (a b c : Statement) → goes_first a b ≡ true → goes_first b c ≡ true → goes_first a c ≡ true
first-trans a b c h g = go-trans (names_of a) (names_of b) (names_of c) h g

first-total : (a b : Statement) → goes_first a b ≡ false → goes_first b a ≡ true
first-total a b h = go-total (names_of a) (names_of b) h

abbrev pub Ordered : List Statement → Type 0
Ordered ss = AllPairs (λ a b. goes_first a b ≡ true) ss

insert-ordered : (a : Statement) (ss : List Statement) → Ordered ss → Ordered (insert_by goes_first a ss)
insert-ordered a [] h = (tt, tt)
insert-ordered a (b ∷ ss) h =
    elim (cases_Bool (goes_first a b)) [
      | inl e ↦ rw e ((e, all-map (λ x. goes_first b x ≡ true) (λ x. goes_first a x ≡ true) ss (λ x g. first-trans a b x e g) h.0), h)
      | inr e ↦ rw e (all-insert (λ x. goes_first b x ≡ true) goes_first a ss (first-total a b e) h.0, insert-ordered a ss h.1)
    ]

pub order-ordered : (ss : List Statement) → Ordered (in_order ss)
order-ordered [] = tt
order-ordered (s ∷ ss) = insert-ordered s (in_order ss) (order-ordered ss)

-- what is in order stays
pub ordered-stays : (ss : List Statement) → Ordered ss → in_order ss ≡ ss
ordered-stays [] h = refl
ordered-stays (s ∷ ss) h = ap (insert_by goes_first s) (ordered-stays ss h.1) ∙ insert-first goes_first s ss h.0

-- ---- lengths and newlines

insert-length : (a : Statement) (ss : List Statement) → length (insert_by goes_first a ss) ≡ suc (length ss)
insert-length a [] = refl
insert-length a (b ∷ ss) = by_test (goes_first a b) (insert-length a ss)
  where
    by_test : (t : Bool) → length (insert_by goes_first a ss) ≡ suc (length ss)
        → length (if t then a ∷ b ∷ ss else b ∷ insert_by goes_first a ss) ≡ suc (suc (length ss))
    by_test true ih = refl
    by_test false ih = ap suc ih

pub order-length : (ss : List Statement) → length (in_order ss) ≡ length ss
order-length [] = refl
order-length (s ∷ ss) = insert-length s (in_order ss) ∙ ap suc (order-length ss)

pub head-length : (t : Text) (ss : List Statement) → length (with_head t ss) ≡ length ss
head-length t [] = refl
head-length t (s ∷ ss) = refl

without-length : (ss : List Statement) → length (without_head ss) ≡ length ss
without-length [] = refl
without-length (s ∷ ss) = refl

newlines-length : (ss : List Statement) → length (map newline_after ss) ≡ length ss
newlines-length [] = refl
newlines-length (s ∷ ss) = ap suc (newlines-length ss)

newline-set : (t : Text) (s : Statement) → newline_after (with_newline t s) ≡ t
newline-set t (key_line f v end) = refl
newline-set t (header h end) = refl

newlines-set : (ts : List Text) (ss : List Statement) → length ts ≡ length ss → map newline_after (with_newlines ts ss) ≡ ts
newlines-set [] [] h = refl
newlines-set [] (s ∷ ss) h = absurd cc
newlines-set (t ∷ ts) [] h = absurd cc
newlines-set (t ∷ ts) (s ∷ ss) h =
    ap (λ u. u ∷ map newline_after (with_newlines ts ss)) (newline-set t s)
    ∙ ap (λ us. t ∷ us) (newlines-set ts ss (let e : length ts ≡ length ss = cc in e))

pub group-length : (ss : List Statement) → length (map newline_after ss) ≡ length (with_head (head_of ss) (in_order (without_head ss)))
group-length ss =
    newlines-length ss
    ∙ sym (head-length (head_of ss) (in_order (without_head ss)) ∙ order-length (without_head ss) ∙ without-length ss)

pub group-newlines : (ss : List Statement) → map newline_after (sorted_group ss) ≡ map newline_after ss
group-newlines ss = newlines-set (map newline_after ss) (with_head (head_of ss) (in_order (without_head ss))) (group-length ss)

-- ---- statements without what is before them and their newlines

bare-leading : (t : Text) (s : Statement) → bare (with_leading t s) ≡ bare s
bare-leading t (key_line f v end) = refl
bare-leading t (header h end) = refl

bare-newline : (t : Text) (s : Statement) → bare (with_newline t s) ≡ bare s
bare-newline t (key_line f v end) = refl
bare-newline t (header h end) = refl

bare-path : (s : Statement) → path_of (bare s) ≡ path_of s
bare-path (key_line f v end) = refl
bare-path (header h end) = refl

bare-kind : (s : Statement) → is_key_line (bare s) ≡ is_key_line s
bare-kind (key_line f v end) = refl
bare-kind (header h end) = refl

bare-without : (ss : List Statement) → map bare (without_head ss) ≡ map bare ss
bare-without [] = refl
bare-without (s ∷ ss) = ap (λ x. x ∷ map bare ss) (bare-leading _ s)

bare-with : (t : Text) (ss : List Statement) → map bare (with_head t ss) ≡ map bare ss
bare-with t [] = refl
bare-with t (s ∷ ss) = ap (λ x. x ∷ map bare ss) (bare-leading _ s)

bare-newlines : (ts : List Text) (ss : List Statement) → map bare (with_newlines ts ss) ≡ map bare ss
bare-newlines [] ss = refl
bare-newlines (t ∷ ts) [] = refl
bare-newlines (t ∷ ts) (s ∷ ss) =
    ap (λ x. x ∷ map bare (with_newlines ts ss)) (bare-newline t s) ∙ ap (λ xs. bare s ∷ xs) (bare-newlines ts ss)

bare-order : (ss : List Statement) → map bare (in_order ss) ≡ in_order (map bare ss)
bare-order ss =
    sym (sorted-image bare goes_first ss
    ∙ ap (map bare) (sorted-alike (λ s. Unit {0}) (λ x y. goes_first (bare x) (bare y)) goes_first same ss (trivially ss)))
  where
    same : (a b : Statement) → Unit {0} → Unit {0} → goes_first (bare a) (bare b) ≡ goes_first a b
    same a b p q =
        ap (λ x. not (names_lt (names x) (names (path_of (bare a))))) (bare-path b)
        ∙ ap (λ x. not (names_lt (names (path_of b)) (names x))) (bare-path a)

pub bare-group : (ss : List Statement) → map bare (sorted_group ss) ≡ in_order (map bare ss)
bare-group ss =
    bare-newlines (map newline_after ss) (with_head (head_of ss) (in_order (without_head ss)))
    ∙ bare-with (head_of ss) (in_order (without_head ss)) ∙ bare-order (without_head ss) ∙ ap in_order (bare-without ss)

abbrev pub AreLines : List Statement → Type 0
AreLines ss = AllByRecursion (λ s. is_key_line s ≡ true) ss

bare-lines : (ss : List Statement) → AreLines ss → AreLines (map bare ss)
bare-lines [] h = tt
bare-lines (s ∷ ss) h = (bare-kind s ∙ h.0, bare-lines ss h.1)

-- ---- statement by statement

abbrev pub joins : Rules → Bool → State → Statement → Bool
joins r now st s = now && (is_key_line s && not (stays (reached r st (leading_of s))))

pub joined-line : (r : Rules) (now : Bool) (st : State) (s : Statement) → joins r now st s ≡ true → is_key_line s ≡ true
joined-line r now st s e = and_left (is_key_line s) _ (and_right now _ e)

module _ (r : Rules) (tables : List Names) (P : List Statement → Bool → State → List Statement → List Statement → Type 0)
    (at_end : (group : List Statement) (now : Bool) (st : State) → P group now st [] (sorted_group group))
    (at_group : (group : List Statement) (now : Bool) (st : State) (s : Statement) (rest new : List Statement) → joins r now st s ≡ true
    → begins_group r (leading_of s) ≡ true → P (s ∷ []) now (after r st s) rest new → P group now st (s ∷ rest) (sorted_group group ++ new))
    (at_line : (group : List Statement) (now : Bool) (st : State) (s : Statement) (rest new : List Statement) → joins r now st s ≡ true
    → begins_group r (leading_of s) ≡ false → P (group ++ (s ∷ [])) now (after r st s) rest new → P group now st (s ∷ rest) new)
    (at_other : (group : List Statement) (now : Bool) (st : State) (s : Statement) (rest new : List Statement) → joins r now st s ≡ false
    → P [] (is_asked tables now s) (after r st s) rest new → P group now st (s ∷ rest) (sorted_group group ++ (s ∷ new))) where
  pub by_groups : (group : List Statement) (now : Bool) (st : State) (ss : List Statement)
      → P group now st ss (sorted_statements r tables group now st ss)
  by_groups group now st [] = at_end group now st
  by_groups group now st (s ∷ rest) =
      by_tests (joins r now st s) (begins_group r (leading_of s)) refl refl (λ g n. by_groups g n (after r st s) rest)
    where
      by_tests : (b c : Bool) → joins r now st s ≡ b → begins_group r (leading_of s) ≡ c
          → ((g : List Statement) (n : Bool) → P g n (after r st s) rest (sorted_statements r tables g n (after r st s) rest))
          → P group now st (s ∷ rest) (
          if b then (
          if c then sorted_group group ++ sorted_statements r tables (s ∷ []) now (after r st s) rest
          else sorted_statements r tables (group ++ (s ∷ [])) now (after r st s) rest
          )
          else sorted_group group ++ (s ∷ sorted_statements r tables [] (is_asked tables now s) (after r st s) rest))
      by_tests false c e f ih = at_other group now st s rest _ e (ih [] (is_asked tables now s))
      by_tests true true e f ih = at_group group now st s rest _ e f (ih (s ∷ []) now)
      by_tests true false e f ih = at_line group now st s rest _ e f (ih (group ++ (s ∷ [])) now)

-- ---- what is kept where two lines change places

module _ (R : List Statement → List Statement → Type 0) (same : (xs : List Statement) → R xs xs)
    (chain : (xs ys zs : List Statement) → R xs ys → R ys zs → R xs zs)
    (behind : (s : Statement) (xs ys : List Statement) → R xs ys → R (s ∷ xs) (s ∷ ys))
    (swap : (a b : Statement) (xs : List Statement) → is_key_line a ≡ true → is_key_line b ≡ true → R (a ∷ b ∷ xs) (b ∷ a ∷ xs)) where
  insert-kept : (a : Statement) (xs rest : List Statement) → is_key_line a ≡ true → AreLines xs
      → R (a ∷ (xs ++ rest)) (insert_by goes_first a xs ++ rest)
  insert-kept a [] rest h g = same (a ∷ rest)
  insert-kept a (x ∷ xs) rest h g = by_test (goes_first a x) (insert-kept a xs rest h g.1)
    where
      by_test : (b : Bool) → R (a ∷ (xs ++ rest)) (insert_by goes_first a xs ++ rest)
          → R (a ∷ x ∷ (xs ++ rest)) ((if b then a ∷ x ∷ xs else x ∷ insert_by goes_first a xs) ++ rest)
      by_test true ih = same (a ∷ x ∷ (xs ++ rest))
      by_test false ih =
          chain (a ∷ x ∷ (xs ++ rest)) (x ∷ a ∷ (xs ++ rest)) (x ∷ (insert_by goes_first a xs ++ rest)) (swap a x (xs ++ rest) h g.0)
          (behind x (a ∷ (xs ++ rest)) (insert_by goes_first a xs ++ rest) ih)

  order-kept : (xs rest : List Statement) → AreLines xs → R (xs ++ rest) (in_order xs ++ rest)
  order-kept [] rest h = same rest
  order-kept (x ∷ xs) rest h =
      chain (x ∷ (xs ++ rest)) (x ∷ (in_order xs ++ rest)) (in_order (x ∷ xs) ++ rest)
      (behind x (xs ++ rest) (in_order xs ++ rest) (order-kept xs rest h.1))
      (insert-kept x (in_order xs) rest h.0 (all-sorted (λ s. is_key_line s ≡ true) goes_first xs h.1))

  front-kept : (ss xs ys : List Statement) → R xs ys → R (ss ++ xs) (ss ++ ys)
  front-kept [] xs ys h = h
  front-kept (s ∷ ss) xs ys h = behind s (ss ++ xs) (ss ++ ys) (front-kept ss xs ys h)

  module _ (r : Rules) (tables : List Names) where
    group-kept : (group rest new : List Statement) → AreLines group → R (map bare rest) (map bare new)
        → R (map bare group ++ map bare rest) (map bare (sorted_group group ++ new))
    group-kept group rest new h k =
        let g = map bare group in
        subst (R (g ++ map bare rest)) (sym (map-append bare (sorted_group group) new ∙ ap (λ xs. xs ++ map bare new) (bare-group group)))
        (chain (g ++ map bare rest) (in_order g ++ map bare rest) (in_order g ++ map bare new)
        (order-kept g (map bare rest) (bare-lines group h)) (front-kept (in_order g) (map bare rest) (map bare new) k))

    pub statements-kept : (group : List Statement) (now : Bool) (st : State) (ss : List Statement) → AreLines group
        → R (map bare group ++ map bare ss) (map bare (sorted_statements r tables group now st ss))
    statements-kept =
        by_groups r tables (λ group now st ss new. AreLines group → R (map bare group ++ map bare ss) (map bare new))
        (λ group now st h. subst (λ xs. R (map bare group ++ []) (map bare xs)) (append-nil (sorted_group group)) (group-kept group [] [] h (same [])))
        (λ group now st s rest new e f ih h. group-kept group (s ∷ rest) new h (ih (joined-line r now st s e, tt)))
        (λ group now st s rest new e f ih h. subst (λ xs. R xs (map bare new))
        (ap (λ xs. xs ++ map bare rest) (map-append bare group (s ∷ [])) ∙ append_assoc (map bare group) (bare s ∷ []) (map bare rest))
        (ih (all-append (λ x. is_key_line x ≡ true) group (s ∷ []) h (joined-line r now st s e, tt))))
        (λ group now st s rest new e ih h. group-kept group (s ∷ rest) (s ∷ new) h (behind (bare s) (map bare rest) (map bare new) (ih tt)))

-- ---- the same statements

permuted : (r : Rules) (tables : List Names) (now : Bool) (ss : List Statement)
    → IsPermutation (map bare ss) (map bare (sorted_statements r tables [] now start ss))
permuted r tables now ss =
    statements-kept IsPermutation IsPermutation-refl IsPermutation-trans IsPermutation-cons swap r tables [] now start ss tt
  where
    swap : (a b : Statement) (xs : List Statement) → is_key_line a ≡ true → is_key_line b ≡ true → IsPermutation (a ∷ b ∷ xs) (b ∷ a ∷ xs)
    swap a b xs h g = IsPermutation-sym (b ∷ a ∷ xs) (a ∷ b ∷ xs) (IsPermutation-middle (b ∷ []) a xs)

module _ (r : Rules) (tables : List Names) where
  pub newlines-kept : (group : List Statement) (now : Bool) (st : State) (ss : List Statement)
      → map newline_after (sorted_statements r tables group now st ss) ≡ map newline_after group ++ map newline_after ss
  newlines-kept =
      by_groups r tables (λ group now st ss new. map newline_after new ≡ map newline_after group ++ map newline_after ss)
      (λ group now st. group-newlines group ∙ sym (append-nil (map newline_after group)))
      (λ group now st s rest new e f ih. behind group new ∙ ap (λ us. map newline_after group ++ us) ih)
      (λ group now st s rest new e f ih. ih ∙ ap (λ us. us ++ map newline_after rest) (map-append newline_after group (s ∷ []))
      ∙ append_assoc (map newline_after group) (newline_after s ∷ []) (map newline_after rest))
      (λ group now st s rest new e ih. behind group (s ∷ new) ∙ ap (λ us. map newline_after group ++ (newline_after s ∷ us)) ih)
    where
      behind : (group new : List Statement) → map newline_after (sorted_group group ++ new) ≡ map newline_after group ++ map newline_after new
      behind group new =
          map-append newline_after (sorted_group group) new ∙ ap (λ us. us ++ map newline_after new) (group-newlines group)

  -- ---- run by run

  run-of : (group : List Statement) → AreLines group → IsRun (record { old = group; new = sorted_group group })
  run-of group h =
      inr (record {
        are_lines = all_lines group h;
        lines = in_order (without_head group);
        order = in-order goes_first first-total first-trans (without_head group);
        is = refl;
      })
    where
      all_lines : (ss : List Statement) → AreLines ss → list_all is_key_line ss ≡ true
      all_lines [] g = refl
      all_lines (s ∷ ss) g = and_both (is_key_line s) (list_all is_key_line ss) g.0 (all_lines ss g.1)

  runs-of : (group : List Statement) (now : Bool) (st : State) (ss : List Statement) → AreLines group
      → SortsRuns (group ++ ss) (sorted_statements r tables group now st ss)
  runs-of =
      by_groups r tables (λ group now st ss new. AreLines group → SortsRuns (group ++ ss) new)
      (λ group now st h. record {
        runs = record { old = group; new = sorted_group group } ∷ [];
        each = (run-of group h, tt);
        before = refl;
        after = append-nil (sorted_group group);
      })
      (λ group now st s rest new e f ih h. let more = ih (joined-line r now st s e, tt) in
      record {
        runs = record { old = group; new = sorted_group group } ∷ more.runs;
        each = (run-of group h, more.each);
        before = ap (λ xs. group ++ xs) more.before;
        after = ap (λ xs. sorted_group group ++ xs) more.after;
      })
      (λ group now st s rest new e f ih h. subst (λ xs. SortsRuns xs new) (append_assoc group (s ∷ []) rest)
      (ih (all-append (λ x. is_key_line x ≡ true) group (s ∷ []) h (joined-line r now st s e, tt))))
      (λ group now st s rest new e ih h. let more = ih tt in
      record {
        runs = record { old = group; new = sorted_group group } ∷ record { old = s ∷ []; new = s ∷ [] } ∷ more.runs;
        each = (run-of group h, (inl refl, more.each));
        before = ap (λ xs. group ++ (s ∷ xs)) more.before;
        after = ap (λ xs. sorted_group group ++ (s ∷ xs)) more.after;
      })

pub sorts_by_runs : SortsByRuns
sorts_by_runs r tables d = runs-of r tables [] (list_any (same_names []) tables) start d.statements tt

pub keeps_statements : SortedKeepsStatements
keeps_statements r tables d =
    let now = list_any (same_names []) tables in
    record {
      statements = permuted r tables now d.statements;
      newlines = newlines-kept r tables [] now start d.statements;
      has_mark = refl;
      final = refl;
    }
