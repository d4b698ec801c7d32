-- Walks over lines: one after the other, and what they leave the visitors with.
use Rattle.std.proofs.Common.{◌≡◌, refl, sym, ap, subst, ◌∙◌, Bool, true, false, List, [], ◌∷◌, ◌++◌}
use Rattle.std.specs.Borrow.{MutBor}
use Rattle.std.specs.Fmt.{WritesInCalls}
use Rattle.std.specs.Prelude.{map, not, if◌then◌else◌}
use Rattle.toml_edit_io.proofs.Puts.{put_none, put_same, put_two}
use Rattle.toml_edit_model.specs.Iterating.{line_value}
use Rattle.toml_edit_model.specs.Mode.{Mode, plain}
use Rattle.toml_edit_model.specs.Print.{Line, dotted_lines, inside_lines, is_line_node, line_of, lines_inside, table_lines, value_of}
use Rattle.toml_edit_model.specs.Text.{Text, is_empty, joined}
use Rattle.toml_edit_model.specs.Tree.{Key, Node, nothing, leaf, list, inline, table, tables, Slots, no_slots, slot}
use Rattle.toml_edit_laws.specs.PrintByVisits.{has_lines, lines_text}
use Rattle.toml_edit_laws.proofs.print_by_visits.ValueTexts.{lines-some}
use Rattle.toml_edit_tree.specs.Visits.{PutsLine, VisitsInOrder, visits_none, visits_last, visits_next, line_text, shown_lines}

abbrev pub Shown : Type 0
Shown = List Key × Node

-- ---- walks

module _ {V A : Type 0} {visits : V → A → Bool → V → Type 0} where
  -- two lists, one after the other
  pub visits-append : {xs ys : List A} {u v w : V} {goes : Bool} → VisitsInOrder visits xs u true v → VisitsInOrder visits ys v goes w
      → VisitsInOrder visits (xs ++ ys) u goes w
  visits-append visits_none h = h
  visits-append (visits_next v p r) h = visits_next v p (visits-append r h)

  -- what is after the end of a walk isn't visited
  pub visits-ended : {xs : List A} (ys : List A) {u v : V} → VisitsInOrder visits xs u false v → VisitsInOrder visits (xs ++ ys) u false v
  visits-ended ys (visits_last p) = visits_last p
  visits-ended ys (visits_next v p r) = visits_next v p (visits-ended ys r)

  -- one visit
  pub visits-one : {x : A} {u : V} (v : V) (goes : Bool) → visits u x goes v → VisitsInOrder visits (x ∷ []) u goes v
  visits-one v true p = visits_next v p visits_none
  visits-one v false p = visits_last p

  -- the same list
  pub visits-same : (xs ys : List A) {u v : V} {goes : Bool} → VisitsInOrder visits xs u goes v → xs ≡ ys
      → VisitsInOrder visits ys u goes v
  visits-same xs ys {u} {v} {goes} h is = subst (λ zs. VisitsInOrder visits zs u goes v) is h

  -- what is known of the end
  pub visits-goes : {xs : List A} {u v : V} {goes stops : Bool} → VisitsInOrder visits xs u goes v → goes ≡ stops
      → VisitsInOrder visits xs u stops v
  visits-goes {xs} {u} {v} h is = subst (λ b. VisitsInOrder visits xs u b v) is h

-- ---- the visitors

-- lines that are put
module _ {V S : Type 0} (puts : S → Text → S → Type 0) (mode_in : V → Mode) (out_in : V → MutBor S) where
  abbrev PutsEach : V → Shown → Bool → V → Type 0
  PutsEach v l goes w = PutsLine puts (mode_in v) (out_in v) l goes (mode_in w) (out_in w)

  pub lines-put : (mode : Mode) (ls : List Shown) (v w : V) (goes : Bool) → mode_in v ≡ mode → VisitsInOrder PutsEach ls v goes w
      → WritesInCalls puts (out_in v).now (joined (map (line_text mode) ls)) (out_in w).now
  lines-put mode [] v w goes is visits_none = put_none _ _ refl
  lines-put mode (l ∷ ls) v w goes is (visits_last p) = let e = p.goes_on in absurd cc
  lines-put mode (l ∷ ls) v w goes is (visits_next u p r) =
      put_two _ _ _ _ _ _ (put_same _ _ _ _ p.wrote (ap (λ (m : Mode). line_text m l) is))
      (lines-put mode ls u w goes (p.same_mode ∙ is) r) refl

  pub same-sink : (ls : List Shown) (v w : V) (goes : Bool) → VisitsInOrder PutsEach ls v goes w
      → (out_in w).ghost_name ≡ (out_in v).ghost_name
  same-sink [] v w goes visits_none = refl
  same-sink (l ∷ ls) v w goes (visits_last p) = p.same_reference
  same-sink (l ∷ ls) v w goes (visits_next u p r) = same-sink ls u w goes r ∙ p.same_reference

-- a walk that ends at the first line
pub first-ends : {V X : Type 0} (ls : List X) (v w : V) (goes : Bool)
    → VisitsInOrder (λ (u : V) (l : X) (more : Bool) (z : V). more ≡ false) ls v goes w → goes ≡ is_empty ls
first-ends [] v w goes visits_none = refl
first-ends (l ∷ ls) v w goes (visits_last p) = refl
first-ends (l ∷ ls) v w goes (visits_next u p r) = absurd cc

empty-map : (ls : List Line) → is_empty (map line_value ls) ≡ is_empty ls
empty-map [] = refl
empty-map (l ∷ ls) = refl

not-not : (b : Bool) → not (not b) ≡ b
not-not true = refl
not-not false = refl

pub some-lines : (ss : Slots) (goes : Bool) → goes ≡ is_empty (shown_lines false ss []) → not goes ≡ has_lines ss
some-lines ss goes is =
    ap not (is ∙ empty-map (table_lines plain ss []) ∙ lines-some plain ss []) ∙ not-not (has_lines ss)

-- ---- the lines in another mode

module _ (mode : Mode) where
  abbrev in_mode : Shown → Line
  in_mode l = record { keys = l.0; item = l.1; value = value_of mode l.1 }

  abbrev again : List Line → List Line
  again ls = map in_mode (map line_value ls)

  again-append : (xs ys : List Line) → again (xs ++ ys) ≡ again xs ++ again ys
  again-append [] ys = refl
  again-append (l ∷ xs) ys = ap (λ ls. in_mode (line_value l) ∷ ls) (again-append xs ys)

  slot-again : (n : Node) (ks : List Key) (own rest inner behind : List Line) (b : Bool) → own ≡ again inner → rest ≡ again behind
      → elim b [ true ↦ line_of ks n (value_of mode n) | false ↦ own ] ++ rest
      ≡ again (elim b [ true ↦ line_of ks n (value_of plain n) | false ↦ inner ] ++ behind)
  slot-again n ks own rest inner behind true first next = ap (λ ls. in_mode (ks, n) ∷ ls) next
  slot-again n ks own rest inner behind false first next =
      ap (λ ls. ls ++ rest) first ∙ ap (λ ls. again inner ++ ls) next ∙ sym (again-append inner behind)

  mutual
    inside-again : (ss : Slots) (ks : List Key) → inside_lines mode ss ks ≡ again (inside_lines plain ss ks)
    inside-again no_slots ks = refl
    inside-again (slot k n ss) ks =
        slot-again n (ks ++ (k ∷ [])) (lines_inside mode n (ks ++ (k ∷ []))) (inside_lines mode ss ks)
        (lines_inside plain n (ks ++ (k ∷ []))) (inside_lines plain ss ks) (is_line_node n) (within-again n (ks ++ (k ∷ [])))
        (inside-again ss ks)

    within-again : (n : Node) (ks : List Key) → lines_inside mode n ks ≡ again (lines_inside plain n ks)
    within-again (inline f ss) ks = inside-again ss ks
    within-again (table f ss) ks = inside-again ss ks
    within-again (leaf s spelling d) ks = refl
    within-again (list f xs) ks = refl
    within-again (tables e xs) ks = refl
    within-again nothing ks = refl

  if-again : (b : Bool) (own inner : List Line) → own ≡ again inner → (if b then own else []) ≡ again (if b then inner else [])
  if-again true own inner e = e
  if-again false own inner e = refl

  mutual
    table-again : (ss : Slots) (ks : List Key) → table_lines mode ss ks ≡ again (table_lines plain ss ks)
    table-again no_slots ks = refl
    table-again (slot k n ss) ks =
        slot-again n (ks ++ (k ∷ [])) (dotted_lines mode n (ks ++ (k ∷ []))) (table_lines mode ss ks)
        (dotted_lines plain n (ks ++ (k ∷ []))) (table_lines plain ss ks) (is_line_node n) (dotted-again n (ks ++ (k ∷ [])))
        (table-again ss ks)

    dotted-again : (n : Node) (ks : List Key) → dotted_lines mode n ks ≡ again (dotted_lines plain n ks)
    dotted-again (table f ss) ks = if-again f.is_dotted (table_lines mode ss ks) (table_lines plain ss ks) (table-again ss ks)
    dotted-again (inline f ss) ks = inside-again ss ks
    dotted-again (leaf s spelling d) ks = refl
    dotted-again (list f xs) ks = refl
    dotted-again (tables e xs) ks = refl
    dotted-again nothing ks = refl

  -- the texts of the lines that are visited
  texts-again : (ls : List Shown) → lines_text mode (map in_mode ls) ≡ joined (map (line_text mode) ls)
  texts-again [] = refl
  texts-again (l ∷ ls) = ap (λ t. line_text mode l ++ t) (texts-again ls)

  pub lines-shown : (ss : Slots) → joined (map (line_text mode) (shown_lines false ss [])) ≡ lines_text mode (table_lines mode ss [])
  lines-shown ss = sym (ap (lines_text mode) (table-again ss []) ∙ texts-again (shown_lines false ss []))
