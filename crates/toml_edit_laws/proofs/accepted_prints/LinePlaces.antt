-- Where the lines of a table, and of an inline table, stand: what they say of paths suits what stands there, and no two have one key.
use Rattle.std.proofs.Common.{◌≡◌, refl, sym, ◌∙◌, ap, subst, ℕ, suc, arith, Bool, true, false, List, [], ◌∷◌, ◌++◌, append_assoc, length}
use Rattle.std.proofs.Common.{length-append}
use Rattle.std.specs.Prelude.{◌||◌, not, if◌then◌else◌}
use Rattle.std.specs.List.{AllByRecursion}
use Rattle.toml_edit_model.specs.Mode.{Mode}
use Rattle.toml_edit_model.specs.Text.{Text, same_text}
use Rattle.toml_edit_model.specs.Paths.{at_key, Path, to_key}
use Rattle.toml_edit_model.specs.Tree.{Key, TableFields, Node, nothing, leaf, list, inline, table, tables, Slots, no_slots, slot, has_key}
use Rattle.toml_edit_model.specs.Tree.{IsWellMade, SlotsAreWellMade}
use Rattle.toml_edit_model.specs.Print.{Line, line_of, is_line_node, value_of, inside_lines, lines_inside, table_lines, dotted_lines, below}
use Rattle.toml_edit_laws.proofs.common.Tests.{same_text-refl, or-true, true-false, not-true}
use Rattle.toml_edit_laws.proofs.accepted_prints.PrintedCut.{if_lines}
use Rattle.toml_edit_laws.proofs.accepted_prints.Spots.{Spot, valued, dotted, headed, inside_node_spot, node_spot, slots_spot, suits, Sees}
use Rattle.toml_edit_laws.proofs.accepted_prints.Spots.{SeesInside, SeesNode, SeesNodeInside, sees-first, sees-rest, inside-first}
use Rattle.toml_edit_laws.proofs.accepted_prints.Spots.{inside-rest, sees-here, inside-here}
use Rattle.toml_edit_laws.proofs.accepted_prints.NamedPaths.{names-snoc, down, dotted_told, down-snoc, dotted-snoc, line-snoc}
use Rattle.toml_edit_laws.proofs.accepted_prints.NamedPaths.{below-down, Fit}
use Rattle.toml_edit_laws.proofs.common.Cores.{line_cores}
use Rattle.toml_edit_laws.proofs.common.Pairs.{AllPairs, all-across, pairs-append}
use Rattle.toml_edit_laws.proofs.common.Each.{all-append, all-map}
use Rattle.toml_edit_model.specs.Roles.{dotted_role, value_role}
use Rattle.toml_edit_model.specs.Keys.{names}

pub record Parted (xs ys : List Text) : Type 0 where
  pub common : List Text
  pub first : Text
  pub second : Text
  pub after_first : List Text
  pub after_second : List Text
  pub is_first : xs ≡ common ++ (first ∷ after_first)
  pub is_second : ys ≡ common ++ (second ∷ after_second)
  pub differ : first ≡ second → ⊥

abbrev pub PartedLines : Line → Line → Type 0
PartedLines l m = Parted (names l.keys) (names m.keys)

-- the line's key goes on by one of the slots' keys, or by this one
abbrev LineUnder : List Key → Key → Line → Type 0
LineUnder ks k l = (a : List Text) × (names l.keys ≡ names ks ++ (k.name ∷ a))

abbrev LineIn : Slots → List Key → Line → Type 0
LineIn ss ks l = (k : Text) × (a : List Text) × (has_key k ss ≡ true) × (names l.keys ≡ names ks ++ (k ∷ a))

under-deeper : (ss : Slots) (ks : List Key) (k : Key) (l : Line) → LineIn ss (ks ++ (k ∷ [])) l → LineUnder ks k l
under-deeper ss ks k l (j, a, has, e) =
    (j ∷ a, e ∙ ap (λ ns. ns ++ (j ∷ a)) (names-snoc ks k) ∙ append_assoc (names ks) (k.name ∷ []) (j ∷ a))

in-first : (k : Key) (n : Node) (ss : Slots) (ks : List Key) (l : Line) → LineUnder ks k l → LineIn (slot k n ss) ks l
in-first k n ss ks l h = (k.name, h.0, ap (λ b. b || has_key k.name ss) (same_text-refl k.name), h.1)

in-rest : (k : Key) (n : Node) (ss : Slots) (ks : List Key) (l : Line) → LineIn ss ks l → LineIn (slot k n ss) ks l
in-rest k n ss ks l (j, a, has, e) = (j, a, ap (λ b. same_text j k.name || b) has ∙ or-true (same_text j k.name), e)

first-apart : (k : Key) (ss : Slots) (ks : List Key) (l m : Line) → has_key k.name ss ≡ false → LineUnder ks k l → LineIn ss ks m
    → PartedLines l m
first-apart k ss ks l m none (a, e) (j, b, has, g) =
    record {
      common = names ks;
      first = k.name;
      second = j;
      after_first = a;
      after_second = b;
      is_first = e;
      is_second = g;
      differ = λ same. true-false (has_key j ss) has (subst (λ x. has_key x ss ≡ false) same none);
    }

if_pairs : (b : Bool) (ls : List Line) → AllPairs PartedLines ls → AllPairs PartedLines (if b then ls else [])
if_pairs true ls h = h
if_pairs false ls h = tt

module _ (mode : Mode) where
  -- ---- what stands on the way to a line

  module _ (K : Path → Spot) where
    -- what a line of the block says suits what stands there, and its value stands so many keys below the block
    pub record LineAt (p : Path) (l : Line) : Type 0 where
      pub front : List Text
      pub last : Text
      pub some : names l.keys ≡ front ++ (last ∷ [])
      pub said : AllByRecursion (Fit K) (line_cores p (names l.keys))
      pub value : K (below p l.keys) ≡ valued (length l.keys)

    key-path : (p : Path) (ks : List Key) (k : Key) → to_key (down p (names ks)) k.name ≡ down p (names (ks ++ (k ∷ [])))
    key-path p ks k = sym (down-snoc p (names ks) k.name) ∙ ap (down p) (sym (names-snoc ks k))

    key-count : (ks : List Key) (k : Key) → suc (length ks) ≡ length (ks ++ (k ∷ []))
    key-count ks k = omega (arith, length-append ks (k ∷ []))

    dotted-more : (p : Path) (ks : List Key) (k : Key) → AllByRecursion (Fit K) (dotted_told p (names ks))
        → suits dotted_role (K (to_key (down p (names ks)) k.name)) ≡ true
        → AllByRecursion (Fit K) (dotted_told p (names (ks ++ (k ∷ []))))
    dotted-more p ks k h g =
        subst (λ ns. AllByRecursion (Fit K) (dotted_told p ns)) (sym (names-snoc ks k))
        (subst (AllByRecursion (Fit K)) (sym (dotted-snoc p (names ks) k.name)) (all-append (Fit K) (dotted_told p (names ks)) _ h (g, tt)))

    line-at : (p : Path) (ks : List Key) (k : Key) (n : Node) → AllByRecursion (Fit K) (dotted_told p (names ks))
        → K (to_key (down p (names ks)) k.name) ≡ valued (suc (length ks))
        → LineAt p (record { keys = ks ++ (k ∷ []); item = n; value = value_of mode n })
    line-at p ks k n h g =
        record {
          front = names ks;
          last = k.name;
          some = names-snoc ks k;
          said =
              subst (λ ns. AllByRecursion (Fit K) (line_cores p ns)) (sym (names-snoc ks k))
              (subst (AllByRecursion (Fit K)) (sym (line-snoc p (names ks) k.name))
              (all-append (Fit K) (dotted_told p (names ks)) _ h (ap (suits value_role) g, tt)));
          value = ap K (below-down p (ks ++ (k ∷ [])) ∙ sym (key-path p ks k)) ∙ g ∙ ap valued (key-count ks k);
        }

    inside-value : (n : Node) (d : ℕ) → is_line_node n ≡ true → inside_node_spot n d [] ≡ valued d
    inside-value (leaf s r x) d h = refl
    inside-value (list f xs) d h = refl
    inside-value (inline f ss) d h = ap (λ b. if b then dotted else valued d) (not-true f.is_dotted h)
    inside-value (table f ss) d h = absurd cc
    inside-value (tables e xs) d h = absurd cc
    inside-value nothing d h = absurd cc

    table-value : (n : Node) (d : ℕ) → is_line_node n ≡ true → node_spot n d [] ≡ valued d
    table-value (leaf s r x) d h = refl
    table-value (list f xs) d h = refl
    table-value (inline f ss) d h = ap (λ b. if b then dotted else valued d) (not-true f.is_dotted h)
    table-value (table f ss) d h = absurd cc
    table-value (tables e xs) d h = absurd cc
    table-value nothing d h = absurd cc

    not-false : (b : Bool) → not b ≡ false → b ≡ true
    not-false true h = refl
    not-false false h = sym h

    by_line : (p : Path) (n : Node) (ks : List Key) (k : Key) (ls : List Line) (b : Bool) → is_line_node n ≡ b
        → AllByRecursion (Fit K) (dotted_told p (names ks))
        → (is_line_node n ≡ true → K (to_key (down p (names ks)) k.name) ≡ valued (suc (length ks)))
        → (is_line_node n ≡ false → AllByRecursion (LineAt p) ls)
        → AllByRecursion (LineAt p) (elim b [ true ↦ line_of (ks ++ (k ∷ [])) n (value_of mode n) | false ↦ ls ])
    by_line p n ks k ls true e h value inner = (line-at p ks k n h (value e), tt)
    by_line p n ks k ls false e h value inner = inner e

    mutual
      pub inside-at : (ss : Slots) (p : Path) (ks : List Key) → SlotsAreWellMade ss → AllByRecursion (Fit K) (dotted_told p (names ks))
          → SeesInside K (down p (names ks)) ss (length ks) → AllByRecursion (LineAt p) (inside_lines mode ss ks)
      inside-at no_slots p ks made h sees = tt
      inside-at (slot k n ss) p ks made h sees =
          let node = inside-first K (down p (names ks)) k n ss (length ks) sees in
          let here = inside-here K (to_key (down p (names ks)) k.name) n (suc (length ks)) node in
          all-append (LineAt p) _ (inside_lines mode ss ks)
          (by_line p n ks k (lines_inside mode n (ks ++ (k ∷ []))) (is_line_node n) refl h (λ e. here ∙ inside-value n (suc (length ks)) e)
          (λ e. node-inside-at n p ks k made.2 h node e))
          (inside-at ss p ks made.3 h (inside-rest K (down p (names ks)) k n ss (length ks) made.0 sees))

      node-inside-at : (n : Node) (p : Path) (ks : List Key) (k : Key) → IsWellMade n → AllByRecursion (Fit K) (dotted_told p (names ks))
          → SeesNodeInside K (to_key (down p (names ks)) k.name) n (suc (length ks)) → is_line_node n ≡ false
          → AllByRecursion (LineAt p) (lines_inside mode n (ks ++ (k ∷ [])))
      node-inside-at (inline f ss) p ks k made h sees e =
          let here = inside-here K (to_key (down p (names ks)) k.name) (inline f ss) (suc (length ks)) sees
          ∙ ap (λ b. if b then dotted else valued (suc (length ks))) (not-false f.is_dotted e) in
          inside-at ss p (ks ++ (k ∷ [])) made (dotted-more p ks k h (ap (suits dotted_role) here))
          (subst (λ d. SeesInside K (down p (names (ks ++ (k ∷ [])))) ss d) (key-count ks k)
          (subst (λ q. SeesInside K q ss (suc (length ks))) (key-path p ks k) (λ l q g. sees (at_key l ∷ q))))
      node-inside-at (table f ss) p ks k made h sees e =
          let here = inside-here K (to_key (down p (names ks)) k.name) (table f ss) (suc (length ks)) sees in
          inside-at ss p (ks ++ (k ∷ [])) made (dotted-more p ks k h (ap (suits dotted_role) here))
          (subst (λ d. SeesInside K (down p (names (ks ++ (k ∷ [])))) ss d) (key-count ks k)
          (subst (λ q. SeesInside K q ss (suc (length ks))) (key-path p ks k) (λ l q g. sees (at_key l ∷ q))))
      node-inside-at (leaf s r x) p ks k made h sees e = tt
      node-inside-at (list f xs) p ks k made h sees e = tt
      node-inside-at (tables x xs) p ks k made h sees e = tt
      node-inside-at nothing p ks k made h sees e = tt

    by_dotted : (p : Path) (f : TableFields) (ss : Slots) (ks : List Key) (k : Key) (b : Bool) → f.is_dotted ≡ b
        → SeesNode K (to_key (down p (names ks)) k.name) (table f ss) (suc (length ks))
        → (suits dotted_role (K (to_key (down p (names ks)) k.name)) ≡ true
        → Sees K (to_key (down p (names ks)) k.name) ss (suc (length ks))
        → AllByRecursion (LineAt p) (table_lines mode ss (ks ++ (k ∷ []))))
        → AllByRecursion (LineAt p) (if b then table_lines mode ss (ks ++ (k ∷ [])) else [])
    by_dotted p f ss ks k true e sees lines =
        lines
        (ap (suits dotted_role) (sees-here K (to_key (down p (names ks)) k.name) (table f ss) (suc (length ks)) sees
        ∙ ap (λ b. if b then dotted else headed) e))
        (λ l q g. sees (at_key l ∷ q) ∙ ap (λ b. slots_spot ss (if b then suc (length ks) else 0) l q) e)
    by_dotted p f ss ks k false e sees lines = tt

    mutual
      pub table-at : (ss : Slots) (p : Path) (ks : List Key) → SlotsAreWellMade ss → AllByRecursion (Fit K) (dotted_told p (names ks))
          → Sees K (down p (names ks)) ss (length ks) → AllByRecursion (LineAt p) (table_lines mode ss ks)
      table-at no_slots p ks made h sees = tt
      table-at (slot k n ss) p ks made h sees =
          let node = sees-first K (down p (names ks)) k n ss (length ks) sees in
          let here = sees-here K (to_key (down p (names ks)) k.name) n (suc (length ks)) node in
          all-append (LineAt p) _ (table_lines mode ss ks)
          (by_line p n ks k (dotted_lines mode n (ks ++ (k ∷ []))) (is_line_node n) refl h (λ e. here ∙ table-value n (suc (length ks)) e)
          (λ e. node-table-at n p ks k made.2 h node e))
          (table-at ss p ks made.3 h (sees-rest K (down p (names ks)) k n ss (length ks) made.0 sees))

      node-table-at : (n : Node) (p : Path) (ks : List Key) (k : Key) → IsWellMade n → AllByRecursion (Fit K) (dotted_told p (names ks))
          → SeesNode K (to_key (down p (names ks)) k.name) n (suc (length ks)) → is_line_node n ≡ false
          → AllByRecursion (LineAt p) (dotted_lines mode n (ks ++ (k ∷ [])))
      node-table-at (inline f ss) p ks k made h sees e =
          let here = sees-here K (to_key (down p (names ks)) k.name) (inline f ss) (suc (length ks)) sees
          ∙ ap (λ b. if b then dotted else valued (suc (length ks))) (not-false f.is_dotted e) in
          inside-at ss p (ks ++ (k ∷ [])) made (dotted-more p ks k h (ap (suits dotted_role) here))
          (subst (λ d. SeesInside K (down p (names (ks ++ (k ∷ [])))) ss d) (key-count ks k)
          (subst (λ q. SeesInside K q ss (suc (length ks))) (key-path p ks k) (λ l q g. sees (at_key l ∷ q))))
      node-table-at (table f ss) p ks k made h sees e =
          by_dotted p f ss ks k f.is_dotted refl sees
          (λ dot slots. table-at ss p (ks ++ (k ∷ [])) made (dotted-more p ks k h dot)
          (subst (λ d. Sees K (down p (names (ks ++ (k ∷ [])))) ss d) (key-count ks k)
          (subst (λ q. Sees K q ss (suc (length ks))) (key-path p ks k) slots)))
      node-table-at (leaf s r x) p ks k made h sees e = tt
      node-table-at (list f xs) p ks k made h sees e = tt
      node-table-at (tables x xs) p ks k made h sees e = tt
      node-table-at nothing p ks k made h sees e = tt

  -- ---- no two lines have one key, nor a key that goes on from the other's

  under_line : (n : Node) (ks : List Key) (k : Key) (ls : List Line) (b : Bool) → AllByRecursion (LineUnder ks k) ls
      → AllByRecursion (LineUnder ks k) (elim b [ true ↦ line_of (ks ++ (k ∷ [])) n (value_of mode n) | false ↦ ls ])
  under_line n ks k ls true h = (([], names-snoc ks k), tt)
  under_line n ks k ls false h = h

  mutual
    inside-in : (ss : Slots) (ks : List Key) → AllByRecursion (LineIn ss ks) (inside_lines mode ss ks)
    inside-in no_slots ks = tt
    inside-in (slot k n ss) ks =
        all-append (LineIn (slot k n ss) ks) _ (inside_lines mode ss ks)
        (all-map (LineUnder ks k) (LineIn (slot k n ss) ks) _ (in-first k n ss ks)
        (under_line n ks k (lines_inside mode n (ks ++ (k ∷ []))) (is_line_node n) (node-inside-in n ks k)))
        (all-map (LineIn ss ks) (LineIn (slot k n ss) ks) (inside_lines mode ss ks) (in-rest k n ss ks) (inside-in ss ks))

    node-inside-in : (n : Node) (ks : List Key) (k : Key) → AllByRecursion (LineUnder ks k) (lines_inside mode n (ks ++ (k ∷ [])))
    node-inside-in (inline f ss) ks k =
        all-map (LineIn ss (ks ++ (k ∷ []))) (LineUnder ks k) (inside_lines mode ss (ks ++ (k ∷ []))) (under-deeper ss ks k)
        (inside-in ss (ks ++ (k ∷ [])))
    node-inside-in (table f ss) ks k =
        all-map (LineIn ss (ks ++ (k ∷ []))) (LineUnder ks k) (inside_lines mode ss (ks ++ (k ∷ []))) (under-deeper ss ks k)
        (inside-in ss (ks ++ (k ∷ [])))
    node-inside-in (leaf s r x) ks k = tt
    node-inside-in (list f xs) ks k = tt
    node-inside-in (tables e xs) ks k = tt
    node-inside-in nothing ks k = tt

  mutual
    table-in : (ss : Slots) (ks : List Key) → AllByRecursion (LineIn ss ks) (table_lines mode ss ks)
    table-in no_slots ks = tt
    table-in (slot k n ss) ks =
        all-append (LineIn (slot k n ss) ks) _ (table_lines mode ss ks)
        (all-map (LineUnder ks k) (LineIn (slot k n ss) ks) _ (in-first k n ss ks)
        (under_line n ks k (dotted_lines mode n (ks ++ (k ∷ []))) (is_line_node n) (node-table-in n ks k)))
        (all-map (LineIn ss ks) (LineIn (slot k n ss) ks) (table_lines mode ss ks) (in-rest k n ss ks) (table-in ss ks))

    node-table-in : (n : Node) (ks : List Key) (k : Key) → AllByRecursion (LineUnder ks k) (dotted_lines mode n (ks ++ (k ∷ [])))
    node-table-in (inline f ss) ks k =
        all-map (LineIn ss (ks ++ (k ∷ []))) (LineUnder ks k) (inside_lines mode ss (ks ++ (k ∷ []))) (under-deeper ss ks k)
        (inside-in ss (ks ++ (k ∷ [])))
    node-table-in (table f ss) ks k =
        if_lines (LineUnder ks k) f.is_dotted (table_lines mode ss (ks ++ (k ∷ [])))
        (all-map (LineIn ss (ks ++ (k ∷ []))) (LineUnder ks k) (table_lines mode ss (ks ++ (k ∷ []))) (under-deeper ss ks k)
        (table-in ss (ks ++ (k ∷ []))))
    node-table-in (leaf s r x) ks k = tt
    node-table-in (list f xs) ks k = tt
    node-table-in (tables e xs) ks k = tt
    node-table-in nothing ks k = tt

  pairs_line : (n : Node) (ks : List Key) (k : Key) (ls : List Line) (b : Bool) → AllPairs PartedLines ls
      → AllPairs PartedLines (elim b [ true ↦ line_of (ks ++ (k ∷ [])) n (value_of mode n) | false ↦ ls ])
  pairs_line n ks k ls true h = (tt, tt)
  pairs_line n ks k ls false h = h

  mutual
    pub inside-parted : (ss : Slots) (ks : List Key) → SlotsAreWellMade ss → AllPairs PartedLines (inside_lines mode ss ks)
    inside-parted no_slots ks made = tt
    inside-parted (slot k n ss) ks made =
        pairs-append PartedLines _ (inside_lines mode ss ks)
        (pairs_line n ks k (lines_inside mode n (ks ++ (k ∷ []))) (is_line_node n) (node-inside-parted n ks k made.2))
        (inside-parted ss ks made.3)
        (all-across (LineUnder ks k) (LineIn ss ks) PartedLines _ (inside_lines mode ss ks) (λ l m h g. first-apart k ss ks l m made.0 h g)
        (under_line n ks k (lines_inside mode n (ks ++ (k ∷ []))) (is_line_node n) (node-inside-in n ks k)) (inside-in ss ks))

    node-inside-parted : (n : Node) (ks : List Key) (k : Key) → IsWellMade n → AllPairs PartedLines (lines_inside mode n (ks ++ (k ∷ [])))
    node-inside-parted (inline f ss) ks k made = inside-parted ss (ks ++ (k ∷ [])) made
    node-inside-parted (table f ss) ks k made = inside-parted ss (ks ++ (k ∷ [])) made
    node-inside-parted (leaf s r x) ks k made = tt
    node-inside-parted (list f xs) ks k made = tt
    node-inside-parted (tables e xs) ks k made = tt
    node-inside-parted nothing ks k made = tt

  mutual
    pub table-parted : (ss : Slots) (ks : List Key) → SlotsAreWellMade ss → AllPairs PartedLines (table_lines mode ss ks)
    table-parted no_slots ks made = tt
    table-parted (slot k n ss) ks made =
        pairs-append PartedLines _ (table_lines mode ss ks)
        (pairs_line n ks k (dotted_lines mode n (ks ++ (k ∷ []))) (is_line_node n) (node-table-parted n ks k made.2))
        (table-parted ss ks made.3)
        (all-across (LineUnder ks k) (LineIn ss ks) PartedLines _ (table_lines mode ss ks) (λ l m h g. first-apart k ss ks l m made.0 h g)
        (under_line n ks k (dotted_lines mode n (ks ++ (k ∷ []))) (is_line_node n) (node-table-in n ks k)) (table-in ss ks))

    node-table-parted : (n : Node) (ks : List Key) (k : Key) → IsWellMade n → AllPairs PartedLines (dotted_lines mode n (ks ++ (k ∷ [])))
    node-table-parted (inline f ss) ks k made = inside-parted ss (ks ++ (k ∷ [])) made
    node-table-parted (table f ss) ks k made =
        if_pairs f.is_dotted (table_lines mode ss (ks ++ (k ∷ []))) (table-parted ss (ks ++ (k ∷ [])) made)
    node-table-parted (leaf s r x) ks k made = tt
    node-table-parted (list f xs) ks k made = tt
    node-table-parted (tables e xs) ks k made = tt
    node-table-parted nothing ks k made = tt
