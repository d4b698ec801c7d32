-- The printed syntax of a value has the facts of the value.
use Rattle.std.proofs.Common.{◌≡◌, ℕ, suc, refl, sym, ◌∙◌, ap, subst, Bool, true, false, List, [], ◌∷◌, ◌++◌, append_assoc, append-nil}
use Rattle.std.specs.Prelude.{◌||◌, not, if◌then◌else◌, flat_map}
use Rattle.std.proofs.lemmas.Grind.{flat_map-append}
use Rattle.toml_edit_model.specs.Mode.{Mode}
use Rattle.toml_edit_model.specs.Text.{Text}
use Rattle.toml_edit_model.specs.Syntax.{Segment, Value, Elements, no_elements, element, Pairs, no_pairs, pair}
use Rattle.toml_edit_model.specs.Paths.{Path, to_key, to_element}
use Rattle.toml_edit_model.specs.Meaning.{Fact, fact, a_table, an_array, a_scalar, below_keys, value_facts, elements_facts, pairs_facts}
use Rattle.toml_edit_model.specs.Tree.{Key, Node, nothing, leaf, list, inline, table, tables, Items, no_items, item, Slots, no_slots, slot}
use Rattle.toml_edit_model.specs.Tree.{is_value_node}
use Rattle.toml_edit_model.specs.Shown.{is_shown_inside, shows_inside, inside_facts, list_facts, inside_slots_facts}
use Rattle.toml_edit_model.specs.Print.{segment_of, dot_prefix, dot_suffix, segments_after, segments, Line, line_of, add_after, close_array}
use Rattle.toml_edit_model.specs.Print.{add_after_pairs, close_inline, pairs_of_lines, is_line_node, value_of, elements_of, inside_lines}
use Rattle.toml_edit_model.specs.Print.{lines_inside, below}
use Rattle.toml_edit_laws.proofs.common.Members.{Among}
use Rattle.toml_edit_laws.proofs.print_meaning.FactSets.{Alike, alike-cons, alike-append, alike-same, alike-then, Tells, tells-nothing}
use Rattle.toml_edit_laws.proofs.print_meaning.FactSets.{tells-both, tells-value, tells-above, tells-alone}
use Rattle.toml_edit_laws.proofs.common.PathLaws.{below-last}

-- ---- keys below a path

-- a table at each key
abbrev pub key_facts : Path → List Key → List Fact
key_facts p [] = []
key_facts p (k ∷ ks) = fact (to_key p k.name) a_table ∷ key_facts (to_key p k.name) ks

pub key_facts-last : (p : Path) (ks : List Key) (k : Key)
    → key_facts p (ks ++ (k ∷ [])) ≡ key_facts p ks ++ (fact (to_key (below p ks) k.name) a_table ∷ [])
key_facts-last p [] k = refl
key_facts-last p (l ∷ ks) k = ap (λ fs. fact (to_key p l.name) a_table ∷ fs) (key_facts-last (to_key p l.name) ks k)

add_after-facts : (t : Text) (es : Elements) (p : Path) (n : ℕ) → elements_facts (add_after t es) p n ≡ elements_facts es p n
add_after-facts t no_elements p n = refl
add_after-facts t (element a v no_elements) p n = refl
add_after-facts t (element a v (element b w es)) p n =
    ap (λ fs. value_facts v (to_element p n) ++ fs) (add_after-facts t (element b w es) p (suc n))

close_array-facts : (comma : Bool) (t : Text) (es : Elements) (p : Path) → value_facts (close_array comma t es) p ≡ fact p an_array
    ∷ elements_facts es p 0
close_array-facts true t no_elements p = refl
close_array-facts false t no_elements p = refl
close_array-facts true t (element a v es) p = refl
close_array-facts false t (element a v es) p = ap (λ fs. fact p an_array ∷ fs) (add_after-facts t (element a v es) p 0)

add_after_pairs-facts : (t : Text) (ps : Pairs) (p : Path) → pairs_facts (add_after_pairs t ps) p ≡ pairs_facts ps p
add_after_pairs-facts t no_pairs p = refl
add_after_pairs-facts t (pair f v no_pairs) p = refl
add_after_pairs-facts t (pair f v (pair g w ps)) p =
    ap (λ fs. below_keys p f.path (value_facts v) ++ fs) (add_after_pairs-facts t (pair g w ps) p)

close_inline-facts : (comma : Bool) (t : Text) (ps : Pairs) (p : Path) → value_facts (close_inline comma t ps) p ≡ fact p a_table
    ∷ pairs_facts ps p
close_inline-facts true t no_pairs p = refl
close_inline-facts false t no_pairs p = refl
close_inline-facts true t (pair f v ps) p = refl
close_inline-facts false t (pair f v ps) p = ap (λ fs. fact p a_table ∷ fs) (add_after_pairs-facts t (pair f v ps) p)

pub shows-step : (b s : Bool) (f : Fact) (xs ys : List Fact) → (Among f ys → s ≡ true) → Among f ((if b then xs else []) ++ ys) → (b || s)
    ≡ true
shows-step true s f xs ys h a = refl
shows-step false s f xs ys h a = h a

pub inside-shows : (ss : Slots) (p : Path) (f : Fact) → Among f (inside_slots_facts ss p) → shows_inside ss ≡ true
inside-shows no_slots p f a = elim a [ ]
inside-shows (slot k n ss) p f a =
    shows-step (is_shown_inside n) (shows_inside ss) f (inside_facts n (to_key p k.name)) (inside_slots_facts ss p) (inside-shows ss p f) a

-- one level down
pub lower-tells : (s : Bool) (around xs us : List Fact) (p : Path) (ks : List Key) (k : Key)
    → ((f : Fact) → Among f xs → s ≡ true)
    → Tells s (around ++ key_facts p (ks ++ (k ∷ []))) xs us
    → Tells s (around ++ key_facts p ks) (if s then fact (to_key (below p ks) k.name) a_table ∷ xs else []) us
lower-tells s around xs us p ks k h t =
    tells-above s (around ++ key_facts p ks) xs us (fact (to_key (below p ks) k.name) a_table) h
    (subst (λ fs. Tells s fs xs us)
    (ap (λ fs. around ++ fs) (key_facts-last p ks k) ∙ sym (append_assoc around (key_facts p ks) (fact (to_key (below p ks) k.name) a_table
    ∷ [])))
    t)

module _ (mode : Mode) where
  below-first : (p : Path) (s : Segment) (m : Key) (ms : List Key) (last : Path → List Fact)
      → below_keys p (s ∷ segments_after mode (m ∷ ms)) last ≡ fact (to_key p s.key) a_table
      ∷ below_keys (to_key p s.key) (segments_after mode (m ∷ ms)) last
  below-first p s m [] last = refl
  below-first p s m (n ∷ ms) last = refl

  along-after : (p : Path) (ks : List Key) (k : Key) (last : Path → List Fact)
      → below_keys p (segments_after mode (ks ++ (k ∷ []))) last ≡ key_facts p ks ++ last (to_key (below p ks) k.name)
  along-after p [] k last = refl
  along-after p (l ∷ []) k last = refl
  along-after p (l ∷ m ∷ ks) k last =
      below-first p (segment_of l (dot_prefix mode l) (dot_suffix mode l)) m (ks ++ (k ∷ [])) last
      ∙ ap (λ fs. fact (to_key p l.name) a_table ∷ fs) (along-after (to_key p l.name) (m ∷ ks) k last)

  -- the printed keys have a table at each but the last
  pub along : (p : Path) (ks : List Key) (k : Key) (last : Path → List Fact)
      → below_keys p (segments mode (ks ++ (k ∷ []))) last ≡ key_facts p ks ++ last (to_key (below p ks) k.name)
  along p [] k last = refl
  along p (l ∷ []) k last = refl
  along p (l ∷ m ∷ ks) k last =
      below-first p (segment_of l [] (dot_suffix mode l)) m (ks ++ (k ∷ [])) last
      ∙ ap (λ fs. fact (to_key p l.name) a_table ∷ fs) (along-after (to_key p l.name) (m ∷ ks) k last)

  -- ---- lines

  -- the facts of lines below a path, each with these as well
  abbrev pub one_line_facts : List Fact → Path → Line → List Fact
  one_line_facts around p l = around ++ below_keys p (segments mode l.keys) (value_facts l.value)

  abbrev pub line_facts : List Fact → Path → List Line → List Fact
  line_facts around p ls = flat_map (one_line_facts around p) ls

  pub line_facts-append : (around : List Fact) (p : Path) (ls ms : List Line) → line_facts around p (ls ++ ms) ≡ line_facts around p ls
      ++ line_facts around p ms
  line_facts-append around p ls ms = flat_map-append (one_line_facts around p) ls ms

  -- one line
  pub line-is : (around : List Fact) (p : Path) (ks : List Key) (k : Key) (n : Node) (v : Value)
      → (around ++ key_facts p ks) ++ value_facts v (to_key (below p ks) k.name) ≡ line_facts around p (line_of (ks ++ (k ∷ [])) n v)
  line-is around p ks k n v =
      append_assoc around (key_facts p ks) (value_facts v (to_key (below p ks) k.name))
      ∙ ap (λ fs. around ++ fs) (sym (along p ks k (value_facts v)))
      ∙ sym (append-nil (around ++ below_keys p (segments mode (ks ++ (k ∷ []))) (value_facts v)))

  -- ---- arrays and inline tables as they are closed

  pairs_of_lines-facts : (ls : List Line) (p : Path) → pairs_facts (pairs_of_lines mode ls) p ≡ line_facts [] p ls
  pairs_of_lines-facts [] p = refl
  pairs_of_lines-facts (l ∷ []) p = refl
  pairs_of_lines-facts (l ∷ m ∷ rest) p =
      ap (λ fs. below_keys p (segments mode l.keys) (value_facts l.value) ++ fs) (pairs_of_lines-facts (m ∷ rest) p)

  -- ---- values

  -- a line of its own
  pub line-tells : (around xs : List Fact) (p : Path) (ks : List Key) (k : Key) (n : Node) (v : Value)
      → Alike (value_facts v (to_key (below p ks) k.name)) xs
      → Tells true (around ++ key_facts p ks) xs (line_facts around p (line_of (ks ++ (k ∷ [])) n v))
  line-tells around xs p ks k n v h =
      subst (λ us. Tells true (around ++ key_facts p ks) xs us) (line-is around p ks k n v)
      (tells-value (around ++ key_facts p ks) xs (value_facts v (to_key (below p ks) k.name)) h)

  abbrev lines_for : Node → List Key → List Line
  lines_for n ks = elim (is_line_node n) [ true ↦ line_of ks n (value_of mode n) | false ↦ lines_inside mode n ks ]

  -- the slots of a table inside a value, one level down
  pub made-tells : (ss : Slots) (around : List Fact) (p : Path) (ks : List Key) (k : Key)
      → Tells (shows_inside ss) (around ++ key_facts p (ks ++ (k ∷ []))) (inside_slots_facts ss (below p (ks ++ (k ∷ []))))
      (line_facts around p (inside_lines mode ss (ks ++ (k ∷ []))))
      → Tells (shows_inside ss) (around ++ key_facts p ks) (if shows_inside ss then fact (to_key (below p ks) k.name) a_table
      ∷ inside_slots_facts ss (to_key (below p ks) k.name) else [])
      (line_facts around p (inside_lines mode ss (ks ++ (k ∷ []))))
  made-tells ss around p ks k t =
      lower-tells (shows_inside ss) around (inside_slots_facts ss (to_key (below p ks) k.name))
      (line_facts around p (inside_lines mode ss (ks ++ (k ∷ [])))) p ks k
      (inside-shows ss (to_key (below p ks) k.name))
      (subst (λ q. Tells (shows_inside ss) (around ++ key_facts p (ks ++ (k ∷ []))) (inside_slots_facts ss q)
      (line_facts around p (inside_lines mode ss (ks ++ (k ∷ []))))) (below-last p ks k) t)

  -- an inline table: a line of its own, or dotted
  pub inline-tells : (b : Bool) (n : Node) (ss : Slots) (around : List Fact) (p : Path) (ks : List Key) (k : Key)
      → Alike (value_facts (value_of mode n) (to_key (below p ks) k.name)) (fact (to_key (below p ks) k.name) a_table
      ∷ inside_slots_facts ss (to_key (below p ks) k.name))
      → Tells (shows_inside ss) (around ++ key_facts p (ks ++ (k ∷ []))) (inside_slots_facts ss (below p (ks ++ (k ∷ []))))
      (line_facts around p (inside_lines mode ss (ks ++ (k ∷ []))))
      → Tells (not b || shows_inside ss) (around ++ key_facts p ks)
      (if not b || shows_inside ss then fact (to_key (below p ks) k.name) a_table ∷ inside_slots_facts ss (to_key (below p ks) k.name)
      else [])
      (line_facts around p (elim (not b) [
        | true ↦ line_of (ks ++ (k ∷ [])) n (value_of mode n)
        | false ↦
            inside_lines mode ss (ks ++ (k ∷ []))
      ]))
  inline-tells false n ss around p ks k h t =
      line-tells around (fact (to_key (below p ks) k.name) a_table
      ∷ inside_slots_facts ss (to_key (below p ks) k.name)) p ks k n (value_of mode n) h
  inline-tells true n ss around p ks k h t = made-tells ss around p ks k t

  -- an element, where the rest is known
  elements-step : (x : Node) (xs : Items) (first : Bool) (p : Path) (n : ℕ)
      → (is_value_node x ≡ true → Alike (value_facts (value_of mode x) (to_element p n)) (inside_facts x (to_element p n)))
      → ((b : Bool) (i : ℕ) → Alike (elements_facts (elements_of mode xs b) p i) (list_facts xs p i))
      → Alike (elements_facts (elements_of mode (item x xs) first) p n) (list_facts (item x xs) p n)
  elements-step (leaf s r d) xs first p n own rest =
      alike-append (value_facts (value_of mode (leaf s r d)) (to_element p n)) (inside_facts (leaf s r d) (to_element p n))
      (elements_facts (elements_of mode xs false) p (suc n)) (list_facts xs p (suc n))
      (own refl) (rest false (suc n))
  elements-step (list f ys) xs first p n own rest =
      alike-append (value_facts (value_of mode (list f ys)) (to_element p n)) (inside_facts (list f ys) (to_element p n))
      (elements_facts (elements_of mode xs false) p (suc n)) (list_facts xs p (suc n))
      (own refl) (rest false (suc n))
  elements-step (inline f ss) xs first p n own rest =
      alike-append (value_facts (value_of mode (inline f ss)) (to_element p n)) (inside_facts (inline f ss) (to_element p n))
      (elements_facts (elements_of mode xs false) p (suc n)) (list_facts xs p (suc n))
      (own refl) (rest false (suc n))
  elements-step (table f ss) xs first p n own rest = rest first n
  elements-step (tables e ys) xs first p n own rest = rest first n
  elements-step nothing xs first p n own rest = rest first n

  mutual
    -- the printed syntax of a value has its facts
    pub value-alike : (n : Node) (p : Path) → is_value_node n ≡ true → Alike (value_facts (value_of mode n) p) (inside_facts n p)
    value-alike (leaf s r d) p h = alike-same (fact p (a_scalar s) ∷ []) (fact p (a_scalar s) ∷ []) refl
    value-alike (list f xs) p h =
        alike-then (value_facts (value_of mode (list f xs)) p) (fact p an_array
        ∷ elements_facts (elements_of mode xs true) p 0) (fact p an_array ∷ list_facts xs p 0)
        (alike-same (value_facts (value_of mode (list f xs)) p) (fact p an_array
        ∷ elements_facts (elements_of mode xs true) p 0) (close_array-facts f.comma _ (elements_of mode xs true) p))
        (alike-cons (fact p an_array) (elements_facts (elements_of mode xs true) p 0) (list_facts xs p 0) (elements-alike xs true p 0))
    value-alike (inline f ss) p h =
        alike-then (value_facts (value_of mode (inline f ss)) p) (fact p a_table
        ∷ line_facts [] p (inside_lines mode ss [])) (fact p a_table ∷ inside_slots_facts ss p)
        (alike-same (value_facts (value_of mode (inline f ss)) p) (fact p a_table ∷ line_facts [] p (inside_lines mode ss []))
        (close_inline-facts f.comma _ (pairs_of_lines mode (inside_lines mode ss [])) p
        ∙ ap (λ fs. fact p a_table ∷ fs) (pairs_of_lines-facts (inside_lines mode ss []) p)))
        (alike-cons (fact p a_table) (line_facts [] p (inside_lines mode ss [])) (inside_slots_facts ss p)
        (tells-alone (shows_inside ss) (inside_slots_facts ss p) (line_facts [] p (inside_lines mode ss [])) (inside-tells ss [] p [])))
    value-alike (table f ss) p h = absurd cc
    value-alike (tables e xs) p h = absurd cc
    value-alike nothing p h = absurd cc

    elements-alike : (xs : Items) (first : Bool) (p : Path) (n : ℕ)
        → Alike (elements_facts (elements_of mode xs first) p n) (list_facts xs p n)
    elements-alike no_items first p n = alike-same [] [] refl
    elements-alike (item x xs) first p n =
        elements-step x xs first p n (λ h. value-alike x (to_element p n) h) (λ b i. elements-alike xs b p i)

    -- the lines inside an inline table
    pub inside-tells : (ss : Slots) (around : List Fact) (p : Path) (ks : List Key)
        → Tells (shows_inside ss) (around ++ key_facts p ks) (inside_slots_facts ss (below p ks))
        (line_facts around p (inside_lines mode ss ks))
    inside-tells no_slots around p ks = tells-nothing (around ++ key_facts p ks)
    inside-tells (slot k n ss) around p ks =
        subst (λ us. Tells (shows_inside (slot k n ss)) (around ++ key_facts p ks) (inside_slots_facts (slot k n ss) (below p ks)) us)
        (sym (line_facts-append around p (lines_for n (ks ++ (k ∷ []))) (inside_lines mode ss ks)))
        (tells-both (is_shown_inside n) (shows_inside ss) (around ++ key_facts p ks)
        (if is_shown_inside n then inside_facts n (to_key (below p ks) k.name) else []) (inside_slots_facts ss (below p ks))
        (line_facts around p (lines_for n (ks ++ (k ∷ [])))) (line_facts around p (inside_lines mode ss ks))
        (inside-slot n k around p ks (λ h. value-alike n (to_key (below p ks) k.name) h)) (inside-tells ss around p ks))

    inside-slot : (n : Node) (k : Key) (around : List Fact) (p : Path) (ks : List Key)
        → (is_value_node n ≡ true → Alike (value_facts (value_of mode n) (to_key (below p ks) k.name))
        (inside_facts n (to_key (below p ks) k.name)))
        → Tells (is_shown_inside n) (around ++ key_facts p ks) (if is_shown_inside n then inside_facts n (to_key (below p ks) k.name)
        else [])
        (line_facts around p (elim (is_line_node n) [
          | true ↦ line_of (ks ++ (k ∷ [])) n (value_of mode n)
          | false ↦
              lines_inside mode n (ks ++ (k ∷ []))
        ]))
    inside-slot (leaf s r d) k around p ks own =
        line-tells around (inside_facts (leaf s r d) (to_key (below p ks) k.name)) p ks k (leaf s r d) (value_of mode (leaf s r d))
        (own refl)
    inside-slot (list f xs) k around p ks own =
        line-tells around (inside_facts (list f xs) (to_key (below p ks) k.name)) p ks k (list f xs) (value_of mode (list f xs)) (own refl)
    inside-slot (inline f ss) k around p ks own =
        inline-tells f.is_dotted (inline f ss) ss around p ks k (own refl) (inside-tells ss around p (ks ++ (k ∷ [])))
    inside-slot (table f ss) k around p ks own = made-tells ss around p ks k (inside-tells ss around p (ks ++ (k ∷ [])))
    inside-slot (tables e xs) k around p ks own = tells-nothing (around ++ key_facts p ks)
    inside-slot nothing k around p ks own = tells-nothing (around ++ key_facts p ks)
