-- The headers and lines of the tables that the walk enters have the facts of what is shown.
use Rattle.std.proofs.Common.{◌≡◌, ℕ, suc, refl, sym, ◌∙◌, ap, subst, Bool, true, false, List, [], ◌∷◌, ◌++◌, append_assoc, append-nil}
use Rattle.std.specs.Prelude.{◌&&◌, ◌||◌, not, if◌then◌else◌, flat_map}
use Rattle.std.proofs.lemmas.Grind.{flat_map-append}
use Rattle.std.proofs.lemmas.List.Folds.{list_all-append}
use Rattle.toml_edit_model.specs.Mode.{Mode}
use Rattle.toml_edit_model.specs.Text.{Text, is_empty}
use Rattle.toml_edit_model.specs.Paths.{at_key, at_element, Path, to_key, to_element}
use Rattle.toml_edit_model.specs.Meaning.{Fact, fact, a_table, an_array, tables_along, parent}
use Rattle.toml_edit_model.specs.Tree.{Key, TableFields, Node, nothing, leaf, list, inline, table, tables, Items, no_items, item, Slots}
use Rattle.toml_edit_model.specs.Tree.{no_slots, slot, Tree}
use Rattle.toml_edit_model.specs.Shown.{is_shown, shows, shows_inside, is_table_node, has_table, node_facts, tables_facts, slots_facts}
use Rattle.toml_edit_model.specs.Shown.{inside_facts}
use Rattle.toml_edit_model.specs.HeaderOrder.{Visit, visit_of, node_walk, items_walk, slots_walk, walk}
use Rattle.toml_edit_model.specs.Print.{Line, line_of, is_line_node, value_of, inside_lines, table_lines, dotted_lines, lines_of}
use Rattle.toml_edit_model.specs.Print.{has_header, below}
use Rattle.toml_edit_laws.proofs.common.Tests.{and_left, and_right, or-true, not-true}
use Rattle.toml_edit_laws.proofs.common.Members.{Among}
use Rattle.toml_edit_laws.proofs.print_meaning.FactSets.{Alike, Tells, tells-nothing, tells-alike, tells-both, tells-above, tells-alone}
use Rattle.toml_edit_laws.proofs.print_meaning.FactSets.{tells-table, tells-element, regroup}
use Rattle.toml_edit_laws.proofs.print_meaning.ValueFacts.{key_facts, line_facts, line_facts-append, shows-step, line-tells, inline-tells}
use Rattle.toml_edit_laws.proofs.print_meaning.ValueFacts.{value-alike, inside-tells}
use Rattle.toml_edit_laws.proofs.print_meaning.PathFacts.{tables-below}
use Rattle.toml_edit_laws.proofs.common.PathLaws.{parent-last, below-last}
use Rattle.toml_edit_laws.proofs.common.TablesAlong.{tables-key, tables-element}
use Rattle.toml_edit_laws.proofs.common.Visits.{have_no_dotted}
use Rattle.toml_edit_laws.proofs.common.Lists.{not_empty-last}

-- ---- the facts of the tables that the walk enters

-- what the header of a table says, where it stands as in the tree
abbrev pub own_facts : Visit → List Fact
own_facts v =
    if v.is_element then tables_along [] (parent (parent v.path)) ++ (fact (parent v.path) an_array ∷ fact v.path a_table ∷ [])
    else tables_along [] v.path

pub slots-show : (ss : Slots) (p : Path) (f : Fact) → Among f (slots_facts ss p) → shows ss ≡ true
slots-show no_slots p f a = elim a [ ]
slots-show (slot k n ss) p f a =
    shows-step (is_shown n) (shows ss) f (node_facts n (to_key p k.name)) (slots_facts ss p) (slots-show ss p f) a

tables-show : (xs : Items) (p : Path) (n : ℕ) (f : Fact) → Among f (tables_facts xs p n) → has_table xs ≡ true
tables-show no_items p n f a = elim a [ ]
tables-show (item x xs) p n f a = by_test (is_table_node x) (tables-show xs p n f) a
  where
    by_test : (b : Bool) → (Among f (tables_facts xs p n) → has_table xs ≡ true)
        → Among f (if b then node_facts x (to_element p n) ++ tables_facts xs p (suc n) else tables_facts xs p n) → (b || has_table xs)
        ≡ true
    by_test true h a = refl
    by_test false h a = h a

append-empty : {A : Type 0} (b s : Bool) (xs ys : List A) → (is_empty xs ≡ false → b ≡ true) → (is_empty ys ≡ false → s ≡ true)
    → is_empty (xs ++ ys) ≡ false → (b || s) ≡ true
append-empty b s [] ys h g e = ap (λ c. b || c) (g e) ∙ or-true b
append-empty b s (x ∷ xs) ys h g e = ap (λ c. c || s) (h refl)

inline-shows : (b s : Bool) (ls ms : List Line) → (is_empty ms ≡ false → s ≡ true)
    → is_empty (elim b [ true ↦ ls | false ↦ ms ]) ≡ false → (b || s) ≡ true
inline-shows true s ls ms h e = refl
inline-shows false s ls ms h e = h e

table-shows : (d i s : Bool) (ls : List Line) → (is_empty ls ≡ false → s ≡ true) → is_empty (if d then ls else []) ≡ false
    → (not (d || i) || s) ≡ true
table-shows true i s ls h e = h e
table-shows false i s ls h e = absurd cc

-- a value of a table, at its path
value-lifted : (s : Bool) (F : Path → List Fact) (us : List Fact) (b p : Path) (ks : List Key) → p ≡ below b ks
    → Tells s (tables_along [] b ++ key_facts b ks) (F (below b ks)) us → Tells s (tables_along [] p) (F p) (us ++ [])
value-lifted s F us b p ks e t =
    subst (λ q. Tells s (tables_along [] q) (F q) (us ++ [])) (sym e)
    (subst (λ fs. Tells s fs (F (below b ks)) (us ++ [])) (tables-below b ks)
    (subst (λ x. Tells s (tables_along [] b ++ key_facts b ks) (F (below b ks)) x) (sym (append-nil us)) t))

-- an element
element-own : (p : Path) (k : Text) (n : ℕ)
    → tables_along [] p ++ (fact (to_key p k) an_array ∷ fact (to_element (to_key p k) n) a_table ∷ [])
    ≡ tables_along [] (parent (parent (to_element (to_key p k) n)))
    ++ (fact (parent (to_element (to_key p k) n)) an_array ∷ fact (to_element (to_key p k) n) a_table ∷ [])
element-own p k n =
    let up = parent-last (to_key p k) (at_element n) in
    let above = ap parent up ∙ parent-last p (at_key k) in
    ap (λ q. tables_along [] q ++ (fact (to_key p k) an_array ∷ fact (to_element (to_key p k) n) a_table ∷ [])) (sym above)
    ∙ ap (λ q. tables_along [] (parent (parent (to_element (to_key p k) n)))
    ++ (fact q an_array ∷ fact (to_element (to_key p k) n) a_table ∷ [])) (sym up)

entered-element : (d r : Bool) (around xs own lines later : List Fact) → d ≡ false → r ≡ false
    → Tells true around xs ((own ++ lines) ++ later)
    → Tells true around xs ((if d then [] else ((if not r && true then own else []) ++ lines)) ++ later)
entered-element true r around xs own lines later e g t = absurd cc
entered-element false true around xs own lines later e g t = absurd cc
entered-element false false around xs own lines later e g t = t

split-element : (own lines below later : List Fact) → (own ++ (lines ++ below)) ++ later ≡ (own ++ lines) ++ (below ++ later)
split-element own lines below later =
    ap (λ us. us ++ later) (sym (append_assoc own lines below)) ∙ append_assoc (own ++ lines) below later

module _ (mode : Mode) where
  -- the facts of its header and its lines
  abbrev pub visit_facts : Visit → List Fact
  visit_facts v = (if has_header mode v then own_facts v else []) ++ line_facts mode (tables_along [] v.path) v.path (lines_of mode v)

  -- a dotted table has neither
  abbrev pub entered_facts : Visit → List Fact
  entered_facts v = if v.fields.is_dotted then [] else visit_facts v

  abbrev pub walk_facts : List Visit → List Fact
  walk_facts vs = flat_map entered_facts vs

  pub walk_facts-append : (vs us : List Visit) → walk_facts (vs ++ us) ≡ walk_facts vs ++ walk_facts us
  walk_facts-append vs us = flat_map-append entered_facts vs us

  -- ---- what has facts, or lines, is shown

  mutual
    inside_lines-show : (ss : Slots) (ks : List Key) → is_empty (inside_lines mode ss ks) ≡ false → shows_inside ss ≡ true
    inside_lines-show no_slots ks e = absurd cc
    inside_lines-show (slot k (leaf s r d) ss) ks e = refl
    inside_lines-show (slot k (list f xs) ss) ks e = refl
    inside_lines-show (slot k (inline f us) ss) ks e =
        append-empty (not f.is_dotted || shows_inside us) (shows_inside ss)
        (elim (not f.is_dotted) [
          | true ↦ line_of (ks ++ (k ∷ [])) (inline f us) (value_of mode (inline f us))
          | false ↦
              inside_lines mode us (ks ++ (k ∷ []))
        ]) (inside_lines mode ss ks)
        (inline-shows (not f.is_dotted) (shows_inside us) (line_of (ks ++ (k ∷ [])) (inline f us) (value_of mode (inline f us)))
        (inside_lines mode us (ks ++ (k ∷ [])))
        (inside_lines-show us (ks ++ (k ∷ []))))
        (inside_lines-show ss ks) e
    inside_lines-show (slot k (table f us) ss) ks e =
        append-empty (shows_inside us) (shows_inside ss) (inside_lines mode us (ks ++ (k ∷ []))) (inside_lines mode ss ks)
        (inside_lines-show us (ks ++ (k ∷ []))) (inside_lines-show ss ks) e
    inside_lines-show (slot k (tables x xs) ss) ks e = inside_lines-show ss ks e
    inside_lines-show (slot k nothing ss) ks e = inside_lines-show ss ks e

  pub lines-show : (ss : Slots) (ks : List Key) → is_empty (table_lines mode ss ks) ≡ false → shows ss ≡ true
  lines-show no_slots ks e = absurd cc
  lines-show (slot k (leaf s r d) ss) ks e = refl
  lines-show (slot k (list f xs) ss) ks e = refl
  lines-show (slot k (inline f us) ss) ks e =
      append-empty (not f.is_dotted || shows_inside us) (shows ss)
      (elim (not f.is_dotted) [
        | true ↦ line_of (ks ++ (k ∷ [])) (inline f us) (value_of mode (inline f us))
        | false ↦
            inside_lines mode us (ks ++ (k ∷ []))
      ]) (table_lines mode ss ks)
      (inline-shows (not f.is_dotted) (shows_inside us) (line_of (ks ++ (k ∷ [])) (inline f us) (value_of mode (inline f us)))
      (inside_lines mode us (ks ++ (k ∷ [])))
      (inside_lines-show us (ks ++ (k ∷ []))))
      (lines-show ss ks) e
  lines-show (slot k (table f us) ss) ks e =
      append-empty (not (f.is_dotted || f.is_implicit) || shows us) (shows ss) (if f.is_dotted then table_lines mode us (ks ++ (k ∷ []))
      else []) (table_lines mode ss ks)
      (table-shows f.is_dotted f.is_implicit (shows us) (table_lines mode us (ks ++ (k ∷ []))) (lines-show us (ks ++ (k ∷ []))))
      (lines-show ss ks) e
  lines-show (slot k (tables x xs) ss) ks e = ap (λ c. has_table xs || c) (lines-show ss ks e) ∙ or-true (has_table xs)
  lines-show (slot k nothing ss) ks e = lines-show ss ks e

  -- ---- the walk

  abbrev lines_at : Node → List Key → List Line
  lines_at n ks = elim (is_line_node n) [ true ↦ line_of ks n (value_of mode n) | false ↦ dotted_lines mode n ks ]

  abbrev printed_at : Path → Node → List Key → Path → List Key → List Fact
  printed_at b n ks p kk = line_facts mode (tables_along [] b) b (lines_at n ks) ++ walk_facts (node_walk n p kk false)

  if-lines : (d : Bool) (around : List Fact) (b : Path) (ls : List Line) → (if d then line_facts mode around b ls else [])
      ≡ line_facts mode around b (if d then ls else [])
  if-lines true around b ls = refl
  if-lines false around b ls = refl

  -- one slot after another
  slot-both : (n : Node) (ss : Slots) (k : Key) (b p : Path) (ks kk : List Key)
      → Tells (is_shown n) (tables_along [] p) (if is_shown n then node_facts n (to_key p k.name) else [])
      (printed_at b n (ks ++ (k ∷ [])) (to_key p k.name) (kk ++ (k ∷ [])))
      → Tells (shows ss) (tables_along [] p) (slots_facts ss p) (line_facts mode (tables_along [] b) b (table_lines mode ss ks)
      ++ walk_facts (slots_walk ss p kk))
      → Tells (shows (slot k n ss)) (tables_along [] p) (slots_facts (slot k n ss) p)
      (line_facts mode (tables_along [] b) b (table_lines mode (slot k n ss) ks) ++ walk_facts (slots_walk (slot k n ss) p kk))
  slot-both n ss k b p ks kk t u =
      let lines = line_facts mode (tables_along [] b) b (lines_at n (ks ++ (k ∷ []))) in
      let more = line_facts mode (tables_along [] b) b (table_lines mode ss ks) in
      let here = walk_facts (node_walk n (to_key p k.name) (kk ++ (k ∷ [])) false) in
      let later = walk_facts (slots_walk ss p kk) in
      subst (λ us. Tells (shows (slot k n ss)) (tables_along [] p) (slots_facts (slot k n ss) p) (us
      ++ walk_facts (slots_walk (slot k n ss) p kk)))
      (sym (line_facts-append mode (tables_along [] b) b (lines_at n (ks ++ (k ∷ []))) (table_lines mode ss ks)))
      (subst (λ us. Tells (shows (slot k n ss)) (tables_along [] p) (slots_facts (slot k n ss) p) ((lines ++ more) ++ us))
      (sym (walk_facts-append (node_walk n (to_key p k.name) (kk ++ (k ∷ [])) false) (slots_walk ss p kk)))
      (tells-alike (shows (slot k n ss)) (tables_along [] p) (slots_facts (slot k n ss) p) ((lines ++ here)
      ++ (more ++ later)) ((lines ++ more) ++ (here ++ later))
      (regroup lines here more later)
      (tells-both (is_shown n) (shows ss) (tables_along [] p) (if is_shown n then node_facts n (to_key p k.name)
      else []) (slots_facts ss p) (lines ++ here) (more ++ later) t u)))

  -- a table that is no element
  table-tell : (f : TableFields) (ss : Slots) (k : Key) (b p : Path) (ks kk : List Key)
      → Tells (shows ss) (tables_along [] (to_key p k.name)) (slots_facts ss (to_key p k.name))
      (line_facts mode (tables_along [] b) b (table_lines mode ss (ks ++ (k ∷ [])))
      ++ walk_facts (slots_walk ss (to_key p k.name) (kk ++ (k ∷ []))))
      → Tells (shows ss) (tables_along [] (to_key p k.name)) (slots_facts ss (to_key p k.name))
      (line_facts mode (tables_along [] (to_key p k.name)) (to_key p k.name) (table_lines mode ss [])
      ++ walk_facts (slots_walk ss (to_key p k.name) (kk ++ (k ∷ []))))
      → Tells (is_shown (table f ss)) (tables_along [] p) (if is_shown (table f ss) then node_facts (table f ss) (to_key p k.name) else [])
      (printed_at b (table f ss) (ks ++ (k ∷ [])) (to_key p k.name) (kk ++ (k ∷ [])))
  table-tell f ss k b p ks kk t u =
      let q = to_key p k.name in
      let later = walk_facts (slots_walk ss q (kk ++ (k ∷ []))) in
      let dotted = line_facts mode (tables_along [] b) b (table_lines mode ss (ks ++ (k ∷ []))) in
      let own = line_facts mode (tables_along [] q) q (table_lines mode ss []) in
      let head = not (is_empty (kk ++ (k ∷ []))) && (false || not (f.is_implicit && is_empty (table_lines mode ss []))) in
      let shown = not (f.is_dotted || f.is_implicit) || shows ss in
      subst (λ us. Tells shown (tables_along [] p) (if shown then fact q a_table ∷ slots_facts ss q else [])
      (us ++ ((if f.is_dotted then [] else ((if head then tables_along [] q else []) ++ own)) ++ later)))
      (if-lines f.is_dotted (tables_along [] b) b (table_lines mode ss (ks ++ (k ∷ []))))
      (subst (λ us. Tells shown (tables_along [] p) (if shown then fact q a_table ∷ slots_facts ss q else [])
      ((if f.is_dotted then dotted else []) ++ ((if f.is_dotted then [] else ((if head then us else []) ++ own)) ++ later)))
      (sym (tables-key p k.name))
      (tells-table f.is_dotted f.is_implicit (is_empty (kk ++ (k ∷ []))) (is_empty (table_lines mode ss [])) (shows ss) (tables_along [] p)
      dotted own later (slots_facts ss q) (fact q a_table)
      (not_empty-last kk k) (lines-show ss []) (slots-show ss q)
      (subst (λ fs. Tells (shows ss) fs (slots_facts ss q) (dotted ++ later)) (tables-key p k.name) t)
      (subst (λ fs. Tells (shows ss) fs (slots_facts ss q) (own ++ later)) (tables-key p k.name) u)))

  element-tell : (f : TableFields) (ss : Slots) (xs : Items) (p : Path) (k : Text) (kk : List Key) (n : ℕ) → is_empty kk ≡ false
      → f.is_dotted ≡ false
      → Tells (shows ss) (tables_along [] (to_element (to_key p k) n)) (slots_facts ss (to_element (to_key p k) n))
      (line_facts mode (tables_along [] (to_element (to_key p k) n)) (to_element (to_key p k) n) (table_lines mode ss [])
      ++ walk_facts (slots_walk ss (to_element (to_key p k) n) kk))
      → Tells (has_table xs) (tables_along [] p ++ (fact (to_key p k) an_array ∷ [])) (tables_facts xs (to_key p k) (suc n))
      (walk_facts (items_walk xs (to_key p k) kk (suc n)))
      → Tells true (tables_along [] p ++ (fact (to_key p k) an_array ∷ [])) (tables_facts (item (table f ss) xs) (to_key p k) n)
      (walk_facts (items_walk (item (table f ss) xs) (to_key p k) kk n))
  element-tell f ss xs p k kk n e d t u =
      let q = to_key p k in
      let here = to_element q n in
      let around = tables_along [] p ++ (fact q an_array ∷ []) in
      let own = tables_along [] p ++ (fact q an_array ∷ fact here a_table ∷ []) in
      let lines = line_facts mode (tables_along [] here) here (table_lines mode ss []) in
      let below = walk_facts (slots_walk ss here kk) in
      let later = walk_facts (items_walk xs q kk (suc n)) in
      let facts = (fact here a_table ∷ slots_facts ss here) ++ tables_facts xs q (suc n) in
      let one = tells-element (shows ss) (tables_along [] p) (slots_facts ss here) (lines ++ below) (fact q an_array) (fact here a_table)
      (subst (λ fs. Tells (shows ss) fs (slots_facts ss here) (lines ++ below)) (tables-element p k n) t) in
      let both = tells-both true (has_table xs) around (fact here a_table ∷ slots_facts ss here) (tables_facts xs q (suc n)) (own
      ++ (lines ++ below)) later one u in
      let regrouped = subst (λ us. Tells true around facts us) (split-element own lines below later) both in
      let renamed = subst (λ us. Tells true around facts ((us ++ lines) ++ (below ++ later))) (element-own p k n) regrouped in
      let joined = subst (λ us. Tells true around facts ((own_facts (visit_of here kk true f ss) ++ lines) ++ us))
      (sym (walk_facts-append (slots_walk ss here kk) (items_walk xs q kk (suc n)))) renamed in
      entered-element f.is_dotted (is_empty kk) around facts (own_facts (visit_of here kk true f ss)) lines
      (walk_facts (slots_walk ss here kk ++ items_walk xs q kk (suc n))) d e joined

  mutual
    pub slots-tell : (ss : Slots) (b p : Path) (ks kk : List Key) → p ≡ below b ks → have_no_dotted (slots_walk ss p kk) ≡ true
        → Tells (shows ss) (tables_along [] p) (slots_facts ss p) (line_facts mode (tables_along [] b) b (table_lines mode ss ks)
        ++ walk_facts (slots_walk ss p kk))
    slots-tell no_slots b p ks kk e h = tells-nothing (tables_along [] p)
    slots-tell (slot k n ss) b p ks kk e h =
        let parts = sym (list_all-append (λ (v : Visit). not (v.is_element && v.fields.is_dotted)) (node_walk n (to_key p k.name) (kk
        ++ (k ∷ [])) false) (slots_walk ss p kk)) ∙ h in
        let first = and_left (have_no_dotted (node_walk n (to_key p k.name) (kk ++ (k ∷ [])) false)) (have_no_dotted (slots_walk ss p kk))
        parts in
        let others = and_right (have_no_dotted (node_walk n (to_key p k.name) (kk ++ (k ∷ [])) false)) (have_no_dotted (slots_walk ss p kk))
        parts in
        slot-both n ss k b p ks kk (node-tells n k b p ks kk e first) (slots-tell ss b p ks kk e others)

    node-tells : (n : Node) (k : Key) (b p : Path) (ks kk : List Key) → p ≡ below b ks
        → have_no_dotted (node_walk n (to_key p k.name) (kk ++ (k ∷ [])) false) ≡ true
        → Tells (is_shown n) (tables_along [] p) (if is_shown n then node_facts n (to_key p k.name) else [])
        (printed_at b n (ks ++ (k ∷ [])) (to_key p k.name) (kk ++ (k ∷ [])))
    node-tells (leaf s r d) k b p ks kk e h =
        value-lifted true (λ q. inside_facts (leaf s r d) (to_key q k.name))
        (line_facts mode (tables_along [] b) b (line_of (ks ++ (k ∷ [])) (leaf s r d) (value_of mode (leaf s r d)))) b p ks e
        (line-tells mode (tables_along [] b) (inside_facts (leaf s r d) (to_key (below b ks) k.name)) b ks k (leaf s r d)
        (value_of mode (leaf s r d))
        (value-alike mode (leaf s r d) (to_key (below b ks) k.name) refl))
    node-tells (list f xs) k b p ks kk e h =
        value-lifted true (λ q. inside_facts (list f xs) (to_key q k.name))
        (line_facts mode (tables_along [] b) b (line_of (ks ++ (k ∷ [])) (list f xs) (value_of mode (list f xs)))) b p ks e
        (line-tells mode (tables_along [] b) (inside_facts (list f xs) (to_key (below b ks) k.name)) b ks k (list f xs)
        (value_of mode (list f xs))
        (value-alike mode (list f xs) (to_key (below b ks) k.name) refl))
    node-tells (inline f ss) k b p ks kk e h =
        value-lifted (not f.is_dotted || shows_inside ss) (λ q. if not f.is_dotted || shows_inside ss
        then inside_facts (inline f ss) (to_key q k.name) else [])
        (line_facts mode (tables_along [] b) b (lines_at (inline f ss) (ks ++ (k ∷ [])))) b p ks e
        (inline-tells mode f.is_dotted (inline f ss) ss (tables_along [] b) b ks k
        (value-alike mode (inline f ss) (to_key (below b ks) k.name) refl)
        (inside-tells mode ss (tables_along [] b) b (ks ++ (k ∷ []))))
    node-tells (table f ss) k b p ks kk e h =
        let more = and_right (not (false && f.is_dotted)) (have_no_dotted (slots_walk ss (to_key p k.name) (kk ++ (k ∷ [])))) h in
        table-tell f ss k b p ks kk
        (slots-tell ss b (to_key p k.name) (ks ++ (k ∷ [])) (kk ++ (k ∷ [])) (ap (λ q. to_key q k.name) e ∙ sym (below-last b ks k)) more)
        (slots-tell ss (to_key p k.name) (to_key p k.name) [] (kk ++ (k ∷ [])) refl more)
    node-tells (tables x xs) k b p ks kk e h =
        tells-above (has_table xs) (tables_along [] p) (tables_facts xs (to_key p k.name) 0)
        (walk_facts (items_walk xs (to_key p k.name) (kk ++ (k ∷ [])) 0))
        (fact (to_key p k.name) an_array) (tables-show xs (to_key p k.name) 0) (items-tell xs p k.name (kk
        ++ (k ∷ [])) 0 (not_empty-last kk k) h)
    node-tells nothing k b p ks kk e h = tells-nothing (tables_along [] p)

    items-tell : (xs : Items) (p : Path) (k : Text) (kk : List Key) (n : ℕ) → is_empty kk ≡ false
        → have_no_dotted (items_walk xs (to_key p k) kk n) ≡ true
        → Tells (has_table xs) (tables_along [] p ++ (fact (to_key p k) an_array ∷ [])) (tables_facts xs (to_key p k) n)
        (walk_facts (items_walk xs (to_key p k) kk n))
    items-tell no_items p k kk n e h = tells-nothing (tables_along [] p ++ (fact (to_key p k) an_array ∷ []))
    items-tell (item (table f ss) xs) p k kk n e h =
        let here = to_element (to_key p k) n in
        let parts = and_right (not (true && f.is_dotted)) (have_no_dotted (slots_walk ss here kk ++ items_walk xs (to_key p k) kk (suc n)))
        h in
        let split = sym (list_all-append (λ (v : Visit). not (v.is_element && v.fields.is_dotted)) (slots_walk ss here kk)
        (items_walk xs (to_key p k) kk (suc n))) ∙ parts in
        element-tell f ss xs p k kk n e (not-true f.is_dotted
        (and_left (not (true && f.is_dotted)) (have_no_dotted (slots_walk ss here kk ++ items_walk xs (to_key p k) kk (suc n))) h))
        (slots-tell ss here here [] kk refl (and_left (have_no_dotted (slots_walk ss here kk))
        (have_no_dotted (items_walk xs (to_key p k) kk (suc n))) split))
        (items-tell xs p k kk (suc n) e (and_right (have_no_dotted (slots_walk ss here kk))
        (have_no_dotted (items_walk xs (to_key p k) kk (suc n))) split))
    items-tell (item (leaf s r d) xs) p k kk n e h = items-tell xs p k kk n e h
    items-tell (item (list f ys) xs) p k kk n e h = items-tell xs p k kk n e h
    items-tell (item (inline f ss) xs) p k kk n e h = items-tell xs p k kk n e h
    items-tell (item (tables x ys) xs) p k kk n e h = items-tell xs p k kk n e h
    items-tell (item nothing xs) p k kk n e h = items-tell xs p k kk n e h

  -- The tables that the walk enters have the facts of what the tree shows, but for the root's own.
  pub walk-tells : (t : Tree) → t.root.is_dotted ≡ false → have_no_dotted (slots_walk t.slots [] []) ≡ true
      → Alike (walk_facts (walk t)) (slots_facts t.slots [])
  walk-tells t d h =
      subst (λ b. Alike ((if b then [] else line_facts mode [] [] (table_lines mode t.slots []))
      ++ walk_facts (slots_walk t.slots [] [])) (slots_facts t.slots [])) (sym d)
      (tells-alone (shows t.slots) (slots_facts t.slots []) (line_facts mode [] [] (table_lines mode t.slots [])
      ++ walk_facts (slots_walk t.slots [] []))
      (slots-tell t.slots [] [] [] [] refl h))
