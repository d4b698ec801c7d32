-- What is added to an index: entries one after another, and an item with what is below it.
use Rattle.std.proofs.Common.{◌≡◌, refl, sym, ap, subst, ◌∙◌, ℕ, suc, ◌+◌, ◌<◌, ◌≤◌, true, false, List, [], ◌∷◌, ◌++◌, length, get_or, set, drop, flat_map, Option, None, Some, arith, append_assoc, append-nil}
use Rattle.std.proofs.lemmas.Grind.{flat_map-append}
use Rattle.std.proofs.lemmas.List.{drop_all, drop_more, get_or_at, length-append, set_at}
use Rattle.toml_edit_model.specs.Lists.{is_item}
use Rattle.toml_edit_model.specs.Text.{Text}
use Rattle.toml_edit_model.specs.Tree.{Key, Node, Slots, Tree, item, slot}
use Rattle.toml_edit_slots.specs.declared.slots.Slot.{Slot}
use Rattle.toml_edit_tree.specs.ItemParts.{item_span}
use Rattle.toml_edit_tree.specs.View.{item_view, items_view, slots_view}
use Rattle.toml_edit_tree.specs.declared.item.Item.{Item}
use Rattle.toml_edit_index.specs.Indexed.{Entry, IsIndexOf, after, before, entries_below, entries_of_elements, entries_of_slots, key_span, kind_of, names_of, node_of, nodes_from, nowhere, place_in, root_node, span_of, start_of}
use Rattle.toml_edit_index.specs.IndexSteps.{Adds, Closes, entries_with, opened}
use Rattle.toml_edit_index.specs.Lines.{position_at}
use Rattle.toml_edit_index.specs.declared.found.Found.{Found}
use Rattle.toml_edit_index.specs.declared.lines.Position.{Position}
use Rattle.toml_edit_index.specs.declared.node.Node.{Node as IndexNode}
use Rattle.toml_edit_index.specs.declared.node.Span.{Span}
use Rattle.toml_edit_index.proofs.LineLaws.{position_at-is}

-- ---- nodes of entries

pub length-nodes_from : (text : Text) (from : ℕ) (es : List Entry) → length (nodes_from text from es) ≡ length es
length-nodes_from text from [] = refl
length-nodes_from text from (e ∷ es) = ap suc (length-nodes_from text (from + length (names_of e)) es)

nodes_from-append : (text : Text) (from : ℕ) (es fs : List Entry)
    → nodes_from text from (es ++ fs) ≡ nodes_from text from es ++ nodes_from text (from + length (flat_map names_of es)) fs
nodes_from-append text from [] fs =
    let e : from ≡ from + 0 = omega arith in ap (λ n. nodes_from text n fs) e
nodes_from-append text from (e ∷ es) fs =
    let here = names_of e in
    let at : (from + length here) + length (flat_map names_of es) ≡ from + length (here ++ flat_map names_of es) =
    omega (arith, length-append here (flat_map names_of es)) in
    ap (λ (ns : List IndexNode). node_of text from e ∷ ns)
    (nodes_from-append text (from + length here) es fs ∙ ap (λ n. nodes_from text (from + length here) es ++ nodes_from text n fs) at)

-- ---- what is added

pub adds-none : (a : Found) → Adds [] a a
adds-none a = record {
  nodes = sym (append-nil a.nodes.items);
  names = sym (append-nil a.names.items);
  lines = refl;
}

pub adds-append : (es fs : List Entry) (a b c : Found) → Adds es a b → Adds fs b c → Adds (es ++ fs) a c
adds-append es fs a b c first then =
    let text = a.lines.bytes.now in
    let from = length a.names.items in
    let at : length b.names.items ≡ from + length (flat_map names_of es) =
    ap length first.names ∙ length-append a.names.items (flat_map names_of es) in
    let behind : nodes_from b.lines.bytes.now (length b.names.items) fs ≡ nodes_from text (from + length (flat_map names_of es)) fs =
    ap (λ l. nodes_from l.bytes.now (length b.names.items) fs) first.lines ∙ ap (λ n. nodes_from text n fs) at in
    record {
      nodes =
          then.nodes ∙ ap (λ (ns : List IndexNode). b.nodes.items ++ ns) behind
          ∙ ap (λ (ns : List IndexNode). ns ++ nodes_from text (from + length (flat_map names_of es)) fs) first.nodes
          ∙ append_assoc a.nodes.items _ _ ∙ ap (λ (ns : List IndexNode). a.nodes.items ++ ns) (sym (nodes_from-append text from es fs));
      names =
          then.names ∙ ap (λ (t : Text). t ++ flat_map names_of fs) first.names
          ∙ append_assoc a.names.items _ _ ∙ ap (λ (t : Text). a.names.items ++ t) (sym (flat_map-append names_of es fs));
      lines = then.lines ∙ first.lines;
    }

pub adds-length : (es : List Entry) (a b : Found) → Adds es a b → length b.nodes.items ≡ length a.nodes.items + length es
adds-length es a b added =
    let from = length a.names.items in
    ap length added.nodes ∙ length-append a.nodes.items _ ∙ ap (λ n. length a.nodes.items + n) (length-nodes_from a.lines.bytes.now from es)

-- a node that is written again with where it ends
pub closes : (ns : List IndexNode) (at next : ℕ) (n : IndexNode) → n ≡ get_or ns at n → next ≡ length ns
    → (before behind : List IndexNode) (m : IndexNode) → ns ≡ before ++ (m ∷ behind) → length before ≡ at
    → set ns at (record n { next = next }) ≡ before ++ (record m { next = length ns } ∷ behind)
closes ns at next n is end before behind m split size =
    let same : n ≡ m = is ∙ ap (λ (ms : List IndexNode). get_or ms at n) split ∙ get_or_at before m behind n at size in
    ap (λ (ms : List IndexNode). set ms at (record n { next = next })) split
    ∙ set_at before m behind (record n { next = next }) at size
    ∙ ap (λ (k : IndexNode). before ++ (record k { next = next } ∷ behind)) same
    ∙ ap (λ (i : ℕ). before ++ (record m { next = i } ∷ behind)) end

-- a node that is closed says where the nodes end
pub adds_closed : (parent : ℕ) (k : Option Key) (n : Node) (below : List Entry) (a c d : Found)
    → Adds (opened parent k n ∷ below) a c → Closes (length a.nodes.items) c d
    → Adds (record { parent = parent; next = suc (length a.nodes.items) + length below; key = k; item = n } ∷ below) a d
adds_closed parent k n below a c d added closes =
    let text = a.lines.bytes.now in
    let from = length a.names.items in
    let closed = closes a.nodes.items (nodes_from text (from + length (names_of (opened parent k n))) below) (node_of text from (opened parent k n)) added.nodes refl in
    let next : length c.nodes.items ≡ suc (length a.nodes.items) + length below =
    omega (arith, adds-length (opened parent k n ∷ below) a c added) in
    record {
      nodes =
          closed.0
          ∙ ap (λ (m : ℕ). a.nodes.items ++ (nodes_from text from (record { parent = parent; next = m; key = k; item = n } ∷ below))) next;
      names = ap (λ v. v.items) closed.1 ∙ added.names;
      lines = closed.2 ∙ added.lines;
    }

-- where an item is, and what it is
pub placed-is : (text : Text) (parent : ℕ) (k : Option Key) (n : Node) (kind start : ℕ) (key here front behind : Span) (p : Position)
    → kind ≡ kind_of n → key ≡ key_span k → here ≡ span_of (item_span n) → front ≡ before k n → behind ≡ after n → start ≡ start_of k n
    → p ≡ position_at text start
    → record {
      kind = kind;
      parent = parent;
      next = 0;
      name = nowhere;
      content = nowhere;
      key = key;
      item = here;
      before = front;
      after = behind;
      line = p.line;
      column = p.column;
    } ≡ record (node_of text 0 (opened parent k n)) { name = nowhere; content = nowhere }
placed-is text parent k n kind start key here front behind p is spelled stands first last begins at =
    let q = place_in text (start_of k n) in
    let place : p ≡ record { line = suc q.line; column = suc q.column } = at ∙ ap (position_at text) begins ∙ position_at-is text (start_of k n) in
    let line : p.line ≡ suc q.line = ap (λ (r : Position). r.line) place in
    let column : p.column ≡ suc q.column = ap (λ (r : Position). r.column) place in
    cc

-- an item and what is below it
pub adds_item : (parent at : ℕ) (k : Option Key) (n : Node) (a b c d : Found) → at ≡ length a.nodes.items
    → Adds (opened parent k n ∷ []) a b → Adds (entries_below at n) b c → Closes at c d
    → Adds (entries_with parent (length a.nodes.items) k n) a d
adds_item parent at k n a b c d is first below closes =
    let own = length a.nodes.items in
    let under = subst (λ (m : ℕ). Adds (entries_below m n) b c) is below in
    adds_closed parent k n (entries_below own n) a c d (adds-append (opened parent k n ∷ []) (entries_below own n) a b c first under)
    (subst (λ (m : ℕ). Closes m c d) is closes)

-- ---- slots

pub slots_end : (parent : ℕ) (es : List (Slot Item)) (i : ℕ) → length es ≤ i → (a : Found)
    → Adds (entries_of_slots parent (length a.nodes.items) (slots_view (drop i es))) a a
slots_end parent es i h a =
    subst (λ (ys : List (Slot Item)). Adds (entries_of_slots parent (length a.nodes.items) (slots_view ys)) a a) (sym (drop_all i es h)) (adds-none a)

module _ (parent : ℕ) (es : List (Slot Item)) (i : ℕ) (s : Slot Item) (h : i < length es) (is : s ≡ get_or es i s) where
  one_slot : (at : ℕ) → entries_of_slots parent at (slots_view (drop i es))
      ≡ entries_of_slots parent at (slot s.key (item_view s.item) (slots_view (drop (i + 1) es)))
  one_slot at =
      ap (λ ys. entries_of_slots parent at (slots_view ys)) (drop_more es i s h)
      ∙ ap (λ (e : Slot Item). entries_of_slots parent at (slot e.key (item_view e.item) (slots_view (drop (i + 1) es)))) (sym is)

  -- the entries of an item, and those of the slots behind it
  pub slot_turn : is_item (item_view s.item) ≡ true → (a b c : Found)
      → Adds (entries_with parent (length a.nodes.items) (Some s.key) (item_view s.item)) a b
      → Adds (entries_of_slots parent (length b.nodes.items) (slots_view (drop (i + 1) es))) b c
      → Adds (entries_of_slots parent (length a.nodes.items) (slots_view (drop i es))) a c
  slot_turn filled a b c first then =
      let at = length a.nodes.items in
      let own = entries_with parent at (Some s.key) (item_view s.item) in
      let next : length b.nodes.items ≡ suc at + length (entries_below at (item_view s.item)) =
      omega (arith, adds-length own a b first) in
      let rest = λ (m : ℕ). entries_of_slots parent m (slots_view (drop (i + 1) es)) in
      let all : entries_of_slots parent at (slot s.key (item_view s.item) (slots_view (drop (i + 1) es))) ≡ own ++ rest (length b.nodes.items) =
      rw filled (ap (λ (m : ℕ). own ++ rest m) (sym next)) in
      subst (λ (xs : List Entry). Adds xs a c) (sym (one_slot at ∙ all)) (adds-append own (rest (length b.nodes.items)) a b c first then)

  -- a placeholder has none
  pub gap_turn : is_item (item_view s.item) ≡ false → (a c : Found)
      → Adds (entries_of_slots parent (length a.nodes.items) (slots_view (drop (i + 1) es))) a c
      → Adds (entries_of_slots parent (length a.nodes.items) (slots_view (drop i es))) a c
  gap_turn empty a c then =
      let at = length a.nodes.items in
      let all : entries_of_slots parent at (slot s.key (item_view s.item) (slots_view (drop (i + 1) es))) ≡ entries_of_slots parent at (slots_view (drop (i + 1) es)) =
      rw empty refl in
      subst (λ (xs : List Entry). Adds xs a c) (sym (one_slot at ∙ all)) then

-- ---- elements

pub elements_end : (parent : ℕ) (xs : List Item) (i : ℕ) → length xs ≤ i → (a : Found)
    → Adds (entries_of_elements parent (length a.nodes.items) (items_view (drop i xs))) a a
elements_end parent xs i h a =
    subst (λ (ys : List Item). Adds (entries_of_elements parent (length a.nodes.items) (items_view ys)) a a) (sym (drop_all i xs h)) (adds-none a)

module _ (parent : ℕ) (xs : List Item) (i : ℕ) (x : Item) (h : i < length xs) (is : x ≡ get_or xs i x) where
  one_element : (at : ℕ) → entries_of_elements parent at (items_view (drop i xs))
      ≡ entries_of_elements parent at (item (item_view x) (items_view (drop (i + 1) xs)))
  one_element at =
      ap (λ ys. entries_of_elements parent at (items_view ys)) (drop_more xs i x h)
      ∙ ap (λ (e : Item). entries_of_elements parent at (item (item_view e) (items_view (drop (i + 1) xs)))) (sym is)

  pub element_turn : (a b c : Found)
      → Adds (entries_with parent (length a.nodes.items) None (item_view x)) a b
      → Adds (entries_of_elements parent (length b.nodes.items) (items_view (drop (i + 1) xs))) b c
      → Adds (entries_of_elements parent (length a.nodes.items) (items_view (drop i xs))) a c
  element_turn a b c first then =
      let at = length a.nodes.items in
      let own = entries_with parent at None (item_view x) in
      let next : length b.nodes.items ≡ suc at + length (entries_below at (item_view x)) =
      omega (arith, adds-length own a b first) in
      let rest = λ (m : ℕ). entries_of_elements parent m (items_view (drop (i + 1) xs)) in
      subst (λ (ys : List Entry). Adds ys a c) (sym (one_element at ∙ ap (λ (m : ℕ). own ++ rest m) (sym next)))
      (adds-append own (rest (length b.nodes.items)) a b c first then)

-- ---- a document

-- the entries of its slots behind its root, which is closed
pub index-is : (text : Text) (t : Tree) (ss : Slots) (n : IndexNode) (a b c : Found) → a.lines.bytes.now ≡ text → n ≡ root_node 1 t.trailing
    → a.nodes.items ≡ n ∷ [] → a.names.items ≡ [] → ss ≡ t.slots → Adds (entries_of_slots 0 (length a.nodes.items) ss) a b → Closes 0 b c
    → IsIndexOf text t c.nodes.items c.names.items
index-is text t ss n a b c same root one none slots added closes =
    let own = entries_of_slots 0 (length a.nodes.items) ss in
    let es = entries_of_slots 0 1 t.slots in
    let entries : own ≡ es = ap (λ (ns : List IndexNode). entries_of_slots 0 (length ns) ss) one ∙ ap (entries_of_slots 0 1) slots in
    let below = nodes_from text 0 es in
    let all : b.nodes.items ≡ n ∷ below =
    added.nodes ∙ ap (λ (ns : List IndexNode). ns ++ nodes_from a.lines.bytes.now (length a.names.items) own) one
    ∙ ap (λ (u : Text). n ∷ nodes_from u (length a.names.items) own) same ∙ ap (λ (u : Text). n ∷ nodes_from text (length u) own) none
    ∙ ap (λ (xs : List Entry). n ∷ nodes_from text 0 xs) entries in
    let closed = closes [] below n all refl in
    let next : length b.nodes.items ≡ suc (length es) = ap length all ∙ ap suc (length-nodes_from text 0 es) in (
      closed.0 ∙ ap (λ (m : ℕ). record n { next = m } ∷ below) next ∙ ap (λ (m : IndexNode). record m { next = suc (length es) } ∷ below) root,
      ap (λ v. v.items) closed.1 ∙ added.names ∙ ap (λ (u : Text). u ++ flat_map names_of own) none ∙ ap (flat_map names_of) entries,
    )
