-- A document has at most one tree in each form.
use Rattle.std.proofs.Common.{◌≡◌, refl, sym, ◌∙◌, ap, subst, ℕ, suc, ◌+◌, List, [], ◌∷◌}
use Rattle.toml_edit_model.specs.Mode.{with_return}
use Rattle.toml_edit_model.specs.Syntax.{Statement, key_line, header, Document}
use Rattle.toml_edit_model.specs.Paths.{at_key, at_element, Mention, Source, all_mentions}
use Rattle.toml_edit_model.specs.Tree.{Node, nothing, leaf, list, inline, table, tables, Items, no_items, item, Slots, no_slots, slot, Tree}
use Rattle.toml_edit_model.specs.TreeOf.{Form, value_start, IsLineNode, IsTableRole, IsNodeOf, AreElementsOf, AreSlotsOf, IsTreeOf}
use Rattle.toml_edit_laws.proofs.values.OneNode.{one-node}
use Rattle.toml_edit_model.specs.Roles.{Role, array_role, value_role}
use Rattle.toml_edit_model.specs.TableMentions.{under, kept, array_headers}

-- a table has the role of a table
not-value : (form : Form) (r : Role) → IsTableRole form r → r ≡ value_role → ⊥
not-value form r h e = subst (IsTableRole form) e h

not-array : (form : Form) (r : Role) → IsTableRole form r → r ≡ array_role → ⊥
not-array form r h e = subst (IsTableRole form) e h

not-both : (r : Role) → r ≡ array_role → r ≡ value_role → ⊥
not-both r h e = let clash : array_role ≡ value_role = sym h ∙ e in cc

module _ (form : Form) where
  one-line : (s : Source) (st : Statement) (n o : Node) → IsLineNode form s st n → IsLineNode form s st o → n ≡ o
  one-line s (key_line f v end) n o h g =
      one-node form v (s.start + value_start form f) f.after_equals (with_return form.mode f.trailing end) n o h g
  one-line s (header h end) n o a b = absurd a

  mutual
    pub one-slot-node : (n o : Node) (ns : List (Mention Source)) (m : Mention Source) → IsNodeOf form ns m n → IsNodeOf form ns m o → n ≡ o
    one-slot-node (table f ss) (table g us) ns m h i =
        let fields : f ≡ g = h.1 ∙ sym i.1 in
        let slots = one-slots ss us ns (kept ns) h.2 i.2 in
        cc
    one-slot-node (tables e xs) (tables f ys) ns m h i =
        let extents : e ≡ f = h.1 ∙ sym i.1 in
        let items = one-elements xs ys ns 0 (array_headers ns) h.2 i.2 in
        cc
    one-slot-node (leaf s r d) (leaf t q c) ns m h i = one-line m.source m.source.statement (leaf s r d) (leaf t q c) h.1 i.1
    one-slot-node (leaf s r d) (list f xs) ns m h i = one-line m.source m.source.statement (leaf s r d) (list f xs) h.1 i.1
    one-slot-node (leaf s r d) (inline f ss) ns m h i = one-line m.source m.source.statement (leaf s r d) (inline f ss) h.1 i.1
    one-slot-node (list e ys) (leaf t q c) ns m h i = one-line m.source m.source.statement (list e ys) (leaf t q c) h.1 i.1
    one-slot-node (list e ys) (list f xs) ns m h i = one-line m.source m.source.statement (list e ys) (list f xs) h.1 i.1
    one-slot-node (list e ys) (inline f ss) ns m h i = one-line m.source m.source.statement (list e ys) (inline f ss) h.1 i.1
    one-slot-node (inline e us) (leaf t q c) ns m h i = one-line m.source m.source.statement (inline e us) (leaf t q c) h.1 i.1
    one-slot-node (inline e us) (list f xs) ns m h i = one-line m.source m.source.statement (inline e us) (list f xs) h.1 i.1
    one-slot-node (inline e us) (inline f ss) ns m h i = one-line m.source m.source.statement (inline e us) (inline f ss) h.1 i.1
    one-slot-node nothing o ns m h i = elim h [ ]
    one-slot-node (table f ss) nothing ns m h i = elim i [ ]
    one-slot-node (tables e xs) nothing ns m h i = elim i [ ]
    one-slot-node (leaf s r d) nothing ns m h i = elim i [ ]
    one-slot-node (list f xs) nothing ns m h i = elim i [ ]
    one-slot-node (inline f ss) nothing ns m h i = elim i [ ]
    one-slot-node (table f ss) (tables e xs) ns m h i = absurd (not-array form m.role h.0 i.0)
    one-slot-node (table f ss) (leaf s r d) ns m h i = absurd (not-value form m.role h.0 i.0)
    one-slot-node (table f ss) (list g xs) ns m h i = absurd (not-value form m.role h.0 i.0)
    one-slot-node (table f ss) (inline g us) ns m h i = absurd (not-value form m.role h.0 i.0)
    one-slot-node (tables e xs) (table f ss) ns m h i = absurd (not-array form m.role i.0 h.0)
    one-slot-node (tables e xs) (leaf s r d) ns m h i = absurd (not-both m.role h.0 i.0)
    one-slot-node (tables e xs) (list g ys) ns m h i = absurd (not-both m.role h.0 i.0)
    one-slot-node (tables e xs) (inline g us) ns m h i = absurd (not-both m.role h.0 i.0)
    one-slot-node (leaf s r d) (table f ss) ns m h i = absurd (not-value form m.role i.0 h.0)
    one-slot-node (list g xs) (table f ss) ns m h i = absurd (not-value form m.role i.0 h.0)
    one-slot-node (inline g us) (table f ss) ns m h i = absurd (not-value form m.role i.0 h.0)
    one-slot-node (leaf s r d) (tables e xs) ns m h i = absurd (not-both m.role i.0 h.0)
    one-slot-node (list g ys) (tables e xs) ns m h i = absurd (not-both m.role i.0 h.0)
    one-slot-node (inline g us) (tables e xs) ns m h i = absurd (not-both m.role i.0 h.0)

    one-elements : (xs ys : Items) (ns : List (Mention Source)) (i : ℕ) (more : List (Mention Source))
        → AreElementsOf form ns i more xs → AreElementsOf form ns i more ys → xs ≡ ys
    one-elements no_items no_items ns i [] h g = refl
    one-elements (item (table f ss) xs) (item (table e us) ys) ns i (a ∷ more) h g =
        let fields : f ≡ e = h.0 ∙ sym g.0 in
        let slots = one-slots ss us (under (at_element i) ns) (kept (under (at_element i) ns)) h.1 g.1 in
        let others = one-elements xs ys ns (suc i) more h.2 g.2 in
        cc
    one-elements no_items ys ns i (a ∷ more) h g = absurd h
    one-elements (item n xs) ys ns i [] h g = absurd h
    one-elements no_items (item n ys) ns i [] h g = absurd g
    one-elements (item n xs) no_items ns i (a ∷ more) h g = absurd g
    one-elements (item (table f ss) xs) (item n ys) ns i (a ∷ more) h g = absurd g
    one-elements (item n xs) (item o ys) ns i (a ∷ more) h g = absurd h

    pub one-slots : (ss us : Slots) (ms ks : List (Mention Source)) → AreSlotsOf form ms ks ss → AreSlotsOf form ms ks us → ss ≡ us
    one-slots no_slots no_slots ms [] h g = refl
    one-slots (slot k n ss) (slot l o us) ms (m ∷ ks) h g =
        let keys : k ≡ l = h.0 ∙ sym g.0 in
        let nodes = one-slot-node n o (under (at_key m.segment.key) ms) m h.1 g.1 in
        let others = one-slots ss us ms ks h.2 g.2 in
        cc
    one-slots no_slots us ms (m ∷ ks) h g = absurd h
    one-slots (slot k n ss) us ms [] h g = absurd h
    one-slots no_slots (slot k n us) ms [] h g = absurd g
    one-slots (slot k n ss) no_slots ms (m ∷ ks) h g = absurd g

  -- Two trees of a document are the same.
  pub one-tree : (d : Document) (t u : Tree) → IsTreeOf form d t → IsTreeOf form d u → t ≡ u
  one-tree d t u h g =
      let roots : t.root ≡ u.root = h.root ∙ sym g.root in
      let slots : t.slots ≡ u.slots = one-slots t.slots u.slots (all_mentions d) (kept (all_mentions d)) h.slots g.slots in
      let trailing : t.trailing ≡ u.trailing = h.trailing ∙ sym g.trailing in
      ap (λ r. record t { root = r }) roots
      ∙ ap (λ ss. record t { root = u.root; slots = ss }) slots
      ∙ ap (λ r. record u { trailing = r }) trailing
