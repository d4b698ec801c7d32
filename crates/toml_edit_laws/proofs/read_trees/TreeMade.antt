-- The tree with owned texts of an accepted document is well made.
use Rattle.std.proofs.Common.{◌≡◌, refl, sym, ◌∙◌, ap, subst, ℕ, suc, ◌+◌, inl, inr, true, false, List, [], ◌∷◌, None}
use Rattle.std.specs.Prelude.{◌||◌}
use Rattle.toml_edit_model.specs.Mode.{Mode, with_return}
use Rattle.toml_edit_model.specs.Text.{Text, same_text}
use Rattle.toml_edit_model.specs.Spelling.{SpellsKey}
use Rattle.toml_edit_model.specs.Syntax.{Statement, key_line, header, Document, IsDocument}
use Rattle.toml_edit_model.specs.Paths.{at_key, at_element, Mention, Source, all_mentions}
use Rattle.toml_edit_model.specs.Accepted.{is_accepted}
use Rattle.toml_edit_model.specs.Tree.{Key, Node, nothing, leaf, list, inline, table, tables, Items, no_items, item, Slots, no_slots, slot}
use Rattle.toml_edit_model.specs.Tree.{Tree, has_key, HasTrueSpelling, IsWellMade, ItemsAreWellMade, SlotsAreWellMade}
use Rattle.toml_edit_model.specs.TreeOf.{Form, owned_in, value_start, IsLineNode, IsNodeOf, AreElementsOf, AreSlotsOf, IsTreeOf}
use Rattle.toml_edit_laws.proofs.mentions.GatherLaws.{first_of_key, AreDistinct, first-none}
use Rattle.toml_edit_laws.proofs.mentions.KeptMentions.{kept-is}
use Rattle.toml_edit_laws.proofs.adding.TableMentions.{AreOfTable, of_step, one_slot}
use Rattle.toml_edit_laws.proofs.adding.StatementMentions.{document_table}
use Rattle.toml_edit_laws.proofs.values.ValueMade.{made_well}
use Rattle.toml_edit_laws.proofs.read_trees.MentionsStand.{holds-under}
use Rattle.toml_edit_laws.proofs.read_trees.StatementsRight.{HasRightValue, IsRightMention, AreRight, document-right}
use Rattle.toml_edit_model.specs.TableMentions.{under, kept, array_headers}

-- a key that no kept mention has isn't among the slots
pub key-absent : (form : Form) (k : Text) (ms ks : List (Mention Source)) (ss : Slots) → first_of_key k ks ≡ None → AreSlotsOf form ms ks ss
    → has_key k ss ≡ false
key-absent form k ms [] no_slots e h = refl
key-absent form k ms [] (slot l n ss) e h = absurd h
key-absent form k ms (m ∷ ks) no_slots e h = absurd h
key-absent form k ms (m ∷ ks) (slot l n ss) e h =
    let away = first-none k m ks e in
    ap (λ (x : Key). same_text k x.name || has_key k ss) h.0
    ∙ ap (λ b. b || has_key k ss) away.0
    ∙ key-absent form k ms ks ss away.1 h.2

right-under : (ms : List (Mention Source)) (k : Text) → AreRight ms → AreRight (under (at_key k) ms)
right-under ms k h = holds-under (λ i s source. IsRightMention s source) (at_key k) ms h

module _ (mode : Mode) where
  line-well : (s : Source) (st : Statement) (n : Node) → HasRightValue st → IsLineNode (owned_in mode) s st n → IsWellMade n
  line-well s (key_line f v end) n h is =
      made_well mode n v (s.start + value_start (owned_in mode) f) f.after_equals (with_return mode f.trailing end) h is
  line-well s (header g end) n h is = absurd is

  mutual
    node-well : (n : Node) (ns : List (Mention Source)) (m : Mention Source) → AreOfTable ns → AreRight ns
        → IsRightMention m.segment m.source
        → IsNodeOf (owned_in mode) ns m n → IsWellMade n
    node-well (table f ss) ns m are right at is =
        slots-well ss ns (kept ns) are right (λ k a. right k (kept-is [] k ns a).among) (one_slot ns are.named are.one_header) is.2
    node-well (tables e xs) ns m are right at is = elements-well xs ns 0 (array_headers ns) are right is.2
    node-well (leaf s r d) ns m are right at is = line-well m.source m.source.statement (leaf s r d) at.value is.1
    node-well (list f xs) ns m are right at is = line-well m.source m.source.statement (list f xs) at.value is.1
    node-well (inline f ss) ns m are right at is = line-well m.source m.source.statement (inline f ss) at.value is.1
    node-well nothing ns m are right at is = absurd is

    elements-well : (xs : Items) (ns : List (Mention Source)) (i : ℕ) (more : List (Mention Source)) → AreOfTable ns → AreRight ns
        → AreElementsOf (owned_in mode) ns i more xs → ItemsAreWellMade xs
    elements-well no_items ns i [] are right is = tt
    elements-well (item (table f ss) xs) ns i (a ∷ more) are right is =
        let below = of_step (at_element i) ns are in
        let each = holds-under (λ j s source. IsRightMention s source) (at_element i) ns right in (
          slots-well ss (under (at_element i) ns) (kept (under (at_element i) ns)) below each
              (λ k b. each k (kept-is [] k (under (at_element i) ns) b).among)
              (one_slot (under (at_element i) ns) below.named below.one_header) is.1,
          elements-well xs ns (suc i) more are right is.2,
        )
    elements-well no_items ns i (a ∷ more) are right is = absurd is
    elements-well (item n xs) ns i [] are right is = absurd is
    elements-well (item n xs) ns i (a ∷ more) are right is = absurd is

    slots-well : (ss : Slots) (ms ks : List (Mention Source)) → AreOfTable ms → AreRight ms → AreRight ks → AreDistinct ks
        → AreSlotsOf (owned_in mode) ms ks ss → SlotsAreWellMade ss
    slots-well no_slots ms [] are right each apart is = tt
    slots-well (slot key n ss) ms (k ∷ ks) are right each apart is =
        let at = each k (inl refl) in (
          ap (λ (x : Key). has_key x.name ss) is.0 ∙ key-absent (owned_in mode) k.segment.key ms ks ss apart.0 is.2,
          subst (λ (x : Key). HasTrueSpelling (SpellsKey x.name) x.spelling) (sym is.0) at.key,
          node-well n (under (at_key k.segment.key) ms) k (of_step (at_key k.segment.key) ms are) (right-under ms k.segment.key right) at
              is.1,
          slots-well ss ms ks are right (λ m a. each m (inr a)) apart.1 is.2,
        )
    slots-well no_slots ms (k ∷ ks) are right each apart is = absurd is
    slots-well (slot key n ss) ms [] are right each apart is = absurd is

  -- The tree with owned texts of an accepted document is well made.
  pub tree-made : (d : Document) (t : Tree) → IsDocument d → is_accepted d ≡ true → IsTreeOf (owned_in mode) d t → SlotsAreWellMade t.slots
  tree-made d t grammar accepted is =
      let ms = all_mentions d in
      let are = document_table d accepted in
      let right = document-right d grammar accepted in
      slots-well t.slots ms (kept ms) are right (λ k a. right k (kept-is [] k ms a).among) (one_slot ms are.named are.one_header) is.slots
