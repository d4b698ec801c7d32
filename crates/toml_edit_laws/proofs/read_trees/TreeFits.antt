-- The spans of the tree of a document in UTF-8 lie in its text, on the boundaries of characters.
use Rattle.std.proofs.Common.{refl, sym, subst, ℕ, suc, ◌+◌, ◌-◌, inl, inr, true, false, Bool, List, [], ◌∷◌, length}
use Rattle.std.specs.Prelude.{if◌then◌else◌}
use Rattle.std.specs.Str.{IsUtf8}
use Rattle.toml_edit_model.specs.Mode.{Mode, with_return}
use Rattle.toml_edit_model.specs.Text.{Text}
use Rattle.toml_edit_model.specs.Syntax.{Statement, key_line, header, Document, IsDocument, document_text}
use Rattle.toml_edit_model.specs.Paths.{at_key, at_element, Mention, Source, all_mentions}
use Rattle.toml_edit_model.specs.Tree.{unset, Node, nothing, leaf, list, inline, table, tables, Items, no_items, item, Slots, no_slots}
use Rattle.toml_edit_model.specs.Tree.{slot, Tree}
use Rattle.toml_edit_model.specs.TreeOf.{spanned_in, value_start, key_at, statement_leaf, header_fields, fields_of, IsLineNode, IsNodeOf}
use Rattle.toml_edit_model.specs.TreeOf.{AreElementsOf, AreSlotsOf, IsTreeOf}
use Rattle.toml_edit_laws.proofs.mentions.KeptMentions.{kept-is}
use Rattle.toml_edit_laws.proofs.values.ValueFits.{value_fits}
use Rattle.toml_edit_laws.proofs.read_trees.MentionsStand.{Holds, holds-under, arrays-among}
use Rattle.toml_edit_laws.proofs.read_trees.StatementsFit.{StatementFits, MentionFits, document-fits}
use Rattle.toml_edit_laws.proofs.values.TextsLie.{raw-fits}
use Rattle.toml_edit_model.specs.Roles.{Role, dotted_role, implied_role, header_role, array_role, value_role, continued_role, ends_path}
use Rattle.toml_edit_model.specs.TableMentions.{under, kept, array_headers}
use Rattle.toml_edit_model.specs.OwnedForm.{RawFits, DecorFits, KeyFits, NodeFits, ItemsFit, SlotsFit}

-- What fits of the tree of a document.
pub record TreeFits (text : Text) (t : Tree) : Type 0 where
  pub root : DecorFits text t.root.decor
  pub slots : SlotsFit text t.slots
  pub trailing : RawFits text t.trailing

module _ (mode : Mode) where
  module _ (text : Text) (utf8 : IsUtf8 text) where
    leaf-fits : (s : Source) (st : Statement) → StatementFits mode text s st → DecorFits text (statement_leaf (spanned_in mode) s st)
    leaf-fits s (key_line f v end) h = h.1.leaf
    leaf-fits s (header g end) h = h.leaf

    key-fits : (m : Mention Source) → MentionFits mode text m.start m.segment m.source → KeyFits text (key_at (spanned_in mode) m)
    key-fits m h = (
      raw-fits text m.start m.segment.spelled h.segment.spelled,
      by_test (ends_path m.role),
      (
        raw-fits text (m.start - length m.segment.before) m.segment.before h.segment.before,
        raw-fits text (m.start + length m.segment.spelled) m.segment.after h.segment.after,
      ),
    )
      where
        by_test : (b : Bool) → DecorFits text (if b then statement_leaf (spanned_in mode) m.source m.source.statement else unset)
        by_test true = leaf-fits m.source m.source.statement h.statement
        by_test false = (tt, tt)

    header-fields-fit : (s : Source) (st : Statement) → StatementFits mode text s st
        → DecorFits text (header_fields (spanned_in mode) s st).decor
    header-fields-fit s (key_line f v end) h = (tt, tt)
    header-fields-fit s (header g end) h = h.decor

    fields-fit : (ns : List (Mention Source)) (m : Mention Source) (r : Role) → StatementFits mode text m.source m.source.statement
        → DecorFits text (fields_of (spanned_in mode) ns m r).decor
    fields-fit ns m header_role h = header-fields-fit m.source m.source.statement h
    fields-fit ns m dotted_role h = (tt, tt)
    fields-fit ns m implied_role h = (tt, tt)
    fields-fit ns m array_role h = (tt, tt)
    fields-fit ns m value_role h = (tt, tt)
    fields-fit ns m continued_role h = (tt, tt)

    line-node-fits : (s : Source) (st : Statement) (n : Node) → StatementFits mode text s st → IsLineNode (spanned_in mode) s st n
        → NodeFits text n
    line-node-fits s (key_line f v end) n h is =
        value_fits mode text v (s.start + value_start (spanned_in mode) f) f.after_equals (with_return mode f.trailing end) n utf8 h.0 is
        h.1.stands h.1.value
    line-node-fits s (header g end) n h is = absurd is

    mutual
      node-fits : (n : Node) (ns : List (Mention Source)) (m : Mention Source) → Holds (MentionFits mode text) ns
          → MentionFits mode text m.start m.segment m.source
          → IsNodeOf (spanned_in mode) ns m n → NodeFits text n
      node-fits (table f ss) ns m h at is = (
        subst (λ g. DecorFits text g.decor) (sym is.1) (fields-fit ns m m.role at.statement),
        slots-fit ss ns (kept ns) h (λ k a. h k (kept-is [] k ns a).among) is.2,
      )
      node-fits (tables e xs) ns m h at is = elements-fit xs ns 0 (array_headers ns) h (λ k a. h k (arrays-among k ns a)) is.2
      node-fits (leaf s r d) ns m h at is = line-node-fits m.source m.source.statement (leaf s r d) at.statement is.1
      node-fits (list f xs) ns m h at is = line-node-fits m.source m.source.statement (list f xs) at.statement is.1
      node-fits (inline f ss) ns m h at is = line-node-fits m.source m.source.statement (inline f ss) at.statement is.1
      node-fits nothing ns m h at is = absurd is

      elements-fit : (xs : Items) (ns : List (Mention Source)) (i : ℕ) (more : List (Mention Source)) → Holds (MentionFits mode text) ns
          → Holds (MentionFits mode text) more → AreElementsOf (spanned_in mode) ns i more xs → ItemsFit text xs
      elements-fit no_items ns i [] h g is = tt
      elements-fit (item (table f ss) xs) ns i (a ∷ more) h g is =
          let below = holds-under (MentionFits mode text) (at_element i) ns h in (
            (
              subst (λ x. DecorFits text x.decor) (sym is.0) (header-fields-fit a.source a.source.statement (g a (inl refl)).statement),
              slots-fit ss (under (at_element i) ns) (kept (under (at_element i) ns)) below
                  (λ k b. below k (kept-is [] k (under (at_element i) ns) b).among) is.1,
            ),
            elements-fit xs ns (suc i) more h (λ k b. g k (inr b)) is.2,
          )
      elements-fit no_items ns i (a ∷ more) h g is = absurd is
      elements-fit (item n xs) ns i [] h g is = absurd is
      elements-fit (item n xs) ns i (a ∷ more) h g is = absurd is

      slots-fit : (ss : Slots) (ms ks : List (Mention Source)) → Holds (MentionFits mode text) ms → Holds (MentionFits mode text) ks
          → AreSlotsOf (spanned_in mode) ms ks ss → SlotsFit text ss
      slots-fit no_slots ms [] h g is = tt
      slots-fit (slot key n ss) ms (k ∷ ks) h g is =
          let at = g k (inl refl) in (
            subst (KeyFits text) (sym is.0) (key-fits k at),
            node-fits n (under (at_key k.segment.key) ms) k (holds-under (MentionFits mode text) (at_key k.segment.key) ms h) at is.1,
            slots-fit ss ms ks h (λ m a. g m (inr a)) is.2,
          )
      slots-fit no_slots ms (k ∷ ks) h g is = absurd is
      slots-fit (slot key n ss) ms [] h g is = absurd is

  pub tree-fits : (d : Document) (t : Tree) → IsDocument d → IsUtf8 (document_text d) → IsTreeOf (spanned_in mode) d t
      → TreeFits (document_text d) t
  tree-fits d t grammar utf8 is =
      let fits = document-fits mode d grammar utf8 in
      record {
        root = subst (λ f. DecorFits (document_text d) f.decor) (sym is.root) (tt, tt);
        slots =
            slots-fit (document_text d) utf8 t.slots (all_mentions d) (kept (all_mentions d)) fits.mentions
            (λ k a. fits.mentions k (kept-is [] k (all_mentions d) a).among) is.slots;
        trailing =
            subst (RawFits (document_text d)) (sym is.trailing)
            (raw-fits (document_text d) (length (document_text d) - length d.final) d.final fits.final);
      }
