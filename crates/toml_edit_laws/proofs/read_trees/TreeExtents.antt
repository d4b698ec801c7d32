-- The extents of the tree of a document lie in its text.
use Rattle.std.proofs.Common.{◌≤◌, refl, sym, subst, ℕ, suc, ◌+◌, arith, inl, inr, List, [], ◌∷◌, ◌++◌, length}
use Rattle.std.specs.Prelude.{fold}
use Rattle.toml_edit_model.specs.Mode.{Mode, with_return}
use Rattle.toml_edit_model.specs.Text.{Text}
use Rattle.toml_edit_model.specs.Syntax.{Header, Statement, key_line, header, value_text, brackets_text, statement_text, document_text}
use Rattle.toml_edit_model.specs.Paths.{at_key, at_element, Mention, Source, all_mentions}
use Rattle.toml_edit_model.specs.Tree.{Node, nothing, leaf, list, inline, table, tables, Items, no_items, item, Slots, no_slots, slot}
use Rattle.toml_edit_model.specs.TreeOf.{spanned_in, value_start, brackets_from, brackets_to, header_fields, fields_of, tables_extent}
use Rattle.toml_edit_model.specs.TreeOf.{IsLineNode, IsNodeOf, AreElementsOf, AreSlotsOf}
use Rattle.toml_edit_laws.specs.Standing.{Stands}
use Rattle.toml_edit_laws.specs.Extents.{ExtentLies, NodeLies, ItemsLie, SlotsLie, ExtentsLie}
use Rattle.toml_edit_laws.proofs.common.Returns.{returned-frame, frame-returned}
use Rattle.toml_edit_laws.proofs.common.StandingLaws.{stands-left, stands-right}
use Rattle.toml_edit_laws.proofs.mentions.KeptMentions.{kept-is}
use Rattle.toml_edit_laws.proofs.values.ValueOwned.{pair-stands}
use Rattle.toml_edit_laws.proofs.values.ValueExtents.{ends-lie, value_lies}
use Rattle.toml_edit_laws.proofs.read_trees.MentionsStand.{Holds, MentionStands, holds-under, arrays-among, document-mentions}
use Rattle.toml_edit_model.specs.Roles.{Role, dotted_role, implied_role, header_role, array_role, value_role, continued_role}
use Rattle.toml_edit_model.specs.TableMentions.{under, kept, array_headers}

module _ (mode : Mode) where
  module _ (text : Text) where
    brackets-lie : (s : Source) (h : Header) (end : Text) → Stands text s.start (statement_text (header h end))
        → (s.start + length h.leading ≤ length text) × (s.start + length h.leading + length (brackets_text h) ≤ length text)
    brackets-lie s h end g =
        ends-lie text (s.start + length h.leading) (brackets_text h)
        (stands-left text (s.start + length h.leading) (brackets_text h) (h.trailing ++ end)
        (stands-right text s.start h.leading (brackets_text h ++ (h.trailing ++ end)) g))

    header-lies : (s : Source) (st : Statement) → Stands text s.start (statement_text st)
        → ExtentLies text (header_fields (spanned_in mode) s st).extent
    header-lies s (key_line f v end) h = tt
    header-lies s (header h end) g = brackets-lie s h end g

    from-lies : (s : Source) (st : Statement) → Stands text s.start (statement_text st)
        → (brackets_from (spanned_in mode) s st ≤ length text) × (brackets_to (spanned_in mode) s st ≤ length text)
    from-lies s (key_line f v end) h = let ends = ends-lie text s.start (statement_text (key_line f v end)) h in (ends.0, ends.0)
    from-lies s (header h end) g = brackets-lie s h end g

    last-lies : (ms : List (Mention Source)) (last : ℕ) → Holds (MentionStands text) ms → last ≤ length text
        → fold (λ (last : ℕ) (k : Mention Source). brackets_to (spanned_in mode) k.source k.source.statement) last ms ≤ length text
    last-lies [] last h l = l
    last-lies (m ∷ ms) last h l =
        last-lies ms (brackets_to (spanned_in mode) m.source m.source.statement) (λ k a. h k (inr a))
        (from-lies m.source m.source.statement (h m (inl refl)).statement).1

    tables-lie : (ms : List (Mention Source)) → Holds (MentionStands text) ms → ExtentLies text (tables_extent (spanned_in mode) ms)
    tables-lie [] h = tt
    tables-lie (m ∷ rest) h =
        let own = from-lies m.source m.source.statement (h m (inl refl)).statement in
        (own.0, last-lies rest (brackets_to (spanned_in mode) m.source m.source.statement) (λ k a. h k (inr a)) own.1)

    fields-lie : (ns : List (Mention Source)) (m : Mention Source) (r : Role) → MentionStands text m.start m.segment m.source
        → ExtentLies text (fields_of (spanned_in mode) ns m r).extent
    fields-lie ns m header_role h = header-lies m.source m.source.statement h.statement
    fields-lie ns m dotted_role h = ends-lie text m.start m.segment.spelled h.segment.spelled
    fields-lie ns m implied_role h = ends-lie text m.start m.segment.spelled h.segment.spelled
    fields-lie ns m array_role h = ends-lie text m.start m.segment.spelled h.segment.spelled
    fields-lie ns m value_role h = ends-lie text m.start m.segment.spelled h.segment.spelled
    fields-lie ns m continued_role h = ends-lie text m.start m.segment.spelled h.segment.spelled

    line-lies : (s : Source) (st : Statement) (n : Node) → Stands text s.start (statement_text st) → IsLineNode (spanned_in mode) s st n
        → NodeLies text n
    line-lies s (key_line f v end) n h is =
        let parts = pair-stands mode text s.start (returned-frame mode f end) v (frame-returned mode text s.start f (value_text v) end h) in
        value_lies mode text v (s.start + value_start (spanned_in mode) f) f.after_equals (with_return mode f.trailing end) n is parts.value
    line-lies s (header h end) n g is = absurd is

    mutual
      node-lies : (n : Node) (ns : List (Mention Source)) (m : Mention Source) → Holds (MentionStands text) ns
          → MentionStands text m.start m.segment m.source
          → IsNodeOf (spanned_in mode) ns m n → NodeLies text n
      node-lies (table f ss) ns m h at is = (
        subst (λ g. ExtentLies text g.extent) (sym is.1) (fields-lie ns m m.role at),
        slots-lie ss ns (kept ns) h (λ k a. h k (kept-is [] k ns a).among) is.2,
      )
      node-lies (tables e xs) ns m h at is = (
        subst (ExtentLies text) (sym is.1) (tables-lie (array_headers ns) (λ k a. h k (arrays-among k ns a))),
        elements-lie xs ns 0 (array_headers ns) h (λ k a. h k (arrays-among k ns a)) is.2,
      )
      node-lies (leaf s r d) ns m h at is = line-lies m.source m.source.statement (leaf s r d) at.statement is.1
      node-lies (list f xs) ns m h at is = line-lies m.source m.source.statement (list f xs) at.statement is.1
      node-lies (inline f ss) ns m h at is = line-lies m.source m.source.statement (inline f ss) at.statement is.1
      node-lies nothing ns m h at is = absurd is

      elements-lie : (xs : Items) (ns : List (Mention Source)) (i : ℕ) (more : List (Mention Source)) → Holds (MentionStands text) ns
          → Holds (MentionStands text) more → AreElementsOf (spanned_in mode) ns i more xs → ItemsLie text xs
      elements-lie no_items ns i [] h g is = tt
      elements-lie (item (table f ss) xs) ns i (a ∷ more) h g is =
          let below = holds-under (MentionStands text) (at_element i) ns h in (
            (
              subst (λ e. ExtentLies text e.extent) (sym is.0) (header-lies a.source a.source.statement (g a (inl refl)).statement),
              slots-lie ss (under (at_element i) ns) (kept (under (at_element i) ns)) below
                  (λ k b. below k (kept-is [] k (under (at_element i) ns) b).among) is.1,
            ),
            elements-lie xs ns (suc i) more h (λ k b. g k (inr b)) is.2,
          )
      elements-lie no_items ns i (a ∷ more) h g is = absurd is
      elements-lie (item n xs) ns i [] h g is = absurd is
      elements-lie (item n xs) ns i (a ∷ more) h g is = absurd is

      slots-lie : (ss : Slots) (ms ks : List (Mention Source)) → Holds (MentionStands text) ms → Holds (MentionStands text) ks
          → AreSlotsOf (spanned_in mode) ms ks ss → SlotsLie text ss
      slots-lie no_slots ms [] h g is = tt
      slots-lie (slot key n ss) ms (k ∷ ks) h g is = (
        node-lies n (under (at_key k.segment.key) ms) k (holds-under (MentionStands text) (at_key k.segment.key) ms h) (g k (inl refl))
            is.1,
        slots-lie ss ms ks h (λ m a. g m (inr a)) is.2,
      )
      slots-lie no_slots ms (k ∷ ks) h g is = absurd is
      slots-lie (slot key n ss) ms [] h g is = absurd is

  -- The extents lie in the text.
  pub extents-lie : ExtentsLie mode
  extents-lie d t is =
      let stand = document-mentions d in
      record {
        root = subst (λ f. ExtentLies (document_text d) f.extent) (sym is.root) (omega arith, omega arith);
        slots =
            slots-lie (document_text d) t.slots (all_mentions d) (kept (all_mentions d)) stand
            (λ k a. stand k (kept-is [] k (all_mentions d) a).among) is.slots;
      }
