-- The tree of a document with spans becomes, by what they cut from its text, the tree with owned texts.
use Rattle.std.proofs.Common.{◌≡◌, refl, sym, ◌∙◌, ap, ℕ, suc, ◌+◌, ◌-◌, arith, inl, inr, true, false, Bool, List, [], ◌∷◌, ◌++◌, length}
use Rattle.std.proofs.Common.{codes, None}
use Rattle.std.specs.Prelude.{if◌then◌else◌}
use Rattle.toml_edit_model.specs.Mode.{Mode, with_return}
use Rattle.toml_edit_model.specs.Text.{Text}
use Rattle.toml_edit_model.specs.Syntax.{Statement, key_line, header, Document, value_text, path_text, frame_text, statement_text}
use Rattle.toml_edit_model.specs.Syntax.{opening_brackets, document_text}
use Rattle.toml_edit_model.specs.Paths.{at_key, at_element, Mention, Source, path_start, all_mentions}
use Rattle.toml_edit_model.specs.Tree.{unset, Node, nothing, leaf, list, inline, table, tables, Items, no_items, item, Slots, no_slots}
use Rattle.toml_edit_model.specs.Tree.{slot, Tree}
use Rattle.toml_edit_model.specs.TreeOf.{spanned_in, owned_in, value_start, key_at, statement_leaf, bracket_end, header_fields, fields_of}
use Rattle.toml_edit_model.specs.TreeOf.{tables_extent, IsLineNode, IsNodeOf, AreElementsOf, AreSlotsOf, IsTreeOf}
use Rattle.toml_edit_laws.specs.Standing.{Stands}
use Rattle.toml_edit_laws.proofs.common.StandingLaws.{stands-left, cut-is}
use Rattle.toml_edit_laws.proofs.common.Returns.{after-return, returned-frame, returned-header, frame-returned, header-returned}
use Rattle.toml_edit_laws.proofs.mentions.KeptMentions.{kept-is}
use Rattle.toml_edit_laws.proofs.values.ValueOwned.{stands-at, decor-cut, pair-stands, value_owned}
use Rattle.toml_edit_laws.proofs.read_trees.MentionsStand.{Holds, holds-under, arrays-among, header-stands, MentionStands}
use Rattle.toml_edit_laws.proofs.read_trees.MentionsStand.{document-mentions, final-stands}
use Rattle.toml_edit_model.specs.Roles.{Role, dotted_role, implied_role, header_role, array_role, value_role, continued_role, ends_path}
use Rattle.toml_edit_model.specs.TableMentions.{under, kept, array_headers}
use Rattle.toml_edit_model.specs.OwnedForm.{owned_raw, owned_decor, owned_key, owned_fields, owned_node, owned_items, owned_slots}
use Rattle.toml_edit_model.specs.OwnedForm.{owned_tree}

module _ (mode : Mode) where
  module _ (text : Text) where
    -- ---- the parts of a statement

    leaf-owned : (s : Source) (st : Statement) → Stands text s.start (statement_text st)
        → owned_decor text (statement_leaf (spanned_in mode) s st) ≡ statement_leaf (owned_in mode) s st
    leaf-owned s (key_line f v end) h =
        let from_space = f.before_equals ++ (codes "=" ++ (f.after_equals ++ (value_text v ++ f.trailing))) in
        let frame = stands-left text s.start (frame_text f (value_text v)) end h in
        let parts = pair-stands mode text s.start f v frame in
        sym (ap (λ e. e.leaf) parts.entry)
    leaf-owned s (header h end) g =
        let parts = header-stands text s.start h end g in
        let path_at = s.start + path_start (header h end) - length h.opening in
        let first : s.start + length h.leading + length (opening_brackets h.is_array) ≡ path_at = omega arith in
        let last : s.start + length h.leading + length (opening_brackets h.is_array) + length h.opening + length (path_text h.path)
        ≡ path_at + length h.opening + length (path_text h.path) = omega arith in
        decor-cut mode text path_at (path_at + length h.opening + length (path_text h.path)) h.opening h.closing
        (stands-at text _ _ h.opening parts.opening first) (stands-at text _ _ h.closing parts.closing last)

    key-owned : (m : Mention Source) → MentionStands text m.start m.segment m.source → owned_key text (key_at (spanned_in mode) m)
        ≡ key_at (owned_in mode) m
    key-owned m h =
        let spelled = cut-is text m.start m.segment.spelled h.segment.spelled in
        let dots = decor-cut mode text (m.start - length m.segment.before) (m.start
        + length m.segment.spelled) m.segment.before m.segment.after h.segment.before h.segment.after in
        let leaf = by_test (ends_path m.role) (leaf-owned m.source m.source.statement h.statement) in
        cc
      where
        by_test : (b : Bool) → owned_decor text (statement_leaf (spanned_in mode) m.source m.source.statement)
            ≡ statement_leaf (owned_in mode) m.source m.source.statement
            → owned_decor text (if b then statement_leaf (spanned_in mode) m.source m.source.statement else unset)
            ≡ (if b then statement_leaf (owned_in mode) m.source m.source.statement else unset)
        by_test true e = e
        by_test false e = refl

    header_fields-owned : (s : Source) (st : Statement) → Stands text s.start (statement_text st)
        → owned_fields text (header_fields (spanned_in mode) s st) ≡ header_fields (owned_in mode) s st
    header_fields-owned s (key_line f v end) h = refl
    header_fields-owned s (header h end) g =
        let parts = header-stands text s.start (returned-header mode h end) (after-return mode end)
        (header-returned mode text s.start h end g) in
        let decor = decor-cut mode text s.start (bracket_end (spanned_in mode) s h) h.leading (with_return mode h.trailing end)
        parts.leading parts.trailing in
        cc

    fields-owned : (ns : List (Mention Source)) (m : Mention Source) (r : Role) → MentionStands text m.start m.segment m.source
        → owned_fields text (fields_of (spanned_in mode) ns m r) ≡ fields_of (owned_in mode) ns m r
    fields-owned ns m header_role h = header_fields-owned m.source m.source.statement h.statement
    fields-owned ns m dotted_role h = refl
    fields-owned ns m implied_role h = refl
    fields-owned ns m array_role h = refl
    fields-owned ns m value_role h = refl
    fields-owned ns m continued_role h = refl

    no-extent : (ms : List (Mention Source)) → None ≡ tables_extent (owned_in mode) ms
    no-extent [] = refl
    no-extent (m ∷ rest) = refl

    line-owned : (s : Source) (st : Statement) (n : Node) → Stands text s.start (statement_text st)
        → IsLineNode (spanned_in mode) s st n → IsLineNode (owned_in mode) s st (owned_node text n)
    line-owned s (key_line f v end) n h is =
        let parts = pair-stands mode text s.start (returned-frame mode f end) v (frame-returned mode text s.start f (value_text v) end h) in
        value_owned mode text v (s.start + value_start (spanned_in mode) f) f.after_equals (with_return mode f.trailing end) n is
        parts.value
    line-owned s (header h end) n g is = absurd is

    -- ---- tables

    mutual
      node-owned : (n : Node) (ns : List (Mention Source)) (m : Mention Source) → Holds (MentionStands text) ns
          → MentionStands text m.start m.segment m.source
          → IsNodeOf (spanned_in mode) ns m n → IsNodeOf (owned_in mode) ns m (owned_node text n)
      node-owned (table f ss) ns m h at is = (
        is.0,
        ap (owned_fields text) is.1 ∙ fields-owned ns m m.role at,
        slots-owned ss ns (kept ns) h (λ k a. h k (kept-is [] k ns a).among) is.2,
      )
      node-owned (tables e xs) ns m h at is = (
        is.0,
        no-extent (array_headers ns),
        elements-owned xs ns 0 (array_headers ns) h (λ k a. h k (arrays-among k ns a)) is.2,
      )
      node-owned (leaf s r d) ns m h at is = (is.0, line-owned m.source m.source.statement (leaf s r d) at.statement is.1)
      node-owned (list f xs) ns m h at is = (is.0, line-owned m.source m.source.statement (list f xs) at.statement is.1)
      node-owned (inline f ss) ns m h at is = (is.0, line-owned m.source m.source.statement (inline f ss) at.statement is.1)
      node-owned nothing ns m h at is = absurd is

      elements-owned : (xs : Items) (ns : List (Mention Source)) (i : ℕ) (more : List (Mention Source)) → Holds (MentionStands text) ns
          → Holds (MentionStands text) more → AreElementsOf (spanned_in mode) ns i more xs
          → AreElementsOf (owned_in mode) ns i more (owned_items text xs)
      elements-owned no_items ns i [] h g is = tt
      elements-owned (item (table f ss) xs) ns i (a ∷ more) h g is =
          let below = holds-under (MentionStands text) (at_element i) ns h in (
            ap (owned_fields text) is.0 ∙ header_fields-owned a.source a.source.statement (g a (inl refl)).statement,
            slots-owned ss (under (at_element i) ns) (kept (under (at_element i) ns)) below
                (λ k b. below k (kept-is [] k (under (at_element i) ns) b).among) is.1,
            elements-owned xs ns (suc i) more h (λ k b. g k (inr b)) is.2,
          )
      elements-owned no_items ns i (a ∷ more) h g is = absurd is
      elements-owned (item n xs) ns i [] h g is = absurd is
      elements-owned (item n xs) ns i (a ∷ more) h g is = absurd is

      pub slots-owned : (ss : Slots) (ms ks : List (Mention Source)) → Holds (MentionStands text) ms → Holds (MentionStands text) ks
          → AreSlotsOf (spanned_in mode) ms ks ss → AreSlotsOf (owned_in mode) ms ks (owned_slots text ss)
      slots-owned no_slots ms [] h g is = tt
      slots-owned (slot key n ss) ms (k ∷ ks) h g is =
          let at = g k (inl refl) in (
            ap (owned_key text) is.0 ∙ key-owned k at,
            node-owned n (under (at_key k.segment.key) ms) k (holds-under (MentionStands text) (at_key k.segment.key) ms h) at is.1,
            slots-owned ss ms ks h (λ m a. g m (inr a)) is.2,
          )
      slots-owned no_slots ms (k ∷ ks) h g is = absurd is
      slots-owned (slot key n ss) ms [] h g is = absurd is

  -- The tree becomes that with owned texts.
  pub tree-owned : (d : Document) (t : Tree) → IsTreeOf (spanned_in mode) d t → IsTreeOf (owned_in mode) d (owned_tree (document_text d) t)
  tree-owned d t is =
      let stand = document-mentions d in
      record {
        root = ap (owned_fields (document_text d)) is.root;
        slots =
            slots-owned (document_text d) t.slots (all_mentions d) (kept (all_mentions d)) stand
            (λ k a. stand k (kept-is [] k (all_mentions d) a).among) is.slots;
        trailing = ap (owned_raw (document_text d)) is.trailing ∙ cut-is (document_text d) _ d.final (final-stands d);
      }
