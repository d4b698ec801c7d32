-- The extents of a value that stands in the source lie in it.
use Rattle.std.proofs.Common.{◌≡◌, ◌≤◌, ℕ, ◌+◌, refl, sym, ap, subst, ◌∙◌, arith, inl, inr, true, false, Bool, List, [], ◌∷◌, ◌++◌, length}
use Rattle.std.proofs.Common.{codes}
use Rattle.std.specs.Prelude.{MatchBool}
use Rattle.std.proofs.lemmas.List.{length-append}
use Rattle.toml_edit_model.specs.Mode.{Mode}
use Rattle.toml_edit_model.specs.Text.{Text}
use Rattle.toml_edit_model.specs.Syntax.{Value, scalar, array, inline_table, Elements, no_elements, element, value_text, elements_text}
use Rattle.toml_edit_model.specs.Syntax.{pairs_text, comma_text}
use Rattle.toml_edit_model.specs.Paths.{at_key, Mention}
use Rattle.toml_edit_model.specs.Tree.{Node, nothing, leaf, list, inline, table, tables, Items, no_items, item, Slots, no_slots, slot}
use Rattle.toml_edit_model.specs.TreeOf.{spanned_in, Entry, entries, IsValueNode, AreElementNodes, AreEntrySlots}
use Rattle.toml_edit_laws.specs.Standing.{Stands}
use Rattle.toml_edit_laws.specs.Extents.{ExtentLies, NodeLies, ItemsLie, SlotsLie}
use Rattle.toml_edit_laws.proofs.common.Members.{Among}
use Rattle.toml_edit_laws.proofs.mentions.KeptMentions.{under-is, kept-is}
use Rattle.toml_edit_laws.proofs.inline_tables.SlotsOfEntries.{IsMadeByKey, slot-node, slot-rest}
use Rattle.toml_edit_laws.proofs.values.ValueKinds.{not-value}
use Rattle.toml_edit_laws.proofs.values.ValueOwned.{MentionStands, around-stands, inner-stands, element-stands, elements-after, pairs-stand}
use Rattle.toml_edit_model.specs.Roles.{ends_path}
use Rattle.toml_edit_model.specs.TableMentions.{under, kept}

-- what stands in the source begins and ends there
pub ends-lie : (source : Text) (j : ℕ) (t : Text) → Stands source j t → (j ≤ length source) × (j + length t ≤ length source)
ends-lie source j t h =
    let all : length source ≡ length h.before + (length t + length h.after) =
    ap length h.text ∙ length-append h.before (t ++ h.after) ∙ ap (λ n. length h.before + n) (length-append t h.after) in
    let at : j ≡ length h.before = h.place in
    (omega arith, omega arith)

either-way : (b : Bool) (A B C : Type 0) → (A → C) → (B → C) → MatchBool b A B → C
either-way true A B C f g h = f h
either-way false A B C f g h = g h

module _ (mode : Mode) where
  module _ (source : Text) where
    abbrev all-stand : List (Mention Entry) → Type 0
    all-stand ms = (m : Mention Entry) → Among m ms → MentionStands source m

    under-stand : (k : Text) (ms : List (Mention Entry)) → all-stand ms → all-stand (under (at_key k) ms)
    under-stand k ms h m a =
        let up = under-is (at_key k) m ms a in
        let at = h up.mention up.among in
        subst (MentionStands source) (sym up.same) (record { segment = at.segment; value = at.value })

    mutual
      node-lies : (n : Node) (v : Value) (i : ℕ) (before after : Text) → Stands source i (before ++ (value_text v ++ after))
          → IsValueNode (spanned_in mode) v i before after n → NodeLies source n
      node-lies (leaf s r d) (scalar t u) i before after h is = tt
      node-lies (list f xs) (array es comma t) i before after h is =
          let at = around-stands source i before (value_text (array es comma t)) after h in
          let inner = inner-stands source (i + length before) (codes "[") (elements_text es) (comma_text comma) t (codes "]") refl refl
          at.value_at in (
            subst (λ g. ExtentLies source g.extent) (sym is.0) (ends-lie source (i
                + length before) (value_text (array es comma t)) at.value_at),
            items-lie xs es (i + length before + 1) inner.body_at is.1,
          )
      node-lies (inline f ss) (inline_table ps comma t) i before after h is =
          let at = around-stands source i before (value_text (inline_table ps comma t)) after h in
          let inner = inner-stands source (i + length before) (codes "{") (pairs_text ps) (comma_text comma) t (codes "}") refl refl
          at.value_at in
          let stand = pairs-stand mode source ps (i + length before + 1) inner.body_at in
          let ms = entries (spanned_in mode) ps (i + length before + 1) in (
            subst (λ g. ExtentLies source g.extent) (sym is.0) (ends-lie source (i
                + length before) (value_text (inline_table ps comma t)) at.value_at),
            slots-lie ss ms (kept ms) stand.each (λ m a. stand.each m (kept-is [] m ms a).among) is.1,
          )
      node-lies (leaf s r d) (array es comma t) i before after h is = elim is [ ]
      node-lies (leaf s r d) (inline_table ps comma t) i before after h is = elim is [ ]
      node-lies (list g xs) (scalar t u) i before after h is = elim is [ ]
      node-lies (list g xs) (inline_table ps comma t) i before after h is = elim is [ ]
      node-lies (inline g ss) (scalar t u) i before after h is = elim is [ ]
      node-lies (inline g ss) (array es comma t) i before after h is = elim is [ ]
      node-lies (table g ss) v i before after h is = absurd (not-value (spanned_in mode) (table g ss) v i before after refl is)
      node-lies (tables e xs) v i before after h is = absurd (not-value (spanned_in mode) (tables e xs) v i before after refl is)
      node-lies nothing v i before after h is = absurd (not-value (spanned_in mode) nothing v i before after refl is)

      items-lie : (xs : Items) (es : Elements) (i : ℕ) → Stands source i (elements_text es) → AreElementNodes (spanned_in mode) es i xs
          → ItemsLie source xs
      items-lie no_items no_elements i h is = tt
      items-lie (item n no_items) (element a v no_elements) i h is =
          (node-lies n v i a.before a.after (element-stands source i a v no_elements h) is.0, tt)
      items-lie (item n (item o xs)) (element a v (element b w es)) i h is = (
        node-lies n v i a.before a.after (element-stands source i a v (element b w es) h) is.0,
        items-lie (item o xs) (element b w es) (i + length a.before + length (value_text v) + length a.after
            + 1) (elements-after source i a v b w es h) is.1,
      )
      items-lie no_items (element a v es) i h is = elim is [ ]
      items-lie (item n xs) no_elements i h is = elim is [ ]
      items-lie (item n no_items) (element a v (element b w es)) i h is = elim is.1 [ ]
      items-lie (item n (item o xs)) (element a v no_elements) i h is = elim is.1 [ ]

      made-lies : (n : Node) (m : Mention Entry) (ns : List (Mention Entry)) → MentionStands source m → all-stand ns
          → IsMadeByKey (spanned_in mode) m ns n
          → NodeLies source n
      made-lies (inline f ss) m ns at h is = (
        subst (λ g. ExtentLies source g.extent) (sym is.0) (ends-lie source m.start m.segment.spelled at.segment.spelled),
        slots-lie ss ns (kept ns) h (λ k a. h k (kept-is [] k ns a).among) is.1,
      )
      made-lies (leaf s r x) m ns at h is = elim is [ ]
      made-lies (list g xs) m ns at h is = elim is [ ]
      made-lies (table g ss) m ns at h is = elim is [ ]
      made-lies (tables e xs) m ns at h is = elim is [ ]
      made-lies nothing m ns at h is = elim is [ ]

      slots-lie : (ss : Slots) (ms ks : List (Mention Entry)) → all-stand ms → all-stand ks → AreEntrySlots (spanned_in mode) ms ks ss
          → SlotsLie source ss
      slots-lie no_slots ms [] h g is = tt
      slots-lie (slot key n ss) ms (k ∷ ks) h g is =
          let at = g k (inl refl) in (
            either-way (ends_path k.role) _ _ (NodeLies source n)
                (λ x. node-lies n k.source.value k.source.start k.source.before k.source.after at.value x)
                (λ x. made-lies n k (under (at_key k.segment.key) ms) at (under-stand k.segment.key ms h) x)
                (slot-node (spanned_in mode) ms k ks key n ss is),
            slots-lie ss ms ks h (λ m a. g m (inr a)) (slot-rest (spanned_in mode) ms k ks key n ss is),
          )
      slots-lie no_slots ms (k ∷ ks) h g is = elim is [ ]
      slots-lie (slot key n ss) ms [] h g is = elim is [ ]

  -- Each container of a value that stands in the source has its extent there.
  pub value_lies : (source : Text) (v : Value) (i : ℕ) (before after : Text) (n : Node) → IsValueNode (spanned_in mode) v i before after n
      → Stands source i (before ++ (value_text v ++ after)) → NodeLies source n
  value_lies source v i before after n is h = node-lies source n v i before after h is
