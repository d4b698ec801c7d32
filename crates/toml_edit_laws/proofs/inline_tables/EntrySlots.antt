-- The slots of an inline table, by the mentions that their keys are kept from.
use Rattle.std.proofs.Common.{◌≡◌, refl, sym, ap, subst, ℕ, Bool, true, false, List, [], ◌∷◌, ◌++◌, Option, Some, None}
use Rattle.std.specs.Prelude.{MatchBool, if◌then◌else◌}
use Rattle.toml_edit_model.specs.Text.{Text, same_text}
use Rattle.toml_edit_model.specs.Syntax.{Value, scalar, array, inline_table}
use Rattle.toml_edit_model.specs.Paths.{at_key, Mention}
use Rattle.toml_edit_model.specs.Tree.{Key, InlineFields, Node, nothing, leaf, list, inline, table, tables, Slots, no_slots, slot}
use Rattle.toml_edit_model.specs.TreeOf.{Form, Entry, key_of, key_extent, IsValueNode, AreEntrySlots}
use Rattle.toml_edit_laws.specs.FlatTree.{with_slot}
use Rattle.toml_edit_laws.specs.InlineTree.{node_at, with_node, path_fields}
use Rattle.toml_edit_laws.proofs.common.Tests.{same_text-is}
use Rattle.toml_edit_laws.proofs.mentions.GatherLaws.{first_of_key, AreDistinct, first-none}
use Rattle.toml_edit_model.specs.TableMentions.{under, kept}
use Rattle.toml_edit_model.specs.Roles.{ends_path}

module _ (form : Form) where
  -- the item of a kept mention, among these mentions
  abbrev pub IsEntryNode : List (Mention Entry) → Mention Entry → Node → Type 0
  IsEntryNode ms m n = AreEntrySlots form ms (m ∷ []) (slot (key_of form m.source.leaf m) n no_slots)

  -- the item only needs what is mentioned under its key
  pub node-same : (ms others : List (Mention Entry)) (m : Mention Entry) (n : Node) → under (at_key m.segment.key) ms
      ≡ under (at_key m.segment.key) others
      → IsEntryNode ms m n → IsEntryNode others m n
  node-same ms others m nothing e h = (refl, h.1, tt)
  node-same ms others m (leaf s r d) e h = (refl, h.1, tt)
  node-same ms others m (list f xs) e h = (refl, h.1, tt)
  node-same ms others m (table f ss) e h = (refl, h.1, tt)
  node-same ms others m (tables x xs) e h = (refl, h.1, tt)
  node-same ms others m (inline f ss) e h = (
    refl,
    subst (λ us. MatchBool (ends_path m.role) (IsValueNode form m.source.value m.source.start m.source.before m.source.after (inline f ss))
        ((f ≡ path_fields (key_extent form m)) × AreEntrySlots form us (kept us) ss)) e h.1,
    tt,
  )

  -- ---- slot by slot

  -- what is mentioned under one key changes no slot of another
  pub slots-same : (ms others ks : List (Mention Entry)) (k : Text) (ss : Slots)
      → ((l : Text) → same_text k l ≡ false → under (at_key l) ms ≡ under (at_key l) others)
      → first_of_key k ks ≡ None → AreEntrySlots form ms ks ss → AreEntrySlots form others ks ss
  slots-same ms others [] k no_slots e f h = tt
  slots-same ms others [] k (slot l n ss) e f h = h
  slots-same ms others (m ∷ ks) k no_slots e f h = h
  slots-same ms others (m ∷ ks) k (slot l n ss) e f h =
      let away = first-none k m ks f in
      (h.0, (node-same ms others m n (e m.segment.key away.0) (refl, h.1, tt)).1, slots-same ms others ks k ss e away.1 h.2)

  pub slots-kept : (ms others ks : List (Mention Entry)) (ss : Slots) → ((l : Text) → under (at_key l) ms ≡ under (at_key l) others)
      → AreEntrySlots form ms ks ss → AreEntrySlots form others ks ss
  slots-kept ms others [] no_slots e h = tt
  slots-kept ms others [] (slot l n ss) e h = h
  slots-kept ms others (m ∷ ks) no_slots e h = h
  slots-kept ms others (m ∷ ks) (slot l n ss) e h =
      (h.0, (node-same ms others m n (e m.segment.key) (refl, h.1, tt)).1, slots-kept ms others ks ss e h.2)

  pub slots-add : (ms ks : List (Mention Entry)) (m : Mention Entry) (n : Node) (ss : Slots) → AreEntrySlots form ms ks ss
      → IsEntryNode ms m n
      → AreEntrySlots form ms (ks ++ (m ∷ [])) (with_slot ss (key_of form m.source.leaf m) n)
  slots-add ms [] m n no_slots h i = i
  slots-add ms [] m n (slot l o ss) h i = absurd h
  slots-add ms (j ∷ ks) m n no_slots h i = absurd h
  slots-add ms (j ∷ ks) m n (slot l o ss) h i = (h.0, h.1, slots-add ms ks m n ss h.2 i)

  -- the item of a key is that of its kept mention
  abbrev pub IsFound : List (Mention Entry) → Option (Mention Entry) → Option Node → Type 0
  IsFound ms None None = Unit {0}
  IsFound ms (Some m) (Some n) = IsEntryNode ms m n
  IsFound ms _ _ = ⊥

  pub slots-find : (ms ks : List (Mention Entry)) (k : Text) (ss : Slots) → AreEntrySlots form ms ks ss
      → IsFound ms (first_of_key k ks) (node_at k ss)
  slots-find ms [] k no_slots h = tt
  slots-find ms [] k (slot l n ss) h = absurd h
  slots-find ms (m ∷ ks) k no_slots h = absurd h
  slots-find ms (m ∷ ks) k (slot l n ss) h =
      subst (λ (j : Key). IsFound ms (first_of_key k (m ∷ ks)) (if same_text k j.name then Some n else node_at k ss)) (sym h.0)
      (by_test (same_text k m.segment.key) (slots-find ms ks k ss h.2))
    where
      by_test : (b : Bool) → IsFound ms (first_of_key k ks) (node_at k ss)
          → IsFound ms (if b then Some m else first_of_key k ks) (if b then Some n else node_at k ss)
      by_test true g = (refl, h.1, tt)
      by_test false g = g

  -- another item at a key that is there
  pub slots-change : (ms others ks : List (Mention Entry)) (k : Text) (m : Mention Entry) (n : Node) (ss : Slots)
      → ((l : Text) → same_text k l ≡ false → under (at_key l) ms ≡ under (at_key l) others)
      → AreDistinct ks → first_of_key k ks ≡ Some m → IsEntryNode others m n → AreEntrySlots form ms ks ss
      → AreEntrySlots form others ks (with_node k n ss)
  slots-change ms others [] k m n no_slots e d f i h = absurd cc
  slots-change ms others [] k m n (slot l o ss) e d f i h = absurd h
  slots-change ms others (j ∷ ks) k m n no_slots e d f i h = absurd h
  slots-change ms others (j ∷ ks) k m n (slot l o ss) e d f i h =
      subst (λ (x : Key). AreEntrySlots form others (j ∷ ks) (if same_text k x.name then slot l n ss else slot l o (with_node k n ss)))
      (sym h.0)
      (by_test (same_text k j.segment.key) refl f (λ g. slots-change ms others ks k m n ss e d.1 g i h.2))
    where
      by_test : (b : Bool) → same_text k j.segment.key ≡ b → (if b then Some j else first_of_key k ks) ≡ Some m
          → (first_of_key k ks ≡ Some m → AreEntrySlots form others ks (with_node k n ss))
          → AreEntrySlots form others (j ∷ ks) (if b then slot l n ss else slot l o (with_node k n ss))
      by_test true g f next =
          let here : m ≡ j = cc in (
            h.0,
            (subst (λ (x : Mention Entry). IsEntryNode others x n) here i).1,
            slots-same ms others ks k ss e (subst (λ x. first_of_key x ks ≡ None) (sym (same_text-is k j.segment.key g)) d.0) h.2,
          )
      by_test false g f next = (h.0, (node-same ms others j o (e j.segment.key g) (refl, h.1, tt)).1, next f)

  -- ---- dotted inline tables

  -- made by the path of this mention, with what is mentioned under its key
  abbrev pub IsDottedTable : List (Mention Entry) → Mention Entry → InlineFields → Slots → Type 0
  IsDottedTable ms m f ss =
      (ends_path m.role ≡ false) × (f ≡ path_fields (key_extent form m))
      × AreEntrySlots form (under (at_key m.segment.key) ms) (kept (under (at_key m.segment.key) ms)) ss

  pub not-value : (v : Value) (i : ℕ) (before after : Text) (f : InlineFields) (ss : Slots) → f.is_dotted ≡ true
      → IsValueNode form v i before after (inline f ss) → ⊥
  not-value (scalar s t) i before after f ss d h = h
  not-value (array es comma t) i before after f ss d h = h
  not-value (inline_table ps comma t) i before after f ss d h = let e = ap (λ (x : InlineFields). x.is_dotted) h.0 in absurd cc

  -- an inline table that says that it is dotted is no value, so it is made by a path
  pub node-dotted : (ms : List (Mention Entry)) (m : Mention Entry) (f : InlineFields) (ss : Slots) → f.is_dotted ≡ true
      → IsEntryNode ms m (inline f ss)
      → IsDottedTable ms m f ss
  node-dotted ms m f ss d h = by_end (ends_path m.role) h.1
    where
      by_end : (b : Bool) → MatchBool b (IsValueNode form m.source.value m.source.start m.source.before m.source.after (inline f ss))
          ((f ≡ path_fields (key_extent form m)) × AreEntrySlots form (under (at_key m.segment.key) ms)
          (kept (under (at_key m.segment.key) ms)) ss)
          → (b ≡ false) × (f ≡ path_fields (key_extent form m))
          × AreEntrySlots form (under (at_key m.segment.key) ms) (kept (under (at_key m.segment.key) ms)) ss
      by_end true h = absurd (not-value m.source.value m.source.start m.source.before m.source.after f ss d h)
      by_end false h = (refl, h.0, h.1)

  pub dotted-node : (ms : List (Mention Entry)) (m : Mention Entry) (f : InlineFields) (ss : Slots) → IsDottedTable ms m f ss
      → IsEntryNode ms m (inline f ss)
  dotted-node ms m f ss h = (
    refl,
    subst (λ b. MatchBool b (IsValueNode form m.source.value m.source.start m.source.before m.source.after (inline f ss))
        ((f ≡ path_fields (key_extent form m)) × AreEntrySlots form (under (at_key m.segment.key) ms)
        (kept (under (at_key m.segment.key) ms)) ss)) (sym h.0) (h.1, h.2),
    tt,
  )
