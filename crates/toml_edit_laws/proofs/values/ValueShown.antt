-- The node of a value is shown.
use Rattle.std.proofs.Common.{◌≡◌, ℕ, refl, sym, ap, subst, ◌∙◌, inl, inr, true, List, [], ◌∷◌, ◌++◌, MatchBool}
use Rattle.std.specs.Prelude.{◌||◌, not}
use Rattle.toml_edit_model.specs.Text.{Text}
use Rattle.toml_edit_model.specs.Syntax.{Value, scalar, array, inline_table}
use Rattle.toml_edit_model.specs.Paths.{Step, at_key, at_element, Path, Mention}
use Rattle.toml_edit_model.specs.Tree.{Node, nothing, leaf, list, inline, table, tables, Slots, no_slots, slot}
use Rattle.toml_edit_model.specs.TreeOf.{Form, Entry, IsValueNode, AreEntrySlots}
use Rattle.toml_edit_model.specs.Shown.{is_shown_inside, shows_inside, is_shown}
use Rattle.toml_edit_laws.proofs.common.Tests.{or-true}
use Rattle.toml_edit_laws.proofs.common.Members.{Among}
use Rattle.toml_edit_laws.proofs.mentions.KeptMentions.{moved, under-has, Kept, kept-is, kept-has}
use Rattle.toml_edit_laws.proofs.inline_tables.EntryMentions.{AgreeingMentions, agreeing-headers, under-agrees}
use Rattle.toml_edit_laws.proofs.inline_tables.SlotsOfEntries.{IsMadeByKey, IsSlotNode, slot-node}
use Rattle.toml_edit_laws.proofs.values.ValueKinds.{not-value}
use Rattle.toml_edit_model.specs.Roles.{Role, dotted_role, value_role, ends_path}
use Rattle.toml_edit_model.specs.TableMentions.{under, kept, is_single}

-- ---- slots among agreeing mentions

-- the path of a kept mention is its key
pub kept-path : {S : Type 0} (before ms : List (Mention S)) (k : Mention S) → AgreeingMentions ms → Kept before k ms
    → k.path ≡ at_key k.segment.key ∷ []
kept-path before ms k h is = by_path k.path refl is.single
  where
    by_path : (p : Path) → k.path ≡ p → is_single p ≡ true → k.path ≡ at_key k.segment.key ∷ []
    by_path [] e s = absurd cc
    by_path (at_element n ∷ []) e s = absurd cc
    by_path (at_key x ∷ []) e s = e ∙ ap (λ y. y ∷ []) (h.named k is.among [] (at_key x) e)
    by_path (at_element n ∷ t ∷ p) e s = absurd cc
    by_path (at_key x ∷ t ∷ p) e s = absurd cc

-- below the key of any mention there is a slot
pub slot-for : {S : Type 0} (ms : List (Mention S)) (m : Mention S) (s : Step) (q : Path) → AgreeingMentions ms → Among m ms → m.path ≡ s
    ∷ q
    → (k : Mention S) × Among k (kept ms) × (s ≡ at_key k.segment.key)
slot-for ms m s q h a e =
    let first = h.closed m a s [] q e in
    let named = h.named first.0 first.1 [] s first.2 in
    let single = subst (λ p. is_single p ≡ true) (sym (first.2 ∙ ap (λ x. x ∷ []) named)) refl in
    let k = kept-has [] first.0 ms (agreeing-headers ms h) first.1 single refl in
    (k.0, k.1, h.named k.0 (kept-is [] k.0 ms k.1).among [] s (k.2 ∙ first.2))

-- by its role a kept mention has a value, or a dotted inline table
pub value-slot : (r : Role) (A B : Type 0) → r ≡ value_role → MatchBool (ends_path r) A B → A
value-slot r A B e h = subst (λ x. MatchBool (ends_path x) A B) e h

pub dotted-slot : (r : Role) (A B : Type 0) → r ≡ dotted_role → MatchBool (ends_path r) A B → B
dotted-slot r A B e h = subst (λ x. MatchBool (ends_path x) A B) e h

-- something is mentioned under a dotted key
pub under-shows : {S : Type 0} (ms : List (Mention S)) (k : Mention S) → AgreeingMentions ms → Kept [] k ms → k.role ≡ dotted_role
    → (m : Mention S) × (s : Step) × (q : Path) × Among m (under (at_key k.segment.key) ms) × (m.path ≡ s ∷ q)
under-shows ms k h is d =
    let lower = h.shows k is.among d in
    let path = lower.4 ∙ ap (λ p. p ++ (lower.1 ∷ lower.2)) (kept-path [] ms k h is) in (
      moved lower.0 (lower.1 ∷ lower.2),
      lower.1,
      lower.2,
      under-has (at_key k.segment.key) (lower.1 ∷ lower.2) lower.0 ms lower.3 path,
      refl,
    )

module _ (form : Form) where
  -- ---- values

  pub value-shown_inside : (n : Node) (v : Value) (i : ℕ) (before after : Text) → IsValueNode form v i before after n → is_shown_inside n
      ≡ true
  value-shown_inside (leaf s r d) v i before after h = refl
  value-shown_inside (list f xs) v i before after h = refl
  value-shown_inside (inline f ss) (inline_table ps comma t) i before after h = ap (λ g. not g.is_dotted || shows_inside ss) h.0
  value-shown_inside (inline f ss) (scalar s t) i before after h = elim h [ ]
  value-shown_inside (inline f ss) (array es comma t) i before after h = elim h [ ]
  value-shown_inside (table f ss) v i before after h = absurd (not-value form (table f ss) v i before after refl h)
  value-shown_inside (tables e xs) v i before after h = absurd (not-value form (tables e xs) v i before after refl h)
  value-shown_inside nothing v i before after h = absurd (not-value form nothing v i before after refl h)

  pub value-shown : (n : Node) (v : Value) (i : ℕ) (before after : Text) → IsValueNode form v i before after n → is_shown n ≡ true
  value-shown (leaf s r d) v i before after h = refl
  value-shown (list f xs) v i before after h = refl
  value-shown (inline f ss) (inline_table ps comma t) i before after h = ap (λ g. not g.is_dotted || shows_inside ss) h.0
  value-shown (inline f ss) (scalar s t) i before after h = elim h [ ]
  value-shown (inline f ss) (array es comma t) i before after h = elim h [ ]
  value-shown (table f ss) v i before after h = absurd (not-value form (table f ss) v i before after refl h)
  value-shown (tables e xs) v i before after h = absurd (not-value form (tables e xs) v i before after refl h)
  value-shown nothing v i before after h = absurd (not-value form nothing v i before after refl h)

  -- ---- dotted inline tables show what lies below them

  mutual
    pub made-shown : (n : Node) (k : Mention Entry) (ns : List (Mention Entry)) → IsMadeByKey form k ns n → AgreeingMentions ns
        → (m : Mention Entry) (s : Step) (q : Path) → Among m ns → m.path ≡ s ∷ q → is_shown_inside n ≡ true
    made-shown (inline f ss) k ns h agree m s q a e =
        let found = slot-for ns m s q agree a e in
        ap (λ b. not f.is_dotted || b) (slots-shown ss ns (kept ns) h.1 agree (λ j b. kept-is [] j ns b) found.0 found.1)
        ∙ or-true (not f.is_dotted)
    made-shown (leaf s r d) k ns h agree m t q a e = elim h [ ]
    made-shown (list f xs) k ns h agree m s q a e = elim h [ ]
    made-shown (table f ss) k ns h agree m s q a e = elim h [ ]
    made-shown (tables x xs) k ns h agree m s q a e = elim h [ ]
    made-shown nothing k ns h agree m s q a e = elim h [ ]

    pub slots-shown : (ss : Slots) (ms ks : List (Mention Entry)) → AreEntrySlots form ms ks ss → AgreeingMentions ms
        → ((j : Mention Entry) → Among j ks → Kept [] j ms) → (k : Mention Entry) → Among k ks → shows_inside ss ≡ true
    slots-shown no_slots ms [] h agree are k a = elim a [ ]
    slots-shown no_slots ms (j ∷ ks) h agree are k a = elim h [ ]
    slots-shown (slot key n ss) ms [] h agree are k a = elim a [ ]
    slots-shown (slot key n ss) ms (j ∷ ks) h agree are k a =
        ap (λ b. b || shows_inside ss)
        (elim (agree.roles j (are j (inl refl)).among) [
          | inl d ↦
              let lower = under-shows ms j agree (are j (inl refl)) d in
              made-shown n j (under (at_key j.segment.key) ms) (dotted-slot j.role _ _ d (slot-node form ms j ks key n ss h))
              (under-agrees (at_key j.segment.key) ms agree) lower.0 lower.1 lower.2 lower.3 lower.4
          | inr v ↦ value-shown_inside n j.source.value j.source.start j.source.before j.source.after
              (value-slot j.role _ _ v (slot-node form ms j ks key n ss h))
        ])

  -- the node of a kept mention is shown
  pub slot-shown : (n : Node) (ms : List (Mention Entry)) (k : Mention Entry) → AgreeingMentions ms → Kept [] k ms
      → IsSlotNode form ms k n
      → is_shown_inside n ≡ true
  slot-shown n ms k agree is h =
      elim (agree.roles k is.among) [
        | inl d ↦
            let lower = under-shows ms k agree is d in
            made-shown n k (under (at_key k.segment.key) ms) (dotted-slot k.role _ _ d h) (under-agrees (at_key k.segment.key) ms agree)
            lower.0 lower.1 lower.2 lower.3 lower.4
        | inr v ↦ value-shown_inside n k.source.value k.source.start k.source.before k.source.after (value-slot k.role _ _ v h)
      ]
