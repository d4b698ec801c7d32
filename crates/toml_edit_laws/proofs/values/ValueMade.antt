-- The node in owned form of a value that is right is well made.
use Rattle.std.proofs.Common.{◌≡◌, ℕ, ◌+◌, refl, sym, ap, subst, ◌∙◌, inl, inr, true, false, Bool, List, [], ◌∷◌, ◌++◌, length}
use Rattle.std.specs.Prelude.{◌&&◌, ◌||◌, if◌then◌else◌}
use Rattle.std.proofs.lemmas.List.Folds.{list_any-append}
use Rattle.toml_edit_model.specs.Mode.{Mode}
use Rattle.toml_edit_model.specs.Text.{Text, same_text}
use Rattle.toml_edit_model.specs.Spelling.{SpellsKey, SpellsInRange}
use Rattle.toml_edit_model.specs.Syntax.{Value, scalar, array, inline_table, Elements, no_elements, element, Pairs, no_pairs, pair}
use Rattle.toml_edit_model.specs.Syntax.{IsSpelledSegment, IsValue, AreElements, ArePairs, keeps_ranges, elements_keep_ranges}
use Rattle.toml_edit_model.specs.Syntax.{pairs_keep_ranges, value_text, frame_text}
use Rattle.toml_edit_model.specs.Paths.{at_key, same_path, Mention, line_mentions, pair_mentions}
use Rattle.toml_edit_model.specs.Accepted.{has_agreeing_pairs, elements_have_agreeing_pairs, pairs_have_agreeing_pairs, all_agree}
use Rattle.toml_edit_model.specs.Tree.{Key, Node, nothing, leaf, list, inline, table, tables, Items, no_items, item, Slots, no_slots, slot}
use Rattle.toml_edit_model.specs.Tree.{has_key, IsRealScalar, HasTrueSpelling, IsWellMade, ItemsAreWellMade, SlotsAreWellMade}
use Rattle.toml_edit_model.specs.TreeOf.{Form, owned_in, Entry, entry_of, entries, IsValueNode, AreElementNodes, AreEntrySlots}
use Rattle.toml_edit_laws.proofs.common.Tests.{and_left, and_right, or-left, or-right, false-by, true-false, same_text-is}
use Rattle.toml_edit_laws.proofs.common.Members.{Among, among-cases}
use Rattle.toml_edit_laws.proofs.mentions.KeptMentions.{under-is, HaveNoHeaders, Kept, kept-is}
use Rattle.toml_edit_laws.proofs.inline_tables.EntryMentions.{AgreeingMentions, agreeing-headers, under-agrees, entries-agree, EachValue}
use Rattle.toml_edit_laws.proofs.inline_tables.EntryMentions.{entry-value}
use Rattle.toml_edit_laws.proofs.inline_tables.SlotsOfEntries.{IsMadeByKey, slot-key, slot-node, slot-rest}
use Rattle.toml_edit_laws.proofs.values.ValueShown.{kept-path, value-slot, dotted-slot}
use Rattle.toml_edit_laws.proofs.spellings.RealLaws.{is-real}
use Rattle.toml_edit_laws.proofs.common.PathLaws.{same_path-refl}
use Rattle.toml_edit_laws.proofs.mentions.Placed.{line-spelled}
use Rattle.toml_edit_laws.proofs.values.ValueKinds.{not-value}
use Rattle.toml_edit_model.specs.Roles.{may_meet_inline, any_role}
use Rattle.toml_edit_model.specs.TableMentions.{under, is_slot, some_at, kept_from, kept}

-- ---- distinct keys

-- no two mentions have one path
abbrev pub AreDistinct : {S : Type 0} → List (Mention S) → Type 0
AreDistinct [] = Unit {0}
AreDistinct {S} (m ∷ ms) = ((n : Mention S) → Among n ms → m.path ≡ n.path → ⊥) × AreDistinct ms

kept_from-distinct : {S : Type 0} (before ms : List (Mention S)) → HaveNoHeaders ms → AreDistinct (kept_from before ms)
kept_from-distinct before [] none = tt
kept_from-distinct {S} before (m ∷ ms) none =
    by_test (is_slot before m ms) (kept_from-distinct (before ++ (m ∷ [])) ms (λ n a. none n (inr a)))
  where
    apart : (n : Mention S) → Among n (kept_from (before ++ (m ∷ [])) ms) → m.path ≡ n.path → ⊥
    apart n a e =
        let is = kept-is (before ++ (m ∷ [])) n ms a in
        let new = sym (list_any-append (λ (x : Mention S). same_path x.path n.path && any_role x.role) before (m ∷ []))
        ∙ is.fresh (none n (inr is.among)) in
        let other = and_false (same_path m.path n.path) (or-left (same_path m.path n.path
        && true) false (or-right (some_at any_role n.path before) ((same_path m.path n.path && true) || false) new)) in
        true-false (same_path m.path n.path) (subst (λ p. same_path m.path p ≡ true) e (same_path-refl m.path)) other
      where
        and_false : (b : Bool) → (b && true) ≡ false → b ≡ false
        and_false true h = h
        and_false false h = refl

    by_test : (b : Bool) → AreDistinct (kept_from (before ++ (m ∷ [])) ms)
        → AreDistinct (if b then m ∷ kept_from (before ++ (m ∷ [])) ms else kept_from (before ++ (m ∷ [])) ms)
    by_test true h = (apart, h)
    by_test false h = h

-- the slots of kept mentions have different keys
pub kept-distinct : {S : Type 0} (ms : List (Mention S)) → AgreeingMentions ms → AreDistinct (kept ms)
kept-distinct ms agree = kept_from-distinct [] ms (agreeing-headers ms agree)

pub no-such-key : (form : Form) (ss : Slots) (ms ks : List (Mention Entry)) (m : Mention Entry) → AgreeingMentions ms → Kept [] m ms
    → ((k : Mention Entry) → Among k ks → Kept [] k ms) → ((k : Mention Entry) → Among k ks → m.path ≡ k.path → ⊥)
    → AreEntrySlots form ms ks ss
    → has_key m.segment.key ss ≡ false
no-such-key form no_slots ms ks m agree at are apart is = refl
no-such-key form (slot key n ss) ms (k ∷ ks) m agree at are apart is =
    let name = ap (λ x. x.name) (slot-key form ms k ks key n ss is) in
    let other = false-by (same_text m.segment.key key.name) (λ e. apart k (inl refl)
    (kept-path [] ms m agree at ∙ ap (λ x. at_key x ∷ []) (same_text-is m.segment.key key.name e ∙ name)
    ∙ sym (kept-path [] ms k agree (are k (inl refl))))) in
    ap (λ b. b || has_key m.segment.key ss) other
    ∙ no-such-key form ss ms ks m agree at (λ j a. are j (inr a)) (λ j a. apart j (inr a)) (slot-rest form ms k ks key n ss is)
no-such-key form (slot key n ss) ms [] m agree at are apart is = elim is [ ]

-- ---- true spellings

entry-spelled : (form : Form) (ps : Pairs) (i : ℕ) → ArePairs ps → (m : Mention Entry) → Among m (entries form ps i)
    → IsSpelledSegment m.segment
entry-spelled form no_pairs i h m a = elim a [ ]
entry-spelled form (pair f v ps) i h m a =
    elim (among-cases m (line_mentions (entry_of form i f v) (i + length f.leading) [] f.path) (entries form ps (i
    + length (frame_text f (value_text v)) + 1)) a) [
      | inl b ↦ line-spelled (entry_of form i f v) (i + length f.leading) [] f.path h.0.1.spelled m b
      | inr b ↦ entry-spelled form ps (i + length (frame_text f (value_text v)) + 1) h.2 m b
    ]

-- ---- nodes

-- a value is right: in the grammar, its pairs agree, and its scalars are in range
pub record IsRight (v : Value) : Type 0 where
  pub grammar : IsValue v
  pub agrees : has_agreeing_pairs v ≡ true
  pub ranged : keeps_ranges v ≡ true

each-right : (ps : Pairs) → ArePairs ps → pairs_have_agreeing_pairs ps ≡ true → pairs_keep_ranges ps ≡ true → EachValue IsRight ps
each-right no_pairs h g r = tt
each-right (pair f v ps) h g r = (
  record { grammar = h.1; agrees = and_left (has_agreeing_pairs v) _ g; ranged = and_left (keeps_ranges v) _ r },
  each-right ps h.2 (and_right (has_agreeing_pairs v) _ g) (and_right (keeps_ranges v) _ r),
)

-- a mention's key is spelled, and its pair's value is right
pub record IsRightMention (m : Mention Entry) : Type 0 where
  pub key : IsSpelledSegment m.segment
  pub value : IsRight m.source.value

abbrev AreRight : List (Mention Entry) → Type 0
AreRight ms = (m : Mention Entry) → Among m ms → IsRightMention m

under-right : (k : Text) (ms : List (Mention Entry)) → AreRight ms → AreRight (under (at_key k) ms)
under-right k ms h m a =
    let up = under-is (at_key k) m ms a in
    let right = h up.mention up.among in
    subst IsRightMention (sym up.same) (record { key = right.key; value = right.value })

module _ (mode : Mode) where
  mutual
    -- The node in owned form is well made.
    pub made_well : (n : Node) (v : Value) (i : ℕ) (before after : Text) → IsRight v → IsValueNode (owned_in mode) v i before after n
        → IsWellMade n
    made_well (leaf s r d) (scalar x t) i before after h is = (
      subst (HasTrueSpelling (SpellsInRange s)) (sym is.1) (subst (λ y. SpellsInRange y t) (sym is.0) (h.grammar, h.ranged)),
      subst IsRealScalar (sym is.0) (is-real x t h.grammar h.ranged),
    )
    made_well (list f xs) (array es comma t) i before after h is =
        items-well xs es (i + length before + 1) h.grammar.1 h.agrees h.ranged is.1
    made_well (inline f ss) (inline_table ps comma t) i before after h is =
        let j = i + length before + 1 in
        let ms = entries (owned_in mode) ps j in
        let agree = entries-agree (owned_in mode) ps j (and_left (all_agree may_meet_inline (pair_mentions 0 ps)) _ h.agrees) in
        let right = entry-value (owned_in mode) IsRight ps j
        (each-right ps h.grammar.1 (and_right (all_agree may_meet_inline (pair_mentions 0 ps)) _ h.agrees) h.ranged) in
        slots-well ss ms (kept ms) agree
        (λ m a. record { key = entry-spelled (owned_in mode) ps j h.grammar.1 m a; value = right m a })
        (λ m a. kept-is [] m ms a) (kept-distinct ms agree) is.1
    made_well (leaf s r d) (array es comma t) i before after h is = elim is [ ]
    made_well (leaf s r d) (inline_table ps comma t) i before after h is = elim is [ ]
    made_well (list g xs) (scalar t u) i before after h is = elim is [ ]
    made_well (list g xs) (inline_table ps comma t) i before after h is = elim is [ ]
    made_well (inline g ss) (scalar t u) i before after h is = elim is [ ]
    made_well (inline g ss) (array es comma t) i before after h is = elim is [ ]
    made_well (table g ss) v i before after h is = absurd (not-value (owned_in mode) (table g ss) v i before after refl is)
    made_well (tables e xs) v i before after h is = absurd (not-value (owned_in mode) (tables e xs) v i before after refl is)
    made_well nothing v i before after h is = absurd (not-value (owned_in mode) nothing v i before after refl is)

    items-well : (xs : Items) (es : Elements) (i : ℕ) → AreElements es → elements_have_agreeing_pairs es ≡ true → elements_keep_ranges es
        ≡ true
        → AreElementNodes (owned_in mode) es i xs → ItemsAreWellMade xs
    items-well no_items no_elements i h g r is = tt
    items-well (item n xs) (element a v es) i h g r is = (
      made_well n v i a.before a.after
          (record {
            grammar = h.2;
            agrees = and_left (has_agreeing_pairs v) (elements_have_agreeing_pairs es) g;
            ranged =
                and_left (keeps_ranges v) (elements_keep_ranges es) r;
          }) is.0,
      items-well xs es (i + length a.before + length (value_text v) + length a.after
          + 1) h.3 (and_right (has_agreeing_pairs v) (elements_have_agreeing_pairs es) g)
          (and_right (keeps_ranges v) (elements_keep_ranges es) r) is.1,
    )
    items-well no_items (element a v es) i h g r is = elim is [ ]
    items-well (item n xs) no_elements i h g r is = elim is [ ]

    key-made : (n : Node) (m : Mention Entry) (ns : List (Mention Entry)) → AgreeingMentions ns → AreRight ns
        → IsMadeByKey (owned_in mode) m ns n → IsWellMade n
    key-made (inline f ss) m ns agree right is =
        slots-well ss ns (kept ns) agree right (λ k a. kept-is [] k ns a) (kept-distinct ns agree) is.1
    key-made (leaf s r x) m ns agree right is = elim is [ ]
    key-made (list g xs) m ns agree right is = elim is [ ]
    key-made (table g ss) m ns agree right is = elim is [ ]
    key-made (tables e xs) m ns agree right is = elim is [ ]
    key-made nothing m ns agree right is = elim is [ ]

    slots-well : (ss : Slots) (ms ks : List (Mention Entry)) → AgreeingMentions ms → AreRight ms
        → ((k : Mention Entry) → Among k ks → Kept [] k ms)
        → AreDistinct ks → AreEntrySlots (owned_in mode) ms ks ss → SlotsAreWellMade ss
    slots-well no_slots ms [] agree right are apart is = tt
    slots-well (slot key n ss) ms (k ∷ ks) agree right are apart is =
        let at = are k (inl refl) in
        let of_key = slot-key (owned_in mode) ms k ks key n ss is in
        let is_node = slot-node (owned_in mode) ms k ks key n ss is in
        let rest = slot-rest (owned_in mode) ms k ks key n ss is in
        let others = λ (j : Mention Entry) (a : Among j ks). are j (inr a) in (
          subst (λ x. has_key x ss ≡ false) (sym (ap (λ x. x.name) of_key))
              (no-such-key (owned_in mode) ss ms ks k agree at others apart.0 rest),
          subst (λ (x : Key). HasTrueSpelling (SpellsKey x.name) x.spelling) (sym of_key) (right k at.among).key,
          elim (agree.roles k at.among) [
            | inl d ↦
                key-made n k (under (at_key k.segment.key) ms) (under-agrees (at_key k.segment.key) ms agree)
                (under-right k.segment.key ms right) (dotted-slot k.role _ _ d is_node)
            | inr v ↦ made_well n k.source.value k.source.start k.source.before k.source.after (right k at.among).value
                (value-slot k.role _ _ v is_node)
          ],
          slots-well ss ms ks agree right others apart.1 rest,
        )
    slots-well no_slots ms (k ∷ ks) agree right are apart is = elim is [ ]
    slots-well (slot key n ss) ms [] agree right are apart is = elim is [ ]
