-- The node of a value means what the value means.
use Rattle.std.proofs.Common.{◌≡◌, ℕ, ◌+◌, suc, refl, sym, ap, subst, ◌∙◌, inl, inr, true, List, [], ◌∷◌, ◌++◌, append-nil, length}
use Rattle.std.specs.Prelude.{if◌then◌else◌}
use Rattle.toml_edit_model.specs.Text.{Text}
use Rattle.toml_edit_model.specs.Syntax.{Value, scalar, array, inline_table, Elements, no_elements, element, Pairs, no_pairs, pair, IsValue}
use Rattle.toml_edit_model.specs.Syntax.{AreElements, ArePairs, value_text}
use Rattle.toml_edit_model.specs.Paths.{at_key, Path, to_key, to_element, Mention, pair_mentions}
use Rattle.toml_edit_model.specs.Accepted.{has_agreeing_pairs, elements_have_agreeing_pairs, pairs_have_agreeing_pairs, all_agree}
use Rattle.toml_edit_model.specs.Meaning.{Fact, fact, a_table, an_array, a_scalar, SameFacts, value_facts, elements_facts, pairs_facts}
use Rattle.toml_edit_model.specs.Tree.{Node, nothing, leaf, list, inline, table, tables, Items, no_items, item, Slots, no_slots, slot}
use Rattle.toml_edit_model.specs.Tree.{is_value_node}
use Rattle.toml_edit_model.specs.TreeOf.{Form, Entry, entries, IsValueNode, AreElementNodes, AreEntrySlots}
use Rattle.toml_edit_model.specs.Shown.{is_shown, is_shown_inside, inside_facts, list_facts, inside_slots_facts}
use Rattle.toml_edit_laws.proofs.common.Tests.{and_left, and_right}
use Rattle.toml_edit_laws.proofs.common.Members.{Among, among-left, among-right, among-cases, from-contained, to-contained}
use Rattle.toml_edit_laws.proofs.mentions.KeptMentions.{moved, under-has, under-is, Kept, kept-is}
use Rattle.toml_edit_laws.proofs.inline_tables.EntryMentions.{AgreeingMentions, under-agrees, entries-agree, entry-below, EachValue}
use Rattle.toml_edit_laws.proofs.inline_tables.EntryMentions.{entry-value}
use Rattle.toml_edit_laws.proofs.inline_tables.SlotsOfEntries.{IsMadeByKey, slot-key, slot-node, slot-rest}
use Rattle.toml_edit_laws.proofs.values.ValueShown.{kept-path, value-slot, dotted-slot, value-shown, value-shown_inside, slot-shown}
use Rattle.toml_edit_laws.proofs.values.ToldFacts.{role_facts, mention_facts, pairs-told, Told, told-of, of-told, ToldBelow, rise, sink}
use Rattle.toml_edit_laws.proofs.values.ValueKinds.{not-value, value-node}
use Rattle.toml_edit_model.specs.Roles.{dotted_role, value_role, may_meet_inline}
use Rattle.toml_edit_model.specs.TableMentions.{under, kept}

-- the same facts, one by one
abbrev Alike : List Fact → List Fact → Type 0
Alike fs gs = (f : Fact) → (Among f fs → Among f gs) × (Among f gs → Among f fs)

alike-cons : (f : Fact) (fs gs : List Fact) → Alike fs gs → Alike (f ∷ fs) (f ∷ gs)
alike-cons f fs gs h g =
    (λ a. elim a [ inl e ↦ inl e | inr b ↦ inr ((h g).0 b) ], λ a. elim a [ inl e ↦ inl e | inr b ↦ inr ((h g).1 b) ])

alike-append : (fs gs hs ks : List Fact) → Alike fs gs → Alike hs ks → Alike (fs ++ hs) (gs ++ ks)
alike-append fs gs hs ks a b f = (
  λ x. elim (among-cases f fs hs x) [ inl y ↦ among-left f gs ks ((a f).0 y) | inr y ↦ among-right f gs ks ((b f).0 y) ],
  λ x. elim (among-cases f gs ks x) [ inl y ↦ among-left f fs hs ((a f).1 y) | inr y ↦ among-right f fs hs ((b f).1 y) ],
)

alike-same : (fs gs : List Fact) → fs ≡ gs → Alike fs gs
alike-same fs gs e f = (λ a. subst (Among f) e a, λ a. subst (Among f) (sym e) a)

-- ---- values whose pairs agree

abbrev IsSound : Value → Type 0
IsSound v = IsValue v × (has_agreeing_pairs v ≡ true)

each-sound : (ps : Pairs) → ArePairs ps → pairs_have_agreeing_pairs ps ≡ true → EachValue IsSound ps
each-sound no_pairs h g = tt
each-sound (pair f v ps) h g = (
  (h.1, and_left (has_agreeing_pairs v) (pairs_have_agreeing_pairs ps) g),
  each-sound ps h.2 (and_right (has_agreeing_pairs v) (pairs_have_agreeing_pairs ps) g),
)

abbrev AreSound : List (Mention Entry) → Type 0
AreSound ms = (m : Mention Entry) → Among m ms → IsSound m.source.value

under-sound : (k : Text) (ms : List (Mention Entry)) → AreSound ms → AreSound (under (at_key k) ms)
under-sound k ms h m a =
    let up = under-is (at_key k) m ms a in
    subst (λ e. IsSound e.value) (sym (ap (λ n. n.source) up.same)) (h up.mention up.among)

-- what only one mention tells
lone-told : (k : Mention Entry) (ms : List (Mention Entry)) (p : Path) (f : Fact) → AgreeingMentions ms → Kept [] k ms → k.role ≡ value_role
    → (Among f (value_facts k.source.value p) → Told p (under (at_key k.segment.key) ms) f)
    × (Told p (under (at_key k.segment.key) ms) f → Among f (value_facts k.source.value p))
lone-told k ms p f agree is v =
    let path = kept-path [] ms k agree is in
    let same : mention_facts p (moved k []) ≡ value_facts k.source.value p =
    ap (λ r. role_facts r k.source.value (p ++ [])) v ∙ ap (value_facts k.source.value) (append-nil p) in (
      λ a. record {
        mention = moved k [];
        among = under-has (at_key k.segment.key) [] k ms is.among path;
        told = subst (Among f) (sym same) a;
      },
      λ t.
          let up = under-is (at_key k.segment.key) t.mention ms t.among in
          let one = agree.alone k up.mention is.among up.among v t.mention.path (up.path ∙ ap (λ q. q ++ t.mention.path) (sym path)) in
          let none = tails (at_key k.segment.key) t.mention.path [] (sym up.path ∙ ap (λ m. m.path) one ∙ path) in
          let it = up.same ∙ ap (λ m. moved m t.mention.path) one ∙ ap (moved k) none in
          subst (Among f) (ap (mention_facts p) it ∙ same) t.told,
    )
  where
    tails : (s : _) (q r : Path) → s ∷ q ≡ s ∷ r → q ≡ r
    tails s q r e = cc

-- the facts of a dotted inline table, where its key is mentioned and no value is
made-told : (k : Mention Entry) (ms : List (Mention Entry)) (p : Path) (f : Fact) (fs : List Fact) → AgreeingMentions ms → Kept [] k ms
    → k.role ≡ dotted_role
    → ((Among f fs → ToldBelow p (under (at_key k.segment.key) ms) (kept (under (at_key k.segment.key) ms)) f)
    × (ToldBelow p (under (at_key k.segment.key) ms) (kept (under (at_key k.segment.key) ms)) f → Among f fs))
    → (Among f (fact p a_table ∷ fs) → Told p (under (at_key k.segment.key) ms) f)
    × (Told p (under (at_key k.segment.key) ms) f → Among f (fact p a_table ∷ fs))
made-told k ms p f fs agree is d below = (there, λ t. back t t.mention.path refl)
  where
    ns : List (Mention Entry)
    ns = under (at_key k.segment.key) ms

    own-facts : (m : Mention Entry) → m.role ≡ dotted_role → m.path ≡ [] → mention_facts p m ≡ fact p a_table ∷ []
    own-facts m r e = ap (λ x. role_facts x m.source.value (p ++ m.path)) r ∙ ap (λ q. fact (p ++ q) a_table ∷ []) e
        ∙ ap (λ q. fact q a_table ∷ []) (append-nil p)

    there : Among f (fact p a_table ∷ fs) → Told p (under (at_key k.segment.key) ms) f
    there (inl e) =
        record {
          mention = moved k [];
          among = under-has (at_key k.segment.key) [] k ms is.among (kept-path [] ms k agree is);
          told = subst (Among f) (sym (own-facts (moved k []) d refl)) (inl e);
        }
    there (inr a) = rise p (under (at_key k.segment.key) ms) (kept (under (at_key k.segment.key) ms)) f (below.0 a)

    clash : dotted_role ≡ value_role → ⊥
    clash e = cc

    dotted : (m : Mention Entry) → Among m (under (at_key k.segment.key) ms) → m.path ≡ [] → m.role ≡ dotted_role
    dotted m a e =
        elim ((under-agrees (at_key k.segment.key) ms agree).roles m a) [
          | inl r ↦ r
          | inr v ↦
              let up = under-is (at_key k.segment.key) m ms a in
              let path = up.path ∙ ap (λ q. at_key k.segment.key ∷ q) e in
              let one = agree.alone up.mention k up.among is.among (sym (ap (λ n. n.role) up.same) ∙ v) [] (kept-path [] ms k agree is
              ∙ ap (λ q. q ++ []) (sym path)) in
              absurd (clash (sym d ∙ ap (λ n. n.role) one ∙ sym (ap (λ n. n.role) up.same) ∙ v))
        ]

    back : (t : Told p (under (at_key k.segment.key) ms) f) → (q : Path) → t.mention.path ≡ q → Among f (fact p a_table ∷ fs)
    back t [] e =
        elim (subst (Among f) (own-facts t.mention (dotted t.mention t.among e) e) t.told) [ inl g ↦ inl g | inr g ↦ elim g [ ] ]
    back t (s ∷ q) e =
        inr (below.1 (sink p (under (at_key k.segment.key) ms) f (under-agrees (at_key k.segment.key) ms agree) t.mention s q t.among e
        t.told))

-- with one more slot
slot-told : (p : Path) (ms ks : List (Mention Entry)) (k : Mention Entry) (f : Fact) (fs gs : List Fact)
    → ((Among f fs → Told (to_key p k.segment.key) (under (at_key k.segment.key) ms) f)
    × (Told (to_key p k.segment.key) (under (at_key k.segment.key) ms) f → Among f fs))
    → ((Among f gs → ToldBelow p ms ks f) × (ToldBelow p ms ks f → Among f gs))
    → (Among f (fs ++ gs) → ToldBelow p ms (k ∷ ks) f) × (ToldBelow p ms (k ∷ ks) f → Among f (fs ++ gs))
slot-told p ms ks k f fs gs here others = (
  λ a. elim (among-cases f fs gs a) [
    | inl b ↦ record { slot = k; kept = inl refl; told = here.0 b }
    | inr b ↦ let t = others.0 b in record { slot = t.slot; kept = inr t.kept; told = t.told }
  ],
  λ t. back t t.kept,
)
  where
    back : (t : ToldBelow p ms (k ∷ ks) f) → Among t.slot (k ∷ ks) → Among f (fs ++ gs)
    back t (inl e) =
        among-left f fs gs (here.1 (subst (λ m. Told (to_key p m.segment.key) (under (at_key m.segment.key) ms) f) e t.told))
    back t (inr a) = among-right f fs gs (others.1 (record { slot = t.slot; kept = a; told = t.told }))

-- the facts of an inline table's pairs
pairs-below : (form : Form) (ps : Pairs) (i : ℕ) (p : Path) (f : Fact) (fs : List Fact) → ArePairs ps
    → all_agree may_meet_inline (pair_mentions 0 ps) ≡ true
    → ((Among f fs → ToldBelow p (entries form ps i) (kept (entries form ps i)) f)
    × (ToldBelow p (entries form ps i) (kept (entries form ps i)) f → Among f fs))
    → (Among f fs → Among f (pairs_facts ps p)) × (Among f (pairs_facts ps p) → Among f fs)
pairs-below form ps i p f fs are agree below = (
  λ a. subst (Among f) (sym (pairs-told form ps i p are))
      (of-told p (entries form ps i) f (rise p (entries form ps i) (kept (entries form ps i)) f (below.0 a))),
  λ a.
      let t = told-of p (entries form ps i) f (subst (Among f) (pairs-told form ps i p are) a) in
      let at = entry-below form ps i t.mention t.among in
      below.1 (sink p (entries form ps i) f (entries-agree form ps i agree) t.mention at.0 at.1 t.among at.2 t.told),
)

module _ (form : Form) where
  mutual
    node-facts : (n : Node) (v : Value) (i : ℕ) (before after : Text) → IsSound v → IsValueNode form v i before after n → (p : Path)
        → Alike (inside_facts n p) (value_facts v p)
    node-facts (leaf s r d) (scalar t u) i before after h is p = alike-same _ _ (ap (λ x. fact p (a_scalar x) ∷ []) is.0)
    node-facts (list g xs) (array es comma t) i before after h is p =
        alike-cons (fact p an_array) (list_facts xs p 0) (elements_facts es p 0) (items-facts xs es (i + length before
        + 1) h.0.1 h.1 is.1 p 0)
    node-facts (inline g ss) (inline_table ps comma t) i before after h is p =
        let j = i + length before + 1 in
        let all = all_agree may_meet_inline (pair_mentions 0 ps) in
        let agree = and_left all (pairs_have_agreeing_pairs ps) h.1 in
        let sound = entry-value form IsSound ps j (each-sound ps h.0.1 (and_right all (pairs_have_agreeing_pairs ps) h.1)) in
        alike-cons (fact p a_table) (inside_slots_facts ss p) (pairs_facts ps p) (λ f.
        pairs-below form ps j p f (inside_slots_facts ss p) h.0.1 agree
        (inner-facts ss (entries form ps j) (kept (entries form ps j)) (entries-agree form ps j agree) sound
        (λ k a. kept-is [] k (entries form ps j) a) is.1 p f))
    node-facts (leaf s r d) (array es comma t) i before after h is p = elim is [ ]
    node-facts (leaf s r d) (inline_table ps comma t) i before after h is p = elim is [ ]
    node-facts (list g xs) (scalar t u) i before after h is p = elim is [ ]
    node-facts (list g xs) (inline_table ps comma t) i before after h is p = elim is [ ]
    node-facts (inline g ss) (scalar t u) i before after h is p = elim is [ ]
    node-facts (inline g ss) (array es comma t) i before after h is p = elim is [ ]
    node-facts (table g ss) v i before after h is p = absurd (not-value form (table g ss) v i before after refl is)
    node-facts (tables e xs) v i before after h is p = absurd (not-value form (tables e xs) v i before after refl is)
    node-facts nothing v i before after h is p = absurd (not-value form nothing v i before after refl is)

    items-facts : (xs : Items) (es : Elements) (i : ℕ) → AreElements es → elements_have_agreeing_pairs es ≡ true
        → AreElementNodes form es i xs
        → (p : Path) (k : ℕ) → Alike (list_facts xs p k) (elements_facts es p k)
    items-facts no_items no_elements i h g is p k = alike-same [] [] refl
    items-facts (item n xs) (element a v es) i h g is p k =
        let agree = and_left (has_agreeing_pairs v) (elements_have_agreeing_pairs es) g in
        let others = and_right (has_agreeing_pairs v) (elements_have_agreeing_pairs es) g in
        let next = i + length a.before + length (value_text v) + length a.after + 1 in
        subst (λ b. Alike (if b then inside_facts n (to_element p k) ++ list_facts xs p (suc k)
        else list_facts xs p k) (elements_facts (element a v es) p k))
        (sym (value-node form n v i a.before a.after is.0))
        (alike-append (inside_facts n (to_element p k)) (value_facts v (to_element p k)) (list_facts xs p (suc k))
        (elements_facts es p (suc k))
        (node-facts n v i a.before a.after (h.2, agree) is.0 (to_element p k))
        (items-facts xs es next h.3 others is.1 p (suc k)))
    items-facts no_items (element a v es) i h g is p k = elim is [ ]
    items-facts (item n xs) no_elements i h g is p k = elim is [ ]

    made-facts : (n : Node) (k : Mention Entry) (ms : List (Mention Entry)) → AgreeingMentions ms → AreSound ms → Kept [] k ms → k.role
        ≡ dotted_role
        → IsMadeByKey form k (under (at_key k.segment.key) ms) n → (p : Path) (f : Fact)
        → (Among f (inside_facts n p) → Told p (under (at_key k.segment.key) ms) f)
        × (Told p (under (at_key k.segment.key) ms) f → Among f (inside_facts n p))
    made-facts (inline g ss) k ms agree sound at d is p f =
        let ns = under (at_key k.segment.key) ms in
        made-told k ms p f (inside_slots_facts ss p) agree at d
        (inner-facts ss ns (kept ns) (under-agrees (at_key k.segment.key) ms agree) (under-sound k.segment.key ms sound)
        (λ m a. kept-is [] m ns a) is.1 p f)
    made-facts (leaf s r x) k ms agree sound at d is p f = elim is [ ]
    made-facts (list g xs) k ms agree sound at d is p f = elim is [ ]
    made-facts (table g ss) k ms agree sound at d is p f = elim is [ ]
    made-facts (tables e xs) k ms agree sound at d is p f = elim is [ ]
    made-facts nothing k ms agree sound at d is p f = elim is [ ]

    inner-facts : (ss : Slots) (ms ks : List (Mention Entry)) → AgreeingMentions ms → AreSound ms
        → ((k : Mention Entry) → Among k ks → Kept [] k ms)
        → AreEntrySlots form ms ks ss → (p : Path) (f : Fact)
        → (Among f (inside_slots_facts ss p) → ToldBelow p ms ks f) × (ToldBelow p ms ks f → Among f (inside_slots_facts ss p))
    inner-facts no_slots ms [] agree sound are is p f = (λ a. elim a [ ], λ t. absurd (t.kept))
    inner-facts (slot key n ss) ms (k ∷ ks) agree sound are is p f =
        let at = are k (inl refl) in
        let name = ap (λ x. x.name) (slot-key form ms k ks key n ss is) in
        let is_node = slot-node form ms k ks key n ss is in
        subst (λ b. (Among f ((if b then inside_facts n (to_key p key.name) else []) ++ inside_slots_facts ss p)
        → ToldBelow p ms (k ∷ ks) f)
        × (ToldBelow p ms (k ∷ ks) f → Among f ((if b then inside_facts n (to_key p key.name) else []) ++ inside_slots_facts ss p)))
        (sym (slot-shown form n ms k agree at is_node))
        (subst (λ x. (Among f (inside_facts n (to_key p x) ++ inside_slots_facts ss p) → ToldBelow p ms (k ∷ ks) f)
        × (ToldBelow p ms (k ∷ ks) f → Among f (inside_facts n (to_key p x) ++ inside_slots_facts ss p)))
        (sym name)
        (slot-told p ms ks k f (inside_facts n (to_key p k.segment.key)) (inside_slots_facts ss p)
        (elim (agree.roles k at.among) [
          | inl d ↦ made-facts n k ms agree sound at d (dotted-slot k.role _ _ d is_node) (to_key p k.segment.key) f
          | inr v ↦
              let it = node-facts n k.source.value k.source.start k.source.before k.source.after (sound k at.among)
              (value-slot k.role _ _ v is_node) (to_key p k.segment.key) f in
              let lone = lone-told k ms (to_key p k.segment.key) f agree at v in
              (λ a. lone.0 (it.0 a), λ t. it.1 (lone.1 t))
        ])
        (inner-facts ss ms ks agree sound (λ m a. are m (inr a)) (slot-rest form ms k ks key n ss is) p f)))
    inner-facts no_slots ms (k ∷ ks) agree sound are is p f = elim is [ ]
    inner-facts (slot key n ss) ms [] agree sound are is p f = elim is [ ]

-- The node of a value whose pairs agree shows the facts of the value.
pub value_meaning : (v : Value) (form : Form) (i : ℕ) (before after : Text) (n : Node) (p : Path) → IsValue v → has_agreeing_pairs v ≡ true
    → IsValueNode form v i before after n → SameFacts (inside_facts n p) (value_facts v p)
value_meaning v form i before after n p is agree node f =
    let same = node-facts form n v i before after (is, agree) node p f in (
      λ c. to-contained f (value_facts v p) (same.0 (from-contained f (inside_facts n p) c)),
      λ c. to-contained f (inside_facts n p) (same.1 (from-contained f (value_facts v p) c)),
    )

-- It is of a value, and it is shown, in a table and inside an inline one.
pub value_is_shown : (v : Value) (form : Form) (i : ℕ) (before after : Text) (n : Node) → IsValueNode form v i before after n
    → (is_value_node n ≡ true) × (is_shown n ≡ true) × (is_shown_inside n ≡ true)
value_is_shown v form i before after n is =
    (value-node form n v i before after is, value-shown form n v i before after is, value-shown_inside form n v i before after is)
