-- A value has an item: the slots of an inline table are made key by key, with paths that grow shorter.
use Rattle.std.proofs.Common.{◌≡◌, ◌≤◌, refl, sym, ◌∙◌, ap, subst, ℕ, suc, zero, ◌+◌, ◌-◌, arith, Bool, true, false, List, [], ◌∷◌, ◌++◌}
use Rattle.std.proofs.Common.{length, Some}
use Rattle.std.specs.Prelude.{◌&&◌, ◌||◌, not, if◌then◌else◌, MatchBool}
use Rattle.std.specs.List.{AllByRecursion}
use Rattle.toml_edit_model.specs.Text.{Text}
use Rattle.toml_edit_model.specs.Syntax.{Segment, Value, scalar, array, inline_table, Elements, no_elements, element, Pairs, no_pairs, pair}
use Rattle.toml_edit_model.specs.Syntax.{value_text}
use Rattle.toml_edit_model.specs.Paths.{Step, at_key, Path, same_step, to_key, Mention, line_mentions, next_start}
use Rattle.toml_edit_model.specs.Tree.{Node, leaf, list, inline, Items, no_items, item, Slots, no_slots, slot}
use Rattle.toml_edit_model.specs.TreeOf.{Form, Entry, decor_at, key_of, key_extent, entry_of, value_start, entries, IsValueNode}
use Rattle.toml_edit_model.specs.TreeOf.{AreElementNodes, AreEntrySlots}
use Rattle.toml_edit_laws.specs.InlineTree.{path_fields, pair_path, next_pair}
use Rattle.toml_edit_laws.proofs.inline_tables.EntrySlots.{IsEntryNode, dotted-node}
use Rattle.toml_edit_laws.proofs.values.OneNode.{one-node}
use Rattle.toml_edit_laws.proofs.mentions.KeptOrder.{kept-all}
use Rattle.toml_edit_laws.proofs.common.Each.{all-append}
use Rattle.toml_edit_model.specs.Roles.{is_header_role, any_role, ends_path}
use Rattle.toml_edit_model.specs.TableMentions.{inside, under, some_at, is_single, kept_from, kept}

-- ---- what holds of all mentions

-- the paths have at most so many steps
abbrev AreWithin : {S : Type 0} → ℕ → List (Mention S) → Type 0
AreWithin n ms = AllByRecursion (λ m. length m.path ≤ n) ms

within-more : {S : Type 0} (a b : ℕ) (ms : List (Mention S)) → a ≤ b → AreWithin a ms → AreWithin b ms
within-more a b [] e h = tt
within-more a b (m ∷ ms) e h = let here : length m.path ≤ a = h.0 in (omega arith, within-more a b ms e h.1)

within-inside : {S : Type 0} (n : ℕ) (s : Step) (m : Mention S) (p : Path) → length p ≤ suc n → AreWithin n (inside s m p)
within-inside n s m [] h = tt
within-inside n s m (t ∷ p) h = by_test (same_step t s)
  where
    by_test : (b : Bool) → AreWithin n (if b then record m { path = p } ∷ [] else [])
    by_test true = (omega arith, tt)
    by_test false = tt

within-under : {S : Type 0} (n : ℕ) (s : Step) (ms : List (Mention S)) → AreWithin (suc n) ms → AreWithin n (under s ms)
within-under n s [] h = tt
within-under n s (m ∷ ms) h =
    all-append (λ x. length x.path ≤ n) (inside s m m.path) (under s ms) (within-inside n s m m.path h.0) (within-under n s ms h.1)

kept-past : {S : Type 0} (before : List (Mention S)) (m : Mention S) (ms : List (Mention S)) → is_single m.path ≡ false
    → kept_from before (m ∷ ms) ≡ kept_from (before ++ (m ∷ [])) ms
kept-past before m ms h =
    ap (λ b. if b && (is_header_role m.role || (not (some_at any_role m.path before) && not (some_at is_header_role m.path ms)))
    then m ∷ kept_from (before ++ (m ∷ [])) ms else kept_from (before ++ (m ∷ [])) ms) h

none-within : {S : Type 0} (before ms : List (Mention S)) → AreWithin 0 ms → kept_from before ms ≡ []
none-within before [] h = refl
none-within {S} before (m ∷ ms) h = kept-past before m ms (by_path m.path h.0) ∙ none-within (before ++ (m ∷ [])) ms h.1
  where
    by_path : (p : Path) → length p ≤ 0 → is_single p ≡ false
    by_path [] g = refl
    by_path (s ∷ p) g = absurd (omega arith)

longest : {S : Type 0} → List (Mention S) → ℕ
longest [] = 0
longest (m ∷ ms) = length m.path + longest ms

within-longest : {S : Type 0} (ms : List (Mention S)) → AreWithin (longest ms) ms
unfolding longest
within-longest [] = tt
within-longest (m ∷ ms) = (omega arith, within-more (longest ms) (length m.path + longest ms) ms (omega arith) (within-longest ms))

module _ (form : Form) where
  -- the value of the mention's pair has an item
  abbrev pub HasNode : Mention Entry → Type 0
  HasNode m = (n : Node) × IsValueNode form m.source.value m.source.start m.source.before m.source.after n

  nodes-inside : (s : Step) (m : Mention Entry) (p : Path) → HasNode m → AllByRecursion HasNode (inside s m p)
  nodes-inside s m [] h = tt
  nodes-inside s m (t ∷ p) h = by_test (same_step t s)
    where
      by_test : (b : Bool) → AllByRecursion HasNode (if b then record m { path = p } ∷ [] else [])
      by_test true = (h, tt)
      by_test false = tt

  nodes-under : (s : Step) (ms : List (Mention Entry)) → AllByRecursion HasNode ms → AllByRecursion HasNode (under s ms)
  nodes-under s [] h = tt
  nodes-under s (m ∷ ms) h = all-append HasNode (inside s m m.path) (under s ms) (nodes-inside s m m.path h.0) (nodes-under s ms h.1)

  nodes-line : (source : Entry) (start : ℕ) (p : Path) (segments : List Segment)
      → ((n : Node) × IsValueNode form source.value source.start source.before source.after n)
      → AllByRecursion HasNode (line_mentions source start p segments)
  nodes-line source start p [] h = tt
  nodes-line source start p (g ∷ []) h = (h, tt)
  nodes-line source start p (g ∷ x ∷ rest) h = (h, nodes-line source (next_start start g) (to_key p g.key) (x ∷ rest) h)

  -- ---- slots, key by key

  to-value : (b : Bool) (A C : Type 0) → b ≡ true → A → MatchBool b A C
  to-value true A C e h = h
  to-value false A C e h = absurd cc

  -- the item of a kept mention, where what is under a key has slots
  some-item : (ms : List (Mention Entry)) (m : Mention Entry) → HasNode m
      → ((k : Text) → (ss : Slots) × AreEntrySlots form (under (at_key k) ms) (kept (under (at_key k) ms)) ss)
      → (n : Node) × IsEntryNode form ms m n
  some-item ms m h below = by_end (ends_path m.role) refl
    where
      by_end : (b : Bool) → ends_path m.role ≡ b → (n : Node) × IsEntryNode form ms m n
      by_end true e = (h.0, (refl, to-value (ends_path m.role) _ _ e h.1, tt))
      by_end false e =
          let inside = below m.segment.key in (
            inline (path_fields (key_extent form m)) inside.0,
            dotted-node form ms m (path_fields (key_extent form m)) inside.0 (e, refl, inside.1),
          )

  some-list : (ms ks : List (Mention Entry)) → AllByRecursion HasNode ks
      → ((k : Text) → (ss : Slots) × AreEntrySlots form (under (at_key k) ms) (kept (under (at_key k) ms)) ss)
      → (ss : Slots) × AreEntrySlots form ms ks ss
  some-list ms [] h below = (no_slots, tt)
  some-list ms (m ∷ ks) h below =
      let first = some-item ms m h.0 below in
      let others = some-list ms ks h.1 below in
      (slot (key_of form m.source.leaf m) first.0 others.0, (refl, first.1.1, others.1))

  some-within : (n : ℕ) (ms : List (Mention Entry)) → AreWithin n ms → AllByRecursion HasNode ms → (ss : Slots)
      × AreEntrySlots form ms (kept ms) ss
  some-within zero ms w h = (no_slots, subst (λ ks. AreEntrySlots form ms ks no_slots) (sym (none-within [] ms w)) tt)
  some-within (suc n) ms w h =
      some-list ms (kept ms) (kept-all HasNode [] ms h)
      (λ k. some-within n (under (at_key k) ms) (within-under n (at_key k) ms w) (nodes-under (at_key k) ms h))

  -- Mentions of pairs whose values have items have slots.
  pub some-slots : (ms : List (Mention Entry)) → AllByRecursion HasNode ms → (ss : Slots) × AreEntrySlots form ms (kept ms) ss
  some-slots ms h = some-within (longest ms) ms (within-longest ms) h

  -- ---- values

  mutual
    pub some-node : (v : Value) (i : ℕ) (before after : Text) → (n : Node) × IsValueNode form v i before after n
    some-node (scalar s t) i before after =
        (leaf s (Some (form.raw (i + length before) t)) (decor_at form i before (i + length before + length t) after), (refl, refl, refl))
    some-node (array es comma t) i before after =
        let items = some-items es (i + length before + 1) in
        let size = length (value_text (array es comma t)) in (
          list (record {
            decor = decor_at form i before (i + length before + size) after;
            comma = comma;
            trailing = form.raw (i + length before + size - 1 - length t) t;
            extent = form.extent (i + length before) (i + length before + size);
          }) items.0,
          (refl, items.1),
        )
    some-node (inline_table ps comma t) i before after =
        let slots = some-slots (entries form ps (i + length before + 1)) (some-entries ps (i + length before + 1)) in
        let size = length (value_text (inline_table ps comma t)) in (
          inline (record {
            decor = decor_at form i before (i + length before + size) after;
            is_dotted = false;
            comma = comma;
            trailing = form.raw (i + length before + size - 1 - length t) t;
            extent = form.extent (i + length before) (i + length before + size);
          }) slots.0,
          (refl, slots.1),
        )

    pub some-items : (es : Elements) (i : ℕ) → (xs : Items) × AreElementNodes form es i xs
    some-items no_elements i = (no_items, tt)
    some-items (element a v es) i =
        let first = some-node v i a.before a.after in
        let others = some-items es (i + length a.before + length (value_text v) + length a.after + 1) in
        (item first.0 others.0, (first.1, others.1))

    pub some-entries : (ps : Pairs) (i : ℕ) → AllByRecursion HasNode (entries form ps i)
    some-entries no_pairs i = tt
    some-entries (pair f v ps) i =
        let first = some-node v (i + value_start form f) f.after_equals f.trailing in
        all-append HasNode (pair_path form i f v) (entries form ps (next_pair i f v))
        (nodes-line (entry_of form i f v) (i + length f.leading) [] f.path first)
        (some-entries ps (next_pair i f v))

  -- In each form a value has one item, where the texts before and after it are these.
  pub one_item : (v : Value) (i : ℕ) (before after : Text)
      → (n : Node) × IsValueNode form v i before after n × ((o : Node) → IsValueNode form v i before after o → o ≡ n)
  one_item v i before after =
      let some = some-node v i before after in
      (some.0, some.1, λ o h. one-node form v i before after o some.0 h some.1)
