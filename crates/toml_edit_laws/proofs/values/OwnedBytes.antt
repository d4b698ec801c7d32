-- In owned form it doesn't matter where a value begins.
use Rattle.std.proofs.Common.{◌≡◌, ℕ, ◌+◌, refl, sym, ap, subst, ◌∙◌, List, [], ◌∷◌, ◌++◌, map, length}
use Rattle.std.proofs.lemmas.List.{map-append}
use Rattle.toml_edit_model.specs.Mode.{Mode}
use Rattle.toml_edit_model.specs.Text.{Text}
use Rattle.toml_edit_model.specs.Syntax.{Segment, Value, scalar, array, inline_table, Elements, no_elements, element, Pairs, no_pairs, pair}
use Rattle.toml_edit_model.specs.Syntax.{value_text, frame_text}
use Rattle.toml_edit_model.specs.Paths.{at_key, Path, to_key, Mention, line_mentions, mention_of, next_start}
use Rattle.toml_edit_model.specs.Tree.{Node, nothing, leaf, list, inline, table, tables, Items, no_items, item, Slots, no_slots, slot}
use Rattle.toml_edit_model.specs.TreeOf.{owned_in, Entry, entry_of, entries, IsValueNode, AreElementNodes, AreEntrySlots}
use Rattle.toml_edit_laws.proofs.inline_tables.SlotsOfEntries.{IsMadeByKey, slot-key, slot-node, slot-rest, slot-all, each-way}
use Rattle.toml_edit_laws.proofs.mentions.TurnedMentions.{turned, under-turned, kept-turned}
use Rattle.toml_edit_laws.proofs.values.ValueKinds.{not-value}
use Rattle.toml_edit_model.specs.Roles.{dotted_role, value_role, ends_path}
use Rattle.toml_edit_model.specs.TableMentions.{under, kept}

-- the same from the first byte
abbrev from_start : Entry → Entry
from_start e = record e { start = 0 }

abbrev still : Mention Entry → Mention Entry
still = turned (λ i. 0) from_start

line-still : (e f : Entry) (i j : ℕ) (p : Path) (ss : List Segment) → from_start e ≡ from_start f
    → map still (line_mentions e i p ss) ≡ map still (line_mentions f j p ss)
line-still e f i j p [] same = refl
line-still e f i j p (s ∷ []) same =
    ap (λ x. record { path = to_key p s.key; role = value_role; segment = s; start = 0; source = x } ∷ []) same
line-still e f i j p (s ∷ r ∷ rest) same =
    ap (λ x. record { path = to_key p s.key; role = dotted_role; segment = s; start = 0; source = x }
    ∷ map still (line_mentions e (next_start i s) (to_key p s.key) (r ∷ rest))) same
    ∙ ap (λ ms. still (mention_of f j (to_key p s.key) dotted_role s)
    ∷ ms) (line-still e f (next_start i s) (next_start j s) (to_key p s.key) (r ∷ rest) same)

under-still : (k : Text) (ms : List (Mention Entry)) → under (at_key k) (map still ms) ≡ map still (under (at_key k) ms)
under-still k ms = under-turned (λ i. 0) from_start (at_key k) ms

kept-still : (ms : List (Mention Entry)) → kept (map still ms) ≡ map still (kept ms)
kept-still ms = kept-turned (λ i. 0) from_start ms

module _ (mode : Mode) where
  entries-still : (ps : Pairs) (i j : ℕ) → map still (entries (owned_in mode) ps i) ≡ map still (entries (owned_in mode) ps j)
  entries-still no_pairs i j = refl
  entries-still (pair f v ps) i j =
      let own = λ (k : ℕ). line_mentions (entry_of (owned_in mode) k f v) (k + length f.leading) [] f.path in
      let next = λ (k : ℕ). k + length (frame_text f (value_text v)) + 1 in
      map-append still (own i) (entries (owned_in mode) ps (next i))
      ∙ ap (λ ms. ms ++ map still (entries (owned_in mode) ps (next i)))
      (line-still (entry_of (owned_in mode) i f v) (entry_of (owned_in mode) j f v) (i + length f.leading) (j
      + length f.leading) [] f.path refl)
      ∙ ap (λ ms. map still (own j) ++ ms) (entries-still ps (next i) (next j))
      ∙ sym (map-append still (own j) (entries (owned_in mode) ps (next j)))

  mutual
    -- The node of a value that begins at one byte is that of the value at any other.
    pub owned_byte : (n : Node) (v : Value) (i j : ℕ) (before after : Text) → IsValueNode (owned_in mode) v i before after n
        → IsValueNode (owned_in mode) v j before after n
    owned_byte (leaf s r d) (scalar t u) i j before after is = is
    owned_byte (list f xs) (array es comma t) i j before after is =
        (is.0, items-byte xs es (i + length before + 1) (j + length before + 1) is.1)
    owned_byte (inline f ss) (inline_table ps comma t) i j before after is =
        let here = entries (owned_in mode) ps (i + length before + 1) in
        let there = entries (owned_in mode) ps (j + length before + 1) in (
          is.0,
          (slots-still ss there (kept there)).1
              (subst (λ ks. AreEntrySlots (owned_in mode) (map still there) ks ss) (kept-still there)
              (subst (λ ms. AreEntrySlots (owned_in mode) ms (kept ms) ss) (entries-still ps (i + length before + 1) (j + length before
              + 1))
              (subst (λ ks. AreEntrySlots (owned_in mode) (map still here) ks ss) (sym (kept-still here))
              ((slots-still ss here (kept here)).0 is.1)))),
        )
    owned_byte (leaf s r d) (array es comma t) i j before after is = elim is [ ]
    owned_byte (leaf s r d) (inline_table ps comma t) i j before after is = elim is [ ]
    owned_byte (list g xs) (scalar t u) i j before after is = elim is [ ]
    owned_byte (list g xs) (inline_table ps comma t) i j before after is = elim is [ ]
    owned_byte (inline g ss) (scalar t u) i j before after is = elim is [ ]
    owned_byte (inline g ss) (array es comma t) i j before after is = elim is [ ]
    owned_byte (table g ss) v i j before after is = absurd (not-value (owned_in mode) (table g ss) v i before after refl is)
    owned_byte (tables e xs) v i j before after is = absurd (not-value (owned_in mode) (tables e xs) v i before after refl is)
    owned_byte nothing v i j before after is = absurd (not-value (owned_in mode) nothing v i before after refl is)

    items-byte : (xs : Items) (es : Elements) (i j : ℕ) → AreElementNodes (owned_in mode) es i xs → AreElementNodes (owned_in mode) es j xs
    items-byte no_items no_elements i j is = tt
    items-byte (item n xs) (element a v es) i j is = (
      owned_byte n v i j a.before a.after is.0,
      items-byte xs es (i + length a.before + length (value_text v) + length a.after + 1) (j + length a.before + length (value_text v)
          + length a.after + 1) is.1,
    )
    items-byte no_items (element a v es) i j is = elim is [ ]
    items-byte (item n xs) no_elements i j is = elim is [ ]

    made-still : (n : Node) (m : Mention Entry) (ns : List (Mention Entry))
        → (IsMadeByKey (owned_in mode) m ns n → IsMadeByKey (owned_in mode) (still m) (map still ns) n)
        × (IsMadeByKey (owned_in mode) (still m) (map still ns) n → IsMadeByKey (owned_in mode) m ns n)
    made-still (inline f ss) m ns = (
      λ is. (
        is.0,
        subst (λ ks. AreEntrySlots (owned_in mode) (map still ns) ks ss) (sym (kept-still ns))
            ((slots-still ss ns (kept ns)).0 is.1),
      ),
      λ is. (is.0, (slots-still ss ns (kept ns)).1 (subst (λ ks. AreEntrySlots (owned_in mode) (map still ns) ks ss) (kept-still ns) is.1)),
    )
    made-still (leaf s r x) m ns = (λ is. is, λ is. is)
    made-still (list g xs) m ns = (λ is. is, λ is. is)
    made-still (table g ss) m ns = (λ is. is, λ is. is)
    made-still (tables e xs) m ns = (λ is. is, λ is. is)
    made-still nothing m ns = (λ is. is, λ is. is)

    slots-still : (ss : Slots) (ms ks : List (Mention Entry))
        → (AreEntrySlots (owned_in mode) ms ks ss → AreEntrySlots (owned_in mode) (map still ms) (map still ks) ss)
        × (AreEntrySlots (owned_in mode) (map still ms) (map still ks) ss → AreEntrySlots (owned_in mode) ms ks ss)
    slots-still no_slots ms [] = (λ is. tt, λ is. tt)
    slots-still no_slots ms (k ∷ ks) = (λ is. is, λ is. is)
    slots-still (slot key n ss) ms [] = (λ is. is, λ is. is)
    slots-still (slot key n ss) ms (k ∷ ks) =
        let made = made-still n k (under (at_key k.segment.key) ms) in
        let below = under-still k.segment.key ms in
        let rest = slots-still ss ms ks in (
          λ is.
              slot-all (owned_in mode) (map still ms) (still k) (map still ks) key n ss (slot-key (owned_in mode) ms k ks key n ss is)
              (each-way (ends_path k.role) _ _ _ _
              (λ x. owned_byte n k.source.value k.source.start 0 k.source.before k.source.after x)
              (λ x. subst (λ ns. IsMadeByKey (owned_in mode) (still k) ns n) (sym below) (made.0 x))
              (slot-node (owned_in mode) ms k ks key n ss is))
              (rest.0 (slot-rest (owned_in mode) ms k ks key n ss is)),
          λ is.
              slot-all (owned_in mode) ms k ks key n ss (slot-key (owned_in mode) (map still ms) (still k) (map still ks) key n ss is)
              (each-way (ends_path k.role) _ _ _ _
              (λ x. owned_byte n k.source.value 0 k.source.start k.source.before k.source.after x)
              (λ x. made.1 (subst (λ ns. IsMadeByKey (owned_in mode) (still k) ns n) below x))
              (slot-node (owned_in mode) (map still ms) (still k) (map still ks) key n ss is))
              (rest.1 (slot-rest (owned_in mode) (map still ms) (still k) (map still ks) key n ss is)),
        )
