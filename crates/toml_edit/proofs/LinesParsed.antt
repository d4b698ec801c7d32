-- What `push_line`, `insert_line` and `remove_line` leave is what parsing its print gives.
use Rattle.std.proofs.Common.{◌≡◌, ℕ, zero, suc, ◌+◌, ◌-◌, ◌<◌, ◌≤◌, Bool, true, false, List, [], ◌∷◌, length, None, ap, sym}
use Rattle.std.proofs.Common.{subst, refl, ◌∙◌, inl, inr, arith}
use Rattle.std.specs.Prelude.{nat_lt, not, is_none, ◌||◌}
use Rattle.std.proofs.lemmas.Bool.{cases_Bool, ltb-true, ltb-false, false≢true}
use Rattle.std.proofs.lemmas.List.{append-nil}
use Rattle.std.proofs.lemmas.List.Edits.{length-insert, length-remove}
use Rattle.toml_edit_model.specs.ArrayCalls.{inserted_at, removed_at, value_at}
use Rattle.toml_edit_model.specs.Conversions.{with_decor}
use Rattle.toml_edit_model.specs.Lists.{items_from}
use Rattle.toml_edit_model.specs.Mode.{Mode, plain, exact}
use Rattle.toml_edit_model.specs.Print.{add_after, around_of, close_array, elements_of, value_of}
use Rattle.toml_edit_model.specs.Slots.{changed_at}
use Rattle.toml_edit_model.specs.Syntax.{Around, Value, scalar, array, inline_table, Elements, no_elements, element}
use Rattle.toml_edit_model.specs.Text.{Text, is_empty}
use Rattle.toml_edit_model.specs.Tree.{ArrayFields, InlineFields, Decor, Node, Raw, Items, item, owned, nothing, leaf, list, inline, table, tables, is_value_node}
use Rattle.toml_edit_model.specs.Tree.{node_decor, shown_raw}
use Rattle.toml_edit_model.specs.TableMentions.{kept}
use Rattle.toml_edit_model.specs.TreeOf.{AreElementNodes, AreEntrySlots, IsValueNode, entries, owned_in}
use Rattle.toml_edit_laws.proofs.values.OneNode.{one-node}
use Rattle.toml_edit_laws.proofs.values.OwnedBytes.{owned_byte}
use Rattle.toml_edit_laws.proofs.values.SomeNode.{some-node}
use Rattle.toml_edit_laws.proofs.values.ValueKinds.{not-value}
use Rattle.toml_edit_tree.specs.ArrayLines.{comma_kept, fields_inserted, fields_removed, fields_with_gap, followed, gap_left, gaps_around, is_closed}
use Rattle.toml_edit_tree.specs.ArrayLines.{line_inserted, line_removed, placed, with_gap, with_prefix, with_suffix}
use Rattle.toml_edit.specs.LinesReparse.{AreParsedAs, IsOwnParse, IsParsedAs, ParsedAnywhere, ParsedAsOne, array_as_printed, ends_as_parsed}
use Rattle.toml_edit.specs.LinesReparse.{texts_around, undecorated, values_as_printed}

-- ---- texts and places

-- nothing is added after the last element
add-nothing : (es : Elements) → add_after [] es ≡ es
add-nothing no_elements = refl
add-nothing (element a v no_elements) =
    ap (λ t. element (record { before = a.before; after = t }) v no_elements) (append-nil a.after)
add-nothing (element a v (element b w es)) = ap (element a v) (add-nothing (element b w es))

shown-nothing : (mode : Mode) → shown_raw mode (owned []) ≡ []
shown-nothing plain = refl
shown-nothing exact = refl

length-changed : (h : Node → Node) (i : ℕ) (ns : List Node) → length (changed_at i h ns) ≡ length ns
length-changed h i [] = refl
length-changed h zero (n ∷ ns) = refl
length-changed h (suc i) (n ∷ ns) = ap suc (length-changed h i ns)

length-with_gap : (i : ℕ) (r : Raw) (f : ArrayFields) (ns : List Node) → length (with_gap i r f ns) ≡ length ns
length-with_gap i r f ns =
    elim (cases_Bool (nat_lt i (length ns))) [
      | inl inside ↦ rw inside (length-changed (with_prefix r) i ns)
      | inr end ↦
          elim (cases_Bool (is_closed f ns)) [
            | inl closed ↦ rw (end, closed) refl
            | inr joined ↦ rw (end, joined) (length-changed (with_suffix r) (length ns - 1) ns)
          ]
    ]

length-followed : (i : ℕ) (f : ArrayFields) (ns : List Node) → length (followed i f ns) ≡ length ns
length-followed i f ns =
    elim (cases_Bool (f.comma || nat_lt i (length ns))) [
      | inl same ↦ rw same refl
      | inr last ↦ rw last (length-changed (with_suffix (owned [])) (length ns - 1) ns)
    ]

module _ (mode : Mode) where
  -- ---- values at other places

  -- what is around a value is its decor
  own-decor : (p : Node) (v : Value) (i : ℕ) (before after : Text) → IsValueNode (owned_in mode) v i before after p
      → with_decor (texts_around before after) p ≡ p
  own-decor (leaf s r d) (scalar z t) i before after h = ap (leaf s r) (sym h.2)
  own-decor (list f xs) (array es comma t) i before after h =
      ap (λ g. list g xs) (subst (λ g. record g { decor = texts_around before after } ≡ g) (sym h.0) refl)
  own-decor (inline f ss) (inline_table qs comma t) i before after h =
      ap (λ g. inline g ss) (subst (λ g. record g { decor = texts_around before after } ≡ g) (sym h.0) refl)
  own-decor (leaf s r d) (array es comma t) i before after h = elim h [ ]
  own-decor (leaf s r d) (inline_table qs comma t) i before after h = elim h [ ]
  own-decor (list f xs) (scalar z t) i before after h = elim h [ ]
  own-decor (list f xs) (inline_table qs comma t) i before after h = elim h [ ]
  own-decor (inline f ss) (scalar z t) i before after h = elim h [ ]
  own-decor (inline f ss) (array es comma t) i before after h = elim h [ ]
  own-decor (table f ss) v i before after h = refl
  own-decor (tables e xs) v i before after h = refl
  own-decor nothing v i before after h = refl

  -- other texts are around a value that begins at the same byte
  around-others : (p : Node) (v : Value) (i j : ℕ) (b a c d : Text) → i + length b ≡ j + length c
      → IsValueNode (owned_in mode) v i b a (with_decor (texts_around b a) p)
      → IsValueNode (owned_in mode) v j c d (with_decor (texts_around c d) p)
  around-others (leaf s r x) (scalar z t) i j b a c d e h = (h.0, h.1, refl)
  around-others (list f xs) (array es comma t) i j b a c d e h = (
    ap (λ (g : ArrayFields). record g { decor = texts_around c d }) h.0,
    subst (λ k. AreElementNodes (owned_in mode) es (k + 1) xs) e h.1,
  )
  around-others (inline f ss) (inline_table qs comma t) i j b a c d e h = (
    ap (λ (g : InlineFields). record g { decor = texts_around c d }) h.0,
    subst (λ k. AreEntrySlots (owned_in mode) (entries (owned_in mode) qs (k + 1)) (kept (entries (owned_in mode) qs (k + 1))) ss) e h.1,
  )
  around-others (leaf s r x) (array es comma t) i j b a c d e h = elim h [ ]
  around-others (leaf s r x) (inline_table qs comma t) i j b a c d e h = elim h [ ]
  around-others (list f xs) (scalar z t) i j b a c d e h = elim h [ ]
  around-others (list f xs) (inline_table qs comma t) i j b a c d e h = elim h [ ]
  around-others (inline f ss) (scalar z t) i j b a c d e h = elim h [ ]
  around-others (inline f ss) (array es comma t) i j b a c d e h = elim h [ ]
  around-others (table f ss) v i j b a c d e h = absurd (not-value (owned_in mode) (table f ss) v i b a refl h)
  around-others (tables x xs) v i j b a c d e h = absurd (not-value (owned_in mode) (tables x xs) v i b a refl h)
  around-others nothing v i j b a c d e h = absurd (not-value (owned_in mode) nothing v i b a refl h)

  elsewhere : (p : Node) (v : Value) (i j : ℕ) (b a c d : Text) → IsValueNode (owned_in mode) v i b a (with_decor (texts_around b a) p)
      → IsValueNode (owned_in mode) v j c d (with_decor (texts_around c d) p)
  elsewhere p v i j b a c d h =
      owned_byte mode (with_decor (texts_around c d) p) v (length b) j c d
      (around-others p v (length c) (length b) b a c d (omega arith)
      (owned_byte mode (with_decor (texts_around b a) p) v i (length c) b a h))

  anywhere : (n p : Node) → IsParsedAs mode n p → (i : ℕ) (before after : Text)
      → IsValueNode (owned_in mode) (value_of mode n) i before after (with_decor (texts_around before after) p)
  anywhere n p r i before after = elsewhere p (value_of mode n) 0 i [] [] before after r.1

  pub parsed-anywhere : ParsedAnywhere mode
  parsed-anywhere n p v i before after = (
    λ r. anywhere n p r i before after,
    λ h. (v, elsewhere p (value_of mode n) i 0 before after [] [] h),
  )

  pub parsed-as-one : ParsedAsOne mode
  parsed-as-one n v =
      let some = some-node (owned_in mode) (value_of mode n) 0 [] [] in
      let own : IsParsedAs mode n some.0 =
      (v, subst (IsValueNode (owned_in mode) (value_of mode n) 0 [] []) (sym (own-decor some.0 (value_of mode n) 0 [] [] some.1)) some.1) in
      (some.0, own, λ q r. one-node (owned_in mode) (value_of mode n) 0 [] [] (undecorated q) (undecorated some.0) r.1 own.1)

  -- ---- values that are parsed as others

  redecorated-read : (d : Decor) (n p : Node) → IsParsedAs mode n p → IsParsedAs mode (with_decor d n) p
  redecorated-read d (leaf s spelling e) p r = r
  redecorated-read d (list f xs) p r = r
  redecorated-read d (inline f ss) p r = r
  redecorated-read d (table f ss) p r = r
  redecorated-read d (tables e xs) p r = r
  redecorated-read d nothing p r = r

  changed-read : (h : Node → Node) → ((n p : Node) → IsParsedAs mode n p → IsParsedAs mode (h n) p) → (i : ℕ) (ns ps : List Node)
      → AreParsedAs mode ns ps → AreParsedAs mode (changed_at i h ns) ps
  changed-read h one i [] [] r = tt
  changed-read h one i [] (p ∷ ps) r = absurd r
  changed-read h one i (n ∷ ns) [] r = absurd r
  changed-read h one zero (n ∷ ns) (p ∷ ps) r = (one n p r.0, r.1)
  changed-read h one (suc i) (n ∷ ns) (p ∷ ps) r = (r.0, changed-read h one i ns ps r.1)

  inserted-read : (v q : Node) → IsParsedAs mode v q → (i : ℕ) (ns ps : List Node) → AreParsedAs mode ns ps
      → AreParsedAs mode (inserted_at i v ns) (inserted_at i q ps)
  inserted-read v q own i [] (p ∷ ps) r = absurd r
  inserted-read v q own i (n ∷ ns) [] r = absurd r
  inserted-read v q own zero [] [] r = (own, tt)
  inserted-read v q own (suc i) [] [] r = (own, tt)
  inserted-read v q own zero (n ∷ ns) (p ∷ ps) r = (own, r)
  inserted-read v q own (suc i) (n ∷ ns) (p ∷ ps) r = (r.0, inserted-read v q own i ns ps r.1)

  removed-read : (i : ℕ) (ns ps : List Node) → AreParsedAs mode ns ps → AreParsedAs mode (removed_at i ns) (removed_at i ps)
  removed-read i [] (p ∷ ps) r = absurd r
  removed-read i (n ∷ ns) [] r = absurd r
  removed-read zero [] [] r = tt
  removed-read (suc i) [] [] r = tt
  removed-read zero (n ∷ ns) (p ∷ ps) r = r.1
  removed-read (suc i) (n ∷ ns) (p ∷ ps) r = (r.0, removed-read i ns ps r.1)

  with_gap-read : (i : ℕ) (w : Raw) (f : ArrayFields) (ns ps : List Node) → AreParsedAs mode ns ps
      → AreParsedAs mode (with_gap i w f ns) ps
  with_gap-read i w f ns ps r =
      elim (cases_Bool (nat_lt i (length ns))) [
        | inl inside ↦ rw inside (changed-read (with_prefix w) (λ n p. redecorated-read _ n p) i ns ps r)
        | inr end ↦
            elim (cases_Bool (is_closed f ns)) [
              | inl closed ↦ rw (end, closed) r
              | inr joined ↦ rw (end, joined) (changed-read (with_suffix w) (λ n p. redecorated-read _ n p) (length ns - 1) ns ps r)
            ]
      ]

  followed-read : (i : ℕ) (f : ArrayFields) (ns ps : List Node) → AreParsedAs mode ns ps → AreParsedAs mode (followed i f ns) ps
  followed-read i f ns ps r =
      elim (cases_Bool (f.comma || nat_lt i (length ns))) [
        | inl same ↦ rw same r
        | inr last ↦ rw last (changed-read (with_suffix (owned [])) (λ n p. redecorated-read _ n p) (length ns - 1) ns ps r)
      ]

  value-there : (i : ℕ) (ns ps : List Node) → AreParsedAs mode ns ps → i < length ns → is_none (value_at i ns) ≡ false
  value-there i [] ps r l = absurd (omega arith)
  value-there i (n ∷ ns) [] r l = absurd r
  value-there zero (n ∷ ns) (p ∷ ps) r l = rw r.0.0 refl
  value-there (suc i) (n ∷ ns) (p ∷ ps) r l = value-there i ns ps r.1 (omega arith)

  -- ---- the array

  -- the element of a value
  element-of : (n : Node) (xs : Items) (is_first : Bool) → is_value_node n ≡ true → elements_of mode (item n xs) is_first
      ≡ element (around_of mode is_first (node_decor n)) (value_of mode n) (elements_of mode xs false)
  element-of (leaf s spelling d) xs is_first e = refl
  element-of (list f ys) xs is_first e = refl
  element-of (inline f ss) xs is_first e = refl
  element-of (table f ss) xs is_first e = absurd (false≢true e)
  element-of (tables f ys) xs is_first e = absurd (false≢true e)
  element-of nothing xs is_first e = absurd (false≢true e)

  elements-read : (is_first : Bool) (ns ps : List Node) → AreParsedAs mode ns ps → (i : ℕ)
      → AreElementNodes (owned_in mode) (elements_of mode (items_from ns) is_first) i (items_from (values_as_printed mode is_first ns ps))
  elements-read is_first [] [] r i = tt
  elements-read is_first [] (p ∷ ps) r i = absurd r
  elements-read is_first (n ∷ ns) [] r i = absurd r
  elements-read is_first (n ∷ ns) (p ∷ ps) r i =
      subst (λ es. AreElementNodes (owned_in mode) es i (items_from (values_as_printed mode is_first (n ∷ ns) (p ∷ ps))))
      (sym (element-of n (items_from ns) is_first r.0.0)) (anywhere n p r.0 _ _ _, elements-read false ns ps r.1 _)

  -- what is after the last value is before the bracket, if a comma is there too
  closed-read : (comma : Bool) (t : Text) (a : Around) (v : Value) (es : Elements) (xs : Items) → (comma || is_empty t) ≡ true
      → ((i : ℕ) → AreElementNodes (owned_in mode) (element a v es) i xs)
      → IsValueNode (owned_in mode) (close_array comma t (element a v es)) 0 [] []
      (list (record { decor = texts_around [] []; comma = comma; trailing = owned t; extent = None }) xs)
  closed-read true t a v es xs e r = (refl, r _)
  closed-read false [] a v es xs e r =
      subst (λ fs. IsValueNode (owned_in mode) (array fs false []) 0 [] []
      (list (record { decor = texts_around [] []; comma = false; trailing = owned []; extent = None }) xs))
      (sym (add-nothing (element a v es))) (refl, r _)
  closed-read false (c ∷ t) a v es xs e r = absurd (false≢true e)

  no-comma : (comma : Bool) → not comma ≡ true → comma ≡ false
  no-comma true e = absurd (false≢true e)
  no-comma false e = refl

  pub array-read : (f : ArrayFields) (ns ps : List Node) → AreParsedAs mode ns ps → ends_as_parsed mode f ns ≡ true
      → IsParsedAs mode (list f (items_from ns)) (array_as_printed mode f ns ps)
  array-read f [] [] r e = (
    refl,
    (
      ap (λ c. record {
        decor = texts_around [] [];
        comma = c;
        trailing = owned (shown_raw mode f.trailing);
        extent = None;
      }) (no-comma f.comma e),
      tt,
    ),
  )
  array-read f [] (p ∷ ps) r e = absurd r
  array-read f (n ∷ ns) [] r e = absurd r
  array-read f (n ∷ ns) (p ∷ ps) r e = (
    refl,
    subst (λ es. IsValueNode (owned_in mode) (close_array f.comma (shown_raw mode f.trailing) es) 0 [] []
        (undecorated (array_as_printed mode f (n ∷ ns) (p ∷ ps))))
        (sym (element-of n (items_from ns) true r.0.0))
        (closed-read f.comma (shown_raw mode f.trailing) (around_of mode true (node_decor n)) (value_of mode n)
        (elements_of mode (items_from ns) false) (items_from (values_as_printed mode true (n ∷ ns) (p ∷ ps))) e
        (λ j. (anywhere n p r.0 _ _ _, elements-read false ns ps r.1 _))),
  )

  -- ---- what follows the last value

  -- it is there where a value is
  abbrev follows_as_parsed : ArrayFields → Bool
  follows_as_parsed f = f.comma || is_empty (shown_raw mode f.trailing)

  to-ends : (f : ArrayFields) (ns : List Node) → 0 < length ns → follows_as_parsed f ≡ true → ends_as_parsed mode f ns ≡ true
  to-ends f [] l e = absurd (omega arith)
  to-ends f (n ∷ ns) l e = e

  from-ends : (f : ArrayFields) (ns : List Node) → 0 < length ns → ends_as_parsed mode f ns ≡ true → follows_as_parsed f ≡ true
  from-ends f [] l e = absurd (omega arith)
  from-ends f (n ∷ ns) l e = e

  -- without a slot there is no comma
  alone-ends : (f : ArrayFields) (ns : List Node) → length ns ≡ 0 → ends_as_parsed mode (comma_kept ns f) ns ≡ true
  alone-ends f [] e = refl
  alone-ends f (n ∷ ns) e = absurd (omega (arith, e))

  others-keep : (f : ArrayFields) (ns : List Node) → 0 < length ns → f ≡ comma_kept ns f
  others-keep f [] l = absurd (omega arith)
  others-keep f (n ∷ ns) l = refl

  -- a gap after the last value is put there, and another one changes nothing of it
  gap-follows : (i : ℕ) (r : Raw) (f : ArrayFields) (ns ps : List Node) → AreParsedAs mode ns ps → 0 < length ns
      → (i < length ns → follows_as_parsed f ≡ true) → follows_as_parsed (fields_with_gap i r f ns) ≡ true
  gap-follows i r f ns ps read some e =
      elim (cases_Bool (nat_lt i (length ns))) [
        | inl inside ↦ rw inside (e (ltb-true _ _ inside))
        | inr end ↦
            elim (cases_Bool f.comma) [
              | inl comma ↦ rw (end, comma) refl
              | inr none ↦
                  let last : is_none (value_at (length ns - 1) ns) ≡ false =
                  value-there (length ns - 1) ns ps read (omega arith) in
                  rw (end, none, last) (ap is_empty (shown-nothing mode))
            ]
      ]

  -- an array with a gap that was put in its place
  gap-ends : (i : ℕ) (w : Raw) (f : ArrayFields) (ns ps : List Node) → AreParsedAs mode ns ps → 0 < length ns
      → (i < length ns → follows_as_parsed f ≡ true) → IsOwnParse mode (fields_with_gap i w f ns) (with_gap i w f ns) ps
  gap-ends i w f ns ps read some e =
      let values = with_gap-read i w f ns ps read in
      let ends =
      to-ends (fields_with_gap i w f ns) (with_gap i w f ns) (subst (λ k. 0 < k) (sym (length-with_gap i w f ns)) some)
      (gap-follows i w f ns ps read some e) in
      record { values = values; ends = ends; array = array-read (fields_with_gap i w f ns) (with_gap i w f ns) ps values ends }

  -- the only value goes, and the comma after it
  gap-alone : (i : ℕ) (w : Raw) (f : ArrayFields) (ns ps : List Node) → AreParsedAs mode ns ps → length ns ≡ 0
      → IsOwnParse mode (comma_kept (with_gap i w f ns) (fields_with_gap i w f ns)) (with_gap i w f ns) ps
  gap-alone i w f ns ps read none =
      let g : ArrayFields = comma_kept (with_gap i w f ns) (fields_with_gap i w f ns) in
      let values = with_gap-read i w f ns ps read in
      let ends = alone-ends (fields_with_gap i w f ns) (with_gap i w f ns) (length-with_gap i w f ns ∙ none) in
      record { values = values; ends = ends; array = array-read g (with_gap i w f ns) ps values ends }

  -- ---- the calls

  -- the value is between any two gaps
  inserted-between : (before after : Raw) (f : ArrayFields) (ns ps : List Node) (v q : Node) (i : ℕ) → AreParsedAs mode ns ps
      → IsParsedAs mode v q → i ≤ length ns → (i < length ns → ends_as_parsed mode f ns ≡ true)
      → IsOwnParse mode (fields_with_gap (suc i) after f (inserted_at i (placed before v) (followed i f ns)))
      (with_gap (suc i) after f (inserted_at i (placed before v) (followed i f ns))) (inserted_at i q ps)
  inserted-between before after f ns ps v q i r own l e =
      let long = length-followed i f ns in
      let more : length (inserted_at i (placed before v) (followed i f ns)) ≡ length ns + 1 =
      length-insert (followed i f ns) i (placed before v) (subst (λ k. i ≤ k) (sym long) l) ∙ ap (λ k. k + 1) long in
      gap-ends (suc i) after f (inserted_at i (placed before v) (followed i f ns)) (inserted_at i q ps)
      (inserted-read (placed before v) q (redecorated-read _ v q own) i (followed i f ns) ps (followed-read i f ns ps r))
      (omega (arith, more))
      (λ m. let inside : i < length ns = omega (arith, more, m) in from-ends f ns (omega arith) (e inside))

  pub inserted-is-read : (f : ArrayFields) (ns ps : List Node) (v q : Node) (i : ℕ) → AreParsedAs mode ns ps → IsParsedAs mode v q
      → i ≤ length ns → (i < length ns → ends_as_parsed mode f ns ≡ true)
      → IsOwnParse mode (fields_inserted i v f ns) (line_inserted i v f ns) (inserted_at i q ps)
  inserted-is-read f ns ps v q i =
      inserted-between (owned (gaps_around i (node_decor v) f ns).0) (owned (gaps_around i (node_decor v) f ns).1) f ns ps v q i

  removed-around : (w : Raw) (f : ArrayFields) (ns ps : List Node) (i : ℕ) → AreParsedAs mode ns ps → i < length ns
      → (suc i < length ns → ends_as_parsed mode f ns ≡ true)
      → let left = with_gap i w f (removed_at i ns) in
      IsOwnParse mode (comma_kept left (fields_with_gap i w f (removed_at i ns))) left (removed_at i ps)
  removed-around w f ns ps i r l e =
      let fewer : length (removed_at i ns) + 1 ≡ length ns = length-remove ns i l in
      let left : List Node = with_gap i w f (removed_at i ns) in
      let long : length left ≡ length (removed_at i ns) = length-with_gap i w f (removed_at i ns) in
      let read = removed-read i ns ps r in
      elim (cases_Bool (nat_lt 1 (length ns))) [
        | inl others ↦
            let more : 1 < length ns = ltb-true _ _ others in
            subst (λ g. IsOwnParse mode g left (removed_at i ps))
            (others-keep (fields_with_gap i w f (removed_at i ns)) left (omega (arith, fewer, long)))
            (gap-ends i w f (removed_at i ns) (removed_at i ps) read (omega (arith, fewer))
            (λ m. from-ends f ns (omega arith) (e (omega (arith, fewer, m)))))
        | inr alone ↦
            let one : length ns ≤ 1 = ltb-false _ _ alone in
            gap-alone i w f (removed_at i ns) (removed_at i ps) read (omega (arith, fewer, one))
      ]

  pub removed-is-read : (f : ArrayFields) (ns ps : List Node) (i : ℕ) → AreParsedAs mode ns ps → i < length ns
      → (suc i < length ns → ends_as_parsed mode f ns ≡ true)
      → IsOwnParse mode (fields_removed i f ns) (line_removed i f ns) (removed_at i ps)
  removed-is-read f ns ps i = removed-around (owned (gap_left i f ns)) f ns ps i

  -- ---- no other array is read as it is

  no-tail : (t : Text) → owned t ≡ owned [] → is_empty t ≡ true
  no-tail [] e = refl
  no-tail (c ∷ t) e = cc

  only-closed : (f : ArrayFields) (a : Around) (v : Value) (es : Elements) (xs : Items)
      → IsValueNode (owned_in mode) (close_array f.comma (shown_raw mode f.trailing) (element a v es)) 0 [] []
      (list (record {
        decor = texts_around [] [];
        comma = f.comma;
        trailing = owned (shown_raw mode f.trailing);
        extent = None;
      }) xs) → follows_as_parsed f ≡ true
  only-closed f a v es xs =
      elim (cases_Bool f.comma) [
        | inl comma ↦ λ h. rw comma refl
        | inr none ↦ rw none (λ h. no-tail (shown_raw mode f.trailing) (ap (λ g. g.trailing) h.0))
      ]

  pub only-read : (f : ArrayFields) (ns ps : List Node) → AreParsedAs mode ns ps
      → IsParsedAs mode (list f (items_from ns)) (array_as_printed mode f ns ps) → ends_as_parsed mode f ns ≡ true
  only-read f [] [] r h = ap not (ap (λ g. g.comma) h.1.0)
  only-read f [] (p ∷ ps) r h = absurd r
  only-read f (n ∷ ns) [] r h = absurd r
  only-read f (n ∷ ns) (p ∷ ps) r h =
      only-closed f _ _ _ (items_from (values_as_printed mode true (n ∷ ns) (p ∷ ps)))
      (subst (λ es. IsValueNode (owned_in mode) (close_array f.comma (shown_raw mode f.trailing) es) 0 [] []
      (undecorated (array_as_printed mode f (n ∷ ns) (p ∷ ps))))
      (element-of n (items_from ns) true r.0.0) h.1)
