-- The spellings of a tree with spans are spans, and cut what spells.
use Rattle.std.proofs.Common.{refl, sym, subst, ℕ, suc, ◌+◌, inl, inr, true, false, List, [], ◌∷◌, length, Option, Some, None, option_map}
use Rattle.toml_edit_model.specs.Mode.{Mode, with_return}
use Rattle.toml_edit_model.specs.Text.{Text}
use Rattle.toml_edit_model.specs.Scalars.{Date, Time, Offset, Scalar, string, integer, float, boolean, datetime}
use Rattle.toml_edit_model.specs.Spelling.{Sign, plus, minus, unsigned, hexadecimal, octal, binary, Digits, IsDecimal, SpellsKey}
use Rattle.toml_edit_model.specs.Spelling.{SpellsInteger, IsFloat, SpellsParts, Spells, SpellsInRange}
use Rattle.toml_edit_model.specs.Syntax.{Value, scalar, array, inline_table, Elements, no_elements, element, value_text, Statement}
use Rattle.toml_edit_model.specs.Syntax.{key_line, header}
use Rattle.toml_edit_model.specs.Paths.{at_key, at_element, Mention, Source}
use Rattle.toml_edit_model.specs.Tree.{Raw, owned, span, Key, Node, nothing, leaf, list, inline, table, tables, Items, no_items, item}
use Rattle.toml_edit_model.specs.Tree.{Slots, no_slots, slot, HasTrueSpelling, IsWellMade, ItemsAreWellMade, SlotsAreWellMade}
use Rattle.toml_edit_model.specs.TreeOf.{spanned_in, span_of, Entry, entries, value_start, IsValueNode, AreElementNodes, AreEntrySlots}
use Rattle.toml_edit_model.specs.TreeOf.{IsLineNode, IsNodeOf, AreElementsOf, AreSlotsOf}
use Rattle.toml_edit_laws.specs.ReadTrees.{IsCutAs, HasCutSpellings, ItemsHaveCutSpellings, HaveCutSpellings}
use Rattle.toml_edit_laws.proofs.inline_tables.SlotsOfEntries.{IsMadeByKey, slot-key, slot-node, slot-rest, either-way}
use Rattle.toml_edit_laws.proofs.values.ValueKinds.{not-value}
use Rattle.toml_edit_model.specs.TableMentions.{under, kept, array_headers}
use Rattle.toml_edit_model.specs.Roles.{ends_path}
use Rattle.toml_edit_model.specs.OwnedForm.{OptionFits, NodeFits, ItemsFit, SlotsFit, owned_raw, owned_node, owned_items, owned_slots}

-- ---- no spelling is empty

decimal-some : (s : Sign) (ds : Digits) → IsDecimal s ds [] → ⊥
decimal-some s [] h = elim h.0 [ ]
decimal-some plus (d ∷ ds) h = let e = h.2 in cc
decimal-some minus (d ∷ ds) h = let e = h.2 in cc
decimal-some unsigned ((true, n) ∷ ds) h = let e = h.2 in cc
decimal-some unsigned ((false, n) ∷ ds) h = let e = h.2 in cc

integer-some : (z : _) → SpellsInteger z [] → ⊥
integer-some z (inl (s, ds, h, e)) = decimal-some s ds h
integer-some z (inr (hexadecimal, ds, h, e, g)) = cc
integer-some z (inr (octal, ds, h, e, g)) = cc
integer-some z (inr (binary, ds, h, e, g)) = cc

float-some : IsFloat [] → ⊥
float-some (inl (s, ds, [], rest, h, g, e)) = decimal-some s ds h
float-some (inl (s, ds, c ∷ whole, rest, h, g, e)) = cc
float-some (inr (plus, inl e)) = cc
float-some (inr (plus, inr e)) = cc
float-some (inr (minus, inl e)) = cc
float-some (inr (minus, inr e)) = cc
float-some (inr (unsigned, inl e)) = cc
float-some (inr (unsigned, inr e)) = cc

parts-some : (d : Option Date) (t : Option Time) (o : Option Offset) → SpellsParts d t o [] → ⊥
parts-some (Some d) None None h = let e = h.3 in cc
parts-some None (Some t) None h = let e = h.4 in cc
parts-some (Some d) (Some t) o ([], second, third, mark, h, g, i, k, e) = cc
parts-some (Some d) (Some t) o (c ∷ first, second, third, mark, h, g, i, k, e) = cc
parts-some (Some d) None (Some o) h = elim h [ ]
parts-some None None o h = elim h [ ]
parts-some None (Some t) (Some o) h = elim h [ ]

string-some : (v : Text) → Spells (string v) [] → ⊥
string-some v (inl (inl h)) = let e = h.3 in cc
string-some v (inl (inr h)) = let e = h.1 in cc
string-some v (inr (inl h)) = let e = h.6 in cc
string-some v (inr (inr h)) = let e = h.6 in cc

pub scalar-some : (s : Scalar) → Spells s [] → ⊥
scalar-some (string v) h = string-some v h
scalar-some (integer z) h = integer-some z h
scalar-some (float x) h = float-some h.0
scalar-some (boolean true) h = cc
scalar-some (boolean false) h = cc
scalar-some (datetime d) h = parts-some d.date d.time d.offset h

pub key-some : (k : Text) → SpellsKey k [] → ⊥
key-some k (inl h) = let e = h.0.1 in cc
key-some k (inr (inl h)) = let e = h.3 in cc
key-some k (inr (inr h)) = let e = h.1 in cc

-- ---- each spelling is a span, or empty

abbrev pub IsSpanned : Option Raw → Type 0
IsSpanned (Some (span i j)) = Unit {0}
IsSpanned (Some (owned [])) = Unit {0}
IsSpanned (Some (owned (c ∷ t))) = ⊥
IsSpanned None = ⊥

is-spanned : (i : ℕ) (t : Text) → IsSpanned (Some (span_of i t))
is-spanned i [] = tt
is-spanned i (c ∷ t) = tt

abbrev mutual
  pub HasSpans : Node → Type 0
  HasSpans (leaf s spelling d) = IsSpanned spelling
  HasSpans (list f xs) = ItemsHaveSpans xs
  HasSpans (tables e xs) = ItemsHaveSpans xs
  HasSpans (inline f ss) = HaveSpans ss
  HasSpans (table f ss) = HaveSpans ss
  HasSpans nothing = Unit {0}

  pub ItemsHaveSpans : Items → Type 0
  ItemsHaveSpans no_items = Unit {0}
  ItemsHaveSpans (item n xs) = HasSpans n × ItemsHaveSpans xs

  pub HaveSpans : Slots → Type 0
  HaveSpans no_slots = Unit {0}
  HaveSpans (slot k n ss) = IsSpanned k.spelling × HasSpans n × HaveSpans ss

module _ (mode : Mode) where
  mutual
    value-spans : (n : Node) (v : Value) (i : ℕ) (before after : Text) → IsValueNode (spanned_in mode) v i before after n → HasSpans n
    value-spans (leaf s r d) (scalar x t) i before after is = subst IsSpanned (sym is.1) (is-spanned (i + length before) t)
    value-spans (list f xs) (array es comma t) i before after is = items-spans xs es (i + length before + 1) is.1
    value-spans (inline f ss) (inline_table ps comma t) i before after is =
        entry-spans ss (entries (spanned_in mode) ps (i + length before + 1)) (kept (entries (spanned_in mode) ps (i + length before + 1)))
        is.1
    value-spans (leaf s r d) (array es comma t) i before after is = elim is [ ]
    value-spans (leaf s r d) (inline_table ps comma t) i before after is = elim is [ ]
    value-spans (list f xs) (scalar t u) i before after is = elim is [ ]
    value-spans (list f xs) (inline_table ps comma t) i before after is = elim is [ ]
    value-spans (inline f ss) (scalar t u) i before after is = elim is [ ]
    value-spans (inline f ss) (array es comma t) i before after is = elim is [ ]
    value-spans (table f ss) v i before after is = absurd (not-value (spanned_in mode) (table f ss) v i before after refl is)
    value-spans (tables e xs) v i before after is = absurd (not-value (spanned_in mode) (tables e xs) v i before after refl is)
    value-spans nothing v i before after is = absurd (not-value (spanned_in mode) nothing v i before after refl is)

    items-spans : (xs : Items) (es : Elements) (i : ℕ) → AreElementNodes (spanned_in mode) es i xs → ItemsHaveSpans xs
    items-spans no_items no_elements i is = tt
    items-spans (item n xs) (element a v es) i is =
        (value-spans n v i a.before a.after is.0, items-spans xs es (i + length a.before + length (value_text v) + length a.after + 1) is.1)
    items-spans no_items (element a v es) i is = elim is [ ]
    items-spans (item n xs) no_elements i is = elim is [ ]

    made-spans : (n : Node) (m : Mention Entry) (ns : List (Mention Entry)) → IsMadeByKey (spanned_in mode) m ns n → HasSpans n
    made-spans (inline f ss) m ns is = entry-spans ss ns (kept ns) is.1
    made-spans (leaf s r x) m ns is = elim is [ ]
    made-spans (list f xs) m ns is = elim is [ ]
    made-spans (table f ss) m ns is = elim is [ ]
    made-spans (tables e xs) m ns is = elim is [ ]
    made-spans nothing m ns is = elim is [ ]

    entry-spans : (ss : Slots) (ms ks : List (Mention Entry)) → AreEntrySlots (spanned_in mode) ms ks ss → HaveSpans ss
    entry-spans no_slots ms [] is = tt
    entry-spans (slot key n ss) ms (k ∷ ks) is = (
      subst (λ (x : Key). IsSpanned x.spelling) (sym (slot-key (spanned_in mode) ms k ks key n ss is))
          (is-spanned k.start k.segment.spelled),
      either-way (ends_path k.role) _ _ _
          (λ x. value-spans n k.source.value k.source.start k.source.before k.source.after x)
          (λ x. made-spans n k (under (at_key k.segment.key) ms) x)
          (slot-node (spanned_in mode) ms k ks key n ss is),
      entry-spans ss ms ks (slot-rest (spanned_in mode) ms k ks key n ss is),
    )
    entry-spans no_slots ms (k ∷ ks) is = elim is [ ]
    entry-spans (slot key n ss) ms [] is = elim is [ ]

  line-spans : (s : Source) (st : Statement) (n : Node) → IsLineNode (spanned_in mode) s st n → HasSpans n
  line-spans s (key_line f v end) n is =
      value-spans n v (s.start + value_start (spanned_in mode) f) f.after_equals (with_return mode f.trailing end) is
  line-spans s (header g end) n is = absurd is

  mutual
    node-spans : (n : Node) (ns : List (Mention Source)) (m : Mention Source) → IsNodeOf (spanned_in mode) ns m n → HasSpans n
    node-spans (table f ss) ns m is = slots-spans ss ns (kept ns) is.2
    node-spans (tables e xs) ns m is = elements-spans xs ns 0 (array_headers ns) is.2
    node-spans (leaf s r d) ns m is = line-spans m.source m.source.statement (leaf s r d) is.1
    node-spans (list f xs) ns m is = line-spans m.source m.source.statement (list f xs) is.1
    node-spans (inline f ss) ns m is = line-spans m.source m.source.statement (inline f ss) is.1
    node-spans nothing ns m is = absurd is

    elements-spans : (xs : Items) (ns : List (Mention Source)) (i : ℕ) (more : List (Mention Source))
        → AreElementsOf (spanned_in mode) ns i more xs
        → ItemsHaveSpans xs
    elements-spans no_items ns i [] is = tt
    elements-spans (item (table f ss) xs) ns i (a ∷ more) is =
        (slots-spans ss (under (at_element i) ns) (kept (under (at_element i) ns)) is.1, elements-spans xs ns (suc i) more is.2)
    elements-spans no_items ns i (a ∷ more) is = absurd is
    elements-spans (item n xs) ns i [] is = absurd is
    elements-spans (item n xs) ns i (a ∷ more) is = absurd is

    pub slots-spans : (ss : Slots) (ms ks : List (Mention Source)) → AreSlotsOf (spanned_in mode) ms ks ss → HaveSpans ss
    slots-spans no_slots ms [] is = tt
    slots-spans (slot key n ss) ms (k ∷ ks) is = (
      subst (λ (x : Key). IsSpanned x.spelling) (sym is.0) (is-spanned k.start k.segment.spelled),
      node-spans n (under (at_key k.segment.key) ms) k is.1,
      slots-spans ss ms ks is.2,
    )
    slots-spans no_slots ms (k ∷ ks) is = absurd is
    slots-spans (slot key n ss) ms [] is = absurd is

-- ---- what they cut spells

cut-as : (text : Text) (Is : Text → Type 0) (r : Option Raw) → (Is [] → ⊥) → IsSpanned r → OptionFits text r
    → HasTrueSpelling Is (option_map (owned_raw text) r) → IsCutAs text Is r
cut-as text Is (Some (span i j)) some h fits is = (fits, is)
cut-as text Is (Some (owned [])) some h fits is = absurd (some is)
cut-as text Is (Some (owned (c ∷ t))) some h fits is = absurd h
cut-as text Is None some h fits is = absurd h

mutual
  node-cut : (text : Text) (n : Node) → HasSpans n → NodeFits text n → IsWellMade (owned_node text n) → HasCutSpellings text n
  node-cut text (leaf s r d) h fits is = cut-as text (SpellsInRange s) r (λ x. scalar-some s x.0) h fits.0 is.0
  node-cut text (list f xs) h fits is = items-cut text xs h fits.2 is
  node-cut text (tables e xs) h fits is = items-cut text xs h fits is
  node-cut text (inline f ss) h fits is = slots-cut text ss h fits.2 is
  node-cut text (table f ss) h fits is = slots-cut text ss h fits.1 is
  node-cut text nothing h fits is = tt

  items-cut : (text : Text) (xs : Items) → ItemsHaveSpans xs → ItemsFit text xs → ItemsAreWellMade (owned_items text xs)
      → ItemsHaveCutSpellings text xs
  items-cut text no_items h fits is = tt
  items-cut text (item n xs) h fits is = (node-cut text n h.0 fits.0 is.0, items-cut text xs h.1 fits.1 is.1)

  pub slots-cut : (text : Text) (ss : Slots) → HaveSpans ss → SlotsFit text ss → SlotsAreWellMade (owned_slots text ss)
      → HaveCutSpellings text ss
  slots-cut text no_slots h fits is = tt
  slots-cut text (slot k n ss) h fits is = (
    cut-as text (SpellsKey k.name) k.spelling (key-some k.name) h.0 fits.0.0 is.1,
    node-cut text n h.1 fits.1 is.2,
    slots-cut text ss h.2 fits.2 is.3,
  )
