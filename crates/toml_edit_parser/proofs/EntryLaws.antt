-- The descent along a path: what stands at its first key, and what is added there or further on.
use Rattle.std.proofs.Common.{◌≡◌, ℕ, suc, ◌+◌, ◌-◌, Bool, true, false, List, [], ◌∷◌, length, cond, refl, sym, ap, ◌∙◌, subst, arith}
use Rattle.std.proofs.Common.{Option, Some, None, is_some, option_map, slice_get}
use Rattle.std.specs.Prelude.{Result, Ok, Err, if◌then◌else◌}
use Rattle.toml_edit_model.specs.Text.{Text, is_empty}
use Rattle.toml_edit_model.specs.Spelling.{SpellsKey}
use Rattle.toml_edit_model.specs.Syntax.{Segment, segment_text, path_text}
use Rattle.toml_edit_model.specs.Paths.{Path, Mention, mention_of, line_mentions, next_start, to_key}
use Rattle.toml_edit_model.specs.Faults.{duplicate_key}
use Rattle.toml_edit_model.specs.Tree.{Raw, owned, Decor, unset, Key, InlineFields, Node, nothing, leaf, list, inline, table, tables, Slots}
use Rattle.toml_edit_model.specs.Tree.{no_slots}
use Rattle.toml_edit_model.specs.TreeOf.{Entry, spanned_form, span_of, key_of, key_extent}
use Rattle.toml_edit_laws.specs.FlatTree.{with_slot}
use Rattle.toml_edit_laws.specs.InlineTree.{node_at, with_node, path_fields, change_below, add_last, add_entry, clash_below, entry_clash}
use Rattle.toml_edit_laws.specs.InlineTree.{way_message, way_fault}
use Rattle.toml_edit_laws.specs.Standing.{Stands}
use Rattle.toml_edit_laws.proofs.common.StandingLaws.{stands-left, stands-right, cut_out-is}
use Rattle.toml_edit_laws.proofs.common.Tests.{if-true}
use Rattle.toml_edit_laws.proofs.values.ValueFaults.{is_empty-nil}
use Rattle.toml_edit_error.specs.Report.{Report, fault_of}
use Rattle.toml_edit_error.specs.Fault.{IfToml}
use Rattle.toml_edit_error.specs.declared.toml_error.ParseFault.{ParseFault}
use Rattle.toml_edit_slots.specs.declared.slots.Slot as repr
use Rattle.toml_edit_slots.specs.Slots.{is_at, items_of, place, with_item}
use Rattle.toml_edit_syntax.specs.declared.event.Event.{Event}
use Rattle.toml_edit_syntax.specs.declared.event.Span.{Span}
use Rattle.toml_edit_syntax.specs.declared.event.EventKind.TheVariants.{Key as key_kind, BeforeDot, AfterDot}
use Rattle.toml_edit_syntax.specs.ValueEvents.{event, path_events}
use Rattle.toml_edit_tree.specs.declared.item.Item.{Item}
use Rattle.toml_edit_parser.specs.declared.key.KeyPath.{KeyPath}
use Rattle.toml_edit_parser.specs.PairRead.{AddsEntry, AddsInside, AddsLast, IsEndOfPath, IsPassed, IsPathAt, NamesClash, AddsBelow}
use Rattle.toml_edit_parser.specs.PairRead.{PathView, change_inside, key_with, leaf_of, path_of, split_dot}
use Rattle.toml_edit_parser.specs.ValueRead.{span_at, spanned_raw, split_first}
use Rattle.toml_edit_tree.specs.View.{item_view, slots_view}
use Rattle.toml_edit_parser.proofs.ArrayLaws.{spanned_raw-is}
use Rattle.toml_edit_parser.proofs.ReadLaws.{mapped, same_parts}
use Rattle.toml_edit_parser.proofs.SpellingLaws.{spelled-some, span_of-some}
use Rattle.toml_edit_model.specs.Roles.{Role, dotted_role, value_role, ends_path}
use Rattle.toml_edit_model.specs.OwnedForm.{cut_out}
use Rattle.toml_edit_parser.proofs.SlotLaws.{node-none, node-some, with-place}

-- ---- slots at a place

found_step : (b : Bool) (n : Node) (o : Option Node) (i : Option ℕ) → is_some (cond b (Some 0) (option_map suc i)) ≡ true
    → (is_some i ≡ true → (m : Node) × (o ≡ Some m)) → (m : Node) × (cond b (Some n) o ≡ Some m)
found_step true n o i h f = (n, refl)
found_step false n o None h f = absurd cc
found_step false n o (Some j) h f = f refl

-- an item stands at a key that has a place
node-found : (k : Text) (es : List (repr.Slot Item)) → is_some (place k es) ≡ true → (m : Node) × (node_at k (slots_view es) ≡ Some m)
node-found k [] h = absurd cc
node-found k (e ∷ es) h = found_step (is_at k e) (item_view e.item) (node_at k (slots_view es)) (place k es) h (node-found k es)

none_of : (o : Option ℕ) → is_some o ≡ false → o ≡ None
none_of None h = refl
none_of (Some n) h = absurd cc

-- a key that stands there is named
pub last-refused : (source : Text) (at : Span) (k : Key) (n : Node) (es : List (repr.Slot Item)) (found : Option ℕ) (text : Text)
    (err : ParseFault)
    → found ≡ place text es → text ≡ k.name → true ≡ is_some found
    → IfToml err (λ r. r ≡ record { message = duplicate_key; span = Some (at.start, at.end); input = source })
    → IfToml err (λ r. (m : Node) × (node_at k.name (slots_view es) ≡ Some m)
    × (r ≡ record { message = duplicate_key; span = Some (at.start, at.end); input = source }))
last-refused source at k n es found text err is named there h =
    let o = node-found k.name es (sym (there ∙ ap is_some (is ∙ ap (λ t. place t es) named))) in
    mapped err _ _ (λ r same. (o.0, o.1, same)) h

-- a new key is put last
pub last-put : (k : Key) (n : Node) (es : List (repr.Slot Item)) (found : Option ℕ) (text : Text) (new : Slots) → found ≡ place text es
    → text ≡ k.name
    → false ≡ is_some found → new ≡ with_slot (slots_view es) k n → add_last (slots_view es) k n (node_at k.name (slots_view es)) ≡ Some new
last-put k n es found text new is named free put =
    ap (add_last (slots_view es) k n) (node-none k.name es
    (none_of (place k.name es) (sym (free ∙ ap is_some (is ∙ ap (λ t. place t es) named)))))
    ∙ ap Some (sym put)

-- ---- one step

some_changed : (b : Bool) (g : InlineFields) (name : Text) (ss : Slots) (o : Option Slots) (new : Node)
    → cond b (option_map (inline g) o) None ≡ Some new
    → cond b (option_map (λ changed. with_node name (inline g changed) ss) o) None ≡ Some (with_node name new ss)
some_changed true g name ss (Some changed) new e = ap (option_map (λ n. with_node name n ss)) e
some_changed true g name ss None new e = absurd cc
some_changed false g name ss o new e = absurd cc

-- a change inside the item at a key
pub below-some : (k : Key) (f : InlineFields) (change : Slots → Option Slots) (ss : Slots) (old new : Node) → change_inside change old
    ≡ Some new
    → change_below k f change ss (Some old) ≡ Some (with_node k.name new ss)
below-some k f change ss (inline g inner) new e = some_changed g.is_dotted g k.name ss (change inner) new e
below-some k f change ss nothing new e = absurd cc
below-some k f change ss (leaf s spelling d) new e = absurd cc
below-some k f change ss (list g xs) new e = absurd cc
below-some k f change ss (table g us) new e = absurd cc
below-some k f change ss (tables x xs) new e = absurd cc

entry_step : (m : Mention Entry) (ms : List (Mention Entry)) (n : Node) (ss : Slots) → is_empty ms ≡ false
    → add_entry spanned_form (m ∷ ms) n ss
    ≡ change_below (key_of spanned_form m.source.leaf m) (path_fields (key_extent spanned_form m)) (add_entry spanned_form ms n) ss
    (node_at m.segment.key ss)
entry_step m [] n ss some = absurd cc
entry_step m (r ∷ rest) n ss some = refl

clash_step : (m : Mention Entry) (ms : List (Mention Entry)) (ss : Slots) → is_empty ms ≡ false
    → entry_clash (m ∷ ms) ss ≡ clash_below m (entry_clash ms) (node_at m.segment.key ss)
clash_step m [] ss some = absurd cc
clash_step m (r ∷ rest) ss some = refl

-- nothing stands in the way where there are no slots
clash-empty : (ms : List (Mention Entry)) → entry_clash ms no_slots ≡ None
clash-empty [] = refl
clash-empty (m ∷ []) = refl
clash-empty (m ∷ r ∷ rest) = refl

mentions_some : (e : Entry) (start : ℕ) (above : Path) (s : Segment) (p : List Segment) → is_empty (line_mentions e start above (s ∷ p))
    ≡ false
mentions_some e start above s [] = refl
mentions_some e start above s (r ∷ rest) = refl

-- ---- keys

abbrev spelled_by : Segment → Raw → Decor → Raw → Raw → Key
spelled_by s spelling own before after =
    record { name = s.key; spelling = Some spelling; leaf = own; dotted = record { prefix = Some before; suffix = Some after } }

abbrev key_place : ℕ → Segment → ℕ
key_place start s = start + length s.before

back : (start n : ℕ) → start ≡ start + n - n
back start n = omega arith

-- a key that was read is that of its mention
key_is : (e : Entry) (start : ℕ) (above : Path) (role : Role) (s : Segment) (name : Text) (at : Span) (own : Decor) (before after : Raw)
    → (s.spelled ≡ [] → ⊥) → name ≡ s.key → at ≡ span_at (key_place start s) s.spelled → own ≡ (if ends_path role then e.leaf else unset)
    → before ≡ span_of start s.before → after ≡ span_of (key_place start s + length s.spelled) s.after
    → key_with name at own before after ≡ key_of spanned_form e.leaf (mention_of e start above role s)
key_is e start above role s name at own before after some named spelled owns left right =
    let place = key_place start s in
    let leaf_is = if ends_path role then e.leaf else unset in
    let after_is = span_of (place + length s.spelled) s.after in
    ap (λ t. key_with t at own before after) named
    ∙ ap (λ (x : Span). key_with s.key x own before after) spelled
    ∙ ap (λ r. spelled_by s r own before after) (sym (span_of-some place s.spelled some))
    ∙ ap (λ d. spelled_by s (span_of place s.spelled) d before after) owns
    ∙ ap (λ r. spelled_by s (span_of place s.spelled) leaf_is r after) (left ∙ ap (λ j. span_of j s.before) (back start (length s.before)))
    ∙ ap (λ r. spelled_by s (span_of place s.spelled) leaf_is (span_of (place - length s.before) s.before) r) right

-- ---- a path

-- the events after the first key
abbrev behind_key : ℕ → Segment → List Segment → List Event
behind_key start s [] = []
behind_key start s (r ∷ rest) =
    let dot = start + length (segment_text s) in
    event BeforeDot (key_place start s + length s.spelled) s.after ∷ event AfterDot (dot + 1) r.before ∷ path_events (dot + 1) (r ∷ rest)

path_from : (start : ℕ) (s : Segment) (rest : List Segment) → path_events start (s ∷ rest) ≡ event key_kind (key_place start s) s.spelled
    ∷ behind_key start s rest
path_from start s [] = refl
path_from start s (r ∷ rest) = refl

pub first_of : (start : ℕ) (s : Segment) (p : List Segment) (events : List Event) (first : Event) (rest : List Event) → events
    ≡ path_events start (s ∷ p)
    → Some (first, rest) ≡ split_first events → (first ≡ event key_kind (key_place start s) s.spelled) × (rest ≡ behind_key start s p)
first_of start s p events first rest e f = same_parts first _ rest _ (f ∙ ap split_first (e ∙ path_from start s p))

span_is : (start : ℕ) (s : Segment) (first : Event) → first ≡ event key_kind (key_place start s) s.spelled → first.span
    ≡ span_at (key_place start s) s.spelled
span_is start s first e = ap (λ (x : Event). x.span) e

-- a path has an event
pub some-key : (p : List Segment) (start : ℕ) (events : List Event) (P : Type 0) → IsEndOfPath p → events ≡ path_events start p → None
    ≡ split_first events → P
some-key [] start events P are e f = absurd (let g = are.some in cc)
some-key (s ∷ []) start events P are e f = absurd (let g = f ∙ ap split_first e in cc)
some-key (s ∷ r ∷ rest) start events P are e f = absurd (let g = f ∙ ap split_first e in cc)

path_head : (source : Text) (start : ℕ) (s : Segment) (rest : List Segment) → Stands source start (path_text (s ∷ rest))
    → Stands source (key_place start s) s.spelled
path_head source start s [] h =
    stands-left source (key_place start s) s.spelled s.after (stands-right source start s.before _ h)
path_head source start s (r ∷ rest) h =
    stands-left source (key_place start s) s.spelled s.after
    (stands-right source start s.before _ (stands-left source start (segment_text s) _ h))

-- what is after the first key of a path is in the text too
pub path_rest : (source : Text) (start : ℕ) (s r : Segment) (rest : List Segment) → Stands source start (path_text (s ∷ r ∷ rest))
    → Stands source (next_start start s) (path_text (r ∷ rest))
path_rest source start s r rest h =
    stands-right source (start + length (segment_text s)) (46 ∷ []) (path_text (r ∷ rest)) (stands-right source start (segment_text s) _ h)

-- the first key is spelled at the first span
pub key-spelled : (source : Text) (s : Segment) (p : List Segment) (start : ℕ) (first : Event) → IsEndOfPath (s ∷ p)
    → Stands source start (path_text (s ∷ p))
    → first ≡ event key_kind (key_place start s) s.spelled → SpellsKey s.key (cut_out source first.span.start first.span.end)
key-spelled source s p start first are stands e =
    subst (SpellsKey s.key)
    (sym (ap (λ (x : Event). cut_out source x.span.start x.span.end) e
    ∙ cut_out-is source (key_place start s) s.spelled (path_head source start s p stands)))
    are.spelled.0

-- and ends it
pub end_of : (s r : Segment) (rest : List Segment) → IsEndOfPath (s ∷ r ∷ rest) → IsEndOfPath (r ∷ rest)
end_of s r rest are = record { some = refl; ends = are.ends; spelled = are.spelled.1 }

-- ---- what was read of a path's first key

-- the name is that of the text at a span
abbrev Told : Text → Span → Text → Type 0
Told source at name = (k : Text) → SpellsKey k (cut_out source at.start at.end) → name ≡ k

pub record Facts (source : Text) (e : Entry) (p : List Segment) (start : ℕ) (path : KeyPath) (first : Event) (rest : List Event)
    (name : Text) : Type 0 where
  pub are : IsEndOfPath p
  pub stands : Stands source start (path_text p)
  pub at : IsPathAt e start p path
  pub split : Some (first, rest) ≡ split_first path.events.now
  pub told : Told source first.span name

-- ---- the last key

last_message : (m : Mention Entry) (n : Node) → m.role ≡ value_role → way_message m.role n ≡ duplicate_key
last_message m n e = subst (λ r. way_message r n ≡ duplicate_key) (sym e) (by_node n)
  where
    by_node : (n : Node) → way_message value_role n ≡ duplicate_key
    by_node nothing = refl
    by_node (leaf s spelling d) = refl
    by_node (list f xs) = refl
    by_node (inline f ss) = refl
    by_node (table f ss) = refl
    by_node (tables x xs) = refl

abbrev message_at : Text → ℕ → ℕ → Text → Report
message_at message i j source = record { message = message; span = Some (i, j); input = source }

last_clash : (source : Text) (e : Entry) (start : ℕ) (above : Path) (s : Segment) (at : Span) (k : Key) (old : Slots) (err : ParseFault)
    → at ≡ span_at (key_place start s) s.spelled → k ≡ key_of spanned_form e.leaf (mention_of e start (to_key above s.key) value_role s)
    → IfToml err (λ r. (m : Node) × (node_at k.name old ≡ Some m) × (r ≡ message_at duplicate_key at.start at.end source))
    → IfToml err (NamesClash source (entry_clash (mention_of e start (to_key above s.key) value_role s ∷ []) old))
last_clash source e start above s at k old err spelled same h =
    let m = mention_of e start (to_key above s.key) value_role s in
    mapped err _ _ (λ r is. (
      ap (λ x. x.input) is.2,
      (m, is.0),
      ap (option_map (λ n. (m, n))) (sym (ap (λ (x : Key). node_at x.name old) same) ∙ is.1),
      ap fault_of is.2 ∙ ap (λ (x : Span). fault_of (message_at duplicate_key x.start x.end source)) spelled
          ∙ ap (λ t. fault_of (message_at t (key_place start s) (key_place start s + length s.spelled) source))
          (sym (last_message m is.0 refl)),
    )) h

last_of : {A : Type 0} (source : Text) (e : Entry) (start : ℕ) (above : Path) (s : Segment) (at : Span) (k : Key) (n : Node)
    (old new : Slots) (result : Result A ParseFault)
    → at ≡ span_at (key_place start s) s.spelled → k ≡ key_of spanned_form e.leaf (mention_of e start (to_key above s.key) value_role s)
    → AddsLast source at k n old new result → AddsEntry source (mention_of e start (to_key above s.key) value_role s ∷ []) n old new result
last_of source e start above s at k n old new (Ok x) spelled same h =
    subst (λ (y : Key). add_last old y n (node_at y.name old) ≡ Some new) same h
last_of source e start above s at k n old new (Err err) spelled same h = last_clash source e start above s at k old err spelled same h

-- the last key of a path is added
pub last-added : {A : Type 0} (source : Text) (e : Entry) (p : List Segment) (start : ℕ) (above : Path) (path : KeyPath) (first : Event)
    (rest : List Event) (name : Text)
    (k : Key) (n : Node) (old new : Slots) (result : Result A ParseFault) → Facts source e p start path first rest name
    → None ≡ split_dot path rest → k ≡ key_with name first.span (leaf_of path) (spanned_raw path.before) (owned [])
    → AddsLast source first.span k n old new result → AddsEntry source (line_mentions e start above p) n old new result
last-added source e [] start above path first rest name k n old new result f none is h = absurd (let g = f.are.some in cc)
last-added source e (s ∷ []) start above path first rest name k n old new result f none is h =
    let parts = first_of start s [] path.events.now first rest f.at.2 f.split in
    let at = span_is start s first parts.0 in
    let spelled = spelled-some s.key s.spelled f.are.spelled.0 in
    let named = f.told s.key (key-spelled source s [] start first f.are f.stands parts.0) in
    let place = key_place start s + length s.spelled in
    last_of source e start above s first.span k n old new result at
    (is ∙ key_is e start (to_key above s.key) value_role s name first.span (leaf_of path) (spanned_raw path.before) (owned []) spelled named
    at f.at.0
    (ap spanned_raw f.at.1 ∙ spanned_raw-is start s.before) (sym (ap (span_of place) (is_empty-nil s.after f.are.ends)))) h
last-added source e (s ∷ r ∷ more) start above path first rest name k n old new result f none is h =
    let parts = first_of start s (r ∷ more) path.events.now first rest f.at.2 f.split in
    absurd (let g = none ∙ ap (split_dot path) parts.1 in cc)

-- ---- a key that goes on

-- the path after the dot
abbrev IsBehind : KeyPath → Span → KeyPath → List Event → Type 0
IsBehind path after inside rest = ◌≡◌ {A = Option (Span × PathView)} (Some (after, path_of inside)) (split_dot path rest)

pub same_dots : (a c : Span) (x y : PathView) → ◌≡◌ {A = Option (Span × PathView)} (Some (a, x)) (Some (c, y)) → (a ≡ c) × (x ≡ y)
same_dots a c x y e =
    let f : ◌≡◌ {A = Span × PathView} (a, x) (c, y) = cc in
    (ap (λ (p : Span × PathView). p.0) f, ap (λ (p : Span × PathView). p.1) f)

abbrev decor_in : PathView → Decor
decor_in p = record { prefix = Some (spanned_raw p.prefix); suffix = Some (spanned_raw p.suffix) }

-- the path after the dot is one of the same entry
path_behind : (e : Entry) (start : ℕ) (s r : Segment) (more : List Segment) (path : KeyPath) (after : Span) (inside : KeyPath)
    (rest : List Event)
    → leaf_of path ≡ e.leaf → rest ≡ behind_key start s (r ∷ more) → IsBehind path after inside rest
    → (after ≡ span_at (key_place start s + length s.spelled) s.after) × IsPathAt e (next_start start s) (r ∷ more) inside
path_behind e start s r more path after inside rest owns is dot =
    let dots = same_dots after _ (path_of inside) _ (dot ∙ ap (split_dot path) is) in
    (dots.0, (ap decor_in dots.1 ∙ owns, ap (λ (v : PathView). v.before) dots.1, ap (λ (v : PathView). v.events) dots.1))

-- what holds of the rest of a path holds of what is done there
abbrev pub ToldInside : {A : Type 0} → Text → Entry → Span → KeyPath → Node → Node → Node → Result A ParseFault → Type 0
ToldInside source e at inside n old new result =
    (m : Mention Entry) (p : List Segment) (start : ℕ) (above : Path) → IsPassed at m → IsEndOfPath p → Stands source start (path_text p)
    → IsPathAt e start p inside
    → AddsInside source m (line_mentions e start above p) n old new result

inside_of : {A : Type 0} (source : Text) (m : Mention Entry) (ms : List (Mention Entry)) (es : List (repr.Slot Item)) (at : ℕ) (x y : Item)
    (n : Node) (result : Result A ParseFault)
    → is_empty ms ≡ false → place m.segment.key es ≡ Some at → Some x ≡ slice_get (items_of es) at
    → AddsInside source m ms n (item_view x) (item_view y) result
    → AddsEntry source (m ∷ ms) n (slots_view es) (slots_view (with_item at y es)) result
inside_of source m ms es at x y n (Ok z) some here there h =
    let k = key_of spanned_form m.source.leaf m in
    let f = path_fields (key_extent spanned_form m) in
    entry_step m ms n (slots_view es) some
    ∙ ap (change_below k f (add_entry spanned_form ms n) (slots_view es)) (node-some m.segment.key es at x here there)
    ∙ below-some k f (add_entry spanned_form ms n) (slots_view es) (item_view x) (item_view y) h
    ∙ ap Some (sym (with-place m.segment.key es at y here))
inside_of source m ms es at x y n (Err err) some here there h =
    subst (λ c. IfToml err (NamesClash source c))
    (sym (clash_step m ms (slots_view es) some ∙ ap (clash_below m (entry_clash ms)) (node-some m.segment.key es at x here there))) h

-- it goes on in the item that is there
pub inside-added : {A : Type 0} (source : Text) (e : Entry) (p : List Segment) (start : ℕ) (above : Path) (path : KeyPath) (first : Event)
    (rest : List Event) (name : Text)
    (after : Span) (inside : KeyPath) (es : List (repr.Slot Item)) (at : ℕ) (x y : Item) (n : Node) (result : Result A ParseFault)
    → Facts source e p start path first rest name → IsBehind path after inside rest → Some at ≡ place name es → Some x
    ≡ slice_get (items_of es) at
    → ToldInside source e first.span inside n (item_view x) (item_view y) result
    → AddsEntry source (line_mentions e start above p) n (slots_view es) (slots_view (with_item at y es)) result
inside-added source e [] start above path first rest name after inside es at x y n result f dot here there told =
    absurd (let g = f.are.some in cc)
inside-added source e (s ∷ []) start above path first rest name after inside es at x y n result f dot here there told =
    let parts = first_of start s [] path.events.now first rest f.at.2 f.split in
    absurd (let g = dot ∙ ap (split_dot path) parts.1 in cc)
inside-added source e (s ∷ r ∷ more) start above path first rest name after inside es at x y n result f dot here there told =
    let parts = first_of start s (r ∷ more) path.events.now first rest f.at.2 f.split in
    let behind = path_behind e start s r more path after inside rest f.at.0 parts.1 dot in
    let named = f.told s.key (key-spelled source s (r ∷ more) start first f.are f.stands parts.0) in
    let m = mention_of e start (to_key above s.key) dotted_role s in
    inside_of source m (line_mentions e (next_start start s) (to_key above s.key) (r ∷ more)) es at x y n result
    (mentions_some e (next_start start s) (to_key above s.key) r more) (sym (here ∙ ap (λ t. place t es) named)) there
    (told m (r ∷ more) (next_start start s) (to_key above s.key) (refl, span_is start s first parts.0) (end_of s r more f.are)
    (path_rest source start s r more f.stands) behind.1)

-- what holds of the rest of a path holds of what is done below a new key
abbrev pub ToldBelow : {A : Type 0} → Text → Entry → Key → Span → KeyPath → Node → Slots → Slots → Result A ParseFault → Type 0
ToldBelow source e k at inside n old new result =
    (p : List Segment) (start : ℕ) (above : Path) → IsEndOfPath p → Stands source start (path_text p) → IsPathAt e start p inside
    → AddsBelow k at (line_mentions e start above p) n old new result

below_of : {A : Type 0} (source : Text) (m : Mention Entry) (ms : List (Mention Entry)) (es : List (repr.Slot Item)) (k : Key) (at : Span)
    (n : Node) (new : Slots)
    (result : Result A ParseFault) → is_empty ms ≡ false → place m.segment.key es ≡ None → k ≡ key_of spanned_form m.source.leaf m
    → at ≡ span_at m.start m.segment.spelled → AddsBelow k at ms n (slots_view es) new result
    → AddsEntry source (m ∷ ms) n (slots_view es) new result
below_of source m ms es k at n new (Ok z) some free same spelled h =
    let own = key_of spanned_form m.source.leaf m in
    let f = path_fields (key_extent spanned_form m) in
    let ss = slots_view es in
    let inner = add_entry spanned_form ms n no_slots in
    entry_step m ms n ss some
    ∙ ap (change_below own f (add_entry spanned_form ms n) ss) (node-none m.segment.key es free)
    ∙ ap (λ (x : Span). option_map (λ inside. with_slot ss own (inline (path_fields (Some (x.start, x.end))) inside)) inner) (sym spelled)
    ∙ ap (λ x. option_map (λ inside. with_slot ss x (inline (path_fields (Some (at.start, at.end))) inside)) inner) (sym same)
    ∙ h
below_of source m ms es k at n new (Err err) some free same spelled h = mapped err (λ r. ⊥) _ (λ r none. absurd none) h

-- it goes on below a new key
pub below-added : {A : Type 0} (source : Text) (e : Entry) (p : List Segment) (start : ℕ) (above : Path) (path : KeyPath) (first : Event)
    (rest : List Event) (name : Text)
    (after : Span) (inside : KeyPath) (es : List (repr.Slot Item)) (k : Key) (n : Node) (new : Slots) (result : Result A ParseFault)
    → Facts source e p start path first rest name → IsBehind path after inside rest → None ≡ place name es
    → k ≡ key_with name first.span unset (spanned_raw path.before) (spanned_raw after)
    → ToldBelow source e k first.span inside n (slots_view es) new result
    → AddsEntry source (line_mentions e start above p) n (slots_view es) new result
below-added source e [] start above path first rest name after inside es k n new result f dot free is told =
    absurd (let g = f.are.some in cc)
below-added source e (s ∷ []) start above path first rest name after inside es k n new result f dot free is told =
    let parts = first_of start s [] path.events.now first rest f.at.2 f.split in
    absurd (let g = dot ∙ ap (split_dot path) parts.1 in cc)
below-added source e (s ∷ r ∷ more) start above path first rest name after inside es k n new result f dot free is told =
    let parts = first_of start s (r ∷ more) path.events.now first rest f.at.2 f.split in
    let behind = path_behind e start s r more path after inside rest f.at.0 parts.1 dot in
    let spelled = spelled-some s.key s.spelled f.are.spelled.0 in
    let named = f.told s.key (key-spelled source s (r ∷ more) start first f.are f.stands parts.0) in
    let at = span_is start s first parts.0 in
    let here = key_place start s + length s.spelled in
    let m = mention_of e start (to_key above s.key) dotted_role s in
    below_of source m (line_mentions e (next_start start s) (to_key above s.key) (r ∷ more)) es k first.span n new result
    (mentions_some e (next_start start s) (to_key above s.key) r more) (sym (free ∙ ap (λ t. place t es) named))
    (is ∙ key_is e start (to_key above s.key) dotted_role s name first.span unset (spanned_raw path.before) (spanned_raw after) spelled
    named at refl
    (ap spanned_raw f.at.1 ∙ spanned_raw-is start s.before) (ap spanned_raw behind.0 ∙ spanned_raw-is here s.after))
    at
    (told (r ∷ more) (next_start start s) (to_key above s.key) (end_of s r more f.are) (path_rest source start s r more f.stands) behind.1)

-- in new slots nothing stands in the way
pub new-refused : (source : Text) (ms : List (Mention Entry)) (err : ParseFault) (P : Report → Type 0)
    → IfToml err (NamesClash source (entry_clash ms no_slots)) → IfToml err P
new-refused source ms err P h = mapped err _ _ (λ r is. absurd (let c = sym (clash-empty ms) ∙ is.2 in cc)) h

-- ---- the item at a key

passed_fault : (source : Text) (at : Span) (m : Mention Entry) (n : Node) (message : Text) (r : Report) → IsPassed at m → message
    ≡ way_message dotted_role n
    → r ≡ message_at message at.start at.end source → (r.input ≡ source) × (fault_of r ≡ way_fault (m, n))
passed_fault source at m n message r passed said is = (
  ap (λ x. x.input) is,
  ap fault_of is ∙ ap (λ (x : Span). fault_of (message_at message x.start x.end source)) passed.1
      ∙ ap (λ t. fault_of (message_at t m.start (m.start + length m.segment.spelled) source)) (said
      ∙ ap (λ x. way_message x n) (sym passed.0)),
)

-- an item that is no dotted inline table
abbrev pub Stops : Node → Type 0
Stops (inline f ss) = f.is_dotted ≡ false
Stops _ = Unit {0}

stop_below : (m : Mention Entry) (further : Slots → Option (Mention Entry × Node)) (n : Node) → Stops n → clash_below m further (Some n)
    ≡ Some (m, n)
stop_below m further nothing h = refl
stop_below m further (leaf s spelling d) h = refl
stop_below m further (list f xs) h = refl
stop_below m further (table f ss) h = refl
stop_below m further (tables x xs) h = refl
stop_below m further (inline f ss) h = rw h refl

-- such an item is named
pub stopped : (source : Text) (at : Span) (m : Mention Entry) (ms : List (Mention Entry)) (n : Node) (message : Text) (err : ParseFault)
    → IsPassed at m → Stops n
    → message ≡ way_message dotted_role n → IfToml err (λ r. r ≡ message_at message at.start at.end source)
    → IfToml err (NamesClash source (clash_below m (entry_clash ms) (Some n)))
stopped source at m ms n message err passed stops said h =
    mapped err _ _ (λ r is. let f = passed_fault source at m n message r passed said is in
    (f.0, (m, n), stop_below m (entry_clash ms) n stops, f.1)) h

went_some : (b : Bool) (f : InlineFields) (o : Option Slots) (new : Slots) → b ≡ true → o ≡ Some new → cond b (option_map (inline f) o) None
    ≡ Some (inline f new)
went_some true f o new e h = ap (option_map (inline f)) h
went_some false f o new e h = absurd cc

-- it goes on in the slots of a dotted inline table
pub went-on : {A : Type 0} (source : Text) (m : Mention Entry) (ms : List (Mention Entry)) (n : Node) (f : InlineFields) (old new : Slots)
    (result : Result A ParseFault)
    → f.is_dotted ≡ true → AddsEntry source ms n old new result → AddsInside source m ms n (inline f old) (inline f new) result
went-on source m ms n f old new (Ok x) dotted h = went_some f.is_dotted f (add_entry spanned_form ms n old) new dotted h
went-on source m ms n f old new (Err err) dotted h =
    subst (λ c. IfToml err (NamesClash source c)) (sym (if-true f.is_dotted (entry_clash ms old) (Some (m, inline f old)) dotted)) h
