-- Adding at the end of a path, key by key: what holds of a part of a tree holds of the whole.
use Rattle.std.proofs.Common.{◌≡◌, ℕ, ◌+◌, Bool, true, false, List, [], ◌∷◌, length, refl, sym, ap, ◌∙◌, subst, arith, Option, Some, None}
use Rattle.std.proofs.Common.{option_map}
use Rattle.std.specs.Prelude.{if◌then◌else◌, not, ◌&&◌, option_and_then, Result, Ok, Err}
use Rattle.toml_edit_model.specs.Mode.{Mode}
use Rattle.toml_edit_model.specs.Roles.{Role, ends_path, extends}
use Rattle.toml_edit_model.specs.Text.{Text}
use Rattle.toml_edit_model.specs.OwnedForm.{cut_out}
use Rattle.toml_edit_model.specs.Spelling.{SpellsKey}
use Rattle.toml_edit_model.specs.Syntax.{Segment, path_text}
use Rattle.toml_edit_model.specs.Faults.{duplicate_key}
use Rattle.toml_edit_model.specs.Paths.{Mention, Source, next_start}
use Rattle.toml_edit_model.specs.Tree.{Decor, owned, unset, Key, Extent, TableFields, Node, nothing, leaf, list, inline, table, tables, Items}
use Rattle.toml_edit_model.specs.Tree.{no_items, item, Slots, no_slots, is_value_node}
use Rattle.toml_edit_model.specs.TreeOf.{spanned_in, key_at, key_extent, made_by_path, header_fields, statement_leaf, brackets_from}
use Rattle.toml_edit_model.specs.TreeOf.{brackets_to}
use Rattle.toml_edit_laws.specs.FlatTree.{with_slot}
use Rattle.toml_edit_laws.specs.InlineTree.{add_last, node_at, with_node}
use Rattle.toml_edit_laws.specs.TableTree.{change_table, change_last}
use Rattle.toml_edit_laws.specs.TableClash.{clash_in_last, table_clash, element_clash, table_way_message, table_way_fault}
use Rattle.toml_edit_laws.specs.AddPath.{Addition, a_value, a_table, an_element, path_clash, makes_dotted, inside, clash_inside, last_item}
use Rattle.toml_edit_laws.specs.AddPath.{with_last, last_key_clash, AreMentionsOf, IsMentionOf}
use Rattle.toml_edit_laws.specs.InPlace.{add_in_place, put_in_place, replace_slot}
use Rattle.toml_edit_laws.specs.Standing.{Stands}
use Rattle.toml_edit_laws.proofs.common.Tests.{if-true}
use Rattle.toml_edit_laws.proofs.building.OneKey.{nothing-new, there-clash, last-changed, last-met, last-clash}
use Rattle.toml_edit_laws.proofs.building.PlacePaths.{last-in-place, new-in-place, there-in-place}
use Rattle.toml_edit_error.specs.Report.{Report, fault_of}
use Rattle.toml_edit_error.specs.Fault.{IfToml}
use Rattle.toml_edit_error.specs.declared.toml_error.ParseFault.{ParseFault}
use Rattle.toml_edit_syntax.specs.declared.event.Event.{Event}
use Rattle.toml_edit_syntax.specs.declared.event.Span.{Span}
use Rattle.toml_edit_parser.specs.declared.key.PathKey.{PathKey}
use Rattle.toml_edit_parser.specs.declared.key.KeyPath.{KeyPath}
use Rattle.toml_edit_parser.specs.PathRead.{IsFirstKey, IsKeyBefore, IsPathFrom, segment_key}
use Rattle.toml_edit_parser.specs.PairRead.{AddsLast, IsEndOfPath, PathView, key_with, leaf_of, path_of, split_dot}
use Rattle.toml_edit_parser.specs.ValueRead.{span_at, spanned_raw, split_first}
use Rattle.toml_edit_tree.specs.Containers.{TableView, TablesView, table_node, tables_node}
use Rattle.toml_edit_parser.specs.declared.document.path.Kind.{Kind}
use Rattle.toml_edit_parser.specs.declared.document.path.Kind.TheVariants as kinds
use Rattle.toml_edit_parser.specs.TableRead.{addition_for, is_line, opened, with_element, AddsBelow, AddsInPassed, AddsInside, AddsPath}
use Rattle.toml_edit_parser.specs.TableRead.{Goes, IsHeaded, IsItemFor, IsKeyOf, IsPathOf, PutsLast}
use Rattle.toml_edit_parser.proofs.ReadLaws.{mapped}
use Rattle.toml_edit_parser.proofs.EntryLaws.{end_of, path_rest}
use Rattle.toml_edit_parser.proofs.KeyPathLaws.{Told, last-read, name-refused, passed-read}

-- what stands in the way: a mention, and the item there
abbrev pub Way : Type 0
Way = Option (Mention Source × Node)

-- ---- faults

-- the same at other values
pub goes-same : {A X : Type 0} (t : Text) (r : Result A ParseFault) (want want' : Option X) (way way' : Way) (new new' : X)
    → want ≡ want' → way ≡ way' → new ≡ new' → Goes t want' way' new' r → Goes t want way new r
goes-same t r want want' way way' new new' e f g h = rw (e, f, g) h

-- a change of the whole, by a change of a part
pub goes-on : {A X Y : Type 0} (t : Text) (r : Result A ParseFault) (h : X → Y) (want : Option X) (way : Way) (new : X)
    → Goes t want way new r
    → Goes t (option_map h want) way (h new) r
goes-on t (Ok x) h want way new g = ap (option_map h) g
goes-on t (Err e) h want way new g = g

-- where nothing stands in the way, whatever might
pub goes-free : {A X : Type 0} (t : Text) (r : Result A ParseFault) (want : Option X) (way : Way) (new : X) → Goes t want None new r
    → Goes t want way new r
goes-free t (Ok x) want way new g = g
goes-free t (Err e) want way new g = mapped e _ _ (λ r none. absurd (let h = none.1 in cc)) g

-- the report of a key in whose way an item stands
abbrev pub message_at : Text → Span → Text → Report
message_at message at t = record { message = message; span = Some (at.start, at.end); input = t }

pub way-named : (mode : Mode) (t message : Text) (at : Span) (s : Source) (passes : Bool) (m : Mention Source) (n : Node) (k : Key)
    (r : Report) → IsKeyOf mode s passes m k at
    → message ≡ table_way_message m.role n → r ≡ message_at message at t → (r.input ≡ t)
    × (Some (table_way_fault (m, n)) ≡ Some (fault_of r))
way-named mode t message at s passes m n k r is said e = (
  ap (λ (x : Report). x.input) e,
  ap Some (sym (ap fault_of e ∙ ap (λ (x : Span). fault_of (message_at message x t)) is.spelled
      ∙ ap (λ (x : Text). fault_of (message_at x (span_at m.start m.segment.spelled) t)) said)),
)

-- a key that ends its path stands twice, whatever the item
pub last-message : (role : Role) (n : Node) → extends role ≡ false → table_way_message role n ≡ duplicate_key
last-message role nothing e = refl
last-message role (leaf s x d) e = rw e refl
last-message role (list f xs) e = rw e refl
last-message role (inline f ss) e = rw e refl
last-message role (table f ss) e = refl
last-message role (tables x xs) e = refl

-- ---- a path

-- the first mention of a path, and the path after it, if there is one
abbrev pub IsStep : Mode → Text → Source → List (Mention Source) → PathKey → Type 0
IsStep mode t s [] r = ⊥
IsStep mode t s (m ∷ []) r = IsKeyOf mode s false m r.key r.span × (r.rest ≡ None)
IsStep mode t s (m ∷ n ∷ ms) r = IsKeyOf mode s true m r.key r.span
    × ((path : KeyPath) × (r.rest ≡ Some path) × IsPathOf mode t s (n ∷ ms) path)

abbrev own_leaf : Mode → Source → Decor
own_leaf mode s = statement_leaf (spanned_in mode) s s.statement

pub key_last : (own : Decor) (start : ℕ) (g : Segment) (k : Key) (rest : Option KeyPath) → IsKeyBefore own start g [] k rest
    → (k ≡ segment_key own start g) × (rest ≡ None)
key_last own start g k None h = (h, refl)
key_last own start g k (Some path) h = absurd h

pub key_passed : (own : Decor) (start : ℕ) (g h : Segment) (p : List Segment) (k : Key) (rest : Option KeyPath)
    → IsKeyBefore own start g (h ∷ p) k rest
    → (k ≡ segment_key unset start g) × ((path : KeyPath) × (rest ≡ Some path) × IsPathFrom own (next_start start g) (h ∷ p) path)
key_passed own start g h p k None is = absurd is
key_passed own start g h p k (Some path) is = (is.0, (path, refl, is.1))

no_mentions : (s : Source) (start : ℕ) (g : Segment) (p : List Segment) → AreMentionsOf s start (g ∷ p) [] → ⊥
no_mentions s start g [] h = h
no_mentions s start g (h ∷ p) is = is

last_key_is : (mode : Mode) (s : Source) (start : ℕ) (g : Segment) (m : Mention Source) → IsMentionOf s start g m → ends_path m.role ≡ true
    → segment_key (own_leaf mode s) start g ≡ key_at (spanned_in mode) m
last_key_is mode s start g m is ends = rw (is.0, is.1, is.2, ends) refl

passed_key_is : (mode : Mode) (s : Source) (start : ℕ) (g : Segment) (m : Mention Source) → IsMentionOf s start g m → ends_path m.role
    ≡ false
    → segment_key unset start g ≡ key_at (spanned_in mode) m
passed_key_is mode s start g m is ends = rw (is.1, is.2, ends) refl

spelled_at : (s : Source) (start : ℕ) (g : Segment) (m : Mention Source) (at : Span) → IsMentionOf s start g m
    → at ≡ span_at (start + length g.before) g.spelled → at ≡ span_at m.start m.segment.spelled
spelled_at s start g m at is e = rw (is.1, is.2) e

step_parts : (mode : Mode) (t : Text) (s : Source) (start : ℕ) (p : List Segment) (ms : List (Mention Source)) (r : PathKey) → IsEndOfPath p
    → Stands t start (path_text p)
    → AreMentionsOf s start p ms → IsFirstKey (own_leaf mode s) start p r → IsStep mode t s ms r
step_parts mode t s start [] ms r ends stands are is = absurd is
step_parts mode t s start (g ∷ []) [] r ends stands are is = absurd (no_mentions s start g [] are)
step_parts mode t s start (g ∷ []) (m ∷ []) r ends stands are is =
    let k = key_last (own_leaf mode s) start g r.key r.rest is.1 in (
      record {
        key = k.0 ∙ last_key_is mode s start g m are.0 are.1;
        source = are.0.0;
        role = are.2;
        spelled =
            spelled_at s start g m r.span are.0 is.0;
      },
      k.1,
    )
step_parts mode t s start (g ∷ []) (m ∷ n ∷ ms) r ends stands are is = absurd are
step_parts mode t s start (g ∷ h ∷ p) [] r ends stands are is = absurd (no_mentions s start g (h ∷ p) are)
step_parts mode t s start (g ∷ h ∷ p) (m ∷ []) r ends stands are is = absurd (no_mentions s (next_start start g) h p are.3)
step_parts mode t s start (g ∷ h ∷ p) (m ∷ n ∷ ms) r ends stands are is =
    let k = key_passed (own_leaf mode s) start g h p r.key r.rest is.1 in (
      record {
        key = k.0 ∙ passed_key_is mode s start g m are.0 are.1;
        source = are.0.0;
        role = are.2;
        spelled =
            spelled_at s start g m r.span are.0 is.0;
      },
      (
        k.1.0,
        k.1.1,
        record {
          start = next_start start g;
          segments = h ∷ p;
          ends = end_of g h p ends;
          stands = path_rest t start g h p stands;
          mentions = are.3;
          read = k.1.2;
        },
      ),
    )

-- what is read of a path is its first mention
pub step-of : (mode : Mode) (t : Text) (s : Source) (ms : List (Mention Source)) (path : KeyPath) (r : PathKey)
    → ((own : Decor) (p : List Segment) (start : ℕ) → IsEndOfPath p → Stands t start (path_text p) → IsPathFrom own start p path
    → IsFirstKey own start p r)
    → IsPathOf mode t s ms path → IsStep mode t s ms r
step-of mode t s ms path r told f =
    step_parts mode t s f.start f.segments ms r f.ends f.stands f.mentions
    (told (own_leaf mode s) f.segments f.start f.ends f.stands f.read)

-- the name of the first key can't be refused
pub name-step : (mode : Mode) (t : Text) (e : ParseFault) (s : Source) (ms : List (Mention Source)) (path : KeyPath) (first : Event)
    (rest : List Event)
    → Some (first, rest) ≡ split_first path.events.now
    → ((k : Text) → SpellsKey k (cut_out t first.span.start first.span.end) → IfToml e (λ r. ⊥)) → IsPathOf mode t s ms path
    → IfToml e (λ r. ⊥)
name-step mode t e s ms path first rest split told f =
    name-refused t (own_leaf mode s) f.segments f.start path first rest e
    (record { are = f.ends; stands = f.stands; at = f.read; split = split }) told

-- a first key without a dot after it
pub last-step : (mode : Mode) (t : Text) (s : Source) (ms : List (Mention Source)) (path : KeyPath) (first : Event) (rest : List Event)
    (name : Text) (k : Key)
    → Some (first, rest) ≡ split_first path.events.now → Told t first.span name
    → ◌≡◌ {A = Option (Span × PathView)} None (split_dot path rest)
    → k ≡ key_with name first.span (leaf_of path) (spanned_raw path.before) (owned [])
    → IsPathOf mode t s ms path → IsStep mode t s ms (record { key = k; span = first.span; rest = None })
last-step mode t s ms path first rest name k split told none is f =
    step-of mode t s ms path (record { key = k; span = first.span; rest = None })
    (λ own p start are stands at. last-read t own p start path first rest name k
    (record { are = are; stands = stands; at = at; split = split }) told none is) f

-- a first key that the path passes through
pub passed-step : (mode : Mode) (t : Text) (s : Source) (ms : List (Mention Source)) (path : KeyPath) (first : Event) (rest : List Event)
    (name : Text) (k : Key) (after : Span) (inside : KeyPath)
    → Some (first, rest) ≡ split_first path.events.now → Told t first.span name
    → ◌≡◌ {A = Option (Span × PathView)} (Some (after, path_of inside)) (split_dot path rest)
    → k ≡ key_with name first.span unset (spanned_raw path.before) (spanned_raw after)
    → IsPathOf mode t s ms path → IsStep mode t s ms (record { key = k; span = first.span; rest = Some inside })
passed-step mode t s ms path first rest name k after inside split told dot is f =
    step-of mode t s ms path (record { key = k; span = first.span; rest = Some inside })
    (λ own p start are stands at. passed-read t own p start path first rest name k after inside
    (record { are = are; stands = stands; at = at; split = split }) told dot is) f

-- after the last event there is no dot
pub no-dot : (path : KeyPath) (rest : List Event) → length rest ≡ 0
    → ◌≡◌ {A = Option (Span × PathView)} None (split_dot path rest)
no-dot path [] none = refl
no-dot path (e ∷ rest) none = absurd (omega (arith, none))

-- ---- one key

-- the last key
pub last-here : (mode : Mode) {A : Type 0} (t : Text) (r : Result A ParseFault) (s : Source) (ms : List (Mention Source)) (k : PathKey)
    (a : Addition) (ss new : Slots)
    → IsStep mode t s ms k → k.rest ≡ None
    → ((m : Mention Source) → IsKeyOf mode s false m k.key k.span
    → Goes t (put_in_place mode a m ss (node_at m.segment.key ss)) (last_key_clash a m (node_at m.segment.key ss)) new r)
    → Goes t (add_in_place mode a ms ss) (path_clash a ms ss) new r
last-here mode t r s [] k a ss new is none f = absurd is
last-here mode t r s (m ∷ []) k a ss new is none f =
    goes-same t r _ _ _ _ new new (last-in-place mode a m ss) (last-clash a m ss) refl (f m is.0)
last-here mode t r s (m ∷ n ∷ ms) k a ss new is none f = absurd (let e = sym none ∙ is.1.1 in cc)

pub same_path : (p q : KeyPath) → ◌≡◌ {A = Option KeyPath} (Some p) (Some q) → p ≡ q
same_path p q e = cc

-- a key before the last that is new
pub new-here : (mode : Mode) {A : Type 0} (t : Text) (r : Result A ParseFault) (s : Source) (ms : List (Mention Source)) (k : PathKey)
    (path : KeyPath) (a : Addition) (ss new : Slots)
    → IsStep mode t s ms k → k.rest ≡ Some path → node_at k.key.name ss ≡ None
    → ((q : List (Mention Source)) → IsPathOf mode t s q path
    → Goes t (option_map (λ inner. with_slot ss k.key (table
    (made_by_path (spanned_in mode) (makes_dotted a) (Some (k.span.start, k.span.end))) inner)) (add_in_place mode a q no_slots)) None
    new r)
    → Goes t (add_in_place mode a ms ss) (path_clash a ms ss) new r
new-here mode t r s [] k path a ss new is some free f = absurd is
new-here mode t r s (m ∷ []) k path a ss new is some free f = absurd (let e = sym some ∙ is.1 in cc)
new-here mode t r s (m ∷ n ∷ ms) k path a ss new is some free f =
    let same = same_path path is.1.0 (sym some ∙ is.1.1) in
    let inner = add_in_place mode a (n ∷ ms) no_slots in
    let there = ap (λ (x : Key). x.name) is.0.key in
    goes-same t r _ _ _ _ new new
    (new-in-place mode a m n ms ss (ap (λ (x : Text). node_at x ss) (sym there) ∙ free)
    ∙ ap (λ (x : Key). option_map (λ us. with_slot ss x
    (table (made_by_path (spanned_in mode) (makes_dotted a) (key_extent (spanned_in mode) m)) us)) inner) (sym is.0.key)
    ∙ ap (λ (x : Span). option_map (λ us. with_slot ss k.key
    (table (made_by_path (spanned_in mode) (makes_dotted a) (Some (x.start, x.end))) us)) inner) (sym is.0.spelled))
    refl refl
    (goes-free t r _ (path_clash a (m ∷ n ∷ ms) ss) new (f (n ∷ ms) (subst (IsPathOf mode t s (n ∷ ms)) (sym same) is.1.2)))

-- a key before the last that is there
pub there-here : (mode : Mode) {A : Type 0} (t : Text) (r : Result A ParseFault) (s : Source) (ms : List (Mention Source)) (k : PathKey)
    (path : KeyPath) (a : Addition) (old changed : Node)
    (ss new : Slots) → IsStep mode t s ms k → k.rest ≡ Some path → node_at k.key.name ss ≡ Some old → new ≡ with_node k.key.name changed ss
    → ((m : Mention Source) (q : List (Mention Source)) → IsKeyOf mode s true m k.key k.span → IsPathOf mode t s q path
    → Goes t (inside a (add_in_place mode a q) old) (clash_inside a m (path_clash a q) old) changed r)
    → Goes t (add_in_place mode a ms ss) (path_clash a ms ss) new r
there-here mode t r s [] k path a old changed ss new is some there put f = absurd is
there-here mode t r s (m ∷ []) k path a old changed ss new is some there put f = absurd (let e = sym some ∙ is.1 in cc)
there-here mode t r s (m ∷ n ∷ ms) k path a old changed ss new is some there put f =
    let same = same_path path is.1.0 (sym some ∙ is.1.1) in
    let named = ap (λ (x : Key). x.name) is.0.key in
    let here = ap (λ (x : Text). node_at x ss) (sym named) ∙ there in
    goes-same t r _ _ _ _ new _ (there-in-place mode a m n ms ss old here) (there-clash a m n ms ss old here) (put
    ∙ ap (λ (x : Text). with_node x changed ss) named)
    (goes-on t r (λ (x : Node). with_node m.segment.key x ss) (inside a (add_in_place mode a (n ∷ ms)) old)
    (clash_inside a m (path_clash a (n ∷ ms)) old) changed
    (f m (n ∷ ms) is.0 (subst (IsPathOf mode t s (n ∷ ms)) (sym same) is.1.2)))

-- below a new key nothing stands in the way
pub nothing-below : (a : Addition) (ms : List (Mention Source)) → path_clash a ms no_slots ≡ None
nothing-below (a_value n) [] = refl
nothing-below a_table [] = refl
nothing-below an_element [] = refl
nothing-below a (m ∷ rest) = nothing-new a m rest

-- ---- what stands in the way

-- the item at a key is named
pub stopped : (mode : Mode) (t message : Text) (e : ParseFault) (s : Source) (passes : Bool) (m : Mention Source) (n : Node) (k : Key)
    (at : Span) (way : Way)
    → way ≡ Some (m, n) → IsKeyOf mode s passes m k at → message ≡ table_way_message m.role n → IfToml e (λ r. r ≡ message_at message at t)
    → IfToml e (λ r. (r.input ≡ t) × (option_map table_way_fault way ≡ Some (fault_of r)))
stopped mode t message e s passes m n k at way is key said h =
    mapped e _ _ (λ r same. let f = way-named mode t message at s passes m n k r key said same in
    (f.0, ap (option_map table_way_fault) is ∙ f.1)) h

-- a value stops a path, and so does a placeholder
pub value-stops : (a : Addition) (m : Mention Source) (further : Slots → Way) (n : Node) → is_value_node n ≡ true
    → clash_inside a m further n ≡ Some (m, n)
value-stops (a_value x) m further nothing h = refl
value-stops a_table m further nothing h = refl
value-stops an_element m further nothing h = refl
value-stops (a_value x) m further (leaf s sp d) h = refl
value-stops a_table m further (leaf s sp d) h = refl
value-stops an_element m further (leaf s sp d) h = refl
value-stops (a_value x) m further (list f xs) h = refl
value-stops a_table m further (list f xs) h = refl
value-stops an_element m further (list f xs) h = refl
value-stops (a_value x) m further (inline f ss) h = refl
value-stops a_table m further (inline f ss) h = refl
value-stops an_element m further (inline f ss) h = refl
value-stops a m further (table f ss) h = absurd cc
value-stops a m further (tables e xs) h = absurd cc

pub nothing-stops : (a : Addition) (m : Mention Source) (further : Slots → Way) → clash_inside a m further nothing ≡ Some (m, nothing)
nothing-stops (a_value x) m further = refl
nothing-stops a_table m further = refl
nothing-stops an_element m further = refl

-- ---- the last key

put_again : (mode : Mode) (t : Text) (e : ParseFault) (s : Source) (m : Mention Source) (k : Key) (at : Span) (ss : Slots)
    → IsKeyOf mode s false m k at
    → IfToml e (λ r. (x : Node) × (node_at k.name ss ≡ Some x) × (r ≡ message_at duplicate_key at t))
    → IfToml e (λ r. (r.input ≡ t) × (option_map table_way_fault (option_map (λ x. (m, x)) (node_at m.segment.key ss)) ≡ Some (fault_of r)))
put_again mode t e s m k at ss is h =
    mapped e _ _ (λ r same.
    let f = way-named mode t duplicate_key at s false m same.0 k r is (sym (last-message m.role same.0 is.role)) same.2 in
    let there = ap (λ (x : Key). node_at x.name ss) (sym is.key) ∙ same.1 in
    (f.0, ap (λ (o : Option Node). option_map table_way_fault (option_map (λ (x : Node). (m, x)) o)) there ∙ f.1)) h

-- the item of a key line
pub line-put : (mode : Mode) {A : Type 0} (t : Text) (r : Result A ParseFault) (s : Source) (m : Mention Source) (k : Key) (at : Span)
    (n : Node) (ss new : Slots)
    → IsKeyOf mode s false m k at → AddsLast t at k n ss new r → PutsLast mode t (a_value n) m ss new r
line-put mode t (Ok x) s m k at n ss new is h = subst (λ (y : Key). add_last ss y n (node_at y.name ss) ≡ Some new) is.key h
line-put mode t (Err e) s m k at n ss new is h = put_again mode t e s m k at ss is h

-- what is put there for one kind is put there for this one
pub kind-put : (mode : Mode) {A : Type 0} (t : Text) (r : Result A ParseFault) (kind other : Kind) (n : Node) (m : Mention Source)
    (ss new : Slots) → kind ≡ other
    → PutsLast mode t (addition_for other n) m ss new r → PutsLast mode t (addition_for kind n) m ss new r
kind-put mode t r kind other n m ss new is h = subst (λ (x : Kind). PutsLast mode t (addition_for x n) m ss new r) (sym is) h

item-there : (mode : Mode) (s : Source) (passes : Bool) (m : Mention Source) (k : Key) (at : Span) (ss : Slots) (o : Option Node)
    → IsKeyOf mode s passes m k at → node_at k.name ss ≡ o
    → node_at m.segment.key ss ≡ o
item-there mode s passes m k at ss o is h = ap (λ (x : Key). node_at x.name ss) (sym is.key) ∙ h

-- the table of a header at a new key
pub table-new : (mode : Mode) (s : Source) (m : Mention Source) (k : Key) (at : Span) (n : Node) (ss new : Slots)
    → IsKeyOf mode s false m k at → IsHeaded mode s n
    → node_at k.name ss ≡ None → new ≡ with_slot ss k n → put_in_place mode a_table m ss (node_at m.segment.key ss) ≡ Some new
table-new mode s m k at n ss new is head free put =
    ap (put_in_place mode a_table m ss) (item-there mode s false m k at ss None is free)
    ∙ ap (λ (x : Source). Some (with_slot ss (key_at (spanned_in mode) m) (table (header_fields (spanned_in mode) x x.statement) no_slots)))
    is.source
    ∙ ap (λ (x : Node). Some (with_slot ss (key_at (spanned_in mode) m) x)) (sym head)
    ∙ ap (λ (x : Key). Some (with_slot ss x n)) (sym is.key)
    ∙ ap (λ (x : Slots). Some x) (sym put)

open_step : (mode : Mode) (m : Mention Source) (old : Node) (ss : Slots)
    → put_in_place mode a_table m ss (Some old)
    ≡ option_map (λ x. replace_slot m.segment.key (key_at (spanned_in mode) m) x ss)
    (opened (header_fields (spanned_in mode) m.source m.source.statement) old)
open_step mode m nothing ss = refl
open_step mode m (leaf s x d) ss = refl
open_step mode m (list f xs) ss = refl
open_step mode m (inline f us) ss = refl
open_step mode m (tables e xs) ss = refl
open_step mode m (table f inner) ss = by_test (f.is_implicit && not f.is_dotted)
  where
    by_test : (b : Bool)
        → (if b then Some (replace_slot m.segment.key (key_at (spanned_in mode) m)
        (table (header_fields (spanned_in mode) m.source m.source.statement) inner) ss) else None)
        ≡ option_map (λ x. replace_slot m.segment.key (key_at (spanned_in mode) m) x ss) (if b
        then Some (table (header_fields (spanned_in mode) m.source m.source.statement) inner) else None)
    by_test true = refl
    by_test false = refl

-- and at a key that is there
pub table-there : (mode : Mode) {A : Type 0} (t : Text) (r : Result A ParseFault) (s : Source) (m : Mention Source) (k : Key) (at : Span)
    (old : Node) (ss new : Slots)
    → IsKeyOf mode s false m k at → node_at k.name ss ≡ Some old
    → Goes t (option_map (λ x. replace_slot k.name k x ss) (opened (header_fields (spanned_in mode) s s.statement) old))
    (table_clash m (Some old)) new r
    → PutsLast mode t a_table m ss new r
table-there mode t r s m k at old ss new is here g =
    let o = item-there mode s false m k at ss (Some old) is here in
    goes-same t r _ _ _ _ new new
    (ap (put_in_place mode a_table m ss) o ∙ open_step mode m old ss
    ∙ ap (λ (x : Source). option_map (λ y. replace_slot m.segment.key (key_at (spanned_in mode) m) y ss)
    (opened (header_fields (spanned_in mode) x x.statement) old)) is.source
    ∙ ap (λ (x : Key). option_map (λ y. replace_slot x.name x y ss) (opened (header_fields (spanned_in mode) s s.statement) old))
    (sym is.key))
    (ap (table_clash m) o) refl g

-- the array of tables of a header in double brackets at a new key
pub element-new : (mode : Mode) (s : Source) (m : Mention Source) (k : Key) (at brackets : Span) (n : Node) (ss new : Slots)
    → IsKeyOf mode s false m k at
    → IsItemFor mode (kinds.Element brackets) s n → node_at k.name ss ≡ None
    → new ≡ with_slot ss k (tables (Some (brackets.start, brackets.end)) (item n no_items))
    → put_in_place mode an_element m ss (node_at m.segment.key ss) ≡ Some new
element-new mode s m k at brackets n ss new is head free put =
    ap (put_in_place mode an_element m ss) (item-there mode s false m k at ss None is free)
    ∙ ap (λ (x : Source). Some (with_slot ss (key_at (spanned_in mode) m)
    (tables (Some (brackets_from (spanned_in mode) x x.statement, brackets_to (spanned_in mode) x x.statement))
    (item (table (header_fields (spanned_in mode) x x.statement) no_slots) no_items)))) is.source
    ∙ ap (λ (x : Span). Some (with_slot ss (key_at (spanned_in mode) m)
    (tables (Some (x.start, x.end)) (item (table (header_fields (spanned_in mode) s s.statement) no_slots) no_items)))) (sym head.1)
    ∙ ap (λ (x : Node). Some (with_slot ss (key_at (spanned_in mode) m) (tables (Some (brackets.start, brackets.end)) (item x no_items))))
    (sym head.0)
    ∙ ap (λ (x : Key). Some (with_slot ss x (tables (Some (brackets.start, brackets.end)) (item n no_items)))) (sym is.key)
    ∙ ap (λ (x : Slots). Some x) (sym put)

element_step : (mode : Mode) (m : Mention Source) (old : Node) (ss : Slots)
    → put_in_place mode an_element m ss (Some old)
    ≡ option_map (λ x. with_node m.segment.key x ss)
    (with_element (brackets_to (spanned_in mode) m.source m.source.statement)
    (table (header_fields (spanned_in mode) m.source m.source.statement) no_slots) old)
element_step mode m nothing ss = refl
element_step mode m (leaf s x d) ss = refl
element_step mode m (list f xs) ss = refl
element_step mode m (inline f us) ss = refl
element_step mode m (table f us) ss = refl
element_step mode m (tables e xs) ss = refl

-- and at a key that is there
pub element-there : (mode : Mode) {A : Type 0} (t : Text) (r : Result A ParseFault) (s : Source) (m : Mention Source) (k : Key)
    (at brackets : Span) (n old changed : Node) (ss new : Slots)
    → IsKeyOf mode s false m k at → IsItemFor mode (kinds.Element brackets) s n → node_at k.name ss ≡ Some old → new
    ≡ with_node k.name changed ss
    → Goes t (with_element brackets.end n old) (element_clash m (Some old)) changed r → PutsLast mode t an_element m ss new r
element-there mode t r s m k at brackets n old changed ss new is head here put g =
    let o = item-there mode s false m k at ss (Some old) is here in
    goes-same t r _ _ _ _ new _
    (ap (put_in_place mode an_element m ss) o ∙ element_step mode m old ss
    ∙ ap (λ (x : Source). option_map (λ (y : Node). with_node m.segment.key y ss)
    (with_element (brackets_to (spanned_in mode) x x.statement) (table (header_fields (spanned_in mode) x x.statement) no_slots) old))
    is.source
    ∙ ap (λ (x : Span). option_map (λ (y : Node). with_node m.segment.key y ss)
    (with_element x.end (table (header_fields (spanned_in mode) s s.statement) no_slots) old)) (sym head.1)
    ∙ ap (λ (x : Node). option_map (λ (y : Node). with_node m.segment.key y ss) (with_element brackets.end x old)) (sym head.0))
    (ap (element_clash m) o)
    (put ∙ ap (λ (x : Key). with_node x.name changed ss) is.key)
    (goes-on t r (λ (x : Node). with_node m.segment.key x ss) (with_element brackets.end n old) (element_clash m (Some old)) changed g)

-- ---- below a key

dotted-kind : (kind : Kind) (n : Node) → makes_dotted (addition_for kind n) ≡ is_line kind
dotted-kind kinds.Line n = refl
dotted-kind kinds.Table n = refl
dotted-kind (kinds.Element brackets) n = refl

map_twice : (h : Node → Slots) (f : TableFields) (o : Option Slots) → option_map (λ us. h (table f us)) o
    ≡ option_map h (option_map (table f) o)
map_twice h f None = refl
map_twice h f (Some us) = refl

-- the table of a new key
pub below-put : (mode : Mode) {A : Type 0} (t : Text) (r : Result A ParseFault) (kind : Kind) (n : Node) (ms : List (Mention Source))
    (k : Key) (at : Span) (ss new : Slots) (x : Node)
    → AddsInPassed mode t (addition_for kind n) ms (made_by_path (spanned_in mode) (is_line kind) (Some (at.start, at.end))) x r → new
    ≡ with_slot ss k x
    → AddsBelow mode t (addition_for kind n) k at ms ss new r
below-put mode t r kind n ms k at ss new x added put =
    let o = add_in_place mode (addition_for kind n) ms no_slots in
    let f = made_by_path (spanned_in mode) (is_line kind) (Some (at.start, at.end)) in
    goes-same t r _ _ None None new _
    (ap (λ (d : Bool). option_map (λ us. with_slot ss k (table (made_by_path (spanned_in mode) d (Some (at.start, at.end))) us)) o)
    (dotted-kind kind n) ∙ map_twice (with_slot ss k) f o)
    refl put (goes-on t r (with_slot ss k) (option_map (table f) o) None x added)

-- in the table of a new key, as yet without slots
pub in-passed : (mode : Mode) {A : Type 0} (t : Text) (r : Result A ParseFault) (a : Addition) (ms : List (Mention Source))
    (held : TableView) (f : TableFields) (new : Node)
    → table_node held ≡ table f no_slots → Goes t (change_table (add_in_place mode a ms) (table_node held)) (path_clash a ms held.slots) new
    r → AddsInPassed mode t a ms f new r
in-passed mode t r a ms held f new is h =
    let none : held.slots ≡ no_slots = cc in
    goes-same t r _ _ _ _ new new (ap (change_table (add_in_place mode a ms)) (sym is)) (sym (ap (path_clash a ms) none
    ∙ nothing-below a ms)) refl h

-- in the slots of a table
pub in-slots : (mode : Mode) {A : Type 0} (t : Text) (r : Result A ParseFault) (a : Addition) (ms : List (Mention Source))
    (held left : TableView) (old new : Slots) → old ≡ held.slots
    → left ≡ record { fields = held.fields; slots = new } → AddsPath mode t a ms old new r
    → Goes t (change_table (add_in_place mode a ms) (table_node held)) (path_clash a ms held.slots) (table_node left) r
in-slots mode t r a ms held left old new was is h =
    rw (is, ← was) (goes-on t r (table held.fields) (add_in_place mode a ms old) (path_clash a ms old) new h)

-- in a table: a header goes on in any
pub header-in : (mode : Mode) {A : Type 0} (t : Text) (r : Result A ParseFault) (kind : Kind) (n : Node) (m : Mention Source)
    (ms : List (Mention Source)) (held left : TableView) (old new : Slots)
    → is_line kind ≡ false → old ≡ held.slots → left ≡ record { fields = held.fields; slots = new }
    → AddsPath mode t (addition_for kind n) ms old new r
    → AddsInside mode t (addition_for kind n) m ms (table_node held) (table_node left) r
header-in mode t r kinds.Line n m ms held left old new line was is h = absurd cc
header-in mode t r kinds.Table n m ms held left old new line was is h =
    rw (is, ← was) (goes-on t r (table held.fields) (add_in_place mode a_table ms old) (path_clash a_table ms old) new h)
header-in mode t r (kinds.Element brackets) n m ms held left old new line was is h =
    rw (is, ← was) (goes-on t r (table held.fields) (add_in_place mode an_element ms old) (path_clash an_element ms old) new h)

-- and a key line in one without a header, which is dotted from then on
pub line-in : (mode : Mode) {A : Type 0} (t : Text) (r : Result A ParseFault) (kind : Kind) (n : Node) (m : Mention Source)
    (ms : List (Mention Source)) (held dotted left : TableView) (old new : Slots)
    → is_line kind ≡ true → held.fields.is_implicit ≡ true → dotted
    ≡ record { fields = record held.fields { is_dotted = true }; slots = held.slots } → old ≡ dotted.slots
    → left ≡ record { fields = dotted.fields; slots = new } → AddsPath mode t (addition_for kind n) ms old new r
    → AddsInside mode t (addition_for kind n) m ms (table_node held) (table_node left) r
line-in mode t r kinds.Line n m ms held dotted left old new line implicit made was is h =
    let f : TableFields = record held.fields { is_dotted = true } in
    let left_is : table_node left ≡ table f new = ap table_node is ∙ ap (λ (v : TableView). table v.fields new) made in
    let old_is : old ≡ held.slots = was ∙ ap (λ (v : TableView). v.slots) made in
    goes-same t r _ _ _ _ (table_node left) (table f new)
    (if-true held.fields.is_implicit (option_map (table f) (add_in_place mode (a_value n) ms held.slots)) None implicit
    ∙ ap (λ (us : Slots). option_map (table f) (add_in_place mode (a_value n) ms us)) (sym old_is))
    (if-true held.fields.is_implicit (path_clash (a_value n) ms held.slots) (Some (m, table_node held)) implicit
    ∙ ap (path_clash (a_value n) ms) (sym old_is))
    left_is
    (goes-on t r (table f) (add_in_place mode (a_value n) ms old) (path_clash (a_value n) ms old) new h)
line-in mode t r kinds.Table n m ms held dotted left old new line implicit made was is h = absurd cc
line-in mode t r (kinds.Element brackets) n m ms held dotted left old new line implicit made was is h = absurd cc

-- a table with a header stops a key line
pub header-stops : (kind : Kind) (n : Node) (m : Mention Source) (further : Slots → Way) (held : TableView) → is_line kind ≡ true
    → held.fields.is_implicit ≡ false
    → clash_inside (addition_for kind n) m further (table_node held) ≡ Some (m, table_node held)
header-stops kinds.Line n m further held line explicit = rw explicit refl
header-stops kinds.Table n m further held line explicit = absurd cc
header-stops (kinds.Element brackets) n m further held line explicit = absurd cc

-- so does an array of tables
pub tables-stop : (kind : Kind) (n : Node) (m : Mention Source) (further : Slots → Way) (held : TablesView) → is_line kind ≡ true
    → clash_inside (addition_for kind n) m further (tables_node held) ≡ Some (m, tables_node held)
tables-stop kinds.Line n m further held line = refl
tables-stop kinds.Table n m further held line = absurd cc
tables-stop (kinds.Element brackets) n m further held line = absurd cc

-- one without elements stops a header
pub empty-stops : (kind : Kind) (n : Node) (m : Mention Source) (further : Slots → Way) (held : TablesView) → is_line kind ≡ false
    → held.items ≡ no_items
    → clash_inside (addition_for kind n) m further (tables_node held) ≡ Some (m, tables_node held)
empty-stops kinds.Line n m further held line none = absurd cc
empty-stops kinds.Table n m further held line none = ap (clash_in_last (m, tables_node held) further) none
empty-stops (kinds.Element brackets) n m further held line none = ap (clash_in_last (m, tables_node held) further) none

-- in the last element of one
last-in : (mode : Mode) {A : Type 0} (t : Text) (r : Result A ParseFault) (a : Addition) (m : Mention Source) (ms : List (Mention Source))
    (e : Extent) (xs ys : Items) (last changed : Node)
    → last_item xs ≡ Some last → ys ≡ with_last changed xs
    → Goes t (change_table (add_in_place mode a ms) last) (clash_in_last (m, tables e xs) (path_clash a ms) (item last no_items)) changed r
    → Goes t (option_map (tables e) (change_last (add_in_place mode a ms) xs)) (clash_in_last (m, tables e xs) (path_clash a ms) xs)
    (tables e ys) r
last-in mode t r a m ms e xs ys last changed is put h =
    let change = add_in_place mode a ms in
    let way = clash_in_last (m, tables e xs) (path_clash a ms) (item last no_items) in
    goes-same t r _ _ _ _ (tables e ys) _
    (ap (option_map (tables e)) (last-changed change xs
    ∙ ap (option_and_then (λ (x : Node). option_map (λ (new : Node). with_last new xs) (change_table change x))) is))
    (last-met (m, tables e xs) (path_clash a ms) xs last is) (ap (tables e) put)
    (goes-on t r (tables e) (option_map (λ (new : Node). with_last new xs) (change_table change last)) way (with_last changed xs)
    (goes-on t r (λ (new : Node). with_last new xs) (change_table change last) way changed h))

pub tables-in : (mode : Mode) {A : Type 0} (t : Text) (r : Result A ParseFault) (kind : Kind) (n : Node) (m : Mention Source)
    (ms : List (Mention Source)) (held left : TablesView) (last changed : Node)
    → is_line kind ≡ false → last_item held.items ≡ Some last → left ≡ record { extent = held.extent; items = with_last changed held.items }
    → Goes t (change_table (add_in_place mode (addition_for kind n) ms) last) (clash_in_last (
      m,
      tables_node held,
    ) (path_clash (addition_for kind n) ms) (item last no_items)) changed r
    → AddsInside mode t (addition_for kind n) m ms (tables_node held) (tables_node left) r
tables-in mode t r kinds.Line n m ms held left last changed line is put h = absurd cc
tables-in mode t r kinds.Table n m ms held left last changed line is put h =
    rw put (last-in mode t r a_table m ms held.extent held.items (with_last changed held.items) last changed is refl h)
tables-in mode t r (kinds.Element brackets) n m ms held left last changed line is put h =
    rw put (last-in mode t r an_element m ms held.extent held.items (with_last changed held.items) last changed is refl h)
