-- What a statement does to the whole, by what it does to what is held.
use Rattle.std.proofs.Common.{◌≡◌, ℕ, ◌+◌, ◌-◌, ◌<◌, ◌≤◌, length-append, Bool, true, false, refl, sym, ap, subst, ◌∙◌, List, [], ◌∷◌, ◌++◌}
use Rattle.std.proofs.Common.{length, arith, Option, Some, None, Vec}
use Rattle.std.specs.declared.borrow.CowStr.{CowStr}
use Rattle.std.specs.declared.alloc.Global.{Global}
use Rattle.std.specs.Prelude.{map, option_map, option_and_then, Contains}
use Rattle.std.proofs.lemmas.List.Elements.{Contains-append_left, Contains-append_right, Contains-push}
use Rattle.toml_edit_model.specs.Faults.{Fault, own_faults}
use Rattle.toml_edit_model.specs.Mode.{Mode}
use Rattle.toml_edit_model.specs.Text.{Text}
use Rattle.toml_edit_model.specs.Syntax.{Frame, Value, Header, Statement, key_line, header, brackets_text}
use Rattle.toml_edit_model.specs.Syntax.{closing_brackets, frame_text, opening_brackets, path_text, statement_text, value_text}
use Rattle.toml_edit_model.specs.Paths.{Mention, Source, path_start}
use Rattle.toml_edit_model.specs.Tree.{Node, nothing, Slots}
use Rattle.toml_edit_model.specs.TreeOf.{spanned_in, frame_leaf, header_leaf, brackets_from, brackets_to}
use Rattle.toml_edit_laws.specs.TableTree.{add_line, add_header}
use Rattle.toml_edit_laws.specs.TableClash.{line_clash, header_clash, table_way_fault, table_way_faults}
use Rattle.toml_edit_laws.specs.Building.{slots_along, Builder, source_at, mentions_at, added, clash_at, faults_at, behind, IsStatementNode}
use Rattle.toml_edit_laws.specs.AddPath.{Addition, a_value, add_path, path_clash, put_along}
use Rattle.toml_edit_laws.specs.PlaceOrder.{slots_by_place, ArePlaced}
use Rattle.toml_edit_laws.specs.InPlace.{add_in_place, StandWithin, IsRealAddition}
use Rattle.toml_edit_laws.specs.Standing.{Stands}
use Rattle.toml_edit_laws.proofs.common.OptionSteps.{map_some, some-is}
use Rattle.toml_edit_laws.proofs.common.StandingLaws.{stands-left, stands-right}
use Rattle.toml_edit_laws.proofs.building.Along.{along_put, put_put}
use Rattle.toml_edit_laws.proofs.building.Descent.{along_lens}
use Rattle.toml_edit_laws.proofs.building.PlacePaths.{adds_in_order}
use Rattle.toml_edit_laws.proofs.building.PlaceKept.{later, stays_placed}
use Rattle.toml_edit_laws.proofs.building.PlaceBlocks.{along_in_order, along_placed, clashes_in_order, put_in_order, put_placed}
use Rattle.toml_edit_laws.proofs.building.PlaceStatements.{addition_real, statement_within}
use Rattle.toml_edit_laws.proofs.building.PathMentions.{line-mentions, header-mentions}
use Rattle.toml_edit_error.specs.Report.{fault_of}
use Rattle.toml_edit_error.specs.Fault.{IfToml}
use Rattle.toml_edit_error.specs.declared.toml_error.ParseFault.{ParseFault}
use Rattle.toml_edit_error.specs.declared.toml_error.ParseFault.TheVariants.{Toml, Memory}
use Rattle.toml_edit_syntax.specs.declared.event.Event.{Event}
use Rattle.toml_edit_syntax.specs.declared.event.Span.{Span}
use Rattle.toml_edit_tree.specs.View.{slots_view}
use Rattle.toml_edit_parser.specs.declared.key.KeyPath.{KeyPath}
use Rattle.toml_edit_parser.specs.declared.document.parts.HeaderSpans.{HeaderSpans}
use Rattle.toml_edit_parser.specs.PairRead.{IsEndOfPath}
use Rattle.toml_edit_parser.specs.PathRead.{IsPathFrom}
use Rattle.toml_edit_parser.specs.StatementParts.{IsHeaderRead, IsLineRead}
use Rattle.toml_edit_parser.specs.ValueRead.{NamesOne, span_at}
use Rattle.toml_edit_parser.specs.BlockRead.{Swaps, names}
use Rattle.toml_edit_parser.specs.TableRead.{addition_for, IsHeaded, IsItemFor, IsPathOf}
use Rattle.toml_edit_parser.specs.declared.document.building.Building.{Building}
use Rattle.toml_edit_parser.specs.declared.document.path.Kind.{Kind}
use Rattle.toml_edit_parser.specs.declared.document.statement.HeaderParts.{HeaderParts}
use Rattle.toml_edit_parser.specs.StatementRead.{AreHeaderParts, IsAdded, IsHeld, IsOpened, IsWhole, kind_of}
use Rattle.toml_edit_parser.proofs.SwapLaws.{whole-again, taken-out}
use Rattle.toml_edit_parser.proofs.PairLaws.{path-ends}

-- the slots of the whole, as they stand
abbrev pub whole_of : Builder → Building → Slots
whole_of b h = put_along b.block (slots_view h.current) (slots_view h.root)

module _ (mode : Mode) (b : Builder) (old : Building) (held : IsHeld b old) where
  -- ---- the slots of the block's table, in the whole and in order

  here : slots_along b.block (whole_of b old) ≡ Some (slots_view old.current)
  here = along_put b.block (slots_view old.current) (slots_view old.root) held.left held.there

  ordered-here : slots_along b.block b.slots ≡ Some (slots_by_place (slots_view old.current))
  ordered-here =
      ap (slots_along b.block) held.slots
      ∙ along_in_order b.block b.start (whole_of b old) held.placed
      ∙ ap (option_map slots_by_place) here

  current-placed : ArePlaced b.start (slots_view old.current)
  current-placed = along_placed b.block b.start (whole_of b old) (slots_view old.current) here held.placed

  put-there : (new : Slots) → put_along b.block (slots_by_place new) b.slots ≡ slots_by_place (put_along b.block new (slots_view old.root))
  put-there new =
      ap (put_along b.block (slots_by_place new)) held.slots
      ∙ put_in_order b.block b.start new (whole_of b old) held.placed
      ∙ ap slots_by_place (put_put b.block (slots_view old.current) new (slots_view old.root))

  -- ---- a key line is added to the slots of its table

  module _ (f : Frame) (v : Value) (end : Text) where
    abbrev ms : List (Mention Source)
    ms = mentions_at b (key_line f v end)

    abbrev behind_line : ℕ
    behind_line = b.start + length (statement_text (key_line f v end))

    pub line-clashes : option_map table_way_fault (clash_at b (key_line f v end))
        ≡ option_map table_way_fault (line_clash ms (slots_view old.current))
    line-clashes =
        ap (λ o. option_map table_way_fault (option_and_then (line_clash ms) o)) ordered-here
        ∙ clashes_in_order (a_value nothing) ms b.start (slots_view old.current) current-placed

    module _ (is : IsWhole (key_line f v end)) (n : Node) (node : IsStatementNode mode b.start (key_line f v end) n) where
      within : StandWithin mode b.start behind_line ms
      within = statement_within mode (λ x. Unit {0}) b (key_line f v end) is

      pub line-added : (new : Slots) → add_line mode ms n (slots_view old.current) ≡ Some new
          → added mode b (key_line f v end) n ≡ Some (slots_by_place (put_along b.block new (slots_view old.root)))
      line-added new e =
          along_lens b.block (add_line mode ms n) b.slots (slots_by_place (slots_view old.current)) ordered-here
          ∙ ap (option_map (λ us. put_along b.block us b.slots))
          (adds_in_order mode (a_value n) ms b.start behind_line (slots_view old.current)
          (addition_real mode b.start (key_line f v end) n node) within current-placed
          ∙ ap (option_map slots_by_place) e)
          ∙ ap (λ (us : Slots). Some us) (put-there new)

      pub line-held : (new : Building) → add_line mode ms n (slots_view old.current) ≡ Some (slots_view new.current) → new.block ≡ old.block
          → new.headers ≡ old.headers
          → slots_view new.root ≡ slots_view old.root
          → IsHeld (behind b (key_line f v end) (slots_by_place (put_along b.block (slots_view new.current) (slots_view old.root)))) new
      line-held new e block headers root =
          let on : b.start ≤ b.start + length (statement_text (key_line f v end)) = omega arith in
          let kept =
          stays_placed mode (a_value n) ms b.start behind_line (slots_view old.current) (slots_view new.current) on
          (addition_real mode b.start (key_line f v end) n node) within current-placed e in
          record {
            block = held.block ∙ sym (ap (λ (v : Vec (CowStr Global) Global). names v.items) block);
            headers = held.headers ∙ sym headers;
            counted = let low = held.counted in omega (arith, low);
            left = held.left;
            there = ap (slots_along b.block) root ∙ held.there;
            slots = ap (λ us. slots_by_place (put_along b.block (slots_view new.current) us)) (sym root);
            placed =
                subst (ArePlaced behind_line)
                (put_put b.block (slots_view old.current) (slots_view new.current) (slots_view old.root)
                ∙ ap (put_along b.block (slots_view new.current)) (sym root))
                (put_placed b.block behind_line (slots_view new.current) (whole_of b old) kept
                (later b.start behind_line (whole_of b old) on held.placed));
          }

  -- ---- a header is added to the whole, and the slots of its table are taken out

  -- with the slots of the last block put back, that is the whole
  pub put-back : (out new : Slots) → Swaps (slots_along b.block (slots_view old.root)) (slots_view old.current) (slots_view old.root)
      (put_along b.block (slots_view old.current) (slots_view old.root)) out new
      → new ≡ whole_of b old
  put-back out new s = whole-again b.block (slots_view old.current) (slots_view old.root) held.left out new held.there s

-- a header takes up bytes
pub some-text : (h : Header) (end : Text) → 0 < length (statement_text (header h end))
some-text h end =
    let whole = length-append h.leading (brackets_text h ++ (h.trailing ++ end)) in
    let inside = length-append (brackets_text h) (h.trailing ++ end) in
    let opened = length-append (opening_brackets h.is_array) (h.opening
    ++ (path_text h.path ++ (h.closing ++ closing_brackets h.is_array))) in
    let some = opens-some h.is_array in
    omega (arith, whole, inside, opened, some)
  where
    opens-some : (is_array : Bool) → 0 < length (opening_brackets is_array)
    opens-some true = omega arith
    opens-some false = omega arith

-- so fewer headers than bytes are before it
pub fewer-headers : (t : Text) (b : Builder) (h : Header) (end : Text) (old : Building) → IsHeld b old
    → Stands t b.start (statement_text (header h end)) → old.headers < length t
fewer-headers t b h end old held stands =
    let whole = ap (λ (x : Text). length x) stands.text ∙ length-append stands.before (statement_text (header h end) ++ stands.after) in
    let both = length-append (statement_text (header h end)) stands.after in
    let some = some-text h end in
    let same = held.headers in
    let low = held.counted in
    let place = stands.place in
    omega (arith, whole, both, some, same, low, place)

-- what is held once the slots of the header's table are taken out of the whole
pub header-held : (b : Builder) (h : Header) (end : Text) (whole empty : Slots) (new : Building)
    → ArePlaced (b.start + length (statement_text (header h end))) whole
    → (behind b (header h end) whole).block ≡ names new.block.items → (behind b (header h end) whole).headers ≡ new.headers
    → b.headers ≤ b.start
    → Swaps (slots_along (behind b (header h end) whole).block whole) empty whole
    (put_along (behind b (header h end) whole).block empty whole)
    (slots_view new.current) (slots_view new.root)
    → (inner : Slots) → slots_along (behind b (header h end) whole).block (slots_by_place whole) ≡ Some inner
    → IsHeld (behind b (header h end) (slots_by_place whole)) new
header-held b h end whole empty new placed block headers low s inner there =
    let ks = (behind b (header h end) whole).block in
    let after = b.start + length (statement_text (header h end)) in
    let (us, found, _) = map_some (slots_along ks whole) slots_by_place inner (sym (along_in_order ks after whole placed) ∙ there) in
    let (left, is) = taken-out ks empty whole us (slots_view new.current) (slots_view new.root) found s in
    record {
      block = block;
      headers = headers;
      counted = let some = some-text h end in omega (arith, low, some);
      left = empty;
      there =
          left;
      slots = ap slots_by_place is;
      placed = subst (ArePlaced after) is placed;
    }

-- ---- faults

-- one of its own
pub own-named : (t : Text) (own more : List Fault) (e : ParseFault) → IfToml e (NamesOne t own) → IfToml e (NamesOne t (own ++ more))
own-named t own more (Toml r) h = (h.0, Contains-append_left own more (fault_of r) h.1)
own-named t own more Memory h = tt

-- one that follows its own
pub later-named : (t : Text) (own more : List Fault) (e : ParseFault) → IfToml e (NamesOne t more) → IfToml e (NamesOne t (own ++ more))
later-named t own more (Toml r) h = (h.0, Contains-append_right own more (fault_of r) h.1)
later-named t own more Memory h = tt

-- what stands in the way of it
pub way-named : (t : Text) (own : List Fault) (way : Option (Mention Source × Node)) (e : ParseFault)
    → IfToml e (λ r. (r.input ≡ t) × (option_map table_way_fault way ≡ Some (fault_of r)))
    → IfToml e (NamesOne t (own ++ table_way_faults way))
way-named t own None (Toml r) h = absurd (let g = h.1 in cc)
way-named t own (Some c) (Toml r) h = (
  h.0,
  Contains-append_right own (table_way_fault c ∷ []) (fault_of r)
      (subst (Contains (table_way_fault c ∷ [])) (some-is (table_way_fault c) (fault_of r) h.1) (Contains-push [] (table_way_fault c))),
)
way-named t own way Memory h = tt

-- ---- the parts of a statement in the text

module _ (mode : Mode) (t : Text) (b : Builder) (f : Frame) (v : Value) (end : Text) (is : IsWhole (key_line f v end))
    (stands : Stands t b.start (statement_text (key_line f v end))) where
  frame-stands : Stands t b.start (frame_text f (value_text v))
  frame-stands = stands-left t b.start (frame_text f (value_text v)) end stands

  pub line-path : (path : KeyPath) → IsPathFrom (frame_leaf (spanned_in mode) b.start f) (b.start + length f.leading) f.path path
      → IsPathOf mode t (source_at b (key_line f v end)) (mentions_at b (key_line f v end)) path
  line-path path read =
      let key = b.start + length f.leading in
      record {
        start = key;
        segments = f.path;
        ends = path-ends f.path is.0.1;
        stands = stands-left t key (path_text f.path) _ (stands-right t b.start f.leading _ frame-stands);
        mentions = line-mentions (source_at b (key_line f v end)) key [] f.path;
        read = read;
      }

module _ (mode : Mode) (t : Text) (b : Builder) (h : Header) (end : Text) (is : IsWhole (header h end))
    (stands : Stands t b.start (statement_text (header h end))) where
  -- its key
  pub key-ends : IsEndOfPath h.path
  key-ends = path-ends h.path is.0.1

  pub key-stands : Stands t (b.start + length h.leading + length (opening_brackets h.is_array) + length h.opening) (path_text h.path)
  key-stands =
      let start = b.start + length h.leading in
      let brackets = stands-left t start (brackets_text h) _ (stands-right t b.start h.leading _ stands) in
      let inside = stands-right t start (opening_brackets h.is_array) _ brackets in
      let key = start + length (opening_brackets h.is_array) in
      stands-left t (key + length h.opening) (path_text h.path) _ (stands-right t key h.opening _ inside)

  pub header-path : (parts : HeaderParts) → AreHeaderParts mode h end b.start parts
      → IsPathOf mode t (source_at b (header h end)) (mentions_at b (header h end)) parts.path
  header-path parts at =
      let s = source_at b (header h end) in
      let behind = b.start + length h.leading + length (opening_brackets h.is_array) in
      let key = b.start + path_start (header h end) in
      let same : behind + length h.opening ≡ key = omega arith in
      let back : behind ≡ key - length h.opening = omega arith in
      record {
        start = key;
        segments = h.path;
        ends = key-ends;
        stands = subst (λ (i : ℕ). Stands t i (path_text h.path)) same key-stands;
        mentions = header-mentions s h key [] h.path;
        read =
            subst (λ (i : ℕ). IsPathFrom (header_leaf (spanned_in mode) (key - length h.opening) h) i h.path parts.path) same
            (subst (λ (i : ℕ). IsPathFrom (header_leaf (spanned_in mode) i h) (behind + length h.opening) h.path parts.path) back at.path);
      }

-- ---- what is added

module _ (mode : Mode) (b : Builder) (f : Frame) (v : Value) (end : Text) (old : Building) (held : IsHeld b old) where
  abbrev line : Statement
  line = key_line f v end

  pub line-is-added : (more : List Event) (n : Node) (path : KeyPath) (rest : List Event) (new : Building) → IsWhole line
      → IsLineRead mode f v end b.start more n path rest
      → add_line mode (mentions_at b line) n (slots_view old.current) ≡ Some (slots_view new.current) → new.block ≡ old.block → new.headers
      ≡ old.headers
      → slots_view new.root ≡ slots_view old.root → IsAdded mode b line more new rest
  line-is-added more n path rest new is read adds block headers root =
      record {
        node = n;
        is_node = read.node;
        slots = slots_by_place (put_along b.block (slots_view new.current) (slots_view old.root));
        faultless = read.faultless;
        added_is = line-added mode b old held f v end is n read.node (slots_view new.current) adds;
        held = λ inner there. line-held mode b old held f v end is n read.node new adds block headers root;
        rest_is = read.rest_is;
      }

  -- what stands in its way is named
  pub line-stopped : (t : Text) (e : ParseFault)
      → IfToml e (λ r. (r.input ≡ t) × (option_map table_way_fault (line_clash (mentions_at b line) (slots_view old.current))
      ≡ Some (fault_of r)))
      → IfToml e (NamesOne t (faults_at b line))
  line-stopped t e h =
      way-named t (own_faults b.start line) (clash_at b line) e
      (subst (λ (o : Option Fault). IfToml e (λ r. (r.input ≡ t) × (o ≡ Some (fault_of r)))) (sym (line-clashes mode b old held f v end)) h)

-- the item of a header
pub header-item : (mode : Mode) (s : Source) (h : Header) (end : Text) (n : Node) (is_array : Bool) (brackets : Span) → s.statement
    ≡ header h end
    → brackets ≡ span_at (s.start + length h.leading) (brackets_text h) → IsHeaded mode s n → IsItemFor mode (kind_of is_array brackets) s n
header-item mode s h end n true brackets is at head = (
  head,
  at ∙ ap (λ (x : Statement). record { start = brackets_from (spanned_in mode) s x; end = brackets_to (spanned_in mode) s x })
      (sym is),
)
header-item mode s h end n false brackets is at head = head

header_added : (mode : Mode) (is_array : Bool) (brackets : Span) (n : Node) (ms : List (Mention Source)) (ss : Slots)
    → (add_path mode (addition_for (kind_of is_array brackets) n) ms ss ≡ add_header mode is_array ms ss)
    × (path_clash (addition_for (kind_of is_array brackets) n) ms ss ≡ header_clash is_array ms ss)
header_added mode true brackets n _ ss = (refl, refl)
header_added mode false brackets n _ ss = (refl, refl)

header_real : (is_array : Bool) (brackets : Span) (n : Node) → IsRealAddition (addition_for (kind_of is_array brackets) n)
header_real true brackets n = tt
header_real false brackets n = tt

module _ (mode : Mode) (b : Builder) (h : Header) (end : Text) (kind : Kind) (parts : HeaderParts) (n : Node) (ss : Slots)
    (at : AreHeaderParts mode h end b.start parts)
    (kind_is : kind ≡ kind_of parts.is_array parts.brackets) (old : Building) (held : IsHeld b old) (whole : ss ≡ whole_of b old) where
  abbrev head : Statement
  head = header h end

  abbrev adding : Addition
  adding = addition_for (kind_of parts.is_array parts.brackets) n

  -- what stands in its way is named
  pub header-stopped : (t : Text) (e : ParseFault)
      → IfToml e (λ r. (r.input ≡ t) × (option_map table_way_fault (path_clash (addition_for kind n) (mentions_at b head) ss)
      ≡ Some (fault_of r)))
      → IfToml e (NamesOne t (table_way_faults (clash_at b head)))
  header-stopped t e h' =
      let fault_at : Slots → Option Fault = λ us. option_map table_way_fault (path_clash adding (mentions_at b head) us) in
      let way : option_map table_way_fault (path_clash (addition_for kind n) (mentions_at b head) ss)
      ≡ option_map table_way_fault (clash_at b head) =
      ap (λ (k : Kind). option_map table_way_fault (path_clash (addition_for k n) (mentions_at b head) ss)) kind_is
      ∙ ap fault_at whole
      ∙ sym (clashes_in_order adding (mentions_at b head) b.start (whole_of b old) held.placed)
      ∙ ap fault_at (sym held.slots)
      ∙ ap (option_map table_way_fault)
      ((header_added mode parts.is_array parts.brackets n (mentions_at b head) b.slots).1
      ∙ ap (λ (x : Bool). header_clash x (mentions_at b head) b.slots) at.is_array) in
      way-named t [] (clash_at b head) e (subst (λ (o : Option Fault). IfToml e (λ r. (r.input ≡ t) × (o ≡ Some (fault_of r)))) way h')

  pub header-is-opened : (new : Building) (empty out : Slots) → IsWhole head
      → add_in_place mode (addition_for kind n) (mentions_at b head) ss ≡ Some out
      → names new.block.items ≡ map (λ g. g.key) h.path → new.headers ≡ old.headers + 1
      → Swaps (slots_along (names new.block.items) out) empty out (put_along (names new.block.items) empty out) (slots_view new.current)
      (slots_view new.root)
      → IsOpened mode b head new
  header-is-opened new empty out is adds block headers swaps =
      let ms = mentions_at b head in
      let after = b.start + length (statement_text head) in
      let on : b.start ≤ b.start + length (statement_text (header h end)) = omega arith in
      let real = header_real parts.is_array parts.brackets n in
      let within = statement_within mode (λ x. Unit {0}) b head is in
      let in_place : add_in_place mode adding ms (whole_of b old) ≡ Some out =
      sym (ap (λ (k : Kind). add_in_place mode (addition_for k n) ms ss) kind_is ∙ ap (add_in_place mode adding ms) whole) ∙ adds in
      record {
        slots = slots_by_place out;
        added_is =
            sym ((header_added mode parts.is_array parts.brackets n ms b.slots).0
            ∙ ap (λ (x : Bool). add_header mode x ms b.slots) at.is_array)
            ∙ ap (add_path mode adding ms) held.slots
            ∙ adds_in_order mode adding ms b.start after (whole_of b old) real within held.placed
            ∙ ap (option_map slots_by_place) in_place;
        held = header-held b h end out empty new (stays_placed mode adding ms b.start after (whole_of b old) out on real within held.placed
            in_place)
            (sym block) (let one = held.headers in omega (arith, one, headers)) held.counted
            (subst (λ (ks : List Text). Swaps (slots_along ks out) empty out (put_along ks empty out) (slots_view new.current)
            (slots_view new.root)) block swaps);
      }

-- the parts of a header that was read
pub parts-are : (mode : Mode) (b : Builder) (h : Header) (end : Text) (more : List Event) (leading opening : Span) (is_array : Bool)
    (read : HeaderSpans) (rest : List Event) → leading ≡ span_at b.start h.leading
    → is_array ≡ h.is_array → opening ≡ span_at (b.start + length h.leading) (opening_brackets h.is_array)
    → IsHeaderRead mode h end b.start more read rest
    → AreHeaderParts mode h end b.start
    (record {
      leading = leading;
      is_array = is_array;
      brackets = record { start = opening.start; end = read.end };
      path =
          read.path;
      trailing = read.trailing;
    })
parts-are mode b h end more leading opening is_array read rest front array opens is =
    record {
      leading = front;
      is_array = array;
      brackets =
          ap (λ (x : Span). record { start = x.start; end = read.end }) opens
          ∙ ap (λ (i : ℕ). record { start = b.start + length h.leading; end = i }) is.end_is;
      path = is.path_is;
      trailing = is.trailing;
    }

pub header-is-added : (mode : Mode) (b : Builder) (h : Header) (end : Text) (more : List Event) (read : HeaderSpans) (rest : List Event)
    (new : Building)
    → IsHeaderRead mode h end b.start more read rest → IsOpened mode b (header h end) new → IsAdded mode b (header h end) more new rest
header-is-added mode b h end more read rest new is opened =
    record {
      node = nothing;
      is_node = tt;
      slots = opened.slots;
      faultless = is.short;
      added_is = opened.added_is;
      held = opened.held;
      rest_is = is.rest_is;
    }
