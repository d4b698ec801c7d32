-- The fault of a statement that can't be added is the one that stands in it.
use Rattle.std.proofs.Common.{◌≡◌, refl, sym, ◌∙◌, ap, ℕ, ◌+◌, Bool, true, false, List, [], ◌∷◌, ◌++◌, length, Option, Some, None}
use Rattle.std.specs.Prelude.{◌&&◌, ◌||◌, MatchBool, if◌then◌else◌, flat_map, option_map}
use Rattle.toml_edit_model.specs.Mode.{Mode, with_return}
use Rattle.toml_edit_model.specs.Text.{Text}
use Rattle.toml_edit_model.specs.Syntax.{Segment, Frame, Value, scalar, array, inline_table, Header, Statement, key_line, header}
use Rattle.toml_edit_model.specs.Scalars.{Scalar}
use Rattle.toml_edit_model.specs.Paths.{Step, Path, Mention, Source, Placed, Context, line_mentions, source_of, path_start}
use Rattle.toml_edit_model.specs.Accepted.{agree}
use Rattle.toml_edit_model.specs.Faults.{fault, scalar_type, type_name, first_clash, duplicate_key, cannot_extend, statement_value_type}
use Rattle.toml_edit_model.specs.Faults.{clash_message, statement_clash, own_faults, faults_in}
use Rattle.toml_edit_model.specs.Tree.{Node, nothing, leaf, list, inline, table, tables, Slots}
use Rattle.toml_edit_model.specs.TreeOf.{spanned_in, IsValueNode, IsLineNode, AreSlotsOf}
use Rattle.toml_edit_laws.specs.TableTree.{own_mentions}
use Rattle.toml_edit_laws.specs.TableClash.{line_clash, header_clash, table_way_message, table_way_faults}
use Rattle.toml_edit_laws.proofs.mentions.GatherLaws.{all_deeper}
use Rattle.toml_edit_laws.proofs.inline_tables.AgreeLaws.{agree-clash, both_deeper, clash-deeper}
use Rattle.toml_edit_laws.proofs.inline_tables.PairMentions.{lines-deeper}
use Rattle.toml_edit_laws.proofs.clashes.ClashMentions.{AreOfStatements}
use Rattle.toml_edit_laws.proofs.clashes.TableClash.{IsInTheWay, IsSameClash}
use Rattle.toml_edit_laws.proofs.clashes.ClashCounts.{AreCounted}
use Rattle.toml_edit_laws.proofs.clashes.LineClash.{line_clashes}
use Rattle.toml_edit_laws.proofs.clashes.HeaderClash.{header_clashes}
use Rattle.toml_edit_laws.proofs.mentions.Placed.{placed_at}
use Rattle.toml_edit_laws.proofs.common.OptionSteps.{is_none-map, is_none}
use Rattle.toml_edit_laws.specs.KeptKeys.{under_path}
use Rattle.toml_edit_model.specs.Roles.{Role, may_meet, is_value_role, extends}
use Rattle.toml_edit_model.specs.TableMentions.{under, kept}
use Rattle.toml_edit_model.specs.Lists.{is_tables_node}
use Rattle.toml_edit_model.specs.Shown.{is_table_node}

-- ---- what is said of a clash

-- what to say where the earlier role is a value's, or isn't
abbrev said : Bool → Role → Text → Text
said is_value later type = if is_value && extends later then cannot_extend type else duplicate_key

said-table : (later : Role) (n : Node) (type : Text) → (is_table_node n || is_tables_node n) ≡ true → table_way_message later n
    ≡ said false later type
said-table later (table f ss) type h = refl
said-table later (tables e xs) type h = refl
said-table later (leaf s x d) type h = absurd cc
said-table later (list f xs) type h = absurd cc
said-table later (inline f ss) type h = absurd cc
said-table later nothing type h = absurd cc

fault-deeper : (s : Step) (c : Option (Mention Source × Mention Source)) → statement_clash (option_map (both_deeper s) c)
    ≡ statement_clash c
fault-deeper s None = refl
fault-deeper s (Some c) = refl

-- A key line at a path agrees, and has the fault, as it does for the table there.
pub agree-below : (p : Path) (source : Source) (start : ℕ) (segments : List Segment) (ms : List (Mention Source))
    → agree may_meet ms (line_mentions source start p segments) ≡ agree may_meet (under_path p ms) (line_mentions source start [] segments)
agree-below [] source start segments ms = refl
agree-below (s ∷ p) source start segments ms =
    let lines = line_mentions source start p segments in
    ap (agree may_meet ms) (lines-deeper source start s p segments)
    ∙ agree-clash may_meet ms (all_deeper s lines)
    ∙ ap is_none (clash-deeper may_meet s ms lines)
    ∙ is_none-map (both_deeper s) (first_clash may_meet (under s ms) lines)
    ∙ sym (agree-clash may_meet (under s ms) lines)
    ∙ agree-below p source start segments (under s ms)

fault-below : (p : Path) (source : Source) (start : ℕ) (segments : List Segment) (ms : List (Mention Source))
    → statement_clash (first_clash may_meet ms (line_mentions source start p segments))
    ≡ statement_clash (first_clash may_meet (under_path p ms) (line_mentions source start [] segments))
fault-below [] source start segments ms = refl
fault-below (s ∷ p) source start segments ms =
    let lines = line_mentions source start p segments in
    ap (λ later. statement_clash (first_clash may_meet ms later)) (lines-deeper source start s p segments)
    ∙ ap statement_clash (clash-deeper may_meet s ms lines)
    ∙ fault-deeper s (first_clash may_meet (under s ms) lines)
    ∙ fault-below p source start segments (under s ms)

module _ (mode : Mode) where
  said-value : (later : Role) (v : Value) (i : ℕ) (before after : Text) (n : Node) → IsValueNode (spanned_in mode) v i before after n
      → table_way_message later n ≡ said true later (type_name v)
  said-value later (scalar s t) i before after (leaf r spelling d) h =
      ap (λ (x : Scalar). if extends later then cannot_extend (scalar_type x) else duplicate_key) h.0
  said-value later (scalar s t) i before after n h = absurd h
  said-value later (array es comma t) i before after (list f xs) h = refl
  said-value later (array es comma t) i before after n h = absurd h
  said-value later (inline_table ps comma t) i before after (inline f ss) h = refl
  said-value later (inline_table ps comma t) i before after n h = absurd h

  said-line : (later : Role) (s : Source) (t : Statement) (n : Node) → IsLineNode (spanned_in mode) s t n → table_way_message later n
      ≡ said true later (statement_value_type t)
  said-line later s (key_line f v end) n h = said-value later v _ f.after_equals (with_return mode f.trailing end) n h
  said-line later s (header h end) n g = absurd g

  said-way : (later : Role) (e : Mention Source) (n : Node) → IsInTheWay mode e n → table_way_message later n
      ≡ clash_message e.role later (statement_value_type e.source.statement)
  said-way later e n h = by_value (is_value_role e.role) h
    where
      by_value : (b : Bool)
          → MatchBool b (IsLineNode (spanned_in mode) e.source e.source.statement n) ((is_table_node n || is_tables_node n)
          ≡ true)
          → table_way_message later n ≡ said b later (statement_value_type e.source.statement)
      by_value true h = said-line later e.source e.source.statement n h
      by_value false h = said-table later n (statement_value_type e.source.statement) h

  -- The fault of a clash with slots is that of the clash with the mentions that they are of.
  pub same-fault : (o : Option (Mention Source × Node)) (c : Option (Mention Source × Mention Source)) → IsSameClash mode o c
      → statement_clash c ≡ table_way_faults o
  same-fault None None h = refl
  same-fault None (Some d) h = absurd h
  same-fault (Some c) None h = absurd h
  same-fault (Some c) (Some d) h =
      ap (λ t. fault t d.0.start (length d.0.segment.spelled) ∷ []) (sym (said-way d.0.role d.1 c.1 h.1))
      ∙ ap (λ (m : Mention Source). fault (table_way_message m.role c.1) m.start (length m.segment.spelled) ∷ []) (sym h.0)

  -- ---- the faults in a statement

  -- The faults in a key line are its own, and that of its clash with the slots of its block's table.
  pub line_fault : (c : Context) (f : Frame) (v : Value) (end : Text) (earlier : List Placed) (ss : Slots)
      → AreOfStatements (under_path c.block (flat_map (λ e. e.mentions) earlier))
      → AreSlotsOf (spanned_in mode) (under_path c.block (flat_map (λ e. e.mentions) earlier))
      (kept (under_path c.block (flat_map (λ e. e.mentions) earlier))) ss
      → faults_in earlier (placed_at c (key_line f v end)) ≡ own_faults c.start (key_line f v end)
      ++ table_way_faults (line_clash (own_mentions c (key_line f v end)) ss)
  line_fault c f v end earlier ss are h =
      let source = source_of c (key_line f v end) in
      let start = c.start + path_start (key_line f v end) in
      let ms = flat_map (λ (e : Placed). e.mentions) earlier in
      let path = own_mentions c (key_line f v end) in
      ap (λ fs. own_faults c.start (key_line f v end) ++ fs)
      (fault-below c.block source start f.path ms
      ∙ same-fault (line_clash path ss) (first_clash may_meet (under_path c.block ms) path)
      (line_clashes mode source start f.path (under_path c.block ms) ss are h))

  -- Those in a header are its own, and that of its clash with the slots of the root.
  pub header_fault : (c : Context) (h : Header) (end : Text) (earlier : List Placed) (ss : Slots)
      → AreOfStatements (flat_map (λ e. e.mentions) earlier) → AreCounted c.arrays (flat_map (λ e. e.mentions) earlier)
      → AreSlotsOf (spanned_in mode) (flat_map (λ e. e.mentions) earlier) (kept (flat_map (λ e. e.mentions) earlier)) ss
      → faults_in earlier (placed_at c (header h end)) ≡ own_faults c.start (header h end)
      ++ table_way_faults (header_clash h.is_array (own_mentions c (header h end)) ss)
  header_fault c h end earlier ss are counted g =
      let source = source_of c (header h end) in
      let start = c.start + path_start (header h end) in
      let ms = flat_map (λ (e : Placed). e.mentions) earlier in
      let path = own_mentions c (header h end) in
      ap (λ fs. own_faults c.start (header h end) ++ fs)
      (same-fault (header_clash h.is_array path ss) (first_clash may_meet ms path)
      (header_clashes mode h.is_array source c.arrays start h.path ms ss are counted g))
