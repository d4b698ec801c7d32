-- A builder behind right statements adds the next as the slots of all mentions ask, and clashes where they do.
use Rattle.std.proofs.Common.{◌≡◌, refl, sym, ◌∙◌, ap, ℕ, suc, ◌+◌, List, [], length, Option, Some, None}
use Rattle.std.specs.Prelude.{option_map, option_and_then}
use Rattle.toml_edit_model.specs.Mode.{Mode}
use Rattle.toml_edit_model.specs.Text.{Text}
use Rattle.toml_edit_model.specs.Syntax.{Statement, key_line, header, statement_text}
use Rattle.toml_edit_model.specs.Paths.{Mention, Source, Context, header_role_of, source_of, mentions_of, path_start, context_after}
use Rattle.toml_edit_model.specs.Tree.{Node, Slots}
use Rattle.toml_edit_laws.specs.TableTree.{add_line, own_mentions, add_statement}
use Rattle.toml_edit_laws.specs.TableClash.{line_clash, header_clash, table_way_faults}
use Rattle.toml_edit_laws.specs.Building.{keys_in, slots_along, change_along, Builder, mentions_at, added, clash_at, behind}
use Rattle.toml_edit_laws.specs.Building.{IsStatementNode}
use Rattle.toml_edit_laws.proofs.clashes.HeaderClash.{header_clashes}
use Rattle.toml_edit_laws.proofs.clashes.BlockClash.{block_found}
use Rattle.toml_edit_laws.specs.AddPath.{put_along}
use Rattle.toml_edit_laws.proofs.building.Descent.{along_lens}
use Rattle.toml_edit_laws.proofs.building.Conditions.{AreDone}
use Rattle.toml_edit_laws.proofs.building.Statement.{IsNodeOfStatement, statement_clash}
use Rattle.toml_edit_laws.proofs.building.Alike.{line_alike, line_fault_alike, header_alike, header_clash_alike, like_fault}
use Rattle.toml_edit_laws.proofs.building.Places.{keys-block}
use Rattle.toml_edit_laws.proofs.adding.HeaderSlots.{AreAllSlots}
use Rattle.toml_edit_laws.proofs.common.OptionSteps.{is_none}

-- ---- a builder in a context

-- the builder stands where the context says
pub record IsIn (c : Context) (b : Builder) : Type 0 where
  pub start : b.start ≡ c.start
  pub headers : b.headers ≡ c.headers
  pub block : b.block ≡ keys_in c.block

-- the builder of these parts
abbrev pub builder : Slots → ℕ → ℕ → List Text → Builder
builder ss start headers block = record { slots = ss; start = start; headers = headers; block = block }

abbrev pub builder_in : Context → Slots → Builder
builder_in c ss = builder ss c.start c.headers (keys_in c.block)

-- it is that of the context
pub is_builder : (c : Context) (b : Builder) → IsIn c b → b ≡ builder_in c b.slots
is_builder c b h =
    ap (λ n. builder b.slots n b.headers b.block) h.start
    ∙ ap (λ n. builder b.slots c.start n b.block) h.headers
    ∙ ap (λ ks. builder b.slots c.start c.headers ks) h.block

-- behind the next statement it stands in the next context
pub in-next : (c : Context) (s : Statement) (b : Builder) (next : Slots) → IsIn c b → IsIn (context_after c s) (behind b s next)
in-next c (key_line f v end) b next h =
    record { start = ap (λ n. n + length (statement_text (key_line f v end))) h.start; headers = h.headers; block = h.block }
in-next c (header hd end) b next h =
    record {
      start = ap (λ n. n + length (statement_text (header hd end))) h.start;
      headers = ap suc h.headers;
      block =
          sym (keys-block c hd);
    }

-- two changes of the slots of a block's table that agree there
along-same : (ks : List Text) (one other : Slots → Option Slots) (ss inner : Slots) → slots_along ks ss ≡ Some inner → one inner
    ≡ other inner
    → change_along ks one ss ≡ change_along ks other ss
along-same ks one other ss inner found e =
    along_lens ks one ss inner found ∙ ap (option_map (λ (new : Slots). put_along ks new ss)) e ∙ sym (along_lens ks other ss inner found)

module _ (mode : Mode) where
  -- the item is of the statement's value
  pub node-in : (c : Context) (s : Statement) (n : Node) → IsStatementNode mode c.start s n → IsNodeOfStatement mode c s n
  node-in c (key_line f v end) n h = h
  node-in c (header hd end) n h = tt

  -- ---- what it adds

  -- It adds the statement to the slots.
  pub added_is : (c : Context) (s : Statement) (ms : List (Mention Source)) (n : Node) (ss : Slots) → AreDone c ms → AreAllSlots mode ms ss
      → added mode (builder_in c ss) s n ≡ add_statement mode c s n ss
  added_is c (key_line f v end) ms n ss are h =
      let block = block_found mode c.block ms ss are.clash.statements h are.block in
      let own = add_line mode (own_mentions c (key_line f v end)) n in
      let here = add_line mode (mentions_at (builder_in c ss) (key_line f v end)) n in
      let source = source_of c (key_line f v end) in
      let same : here block.inner ≡ own block.inner =
      sym (line_alike mode source.path c.start c.headers f v end (c.start + path_start (key_line f v end)) [] [] f.path n block.inner) in
      along-same (keys_in c.block) here own ss block.inner block.found same ∙ sym (block.goes own)
  added_is c (header hd end) ms n ss are h =
      let source = source_of c (header hd end) in
      sym (header_alike mode hd.is_array source.path c.start (suc c.headers) hd end (header_role_of hd) c.arrays (c.start
      + path_start (header hd end)) [] [] hd.path ss)

  -- What stands in its way has the same fault.
  pub clash_is : (c : Context) (s : Statement) (ms : List (Mention Source)) (ss : Slots) → AreDone c ms → AreAllSlots mode ms ss
      → table_way_faults (clash_at (builder_in c ss) s) ≡ table_way_faults (statement_clash c s ss)
  clash_is c (key_line f v end) ms ss are h =
      let block = block_found mode c.block ms ss are.clash.statements h are.block in
      let own = line_clash (own_mentions c (key_line f v end)) in
      let here = line_clash (mentions_at (builder_in c ss) (key_line f v end)) in
      let source = source_of c (key_line f v end) in
      ap (λ o. table_way_faults (option_and_then here o)) block.found
      ∙ sym (line_fault_alike mode source.path c.start c.headers f v end (c.start + path_start (key_line f v end)) [] [] f.path block.inner)
      ∙ sym (ap (λ o. table_way_faults (option_and_then own o)) block.found)
  clash_is c (header hd end) ms ss are h =
      let source = source_of c (header hd end) in
      let start = c.start + path_start (header hd end) in
      let here = header_clash hd.is_array (mentions_at (builder_in c ss) (header hd end)) ss in
      let own = header_clash hd.is_array (own_mentions c (header hd end)) ss in
      sym
      (like_fault mode ms (mentions_of c (header hd end)) own here
      (header_clashes mode hd.is_array source c.arrays start hd.path ms ss are.clash.statements are.clash.counted h)
      (header_clash_alike mode hd.is_array source.path c.start (suc c.headers) hd end (header_role_of hd) c.arrays start [] [] hd.path ss))

-- faults tell whether there is a clash
pub none-by-faults : (o c : Option (Mention Source × Node)) → table_way_faults o ≡ table_way_faults c → is_none o ≡ is_none c
none-by-faults None None h = refl
none-by-faults None (Some y) h = absurd cc
none-by-faults (Some x) None h = absurd cc
none-by-faults (Some x) (Some y) h = refl
