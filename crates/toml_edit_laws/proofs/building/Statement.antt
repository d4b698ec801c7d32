-- One statement more: it is added exactly where it agrees with those before it, and then the slots are of all; else its fault is that
-- of its clash with the slots.
use Rattle.std.proofs.Common.{◌≡◌, sym, ◌∙◌, ap, ◌+◌, List, ◌++◌, Option, Some}
use Rattle.std.specs.Prelude.{is_some, flat_map, option_and_then}
use Rattle.toml_edit_model.specs.Mode.{Mode}
use Rattle.toml_edit_model.specs.Syntax.{Statement, key_line, header}
use Rattle.toml_edit_model.specs.Paths.{Mention, Source, Placed, Context, source_of, mentions_of, path_start}
use Rattle.toml_edit_model.specs.Accepted.{agree}
use Rattle.toml_edit_model.specs.Faults.{own_faults, faults_in}
use Rattle.toml_edit_model.specs.Tree.{Node, Slots}
use Rattle.toml_edit_model.specs.TreeOf.{spanned_in, IsLineNode}
use Rattle.toml_edit_laws.specs.TableTree.{own_mentions, add_statement}
use Rattle.toml_edit_laws.specs.TableClash.{line_clash, header_clash, table_way_faults}
use Rattle.toml_edit_laws.specs.Building.{keys_in, slots_along}
use Rattle.toml_edit_laws.proofs.adding.KeyLineAdded.{key_line_added}
use Rattle.toml_edit_laws.proofs.adding.HeaderPlaced.{header_placed}
use Rattle.toml_edit_laws.proofs.clashes.HeaderClash.{header_agrees, header_goes}
use Rattle.toml_edit_laws.proofs.clashes.LineClash.{line_agrees}
use Rattle.toml_edit_laws.proofs.clashes.ClashFaults.{agree-below, line_fault, header_fault}
use Rattle.toml_edit_laws.proofs.clashes.ClashContext.{HasKey}
use Rattle.toml_edit_laws.proofs.clashes.BlockClash.{HasBlock, block_found, key_line_goes}
use Rattle.toml_edit_laws.proofs.building.Conditions.{AreDone}
use Rattle.toml_edit_laws.proofs.mentions.Placed.{placed_at}
use Rattle.toml_edit_laws.proofs.adding.HeaderSlots.{AreAllSlots}
use Rattle.toml_edit_laws.proofs.common.OptionSteps.{is_none}
use Rattle.toml_edit_laws.proofs.clashes.ClashMentions.{statements-under_path}
use Rattle.toml_edit_laws.specs.KeptKeys.{under_path}
use Rattle.toml_edit_model.specs.Roles.{may_meet}

-- the outermost mention at which it can't go on, and the item in its way
abbrev pub statement_clash : Context → Statement → Slots → Option (Mention Source × Node)
statement_clash c (key_line f v end) ss =
    option_and_then (line_clash (own_mentions c (key_line f v end))) (slots_along (keys_in c.block) ss)
statement_clash c (header h end) ss = header_clash h.is_array (own_mentions c (header h end)) ss

module _ (mode : Mode) where
  -- the item is of the statement's value, if it has one
  abbrev pub IsNodeOfStatement : Context → Statement → Node → Type 0
  IsNodeOfStatement c (key_line f v end) n = IsLineNode (spanned_in mode) (source_of c (key_line f v end)) (key_line f v end) n
  IsNodeOfStatement c (header h end) n = Unit {0}

  -- A statement can be added exactly where it agrees with those before it.
  pub statement_goes : (c : Context) (s : Statement) (ms : List (Mention Source)) (n : Node) (ss : Slots) → HasKey s → AreDone c ms
      → AreAllSlots mode ms ss
      → is_some (add_statement mode c s n ss) ≡ agree may_meet ms (mentions_of c s)
  statement_goes c (key_line f v end) ms n ss keyed are h = key_line_goes mode c f v end ms n ss keyed are.clash.statements are.block h
  statement_goes c (header hd end) ms n ss keyed are h =
      header_goes mode hd.is_array (source_of c (header hd end)) c.arrays (c.start
      + path_start (header hd end)) hd.path ms ss keyed are.clash.statements are.clash.counted h

  -- Added, it gives the slots of all.
  pub statement_added : (c : Context) (s : Statement) (ms : List (Mention Source)) (n : Node) (ss next : Slots) → AreDone c ms
      → IsNodeOfStatement c s n
      → AreAllSlots mode ms ss → add_statement mode c s n ss ≡ Some next → AreAllSlots mode (ms ++ mentions_of c s) next
  statement_added c (key_line f v end) ms n ss next are value h e = key_line_added mode c f v end ms n ss next value are.table.table h e
  statement_added c (header hd end) ms n ss next are value h e = header_placed mode c hd end n ms ss next are.ready h e

  -- ---- what stands in its way

  line-at : (c : Context) (s : Statement) (ss : Slots) (ms : List (Mention Source)) (block : HasBlock mode c.block ms ss)
      → option_and_then (line_clash (own_mentions c s)) (slots_along (keys_in c.block) ss) ≡ line_clash (own_mentions c s) block.inner
  line-at c s ss ms block = ap (option_and_then (line_clash (own_mentions c s))) block.found

  -- It clashes with the slots exactly where it doesn't agree,
  pub statement_agrees : (c : Context) (s : Statement) (ms : List (Mention Source)) (ss : Slots) → AreDone c ms → AreAllSlots mode ms ss
      → agree may_meet ms (mentions_of c s) ≡ is_none (statement_clash c s ss)
  statement_agrees c (key_line f v end) ms ss are h =
      let source = source_of c (key_line f v end) in
      let start = c.start + path_start (key_line f v end) in
      let block = block_found mode c.block ms ss are.clash.statements h are.block in
      agree-below c.block source start f.path ms
      ∙ line_agrees mode source start f.path (under_path c.block ms) block.inner (statements-under_path c.block ms are.clash.statements)
      block.slots
      ∙ sym (ap is_none (line-at c (key_line f v end) ss ms block))
  statement_agrees c (header hd end) ms ss are h =
      header_agrees mode hd.is_array (source_of c (header hd end)) c.arrays (c.start
      + path_start (header hd end)) hd.path ms ss are.clash.statements are.clash.counted h

  -- and its faults are its own and that of the clash.
  pub statement_fault : (c : Context) (s : Statement) (earlier : List Placed) (ss : Slots) → AreDone c (flat_map (λ e. e.mentions) earlier)
      → AreAllSlots mode (flat_map (λ e. e.mentions) earlier) ss
      → faults_in earlier (placed_at c s) ≡ own_faults c.start s ++ table_way_faults (statement_clash c s ss)
  statement_fault c (key_line f v end) earlier ss are h =
      let ms = flat_map (λ (e : Placed). e.mentions) earlier in
      let block = block_found mode c.block ms ss are.clash.statements h are.block in
      line_fault mode c f v end earlier block.inner (statements-under_path c.block ms are.clash.statements) block.slots
      ∙ ap (λ o. own_faults c.start (key_line f v end) ++ table_way_faults o) (sym (line-at c (key_line f v end) ss ms block))
  statement_fault c (header hd end) earlier ss are h = header_fault mode c hd end earlier ss are.clash.statements are.clash.counted h
