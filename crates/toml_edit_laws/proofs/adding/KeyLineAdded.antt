-- A key line that is added to the slots of the root gives the slots of all statements up to it.
use Rattle.std.proofs.Common.{◌≡◌, refl, sym, subst, ◌+◌, List, [], ◌∷◌, ◌++◌, Some}
use Rattle.toml_edit_model.specs.Mode.{Mode}
use Rattle.toml_edit_model.specs.Text.{Text}
use Rattle.toml_edit_model.specs.Syntax.{Frame, Value, key_line}
use Rattle.toml_edit_model.specs.Paths.{Path, Mention, Source, Context, source_of, mentions_of, path_start}
use Rattle.toml_edit_model.specs.Tree.{Node, Slots}
use Rattle.toml_edit_model.specs.TreeOf.{spanned_in, IsLineNode}
use Rattle.toml_edit_laws.specs.TableTree.{add_line, own_mentions, add_statement}
use Rattle.toml_edit_laws.proofs.inline_tables.PairMentions.{own-line}
use Rattle.toml_edit_laws.proofs.adding.TableMentions.{AreOfTable, of_step}
use Rattle.toml_edit_laws.proofs.adding.KeySlots.{AreSlots}
use Rattle.toml_edit_laws.proofs.adding.LineAdded.{line_added}
use Rattle.toml_edit_laws.proofs.adding.DeeperMentions.{mentions_below}
use Rattle.toml_edit_laws.proofs.adding.BlockChange.{block_changed}
use Rattle.toml_edit_laws.specs.KeptKeys.{under_path}
use Rattle.toml_edit_model.specs.TableMentions.{under}

-- the conditions hold at a path
pub of_path : (p : Path) (ms : List (Mention Source)) → AreOfTable ms → AreOfTable (under_path p ms)
of_path [] ms are = are
of_path (s ∷ p) ms are = of_path p (under s ms) (of_step s ms are)

module _ (mode : Mode) where
  -- A key line that is added to the slots of the statements before it gives the slots of all.
  pub key_line_added : (c : Context) (f : Frame) (v : Value) (end : Text) (ms : List (Mention Source)) (n : Node) (ss next : Slots)
      → IsLineNode (spanned_in mode) (source_of c (key_line f v end)) (key_line f v end) n
      → AreOfTable ms → AreSlots mode ms ss → add_statement mode c (key_line f v end) n ss ≡ Some next
      → AreSlots mode (ms ++ mentions_of c (key_line f v end)) next
  key_line_added c f v end ms n ss next value are slots e =
      let source = source_of c (key_line f v end) in
      let start = c.start + path_start (key_line f v end) in
      let line = own_mentions c (key_line f v end) in
      subst (λ ns. AreSlots mode (ms ++ ns) next) (sym (mentions_below c f v end))
      (block_changed (spanned_in mode) c.block (add_line mode line n) ms line are.named are.one_header (own-line source start f.path)
      (λ us others h g. line_added mode source f v end start (under_path c.block ms) n us others refl value (of_path c.block ms are) h g) ss
      next slots e)
