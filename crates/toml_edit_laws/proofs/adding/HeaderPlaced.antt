-- A header may come after statements each of which agrees with those before it, and its table is added to the slots of theirs.
use Rattle.std.proofs.Common.{◌≡◌, refl, ◌+◌, true, List, [], ◌∷◌, ◌++◌, Some}
use Rattle.toml_edit_model.specs.Mode.{Mode}
use Rattle.toml_edit_model.specs.Text.{Text}
use Rattle.toml_edit_model.specs.Syntax.{Statement, key_line, header, Header, Document}
use Rattle.toml_edit_model.specs.Paths.{Path, Mention, Source, Context, line_mentions, header_mentions, header_role_of, path_start}
use Rattle.toml_edit_model.specs.Paths.{start_context, source_of, mentions_of, context_after}
use Rattle.toml_edit_model.specs.Accepted.{agree}
use Rattle.toml_edit_model.specs.Tree.{Node, Slots}
use Rattle.toml_edit_model.specs.TreeOf.{spanned_in, AreSlotsOf}
use Rattle.toml_edit_laws.specs.TableTree.{add_statement}
use Rattle.toml_edit_laws.proofs.adding.HeaderReady.{paths_from, IsReadyAt, AreReady}
use Rattle.toml_edit_laws.proofs.adding.HeaderAdded.{header_added}
use Rattle.toml_edit_laws.proofs.adding.HeaderSteps.{IsOpen, open-more, line-keeps}
use Rattle.toml_edit_laws.proofs.adding.HeaderKeeps.{header-keeps}
use Rattle.toml_edit_laws.proofs.adding.StatementMentions.{header-join}
use Rattle.toml_edit_laws.proofs.clashes.ClashContext.{HasKey}
use Rattle.toml_edit_laws.proofs.mentions.Placed.{IsHeaded, headed-line, headed-header}
use Rattle.toml_edit_laws.proofs.mentions.OneHeaderLaws.{line-header, header-header}
use Rattle.toml_edit_laws.proofs.common.Each.{all-append}
use Rattle.toml_edit_laws.proofs.mentions.Named.{IsNamed, line-named, header-named}
use Rattle.toml_edit_laws.specs.KeptKeys.{under_path}
use Rattle.toml_edit_model.specs.Roles.{may_meet}
use Rattle.toml_edit_model.specs.TableMentions.{kept}

-- ---- statement after statement

-- A header may come after these mentions, and the table is there in which a key line would stand.
pub record IsReadyIn (c : Context) (ms : List (Mention Source)) : Type 0 where
  pub ready : AreReady c.arrays ms
  pub block : IsOpen c.block ms

none-at : (p : Path) → IsReadyAt (paths_from p []) (under_path p [])
none-at [] = record { counted = refl; keyed = λ k e. refl; numbered = λ i e. refl; arrayed = λ e. absurd cc; passed = λ e. absurd cc }
none-at (s ∷ p) = none-at p

pub ready_first : (d : Document) → IsReadyIn (start_context d) []
ready_first d = record { ready = record { named = tt; headed = tt; sourced = tt; at = none-at }; block = tt }

-- after each statement that agrees
pub ready_next : (c : Context) (s : Statement) (ms : List (Mention Source)) → HasKey s → IsReadyIn c ms
    → agree may_meet ms (mentions_of c s) ≡ true
    → IsReadyIn (context_after c s) (ms ++ mentions_of c s)
ready_next c (key_line f v end) ms keyed h e =
    let source = source_of c (key_line f v end) in
    let start = c.start + path_start (key_line f v end) in
    let ns = line_mentions source start c.block f.path in
    record {
      ready =
          record {
            named = all-append IsNamed ms ns h.ready.named (line-named source start c.block f.path);
            headed = header-join ms ns h.ready.headed (line-header source start c.block f.path) e;
            sourced = all-append IsHeaded ms ns h.ready.sourced (headed-line source start c.block f.path);
            at = line-keeps source start c.block f.path c.arrays ms h.ready.at h.block;
          };
      block = open-more c.block ms ns h.block;
    }
ready_next c (header h end) ms keyed r e =
    let source = source_of c (header h end) in
    let start = c.start + path_start (header h end) in
    let ns = header_mentions source c.arrays (header_role_of h) start [] h.path in
    let keeps = header-keeps h.is_array source c.arrays start h.path ms keyed r.ready.at e in
    record {
      ready =
          record {
            named = all-append IsNamed ms ns r.ready.named (header-named source c.arrays (header_role_of h) start [] h.path);
            headed = header-join ms ns r.ready.headed (header-header source c.arrays (header_role_of h) start [] h.path) e;
            sourced = all-append IsHeaded ms ns r.ready.sourced (headed-header source c.arrays (header_role_of h) start [] h.path refl);
            at = keeps.0;
          };
      block = keeps.1;
    }

module _ (mode : Mode) where
  -- A header that can be added to the slots of the statements before it gives the slots of all.
  pub header_placed : (c : Context) (h : Header) (end : Text) (n : Node) (ms : List (Mention Source)) (ss next : Slots) → IsReadyIn c ms
      → AreSlotsOf (spanned_in mode) ms (kept ms) ss → add_statement mode c (header h end) n ss ≡ Some next
      → AreSlotsOf (spanned_in mode) (ms ++ mentions_of c (header h end)) (kept (ms ++ mentions_of c (header h end))) next
  header_placed c h end n ms ss next ready slots e =
      header_added mode h (source_of c (header h end)) c.arrays (c.start + path_start (header h end)) ms ss next ready.ready slots e
