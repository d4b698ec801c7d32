-- What holds of the mentions of statements each of which agrees with those before it: one record of all that adding one more needs.
use Rattle.std.proofs.Common.{◌≡◌, true, List, [], ◌++◌}
use Rattle.toml_edit_model.specs.Syntax.{Statement, Document}
use Rattle.toml_edit_model.specs.Paths.{Mention, Source, Context, mentions_of, start_context, context_after}
use Rattle.toml_edit_model.specs.Accepted.{agree}
use Rattle.toml_edit_laws.proofs.adding.StatementMentions.{AreOfTableBefore, table_start, table_next}
use Rattle.toml_edit_laws.proofs.adding.HeaderPlaced.{IsReadyIn, ready_first, ready_next}
use Rattle.toml_edit_laws.proofs.clashes.ClashContext.{HasKey, AreBefore, before_none, before_next}
use Rattle.toml_edit_laws.proofs.clashes.BlockClash.{IsLastBlock}
use Rattle.toml_edit_laws.proofs.clashes.BlockOfHeader.{last_next}
use Rattle.toml_edit_model.specs.Roles.{may_meet}

-- These are the mentions of the statements before a context, each of which agrees with those before it.
pub record AreDone (c : Context) (ms : List (Mention Source)) : Type 0 where
  pub table : AreOfTableBefore c ms
  pub ready : IsReadyIn c ms
  pub clash : AreBefore c ms
  pub block : IsLastBlock c.block ms

pub done_first : (d : Document) → AreDone (start_context d) []
done_first d = record { table = table_start d; ready = ready_first d; clash = before_none d; block = tt }

-- One more that agrees.
pub done_next : (c : Context) (s : Statement) (ms : List (Mention Source)) → HasKey s → AreDone c ms → agree may_meet ms (mentions_of c s)
    ≡ true
    → AreDone (context_after c s) (ms ++ mentions_of c s)
done_next c s ms keyed h e =
    record {
      table = table_next c s ms h.table e;
      ready = ready_next c s ms keyed h.ready e;
      clash = before_next c s ms h.clash keyed e;
      block = last_next c s ms h.clash h.block keyed;
    }
