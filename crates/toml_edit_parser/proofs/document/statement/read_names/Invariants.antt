-- The names that were read, and what is left of the path.
use Rattle.std.proofs.Common.{ℕ, List, length}
use Rattle.toml_edit_model.specs.Syntax.{Segment, path_text}
use Rattle.toml_edit_model.specs.Tree.{Decor}
use Rattle.toml_edit_laws.specs.Standing.{Stands}
use Rattle.toml_edit_parser.specs.PairRead.{IsEndOfPath}
use Rattle.toml_edit_parser.specs.PathRead.{IsPathFrom}
use Rattle.toml_edit_parser.specs.ValueRead.{AreIn}
use Rattle.toml_edit_parser.specs.BlockRead.{names}
use Rattle.toml_edit_parser.proofs.NamesLaws.{NamesLeft}
use Rattle.toml_edit_parser.proofs.document.statement.read_names.Given as goal

abbrev pub invariant-keys : goal.invariant-keys
invariant-keys l =
    record {
      spans : AreIn l.reader.source.now l.left.events.now;
      named : (own : Decor) (p : List Segment) (start : ℕ) → IsEndOfPath p → Stands l.reader.source.now start (path_text p)
          → IsPathFrom own start p l.fn.path
          → NamesLeft l.reader.source.now own p (names l.names.items) l.left;
    }

abbrev pub decreases-keys : goal.decreases-keys
decreases-keys l = length l.left.events.now
