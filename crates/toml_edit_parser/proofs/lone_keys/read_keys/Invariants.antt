-- The keys that were read, and what is left of the path.
use Rattle.std.proofs.Common.{List, length}
use Rattle.toml_edit_model.specs.Syntax.{Segment}
use Rattle.toml_edit_syntax.specs.LonePath.{IsPathText}
use Rattle.toml_edit_parser.specs.Near.{IsNear}
use Rattle.toml_edit_parser.specs.ValueRead.{AreIn}
use Rattle.toml_edit_parser.proofs.LoneKeyLaws.{KeysLeft}
use Rattle.toml_edit_parser.proofs.lone_keys.read_keys.Given as goal

abbrev pub invariant-segments : goal.invariant-segments
invariant-segments l =
    record {
      spans : AreIn l.reader.source.now l.left.events.now;
      prefix : IsNear l.left.prefix;
      suffix : IsNear l.left.suffix;
      before : IsNear l.left.before;
      keys : (p : List Segment) → IsPathText l.reader.source.now l.path.before.now p l.path.after.now
          → KeysLeft l.reader.source.now l.path.before.now l.path.after.now p l.keys.items l.left;
    }

abbrev pub decreases-segments : goal.decreases-segments
decreases-segments l = length l.left.events.now
