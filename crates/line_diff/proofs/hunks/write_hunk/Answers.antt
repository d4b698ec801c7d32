use Rattle.std.proofs.Common.{arith}
use Rattle.line_diff.proofs.HunkLaws.{line-more}
use Rattle.line_diff.proofs.hunks.write_hunk.Goals as goal
