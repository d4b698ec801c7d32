-- Each call has a shorter path.
use Rattle.std.proofs.Common.{length}
use Rattle.example_tools.proofs.migrate.+table_at.Given as goal

abbrev pub decreases-table_at : goal.decreases-table_at
decreases-table_at l = length l.path.now
