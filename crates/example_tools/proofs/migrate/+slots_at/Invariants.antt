-- Each call has a shorter path.
use Rattle.std.proofs.Common.{length}
use Rattle.example_tools.proofs.migrate.+slots_at.Given as goal

abbrev pub decreases-slots_at : goal.decreases-slots_at
decreases-slots_at l = length l.path.now
