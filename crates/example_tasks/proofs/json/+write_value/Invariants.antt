-- Each call is a level lower.
use Rattle.example_tasks.proofs.json.+write_value.Given as goal

abbrev pub decreases-write_value : goal.decreases-write_value
decreases-write_value l = l.levels
