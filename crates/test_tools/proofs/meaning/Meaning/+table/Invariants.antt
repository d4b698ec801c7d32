-- Each call is a level lower.
use Rattle.test_tools.proofs.meaning.Meaning.+table.Given as goal

abbrev pub decreases-table : goal.decreases-table
decreases-table l = l.levels
