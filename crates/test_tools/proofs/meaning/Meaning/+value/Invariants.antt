-- Each call is a level lower.
use Rattle.test_tools.proofs.meaning.Meaning.+value.Given as goal

abbrev pub decreases-value : goal.decreases-value
decreases-value l = l.levels
