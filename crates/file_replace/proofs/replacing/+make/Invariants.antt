use Rattle.file_replace.proofs.replacing.+make.Given as goal

abbrev pub decreases-make : goal.decreases-make
decreases-make g l = l.tries
