use Rattle.file_replace.proofs.Crashes.{crash-safe}
use Rattle.file_replace.proofs.laws.crash_leaves_a_whole_text.Goals as goal

pub returns : goal.returns
returns c = λ asked name old calls hs same each merges. crash-safe asked name old calls hs same each merges
