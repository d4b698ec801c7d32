use Rattle.file_replace.proofs.Crashes.{ends-over}
use Rattle.file_replace.proofs.laws.done_is_over.Goals as goal

pub returns : goal.returns
returns c = λ a es is. ends-over a es is
