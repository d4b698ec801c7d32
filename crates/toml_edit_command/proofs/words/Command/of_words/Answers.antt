-- What the words ask for is read by their options.
use Rattle.std.proofs.Common.{ap, subst}
use Rattle.toml_edit_command.specs.Steps.{StopsInWords, action_of}
use Rattle.toml_edit_command.specs.Words.{Says}
use Rattle.toml_edit_command.proofs.words.Command.of_words.Goals as goal

pub returns-in-Ok-clause-said : goal.returns-in-Ok-clause-said
returns-in-Ok-clause-said c = subst (λ q. Says q (action_of c.in-Ok.command)) c.options_of.ensures c.in-Ok.ensures.said

pub returns-in-Ok-clause-mode : goal.returns-in-Ok-clause-mode
returns-in-Ok-clause-mode c = ap (λ q. q.mode) c.options_of.ensures

pub returns-in-Ok-clause-version : goal.returns-in-Ok-clause-version
returns-in-Ok-clause-version c = ap (λ q. q.version) c.options_of.ensures

pub returns-in-Err-clause-stops : goal.returns-in-Err-clause-stops
returns-in-Err-clause-stops c = subst (λ q. StopsInWords q c.in-Err.error) c.options_of.ensures c.in-Err.ensures.stops
