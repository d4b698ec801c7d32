-- No edit before this one has the name.
use Rattle.std.proofs.Common.{◌≢◌, ◌<◌, ℕ, get_or}
use Rattle.toml_edit_edits.specs.Said.{name_of}
use Rattle.toml_edit_edits.specs.declared.edit.Verb.TheVariants.{Move}
use Rattle.toml_edit_edits.proofs.edit.Verb.named.Given as goal

abbrev pub invariant-loop-verb : goal.invariant-loop-verb
invariant-loop-verb l = (i : ℕ) → i < l.verb-index → l.name ≢ name_of (get_or l.verb-items i Move)
