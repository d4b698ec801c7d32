-- So many spaces are there.
use Rattle.std.proofs.Common.{◌≡◌, ◌++◌, string_bytes}
use Rattle.toml_edit_fmt_laws.specs.Rules.{spaces}
use Rattle.toml_edit_fmt.proofs.page.push_spaces.Given as goal

abbrev pub invariant-loop-at : goal.invariant-loop-at
invariant-loop-at l = string_bytes l.text ≡ string_bytes l.initial.text ++ spaces l.at
