-- Below the byte the row is done.
use Rattle.toml_edit_settings.specs.Patterns.{AreRests, Test, itself}
use Rattle.toml_edit_settings.proofs.RowLaws.{AreRestsAt}
use Rattle.toml_edit_settings.proofs.pattern.put_itself.Given as goal

abbrev pub invariant-bytes : goal.invariant-bytes
invariant-bytes l = (is_such : Test) → AreRests is_such l.path l.fn.row → AreRestsAt (itself l.byte is_such) is_such l.path l.row l.at
