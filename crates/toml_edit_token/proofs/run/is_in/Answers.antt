-- The table says of each byte what the class does.
use Rattle.std.proofs.Common.{refl, arith}
use Rattle.toml_edit_model.specs.Trivia.{is_blank, is_visible}
use Rattle.toml_edit_model.specs.Spelling.{is_plain, is_literal, is_bare_byte}
use Rattle.toml_edit_laws.specs.reading.Runs.{is_word_byte}
use Rattle.toml_edit_token.specs.declared.run.TheConstants.{CLASSES}
use Rattle.toml_edit_token.proofs.TableLaws.{from_table}
use Rattle.toml_edit_token.proofs.run.is_in.Goals as goal

pub returns-in-Blank : goal.returns-in-Blank
returns-in-Blank c = rw c.in-Blank.is (from_table CLASSES 1 is_blank c.args.byte (omega arith) refl)

pub returns-in-Visible : goal.returns-in-Visible
returns-in-Visible c = rw c.in-Visible.is (from_table CLASSES 2 is_visible c.args.byte (omega arith) refl)

pub returns-in-Plain : goal.returns-in-Plain
returns-in-Plain c = rw c.in-Plain.is (from_table CLASSES 4 is_plain c.args.byte (omega arith) refl)

pub returns-in-Literal : goal.returns-in-Literal
returns-in-Literal c = rw c.in-Literal.is (from_table CLASSES 8 is_literal c.args.byte (omega arith) refl)

pub returns-in-Bare : goal.returns-in-Bare
returns-in-Bare c = rw c.in-Bare.is (from_table CLASSES 16 is_bare_byte c.args.byte (omega arith) refl)

pub returns-in-Word : goal.returns-in-Word
returns-in-Word c = rw c.in-Word.is (from_table CLASSES 32 is_word_byte c.args.byte (omega arith) refl)
