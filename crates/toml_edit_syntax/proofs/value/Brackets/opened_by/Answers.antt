use Rattle.std.proofs.Common.{◌≢◌, ℕ, arith}
use Rattle.toml_edit_syntax.specs.declared.value.Brackets.{Brackets}
use Rattle.toml_edit_syntax.specs.declared.value.Brackets.TheVariants as brackets
use Rattle.toml_edit_syntax.specs.EventReading.{opening_byte}
use Rattle.toml_edit_syntax.proofs.value.Brackets.opened_by.Goals as goal

pub returns-in-91 : goal.returns-in-91
returns-in-91 c = c.in-91.is

pub returns-in-123 : goal.returns-in-123
returns-in-123 c = c.in-123.is

neither : (byte : ℕ) → byte ≢ 0x5B → byte ≢ 0x7B → (b : Brackets) → byte ≢ opening_byte b
neither byte x y brackets.Array = x
neither byte x y brackets.InlineTable = y

pub returns-in_default : goal.returns-in_default
returns-in_default c = neither c.args.byte (λ e. search arith) (λ e. search arith)
