-- Where a fault of the text is, and its message.
use Rattle.std.specs.Prelude.{codes, Result, Ok, Err}
use Rattle.toml_edit_model.specs.Text.{Text}
use Rattle.toml_edit_syntax.specs.declared.lexer.SyntaxFault as fault
use Rattle.toml_edit_syntax.specs.declared.lexer.SyntaxFault.TheVariants as faults
use Rattle.toml_edit_syntax.specs.declared.mistake.Mistake.{Mistake}
use Rattle.toml_edit_syntax.specs.declared.mistake.Mistake.TheVariants as mistakes
use Rattle.toml_edit_syntax.specs.Events.{IsSpanOf}

abbrev pub FaultIsIn : Text → fault.SyntaxFault → Type 0
FaultIsIn t faults.Memory = Unit {0}
FaultIsIn t (faults.Text mistake s) = IsSpanOf t s

abbrev pub HasSpanIn : {A : Type 0} → Text → Result A fault.SyntaxFault → Type 0
HasSpanIn t (Ok es) = Unit {0}
HasSpanIn t (Err e) = FaultIsIn t e

-- what an error says of it
abbrev pub syntax_message : Mistake → Text
syntax_message mistakes.UnexpectedCharacter = codes "unexpected character"
syntax_message mistakes.ExpectedKey = codes "expected a key"
syntax_message mistakes.ExpectedEquals = codes "expected ="
syntax_message mistakes.ExpectedValue = codes "expected a value"
syntax_message mistakes.ExpectedNewline = codes "expected a newline"
syntax_message mistakes.UnclosedString = codes "unclosed string"
syntax_message mistakes.UnclosedArray = codes "unclosed array"
syntax_message mistakes.UnclosedInlineTable = codes "unclosed inline table"
syntax_message mistakes.UnclosedHeader = codes "unclosed header"
syntax_message mistakes.InvalidEscape = codes "invalid escape"
syntax_message mistakes.InvalidNumber = codes "invalid number"
syntax_message mistakes.InvalidDateTime = codes "invalid date-time"
syntax_message mistakes.ControlCharacter = codes "control character"
syntax_message mistakes.CarriageReturn = codes "carriage return without line feed"
