-- What an error may say of a text, in a version of the grammar.
use Rattle.std.specs.Prelude.{◌≡◌, ◌⊎◌, Contains, IsSome, Some, Result, IfErr}
use Rattle.toml_edit_model.specs.Text.{Text}
use Rattle.toml_edit_model.specs.Version.{Version, v1_1}
use Rattle.toml_edit_model.specs.Faults.{recursion_limit}
use Rattle.toml_edit_model.specs.Messages.{IsSyntaxFault, fault_messages_in, syntax_messages}
use Rattle.toml_edit_error.specs.Report.{Report, SpanIsIn, fault_of}
use Rattle.toml_edit_error.specs.Fault.{IfToml}
use Rattle.toml_edit_error.specs.declared.toml_error.ParseFault.{ParseFault}
use Rattle.toml_edit_syntax.specs.declared.event.Span.{Span}

-- one of the messages for a text outside the grammar, or of those of faults in the version
abbrev pub IsMessageIn : Version → Text → Type 0
IsMessageIn version m = Contains syntax_messages m ⊎ Contains (fault_messages_in version) m

-- The message is one of those for a text outside the grammar, or one of those of faults in the
-- version. It is about a place of the text, on the boundaries of characters; only that of a limit
-- may be about none.
pub record IsListedIn (version : Version) (r : Report) : Type 0 where
  pub allowed : IsSyntaxFault (fault_of r) ⊎ Contains (fault_messages_in version) r.message
  pub marks : IsSome r.span ⊎ (r.message ≡ recursion_limit)
  pub within : SpanIsIn r.input r.span

-- that, in TOML 1.1
abbrev pub IsListed : Report → Type 0
IsListed = IsListedIn v1_1

-- the report is of this text, and one of those listed of the version
pub record IsErrorIn (version : Version) (t : Text) (r : Report) : Type 0 where
  pub input : r.input ≡ t
  pub listed : IsListedIn version r

-- that, in TOML 1.1
abbrev pub IsErrorOf : Text → Report → Type 0
IsErrorOf t r = IsErrorIn v1_1 t r

-- ---- errors

-- the error says this of the text, at this span
abbrev pub Says : Text → Text → Span → ParseFault → Type 0
Says t message s e =
    IfToml e (λ r. r ≡ record { message = message; span = Some (s.start, s.end); input = t })

-- ---- results

-- an error is of this text, and a listed one of the version
abbrev pub RefusesIn : {A : Type 0} → Version → Text → Result A ParseFault → Type 0
RefusesIn version t result = IfErr result (λ e. IfToml e (IsErrorIn version t))

-- that, in TOML 1.1
abbrev pub Refuses : {A : Type 0} → Text → Result A ParseFault → Type 0
Refuses t result = IfErr result (λ e. IfToml e (IsErrorIn v1_1 t))
