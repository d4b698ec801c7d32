-- What parsing a text answers, by what reading its statements comes to.
use Rattle.std.proofs.Common.{◌≡◌, Bool, true, inr}
use Rattle.toml_edit_model.specs.Mode.{Mode}
use Rattle.toml_edit_model.specs.Text.{Text}
use Rattle.toml_edit_model.specs.Syntax.{Document, IsCut}
use Rattle.toml_edit_model.specs.Version.{Version}
use Rattle.toml_edit_model.specs.Accepted.{is_accepted_in}
use Rattle.toml_edit_model.specs.Normal.{has_open_end}
use Rattle.toml_edit_model.specs.Tree.{Raw, Slots}
use Rattle.toml_edit_model.specs.TreeOf.{spanned_in, IsTreeOf}
use Rattle.toml_edit_laws.proofs.one_cut.Documents.{one_cut}
use Rattle.toml_edit_error.specs.Fault.{IfToml}
use Rattle.toml_edit_error.specs.declared.toml_error.ParseFault.{ParseFault}
use Rattle.toml_edit_error.specs.declared.toml_error.ParseFault.TheVariants.{Toml, Memory}
use Rattle.toml_edit_syntax.specs.Events.{OpensTooMany}
use Rattle.toml_edit_parser.specs.StatementRead.{tree_of}
use Rattle.toml_edit_parser.specs.Listed.{IsErrorIn}
use Rattle.toml_edit_parser.specs.DocumentRead.{IsParsedWith, IsRefusalIn}

-- ---- a text of the grammar

-- whose statements are read to the end
pub parsed : (mode : Mode) (version : Version) (t : Text) (d : Document) (slots : Slots) (trailing : Raw) (is_open : Bool) → IsCut d t
    → (is_accepted_in version d ≡ true) × IsTreeOf (spanned_in mode) d (tree_of slots trailing) → is_open ≡ has_open_end d.statements
    → IsParsedWith mode version t slots trailing is_open
parsed mode version t d slots trailing is_open cut (accepted, tree) same =
    record { document = d; accepted = (cut, accepted); only = λ other c. one_cut t other d c cut; tree = tree; open_end = same }

-- ---- a text that has no cut

-- since it opens too many brackets
pub short_refusal : (version : Version) (t : Text) (e : ParseFault) → OpensTooMany t → ((d : Document) → IsCut d t → ⊥)
    → IfToml e (IsErrorIn version t) → IfToml e (IsRefusalIn version t)
short_refusal version t (Toml r) opens none error =
    record { input = error.input; listed = error.listed; names = λ d cut. absurd (none d cut); syntax = λ _. inr opens }
short_refusal version t Memory opens none error = tt
