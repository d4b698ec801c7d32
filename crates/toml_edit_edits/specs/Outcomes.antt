-- What is done, or why it is refused.
use Rattle.std.specs.Prelude.{◌≡◌, ◌⊎◌, ◌++◌, ℕ, List, Result, Ok, Err, codes}
use Rattle.toml_edit_model.specs.Text.{Text, newline}
use Rattle.toml_edit_model.specs.Tree.{Node}
use Rattle.toml_edit_edit_laws.specs.Commands.{Answer, done, refused, no_such_path, wrong_kind, taken}
use Rattle.toml_edit_error.specs.Fault as parse
use Rattle.toml_edit_error.specs.declared.toml_error.ParseFault.{ParseFault}
use Rattle.toml_edit_error.specs.declared.toml_error.ParseFault.TheVariants as parses
use Rattle.toml_edit_paths.specs.Faults as change
use Rattle.toml_edit_paths.specs.declared.fault.ChangeFault.{ChangeFault}
use Rattle.toml_edit_paths.specs.declared.fault.ChangeFault.TheVariants as changes
use Rattle.toml_edit_repr.specs.declared.comments.CommentFault.{CommentFault}
use Rattle.toml_edit_repr.specs.declared.comments.CommentFault.TheVariants as comments
use Rattle.toml_edit_tree.specs.Containers.{ArrayView, table_node}
use Rattle.toml_edit_tree.specs.View.{array_view, table_view}
use Rattle.toml_edit_tree.specs.declared.array.Array.{Array}
use Rattle.toml_edit_tree.specs.declared.table.Table.{Table}
use Rattle.toml_edit_edits.specs.declared.fault.EditFault.{EditFault}
use Rattle.toml_edit_edits.specs.declared.fault.EditFault.TheVariants.{NoSuchPath, WrongKind, NoSuchElement, Taken, BadComment, Memory}
use Rattle.toml_edit_edits.specs.declared.fault.TextFault.{TextFault}
use Rattle.toml_edit_edits.specs.declared.fault.TextFault.TheVariants as texts

-- ---- refusals of calls

abbrev pub of_change : ChangeFault → EditFault
of_change changes.NoSuchPath = NoSuchPath
of_change changes.WrongKind = WrongKind
of_change changes.Memory = Memory

abbrev pub of_comment : CommentFault → EditFault
of_comment comments.Text = BadComment
of_comment comments.Memory = Memory

abbrev pub of_answer : {A : Type 0} → Answer A → Result A EditFault
of_answer (done a) = Ok a
of_answer (refused no_such_path) = Err NoSuchPath
of_answer (refused wrong_kind) = Err WrongKind
of_answer (refused taken) = Err Taken

-- what is shown of a refusal
abbrev pub fault_text : EditFault → Text
fault_text NoSuchPath = change.fault_text changes.NoSuchPath
fault_text WrongKind = change.fault_text changes.WrongKind
fault_text NoSuchElement = codes "no such element"
fault_text Taken = codes "the key is there already"
fault_text BadComment = codes "bad comment"
fault_text Memory = change.fault_text changes.Memory

-- ---- why a text is not edited

abbrev pub of_parse : ParseFault → TextFault
of_parse (parses.Toml e) = texts.Toml e
of_parse parses.Memory = texts.Memory

-- the edit of this number is refused, unless memory ran out
abbrev pub of_edit : ℕ → EditFault → TextFault
of_edit at Memory = texts.Memory
of_edit at f = texts.Edit (record { at = at; fault = f })

-- what is shown of it
abbrev pub text_fault_text : TextFault → Text
text_fault_text (texts.Toml e) = parse.fault_text (parses.Toml e)
text_fault_text (texts.Edit f) = fault_text f.fault ++ newline
text_fault_text texts.Misfit = codes "does not fit" ++ newline
text_fault_text texts.Memory = parse.fault_text parses.Memory

-- ---- one after another

abbrev pub and_then : {A B : Type 0} → (A → Result B EditFault) → Result A EditFault → Result B EditFault
and_then go (Ok a) = go a
and_then go (Err f) = Err f

-- What is done leaves what is meant. A refusal is the one that is meant, and leaves all as it was,
-- as running out of memory does.
abbrev pub Makes : {A : Type 0} → Result A EditFault → A → A → Result (Unit {0}) EditFault → Type 0
Makes meant old new (Ok u) = meant ≡ Ok new
Makes meant old new (Err f) = ((f ≡ Memory) ⊎ (meant ≡ Err f)) × (new ≡ old)

-- the array that is found, or why there is none
abbrev pub FindsArray : Result ArrayView EditFault → Result Array EditFault → Type 0
FindsArray meant (Ok a) = meant ≡ Ok (array_view a)
FindsArray meant (Err f) = (f ≡ Memory) ⊎ (meant ≡ Err f)

-- the table that is made, or why there is none
abbrev pub FindsTable : Result Node EditFault → Result Table EditFault → Type 0
FindsTable meant (Ok t) = meant ≡ Ok (table_node (table_view t))
FindsTable meant (Err f) = (f ≡ Memory) ⊎ (meant ≡ Err f)

-- the elements that are left, or why it is refused; then no matter what is left
abbrev pub FindsElements : Result (List Node) EditFault → List Node → Result (Unit {0}) EditFault → Type 0
FindsElements meant ns (Ok u) = meant ≡ Ok ns
FindsElements meant ns (Err f) = (f ≡ Memory) ⊎ (meant ≡ Err f)
