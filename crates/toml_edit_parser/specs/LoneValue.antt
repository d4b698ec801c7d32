-- What reading a lone value gives.
use Rattle.std.specs.Prelude.{◌≡◌, ◌⊎◌, true, false, Result, IfErr, IfOk, IsErrOf, IsOk}
use Rattle.toml_edit_model.specs.Text.{Text}
use Rattle.toml_edit_model.specs.Lone.{IsLoneValue, IsLoneItem, MayRefuseValueIn, is_accepted_value, is_accepted_value_in}
use Rattle.toml_edit_model.specs.Syntax.{Value}
use Rattle.toml_edit_model.specs.Version.{Version, v1_1}
use Rattle.toml_edit_model.specs.Tree.{Node, is_value_node}
use Rattle.toml_edit_model.specs.Messages.{IsSyntaxFault}
use Rattle.toml_edit_syntax.specs.LoneEvents.{ValueOpensTooMany}
use Rattle.toml_edit_error.specs.Report.{Report, fault_of}
use Rattle.toml_edit_error.specs.Fault.{IfToml}
use Rattle.toml_edit_error.specs.declared.toml_error.ParseFault.{ParseFault}
use Rattle.toml_edit_parser.specs.declared.options.ParseOptions.{ParseOptions}
use Rattle.toml_edit_parser.specs.Options.{version_of}
use Rattle.toml_edit_parser.specs.Listed.{IsListedIn}
use Rattle.toml_edit_tree.specs.declared.item.Item.{Item}
use Rattle.toml_edit_tree.specs.declared.value.Value as code
use Rattle.toml_edit_tree.specs.View.{item_view, value_view}

-- The text is one value with white space around it, which is accepted in the version, and the item
-- is the value's.
pub record IsLoneReadingIn (version : Version) (t : Text) (n : Node) : Type 0 where
  pub value : Value
  pub lone : IsLoneValue t value
  pub accepted : is_accepted_value_in version value ≡ true
  pub only : (other : Value) → IsLoneValue t other → other ≡ value
  pub item : IsLoneItem value n

-- The report is of the text, with one of the messages that there are, and names what a text may be
-- refused with that was to be one value: if it is one, that isn't accepted in the version; if it is
-- none, what is wrong with its syntax, unless too many brackets are open before that.
pub record IsLoneRefusalIn (version : Version) (t : Text) (r : Report) : Type 0 where
  pub input : r.input ≡ t
  pub listed : IsListedIn version r
  pub names : MayRefuseValueIn version t (fault_of r)
  pub syntax : ((v : Value) → IsLoneValue t v → ⊥)
      → IsSyntaxFault (fault_of r) ⊎ ValueOpensTooMany t
  pub refused : (v : Value) → IsLoneValue t v → is_accepted_value_in version v ≡ false

-- What reading a lone value returns: a reading of the text; out of memory alone where the text is
-- an accepted value; a report.
pub record ReadsLoneIn (version : Version) (t : Text)
    (r : Result code.Value ParseFault) : Type 0 where
  pub read : IfOk r (λ v. IsLoneReadingIn version t (value_view v))
  pub every : (v : Value) → IsLoneValue t v → is_accepted_value_in version v ≡ true
      → IsOk r ⊎ IsErrOf r ParseFault.Memory
  pub refused : IfErr r (λ e. IfToml e (IsLoneRefusalIn version t))

-- And in TOML 1.1,
abbrev pub IsLoneReading : Text → Node → Type 0
IsLoneReading = IsLoneReadingIn v1_1

abbrev pub IsLoneRefusal : Text → Report → Type 0
IsLoneRefusal = IsLoneRefusalIn v1_1

abbrev pub ReadsLone : Text → Result code.Value ParseFault → Type 0
ReadsLone = ReadsLoneIn v1_1

-- and in the version that is asked for.
abbrev pub ReadsLoneWith : ParseOptions → Text → Result code.Value ParseFault → Type 0
ReadsLoneWith options = ReadsLoneIn (version_of options)

-- And of an item, which is the value.
abbrev pub IsLoneItemReading : Text → Node → Type 0
IsLoneItemReading t n = (is_value_node n ≡ true) × IsLoneReading t n

pub record ReadsLoneItem (t : Text) (r : Result Item ParseFault) : Type 0 where
  pub read : IfOk r (λ x. IsLoneItemReading t (item_view x))
  pub every : (v : Value) → IsLoneValue t v → is_accepted_value v ≡ true
      → IsOk r ⊎ IsErrOf r ParseFault.Memory
  pub refused : IfErr r (λ e. IfToml e (IsLoneRefusal t))
