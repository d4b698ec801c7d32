-- The words of edits: which edits they say, and why some say none.
use Rattle.std.specs.Prelude.{◌≡◌, ◌≢◌, ◌<◌, ◌⊎◌, ◌+◌, ℕ, List, [], ◌∷◌, ◌++◌, bytes_eq, find, length, map, Option, None, codes, string_bytes}
use Rattle.toml_edit_model.specs.Keys.{new_key}
use Rattle.toml_edit_model.specs.Scalars.{string}
use Rattle.toml_edit_model.specs.Text.{Text}
use Rattle.toml_edit_model.specs.Tree.{Key, Node, leaf, unset}
use Rattle.toml_edit_model.specs.Version.{Version}
use Rattle.toml_edit_tree.specs.View.{value_view}
use Rattle.toml_edit_words.specs.Spelled.{IsNoValue, SpellsPath, SpellsValue}
use Rattle.toml_edit_edits.specs.Effects.{comment_text}
use Rattle.toml_edit_edits.specs.declared.edit.Edit.{Edit}
use Rattle.toml_edit_edits.specs.declared.edit.Edit.TheVariants as edits
use Rattle.toml_edit_edits.specs.declared.fault.WordFault.{WordFault}
use Rattle.toml_edit_edits.specs.declared.fault.WordFault.TheVariants as faults
use Rattle.toml_edit_edits.specs.declared.fault.WordsFault.{WordsFault}
use Rattle.toml_edit_edits.specs.declared.edit.PathVerb.{PathVerb}
use Rattle.toml_edit_edits.specs.declared.edit.PathVerb.TheVariants.{Section, Remove, Sort}
use Rattle.toml_edit_edits.specs.declared.edit.TextVerb.{TextVerb}
use Rattle.toml_edit_edits.specs.declared.edit.TextVerb.TheVariants.{String, Comment}
use Rattle.toml_edit_edits.specs.declared.edit.ValueVerb.{ValueVerb}
use Rattle.toml_edit_edits.specs.declared.edit.ValueVerb.TheVariants.{Set, Header, Append, Insert, Take, Table}
use Rattle.toml_edit_edits.specs.declared.edit.Verb.{Verb}
use Rattle.toml_edit_edits.specs.declared.edit.Verb.TheVariants.{Path, Value, Text as OfText, Rename, Move}

-- ---- the names of edits, and how many words follow them

abbrev pub path_name : PathVerb → Text
path_name Section = codes "section"
path_name Remove = codes "remove"
path_name Sort = codes "sort"

abbrev pub value_name : ValueVerb → Text
value_name Set = codes "set"
value_name Header = codes "header"
value_name Table = codes "table"
value_name Append = codes "append"
value_name Insert = codes "insert"
value_name Take = codes "take"

abbrev pub text_name : TextVerb → Text
text_name String = codes "string"
text_name Comment = codes "comment"

abbrev pub name_of : Verb → Text
name_of (Path v) = path_name v
name_of (Value v) = value_name v
name_of (OfText v) = text_name v
name_of Rename = codes "rename"
name_of Move = codes "move"

abbrev pub operands : Verb → ℕ
operands (Path v) = 1
operands v = 2

abbrev pub all_verbs : List Verb
all_verbs =
    Value Set ∷ OfText String ∷ Value Header ∷ Value Table ∷ Path Section ∷ Path Remove ∷ Value Append
    ∷ Value Insert ∷ Value Take ∷ Rename ∷ Move ∷ Path Sort ∷ OfText Comment ∷ []

-- the edit of this name
abbrev pub verb_of : Text → Option Verb
verb_of name = find (λ v. bytes_eq name (name_of v)) all_verbs

-- ---- paths and names

-- the text is a path, whose keys get their default spelling, or is empty, as the path of the root is
abbrev pub SpellsKeys : Text → List Key → Type 0
SpellsKeys t keys =
    ((t ≡ []) × (keys ≡ [])) ⊎ ((path : List Text) × SpellsPath t path × (keys ≡ map new_key path))

-- the text is a path of one key, which has this name
abbrev pub SpellsName : Text → Text → Type 0
SpellsName t name = SpellsPath t (name ∷ [])

abbrev pub IsNoKeys : Text → Type 0
IsNoKeys t = (keys : List Key) → SpellsKeys t keys → ⊥

abbrev pub IsNoName : Text → Type 0
IsNoName t = (name : Text) → SpellsName t name → ⊥

-- ---- what words say

abbrev pub TakesPath : Text → List Text → List Key → Type 0
TakesPath name ws keys = (path : Text) × (ws ≡ name ∷ path ∷ []) × SpellsKeys path keys

-- so it is with a word more, of this property
abbrev pub Takes : (Text → Type 0) → Text → List Text → List Key → Type 0
Takes Is name ws keys =
    (path : Text) × (operand : Text) × (ws ≡ name ∷ path ∷ operand ∷ []) × SpellsKeys path keys
    × Is operand

module _ (version : Version) where
  abbrev pub TakesValue : ValueVerb → List Text → List Key → Node → Type 0
  TakesValue v ws keys n = Takes (λ t. SpellsValue version t n) (value_name v) ws keys

  abbrev pub SaysEdit : List Text → Edit → Type 0
  SaysEdit ws (edits.Set path v) =
      TakesValue Set ws path.items (value_view v)
      ⊎ Takes (λ t. value_view v ≡ leaf (string t) None unset) (text_name String) ws path.items
  SaysEdit ws (edits.Header path v) = TakesValue Header ws path.items (value_view v)
  SaysEdit ws (edits.Table path v) = TakesValue Table ws path.items (value_view v)
  SaysEdit ws (edits.Section path) = TakesPath (path_name Section) ws path.items
  SaysEdit ws (edits.Remove path) = TakesPath (path_name Remove) ws path.items
  SaysEdit ws (edits.Append path v) = TakesValue Append ws path.items (value_view v)
  SaysEdit ws (edits.Insert path v) = TakesValue Insert ws path.items (value_view v)
  SaysEdit ws (edits.Take path v) = TakesValue Take ws path.items (value_view v)
  SaysEdit ws (edits.Rename path name) =
      Takes (λ t. SpellsName t (string_bytes name)) (name_of Rename) ws path.items
  SaysEdit ws (edits.Move path to) =
      Takes (λ t. SpellsKeys t to.items) (name_of Move) ws path.items
  SaysEdit ws (edits.Sort path) = TakesPath (path_name Sort) ws path.items
  SaysEdit ws (edits.Comment path text) =
      Takes (λ t. string_bytes text ≡ comment_text t) (text_name Comment) ws path.items

  -- the words say these edits, one after another
  abbrev pub SaysEdits : List Text → List Edit → Type 0
  SaysEdits ws [] = ws ≡ []
  SaysEdits ws (e ∷ es) =
      (first : List Text) × (rest : List Text) × (ws ≡ first ++ rest) × SaysEdit first e
      × SaysEdits rest es

-- ---- why words say none

abbrev pub AreKeys : Text → Type 0
AreKeys t = (keys : List Key) × SpellsKeys t keys

module _ (version : Version) where
  -- one of the words after the name of an edit is wrong: its path, or the other where the path is right
  abbrev pub IsWrong : WordFault → Verb → List Text → Type 0
  IsWrong faults.Memory v ws = Unit {0}
  IsWrong (faults.Path e) v (path ∷ more) = IsNoKeys path
  IsWrong (faults.To e) Move (path ∷ to ∷ []) = AreKeys path × IsNoKeys to
  IsWrong (faults.Key e) Rename (path ∷ key ∷ []) = AreKeys path × IsNoName key
  IsWrong (faults.Value e) (Value v) (path ∷ value ∷ []) = AreKeys path × IsNoValue version value
  IsWrong _ v ws = ⊥

  -- There are too few, or one of the first is wrong.
  abbrev pub StopsOperands : Verb → List Text → WordFault → Type 0
  StopsOperands v ws (faults.Operands w) = (w ≡ v) × (length ws < operands v)
  StopsOperands v ws fault =
      (front : List Text) × (rest : List Text) × (ws ≡ front ++ rest) × (length front ≡ operands v)
      × IsWrong fault v front

  -- The words begin with no edit, for this reason.
  abbrev pub StopsEdit : List Text → WordFault → Type 0
  StopsEdit ws faults.Memory = Unit {0}
  StopsEdit ws faults.Name = (v : Verb) (more : List Text) → ws ≢ name_of v ∷ more
  StopsEdit ws fault =
      (v : Verb) × (more : List Text) × (ws ≡ name_of v ∷ more) × StopsOperands v more fault

  -- so it is for the words after those of other edits, which are counted
  abbrev pub StopsEdits : List Text → WordsFault → Type 0
  StopsEdits ws r =
      (es : List Edit) × (front : List Text) × (rest : List Text) × (ws ≡ front ++ rest)
      × SaysEdits version front es × (r.number ≡ length es + 1) × StopsEdit rest r.fault
